use Rattle.dsa_statement_rows.proofs.searches.ways_to_worlds.Goals as goal
use Rattle.std.proofs.Common.{◌≡◌, ◌∙◌, ℕ, zero, suc, ◌∷◌, [], Some, true, refl, sym, ap, arith}
use Rattle.std.specs.Prelude.{slice_get}
use Rattle.std.proofs.lemmas.Option.{same_Some}
use Rattle.dsa_keys.specs.Parties.{World, Stored}
use Rattle.dsa_explore.specs.declared.stored.{Node.{Node}, Try.{Try}}
use Rattle.dsa_explore.specs.Ways.{AreTold}
use Rattle.dsa_statement_rows.specs.Searches.{still_space, stored_at, node_from}

-- the only world is of level 0
at-zero : (w : World ℕ) (i : ℕ) (x : Stored ℕ) → slice_get (stored_at 0 w ∷ []) i ≡ Some x → x.level ≡ 0
at-zero w zero x here = ap (λ (z : Stored ℕ). z.level) (sym (same_Some (stored_at 0 w) x here))
at-zero w (suc i) x here = absurd cc

-- and so is the only node
node-zero : (tried : Try) (i : ℕ) (node : Node) → slice_get (node_from 0 tried 0 ∷ []) i ≡ Some node → node.level ≡ 0
node-zero tried zero node at = ap (λ (n : Node). n.level) (sym (same_Some (node_from 0 tried 0) node at))
node-zero tried (suc i) node at = absurd cc

each : (w : World ℕ) (tried : Try) (i : ℕ) (x : Stored ℕ) → slice_get (stored_at 0 w ∷ []) i ≡ Some x
    → (node : Node) × (slice_get (node_from 0 tried 0 ∷ []) i ≡ Some node)
each w tried zero x here = (node_from 0 tried 0, refl)
each w tried (suc i) x here = absurd cc

begin : (w : World ℕ) (i : ℕ) (x : Stored ℕ) → slice_get (stored_at 0 w ∷ []) i ≡ Some x → w ≡ x.world
begin w zero x here = ap (λ (z : Stored ℕ). z.world) (same_Some (stored_at 0 w) x here)
begin w (suc i) x here = absurd cc

told : (w : World ℕ) (tried : Try)
    → AreTold (still_space true) (node_from 0 tried 0 ∷ []) (stored_at 0 w ∷ [])
told w tried i node x at here up = absurd (omega (arith, up, at-zero w i x here))

pub returns-clause-first : goal.returns-clause-first
returns-clause-first c w tried = record {
  levels = λ i node x at here. node-zero tried i node at ∙ sym (at-zero w i x here);
  each = λ i x here. each w tried i x here;
  begin = λ i x here level. begin w i x here;
  told = told w tried;
}

pub returns-clause-other_level : goal.returns-clause-other_level
returns-clause-other_level c w tried tells =
    let clash : 1 ≡ 0 = tells.levels 0 (node_from 0 tried 1) (stored_at 0 w) refl refl in
    absurd (omega (arith, clash))

pub returns-clause-nothing_told : goal.returns-clause-nothing_told
returns-clause-nothing_told c w tried = told w tried

pub returns-clause-from_itself : goal.returns-clause-from_itself
returns-clause-from_itself c x tried table is = absurd (omega (arith, is.before))
