-- The search by hand is one: the definitions can be met.
use Rattle.std.proofs.Common.{◌≡◌, ◌∙◌, ℕ, ◌==◌, ◌&&◌, Bool, true, false, cond, List, []}
use Rattle.std.proofs.Common.{Option, Some, None, refl, sym, ap, subst, inl, inr, arith, eq-eqb}
use Rattle.std.{specs.Prelude.{option_map, option_and_then, unwrap_or}, proofs.lemmas.Bool.{eqb-true}}
use Rattle.dsa_base.specs.Lists.{In}
use Rattle.dsa_regs.specs.declared.Caps.{Caps}
use Rattle.dsa_book.specs.declared.event.Step.{Step}
use Rattle.dsa_book.specs.{declared.answer.Reply.{Reply}, State.{State}, Machine.{replay}}
use Rattle.dsa_book.specs.{Choice.{from_queue, choice_of}, Machine.{may_choose}}
use Rattle.dsa_book.proofs.Nexts.{next-is}
use Rattle.dsa_keys.specs.Steps.{next_by_label}
use Rattle.dsa_keys.specs.Parties.{Offer, World, Stored, offer_at, world_after_offer, world_with, labels_for}
use Rattle.dsa_keys.specs.Parties.{world_after}
use Rattle.dsa_keys.specs.Parties.{AreLawful, IsGoodWorld, IsInTable, IsSearchedTable, IsStored, WasTried}
use Rattle.dsa_keys.proofs.{Parties.{worlds-answer, closed-tells-all, searched-closed}, Labelled.{histories-labelled}}
use Rattle.dsa_keys_rows.specs.Parties.{the_offer, one_client, unnamed_before, world_before, world_behind, two_worlds}

-- an offer is made at place 0 alone
at-first : (w : World ℕ) (move : ℕ) (o : Offer) → offer_at one_client w move ≡ Some o → w.places ≡ 0
at-first w move o e = go (w.places == 0) refl e
  where
    go : (b : Bool) → (w.places == 0) ≡ b → cond (b && move == 0) (Some the_offer) None ≡ Some o → w.places ≡ 0
    go true t e = eqb-true w.places 0 t
    go false t e = absurd cc

pub lawful : (caps : Caps) → AreLawful caps one_client unnamed_before
lawful caps = record {
  fresh = λ w move o named good e a l is.
      let first = at-first w move o e in
      let next = subst (λ (b : Bool). cond b (w.state.work.setup.next_name == 0) true ≡ true)
      (ap (λ p. p == 0) first) good in
      absurd (omega (arith, eqb-true w.state.work.setup.next_name 0 next, l));
  kept = λ w w' move reply named good e. kept w w' move reply (offer_at one_client w move) e;
}
  where
    by-state : (w w' : World ℕ) (move : ℕ) (reply : Reply) (o : Offer) (p : Option State)
        → option_map (world_with one_client w move reply o) p ≡ Some w' → unnamed_before w' ≡ true
    by-state w w' move reply o None e = absurd cc
    by-state w w' move reply o (Some s) e =
        let is : world_with one_client w move reply o s ≡ w' =
        ap (λ z. unwrap_or z (world_with one_client w move reply o s)) e in
        subst (λ z. unnamed_before z ≡ true) is refl

    kept : (w w' : World ℕ) (move : ℕ) (reply : Reply) (p : Option Offer)
        → option_and_then (world_after_offer one_client w move reply) p ≡ Some w' → unnamed_before w' ≡ true
    kept w w' move reply None e = absurd cc
    kept w w' move reply (Some o) e =
        by-state w w' move reply o (next_by_label (labels_for w o) w.state o.event reply) e

module _ (caps : Caps) (history : List Step) (s s' : State) (reply : Reply) (from : replay caps history ≡ Some s)
    (none : s.work.setup.next_name ≡ 0)
    (step : next_by_label (labels_for (world_before s) the_offer) s the_offer.event reply ≡ Some s') where
  before : IsGoodWorld caps unnamed_before (world_before s)
  before = record {
    is_labelled = histories-labelled caps (λ name. 0) history s from (λ a b la lb e. absurd (omega (arith, none, la)));
    is_good = eq-eqb s.work.setup.next_name 0 none;
  }

  came : world_after one_client (world_before s) 0 reply ≡ Some (world_behind s reply s')
  came = ap (option_map (world_with one_client (world_before s) 0 reply the_offer)) step

  behind : IsGoodWorld caps unnamed_before (world_behind s reply s')
  behind = (worlds-answer caps one_client unnamed_before (lawful caps) (world_before s) (world_behind s reply s')
      (world_before s)
      0 reply before before (record { places = refl; keys = refl }) came).left

  -- a submission takes no entry from a queue
  no-queue : (p : ℕ) → choice_of reply ≡ from_queue p → ⊥
  no-queue p e =
      let may = (next-is s s' the_offer.event reply step).0 in
      let no : false ≡ true = ap (may_choose s the_offer.event) (sym e) ∙ may in
      absurd cc

  first-tried : (move : ℕ) (other : Reply) (w' : World ℕ)
      → world_after one_client (world_before s) move other ≡ Some w'
      → WasTried one_client (two_worlds s reply s') (record { level = 0; world = world_before s }) move other
  first-tried move other w' e = go (move == 0) refl e
    where
      found : WasTried one_client (two_worlds s reply s') (record { level = 0; world = world_before s }) 0 other
      found = record {
        reply' = reply;
        world' = world_behind s reply s';
        leads = came;
        queues = λ q p e e'. absurd (no-queue p e');
        stored = record {
          at = record { level = 1; world = world_behind s reply s' };
          within = inr (inl refl);
          soon = omega arith;
          keys = record { places = refl; keys = refl };
        };
      }

      go : (b : Bool) → (move == 0) ≡ b
          → option_and_then (world_after_offer one_client (world_before s) move other)
          (cond b (Some the_offer) None) ≡ Some w'
          → WasTried one_client (two_worlds s reply s') (record { level = 0; world = world_before s }) move other
      go true t e = subst
          (λ (k : ℕ). WasTried one_client (two_worlds s reply s') (record { level = 0; world = world_before s }) k
          other)
          (sym (eqb-true move 0 t)) found
      go false t e = absurd cc

  worlds : (x : Stored ℕ) → In x (two_worlds s reply s') → IsGoodWorld caps unnamed_before x.world
  worlds x (inl e) = subst (λ (z : Stored ℕ). IsGoodWorld caps unnamed_before z.world) e before
  worlds x (inr (inl e)) = subst (λ (z : Stored ℕ). IsGoodWorld caps unnamed_before z.world) e behind
  worlds x (inr (inr i)) = absurd i

  tried : (x : Stored ℕ) (w' : World ℕ) (move : ℕ) (other : Reply) → In x (two_worlds s reply s')
      → world_after one_client x.world move other ≡ Some w'
      → WasTried one_client (two_worlds s reply s') x move other
  tried x w' move other (inl e) q = subst
      (λ (z : Stored ℕ). WasTried one_client (two_worlds s reply s') z move other) e
      (first-tried move other w'
      (subst (λ (z : Stored ℕ). world_after one_client z.world move other ≡ Some w') (sym e) q))
  tried x w' move other (inr (inl e)) q =
      let none : None ≡ Some w' =
      subst (λ (z : Stored ℕ). world_after one_client z.world move other ≡ Some w') (sym e) q in
      absurd cc
  tried x w' move other (inr (inr i)) q = absurd i

  pub searched : IsSearchedTable caps one_client unnamed_before (two_worlds s reply s')
  searched = record { worlds = worlds; tried = tried }

  -- what the client is answered is in the table
  pub in_table : (other : Reply) (w' : World ℕ) → world_after one_client (world_before s) 0 other ≡ Some w'
      → IsInTable caps one_client unnamed_before (two_worlds s reply s') 0 (world_before s) w' 0 other
  in_table other w' e =
      let table = two_worlds s reply s' in
      let closed = searched-closed caps one_client unnamed_before (lawful caps) table searched in
      let first : IsStored table 0 (world_before s) = record {
        at = record { level = 0; world = world_before s };
        within = inl refl;
        soon = omega arith;
        keys = record { places = refl; keys = refl };
      } in
      closed-tells-all caps one_client unnamed_before (lawful caps) table closed (world_before s) before first []
      (world_before s) w' 0 other refl e
