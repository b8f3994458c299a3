use Rattle.dsa_explore.proofs.ending_rows.ends_of_a_still_script.Goals as goal
use Rattle.dsa_parties.specs.declared.places.Move.TheVariants as move
use Rattle.std.proofs.Common.{◌≡◌, ◌∙◌, ℕ, zero, suc, sym, [], ◌∷◌, None, Some, arith, refl, inl, ap, subst, List, length, ⊎_elim}
use Rattle.std.specs.Prelude.{Option, option_and_then, slice_get, unwrap_or}
use Rattle.std.specs.declared.alloc.Global.{Global}
use Rattle.dsa_book.specs.declared.answer.Reply.{Reply}
use Rattle.dsa_keys.specs.Parties.{World, Made, world_after, world_after_all}
use Rattle.dsa_parties.specs.{declared.places.Move.{Move}, Standing.{Standing}, Offers.{parties_of}}
use Rattle.dsa_explore.specs.{Ends.{IsLastWorld, CanEnd, IsEndingOf}}
use Rattle.dsa_explore.specs.WorkedEnds.{ending_through, nowhere, standing_world, still_script}

-- nobody moves
none-moves : {X : Type 0} (memory : Global) (w' : World Standing) (m : Move) (reply : Reply)
    → world_after (parties_of (still_script memory)) (standing_world nowhere) m reply ≡ Some w' → X
none-moves memory w' (move.Client c) reply step = let none : None ≡ Some w' = step in absurd cc
none-moves memory w' (move.Administrator a) reply step = let none : None ≡ Some w' = step in absurd cc
none-moves memory w' (move.Dispatch e) reply step = let none : None ≡ Some w' = step in absurd cc
none-moves memory w' (move.Fetch e) reply step = let none : None ≡ Some w' = step in absurd cc
none-moves memory w' (move.Start e) reply step = let none : None ≡ Some w' = step in absurd cc
none-moves memory w' (move.Finish e label outcome) reply step = let none : None ≡ Some w' = step in absurd cc

-- so the first world is the only one
first-alone : (memory : Global) (moves : List (Made Move)) (w : World Standing)
    → world_after_all (parties_of (still_script memory)) (standing_world nowhere) moves ≡ Some w
    → (moves ≡ []) × (standing_world nowhere ≡ w)
first-alone memory [] w walk = (refl, ap (λ z. unwrap_or z (standing_world nowhere)) walk)
first-alone memory (m ∷ ms) w walk =
    go (world_after (parties_of (still_script memory)) (standing_world nowhere) m.move m.reply) refl walk
  where
    go : (o : Option (World Standing))
        → world_after (parties_of (still_script memory)) (standing_world nowhere) m.move m.reply ≡ o
        → option_and_then (λ v. world_after_all (parties_of (still_script memory)) v ms) o ≡ Some w
        → (m ∷ ms ≡ []) × (standing_world nowhere ≡ w)
    go None e walk = absurd cc
    go (Some v) e walk = none-moves memory v m.move m.reply e

is-end : (memory : Global) → IsLastWorld (parties_of (still_script memory)) (standing_world nowhere)
is-end memory = λ w' m reply step. none-moves memory w' m reply step

can-end : (memory : Global) → CanEnd (still_script memory) (standing_world nowhere) (ending_through memory 0)
can-end memory = record {
  world = standing_world nowhere;
  reached = record { moves = []; leads = refl; count = refl };
  end = is-end memory;
  is = record { left = refl; holds = refl };
}

one-place : {X : Type 0} (x : X) (i : ℕ) (y : X) → slice_get (x ∷ []) i ≡ Some y → i ≡ 0
one-place x zero y h = refl
one-place x (suc i) y h = absurd cc

pub returns-clause-at_once : goal.returns-clause-at_once
returns-clause-at_once c = λ memory. record {
  once = λ i j e o at here alike. one-place (ending_through memory 0) i e at
      ∙ sym (one-place (ending_through memory 0) j o here);
  sound = λ e i. ⊎_elim
      (λ (s : ending_through memory 0 ≡ e). subst (CanEnd (still_script memory) (standing_world nowhere)) s
      (can-end memory)) (λ j. absurd j) i;
  complete = λ steps w reached end.
      let alone = first-alone memory reached.moves w reached.leads in
      record {
        ending = ending_through memory 0;
        within = inl refl;
        is = subst (IsEndingOf (still_script memory) (ending_through memory 0)) alone.1
            (record { left = refl; holds = refl });
        soon = omega arith;
      };
}

pub returns-clause-never : goal.returns-clause-never
returns-clause-never c = λ memory are.
    absurd (are.complete 0 (standing_world nowhere) (record { moves = []; leads = refl; count = refl })
    (is-end memory)).within

pub returns-clause-late : goal.returns-clause-late
returns-clause-late c = λ memory are.
    let can = are.sound (ending_through memory 1) (inl refl) in
    let alone = first-alone memory can.reached.moves can.world can.reached.leads in
    absurd (omega (arith, can.reached.count, ap (λ (l : List (Made Move)). length l) alone.0))

pub returns-clause-twice : goal.returns-clause-twice
returns-clause-twice c = λ memory are.
    let through = ending_through memory 0 in
    let clash : 0 ≡ 1 = are.once 0 1 through through refl refl (record { left = refl; holds = refl }) in
    absurd (omega (arith, clash))
