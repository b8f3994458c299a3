use Rattle.dsa_conform.proofs.rows.lines_in_order.Goals as goal
use Rattle.std.proofs.Common.{◌≡◌, ◌≢◌, ◌≤◌, ◌⊎◌, ℕ, List, [], ◌∷◌, ap, arith, codes, inl, inr, lit≤, refl, subst}
use Rattle.std.specs.{Prelude.{Option, Some, String, unwrap_or}, declared.alloc.Global.{Global}}
use Rattle.dsa_base.specs.Lists.{In}
use Rattle.dsa_scenario.specs.declared.run.Record.{Record}
use Rattle.dsa_conform.specs.{Allowed.{queue_taken}, declared.told.Line.{Line}}
use Rattle.dsa_conform.specs.Worked.{from_first, from_second, line_of}

-- what a line has
abbrev Told : Type 0
Told = Record × List ℕ

-- so related to the one later line, or to both
to_one : (R : Told → Type 0) (x : Told) → R x → (later : Told) → In later (x ∷ []) → R later
to_one R x holds later (inl is) = subst R is holds
to_one R x holds later (inr none) = absurd none

to_two : (R : Told → Type 0) (x y : Told) → R x → R y → (later : Told) → In later (x ∷ y ∷ []) → R later
to_two R x y first second later (inl is) = subst R is first
to_two R x y first second later (inr (inl is)) = subst R is second
to_two R x y first second later (inr (inr none)) = absurd none

pub returns-clause-listed : goal.returns-clause-listed
returns-clause-listed c = record {
  order = (
    to_two (λ later. 0 ≤ queue_taken later.0) (from_first, codes "c") (from_second, codes "a")
        (lit≤ tt) (lit≤ tt),
    (
      to_one (λ later. 0 ≤ queue_taken later.0) (from_second, codes "a") (lit≤ tt),
      ((λ later none. absurd none), tt),
    ),
  );
  once = (
    to_two (λ later. codes "b" ≢ later.1) (from_first, codes "c") (from_second, codes "a")
        (λ same. grind (arith, same)) (λ same. grind (arith, same)),
    (
      to_one (λ later. codes "c" ≢ later.1) (from_second, codes "a") (λ same. grind (arith, same)),
      ((λ later none. absurd none), tt),
    ),
  );
}

pub returns-clause-wrong_order : goal.returns-clause-wrong_order
returns-clause-wrong_order c are = omega (arith, are.order.0 _ (inl refl))

pub returns-clause-last_order : goal.returns-clause-last_order
returns-clause-last_order c are = omega (arith, are.order.1.0 _ (inl refl))

pub returns-clause-twice : goal.returns-clause-twice
returns-clause-twice c are = are.once.0 _ (inl refl) refl

pub returns-clause-place : goal.returns-clause-place
returns-clause-place c text = record { inside = lit≤ tt; before = before; here = here }
  where
    before : (line : Line) → In line (line_of from_first text ∷ []) → queue_taken line.entry ≤ 0
    before line (inl is) = subst (λ (other : Line). queue_taken other.entry ≤ 0) is (lit≤ tt)
    before line (inr none) = absurd none

    here : (line : Line) → Some (line_of from_second text) ≡ Some line → 1 ≤ queue_taken line.entry
    here line is = subst (λ (other : Line). 1 ≤ queue_taken other.entry)
        (ap (λ (o : Option Line). unwrap_or o (line_of from_second text)) is) (lit≤ tt)

pub returns-clause-end : goal.returns-clause-end
returns-clause-end c text = record {
  inside = lit≤ tt;
  before = before;
  here = λ line is. absurd (grind (arith, is));
}
  where
    before : (line : Line) → In line (line_of from_second text ∷ []) → queue_taken line.entry ≤ 2
    before line (inl is) = subst (λ (other : Line). queue_taken other.entry ≤ 2) is (lit≤ tt)
    before line (inr none) = absurd none

pub returns-clause-beyond : goal.returns-clause-beyond
returns-clause-beyond c text is = omega (arith, is.inside)

pub returns-clause-too_late : goal.returns-clause-too_late
returns-clause-too_late c text is = omega (arith, is.before _ (inl refl))

pub returns-clause-too_early : goal.returns-clause-too_early
returns-clause-too_early c text is = omega (arith, is.here _ refl)

pub returns-clause-placed : goal.returns-clause-placed
returns-clause-placed c text = record {
  each = each;
  all = λ other none. absurd none;
  here = (line_of from_first text, inl refl, refl);
  listed = λ none. record {
    order = ((λ later none. absurd none), tt);
    once = ((λ later none. absurd none), tt);
  };
}
  where
    each : (other : Line) → In other (line_of from_first text ∷ []) → In other [] ⊎ (line_of from_first text ≡ other)
    each other (inl is) = inr is
    each other (inr none) = absurd none

-- the two lines are of two queues
not_same : (one other : String Global) → line_of from_second one ≡ line_of from_first other → ⊥
not_same one other same = omega (arith, ap (λ (line : Line). queue_taken line.entry) same)

pub returns-clause-lost : goal.returns-clause-lost
returns-clause-lost c text is = lost (is.all (line_of from_first text) (inl refl))
  where
    lost : In (line_of from_first text) (line_of from_second text ∷ []) → ⊥
    lost (inl same) = not_same text text same
    lost (inr none) = none

pub returns-clause-another : goal.returns-clause-another
returns-clause-another c one other first second is = neither (is.each (line_of from_first one) (inl refl))
  where
    neither : In (line_of from_first one) [] ⊎ (line_of from_second other ≡ line_of from_first one) → ⊥
    neither (inl none) = none
    neither (inr same) = not_same other one same

pub returns-clause-not_listed : goal.returns-clause-not_listed
returns-clause-not_listed c one other is =
    let listed = is.listed (record {
      order = ((λ later none. absurd none), tt);
      once = ((λ later none. absurd none), tt);
    }) in
    omega (arith, listed.order.0 _ (inl refl))

pub returns-clause-not_there : goal.returns-clause-not_there
returns-clause-not_there c text is = is.here.1
