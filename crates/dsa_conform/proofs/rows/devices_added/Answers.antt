use Rattle.dsa_conform.proofs.rows.devices_added.Goals as goal
use Rattle.dsa_book.specs.declared.event.Event.TheVariants as event
use Rattle.std.proofs.Common.{◌≡◌, ◌∙◌, ◌⊎◌, ◌<◌, ℕ, true, false, List, [], ◌∷◌, Ok, ap, arith, bytes_eq, codes, inl}
use Rattle.std.proofs.Common.{inr, length}
use Rattle.std.proofs.Common.{lit<, lit≤, map, refl, sym, subst}
use Rattle.std.specs.{Prelude.{Contains, take}, Fmt.{digits}}
use Rattle.std.proofs.lemmas.List.Elements.{All-nil, All-cons}
use Rattle.dsa_base.specs.Lists.{In}
use Rattle.dsa_scenario.{specs.{declared.{actions.Action.{Action}, run.Record.{Record}}, Lines.{record_text}}}
use Rattle.dsa_scenario.{proofs.Walks.{opened}}
use Rattle.dsa_scenario.specs.Worked.{smallest_caps}
use Rattle.dsa_conform.specs.{declared.way.Way.{Way}, Allowed.{IsAllowed, AreAllowed, queue_taken}}
use Rattle.dsa_conform.specs.{Run.{AreRead, IsFollowedTo}}
use Rattle.dsa_conform.specs.{Seen.{Seen}, Ways.{IsAmong, IsWayBy}}
use Rattle.dsa_conform.specs.Worked.{answered, smallest_device_at_first, way_at_first}
use Rattle.dsa_conform.proofs.{Objects.{not_first}, RowRuns.{nothing, is_nothing, only_nothing, smallest_replay}}
use Rattle.dsa_conform.proofs.RowTakes.{none_allowed}
use Rattle.dsa_conform.proofs.RowWays.{to_one, to_two, itself, not_one, not_alike, not_in_other, other_capacity}
use Rattle.dsa_conform.proofs.RowWays.{poll_covered, none_active}

pub returns-clause-added : goal.returns-clause-added
returns-clause-added c t = record {
  each = to_two (λ way. In way (way_at_first 8 t ∷ []) ⊎ (way_at_first 9 t ≡ way)) (way_at_first 8 t) (way_at_first 9 t)
      (inl (inl refl)) (inr refl);
  all = to_one (λ way. In way (way_at_first 8 t ∷ way_at_first 9 t ∷ [])) (way_at_first 8 t) (inl refl);
  here = (way_at_first 9 t, inr (inl refl), itself smallest_device_at_first);
  once = λ among. absurd (not_alike t among);
}

pub returns-clause-another : goal.returns-clause-another
returns-clause-another c t is = another (is.each (way_at_first 8 t) (inl refl))
  where
    another : In (way_at_first 8 t) [] ⊎ (way_at_first 9 t ≡ way_at_first 8 t) → ⊥
    another (inl none) = none
    another (inr same) = other_capacity t (sym same)

pub returns-clause-lost : goal.returns-clause-lost
returns-clause-lost c t is = not_in_other t (is.all (way_at_first 8 t) (inl refl))

pub returns-clause-not_added : goal.returns-clause-not_added
returns-clause-not_added c t is = not_alike t is.here

pub returns-clause-not_there : goal.returns-clause-not_there
returns-clause-not_there c t is = is.here.1

pub returns-clause-twice : goal.returns-clause-twice
returns-clause-twice c t is =
    omega (arith, ap length (is.once (way_at_first 9 t, inl refl, itself smallest_device_at_first)))

pub returns-clause-at_first : goal.returns-clause-at_first
returns-clause-at_first c t is = record { follows = follows; queues = refl }
  where
    follows : (observed : List (Action × Seen)) → AreRead [] observed
        → IsFollowedTo smallest_caps 9 (take 0 observed) 0 smallest_device_at_first t.items
    follows [] read =
        opened _ smallest_caps 9 smallest_device_at_first t.items []
        (record { device = refl; replay = smallest_replay 9 (lit≤ tt); none = is }) tt
    follows (o ∷ os) read = absurd cc

pub returns-clause-unread : goal.returns-clause-unread
returns-clause-unread c t = record {
  follows = λ observed read. absurd (not_first [] observed read);
  queues = refl;
}

pub returns-clause-other_count : goal.returns-clause-other_count
returns-clause-other_count c t is = not_one (way_at_first 9 t) (is.follows [] refl)

pub returns-clause-other_queues : goal.returns-clause-other_queues
returns-clause-other_queues c t is = omega (arith, ap length is.queues)

pub returns-clause-taken : goal.returns-clause-taken
returns-clause-taken c steps a b by = record {
  each = to_two
      (λ other. In other (a ∷ []) ⊎ ((queue : ℕ) × IsWayBy smallest_caps 9 steps 2 (0 ∷ queue ∷ []) other)) a b
      (inl (inl refl)) (inr (2, by));
  all = to_one (λ other. In other (a ∷ b ∷ [])) a (inl refl);
  here = to_one
      (λ queue. (way : Way) × IsWayBy smallest_caps 9 steps 2 (0 ∷ queue ∷ []) way × IsAmong way.device (a ∷ b ∷ [])) 2
      (b, by, (b, inr (inl refl), itself b.device));
}

pub returns-clause-none_by_it : goal.returns-clause-none_by_it
returns-clause-none_by_it c a are =
    let by = are.here 0 (inl refl) in
    not_one by.0 (by.1.follows [] refl)

pub returns-clause-none_among : goal.returns-clause-none_among
returns-clause-none_among c are = (are.here 0 (inl refl)).2.1

pub returns-clause-others : goal.returns-clause-others
returns-clause-others c a are = other (are.each a (inl refl))
  where
    other : In a [] ⊎ ((queue : ℕ) × IsWayBy smallest_caps 9 [] 1 (queue ∷ []) a) → ⊥
    other (inl none) = none
    other (inr by) = not_one a (by.1.follows [] refl)

pub returns-clause-all_lost : goal.returns-clause-all_lost
returns-clause-all_lost c a are = are.all a (inl refl)

pub returns-clause-on : goal.returns-clause-on
returns-clause-on c t =
    (poll_covered (answered (codes "nothing")) t (way_at_first 9 t ∷ []) (inl refl), (nothing, is_nothing))

pub returns-clause-not_on : goal.returns-clause-not_on
returns-clause-not_on c t on = not_alike t (on.0 nothing _ refl refl refl)

pub returns-clause-not_asked_for : goal.returns-clause-not_asked_for
returns-clause-not_asked_for c a told = tt

pub returns-clause-not_followed : goal.returns-clause-not_followed
returns-clause-not_followed c a follows = not_one a follows

-- nothing else may be answered
all_nothing : AreAllowed smallest_device_at_first (Ok event.Poll) (nothing ∷ [])
unfolding digits
all_nothing =
    let P : Record → Type 0 = IsAllowed smallest_device_at_first (Ok event.Poll) in
    record {
      each = All-cons P nothing [] is_nothing (All-nil P);
      all = λ entry is. subst (λ r. Contains (codes "nothing" ∷ []) (record_text r)) (only_nothing entry is)
          (0, lit< tt, refl);
      order = (All-nil (λ entry. 0 < queue_taken entry), tt);
    }

pub returns-clause-told : goal.returns-clause-told
unfolding digits
returns-clause-told c why fact allowed reason against is = record {
  why = reason;
  against = against;
  all = subst (λ l. AreAllowed smallest_device_at_first (Ok event.Poll) l) (sym is) all_nothing;
  some = nothing;
  is_some = is_nothing;
  none = none_active;
}

pub returns-clause-other_reason : goal.returns-clause-other_reason
unfolding digits
returns-clause-other_reason c why allowed reason told =
    let none : true ≡ false = ap (bytes_eq (codes ": q1 is empty")) (sym reason ∙ told.why) in
    absurd cc

pub returns-clause-other_fact : goal.returns-clause-other_fact
unfolding digits
returns-clause-other_fact c why fact allowed against told =
    let none : true ≡ false = ap (bytes_eq (codes "q1 is empty")) (sym against ∙ told.against) in
    absurd cc

pub returns-clause-nothing_told : goal.returns-clause-nothing_told
returns-clause-nothing_told c why allowed is told =
    let among = subst (λ l. Contains (map record_text l) (record_text nothing)) is (told.all.all nothing is_nothing) in
    absurd (omega (arith, among.1))

pub returns-clause-was_seen : goal.returns-clause-was_seen
unfolding digits
returns-clause-was_seen c why allowed told =
    let shown = told.none nothing is_nothing in
    absurd cc

pub returns-clause-none_allowed : goal.returns-clause-none_allowed
returns-clause-none_allowed c a on = none_allowed on.1.0 on.1.1

pub returns-clause-nothing_to_tell : goal.returns-clause-nothing_to_tell
returns-clause-nothing_to_tell c told is = none_allowed is.some is.is_some
