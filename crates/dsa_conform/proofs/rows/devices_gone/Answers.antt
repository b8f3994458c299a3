use Rattle.dsa_conform.proofs.rows.devices_gone.Goals as goal
use Rattle.dsa_book.specs.declared.event.Event.TheVariants as event
use Rattle.std.proofs.Common.{◌≡◌, ◌∙◌, ◌⊎◌, true, false, [], ◌∷◌, Ok, refl, ap, sym, arith, bytes_eq, codes, inl, inr}
use Rattle.std.specs.{Prelude.{String, string_bytes}, declared.{alloc.Global.{Global}, vec.Vec.{Vec}}, Fmt.{digits}}
use Rattle.dsa_base.specs.Lists.{In}
use Rattle.dsa_scenario.specs.Worked.{no_command}
use Rattle.dsa_scenario.specs.{declared.actions.Action.{Action, TheVariants.{Ask, Refuse}}, Worked.{smallest_caps}}
use Rattle.dsa_scenario.specs.{declared.run.Record.{Record}, Run.{event_of}}
use Rattle.dsa_conform.specs.{declared.{told.Told.{Told}, way.Way.{Way}}, Run.{IsFollowedTo}, Seen.{Seen}}
use Rattle.dsa_conform.specs.Ways.{HasOne, IsOneGone, IsTold}
use Rattle.dsa_conform.specs.Worked.{answered, smallest_device_at_first, told_allowing, way_at_first}
use Rattle.dsa_conform.specs.Seen.{nothing_seen}
use Rattle.dsa_conform.proofs.{Objects.{not_first}, RowRuns.{nothing, is_nothing}, RowTakes.{none_allowed}}
use Rattle.dsa_conform.proofs.RowWays.{to_one, to_two, not_one, not_two, not_alike, not_in_other, poll_covered}
use Rattle.dsa_conform.proofs.RowWays.{none_covered}

abbrev rejected : Action × Seen
rejected = (Refuse no_command, nothing_seen)

abbrev polled : Action × Seen
polled = (Ask event.Poll, answered (codes "nothing"))

abbrev differs : Told → Type 0
differs told = IsTold smallest_device_at_first (Ok event.Poll) (answered (codes "active")) told

pub returns-clause-on : goal.returns-clause-on
returns-clause-on c t a told h = record {
  each = to_two
      (λ (other : Way). In other (a ∷ [])
      ⊎ IsFollowedTo smallest_caps 9 (rejected ∷ polled ∷ []) 2 other.device other.tickets.items) a (way_at_first 9 t)
      (inl (inl refl)) (inr h);
  all = to_one (λ other. In other (a ∷ way_at_first 9 t ∷ [])) a (inl refl);
  tolds = λ other among. inl among;
  kept = λ other among. among;
  covers = poll_covered (answered (codes "nothing")) t (a ∷ way_at_first 9 t ∷ []) (inr (inl refl));
  may = (nothing, is_nothing);
  some = inl (a, inl refl);
}

pub returns-clause-told : goal.returns-clause-told
returns-clause-told c one other is = record {
  each = λ way none. absurd none;
  all = λ way none. absurd none;
  tolds = to_two (λ told. In told (one ∷ []) ⊎ differs told) one other (inl (inl refl)) (inr is);
  kept = to_one (λ told. In told (one ∷ other ∷ [])) one (inl refl);
  covers = none_covered [];
  may = (nothing, is_nothing);
  some = inr (other, inr (inl refl), is);
}

pub returns-clause-others : goal.returns-clause-others
returns-clause-others c a is = other (is.each a (inl refl))
  where
    other : In a []
        ⊎ IsFollowedTo smallest_caps 9 ((Ask event.Poll, nothing_seen) ∷ []) 2 a.device a.tickets.items → ⊥
    other (inl none) = none
    other (inr h) = not_two (Ask event.Poll, nothing_seen) a h

pub returns-clause-lost : goal.returns-clause-lost
returns-clause-lost c t is = not_in_other t (is.all (way_at_first 8 t) (inl refl))

-- nothing is told where what was seen is shown
told_of_shown : (told : Told) → IsTold smallest_device_at_first (Ok event.Poll) nothing_seen told → ⊥
told_of_shown told tells =
    let shown = tells.none nothing is_nothing in
    absurd cc

pub returns-clause-not_told : goal.returns-clause-not_told
returns-clause-not_told c t told is = other (is.tolds told (inl refl))
  where
    other : In told [] ⊎ IsTold smallest_device_at_first (Ok event.Poll) nothing_seen told → ⊥
    other (inl none) = none
    other (inr tells) = told_of_shown told tells

pub returns-clause-forgotten : goal.returns-clause-forgotten
returns-clause-forgotten c t told is = is.kept told (inl refl)

pub returns-clause-none_allowed : goal.returns-clause-none_allowed
returns-clause-none_allowed c a is = none_allowed is.may.0 is.may.1

-- the reason is another device's
another_told : (why : String Global) (allowed : Vec Record Global) → string_bytes why ≡ codes ": q1 is empty"
    → HasOne [] ⊎ ((told : Told) × In told (told_allowing why allowed ∷ []) × differs told) → ⊥
unfolding digits
another_told why allowed reason (inl one) = one.1
another_told why allowed reason (inr told) =
    to_one (λ told. differs told → ⊥) (told_allowing why allowed)
    (λ tells.
    let none : true ≡ false = ap (bytes_eq (codes ": q1 is empty")) (sym reason ∙ tells.why) in
    absurd cc)
    told.0 told.1 told.2

pub returns-clause-told_of_another : goal.returns-clause-told_of_another
returns-clause-told_of_another c why allowed reason is = another_told why allowed reason is.some

pub returns-clause-uncovered : goal.returns-clause-uncovered
returns-clause-uncovered c t is = not_alike t (is.covers nothing _ refl refl refl)

-- neither is there a device, nor is anything told
neither : HasOne [] ⊎ ((told : Told) × In told [] × differs told) → ⊥
neither (inl one) = one.1
neither (inr told) = told.1

pub returns-clause-neither : goal.returns-clause-neither
returns-clause-neither c is = neither is.some

pub returns-clause-unread : goal.returns-clause-unread
returns-clause-unread c way observed read h = absurd (not_first [] observed read.read)

pub returns-clause-one_on : goal.returns-clause-one_on
returns-clause-one_on c t = record {
  covers = poll_covered (answered (codes "nothing")) t (way_at_first 9 t ∷ []) (inl refl);
  may = (nothing, is_nothing);
  some = inl (way_at_first 9 t, inl refl);
}

-- the device told of it
tells : (told : Told) → differs told → IsOneGone smallest_device_at_first (Ok event.Poll) (answered (codes "active")) []
    (told ∷ [])
tells told is = record {
  covers = none_covered [];
  may = (nothing, is_nothing);
  some = inr (told, inl refl, is);
}

pub returns-clause-one_told : goal.returns-clause-one_told
returns-clause-one_told c told is = tells told is

pub returns-clause-one_uncovered : goal.returns-clause-one_uncovered
returns-clause-one_uncovered c t is = not_alike t (is.covers nothing _ refl refl refl)

pub returns-clause-one_none_allowed : goal.returns-clause-one_none_allowed
returns-clause-one_none_allowed c a is = none_allowed is.may.0 is.may.1

pub returns-clause-one_told_of_another : goal.returns-clause-one_told_of_another
returns-clause-one_told_of_another c why allowed reason is = another_told why allowed reason is.some

pub returns-clause-one_neither : goal.returns-clause-one_neither
returns-clause-one_neither c is = neither is.some

pub returns-clause-all_on : goal.returns-clause-all_on
returns-clause-all_on c t before h = record {
  each = to_one
      (λ (way : Way). IsFollowedTo smallest_caps 9 (rejected ∷ polled ∷ []) 2 way.device way.tickets.items)
      (way_at_first 9 t) h;
  told = λ told none. absurd none;
  all = to_one
      (λ (way : Way). (k : IsFollowedTo smallest_caps 9 (rejected ∷ []) 1 way.device way.tickets.items)
      × IsOneGone way.device (event_of k.records (Ask event.Poll)) (answered (codes "nothing"))
      (way_at_first 9 t ∷ []) []) (way_at_first 9 t) (
        before,
        (record {
          covers = poll_covered (answered (codes "nothing")) t (way_at_first 9 t ∷ []) (inl refl);
          may = (nothing, is_nothing);
          some = inl (way_at_first 9 t, inl refl);
        }),
      );
}

pub returns-clause-all_told : goal.returns-clause-all_told
returns-clause-all_told c t told h is = record {
  each = λ way none. absurd none;
  told = to_one
      (λ other. (way : Way) × In way (way_at_first 9 t ∷ [])
      × ((k : IsFollowedTo smallest_caps 9 [] 0 way.device way.tickets.items)
      × IsTold way.device (event_of k.records (Ask event.Poll)) (answered (codes "active")) other))
      told (way_at_first 9 t, inl refl, (h, is));
  all = to_one
      (λ (way : Way). (k : IsFollowedTo smallest_caps 9 [] 0 way.device way.tickets.items)
      × IsOneGone way.device (event_of k.records (Ask event.Poll)) (answered (codes "active")) [] (told ∷ []))
      (way_at_first 9 t) (h, tells told is);
}

pub returns-clause-other_way : goal.returns-clause-other_way
returns-clause-other_way c a is = not_two (Ask event.Poll, nothing_seen) a (is.each a (inl refl))

pub returns-clause-told_of_none : goal.returns-clause-told_of_none
returns-clause-told_of_none c told is = (is.told told (inl refl)).1

pub returns-clause-told_though_shown : goal.returns-clause-told_though_shown
returns-clause-told_though_shown c t told is =
    let of = is.told told (inl refl) in
    to_one (λ (way : Way). IsTold way.device (Ok event.Poll) nothing_seen told → ⊥) (way_at_first 9 t)
    (told_of_shown told) of.0 of.1 of.2.1

pub returns-clause-not_gone : goal.returns-clause-not_gone
returns-clause-not_gone c t is = ((is.all (way_at_first 9 t) (inl refl)).1.covers nothing _ refl refl refl).1

pub returns-clause-not_come : goal.returns-clause-not_come
returns-clause-not_come c a is = not_one a (is.all a (inl refl)).0

pub returns-clause-none_read : goal.returns-clause-none_read
returns-clause-none_read c told observed read follow = absurd (not_first [] observed read.read)

pub returns-clause-none_followed : goal.returns-clause-none_followed
returns-clause-none_followed c t observed read follow =
    absurd (omega (arith, (follow (way_at_first 8 t) (inl refl)).run.same_capacity))
