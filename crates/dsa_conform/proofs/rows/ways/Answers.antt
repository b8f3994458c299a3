use Rattle.dsa_conform.proofs.rows.ways.Goals as goal
use Rattle.dsa_book.specs.declared.answer.Reply.TheVariants as reply
use Rattle.dsa_book.specs.declared.answer.PollAnswer.TheVariants as poll
use Rattle.dsa_book.specs.declared.event.Event.TheVariants as event
use Rattle.std.proofs.lemmas.Option.{same_Some}
use Rattle.std.proofs.Common.{◌≡◌, ◌∙◌, ℕ, true, [], ◌∷◌, Ok, Some, None, ap, arith, codes, inl, inr, refl, subst, sym}
use Rattle.std.specs.{Prelude.{unwrap_or}, Fmt.{digits}}
use Rattle.dsa_base.specs.Lists.{In}
use Rattle.dsa_scenario.specs.{declared.run.Record.{Record}, Worked.{stepped}}
use Rattle.dsa_conform.specs.{Allowed.{IsAllowed}, Seen.{shows}, Ways.{IsTakenAsSeen, queue_of_record}}
use Rattle.dsa_conform.specs.Worked.{answered, from_first, from_second, after_all, smallest_device_at_first}
use Rattle.dsa_conform.specs.Worked.{way_at_first}
use Rattle.dsa_conform.specs.Seen.{nothing_seen}
use Rattle.dsa_conform.proofs.{RowRuns.{only_nothing}, RowWays.{none_covered, poll_covered}}
use Rattle.dsa_conform.proofs.RowTakes.{either_entry, first_allowed, second_allowed, none_allowed}

pub returns-clause-two : goal.returns-clause-two
returns-clause-two c is =
    omega (arith, ap (λ queue. unwrap_or queue 9) (is from_first from_second first_allowed second_allowed refl refl))

pub returns-clause-fork : goal.returns-clause-fork
returns-clause-fork c is =
    let one = is.0 from_second second_allowed refl in
    only_first one.0 one.1 (ap (λ queue. unwrap_or queue 9) one.2)
  where
    only_first : (queue : ℕ) → In queue (0 ∷ []) → 2 ≡ queue → ⊥
    only_first queue (inl same) of_second = omega (arith, same, of_second)
    only_first queue (inr none) of_second = none

pub returns-clause-no_fork : goal.returns-clause-no_fork
returns-clause-no_fork c is =
    omega (arith, ap (λ queue. unwrap_or queue 9) (is from_first from_second first_allowed second_allowed refl refl))

pub returns-clause-uncovered : goal.returns-clause-uncovered
returns-clause-uncovered c is = (is (stepped event.Poll (reply.Poll poll.Nothing)) _ refl refl refl).1

pub returns-clause-by_name : goal.returns-clause-by_name
returns-clause-by_name c = tt

pub returns-clause-no_end : goal.returns-clause-no_end
returns-clause-no_end c = tt

pub returns-clause-by_ticket : goal.returns-clause-by_ticket
returns-clause-by_ticket c is = is

pub returns-clause-all_by_name : goal.returns-clause-all_by_name
returns-clause-all_by_name c = (tt, (tt, tt))

pub returns-clause-second_by_ticket : goal.returns-clause-second_by_ticket
returns-clause-second_by_ticket c are = are.1.0

pub returns-clause-run : goal.returns-clause-run
unfolding digits
returns-clause-run c = (_, record { answers = refl; leads = refl; shown = refl }, refl)

pub returns-clause-no_run : goal.returns-clause-no_run
returns-clause-no_run c = refl

pub returns-clause-elsewhere : goal.returns-clause-elsewhere
returns-clause-elsewhere c is = omega (arith, ap (λ device. device.capacity) is)

pub returns-clause-fewer : goal.returns-clause-fewer
returns-clause-fewer c is = is

pub returns-clause-more : goal.returns-clause-more
returns-clause-more c is = is

pub returns-clause-not_answered : goal.returns-clause-not_answered
returns-clause-not_answered c is =
    let answers = is.1.answers in
    absurd cc

pub returns-clause-not_seen : goal.returns-clause-not_seen
unfolding digits
returns-clause-not_seen c is =
    let shown = is.1.shown in
    absurd cc

-- the one answer to a poll tells no queue
poll_one_way : (first second : Record) → IsAllowed smallest_device_at_first (Ok event.Poll) first
    → IsAllowed smallest_device_at_first (Ok event.Poll) second → queue_of_record first ≡ queue_of_record second
poll_one_way first second is also =
    subst (λ entry. queue_of_record first ≡ queue_of_record entry) (only_nothing second also)
    (subst (λ entry. queue_of_record entry ≡ None) (only_nothing first is) refl)

pub returns-clause-one : goal.returns-clause-one
returns-clause-one c first second is also shown shown_too = poll_one_way first second is also

pub returns-clause-no_choice : goal.returns-clause-no_choice
returns-clause-no_choice c first second is also shown shown_too = poll_one_way first second is also

-- the entry of the second queue is taken, where that was seen
of_second : (entry : Record) → IsAllowed after_all (Ok (event.Dispatch 0)) entry
    → shows (answered (codes "taken from 2")) entry ≡ true → queue_of_record entry ≡ Some 2
unfolding digits
of_second = either_entry
    (λ entry. shows (answered (codes "taken from 2")) entry ≡ true → queue_of_record entry ≡ Some 2)
    (λ shown. absurd cc) (λ shown. refl)

pub returns-clause-one_seen : goal.returns-clause-one_seen
returns-clause-one_seen c first second is also shown shown_too =
    subst (λ queue. queue_of_record first ≡ queue) (sym (of_second second also shown_too)) (of_second first is shown)

pub returns-clause-second : goal.returns-clause-second
unfolding digits
returns-clause-second c = ((λ entry is shown. (2, inl refl, of_second entry is shown)), told)
  where
    told : (queue : ℕ) → In queue (2 ∷ [])
        → IsTakenAsSeen after_all (Ok (event.Dispatch 0)) (answered (codes "taken from 2")) queue
    told queue (inl same) = (from_second, second_allowed, refl, ap (λ k. Some k) same)
    told queue (inr none) = absurd none

pub returns-clause-one_not_seen : goal.returns-clause-one_not_seen
returns-clause-one_not_seen c is =
    let first = is.1 0 (inl refl) in
    omega (arith, ap (λ queue. unwrap_or queue 9) (sym first.3 ∙ of_second first.0 first.1 first.2))

pub returns-clause-both : goal.returns-clause-both
returns-clause-both c = (
  either_entry
      (λ entry. shows nothing_seen entry ≡ true
      → (queue : ℕ) × In queue (0 ∷ 2 ∷ []) × (queue_of_record entry ≡ Some queue))
      (λ shown. (0, inl refl, refl)) (λ shown. (2, inr (inl refl), refl)),
  told,
)
  where
    told : (queue : ℕ) → In queue (0 ∷ 2 ∷ []) → IsTakenAsSeen after_all (Ok (event.Dispatch 0)) nothing_seen queue
    told queue (inl same) = (from_first, first_allowed, refl, ap (λ k. Some k) same)
    told queue (inr (inl same)) = (from_second, second_allowed, refl, ap (λ k. Some k) same)
    told queue (inr (inr none)) = absurd none

pub returns-clause-none_allowed : goal.returns-clause-none_allowed
returns-clause-none_allowed c is = let one = is.1 0 (inl refl) in none_allowed one.0 one.1

pub returns-clause-covered : goal.returns-clause-covered
returns-clause-covered c t = poll_covered nothing_seen t (way_at_first 9 t ∷ []) (inl refl)

pub returns-clause-nothing_to_cover : goal.returns-clause-nothing_to_cover
returns-clause-nothing_to_cover c = none_covered []

pub returns-clause-by_names : goal.returns-clause-by_names
unfolding digits
returns-clause-by_names c = (
  _,
  record { answers = refl; leads = refl; shown = refl },
  (
    _,
    record { answers = refl; leads = refl; shown = refl },
    (
      _,
      record { answers = refl; leads = refl; shown = refl },
      (
        _,
        record { answers = refl; leads = refl; shown = refl },
        (
          _,
          record { answers = refl; leads = refl; shown = refl },
          (
            _,
            record { answers = refl; leads = refl; shown = refl },
            (
              _,
              record { answers = refl; leads = refl; shown = refl },
              (_, record { answers = refl; leads = refl; shown = refl }, refl),
            ),
          ),
        ),
      ),
    ),
  ),
)

pub returns-clause-first_of_a_name : goal.returns-clause-first_of_a_name
unfolding digits
returns-clause-first_of_a_name c = (
  _,
  record { answers = refl; leads = refl; shown = refl },
  (_, record { answers = refl; leads = refl; shown = refl }, refl),
)

pub returns-clause-other_end : goal.returns-clause-other_end
returns-clause-other_end c is =
    omega (arith, ap (λ device. device.capacity) (same_Some smallest_device_at_first is.0 is.1.leads ∙ is.2))

pub returns-clause-not_allowed : goal.returns-clause-not_allowed
returns-clause-not_allowed c is =
    let none = is.1.leads in
    absurd cc
