use Rattle.dsa_conform.proofs.rows.allowed.Goals as goal
use Rattle.std.proofs.Common.{◌≡◌, ◌<◌, ℕ, zero, suc, true, false, List, [], ◌∷◌, codes, bytes_eq, Ok, refl, ap, arith}
use Rattle.std.proofs.Common.{lit<}
use Rattle.std.specs.{Prelude.{Contains}, Fmt.{digits}}
use Rattle.std.proofs.lemmas.List.Elements.{All-nil, All-cons, All-head, All-tail}
use Rattle.dsa_book.specs.declared.event.Event.TheVariants.{Dispatch}
use Rattle.dsa_scenario.specs.{declared.run.Record.{Record}, Lines.{record_text}}
use Rattle.dsa_conform.specs.{Allowed.{IsAllowed, queue_taken}, Seen.{shows}}
use Rattle.dsa_conform.specs.Worked.{answered, from_first, from_second, from_third, after_all}
use Rattle.dsa_conform.proofs.RowTakes.{either_entry, first_allowed, second_allowed}

-- a list of one text has no other
not_another : (x y : List ℕ) → Contains (x ∷ []) y → x ≡ y
not_another x y (zero, below, is) = is
not_another x y (suc k, below, is) = absurd (omega (arith, below))

pub returns-clause-first : goal.returns-clause-first
returns-clause-first c = first_allowed

pub returns-clause-second : goal.returns-clause-second
returns-clause-second c = second_allowed

pub returns-clause-idle : goal.returns-clause-idle
returns-clause-idle c is = absurd (let none = is.leads in cc)

pub returns-clause-other_event : goal.returns-clause-other_event
returns-clause-other_event c is = absurd (let none = is.answers in cc)

pub returns-clause-left_out : goal.returns-clause-left_out
unfolding digits
returns-clause-left_out c are =
    let second = are.all from_second second_allowed in
    let same = not_another (codes "taken 0 from 0") (codes "taken 1 from 2") second in
    let none : true ≡ false = ap (bytes_eq (codes "taken 0 from 0")) same in
    absurd cc

pub returns-clause-order : goal.returns-clause-order
returns-clause-order c are =
    let below : 2 < 0 = All-head (λ later. 2 < queue_taken later) from_first [] are.order.0 in
    absurd (omega (arith, below))

pub returns-clause-not_there : goal.returns-clause-not_there
returns-clause-not_there c are =
    let P : Record → Type 0 = IsAllowed after_all (Ok (Dispatch 0)) in
    let others = All-tail P from_second (from_third ∷ [])
    (All-tail P from_first (from_second ∷ from_third ∷ []) are.each) in
    let third = All-head P from_third [] others in
    let none = third.leads in
    absurd cc

pub returns-clause-shown : goal.returns-clause-shown
unfolding digits
returns-clause-shown c none =
    let not_shown = none from_second second_allowed in
    absurd cc

pub returns-clause-word : goal.returns-clause-word
returns-clause-word c = record { answers = refl; after = _; leads = refl }

pub returns-clause-other_word : goal.returns-clause-other_word
returns-clause-other_word c is = let other = is.answers in grind (arith, other)

pub returns-clause-all : goal.returns-clause-all
unfolding digits
returns-clause-all c =
    let P : Record → Type 0 = IsAllowed after_all (Ok (Dispatch 0)) in
    let later : Record → Type 0 = λ entry. 0 < queue_taken entry in
    record {
      each = All-cons P from_first (from_second ∷ []) first_allowed
          (All-cons P from_second [] second_allowed (All-nil P));
      all = either_entry (λ entry. Contains (codes "taken 0 from 0" ∷ codes "taken 1 from 2" ∷ []) (record_text entry))
          (0, lit< tt, refl) (1, lit< tt, refl);
      order = (
        All-cons later from_second [] (lit< tt) (All-nil later),
        (All-nil (λ entry. 2 < queue_taken entry), tt),
      );
    }

pub returns-clause-neither : goal.returns-clause-neither
unfolding digits
returns-clause-neither c = either_entry (λ entry. shows (answered (codes "idle")) entry ≡ false) refl refl
