use Rattle.dsa_conform.proofs.rows.beginning_alike.Goals as goal
use Rattle.dsa_book.specs.declared.event.Event.TheVariants as event
use Rattle.std.proofs.Common.{◌≡◌, ◌∙◌, ◌==◌, ℕ, zero, suc, Bool, true, false, cond, length, List, [], ◌∷◌, ◌++◌}
use Rattle.std.proofs.Common.{Option, Some}
use Rattle.std.proofs.Common.{None, Ok, ap, arith, codes, refl}
use Rattle.std.specs.Fmt.{digits}
use Rattle.dsa_book.specs.{declared.answer.NotedError.{NotedError}, State.{State}}
use Rattle.dsa_device.specs.Running.{Running}
use Rattle.dsa_scenario.specs.{declared.run.Record.{Record}, Steps.{standing}}
use Rattle.dsa_explain_lines.specs.Parts.{event_part, full_part, part_of}
use Rattle.dsa_conform.specs.{Allowed.{IsAllowed}, Lines.{allowed_line}}
use Rattle.dsa_conform.specs.Worked.{caps_of_two_queues, cleared, records_of_one_error}
use Rattle.dsa_conform.proofs.RowWays.{to_one}

-- the code at this place, and behind the end 0
abbrev code_at : ℕ → List ℕ → ℕ
code_at n [] = 0
code_at zero (code ∷ codes) = code
code_at (suc n) (code ∷ codes) = code_at n codes

-- with this error noted
abbrev with_noted : State → Option NotedError → State
with_noted s noted = record s { work = record s.work { setup = record s.work.setup { noted = noted } } }

-- a reason begins with a colon, where there is one
not_a_space : (now : Running) → 32 ≡ code_at 0 (part_of now (Ok event.ClearError) ++ codes "\n") → ⊥
not_a_space now = at (length now.history == now.capacity) now.state.work.setup.noted
  where
    at : (full : Bool) (noted : Option NotedError)
        → 32
        ≡ code_at 0
        (cond full (full_part now) (event_part (with_noted now.state noted) event.ClearError) ++ codes "\n")
        → ⊥
    at true noted is =
        let none : 32 ≡ 58 = is in
        absurd (omega (arith, none))
    at false None is =
        let none : 32 ≡ 58 = is in
        absurd (omega (arith, none))
    at false (Some noted) is =
        let none : 32 ≡ 10 = is in
        absurd (omega (arith, none))

pub returns-clause-one : goal.returns-clause-one
returns-clause-one c = record {
  of_actions = (refl, (refl, (refl, (refl, (refl, (refl, (refl, (refl, (refl, (refl, (refl, tt)))))))))));
  run = refl;
  shown = (refl, (refl, (refl, (refl, (refl, (refl, (refl, (refl, (refl, (refl, (refl, tt)))))))))));
}

pub returns-clause-two : goal.returns-clause-two
returns-clause-two c = record {
  of_actions = (refl, (refl, (refl, (refl, (refl, (refl, (refl, (refl, (refl, (refl, (refl, tt)))))))))));
  run = refl;
  shown = (refl, (refl, (refl, (refl, (refl, (refl, (refl, (refl, (refl, (refl, (refl, tt)))))))))));
}

one_cleared : IsAllowed (standing caps_of_two_queues 20 records_of_one_error) (Ok event.ClearError) (cleared false)
one_cleared = record { answers = refl; after = _; leads = refl }

pub returns-clause-longer : goal.returns-clause-longer
unfolding digits
returns-clause-longer c are =
    let line = are.all records_of_one_error (returns-clause-one c) (cleared false) one_cleared in
    let reason = line.2.1 in
    to_one
    (λ (l : Record × List ℕ). l.1 ≡ allowed_line line.2.0 (cleared false) → ⊥)
    (cleared true, codes "allowed: cleared 0 at-limit overflow\n")
    (λ is.
    let space : 32 ≡ code_at 0 (line.2.0 ++ codes "\n") = ap (code_at 27) is in
    not_a_space (standing caps_of_two_queues 20 reason.records)
    (space ∙ ap (λ r. code_at 0 (r ++ codes "\n")) reason.is))
    line.0 line.1 line.2.2
