-- Why submissions are turned away: one in a state, and all of a history.
use Rattle.std.specs.Prelude.{◌≡◌, ◌≤◌, ◌↔◌, ℕ, true, false, List, ◌∷◌, ◌++◌}
use Rattle.std.specs.Bool.{beq}
use Rattle.dsa_desc.specs.declared.Descriptor.{Descriptor}
use Rattle.dsa_regs.specs.{declared.Caps.{Caps}, Config.{queue_at}}
use Rattle.dsa_book.specs.declared.answer.{Cause.{Cause, TheVariants.{NotEnabled, WrongKind, AtLimit}}, Reply.TheVariants.{Submit}}
use Rattle.dsa_book.specs.declared.answer.SubmitAnswer.{SubmitAnswer, TheVariants.{Retry, Dropped}}
use Rattle.dsa_book.specs.declared.event.{Portal.{Portal}, Kind.{Kind, TheVariants.{Enqcmd, Movdir64b}}, Step.{Step}}
use Rattle.dsa_book.specs.declared.event.Event.TheVariants.{Submit}
use Rattle.dsa_book.specs.{State.{Work, State, is_on, phase_at, occupancy}, Submit.{limit_of, is_movdir64b}}
use Rattle.dsa_book.specs.Machine.{Reaches}

-- a queue turns a submission away for this cause: it is not enabled, or it is of the other kind, or it is at the limit
-- of the portal; an earlier cause comes before a later one (profile)
abbrev pub IsRefused : Work → ℕ → Portal → Kind → Cause → Type 0
IsRefused w queue portal kind NotEnabled = is_on (phase_at w.setup queue) ≡ false
IsRefused w queue portal kind WrongKind =
    (is_on (phase_at w.setup queue) ≡ true)
    × (beq (is_movdir64b kind) (queue_at w.setup.configs queue).dedicated ≡ false)
IsRefused w queue portal kind AtLimit =
    (is_on (phase_at w.setup queue) ≡ true)
    × (beq (is_movdir64b kind) (queue_at w.setup.configs queue).dedicated ≡ true)
    × (limit_of (queue_at w.setup.configs queue) portal ≤ occupancy w.content queue)

-- ENQCMD is answered Retry, and MOVDIR64B is dropped (Intel SDM: ENQCMD, MOVDIR64B)
abbrev pub refusal_by : Kind → Cause → SubmitAnswer
refusal_by (Enqcmd pasid) cause = Retry cause
refusal_by Movdir64b cause = Dropped cause

-- a submission is refused for a cause exactly if the queue turns it away for this cause (profile)
abbrev pub HasItsCause : Work → ℕ → Portal → Kind → SubmitAnswer → Type 0
HasItsCause w queue portal kind answer =
    (cause : Cause) → (answer ≡ refusal_by kind cause) ↔ IsRefused w queue portal kind cause

-- so is each submission of the history, by the state that the steps before it lead to (profile)
abbrev pub EachHasItsCause : Caps → List Step → Type 0
EachHasItsCause caps history =
    (before after : List Step) (client queue : ℕ) (portal : Portal) (kind : Kind) (desc : Descriptor)
    (answer : SubmitAnswer)
    → before ++ record { event = Submit client queue portal kind desc; reply = Submit answer } ∷ after ≡ history
    → (s : State) × Reaches caps before s × HasItsCause s.work queue portal kind answer
