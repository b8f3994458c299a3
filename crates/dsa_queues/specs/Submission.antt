-- Why a submission is turned away.
use Rattle.std.specs.Prelude.{ℕ, List, [], ◌∷◌, Option, Some, None}
use Rattle.dsa_desc.specs.declared.Descriptor.{Descriptor}
use Rattle.dsa_base.specs.Rows.{first_row, when}
use Rattle.dsa_regs.specs.Config.{queue_at}
use Rattle.dsa_store.specs.declared.entry.Cell.{Cell}
use Rattle.dsa_book.specs.State.{Intake, has_queue, occupancy, phase_at}
use Rattle.dsa_book.specs.Submit.{submit_table, limit_of, after_accept, after_refusal}
use Rattle.dsa_book.specs.declared.answer.Cause.{Cause, TheVariants.{AtLimit, NotEnabled, WrongKind}}
use Rattle.dsa_book.specs.declared.{event.{Portal.{Portal}, Kind.{Kind}}, answer.SubmitAnswer.{SubmitAnswer}}
use Rattle.dsa_queues.specs.declared.reasons.SubmitReason.TheVariants.{AtLimit, NotEnabled, WrongKind}
use Rattle.dsa_queues.specs.{declared.reasons.SubmitReason.{SubmitReason}, Reasons.{with_reasons}}

-- a reason for each row of the table of a submission, in its order
abbrev pub submit_reasons : Intake → ℕ → Portal → List SubmitReason
submit_reasons i q portal =
    let config = queue_at i.setup.configs q in
    NotEnabled i.setup.device (when (has_queue i.setup q) (phase_at i.setup q)) ∷
    WrongKind config.dedicated ∷
    AtLimit (occupancy i.content q) (limit_of config portal) portal ∷ []

-- the reason of the first row that stands
abbrev pub submit_reason : Intake → ℕ → Portal → Kind → Option SubmitReason
submit_reason i q portal kind = first_row (with_reasons (submit_table i q portal kind) (submit_reasons i q portal))

-- the cause that is answered for the reason
abbrev pub cause_of : SubmitReason → Cause
cause_of (NotEnabled device queue) = NotEnabled
cause_of (WrongKind dedicated) = WrongKind
cause_of (AtLimit occupancy limit portal) = AtLimit

-- what a submission leads to by its reason: it is turned away for the cause of one, and accepted without
abbrev pub submit_by : Intake → ℕ → Kind → Descriptor → Cell → Option SubmitReason → SubmitAnswer × Intake
submit_by i q kind desc cell None = after_accept i q kind desc cell
submit_by i q kind desc cell (Some reason) = after_refusal i q kind (cause_of reason)
