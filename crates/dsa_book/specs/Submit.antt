-- A submission: the first cause that stands, or an entry at the end of its queue.
use Rattle.std.specs.Bool.{beq}
use Rattle.std.specs.Prelude.{ℕ, ◌+◌, Bool, true, false, not, cond, nat_le, List, [], ◌∷◌, Option, Some, None}
use Rattle.dsa_desc.specs.{declared.Descriptor.{Descriptor}, Descriptor.{with_pasid}}
use Rattle.dsa_base.specs.Rows.{first_row_or}
use Rattle.dsa_regs.specs.{declared.QueueConfig.{QueueConfig}, Config.{queue_at}}
use Rattle.dsa_store.specs.{declared.entry.Cell.{Cell}, Content.{after_push}}
use Rattle.dsa_book.specs.State.{Intake, occupancy, phase_at, is_on}
use Rattle.dsa_book.specs.declared.answer.Cause.{Cause, TheVariants.{AtLimit, NotEnabled, WrongKind}}
use Rattle.dsa_book.specs.declared.answer.SubmitAnswer.{SubmitAnswer, TheVariants.{Accepted, Retry, Dropped}}
use Rattle.dsa_book.specs.declared.event.Portal.{Portal, TheVariants.{Limited, Unlimited}}
use Rattle.dsa_book.specs.declared.{event.Kind.{Kind, TheVariants.{Enqcmd, Movdir64b}}, answer.NotedError.{NotedError}}

-- the threshold bounds the limited portal of a shared queue, and in all other cases the size does (profile)
abbrev pub limit_of : QueueConfig → Portal → ℕ
limit_of config Limited = cond config.dedicated config.size config.threshold
limit_of config Unlimited = config.size

-- shared queues are written with ENQCMD, dedicated ones with MOVDIR64B (Intel DSA: work queue modes)
abbrev pub is_movdir64b : Kind → Bool
is_movdir64b (Enqcmd pasid) = false
is_movdir64b Movdir64b = true

-- the PASID of ENQCMD comes from the program's IA32_PASID (Intel SDM: ENQCMD), that of MOVDIR64B
-- from the queue (Intel DSA: dedicated work queues)
abbrev pub pasid_by : Kind → QueueConfig → ℕ
pasid_by (Enqcmd pasid) config = pasid
pasid_by Movdir64b config = config.pasid

-- the first error is kept, and a later one sets its overflow mark (profile)
abbrev pub next_noted : Option NotedError → ℕ → Cause → NotedError
next_noted None q cause = record { queue = q; cause = cause; overflow = false }
next_noted (Some noted) q cause = record noted { overflow = true }

-- ENQCMD is told to come again, and MOVDIR64B nothing (Intel SDM: ENQCMD, MOVDIR64B); what is
-- dropped leaves a noted error (profile)
abbrev pub after_refusal : Intake → ℕ → Kind → Cause → SubmitAnswer × Intake
after_refusal i q (Enqcmd pasid) cause = (Retry cause, i)
after_refusal i q Movdir64b cause =
    (Dropped cause, record i { setup = record i.setup { noted = Some (next_noted i.setup.noted q cause) } })

-- an entry at the end of its queue, in the given cell and with the next name (profile)
abbrev pub after_accept : Intake → ℕ → Kind → Descriptor → Cell → SubmitAnswer × Intake
after_accept i q kind desc cell = (
  Accepted (record { cell = cell; name = i.setup.next_name }),
  record {
    setup = record i.setup { next_name = i.setup.next_name + 1 };
    content = after_push i.content q cell (
        record {
          name = i.setup.next_name;
          parent = None;
          desc = with_pasid desc (pasid_by kind (queue_at i.setup.configs q));
          queue = q;
          running = false;
        }
        );
  },
)

-- what turns a submission away, in this order (profile)
abbrev pub submit_table : Intake → ℕ → Portal → Kind → List (Bool × (SubmitAnswer × Intake))
submit_table i q portal kind =
    let config = queue_at i.setup.configs q in
    (not (is_on (phase_at i.setup q)), after_refusal i q kind NotEnabled) ∷
    (not (beq (is_movdir64b kind) config.dedicated), after_refusal i q kind WrongKind) ∷
    (nat_le (limit_of config portal) (occupancy i.content q), after_refusal i q kind AtLimit) ∷ []

-- the answer to a submission and what it leaves, where an accepted entry is given this cell (profile)
abbrev pub submit : Intake → ℕ → Portal → Kind → Descriptor → Cell → SubmitAnswer × Intake
submit i q portal kind desc cell = first_row_or (submit_table i q portal kind) (after_accept i q kind desc cell)

-- ---- the zero flag

-- what the program sees: clear for accepted by ENQCMD, set for retry, and of MOVDIR64B nothing
-- (Intel SDM: ENQCMD, MOVDIR64B); of a full history nothing (profile)
abbrev pub zf : SubmitAnswer → Kind → Option Bool
zf (Accepted ticket) (Enqcmd pasid) = Some false
zf (Retry cause) kind = Some true
zf _ _ = None
