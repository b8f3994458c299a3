-- What the workers' calls are: a client's are its submissions, and an administrator without a script makes none.
use Rattle.std.proofs.Common.{◌≡◌, ℕ, List, [], ◌∷◌, length, get_or, inl, inr, refl, sym, ◌∙◌}
use Rattle.std.proofs.Common.{subst, arith}
use Rattle.std.proofs.lemmas.{Bool.{cases_lt}, List.{get_or_past, Elements.{All-filter}}}
use Rattle.std.specs.Prelude.{All}
use Rattle.dsa_regs.specs.declared.{Caps.{Caps}, Command.TheVariants.{EnableDevice, DisableDevice}}
use Rattle.dsa_book.specs.declared.event.Event.TheVariants.{Submit, Issue}
use Rattle.dsa_book.specs.declared.event.Kind.TheVariants.{Enqcmd}
use Rattle.dsa_book.specs.declared.event.{Portal.TheVariants.{Limited}, Step.{Step}}
use Rattle.dsa_book.specs.Machine.{is_stored, stored_steps}
use Rattle.dsa_shared.specs.Seat.{SeatLog}
use Rattle.dsa_workers.specs.declared.scripts.ClientStep.{ClientStep}
use Rattle.dsa_workers.specs.Calls.{InOrder, NextSubmission, NextCommand, submission_of_client_step}
use Rattle.dsa_cli.specs.{Threads.{Submits, client_move}, Worked.{page_move_bytes}}

-- ---- a client

-- a Move under this PASID
abbrev one_step : ℕ → ClientStep
one_step pasid = record { queue = 0; portal = Limited; kind = Enqcmd pasid; bytes = page_move_bytes }

-- it is one that is to be submitted
one_submits : (pasid : ℕ) → Submits pasid (one_step pasid)
one_submits pasid = record { queue = refl; portal = refl; kind = refl; bytes = refl }

-- each place of a script has one, and past its end we take that Move
at_place : (pasid : ℕ) (script : List ClientStep) → All (Submits pasid) script → (i : ℕ)
    → Submits pasid (get_or script i (one_step pasid))
at_place pasid script moves i =
    elim (cases_lt i (length script)) [
      | inl inside ↦ moves i (one_step pasid) inside
      | inr past ↦ subst (Submits pasid) (sym (get_or_past script i (one_step pasid) past)) (one_submits pasid)
    ]

-- the event of one
submission_is : (number client pasid : ℕ) (step : ClientStep) → number ≡ client → Submits pasid step
    → submission_of_client_step number step ≡ Submit client 0 Limited (Enqcmd pasid) client_move
submission_is number client pasid step same h = rw (same, h.queue, h.portal, h.kind, h.bytes) refl

-- a client submits what its script says
pub all_submitted : (caps : Caps) (capacity : ℕ) (seat : SeatLog) (client pasid : ℕ) (script : List ClientStep)
    (calls : List Step) → seat.number ≡ client → All (Submits pasid) script
    → InOrder (NextSubmission caps capacity seat script) calls
    → All (λ step. step.event ≡ Submit client 0 Limited (Enqcmd pasid) client_move) (stored_steps calls)
all_submitted caps capacity seat client pasid script calls same moves order =
    All-filter (λ step. is_stored step.reply) (λ step. step.event ≡ Submit client 0 Limited (Enqcmd pasid) client_move)
    calls
    (λ k d lt. (order k d lt).1 (one_step pasid)
    ∙ submission_is seat.number client pasid _ same (at_place pasid script moves _))

-- ---- the administrator

-- two commands are not one
two_commands : Issue EnableDevice ≡ Issue DisableDevice → ⊥
two_commands same = cc

-- who has no command to give calls nothing
pub no_calls : (caps : Caps) (capacity : ℕ) (receipts calls : List Step)
    → InOrder (NextCommand caps capacity receipts []) calls → calls ≡ []
no_calls caps capacity receipts [] order = refl
no_calls caps capacity receipts (x ∷ calls) order =
    let first = (order 0 x (omega arith)).1 in
    absurd (two_commands (sym (first EnableDevice) ∙ first DisableDevice))
