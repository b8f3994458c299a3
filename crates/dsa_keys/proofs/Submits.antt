-- Submissions at two states that are alike.
use Rattle.std.proofs.Common.{◌≡◌, ℕ, false, not, [], Some, refl}
use Rattle.std.{specs.{Bool.{beq}, Prelude.{nat_le}}}
use Rattle.dsa_desc.specs.{declared.Descriptor.{Descriptor}, Descriptor.{with_pasid}}
use Rattle.dsa_regs.specs.Config.{queue_at}
use Rattle.dsa_store.specs.{declared.entry.Cell.{Cell}, Content.{chain}}
use Rattle.dsa_book.specs.State.{Intake, phase_at, is_on}
use Rattle.dsa_book.specs.Submit.{limit_of, is_movdir64b, pasid_by, next_noted, after_refusal, after_accept, submit}
use Rattle.dsa_book.specs.declared.event.{Portal.{Portal}, Kind.{Kind, TheVariants.{Enqcmd, Movdir64b}}}
use Rattle.dsa_book.specs.declared.answer.{SubmitAnswer.{SubmitAnswer, TheVariants.{Accepted}}, Cause.{Cause}}
use Rattle.dsa_book.specs.declared.answer.Reply.{TheVariants.{Submit}}
use Rattle.dsa_keys.proofs.Alike.{Same, Both}
use Rattle.dsa_keys.specs.Key.{without_next_name}
use Rattle.dsa_keys.specs.Labels.{labelled_reply, Labels}
use Rattle.dsa_keys.proofs.{Both.{both-row3, both-length, both-get}, Engines.{both-pushed}}

-- what a submission sees has the same entries by labels
pub record LikeIntake (m n : Labels) (i j : Intake) : Type 0 where
  pub setup : without_next_name i.setup ≡ without_next_name j.setup
  pub content : Both (Both (Same m n)) i.content j.content

-- the answers tell the same, and what they leave has the same entries by labels
abbrev pub LeadsIn : Labels → Labels → SubmitAnswer × Intake → SubmitAnswer × Intake → Type 0
LeadsIn m n r r' = (labelled_reply m (Submit r.0) ≡ labelled_reply n (Submit r'.0)) × LikeIntake m n r.1 r'.1

module _ {m n : Labels} {i j : Intake} (h : LikeIntake m n i j) where
  refusal-leads : (q : ℕ) (kind : Kind) (cause : Cause) → LeadsIn m n (after_refusal i q kind cause)
      (after_refusal j q kind cause)
  refusal-leads q (Enqcmd pasid) cause = (refl, h)
  refusal-leads q Movdir64b cause = (
    refl,
    record {
      setup = λ k. record (h.setup k) { noted = Some (next_noted (h.setup k).noted q cause) };
      content = h.content;
    },
  )

  accept-leads : (q : ℕ) (kind : Kind) (desc : Descriptor) (cell cell' : Cell)
      → m i.setup.next_name ≡ n j.setup.next_name
      → LeadsIn m n (after_accept i q kind desc cell) (after_accept j q kind desc cell')
  accept-leads q kind desc cell cell' next = (
    λ k. Submit (Accepted (record { cell = record { 0 = 0 }; name = next k })),
    record {
      setup = h.setup;
      content = both-pushed (Same m n) i.content j.content q q cell cell' _ _ refl h.content
          (λ k. record {
            label = next k;
            desc = with_pasid desc (pasid_by kind (queue_at (h.setup k).configs q));
            queue = q;
            running = false;
            member = false;
          });
    },
  )

  pub submit-leads : (q : ℕ) (portal : Portal) (kind : Kind) (desc : Descriptor) (cell cell' : Cell)
      → m i.setup.next_name ≡ n j.setup.next_name
      → LeadsIn m n (submit i q portal kind desc cell) (submit j q portal kind desc cell')
  submit-leads q portal kind desc cell cell' next =
      let long = both-length (Same m n) (chain i.content q) (chain j.content q)
      (both-get (Both (Same m n)) i.content j.content q [] [] h.content tt) in
      both-row3 (LeadsIn m n) _ _ _ _ _ _ _ _ _ _ _ _ _ _
      (λ k. not (is_on (phase_at (h.setup k) q))) (refusal-leads q kind _)
      (λ k. not (beq (is_movdir64b kind) (queue_at (h.setup k).configs q).dedicated)) (refusal-leads q kind _)
      (λ k. nat_le (limit_of (queue_at (h.setup k).configs q) portal) (long k)) (refusal-leads q kind _)
      (accept-leads q kind desc cell cell' next)
