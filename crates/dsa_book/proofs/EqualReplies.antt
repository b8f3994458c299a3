-- Replies that compare as equal are the same, in the code and in the definitions.
use Rattle.dsa_book.specs.contracts.answer.ReplyPartialEq.TheImpl as reply_eq
use Rattle.dsa_book.specs.contracts.answer.ReplyEq.TheImpl.Laws as reply_laws
use Rattle.std.proofs.{Common.{◌≡◌, ◌==◌, Bool, true, refl, ap, ◌∙◌}, lemmas.Bool.{and_parts}}
use Rattle.dsa_book.proofs.EqualParts.{never, Tested, numbers, faults, tickets, causes, noted_errors}
use Rattle.dsa_book.specs.Same.{same_ticket, same_reply}
use Rattle.dsa_book.specs.declared.answer.ClearAnswer.TheVariants.{Cleared, Nothing, Full}
use Rattle.dsa_book.specs.declared.answer.DispatchAnswer.TheVariants.{Taken, Idle, Full}
use Rattle.dsa_book.specs.declared.answer.FetchAnswer.TheVariants.{Fetched, NoBatch, AllFetched, Full}
use Rattle.dsa_book.specs.declared.answer.FinishAnswer.TheVariants.{Done, NotReady, Gone, Full}
use Rattle.dsa_book.specs.declared.answer.IssueAnswer.TheVariants.{Ended, Active, Refused, Full}
use Rattle.dsa_book.specs.declared.answer.PollAnswer.TheVariants.{Finished, Active, Nothing, Full}
use Rattle.dsa_book.specs.declared.answer.Reply.TheVariants.{Submit, Dispatch, Fetch, Start, Finish, Issue, Poll, Write}
use Rattle.dsa_book.specs.declared.answer.StartAnswer.TheVariants.{Started, FenceWait, NoBuffers, Abandoned, Nothing}
use Rattle.dsa_book.specs.declared.answer.SubmitAnswer.TheVariants.{Accepted, Retry, Dropped, Full}
use Rattle.dsa_book.specs.declared.answer.WriteAnswer.TheVariants.{Written, Refused, Full}
use Rattle.dsa_book.specs.declared.answer.{Reply.{TheVariants.{Clear}, Reply}, StartAnswer.TheVariants.{Full}}

-- what holds of a part, holds of the reply with that part
under : {T : Type 0} {x y : Bool} {a b : T} (f : T → Reply) → (x ≡ y) × (x ≡ true → a ≡ b)
    → (x ≡ y) × (x ≡ true → f a ≡ f b)
under f p = (p.0, λ h. ap f (p.1 h))

-- replies, tested by the definitions and by the code
pub replies : (a b : Reply) → Tested same_reply reply_eq.eq-value.it a b
replies (Submit (Accepted x)) (Submit (Accepted y)) = under (λ t. Submit (Accepted t)) (tickets x y)
replies (Submit (Retry x)) (Submit (Retry y)) = under (λ t. Submit (Retry t)) (causes x y)
replies (Submit (Dropped x)) (Submit (Dropped y)) = under (λ t. Submit (Dropped t)) (causes x y)
replies (Submit Full) (Submit Full) = (refl, λ h. refl)
replies (Dispatch (Taken x q)) (Dispatch (Taken y p)) = (
  refl,
  λ h.
      let e = and_parts (same_ticket x y) (q == p) h in
      λ i. Dispatch (Taken ((tickets x y).1 e.0 i) ((numbers q p).1 e.1 i)),
)
replies (Dispatch Idle) (Dispatch Idle) = (refl, λ h. refl)
replies (Dispatch Full) (Dispatch Full) = (refl, λ h. refl)
replies (Fetch (Fetched x)) (Fetch (Fetched y)) = under (λ t. Fetch (Fetched t)) (tickets x y)
replies (Fetch NoBatch) (Fetch NoBatch) = (refl, λ h. refl)
replies (Fetch AllFetched) (Fetch AllFetched) = (refl, λ h. refl)
replies (Fetch Full) (Fetch Full) = (refl, λ h. refl)
replies (Start (Started x)) (Start (Started y)) = under (λ t. Start (Started t)) (tickets x y)
replies (Start FenceWait) (Start FenceWait) = (refl, λ h. refl)
replies (Start NoBuffers) (Start NoBuffers) = (refl, λ h. refl)
replies (Start (Abandoned x)) (Start (Abandoned y)) = under (λ t. Start (Abandoned t)) (numbers x y)
replies (Start Nothing) (Start Nothing) = (refl, λ h. refl)
replies (Start Full) (Start Full) = (refl, λ h. refl)
replies (Finish (Done x)) (Finish (Done y)) = under (λ t. Finish (Done t)) (numbers x y)
replies (Finish NotReady) (Finish NotReady) = (refl, λ h. refl)
replies (Finish Gone) (Finish Gone) = (refl, λ h. refl)
replies (Finish Full) (Finish Full) = (refl, λ h. refl)
replies (Issue (Ended x)) (Issue (Ended y)) = under (λ t. Issue (Ended t)) (numbers x y)
replies (Issue Active) (Issue Active) = (refl, λ h. refl)
replies (Issue (Refused x)) (Issue (Refused y)) = under (λ t. Issue (Refused t)) (faults x y)
replies (Issue Full) (Issue Full) = (refl, λ h. refl)
replies (Poll Finished) (Poll Finished) = (refl, λ h. refl)
replies (Poll Active) (Poll Active) = (refl, λ h. refl)
replies (Poll Nothing) (Poll Nothing) = (refl, λ h. refl)
replies (Poll Full) (Poll Full) = (refl, λ h. refl)
replies (Write Written) (Write Written) = (refl, λ h. refl)
replies (Write (Refused x)) (Write (Refused y)) = under (λ t. Write (Refused t)) (faults x y)
replies (Write Full) (Write Full) = (refl, λ h. refl)
replies (Clear (Cleared x)) (Clear (Cleared y)) = under (λ t. Clear (Cleared t)) (noted_errors x y)
replies (Clear Nothing) (Clear Nothing) = (refl, λ h. refl)
replies (Clear Full) (Clear Full) = (refl, λ h. refl)
replies _ _ = (refl, λ h. never h)

-- replies that the code finds equal are the same
pub same-reply : (a b : Reply) → reply_eq.eq-value.it a b ≡ true → a ≡ b
same-reply a b h = (replies a b).1 ((replies a b).0 ∙ h)

-- replies that are the same by the definitions are the same
pub equal-replies : (a b : Reply) → same_reply a b ≡ true → a ≡ b
equal-replies a b = (replies a b).1

-- a reply is the same as itself
pub same_reply-self : (a : Reply) → same_reply a a ≡ true
same_reply-self a = (replies a a).0 ∙ reply_laws.laws-law.refl a
