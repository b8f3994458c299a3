-- Steps that compare as equal are the same, and the other way round.
use Rattle.dsa_book.specs.declared.event.Event.TheVariants as event
use Rattle.dsa_book.specs.contracts.event.EventPartialEq.TheImpl as event_eq
use Rattle.dsa_book.specs.contracts.event.StepPartialEq.TheImpl as step_eq
use Rattle.dsa_book.specs.contracts.event.StepEq.TheImpl.Laws as step_laws
use Rattle.std.proofs.Common.{◌≡◌, true, refl, ap, subst}
use Rattle.dsa_book.proofs.EqualParts.{never, same-number, field, same-descriptor, same-outcome, same-queue_config}
use Rattle.dsa_book.proofs.EqualParts.{same-group_config, same-command, same-ticket, same-portal, same-kind}
use Rattle.dsa_book.{specs.declared.event.{Event.{Event}, Step.{Step}}, proofs.EqualReplies.{same-reply}}

pub same-event : (a b : Event) → event_eq.eq-value.it a b ≡ true → a ≡ b
same-event (event.Submit x0 x1 x2 x3 x4) (event.Submit y0 y1 y2 y3 y4) h =
    let p = field same-number x0 y0 _ h in
    let q = field same-number x1 y1 _ p.1 in
    let r = field same-portal x2 y2 _ q.1 in
    let s = field same-kind x3 y3 _ r.1 in
    λ i. event.Submit (p.0 i) (q.0 i) (r.0 i) (s.0 i) (same-descriptor x4 y4 s.1 i)
same-event (event.Dispatch x0) (event.Dispatch y0) h = ap event.Dispatch (same-number x0 y0 h)
same-event (event.Fetch x0 x1) (event.Fetch y0 y1) h =
    let p = field same-number x0 y0 _ h in
    λ i. event.Fetch (p.0 i) (same-descriptor x1 y1 p.1 i)
same-event (event.Start x0) (event.Start y0) h = ap event.Start (same-number x0 y0 h)
same-event (event.Finish x0 x1 x2) (event.Finish y0 y1 y2) h =
    let p = field same-number x0 y0 _ h in
    let q = field same-ticket x1 y1 _ p.1 in
    λ i. event.Finish (p.0 i) (q.0 i) (same-outcome x2 y2 q.1 i)
same-event (event.Issue x0) (event.Issue y0) h = ap event.Issue (same-command x0 y0 h)
same-event event.Poll event.Poll h = refl
same-event (event.WriteQueue x0 x1) (event.WriteQueue y0 y1) h =
    let p = field same-number x0 y0 _ h in
    λ i. event.WriteQueue (p.0 i) (same-queue_config x1 y1 p.1 i)
same-event (event.WriteGroup x0 x1) (event.WriteGroup y0 y1) h =
    let p = field same-number x0 y0 _ h in
    λ i. event.WriteGroup (p.0 i) (same-group_config x1 y1 p.1 i)
same-event event.ClearError event.ClearError h = refl
same-event _ _ h = never h

pub same-step : (a b : Step) → step_eq.eq-value.it a b ≡ true → a ≡ b
same-step a b h =
    let p = field same-event a.event b.event _ h in
    λ i. record { event = p.0 i; reply = same-reply a.reply b.reply p.1 i }

pub equal-itself : (a b : Step) → a ≡ b → step_eq.eq-value.it a b ≡ true
equal-itself a b e = subst (λ (x : Step). step_eq.eq-value.it a x ≡ true) e (step_laws.laws-law.refl a)
