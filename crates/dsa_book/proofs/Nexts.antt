-- What a reply that may come says: it is the machine's reply to the event, given what was free to choose.
use Rattle.std.proofs.{Common.{◌≡◌, ◌&&◌, true, Some, refl, sym, ap, subst}, lemmas.Bool.{and_parts}}
use Rattle.dsa_base.proofs.Tables.{when-some}
use Rattle.dsa_book.specs.{declared.{answer.Reply.{Reply}, event.Event.{Event}}, Same.{same_reply}}
use Rattle.dsa_book.specs.{Choice.{Choice, choice_of}, State.{State}, Machine.{may_choose, reply_of, next}}
use Rattle.dsa_book.proofs.EqualReplies.{equal-replies, same_reply-self}

-- a reply that may come is the machine's, and what it tells of the choice may be chosen
pub next-is : (s s' : State) (event : Event) (reply : Reply) → next s event reply ≡ Some s'
    → (may_choose s event (choice_of reply) ≡ true) × (reply_of s event (choice_of reply) ≡ (reply, s'))
next-is s s' event reply h =
    let r = reply_of s event (choice_of reply) in
    let p = when-some (may_choose s event (choice_of reply) && same_reply reply r.0) r.1 s' h in
    let q = and_parts (may_choose s event (choice_of reply)) (same_reply reply r.0) p.0 in
    (q.0, λ i. (sym (equal-replies reply r.0 q.1) i, p.1 i))

-- the machine's reply may come where its choice may
pub next-of : (s s' : State) (event : Event) (reply : Reply) → may_choose s event (choice_of reply) ≡ true
    → reply_of s event (choice_of reply) ≡ (reply, s') → next s event reply ≡ Some s'
next-of s s' event reply may is = rw (may, is, same_reply-self reply) refl

-- what holds of the machine's reply for each choice that it tells of, holds of each reply that may come
pub next-each : (P : Reply → State → Type 0) (s s' : State) (event : Event) (reply : Reply)
    → ((choice : Choice) → may_choose s event choice ≡ true → choice_of (reply_of s event choice).0 ≡ choice
    → P (reply_of s event choice).0 (reply_of s event choice).1)
    → next s event reply ≡ Some s' → P reply s'
next-each P s s' event reply each h =
    let p = next-is s s' event reply h in
    subst (λ (r : Reply × State). P r.0 r.1) p.1
    (each (choice_of reply) p.0 (ap (λ (r : Reply × State). choice_of r.0) p.1))
