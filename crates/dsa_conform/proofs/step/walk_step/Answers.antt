use Rattle.dsa_conform.proofs.step.walk_step.Goals as goal
use Rattle.std.proofs.Common.{◌∙◌, sym, subst}
use Rattle.dsa_conform.specs.{Seen.{seen_as}, Ways.{IsTold}}
use Rattle.dsa_conform.proofs.{Companions.{goes_by}, Walks.{shows_unseen}}

pub returns-then-not-is_seen : goal.returns-then-not-is_seen
returns-then-not-is_seen c = λ caps capacity done number named h.
    goes_by caps capacity done (c.args.action, seen_as c.args.seen.now) number _ _ _ c.ask-entry.result
    c.event_for-asked.result
    (λ before t. c.event_for-asked.ensures before (rw c.as_slice.ensures.value t))
    (λ k. c.requires caps capacity done number k) c.ask-entry.ensures.answers c.ask-entry.ensures.leads
    c.in_ok-note_ticket.ensures
    (shows_unseen (seen_as c.args.seen.now) c.ask-entry.result (sym c.is_seen.ensures ∙ c.if-not-is_seen.true)) named h

pub returns-in_ok-note_ticket-in-Shown : goal.returns-in_ok-note_ticket-in-Shown
returns-in_ok-note_ticket-in-Shown c = λ caps capacity done number named h.
    let f = rw c.in-Shown.is at c.in_ok-followed.ensures in
    goes_by caps capacity done (c.args.action, seen_as c.args.seen.now) number _ _ _ c.in-Shown.entry
    c.event_for-asked.result
    (λ before t. c.event_for-asked.ensures before (rw c.as_slice.ensures.value t))
    (λ k. c.requires caps capacity done number k) f.0 f.1 c.in_ok-note_ticket-in-Shown.ensures f.2 named h

pub returns-in-Differs : goal.returns-in-Differs
returns-in-Differs c = λ caps capacity done number named h.
    let f = rw c.in-Differs.is at c.in_ok-followed.ensures in
    let asks = c.event_for-asked.ensures h.records (rw c.as_slice.ensures.value h.table) in
    let told : IsTold c.args.way.now.device c.event_for-asked.result (seen_as c.args.seen.now)
    (record { why = c.in_ok-why.why; against = c.in_ok-against.against; allowed = c.in-Differs.allowed }) =
    record {
      why = c.in_ok-why.ensures;
      against = c.in_ok-against.ensures;
      all = f.0;
      some = f.2.0;
      is_some = f.2.1;
      none = f.1;
    } in (
      tt,
      subst (λ q. IsTold c.args.way.now.device q (seen_as c.args.seen.now)
          (record { why = c.in_ok-why.why; against = c.in_ok-against.against; allowed = c.in-Differs.allowed }))
          asks told,
    )
