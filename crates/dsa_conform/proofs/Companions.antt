-- Several devices that are followed together.
use Rattle.dsa_book.specs.declared.answer.Reply.TheVariants as reply
use Rattle.dsa_book.specs.declared.event.Event.TheVariants as event
use Rattle.std.proofs.Common.{◌≡◌, ◌⊎◌, inl, inr, ℕ, ◌+◌, ◌==◌, ◌^◌, ◌≤◌, Bool, true, false, List, [], ◌∷◌, ◌++◌}
use Rattle.std.proofs.Common.{map, filter_map, take, Option, Some, None, Result, Ok, refl, sym, ap, subst, ◌∙◌, arith}
use Rattle.std.proofs.Common.{append_assoc, append-nil, string_bytes, length}
use Rattle.std.proofs.lemmas.{Option.{same_Some}, List.Elements.{filter_map-append}}
use Rattle.std.specs.Prelude.{slice_get, IsTrue, not}
use Rattle.serde_json.specs.Data.{Data}
use Rattle.dsa_base.{specs.Lists.{In}, proofs.{Tables.{not-both}, Lists.{In-push, In-left, In-right}}}
use Rattle.dsa_regs.specs.{declared.{Caps.{Caps}, Fault.{Fault}}, Caps.{check_caps}}
use Rattle.dsa_book.specs.declared.{answer.Ticket.{Ticket}, answer.Reply.{Reply}}
use Rattle.dsa_book.specs.declared.answer.DispatchAnswer.TheVariants.{Taken}
use Rattle.dsa_book.specs.declared.event.{Event.{Event}, Step.{Step}}
use Rattle.dsa_book.specs.{State.{State}, Machine.{next, full_reply, reply_of}, Choice.{from_queue}, Work.{qualifies}}
use Rattle.dsa_book.proofs.{Nexts.{next-is}, EqualReplies.{equal-replies}}
use Rattle.dsa_answers.proofs.Alike.{alike-qualifies}
use Rattle.dsa_device.specs.Running.{Running, running_at_first, after_answer, IsReplay}
use Rattle.dsa_device.proofs.Steps.{answered_by_cases}
use Rattle.dsa_scenario.specs.declared.actions.BadWord.{BadWord}
use Rattle.dsa_scenario.specs.declared.actions.Action.{Action, TheVariants.{Ask, Finish, Refuse}}
use Rattle.dsa_scenario.specs.declared.run.Record.{Record, TheVariants.{Stepped, Refused}}
use Rattle.dsa_scenario.specs.{Lines.{record_text}, Steps.{standing}}
use Rattle.dsa_scenario.specs.Run.{ticket_given_by, event_of, answered_by, Leads, IsTable}
use Rattle.dsa_explain_lines.specs.Parts.{part_of}
use Rattle.dsa_conform.specs.declared.{way.Way.{Way}, told.{Told.{Told}, Line.{Line}}}
use Rattle.dsa_conform.specs.Allowed.{IsAllowed, AreSeenAlike}
use Rattle.dsa_conform.specs.Lines.{allowed_line}
use Rattle.dsa_conform.specs.Against.{fact_against}
use Rattle.dsa_conform.specs.Run.{IsFact, IsFollowedTo, IsDifference, IsAllowedLine, AreAllLines}
use Rattle.dsa_conform.specs.Seen.{Seen, shows}
use Rattle.dsa_conform.specs.ToldLines.{IsTextTold, AreLinesTold, fact_told, line_as}
use Rattle.dsa_conform.specs.Ways.{AreDevicesAlike, IsNamedEnd, RunFrom, queue_of_reply, queue_of_record, queues_taken}
use Rattle.dsa_conform.specs.Ways.{IsOneWay, IsFork, IsAmong, Covers, IsTold, AllFollow, AllAreAmong, HasOne}
use Rattle.dsa_conform.specs.Ways.{IsReadTo, IsOn, IsFollowedOn, IsWayBy, IsAdded, AreAdded, IsGone, IsOneGone, AreGone}
use Rattle.dsa_conform.specs.Ways.{AreFollowed, AreGoneOn, AreOn, IsGoneOn, AreNamedEnds}
use Rattle.dsa_conform.proofs.Choices.{empty_list, filled_list, all_in, contains_in, in_map, map_in, takes_from}
use Rattle.dsa_conform.proofs.Choices.{is_dispatch, answered_otherwise}
use Rattle.dsa_conform.proofs.Runs.{ends_with, run_push, run_of, IsGood, good_run, good_at_first}
use Rattle.dsa_conform.proofs.Runs.{stay_alike, same_runs, queues_told, queues_of_run}
use Rattle.dsa_conform.proofs.SameLines.{same_line}
use Rattle.dsa_conform.proofs.Walks.{followed_more, shown_run, stands_at}

-- ---- devices that are alike

self : (d : Running) → AreDevicesAlike d d
self d = record {
  caps = refl;
  capacity = refl;
  count = refl;
  states = record { setup = refl; entries = refl; notes = refl; active = refl };
}

both : (a b c : Running) → AreDevicesAlike a b → AreDevicesAlike b c → AreDevicesAlike a c
both a b c h k = record {
  caps = h.caps ∙ k.caps;
  capacity = h.capacity ∙ k.capacity;
  count = h.count ∙ k.count;
  states = record {
    setup = h.states.setup ∙ k.states.setup;
    entries = h.states.entries ∙ k.states.entries;
    notes = h.states.notes ∙ k.states.notes;
    active = h.states.active ∙ k.states.active;
  };
}

among : (d e : Running) (ways : List Way) → AreDevicesAlike d e → IsAmong e ways → IsAmong d ways
among d e ways h k = (k.0, k.1, both d e k.0.device h k.2)

-- ---- a device that has come so far

pub first_replay : (caps : Caps) (capacity : ℕ) (done : List (Action × Seen)) (number : ℕ) (now : Running)
    (tickets : List Ticket) → IsFollowedTo caps capacity done number now tickets
    → IsReplay (running_at_first caps capacity)
first_replay caps capacity done number now tickets h = record {
  caps = subst (λ c. IsTrue (check_caps c)) h.run.same_caps h.replay.caps;
  bounded = subst (λ c. c ≤ 2 ^ 20) h.run.same_capacity h.replay.bounded;
  within = omega arith;
  legal = refl;
  replayed = refl;
}

pub run_way : (caps : Caps) (capacity : ℕ) (done : List (Action × Seen)) (number : ℕ) (now : Running)
    (tickets : List Ticket) (h : IsFollowedTo caps capacity done number now tickets)
    → RunFrom [] (running_at_first caps capacity) done h.records now
run_way caps capacity done number now tickets h =
    subst (λ d. RunFrom [] (running_at_first caps capacity) done h.records d)
    (stands_at caps capacity done number now tickets h)
    (run_of caps capacity done h.records (first_replay caps capacity done number now tickets h)
    (shown_run caps capacity done number now tickets h))

pub good_way : (caps : Caps) (capacity : ℕ) (done : List (Action × Seen)) (number : ℕ) (now : Running)
    (tickets : List Ticket) (h : IsFollowedTo caps capacity done number now tickets) → IsGood h.records now
good_way caps capacity done number now tickets h =
    good_run [] (running_at_first caps capacity) done h.records now
    (good_at_first caps capacity (first_replay caps capacity done number now tickets h))
    (run_way caps capacity done number now tickets h)

-- the queues that it took from are those that its records tell
queues_way : (caps : Caps) (capacity : ℕ) (done : List (Action × Seen)) (number : ℕ) (now : Running)
    (tickets : List Ticket) (h : IsFollowedTo caps capacity done number now tickets)
    → queues_taken now.history ≡ queues_told h.records
queues_way caps capacity done number now tickets h =
    ap (λ (d : Running). queues_taken d.history) (sym (stands_at caps capacity done number now tickets h))
    ∙ queues_of_run h.records

-- ---- one way to go on

pub covers_one : (caps : Caps) (capacity : ℕ) (done : List (Action × Seen)) (here : Action × Seen) (number : ℕ)
    (now : Running) (tickets : List Ticket) (new : Way) (entry : Record)
    (h : IsFollowedTo caps capacity done number now tickets) → IsNamedEnd here.0
    → IsOneWay now (event_of h.records here.0) here.1 → answered_by entry ≡ event_of h.records here.0
    → Leads now entry new.device → shows here.1 entry ≡ true
    → Covers now (event_of h.records here.0) here.1 (new ∷ [])
covers_one caps capacity done here number now tickets new entry h named one answers leads shown =
    λ other after others on seen.
    let good = good_way caps capacity done number now tickets h in
    let same : queue_of_record other ≡ queue_of_record entry =
    one other entry (record { answers = others; after = after; leads = on })
    (record { answers = answers; after = new.device; leads = leads }) seen shown in (
      new,
      inl refl,
      (stay_alike h.records h.records now now after new.device here.0 other entry named good good (self now) others
          answers on leads (λ i k first second. same_Some i k (sym first ∙ same ∙ second))).devices,
    )

-- a step that goes on by an answer
pub goes_by : (caps : Caps) (capacity : ℕ) (done : List (Action × Seen)) (here : Action × Seen) (number : ℕ)
    (now : Running) (tickets : List Ticket) (new : Way) (entry : Record) (asked : Result Event BadWord)
    → ((before : List Record) → IsTable (slice_get tickets) before → asked ≡ event_of before here.0)
    → ((h : IsFollowedTo caps capacity done number now tickets) → IsOneWay now (event_of h.records here.0) here.1)
    → answered_by entry ≡ asked → Leads now entry new.device
    → new.tickets.items ≡ tickets ++ filter_map ticket_given_by (entry ∷ []) → shows here.1 entry ≡ true
    → IsNamedEnd here.0 → (h : IsFollowedTo caps capacity done number now tickets)
    → IsFollowedOn caps capacity (done ++ here ∷ []) (number + 1) new None
    × IsOn now (event_of h.records here.0) here.1 new None
goes_by caps capacity done here number now tickets new entry asked asks one answers leads noted shown named h =
    let answered : answered_by entry ≡ event_of h.records here.0 = answers ∙ asks h.records h.table in (
      followed_more caps capacity now new.device done here number tickets new.tickets.items entry
          (λ before t. answers ∙ asks before t) leads noted shown h,
      (
        covers_one caps capacity done here number now tickets new entry h named (one h) answered leads shown,
        (entry, record { answers = answered; after = new.device; leads = leads }),
      ),
    )

-- ---- what answers in a device that is alike

full-queue : (e : Event) → queue_of_reply (full_reply e) ≡ None
full-queue event.Poll = refl
full-queue _ = refl

-- an entry is taken by an engine that qualifies
took_next : (s t : State) (e : Event) (r : Reply) (q : ℕ) → next s e r ≡ Some t → queue_of_reply r ≡ Some q
    → (engine : ℕ) × (e ≡ event.Dispatch engine) × (qualifies s.work engine q ≡ true)
took_next s t (event.Dispatch engine) (reply.Dispatch (Taken ticket p)) q h is = (
  engine,
  refl,
  subst (λ k. qualifies s.work engine k ≡ true) (same_Some p q is)
      (next-is s t (event.Dispatch engine) (reply.Dispatch (Taken ticket p)) h).0,
)
took_next s t e (reply.Dispatch (Taken ticket p)) q h is =
    let n = next-is s t e (reply.Dispatch (Taken ticket p)) h in
    not-both (is_dispatch (reply_of s e (from_queue p)).0) (ap (λ (x : Reply × State). is_dispatch x.0) n.1)
    (answered_otherwise s e (from_queue p) tt)
took_next s t e r q h is = absurd cc

pub record Took (d : Running) (e : Event) (q : ℕ) : Type 0 where
  pub engine : ℕ
  pub asked : e ≡ event.Dispatch engine
  pub room : (length d.history == d.capacity) ≡ false
  pub may : qualifies d.state.work engine q ≡ true

took : (d m : Running) (x : Step) (q : ℕ) → after_answer d x.event x.reply ≡ Some m → queue_of_reply x.reply ≡ Some q
    → Took d x.event q
took d m x q h is =
    answered_by_cases (λ t. Took d x.event q) d m x.event x.reply h
    (λ full told.
    let none : Some q ≡ None = sym is ∙ ap queue_of_reply (equal-replies x.reply (full_reply x.event) told)
    ∙ full-queue x.event in absurd cc)
    (λ s room n. let by = took_next d.state s x.event x.reply q n is in
    record { engine = by.0; asked = by.1; room = room; may = by.2 })

-- the same dispatch is asked whatever came before
same-dispatch : (b c : List Record) (a : Action) (engine : ℕ) → Ok (event.Dispatch engine) ≡ event_of b a
    → event_of c a ≡ Ok (event.Dispatch engine)
same-dispatch b c (Ask e) engine h = sym h
same-dispatch b c (Finish e name o) engine h = absurd cc
same-dispatch b c (Refuse fault) engine h = absurd cc

-- an answer of the other device that looks alike, after which both are alike
pub record Meets (asked : Result Event BadWord) (e m : Running) (r : Record) : Type 0 where
  pub answer : Record
  pub after : Running
  pub answers : answered_by answer ≡ asked
  pub leads : Leads e answer after
  pub devices : AreDevicesAlike m after
  pub seen : AreSeenAlike r answer

meets : (b c : List Record) (d e m : Running) (a : Action) (r : Record) → IsNamedEnd a → IsGood b d → IsGood c e
    → AreDevicesAlike d e → answered_by r ≡ event_of b a → Leads d r m
    → ((entry : Record) × IsAllowed e (event_of c a) entry) → Meets (event_of c a) e m r
meets b c d e m a r named good fine alike asks leads may = at (queue_of_record r) refl
  where
    by : (q : Record) (is : IsAllowed e (event_of c a) q)
        → ((i k : ℕ) → queue_of_record r ≡ Some i → queue_of_record q ≡ Some k → i ≡ k) → Meets (event_of c a) e m r
    by q is take =
        let s = stay_alike b c d e m is.after a r q named good fine alike asks is.answers leads is.leads take in
        record {
          answer = q;
          after = is.after;
          answers = is.answers;
          leads = is.leads;
          devices = s.devices;
          seen = s.seen;
        }

    taken : (x : Record) (q : ℕ) → x ≡ r → queue_of_record x ≡ Some q → Meets (event_of c a) e m r
    taken (Refused fault) q same is = absurd cc
    taken (Stepped x) q same is =
        let t = took d m x q (subst (λ y. Leads d y m) (sym same) leads) is in
        let asked : Ok x.event ≡ event_of b a = subst (λ y. answered_by y ≡ event_of b a) (sym same) asks in
        let ask : event_of c a ≡ Ok (event.Dispatch t.engine) =
        same-dispatch b c a t.engine (ap (λ y. Ok y) (sym t.asked) ∙ asked) in
        let room : (length e.history == e.capacity) ≡ false =
        sym (ap (λ k. k == d.capacity) alike.count ∙ ap (λ k. length e.history == k) alike.capacity) ∙ t.room in
        let can : qualifies e.state.work t.engine q ≡ true =
        sym (alike-qualifies d.state e.state alike.states t.engine q) ∙ t.may in
        let found = takes_from e t.engine q room can in
        by found.0 (subst (λ k. IsAllowed e k found.0) (sym ask) found.1)
        (λ i k first second.
        same_Some i k (sym first ∙ ap queue_of_record (sym same) ∙ is ∙ sym found.2 ∙ second))

    at : (o : Option ℕ) → queue_of_record r ≡ o → Meets (event_of c a) e m r
    at None is = by may.0 may.1 (λ i k first second. let none : Some i ≡ None = sym first ∙ is in absurd cc)
    at (Some q) is = taken r q refl is

-- ---- a fork

-- the way that takes from the queue is alike what comes of the answer
forked_alike : (caps : Caps) (capacity : ℕ) (steps : List Data) (observed : List (Action × Seen)) (number : ℕ)
    (here : Action × Seen) (now after : Running) (tickets : List Ticket) (entry : Record) (queue : ℕ) (way : Way)
    → IsReadTo steps observed number here → (h : IsFollowedTo caps capacity (take number observed) number now tickets)
    → answered_by entry ≡ event_of h.records here.0 → Leads now entry after → shows here.1 entry ≡ true
    → queue_of_record entry ≡ Some queue
    → IsWayBy caps capacity steps (number + 1) (queues_taken now.history ++ queue ∷ []) way
    → AreDevicesAlike after way.device
forked_alike caps capacity steps observed number here now after tickets entry queue way read h answers
    leads shown is by =
    let done = take number observed in
    let first = running_at_first caps capacity in
    let i = first_replay caps capacity done number now tickets h in
    let k : IsFollowedTo caps capacity (done ++ here ∷ []) (number + 1) way.device way.tickets.items =
    subst (λ l. IsFollowedTo caps capacity l (number + 1) way.device way.tickets.items) read.more
    (by.follows observed read.read) in
    let run : RunFrom [] first (done ++ here ∷ []) (h.records ++ entry ∷ []) after =
    run_push [] first now after done here h.records entry (run_way caps capacity done number now tickets h)
    (record { answers = answers; leads = leads; shown = shown }) in
    let more : queues_told (h.records ++ entry ∷ []) ≡ queues_told h.records ++ queue ∷ [] =
    filter_map-append queue_of_record h.records (entry ∷ []) ∙ ap (λ l. queues_told h.records ++ l) (rw is refl) in
    let same : queues_told (h.records ++ entry ∷ []) ≡ queues_told k.records =
    more ∙ ap (λ l. l ++ queue ∷ []) (sym (queues_way caps capacity done number now tickets h)) ∙ sym by.queues
    ∙ queues_way caps capacity (done ++ here ∷ []) (number + 1) way.device way.tickets.items k in
    same_runs [] [] first first after way.device (done ++ here ∷ []) (h.records ++ entry ∷ []) k.records
    (named-push done here read.named read.is_named) (good_at_first caps capacity i) (good_at_first caps capacity i)
    (self first) run (run_way caps capacity (done ++ here ∷ []) (number + 1) way.device way.tickets.items k) same
  where
    named-push : (os : List (Action × Seen)) (o : Action × Seen) → AreNamedEnds os → IsNamedEnd o.0
        → AreNamedEnds (os ++ o ∷ [])
    named-push [] o h k = (k, tt)
    named-push (x ∷ os) o h k = (h.0, named-push os o h.1 k)

pub gone_forked : (caps : Caps) (capacity : ℕ) (steps : List Data) (here : Action × Seen) (number : ℕ) (way : Way)
    (old new : List Way) (tolds : List Told) (asked : Result Event BadWord) (q : ℕ) (qs choices : List ℕ)
    → ((before : List Record) → IsTable (slice_get way.tickets.items) before → asked ≡ event_of before here.0)
    → IsFork way.device asked here.1 (q ∷ qs) → choices ≡ queues_taken way.device.history
    → AreAdded caps capacity steps number choices (q ∷ qs) old new → (observed : List (Action × Seen))
    → IsReadTo steps observed number here
    → (h : IsFollowedTo caps capacity (take number observed) number way.device way.tickets.items)
    → IsGone caps capacity (take number observed) here number way.device (event_of h.records here.0) old tolds new tolds
gone_forked caps capacity steps here number way old new tolds asked q qs choices asks fork chosen added
    observed read h =
    let done = take number observed in
    let ask : asked ≡ event_of h.records here.0 = asks h.records h.table in
    let fork : IsFork way.device (event_of h.records here.0) here.1 (q ∷ qs) =
    subst (λ k. IsFork way.device k here.1 (q ∷ qs)) ask fork in
    let first = added.here q (inl refl) in
    record {
      each = λ other i. elim (added.each other i) [
        | inl before ↦ inl before
        | inr by ↦ inr (subst (λ l. IsFollowedTo caps capacity l (number + 1) other.device other.tickets.items)
            read.more (by.1.follows observed read.read))
      ];
      all = added.all;
      tolds = λ told i. inl i;
      kept = λ told i. i;
      covers = λ entry after answers leads shown.
          let by = fork.0 entry (record { answers = answers; after = after; leads = leads }) shown in
          let to = added.here by.0 by.1 in
          among after to.0.device new
          (forked_alike caps capacity steps observed number here way.device after way.tickets.items entry
          by.0 to.0 read h answers leads shown by.2
          (subst (λ l. IsWayBy caps capacity steps (number + 1) (l ++ by.0 ∷ []) to.0) chosen to.1))
          to.2;
      may = let one = fork.1 q (inl refl) in (one.0, one.1);
      some = inl (first.2.0, first.2.1);
    }

-- ---- no fork

pub gone_on : (caps : Caps) (capacity : ℕ) (done : List (Action × Seen)) (here : Action × Seen) (number : ℕ)
    (now : Running) (asked : Result Event BadWord) (way : Way) (old new : List Way) (tolds : List Told)
    → IsFollowedOn caps capacity (done ++ here ∷ []) (number + 1) way None → IsOn now asked here.1 way None
    → IsAdded old way new → IsGone caps capacity done here number now asked old tolds new tolds
gone_on caps capacity done here number now asked way old new tolds follows on added = record {
  each = λ other i. elim (added.each other i) [
    | inl before ↦ inl before
    | inr same ↦ inr (subst (λ (w : Way). IsFollowedTo caps capacity (done ++ here ∷ []) (number + 1) w.device
        w.tickets.items) same follows)
  ];
  all = added.all;
  tolds = λ told i. inl i;
  kept = λ told i. i;
  covers = λ entry after answers leads shown.
      let to = on.0 entry after answers leads shown in
      among after way.device new
      (subst (λ (w : Way). AreDevicesAlike after w.device) (only to.0 way to.1) to.2) added.here;
  may = on.1;
  some = inl (added.here.0, added.here.1);
}
  where
    only : (w v : Way) → In w (v ∷ []) → w ≡ v
    only w v (inl same) = sym same
    only w v (inr none) = absurd none

pub gone_told : (caps : Caps) (capacity : ℕ) (done : List (Action × Seen)) (here : Action × Seen) (number : ℕ)
    (now : Running) (asked : Result Event BadWord) (old : List Way) (before : List Told) (told : Told)
    → IsTold now asked here.1 told → IsGone caps capacity done here number now asked old before old
    (before ++ told ∷ [])
gone_told caps capacity done here number now asked old before told is = record {
  each = λ other i. inl i;
  all = λ other i. i;
  tolds = λ other i. elim (In-push other before told i) [
    | inl earlier ↦ inl earlier
    | inr same ↦ inr (subst (IsTold now asked here.1) same is)
  ];
  kept = λ other i. In-left other before (told ∷ []) i;
  covers = λ entry after answers leads shown.
      not-both (shows here.1 entry) shown
      (is.none entry (record { answers = answers; after = after; leads = leads }));
  may = (is.some, is.is_some);
  some = inr (told, In-right told before (told ∷ []) (inl refl), is);
}

-- ---- all of them

pub none_gone : (caps : Caps) (capacity : ℕ) (done : List (Action × Seen)) (here : Action × Seen) (number : ℕ)
    (new : List Way) (tolds : List Told) → new ≡ [] → tolds ≡ [] → AreGone caps capacity done here number [] new tolds
none_gone caps capacity done here number new tolds none nothing = record {
  each = λ way i. absurd (subst (In way) none i);
  told = λ told i. absurd (subst (In told) nothing i);
  all = λ way i. absurd i;
}

some_more : (old new : List Way) → ((way : Way) → In way old → In way new) → HasOne old → HasOne new
some_more old new all some = (some.0, all some.0 some.1)

one_more_gone : (now : Running) (asked : Result Event BadWord) (seen : Seen) (old new : List Way)
    (before after : List Told)
    → ((way : Way) → In way old → In way new) → ((told : Told) → In told before → In told after)
    → IsOneGone now asked seen old before → IsOneGone now asked seen new after
one_more_gone now asked seen old new before after all kept one = record {
  covers = λ entry to answers leads shown.
      let k = one.covers entry to answers leads shown in (k.0, all k.0 k.1, k.2);
  may = one.may;
  some = elim one.some [
    | inl some ↦ inl (some_more old new all some)
    | inr told ↦ inr (told.0, kept told.0 told.1, told.2)
  ];
}

pub more_gone : (caps : Caps) (capacity : ℕ) (done : List (Action × Seen)) (here : Action × Seen) (number : ℕ)
    (ways old new : List Way) (way : Way) (before after : List Told)
    → (h : IsFollowedTo caps capacity done number way.device way.tickets.items)
    → AreGone caps capacity done here number ways old before
    → IsGone caps capacity done here number way.device (event_of h.records here.0) old before new after
    → AreGone caps capacity done here number (ways ++ way ∷ []) new after
more_gone caps capacity done here number ways old new way before after h gone one = record {
  each = λ other i. elim (one.each other i) [ inl earlier ↦ gone.each other earlier | inr follows ↦ follows ];
  told = λ told i. elim (one.tolds told i) [
    | inl earlier ↦
        let by = gone.told told earlier in (by.0, In-left by.0 ways (way ∷ []) by.1, by.2)
    | inr is ↦ (way, In-right way ways (way ∷ []) (inl refl), (h, is))
  ];
  all = λ other i. elim (In-push other ways way i) [
    | inl earlier ↦
        let by = gone.all other earlier in (
          by.0,
          one_more_gone other.device (event_of by.0.records here.0) here.1 old new before after one.all
              one.kept by.1,
        )
    | inr same ↦
        subst (λ (w : Way). (k : IsFollowedTo caps capacity done number w.device w.tickets.items)
        × IsOneGone w.device (event_of k.records here.0) here.1 new after) same
        (h, record { covers = one.covers; may = one.may; some = one.some })
  ];
}

-- ---- all runs

goes_among : (caps : Caps) (capacity : ℕ) (done : List (Action × Seen)) (here : Action × Seen) (number : ℕ)
    (old new : List Way) (tolds : List Told) → IsReplay (running_at_first caps capacity) → IsNamedEnd here.0
    → AreFollowed caps capacity done number old
    → AreGone caps capacity done here number old new tolds → AllAreAmong caps capacity (done ++ here ∷ []) new
goes_among caps capacity done here number old new tolds i named followed gone records after run =
    let first = running_at_first caps capacity in
    let e = ends_with [] first done here records after run in
    let w = followed.all e.first e.at e.run in
    let one = gone.all w.0 w.1 in
    let good = good_run [] first done e.first e.at (good_at_first caps capacity i) e.run in
    let fine = good_way caps capacity done number w.0.device w.0.tickets.items one.0 in
    let m = meets e.first one.0.records e.at w.0.device after here.0 e.last named good fine w.2 e.step.answers
    e.step.leads one.1.may in
    among after m.after new m.devices
    (one.1.covers m.answer m.after m.answers m.leads (sym (m.seen.shown here.1) ∙ e.step.shown))

pub replay_first : (caps : Caps) (capacity : ℕ) (done : List (Action × Seen)) (number : ℕ) (ways : List Way)
    → AreFollowed caps capacity done number ways → IsReplay (running_at_first caps capacity)
replay_first caps capacity done number ways h =
    let way = h.some in
    first_replay caps capacity done number way.0.device way.0.tickets.items (h.each way.0 way.1)

pub all_step : (caps : Caps) (capacity : ℕ) (done : List (Action × Seen)) (here : Action × Seen) (number : ℕ)
    (old new : List Way) (tolds : List Told) → IsNamedEnd here.0 → AreFollowed caps capacity done number old
    → AreGone caps capacity done here number old new tolds → HasOne new
    → AreFollowed caps capacity (done ++ here ∷ []) (number + 1) new
all_step caps capacity done here number old new tolds named followed gone some = record {
  each = gone.each;
  all = goes_among caps capacity done here number old new tolds
      (replay_first caps capacity done number old followed) named
      followed gone;
  some = some;
}

-- ---- where none goes on

one_line : (caps : Caps) (capacity : ℕ) (done : List (Action × Seen)) (here : Action × Seen) (number : ℕ)
    (way : Way) (told : Told) (line : Line) (h : IsFollowedTo caps capacity done number way.device way.tickets.items)
    → IsTold way.device (event_of h.records here.0) here.1 told → In line.entry told.allowed.items
    → string_bytes line.text ≡ allowed_line (string_bytes told.why) line.entry
    → IsAllowedLine caps capacity done here.0 line.entry (string_bytes line.text)
one_line caps capacity done here number way told line h is i same =
    let asked = event_of h.records here.0 in
    let at = stands_at caps capacity done number way.device way.tickets.items h in
    record {
      records = h.records;
      run = shown_run caps capacity done number way.device way.tickets.items h;
      allowed = subst (λ d. IsAllowed d asked line.entry) (sym at)
          (all_in (IsAllowed way.device asked) told.allowed.items line.entry is.all.each i);
      told = same ∙ ap (λ w. allowed_line w line.entry) (is.why ∙ ap (λ d. part_of d asked) (sym at));
    }

all_lines : (caps : Caps) (capacity : ℕ) (done : List (Action × Seen)) (here : Action × Seen) (number : ℕ)
    (old : List Way) (tolds : List Told) (lines : List Line) → IsNamedEnd here.0
    → AreFollowed caps capacity done number old → AreGone caps capacity done here number old [] tolds
    → AreLinesTold tolds lines → AreAllLines caps capacity done here.0 (map line_as lines)
all_lines caps capacity done here number old tolds lines named followed gone of_told = record {
  each = λ line i.
      let x = in_map line_as lines line i in
      let t = of_told.each x.0 x.1 in
      let by = gone.told t.0 t.1 in
      subst (λ (l : Record × List ℕ). IsAllowedLine caps capacity done here.0 l.0 l.1) x.2
      (one_line caps capacity done here number by.0 t.0 x.0 by.2.0 by.2.1 t.2.0 t.2.1);
  all = λ records run entry is.
      let i = replay_first caps capacity done number old followed in
      let first = running_at_first caps capacity in
      let now = standing caps capacity records in
      let from = run_of caps capacity done records i run in
      let w = followed.all records now from in
      let one = gone.all w.0 w.1 in
      let good = good_run [] first done records now (good_at_first caps capacity i) from in
      let fine = good_way caps capacity done number w.0.device w.0.tickets.items one.0 in
      let m = meets records one.0.records now w.0.device is.after here.0 entry named good fine w.2 is.answers is.leads
      one.1.may in
      elim one.1.some [
        | inl some ↦ absurd some.1
        | inr told ↦
            let asked = event_of one.0.records here.0 in
            let c = told.2.all.all m.answer (record { answers = m.answers; after = m.after; leads = m.leads }) in
            let x = in_map record_text told.0.allowed.items (record_text m.answer)
            (contains_in (map record_text told.0.allowed.items) (record_text m.answer) c) in
            let l = of_told.all told.0 told.1 x.0 x.1 in
            let at = stands_at caps capacity done number w.0.device w.0.tickets.items one.0 in (
              line_as l.0,
              map_in line_as lines l.0 l.1,
              (
                string_bytes told.0.why,
                record {
                  records = one.0.records;
                  run = shown_run caps capacity done number w.0.device w.0.tickets.items one.0;
                  is = told.2.why ∙ ap (λ d. part_of d asked) (sym at);
                },
                l.2 ∙ same_line (string_bytes told.0.why) x.0 entry (x.2 ∙ sym m.seen.texts),
              ),
            )
      ];
  listed = of_told.listed;
}

-- the fact of the first device, where there is a line
first_fact : (caps : Caps) (capacity : ℕ) (done : List (Action × Seen)) (here : Action × Seen) (number : ℕ)
    (old : List Way) (tolds : List Told) (lines : List Line) → (line : Record × List ℕ) × In line (map line_as lines)
    → AreLinesTold tolds lines → AreGone caps capacity done here number old [] tolds
    → IsFact caps capacity done here (fact_told tolds)
first_fact caps capacity done here number old [] lines line of_told gone =
    let x = in_map line_as lines line.0 line.1 in
    let t = of_told.each x.0 x.1 in
    absurd t.1
first_fact caps capacity done here number old (told ∷ tolds) lines line of_told gone =
    let by = gone.told told (inl refl) in
    let way = by.0 in
    let h = by.2.0 in
    let asked = event_of h.records here.0 in
    let at = stands_at caps capacity done number way.device way.tickets.items h in
    record {
      records = h.records;
      run = shown_run caps capacity done number way.device way.tickets.items h;
      is = by.2.1.against ∙ ap (λ d. fact_against d asked here.1) (sym at);
    }

pub all_differ : (caps : Caps) (capacity : ℕ) (done : List (Action × Seen)) (here : Action × Seen) (number : ℕ)
    (old new : List Way) (tolds : List Told) (text : List ℕ) → IsNamedEnd here.0
    → AreFollowed caps capacity done number old → AreGone caps capacity done here number old new tolds → new ≡ []
    → IsTextTold number here.1 tolds text → IsDifference caps capacity done here number text
all_differ caps capacity done here number old new tolds text named followed gone none told =
    let gone : AreGone caps capacity done here number old [] tolds =
    subst (λ n. AreGone caps capacity done here number old n tolds) none gone in
    let way = followed.some in
    let h = followed.each way.0 way.1 in
    let i = replay_first caps capacity done number old followed in
    let lines = all_lines caps capacity done here number old tolds told.lines named followed gone told.of_told in
    let one = gone.all way.0 way.1 in
    let asked = event_of one.0.records here.0 in
    let entry = one.1.may.0 in
    let at = stands_at caps capacity done number way.0.device way.0.tickets.items one.0 in
    let line = lines.all one.0.records (shown_run caps capacity done number way.0.device way.0.tickets.items one.0)
    entry (subst (λ d. IsAllowed d asked entry) (sym at) one.1.may.1) in
    record {
      some = h.records;
      run = shown_run caps capacity done number way.0.device way.0.tickets.items h;
      none = λ records run.
          (goes_among caps capacity done here number old [] tolds i named followed gone records
          (standing caps capacity records) (run_of caps capacity (done ++ here ∷ []) records i run)).1;
      lines = map line_as told.lines;
      told = lines;
      any = (line.0, line.1);
      fact = fact_told tolds;
      against = first_fact caps capacity done here number old tolds told.lines (line.0, line.1) told.of_told gone;
      is = told.is;
    }

-- ---- one device alone

-- at first one is followed
pub one_at_first : (caps : Caps) (capacity : ℕ) (way : Way)
    → IsFollowedTo caps capacity [] 0 way.device way.tickets.items → AreFollowed caps capacity [] 0 (way ∷ [])
one_at_first caps capacity way h = record {
  each = only;
  all = all;
  some = (way, inl refl);
}
  where
    only : (other : Way) → In other (way ∷ [])
        → IsFollowedTo caps capacity [] 0 other.device other.tickets.items
    only other (inl same) =
        subst (λ (w : Way). IsFollowedTo caps capacity [] 0 w.device w.tickets.items) same h
    only other (inr none) = absurd none

    none : (records : List Record) → RunFrom [] (running_at_first caps capacity) [] records way.device
        → running_at_first caps capacity ≡ way.device
    none [] run = run
    none (r ∷ rs) run = absurd run

    at : way.device ≡ running_at_first caps capacity
    at = sym (none h.records (run_way caps capacity [] 0 way.device way.tickets.items h))

    all : (records : List Record) (after : Running) → RunFrom [] (running_at_first caps capacity) [] records after
        → IsAmong after (way ∷ [])
    all [] after run = (way, inl refl, subst (λ d. AreDevicesAlike d way.device) (at ∙ run) (self way.device))
    all (r ∷ rs) after run = absurd run

-- what has become of it
pub one_gone : (caps : Caps) (capacity : ℕ) (done : List (Action × Seen)) (here : Action × Seen) (number : ℕ)
    (way new : Way) (h : IsFollowedTo caps capacity done number way.device way.tickets.items)
    → IsFollowedOn caps capacity (done ++ here ∷ []) (number + 1) new None
    → IsOn way.device (event_of h.records here.0) here.1 new None
    → AreGone caps capacity done here number (way ∷ []) (new ∷ []) []
one_gone caps capacity done here number way new h follows on =
    more_gone caps capacity done here number [] [] (new ∷ []) way [] [] h
    (none_gone caps capacity done here number [] [] refl refl)
    (gone_on caps capacity done here number way.device (event_of h.records here.0) new [] (new ∷ []) [] follows on
    (record {
      each = λ other i. pushed other i;
      all = λ other i. absurd i;
      here = (new, inl refl, self new.device);
      once = λ among. absurd among.1;
    }))
  where
    pushed : (other : Way) → In other (new ∷ []) → In other [] ⊎ (new ≡ other)
    pushed other (inl same) = inr same
    pushed other (inr none) = absurd none

pub one_told : (caps : Caps) (capacity : ℕ) (done : List (Action × Seen)) (here : Action × Seen) (number : ℕ)
    (way : Way) (told : Told) (h : IsFollowedTo caps capacity done number way.device way.tickets.items)
    → IsTold way.device (event_of h.records here.0) here.1 told
    → AreGone caps capacity done here number (way ∷ []) [] (told ∷ [])
one_told caps capacity done here number way told h is =
    more_gone caps capacity done here number [] [] [] way [] (told ∷ []) h
    (none_gone caps capacity done here number [] [] refl refl)
    (gone_told caps capacity done here number way.device (event_of h.records here.0) [] [] told is)

-- ---- the calls

pub added_before : (old : List Way) (way : Way) → IsAmong way.device old → IsAdded old way old
added_before old way here =
    record { each = λ other i. inl i; all = λ other i. i; here = here; once = λ among. refl }

pub added_behind : (old new : List Way) (way : Way) → ¬ IsAmong way.device old → new ≡ old ++ way ∷ []
    → IsAdded old way new
added_behind old new way none is = record {
  each = λ other i. In-push other old way (subst (In other) is i);
  all = λ other i. subst (In other) (sym is) (In-left other old (way ∷ []) i);
  here = (way, subst (In way) (sym is) (In-right way old (way ∷ []) (inl refl)), self way.device);
  once = λ among. absurd (none among);
}

pub none_added : (caps : Caps) (capacity : ℕ) (steps : List Data) (number : ℕ) (choices : List ℕ) (old : List Way)
    → AreAdded caps capacity steps number choices [] old old
none_added caps capacity steps number choices old =
    record { each = λ other i. inl i; all = λ other i. i; here = λ queue i. absurd i }

pub more_added : (caps : Caps) (capacity : ℕ) (steps : List Data) (number : ℕ) (choices queues : List ℕ) (q : ℕ)
    (old mid new : List Way) (way : Way) → AreAdded caps capacity steps number choices queues old mid
    → IsWayBy caps capacity steps (number + 1) (choices ++ q ∷ []) way → IsAdded mid way new
    → AreAdded caps capacity steps number choices (queues ++ q ∷ []) old new
more_added caps capacity steps number choices queues q old mid new way before by added = record {
  each = λ other i. elim (added.each other i) [
    | inl earlier ↦ before.each other earlier
    | inr same ↦ inr (q, subst (IsWayBy caps capacity steps (number + 1) (choices ++ q ∷ [])) same by)
  ];
  all = λ other i. added.all other (before.all other i);
  here = λ queue i. elim (In-push queue queues q i) [
    | inl earlier ↦
        let h = before.here queue earlier in (h.0, h.1, (h.2.0, added.all h.2.0 h.2.1, h.2.2))
    | inr same ↦
        (way, subst (λ k. IsWayBy caps capacity steps (number + 1) (choices ++ k ∷ []) way) same by, added.here)
  ];
}

-- a fork, by its queues as a list
pub forked : (caps : Caps) (capacity : ℕ) (steps : List Data) (here : Action × Seen) (number : ℕ) (way : Way)
    (old new : List Way) (tolds : List Told) (asked : Result Event BadWord) (queues choices : List ℕ)
    → ((before : List Record) → IsTable (slice_get way.tickets.items) before → asked ≡ event_of before here.0)
    → (length queues == 0) ≡ false → IsFork way.device asked here.1 queues → choices ≡ queues_taken way.device.history
    → AreAdded caps capacity steps number choices queues old new → (observed : List (Action × Seen))
    → IsReadTo steps observed number here
    → (h : IsFollowedTo caps capacity (take number observed) number way.device way.tickets.items)
    → IsGone caps capacity (take number observed) here number way.device (event_of h.records here.0) old tolds new tolds
forked caps capacity steps here number way old new tolds asked [] choices asks some fork chosen added observed read h =
    let nothing : List ℕ = [] in absurd (filled_list nothing some refl)
forked caps capacity steps here number way old new tolds asked (q ∷ qs) choices asks some fork chosen
    added observed read h =
    gone_forked caps capacity steps here number way old new tolds asked q qs choices asks fork chosen added
    observed read h

-- and none
pub not_forked : (now : Running) (asked : Result Event BadWord) (seen : Seen) (queues : List ℕ)
    → (length queues == 0) ≡ true → IsFork now asked seen queues → IsOneWay now asked seen
not_forked now asked seen [] none fork = fork
not_forked now asked seen (q ∷ qs) none fork = let e : q ∷ qs ≡ [] = empty_list (q ∷ qs) none in absurd cc

-- a list of devices that has one
pub has_one : (ways : List Way) → (length ways == 0) ≡ false → HasOne ways
has_one [] some = let nothing : List Way = [] in absurd (filled_list nothing some refl)
has_one (way ∷ ways) some = (way, inl refl)

pub has_none : (ways : List Way) → (length ways == 0) ≡ true → ways ≡ []
has_none ways none = empty_list ways none

-- one device, by no fork
pub gone_alone : (caps : Caps) (capacity : ℕ) (done : List (Action × Seen)) (here : Action × Seen) (number : ℕ)
    (now : Running) (asked : Result Event BadWord) (way : Way) (old new : List Way) (tolds : List Told)
    → IsFollowedOn caps capacity (done ++ here ∷ []) (number + 1) way None × IsOn now asked here.1 way None
    → IsAdded old way new → IsGone caps capacity done here number now asked old tolds new tolds
gone_alone caps capacity done here number now asked way old new tolds h added =
    gone_on caps capacity done here number now asked way old new tolds h.0 h.1 added

-- one that tells what it allows
pub gone_telling : (caps : Caps) (capacity : ℕ) (done : List (Action × Seen)) (here : Action × Seen) (number : ℕ)
    (now : Running) (asked : Result Event BadWord) (way : Way) (old : List Way) (before after : List Told) (told : Told)
    → IsFollowedOn caps capacity (done ++ here ∷ []) (number + 1) way (Some told)
    × IsOn now asked here.1 way (Some told) → after ≡ before ++ told ∷ []
    → IsGone caps capacity done here number now asked old before old after
gone_telling caps capacity done here number now asked way old before after told h is =
    subst (λ l. IsGone caps capacity done here number now asked old before old l) (sym is)
    (gone_told caps capacity done here number now asked old before told h.1)

-- the devices that are left, and those that have gone on
pub record AreLeft (caps : Caps) (capacity : ℕ) (steps : List Data) (here : Action × Seen) (number : ℕ)
    (all rest ways : List Way) (tolds : List Told) : Type 0 where
  pub gone : List Way
  pub are : all ≡ gone ++ rest
  pub on : (observed : List (Action × Seen)) → IsReadTo steps observed number here
      → AllFollow caps capacity (take number observed) number all
      → AreGone caps capacity (take number observed) here number gone ways tolds

pub all_left : (caps : Caps) (capacity : ℕ) (steps : List Data) (here : Action × Seen) (number : ℕ)
    (all ways : List Way) (tolds : List Told) → ways ≡ [] → tolds ≡ []
    → AreLeft caps capacity steps here number all all ways tolds
all_left caps capacity steps here number all ways tolds none nothing = record {
  gone = [];
  are = refl;
  on = λ observed read follow. none_gone caps capacity (take number observed) here number ways tolds none nothing;
}

pub one_left : (caps : Caps) (capacity : ℕ) (steps : List Data) (here : Action × Seen) (number : ℕ)
    (all rest more old new : List Way) (way : Way) (before after : List Told)
    → AreLeft caps capacity steps here number all rest old before → rest ≡ way ∷ more
    → IsGoneOn caps capacity steps here number way old before new after
    → AreLeft caps capacity steps here number all more new after
one_left caps capacity steps here number all rest more old new way before after left is goes =
    let are : all ≡ left.gone ++ way ∷ more = left.are ∙ ap (λ l. left.gone ++ l) is in
    record {
      gone = left.gone ++ way ∷ [];
      are = are ∙ sym (append_assoc left.gone (way ∷ []) more);
      on = λ observed read follow.
          let h = follow way (subst (In way) (sym are) (In-right way left.gone (way ∷ more) (inl refl))) in
          more_gone caps capacity (take number observed) here number left.gone old new way before after h
          (left.on observed read follow) (goes observed read h);
    }

pub none_left : (caps : Caps) (capacity : ℕ) (steps : List Data) (here : Action × Seen) (number : ℕ)
    (all rest ways : List Way) (tolds : List Told) → AreLeft caps capacity steps here number all rest ways tolds
    → rest ≡ [] → AreGoneOn caps capacity steps here number all ways tolds
none_left caps capacity steps here number all rest ways tolds left none =
    let are : all ≡ left.gone = left.are ∙ ap (λ l. left.gone ++ l) none ∙ append-nil left.gone in
    λ observed read follow.
    subst (λ l. AreGone caps capacity (take number observed) here number l ways tolds) (sym are)
    (left.on observed read follow)

-- one step of all
pub step_on : (caps : Caps) (capacity : ℕ) (steps : List Data) (here : Action × Seen) (number : ℕ) (old new : List Way)
    (tolds : List Told) → AreGoneOn caps capacity steps here number old new tolds → (length new == 0) ≡ false
    → AreOn caps capacity steps here number old new None
step_on caps capacity steps here number old new tolds gone some = λ observed read followed.
    all_step caps capacity (take number observed) here number old new tolds read.is_named followed
    (gone observed read followed.each) (has_one new some)

pub step_differs : (caps : Caps) (capacity : ℕ) (steps : List Data) (here : Action × Seen) (number : ℕ)
    (old new : List Way) (tolds : List Told) (text : List ℕ) → AreGoneOn caps capacity steps here number old new tolds
    → (length new == 0) ≡ true → IsTextTold number here.1 tolds text
    → AreOn caps capacity steps here number old new (Some text)
step_differs caps capacity steps here number old new tolds text gone none told = λ observed read followed.
    all_differ caps capacity (take number observed) here number old new tolds text read.is_named followed
    (gone observed read followed.each) (has_none new none) told

-- one step of one device alone
pub alone_on : (caps : Caps) (capacity : ℕ) (done : List (Action × Seen)) (here : Action × Seen) (number : ℕ)
    (way new : Way) → IsNamedEnd here.0 → AreFollowed caps capacity done number (way ∷ [])
    → ((h : IsFollowedTo caps capacity done number way.device way.tickets.items)
    → IsFollowedOn caps capacity (done ++ here ∷ []) (number + 1) new None
    × IsOn way.device (event_of h.records here.0) here.1 new None)
    → AreFollowed caps capacity (done ++ here ∷ []) (number + 1) (new ∷ [])
alone_on caps capacity done here number way new named followed on =
    let h = followed.each way (inl refl) in
    let k = on h in
    all_step caps capacity done here number (way ∷ []) (new ∷ []) [] named followed
    (one_gone caps capacity done here number way new h k.0 k.1) (new, inl refl)

pub alone_differs : (caps : Caps) (capacity : ℕ) (done : List (Action × Seen)) (here : Action × Seen) (number : ℕ)
    (way new : Way) (told : Told) (text : List ℕ) → IsNamedEnd here.0 → AreFollowed caps capacity done number (way ∷ [])
    → ((h : IsFollowedTo caps capacity done number way.device way.tickets.items)
    → IsFollowedOn caps capacity (done ++ here ∷ []) (number + 1) new (Some told)
    × IsOn way.device (event_of h.records here.0) here.1 new (Some told))
    → IsTextTold number here.1 (told ∷ []) text → IsDifference caps capacity done here number text
alone_differs caps capacity done here number way new told text named followed on is =
    let h = followed.each way (inl refl) in
    all_differ caps capacity done here number (way ∷ []) [] (told ∷ []) text named followed
    (one_told caps capacity done here number way told h (on h).1) refl is

pub empty_if : (b : Bool) → not b ≡ false → b ≡ true
empty_if true h = refl
empty_if false h = absurd cc
