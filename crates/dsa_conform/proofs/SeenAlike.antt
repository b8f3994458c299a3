-- Answers that may come to one event look alike, but for the queue that an entry is taken from.
use Rattle.dsa_book.specs.declared.event.Event.TheVariants as event
use Rattle.std.proofs.Common.{◌≡◌, ◌≢◌, ◌==◌, ℕ, Bool, false, List}
use Rattle.std.proofs.Common.{◌++◌, Option, Some, None, Result, Ok, Err}
use Rattle.std.proofs.Common.{refl, sym, ap, subst, length, ◌∙◌}
use Rattle.std.specs.Prelude.{codes, decimal, is_ok, ◌&&◌, ◌||◌, bytes_eq}
use Rattle.dsa_base.{specs.Rows.{passes}, proofs.Tables.{not-both}}
use Rattle.dsa_book.specs.declared.answer.{Ticket.{Ticket}, SubmitAnswer.TheVariants.{Accepted}}
use Rattle.dsa_book.specs.declared.answer.{DispatchAnswer.TheVariants.{Taken}, FetchAnswer.TheVariants.{Fetched}}
use Rattle.dsa_book.specs.declared.answer.Reply.{Reply, TheVariants.{Submit, Dispatch, Fetch}}
use Rattle.dsa_book.specs.declared.event.{Event.{Event}, Kind.TheVariants.{Enqcmd, Movdir64b}}
use Rattle.dsa_book.specs.{State.{State}, Machine.{next, full_reply}}
use Rattle.dsa_book.proofs.EqualReplies.{equal-replies}
use Rattle.dsa_answers.specs.Choices.{AreAlike}
use Rattle.dsa_answers.proofs.Choices.{replies-alike}
use Rattle.dsa_device.{specs.Running.{Running, after_answer}, proofs.Steps.{answered_by_cases}}
use Rattle.dsa_scenario.specs.declared.actions.BadWord.{BadWord}
use Rattle.dsa_scenario.specs.declared.run.Record.{Record, TheVariants.{Stepped, Refused}}
use Rattle.dsa_scenario.specs.{Lines.{record_text}, Run.{answered_by, Leads}}
use Rattle.dsa_conform.specs.Seen.{nameless_text, answer_shown, zf_of, zf_of_step, zf_shown, is_flag}
use Rattle.dsa_conform.specs.Allowed.{AreSeenAlike, HasOneAnswer}

-- the record of an event and its reply
abbrev pub stepped : Event → Reply → Record
stepped event reply = Stepped (record { event = event; reply = reply })

-- ---- answers that look alike

self : (a : Record) → AreSeenAlike a a
self a = record { texts = refl; shown = λ seen. refl }

-- answers with the same texts and the same zero flag
pub alike : (a b : Record) → record_text a ≡ record_text b → nameless_text a ≡ nameless_text b → zf_of a ≡ zf_of b
    → AreSeenAlike a b
alike a b text nameless flag = record {
  texts = text;
  shown = λ seen.
      (ap (λ shown. shown && zf_shown seen.zf a) (by_text seen.answer))
      ∙ ap (λ shown. answer_shown seen.answer b && shown) (by_flag seen.zf);
}
  where
    by_text : (o : Option (List ℕ)) → answer_shown o a ≡ answer_shown o b
    by_text None = refl
    by_text (Some t) =
        ap (λ line. bytes_eq t line || bytes_eq t (nameless_text a)) text
        ∙ ap (λ line. bytes_eq t (record_text b) || bytes_eq t line) nameless

    by_flag : (o : Option Bool) → zf_shown o a ≡ zf_shown o b
    by_flag None = refl
    by_flag (Some seen) = ap (passes (is_flag seen)) flag

accepted-flags : (e : Event) (t u : Ticket) → zf_of_step e (Submit (Accepted t)) ≡ zf_of_step e (Submit (Accepted u))
accepted-flags (event.Submit client queue portal (Enqcmd pasid) desc) t u = refl
accepted-flags (event.Submit client queue portal Movdir64b desc) t u = refl
accepted-flags _ t u = refl

fetched-flags : (e : Event) (t u : Ticket) → zf_of_step e (Fetch (Fetched t)) ≡ zf_of_step e (Fetch (Fetched u))
fetched-flags (event.Submit client queue portal kind desc) t u = refl
fetched-flags _ t u = refl

-- replies that differ in the cell of an entry that comes in
in_cells : (e : Event) (a b : Reply) → AreAlike a b → ((t : Ticket) (q : ℕ) → a ≢ Dispatch (Taken t q))
    → AreSeenAlike (stepped e a) (stepped e b)
in_cells e (Submit (Accepted t)) (Submit (Accepted u)) h none =
    alike (stepped e (Submit (Accepted t))) (stepped e (Submit (Accepted u)))
    (ap (λ name. codes "accepted " ++ decimal name) h) refl (accepted-flags e t u)
in_cells e (Fetch (Fetched t)) (Fetch (Fetched u)) h none =
    alike (stepped e (Fetch (Fetched t))) (stepped e (Fetch (Fetched u)))
    (ap (λ name. codes "fetched " ++ decimal name) h) refl (fetched-flags e t u)
in_cells e (Dispatch (Taken t q)) (Dispatch (Taken u p)) h none = absurd (none t q refl)
in_cells e a b h none = subst (λ r. AreSeenAlike (stepped e a) (stepped e r)) h (self (stepped e a))

-- ---- answers that may come

-- no entry is taken, where the history has room
abbrev pub NoneTaken : Running → Event → Type 0
NoneTaken now e = (length now.history == now.capacity) ≡ false → (t : Ticket) (q : ℕ) (s : State)
    → next now.state e (Dispatch (Taken t q)) ≢ Some s

pub replies_look_alike : (now t u : Running) (e : Event) (a b : Reply) → NoneTaken now e → after_answer now e a ≡ Some t
    → after_answer now e b ≡ Some u → AreSeenAlike (stepped e a) (stepped e b)
replies_look_alike now t u e a b none h k =
    let P : Running → Type 0 = λ d. AreSeenAlike (stepped e a) (stepped e b) in
    answered_by_cases P now t e a h
    (λ full first. answered_by_cases P now u e b k
    (λ full' second. rw (equal-replies a (full_reply e) first, equal-replies b (full_reply e) second)
    (self (stepped e (full_reply e))))
    (λ s room n. not-both (length now.history == now.capacity) full room))
    (λ s room n. answered_by_cases P now u e b k
    (λ full second. not-both (length now.history == now.capacity) full room)
    (λ s' room' n'. in_cells e a b (replies-alike now.state s s' e a b n n')
    (λ ticket q is. none room ticket q s (rw is at n))))

-- what is asked, where it is an event, or the refusal of a word
abbrev pub event_in : Event → Result Event BadWord → Event
event_in d (Ok e) = e
event_in d (Err fault) = d

abbrev fault_in : BadWord → Result Event BadWord → BadWord
fault_in d (Ok e) = d
fault_in d (Err fault) = fault

-- where the answers that may come are alike only where they are the same, one that comes is the only one
pub only_entry : (now t u : Running) (e : Event) (a : Reply) → (length now.history == now.capacity) ≡ false
    → ((b : Reply) → AreAlike a b → a ≡ b) → after_answer now e a ≡ Some t
    → (entry : Record) → answered_by entry ≡ Ok e → Leads now entry u → stepped e a ≡ entry
only_entry now t u e a room same h (Refused fault) asked leads = absurd cc
only_entry now t u e a room same h (Stepped x) asked leads =
    let event : x.event ≡ e = ap (event_in x.event) asked in
    let k : after_answer now e x.reply ≡ Some u = subst (λ q. after_answer now q x.reply ≡ Some u) event leads in
    let P : Running → Type 0 = λ d. stepped e a ≡ stepped e x.reply in
    subst (λ q. stepped e a ≡ stepped q x.reply) (sym event)
    (answered_by_cases P now t e a h (λ full first. not-both (length now.history == now.capacity) full room)
    (λ s free n. answered_by_cases P now u e x.reply k
    (λ full second. not-both (length now.history == now.capacity) full room)
    (λ s' free' n'. ap (stepped e) (same x.reply (replies-alike now.state s s' e a x.reply n n')))))

-- where no entry is taken there is one answer
pub one_answer : (now : Running) (asked : Result Event BadWord) → ((e : Event) → asked ≡ Ok e → NoneTaken now e)
    → HasOneAnswer now asked
one_answer now asked none (Stepped x) (Stepped y) h k =
    let same : x.event ≡ y.event = ap (event_in x.event) (h.answers ∙ sym k.answers) in
    let second : after_answer now x.event y.reply ≡ Some k.after =
    subst (λ e. after_answer now e y.reply ≡ Some k.after) (sym same) k.leads in
    subst (λ e. AreSeenAlike (Stepped x) (stepped e y.reply)) same
    (replies_look_alike now h.after k.after x.event x.reply y.reply (none x.event (sym h.answers)) h.leads second)
one_answer now asked none (Stepped x) (Refused f) h k =
    not-both (is_ok asked) (sym (ap is_ok h.answers)) (sym (ap is_ok k.answers))
one_answer now asked none (Refused f) (Stepped y) h k =
    not-both (is_ok asked) (sym (ap is_ok k.answers)) (sym (ap is_ok h.answers))
one_answer now asked none (Refused f) (Refused g) h k =
    subst (λ r. AreSeenAlike (Refused f) (Refused r)) (ap (fault_in f) (h.answers ∙ sym k.answers)) (self (Refused f))
