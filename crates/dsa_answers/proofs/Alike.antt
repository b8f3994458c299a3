-- States that differ in the cells of their entries, and in fates, alone answer alike and stay alike.
use Rattle.std.proofs.Common.{◌≡◌, ℕ, true, [], map, Some, refl, sym, ap, subst, ◌∙◌}
use Rattle.std.specs.{Prelude.{⊤}}
use Rattle.dsa_regs.specs.declared.Caps.{Caps}
use Rattle.dsa_book.specs.declared.answer.{Ticket.{Ticket}, Reply.{Reply, TheVariants.{Start, Finish}}}
use Rattle.dsa_book.specs.declared.answer.Reply.TheVariants.{Write, Clear}
use Rattle.dsa_book.specs.declared.event.Event.{Event}
use Rattle.dsa_book.specs.declared.event.Event.TheVariants as event
use Rattle.dsa_book.specs.Commands.{write_queue, write_group, clear}
use Rattle.dsa_book.specs.{Choice.{Choice, nothing, in_cell, from_queue, choice_of, chosen_cell}, State.{Work, State}}
use Rattle.dsa_book.specs.Machine.{next, reply_of, reply_with, with_work, may_choose}
use Rattle.dsa_book.specs.Work.{qualifies, may_leave}
use Rattle.dsa_book.proofs.Nexts.{next-is}
use Rattle.dsa_laws.specs.WellFormed.{IsWellFormed}
use Rattle.dsa_answers.specs.Alike.{AreStatesAlike, AskAlike, TakeAlike, IsTicketIn, without_cell, entries_alone}
use Rattle.dsa_answers.proofs.Bare.{bare_content, bare-entries, entries-bare, in_cell_0}
use Rattle.dsa_answers.proofs.{BareWork.{bare_work, qualifies-bare}, Choices.{not-idle}}
use Rattle.dsa_answers.proofs.Shown.{submits, dispatches, fetches, starts, finishes, start_in_order, finish_by_name}
use Rattle.dsa_answers.proofs.ShownCommands.{bare_state, issues, polls, setup-shown}

-- ---- states that are alike are one state, where each cell is 0

work-bare : (s t : State) → AreStatesAlike s t → bare_work s.work ≡ bare_work t.work
work-bare s t a =
    let same : bare_content s.work.content ≡ bare_content t.work.content = bare-entries s.work.content
    ∙ ap (map (map in_cell_0)) a.entries ∙ sym (bare-entries t.work.content) in
    λ i. record { setup = a.setup i; content = same i; notes = a.notes i; fates = [] }

state-bare : (s t : State) → AreStatesAlike s t → bare_state s ≡ bare_state t
state-bare s t a = λ i. record { work = work-bare s t a i; active = a.active i }

bare-alike : (s t : State) → bare_state s ≡ bare_state t → AreStatesAlike s t
bare-alike s t e = record {
  setup = ap (λ (x : State). x.work.setup) e;
  entries = sym (entries-bare s.work.content) ∙ ap (λ (x : State). entries_alone x.work.content) e
      ∙ entries-bare t.work.content;
  notes = ap (λ (x : State). x.work.notes) e;
  active = ap (λ (x : State). x.active) e;
}

pub alike-qualifies : (s t : State) → AreStatesAlike s t → (e q : ℕ) → qualifies s.work e q ≡ qualifies t.work e q
alike-qualifies s t a e q = sym (qualifies-bare s.work e q) ∙ ap (λ (w : Work). qualifies w e q) (work-bare s t a)
    ∙ qualifies-bare t.work e q

-- ---- one step, by the state where each cell is 0

-- the reply and what it leaves, by names and places alone
asked : State → Event → Choice → Reply × State
asked s (event.Submit client q portal kind d) choice = reply_of s (event.Submit client q portal kind d) nothing
asked s (event.Fetch e d) choice = reply_of s (event.Fetch e d) nothing
asked s (event.Start e) choice = reply_with Start (with_work s) (start_in_order s.work e)
asked s (event.Finish e ticket outcome) choice =
    reply_with Finish (with_work s) (finish_by_name s.work e ticket.name outcome)
asked s event choice = reply_of s event choice

abbrev looked : Reply × State → Reply × State
looked r = (without_cell r.0, bare_state r.1)

-- a ticket that the event names is the entry's
abbrev HasTicket : State → Event → Type 0
HasTicket s (event.Finish e ticket outcome) = IsTicketIn s ticket
HasTicket s event = ⊤

abbrev lift : State → Reply × Work → Reply × State
lift s r = (r.0, record { work = r.1; active = s.active })

answers : (caps : Caps) (s : State) (event : Event) (choice : Choice) → IsWellFormed caps s → HasTicket s event
    → looked (reply_of s event choice) ≡ looked (asked (bare_state s) event choice)
unfolding asked
answers caps s (event.Submit client q portal kind d) choice w is =
    ap (lift s) (submits s.work q portal kind d (chosen_cell choice) (chosen_cell nothing))
answers caps s (event.Dispatch e) choice w is = ap (lift s) (dispatches s.work e choice)
answers caps s (event.Fetch e d) choice w is =
    ap (lift s) (fetches s.work e d (chosen_cell choice) (chosen_cell nothing))
answers caps s (event.Start e) choice w is = ap (lift s) (starts s.work e w.cells)
answers caps s (event.Finish e ticket outcome) choice w is =
    ap (lift s) (finishes s e ticket outcome w.cells w.names is)
answers caps s (event.Issue command) choice w is = issues s command
answers caps s event.Poll choice w is = polls s
answers caps s (event.WriteQueue q config) choice w is =
    let r = write_queue s.work.setup q config in setup-shown Write r.0 r.1 s
answers caps s (event.WriteGroup g config) choice w is =
    let r = write_group s.work.setup g config in setup-shown Write r.0 r.1 s
answers caps s event.ClearError choice w is = let r = clear s.work.setup in setup-shown Clear r.0 r.1 s

-- ---- two questions that are alike

-- where both may be chosen, and no two queues are, the same is taken
same-choice : (s t : State) (e : ℕ) (c d : Choice) → AreStatesAlike s t → may_leave s.work e c ≡ true
    → may_leave t.work e d ≡ true → ((q p : ℕ) → c ≡ from_queue q → d ≡ from_queue p → q ≡ p) → c ≡ d
same-choice s t e nothing nothing a may might one = refl
same-choice s t e (from_queue q) (from_queue p) a may might one = ap from_queue (one q p refl refl)
same-choice s t e (from_queue q) nothing a may might one =
    not-idle t.work e q (sym (alike-qualifies s t a e q) ∙ may) might
same-choice s t e nothing (from_queue p) a may might one =
    not-idle s.work e p (alike-qualifies s t a e p ∙ might) may
same-choice s t e (in_cell cell) d a may might one = absurd cc
same-choice s t e nothing (in_cell cell) a may might one = absurd cc
same-choice s t e (from_queue q) (in_cell cell) a may might one = absurd cc

asked-once : (s t x : State) (event : Event) (c d : Choice) → AreStatesAlike s t → may_choose s event c ≡ true
    → may_choose t event d ≡ true → ((q p : ℕ) → c ≡ from_queue q → d ≡ from_queue p → q ≡ p)
    → asked x event c ≡ asked x event d
unfolding asked
asked-once s t x (event.Dispatch e) c d a may might one =
    ap (reply_of x (event.Dispatch e)) (same-choice s t e c d a may might one)
asked-once s t x _ c d a may might one = refl

asked-same : (s t x : State) (event other : Event) (c d : Choice) → event ≡ other → AreStatesAlike s t
    → may_choose s event c ≡ true → may_choose t other d ≡ true
    → ((q p : ℕ) → c ≡ from_queue q → d ≡ from_queue p → q ≡ p) → asked x event c ≡ asked x other d
asked-same s t x event other c d same a may might one =
    subst (λ (other : Event). may_choose t other d ≡ true → asked x event c ≡ asked x other d) same
    (λ m. asked-once s t x event c d a may m one) might

ended-same : (x : State) (e e' : ℕ) (a b : Ticket) (o o' : _) (c d : Choice) → e ≡ e' → o ≡ o' → a.name ≡ b.name
    → asked x (event.Finish e a o) c ≡ asked x (event.Finish e' b o') d
unfolding asked
ended-same x e e' a b o o' c d p q r = λ i. reply_with Finish (with_work x) (finish_by_name x.work (p i) (r i) (q i))

asked-alike : (s t x : State) (event other : Event) (c d : Choice) → AskAlike s t event other → AreStatesAlike s t
    → may_choose s event c ≡ true → may_choose t other d ≡ true
    → ((q p : ℕ) → c ≡ from_queue q → d ≡ from_queue p → q ≡ p) → asked x event c ≡ asked x other d
asked-alike s t x (event.Finish e a o) (event.Finish e' b o') c d ask alike may might one =
    ended-same x e e' a b o o' c d ask.0 ask.1 ask.2
asked-alike s t x (event.Finish e a o) _ c d ask alike may might one = absurd cc
asked-alike s t x event other c d ask alike may might one = asked-same s t x event other c d ask alike may might one

first-ticket : (s t : State) (event other : Event) → AskAlike s t event other → HasTicket s event
first-ticket s t (event.Finish e a o) (event.Finish e' b o') ask = ask.3
first-ticket s t (event.Finish e a o) _ ask = absurd cc
first-ticket s t _ other ask = tt

second-ticket : (s t : State) (event other : Event) → AskAlike s t event other → HasTicket t other
second-ticket s t (event.Finish e a o) (event.Finish e' b o') ask = ask.4
second-ticket s t (event.Finish e a o) _ ask = absurd cc
second-ticket s t asking (event.Finish e' b o') ask = absurd cc
second-ticket s t asking _ ask = tt

-- ---- the theorem

pub alike-next : (caps others : Caps) (s t s' t' : State) (event other : Event) (r r' : Reply) → IsWellFormed caps s
    → IsWellFormed others t → AreStatesAlike s t → AskAlike s t event other → next s event r ≡ Some s'
    → next t other r' ≡ Some t' → TakeAlike r r' → (without_cell r ≡ without_cell r') × AreStatesAlike s' t'
alike-next caps others s t s' t' event other r r' w v alike ask h k one =
    let p = next-is s s' event r h in
    let q = next-is t t' other r' k in
    let c = choice_of r in
    let d = choice_of r' in
    let same : looked (r, s') ≡ looked (r', t') =
    sym (ap looked p.1) ∙ answers caps s event c w (first-ticket s t event other ask)
    ∙ ap (λ (x : State). looked (asked x event c)) (state-bare s t alike)
    ∙ ap looked (asked-alike s t (bare_state t) event other c d ask alike p.0 q.0 one)
    ∙ sym (answers others t other d v (second-ticket s t event other ask)) ∙ ap looked q.1 in (
      ap (λ (x : Reply × State). x.0) same,
      bare-alike s' t' (ap (λ (x : Reply × State). x.1) same),
    )
