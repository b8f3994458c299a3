-- Which names a step gives, and which entry of the script has them by the log.
use Rattle.dsa_book.specs.declared.event.Event.TheVariants as event
use Rattle.std.proofs.Common.{◌≡◌, ℕ, ◌+◌, ◌<◌, ◌≤◌, Bool, true, cond, not, List, ◌∷◌, find}
use Rattle.std.proofs.Common.{Option, Some, None, refl, sym, ap, ◌∙◌, subst, ⊎_elim, arith, eq-eqb, nat_le}
use Rattle.std.specs.{Prelude.{option_and_then, ⊤}, Bool.{beq}}
use Rattle.std.proofs.lemmas.Bool.{cases_lt, eqb-true, false_from_ne_true}
use Rattle.dsa_base.proofs.Tables.{one_row, table3}
use Rattle.dsa_desc.specs.declared.Descriptor.{Descriptor}
use Rattle.dsa_regs.specs.Config.{queue_at}
use Rattle.dsa_store.specs.{declared.entry.Cell.{Cell}, Content.{HeldEntry}}
use Rattle.dsa_book.specs.declared.answer.{Reply.{Reply}, Cause.{Cause}}
use Rattle.dsa_book.specs.declared.answer.{Cause.TheVariants.{AtLimit, NotEnabled, WrongKind}, SubmitAnswer.{SubmitAnswer}}
use Rattle.dsa_book.specs.declared.answer.{SubmitAnswer.TheVariants.{Accepted, Full}, FetchAnswer.{FetchAnswer}}
use Rattle.dsa_book.specs.declared.answer.FetchAnswer.TheVariants.{Fetched, AllFetched}
use Rattle.dsa_book.specs.declared.answer.Reply.TheVariants.{Submit, Fetch}
use Rattle.dsa_book.specs.declared.event.{Event.{Event}, Kind.{Kind, TheVariants.{Enqcmd, Movdir64b}}, Portal.{Portal}}
use Rattle.dsa_book.specs.declared.note.BatchNote.{BatchNote}
use Rattle.dsa_book.specs.State.{Work, State, Intake, phase_at, is_on, occupancy}
use Rattle.dsa_book.specs.Submit.{after_refusal, after_accept, submit, is_movdir64b, limit_of}
use Rattle.dsa_book.specs.Work.{note_at, batch_on, is_all_fetched, after_fetch, fetch_of, fetch_for, fetch}
use Rattle.dsa_book.specs.{Choice.{Choice, choice_of, chosen_cell}, Machine.{next, reply_of, intake_of}}
use Rattle.dsa_book.proofs.{Nexts.{next-is}, Gains.{named_by}}
use Rattle.dsa_accounts.proofs.Totals.{next-names}
use Rattle.dsa_keys.specs.Labels.{Labels, with_label}
use Rattle.dsa_keys.proofs.SameSteps.{named-other, named-next}
use Rattle.dsa_obeys.specs.Obeys.{LogLine, number_of, gives, entry_named}

-- what the reply names, if it names an entry, is this; and no submission is answered Full
abbrev pub Names : ℕ → Reply → Type 0
Names n (Submit (Accepted ticket)) = ticket.name ≡ n
Names n (Fetch (Fetched ticket)) = ticket.name ≡ n
Names n (Submit Full) = ⊥
Names n reply = ⊤

refused : (i : Intake) (q : ℕ) (kind : Kind) (cause : Cause) → Names i.setup.next_name (Submit (after_refusal i q kind cause).0)
refused i q (Enqcmd pasid) cause = tt
refused i q Movdir64b cause = tt

submit-names : (i : Intake) (q : ℕ) (portal : Portal) (kind : Kind) (desc : Descriptor) (cell : Cell)
    → Names i.setup.next_name (Submit (submit i q portal kind desc cell).0)
submit-names i q portal kind desc cell = table3
    (λ (r : SubmitAnswer × Intake). Names i.setup.next_name (Submit r.0))
    (not (is_on (phase_at i.setup q)))
    (not (beq (is_movdir64b kind) (queue_at i.setup.configs q).dedicated))
    (nat_le (limit_of (queue_at i.setup.configs q) portal) (occupancy i.content q))
    (after_refusal i q kind NotEnabled) (after_refusal i q kind WrongKind) (after_refusal i q kind AtLimit)
    (after_accept i q kind desc cell)
    (λ t. refused i q kind NotEnabled) (λ t. refused i q kind WrongKind) (λ t. refused i q kind AtLimit)
    (λ a b c. refl)

fetch-names : (w : Work) (e : ℕ) (desc : Descriptor) (cell : Cell)
    → Names w.setup.next_name (Fetch (fetch w e desc cell).0)
fetch-names w e desc cell = by-note (note_at w e)
  where
    by-batch : (note : BatchNote) (o : Option HeldEntry)
        → Names w.setup.next_name (Fetch (fetch_of w e desc cell note o).0)
    by-batch note None = tt
    by-batch note (Some batch) = one_row (λ (r : FetchAnswer × Work). Names w.setup.next_name (Fetch r.0))
        (is_all_fetched note) (AllFetched, w) (after_fetch w e desc cell note batch.1) tt refl

    by-note : (o : Option BatchNote) → Names w.setup.next_name (Fetch (fetch_for w e desc cell o).0)
    by-note None = tt
    by-note (Some note) = by-batch note (batch_on w e note)

reply-names : (s : State) (e : Event) (choice : Choice) → Names s.work.setup.next_name (reply_of s e choice).0
reply-names s (event.Submit client q portal kind desc) choice =
    submit-names (intake_of s) q portal kind desc (chosen_cell choice)
reply-names s (event.Dispatch e) choice = tt
reply-names s (event.Fetch e desc) choice = fetch-names s.work e desc (chosen_cell choice)
reply-names s (event.Start e) choice = tt
reply-names s (event.Finish e ticket outcome) choice = tt
reply-names s (event.Issue command) choice = tt
reply-names s event.Poll choice = tt
reply-names s (event.WriteQueue q config) choice = tt
reply-names s (event.WriteGroup g config) choice = tt
reply-names s event.ClearError choice = tt

-- a step names the next name alone
pub next-named : (s s' : State) (e : Event) (r : Reply) → next s e r ≡ Some s' → Names s.work.setup.next_name r
next-named s s' e r h = subst (λ (z : Reply × State). Names s.work.setup.next_name z.0) (next-is s s' e r h).1
    (reply-names s e (choice_of r))

-- a submission that may come is not answered Full
pub never-full : (s s' : State) (e : Event) (r : Reply) → next s e r ≡ Some s' → r ≡ Submit Full → ⊥
never-full s s' e r h is = subst (Names s.work.setup.next_name) is (next-named s s' e r h)

given-is : (n name : ℕ) (r : Reply) → Names n r → gives name r ≡ true → name ≡ n
given-is n name (Submit (Accepted ticket)) is h = sym (eqb-true ticket.name name h) ∙ is
given-is n name (Fetch (Fetched ticket)) is h = sym (eqb-true ticket.name name h) ∙ is
given-is n name r is h = absurd cc

gives-new : (n : ℕ) (r : Reply) → Names n r → 0 < named_by r → gives n r ≡ true
gives-new n (Submit (Accepted ticket)) is l = eq-eqb ticket.name n is
gives-new n (Fetch (Fetched ticket)) is l = eq-eqb ticket.name n is
gives-new n r is l = absurd (omega (arith, l))

most-one : (r : Reply) → named_by r ≤ 1
most-one (Submit (Accepted t)) = omega arith
most-one (Fetch (Fetched t)) = omega arith
most-one _ = omega arith

-- by the lines before, each name that was given is of the entry with its label
abbrev pub AreNamed : List LogLine → Labels → State → Type 0
AreNamed before labels s = (name : ℕ) → name < s.work.setup.next_name → entry_named before name ≡ Some (labels name)

-- so it stays, where a line that gives a name is about the label
pub named-after : (before : List LogLine) (line : LogLine) (labels : Labels) (s s' : State) (label : ℕ)
    → next s line.step.event line.step.reply ≡ Some s' → AreNamed before labels s
    → (0 < named_by line.step.reply → number_of line.doer ≡ Some label)
    → AreNamed (line ∷ before) (with_label labels s.work.setup.next_name label) s'
named-after before line labels s s' label leads named about name l = ⊎_elim
    (λ old.
    ap found (false_from_ne_true (gives name line.step.reply)
    (λ t. omega (arith, old, given-is n name line.step.reply names t)))
    ∙ named name old ∙ ap Some (sym (named-other labels n label name old)))
    (λ new.
    let one : 0 < named_by line.step.reply = omega (arith, new, l, count) in
    let is : name ≡ n = omega (arith, new, l, count, most-one line.step.reply) in
    ap found (subst (λ k. gives k line.step.reply ≡ true) (sym is)
    (gives-new n line.step.reply names one))
    ∙ about one ∙ ap Some (sym (ap (with_label labels n label) is ∙ named-next labels n label)))
    (cases_lt name n)
  where
    n : ℕ
    n = s.work.setup.next_name

    names : Names n line.step.reply
    names = next-named s s' line.step.event line.step.reply leads

    count : s'.work.setup.next_name ≡ n + named_by line.step.reply
    count = next-names s s' line.step.event line.step.reply leads

    found : Bool → Option ℕ
    found b = option_and_then (λ (line : LogLine). number_of line.doer)
        (cond b (Some line) (find (λ (line : LogLine). gives name line.step.reply) before))
