-- Why a submission is refused, in a state and in a history.
use Rattle.dsa_book.specs.declared.event.Event.TheVariants as event
use Rattle.dsa_book.specs.declared.answer.Reply.TheVariants as reply
use Rattle.std.proofs.Common.{◌≡◌, List, ◌∷◌, ◌++◌, [], ℕ, Bool, true, false, not, Option, Some, None, refl, ap, sym, ◌∙◌, subst}
use Rattle.std.{proofs.lemmas.Bool.{leb-true, le-leb}, specs.{Prelude.{nat_le, ◌↔◌}, Bool.{beq}}}
use Rattle.dsa_base.specs.Rows.{first_row_or}
use Rattle.dsa_desc.specs.declared.Descriptor.{Descriptor}
use Rattle.dsa_regs.specs.{declared.Caps.{Caps}, Config.{queue_at}}
use Rattle.dsa_book.specs.declared.answer.{Cause.{Cause, TheVariants.{NotEnabled, WrongKind, AtLimit}}, Reply.{Reply}}
use Rattle.dsa_book.specs.declared.answer.{SubmitAnswer.{SubmitAnswer, TheVariants.{Accepted}}, Ticket.{Ticket}}
use Rattle.dsa_book.specs.declared.event.{Portal.{Portal}, Kind.{Kind, TheVariants.{Enqcmd, Movdir64b}}, Step.{Step}}
use Rattle.dsa_book.specs.{State.{Intake, Work, State, opening, is_on, phase_at, occupancy}, Choice.{choice_of, chosen_cell}}
use Rattle.dsa_book.specs.Submit.{after_refusal, after_accept, submit, limit_of, is_movdir64b}
use Rattle.dsa_book.specs.Machine.{next, replay, replay_from, intake_of}
use Rattle.dsa_book.proofs.{Nexts.{next-is}, Replay.{replay_none, replay_from-append}}
use Rattle.dsa_laws.specs.Refusals.{IsRefused, refusal_by, HasItsCause, EachHasItsCause}

-- ---- histories

-- the state before a step of a history, and the one after it
pub step-within : (caps : Caps) (before after : List Step) (x : Step) (s : State)
    → replay caps (before ++ x ∷ after) ≡ Some s
    → (t t' : State) × (replay caps before ≡ Some t) × (next t x.event x.reply ≡ Some t')
step-within caps before after x s e =
    begun (replay caps before) refl (sym (replay_from-append before (x ∷ after) (Some (opening caps))) ∙ e)
  where
    Found : Type 0
    Found = (t t' : State) × (replay caps before ≡ Some t) × (next t x.event x.reply ≡ Some t')

    come : (t : State) → replay caps before ≡ Some t → (o : Option State) → next t x.event x.reply ≡ o
        → replay_from o after ≡ Some s → Found
    come t is None n e = absurd (replay_none after s e)
    come t is (Some t') n e = (t, t', is, n)

    begun : (o : Option State) → replay caps before ≡ o → replay_from o (x ∷ after) ≡ Some s → Found
    begun None is e = absurd (replay_none (x ∷ after) s e)
    begun (Some t) is e = come t is (next t x.event x.reply) refl e

-- ---- causes

some-is : {X : Type 0} {x y : X} → Some x ≡ Some y → x ≡ y
some-is e = cc

-- the first of three tests that fails, as a cause
abbrev first-cause : Bool → Bool → Bool → Option Cause
first-cause false of_kind full = Some NotEnabled
first-cause true false full = Some WrongKind
first-cause true true true = Some AtLimit
first-cause true true false = None

-- the answer by the cause
abbrev answer-by : Kind → Ticket → Option Cause → SubmitAnswer
answer-by kind ticket None = Accepted ticket
answer-by kind ticket (Some cause) = refusal_by kind cause

refusal-is : (i : Intake) (q : ℕ) (kind : Kind) (cause : Cause) → (after_refusal i q kind cause).0 ≡ refusal_by kind cause
refusal-is i q (Enqcmd pasid) cause = refl
refusal-is i q Movdir64b cause = refl

table-is : (i : Intake) (q : ℕ) (kind : Kind) (ticket : Ticket) (i' : Intake) (on of_kind full : Bool)
    → (first_row_or ((not on, after_refusal i q kind NotEnabled) ∷ (not of_kind, after_refusal i q kind WrongKind)
    ∷ (full, after_refusal i q kind AtLimit) ∷ []) (Accepted ticket, i')).0
    ≡ answer-by kind ticket (first-cause on of_kind full)
table-is i q kind ticket i' false of_kind full = refusal-is i q kind NotEnabled
table-is i q kind ticket i' true false full = refusal-is i q kind WrongKind
table-is i q kind ticket i' true true true = refusal-is i q kind AtLimit
table-is i q kind ticket i' true true false = refl

told-cause : (kind : Kind) (ticket : Ticket) (o : Option Cause) (cause : Cause)
    → answer-by kind ticket o ≡ refusal_by kind cause → o ≡ Some cause
told-cause (Enqcmd pasid) ticket None cause e = absurd cc
told-cause Movdir64b ticket None cause e = absurd cc
told-cause (Enqcmd pasid) ticket (Some c) cause e = cc
told-cause Movdir64b ticket (Some c) cause e = cc

-- which cause comes first, by the tests
abbrev ByTests : Bool → Bool → Bool → Cause → Type 0
ByTests on of_kind full NotEnabled = on ≡ false
ByTests on of_kind full WrongKind = (on ≡ true) × (of_kind ≡ false)
ByTests on of_kind full AtLimit = (on ≡ true) × (of_kind ≡ true) × (full ≡ true)

first-is : (on of_kind full : Bool) (cause : Cause) → first-cause on of_kind full ≡ Some cause
    → ByTests on of_kind full cause
first-is false of_kind full cause e = subst (ByTests false of_kind full) (some-is e) refl
first-is true false full cause e = subst (ByTests true false full) (some-is e) (refl, refl)
first-is true true true cause e = subst (ByTests true true true) (some-is e) (refl, refl, refl)
first-is true true false cause e = absurd cc

is-first : (on of_kind full : Bool) (cause : Cause) → ByTests on of_kind full cause
    → first-cause on of_kind full ≡ Some cause
is-first on of_kind full NotEnabled by = rw by refl
is-first on of_kind full WrongKind by = rw (by.0, by.1) refl
is-first on of_kind full AtLimit by = rw (by.0, by.1, by.2) refl

refused-by : (w : Work) (q : ℕ) (portal : Portal) (kind : Kind) (cause : Cause)
    → ByTests (is_on (phase_at w.setup q)) (beq (is_movdir64b kind) (queue_at w.setup.configs q).dedicated)
    (nat_le (limit_of (queue_at w.setup.configs q) portal) (occupancy w.content q)) cause
    ↔ IsRefused w q portal kind cause
refused-by w q portal kind NotEnabled = (λ by. by, λ refused. refused)
refused-by w q portal kind WrongKind = (λ by. by, λ refused. refused)
refused-by w q portal kind AtLimit =
    (λ by. (by.0, by.1, leb-true _ _ by.2), λ refused. (refused.0, refused.1, le-leb _ _ refused.2))

-- ---- submissions

pub submit-cause : (s s' : State) (client q : ℕ) (portal : Portal) (kind : Kind) (d : Descriptor) (a : SubmitAnswer)
    → next s (event.Submit client q portal kind d) (reply.Submit a) ≡ Some s' → HasItsCause s.work q portal kind a
submit-cause s s' client q portal kind d a h cause =
    let i = intake_of s in
    let config = queue_at s.work.setup.configs q in
    let on = is_on (phase_at s.work.setup q) in
    let of_kind = beq (is_movdir64b kind) config.dedicated in
    let full = nat_le (limit_of config portal) (occupancy s.work.content q) in
    let cell = chosen_cell (choice_of (reply.Submit a)) in
    let ticket : Ticket = record { cell = cell; name = s.work.setup.next_name } in
    let is-answer : (submit i q portal kind d cell).0 ≡ a =
    submitted (ap (λ (r : Reply × State). r.0)
    (next-is s s' (event.Submit client q portal kind d) (reply.Submit a) h).1) in
    let table = table-is i q kind ticket (after_accept i q kind d cell).1 on of_kind full in
    let by = refused-by s.work q portal kind cause in (
      λ e. by.0 (first-is on of_kind full cause (told-cause kind ticket (first-cause on of_kind full) cause
          (sym table ∙ is-answer ∙ e))),
      λ refused. sym is-answer ∙ table ∙ ap (answer-by kind ticket) (is-first on of_kind full cause (by.1 refused)),
    )
  where
    submitted : {x y : SubmitAnswer} → reply.Submit x ≡ reply.Submit y → x ≡ y
    submitted e = cc

pub history-causes : (caps : Caps) (history : List Step) (s : State) → replay caps history ≡ Some s
    → EachHasItsCause caps history
history-causes caps history s e before after client q portal kind d a split =
    let found = step-within caps before after _ s (ap (replay caps) split ∙ e) in
    (found.0, found.2, submit-cause found.0 found.1 client q portal kind d a found.3)
