-- What a step of the administrator shows, where each cell is 0.
use Rattle.std.proofs.Common.{◌≡◌, ℕ, Bool, true, false, not, cond, ◌&&◌, List, [], map, Option, Some, None}
use Rattle.std.proofs.{Common.{refl, sym, ap, ◌∙◌, length}, lemmas.List.{length-map}, Math.Path.{fun_ext}}
use Rattle.std.specs.{Prelude.{filter}}
use Rattle.dsa_base.specs.{Numbers.{numbers_below}}
use Rattle.dsa_regs.specs.Command.{number_of_command, scope_of, deed_of}
use Rattle.dsa_regs.specs.declared.Fault.{Fault, TheVariants.{BadQueue, WrongState, Busy}}
use Rattle.dsa_regs.specs.declared.{Deed.{Deed, TheVariants.{Enable, Abort, Reset}}, Command.{Command}}
use Rattle.dsa_regs.specs.declared.{Phase.{TheVariants.{Off, Stopping}}, Scope.{Scope}}
use Rattle.dsa_store.specs.Content.{HeldEntry, Content, chain, all_held}
use Rattle.dsa_book.specs.Commands.{issue, issue_table, refusal_or, check_of, command_done_of, deed_done_of, abort_of, wait_of}
use Rattle.dsa_book.specs.Commands.{work_with_setup, after_enable, after_stop, reset, is_at_end}
use Rattle.dsa_book.specs.Commands.{is_awaited, is_in_scope, count_in_scope, kept_note, takes_batch, poll, poll_of}
use Rattle.dsa_book.specs.declared.answer.IssueAnswer.{IssueAnswer, TheVariants.{Ended, Active, Refused}}
use Rattle.dsa_book.specs.declared.answer.PollAnswer.{TheVariants.{Finished, Nothing}}
use Rattle.dsa_book.specs.declared.answer.PollAnswer.TheVariants as poll_answer
use Rattle.dsa_book.specs.declared.answer.Reply.{Reply, TheVariants.{Issue, Poll}}
use Rattle.dsa_book.specs.declared.note.{BatchNote.{BatchNote}, ActiveCommand.{ActiveCommand}}
use Rattle.dsa_book.specs.{State.{Setup, Work, State, is_batch_of}, Work.{progress_list, note_at}, Machine.{state_with_setup}}
use Rattle.dsa_answers.specs.Alike.{without_cell}
use Rattle.dsa_answers.proofs.Bare.{bare, bare_content, bare-twice, chain-bare, all_held-bare, any-map, filter-map}
use Rattle.dsa_answers.proofs.{BareWork.{bare_work, holds-bare}, Shown.{tables-agree, kept}}

-- the state, where each cell is 0 and no fate is written down
abbrev pub bare_state : State → State
bare_state s = record { work = bare_work s.work; active = s.active }

-- what is shown of an answer and of the state that it leaves
abbrev pub shown_state : {A : Type 0} → (A → Reply) → A × State → Reply × State
shown_state reply r = (without_cell (reply r.0), bare_state r.1)

-- ---- what a set-up leaves

-- this answer, this set-up and this active command, and the entries as they were
abbrev set_so : {A : Type 0} → A → Setup → Option ActiveCommand → State → A × State
set_so a setup active s = (a, record { work = work_with_setup s.work setup; active = active })

set-shown : {A : Type 0} (reply : A → Reply) (a : A) (setup : Setup) (active : Option ActiveCommand) (s : State)
    → shown_state reply (set_so a setup active s) ≡ shown_state reply (set_so a setup active (bare_state s))
set-shown reply a setup active s = ap (λ content. let r : Reply × State = (
  without_cell (reply a),
  record { work = record s.work { setup = setup; content = content; fates = [] }; active = active },
) in r) (sym (bare-twice s.work.content))

pub state-shown : {A : Type 0} (reply : A → Reply) (a : A) (s : State)
    → shown_state reply (a, s) ≡ shown_state reply (a, bare_state s)
state-shown reply a s = set-shown reply a s.work.setup s.active s

pub setup-shown : {A : Type 0} (reply : A → Reply) (a : A) (setup : Setup) (s : State)
    → shown_state reply (a, state_with_setup s setup) ≡ shown_state reply (a, state_with_setup (bare_state s) setup)
setup-shown reply a setup s = set-shown reply a setup s.active s

-- ---- choices of two

choices-agree : {X Y Z : Type 0} (f : X → Z) (g : Y → Z) (b c : Bool) (x x' : X) (y y' : Y) → b ≡ c
    → f x ≡ g y → f x' ≡ g y' → f (cond b x x') ≡ g (cond c y y')
choices-agree f g true true x x' y y' same first second = first
choices-agree f g false false x x' y y' same first second = second
choices-agree f g true false x x' y y' same first second = absurd cc
choices-agree f g false true x x' y y' same first second = absurd cc

-- ---- abort

counted : (scope : Scope) (c : Content) → count_in_scope scope c ≡ count_in_scope scope (bare_content c)
counted scope c =
    let test : HeldEntry → Bool = λ pair. is_in_scope scope pair.1 in
    sym (ap (λ (l : List HeldEntry). length (filter test l)) (all_held-bare c)
    ∙ ap length (filter-map bare test (all_held c)) ∙ length-map (filter test (all_held c)) bare)

batch-taken : (setup : Setup) (scope : Scope) (c : Content) (k : ℕ)
    → takes_batch setup scope (chain c k) ≡ takes_batch setup scope (chain (bare_content c) k)
batch-taken setup scope c k = sym (ap (takes_batch setup scope) (chain-bare c k)
    ∙ any-map bare (λ pair. is_batch_of setup pair.1 && is_in_scope scope pair.1) (chain c k))

notes-kept : (scope : Scope) (w : Work)
    → map (λ e. kept_note w.setup scope (chain w.content (progress_list w.setup e)) (note_at w e))
    (numbers_below w.setup.caps.engines)
    ≡ map (λ e. kept_note w.setup scope (chain (bare_content w.content) (progress_list w.setup e)) (note_at w e))
    (numbers_below w.setup.caps.engines)
notes-kept scope w = ap (λ (f : ℕ → Option BatchNote). map f (numbers_below w.setup.caps.engines))
    (fun_ext (λ e. ap (λ b. let o : Option BatchNote = cond b None (note_at w e) in o)
    (batch-taken w.setup scope w.content (progress_list w.setup e))))

aborts : (s : State) (number : ℕ) (scope : Scope) (change : Setup → Setup)
    → shown_state Issue (abort_of s number scope change)
    ≡ shown_state Issue (abort_of (bare_state s) number scope change)
aborts s number scope change = λ i. (
  Issue (Ended (counted scope s.work.content i)),
  record {
    work = record {
      setup = change s.work.setup;
      content = kept (λ entry. not (is_in_scope scope entry)) s.work.content i;
      notes = notes-kept scope s.work i;
      fates = [];
    };
    active = s.active;
  },
)

-- ---- wait and poll

at-end : (active : ActiveCommand) (c : Content) → is_at_end active c ≡ is_at_end active (bare_content c)
at-end active c = sym (ap not
    (holds-bare (is_awaited (deed_of active.command) (scope_of active.command) active.mark) c))

waits-shown : (s : State) (command : Command)
    → shown_state Issue (wait_of s command) ≡ shown_state Issue (wait_of (bare_state s) command)
waits-shown s command =
    let active : ActiveCommand = record { command = command; mark = s.work.setup.next_name } in
    let stop = after_stop (deed_of command) (scope_of command) in
    choices-agree (shown_state Issue) (shown_state Issue) (is_at_end active s.work.content)
    (is_at_end active (bare_content s.work.content))
    (set_so (Ended 0) (stop Off s.work.setup) s.active s)
    (set_so Active (stop Stopping s.work.setup) (Some active) s)
    (set_so (Ended 0) (stop Off s.work.setup) s.active (bare_state s))
    (set_so Active (stop Stopping s.work.setup) (Some active) (bare_state s))
    (at-end active s.work.content)
    (set-shown Issue (Ended 0) (stop Off s.work.setup) s.active s)
    (set-shown Issue Active (stop Stopping s.work.setup) (Some active) s)

polls-of : (s : State) (o : Option ActiveCommand)
    → shown_state Poll (poll_of s o) ≡ shown_state Poll (poll_of (bare_state s) o)
polls-of s None = state-shown Poll Nothing s
polls-of s (Some active) =
    let setup = after_stop (deed_of active.command) (scope_of active.command) Off s.work.setup in
    choices-agree (shown_state Poll) (shown_state Poll) (is_at_end active s.work.content)
    (is_at_end active (bare_content s.work.content))
    (set_so Finished setup None s) (poll_answer.Active, s)
    (set_so Finished setup None (bare_state s)) (poll_answer.Active, bare_state s)
    (at-end active s.work.content) (set-shown Poll Finished setup None s) (state-shown Poll poll_answer.Active s)

pub polls : (s : State) → shown_state Poll (poll s) ≡ shown_state Poll (poll (bare_state s))
polls s = polls-of s s.active

-- ---- issue

deeds : (s : State) (command : Command) (deed : Deed) (scope : Scope)
    → shown_state Issue (deed_done_of s command deed scope)
    ≡ shown_state Issue (deed_done_of (bare_state s) command deed scope)
deeds s command Enable scope = set-shown Issue (Ended 0) (after_enable scope s.work.setup) s.active s
deeds s command Abort scope = aborts s (number_of_command command) scope (λ setup. setup)
deeds s command Reset scope = aborts s (number_of_command command) scope (reset scope)
deeds s command _ scope = waits-shown s command

refusals : (s : State) (o : Option Fault) (x y : IssueAnswer × State) → shown_state Issue x ≡ shown_state Issue y
    → shown_state Issue (refusal_or s o x) ≡ shown_state Issue (refusal_or (bare_state s) o y)
refusals s None x y e = e
refusals s (Some fault) x y e = state-shown Issue (Refused fault) s

pub issues : (s : State) (command : Command)
    → shown_state Issue (issue s command) ≡ shown_state Issue (issue (bare_state s) command)
issues s command =
    let fault = check_of s.work.setup (deed_of command) (scope_of command) in
    tables-agree (shown_state Issue) (shown_state Issue) (issue_table s command) (issue_table (bare_state s) command)
    (refusal_or s fault (command_done_of s command))
    (refusal_or (bare_state s) fault (command_done_of (bare_state s) command)) (
      refl,
      state-shown Issue (Refused Busy) s,
      (refl, state-shown Issue (Refused BadQueue) s, (refl, state-shown Issue (Refused WrongState) s, tt)),
    )
    (refusals s fault (command_done_of s command) (command_done_of (bare_state s) command)
    (deeds s command (deed_of command) (scope_of command)))
