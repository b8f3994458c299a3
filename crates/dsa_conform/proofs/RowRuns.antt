-- Differences after runs that lead to one state alone.
use Rattle.dsa_book.specs.declared.answer.Reply.TheVariants as reply
use Rattle.dsa_book.specs.declared.event.Event.TheVariants as event
use Rattle.dsa_book.specs.declared.answer.PollAnswer.TheVariants as poll
use Rattle.std.specs.Fmt.{digits}
use Rattle.std.proofs.Common.{◌≡◌, inl, inr, ℕ, true, false, List, [], ◌∷◌, ◌++◌, Ok, refl, sym, ap, subst, codes}
use Rattle.std.proofs.Common.{Result, ◌∙◌, ◌≤◌, ◌^◌, arith, lit≤}
use Rattle.dsa_base.{specs.Lists.{In}, proofs.Tables.{not-both}}
use Rattle.dsa_regs.specs.declared.{Caps.{Caps}, Fault.{Fault, TheVariants.{BadCommand}}}
use Rattle.dsa_book.specs.declared.event.Event.{Event}
use Rattle.dsa_device.specs.Running.{Running, running_at_first, IsReplay}
use Rattle.dsa_scenario.specs.declared.actions.BadWord.{BadWord}
use Rattle.dsa_scenario.specs.Worked.{no_command}
use Rattle.dsa_scenario.specs.declared.actions.Action.{Action, TheVariants.{Ask, Refuse}}
use Rattle.dsa_scenario.specs.declared.run.Record.{Record, TheVariants.{Stepped, Refused}}
use Rattle.dsa_scenario.specs.{Run.{event_of, AreOf}, Steps.{standing}, Worked.{smallest_caps, stepped}}
use Rattle.dsa_explain_lines.specs.Parts.{part_of}
use Rattle.dsa_conform.specs.{Against.{fact_against}, Allowed.{IsAllowed}}
use Rattle.dsa_conform.specs.Lines.{allowed_line, difference_text}
use Rattle.dsa_conform.specs.Run.{IsShownRun, IsDifference, IsAllowedLine, IsReason, AreAllLines}
use Rattle.dsa_conform.specs.{Seen.{Seen, nothing_seen, shows, AreShown}, Ways.{RunFrom}}
use Rattle.dsa_conform.specs.Worked.{answered, smallest_device_at_first}
use Rattle.dsa_conform.proofs.Runs.{ends_with, run_of}
use Rattle.dsa_conform.proofs.SeenAlike.{only_entry}

-- all runs of these steps lead to one state, and ask the same there
abbrev pub LeadTo : Caps → ℕ → List (Action × Seen) → Action → Running → Result Event BadWord → Type 0
LeadTo caps capacity before action now asked = (records : List Record) → (after : Running)
    → RunFrom [] (running_at_first caps capacity) before records after
    → (after ≡ now) × (event_of records action ≡ asked)

-- where one answer may come there, its line is all there is to tell
pub all_lines : (caps : Caps) (capacity : ℕ) (before : List (Action × Seen)) (action : Action)
    (now : Running) (asked : Result Event BadWord) (entry : Record) (some : List Record)
    → IsReplay (running_at_first caps capacity) → IsShownRun caps capacity before some
    → LeadTo caps capacity before action now asked → IsAllowed now asked entry
    → ((other : Record) → IsAllowed now asked other → entry ≡ other)
    → AreAllLines caps capacity before action ((entry, allowed_line (part_of now asked) entry) ∷ [])
all_lines caps capacity before action now asked entry some i run lead may only = record {
  each = λ line k. each line k;
  all = λ records more other is.
      let to = lead records (standing caps capacity records) (run_of caps capacity before records i more) in
      let same = only other (subst (λ q. IsAllowed now q other) to.1
      (subst (λ d. IsAllowed d (event_of records action) other) to.0 is)) in (
        (entry, allowed_line (part_of now asked) entry),
        inl refl,
        (part_of now asked, reason, ap (λ r. allowed_line (part_of now asked) r) same),
      );
  listed = record { order = (λ line i. absurd i, tt); once = (λ line i. absurd i, tt) };
}
  where
    reason : IsReason caps capacity before action (part_of now asked)
    reason =
        let to = lead some (standing caps capacity some) (run_of caps capacity before some i run) in
        record {
          records = some;
          run = run;
          is = ap (λ q. part_of now q) (sym to.1) ∙ ap (λ d. part_of d (event_of some action)) (sym to.0);
        }

    first_line : IsAllowedLine caps capacity before action entry (allowed_line (part_of now asked) entry)
    first_line =
        let to = lead some (standing caps capacity some) (run_of caps capacity before some i run) in
        record {
          records = some;
          run = run;
          allowed = subst (λ q. IsAllowed (standing caps capacity some) q entry) (sym to.1)
              (subst (λ d. IsAllowed d asked entry) (sym to.0) may);
          told = ap (λ q. allowed_line (part_of now q) entry) (sym to.1)
              ∙ ap (λ d. allowed_line (part_of d (event_of some action)) entry) (sym to.0);
        }

    each : (line : Record × List ℕ) → In line ((entry, allowed_line (part_of now asked) entry) ∷ [])
        → IsAllowedLine caps capacity before action line.0 line.1
    each line (inl same) =
        subst (λ (l : Record × List ℕ). IsAllowedLine caps capacity before action l.0 l.1) same first_line
    each line (inr none) = absurd none

-- and where it does not show what was seen, there is a difference
pub differs : (caps : Caps) (capacity : ℕ) (before : List (Action × Seen)) (here : Action × Seen) (number : ℕ)
    (now : Running) (asked : Result Event BadWord) (entry : Record) (some : List Record)
    → IsReplay (running_at_first caps capacity) → IsShownRun caps capacity before some
    → LeadTo caps capacity before here.0 now asked → IsAllowed now asked entry
    → ((other : Record) → IsAllowed now asked other → entry ≡ other) → shows here.1 entry ≡ false
    → IsDifference caps capacity before here number
    (difference_text number here.1 (fact_against now asked here.1)
    ((entry, allowed_line (part_of now asked) entry) ∷ []))
differs caps capacity before here number now asked entry some i run lead may only fails = record {
  some = some;
  run = run;
  none = λ records more.
      let e = ends_with [] (running_at_first caps capacity) before here records (standing caps capacity records)
      (run_of caps capacity (before ++ here ∷ []) records i more) in
      let to = lead e.first e.at e.run in
      let is : IsAllowed e.at (event_of e.first here.0) e.last =
      record { answers = e.step.answers; after = standing caps capacity records; leads = e.step.leads } in
      let same = only e.last (subst (λ q. IsAllowed now q e.last) to.1
      (subst (λ d. IsAllowed d (event_of e.first here.0) e.last) to.0 is)) in
      not-both (shows here.1 e.last) e.step.shown (subst (λ r. shows here.1 r ≡ false) same fails);
  lines = (entry, allowed_line (part_of now asked) entry) ∷ [];
  told = all_lines caps capacity before here.0 now asked entry some i run lead may only;
  any = ((entry, allowed_line (part_of now asked) entry), inl refl);
  fact = fact_against now asked here.1;
  against =
      let to = lead some (standing caps capacity some) (run_of caps capacity before some i run) in
      record {
        records = some;
        run = run;
        is = ap (λ q. fact_against now q here.1) (sym to.1)
            ∙ ap (λ d. fact_against d (event_of some here.0) here.1) (sym to.0);
      };
  is = refl;
}

-- ---- a device that has made no step

abbrev pub nothing : Record
nothing = stepped event.Poll (reply.Poll poll.Nothing)

pub is_nothing : IsAllowed smallest_device_at_first (Ok event.Poll) nothing
is_nothing = record { answers = refl; after = _; leads = refl }

pub only_nothing : (entry : Record) → IsAllowed smallest_device_at_first (Ok event.Poll) entry → nothing ≡ entry
only_nothing entry is = only_entry smallest_device_at_first _ is.after event.Poll (reply.Poll poll.Nothing) refl
    (λ b same. same) refl
    entry is.answers is.leads

pub smallest_replay : (capacity : ℕ) → capacity ≤ 2 ^ 20 → IsReplay (running_at_first smallest_caps capacity)
smallest_replay capacity small =
    record { caps = refl; bounded = small; within = omega arith; legal = refl; replayed = refl }

-- no run at all
pub none_leads : (action : Action) (e : Event) → ((records : List Record) → event_of records action ≡ Ok e)
    → LeadTo smallest_caps 9 [] action smallest_device_at_first (Ok e)
none_leads action e asks [] after h = (sym h, asks [])
none_leads action e asks (r ∷ rs) after h = absurd h

-- a word that is no command, of whose refusal nothing was seen
pub word_leads : LeadTo smallest_caps 9 ((Refuse no_command, nothing_seen) ∷ []) (Ask event.Poll)
    smallest_device_at_first (Ok event.Poll)
word_leads [] after h = absurd h
word_leads (Stepped x ∷ rs) after h = absurd (let other = h.1.answers in cc)
word_leads (Refused f ∷ []) after h = (sym h.2 ∙ h.1.leads, refl)
word_leads (Refused f ∷ q ∷ rs) after h = absurd h.2

pub poll_differs : IsDifference smallest_caps 9 [] (Ask event.Poll, answered (codes "active")) 0
    (difference_text 0 (answered (codes "active"))
    (fact_against smallest_device_at_first (Ok event.Poll) (answered (codes "active")))
    ((nothing, allowed_line (part_of smallest_device_at_first (Ok event.Poll)) nothing) ∷ []))
poll_differs =
    differs smallest_caps 9 [] (Ask event.Poll, answered (codes "active")) 0 smallest_device_at_first (Ok event.Poll)
    nothing [] (smallest_replay 9 (lit≤ tt)) (record { of_actions = tt; run = refl; shown = tt })
    (none_leads (Ask event.Poll) event.Poll (λ records. refl)) is_nothing only_nothing poll_not_active
  where
    poll_not_active : shows (answered (codes "active")) nothing ≡ false
    poll_not_active = refl

-- a word that is no command is not answered `nothing`
pub not_answered_so : (records : List Record) → AreOf [] (Refuse no_command ∷ []) records
    → AreShown (answered (codes "nothing") ∷ []) records → ⊥
unfolding digits
not_answered_so [] of shown = of
not_answered_so (Stepped step ∷ records) of shown = absurd (let other = of.0 in cc)
not_answered_so (Refused fault ∷ records) of shown =
    let asked = of.0 in
    let same : fault ≡ no_command = cc in
    let shown : shows (answered (codes "nothing")) (Refused no_command) ≡ true =
    subst (λ f. shows (answered (codes "nothing")) (Refused f) ≡ true) same shown.0 in
    absurd cc
