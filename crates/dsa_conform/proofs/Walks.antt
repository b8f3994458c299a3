-- One step more of a walk by what was seen, and where it ends.
use Rattle.std.proofs.Common.{◌≡◌, ℕ, ◌+◌, Bool, true, false, List, []}
use Rattle.std.proofs.Common.{◌∷◌, ◌++◌, Option, Some, None, refl, ap}
use Rattle.std.proofs.Common.{subst, map, filter_map}
use Rattle.std.proofs.lemmas.List.{map-append}
use Rattle.std.specs.Prelude.{slice_get, is_some, ◌&&◌, ◌||◌}
use Rattle.dsa_regs.specs.declared.{Caps.{Caps}}
use Rattle.dsa_book.specs.declared.{answer.Ticket.{Ticket}}
use Rattle.dsa_device.specs.{Running.{Running}}
use Rattle.dsa_scenario.specs.declared.{actions.Action.{Action}, run.Record.{Record}}
use Rattle.dsa_scenario.specs.Run.{ticket_given_by, event_of, answered_by, Leads, IsTable}
use Rattle.dsa_scenario.specs.Steps.{standing, Visit, visits, IsAtFirst}
use Rattle.dsa_scenario.proofs.Walks.{walk_stands, one_more, opened}
use Rattle.dsa_conform.specs.Run.{IsShownRun, IsFollowedTo}
use Rattle.dsa_conform.specs.Seen.{Seen, is_seen, answer_shown, zf_shown, shows, AreShown}

-- the records of a run's steps are its records
pub entries-visits : (caps : Caps) (capacity : ℕ) (before records : List Record)
    → map (λ (step : Visit). step.entry) (visits caps capacity before records) ≡ records
entries-visits caps capacity before [] = refl
entries-visits caps capacity before (r ∷ rs) = ap (λ l. r ∷ l) (entries-visits caps capacity (before ++ r ∷ []) rs)

-- one answer more that shows what was seen of it
pub shown-push : (seens : List Seen) (entries : List Record) (seen : Seen) (entry : Record) → AreShown seens entries
    → shows seen entry ≡ true → AreShown (seens ++ seen ∷ []) (entries ++ entry ∷ [])
shown-push [] [] seen entry h here = (here, tt)
shown-push [] (r ∷ rs) seen entry h here = absurd h
shown-push (s ∷ ss) [] seen entry h here = absurd h
shown-push (s ∷ ss) (r ∷ rs) seen entry h here = (h.0, shown-push ss rs seen entry h.1 here)

-- where nothing was seen, any answer shows it
unseen : (answer : Option (List ℕ)) (zf : Option Bool) (entry : Record) → (is_some answer || is_some zf) ≡ false
    → (answer_shown answer entry && zf_shown zf entry) ≡ true
unseen None None entry h = refl
unseen None (Some flag) entry h = absurd cc
unseen (Some text) zf entry h = absurd cc

pub shows_unseen : (seen : Seen) (entry : Record) → is_seen seen ≡ false → shows seen entry ≡ true
shows_unseen seen entry h = unseen seen.answer seen.zf entry h

-- the answers of these steps show this
abbrev ShowAll : List Visit → List Seen → Type 0
ShowAll steps seens = AreShown seens (map (λ step. step.entry) steps)

-- a walk with one step more
pub followed_more : (caps : Caps) (capacity : ℕ) (now new : Running) (done : List (Action × Seen)) (here : Action ×
    Seen)
    (number : ℕ) (tickets more : List Ticket) (entry : Record)
    → ((before : List Record) → IsTable (slice_get tickets) before → answered_by entry ≡ event_of before here.0)
    → Leads now entry new → more ≡ tickets ++ filter_map ticket_given_by (entry ∷ []) → shows here.1 entry ≡ true
    → IsFollowedTo caps capacity done number now tickets
    → IsFollowedTo caps capacity (done ++ here ∷ []) (number + 1) new more
followed_more caps capacity now new done here number tickets more entry answers leads noted shown h =
    rw (map-append, map-append)
    (one_more ShowAll (λ d asked. []) caps capacity now new (map (λ o. o.0) done) here.0 number tickets more
    (map (λ o. o.1) done) (map (λ o. o.1) done ++ here.1 ∷ []) [] entry (answered_by entry) answers refl leads noted
    refl
    (λ steps before told made. rw map-append (shown-push (map (λ o. o.1) done)
    (map (λ (step : Visit). step.entry) steps) here.1 entry made shown))
    h)

-- what a walk has come to: a run that shows what was seen, after which the device stands so
pub record IsReached (caps : Caps) (capacity : ℕ) (done : List (Action × Seen)) (now : Running) (tickets : List Ticket)
    : Type 0 where
  pub records : List Record
  pub run : IsShownRun caps capacity done records
  pub stands : standing caps capacity records ≡ now
  pub table : IsTable (slice_get tickets) records

pub reached : (caps : Caps) (capacity : ℕ) (now : Running) (done : List (Action × Seen)) (number : ℕ)
    (tickets : List Ticket) → IsFollowedTo caps capacity done number now tickets
    → IsReached caps capacity done now tickets
reached caps capacity now done number tickets h = record {
  records = h.records;
  run = record {
    of_actions = h.of_actions;
    run = rw h.run.added h.run.allowed;
    shown = subst (λ rs. AreShown (map (λ o. o.1) done) rs) (entries-visits caps capacity [] h.records) h.made;
  };
  stands = walk_stands ShowAll caps capacity (map (λ o. o.0) done) number now tickets (map (λ o. o.1) done) h;
  table = h.table;
}

-- the records of a walk are a run, and lead to where the device stands
pub shown_run : (caps : Caps) (capacity : ℕ) (done : List (Action × Seen)) (number : ℕ) (now : Running)
    (tickets : List Ticket) (h : IsFollowedTo caps capacity done number now tickets)
    → IsShownRun caps capacity done h.records
shown_run caps capacity done number now tickets h = record {
  of_actions = h.of_actions;
  run = rw h.run.added h.run.allowed;
  shown = subst (λ rs. AreShown (map (λ o. o.1) done) rs) (entries-visits caps capacity [] h.records) h.made;
}

pub stands_at : (caps : Caps) (capacity : ℕ) (done : List (Action × Seen)) (number : ℕ) (now : Running)
    (tickets : List Ticket) (h : IsFollowedTo caps capacity done number now tickets)
    → standing caps capacity h.records ≡ now
stands_at caps capacity done number now tickets h =
    walk_stands ShowAll caps capacity (map (λ o. o.0) done) number now tickets (map (λ o. o.1) done) h

-- a new device has come by nothing
pub followed_none : (caps : Caps) (capacity : ℕ) (now : Running) (tickets : List Ticket)
    → IsAtFirst caps capacity now tickets → IsFollowedTo caps capacity [] 0 now tickets
followed_none caps capacity now tickets first = opened ShowAll caps capacity now tickets [] first tt
