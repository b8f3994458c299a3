-- One step more of a walk.
use Rattle.std.proofs.Common.{◌≡◌, ◌<◌, ◌≤◌, ◌+◌, ℕ, true, List, [], ◌∷◌, ◌++◌, Some, None, Result, map, take, length}
use Rattle.std.proofs.Common.{filter_map, length-append, refl, sym, ap, ◌∙◌, subst, get_or}
use Rattle.std.specs.Prelude.{slice_get}
use Rattle.std.proofs.lemmas.{List.{map-append, take_all, length-map}, Option.{slice_get-map, slice_get_read}}
use Rattle.serde_json.specs.{Data.{Data}, View.{view}, declared.value.Value.{Value}}
use Rattle.dsa_regs.specs.declared.{Caps.{Caps}}
use Rattle.dsa_book.specs.declared.{answer.Ticket.{Ticket}, event.Event.{Event}}
use Rattle.dsa_book.specs.Machine.{is_run}
use Rattle.dsa_device.specs.Running.{Running}
use Rattle.dsa_scenario.specs.declared.actions.BadWord.{BadWord}
use Rattle.dsa_scenario.specs.declared.{actions.Action.{Action}, run.Record.{Record}}
use Rattle.dsa_scenario.specs.Run.{ticket_given_by, event_of, answered_by, steps_of_records, AreOf, IsTable, Leads}
use Rattle.dsa_scenario.specs.{Actions.{action_of}, Steps.{Visit, visits, IsAtFirst, IsWalkTo}}
use Rattle.dsa_scenario.proofs.Walks.{one_more, opened, text_of_run}
use Rattle.dsa_expand.specs.Steps.{Pair, Given, with_given, given_onto, object_with, strict_step}
use Rattle.dsa_expand.specs.Expansion.{AreStrictBy, AreExpanded, IsRunOfStrict, IsStuckAt}
use Rattle.dsa_expand.specs.Walk.{AreRecordsOf, IsWalkedOver}
use Rattle.dsa_expand.proofs.Lists.{taken_more}

records_are : (caps : Caps) (capacity : ℕ) (before records : List Record)
    → AreRecordsOf (visits caps capacity before records) records
records_are caps capacity before [] = refl
records_are caps capacity before (r ∷ rs) = ap (λ l. r ∷ l) (records_are caps capacity (before ++ r ∷ []) rs)

-- the names after one step more
given-push : (given : List Given) (ds : List Data) (pss : List (List Pair)) (rs : List Record) (d : Data) (r : Record)
    → AreStrictBy given ds pss rs
    → given_onto given (ds ++ d ∷ []) (rs ++ r ∷ []) ≡ with_given (given_onto given ds rs) d r
given-push given [] [] [] d r h = refl
given-push given (x ∷ xs) (q ∷ qs) (y ∷ ys) d r h = given-push (with_given given x y) xs qs ys d r h.1
given-push given _ _ _ d r h = absurd h

by-push : (given : List Given) (ds : List Data) (pss : List (List Pair)) (rs : List Record) (d : Data) (ps : List Pair)
    (r : Record) → AreStrictBy given ds pss rs → strict_step (Some (given_onto given ds rs)) d ≡ Some ps
    → AreStrictBy given (ds ++ d ∷ []) (pss ++ ps ∷ []) (rs ++ r ∷ [])
by-push given [] [] [] d ps r h e = (e, tt)
by-push given (x ∷ xs) (q ∷ qs) (y ∷ ys) d ps r h e =
    (h.0, by-push (with_given given x y) xs qs ys d ps r h.1 e)
by-push given _ _ _ d ps r h e = absurd h

pub walked_more : (caps : Caps) (capacity : ℕ) (steps : List Data) (now new : Running) (tickets more : List Ticket)
    (given longer : List Given) (pss : List (List Pair)) (d : Data) (ps : List Pair) (a : Action) (entry : Record)
    (asked : Result Event BadWord)
    → ((before : List Record) → IsTable (slice_get tickets) before → asked ≡ event_of before a)
    → answered_by entry ≡ asked → Leads now entry new → more ≡ tickets ++ filter_map ticket_given_by (entry ∷ [])
    → longer ≡ with_given given d entry → strict_step (Some given) d ≡ Some ps → Some a ≡ action_of (object_with ps)
    → IsWalkedOver caps capacity steps now tickets given pss
    → IsWalkedOver caps capacity (steps ++ d ∷ []) new more longer (pss ++ ps ∷ [])
walked_more caps capacity steps now new tickets more given longer pss d ps a entry asked asks answers leads noted names
    form acts h =
    record {
      records = h.records ++ entry ∷ [];
      actions = h.actions ++ a ∷ [];
      walk = subst (λ n. IsWalkTo AreRecordsOf caps capacity (h.actions ++ a ∷ []) n new more (h.records ++ entry ∷ []))
          (sym (length-append steps (d ∷ [])))
          (one_more AreRecordsOf (λ r q. []) caps capacity now new h.actions a (length steps) tickets more h.records
          (h.records ++ entry ∷ []) [] entry asked asks answers leads noted refl
          (λ made before told is. map-append (λ (step : Visit). step.entry) made _ ∙ ap (λ l. l ++ entry ∷ []) is)
          h.walk);
      by = by-push [] steps pss h.records d ps entry h.by
          (subst (λ g. strict_step (Some g) d ≡ Some ps) h.named form);
      asked = rw (
        map-append object_with pss (ps ∷ []),
        map-append action_of (map object_with pss) (object_with ps ∷ []),
        map-append Some h.actions (a ∷ []),
        h.asked,
        ← acts,
      ) refl;
      named = names ∙ ap (λ g. with_given g d entry) h.named
          ∙ sym (given-push [] steps pss h.records d entry h.by);
    }

pub walked_first : (caps : Caps) (capacity : ℕ) (now : Running) (tickets : List Ticket) (given : List Given)
    (pss : List (List Pair)) → IsAtFirst caps capacity now tickets → given ≡ [] → pss ≡ []
    → IsWalkedOver caps capacity [] now tickets given pss
walked_first caps capacity now tickets given pss first none empty =
    rw (none, empty) (record {
      records = [];
      actions = [];
      walk = opened AreRecordsOf caps capacity now tickets [] first refl;
      by = tt;
      asked = refl;
      named = refl;
    })

-- ---- what it says

run_of : (caps : Caps) (capacity : ℕ) (steps : List Data) (now : Running) (tickets : List Ticket) (given : List Given)
    (strict : List (List Pair)) → (h : IsWalkedOver caps capacity steps now tickets given strict)
    → IsRunOfStrict caps capacity strict h.records
run_of caps capacity steps now tickets given strict h =
    let t = text_of_run AreRecordsOf (λ made last text. AreRecordsOf made h.records) caps capacity h.actions
    (length steps) now tickets h.records [] h.walk (λ made is. is) in
    let same : t.records ≡ h.records = sym (records_are caps capacity [] t.records) ∙ t.rendered in
    record {
      actions = h.actions;
      asked = h.asked;
      of_actions = subst (λ rs. AreOf [] h.actions rs) same t.of_actions;
      run = subst (λ rs. is_run caps capacity (steps_of_records rs) ≡ true) same t.run;
    }

pub expanded_by : (caps : Caps) (capacity : ℕ) (steps : List Data) (now : Running) (tickets : List Ticket)
    (given : List Given) (strict : List (List Pair)) → IsWalkedOver caps capacity steps now tickets given strict
    → AreExpanded caps capacity steps strict
expanded_by caps capacity steps now tickets given strict h =
    record { records = h.records; by = h.by; run = run_of caps capacity steps now tickets given strict h }

-- ---- items in turn

pub walked_next : (caps : Caps) (capacity : ℕ) (vs : List Value) (i : ℕ) (v : Value) (now : Running)
    (tickets : List Ticket) (given : List Given) (strict : List (List Pair)) → i < length vs → v ≡ get_or vs i v
    → IsWalkedOver caps capacity (take i (map view vs) ++ view v ∷ []) now tickets given strict
    → IsWalkedOver caps capacity (take (i + 1) (map view vs)) now tickets given strict
walked_next caps capacity vs i v now tickets given strict inside is h = rw (taken_more view vs i v inside is) h

pub walked_all : (caps : Caps) (capacity : ℕ) (vs : List Value) (i : ℕ) (now : Running) (tickets : List Ticket)
    (given : List Given) (strict : List (List Pair)) → length vs ≤ i
    → IsWalkedOver caps capacity (take i (map view vs)) now tickets given strict
    → IsWalkedOver caps capacity (map view vs) now tickets given strict
walked_all caps capacity vs i now tickets given strict past h =
    let all : take i (map view vs) ≡ map view vs = take_all i (map view vs) (rw (length-map vs view) past) in
    rw all at h

pub stuck_here : (caps : Caps) (capacity : ℕ) (vs : List Value) (i : ℕ) (v : Value) (now : Running)
    (tickets : List Ticket) (given : List Given) (strict : List (List Pair)) → i < length vs → v ≡ get_or vs i v
    → None ≡ strict_step (Some given) (view v)
    → IsWalkedOver caps capacity (take i (map view vs)) now tickets given strict
    → IsStuckAt caps capacity (map view vs) i
stuck_here caps capacity vs i v now tickets given strict inside is none h = record {
  strict = strict;
  records = h.records;
  by = h.by;
  run = run_of caps capacity (take i (map view vs)) now tickets given strict h;
  here = rw (slice_get-map view vs i, slice_get_read vs (length vs) i v refl inside is, ← h.named, ← none) refl;
}
