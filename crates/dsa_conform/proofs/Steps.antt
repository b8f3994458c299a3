-- The steps of a document, followed one after the other.
use Rattle.std.proofs.Common.{◌≡◌, ◌<◌, ◌≤◌, ℕ, zero, suc, ◌+◌, List, [], ◌∷◌, ◌++◌}
use Rattle.std.proofs.Common.{Option, Some, None, refl, sym, ap, ◌∙◌, subst, map}
use Rattle.std.proofs.Common.{take, length, cond, get_or, arith}
use Rattle.std.proofs.lemmas.List.{length-map, take_all, Sums.{sum_by_push}}
use Rattle.dsa_regs.specs.declared.Caps.{Caps}
use Rattle.dsa_book.specs.declared.answer.Ticket.{Ticket}
use Rattle.dsa_device.specs.Running.{Running}
use Rattle.std.proofs.Common.{Bool, true, false}
use Rattle.serde_json.specs.{Data.{Data}, View.{view}, declared.value.Value.{Value}}
use Rattle.dsa_scenario.specs.declared.{faults.ScenarioFault.{ScenarioFault}}
use Rattle.dsa_scenario.specs.declared.faults.ScenarioFault.TheVariants as fault
use Rattle.dsa_scenario.specs.{Document.{HasHead, IsOpenable}}
use Rattle.dsa_conform.specs.declared.{way.Way.{Way}, sights.Sights.{Sights}}
use Rattle.dsa_scenario.specs.declared.actions.Action.{Action}
use Rattle.dsa_conform.specs.Lines.{conforms_text, seen_count}
use Rattle.dsa_conform.specs.Run.{AreRead, IsConforming, IsDifference, IsDiffering, IsFollowedTo, IsToldOf}
use Rattle.dsa_conform.specs.{Seen.{Seen, is_seen, observation_of}, Sights.{step_at, steps_counted}}
use Rattle.dsa_conform.specs.Ways.{AreFollowed, IsReadTo}
use Rattle.dsa_conform.proofs.{Bare.{length_counted}, Objects.{at_item, read_at, as_many_read}, Walks.{reached}}
use Rattle.dsa_conform.proofs.NamedEnds.{step_named, all_named, take_named}

-- a device that has come by one step more of those that are read
pub come_on : (steps : List Data) (observed : List (Action × Seen)) (i : ℕ) (here : Action × Seen) (caps : Caps)
    (capacity : ℕ) (now new : Running) (tickets more : List Ticket) → AreRead steps observed
    → Some here ≡ step_at steps i
    → ((caps : Caps) → (capacity : ℕ) → (done : List (Action × Seen)) → (number : ℕ)
    → IsFollowedTo caps capacity done number now tickets
    → IsFollowedTo caps capacity (done ++ here ∷ []) (number + 1) new more)
    → IsFollowedTo caps capacity (take i observed) i now tickets
    → IsFollowedTo caps capacity (take (i + 1) observed) (i + 1) new more
come_on steps observed i here caps capacity now new tickets more read reads goes h =
    let at = read_at steps observed i here read reads in
    subst (λ done. IsFollowedTo caps capacity done (i + 1) new more) (sym at.more)
    (goes caps capacity (take i observed) i h)

-- what is read at a place
pub read_to : (steps : List Data) (observed : List (Action × Seen)) (i : ℕ) (here : Action × Seen)
    → AreRead steps observed → Some here ≡ step_at steps i → IsReadTo steps observed i here
read_to steps observed i here read reads = record {
  read = read;
  more = (read_at steps observed i here read reads).more;
  named = take_named i observed (all_named steps observed read);
  is_named = step_named steps i here reads;
}

-- the same devices, one step later
pub stepped_to : (steps : List Data) (observed : List (Action × Seen)) (i : ℕ) (here : Action × Seen) (caps : Caps)
    (capacity : ℕ) (ways : List Way) → IsReadTo steps observed i here
    → AreFollowed caps capacity (take i observed ++ here ∷ []) (i + 1) ways
    → AreFollowed caps capacity (take (i + 1) observed) (i + 1) ways
stepped_to steps observed i here caps capacity ways read h =
    subst (λ done. AreFollowed caps capacity done (i + 1) ways) (sym read.more) h

-- the step that differs
pub differs_at : (steps : List Data) (observed : List (Action × Seen)) (i : ℕ) (here : Action × Seen) (caps : Caps)
    (capacity : ℕ) (text : List ℕ) → AreRead steps observed → Some here ≡ step_at steps i
    → IsDifference caps capacity (take i observed) here i text → IsDiffering caps capacity steps i text
differs_at steps observed i here caps capacity text read reads h = record {
  observed = observed;
  read = read;
  here = here;
  at = (read_at steps observed i here read reads).at;
  differs = h;
}

-- so many answers were seen of the first steps
pub record IsCountedTo (steps : List Data) (observed : List (Action × Seen)) (i answers : ℕ) : Type 0 where
  pub read : AreRead steps observed
  pub counted : answers ≡ seen_count (take i observed)
  pub at_most : answers ≤ i

-- as many were counted as came, at most
not_more : (b : Bool) (answers more i : ℕ) → more ≡ answers + cond b 1 0 → answers ≤ i → more ≤ i + 1
not_more true answers more i adds h = omega (arith, adds, h)
not_more false answers more i adds h = omega (arith, adds, h)

-- one observation more is counted
pub count_more : {steps : List Data} {observed : List (Action × Seen)} {i answers : ℕ} (here : Action × Seen)
    (more : ℕ) → IsCountedTo steps observed i answers → Some here ≡ step_at steps i
    → more ≡ answers + cond (is_seen here.1) 1 0 → IsCountedTo steps observed (i + 1) more
count_more {steps} {observed} {i} {answers} here more h reads adds = record {
  read = h.read;
  counted =
      adds ∙ ap (λ n. n + cond (is_seen here.1) 1 0) h.counted
      ∙ sym (sum_by_push (λ (o : Action × Seen). cond (is_seen o.1) 1 0) (take i observed) here)
      ∙ ap seen_count (sym (read_at steps observed i here h.read reads).more);
  at_most = not_more (is_seen here.1) answers more i adds h.at_most;
}

-- a step that is read is one
never_unread : (steps : List Data) (observed : List (Action × Seen)) (i : ℕ) → AreRead steps observed
    → i < length steps → None ≡ step_at steps i → ⊥
never_unread [] observed i read inside none = absurd (omega (arith, inside))
never_unread (d ∷ ds) [] i read inside none = absurd cc
never_unread (d ∷ ds) (o ∷ os) zero read inside none =
    let first : observation_of d ≡ Some o = cc in
    let bad : None ≡ Some o = none ∙ first in absurd cc
never_unread (d ∷ ds) (o ∷ os) (suc i) read inside none =
    let rest : map observation_of ds ≡ map Some os = cc in
    never_unread ds os i rest (omega (arith, inside)) none

pub reads_item : (steps : List Data) (observed : List (Action × Seen)) (i : ℕ) {X : Type 0} → AreRead steps observed
    → i < length steps → None ≡ step_at steps i → X
reads_item steps observed i read inside none = absurd (never_unread steps observed i read inside none)

pub reads_counted : (sights : Sights) (observed : List (Action × Seen)) (i : ℕ) {X : Type 0}
    → AreRead (steps_counted sights) observed → i < length sights.head.now.steps.now
    → None ≡ step_at (steps_counted sights) i → X
reads_counted sights observed i read inside none =
    absurd (never_unread (steps_counted sights) observed i read (rw (length_counted sights) inside) none)

pub reads_value : (vs : List Value) (observed : List (Action × Seen)) (i : ℕ) (v : Value) {X : Type 0}
    → AreRead (map view vs) observed → i < length vs → v ≡ get_or vs i v → None ≡ observation_of (view v) → X
reads_value vs observed i v read inside is none =
    absurd (never_unread (map view vs) observed i read (rw length-map inside) (at_item vs i v None inside is none))

-- all of them were followed
pub conforms : (sights : Sights) {observed : List (Action × Seen)} {i answers : ℕ} {caps : Caps} {capacity : ℕ}
    {ways : List Way} (text : List ℕ) → IsCountedTo (steps_counted sights) observed i answers
    → AreFollowed caps capacity (take i observed) i ways → length sights.head.now.steps.now ≤ i
    → text ≡ conforms_text (length sights.head.now.steps.now) answers
    → IsConforming caps capacity (steps_counted sights) text
conforms sights {observed} {i} {answers} {caps} {capacity} text counted h past told =
    let whole : length observed ≡ length sights.head.now.steps.now =
    as_many_read (steps_counted sights) observed counted.read ∙ length_counted sights in
    let all : take i observed ≡ observed = take_all i observed (rw whole past) in
    let way = h.some in
    let at = reached caps capacity way.0.device observed i way.0.tickets.items
    (subst (λ done. IsFollowedTo caps capacity done i way.0.device way.0.tickets.items) all (h.each way.0 way.1)) in
    record {
      observed = observed;
      read = counted.read;
      records = at.records;
      run = at.run;
      told = told ∙ rw (whole, ← all, ← counted.counted) refl;
    }

-- what is told of the steps of a document
pub told_of : (is_told : Caps → ℕ → List Data → Option ScenarioFault → List ℕ → Type 0)
    → ((caps : Caps) → (capacity : ℕ) → (steps : List Data) → (i : ℕ) → (text : List ℕ)
    → ¬ is_told caps capacity steps (Some (fault.BadStep i)) text)
    → (bytes : List ℕ) (caps : Caps) (capacity : ℕ) (steps : List Data) (fault : Option ScenarioFault)
    (text : List ℕ) → HasHead bytes caps capacity steps → IsOpenable caps capacity
    → is_told caps capacity steps fault text → IsToldOf is_told bytes fault text
told_of is_told all bytes caps capacity steps None text head opening h =
    record { caps = caps; capacity = capacity; steps = steps; head = head; opening = opening; verdict = h }
told_of is_told all bytes caps capacity steps (Some (fault.BadStep i)) text head opening h =
    absurd (all caps capacity steps i text h)
told_of is_told all bytes caps capacity steps (Some _) text head opening h =
    record { caps = caps; capacity = capacity; steps = steps; head = head; opening = opening; verdict = h }
