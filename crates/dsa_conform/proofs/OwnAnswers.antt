-- How far a device answers by itself as was seen.
use Rattle.std.proofs.Common.{◌≡◌, ◌<◌, ◌≤◌, ℕ, ◌+◌, Bool, true, false, List, ◌∷◌, [], ◌++◌, Some, refl, sym, ap, ◌∙◌}
use Rattle.std.proofs.Common.{subst, map, take, length, get_or, arith}
use Rattle.std.proofs.lemmas.{List.{take_all}, Option.{same_Some, slice_get_within}}
use Rattle.std.specs.Prelude.{slice_get}
use Rattle.serde_json.specs.{View.{view}, declared.value.Value.{Value}}
use Rattle.dsa_regs.specs.declared.Caps.{Caps}
use Rattle.dsa_book.specs.declared.answer.Ticket.{Ticket}
use Rattle.dsa_device.specs.Running.{Running}
use Rattle.dsa_scenario.specs.declared.{actions.Action.{Action}, run.Record.{Record}}
use Rattle.dsa_scenario.specs.{Run.{event_of}, Steps.{standing}}
use Rattle.dsa_conform.specs.{Allowed.{IsAllowed}, AsSeen.{IsShownUpTo, IsStepTried}}
use Rattle.dsa_conform.specs.Run.{AreRead, IsFollowedTo, IsShownRun}
use Rattle.dsa_conform.specs.Seen.{Seen, observation_of, shows}
use Rattle.dsa_conform.proofs.{Objects.{at_item, count_read, read_at}, Steps.{come_on}, Walks.{followed_more, reached}}

-- the answer shows what was seen: the device has come by this step too
pub alone_on : (vs : List Value) (observed : List (Action × Seen)) (i : ℕ) (v : Value) (here : Action × Seen)
    (shown : Bool) (caps : Caps) (capacity : ℕ) (now new : Running) (tickets more : List Ticket)
    → AreRead (map view vs) observed → i < length vs → v ≡ get_or vs i v → Some here ≡ observation_of (view v)
    → shown ≡ true → IsStepTried now tickets here.0 here.1 shown new more
    → IsFollowedTo caps capacity (take i observed) i now tickets
    → IsFollowedTo caps capacity (take (i + 1) observed) (i + 1) new more
alone_on vs observed i v here shown caps capacity now new tickets more read inside is reads is_shown tried h =
    come_on (map view vs) observed i here caps capacity now new tickets more read
    (at_item vs i v (Some here) inside is reads)
    (λ caps capacity done number. followed_more caps capacity now new done here number tickets more tried.entry
    tried.answers tried.leads tried.noted (sym tried.shown ∙ is_shown))
    h

-- it does not: so far the device has come
pub alone_to : (vs : List Value) (observed : List (Action × Seen)) (i : ℕ) (v : Value) (here : Action × Seen)
    (shown : Bool) (caps : Caps) (capacity : ℕ) (now new : Running) (tickets more : List Ticket)
    → AreRead (map view vs) observed → i < length vs → v ≡ get_or vs i v → Some here ≡ observation_of (view v)
    → shown ≡ false → IsStepTried now tickets here.0 here.1 shown new more
    → IsFollowedTo caps capacity (take i observed) i now tickets
    → IsShownUpTo caps capacity observed i
alone_to vs observed i v here shown caps capacity now new tickets more read inside is reads fails tried h =
    let at = read_at (map view vs) observed i here read (at_item vs i v (Some here) inside is reads) in
    let to = reached caps capacity now (take i observed) i tickets h in
    let allowed : IsAllowed now (event_of to.records here.0) tried.entry =
    record { answers = tried.answers to.records to.table; after = new; leads = tried.leads } in
    record {
      records = to.records;
      run = to.run;
      next = λ other there.
          subst (λ (o : Action × Seen). (entry : Record)
          × IsAllowed (standing caps capacity to.records) (event_of to.records o.0) entry × (shows o.1 entry ≡ false))
          (same_Some here other (sym at.at ∙ there)) (
            tried.entry,
            subst (λ d. IsAllowed d (event_of to.records here.0) tried.entry) (sym to.stands) allowed,
            sym tried.shown ∙ fails,
          );
    }

-- it has come by all steps
pub alone_all : (vs : List Value) (observed : List (Action × Seen)) (i count : ℕ) (caps : Caps) (capacity : ℕ)
    (now : Running) (tickets : List Ticket) → AreRead (map view vs) observed → length vs ≤ i → count ≡ length vs
    → IsFollowedTo caps capacity (take i observed) i now tickets → IsShownUpTo caps capacity observed count
alone_all vs observed i count caps capacity now tickets read past told h =
    let whole = count_read vs observed read in
    let to = reached caps capacity now (take i observed) i tickets h in
    let same : take i observed ≡ take count observed =
    take_all i observed (omega (arith, whole, past)) ∙ sym (take_all count observed (omega (arith, whole, told))) in
    record {
      records = to.records;
      run = subst (λ done. IsShownRun caps capacity done to.records) same to.run;
      next = λ other there.
          let within = slice_get_within observed count other there in
          absurd (omega (arith, within, whole, told));
    }
