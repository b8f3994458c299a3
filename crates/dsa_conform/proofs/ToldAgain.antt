-- A run that is told again, step by step.
use Rattle.std.proofs.Common.{◌≡◌, ◌<◌, ◌≤◌, ℕ, zero, suc, ◌+◌, List, [], ◌∷◌, ◌++◌, Option, Some, None, Result}
use Rattle.std.proofs.Common.{refl, sym, ap, ◌∙◌, subst, inl, inr, map, take, length, get_or, arith}
use Rattle.std.proofs.lemmas.List.{map-append, take_all, take-map, length-take-le}
use Rattle.std.proofs.lemmas.Option.{slice_get_within}
use Rattle.std.specs.Prelude.{slice_get}
use Rattle.serde_json.specs.{View.{view}, declared.value.Value.{Value}}
use Rattle.dsa_regs.specs.declared.{Caps.{Caps}, Fault.{Fault}}
use Rattle.dsa_book.specs.declared.{answer.Ticket.{Ticket}, event.Event.{Event}}
use Rattle.dsa_device.specs.Running.{Running}
use Rattle.dsa_scenario.specs.declared.actions.BadWord.{BadWord}
use Rattle.dsa_scenario.specs.declared.{actions.Action.{Action}, run.Record.{Record}}
use Rattle.dsa_scenario.specs.declared.faults.ScenarioFault.{ScenarioFault}
use Rattle.dsa_scenario.specs.declared.faults.ScenarioFault.TheVariants as fault
use Rattle.dsa_scenario.specs.Run.{event_of, answered_by, AreOf, IsTable}
use Rattle.dsa_scenario.specs.Steps.{Visit, visit, visits, IsTextOfRun}
use Rattle.dsa_scenario.proofs.{Streams.{with_page}, Walks.{one_more, text_of_run}}
use Rattle.dsa_conform.specs.Run.{AreAllRead, AreRead, IsFollowedTo, IsVerdict}
use Rattle.dsa_conform.specs.Seen.{Seen, nothing_seen, observation_of}
use Rattle.dsa_conform.specs.AsSeen.{ShowAll, seen_before, count_shown, IsFarthest, IsReadFarthest, IsStepMade}
use Rattle.dsa_conform.specs.AsSeen.{IsPageShown, IsPageTo}
use Rattle.dsa_conform.proofs.{Objects.{at_item, count_read}, Steps.{read_to}, Walks.{shown-push}}

-- one step more, on the page too
pub page_more : {Page : Type 0} (is_page : List Visit → Page → Type 0)
    (told_before : Running → Result Event BadWord → List ℕ) (caps : Caps) (capacity : ℕ) (now new : Running)
    (done : List (Action × Seen)) (here : Action × Seen) (number : ℕ) (tickets more : List Ticket) (page longer : Page)
    (told : List ℕ) (entry : Record) (asked : Result Event BadWord)
    → ((before : List Record) → IsTable (slice_get tickets) before → asked ≡ event_of before here.0)
    → told ≡ told_before now asked → IsStepMade now tickets here.0 here.1 entry new more
    → ((steps : List Visit) → (before : Running) → told ≡ told_before before (answered_by entry) → is_page steps page
    → is_page (steps ++ visit number before entry new ∷ []) longer)
    → IsPageTo is_page caps capacity done number now tickets page
    → IsPageTo is_page caps capacity (done ++ here ∷ []) (number + 1) new more longer
page_more is_page told_before caps capacity now new done here number tickets more page longer told entry asked asks
    tells made adds h =
    let answers : answered_by entry ≡ asked = made.answers h.records h.table ∙ sym (asks h.records h.table) in
    rw (map-append, map-append)
    (one_more (IsPageShown is_page) told_before caps capacity now new (map (λ o. o.0) done) here.0 number tickets more
    (page, map (λ o. o.1) done) (longer, map (λ o. o.1) done ++ here.1 ∷ []) told entry asked asks answers made.leads
    made.noted tells
    (λ steps before told on. (
      adds steps before told on.0,
      rw map-append (shown-push (map (λ o. o.1) done) (map (λ (step : Visit). step.entry) steps) here.1 entry on.1
          made.shown),
    ))
    h)

-- a run of nothing has no answers
none_of : (records : List Record) → AreOf [] [] records → records ≡ []
none_of [] h = refl
none_of (r ∷ rs) h = absurd h

-- a new device has a page of no steps
pub page_none : {Page : Type 0} (is_page : List Visit → Page → Type 0) (caps : Caps) (capacity : ℕ) (now : Running)
    (tickets : List Ticket) (page : Page) → IsFollowedTo caps capacity [] 0 now tickets → is_page [] page
    → IsPageTo is_page caps capacity [] 0 now tickets page
page_none is_page caps capacity now tickets page h blank =
    with_page _ (IsPageShown is_page) caps capacity [] 0 now tickets _ (page, []) h
    (subst (λ rs. IsPageShown is_page (visits caps capacity [] rs) (page, []))
    (sym (none_of h.records h.of_actions)) (blank, tt))

-- ---- what was seen of the first steps

-- one step more: of the first, what was seen of it, and else nothing
pub seen_more : (count : ℕ) (os : List (Action × Seen)) (o : Action × Seen) (seen : Seen)
    → (length os < count → seen ≡ o.1) → (count ≤ length os → seen ≡ nothing_seen)
    → seen_before count (os ++ o ∷ []) ≡ seen_before count os ++ (o.0, seen) ∷ []
seen_more zero [] o seen first other = ap (λ (s : Seen). (o.0, s) ∷ []) (sym (other (omega arith)))
seen_more zero (x ∷ xs) o seen first other =
    ap (λ l. (x.0, nothing_seen) ∷ l) (seen_more zero xs o seen (λ h. absurd (omega (arith, h)))
    (λ h. other (omega arith)))
seen_more (suc n) [] o seen first other = ap (λ (s : Seen). (o.0, s) ∷ []) (sym (first (omega arith)))
seen_more (suc n) (x ∷ xs) o seen first other =
    ap (λ l. x ∷ l) (seen_more n xs o seen (λ h. first (omega (arith, h))) (λ h. other (omega (arith, h))))

-- the same is asked
pub same_asked : (count : ℕ) (os : List (Action × Seen))
    → map (λ (o : Action × Seen). o.0) (seen_before count os) ≡ map (λ (o : Action × Seen). o.0) os
same_asked zero [] = refl
same_asked zero (x ∷ xs) = ap (λ l. x.0 ∷ l) (same_asked zero xs)
same_asked (suc n) [] = refl
same_asked (suc n) (x ∷ xs) = ap (λ l. x.0 ∷ l) (same_asked n xs)

-- one step more of those that are read
pub told_on : {Page : Type 0} (is_page : List Visit → Page → Type 0) (vs : List Value) (observed : List (Action × Seen))
    (i : ℕ) (v : Value) (here : Action × Seen) (seen : Seen) (count : ℕ) (caps : Caps) (capacity : ℕ)
    (now new : Running) (tickets more : List Ticket) (page longer : Page) → AreRead (map view vs) observed
    → i < length vs → v ≡ get_or vs i v → Some here ≡ observation_of (view v)
    → (i < count → seen ≡ here.1) → (count ≤ i → seen ≡ nothing_seen)
    → ((caps : Caps) → (capacity : ℕ) → (done : List (Action × Seen))
    → IsPageTo is_page caps capacity done i now tickets page
    → IsPageTo is_page caps capacity (done ++ (here.0, seen) ∷ []) (i + 1) new more longer)
    → IsPageTo is_page caps capacity (seen_before count (take i observed)) i now tickets page
    → IsPageTo is_page caps capacity (seen_before count (take (i + 1) observed)) (i + 1) new more longer
told_on is_page vs observed i v here seen count caps capacity now new tickets more page longer read inside is reads
    first other goes h =
    let to = read_to (map view vs) observed i here read (at_item vs i v (Some here) inside is reads) in
    let whole = count_read vs observed read in
    let so_many : length (take i observed) ≡ i = length-take-le i observed (omega (arith, whole, inside)) in
    let one_more = seen_more count (take i observed) here seen (λ h. first (rw so_many at h))
    (λ h. other (rw so_many at h)) in
    subst (λ done. IsPageTo is_page caps capacity done (i + 1) new more longer)
    (sym (ap (seen_before count) to.more ∙ one_more)) (goes caps capacity (seen_before count (take i observed)) h)

-- the text of all of them
pub told_text : {Page : Type 0} (is_page : List Visit → Page → Type 0)
    (is_text : List Visit → Running → List ℕ → Type 0) (vs : List Value) (observed : List (Action × Seen)) (i count : ℕ)
    (caps : Caps) (capacity : ℕ) (now : Running) (tickets : List Ticket) (page : Page) (text : List ℕ)
    → AreRead (map view vs) observed → length vs ≤ i
    → ((steps : List Visit) → is_page steps page → is_text steps now text)
    → IsPageTo is_page caps capacity (seen_before count (take i observed)) i now tickets page
    → IsTextOfRun (λ made last told. ShowAll (seen_before count observed) made × is_text made last told) caps capacity
    (map (λ (o : Action × Seen). o.0) observed) text
told_text is_page is_text vs observed i count caps capacity now tickets page text read past ends h =
    let whole = count_read vs observed read in
    let all : take i observed ≡ observed = take_all i observed (omega (arith, whole, past)) in
    let made : IsPageTo is_page caps capacity (seen_before count observed) i now tickets page =
    subst (λ os. IsPageTo is_page caps capacity (seen_before count os) i now tickets page) all h in
    subst (λ actions. IsTextOfRun (λ made last told. ShowAll (seen_before count observed) made
    × is_text made last told) caps capacity actions text) (same_asked count observed)
    (text_of_run (IsPageShown is_page)
    (λ made last told. ShowAll (seen_before count observed) made × is_text made last told) caps capacity _ i now tickets
    (page, map (λ o. o.1) (seen_before count observed)) text made
    (λ steps on. (on.1, ends steps on.0)))

-- ---- how far a comparison goes

-- the first steps are read too
pub read_before : (vs : List Value) (count : ℕ) → AreAllRead (map view vs) → AreAllRead (map view (take count vs))
read_before vs count h = (
  take count h.0,
  ap (map observation_of) (sym (take-map view count vs)) ∙ sym (take-map observation_of count (map view vs))
      ∙ ap (take count) h.1 ∙ take-map (λ (o : Action × Seen). Some o) count h.0,
)

-- so many steps were answered as was seen, and none is answered so behind them
pub record IsReachedTo (caps : Caps) (capacity : ℕ) (vs : List Value) (count : ℕ) : Type 0 where
  pub observed : List (Action × Seen)
  pub read : AreRead (map view vs) observed
  pub farthest : IsFarthest caps capacity observed count
  pub inside : count ≤ length vs

pub reached_to : (caps : Caps) (capacity : ℕ) (vs : List Value) (f : Option ScenarioFault) (text : List ℕ)
    → IsVerdict caps capacity (map view vs) f text → IsReachedTo caps capacity vs (count_shown (length vs) f)
reached_to caps capacity vs None text h = record {
  observed = h.observed;
  read = h.read;
  farthest = inl (sym (count_read vs h.observed h.read));
  inside = omega arith;
}
reached_to caps capacity vs (Some (fault.Differs i)) text h =
    let whole = count_read vs h.observed h.read in
    let within = slice_get_within h.observed i h.here h.at in
    record {
      observed = h.observed;
      read = h.read;
      farthest = inr (h.here, h.at, h.differs.none);
      inside = omega (arith, whole, within);
    }
reached_to caps capacity vs (Some _) text h = absurd h

-- that is how far a comparison has come
pub farthest_of : (caps : Caps) (capacity : ℕ) (vs : List Value) (f : Option ScenarioFault) (text : List ℕ) (count : ℕ)
    → IsVerdict caps capacity (map view vs) f text → count ≡ count_shown (length vs) f
    → IsReadFarthest caps capacity (map view vs) count × (count ≤ length vs)
farthest_of caps capacity vs f text count h is =
    let to = reached_to caps capacity vs f text h in (
      record {
        observed = to.observed;
        read = to.read;
        farthest = subst (λ n. IsFarthest caps capacity to.observed n) (sym is) to.farthest;
      },
      subst (λ n. n ≤ length vs) (sym is) to.inside,
    )
