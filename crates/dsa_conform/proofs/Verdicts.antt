-- One step of the devices that are followed, by what is read of it.
use Rattle.std.proofs.Common.{◌≡◌, ℕ, ◌+◌, List, [], ◌∷◌, ◌++◌, Option, Some, None, sym, subst, take}
use Rattle.serde_json.specs.Data.{Data}
use Rattle.dsa_regs.specs.declared.Caps.{Caps}
use Rattle.dsa_scenario.specs.declared.actions.Action.{Action}
use Rattle.dsa_scenario.specs.declared.faults.ScenarioFault.{ScenarioFault, TheVariants.{Differs}}
use Rattle.dsa_scenario.specs.Run.{event_of}
use Rattle.dsa_conform.specs.declared.{way.Way.{Way}, told.Told.{Told}}
use Rattle.dsa_conform.specs.Run.{AreRead, IsDiffering, IsFollowedTo, IsVerdict}
use Rattle.dsa_conform.specs.{Seen.{Seen}, Sights.{step_at}}
use Rattle.dsa_conform.specs.ToldLines.{IsTextTold}
use Rattle.dsa_conform.specs.Ways.{AreFollowed, AreOn, AreStepped, IsFollowedOn, IsNamedEnd, IsOn}
use Rattle.dsa_conform.proofs.Companions.{alone_on, alone_differs}
use Rattle.dsa_conform.proofs.Steps.{read_to, stepped_to, differs_at}

-- ---- several devices

pub all_on : (steps : List Data) (observed : List (Action × Seen)) (i : ℕ) (here : Action × Seen)
    (caps : Caps) (capacity : ℕ) (old new : List Way) (differs : Option (List ℕ)) → AreRead steps observed
    → Some here ≡ step_at steps i
    → AreOn caps capacity steps here i old new differs → differs ≡ None
    → AreFollowed caps capacity (take i observed) i old → AreFollowed caps capacity (take (i + 1) observed) (i + 1) new
all_on steps observed i here caps capacity old new differs read reads on none followed =
    let to = read_to steps observed i here read reads in
    stepped_to steps observed i here caps capacity new to
    (subst (λ d. AreStepped caps capacity (take i observed) here i new d) none (on observed to followed))

pub all_differ_at : (steps : List Data) (observed : List (Action × Seen)) (i : ℕ) (here : Action × Seen)
    (caps : Caps) (capacity : ℕ) (old new : List Way) (differs : Option (List ℕ)) (text : List ℕ)
    → AreRead steps observed → Some here ≡ step_at steps i
    → AreOn caps capacity steps here i old new differs → differs ≡ Some text
    → AreFollowed caps capacity (take i observed) i old → IsDiffering caps capacity steps i text
all_differ_at steps observed i here caps capacity old new differs text read reads on some followed =
    let to = read_to steps observed i here read reads in
    differs_at steps observed i here caps capacity text read reads
    (subst (λ d. AreStepped caps capacity (take i observed) here i new d) some (on observed to followed))

-- ---- one alone

-- what a step of one device comes to, wherever that is
abbrev pub StepsOn : Way → Action × Seen → Way → Option Told → Type 0
StepsOn way here new told = (caps : Caps) → (capacity : ℕ) → (done : List (Action × Seen)) → (number : ℕ)
    → IsNamedEnd here.0 → (h : IsFollowedTo caps capacity done number way.device way.tickets.items)
    → IsFollowedOn caps capacity (done ++ here ∷ []) (number + 1) new told
    × IsOn way.device (event_of h.records here.0) here.1 new told

pub one_on : (steps : List Data) (observed : List (Action × Seen)) (i : ℕ) (here : Action × Seen)
    (caps : Caps) (capacity : ℕ) (way new : Way) (told : Option Told) → AreRead steps observed
    → Some here ≡ step_at steps i → StepsOn way here new told → told ≡ None
    → AreFollowed caps capacity (take i observed) i (way ∷ [])
    → AreFollowed caps capacity (take (i + 1) observed) (i + 1) (new ∷ [])
one_on steps observed i here caps capacity way new told read reads on none followed =
    let to = read_to steps observed i here read reads in
    let gone : StepsOn way here new None = subst (λ t. StepsOn way here new t) none on in
    stepped_to steps observed i here caps capacity (new ∷ []) to
    (alone_on caps capacity (take i observed) here i way new to.is_named followed
    (gone caps capacity (take i observed) i to.is_named))

pub one_differs : (steps : List Data) (observed : List (Action × Seen)) (i : ℕ) (here : Action × Seen)
    (caps : Caps) (capacity : ℕ) (way new : Way) (told : Option Told) (what : Told) (text : List ℕ)
    → AreRead steps observed → Some here ≡ step_at steps i
    → StepsOn way here new told → told ≡ Some what → IsTextTold i here.1 (what ∷ []) text
    → AreFollowed caps capacity (take i observed) i (way ∷ []) → IsDiffering caps capacity steps i text
one_differs steps observed i here caps capacity way new told what text read reads on some tells followed =
    let to = read_to steps observed i here read reads in
    let gone : StepsOn way here new (Some what) = subst (λ t. StepsOn way here new t) some on in
    differs_at steps observed i here caps capacity text read reads
    (alone_differs caps capacity (take i observed) here i way new what text to.is_named followed
    (gone caps capacity (take i observed) i to.is_named) tells)

-- ---- what is told of it

pub differing : (caps : Caps) (capacity : ℕ) (steps : List Data) (fault : Option ScenarioFault) (i : ℕ) (text : List ℕ)
    → fault ≡ Some (Differs i) → IsDiffering caps capacity steps i text → IsVerdict caps capacity steps fault text
differing caps capacity steps fault i text is h =
    subst (λ f. IsVerdict caps capacity steps f text) (sym is) h
