-- What a line asks, by what is kept of it.
use Rattle.std.proofs.Common.{◌⊎◌, inl, inr}
use Rattle.std.proofs.Common.{◌≡◌, ◌≤◌, ◌<◌, ◌+◌, ◌^◌, ℕ, List, [], ◌∷◌, ◌++◌, length, take, ◌∙◌, arith}
use Rattle.std.proofs.Common.{ap, codes, refl, sym, drop, length-append, length-drop, length-take, subst}
use Rattle.std.proofs.lemmas.List.{take_all, take-append-le, drop-append-le}
use Rattle.std.specs.Prelude.{Option, Some, None, option_and_then}
use Rattle.serde_json.specs.{Data.{Data, depth}, Find.{get}, Read.{read}}
use Rattle.std.proofs.lemmas.Bool.{cond_both}
use Rattle.dsa_expand.proofs.Shallow.{AtMost, get_at_most}
use Rattle.dsa_scenario.specs.declared.faults.ScenarioFault.{ScenarioFault}
use Rattle.dsa_scenario.specs.declared.faults.ScenarioFault.TheVariants as fault
use Rattle.dsa_scenario.specs.Document.{IsJson, IsNoJson}
use Rattle.dsa_scenario.specs.declared.{actions.Action.{Action}, run.Record.{Record}}
use Rattle.dsa_serve.specs.Names.{Names, names_given_by}
use Rattle.dsa_serve.specs.Requests.{Request, Step, Explain, Show, Fates, BeginAnew, Fault, Ready}
use Rattle.dsa_serve.specs.Requests.{Asks, AreAsked}
use Rattle.dsa_serve.specs.Requests.{IsAskedAs}
use Rattle.dsa_serve.specs.Requests.{TellsNoJson, actions_of, names_behind, sense_in, step_within, steps_in}
use Rattle.dsa_serve.specs.Requests.{is_explanation}
use Rattle.dsa_serve.proofs.Sessions.{actions-more}

-- a line that is short when cut is whole
whole : (line kept : List ℕ) → kept ≡ take (2 ^ 20 + 1) line → length kept ≤ 2 ^ 20 → kept ≡ line
whole line kept is short =
    let cut : length (take (2 ^ 20 + 1) line) ≤ 2 ^ 20 = rw is at short in
    is ∙ take_all (2 ^ 20 + 1) line (omega (arith, length-take (2 ^ 20 + 1) line, cut))

-- one byte more than a line has shows what the line asks
pub Asks-kept : (names : Names) (line kept : List ℕ) (request : Request) → kept ≡ take (2 ^ 20 + 1) line
    → Asks names kept request → Asks names line request
Asks-kept names line kept (Fault why) is (inl h) =
    let long : 2 ^ 20 < length (take (2 ^ 20 + 1) line) = rw is at h.0 in
    inl (omega (arith, length-take (2 ^ 20 + 1) line, long), h.1)
Asks-kept names line kept (Fault why) is (inr (inl h)) =
    subst (λ l. Asks names l (Fault why)) (whole line kept is h.0) (inr (inl h))
Asks-kept names line kept (Fault why) is (inr (inr h)) =
    subst (λ l. Asks names l (Fault why)) (whole line kept is h.0) (inr (inr h))
Asks-kept names line kept (Step action seen) is h =
    subst (λ l. Asks names l (Step action seen)) (whole line kept is h.0) h
Asks-kept names line kept (Explain action seen) is h =
    subst (λ l. Asks names l (Explain action seen)) (whole line kept is h.0) h
Asks-kept names line kept Show is h = subst (λ l. Asks names l Show) (whole line kept is h.0) h
Asks-kept names line kept Fates is h = subst (λ l. Asks names l Fates) (whole line kept is h.0) h
Asks-kept names line kept (BeginAnew past) is h =
    subst (λ l. Asks names l (BeginAnew past)) (whole line kept is h.0) h
Asks-kept names line kept (Ready count) is h =
    subst (λ l. Asks names l (Ready count)) (whole line kept is h.0) h

-- no record gives no name
pub none_after : (names : Names) (o : Option Data) → names_given_by names o [] ≡ names
none_after None o = refl
none_after (Some given) None = refl
none_after (Some given) (Some step) = refl

-- nor does a record of a step that has none
pub unnamed : (names : Names) (made : List Record) → names_given_by names None made ≡ names
unnamed None made = refl
unnamed (Some given) made = refl

-- and what is kept of it gives the names that the line gives
pub names-kept : (names : Names) (line kept : List ℕ) (request : Request) (made : List Record)
    → kept ≡ take (2 ^ 20 + 1) line → Asks names kept request → length made ≡ steps_in request
    → names_behind names kept made ≡ names_behind names line made
names-kept names line kept (Fault why) [] is h one =
    none_after names (option_and_then step_within (read kept))
    ∙ sym (none_after names (option_and_then step_within (read line)))
names-kept names line kept (Fault why) (r ∷ made) is h one = absurd (omega (arith, one))
names-kept names line kept (Step action seen) made is h one =
    ap (λ l. names_behind names l made) (whole line kept is h.0)
names-kept names line kept (Explain action seen) made is h one =
    ap (λ l. names_behind names l made) (whole line kept is h.0)
names-kept names line kept Show made is h one = ap (λ l. names_behind names l made) (whole line kept is h.0)
names-kept names line kept Fates made is h one = ap (λ l. names_behind names l made) (whole line kept is h.0)
names-kept names line kept (BeginAnew past) made is h one =
    ap (λ l. names_behind names l made) (whole line kept is h.0)
names-kept names line kept (Ready count) made is h one =
    ap (λ l. names_behind names l made) (whole line kept is h.0)

-- a request and more of them ask for so many steps
steps_of : (request : Request) (requests : List Request)
    → length (actions_of (request ∷ requests)) ≡ steps_in request + length (actions_of requests)
steps_of request requests =
    ap (λ (l : List Action). length l) (actions-more (request ∷ []) requests)
    ∙ length-append (actions_of (request ∷ [])) (actions_of requests)

-- one line more
pub AreAsked-more : (names : Names) (lines : List (List ℕ)) (requests : List Request)
    (records made : List Record) (now next : Names) (line : List ℕ) (request : Request)
    → AreAsked names lines requests records now
    → length records ≡ length (actions_of requests) → Asks now line request → length made ≡ steps_in request
    → next ≡ names_behind now line made
    → AreAsked names (lines ++ line ∷ []) (requests ++ request ∷ []) (records ++ made) next
AreAsked-more names [] [] [] made now next line request h count asks one is =
    let all : take (steps_in request) made ≡ made = take_all (steps_in request) made (omega (arith, one)) in (
      subst (λ n. Asks n line request) h asks,
      is ∙ ap (λ m. names_behind now line m) (sym all)
          ∙ ap (λ n. names_behind n line (take (steps_in request) made)) h,
    )
AreAsked-more names [] [] (r ∷ records) made now next line request h count asks one is =
    absurd (omega (arith, count))
AreAsked-more names [] (r ∷ requests) records made now next line request h count asks one is = absurd h
AreAsked-more names (l ∷ lines) [] records made now next line request h count asks one is = absurd h
AreAsked-more names (l ∷ lines) (r ∷ requests) records made now next line request h count asks one is =
    let n = steps_in r in
    let within : n ≤ length records = omega (arith, count, steps_of r requests) in
    rw (take-append-le n records made within, drop-append-le n records made within) (
      h.0,
      AreAsked-more (names_behind names l (take n records)) lines requests (drop n records) made now next line
          request h.1 (omega (arith, count, steps_of r requests, length-drop n records)) asks one is,
    )

-- a short line with a JSON value asks what that asks
pub Asks-read : (names : Names) (line : List ℕ) (document : Data) (request : Request) → length line ≤ 2 ^ 20
    → IsJson line document
    → IsAskedAs (sense_in names document) document request → Asks names line request
Asks-read names line document (Fault why) short json asks =
    inr (inr (short, record { document = document; json = json; asks = asks }))
Asks-read names line document (Step action seen) short json asks =
    (short, record { document = document; json = json; asks = asks })
Asks-read names line document (Explain action seen) short json asks =
    (short, record { document = document; json = json; asks = asks })
Asks-read names line document Show short json asks =
    (short, record { document = document; json = json; asks = asks })
Asks-read names line document Fates short json asks =
    (short, record { document = document; json = json; asks = asks })
Asks-read names line document (BeginAnew past) short json asks =
    (short, record { document = document; json = json; asks = asks })
Asks-read names line document (Ready count) short json asks =
    (short, record { document = document; json = json; asks = asks })

-- a short line that is told to be no JSON asks nothing
pub Asks-no_json : (names : Names) (line why : List ℕ) (e : ScenarioFault) → length line ≤ 2 ^ 20
    → e ≡ fault.NotJson
    → (e ≡ fault.OutOfMemory) ⊎ ((e ≡ fault.NotJson) × IsNoJson line) → TellsNoJson line why
    → Asks names line (Fault why)
Asks-no_json names line why e short is (inl memory) told = absurd cc
Asks-no_json names line why e short is (inr none) told = inr (inl (short, none.1, told))

-- ---- how deep a step nests

less_deep : (o : Option Data) → AtMost 126 o → AtMost 127 o
less_deep None h = tt
less_deep (Some d) h = omega (arith, h)

-- the step object that a value is, or asks to explain, nests no deeper than a value that was read
pub within_shallow : (d step : Data) → depth d ≤ 127 → Some step ≡ step_within d → depth step ≤ 127
within_shallow d step low is =
    let all : AtMost 127 (step_within d) =
    cond_both (is_explanation d) (get (codes "step") d) (Some d) (AtMost 127)
    (λ e. less_deep (get (codes "step") d) (get_at_most (codes "step") 126 d low)) (λ e. low) in
    subst (AtMost 127) (sym is) all
