-- There is a label for each entry of the script, and one for each act.
use Rattle.std.proofs.Common.{◌≡◌, ◌∙◌, ◌+◌, ℕ, suc, Bool, true, false, cond, ◌==◌, List, [], ◌∷◌, ◌++◌, length, map}
use Rattle.std.proofs.Common.{Option, Some, None, Result, Ok, Err, refl, sym, ap, subst, arith, codes, unwrap_or}
use Rattle.std.proofs.{Common.{length-append}, lemmas.List.{length-map}}
use Rattle.std.specs.Prelude.{option_and_then, ok_or}
use Rattle.std.proofs.lemmas.Option.{same_Some, option_and_then_some}
use Rattle.serde_json.specs.{Data.{Data}, Find.{get, as_object}}
use Rattle.dsa_base.{specs.Numbers.{numbers_below}, proofs.NumberLists.{length-numbers}}
use Rattle.dsa_desc.specs.Descriptor.{read}
use Rattle.dsa_scenario.specs.Fields.{digits_of}
use Rattle.dsa_scenario.specs.declared.faults.ScenarioFault.{ScenarioFault}
use Rattle.dsa_scenario.specs.declared.faults.ScenarioFault.TheVariants.{NoParties, BadParties, BadParty}
use Rattle.dsa_parties.specs.declared.script.{ScriptEntry.{ScriptEntry}, Outcomes.TheVariants.{SuccessAlone}}
use Rattle.dsa_plans.specs.Said.{lacks, read_or, items_in, each_onto, read_onto, outcomes_said}
use Rattle.dsa_plans.specs.Submitters.{Submitters, StepRead, member_said, members_wanted, client_number}
use Rattle.dsa_plans.specs.Submitters.{submission_of_step, step_with, client_step, step_onto, client_onto}
use Rattle.dsa_plans.specs.Acting.{Acting, act_said, administrator_onto}
use Rattle.dsa_plans.specs.Plans.{Tables, PartyLists, are_few, engines_in, few_tables, ok_and_then, parties_onto}
use Rattle.dsa_plans.specs.Plans.{parties_said, party_lists, script_said, tables_said, tables_with}
use Rattle.dsa_plans.specs.PartyLabels.{act_label, act_labels, administrator_labels, client_labels, entry_labels}
use Rattle.dsa_plans.specs.PartyLabels.{items_or, member_text, numbered_from, step_label, step_labels}
use Rattle.dsa_plans.proofs.Fit.{added, cond-some}

-- ---- what stands at a key

items-read : (key : List ℕ) (d : Data) (ds : List Data) → read_or [] items_in (get key d) ≡ Some ds
    → items_or key d ≡ ds
items-read key d ds h = go (get key d) h
  where
    go : (o : Option Data) → read_or [] items_in o ≡ Some ds → unwrap_or (option_and_then items_in o) [] ≡ ds
    go None h = same_Some [] ds h
    go (Some x) h = ap (λ o. unwrap_or o []) h

items-needed : (key : List ℕ) (d : Data) (ds : List Data) → option_and_then items_in (get key d) ≡ Some ds
    → items_or key d ≡ ds
items-needed key d ds h = ap (λ o. unwrap_or o []) h

-- ---- steps of clients

labels-of-step : (party place : ℕ) (d : Data)
    → length (step_labels party place d) ≡ 1 + length (items_or (codes "members") d)
labels-of-step party place d =
    let n = length (items_or (codes "members") d) in
    omega (arith, length-map (numbers_below n) (member_text (step_label 0x61 party place d)), length-numbers n)

members-kept : (bytes : List ℕ) (count : ℕ) (members : List Data) (d : Data) (step : StepRead)
    → step_with bytes count members d ≡ Some step → members ≡ step.members
members-kept bytes count members d step h =
    option_and_then_some _ (read_or SuccessAlone outcomes_said (get (codes "fault") d)) step h (λ outcomes e1 h1.
    option_and_then_some _ (submission_of_step count d) step h1 (λ s e2 h2.
    ap (λ (x : StepRead). x.members) (same_Some _ step h2)))

members-of-step : (d : Data) (step : StepRead) → client_step d ≡ Some step
    → items_or (codes "members") d ≡ step.members
members-of-step d step h =
    let plain = cond-some (lacks (codes "when" ∷ codes "if" ∷ codes "client" ∷ []) d) _ step h in
    option_and_then_some _ (digits_of (codes "desc") d) step plain.1 (λ bytes e1 h1.
    option_and_then_some _ (read_or [] items_in (get (codes "members") d)) step h1 (λ members e2 h2.
    let kept = cond-some (length members == members_wanted (read bytes)) _ step h2 in
    items-read (codes "members") d members e2
    ∙ members-kept bytes (members_wanted (read bytes)) members d step kept.1))

step-counts : (es more : List ScriptEntry) (d : Data) → step_onto es d ≡ Some more
    → length more ≡ length es + (1 + length (items_or (codes "members") d))
step-counts es more d h = option_and_then_some _ (client_step d) more h (λ step e h2.
    let a = added (member_said (length es) step.outcomes) (λ m. true) (λ d x e. refl) (es ++ step.entry ∷ []) more
    step.members h2 in
    omega (
      arith,
      ap length a.made,
      length-append (es ++ step.entry ∷ []) a.items,
      length-append es (step.entry ∷ []),
      a.count,
      ap length (members-of-step d step e),
    ))

steps-count : (party place : ℕ) (es more : List ScriptEntry) (ds : List Data) → each_onto step_onto es ds ≡ Some more
    → length more ≡ length es + length (numbered_from (step_labels party) place ds)
steps-count party place es more [] h = omega (arith, ap length (same_Some es more h))
steps-count party place es more (d ∷ ds) h = option_and_then_some _ (step_onto es d) more h (λ mid e h2.
    omega (
      arith,
      step-counts es mid d e,
      labels-of-step party place d,
      steps-count party (place + 1) mid more ds h2,
      length-append (step_labels party place d) (numbered_from (step_labels party) (place + 1) ds),
    ))

client-counts : (party : ℕ) (done more : Submitters) (d : Data) → client_onto done d ≡ Some more
    → length more.0 ≡ length done.0 + length (client_labels party d)
client-counts party done more d h =
    option_and_then_some _ (client_number (length done.1) (get (codes "client") d)) more h (λ number e1 h1.
    option_and_then_some _ (option_and_then items_in (get (codes "steps") d)) more h1 (λ steps e2 h2.
    option_and_then_some _ (each_onto step_onto done.0 steps) more h2 (λ entries e3 h3.
    let labels = λ (ds : List Data). length done.0 + length (numbered_from (step_labels party) 0 ds) in
    sym (ap (λ (p : Submitters). length p.0) (same_Some _ more h3)) ∙ steps-count party 0 done.0 entries steps e3
    ∙ ap labels (sym (items-needed (codes "steps") d steps e2)))))

-- ---- steps of administrators

labels-of-acts : (party place : ℕ) (ds : List Data) → length (numbered_from (act_label party) place ds) ≡ length ds
labels-of-acts party place [] = refl
labels-of-acts party place (d ∷ ds) = ap suc (labels-of-acts party (place + 1) ds)

administrator-counts : (party : ℕ) (done more : Acting) (d : Data) → administrator_onto done d ≡ Some more
    → length more.0 ≡ length done.0 + length (administrator_labels party d)
administrator-counts party done more d h =
    option_and_then_some _ (option_and_then items_in (get (codes "steps") d)) more h (λ steps e1 h1.
    option_and_then_some _ (each_onto (read_onto act_said) done.0 steps) more h1 (λ acts e2 h2.
    let a = added act_said (λ act. true) (λ d x e. refl) done.0 acts steps e2 in
    let items = items_or (codes "steps") d in
    omega (
      arith,
      ap (λ (p : Acting). length p.0) (same_Some _ more h2),
      ap length a.made,
      length-append done.0 a.items,
      a.count,
      ap length (items-needed (codes "steps") d steps e1),
      labels-of-acts party 0 items,
    )))

-- ---- parties

parties-count : {A : Type 0} (size : A → ℕ) (labels : ℕ → Data → List (List ℕ)) (onto : A → Data → Option A)
    → ((party : ℕ) (done more : A) (d : Data) → onto done d ≡ Some more
    → size more ≡ size done + length (labels party d))
    → (n party : ℕ) (done more : A) (ds : List Data) → parties_onto onto n done ds ≡ Ok more
    → size more ≡ size done + length (numbered_from labels party ds)
parties-count size labels onto each n party done more [] h =
    let same : done ≡ more = cc in
    omega (arith, ap size same)
parties-count {A = A} size labels onto each n party done more (d ∷ ds) h =
    go (λ next. parties-count size labels onto each (n + 1) (party + 1) next more ds) (onto done d) refl h
  where
    go : ((next : A) → parties_onto onto (n + 1) next ds ≡ Ok more
        → size more ≡ size next + length (numbered_from labels (party + 1) ds))
        → (o : Option A) → onto done d ≡ o
        → ok_and_then (λ next. parties_onto onto (n + 1) next ds) (ok_or o (BadParty n)) ≡ Ok more
        → size more ≡ size done + length (numbered_from labels party (d ∷ ds))
    go others None e h = absurd cc
    go others (Some next) e h = omega (
      arith,
      others next h,
      each party done next d e,
      length-append (labels party d) (numbered_from labels (party + 1) ds),
    )

-- ---- documents

-- a second step gave a value, so the first did
ok-and-then : {A B P : Type 0} (f : A → Result B ScenarioFault) (r : Result A ScenarioFault) (y : B)
    → ok_and_then f r ≡ Ok y → ((x : A) → r ≡ Ok x → f x ≡ Ok y → P) → P
ok-and-then f (Ok x) y h k = k x refl h
ok-and-then f (Err fault) y h k = absurd cc

some-of : {A : Type 0} (o : Option A) (fault : ScenarioFault) (x : A) → ok_or o fault ≡ Ok x → o ≡ Some x
some-of (Some y) fault x h = let same : y ≡ x = cc in ap Some same
some-of None fault x h = absurd cc

-- the tables have what is said
few-are : (b : Bool) (t made : Tables) (fault : ScenarioFault) → cond b (Ok t) (Err fault) ≡ Ok made → t ≡ made
few-are true t made fault h = cc
few-are false t made fault h = absurd cc

record IsLabelled (clients administrators : List Data) (t : Tables) : Type 0 where
  entries : length t.entries ≡ length (numbered_from client_labels 0 clients)
  acts : length t.acts ≡ length (numbered_from administrator_labels 0 administrators)

tables-labelled : (lists : PartyLists) (t : Tables) → tables_said lists ≡ Ok t
    → IsLabelled lists.clients lists.administrators t
tables-labelled lists t h =
    ok-and-then _ (parties_onto client_onto 0 ([], []) lists.clients) t h (λ submitters e1 h1.
    ok-and-then _ (parties_onto administrator_onto (length lists.clients) ([], []) lists.administrators) t h1
    (λ acting e2 h2.
    let made = tables_with lists.engines submitters acting in
    let same = few-are (are_few made) made t _ h2 in
    subst (IsLabelled lists.clients lists.administrators) same (record {
      entries = omega (
        arith,
        parties-count (λ (p : Submitters). length p.0) client_labels client_onto client-counts 0 0 ([], []) submitters
            lists.clients e1,
      );
      acts = omega (
        arith,
        parties-count (λ (p : Acting). length p.0) administrator_labels administrator_onto administrator-counts
            (length lists.clients) 0 ([], []) acting lists.administrators e2,
      );
    })))

lists-of : (count : ℕ) (d : Data) (lists : PartyLists) → party_lists count d ≡ Some lists
    → (items_or (codes "clients") d ≡ lists.clients) × (items_or (codes "admins") d ≡ lists.administrators)
lists-of count d lists h =
    option_and_then_some _ (as_object d) lists h (λ members e0 h0.
    option_and_then_some _ (read_or [] items_in (get (codes "clients") d)) lists h0 (λ clients e1 h1.
    option_and_then_some _ (read_or [] items_in (get (codes "admins") d)) lists h1 (λ administrators e2 h2.
    option_and_then_some _ (read_or (numbers_below count) (engines_in count) (get (codes "engines") d)) lists h2
    (λ engines e3 h3.
    let same = same_Some _ lists h3 in (
      items-read (codes "clients") d clients e1 ∙ ap (λ (l : PartyLists). l.clients) same,
      items-read (codes "admins") d administrators e2 ∙ ap (λ (l : PartyLists). l.administrators) same,
    )))))

pub each-labelled : (count : ℕ) (document d : Data) (t : Tables) → parties_said count document ≡ Ok t
    → get (codes "parties") document ≡ Some d
    → (length (entry_labels d) ≡ length t.entries) × (length (act_labels d) ≡ length t.acts)
each-labelled count document d t h has =
    ok-and-then (script_said count) (ok_or (get (codes "parties") document) NoParties) t h (λ there e1 h1.
    let same : there ≡ d = same_Some there d (sym (some-of _ NoParties there e1) ∙ has) in
    ok-and-then tables_said (ok_or (party_lists count there) BadParties) t h1 (λ lists e2 h2.
    let l = lists-of count there lists (some-of _ BadParties lists e2) in
    let labelled = tables-labelled lists t h2 in (
      ap (λ x. length (entry_labels x)) (sym same) ∙ ap (λ ds. length (numbered_from client_labels 0 ds)) l.0
          ∙ sym labelled.entries,
      ap (λ x. length (act_labels x)) (sym same) ∙ ap (λ ds. length (numbered_from administrator_labels 0 ds)) l.1
          ∙ sym labelled.acts,
    )))
