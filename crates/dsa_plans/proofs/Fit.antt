-- The tables that are read of parties fit a script.
use Rattle.std.proofs.Common.{◌≡◌, ◌∙◌, ◌≤◌, ◌+◌, ℕ, suc, Bool, true, false, cond, ◌&&◌, ◌||◌, ◌==◌, nat_le, nat_lt}
use Rattle.std.proofs.Common.{List, [], ◌∷◌, ◌++◌}
use Rattle.std.proofs.Common.{length, map, Option, Some, None, Ok, refl, sym, ap, subst, arith, append_assoc}
use Rattle.std.proofs.Common.{append-nil, length-append}
use Rattle.std.specs.{List.{list_all}, Prelude.{option_map, option_and_then, ok_or, codes, ◌^◌}}
use Rattle.std.proofs.lemmas.Bool.{and_parts, and_from, eqb-true, eq-eqb, leb-true, le-leb, lt-ltb}
use Rattle.std.proofs.lemmas.List.Folds.{list_all-append}
use Rattle.std.proofs.lemmas.Option.{same_Some, option_and_then_some}
use Rattle.serde_json.specs.{Data.{Data}, Find.{get}}
use Rattle.dsa_scenario.specs.{Actions.{kind_of}, Fields.{whole_of, truth_of, digits_of}}
use Rattle.dsa_desc.specs.{declared.Descriptor.{Descriptor}, Descriptor.{read, is_batch}}
use Rattle.dsa_parties.specs.declared.script.{ClientScript.{ClientScript}, Part.{Part}, ScriptEntry.{ScriptEntry}}
use Rattle.dsa_parties.specs.declared.script.{Submission.{Submission}, Outcomes.{Outcomes}}
use Rattle.dsa_parties.specs.declared.script.Origin.TheVariants.{Submitted, Fetched}
use Rattle.dsa_parties.specs.Scripts.{is_fetched_for, counts_members, are_in_order, is_boundary, are_parts, is_script}
use Rattle.dsa_scenario.specs.declared.faults.ScenarioFault.TheVariants.{BadParty}
use Rattle.dsa_parties.specs.declared.script.{Outcomes.TheVariants.{SuccessAlone}, RetryPolicy.TheVariants.{GiveUp}}
use Rattle.dsa_plans.specs.Said.{lacks, read_or, items_in, each_onto, read_onto, retry_said, outcomes_said}
use Rattle.dsa_plans.specs.Submitters.{member_bytes, submission_kind, client_number}
use Rattle.dsa_plans.specs.Submitters.{Submitters, StepRead, entry_with, member_said, members_wanted}
use Rattle.dsa_plans.specs.Submitters.{submission_of_step, step_with, client_step, step_onto, client_onto}
use Rattle.dsa_plans.specs.Acting.{Acting, act_said, administrator_onto}
use Rattle.dsa_plans.specs.Plans.{ok_and_then, parties_onto, are_few, tables_with}
use Rattle.dsa_plans.proofs.Blocks.{Block, block-order, block-ends, last-boundary}

-- ---- one after the other

pub record Added {A : Type 0} (q : A → Bool) (done more : List A) (ds : List Data) : Type 0 where
  pub items : List A
  pub made : more ≡ done ++ items
  pub count : length items ≡ length ds
  pub each : list_all q items ≡ true

pub added : {A : Type 0} (reading : Data → Option A) (q : A → Bool) → ((d : Data) (x : A) → reading d ≡ Some x → q x ≡ true)
    → (done more : List A) (ds : List Data) → each_onto (read_onto reading) done ds ≡ Some more → Added q done more ds
added reading q all done more [] h = record {
  items = [];
  made = sym (same_Some done more h) ∙ sym (append-nil done);
  count = refl;
  each = refl;
}
added {A = A} reading q all done more (d ∷ ds) h =
    go (λ x. added reading q all (done ++ x ∷ []) more ds) (reading d) refl h
  where
    go : ((x : A) → each_onto (read_onto reading) (done ++ x ∷ []) ds ≡ Some more → Added q (done ++ x ∷ []) more ds)
        → (o : Option A) → reading d ≡ o
        → option_and_then (λ next. each_onto (read_onto reading) next ds) (option_map (λ x. done ++ x ∷ []) o)
        ≡ Some more
        → Added q done more (d ∷ ds)
    go others None e h = absurd cc
    go others (Some x) e h =
        let rest = others x h in
        record {
          items = x ∷ rest.items;
          made = rest.made ∙ append_assoc done (x ∷ []) rest.items;
          count = ap suc rest.count;
          each = and_from (q x) (list_all q rest.items) (all d x e) rest.each;
        }

pub cond-some : {A : Type 0} (b : Bool) (o : Option A) (x : A) → cond b o None ≡ Some x → (b ≡ true) × (o ≡ Some x)
cond-some true o x h = (refl, h)
cond-some false o x h = absurd cc

-- ---- steps

member-fetched : (batch : ℕ) (outcomes : Outcomes) (d : Data) (m : ScriptEntry)
    → member_said batch outcomes d ≡ Some m → is_fetched_for batch m.origin ≡ true
member-fetched batch outcomes d m h =
    option_and_then_some _ (member_bytes d) m h (λ bytes e h2.
    option_and_then_some _ (read_or outcomes outcomes_said (get (codes "fault") d)) m h2 (λ own f h3.
    ap (λ (x : ScriptEntry). is_fetched_for batch x.origin)
    (sym (same_Some (entry_with bytes own (Fetched batch)) m h3)) ∙ eq-eqb batch batch refl))

or_true : (x : Bool) → (x || true) ≡ true
or_true true = refl
or_true false = refl

wanted : (b : Bool) (size n : ℕ) → n ≡ cond b size 0 → ((n == 0) || (b && (n == size))) ≡ true
wanted true size n h = ap (λ x. (n == 0) || x) (eq-eqb n size h) ∙ or_true (n == 0)
wanted false size n h = ap (λ x. x || false) (eq-eqb n 0 h)

counts-wanted : (desc : Descriptor) (n : ℕ) → n ≡ members_wanted desc → counts_members desc n ≡ true
counts-wanted desc n h = wanted (is_batch desc) desc.size n h

members-of : (n : ℕ) (d : Data) (s : Submission) → submission_of_step n d ≡ Some s → s.members ≡ n
members-of n d s h =
    option_and_then_some _ (kind_of d) s h (λ kind e1 h1.
    option_and_then_some _ (submission_kind kind d) s h1 (λ how e2 h2.
    option_and_then_some _ (whole_of (2 ^ 16) (codes "queue") d) s h2 (λ queue e3 h3.
    option_and_then_some _ (truth_of (codes "limited") d) s h3 (λ limited e4 h4.
    option_and_then_some _ (read_or GiveUp retry_said (get (codes "retry") d)) s h4 (λ retry e5 h5.
    ap (λ (x : Submission). x.members) (sym (same_Some _ s h5)))))))

record StepFits (step : StepRead) : Type 0 where
  submission : Submission
  origin : step.entry.origin ≡ Submitted submission
  counts : counts_members step.entry.desc submission.members ≡ true
  count : length step.members ≡ submission.members

step-with : (bytes : List ℕ) (count : ℕ) (members : List Data) (d : Data) (step : StepRead)
    → step_with bytes count members d ≡ Some step → length members ≡ count → count ≡ members_wanted (read bytes)
    → StepFits step
step-with bytes count members d step h same fits =
    option_and_then_some _ (read_or SuccessAlone outcomes_said (get (codes "fault") d)) step h (λ outcomes e1 h1.
    option_and_then_some _ (submission_of_step count d) step h1 (λ s e2 h2.
    let n = members-of count d s e2 in
    subst StepFits (same_Some _ step h2) (record {
      submission = s;
      origin = refl;
      counts = counts-wanted (read bytes) s.members (n ∙ fits);
      count = same ∙ sym n;
    })))

client-step : (d : Data) (step : StepRead) → client_step d ≡ Some step → StepFits step
client-step d step h =
    let plain = cond-some (lacks (codes "when" ∷ codes "if" ∷ codes "client" ∷ []) d) _ step h in
    option_and_then_some _ (digits_of (codes "desc") d) step plain.1 (λ bytes e1 h1.
    option_and_then_some _ (read_or [] items_in (get (codes "members") d)) step h1 (λ members e2 h2.
    let c = cond-some (length members == members_wanted (read bytes)) _ step h2 in
    step-with bytes (members_wanted (read bytes)) members d step c.1 (eqb-true _ _ c.0) refl))

-- entries that are longer, and as good
record Grown (es more : List ScriptEntry) : Type 0 where
  order : are_in_order es ≡ true → are_in_order more ≡ true
  ends : (end : ℕ) → end ≤ length es → is_boundary es end ≡ true → is_boundary more end ≡ true
  longer : length es ≤ length more

step-grows : (es more : List ScriptEntry) (d : Data) → step_onto es d ≡ Some more → Grown es more
step-grows es more d h = option_and_then_some _ (client_step d) more h (λ step e h2.
    let f = client-step d step e in
    let q = λ (m : ScriptEntry). is_fetched_for (length es) m.origin in
    let a = added (member_said (length es) step.outcomes) q (member-fetched (length es) step.outcomes)
    (es ++ step.entry ∷ []) more step.members h2 in
    let block : Block es step.entry a.items f.submission =
    record { origin = f.origin; counts = f.counts; count = a.count ∙ f.count; each = a.each } in
    subst (Grown es) (sym (a.made ∙ append_assoc es (step.entry ∷ []) a.items)) (record {
      order = block-order es step.entry a.items f.submission block;
      ends = block-ends es step.entry a.items f.submission block;
      longer = omega (arith, length-append es (step.entry ∷ a.items));
    }))

steps-grow : (es more : List ScriptEntry) (ds : List Data) → each_onto step_onto es ds ≡ Some more → Grown es more
steps-grow es more [] h = subst (Grown es) (same_Some es more h)
    (record { order = λ o. o; ends = λ end l b. b; longer = omega arith })
steps-grow es more (d ∷ ds) h = option_and_then_some _ (step_onto es d) more h (λ mid e h2.
    let one = step-grows es mid d e in
    let rest = steps-grow mid more ds h2 in
    record {
      order = λ o. rest.order (one.order o);
      ends = λ end l b. rest.ends end (omega (arith, l, one.longer)) (one.ends end l b);
      longer = omega (arith, one.longer, rest.longer);
    })

-- ---- parts

parts-more : (from n m : ℕ) (ps : List Part) → are_parts from n ps ≡ true → n ≤ m
    → are_parts from m (ps ++ record { first = n; end = m } ∷ []) ≡ true
parts-more from n m [] h l =
    let same : from ≡ n = eqb-true from n h in
    and_from _ _ (and_from _ _ (eq-eqb n from (sym same)) (le-leb from m (omega (arith, l, same)))) (eq-eqb m m refl)
parts-more from n m (p ∷ ps) h l =
    let x = and_parts _ _ h in
    and_from _ _ x.0 (parts-more p.end n m ps x.1 l)

abbrev pub client_part : ClientScript → Part
client_part client = client.part

parts-of-more : (clients : List ClientScript) (c : ClientScript)
    → map client_part (clients ++ c ∷ []) ≡ map client_part clients ++ c.part ∷ []
parts-of-more [] c = refl
parts-of-more (x ∷ xs) c = ap (λ l. x.part ∷ l) (parts-of-more xs c)

-- ---- clients

abbrev ends_well : List ScriptEntry → ClientScript → Bool
ends_well es client = is_boundary es client.part.end && nat_le client.part.end (length es)

ends-kept : (es more : List ScriptEntry) → Grown es more → (clients : List ClientScript)
    → list_all (ends_well es) clients ≡ true → list_all (ends_well more) clients ≡ true
ends-kept es more g [] h = refl
ends-kept es more g (c ∷ cs) h =
    let both = and_parts (ends_well es c) (list_all (ends_well es) cs) h in
    let here = and_parts (is_boundary es c.part.end) (nat_le c.part.end (length es)) both.0 in
    let l : c.part.end ≤ length es = leb-true c.part.end (length es) here.1 in
    and_from (ends_well more c) (list_all (ends_well more) cs)
    (and_from _ _ (g.ends c.part.end l here.0) (le-leb c.part.end (length more) (omega (arith, l, g.longer))))
    (ends-kept es more g cs both.1)

pub record Fitted (p : Submitters) : Type 0 where
  pub order : are_in_order p.0 ≡ true
  pub ends : list_all (ends_well p.0) p.1 ≡ true
  pub parts : are_parts 0 (length p.0) (map client_part p.1) ≡ true

client-fits : (done more : Submitters) (d : Data) → client_onto done d ≡ Some more → Fitted done → Fitted more
client-fits done more d h fitted =
    option_and_then_some _ (client_number (length done.1) (get (codes "client") d)) more h (λ number e1 h1.
    option_and_then_some _ (option_and_then items_in (get (codes "steps") d)) more h1 (λ steps e2 h2.
    option_and_then_some _ (each_onto step_onto done.0 steps) more h2 (λ entries e3 h3.
    let g = steps-grow done.0 entries steps e3 in
    let c : ClientScript =
    record { number = number; part = record { first = length done.0; end = length entries } } in
    subst Fitted (same_Some _ more h3) (record {
      order = g.order fitted.order;
      ends = list_all-append (ends_well entries) done.1 (c ∷ [])
          ∙ and_from _ _ (ends-kept done.0 entries g done.1 fitted.ends)
          (and_from (ends_well entries c) true
          (and_from _ _ (last-boundary entries) (le-leb (length entries) (length entries) (omega arith))) refl);
      parts = ap (are_parts 0 (length entries)) (parts-of-more done.1 c)
          ∙ parts-more 0 (length done.0) (length entries) (map client_part done.1) fitted.parts g.longer;
    }))))

-- ---- administrators

administrator-fits : (done more : Acting) (d : Data) → administrator_onto done d ≡ Some more
    → are_parts 0 (length done.0) done.1 ≡ true → are_parts 0 (length more.0) more.1 ≡ true
administrator-fits done more d h fitted =
    option_and_then_some _ (option_and_then items_in (get (codes "steps") d)) more h (λ steps e1 h1.
    option_and_then_some _ (each_onto (read_onto act_said) done.0 steps) more h1 (λ acts e2 h2.
    let a = added act_said (λ act. true) (λ d x e. refl) done.0 acts steps e2 in
    let longer : length done.0 ≤ length acts = omega (arith, ap length a.made, length-append done.0 a.items) in
    subst (λ (p : Acting). are_parts 0 (length p.0) p.1 ≡ true) (same_Some _ more h2)
    (parts-more 0 (length done.0) (length acts) done.1 fitted longer)))

-- ---- all parties

parties-keep : {A : Type 0} (P : A → Type 0) (onto : A → Data → Option A)
    → ((done more : A) (d : Data) → onto done d ≡ Some more → P done → P more)
    → (n : ℕ) (done more : A) (ds : List Data) → parties_onto onto n done ds ≡ Ok more → P done → P more
parties-keep P onto keeps n done more [] h p = let same : done ≡ more = cc in subst P same p
parties-keep {A = A} P onto keeps n done more (d ∷ ds) h p =
    go (λ next. parties-keep P onto keeps (n + 1) next more ds) (onto done d) refl h
  where
    go : ((next : A) → parties_onto onto (n + 1) next ds ≡ Ok more → P next → P more) → (o : Option A) → onto done d ≡ o
        → ok_and_then (λ next. parties_onto onto (n + 1) next ds) (ok_or o (BadParty n)) ≡ Ok more → P more
    go others None e h = absurd cc
    go others (Some next) e h = others next h (keeps done next d e p)

pub clients-fit : (ds : List Data) (more : Submitters) → parties_onto client_onto 0 ([], []) ds ≡ Ok more → Fitted more
clients-fit ds more h = parties-keep Fitted client_onto client-fits 0 ([], []) more ds h
    (record { order = refl; ends = refl; parts = refl })

pub administrators-fit : (n : ℕ) (ds : List Data) (more : Acting)
    → parties_onto administrator_onto n ([], []) ds ≡ Ok more
    → are_parts 0 (length more.0) more.1 ≡ true
administrators-fit n ds more h =
    parties-keep (λ (p : Acting). are_parts 0 (length p.0) p.1 ≡ true) administrator_onto administrator-fits n
    ([], []) more ds h refl

-- where clients end well, they end at boundaries
boundaries : (es : List ScriptEntry) (clients : List ClientScript) → list_all (ends_well es) clients ≡ true
    → list_all (λ (client : ClientScript). is_boundary es client.part.end) clients ≡ true
boundaries es [] h = refl
boundaries es (c ∷ cs) h =
    let both = and_parts (ends_well es c) (list_all (ends_well es) cs) h in
    and_from _ _ (and_parts (is_boundary es c.part.end) (nat_le c.part.end (length es)) both.0).0
    (boundaries es cs both.1)

-- tables that are few make a script
pub tables-fit : (engines : List ℕ) (p : Submitters) (q : Acting) → Fitted p → are_parts 0 (length q.0) q.1 ≡ true
    → are_few (tables_with engines p q) ≡ true → is_script p.0 p.1 q.0 q.1 ≡ true
tables-fit engines p q fitted parts few =
    let c = and_parts _ (nat_lt (length q.0) (2 ^ 32)) few in
    let b = and_parts _ (nat_le (length p.0) 256) c.0 in
    let a = and_parts (nat_le (length p.1) 16) (nat_le (length q.1) 8) b.0 in
    let clients : length p.1 ≤ 16 = leb-true (length p.1) 16 a.0 in
    let administrators : length q.1 ≤ 8 = leb-true (length q.1) 8 a.1 in
    let entries : length p.0 ≤ 256 = leb-true (length p.0) 256 b.1 in
    let tables =
    and_from _ _ (and_from _ _ (and_from _ _ fitted.order (boundaries p.0 p.1 fitted.ends)) fitted.parts) parts in
    and_from _ _ (and_from _ _ (and_from _ _ (and_from _ _ tables
    (lt-ltb (length p.0) (2 ^ 32) (omega (arith, entries)))) c.1)
    (le-leb (length p.1) (2 ^ 16) (omega (arith, clients))))
    (le-leb (length q.1) (2 ^ 16) (omega (arith, administrators)))
