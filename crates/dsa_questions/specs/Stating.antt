-- The formulas on states.
use Rattle.std.specs.Prelude.{ℕ, zero, suc, ◌^◌, Bool, true, false, cond, List, ◌∷◌, [], ◌++◌, length, codes, is_some}
use Rattle.std.specs.Prelude.{Option, Some, None, option_map}
use Rattle.serde_json.specs.{Data.{Data}, Find.{get, as_str}}
use Rattle.dsa_regs.specs.declared.Caps.{Caps}
use Rattle.dsa_scenario.specs.Fields.{◌>>=◌, text_of, whole_of}
use Rattle.dsa_parties.specs.declared.{script.Script.{Script}, watches.Became.{Became}}
use Rattle.dsa_parties.specs.declared.watches.Watch.{Watch, TheVariants.{Entry, Act, Before}}
use Rattle.dsa_formulas.specs.declared.formula.Fact.TheVariants as fact
use Rattle.dsa_formulas.specs.declared.formula.Term.{Term, TheVariants.{Is, Known, Not, Both, Either}}
use Rattle.dsa_plans.specs.Said.{items_in, each_onto}
use Rattle.dsa_questions.specs.Conditions.{has_keys, place_number}
use Rattle.dsa_questions.specs.declared.stating.Stated.{Stated, TheVariants.{Watched, Stands}}
use Rattle.dsa_questions.specs.Words.{became_called, being_called, phase_called, replied_called}

-- what questions may name: entries and acts by their labels, and queues and parties by their numbers
pub record Nameable : Type 0 where
  pub labels : List (List ℕ)
  pub acts : List (List ℕ)
  pub queues : ℕ
  pub clients : ℕ
  pub administrators : ℕ

-- what those of a device with these parties may, whose entries and acts have these labels
abbrev pub nameable : Caps → Script → List (List ℕ) → List (List ℕ) → Nameable
nameable caps script labels acts = record {
  labels = labels;
  acts = acts;
  queues = caps.queues;
  clients = length script.clients.items;
  administrators = length script.administrators.items;
}

-- ---- facts

-- what has become of the entry, or else how it is held
abbrev pub become_stated : ℕ → List ℕ → Option Became → Option Stated
become_stated label word (Some became) = Some (Watched (Entry label became))
become_stated label word None = option_map (λ being. Stands (fact.Entry label being)) (being_called word)

-- by the word at `is`; or else it was accepted before the act at `accepted-before`
abbrev pub entry_stated_by : List (List ℕ) → ℕ → Data → Option Data → Option Stated
entry_stated_by acts label d (Some is) = as_str is >>= λ word. become_stated label word (became_called word)
entry_stated_by acts label d None =
    option_map (λ act. Watched (Before label act)) (place_number acts (codes "accepted-before") d)

abbrev pub entry_stated : Nameable → Data → Option Stated
entry_stated names d = place_number names.labels (codes "entry") d >>= λ label.
    entry_stated_by names.acts label d (get (codes "is") d)

-- how the act was answered
abbrev pub act_stated : Nameable → Data → Option Stated
act_stated names d = do
  act ← place_number names.acts (codes "command") d
  word ← text_of (codes "is") d
  option_map (λ replied. Watched (Act act replied)) (replied_called word)

-- the phase of the queue; or else how many entries wait in it at least
abbrev pub queue_stated_by : ℕ → Data → Option Data → Option Stated
queue_stated_by queue d (Some phase) = as_str phase >>= λ word.
    option_map (λ p. Stands (fact.Queue queue p)) (phase_called word)
queue_stated_by queue d None =
    option_map (λ least. Stands (fact.Filled queue least)) (whole_of (2 ^ 16) (codes "occupancy") d)

abbrev pub queue_stated : Nameable → Data → Option Stated
queue_stated names d = whole_of names.queues (codes "queue") d >>= λ queue.
    queue_stated_by queue d (get (codes "phase") d)

-- a fact that has two keys, of which one says whose it is
abbrev pub pair_stated : Nameable → Data → Option Stated
pair_stated names d = cond (is_some (get (codes "entry") d)) (entry_stated names d)
    (cond (is_some (get (codes "command") d)) (act_stated names d) (queue_stated names d))

-- the phase of the device
abbrev pub device_stated : Data → Option Stated
device_stated d =
    text_of (codes "device") d >>= λ word. option_map (λ p. Stands (fact.Device p)) (phase_called word)

-- the party is through
abbrev pub client_stated : Nameable → Data → Option Stated
client_stated names d = option_map (λ client. Stands (fact.Client client)) (whole_of names.clients (codes "client") d)

abbrev pub administrator_stated : Nameable → Data → Option Stated
administrator_stated names d = option_map (λ administrator. Stands (fact.Administrator administrator))
    (whole_of names.administrators (codes "admin") d)

-- a fact that has one key
abbrev pub single_stated : Nameable → Data → Option Stated
single_stated names d = cond (is_some (get (codes "device") d)) (device_stated d)
    (cond (is_some (get (codes "client") d)) (client_stated names d) (administrator_stated names d))

-- ---- what they are added to

-- a formula so far, and what all formulas watch for
pub record FormulaSoFar : Type 0 where
  pub terms : List Term
  pub watches : List Watch

-- one term more
abbrev pub with_term : Term → FormulaSoFar → FormulaSoFar
with_term term w = record w { terms = w.terms ++ term ∷ [] }

-- one fact more; of what is watched for it says that it has come
abbrev pub with_stated : FormulaSoFar → Stated → FormulaSoFar
with_stated w (Stands fact) = with_term (Is fact) w
with_stated w (Watched watch) = record {
  terms = w.terms ++ Is (fact.Came (length w.watches)) ∷ [];
  watches = w.watches ++ watch ∷ [];
}

-- ---- what joins them

-- one part more, which this joins with those before
abbrev pub part_onto : Term → (FormulaSoFar → Data → Option FormulaSoFar) → FormulaSoFar → Data → Option FormulaSoFar
part_onto join inner w d = option_map (with_term join) (inner w d)

-- all parts: the truth that none of them has, and each joined with those before
abbrev pub joined_onto : Term → Bool → (FormulaSoFar → Data → Option FormulaSoFar) → FormulaSoFar → Data
    → Option FormulaSoFar
joined_onto join none inner w d = items_in d >>= λ items.
    each_onto (part_onto join inner) (with_term (Known none) w) items

-- what stands at `all`, `any` or `not`, or else a fact
abbrev pub one_key_onto : (FormulaSoFar → Data → Option FormulaSoFar) → Nameable → FormulaSoFar → Data
    → Option Data → Option Data → Option Data → Option FormulaSoFar
one_key_onto inner names w d (Some all) any negated = joined_onto Both true inner w all
one_key_onto inner names w d None (Some any) negated = joined_onto Either false inner w any
one_key_onto inner names w d None None (Some negated) = part_onto Not inner w negated
one_key_onto inner names w d None None None = option_map (with_stated w) (single_stated names d)

-- a formula that is nested so deep at most
abbrev pub formula_onto : ℕ → Nameable → FormulaSoFar → Data → Option FormulaSoFar
formula_onto zero names w d = None
formula_onto (suc depth) names w d = cond (has_keys 1 d)
    (one_key_onto (formula_onto depth names) names w d (get (codes "all") d) (get (codes "any") d)
    (get (codes "not") d))
    (option_map (with_stated w) (cond (has_keys 2 d) (pair_stated names d) None))
