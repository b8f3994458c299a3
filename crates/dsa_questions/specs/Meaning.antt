-- What a condition on states says, read as it stands in a document.
use Rattle.std.specs.Prelude.{◌≡◌, ℕ, zero, suc, Bool, true, false, not, cond, List, codes, Option, Some, None, slice_get}
use Rattle.std.specs.List.{list_all, list_any}
use Rattle.serde_json.specs.{Data.{Data}, Find.{get}}
use Rattle.dsa_base.specs.Rows.{passes}
use Rattle.dsa_parties.specs.declared.watches.Watch.{Watch}
use Rattle.dsa_formulas.specs.declared.formula.Fact.{Fact, TheVariants.{Came}}
use Rattle.dsa_plans.specs.Said.{items_in}
use Rattle.dsa_questions.specs.Conditions.{has_keys}
use Rattle.dsa_questions.specs.declared.stating.Stated.{Stated, TheVariants.{Watched, Stands}}
use Rattle.dsa_questions.specs.Stating.{Nameable, pair_stated, single_stated}

-- what is stated is so, by facts and by what has come
abbrev pub stated_so : (Fact → Bool) → (Watch → Bool) → Stated → Bool
stated_so facts came (Stands fact) = facts fact
stated_so facts came (Watched watch) = came watch

-- what stands at `all`, `any` or `not`, or else this fact
abbrev pub condition_says_by : (Data → Bool) → (Stated → Bool) → Option Stated → Option Data → Option Data
    → Option Data → Bool
condition_says_by inner so fact (Some all) any negated = passes (list_all inner) (items_in all)
condition_says_by inner so fact None (Some any) negated = passes (list_any inner) (items_in any)
condition_says_by inner so fact None None (Some negated) = not (inner negated)
condition_says_by inner so fact None None None = passes so fact

-- what a condition says that is nested so deep at most
abbrev pub condition_says : ℕ → Nameable → (Stated → Bool) → Data → Bool
condition_says zero names so d = false
condition_says (suc depth) names so d = cond (has_keys 1 d)
    (condition_says_by (condition_says depth names so) so (single_stated names d) (get (codes "all") d)
    (get (codes "any") d) (get (codes "not") d))
    (passes so (cond (has_keys 2 d) (pair_stated names d) None))

-- the facts know which of these watches have come
abbrev pub KnowsWatches : (Fact → Bool) → (Watch → Bool) → List Watch → Type 0
KnowsWatches facts came watches = (n : ℕ) (watch : Watch) → slice_get watches n ≡ Some watch
    → facts (Came n) ≡ came watch
