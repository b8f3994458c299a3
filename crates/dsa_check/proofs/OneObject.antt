-- What is wrong with some objects, in words.
use Rattle.dsa_scenario.specs.declared.fields.Form.TheVariants as form
use Rattle.std.proofs.Common.{◌≡◌, ℕ, false, List, [], ◌∷◌, codes, refl}
use Rattle.serde_json.specs.Data.{null, string}
use Rattle.dsa_scenario.specs.Worked.{object_of, poll_step, step_of_kind}
use Rattle.dsa_check.specs.declared.fields.Found.TheVariants as found
use Rattle.dsa_check.specs.declared.fields.Key.{Key}
use Rattle.dsa_check.specs.declared.finding.Reason.{Reason, TheVariants.{Missing, Expandable, NoObject}}
use Rattle.dsa_check.specs.{OneStep.{AreStepTexts, AreKeyTexts}, Reasons.{AreStepReasons}}

abbrev pub key_named : List ℕ → Key
key_named name = record { name = record { ref_ptr = (0, 0); now = name }; in_caps = false }

-- a value that is no object, and objects that lack a key
pub null_texts : AreStepTexts null (codes "null stands here, an object is wanted" ∷ [])
null_texts = (NoObject found.Null ∷ [], refl, refl)

pub no_kind_texts : AreStepTexts (object_of []) (codes "\"do\" is missing" ∷ [])
no_kind_texts = (
  Missing (key_named (codes "do")) ∷ [],
  (refl, record { key = _; named = refl; holder = refl; so = refl; stray = tt; near = (refl, refl) }),
  refl,
)

pub command_texts : AreStepTexts (object_of ((codes "zf", null) ∷ step_of_kind (codes "command") []))
    (codes "\"word\" is missing" ∷ codes "\"zf\" is null, true or false is wanted" ∷ [])
command_texts = (
  Missing (key_named (codes "word")) ∷ [],
  (record { key = _; named = refl; holder = refl; so = refl; stray = tt; near = (refl, refl) }, tt),
  refl,
)

pub called_texts : AreStepTexts (object_of ((codes "command", string (codes "poll")) ∷ step_of_kind (codes "command") []))
    (codes "\"word\" is missing (dsa_run expand writes it)" ∷ [])
called_texts = (
  Expandable (key_named (codes "word")) ∷ [],
  (record { key = _; named = refl; holder = refl; so = refl; stray = tt; near = (refl, refl) }, tt),
  refl,
)

pub no_step_texts : AreKeyTexts (object_of (step_of_kind (codes "explain") [])) ((codes "step", form.Object) ∷ [])
    (codes "\"step\" is missing" ∷ [])
no_step_texts = (
  Missing (key_named (codes "step")) ∷ [],
  (record { key = _; named = refl; holder = refl; so = refl; stray = tt; near = (refl, refl) }, tt),
  refl,
)

-- nothing is wrong with a step
pub no_reasons : (reasons : List Reason) → AreStepReasons (object_of poll_step) reasons → reasons ≡ []
no_reasons [] are = refl
no_reasons (r ∷ reasons) are = absurd are
