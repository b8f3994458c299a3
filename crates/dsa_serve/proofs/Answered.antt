-- What answers one request.
use Rattle.std.proofs.Common.{◌≡◌, ◌∙◌, ℕ, List, [], ◌∷◌, ◌++◌, Option, refl, sym, ap}
use Rattle.serde_json.specs.Data.{Data}
use Rattle.dsa_scenario.specs.Lines.{line_of_text}
use Rattle.dsa_serve.specs.declared.session.Session.{Session}
use Rattle.dsa_serve.specs.Names.{names_given_by, own_names_of}
use Rattle.dsa_serve.specs.Requests.{Request, Fault, steps_in}
use Rattle.dsa_serve.specs.Answers.{AnswersOne, MakesNoStep, MakesStep, refusal_line}
use Rattle.dsa_serve.proofs.{Asking.{none_after}, Sessions.{missed}}

-- a session that makes the step that is asked for
pub by_step : {S : Type 0} (was now : Session S) (old new : List ℕ) (asked : Request → Type 0) (own step : Option Data)
    (request : Request) → asked request → 1 ≡ steps_in request → own ≡ step → MakesStep was old now new request own
    → AnswersOne was old now new asked step
by_step was now old new asked own step request asks one same made = (
  request,
  made.0 ∷ [],
  asks,
  made.1,
  one,
  made.2 ∙ ap (λ o. names_given_by (own_names_of was) o (made.0 ∷ [])) same,
)

-- one that is asked for none
pub by_no_step : {S : Type 0} (was now : Session S) (old new : List ℕ) (asked : Request → Type 0) (step : Option Data)
    (request : Request) → asked request → 0 ≡ steps_in request → MakesNoStep was old now new request
    → AnswersOne was old now new asked step
by_no_step was now old new asked step request asks none made =
    (request, [], asks, made.0, none, made.1 ∙ sym (none_after (own_names_of was) step))

-- and one that tells why nothing is asked
pub by_fault : {S : Type 0} (session : Session S) (old new : List ℕ) (asked : Request → Type 0) (step : Option Data)
    (why : List ℕ) → asked (Fault why) → new ≡ old ++ line_of_text (refusal_line why)
    → AnswersOne session old session new asked step
by_fault session old new asked step why asks adds =
    by_no_step session session old new asked step (Fault why) asks refl (missed session why old new adds, refl)
