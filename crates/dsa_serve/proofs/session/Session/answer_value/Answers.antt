use Rattle.dsa_serve.proofs.session.Session.answer_value.Goals as goal
use Rattle.std.proofs.Common.{◌≡◌, ap, ◌∙◌, subst, string_bytes}
use Rattle.std.proofs.lemmas.Result.{on_ok_weaker}
use Rattle.serde_json.specs.View.{view}
use Rattle.dsa_expand.specs.Single.{Itself, Strictly, StuckAt}
use Rattle.dsa_serve.specs.Names.{own_names_of}
use Rattle.dsa_serve.specs.Requests.{Fault, IsAskedAs, sense_in, step_within}
use Rattle.dsa_serve.proofs.Answered.{by_fault}

pub returns-in-Itself : goal.returns-in-Itself
returns-in-Itself g c =
    let sense = rw c.in-Itself.is at c.in_ok-meaning.ensures in
    rw (← sense) c.answer_itself.ensures

pub returns-in-Strict : goal.returns-in-Strict
returns-in-Strict g c =
    let sense = rw c.in-Strict.is at c.in_ok-meaning.ensures in
    rw (← sense) c.answer_strict.ensures

pub returns-in_ok-why-in-Nothing : goal.returns-in_ok-why-in-Nothing
returns-in_ok-why-in-Nothing g c =
    let d = view c.args.value.now in
    let names = own_names_of c.args.self.now in
    let key = c.in-Nothing.key.now in
    let why = c.as_str.result.now in
    let sense : StuckAt key ≡ sense_in names d = rw c.in-Nothing.is at c.in_ok-meaning.ensures in
    let told : IsAskedAs (StuckAt key) d (Fault why) =
    ap Fault (c.as_str.ensures.value ∙ c.in_ok-why-in-Nothing.ensures) in
    on_ok_weaker c.add_fault.result
    (by_fault c.args.self.now (string_bytes c.args.text.now) (string_bytes c.add_fault.new.text)
    (IsAskedAs (sense_in names d) d) (step_within d) why (subst (λ s. IsAskedAs s d (Fault why)) sense told))
    c.add_fault.ensures
