use Rattle.dsa_serve.proofs.session.Session.answer_strict.Goals as goal
use Rattle.std.proofs.Common.{◌≡◌, true, false, refl, sym, ◌∙◌, string_bytes}
use Rattle.std.proofs.lemmas.Result.{on_ok_weaker}
use Rattle.serde_json.specs.View.{view}
use Rattle.dsa_conform.specs.Seen.{seen_as}
use Rattle.dsa_serve.specs.Requests.{Step, Explain, IsStrictAsked, is_explanation, step_within}
use Rattle.dsa_serve.proofs.Answered.{by_step, by_fault}

pub returns-in_default : goal.returns-in_default
returns-in_default g c =
    let d = view c.args.value.now in
    let told = c.in_ok-why.ensures in
    on_ok_weaker c.add_fault.result
    (by_fault c.args.self.now (string_bytes c.args.text.now) (string_bytes c.add_fault.new.text)
    (IsStrictAsked (is_explanation d) (view c.args.step.now)) (step_within d) c.as_str.result.now
    (sym c.in_default.ensures, (told.0, told.1, c.as_str.ensures.value ∙ told.2)))
    c.add_fault.ensures

pub returns-then-is_explanation : goal.returns-then-is_explanation
returns-then-is_explanation g c =
    let d = view c.args.value.now in
    let request = Explain c.in-Some.action (seen_as c.in-Some.seen) in
    let explains : is_explanation d ≡ true = sym c.is_explanation.ensures ∙ c.if-is_explanation.true in
    let asks : IsStrictAsked (is_explanation d) (view c.args.step.now) request =
    rw (explains, ← c.in-Some.ensures) refl in
    on_ok_weaker c.explain.result
    (by_step c.args.self.now c.explain.new.self (string_bytes c.args.text.now) (string_bytes c.explain.new.text)
    (IsStrictAsked (is_explanation d) (view c.args.step.now)) _ (step_within d) request asks refl c.step_within.ensures)
    c.explain.ensures

pub returns-else-is_explanation : goal.returns-else-is_explanation
returns-else-is_explanation g c =
    let d = view c.args.value.now in
    let request = Step c.in-Some.action (seen_as c.in-Some.seen) in
    let explains : is_explanation d ≡ false = sym c.is_explanation.ensures ∙ c.if-is_explanation.false in
    let asks : IsStrictAsked (is_explanation d) (view c.args.step.now) request =
    rw (explains, ← c.in-Some.ensures) refl in
    on_ok_weaker c.step.result
    (by_step c.args.self.now c.step.new.self (string_bytes c.args.text.now) (string_bytes c.step.new.text)
    (IsStrictAsked (is_explanation d) (view c.args.step.now)) _ (step_within d) request asks refl
    c.step_within-else-is_explanation.ensures)
    c.step.ensures
