use Rattle.dsa_serve.proofs.session.Session.answer_itself.Goals as goal
use Rattle.std.proofs.Common.{◌≡◌, Some, None, refl, sym, string_bytes}
use Rattle.std.proofs.lemmas.Result.{on_ok_weaker}
use Rattle.serde_json.specs.View.{view}
use Rattle.dsa_conform.specs.Seen.{seen_as}
use Rattle.dsa_serve.specs.Requests.{Step, Explain, Show, Fates, BeginAnew, request_of}
use Rattle.dsa_serve.specs.Requests.{step_within, IsAskedIn, TellsNoStep}
use Rattle.dsa_serve.proofs.{Answered.{by_step, by_no_step, by_fault}, Sessions.{shown}}

pub returns-in-Some-Step : goal.returns-in-Some-Step
returns-in-Some-Step g c =
    let d = view c.args.value.now in
    let asked = Step c.in-Some-Step.action (seen_as c.in-Some-Step.seen) in
    let asks : Some asked ≡ request_of d = rw (c.in-Some-Step.is, c.in-Some-Step.field-0-is) at c.parse_line.ensures in
    on_ok_weaker c.step.result
    (by_step c.args.self.now c.step.new.self (string_bytes c.args.text.now) (string_bytes c.step.new.text) (IsAskedIn d)
    _ (step_within d) asked (sym asks) refl c.step_within.ensures)
    c.step.ensures

pub returns-in-Some-Explain : goal.returns-in-Some-Explain
returns-in-Some-Explain g c =
    let d = view c.args.value.now in
    let asked = Explain c.in-Some-Explain.action (seen_as c.in-Some-Explain.seen) in
    let asks : Some asked ≡ request_of d =
    rw (c.in-Some-Explain.is, c.in-Some-Explain.field-0-is) at c.parse_line.ensures in
    on_ok_weaker c.explain.result
    (by_step c.args.self.now c.explain.new.self (string_bytes c.args.text.now) (string_bytes c.explain.new.text)
    (IsAskedIn d) _ (step_within d) asked (sym asks) refl c.step_within-in-Some-Explain.ensures)
    c.explain.ensures

pub returns-in-Some-Show : goal.returns-in-Some-Show
returns-in-Some-Show g c =
    let d = view c.args.value.now in
    let session = c.args.self.now in
    let old = string_bytes c.args.text.now in
    let new = string_bytes c.add_shown.new.text in
    let asks : Some Show ≡ request_of d = rw (c.in-Some-Show.is, c.in-Some-Show.field-0-is) at c.parse_line.ensures in
    on_ok_weaker c.add_shown.result
    (λ adds. by_no_step session session old new (IsAskedIn d) (step_within d) Show (sym asks) refl
    (shown session old new adds, refl))
    c.add_shown.ensures

pub returns-in-Some-Fates : goal.returns-in-Some-Fates
returns-in-Some-Fates g c =
    let d = view c.args.value.now in
    let asks : Some Fates ≡ request_of d =
    rw (c.in-Some-Fates.is, c.in-Some-Fates.field-0-is) at c.parse_line.ensures in
    on_ok_weaker c.tell_fates.result
    (by_no_step c.args.self.now c.tell_fates.new.self (string_bytes c.args.text.now)
    (string_bytes c.tell_fates.new.text) (IsAskedIn d) (step_within d) Fates (sym asks) refl)
    c.tell_fates.ensures

pub returns-in-Some-BeginAnew : goal.returns-in-Some-BeginAnew
returns-in-Some-BeginAnew g c =
    let d = view c.args.value.now in
    let asked = BeginAnew c.in-Some-BeginAnew.past in
    let asks : Some asked ≡ request_of d =
    rw (c.in-Some-BeginAnew.is, c.in-Some-BeginAnew.field-0-is) at c.parse_line.ensures in
    on_ok_weaker c.begin_anew.result
    (by_no_step c.args.self.now c.begin_anew.new.self (string_bytes c.args.text.now)
    (string_bytes c.begin_anew.new.text) (IsAskedIn d) (step_within d) asked (sym asks) refl)
    c.begin_anew.ensures

pub returns-in_ok-why-in-None : goal.returns-in_ok-why-in-None
returns-in_ok-why-in-None g c =
    let d = view c.args.value.now in
    let asks : None ≡ request_of d = rw c.in-None.is at c.parse_line.ensures in
    let told : TellsNoStep d c.as_str.result.now = rw c.as_str.ensures.value c.in_ok-why-in-None.ensures in
    on_ok_weaker c.add_fault.result
    (by_fault c.args.self.now (string_bytes c.args.text.now) (string_bytes c.add_fault.new.text) (IsAskedIn d)
    (step_within d) c.as_str.result.now (sym asks, told))
    c.add_fault.ensures
