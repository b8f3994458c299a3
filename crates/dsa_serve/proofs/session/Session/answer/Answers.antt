use Rattle.dsa_serve.proofs.session.Session.answer.Goals as goal
use Rattle.std.proofs.Common.{codes, arith, refl, sym, ap, ◌∙◌, inl, string_bytes}
use Rattle.std.proofs.lemmas.Result.{on_ok_weaker}
use Rattle.serde_json.{proofs.Nesting.{depth-read}, specs.{Read.{read}, View.{view}}}
use Rattle.std.specs.Prelude.{option_and_then}
use Rattle.dsa_serve.specs.Names.{names_given_by, own_names_of}
use Rattle.dsa_serve.specs.Requests.{Asks, TellsNoJson, step_within}
use Rattle.dsa_serve.proofs.{Answered.{by_fault}, Asking.{Asks-read, Asks-no_json}}

pub returns-then-line-gt-MAX_LINE : goal.returns-then-line-gt-MAX_LINE
returns-then-line-gt-MAX_LINE g c =
    let line = c.args.line.now in
    on_ok_weaker c.add_fault.result
    (by_fault c.args.self.now (string_bytes c.args.text.now) (string_bytes c.add_fault.new.text)
    (Asks (own_names_of c.args.self.now) line) (option_and_then step_within (read line)) (codes "line too long")
    (inl (omega (arith, c.if-line-gt-MAX_LINE.true), refl)))
    c.add_fault.ensures

pub returns-in-Ok : goal.returns-in-Ok
returns-in-Ok g c =
    let names = own_names_of c.args.self.now in
    on_ok_weaker c.answer_value.result
    (λ it. (
      it.0,
      it.1,
      Asks-read names c.args.line.now (view c.in-Ok.value) it.0 (omega (arith, c.if-line-gt-MAX_LINE.false))
          c.in-Ok.ensures.ok it.2,
      it.3,
      it.4,
      it.5 ∙ ap (λ d. names_given_by names (option_and_then step_within d) it.1) (sym c.in-Ok.ensures.ok.value),
    ))
    c.answer_value.ensures

pub returns-in_ok-why-in-Err-NotJson : goal.returns-in_ok-why-in-Err-NotJson
returns-in_ok-why-in-Err-NotJson g c =
    let names = own_names_of c.args.self.now in
    let line = c.args.line.now in
    let why = c.as_str.result.now in
    let told : TellsNoJson line why = rw c.as_str.ensures.value c.in_ok-why-in-Err-NotJson.ensures in
    on_ok_weaker c.add_fault-in-Err-NotJson.result
    (by_fault c.args.self.now (string_bytes c.args.text.now) (string_bytes c.add_fault-in-Err-NotJson.new.text)
    (Asks names line) (option_and_then step_within (read line)) why
    (Asks-no_json names line why _ (omega (arith, c.if-line-gt-MAX_LINE.false)) c.in-Err-NotJson.field-0-is
    c.in-Err-NotJson.ensures.err told))
    c.add_fault-in-Err-NotJson.ensures

pub answer_value-requires : goal.answer_value-requires
answer_value-requires g c = depth-read c.args.line.now _ c.in-Ok.ensures.ok.value
