use Rattle.std.proofs.Common.{◌≡◌}
use Rattle.serde_json.proofs.Nesting.{depth-read}
use Rattle.serde_json.specs.View.{view}
use Rattle.dsa_check.proofs.{ReadTexts.{text_of_same}, Told.{same_value}}
use Rattle.dsa_check.proofs.step_lines.is_text_of.Goals as goal

pub is_same-requires-clause-value : goal.is_same-requires-clause-value
is_same-requires-clause-value c = depth-read c.args.bytes.now (view c.in-Ok.read) c.in-Ok.ensures.ok.value

pub returns-in-Ok-clause-so : goal.returns-in-Ok-clause-so
returns-in-Ok-clause-so c =
    text_of_same c.args.bytes.now (view c.in-Ok.read) (view c.args.value.now) c.is_same.result c.in-Ok.ensures.ok
    (rw (← c.in-Some.ensures.value) c.if-first-gt32.true) c.is_same.ensures.same

pub returns-in-Ok-clause-told : goal.returns-in-Ok-clause-told
returns-in-Ok-clause-told c whole are =
    let read = view c.in-Ok.read in
    let same : read ≡ view c.args.value.now =
    same_value c.args.bytes.now read (view c.args.value.now) c.in-Ok.ensures.ok.value are.json.value in
    c.is_same.ensures.told (rw same whole) same
