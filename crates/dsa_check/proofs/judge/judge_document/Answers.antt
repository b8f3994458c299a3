use Rattle.dsa_check.proofs.judge.judge_document.Goals as goal
use Rattle.std.proofs.Common.{◌≡◌}
use Rattle.std.specs.List.{AllByRecursion}
use Rattle.std.proofs.lemmas.Result.{IfOk-weaker}
use Rattle.serde_json.specs.View.{view}
use Rattle.serde_json.proofs.Nesting.{depth-read}
use Rattle.dsa_check.specs.{Findings.{IsFounded, AreFounded}, Judgement.{faults_told, faults_of_value, IsJudged}}
use Rattle.dsa_check.proofs.{Firsts.{judged}, Told.{founded_as}, Warned.{warned_ok}}

pub judge_json-requires : goal.judge_json-requires
judge_json-requires c = record {
  shallow = depth-read c.args.bytes.now (view c.in-Ok.document) c.in-Ok.ensures.ok.value;
  text = c.in-Ok.ensures.ok.utf8;
}

pub returns-in-Ok-clause-first : goal.returns-in-Ok-clause-first
returns-in-Ok-clause-first c =
    let bytes = c.args.bytes.now in
    let document = view c.in-Ok.document in
    IfOk-weaker c.judge_json.result (λ told. faults_told told.faults.items ≡ faults_of_value document)
    (λ told. IsJudged bytes (faults_told told.faults.items))
    (λ told is. rw is (judged bytes document c.in-Ok.ensures.ok)) c.judge_json.ensures.faults

pub returns-in-Ok-clause-told : goal.returns-in-Ok-clause-told
returns-in-Ok-clause-told c =
    let bytes = c.args.bytes.now in
    let document = view c.in-Ok.document in
    IfOk-weaker c.judge_json.result (λ told. AllByRecursion (IsFounded bytes document) told.faults.items)
    (λ told. AreFounded bytes told.faults.items)
    (λ told h. founded_as bytes document c.in-Ok.ensures.ok told.faults.items h) c.judge_json.ensures.told

pub returns-in-Ok-clause-warned : goal.returns-in-Ok-clause-warned
returns-in-Ok-clause-warned c =
    warned_ok c.args.bytes.now (view c.in-Ok.document) c.in-Ok.ensures.ok c.judge_json.result
    c.judge_json.ensures.warnings c.judge_json.ensures.placed
