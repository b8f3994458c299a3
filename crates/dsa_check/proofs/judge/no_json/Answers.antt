use Rattle.std.proofs.Common.{ap}
use Rattle.std.specs.Prelude.{Some}
use Rattle.dsa_check.proofs.judge.no_json.Goals as goal

pub returns-clause-told : goal.returns-clause-told
returns-clause-told c =
    let flaw = c.in_ok-flaw in
    rw c.in_ok-vec.ensures.items (
      record {
        at = flaw.flaw.0.at;
        line = ap Some flaw.ensures.spot.line;
        column = ap Some flaw.ensures.spot.column;
        reasons = flaw.ensures.told;
        few = flaw.ensures.few;
        of_utf8 = flaw.ensures.of_utf8;
      },
      tt,
    )
