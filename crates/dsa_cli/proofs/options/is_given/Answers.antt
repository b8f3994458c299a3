use Rattle.dsa_cli.proofs.options.is_given.Goals as goal
use Rattle.std.proofs.Common.{◌∙◌}
use Rattle.clap.{proofs.WalkLemmas.{one_text-rows}, specs.Matches.{found_of}}

pub returns : goal.returns
returns c =
    let rows = one_text-rows (found_of c.args.given.now) c.args.name.now in record {
      given = λ has. c.get_flag.ensures.value (rows ∙ has);
      left_out = λ has. c.get_flag.ensures.other (rows ∙ has);
    }
