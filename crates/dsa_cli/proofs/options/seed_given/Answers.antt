use Rattle.dsa_cli.proofs.options.seed_given.Goals as goal
use Rattle.std.proofs.Common.{◌∙◌, codes, arith}
use Rattle.std.specs.Str.Parse.{ParsesUnsigned, ExplainsUnsignedError, HasUnsignedDigitsIfOk}
use Rattle.clap.{proofs.WalkLemmas.{one_text-rows}, specs.{Matches.{found_of}, Walk.{rows_of}}}
use Rattle.dsa_cli.proofs.OptionNumbers.{reads_said}

pub returns : goal.returns
returns c =
    let found = found_of c.args.given.now in
    let rows = one_text-rows found (codes "seed") in record {
      given = λ n says. reads_said 32 4_294_967_295 (λ bs r. ParsesUnsigned 32 10 bs r × ExplainsUnsignedError 10 bs r
          × HasUnsignedDigitsIfOk bs r) (λ t r h. h.0) (rows_of found) (codes "seed") n says (omega arith)
          (c.get_one.ensures.value says.0 (rows ∙ says.1));
      left_out = λ none. c.get_one.ensures.none (rows ∙ none);
    }
