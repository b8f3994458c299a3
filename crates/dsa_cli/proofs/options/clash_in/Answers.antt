use Rattle.dsa_cli.proofs.options.clash_in.Goals as goal
use Rattle.std.proofs.Common.{◌∙◌}
use Rattle.dsa_cli.specs.CommandLine.{clash_by}

pub returns : goal.returns
returns c = c.clash_by.ensures ∙ (λ i. clash_by (c.is_text_given-show.ensures i) (c.is_json_given.ensures i)
    (c.is_text_given-walks.ensures i) (c.is_text_given-seed.ensures i) (c.is_text_given-shard.ensures i))
