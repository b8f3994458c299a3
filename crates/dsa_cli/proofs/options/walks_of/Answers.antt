use Rattle.dsa_cli.proofs.options.walks_of.Goals as goal
use Rattle.std.proofs.Common.{◌∙◌}

pub returns : goal.returns
returns c = record {
  count = c.number_of.ensures.number;
  seed = (c.seed_given.result, c.seed_given.ensures, c.from.ensures ∙ c.unwrap_or.ensures);
  shard = c.requires;
}
