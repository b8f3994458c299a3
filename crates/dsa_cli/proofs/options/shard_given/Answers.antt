use Rattle.dsa_cli.proofs.options.shard_given.Goals as goal
use Rattle.std.proofs.Common.{◌∙◌, Some, codes, option_map, ap, sym}
use Rattle.std.specs.Option.{option_map_or}
use Rattle.clap.specs.Matches.{found_of}
use Rattle.dsa_cli.specs.Shards.{shard_of_text, whole_shard}
use Rattle.dsa_cli.proofs.OptionTexts.{text_read}

pub returns-in-Some-parse-clause-shard : goal.returns-in-Some-parse-clause-shard
returns-in-Some-parse-clause-shard c =
    let text = text_read (found_of c.args.given.now) (codes "shard") _ _ c.get_str.ensures
    (ap (option_map (λ s. s.now)) c.in-Some.is) in
    ap (λ o. option_map_or shard_of_text o (Some whole_shard)) (sym text) ∙ sym c.parse.ensures ∙ c.in-Some-parse.is

pub returns-in-None-parse-clause-text : goal.returns-in-None-parse-clause-text
returns-in-None-parse-clause-text c =
    sym (text_read (found_of c.args.given.now) (codes "shard") _ _ c.get_str.ensures
    (ap (option_map (λ s. s.now)) c.in-Some.is))

pub returns-in-None-clause-shard : goal.returns-in-None-clause-shard
returns-in-None-clause-shard c =
    let text = text_read (found_of c.args.given.now) (codes "shard") _ _ c.get_str.ensures
    (ap (option_map (λ s. s.now)) c.in-None.is) in
    ap (λ o. option_map_or shard_of_text o (Some whole_shard)) (sym text) ∙ ap Some (sym c.whole.ensures)
