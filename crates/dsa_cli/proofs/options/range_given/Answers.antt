use Rattle.dsa_cli.proofs.options.range_given.Goals as goal
use Rattle.std.proofs.Common.{◌∙◌, Some, codes, option_map, ap, sym}
use Rattle.std.specs.Option.{option_map_or}
use Rattle.clap.specs.Matches.{found_of}
use Rattle.dsa_draw.specs.Ranges.{all_steps, range_of_text}
use Rattle.dsa_cli.proofs.OptionTexts.{text_read}

pub returns-in-Some-parse-clause-steps : goal.returns-in-Some-parse-clause-steps
returns-in-Some-parse-clause-steps c =
    let text = text_read (found_of c.args.given.now) (codes "steps") _ _ c.get_str.ensures
    (ap (option_map (λ s. s.now)) c.in-Some.is) in
    ap (λ o. option_map_or range_of_text o (Some all_steps)) (sym text) ∙ sym c.parse.ensures ∙ c.in-Some-parse.is

pub returns-in-None-parse-clause-text : goal.returns-in-None-parse-clause-text
returns-in-None-parse-clause-text c =
    sym (text_read (found_of c.args.given.now) (codes "steps") _ _ c.get_str.ensures
    (ap (option_map (λ s. s.now)) c.in-Some.is))

pub returns-in-None-clause-steps : goal.returns-in-None-clause-steps
returns-in-None-clause-steps c =
    let text = text_read (found_of c.args.given.now) (codes "steps") _ _ c.get_str.ensures
    (ap (option_map (λ s. s.now)) c.in-None.is) in
    ap (λ o. option_map_or range_of_text o (Some all_steps)) (sym text) ∙ ap Some (sym c.all.ensures)
