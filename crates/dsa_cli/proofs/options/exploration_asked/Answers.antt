use Rattle.dsa_cli.proofs.options.exploration_asked.Goals as goal
use Rattle.std.proofs.Common.{◌∙◌, codes, option_map, ap, refl, sym}
use Rattle.clap.specs.Matches.{found_of}
use Rattle.dsa_cli.proofs.OptionTexts.{text_read}

pub returns-in-Some : goal.returns-in-Some
returns-in-Some c = (refl, sym c.clash_in.ensures ∙ c.in-Some.is)

pub showing_asked-requires-clause-row : goal.showing_asked-requires-clause-row
showing_asked-requires-clause-row c = sym (text_read (found_of c.args.given.now) (codes "show") _ _ c.get_str.ensures
    (ap (option_map (λ s. s.now)) c.in-Some-get_str.is))

pub table_asked-requires-clause-show : goal.table_asked-requires-clause-show
table_asked-requires-clause-show c = sym (text_read (found_of c.args.given.now) (codes "show") _ _ c.get_str.ensures
    (ap (option_map (λ s. s.now)) c.in-None.is))
