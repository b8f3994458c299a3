use Rattle.dsa_cli.proofs.options.is_json_given.Goals as goal
use Rattle.std.proofs.Common.{◌∙◌, false, option_map, codes, ap, sym}
use Rattle.std.specs.{Prelude.{bytes_eq}, Option.{option_map_or}}
use Rattle.clap.specs.Matches.{found_of}
use Rattle.dsa_cli.proofs.OptionTexts.{text_read}

pub returns-in-Some : goal.returns-in-Some
returns-in-Some c =
    let text = text_read (found_of c.args.given.now) (codes "json") _ _ c.get_str.ensures
    (ap (option_map (λ s. s.now)) c.in-Some.is) in
    c.eq.ensures ∙ ap (λ o. option_map_or (λ text. bytes_eq text (codes "true")) o false) text

pub returns-in-None : goal.returns-in-None
returns-in-None c =
    let text = text_read (found_of c.args.given.now) (codes "json") _ _ c.get_str.ensures
    (ap (option_map (λ s. s.now)) c.in-None.is) in
    ap (λ o. option_map_or (λ text. bytes_eq text (codes "true")) o false) text
