use Rattle.dsa_cli.proofs.options.answers_given.Goals as goal
use Rattle.std.proofs.Common.{◌∙◌, Some, codes, option_map, ap, sym}
use Rattle.std.specs.Prelude.{option_and_then}
use Rattle.clap.specs.Matches.{found_of}
use Rattle.dsa_chosen.specs.Words.{unknown_word}
use Rattle.dsa_cli.proofs.OptionTexts.{text_read}

pub returns-in-Ok-clause-words : goal.returns-in-Ok-clause-words
returns-in-Ok-clause-words c =
    ap Some c.in-Ok.ensures.words
    ∙ text_read (found_of c.args.given.now) (codes "only") _ _ c.get_str.ensures
    (ap (option_map (λ s. s.now)) c.in-Some.is)

pub returns-in-Ok-clause-known : goal.returns-in-Ok-clause-known
returns-in-Ok-clause-known c =
    let words = text_read (found_of c.args.given.now) (codes "only") _ _ c.get_str.ensures
    (ap (option_map (λ s. s.now)) c.in-Some.is) in
    ap (option_and_then unknown_word) (sym words) ∙ c.in-Ok.ensures.known

pub returns-in-Err-clause-unknown : goal.returns-in-Err-clause-unknown
returns-in-Err-clause-unknown c =
    let words = text_read (found_of c.args.given.now) (codes "only") _ _ c.get_str.ensures
    (ap (option_map (λ s. s.now)) c.in-Some.is) in
    ap (option_and_then unknown_word) (sym words) ∙ c.in-Err.ensures.unknown

pub returns-in-None-clause-words : goal.returns-in-None-clause-words
returns-in-None-clause-words c =
    text_read (found_of c.args.given.now) (codes "only") _ _ c.get_str.ensures
    (ap (option_map (λ s. s.now)) c.in-None.is)

pub returns-in-None-clause-known : goal.returns-in-None-clause-known
returns-in-None-clause-known c =
    let words = text_read (found_of c.args.given.now) (codes "only") _ _ c.get_str.ensures
    (ap (option_map (λ s. s.now)) c.in-None.is) in
    ap (option_and_then unknown_word) (sym words)
