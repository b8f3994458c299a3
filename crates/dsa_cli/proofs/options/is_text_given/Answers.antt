use Rattle.dsa_cli.proofs.options.is_text_given.Goals as goal
use Rattle.std.proofs.Common.{◌≡◌, ◌∙◌, Bor, List, ℕ, None, Option, Some, ap, option_map, refl}
use Rattle.std.specs.Prelude.{is_some}
use Rattle.clap.specs.Matches.{found_of}
use Rattle.dsa_cli.proofs.OptionTexts.{text_read}

mapped : (o : Option (Bor (List ℕ))) → is_some o ≡ is_some (option_map (λ s. s.now) o)
mapped None = refl
mapped (Some s) = refl

pub returns : goal.returns
returns c = c.is_some.ensures ∙ mapped c.get_str.result
    ∙ ap is_some (text_read (found_of c.args.given.now) c.args.name.now _ _ c.get_str.ensures refl)
