use Rattle.dsa_cli.proofs.options.number_of.Goals as goal
use Rattle.std.proofs.Common.{◌≡◌, ◌∙◌, arith, ap, unwrap_or}
use Rattle.std.specs.Str.Parse.{ParsesUnsigned, ExplainsUnsignedError, HasUnsignedDigitsIfOk}
use Rattle.std.specs.Str.Parse.{digits_value}
use Rattle.std.specs.Str.Parse.{without_leading_plus}
use Rattle.clap.{proofs.WalkLemmas.{one_text-rows}, specs.Matches.{found_of}}
use Rattle.dsa_cli.proofs.OptionNumbers.{reads_number}

pub returns-clause-number : goal.returns-clause-number
returns-clause-number c text has numeral least most =
    let held = one_text-rows (found_of c.args.matches.now) c.args.name.now ∙ has in
    let read = reads_number 32 (λ bs r. ParsesUnsigned 32 10 bs r × ExplainsUnsignedError 10 bs r
    × HasUnsignedDigitsIfOk bs r) (λ t r h. h.0) text c.get_one.result
    (c.get_one.ensures.value text held) numeral (omega (arith, most, c.ranges.most.fits)) in
    let value : c.unwrap_or.result ≡ digits_value 10 (without_leading_plus text) = c.unwrap_or.ensures
    ∙ ap (λ o. unwrap_or o c.args.least) read in
    omega (arith, c.clamp.ensures, value, least, most)
