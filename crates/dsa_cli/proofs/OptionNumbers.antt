-- Numbers that options have.
use Rattle.std.proofs.Common.{◌≡◌, ◌<◌, ◌∙◌, ℕ, ◌^◌, List, Option, Some, None, Result, Ok, Err}
use Rattle.std.proofs.Common.{option_map, refl, sym, ap, arith}
use Rattle.std.specs.Str.Parse.{IsNumeral, ParsesUnsigned, digits_value, without_leading_plus}
use Rattle.std.specs.Prelude.{Box}
use Rattle.std.specs.Box.{box_value}
use Rattle.clap.specs.Matches.{ReadsOne, subcommand_name_of}
use Rattle.clap.specs.{Simple.{subcommand_rows, subcommand_rows_of}, Walk.{Row, Text}}
use Rattle.dsa_cli.specs.CommandLine.{SaysNumber}
use Rattle.clap.specs.declared.parser.matches.ArgMatches.{ArgMatches}
use Rattle.clap.specs.declared.parser.matches.ArgMatches.TheViews.{out-ArgMatches, out-SubCommand}
use Rattle.clap.specs.declared.parser.matches.SubCommand.{SubCommand}

-- what is read of a numeral in range
pub reads_number : {E : Type 0} (bits : ℕ) (gives : List ℕ → Result ℕ E → Type 0)
    → ((t : List ℕ) (r : Result ℕ E) → gives t r → ParsesUnsigned bits 10 t r)
    → (text : List ℕ) (read : Option ℕ) → ReadsOne gives text read → IsNumeral 10 (without_leading_plus text)
    → digits_value 10 (without_leading_plus text) < 2 ^ bits
    → read ≡ Some (digits_value 10 (without_leading_plus text))
reads_number bits gives parses text (Some n) h numeral low = ap Some (parses text (Ok n) h).1
reads_number bits gives parses text None h numeral low = absurd (parses text (Err h.0) h.1 (numeral, low))

-- what is read of an option that says a number
pub reads_said : {E : Type 0} (bits most : ℕ) (gives : List ℕ → Result ℕ E → Type 0)
    → ((t : List ℕ) (r : Result ℕ E) → gives t r → ParsesUnsigned bits 10 t r)
    → (rows : List Row) (name : Text) (n : ℕ) (says : SaysNumber rows name 0 most n) → most < 2 ^ bits
    → {read : Option ℕ} → ReadsOne gives says.0 read → read ≡ Some n
reads_said bits most gives parses rows name n says low reads =
    reads_number bits gives parses says.0 _ reads says.2 (omega (arith, says.3, says.5, low)) ∙ ap Some (sym says.3)

-- both parts of what an option holds
pub some_pair : {A B : Type 0} (o : Option (A × B)) (a : A) (b : B) → option_map (λ p. p.0) o ≡ Some a
    → option_map (λ p. p.1) o ≡ Some b → o ≡ Some (a, b)
some_pair None a b first second = absurd cc
some_pair (Some p) a b first second =
    let left : p.0 ≡ a = cc in
    let right : p.1 ≡ b = cc in
    rw (sym left, sym right) refl

-- the name of a subcommand that was met, by its matches
pub name-rows : (m : ArgMatches) → option_map (λ p. p.0) (subcommand_rows_of m) ≡ subcommand_name_of m
name-rows m = go (out-ArgMatches m).subcommand where
  go : {Z : Type 0} (o : Option (Box SubCommand Z))
      → option_map (λ p. p.0) (subcommand_rows o) ≡ option_map (λ b. (out-SubCommand (box_value b)).name.now) o
  go None = refl
  go (Some b) = refl
