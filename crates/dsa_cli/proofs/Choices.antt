-- What options choose that have no value.
use Rattle.std.proofs.Common.{◌≡◌, ◌∙◌, ℕ, Bool, true, false, List, [], Option, Some, unwrap_or, codes, length}
use Rattle.std.proofs.Common.{refl, sym, ap, subst, arith, inl, inr}
use Rattle.std.proofs.lemmas.Bool.{cases_lt}
use Rattle.clap.specs.Walk.{Row, Text, one_of}
use Rattle.dsa_cli.specs.CommandLine.{IsCheckFormOf, IsChosenBy, IsFormOf, IsGivenElse, IsWrittenIn}
use Rattle.dsa_cli.specs.declared.reports.Written.{Written, TheVariants.{Strict, Friendly}}
use Rattle.dsa_check.specs.declared.checking.CheckForm.TheVariants.{Lines}
use Rattle.dsa_trace.specs.declared.form.Trace.TheVariants.{Table}

-- how long the text of an option is
abbrev text_length : Option Text → ℕ
text_length o = length (unwrap_or o [])

-- an option that is given chooses one of two, and one that is not the other
pub when_given : {A : Type 0} {rows : List Row} {name : Text} {on off : A} → one_of name rows ≡ Some (codes "true")
    → IsChosenBy rows name on off on
when_given has = record {
  given = λ again. refl;
  left_out = λ other. absurd (omega (arith, ap text_length (sym has ∙ other)));
}

pub when_left_out : {A : Type 0} {rows : List Row} {name : Text} {on off : A} → one_of name rows ≡ Some (codes "false")
    → IsChosenBy rows name on off off
when_left_out has = record {
  given = λ other. absurd (omega (arith, ap text_length (sym has ∙ other)));
  left_out = λ again. refl;
}

-- one of two is chosen, whatever is given
pub any_writing : (rows : List Row) (IsSo : Written → Type 0) → ((written : Written) → IsSo written)
    → (written : Written) × IsWrittenIn rows written × IsSo written
any_writing rows IsSo all =
    elim (cases_lt 4 (text_length (one_of (codes "friendly") rows))) [
      | inl long ↦ (
        Strict,
        record { given = λ has. absurd (omega (arith, ap text_length has, long)); left_out = λ out. refl },
        all Strict,
      )
      | inr short ↦ (
        Friendly,
        record { given = λ has. refl; left_out = λ out. absurd (omega (arith, ap text_length out, short)) },
        all Friendly,
      )
    ]

pub first_given : {A : Type 0} {rows : List Row} {name : Text} {form : A} {IsSo : A → Type 0}
    → one_of name rows ≡ Some (codes "true") → IsGivenElse rows name form IsSo form
first_given has = record {
  given = λ again. refl;
  left_out = λ out. absurd (omega (arith, ap text_length (sym has ∙ out)));
}

pub first_left_out : {A : Type 0} {rows : List Row} {name : Text} {form this : A} {IsSo : A → Type 0}
    → one_of name rows ≡ Some (codes "false") → IsSo this → IsGivenElse rows name form IsSo this
first_left_out out so = record {
  given = λ has. absurd (omega (arith, ap text_length (sym out ∙ has)));
  left_out = λ again. so;
}

-- no option asks for a form of a check, or for one of a trace
pub lines_form : {rows : List Row} → one_of (codes "json") rows ≡ Some (codes "false")
    → one_of (codes "color") rows ≡ Some (codes "false") → one_of (codes "source") rows ≡ Some (codes "false")
    → IsCheckFormOf rows Lines
lines_form json color source = first_left_out json (first_left_out color (first_left_out source refl))

pub table_form : {rows : List Row} → one_of (codes "chrome") rows ≡ Some (codes "false")
    → one_of (codes "json") rows ≡ Some (codes "false") → one_of (codes "changes") rows ≡ Some (codes "false")
    → one_of (codes "wide") rows ≡ Some (codes "false") → IsFormOf rows (Some Table)
table_form chrome json changes wide =
    first_left_out chrome (first_left_out json (first_left_out changes (first_left_out wide refl)))

-- the first of some options that was found is this one, or a later one
pub first_here : {A : Type 0} {rows : List Row} {name : Text} {found : Bool} {form : A} {IsSo : A → Type 0}
    → IsChosenBy rows name true false found → found ≡ true → IsGivenElse rows name form IsSo form
first_here option is = record {
  given = λ has. refl;
  left_out = λ out. let none = option.left_out out in absurd cc;
}

pub first_later : {A : Type 0} {rows : List Row} {name : Text} {found : Bool} {form this : A} {IsSo : A → Type 0}
    → IsChosenBy rows name true false found → found ≡ false → IsSo this → IsGivenElse rows name form IsSo this
first_later option is so = record {
  given = λ has. let some = option.given has in absurd cc;
  left_out = λ out. so;
}

-- an option or another value is so, if that value is so
pub or_else : {A : Type 0} {rows : List Row} {name : Text} {form other this : A} {IsSo : A → Type 0}
    → IsGivenElse rows name form (λ o. o ≡ other) this → IsSo other → IsGivenElse rows name form IsSo this
or_else {IsSo = IsSo} option so = record {
  given = option.given;
  left_out = λ out. subst IsSo (sym (option.left_out out)) so;
}

-- one of two is chosen where the option was found, and the other where it was not
pub chosen : {A : Type 0} {rows : List Row} {name : Text} {found : Bool} (on off : A)
    → IsChosenBy rows name true false found → found ≡ true → IsChosenBy rows name on off on
chosen on off option is = record {
  given = λ has. refl;
  left_out = λ has. let other = option.left_out has in absurd cc;
}

pub not_chosen : {A : Type 0} {rows : List Row} {name : Text} {found : Bool} (on off : A)
    → IsChosenBy rows name true false found → found ≡ false → IsChosenBy rows name on off off
not_chosen on off option is = record {
  given = λ has. let other = option.given has in absurd cc;
  left_out = λ has. refl;
}
