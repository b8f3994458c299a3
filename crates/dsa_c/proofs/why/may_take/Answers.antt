use Rattle.dsa_c.proofs.why.may_take.Goals as goal
use Rattle.std.proofs.Common.{◌≡◌, ◌∙◌, sym, Bool, Option, Some, None, true, false}
use Rattle.std.specs.Prelude.{is_some, MatchOption}

-- an option is some exactly where the test of its cases passes
test_of : {X : Type 0} (o : Option X) (test : Bool) (P : X → Type 0)
    → MatchOption o (test ≡ false) (λ x. (test ≡ true) × P x) → is_some o ≡ test
test_of None test P h = sym h
test_of (Some x) test P h = sym h.0

pub returns : goal.returns
returns g c = c.is_some.ensures ∙ test_of c.offered.result _ _ c.offered.ensures
