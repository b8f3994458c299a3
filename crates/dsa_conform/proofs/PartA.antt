-- The queues whose fronts show what was seen.
use Rattle.std.proofs.Common.{◌≡◌, ◌<◌, ◌+◌, ◌==◌, ℕ, Bool, true, false, List, Some, refl, subst, arith}
use Rattle.std.proofs.lemmas.Bool.{eqb-true, eqb-false}
use Rattle.dsa_base.specs.Lists.{In}
use Rattle.dsa_book.specs.State.{Work}
use Rattle.dsa_scenario.specs.declared.run.Record.{Record}
use Rattle.dsa_conform.specs.{Allowed.{offer}, Seen.{Seen, shows}}

-- those of the queues below were found, and so is that of one more
pub found_more : (w : Work) (e n : ℕ) (seen : Seen) (old new : List ℕ)
    → ((q : ℕ) (entry : Record) → q < n → offer w e q ≡ Some entry → shows seen entry ≡ true → In q old)
    → ((q : ℕ) → In q old → In q new)
    → ((entry : Record) → offer w e n ≡ Some entry → shows seen entry ≡ true → In n new)
    → (q : ℕ) (entry : Record) → q < n + 1 → offer w e q ≡ Some entry → shows seen entry ≡ true → In q new
found_more w e n seen old new before keeps adds q entry below h shown = at (q == n) refl
  where
    at : (b : Bool) → (q == n) ≡ b → In q new
    at true same =
        let is = eqb-true q n same in
        rw is (adds entry (subst (λ k. offer w e k ≡ Some entry) is h) shown)
    at false other = keeps q (before q entry (omega (arith, below, eqb-false q n other)) h shown)
