use Rattle.dsa_statement_rows.proofs.ways.moves_that_are_listed.Goals as goal
use Rattle.std.proofs.Common.{◌≡◌, ◌∙◌, Bool, ℕ, ap, false, inl, refl, subst, sym, true}
use Rattle.std.proofs.lemmas.Bool.{false≢true}
use Rattle.dsa_book.specs.Work.{qualifies}
use Rattle.dsa_parties.specs.declared.places.Move.{Move, TheVariants.{Dispatch}}

-- the engine of a dispatch
abbrev engine_of : Move → ℕ
engine_of (Dispatch engine) = engine
engine_of _ = 0

abbrev is_dispatch : Move → Bool
is_dispatch (Dispatch engine) = true
is_dispatch _ = false

pub returns-clause-fetch : goal.returns-clause-fetch
returns-clause-fetch c script walked = record {
  plain = λ offer offered. inl refl;
  queues = λ offer engine q offered by qualified. absurd (false≢true (ap is_dispatch by));
}

pub returns-clause-no_queue : goal.returns-clause-no_queue
returns-clause-no_queue c script walked none = record {
  plain = λ offer offered. inl refl;
  queues = λ offer engine q offered by qualified.
      let same = ap engine_of by in
      absurd (false≢true (sym (none q)
      ∙ subst (λ e. qualifies walked.machine.device.state.work e q ≡ true) (sym same) qualified));
}
