use Rattle.dsa_worked.proofs.anew.lawful_states.Goals as goal
use Rattle.std.proofs.Common.{◌≡◌, List, [], ◌∷◌, ◌++◌, append-nil, arith, length-append, refl, subst, sym}
use Rattle.std.specs.Prelude.{replicate}
use Rattle.dsa_store.specs.Content.{held_count}
use Rattle.dsa_book.specs.{declared.fate.FateRow.{FateRow}, State.{State}}
use Rattle.dsa_laws.{proofs.Histories.{replay-well_formed}, specs.WellFormed.{IsWellFormed}}
use Rattle.dsa_worked.specs.{Anew.{with_fates_alone}, Lawful.{in_queue}, Setup.{completed}, Uneven.{many_engines, batch_of_the_last_engine}}

pub returns-clause-with_its_fates : goal.returns-clause-with_its_fates
returns-clause-with_its_fates c s e = record {
  forgotten = [];
  well_formed = replay-well_formed many_engines batch_of_the_last_engine s e;
}

pub returns-clause-without_them : goal.returns-clause-without_them
returns-clause-without_them c s e = record {
  forgotten = s.work.fates;
  well_formed = subst (λ (rows : List FateRow). IsWellFormed many_engines (with_fates_alone rows s))
      (sym (append-nil s.work.fates)) (replay-well_formed many_engines batch_of_the_last_engine s e);
}

pub returns-clause-one_not_given : goal.returns-clause-one_not_given
returns-clause-one_not_given c is =
    omega (arith, is.well_formed.names.counted, length-append is.forgotten (completed 0 0x01 ∷ []))

one_held : held_count ((in_queue 0 0 ∷ []) ∷ [] ∷ replicate 6 [] ++ [] ∷ replicate 6 []) ≡ 1
unfolding held_count
one_held = refl

pub returns-clause-held_and_ended : goal.returns-clause-held_and_ended
returns-clause-held_and_ended c is = omega (
  arith,
  is.well_formed.names.counted,
  length-append is.forgotten (completed 0 0x01 ∷ []),
  one_held,
)
