use Rattle.dsa_worked.proofs.lawful.engines.Goals as goal
use Rattle.std.proofs.Common.{◌≡◌, ap, arith, inl, lit≤, refl, true}
use Rattle.std.specs.Prelude.{unwrap_or}
use Rattle.dsa_laws.specs.Engines.{IsAlike, IsNoteOf, holds_batch}
use Rattle.dsa_regs.specs.declared.Phase.TheVariants.{On}
use Rattle.dsa_regs.specs.Worked.{shared_queue}
use Rattle.dsa_worked.specs.Lawful.{that_runs, batch_three, member_of_three, note_of_three, set_up_in}
use Rattle.dsa_worked.proofs.Bounded.{in_one, in_two}

pub returns-clause-note : goal.returns-clause-note
returns-clause-note c = record { name = refl; count = refl }

pub returns-clause-alike : goal.returns-clause-alike
returns-clause-alike c = record { queue = refl; pasid = refl }

pub returns-clause-without : goal.returns-clause-without
returns-clause-without c = record { no_batch = refl; no_members = refl }

pub returns-clause-on_batch : goal.returns-clause-on_batch
returns-clause-on_batch c = record {
  one_batch = refl;
  noted = in_two (λ pair. holds_batch (set_up_in On On shared_queue 1) pair ≡ true → IsNoteOf note_of_three pair)
      that_runs batch_three (λ no. absurd (grind (arith, no))) (λ is. record { name = refl; count = refl });
  parents = in_one _ _ refl;
  alike = λ member batch inside there is. in_one (λ pair. IsAlike pair batch) (member_of_three true)
      (in_two (λ pair. holds_batch (set_up_in On On shared_queue 1) pair ≡ true → IsAlike (member_of_three true) pair)
      that_runs batch_three (λ no. absurd (grind (arith, no))) (λ is. record { queue = refl; pasid = refl })
      batch there is) member inside;
  most = lit≤ tt;
}

pub returns-clause-another_note : goal.returns-clause-another_note
returns-clause-another_note c is = omega (arith, (is.noted _ (inl refl) refl).name)

pub returns-clause-another_parent : goal.returns-clause-another_parent
returns-clause-another_parent c is = omega (arith, ap (λ parent. unwrap_or parent 0) (is.parents _ (inl refl)))

pub returns-clause-unlike_its_batch : goal.returns-clause-unlike_its_batch
returns-clause-unlike_its_batch c is = omega (arith, (is.alike _ _ (inl refl) (inl refl) refl).queue)

pub returns-clause-lost : goal.returns-clause-lost
returns-clause-lost c is = grind (arith, (is 0).no_members)
