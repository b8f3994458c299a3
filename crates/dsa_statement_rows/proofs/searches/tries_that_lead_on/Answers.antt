use Rattle.dsa_statement_rows.proofs.searches.tries_that_lead_on.Goals as goal
use Rattle.dsa_book.specs.declared.answer.Reply.TheVariants as reply
use Rattle.std.proofs.Common.{◌≡◌, ◌∙◌, None, Some, sym}
use Rattle.std.proofs.lemmas.Option.{same_Some}
use Rattle.dsa_book.specs.declared.answer.DispatchAnswer.TheVariants.{Taken}
use Rattle.dsa_parties.specs.Offers.{label_ticket}

pub returns-clause-from_its_queue : goal.returns-clause-from_its_queue
returns-clause-from_its_queue c parties w w' by leads = record {
  reply = reply.Dispatch (Taken (label_ticket 7) 3);
  leads = leads;
  fits = λ q p named taken. sym (same_Some 3 q named) ∙ same_Some 3 p taken;
}

pub returns-clause-nowhere : goal.returns-clause-nowhere
returns-clause-nowhere c w w' tried led = let none : None ≡ Some w' = led.leads in absurd cc

pub returns-clause-no_step : goal.returns-clause-no_step
returns-clause-no_step c w w' tried taken = let none : None ≡ Some w' = taken.leads in absurd cc
