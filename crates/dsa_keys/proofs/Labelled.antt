-- Each state that a history leads to is labelled, where the labels tell its names apart.
use Rattle.std.proofs.Common.{◌≡◌, List, Some}
use Rattle.dsa_regs.specs.declared.Caps.{Caps}
use Rattle.dsa_book.specs.{declared.event.Step.{Step}, State.{State}, Machine.{replay}}
use Rattle.dsa_laws.proofs.Histories.{replay-well_formed}
use Rattle.dsa_keys.specs.Labels.{Labels, HasDistinctLabels}
use Rattle.dsa_keys.specs.Steps.{IsLabelled}
use Rattle.dsa_keys.proofs.Marks.{replay-marked}

pub histories-labelled : (caps : Caps) (m : Labels) (history : List Step) (s : State) → replay caps history ≡ Some s
    → HasDistinctLabels m s → IsLabelled caps m s
histories-labelled caps m history s e apart = record {
  well_formed = replay-well_formed caps history s e;
  marked = replay-marked caps history s e;
  distinct = apart;
}
