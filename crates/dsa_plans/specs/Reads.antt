-- What values of the program say.
use Rattle.std.specs.Prelude.{map}
use Rattle.serde_json.specs.View.{view}
use Rattle.dsa_plans.specs.declared.{submitters.ClientStep.{ClientStep}, plans.Lists.{Lists}}
use Rattle.dsa_plans.specs.{Submitters.{StepRead}, Plans.{PartyLists}}

-- a client's step
abbrev pub step_read : ClientStep → StepRead
step_read step = record { entry = step.entry; outcomes = step.outcomes; members = map view step.members.now }

-- the lists of the object `parties`
abbrev pub lists_read : Lists → PartyLists
lists_read lists = record {
  clients = map view lists.clients.now;
  administrators = map view lists.administrators.now;
  engines = lists.engines.items;
}
