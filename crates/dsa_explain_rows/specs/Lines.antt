-- Devices and steps that lines are told of.
use Rattle.std.specs.Prelude.{List, [], ◌∷◌, ◌++◌, map}
use Rattle.dsa_regs.specs.declared.Command.TheVariants.{EnableDevice}
use Rattle.dsa_regs.specs.Worked.{caps}
use Rattle.dsa_book.specs.declared.answer.PollAnswer.TheVariants.{Nothing}
use Rattle.dsa_device.specs.Running.{Running, running_at_first}
use Rattle.dsa_worked.specs.Setup.{obeyed, polled}
use Rattle.dsa_worked.specs.{Answers.{two_queues_of_a_group, one_of_two_queues_waits}, Batches.{three_groups}}
use Rattle.dsa_scenario.specs.Worked.{no_command}
use Rattle.dsa_scenario.specs.declared.run.Record.{Record, TheVariants.{Stepped, Refused}}
use Rattle.dsa_scenario.specs.Steps.{Visit, standing, visits}

-- a new device
abbrev pub new_device : Running
new_device = running_at_first caps 9

-- where an engine has two queues, and the front of one is a batch that has to wait
abbrev pub with_two_queues : Running
with_two_queues = standing three_groups 100 (map Stepped (two_queues_of_a_group ++ one_of_two_queues_waits))

-- an enable, a poll, and a word that is no command
abbrev pub three_records : List Record
three_records = Stepped (obeyed EnableDevice) ∷ Stepped (polled Nothing) ∷ Refused no_command ∷ []

abbrev pub steps_of_three : List Visit
steps_of_three = visits caps 9 [] three_records

abbrev pub at_last : Running
at_last = standing caps 9 three_records
