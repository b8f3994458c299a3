-- What is seen of the states that worked histories lead to, on their device and on two others.
use Rattle.std.specs.Prelude.{ℕ, List, ◌++◌, Option, option_map}
use Rattle.dsa_regs.specs.{declared.QueueConfig.{QueueConfig}, Worked.{caps}}
use Rattle.dsa_book.specs.{declared.event.Step.{Step}, Machine.{intake_of, replay}, State.{State, Work}}
use Rattle.dsa_book.specs.declared.event.{Kind.{Kind}, Portal.{Portal}}
use Rattle.dsa_queues.specs.declared.reasons.{SubmitReason.{SubmitReason}, WriteReason.{WriteReason}}
use Rattle.dsa_queues.specs.{Submission.{submit_reason}, Write.{write_group_reason, write_queue_reason}}
use Rattle.dsa_worked.specs.{Setup.{state_after}, Answers.{two_queues_of_a_group, one_group}}
use Rattle.dsa_worked.specs.{Batches.{three_groups, three_groups_setup}, Members.{few_buffers}}

-- what is seen of the device after the set-up and these steps
abbrev pub told_after : {X : Type 0} → (State → X) → List Step → Option X
told_after look steps = option_map look (state_after steps)

-- why a submission is turned away there, and why a queue and a group are not written
abbrev pub turned_away : ℕ → Portal → Kind → List Step → Option (Option SubmitReason)
turned_away queue portal kind = told_after (λ s. submit_reason (intake_of s) queue portal kind)

abbrev pub unwritten_queue : ℕ → QueueConfig → List Step → Option (Option WriteReason)
unwritten_queue queue config = told_after (λ s. write_queue_reason s.work.setup queue config)

abbrev pub unwritten_group : ℕ → List Step → Option (Option WriteReason)
unwritten_group group = told_after (λ s. write_group_reason s.work.setup group)

-- after these steps alone, with no set-up before them
abbrev pub told_from_first : {X : Type 0} → (State → X) → List Step → Option X
told_from_first look steps = option_map look (replay caps steps)

-- of three groups, each with a queue and an engine
abbrev pub of_three_groups : {X : Type 0} → (Work → X) → List Step → Option X
of_three_groups look steps = option_map (λ s. look s.work) (replay three_groups (three_groups_setup ++ steps))

-- where two queues are of one group, and an engine is of none
abbrev pub of_two_queues : {X : Type 0} → (Work → X) → List Step → Option X
of_two_queues look steps = option_map (λ s. look s.work) (replay three_groups (two_queues_of_a_group ++ steps))

-- where both queues and both engines are of one group
abbrev pub of_one_group : {X : Type 0} → (Work → X) → List Step → Option X
of_one_group look steps = told_from_first (λ s. look s.work) (one_group ++ steps)

-- where the first group may use four read buffers
abbrev pub with_few_buffers : {X : Type 0} → (Work → X) → List Step → Option X
with_few_buffers look steps = told_from_first (λ s. look s.work) (few_buffers ++ steps)
