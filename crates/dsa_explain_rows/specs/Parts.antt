-- What is told behind an answer.
use Rattle.std.specs.Prelude.{ℕ, List, [], ◌∷◌, Option, unwrap_or}
use Rattle.dsa_desc.specs.declared.Descriptor.{Descriptor}
use Rattle.dsa_regs.specs.Worked.{caps}
use Rattle.dsa_book.specs.{declared.event.Step.{Step}, Machine.{replay}, State.{Setup, opening}}
use Rattle.dsa_explain_lines.specs.Parts.{dispatch_part, event_part}
use Rattle.dsa_worked.specs.Setup.{to_shared, step_of_a_take, ended}
use Rattle.dsa_explain_rows.specs.After.{of_two_queues, told_after}

-- what is told of a step after these
abbrev pub told : List Step → Step → Option (List ℕ)
told before step = told_after (λ s. event_part s step.event) before

-- what is told of the end of such a descriptor, which came through queue 0
abbrev pub told_at_end : Descriptor → Option (List ℕ)
told_at_end descriptor =
    told (to_shared descriptor 0 0 ∷ step_of_a_take 0 0 0 ∷ []) (ended 0 0 0 0x01)

-- what is told of an idle engine where two queues are of one group
abbrev pub idle_with_two_queues : ℕ → List Step → Option (List ℕ)
idle_with_two_queues engine = of_two_queues (λ w. dispatch_part w engine)

-- what is configured after these steps alone
abbrev pub setup_of : List Step → Setup
setup_of steps = (unwrap_or (replay caps steps) (opening caps)).work.setup
