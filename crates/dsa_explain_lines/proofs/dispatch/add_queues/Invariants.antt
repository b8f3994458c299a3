use Rattle.dsa_explain_lines.proofs.dispatch.add_queues.Given as goal
use Rattle.std.proofs.Common.{◌≡◌, ◌++◌, string_bytes, flat_map}
use Rattle.dsa_base.specs.Numbers.{numbers_below}
use Rattle.dsa_explain_lines.specs.Parts.{queue_part}

abbrev pub invariant-loop-queue : goal.invariant-loop-queue
invariant-loop-queue g l = string_bytes l.text
    ≡ string_bytes l.initial.text ++ flat_map (queue_part l.device.state.work l.engine) (numbers_below l.queue)
