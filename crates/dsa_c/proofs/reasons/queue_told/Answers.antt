use Rattle.dsa_c.proofs.reasons.queue_told.Goals as goal
use Rattle.std.proofs.Common.{◌≡◌, ◌∙◌, sym, ap, true, Option}
use Rattle.std.specs.Prelude.{is_some}
use Rattle.dsa_engines.specs.{declared.reasons.QueueReason.{QueueReason}, Dispatch.{queue_reason}}
use Rattle.dsa_device.proofs.Known.{shape_of}
use Rattle.dsa_c.proofs.Offers.{within}

pub front_name-requires : goal.front_name-requires
front_name-requires g c =
    let w = c.args.device.now.state.work in
    let shape = shape_of c.args.device.now c.state_is_replay.ensures.past in
    let some : is_some (queue_reason w c.args.engine c.args.queue) ≡ true =
    ap (λ (o : Option QueueReason). is_some o) (sym c.queue_reason.ensures.reason ∙ c.in_ok-reason.was) in
    rw (← shape.same_caps) (within w c.args.engine c.args.queue some)
