use Rattle.std.proofs.Common.{ap, sym, ◌∙◌}
use Rattle.dsa_device.proofs.Known.{shape_of}
use Rattle.dsa_key_bytes.specs.{Line.{with_numbers}}
use Rattle.dsa_key_bytes.specs.KeyBytes.{with_count, numbers_of_caps, numbers_of_queue, numbers_of_group}
use Rattle.dsa_key_bytes.proofs.Lines.{written-three}
use Rattle.dsa_key_bytes.proofs.writing.write_configured.Goals as goal

pub returns : goal.returns
returns g c =
    let shape = shape_of c.args.device.now c.state_is_replay.ensures.past in
    written-three c.args.line.now c.write_numbers.new.self c.write_queues.new.line c.write_groups.new.line _ _ _
    (c.write_numbers.ensures
    ∙ ap (with_numbers c.args.line.now)
    (c.numbers_of_caps.ensures ∙ ap numbers_of_caps (c.caps.ensures ∙ sym shape.same_caps)))
    (c.write_queues.ensures
    ∙ ap (λ configs. with_numbers c.write_numbers.new.self (with_count numbers_of_queue configs)) c.queue_configs.ensures)
    (c.write_groups.ensures
    ∙ ap (λ configs. with_numbers c.write_queues.new.line (with_count numbers_of_group configs)) c.group_configs.ensures)
