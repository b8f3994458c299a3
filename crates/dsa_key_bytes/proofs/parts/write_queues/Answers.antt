use Rattle.std.proofs.Common.{length, ap, ◌∙◌, arith}
use Rattle.dsa_regs.specs.Config.{zero_queue}
use Rattle.dsa_key_bytes.specs.{Line.{with_numbers}, KeyBytes.{numbers_of_queue}}
use Rattle.dsa_key_bytes.proofs.Lines.{with_count-more}
use Rattle.dsa_key_bytes.proofs.parts.write_queues.Goals as goal

pub loop-config-preserved : goal.loop-config-preserved
loop-config-preserved c = with_count-more numbers_of_queue c.args.line.now c.loop-config.line c.write_numbers.new.self
    (length c.args.configs.now) c.args.configs.now c.loop-config.config-index zero_queue (omega arith) c.loop-config.invariant
    (c.write_numbers.ensures ∙ ap (with_numbers c.loop-config.line) c.numbers_of_queue.ensures)
