use Rattle.std.proofs.Common.{◌≡◌, ◌∷◌, length, ap, sym, ◌∙◌, arith}
use Rattle.std.specs.List.{flat_map}
use Rattle.std.proofs.lemmas.List.{take_all}
use Rattle.dsa_regs.specs.declared.{Caps.{Caps}, Phase.{TheVariants.{Off}}}
use Rattle.dsa_device.proofs.Known.{shape_of}
use Rattle.dsa_key_bytes.specs.{Line.{with_numbers}, KeyBytes.{numbers_of_phase}}
use Rattle.dsa_key_bytes.proofs.Lines.{with_count-more, renumber}
use Rattle.dsa_key_bytes.proofs.writing.write_phases.Goals as goal

pub loop-queue-init : goal.loop-queue-init
loop-queue-init g c =
    let shape = shape_of c.args.device.now c.state_is_replay.ensures.past in
    renumber c.args.line.now c.write_number.new.self _ (length c.args.device.now.state.work.setup.phases)
    c.write_number.ensures (c.from.ensures ∙ ap (λ (caps : Caps). caps.queues) c.caps-caps.ensures ∙ sym shape.phases)

pub loop-queue-preserved : goal.loop-queue-preserved
loop-queue-preserved g c =
    let phases = c.args.device.now.state.work.setup.phases in
    let shape = shape_of c.args.device.now c.state_is_replay.ensures.past in
    let count : c.caps-caps.result.queues ≡ length phases
    = ap (λ (caps : Caps). caps.queues) c.caps-caps.ensures ∙ sym shape.phases in
    with_count-more numbers_of_phase c.args.line.now c.loop-queue.line c.write_phase.new.line (length phases) phases
    c.loop-queue.queue Off (omega (arith, c.loop-queue-test.true, count)) c.loop-queue.invariant c.write_phase.ensures

pub returns : goal.returns
returns g c =
    let phases = c.args.device.now.state.work.setup.phases in
    let shape = shape_of c.args.device.now c.state_is_replay.ensures.past in
    let count : c.caps-caps.result.queues ≡ length phases
    = ap (λ (caps : Caps). caps.queues) c.caps-caps.ensures ∙ sym shape.phases in
    c.loop-queue.invariant
    ∙ ap (λ all. with_numbers c.args.line.now (length phases ∷ flat_map numbers_of_phase all))
    (take_all c.loop-queue.queue phases (omega (arith, c.loop-queue-test.false, count)))
