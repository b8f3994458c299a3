use Rattle.dsa_admin.proofs.ends.count_named.Goals as goal
use Rattle.dsa_admin.proofs.ends.count_named.Goals.{then-names, else-names}
use Rattle.std.proofs.Common.{◌≡◌, ◌<◌, ℕ, arith, sym, ap, ◌∙◌}
use Rattle.dsa_regs.specs.declared.Caps.{Caps}
use Rattle.dsa_store.specs.Content.{count_where}
use Rattle.dsa_admin.{proofs.Counting.{number-held}}
use Rattle.dsa_admin.proofs.Naming.{is_named_below, none-below, more-below, all-below}

pub loop-queue-init : goal.loop-queue-init
loop-queue-init c = record {
  few = omega arith;
  counts = λ content counted. sym (none-below c.args.scope.now content);
}

pub loop-queue-preserved : goal.loop-queue-preserved
loop-queue-preserved c =
    let q = c.loop-queue.queue in
    let there : q < c.args.queues.now.setup.caps.queues =
    omega (arith, c.loop-queue-test.true, ap (λ (caps : Caps). caps.queues) c.caps-queue-end.ensures.value) in
    elim c.if-names.branch [
      | then-names w ↦
          record {
            few = omega (arith, c.loop-queue.invariant.few, w.count-is, w.from-count.ensures, w.held_of.type_inv);
            counts = λ content counted.
                let hit = sym c.names.ensures ∙ w.if-names.true in
                let more = rw hit at (more-below c.args.scope.now c.requires q c.args.queues.now content there
                counted) in
                omega (
                  arith,
                  w.count-is,
                  w.from-count.ensures,
                  w.held_of.ensures,
                  number-held c.args.queues.now content q there counted,
                  c.loop-queue.invariant.counts content counted,
                  more,
                );
          }
      | else-names w ↦
          record {
            few = omega (arith, c.loop-queue.invariant.few, w.count-is);
            counts = λ content counted.
                let miss = sym c.names.ensures ∙ w.if-names.false in
                let more = rw miss at (more-below c.args.scope.now c.requires q c.args.queues.now content there
                counted) in
                omega (arith, w.count-is, c.loop-queue.invariant.counts content counted, more);
          }
    ]

pub returns : goal.returns
returns c = λ content counted.
    let last : c.loop-queue.queue ≡ c.args.queues.now.setup.caps.queues =
    omega (
      arith,
      c.loop-queue.auto.queue-end,
      c.loop-queue-test.false,
      ap (λ (caps : Caps). caps.queues) c.caps-queue-end.ensures.value,
    ) in
    c.loop-queue.invariant.counts content counted
    ∙ ap (λ (n : ℕ). count_where (is_named_below c.args.scope.now n) content) last
    ∙ all-below c.args.scope.now c.args.queues.now content counted
