use Rattle.dsa_engines.proofs.finishing.first_waited.Goals as goal
use Rattle.dsa_engines.proofs.finishing.first_waited.Goals.{then-has_queue+else-is_some, else-has_queue}
use Rattle.std.proofs.Common.{◌≡◌, ◌<◌, ◌+◌, ◌∙◌, Option, None, sym, ap, arith}
use Rattle.std.proofs.lemmas.{Grind.{common_steps}, Bool.{ltb-true}}
use Rattle.std.specs.Prelude.{is_some}
use Rattle.dsa_store.specs.Content.{HeldEntry}
use Rattle.dsa_engines.proofs.Waiting.{no-some, none-next}
use Rattle.dsa_engines.proofs.Draining.{waited_in, first-queued, first-running, none-waited}

pub returns-then-is_some : goal.returns-then-is_some
returns-then-is_some g c =
    c.first_older-queued.ensures
    ∙ first-queued c.args.queues.now.setup (g.S.EntryStore.content c.args.store.now) c.args.drain.now c.requires.store
    c.requires.placed (ltb-true _ _ (sym c.has_queue.ensures ∙ c.if-has_queue.true))
    (ap (λ (o : Option HeldEntry). is_some o) (sym c.first_older-queued.ensures) ∙ sym c.is_some.ensures
    ∙ c.if-is_some.true)

pub returns-then-is_some-2 : goal.returns-then-is_some-2
returns-then-is_some-2 g c =
    let content = g.S.EntryStore.content c.args.store.now in
    let at = c.first_in-found.ensures ∙ ap (waited_in content c.args.drain.now) c.list.ensures in
    at ∙ first-running c.args.queues.now.setup content c.args.drain.now c.requires.store c.requires.placed
    (elim c.if-has_queue.branch [
      | then-has_queue+else-is_some w ↦ λ h. sym w.first_older-queued.ensures
          ∙ no-some _ (sym w.is_some.ensures ∙ w.if-is_some.false)
      | else-has_queue w ↦ λ h. absurd (grind (arith, common_steps, c.has_queue.ensures, w.if-has_queue.false, h))
    ]) (rw (← c.caps-engine-end.ensures.value) c.loop-engine-test.true) c.loop-engine.invariant
    (ap (λ (o : Option HeldEntry). is_some o) (sym at) ∙ sym c.is_some-in-loop-engine.ensures ∙ c.if-is_some-2.true)

pub loop-engine-preserved : goal.loop-engine-preserved
loop-engine-preserved g c =
    let content = g.S.EntryStore.content c.args.store.now in
    let at = c.first_in-found.ensures ∙ ap (waited_in content c.args.drain.now) c.list.ensures in
    none-next (λ k. waited_in content c.args.drain.now (c.args.queues.now.setup.caps.queues + k)) c.loop-engine.engine
    c.loop-engine.invariant
    (ap (λ (o : Option HeldEntry). is_some o) (sym at) ∙ sym c.is_some-in-loop-engine.ensures ∙ c.if-is_some-2.false)

pub returns : goal.returns
returns g c =
    let all : c.loop-engine.engine ≡ c.args.queues.now.setup.caps.engines =
    rw (← c.caps-engine-end.ensures.value) (omega (arith, c.loop-engine.auto.engine-end, c.loop-engine-test.false)) in
    sym (none-waited c.args.queues.now.setup (g.S.EntryStore.content c.args.store.now) c.args.drain.now c.requires.store
    c.requires.placed (elim c.if-has_queue.branch [
      | then-has_queue+else-is_some w ↦ λ h. sym w.first_older-queued.ensures
          ∙ no-some _ (sym w.is_some.ensures ∙ w.if-is_some.false)
      | else-has_queue w ↦ λ h. absurd (grind (arith, common_steps, c.has_queue.ensures, w.if-has_queue.false, h))
    ]) (rw (← all) c.loop-engine.invariant))
