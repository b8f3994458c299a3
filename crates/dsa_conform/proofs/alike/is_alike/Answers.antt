use Rattle.dsa_conform.proofs.alike.is_alike.Goals as goal
use Rattle.std.proofs.Common.{sym, subst, ap}
use Rattle.dsa_regs.specs.Config.{group_at}
use Rattle.dsa_book.specs.State.{Setup}
use Rattle.dsa_laws.specs.WellFormed.{HasShape}
use Rattle.dsa_device.proofs.Known.{shape_of}
use Rattle.dsa_conform.proofs.Likeness.{alike, queue_alike, engine_alike}

pub same_engines-requires : goal.same_engines-requires
same_engines-requires g c = c.same_caps.ensures.same c.if-not-same_caps.false

pub returns-then-not-same_caps-clause-other : goal.returns-then-not-same_caps-clause-other
returns-then-not-same_caps-clause-other g c is = λ alike. c.same_caps.ensures.other c.if-not-same_caps.true alike.caps

pub returns-then-not-same_setups-clause-other : goal.returns-then-not-same_setups-clause-other
returns-then-not-same_setups-clause-other g c is = λ alike.
    c.same_setups.ensures.other c.if-not-same_setups.true (ap (λ (s : Setup). s.device) alike.states.setup)
    (ap (λ (s : Setup). s.next_name) alike.states.setup) (ap (λ (s : Setup). s.noted) alike.states.setup)

pub returns-then-not-same_histories-clause-other : goal.returns-then-not-same_histories-clause-other
returns-then-not-same_histories-clause-other g c is = λ alike.
    c.same_histories.ensures.other c.if-not-same_histories.true alike.capacity alike.count

pub returns-then-not-same_commands-clause-other : goal.returns-then-not-same_commands-clause-other
returns-then-not-same_commands-clause-other g c is = λ alike.
    c.same_commands.ensures.other c.if-not-same_commands.true alike.states.active

pub returns-then-not-same_groups-clause-other : goal.returns-then-not-same_groups-clause-other
returns-then-not-same_groups-clause-other g c is = λ alike.
    c.same_groups.ensures.other c.if-not-same_groups.true alike.caps
    (λ group below. ap (λ (s : Setup). group_at s.groups group) alike.states.setup)

pub returns-then-not-same_queues-clause-other : goal.returns-then-not-same_queues-clause-other
returns-then-not-same_queues-clause-other g c is = λ alike.
    c.same_queues.ensures.other c.if-not-same_queues.true alike.caps
    (λ queue below. queue_alike c.args.first.now.state.work c.args.second.now.state.work queue alike.states.setup
    alike.states.entries)

pub returns-clause-alike : goal.returns-clause-alike
returns-clause-alike g c h =
    let caps = c.same_caps.ensures.same c.if-not-same_caps.false in
    let setups = c.same_setups.ensures.same c.if-not-same_setups.false in
    let histories = c.same_histories.ensures.same c.if-not-same_histories.false in
    record {
      caps = caps;
      capacity = histories.0;
      count = histories.1;
      states = alike c.args.first.now.caps c.args.first.now.state c.args.second.now.state
          (shape_of c.args.first.now c.state_is_replay.ensures.past)
          (subst (λ x. HasShape x c.args.second.now.state.work) (sym caps)
          (shape_of c.args.second.now c.state_is_replay-2.ensures.past))
          (record {
            device = setups.0;
            next_name = setups.1;
            noted = setups.2;
            groups = c.same_groups.ensures.same c.if-not-same_groups.false;
            queues = c.same_queues.ensures.same c.if-not-same_queues.false;
            engines = c.same_engines.ensures.same h;
          })
          (c.same_commands.ensures.same c.if-not-same_commands.false);
    }

pub returns-clause-other : goal.returns-clause-other
returns-clause-other g c h = λ alike.
    c.same_engines.ensures.other h
    (λ engine below. engine_alike c.args.first.now.state.work c.args.second.now.state.work engine alike.states.setup
    alike.states.entries alike.states.notes)
