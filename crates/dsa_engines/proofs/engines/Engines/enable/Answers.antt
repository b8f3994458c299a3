use Rattle.dsa_engines.proofs.engines.Engines.enable.Goals as goal
use Rattle.std.proofs.Common.{◌≡◌, ◌∙◌, length, ap, arith}
use Rattle.dsa_engines.{specs.Engines.{EnginesState}, proofs.Used.{buffers-at_rest}}

pub returns-clause-in_step : goal.returns-clause-in_step
returns-clause-in_step c cells content store none = record {
  queues = c.caps.ensures.whole;
  store = store;
  idle = λ off. none;
  checked = λ on. c.requires.checked;
  notes = ap (λ (x : EnginesState). length x.notes) c.self.view_is ∙ c.requires.notes;
  homes = λ on. c.homes-self-inside.ensures;
  buffers = λ on.
      let len : length c.args.queues.now.setup.groups ≡ c.args.queues.now.setup.caps.groups = omega arith in
      rw (c.new-self-inside.ensures, c.caps.ensures.value, c.groups.ensures)
      (buffers-at_rest c.args.queues.now.setup content len none);
}
