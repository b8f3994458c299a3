use Rattle.dsa_device.proofs.device.Device.run.Given as goal
use Rattle.std.{proofs.Common.{◌≡◌, ◌+◌, ◌-◌, ◌≤◌, false, length, take, vec_len}, specs.Prelude.{vec_capacity}}
use Rattle.dsa_device.specs.{Running.{IsReplay}, Runs.{IsAnswered, IsRunOf}}

abbrev pub invariant-loop-event : goal.invariant-loop-event
invariant-loop-event g l = record {
  answered : IsAnswered l.fn.self (take l.event-index l.events) l.fn.steps.items l.steps.items l.self;
  ran : l.fn.self.anew ≡ false → IsRunOf l.fn.self (take l.event-index l.events) l.fn.steps.items l.steps.items l.self;
  replay : l.fn.self.anew ≡ false → IsReplay l.self;
  room : vec_len l.steps + (length l.events - l.event-index) ≤ vec_capacity l.steps;
}
