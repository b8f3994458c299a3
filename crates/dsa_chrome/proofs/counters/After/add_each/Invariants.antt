use Rattle.dsa_chrome.proofs.counters.After.add_each.Given as goal
use Rattle.std.proofs.Common.{◌≡◌, ◌++◌, flat_map, string_bytes}
use Rattle.dsa_base.specs.Numbers.{numbers_below}
use Rattle.dsa_chrome.specs.Counters.{counter_part}

abbrev pub invariant-loop-index : goal.invariant-loop-index
invariant-loop-index g l = string_bytes l.text
    ≡ string_bytes l.initial.text
    ++ flat_map (counter_part l.self.device.now l.gauge l.self.number) (numbers_below l.index)
