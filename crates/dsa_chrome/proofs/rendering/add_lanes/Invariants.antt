use Rattle.dsa_chrome.proofs.rendering.add_lanes.Given as goal
use Rattle.std.proofs.Common.{◌≡◌, ◌+◌, ◌++◌, drop, string_bytes}
use Rattle.dsa_chrome.specs.Traces.{lanes_text}

abbrev pub invariant-loop-place : goal.invariant-loop-place
invariant-loop-place l =
    string_bytes l.text ++ lanes_text (l.place + 1) (drop l.place l.lanes)
    ≡ string_bytes l.initial.text ++ lanes_text 1 l.lanes
