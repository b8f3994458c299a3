use Rattle.std.proofs.Common.{◌≡◌, ◌<◌, ◌^◌, drop, map}
use Rattle.serde_json.specs.View.{view}
use Rattle.dsa_expand.specs.Values.{set_of, set_onto}
use Rattle.dsa_expand.proofs.values.set_of.Given as goal

abbrev pub invariant-loop-number : goal.invariant-loop-number
invariant-loop-number l = record {
  set : set_onto l.first l.size l.set (map view (drop l.number-index l.numbers))
      ≡ set_of l.first l.size (map view l.numbers);
  small : l.set < 2 ^ l.size;
}
