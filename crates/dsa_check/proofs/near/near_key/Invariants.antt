use Rattle.std.proofs.Common.{◌≡◌, true, map, option_map, is_some, IfSome, String, string_bytes}
use Rattle.std.specs.declared.alloc.Global.{Global}
use Rattle.std.specs.List.{AllByRecursion}
use Rattle.serde_json.specs.{View.{view}, Find.{get}}
use Rattle.dsa_scenario.specs.Fields.{row_of_field}
use Rattle.dsa_check.specs.Reasons.{IsStrayKey, nearest_below, stray_distance, near_key}
use Rattle.dsa_check.proofs.near.near_key.Given as goal

abbrev pub invariant-loop-other : goal.invariant-loop-other
invariant-loop-other l = record {
  inside : AllByRecursion (λ key. is_some (get (string_bytes key) (view l.object)) ≡ true) l.other-iterator;
  stray : IfSome l.nearest (λ key. IsStrayKey (view l.object) (map row_of_field l.fields) key.now);
  nearest : nearest_below (stray_distance (map row_of_field l.fields) l.name) l.least
      (option_map (λ key. key.now) l.nearest)
      (map (λ (key : String Global). string_bytes key) l.other-iterator)
      ≡ near_key (view l.object) (map row_of_field l.fields) l.name;
}
