use Rattle.std.proofs.Common.{◌≡◌, map, String, string_bytes}
use Rattle.std.specs.List.{list_all}
use Rattle.std.specs.declared.alloc.Global.{Global}
use Rattle.serde_json.specs.View.{view}
use Rattle.dsa_expand.specs.Descriptors.{has_only_fields, is_field}
use Rattle.dsa_expand.proofs.descriptors.has_only_fields.Given as goal

abbrev pub invariant-loop-key : goal.invariant-loop-key
invariant-loop-key l =
    list_all is_field (map (λ (key : String Global). string_bytes key) l.key-iterator) ≡ has_only_fields (view l.object)
