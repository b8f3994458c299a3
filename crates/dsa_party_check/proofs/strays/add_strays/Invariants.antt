use Rattle.dsa_party_check.proofs.strays.add_strays.Given as goal
use Rattle.std.proofs.Common.{◌≡◌, ◌++◌, Bor, List, ℕ, map, filter, not, String, string_bytes}
use Rattle.std.specs.declared.alloc.Global.{Global}
use Rattle.serde_json.specs.View.{view}
use Rattle.dsa_check.specs.Warnings.{is_named}
use Rattle.dsa_party_check.specs.Complaints.{complained}
use Rattle.dsa_party_check.specs.Strays.{stray_complaint, stray_complaints}

abbrev pub invariant-loop-key : goal.invariant-loop-key
invariant-loop-key l =
    let names = map (λ (name : Bor (List ℕ)). name.now) l.names in
    map complained l.complaints.items
    ++ map (stray_complaint l.inside names) (filter (λ key. not (is_named names key))
    (map (λ (key : String Global). string_bytes key) l.key-iterator))
    ≡ map complained l.initial.complaints.items ++ stray_complaints l.inside names (view l.object)
