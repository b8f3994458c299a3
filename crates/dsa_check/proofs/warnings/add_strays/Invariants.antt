use Rattle.dsa_check.proofs.warnings.add_strays.Given as goal
use Rattle.std.proofs.Common.{◌≡◌, ◌++◌, Bor, List, ℕ, map, filter, String, string_bytes}
use Rattle.std.specs.declared.alloc.Global.{Global}
use Rattle.serde_json.specs.View.{view}
use Rattle.dsa_scenario.specs.Fields.{row_of_field}
use Rattle.dsa_check.specs.Lines.{reason_text}
use Rattle.dsa_check.specs.Warnings.{names_of, is_stray, stray_key_text, stray_texts}

abbrev pub invariant-loop-key : goal.invariant-loop-key
invariant-loop-key l =
    let names = names_of (map row_of_field l.fields) ++ map (λ (name : Bor (List ℕ)). name.now) l.more in
    map reason_text l.reasons.items
    ++ map (stray_key_text names) (filter (is_stray names (map (λ (key : String Global). string_bytes key) l.told.items))
    (map (λ (key : String Global). string_bytes key) l.key-iterator))
    ≡ map reason_text l.initial.reasons.items
    ++ stray_texts (view l.object) (map row_of_field l.fields) (map (λ (name : Bor (List ℕ)). name.now) l.more)
