use Rattle.dsa_check.proofs.warnings.add_twice.Given as goal
use Rattle.std.proofs.Common.{◌≡◌, ◌++◌, ℕ, List, Bor, map, take, drop, nat_lt}
use Rattle.std.specs.declared.alloc.Global.{Global}
use Rattle.json.specs.declared.value.Value.{Value}
use Rattle.dsa_check.specs.{Lines.{reason_text}, Repeats.{how_often, again_after, has_text}}
use Rattle.dsa_check.specs.Warnings.{twice_key_text, twice_texts}

abbrev pub invariant-loop-member : goal.invariant-loop-member
invariant-loop-member l =
    let key = λ (m : Bor (List ℕ) × Value Global). m.0.now in
    let before = map key (take l.member-index l.member-items) in
    record {
      seen : (text : List ℕ) → has_text l.seen text ≡ nat_lt 0 (how_often before text);
      again : (text : List ℕ) → has_text l.again text ≡ nat_lt 1 (how_often before text);
      told : map reason_text l.reasons.items
          ++ map twice_key_text (again_after before (map key (drop l.member-index l.member-items)))
          ≡ map reason_text l.initial.reasons.items ++ twice_texts (map key l.member-items);
    }
