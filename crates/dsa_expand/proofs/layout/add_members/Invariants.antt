use Rattle.std.proofs.Common.{◌≡◌, ◌++◌, ℕ, List, drop, map, string_bytes}
use denote.Text.{Utf8}
use denote.Shadow.{shadow}
use Rattle.dsa_expand.specs.{Layout.{AreMembersTexts}, Members.{pair_of}}
use Rattle.dsa_expand.proofs.layout.add_members.Given as goal

abbrev pub invariant-loop-member : goal.invariant-loop-member
invariant-loop-member l = shadow (Utf8 l.before)
    × ((rest : List ℕ) → AreMembersTexts l.before l.next (map pair_of (drop l.member-index l.members)) rest
    → (added : List ℕ) × AreMembersTexts l.first l.next (map pair_of l.members) added
    × (string_bytes l.text ++ rest ≡ string_bytes l.initial.text ++ added))
