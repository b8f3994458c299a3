use Rattle.dsa_draw.proofs.page.add_again.Given as goal
use Rattle.std.proofs.Common.{◌≡◌, ◌++◌, string_bytes}
use Rattle.std.specs.List.{flat_map}
use Rattle.dsa_base.specs.Numbers.{numbers_below}
use Rattle.dsa_draw.specs.Bands.{again_at_text}

abbrev pub invariant-loop-place : goal.invariant-loop-place
invariant-loop-place l =
    string_bytes l.text
    ≡ string_bytes l.initial.text ++ flat_map (again_at_text l.name l.number l.top) (numbers_below l.place)
