-- One number more of a set.
use Rattle.std.proofs.Common.{◌≡◌, ◌<◌, ◌+◌, ◌*◌, ◌^◌, ◌%◌, ℕ, List, Option, Some, map, drop, get_or, length, arith}
use Rattle.std.proofs.lemmas.Nat.{one_shl, or_lt}
use Rattle.std.proofs.Math.Pow.{pow-lt}
use Rattle.std.specs.Int.Bits.{bit_or}
use Rattle.serde_json.specs.{View.{view}, declared.value.Value.{Value}}
use Rattle.dsa_expand.specs.Values.{place_in_set, set_onto}
use Rattle.dsa_expand.proofs.Lists.{next_of}

pub set_more : (first size set place : ℕ) (vs : List Value) (i : ℕ) (v : Value) (target : Option ℕ) → i < length vs
    → v ≡ get_or vs i v → Some place ≡ place_in_set first size (view v) → place < 64
    → set_onto first size set (map view (drop i vs)) ≡ target
    → set_onto first size (bit_or set (1 * 2 ^ place % 2 ^ 64)) (map view (drop (i + 1) vs)) ≡ target
set_more first size set place vs i v target inside is found low h =
    let now = rw (next_of vs i v inside is, ← found) at h in
    rw (one_shl place 64 low) now

pub set_small : (size set place : ℕ) → place < size → size < 65 → set < 2 ^ size
    → bit_or set (1 * 2 ^ place % 2 ^ 64) < 2 ^ size
set_small size set place low most h =
    rw (one_shl place 64 (omega arith)) (or_lt size set (2 ^ place) h (pow-lt low))
