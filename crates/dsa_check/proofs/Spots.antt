-- Lines and columns, one byte more.
use Rattle.std.proofs.Common.{◌≡◌, ◌<◌, ◌≤◌, ◌+◌, ◌-◌, ◌≢◌, ℕ, suc, true, false, List, length, take, refl, ap, arith}
use Rattle.std.specs.Prelude.{slice_index}
use Rattle.std.specs.List.{suffix_len}
use Rattle.std.proofs.lemmas.Bool.{Decides.{nat_tests}}
use Rattle.std.proofs.lemmas.List.{length-take-le}
use Rattle.std.proofs.lemmas.List.Sums.{count_by-le-length, count_by_more_yes, count_by_more_no}
use Rattle.std.proofs.lemmas.List.Sums.{suffix_len-le-length, suffix_len-take_yes, suffix_len-take_no}
use Rattle.dsa_check.specs.Places.{is_line_feed, is_of_line, line_after, column_after}

-- neither is past the bytes
pub line_below : (bytes : List ℕ) (i : ℕ) → i ≤ length bytes → line_after (take i bytes) ≤ i + 1
line_below bytes i inside =
    omega (arith, count_by-le-length is_line_feed (take i bytes), length-take-le i bytes inside)

pub column_below : (bytes : List ℕ) (i : ℕ) → i ≤ length bytes → column_after (take i bytes) ≤ i + 1
column_below bytes i inside =
    omega (arith, suffix_len-le-length is_of_line (take i bytes), length-take-le i bytes inside)

-- a byte that is no line feed
other_byte : (x : ℕ) → x ≢ 10 → is_line_feed x ≡ false
other_byte x h = grind (arith, nat_tests)

module _ (bytes : List ℕ) (i : ℕ) (inside : i < length bytes) where
  back : i + 1 - 1 ≡ i
  back = omega arith

  -- after a line feed
  pub line_more : slice_index bytes i ≡ 10 → line_after (take (i + 1) bytes) ≡ line_after (take i bytes) + 1
  line_more e = omega (arith, count_by_more_yes is_line_feed bytes i 0 inside (rw e refl))

  pub column_again : slice_index bytes i ≡ 10 → column_after (take (i + 1) bytes) ≡ 1
  column_again e =
      ap suc (suffix_len-take_no is_of_line bytes (i + 1) 0 (omega arith) (omega arith) (rw (back, e) refl))

  -- after another byte
  pub line_same : slice_index bytes i ≢ 10 → line_after (take (i + 1) bytes) ≡ line_after (take i bytes)
  line_same h = ap suc (count_by_more_no is_line_feed bytes i 0 inside (other_byte _ h))

  pub column_more : slice_index bytes i ≢ 10 → column_after (take (i + 1) bytes) ≡ column_after (take i bytes) + 1
  column_more h =
      let other : is_of_line (slice_index bytes (i + 1 - 1)) ≡ true = rw (back, other_byte _ h) refl in
      let more = suffix_len-take_yes is_of_line bytes (i + 1) 0 (omega arith) (omega arith) other in
      let same = ap (λ n. suffix_len is_of_line (take n bytes)) back in
      omega (arith, more, same)
