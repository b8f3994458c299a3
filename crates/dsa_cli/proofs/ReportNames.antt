-- The names of commands that ask for a report, and words that are none.
use Rattle.std.proofs.Common.{◌≡◌, ◌<◌, ◌⊎◌, inl, inr, ℕ, List, [], Option, get_or, unwrap_or, option_map, ap, arith}
use Rattle.clap.specs.Walk.{Row, Text}
use Rattle.dsa_cli.specs.CommandLine.{IsReportName}

-- the name of a command
abbrev pub name_in : Option (Text × List Row) → Text
name_in found = unwrap_or (option_map (λ (p : Text × List Row). p.0) found) []

-- the first characters of two texts that are the same, and the second ones
pub same_first : {s t : List ℕ} → s ≡ t → get_or s 0 0 ≡ get_or t 0 0
same_first same = ap (λ (text : List ℕ). get_or text 0 0) same

pub same_second : {s t : List ℕ} → s ≡ t → get_or s 1 0 ≡ get_or t 1 0
same_second same = ap (λ (text : List ℕ). get_or text 1 0) same

-- a name begins with a letter before `h`, or with `tr`
letters : (word : List ℕ) → IsReportName word
    → (get_or word 0 0 < 104) ⊎ ((get_or word 0 0 ≡ 116) × (get_or word 1 0 ≡ 114))
letters word (inl check) = inl (omega (arith, same_first check))
letters word (inr (inl explain)) = inl (omega (arith, same_first explain))
letters word (inr (inr (inl trace))) = inr (same_first trace, same_second trace)
letters word (inr (inr (inr (inl count)))) = inl (omega (arith, same_first count))
letters word (inr (inr (inr (inr (inl draw))))) = inl (omega (arith, same_first draw))
letters word (inr (inr (inr (inr (inr (inl conform)))))) = inl (omega (arith, same_first conform))
letters word (inr (inr (inr (inr (inr (inr (inl expand))))))) = inl (omega (arith, same_first expand))
letters word (inr (inr (inr (inr (inr (inr (inr explore))))))) = inl (omega (arith, same_first explore))

-- a word that begins with a letter from `h` to `s` is none of them, and none that begins with `th`
pub no_report : (word : List ℕ) → 103 < get_or word 0 0 → get_or word 0 0 < 116 → IsReportName word → ⊥
no_report word low high named =
    elim (letters word named) [
      | inl first ↦ omega (arith, first, low)
      | inr both ↦ omega (arith, both.0, high)
    ]

pub no_threads : (word : List ℕ) → get_or word 0 0 ≡ 116 → get_or word 1 0 ≡ 104 → IsReportName word → ⊥
no_threads word one two named =
    elim (letters word named) [
      | inl first ↦ omega (arith, first, one)
      | inr both ↦ omega (arith, both.1, two)
    ]
