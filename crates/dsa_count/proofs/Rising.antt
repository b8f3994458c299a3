-- Peaks after one step more, and their lines.
use Rattle.std.proofs.Common.{◌≡◌, ◌<◌, ℕ, List, [], ◌∷◌, ◌++◌, arith, max, get_or, refl}
use Rattle.dsa_scenario.specs.Steps.{Visit}
use Rattle.dsa_count.specs.declared.peaks.{Gauge.{Gauge}, Holder.{Holder}}
use Rattle.dsa_count.specs.Peaks.{gauged, gauges_of, peak_line, peak_lines, peak_of, peaks_of_holder}
use Rattle.dsa_count.specs.Totals.{ArePeaks}
use Rattle.dsa_count.proofs.Texts.{told-same}

no-more : (a : ℕ) → max a 0 ≡ max 0 a
no-more a = omega arith

in-turn : (a b c d : ℕ) → b ≡ max c d → max a b ≡ max (max a c) d
in-turn a b c d e = omega arith

peak-push : (gauge : Gauge) (steps : List Visit) (step : Visit) (n : ℕ)
    → peak_of gauge (steps ++ step ∷ []) n ≡ max (peak_of gauge steps n) (gauged step.after gauge n)
peak-push gauge [] step n = no-more (gauged step.after gauge n)
peak-push gauge (s ∷ ss) step n =
    in-turn (gauged s.after gauge n) (peak_of gauge (ss ++ step ∷ []) n) (peak_of gauge ss n)
    (gauged step.after gauge n) (peak-push gauge ss step n)

-- what has the peaks of some steps, and then those of one more
pub peaks-push : (gauge : Gauge) (steps : List Visit) (step : Visit) (old slice new : List ℕ) → slice ≡ old
    → ArePeaks gauge steps old
    → ((n : ℕ) → n < 64 → get_or new n 0 ≡ max (get_or slice n 0) (gauged step.after gauge n))
    → ArePeaks gauge (steps ++ step ∷ []) new
peaks-push gauge steps step old slice new same h e n small =
    rw (peak-push gauge steps step n, e n small, same, h n small) refl

lines-same : (holder : Holder) (f g f' g' : ℕ → ℕ) (n : ℕ) → ((k : ℕ) → k < n → f k ≡ f' k)
    → ((k : ℕ) → k < n → g k ≡ g' k) → peak_lines holder f g n ≡ peak_lines holder f' g' n
unfolding peak_lines
lines-same holder f g f' g' n e h =
    told-same (λ k. peak_line holder k (f k) (g k)) (λ k. peak_line holder k (f' k) (g' k)) n
    (λ k small. rw (e k small, h k small) refl)

-- the lines of peaks
pub peaks-told : (holder : Holder) (steps : List Visit) (filled bounds slice other : List ℕ) → slice ≡ filled
    → other ≡ bounds → ArePeaks (gauges_of holder).0 steps filled → ArePeaks (gauges_of holder).1 steps bounds
    → peak_lines holder (λ n. get_or slice n 0) (λ n. get_or other n 0) 64 ≡ peaks_of_holder holder steps
unfolding peaks_of_holder
peaks-told holder steps filled bounds slice other same alike f b =
    rw (same, alike)
    (lines-same holder (λ n. get_or filled n 0) (λ n. get_or bounds n 0) (peak_of (gauges_of holder).0 steps)
    (peak_of (gauges_of holder).1 steps) 64 f b)
