-- A bar that is changed, and engines one after the other.
use Rattle.std.proofs.Common.{◌≡◌, ◌<◌, ◌≤◌, ◌+◌, ◌-◌, ℕ, zero, suc, List, [], ◌∷◌, ◌++◌, length, set, get_or, refl, ap, arith}
use Rattle.std.proofs.Common.{append_assoc}
use Rattle.std.specs.List.{range_with_len}
use Rattle.dsa_draw.specs.declared.{bars.Bar.{Bar}, moment.Moment.{Moment}}
use Rattle.dsa_draw.specs.declared.range.Extent.{Extent}
use Rattle.dsa_draw.specs.Bars.{changed_at}
use Rattle.dsa_draw.specs.Engines.{engine_part_text, engine_end, engines_text, engines_end}

-- a bar that is there is changed in its place
pub changed_inside : (change : Bar → Bar) (bars : List Bar) (place : ℕ) (d : Bar) → place < length bars
    → changed_at change place bars ≡ set bars place (change (get_or bars place d))
changed_inside change [] place d inside = absurd (omega arith)
changed_inside change (bar ∷ bars) zero d inside = refl
changed_inside change (bar ∷ bars) (suc place) d inside =
    ap (λ l. bar ∷ l) (changed_inside change bars place d (omega (arith, inside)))

-- where there is none nothing changes
pub changed_past : (change : Bar → Bar) (bars : List Bar) (place : ℕ) → length bars ≤ place
    → changed_at change place bars ≡ bars
changed_past change [] place past = refl
changed_past change (bar ∷ bars) zero past = absurd (omega (arith, past))
changed_past change (bar ∷ bars) (suc place) past =
    ap (λ l. bar ∷ l) (changed_past change bars place (omega (arith, past)))

-- the first of some engines
engine_first : (engine count : ℕ) → engine < count
    → range_with_len engine (count - engine) ≡ engine ∷ range_with_len (engine + 1) (count - (engine + 1))
engine_first engine count less =
    let is : count - engine ≡ suc (count - (engine + 1)) = omega arith in
    ap (range_with_len engine) is

-- one engine more
pub engined : (engine count : ℕ) (extent : Extent) (top next : ℕ) (moments : List Moment) (bars : List Bar)
    (text longer whole_run : List ℕ) → engine < count → longer ≡ text ++ engine_part_text engine extent top moments bars
    → next ≡ engine_end engine extent top moments bars
    → text ++ engines_text extent top (range_with_len engine (count - engine)) moments bars ≡ whole_run
    → longer ++ engines_text extent next (range_with_len (engine + 1) (count - (engine + 1))) moments bars ≡ whole_run
engined engine count extent top next moments bars text longer whole_run less added is h =
    let h' : text ++ engines_text extent top (engine ∷ range_with_len (engine + 1) (count - (engine + 1))) moments bars
    ≡ whole_run = rw (engine_first engine count less) at h in
    rw (added, is, append_assoc) h'

-- and what follows it
pub engined_to : (engine count : ℕ) (extent : Extent) (top next : ℕ) (moments : List Moment) (bars : List Bar) (end : ℕ)
    → engine < count → next ≡ engine_end engine extent top moments bars
    → engines_end extent top (range_with_len engine (count - engine)) moments bars ≡ end
    → engines_end extent next (range_with_len (engine + 1) (count - (engine + 1))) moments bars ≡ end
engined_to engine count extent top next moments bars end less is h =
    let h' : engines_end extent top (engine ∷ range_with_len (engine + 1) (count - (engine + 1))) moments bars ≡ end =
    rw (engine_first engine count less) at h in
    rw is h'
