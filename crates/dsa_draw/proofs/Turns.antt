-- Lines of a band, a moment at a time.
use Rattle.std.proofs.Common.{◌≡◌, ◌<◌, ◌≤◌, ◌+◌, ℕ, List, [], ◌∷◌, ◌++◌, cond, map, length, drop, get_or, sym, ap}
use Rattle.std.proofs.Common.{◌∙◌, refl, append_assoc, append-nil}
use Rattle.std.proofs.lemmas.List.{drop_more, drop_all, length-map}
use Rattle.std.proofs.Math.ListN.{get_or-map}
use Rattle.std.specs.Prelude.{◌==◌}
use Rattle.dsa_draw.specs.declared.{bands.Band.{Band}, moment.{Level.{Level}, Moment.{Moment}}}
use Rattle.dsa_draw.specs.Bands.{level_in, raised, raised_by, next_step, turn_text, turns, reach_text}
use Rattle.dsa_draw.specs.Bands.{band_part_text, next_top, bands_text, bands_end}
use Rattle.dsa_draw.specs.Columns.{fifth_text, column_text, columns_text}

-- what is left of a list, from one of its moments on
pub left : (ms : List Moment) (i : ℕ) (m : Moment) → i < length ms → m ≡ get_or ms i m → drop i ms ≡ m ∷ drop (i + 1) ms
left ms i m inside is = drop_more ms i m inside ∙ ap (λ x. x ∷ drop (i + 1) ms) (sym is)

-- and of what these have
left_of : (V : Moment → ℕ) (ms : List Moment) (i : ℕ) (m : Moment) → i < length ms → m ≡ get_or ms i m
    → drop i (map V ms) ≡ V m ∷ drop (i + 1) (map V ms)
left_of V ms i m inside is = drop_more (map V ms) i (V m) (rw (length-map ms V) inside)
    ∙ ap (λ x. x ∷ drop (i + 1) (map V ms)) (get_or-map V ms i m ∙ ap V (sym is))

-- one moment more
pub higher : (band : Band) (ms : List Moment) (i : ℕ) (m : Moment) (most peaks : Level) → i < length ms
    → m ≡ get_or ms i m → raised_by band most (drop i ms) ≡ peaks
    → raised_by band (raised most (level_in band m)) (drop (i + 1) ms) ≡ peaks
higher band ms i m most peaks inside is h =
    let h' : raised_by band most (m ∷ drop (i + 1) ms) ≡ peaks = rw (left ms i m inside is) at h in
    h'

-- no moment more
pub highest_at_end : (band : Band) (ms : List Moment) (i : ℕ) (most peaks : Level) → length ms ≤ i
    → raised_by band most (drop i ms) ≡ peaks → most ≡ peaks
highest_at_end band ms i most peaks past h =
    let h' : raised_by band most [] ≡ peaks = rw (drop_all i ms past) at h in
    h'

-- one level more
pub turned : (V : Moment → ℕ) (ms : List Moment) (i : ℕ) (m : Moment) (bottom most step before : ℕ)
    (text longer whole_run : List ℕ) → i < length ms → m ≡ get_or ms i m
    → longer ≡ text ++ cond (V m == before) [] (turn_text bottom most step before (V m))
    → text ++ turns bottom most step before (drop i (map V ms)) ≡ whole_run
    → longer ++ turns bottom most (next_step step) (V m) (drop (i + 1) (map V ms)) ≡ whole_run
turned V ms i m bottom most step before text longer whole_run inside is added h =
    let h' : text ++ turns bottom most step before (V m ∷ drop (i + 1) (map V ms)) ≡ whole_run =
    rw (left_of V ms i m inside is) at h in
    rw (added, append_assoc) h'

-- no level more
pub turned_at_end : (V : Moment → ℕ) (ms : List Moment) (i bottom most step before : ℕ) (text longer whole_run : List ℕ)
    → length ms ≤ i → longer ≡ text ++ reach_text bottom step before
    → text ++ turns bottom most step before (drop i (map V ms)) ≡ whole_run → longer ≡ whole_run
turned_at_end V ms i bottom most step before text longer whole_run past added h =
    let h' : text ++ turns bottom most step before [] ≡ whole_run =
    rw (drop_all i (map V ms) (rw (length-map ms V) past)) at h in
    added ∙ h'

-- one band more
pub banded : (bands : List Band) (i : ℕ) (d : Band) (steps top next : ℕ) (moments : List Moment)
    (text longer whole_run : List ℕ) → i < length bands → longer
    ≡ text ++ band_part_text steps top (get_or bands i d) moments
    → next ≡ next_top top (get_or bands i d) moments → text ++ bands_text steps top (drop i bands) moments ≡ whole_run
    → longer ++ bands_text steps next (drop (i + 1) bands) moments ≡ whole_run
banded bands i d steps top next moments text longer whole_run inside added is h =
    let h' : text ++ bands_text steps top (get_or bands i d ∷ drop (i + 1) bands) moments ≡ whole_run =
    rw (drop_more bands i d inside) at h in
    rw (added, is, append_assoc) h'

-- no band more
pub banded_at_end : (bands : List Band) (i : ℕ) (steps top : ℕ) (moments : List Moment) (text whole_run : List ℕ)
    → length bands ≤ i → text ++ bands_text steps top (drop i bands) moments ≡ whole_run → text ≡ whole_run
banded_at_end bands i steps top moments text whole_run past h =
    let h' : text ++ bands_text steps top [] moments ≡ whole_run = rw (drop_all i bands past) at h in
    let h'' : text ≡ whole_run = rw (append-nil text) at h' in
    h''

-- one band more above what follows, and no band more
pub banded_to : (bands : List Band) (i : ℕ) (d : Band) (top next : ℕ) (moments : List Moment) (end : ℕ)
    → i < length bands → next ≡ next_top top (get_or bands i d) moments
    → bands_end top (drop i bands) moments ≡ end → bands_end next (drop (i + 1) bands) moments ≡ end
banded_to bands i d top next moments end inside is h =
    let h' : bands_end top (get_or bands i d ∷ drop (i + 1) bands) moments ≡ end =
    rw (drop_more bands i d inside) at h in
    rw is h'

pub banded_to_end : (bands : List Band) (i top : ℕ) (moments : List Moment) (end : ℕ) → length bands ≤ i
    → bands_end top (drop i bands) moments ≡ end → top ≡ end
banded_to_end bands i top moments end past h =
    let h' : bands_end top [] moments ≡ end = rw (drop_all i bands past) at h in
    h'

-- one column more
pub columned : (ms : List Moment) (i : ℕ) (m : Moment) (height step : ℕ) (text middle longer whole_run : List ℕ)
    → i < length ms → m ≡ get_or ms i m → middle ≡ text ++ fifth_text height step m.number
    → longer ≡ middle ++ column_text height step m → text ++ columns_text height step (drop i ms) ≡ whole_run
    → longer ++ columns_text height (next_step step) (drop (i + 1) ms) ≡ whole_run
columned ms i m height step text middle longer whole_run inside is first second h =
    let h' : text ++ columns_text height step (m ∷ drop (i + 1) ms) ≡ whole_run = rw (left ms i m inside is) at h in
    let both : longer ≡ text ++ (fifth_text height step m.number ++ column_text height step m) =
    rw (second, first, append_assoc) refl in
    rw (both, append_assoc) h'

-- no column more
pub columned_at_end : (ms : List Moment) (i height step : ℕ) (text whole_run : List ℕ) → length ms ≤ i
    → text ++ columns_text height step (drop i ms) ≡ whole_run → text ≡ whole_run
columned_at_end ms i height step text whole_run past h =
    let h' : text ++ columns_text height step [] ≡ whole_run = rw (drop_all i ms past) at h in
    let h'' : text ≡ whole_run = rw (append-nil text) at h' in
    h''
