-- How many worlds there are.
use Rattle.std.proofs.Common.{◌≡◌, ◌<◌, ◌≤◌, ◌*◌, ℕ, zero, suc, Bool, true, false, List, [], ◌∷◌, ◌++◌, length, refl, sym, ap, ◌∙◌, arith}
use Rattle.std.proofs.Common.{Option, Some, None, append_assoc}
use Rattle.std.specs.Prelude.{◌&&◌, is_some, nat_le, option_map, option_and_then, unwrap_or}
use Rattle.std.proofs.Common.{cond, true≢false}
use Rattle.std.proofs.lemmas.Bool.{le-leb, leb-false, lt-leb}
use Rattle.std.proofs.Math.Nat.{mul-le-mul_left}
use Rattle.serde_json.specs.Data.{Data}
use Rattle.std.proofs.Common.{map}
use Rattle.std.proofs.Common.{◌+◌, drop, get_or, subst}
use Rattle.std.specs.List.{IsFirstAndRest, list_all}
use Rattle.serde_json.specs.Find.{as_array, as_str, get}
use Rattle.serde_json.specs.View.{items_of, items_view, view}
use Rattle.serde_json.specs.declared.value.Value.{Value}
use Rattle.std.specs.Prelude.{codes}
use Rattle.dsa_scenario.specs.Document.{list_of_items}
use Rattle.dsa_family.specs.declared.axes.Axis.{Axis}
use Rattle.dsa_family.specs.Told.{varied_as}
use Rattle.dsa_family.specs.Axes.{AreFewWorlds, HaveValues, Varied, all_said, axes_said, has_place, if_fit, varied_said}
use Rattle.dsa_family.specs.Axes.{with_values, worlds_of}
use Rattle.dsa_family.proofs.{Sets.{mapped-push}, Texts.{next_item}}

-- with values at each place there is a world
pub some_world : (axes : List Varied) → HaveValues axes → 0 < worlds_of axes
some_world [] h = omega arith
some_world ((at, d ∷ ds) ∷ axes) h =
    let more = some_world axes h.1 in
    let all = mul-le-mul_left (length (d ∷ ds)) more in
    omega (arith, all, h.0)
some_world ((at, []) ∷ axes) h = absurd (omega (arith, h.0))

-- the later places alone have no more worlds
pub fewer_worlds : (axis : Varied) (axes : List Varied) → HaveValues (axis ∷ axes) → worlds_of axes ≤ worlds_of (axis ∷ axes)
fewer_worlds axis axes h = times (length axis.1) (worlds_of axes) h.0
  where
    times : (n m : ℕ) → 0 < n → m ≤ n * m
    times zero m some = absurd (omega arith)
    times (suc n) m some = omega arith

-- one place more that is said
pub said_more : (done : List Varied) (first : Varied) (d : Data) (ds : List Data) → varied_said d ≡ Some first
    → option_map (λ more. done ++ more) (all_said (d ∷ ds))
    ≡ option_map (λ more. (done ++ first ∷ []) ++ more) (all_said ds)
said_more done first d ds is = rw is (on (all_said ds))
  where
    on : (others : Option (List Varied))
        → option_map (λ more. done ++ more) (option_and_then (λ (rest : List Varied). Some (first ∷ rest)) others)
        ≡ option_map (λ more. (done ++ first ∷ []) ++ more) others
    on None = refl
    on (Some rest) = ap Some (sym (append_assoc done (first ∷ []) rest))

-- one that is not
pub not_said : (done : List Varied) (d : Data) (ds : List Data) → varied_said d ≡ None
    → option_map (λ more. done ++ more) (all_said (d ∷ ds)) ≡ None
not_said done d ds is = rw is refl

-- ---- not too many

-- the number of worlds, if it is not too large
abbrev pub if_few : ℕ → Option ℕ
if_few n = cond (nat_le n 65536) (Some n) None

pub few-is : (n : ℕ) → n ≤ 65536 → if_few n ≡ Some n
few-is n h = rw (le-leb n 65536 h) refl

pub few-not : (n : ℕ) → 65536 < n → if_few n ≡ None
few-not n h = rw (lt-leb n 65536 h) refl

-- the worlds of all places, if those of the later ones are these
pub few-more : (axis : Varied) (axes : List Varied) (m : ℕ) → Some m ≡ if_few (worlds_of axes)
    → (worlds_of (axis ∷ axes) ≡ length axis.1 * m) × (m ≡ worlds_of axes)
few-more axis axes m is = at (nat_le (worlds_of axes) 65536) is
  where
    at : (b : Bool) → Some m ≡ cond b (Some (worlds_of axes)) None
        → (worlds_of (axis ∷ axes) ≡ length axis.1 * m) × (m ≡ worlds_of axes)
    at false e = absurd (true≢false (ap is_some e))
    at true e =
        let same : m ≡ worlds_of axes = ap (λ (o : Option ℕ). unwrap_or o 0) e in
        (ap (λ n. length axis.1 * n) (sym same), same)

pub few-none : (n : ℕ) → None ≡ if_few n → 65536 < n
few-none n is = at (nat_le n 65536) refl is
  where
    at : (b : Bool) → nat_le n 65536 ≡ b → None ≡ cond b (Some n) None → 65536 < n
    at true small e = absurd (true≢false (sym (ap is_some e)))
    at false large e = leb-false n 65536 large

-- ---- the later places

pub values_later : (axes : List Axis) (axis : Axis) (rest : List Axis) → IsFirstAndRest axes axis rest
    → HaveValues (map varied_as axes) → HaveValues (map varied_as rest)
values_later axes axis rest (is, more) h = (rw is at h).1

pub few_later : (axes : List Axis) (axis : Axis) (rest : List Axis) → IsFirstAndRest axes axis rest
    → AreFewWorlds (map varied_as axes) → AreFewWorlds (map varied_as rest)
few_later axes axis rest (is, more) h =
    let all : AreFewWorlds (map varied_as (axis ∷ rest)) = rw is at h in
    (all.0.1, omega (arith, fewer_worlds (varied_as axis) (map varied_as rest) all.0, all.1))

pub some_weight : (axes : List Varied) (m : ℕ) → HaveValues axes → Some m ≡ if_few (worlds_of axes) → 0 < m
some_weight axes m h is =
    let same = few-more ([], []) axes m is in
    omega (arith, same.1, some_world axes h)

-- ---- what is said

-- the items of a JSON array
pub listed_items : (ds : List Data) → list_of_items (items_of ds) ≡ ds
listed_items [] = refl
listed_items (d ∷ ds) = ap (λ es. d ∷ es) (listed_items ds)

pub values_more : (axes : List Varied) (axis : Varied) → HaveValues axes → 0 < length axis.1 → HaveValues (axes ++ axis ∷ [])
values_more [] axis h some = (some, tt)
values_more (first ∷ axes) axis h some = (h.0, values_more axes axis h.1 some)

with_some : (path : List ℕ) (ds : List Data) → 0 < length ds → Some (path, ds) ≡ with_values path ds
with_some path [] some = absurd (omega arith)
with_some path (d ∷ ds) some = refl

length_view : (vs : List Value) → length (map view vs) ≡ length vs
length_view [] = refl
length_view (v ∷ vs) = ap suc (length_view vs)

pub axis_is : (d v w : Data) (path : List ℕ) (vs : List Value) → get (codes "at") d ≡ Some v → as_str v ≡ Some path
    → get (codes "values") d ≡ Some w → as_array w ≡ Some (items_view vs) → 0 < length vs
    → Some (path, map view vs) ≡ varied_said d
axis_is d v w path vs at text values list some =
    rw (at, text, values, list, listed_items (map view vs))
    (with_some path (map view vs) (omega (arith, length_view vs, some)))

pub none_said : (vary base : Data) (vs : List Value) → as_array vary ≡ Some (items_view vs)
    → all_said (map view vs) ≡ None → None ≡ axes_said vary base
none_said vary base vs list none = rw (list, listed_items (map view vs), none) refl

pub some_said : (vary base : Data) (vs : List Value) (axes : List Varied) → as_array vary ≡ Some (items_view vs)
    → all_said (map view vs) ≡ Some axes → if_fit base axes ≡ axes_said vary base
some_said vary base vs axes list said = rw (list, listed_items (map view vs), said) refl

pub said_next : (items : List Value) (i : ℕ) (item : Value) (axes new : List Axis) (axis : Axis) → i < length items
    → item ≡ get_or items i item → Some (varied_as axis) ≡ varied_said (view item) → new ≡ axes ++ axis ∷ []
    → 0 < length axis.values.now
    → (all_said (map view items)
    ≡ option_map (λ more. map varied_as axes ++ more) (all_said (map view (drop i items))))
    × HaveValues (map varied_as axes)
    → (all_said (map view items)
    ≡ option_map (λ more. map varied_as new ++ more) (all_said (map view (drop (i + 1) items))))
    × HaveValues (map varied_as new)
said_next items i item axes new axis inside is said made some h =
    let pushed : map varied_as new ≡ map varied_as axes ++ varied_as axis ∷ []
    = ap (map varied_as) made ∙ mapped-push varied_as axes axis in (
      h.0
          ∙ ap (λ (xs : List Value). option_map (λ more. map varied_as axes ++ more) (all_said (map view xs)))
          (next_item items i item inside is)
          ∙ said_more (map varied_as axes) (varied_as axis) (view item) (map view (drop (i + 1) items)) (sym said)
          ∙ ap (λ (ys : List Varied). option_map (λ more. ys ++ more) (all_said (map view (drop (i + 1) items))))
          (sym pushed),
      subst HaveValues (sym pushed)
          (values_more (map varied_as axes) (varied_as axis) h.1 (omega (arith, length_view axis.values.now, some))),
    )

-- ---- what fits

pub fits : (base : Data) (axes : List Varied) → list_all (has_place base) axes ≡ true
    → nat_le (worlds_of axes) 65536 ≡ true → Some axes ≡ if_fit base axes
fits base axes places few = rw (places, few) refl

pub lacks_place : (base : Data) (axes : List Varied) → list_all (has_place base) axes ≡ false → None ≡ if_fit base axes
lacks_place base axes is = rw is refl

pub too_many : (base : Data) (axes : List Varied) → nat_le (worlds_of axes) 65536 ≡ false → None ≡ if_fit base axes
too_many base axes is = rw is (at (list_all (has_place base) axes))
  where
    at : (b : Bool) → None ≡ cond (b && false) (Some axes) None
    at true = refl
    at false = refl

pub few-by : (n : ℕ) (o : Option ℕ) (b : Bool) → o ≡ if_few n → is_some o ≡ b → nat_le n 65536 ≡ b
few-by n o b is some = sym (at (nat_le n 65536)) ∙ ap is_some (sym is) ∙ some
  where
    at : (c : Bool) → is_some (cond c (Some n) None) ≡ c
    at true = refl
    at false = refl
