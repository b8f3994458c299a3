-- The nearest of some names, one after the other.
use Rattle.std.proofs.Common.{◌≡◌, ℕ, List, [], ◌∷◌, Bool, true, false, not, map, refl, sym, ap, ◌∙◌}
use Rattle.std.specs.Prelude.{Option, Some, None, if◌then◌else◌, String, string_bytes}
use Rattle.std.specs.Option.{unwrap_or}
use Rattle.std.specs.declared.alloc.Global.{Global}
use Rattle.serde_json.specs.{Data.{Data}, Find.{as_object}}
use Rattle.serde_json.specs.{View.{members_view}, declared.value.Value.{Value}}
use Rattle.dsa_check.specs.Reasons.{is_asked, is_plain, stray_distance, is_below, nearest_below}
use Rattle.dsa_check.specs.Reasons.{keys_of_members, keys_of}
use Rattle.dsa_scenario.specs.Fields.{Row}
use Rattle.dsa_check.proofs.Keys.{object_is}

module _ {X : Type 0} (far : X → Option ℕ) (bound : ℕ) (found : Option X) (x : X) (xs : List X) (target : Option X)
    (distance : Option ℕ) (is : distance ≡ far x) (so : nearest_below far bound found (x ∷ xs) ≡ target) where
  -- one that is nearer
  pub taken : is_below bound distance ≡ true
      → nearest_below far (unwrap_or distance bound) (Some x) xs ≡ target
  taken below =
      let here : is_below bound (far x) ≡ true = rw (← is) below in
      let step : nearest_below far bound found (x ∷ xs) ≡ nearest_below far (unwrap_or (far x) bound) (Some x) xs =
      rw here refl in
      rw is (sym step ∙ so)

  -- one that is not
  pub passed : is_below bound distance ≡ false → nearest_below far bound found xs ≡ target
  passed past =
      let here : is_below bound (far x) ≡ false = rw (← is) past in
      let step : nearest_below far bound found (x ∷ xs) ≡ nearest_below far bound found xs = rw here refl in
      sym step ∙ so

-- what is near is asked for by nobody, and can be told as it stands
pub stray_of : (rows : List Row) (name key : List ℕ) (bound : ℕ) (distance : Option ℕ)
    → distance ≡ stray_distance rows name key → is_below bound distance ≡ true
    → (is_asked rows key ≡ false) × (is_plain key ≡ true)
stray_of rows name key bound distance is below = go (is_asked rows key) (is_plain key) _ (rw is at below)
  where
    go : (asked plain : Bool) (rest : Option ℕ)
        → is_below bound (if asked then None else (if not plain then None else rest)) ≡ true
        → (asked ≡ false) × (plain ≡ true)
    go true plain rest h = absurd cc
    go false false rest h = absurd cc
    go false true rest h = (refl, refl)

-- ---- the keys of an object

keys_each : (entries : List (String Global × Value))
    → map (λ (key : String Global). string_bytes key) (map (λ e. e.0) entries) ≡ keys_of_members (members_view entries)
keys_each [] = refl
keys_each (e ∷ es) = ap (λ keys. string_bytes e.0 ∷ keys) (keys_each es)

pub keys_in : (d : Data) (entries : List (String Global × Value)) (keys : List (String Global))
    → Some (members_view entries) ≡ as_object d → keys ≡ map (λ e. e.0) entries
    → map (λ (key : String Global). string_bytes key) keys ≡ keys_of d
keys_in d entries keys is all = rw (object_is d (members_view entries) is, all) (keys_each entries)
