-- Equal bytes are those of worlds with equal keys.
use Rattle.std.proofs.Common.{◌≡◌, ℕ, Bool, true, false, List, [], ◌∷◌, ◌++◌, length, refl, sym, ◌∙◌, arith}
use Rattle.std.specs.List.{flat_map}
use Rattle.std.proofs.lemmas.List.{append_assoc}
use Rattle.dsa_keys.specs.{Short.{short_key, Descriptions, IsDescribed}, Parties.{World, HaveEqualKeys}}
use Rattle.dsa_keys.proofs.Short.{key-of-short}
use Rattle.dsa_key_bytes.specs.{Numbers.{number_bytes}, KeyBytes.{number_of_flag, key_bytes}}
use Rattle.dsa_key_bytes.proofs.{Numbers.{number-apart}, SelfEnding.{IsSelfEnding}, Apart.{keys-apart}}
use Rattle.dsa_parties.specs.{Standing.{Standing}}
use Rattle.dsa_explore.specs.Keys.{counted_bytes, client_bytes, mark_bytes, place_bytes, world_bytes}

module _ {A : Type 0} (bytes : A → List ℕ) (self : IsSelfEnding bytes) where
  as-many : (xs ys : List A) (r s : List ℕ) → length xs ≡ length ys
      → flat_map bytes xs ++ r ≡ flat_map bytes ys ++ s → (xs ≡ ys) × (r ≡ s)
  as-many [] [] r s many e = (refl, e)
  as-many [] (y ∷ ys) r s many e = absurd (omega (arith, many))
  as-many (x ∷ xs) [] r s many e = absurd (omega (arith, many))
  as-many (x ∷ xs) (y ∷ ys) r s many e =
      let first = self x y (flat_map bytes xs ++ r) (flat_map bytes ys ++ s)
      (sym (append_assoc (bytes x) (flat_map bytes xs) r) ∙ e ∙ append_assoc (bytes y) (flat_map bytes ys) s) in
      let rest = as-many xs ys r s (omega (arith, many)) first.1 in
      ((λ j. first.0 j ∷ rest.0 j), rest.1)

  counted-ends : IsSelfEnding (counted_bytes bytes)
  counted-ends xs ys r s e =
      let count = number-apart (length xs) (length ys) (flat_map bytes xs ++ r) (flat_map bytes ys ++ s)
      (sym (append_assoc (number_bytes (length xs)) (flat_map bytes xs) r) ∙ e
      ∙ append_assoc (number_bytes (length ys)) (flat_map bytes ys) s) in
      as-many xs ys r s count.0 count.1

client-ends : IsSelfEnding client_bytes
client-ends x y r s e =
    let first = number-apart x.next y.next (number_bytes x.refusals ++ r) (number_bytes y.refusals ++ s)
    (sym (append_assoc (number_bytes x.next) (number_bytes x.refusals) r) ∙ e
    ∙ append_assoc (number_bytes y.next) (number_bytes y.refusals) s) in
    let rest = number-apart x.refusals y.refusals r s first.1 in
    ((λ i. record { next = first.0 i; refusals = rest.0 i }), rest.1)

flags-apart : (a b : Bool) → number_of_flag a ≡ number_of_flag b → a ≡ b
flags-apart true true e = refl
flags-apart false false e = refl
flags-apart true false e = absurd (omega (arith, e))
flags-apart false true e = absurd (omega (arith, e))

mark-ends : IsSelfEnding mark_bytes
mark-ends a b r s e =
    let is = number-apart (number_of_flag a) (number_of_flag b) r s e in
    (flags-apart a b is.0, is.1)

place-ends : IsSelfEnding place_bytes
place-ends x y r s e =
    let acts : Standing → List ℕ = λ (stand : Standing). counted_bytes number_bytes stand.administrators in
    let marks : Standing → List ℕ = λ (stand : Standing). counted_bytes mark_bytes stand.came in
    let first = counted-ends client_bytes client-ends x.clients y.clients ((acts x ++ marks x) ++ r)
    ((acts y ++ marks y) ++ s)
    (sym (append_assoc (counted_bytes client_bytes x.clients) (acts x ++ marks x) r) ∙ e
    ∙ append_assoc (counted_bytes client_bytes y.clients) (acts y ++ marks y) s) in
    let second = counted-ends number_bytes number-apart x.administrators y.administrators (marks x ++ r) (marks y ++ s)
    (sym (append_assoc (acts x) (marks x) r) ∙ first.1 ∙ append_assoc (acts y) (marks y) s) in
    let third = counted-ends mark_bytes mark-ends x.came y.came r s second.1 in
    ((λ i. record { clients = first.0 i; administrators = second.0 i; came = third.0 i }), third.1)

pub worlds-apart : (described : Descriptions) (w v : World Standing) → IsDescribed described w.labels w.state
    → IsDescribed described v.labels v.state → world_bytes w ≡ world_bytes v → HaveEqualKeys w v
worlds-apart described w v dw dv e =
    let parts = place-ends w.places v.places (key_bytes (short_key w.labels w.state))
    (key_bytes (short_key v.labels v.state)) e in
    let short = keys-apart (short_key w.labels w.state) (short_key v.labels v.state) refl parts.1 in
    record {
      places = parts.0;
      keys = key-of-short described w.labels v.labels w.state v.state dw dv short;
    }
