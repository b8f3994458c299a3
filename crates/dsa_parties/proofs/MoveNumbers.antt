-- The moves of a script by their numbers.
use Rattle.std.proofs.Common.{◌≡◌, ℕ, zero, suc, ◌+◌, ◌<◌, ◌≤◌, List, [], ◌∷◌, ◌++◌, length, map, Some, None}
use Rattle.std.proofs.Common.{refl, sym, ap, ◌∙◌, ⊎_elim, arith, slice_get, get_or, option_map}
use Rattle.std.proofs.lemmas.{Bool.{cases_lt}, List.{length-map}, Option.{slice_get-map, slice_get-get_or, slice_get_past}}
use Rattle.dsa_base.specs.Numbers.{numbers_below}
use Rattle.dsa_base.proofs.NumberLists.{length-numbers, length-each}
use Rattle.dsa_parties.specs.declared.places.Move.{Move}
use Rattle.dsa_parties.specs.declared.places.Move.TheVariants.{Client, Administrator, Dispatch, Fetch, Start}
use Rattle.dsa_parties.specs.declared.script.Script.{Script}
use Rattle.dsa_parties.specs.Offers.{moves_of, engine_moves_of}

get-left : {X : Type 0} (xs ys : List X) (k : ℕ) → k < length xs → slice_get (xs ++ ys) k ≡ slice_get xs k
get-left [] ys k l = absurd (omega (arith, l))
get-left (x ∷ xs) ys zero l = refl
get-left (x ∷ xs) ys (suc k) l = get-left xs ys k (omega (arith, l))

get-right : {X : Type 0} (xs ys : List X) (k : ℕ) → slice_get (xs ++ ys) (length xs + k) ≡ slice_get ys k
get-right [] ys k = ap (slice_get ys) (omega arith)
get-right (x ∷ xs) ys k =
    let e : length (x ∷ xs) + k ≡ suc (length xs + k) = omega arith in
    ap (slice_get (x ∷ xs ++ ys)) e ∙ get-right xs ys k

get-number : (n k : ℕ) → k < n → slice_get (numbers_below n) k ≡ Some k
get-number zero k l = absurd (omega (arith, l))
get-number (suc n) k l = ⊎_elim
    (λ below. get-left (numbers_below n) (n ∷ []) k (omega (arith, below, length-numbers n)) ∙ get-number n k below)
    (λ above.
    let e : k ≡ length (numbers_below n) + 0 = omega (arith, above, l, length-numbers n) in
    let q : n ≡ k = omega (arith, above, l) in
    ap (slice_get (numbers_below n ++ n ∷ [])) e ∙ get-right (numbers_below n) (n ∷ []) 0 ∙ ap (λ z. Some z) q)
    (cases_lt k n)

get-each : {X : Type 0} (f : ℕ → X) (n k : ℕ) → k < n → slice_get (map f (numbers_below n)) k ≡ Some (f k)
get-each f n k l = slice_get-map f (numbers_below n) k ∙ ap (option_map f) (get-number n k l)

module _ (script : Script) where
  abbrev acts : List Move
  acts = map Administrator (numbers_below (length script.administrators.items))

  pub client_number : (n : ℕ) → n < length script.clients.items → Some (Client n) ≡ slice_get (moves_of script) n
  client_number n l = sym (get-left (map Client (numbers_below (length script.clients.items)))
      (acts ++ engine_moves_of script) n (omega (arith, l, length-each Client (length script.clients.items)))
      ∙ get-each Client (length script.clients.items) n l)

  behind-clients : (k n : ℕ) → n ≡ length script.clients.items + k
      → slice_get (moves_of script) n ≡ slice_get (acts ++ engine_moves_of script) k
  behind-clients k n e =
      let count = length-each Client (length script.clients.items) in
      let q : n ≡ length (map Client (numbers_below (length script.clients.items))) + k = omega (arith, e, count) in
      ap (slice_get (moves_of script)) q
      ∙ get-right (map Client (numbers_below (length script.clients.items))) (acts ++ engine_moves_of script) k

  pub administrator_number : (k n : ℕ) → n ≡ length script.clients.items + k
      → k < length script.administrators.items → Some (Administrator k) ≡ slice_get (moves_of script) n
  administrator_number k n e l = sym (behind-clients k n e
      ∙ get-left acts (engine_moves_of script) k
      (omega (arith, l, length-each Administrator (length script.administrators.items)))
      ∙ get-each Administrator (length script.administrators.items) k l)

  pub engine_number : (k n : ℕ) → n ≡ length script.clients.items + (length script.administrators.items + k)
      → slice_get (engine_moves_of script) k ≡ slice_get (moves_of script) n
  engine_number k n e =
      let count = length-each Administrator (length script.administrators.items) in
      let q : length script.administrators.items + k ≡ length acts + k = omega (arith, count) in
      sym (behind-clients (length script.administrators.items + k) n e
      ∙ ap (slice_get (acts ++ engine_moves_of script)) q ∙ get-right acts (engine_moves_of script) k)

  pub dispatch_number : (k d : ℕ) → k < length script.engines.items
      → Some (Dispatch (get_or script.engines.items k d)) ≡ slice_get (engine_moves_of script) k
  dispatch_number k d l =
      sym (get-left (map Dispatch script.engines.items)
      (map Fetch script.engines.items ++ map Start script.engines.items) k
      (omega (arith, l, length-map script.engines.items Dispatch))
      ∙ slice_get-map Dispatch script.engines.items k
      ∙ ap (option_map Dispatch) (slice_get-get_or script.engines.items k d l))

  behind-dispatches : (k n : ℕ) → n ≡ length script.engines.items + k
      → slice_get (engine_moves_of script) n
      ≡ slice_get (map Fetch script.engines.items ++ map Start script.engines.items) k
  behind-dispatches k n e =
      let q : n ≡ length (map Dispatch script.engines.items) + k =
      omega (arith, e, length-map script.engines.items Dispatch) in
      ap (slice_get (engine_moves_of script)) q
      ∙ get-right (map Dispatch script.engines.items)
      (map Fetch script.engines.items ++ map Start script.engines.items) k

  pub fetch_number : (k n d : ℕ) → n ≡ length script.engines.items + k → k < length script.engines.items
      → Some (Fetch (get_or script.engines.items k d)) ≡ slice_get (engine_moves_of script) n
  fetch_number k n d is l =
      sym (behind-dispatches k n is
      ∙ get-left (map Fetch script.engines.items) (map Start script.engines.items) k
      (omega (arith, l, length-map script.engines.items Fetch))
      ∙ slice_get-map Fetch script.engines.items k
      ∙ ap (option_map Fetch) (slice_get-get_or script.engines.items k d l))

  behind-fetches : (k n : ℕ) → n ≡ length script.engines.items + (length script.engines.items + k)
      → slice_get (engine_moves_of script) n ≡ option_map Start (slice_get script.engines.items k)
  behind-fetches k n is =
      let q : length script.engines.items + k ≡ length (map Fetch script.engines.items) + k =
      omega (arith, length-map script.engines.items Fetch) in
      behind-dispatches (length script.engines.items + k) n is
      ∙ ap (slice_get (map Fetch script.engines.items ++ map Start script.engines.items)) q
      ∙ get-right (map Fetch script.engines.items) (map Start script.engines.items) k
      ∙ slice_get-map Start script.engines.items k

  pub start_number : (k n d : ℕ) → n ≡ length script.engines.items + (length script.engines.items + k)
      → k < length script.engines.items
      → Some (Start (get_or script.engines.items k d)) ≡ slice_get (engine_moves_of script) n
  start_number k n d is l =
      sym (behind-fetches k n is ∙ ap (option_map Start) (slice_get-get_or script.engines.items k d l))

  pub no_number : (k n : ℕ) → n ≡ length script.engines.items + (length script.engines.items + k)
      → length script.engines.items ≤ k → None ≡ slice_get (engine_moves_of script) n
  no_number k n is l =
      sym (behind-fetches k n is ∙ ap (option_map Start) (slice_get_past script.engines.items k l))
