-- Each move with an offer is in the list of moves, or ends an entry.
use Rattle.std.proofs.Common.{◌≡◌, ℕ, zero, suc, ◌<◌, Bool, true, false, cond, ◌==◌, List, [], ◌∷◌, ◌++◌, length, map}
use Rattle.std.proofs.Common.{Option, Some, None, refl, ap, subst, inl, inr, ⊎_elim, arith, slice_get}
use Rattle.std.specs.Prelude.{option_map, option_and_then}
use Rattle.std.proofs.lemmas.{Bool.{and_parts, eqb-true, cases_lt}, Option.{slice_get_within}}
use Rattle.dsa_base.specs.{Lists.{In}, Numbers.{numbers_below}, Rows.{when}}
use Rattle.dsa_base.proofs.Lists.{In-left, In-right, any-In}
use Rattle.dsa_keys.specs.{Key.{Key}, Parties.{Offer}}
use Rattle.dsa_parties.specs.declared.places.{ClientTurn.{ClientTurn}, Move.{Move}}
use Rattle.dsa_parties.specs.declared.places.Move.TheVariants.{Client, Administrator, Dispatch, Fetch, Start, Finish}
use Rattle.dsa_parties.specs.declared.script.{Act.{Act}, Script.{Script}}
use Rattle.dsa_parties.specs.Standing.{Standing, turn_of, next_act, act_of}
use Rattle.dsa_parties.specs.Offers.{has_engine, offer_of, moves_of, IsListed, submission_event, bare_offer}
use Rattle.dsa_parties.specs.Offers.{act_event}

In-map : {X Y : Type 0} (f : X → Y) (x : X) (xs : List X) → In x xs → In (f x) (map f xs)
In-map f x [] i = absurd i
In-map f x (y ∷ ys) (inl e) = inl (ap f e)
In-map f x (y ∷ ys) (inr i) = inr (In-map f x ys i)

In-numbers : (n k : ℕ) → k < n → In k (numbers_below n)
In-numbers zero k l = absurd (omega (arith, l))
In-numbers (suc n) k l = ⊎_elim
    (λ below. In-left k (numbers_below n) (n ∷ []) (In-numbers n k below))
    (λ above. In-right k (numbers_below n) (n ∷ []) (inl (omega (arith, above, l))))
    (cases_lt k n)

In-engines : (script : Script) (e : ℕ) → has_engine script e ≡ true → In e script.engines.items
In-engines script e h =
    let x = any-In (λ engine. engine == e) script.engines.items h in
    subst (λ k. In k script.engines.items) (eqb-true x.0 e x.1.1) x.1.0

module _ (script : Script) where
  abbrev clients : List Move
  clients = map Client (numbers_below (length script.clients.items))

  abbrev administrators : List Move
  administrators = map Administrator (numbers_below (length script.administrators.items))

  abbrev each : (ℕ → Move) → List Move
  each f = map f script.engines.items

  abbrev engine-moves : List Move
  engine-moves = each Dispatch ++ (each Fetch ++ each Start)

  in-clients : (c : ℕ) → c < length script.clients.items → IsListed script (Client c)
  in-clients c l = In-left (Client c) clients (administrators ++ engine-moves)
      (In-map Client c _ (In-numbers _ c l))

  in-administrators : (a : ℕ) → a < length script.administrators.items → IsListed script (Administrator a)
  in-administrators a l = In-right (Administrator a) clients (administrators ++ engine-moves)
      (In-left (Administrator a) administrators engine-moves (In-map Administrator a _ (In-numbers _ a l)))

  in-engines : (m : Move) → In m engine-moves → In m (moves_of script)
  in-engines m i = In-right m clients (administrators ++ engine-moves) (In-right m administrators engine-moves i)

  in-dispatch : (e : ℕ) → In e script.engines.items → IsListed script (Dispatch e)
  in-dispatch e i = in-engines (Dispatch e)
      (In-left (Dispatch e) (each Dispatch) (each Fetch ++ each Start) (In-map Dispatch e _ i))

  in-fetch : (e : ℕ) → In e script.engines.items → IsListed script (Fetch e)
  in-fetch e i = in-engines (Fetch e) (In-right (Fetch e) (each Dispatch) (each Fetch ++ each Start)
      (In-left (Fetch e) (each Fetch) (each Start) (In-map Fetch e _ i)))

  in-start : (e : ℕ) → In e script.engines.items → IsListed script (Start e)
  in-start e i = in-engines (Start e) (In-right (Start e) (each Dispatch) (each Fetch ++ each Start)
      (In-right (Start e) (each Fetch) (each Start) (In-map Start e _ i)))

  tested : (b : Bool) (x o : Offer) → when b x ≡ Some o → b ≡ true
  tested true x o h = refl
  tested false x o h = absurd cc

  passed : (b : Bool) (x : Option Offer) (o : Offer) → cond b x None ≡ Some o → b ≡ true
  passed true x o h = refl
  passed false x o h = absurd cc

  -- who has something to do is one of the script's
  of-script : {X Y : Type 0} (xs : List X) (k : ℕ) (f : X → Option Y) (y : Y)
      → option_and_then f (slice_get xs k) ≡ Some y → k < length xs
  of-script {X} {Y} xs k f y h = go (slice_get xs k) refl h
    where
      go : (o : Option X) → slice_get xs k ≡ o → option_and_then f o ≡ Some y → k < length xs
      go None e h = absurd cc
      go (Some x) e h = slice_get_within xs k x e

  pub listed : (stand : Standing) (key : Key) (move : Move) (o : Offer)
      → offer_of script stand key move ≡ Some o → IsListed script move
  listed stand key (Client c) o h = go (turn_of script stand c) refl h
    where
      go : (t : Option ClientTurn) → turn_of script stand c ≡ t
          → option_map (λ (turn : ClientTurn). record { event = submission_event turn; label = turn.place.next }) t
          ≡ Some o → IsListed script (Client c)
      go None e h = absurd cc
      go (Some turn) e h = in-clients c (of-script script.clients.items c _ turn e)
  listed stand key (Administrator a) o h = go (act_of script stand a) refl h
    where
      by-next : (next : Option ℕ) (act : Act) → next_act script stand a ≡ next
          → option_and_then (slice_get script.acts.items) next ≡ Some act → IsListed script (Administrator a)
      by-next None act e h = absurd cc
      by-next (Some next) act e h = in-administrators a (of-script script.administrators.items a _ next e)

      go : (t : Option Act) → act_of script stand a ≡ t
          → option_map (λ act. bare_offer script (act_event act)) t ≡ Some o → IsListed script (Administrator a)
      go None e h = absurd cc
      go (Some act) e h = by-next (next_act script stand a) act refl e
  listed stand key (Dispatch e) o h = in-dispatch e (In-engines script e (tested _ _ o h))
  listed stand key (Fetch e) o h = in-fetch e (In-engines script e (passed _ _ o h))
  listed stand key (Start e) o h = in-start e (In-engines script e (tested _ _ o h))
  listed stand key (Finish e label outcome) o h =
      In-engines script e (and_parts _ _ (tested _ _ o h)).0
