-- What a search stores and finds: one more world, and one more row.
use Rattle.std.proofs.Common.{◌≡◌, ℕ, zero, suc, ◌+◌, ◌<◌, ◌≤◌, List, [], ◌∷◌, ◌++◌, Some, refl, sym, ap}
use Rattle.std.proofs.Common.{◌∙◌, subst, map, length, length-append, ◌⊎◌, inl, inr, ⊎_elim, arith}
use Rattle.std.specs.Prelude.{slice_get}
use Rattle.dsa_base.{specs.Lists.{In}, proofs.Lists.{In-left, In-push}}
use Rattle.dsa_book.specs.declared.answer.Reply.{Reply}
use Rattle.dsa_keys.specs.Parties.{World, Stored, HaveEqualKeys, IsStored, world_after}
use Rattle.dsa_keys.proofs.Parties.{worlds-answer}
use Rattle.dsa_explore.specs.declared.found.{Finding.{Finding}, Found.{Found}}
use Rattle.dsa_explore.specs.{Findings.{findings_of}, Explored.{MayCome}}
use Rattle.dsa_explore.specs.Search.{Space, IsFine, IsLawfulSpace, IsKeyOf, IsWorldTable, IsStoredWorld, AreRows}
use Rattle.dsa_explore.specs.Search.{queue_taken_from}
use Rattle.dsa_explore.proofs.Tables.{same-keys, queues-agree}
use Rattle.dsa_explore.proofs.Reached.{reached-more, reached-tells}
use Rattle.dsa_explore.proofs.Steps.{mirrored-findings}

-- ---- lists

pub In-get : {X : Type 0} (xs : List X) (i : ℕ) (x : X) → slice_get xs i ≡ Some x → In x xs
In-get [] i x h = absurd cc
In-get (y ∷ ys) zero x h = inl cc
In-get (y ∷ ys) (suc i) x h = inr (In-get ys i x h)

-- lists of one length have the same places
pub get-both : {X Y : Type 0} (xs : List X) (ys : List Y) (i : ℕ) (x : X) → length xs ≡ length ys
    → slice_get xs i ≡ Some x → (y : Y) × (slice_get ys i ≡ Some y)
get-both [] ys i x l h = absurd cc
get-both (a ∷ xs) [] i x l h = absurd (omega (arith, l))
get-both (a ∷ xs) (b ∷ ys) zero x l h = (b, refl)
get-both (a ∷ xs) (b ∷ ys) (suc i) x l h = get-both xs ys i x (omega (arith, l)) h

-- below the length there is one
pub get-at : {X : Type 0} (xs : List X) (i : ℕ) → i < length xs → (x : X) × (slice_get xs i ≡ Some x)
get-at [] i h = absurd (omega (arith, h))
get-at (x ∷ xs) zero h = (x, refl)
get-at (x ∷ xs) (suc i) h = get-at xs i (omega (arith, h))

pub get-below : {X : Type 0} (xs : List X) (i : ℕ) (x : X) → slice_get xs i ≡ Some x → i < length xs
get-below [] i x h = absurd cc
get-below (y ∷ ys) zero x h = omega arith
get-below (y ∷ ys) (suc i) x h = omega (arith, get-below ys i x h)

-- a place of a list with one more at its end
pub get-push : {X : Type 0} (xs : List X) (y : X) (i : ℕ) (x : X) → slice_get (xs ++ y ∷ []) i ≡ Some x
    → (slice_get xs i ≡ Some x) ⊎ ((i ≡ length xs) × (y ≡ x))
get-push [] y zero x h = inr (refl, cc)
get-push [] y (suc i) x h = absurd cc
get-push (z ∷ xs) y zero x h = inl h
get-push (z ∷ xs) y (suc i) x h =
    ⊎_elim (λ e. inl e) (λ p. inr (omega (arith, p.0), p.1)) (get-push xs y i x h)

pub map-push : {X Y : Type 0} (f : X → Y) (xs : List X) (x : X) → map f (xs ++ x ∷ []) ≡ map f xs ++ f x ∷ []
map-push f [] x = refl
map-push f (y ∷ ys) x = ap (λ z. f y ∷ z) (map-push f ys x)

pub In-mapped : {X Y : Type 0} (f : X → Y) (x : X) (xs : List X) → In x xs → In (f x) (map f xs)
In-mapped f x [] i = absurd i
In-mapped f x (y ∷ ys) (inl e) = inl (ap f e)
In-mapped f x (y ∷ ys) (inr i) = inr (In-mapped f x ys i)

-- what is listed of a list is so of one of it
pub In-from : {X Y : Type 0} (f : X → Y) (y : Y) (xs : List X) → In y (map f xs) → (x : X) × (In x xs × (f x ≡ y))
In-from f y [] i = absurd i
In-from f y (x ∷ xs) (inl e) = (x, (inl refl, e))
In-from f y (x ∷ xs) (inr i) = let r = In-from f y xs i in (r.0, (inr r.1.0, r.1.1))

-- a place of two lists is one of the first or of the second
pub get-append : {X : Type 0} (xs ys : List X) (i : ℕ) (x : X) → slice_get (xs ++ ys) i ≡ Some x
    → (slice_get xs i ≡ Some x) ⊎ ((j : ℕ) × ((i ≡ length xs + j) × (slice_get ys j ≡ Some x)))
get-append [] ys i x h = inr (i, (omega arith, h))
get-append (z ∷ xs) ys zero x h = inl h
get-append (z ∷ xs) ys (suc i) x h =
    ⊎_elim (λ e. inl e) (λ p. inr (p.0, (omega (arith, p.1.0), p.1.1))) (get-append xs ys i x h)

-- ---- worlds

-- a place of a list is one of each longer list
pub get-left : {X : Type 0} (xs ys : List X) (i : ℕ) (x : X) → slice_get xs i ≡ Some x
    → slice_get (xs ++ ys) i ≡ Some x
get-left [] ys i x h = absurd cc
get-left (y ∷ xs) ys zero x h = h
get-left (y ∷ xs) ys (suc i) x h = get-left xs ys i x h

pub get-mapped : {X Y : Type 0} (f : X → Y) (xs : List X) (i : ℕ) (x : X) → slice_get xs i ≡ Some x
    → slice_get (map f xs) i ≡ Some (f x)
get-mapped f [] i x h = absurd cc
get-mapped f (y ∷ ys) zero x h = let e : y ≡ x = cc in ap (λ z. Some (f z)) e
get-mapped f (y ∷ ys) (suc i) x h = get-mapped f ys i x h

-- a step from w by this move, which takes an entry from the same queue as this reply
pub record IsMirrored {P M : Type 0} (space : Space P M) (w : World P) (move : M) (reply : Reply) (w' : World P)
    : Type 0 where
  pub other : Reply
  pub leads : world_after space.parties w move other ≡ Some w'
  pub taken : queue_taken_from reply ≡ queue_taken_from other

module _ {P M : Type 0} (space : Space P M) (lawful : IsLawfulSpace space) (first : World P) where
  -- a step from a fine world leads to a fine one
  pub fine-more : (w w' : World P) (move : M) (reply : Reply) → IsFine space w
      → world_after space.parties w move reply ≡ Some w' → IsFine space w'
  fine-more w w' move reply f step = record {
    good = (worlds-answer space.caps space.parties space.good lawful.lawful w w' w move reply f.good f.good
        (record { places = refl; keys = refl }) step).left;
    described = lawful.kept w w' move reply f step;
  }

  -- the bytes of a fine world are its key
  pub own-key : (w : World P) → IsFine space w → IsKeyOf space (space.bytes_of w) w
  own-key w f = λ u g same. lawful.keys u w g f same

  pub key-as : (bytes : List ℕ) (w v : World P) → HaveEqualKeys w v → IsKeyOf space bytes w → IsKeyOf space bytes v
  key-as bytes w v k key = λ u f same. same-keys u w v (key u f same) k

  module _ (keys : List (List ℕ)) (levels : List ℕ) (front : ℕ) (table : List (Stored P))
      (is : IsWorldTable space first keys levels front table) where
    -- a world whose bytes are there is stored
    pub known-stored : (j : ℕ) (v : World P) → IsFine space v → slice_get keys j ≡ Some (space.bytes_of v)
        → IsStored table front v
    known-stored j v f at =
        let x = get-both keys table j (space.bytes_of v) is.count at in
        record {
          at = x.0;
          within = In-get table j x.0 x.1;
          soon = is.low x.0 (In-get table j x.0 x.1);
          keys = is.keyed j (space.bytes_of v) x.0 at x.1 v f refl;
        }

    -- any other is added, a level behind that of the world from which a step leads there
    pub table-pushed : (x : Stored P) (v v' : World P) (move : M) (reply : Reply) → In x table
        → IsFine space v → HaveEqualKeys v x.world → front ≡ x.level + 1
        → world_after space.parties v move reply ≡ Some v' → (new : Stored P) × (new.level ≡ front)
        × (HaveEqualKeys v' new.world
        × (IsWorldTable space first (keys ++ space.bytes_of v' ∷ []) (levels ++ front ∷ []) front (table ++ new ∷ [])
        × IsMirrored space x.world move reply new.world))
    table-pushed x v v' move reply i f k level step =
        let s = is.worlds x i in
        let same = worlds-answer space.caps space.parties space.good lawful.lawful v v' x.world move reply f.good
        s.fine.good k step in
        let w : World P = same.v' in
        let new : Stored P = record { level = front; world = w } in
        let reached = reached-more space.parties first x.world w x.level move same.reply' s.reached same.leads in
        let stored : IsStoredWorld space first new = record {
          fine = fine-more x.world w move same.reply' s.fine same.leads;
          reached = record { moves = reached.moves; leads = reached.leads; count = level ∙ reached.count };
        } in
        let key = key-as (space.bytes_of v') v' w same.keys (own-key v' (fine-more v v' move reply f step)) in (
          new,
          refl,
          (
            same.keys,
            (
              record {
                count = length-append keys (space.bytes_of v' ∷ []) ∙ ap (λ n. n + 1) is.count
                    ∙ sym (length-append table (new ∷ []));
                keyed = λ j bytes y at at'. ⊎_elim
                    (λ (e : slice_get keys j ≡ Some bytes). ⊎_elim
                    (λ (e' : slice_get table j ≡ Some y). is.keyed j bytes y e e')
                    (λ p. absurd (omega (arith, get-below keys j bytes e, p.0, is.count)))
                    (get-push table new j y at'))
                    (λ q. ⊎_elim
                    (λ (e' : slice_get table j ≡ Some y). absurd (omega (arith, get-below table j y e', q.0, is.count)))
                    (λ p. subst (λ (z : Stored P). IsKeyOf space bytes z.world) p.1
                    (subst (λ (b : List ℕ). IsKeyOf space b w) q.1 key))
                    (get-push table new j y at'))
                    (get-push keys (space.bytes_of v') j bytes at);
                levelled = map-push (λ (z : Stored P). z.level) table new ∙ ap (λ l. l ++ front ∷ []) is.levelled;
                worlds = λ y j. ⊎_elim (λ old. is.worlds y old)
                    (λ (e : new ≡ y). subst (λ (z : Stored P). IsStoredWorld space first z) e stored)
                    (In-push y table new j);
                low = λ y j. ⊎_elim (λ old. is.low y old)
                    (λ (e : new ≡ y). subst (λ (z : Stored P). z.level ≤ front) e (omega arith)) (In-push y table new j);
                begin = In-left (record { level = 0; world = first }) table (new ∷ []) is.begin;
              },
              record {
                other = same.reply';
                leads = same.leads;
                taken = queues-agree v'.labels w.labels reply same.reply' same.replies;
              },
            ),
          ),
        )

    -- what a step from a world with a stored key tells may come a level later
    pub told-soon : (x : Stored P) (v v' : World P) (move : M) (reply : Reply) (finding : Finding) → In x table
        → IsFine space v → HaveEqualKeys v x.world → front ≡ x.level + 1
        → world_after space.parties v move reply ≡ Some v'
        → In finding (findings_of (space.asks v.places move) v v' reply)
        → MayCome space.parties space.asks first front finding
    told-soon x v v' move reply finding i f k level step told =
        let s = is.worlds x i in
        let same = worlds-answer space.caps space.parties space.good lawful.lawful v v' x.world move reply f.good
        s.fine.good k step in
        let e = mirrored-findings space.asks space.caps space.parties space.good lawful.lawful v v' x.world move reply k
        same in
        subst (λ (n : ℕ). MayCome space.parties space.asks first n finding) (sym level)
        (reached-tells space.parties space.asks first x.world same.v' x.level move same.reply' finding s.reached
        same.leads (subst (λ (l : List Finding). In finding l) e told))

  -- the front moves on
  pub table-on : (keys : List (List ℕ)) (levels : List ℕ) (front further : ℕ) (table : List (Stored P))
      → IsWorldTable space first keys levels front table → front ≤ further → IsWorldTable space first keys levels
      further table
  table-on keys levels front further table is more = record {
    count = is.count;
    keyed = is.keyed;
    levelled = is.levelled;
    worlds = is.worlds;
    low = λ x i. omega (arith, more, is.low x i);
    begin = is.begin;
  }

  pub rows-on : (front further : ℕ) (rows : List Found) → AreRows space first front rows → front ≤ further
      → AreRows space first further rows
  rows-on front further rows is more = record {
    sound = is.sound;
    early = λ r i. omega (arith, more, is.early r i);
    distinct = is.distinct;
  }

  -- one row more, whose finding no row has
  pub row-pushed : (front : ℕ) (rows : List Found) (new : Found) → AreRows space first front rows
      → MayCome space.parties space.asks first front new.finding → new.steps ≡ front
      → ((r : Found) → In r rows → r.finding ≡ new.finding → ⊥) → AreRows space first front (rows ++ new ∷ [])
  row-pushed front rows new is may steps none = record {
    sound = λ r i. ⊎_elim (λ old. is.sound r old)
        (λ (e : new ≡ r). subst (λ (z : Found). MayCome space.parties space.asks first z.steps z.finding) e
        (subst (λ (n : ℕ). MayCome space.parties space.asks first n new.finding) (sym steps) may))
        (In-push r rows new i);
    early = λ r i. ⊎_elim (λ old. is.early r old)
        (λ (e : new ≡ r). subst (λ (z : Found). z.steps ≤ front) e (omega (arith, steps))) (In-push r rows new i);
    distinct = λ r o i j same. ⊎_elim
        (λ old. ⊎_elim (λ old'. is.distinct r o old old' same)
        (λ (e : new ≡ o). absurd (none r old (same ∙ sym (ap (λ (z : Found). z.finding) e)))) (In-push o rows new j))
        (λ (e : new ≡ r). ⊎_elim
        (λ old'. absurd (none o old' (sym same ∙ sym (ap (λ (z : Found). z.finding) e))))
        (λ (e' : new ≡ o). sym e ∙ e') (In-push o rows new j))
        (In-push r rows new i);
  }
