-- What several walks found.
use Rattle.std.proofs.Common.{◌≡◌, ℕ, ◌+◌, ◌*◌, ◌≤◌, max, None, Bool, true, false, cond, List, [], ◌∷◌, ◌++◌, refl}
use Rattle.std.proofs.Common.{sym, ap, ◌∙◌, subst}
use Rattle.std.proofs.Common.{length, ⊎_elim, arith, add-one}
use Rattle.std.specs.Prelude.{filter}
use Rattle.std.proofs.lemmas.Grind.{fold-append}
use Rattle.dsa_base.{specs.{Lists.{In}, Numbers.{numbers_below}}, proofs.Lists.{In-push}}
use Rattle.dsa_regs.specs.declared.Caps.{Caps}
use Rattle.dsa_book.specs.declared.event.Event.{Event}
use Rattle.dsa_keys.specs.Parties.{World}
use Rattle.dsa_parties.specs.{declared.{places.Move.{Move}, script.Script.{Script}}, Standing.{Standing}}
use Rattle.dsa_explore.specs.declared.{found.Found.{Found}, stored.Try.{Try}}
use Rattle.dsa_explore.specs.declared.sampling.{Sampled.{Sampled}, Tally.{Tally}, Walks.{Walks}}
use Rattle.dsa_explore.specs.{Search.{Space, IsFine}, Walked.{IsFirst, space_of}}
use Rattle.dsa_explore.specs.Sampling.{is_in_shard, AreWalks, IsRandomWalk, HaveOneRowEach, IsSampled}
use Rattle.dsa_explore.specs.Walking.{AreMerged, HasStopped, IsTallyOf}
use Rattle.dsa_explore.proofs.Merged.{found-through}
use Rattle.dsa_explore.proofs.WalkSteps.{stopped-walk, walk-found}

-- ---- numbers

filter-push : (made : ℕ → Bool) (xs : List ℕ) (x : ℕ)
    → length (filter made (xs ++ x ∷ [])) ≡ length (filter made xs) + cond (made x) 1 0
filter-push made [] x = go (made x)
  where
    go : (b : Bool) → length (cond b (x ∷ []) []) ≡ 0 + cond b 1 0
    go true = refl
    go false = refl
filter-push made (y ∷ ys) x = go (made y) (filter-push made ys x)
  where
    go : (b : Bool) → length (filter made (ys ++ x ∷ [])) ≡ length (filter made ys) + cond (made x) 1 0
        → length (cond b (y ∷ filter made (ys ++ x ∷ [])) (filter made (ys ++ x ∷ [])))
        ≡ length (cond b (y ∷ filter made ys) (filter made ys)) + cond (made x) 1 0
    go true h = omega (arith, h)
    go false h = h

-- the walk of the next number is made
pub one-made : (made : ℕ → Bool) (n : ℕ) → made n ≡ true
    → length (filter made (numbers_below (n + 1))) ≡ length (filter made (numbers_below n)) + 1
one-made made n e = rw add-one
    (filter-push made (numbers_below n) n ∙ ap (λ b. length (filter made (numbers_below n)) + cond b 1 0) e)

-- or it is not
pub none-made : (made : ℕ → Bool) (n : ℕ) → made n ≡ false
    → length (filter made (numbers_below (n + 1))) ≡ length (filter made (numbers_below n))
none-made made n e = rw add-one (omega (
  arith,
  filter-push made (numbers_below n) n
      ∙ ap (λ b. length (filter made (numbers_below n)) + cond b 1 0) e,
))

-- ---- one walk more

length-push : {X : Type 0} (xs : List X) (x : X) → length (xs ++ x ∷ []) ≡ length xs + 1
length-push [] x = refl
length-push (y ∷ ys) x = omega (arith, length-push ys x)

pub tally-more : {P : Type 0} (space : Space P Move) (first : World P) (set_up : ℕ) (way : List Try) (rows : List Found)
    (old new : Tally) → HasStopped space first set_up way rows → AreMerged old.rows.items rows new.rows.items
    → new.walks ≡ old.walks + 1 → new.steps ≡ old.steps + length way → new.depth ≡ max old.depth (length way)
    → IsTallyOf space first set_up old → IsTallyOf space first set_up new
tally-more {P} space first set_up way rows old new h merged walks steps depth t =
    let n = length way in
    let more = t.made.lengths ++ n ∷ [] in
    let deep : (old.depth ≤ new.depth) × (n ≤ new.depth) = deeper old.depth n new.depth depth in
    record {
      made = record {
        lengths = more;
        count_is = length-push t.made.lengths n ∙ ap (λ k. k + 1) t.made.count_is ∙ sym walks;
        each = λ k i. ⊎_elim
            (λ j. walk-found space old.rows.items new.rows.items
            (found-through old.rows.items new.rows.items merged.kept) first set_up k (t.made.each k j))
            (λ (e : n ≡ k). subst (λ (m : ℕ). IsRandomWalk space first set_up new.rows.items m) e
            (stopped-walk space first set_up way rows new.rows.items
            (found-through rows new.rows.items merged.added) h))
            (In-push k t.made.lengths n i);
        in_all = steps ∙ ap (λ k. k + n) t.made.in_all ∙ sym (fold-append (λ a x. a + x) 0 t.made.lengths (n ∷ []));
        at_most = depth ∙ ap (λ k. max k n) t.made.at_most ∙ sym (fold-append max 0 t.made.lengths (n ∷ []));
      };
      sound = λ row i. ⊎_elim (λ j. t.sound row j) (λ j. h.come.rows_are.sound row j) (merged.each row i);
      soon = λ row i. ⊎_elim (λ j. omega (arith, t.soon row j, deep.0))
          (λ j. omega (arith, h.come.rows_are.early row j, deep.1)) (merged.each row i);
      once = merged.once t.once;
    }
  where
    deeper : (a b c : ℕ) → c ≡ max a b → (a ≤ c) × (b ≤ c)
    deeper a b c e = (omega (arith, e), omega (arith, e))

-- no walk was made yet
pub tally-none : {P : Type 0} (space : Space P Move) (first : World P) (set_up : ℕ) (tally : Tally)
    → tally.rows.items ≡ [] → tally.walks ≡ 0 → tally.steps ≡ 0 → tally.depth ≡ 0
    → IsTallyOf space first set_up tally
tally-none space first set_up tally rows walks steps depth = record {
  made = record {
    lengths = [];
    count_is = sym walks;
    each = λ n i. absurd i;
    in_all = steps;
    at_most = depth;
  };
  sound = λ row i. absurd (subst (λ (l : List Found). In row l) rows i);
  soon = λ row i. absurd (subst (λ (l : List Found). In row l) rows i);
  once = subst (λ (l : List Found). HaveOneRowEach l) (sym rows) (λ i j row other at. absurd cc);
}

-- ---- all walks

-- the walks of the numbers below were made
pub record IsSoFar (caps : Caps) (script : Script) (events : List Event) (walks : Walks) (number : ℕ) (tally : Tally)
    : Type 0 where
  pub made : (first : World Standing) → IsFirst caps script events first → IsFine (space_of caps script) first
      → IsTallyOf (space_of caps script) first (length events) tally
  pub count : tally.walks ≡ length (filter (is_in_shard walks) (numbers_below number))
  pub few : tally.walks ≤ number
  pub short : tally.steps ≤ number * 1_048_576

module _ (caps : Caps) (script : Script) (events : List Event) (walks : Walks) where
  pub so-far-none : (tally : Tally) → tally.rows.items ≡ [] → tally.walks ≡ 0 → tally.steps ≡ 0 → tally.depth ≡ 0
      → IsSoFar caps script events walks 0 tally
  so-far-none tally rows none steps depth = record {
    made = λ first begun fine. tally-none (space_of caps script) first (length events) tally rows none steps depth;
    count = none;
    few = omega (arith, none);
    short = omega (arith, steps);
  }

  pub so-far-made : (number : ℕ) (old new : Tally) → IsSoFar caps script events walks number old
      → is_in_shard walks number ≡ true
      → ((first : World Standing) → IsFirst caps script events first → IsFine (space_of caps script) first
      → IsTallyOf (space_of caps script) first (length events) old
      → IsTallyOf (space_of caps script) first (length events) new)
      → new.walks ≡ old.walks + 1 → new.steps ≤ old.steps + 1_048_576
      → IsSoFar caps script events walks (number + 1) new
  so-far-made number old new so_far is further count short = record {
    made = λ first begun fine. further first begun fine (so_far.made first begun fine);
    count = count ∙ ap (λ k. k + 1) so_far.count ∙ sym (one-made (is_in_shard walks) number is);
    few = omega (arith, count, so_far.few);
    short = omega (arith, short, so_far.short);
  }

  pub so-far-left : (number : ℕ) (tally : Tally) → IsSoFar caps script events walks number tally
      → is_in_shard walks number ≡ false → IsSoFar caps script events walks (number + 1) tally
  so-far-left number tally so_far is = record {
    made = so_far.made;
    count = so_far.count ∙ sym (none-made (is_in_shard walks) number is);
    few = omega (arith, so_far.few);
    short = omega (arith, so_far.short);
  }

  -- at the end all were made
  pub all-sampled : (number : ℕ) (tally : Tally) (sampled : Sampled) → IsSoFar caps script events walks number tally
      → number ≡ walks.count → (first : World Standing) → IsFirst caps script events first
      → IsFine (space_of caps script) first → sampled.walks ≡ tally.walks → sampled.explored.rows ≡ tally.rows
      → sampled.explored.tried ≡ tally.steps → sampled.explored.depth ≡ tally.depth → sampled.explored.states ≡ 0
      → sampled.explored.ends ≡ None → sampled.explored.is_complete ≡ false
      → IsSampled caps script events walks sampled
  all-sampled number tally sampled so_far all first begun fine count rows tried depth states ends complete =
      let space = space_of caps script in
      let is = so_far.made first begun fine in
      let items = ap (λ r. r.items) rows in
      record {
        first = first;
        begun = begun;
        count = count ∙ so_far.count
            ∙ ap (λ (k : ℕ). length (filter (is_in_shard walks) (numbers_below k))) all;
        made = subst (λ (r : List Found). AreWalks space first (length events) r sampled.walks sampled.explored.tried
            sampled.explored.depth) (sym items)
            (subst (λ (k : ℕ). AreWalks space first (length events) tally.rows.items k sampled.explored.tried
            sampled.explored.depth) (sym count)
            (subst (λ (k : ℕ). AreWalks space first (length events) tally.rows.items tally.walks k
            sampled.explored.depth) (sym tried)
            (subst (λ (k : ℕ). AreWalks space first (length events) tally.rows.items tally.walks tally.steps k)
            (sym depth) is.made)));
        sound = λ row i. is.sound row (subst (λ (r : List Found). In row r) items i);
        soon = λ row i. omega (arith, is.soon row (subst (λ (r : List Found). In row r) items i), depth);
        once = subst (λ (r : List Found). HaveOneRowEach r) (sym items) is.once;
        no_states = states;
        no_ends = ends;
        is_complete = complete;
      }
