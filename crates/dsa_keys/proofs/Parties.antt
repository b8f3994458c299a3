-- Worlds with equal keys answer alike, and a closed table tells all that may come.
use Rattle.std.proofs.Common.{Bool}
use Rattle.dsa_answers.specs.Alike.{TakeAlike}
use Rattle.dsa_keys.specs.Labels.{labelled_row}
use Rattle.dsa_keys.specs.Parties.{AreLawful, offer_at, sight_of, world_with, Offer, Parties, World, labels_for}
use Rattle.dsa_keys.specs.Parties.{world_after_offer, world_after, Made, world_after_all, IsGoodWorld, HaveEqualKeys}
use Rattle.dsa_keys.specs.Parties.{HasSameMove, Stored, IsClosedTable, IsStored, IsInTable, IsSearchedTable}
use Rattle.dsa_keys.specs.Steps.{IsSameStep, next_by_label}
use Rattle.std.proofs.lemmas.List.{drop_at}
use Rattle.std.proofs.Common.{drop, map}
use Rattle.std.proofs.Common.{◌≡◌, ℕ, ◌+◌, List, [], ◌∷◌, Option, Some, None, refl, sym, ap, ◌∙◌, subst, arith}
use Rattle.std.proofs.Common.{length}
use Rattle.std.{specs.Prelude.{option_map, option_and_then, unwrap_or}}
use Rattle.dsa_regs.specs.declared.Caps.{Caps}
use Rattle.dsa_book.specs.declared.answer.Reply.{Reply}
use Rattle.dsa_book.specs.{State.{State}}
use Rattle.dsa_keys.proofs.SameSteps.{keys-say-all, keys-determine}

module _ {P M : Type 0} (caps : Caps) (parties : Parties P M) (good : World P → Bool)
    (lawful : AreLawful caps parties good) where
  -- what is seen of two steps that are the same is the same
  same-sight : (w v : World P) (reply reply' : Reply) (o : Offer) (s' t' : State) → HaveEqualKeys w v
      → IsSameStep caps (labels_for w o) (labels_for v o) w.state s' v.state t' reply reply'
      → sight_of w reply o s' ≡ sight_of v reply' o t'
  same-sight w v reply reply' o s' t' k f =
      let left = ap (drop (length w.state.work.fates)) f.ends.left
      ∙ drop_at w.state.work.fates f.ends.rows (length w.state.work.fates) refl in
      let right = ap (drop (length v.state.work.fates)) f.ends.right
      ∙ drop_at v.state.work.fates f.ends.rows' (length v.state.work.fates) refl in
      let ends = ap (map (labelled_row (labels_for w o))) left ∙ f.ends.same
      ∙ sym (ap (map (labelled_row (labels_for v o))) right) in
      λ i. record { before = k.keys i; after = f.keys i; reply = f.replies i; ends = ends i }

  pub worlds-answer : (w w' v : World P) (move : M) (reply : Reply) → IsGoodWorld caps good w → IsGoodWorld caps good v
      → HaveEqualKeys w v → world_after parties w move reply ≡ Some w' → HasSameMove caps parties good w w' v move reply
  worlds-answer w w' v move reply hw hv k step = go (offer_at parties w move) refl step
    where
      here : (o : Offer) → offer_at parties w move ≡ Some o → (p : Option State)
          → next_by_label (labels_for w o) w.state o.event reply ≡ p
          → option_map (world_with parties w move reply o) p ≡ Some w' → HasSameMove caps parties good w w' v move reply
      here o e None q step = absurd cc
      here o e (Some s') q step =
          let x : World P = world_with parties w move reply o s' in
          let is : x ≡ w' = ap (λ z. unwrap_or z x) step in
          let e' : offer_at parties v move ≡ Some o = (λ i. parties.offer (sym k.places i) (sym k.keys i) move) ∙ e in
          let f = keys-say-all caps w.labels v.labels w.state s' v.state o.event reply o.label
          hw.is_labelled hv.is_labelled
          (lawful.fresh w move o hw.is_labelled hw.is_good e)
          (lawful.fresh v move o hv.is_labelled hv.is_good e')
          k.keys q in
          let y : World P = world_with parties v move f.reply' o f.t' in
          let may : world_after parties v move f.reply' ≡ Some y =
          ap (option_and_then (world_after_offer parties v move f.reply')) e'
          ∙ ap (option_map (world_with parties v move f.reply' o)) f.leads in
          let came : world_after parties w move reply ≡ Some x =
          ap (option_and_then (world_after_offer parties w move reply)) e
          ∙ ap (option_map (world_with parties w move reply o)) q in
          let answer : HasSameMove caps parties good w x v move reply = record {
            reply' = f.reply';
            v' = y;
            leads = may;
            replies = f.is_same.replies;
            ends = f.is_same.ends;
            keys = record {
              places = λ i. parties.moved (k.places i) move (same-sight w v reply f.reply' o s' f.t' k f.is_same i);
              keys = f.is_same.keys;
            };
            left = record {
              is_labelled = f.is_same.left;
              is_good = lawful.kept w x move reply hw.is_labelled hw.is_good came;
            };
            right = record {
              is_labelled = f.is_same.right;
              is_good = lawful.kept v y move f.reply' hv.is_labelled hv.is_good may;
            };
          } in
          subst (λ z. HasSameMove caps parties good w z v move reply) is answer

      go : (p : Option Offer) → offer_at parties w move ≡ p
          → option_and_then (world_after_offer parties w move reply) p ≡ Some w'
          → HasSameMove caps parties good w w' v move reply
      go None e step = absurd cc
      go (Some o) e step = here o e (next_by_label (labels_for w o) w.state o.event reply) refl step

  -- two moves of worlds with equal keys, from one queue, lead to worlds with equal keys
  here-agree : (w w' v v' : World P) (move : M) (reply reply' : Reply) (o : Offer) → IsGoodWorld caps good w
      → IsGoodWorld caps good v → HaveEqualKeys w v → offer_at parties w move ≡ Some o
      → offer_at parties v move ≡ Some o → TakeAlike reply reply'
      → (p p' : Option State) → next_by_label (labels_for w o) w.state o.event reply ≡ p
      → next_by_label (labels_for v o) v.state o.event reply' ≡ p'
      → option_map (world_with parties w move reply o) p ≡ Some w'
      → option_map (world_with parties v move reply' o) p' ≡ Some v' → HaveEqualKeys w' v'
  here-agree w w' v v' move reply reply' o hw hv k e e' same (Some s1) (Some t1) q q' step step' =
      let f = keys-determine caps w.labels v.labels w.state s1 v.state o.event reply o.label
      hw.is_labelled hv.is_labelled
      (lawful.fresh w move o hw.is_labelled hw.is_good e)
      (lawful.fresh v move o hv.is_labelled hv.is_good e')
      k.keys q t1 reply' same q' in
      let x : World P = world_with parties w move reply o s1 in
      let y : World P = world_with parties v move reply' o t1 in
      let one : HaveEqualKeys x y = record {
        places = λ i. parties.moved (k.places i) move (same-sight w v reply reply' o s1 t1 k f i);
        keys = f.keys;
      } in
      let is : x ≡ w' = ap (λ z. unwrap_or z x) step in
      let is' : y ≡ v' = ap (λ z. unwrap_or z y) step' in
      subst (λ z. HaveEqualKeys z v') is (subst (λ z. HaveEqualKeys x z) is' one)
  here-agree w w' v v' move reply reply' o hw hv k e e' same None p' q q' step step' = absurd cc
  here-agree w w' v v' move reply reply' o hw hv k e e' same (Some s1) None q q' step step' = absurd cc

  pub worlds-agree : (w w' v v' : World P) (move : M) (reply reply' : Reply) → IsGoodWorld caps good w
      → IsGoodWorld caps good v → HaveEqualKeys w v → TakeAlike reply reply'
      → world_after parties w move reply ≡ Some w' → world_after parties v move reply' ≡ Some v' → HaveEqualKeys w' v'
  worlds-agree w w' v v' move reply reply' hw hv k same step step' =
      go (offer_at parties w move) refl step
    where
      go : (p : Option Offer) → offer_at parties w move ≡ p
          → option_and_then (world_after_offer parties w move reply) p ≡ Some w' → HaveEqualKeys w' v'
      go None e step = absurd cc
      go (Some o) e step =
          let e' : offer_at parties v move ≡ Some o = (λ i. parties.offer (sym k.places i) (sym k.keys i) move) ∙ e in
          here-agree w w' v v' move reply reply' o hw hv k e e' same
          (next_by_label (labels_for w o) w.state o.event reply)
          (next_by_label (labels_for v o) v.state o.event reply') refl refl step
          (sym (ap (option_and_then (world_after_offer parties v move reply')) e') ∙ step')

  same-keys : (u w v : World P) → HaveEqualKeys u w → HaveEqualKeys w v → HaveEqualKeys u v
  same-keys u w v a b = record { places = a.places ∙ b.places; keys = a.keys ∙ b.keys }

  -- what is stored for a world
  record Found (table : List (Stored P)) (level : ℕ) (w : World P) : Type 0 where
    stored : IsStored table level w
    is_world : IsGoodWorld caps good w

  -- each world that moves lead to is stored, at a level no later than the moves are many
  reached : (table : List (Stored P)) → IsClosedTable caps parties good table → (w : World P) (level : ℕ)
      (xs : List (Made M)) (w' : World P) → IsGoodWorld caps good w → IsStored table level w
      → world_after_all parties w xs ≡ Some w' → Found table (level + length xs) w'
  reached table closed w level [] w' h i walk =
      let is : w ≡ w' = ap (λ z. unwrap_or z w) walk in
      subst (Found table (level + 0)) is
      (record {
        stored = record { at = i.at; within = i.within; soon = omega (arith, i.soon); keys = i.keys };
        is_world = h;
      })
  reached table closed w level (y ∷ xs) w' h i walk =
      go (λ a level' ha ia e. reached table closed a level' xs w' ha ia e)
      (world_after parties w y.move y.reply) refl walk
    where
      go : ((a : World P) (level' : ℕ) → IsGoodWorld caps good a → IsStored table level' a
          → world_after_all parties a xs ≡ Some w' → Found table (level' + length xs) w')
          → (o : Option (World P)) → world_after parties w y.move y.reply ≡ o
          → option_and_then (λ v. world_after_all parties v xs) o ≡ Some w'
          → Found table (level + length (y ∷ xs)) w'
      go more None e walk = absurd cc
      go more (Some a) e walk =
          let f = worlds-answer w a i.at.world y.move y.reply h (closed.worlds i.at i.within) i.keys e in
          let next = closed.closed i.at f.v' y.move f.reply' i.within f.leads in
          let last = more a (level + 1) f.left (record {
            at = next.at;
            within = next.within;
            soon = omega (arith, next.soon, i.soon);
            keys = same-keys a f.v' next.at.world f.keys next.keys;
          }) walk in
          record {
            stored = record {
              at = last.stored.at;
              within = last.stored.within;
              soon = omega (arith, last.stored.soon);
              keys = last.stored.keys;
            };
            is_world = last.is_world;
          }

  -- so each move that may come after any moves is in the table, as early as it may come
  pub closed-tells-all : (table : List (Stored P)) → IsClosedTable caps parties good table → (w : World P)
      → IsGoodWorld caps good w → IsStored table 0 w → (xs : List (Made M)) (a b : World P) (move : M) (reply : Reply)
      → world_after_all parties w xs ≡ Some a → world_after parties a move reply ≡ Some b
      → IsInTable caps parties good table (length xs) a b move reply
  closed-tells-all table closed w h i xs a b move reply walk step =
      let r = reached table closed w 0 xs a h i walk in
      let at = r.stored.at in
      record {
        stored = record {
          at = at;
          within = r.stored.within;
          soon = omega (arith, r.stored.soon);
          keys = r.stored.keys;
        };
        same = worlds-answer a b at.world move reply r.is_world (closed.worlds at r.stored.within) r.stored.keys step;
      }

  -- a search that tried each move from each stored world has a closed table
  pub searched-closed : (table : List (Stored P)) → IsSearchedTable caps parties good table
      → IsClosedTable caps parties good table
  searched-closed table search = record {
    worlds = search.worlds;
    closed = λ x w' move reply i step.
        let t = search.tried x w' move reply i step in
        let w = search.worlds x i in
        let same = worlds-agree x.world w' x.world t.world' move reply t.reply' w w
        (record { places = refl; keys = refl })
        t.queues step t.leads in
        record {
          at = t.stored.at;
          within = t.stored.within;
          soon = t.stored.soon;
          keys = same-keys w' t.world' t.stored.at.world same t.stored.keys;
        };
  }
