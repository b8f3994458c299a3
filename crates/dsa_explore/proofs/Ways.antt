-- The ways to stored worlds.
use Rattle.std.proofs.Common.{◌≡◌, ℕ, zero, suc, ◌+◌, ◌<◌, List, [], ◌∷◌, ◌++◌, Some, None, refl, sym, ap, ◌∙◌, subst}
use Rattle.std.proofs.Common.{◌==◌, false, length, length-append, reverse, drop, get_or, arith, Option, Result, Ok, Err, IfOk, IfErr, IfSome}
use Rattle.std.proofs.Common.{IfNone}
use Rattle.std.specs.Prelude.{slice_get}
use Rattle.std.proofs.lemmas.{Option.{same_Some}, List.{length-map, reverse-append, drop_more, length-reverse}}
use Rattle.dsa_book.specs.declared.answer.Reply.{Reply}
use Rattle.dsa_keys.specs.Parties.{World, Made, Stored, HaveEqualKeys, world_after, world_after_all}
use Rattle.dsa_keys.proofs.Parties.{worlds-answer, worlds-agree}
use Rattle.dsa_parties.specs.declared.places.Move.{Move}
use Rattle.dsa_explore.specs.declared.stored.{Node.{Node}, Search.{Search}, Try.{Try}}
use Rattle.dsa_explore.specs.Search.{Space, IsFine, IsLawfulSpace, IsReached, queue_taken_from}
use Rattle.dsa_explore.specs.{Trying.{IsSearch}}
use Rattle.dsa_explore.specs.Ways.{IsWay, TellWays}
use Rattle.dsa_explore.proofs.Growth.{In-get, get-both, get-below, get-mapped, fine-more}
use Rattle.dsa_explore.proofs.Tables.{from-queue, queues-agree, other-keys}

-- ---- what a search tells

begin-world : {P M : Type 0} (parties : _) (first w : World P) (steps : ℕ) → IsReached {P = P} {M = M} parties first steps w
    → steps ≡ 0 → first ≡ w
begin-world {P} {M} parties first w steps r none = go r.moves r.count r.leads
  where
    go : (moves : List (Made M)) → steps ≡ length moves → world_after_all parties first moves ≡ Some w → first ≡ w
    go [] count leads = same_Some first w leads
    go (m ∷ moves) count leads = absurd (omega (arith, count, none))

pub tell-ways : {P : Type 0} (space : Space P Move) (first : World P) (search : Search) (table : List (Stored P))
    → IsSearch space first search table → TellWays space first search.nodes.items table
tell-ways {P} space first search table is = record {
  levels = λ i node x here at. same_Some node.level x.level
      (sym (get-mapped (λ (n : Node). n.level) search.nodes.items i node here)
      ∙ sym (ap (λ (l : List ℕ). slice_get l i) is.table_is.levelled)
      ∙ get-mapped (λ (y : Stored P). y.level) table i x at);
  each = λ i x at. get-both table search.nodes.items i x as-many at;
  begin = λ i x at low. begin-world space.parties first x.world x.level
      (is.table_is.worlds x (In-get table i x at)).reached low;
  told = is.told;
}
  where
    as-many : length table ≡ length search.nodes.items
    as-many = sym (length-map table (λ (y : Stored P). y.level)) ∙ ap length is.table_is.levelled
        ∙ length-map search.nodes.items (λ (n : Node). n.level)

-- a level that is not 0
pub beyond : (level : ℕ) → (level == 0) ≡ false → 0 < level
beyond zero e = absurd cc
beyond (suc n) e = omega arith

-- ---- answers in answers

pub map-ok : {A E : Type 0} (r : Result A E) {S T : A → Type 0} → IfOk r S → ((x : A) → S x → T x) → IfOk r T
map-ok (Ok x) s f = f x s
map-ok (Err e) s f = tt

pub both-ok : {A E : Type 0} (r : Result A E) {S T U : A → Type 0} → IfOk r S → IfOk r T
    → ((x : A) → S x → T x → U x) → IfOk r U
both-ok (Ok x) s t f = f x s t
both-ok (Err e) s t f = tt

pub map-err : {A E : Type 0} (r : Result A E) {S T : E → Type 0} → IfErr r S → ((e : E) → S e → T e) → IfErr r T
map-err (Ok x) s f = tt
map-err (Err e) s f = f e s

pub map-some : {A : Type 0} (o : Option A) {S T : A → Type 0} → IfSome o S → ((x : A) → S x → T x) → IfSome o T
map-some None s f = tt
map-some (Some x) s f = f x s

pub map-none : {A : Type 0} (o : Option A) {S T : Type 0} → IfNone o S → (S → T) → IfNone o T
map-none None s f = f s
map-none (Some x) s f = tt

-- ---- a way that is followed back

-- the tries so far lead from the stored world of this number to x
pub record IsPart {P : Type 0} (space : Space P Move) (table : List (Stored P)) (at : ℕ) (path : List Try)
    (x : Stored P) : Type 0 where
  pub y : Stored P
  pub here : slice_get table at ≡ Some y
  pub way : IsWay space y.world (reverse path) x.world
  pub count : length path + y.level ≡ x.level

pub part-none : {P : Type 0} (space : Space P Move) (table : List (Stored P)) (number : ℕ) (x : Stored P)
    → slice_get table number ≡ Some x → IsPart space table number [] x
part-none space table number x at = record { y = x; here = at; way = refl; count = omega arith }

module _ {P : Type 0} (space : Space P Move) (first : World P) (nodes : List Node) (table : List (Stored P))
    (tell : TellWays space first nodes table) (x : Stored P) where
  -- there is a node
  pub part-node : (at : ℕ) (path : List Try) → IsPart space table at path x → slice_get nodes at ≡ None → ⊥
  part-node at path part none =
      let node = tell.each at part.y part.here in
      let bad : None ≡ Some node.0 = sym none ∙ node.1 in
      absurd cc

  -- at level 0 the way is whole
  pub part-whole : (at : ℕ) (node : Node) (path : List Try) → IsPart space table at path x
      → slice_get nodes at ≡ Some node → node.level ≡ 0
      → IsWay space first (reverse path) x.world × (length (reverse path) ≡ x.level)
  part-whole at node path part here low =
      let level = tell.levels at node part.y here part.here in
      let begin = tell.begin at part.y part.here (sym level ∙ low) in (
        subst (λ (w : World P). IsWay space w (reverse path) x.world) (sym begin) part.way,
        omega (arith, length-reverse path, part.count, level, low),
      )

  -- else one more try leads there
  pub part-more : (at : ℕ) (node : Node) (path : List Try) → IsPart space table at path x
      → slice_get nodes at ≡ Some node → 0 < node.level
      → (node.parent < at) × IsPart space table node.parent (path ++ node.tried ∷ []) x
  part-more at node path part here high =
      let level = tell.levels at node part.y here part.here in
      let told = tell.told at node part.y here part.here (omega (arith, level, high)) in (
        told.before,
        record {
          y = told.parent;
          here = told.at;
          way = subst (λ (l : List Try). IsWay space told.parent.world l x.world)
              (sym (reverse-append path (node.tried ∷ []))) (part.y.world, (told.step, part.way));
          count = omega (arith, part.count, told.later, length-append path (node.tried ∷ []));
        },
      )

  pub nodes-below : (number : ℕ) → slice_get table number ≡ Some x → number < length nodes
  nodes-below number at = let node = tell.each number x at in get-below nodes number node.0 node.1

-- ---- a way that is walked

-- the world has the key of one from which the rest of the way leads on
pub record IsOnWay {P : Type 0} (space : Space P Move) (w : World P) (rest : List Try) (x : World P) : Type 0 where
  pub on : World P
  pub fine : IsFine space on
  pub keys : HaveEqualKeys w on
  pub way : IsWay space on rest x

module _ {P : Type 0} (space : Space P Move) (lawful : IsLawfulSpace space) where
  pub on-first : (w first x : World P) (path : List Try) → w ≡ first → IsFine space w → IsWay space first path x
      → IsOnWay space w path x
  on-first w first x path same fine way = record {
    on = first;
    fine = subst (IsFine space) same fine;
    keys = subst (λ (z : World P). HaveEqualKeys w z) same (record { places = refl; keys = refl });
    way = way;
  }

  -- a way goes on by the next try
  pub way-at : (w : World P) (path : List Try) (i : ℕ) (d : Try) (x : World P) → i < length path
      → IsOnWay space w (drop i path) x → IsOnWay space w (get_or path i d ∷ drop (i + 1) path) x
  way-at w path i d x below on = subst (λ (l : List Try). IsOnWay space w l x) (drop_more path i d below) on

  -- the next try can be made
  pub on-made : (w x : World P) (tried : Try) (rest : List Try) → IsFine space w
      → IsOnWay space w (tried ∷ rest) x
      → ((u : World P) (reply : Reply) → world_after space.parties w tried.by reply ≡ Some u
      → queue_taken_from reply ≡ tried.queue → ⊥) → ⊥
  on-made w x tried rest fine on cannot =
      let step = on.way.1.0 in
      let same = worlds-answer space.caps space.parties space.good lawful.lawful on.on on.way.0 w tried.by step.reply
      on.fine.good fine.good (other-keys w on.on on.keys) step.leads in
      cannot same.v' same.reply' same.leads
      (sym (queues-agree on.way.0.labels same.v'.labels step.reply same.reply' same.replies) ∙ step.taken)

  -- and leads on
  pub on-more : (w w' x : World P) (tried : Try) (rest : List Try) (reply : Reply) → IsFine space w
      → IsOnWay space w (tried ∷ rest) x → world_after space.parties w tried.by reply ≡ Some w'
      → ((q p : ℕ) → tried.queue ≡ Some q → queue_taken_from reply ≡ Some p → q ≡ p) → IsOnWay space w' rest x
  on-more w w' x tried rest reply fine on leads fits =
      let step = on.way.1.0 in
      record {
        on = on.way.0;
        fine = fine-more space lawful w on.on on.way.0 tried.by step.reply on.fine step.leads;
        keys = worlds-agree space.caps space.parties space.good lawful.lawful w w' on.on on.way.0 tried.by reply
            step.reply fine.good on.fine.good on.keys
            (λ q p is is'. sym (fits p q (sym step.taken ∙ from-queue step.reply p is') (from-queue reply q is)))
            leads step.leads;
        way = on.way.1.1;
      }

  -- at its end it is there
  pub on-end : (w x : World P) → IsOnWay space w [] x → IsFine space x × HaveEqualKeys w x
  on-end w x on = (subst (IsFine space) on.way on.fine, subst (λ (z : World P). HaveEqualKeys w z) on.way on.keys)
