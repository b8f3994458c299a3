-- A table of worlds each of which was expanded has all that may come, and no later than it may.
use Rattle.std.proofs.Common.{◌≡◌, ℕ, ◌+◌, Bool, List, Option, Some}
use Rattle.std.proofs.Common.{refl, sym, ap, ◌∙◌, subst, arith}
use Rattle.dsa_base.specs.Lists.{In}
use Rattle.dsa_regs.specs.declared.Caps.{Caps}
use Rattle.dsa_book.specs.declared.answer.{Reply.{Reply, TheVariants.{Submit, Dispatch, Fetch, Start}}}
use Rattle.dsa_book.specs.declared.answer.{SubmitAnswer.TheVariants.{Accepted}, DispatchAnswer.TheVariants.{Taken}}
use Rattle.dsa_book.specs.declared.answer.{FetchAnswer.TheVariants.{Fetched}, StartAnswer.TheVariants.{Started}}
use Rattle.dsa_book.specs.Choice.{from_queue, choice_of}
use Rattle.dsa_keys.specs.Labels.{Labels, labelled_reply}
use Rattle.dsa_answers.specs.Alike.{TakeAlike}
use Rattle.dsa_keys.specs.Parties.{Parties, World, Stored, AreLawful, IsGoodWorld, HaveEqualKeys}
use Rattle.dsa_keys.specs.Parties.{IsStored, IsClosedTable, world_after}
use Rattle.dsa_keys.proofs.Parties.{worlds-answer, worlds-agree, closed-tells-all}
use Rattle.dsa_explore.specs.declared.found.{Finding.{Finding}, Found.{Found}}
use Rattle.dsa_explore.specs.{Explored.{AskOf, MayCome, IsFound}}
use Rattle.dsa_explore.specs.Search.{IsStepNoted, IsExpanded, IsTriedBy, queue_taken_from}
use Rattle.dsa_explore.proofs.Steps.{mirrored-findings, findings-agree}

pub same-keys : {P : Type 0} (u w v : World P) → HaveEqualKeys u w → HaveEqualKeys w v → HaveEqualKeys u v
same-keys u w v a b = record { places = a.places ∙ b.places; keys = a.keys ∙ b.keys }

pub other-keys : {P : Type 0} (w v : World P) → HaveEqualKeys w v → HaveEqualKeys v w
other-keys w v a = record { places = sym a.places; keys = sym a.keys }

-- what is stored for a world is stored for each with its key
pub stored-as : {P : Type 0} (table : List (Stored P)) (level : ℕ) (u w : World P) → HaveEqualKeys u w
    → IsStored table level w → IsStored table level u
stored-as table level u w k i = record {
  at = i.at;
  within = i.within;
  soon = i.soon;
  keys = same-keys u w i.at.world k i.keys;
}

-- ---- growth

pub stored-more : {P : Type 0} (table table' : List (Stored P)) (level : ℕ) (w : World P)
    → ((x : Stored P) → In x table → In x table') → IsStored table level w → IsStored table' level w
stored-more table table' level w more i = record {
  at = i.at;
  within = more i.at i.within;
  soon = i.soon;
  keys = i.keys;
}

pub found-more : (rows rows' : List Found) (level : ℕ) (finding : Finding) → ((r : Found) → In r rows → In r rows')
    → IsFound rows level finding → IsFound rows' level finding
found-more rows rows' level finding more f = record {
  row = f.row;
  within = more f.row f.within;
  same = f.same;
  soon = f.soon;
}

module _ {P M : Type 0} (asks : AskOf P M) (table table' : List (Stored P)) (rows rows' : List Found)
    (more : (x : Stored P) → In x table → In x table') (further : (r : Found) → In r rows → In r rows') where
  pub noted-more : (level : ℕ) (v : World P) (move : M) (reply : Reply) (v' : World P)
      → IsStepNoted asks table rows level v move reply v' → IsStepNoted asks table' rows' level v move reply v'
  noted-more level v move reply v' n = record {
    stored = stored-more table table' level v' more n.stored;
    told = λ finding i. found-more rows rows' level finding further (n.told finding i);
  }

  pub expanded-more : (parties : Parties P M) (level : ℕ) (v : World P)
      → IsExpanded parties asks table rows level v → IsExpanded parties asks table' rows' level v
  expanded-more parties level v all = λ v' move reply step.
      noted-more level v move reply v' (all v' move reply step)

-- ---- tries

pub from-queue : (reply : Reply) (q : ℕ) → choice_of reply ≡ from_queue q → queue_taken_from reply ≡ Some q
from-queue (Dispatch (Taken ticket p)) q e = cc
from-queue (Submit (Accepted ticket)) q e = absurd cc
from-queue (Fetch (Fetched ticket)) q e = absurd cc
from-queue reply q e = absurd cc

by-label : (m : Labels) (reply : Reply) → queue_taken_from (labelled_reply m reply) ≡ queue_taken_from reply
by-label m (Submit (Accepted ticket)) = refl
by-label m (Dispatch (Taken ticket p)) = refl
by-label m (Fetch (Fetched ticket)) = refl
by-label m (Start (Started ticket)) = refl
by-label m reply = refl

pub queues-agree : (m n : Labels) (reply reply' : Reply) → labelled_reply m reply ≡ labelled_reply n reply'
    → queue_taken_from reply ≡ queue_taken_from reply'
queues-agree m n reply reply' e = sym (by-label m reply) ∙ ap queue_taken_from e ∙ by-label n reply'

module _ {P M : Type 0} (caps : Caps) (parties : Parties P M) (asks : AskOf P M) (good : World P → Bool)
    (lawful : AreLawful caps parties good) where
  -- a step that was tried stands for each that takes from the same queue
  pub noted-alike : (table : List (Stored P)) (rows : List Found) (level : ℕ) (v v' u : World P) (move : M)
      (reply other : Reply) → IsGoodWorld caps good v → world_after parties v move reply ≡ Some v'
      → IsStepNoted asks table rows level v move reply v' → world_after parties v move other ≡ Some u
      → TakeAlike other reply → IsStepNoted asks table rows level v move other u
  noted-alike table rows level v v' u move reply other h step n step' alike =
      let k : HaveEqualKeys v v = record { places = refl; keys = refl } in
      let keys = worlds-agree caps parties good lawful v u v v' move other reply h h k alike step' step in
      let told = findings-agree asks caps parties good lawful v u v v' move other reply h h k alike step' step in
      record {
        stored = stored-as table level u v' keys n.stored;
        told = λ finding i. n.told finding (subst (λ (l : List Finding). In finding l) told i);
      }

  -- a world was expanded where one with its key was
  pub expanded-as : (table : List (Stored P)) (rows : List Found) (level : ℕ) (w v : World P)
      → IsGoodWorld caps good w → IsGoodWorld caps good v → HaveEqualKeys w v
      → IsExpanded parties asks table rows level v → IsExpanded parties asks table rows level w
  expanded-as table rows level w v hw hv k all = λ w' move reply step.
      let same = worlds-answer caps parties good lawful w w' v move reply hw hv k step in
      let n = all same.v' move same.reply' same.leads in
      let told = mirrored-findings asks caps parties good lawful w w' v move reply k same in
      record {
        stored = stored-as table level w' same.v' same.keys n.stored;
        told = λ finding i. n.told finding (subst (λ (l : List Finding). In finding l) told i);
      }

  -- a step that takes from the queue, where one was asked for, stands for each that does
  pub tried-by : (table : List (Stored P)) (rows : List Found) (level : ℕ) (v v' : World P) (move : M) (reply : Reply)
      (queue : Option ℕ) → IsGoodWorld caps good v → world_after parties v move reply ≡ Some v'
      → ((q p : ℕ) → queue ≡ Some q → queue_taken_from reply ≡ Some p → q ≡ p)
      → IsStepNoted asks table rows level v move reply v' → IsTriedBy parties asks table rows level v move queue
  tried-by table rows level v v' move reply queue h step fits n = λ u other step' from.
      noted-alike table rows level v v' u move reply other h step n step'
      (λ q p is is'. fits q p (sym from ∙ from-queue other q is) (from-queue reply p is'))

  -- what was tried in a world was tried in each with its key
  pub tried-as : (table : List (Stored P)) (rows : List Found) (level : ℕ) (w v : World P) (move : M)
      (queue : Option ℕ) → IsGoodWorld caps good w → IsGoodWorld caps good v → HaveEqualKeys w v
      → IsTriedBy parties asks table rows level v move queue → IsTriedBy parties asks table rows level w move queue
  tried-as table rows level w v move queue hw hv k tried = λ w' reply step from.
      let same = worlds-answer caps parties good lawful w w' v move reply hw hv k step in
      let alike = queues-agree w'.labels same.v'.labels reply same.reply' same.replies in
      let n = tried same.v' same.reply' same.leads (sym alike ∙ from) in
      let told = mirrored-findings asks caps parties good lawful w w' v move reply k same in
      record {
        stored = stored-as table level w' same.v' same.keys n.stored;
        told = λ finding i. n.told finding (subst (λ (l : List Finding). In finding l) told i);
      }

  -- all was tried, where each move that may come is listed
  pub all-tried : (table : List (Stored P)) (rows : List Found) (level : ℕ) (w v : World P)
      (Listed : M → Option ℕ → Type 0) → IsGoodWorld caps good w → IsGoodWorld caps good v → HaveEqualKeys w v
      → ((v' : World P) (move : M) (reply : Reply) → world_after parties v move reply ≡ Some v'
      → Listed move (queue_taken_from reply))
      → ((move : M) (queue : Option ℕ) → Listed move queue → IsTriedBy parties asks table rows level w move queue)
      → IsExpanded parties asks table rows level w
  all-tried table rows level w v Listed hw hv k covers tried = λ w' move reply step.
      let same = worlds-answer caps parties good lawful w w' v move reply hw hv k step in
      let alike = queues-agree w'.labels same.v'.labels reply same.reply' same.replies in
      let i = covers same.v' move same.reply' same.leads in
      tried move (queue_taken_from reply) (subst (Listed move) (sym alike) i) w' reply step refl

  -- ---- the whole search

  -- each stored world is a good one, and was expanded
  pub record IsWhole (table : List (Stored P)) (rows : List Found) : Type 0 where
    pub worlds : (x : Stored P) → In x table → IsGoodWorld caps good x.world
    pub expanded : (x : Stored P) → In x table → IsExpanded parties asks table rows (x.level + 1) x.world

  pub whole-closed : (table : List (Stored P)) (rows : List Found) → IsWhole table rows
      → IsClosedTable caps parties good table
  whole-closed table rows whole = record {
    worlds = whole.worlds;
    closed = λ x w' move reply i step. (whole.expanded x i w' move reply step).stored;
  }

  -- then all that may come is found
  pub whole-complete : (table : List (Stored P)) (rows : List Found) (first : World P) → IsWhole table rows
      → IsGoodWorld caps good first → IsStored table 0 first → (steps : ℕ) (finding : Finding)
      → MayCome parties asks first steps finding → IsFound rows steps finding
  whole-complete table rows first whole h i steps finding may =
      let r = closed-tells-all caps parties good lawful table (whole-closed table rows whole) first h i may.moves
      may.before may.after may.last.move may.last.reply may.leads may.ends in
      let x = r.stored.at in
      let told = mirrored-findings asks caps parties good lawful may.before may.after x.world may.last.move
      may.last.reply r.stored.keys r.same in
      let n = whole.expanded x r.stored.within r.same.v' may.last.move r.same.reply' r.same.leads in
      let f = n.told finding (subst (λ (l : List Finding). In finding l) told may.tells) in
      record {
        row = f.row;
        within = f.within;
        same = f.same;
        soon = omega (arith, f.soon, r.stored.soon, may.count);
      }
