-- Worlds that moves lead to, and what may come there.
use Rattle.std.proofs.Common.{◌≡◌, ℕ, ◌+◌, Bool, List, [], ◌∷◌, ◌++◌, Option, Some, None, refl, sym, ap, ◌∙◌, subst}
use Rattle.std.proofs.Common.{length, arith}
use Rattle.std.specs.Prelude.{option_and_then, unwrap_or}
use Rattle.dsa_base.specs.Lists.{In}
use Rattle.dsa_regs.specs.declared.Caps.{Caps}
use Rattle.dsa_book.specs.declared.answer.Reply.{Reply}
use Rattle.dsa_keys.specs.Parties.{Parties, World, Made, AreLawful, IsGoodWorld, HaveEqualKeys, world_after}
use Rattle.dsa_keys.specs.Parties.{world_after_all}
use Rattle.dsa_keys.proofs.Parties.{worlds-answer}
use Rattle.dsa_explore.specs.declared.found.{Finding.{Finding}}
use Rattle.dsa_explore.specs.{Findings.{findings_of}, Explored.{AskOf, MayCome}}
use Rattle.dsa_explore.specs.Search.{IsReached}
use Rattle.dsa_explore.proofs.Steps.{mirrored-findings}

pub reached-none : {P M : Type 0} (parties : Parties P M) (first : World P) → IsReached parties first 0 first
reached-none parties first = record { moves = []; leads = refl; count = refl }

pub walk-more : {P M : Type 0} (parties : Parties P M) (w v v' : World P) (xs : List (Made M)) (last : Made M)
    → world_after_all parties w xs ≡ Some v → world_after parties v last.move last.reply ≡ Some v'
    → world_after_all parties w (xs ++ last ∷ []) ≡ Some v'
walk-more parties w v v' [] last walk step =
    let is : w ≡ v = ap (λ z. unwrap_or z w) walk in
    ap (option_and_then (λ z. Some z)) (subst (λ z. world_after parties z last.move last.reply ≡ Some v') (sym is) step)
walk-more {P} {M} parties w v v' (x ∷ xs) last walk step =
    go (λ a walk'. walk-more parties a v v' xs last walk' step) (world_after parties w x.move x.reply) walk
  where
    go : ((a : World P) → world_after_all parties a xs ≡ Some v
        → world_after_all parties a (xs ++ last ∷ []) ≡ Some v') → (o : Option (World P))
        → option_and_then (λ a. world_after_all parties a xs) o ≡ Some v
        → option_and_then (λ a. world_after_all parties a (xs ++ last ∷ [])) o ≡ Some v'
    go more None walk = absurd cc
    go more (Some a) walk = more a walk

length-more : {X : Type 0} (xs : List X) (x : X) → length (xs ++ x ∷ []) ≡ length xs + 1
length-more [] x = refl
length-more (y ∷ ys) x = omega (arith, length-more ys x)

-- one move more
pub reached-more : {P M : Type 0} (parties : Parties P M) (first v v' : World P) (steps : ℕ) (move : M)
    (reply : Reply) → IsReached parties first steps v → world_after parties v move reply ≡ Some v'
    → IsReached parties first (steps + 1) v'
reached-more parties first v v' steps move reply r step = record {
  moves = r.moves ++ record { move = move; reply = reply } ∷ [];
  leads = walk-more parties first v v' r.moves (record { move = move; reply = reply }) r.leads step;
  count = omega (arith, r.count, length-more r.moves (record { move = move; reply = reply }));
}

-- what it tells may come
pub reached-tells : {P M : Type 0} (parties : Parties P M) (asks : AskOf P M) (first v v' : World P) (steps : ℕ)
    (move : M) (reply : Reply) (finding : Finding) → IsReached parties first steps v
    → world_after parties v move reply ≡ Some v' → In finding (findings_of (asks v.places move) v v' reply)
    → MayCome parties asks first (steps + 1) finding
reached-tells parties asks first v v' steps move reply finding r step i = record {
  moves = r.moves;
  before = v;
  leads = r.leads;
  last = record { move = move; reply = reply };
  after = v';
  ends = step;
  tells = i;
  count = omega (arith, r.count);
}

module _ {P M : Type 0} (caps : Caps) (parties : Parties P M) (good : World P → Bool)
    (lawful : AreLawful caps parties good) where
  -- as many moves lead from v to a world with the key of w'
  record HasSameWalk (count : ℕ) (w' v : World P) : Type 0 where
    walk : List (Made M)
    v' : World P
    leads : world_after_all parties v walk ≡ Some v'
    count_is : length walk ≡ count
    keys : HaveEqualKeys w' v'
    left : IsGoodWorld caps good w'
    right : IsGoodWorld caps good v'

  same-walk : (w w' v : World P) (xs : List (Made M)) → IsGoodWorld caps good w → IsGoodWorld caps good v
      → HaveEqualKeys w v → world_after_all parties w xs ≡ Some w' → HasSameWalk (length xs) w' v
  same-walk w w' v [] hw hv k walk =
      let is : w ≡ w' = ap (λ z. unwrap_or z w) walk in
      subst (λ (z : World P). HasSameWalk 0 z v) is
      (record { walk = []; v' = v; leads = refl; count_is = refl; keys = k; left = hw; right = hv })
  same-walk w w' v (x ∷ xs) hw hv k walk =
      go (λ a b ha hb kab walk'. same-walk a w' b xs ha hb kab walk') (world_after parties w x.move x.reply) refl walk
    where
      go : ((a b : World P) → IsGoodWorld caps good a → IsGoodWorld caps good b → HaveEqualKeys a b
          → world_after_all parties a xs ≡ Some w' → HasSameWalk (length xs) w' b) → (o : Option (World P))
          → world_after parties w x.move x.reply ≡ o
          → option_and_then (λ a. world_after_all parties a xs) o ≡ Some w' → HasSameWalk (length (x ∷ xs)) w' v
      go more None e walk = absurd cc
      go more (Some a) e walk =
          let f = worlds-answer caps parties good lawful w a v x.move x.reply hw hv k e in
          let rest = more a f.v' f.left f.right f.keys walk in
          record {
            walk = record { move = x.move; reply = f.reply' } ∷ rest.walk;
            v' = rest.v';
            leads = ap (option_and_then (λ z. world_after_all parties z rest.walk)) f.leads ∙ rest.leads;
            count_is = omega (arith, rest.count_is);
            keys = rest.keys;
            left = rest.left;
            right = rest.right;
          }

  -- what may come from one world may come from each with its key
  pub may-come-as : (asks : AskOf P M) (w v : World P) (steps : ℕ) (finding : Finding) → IsGoodWorld caps good w
      → IsGoodWorld caps good v → HaveEqualKeys w v → MayCome parties asks w steps finding
      → MayCome parties asks v steps finding
  may-come-as asks w v steps finding hw hv k may =
      let s = same-walk w may.before v may.moves hw hv k may.leads in
      let f = worlds-answer caps parties good lawful may.before may.after s.v' may.last.move may.last.reply s.left
      s.right s.keys may.ends in
      let told = mirrored-findings asks caps parties good lawful may.before may.after s.v' may.last.move
      may.last.reply s.keys f in
      record {
        moves = s.walk;
        before = s.v';
        leads = s.leads;
        last = record { move = may.last.move; reply = f.reply' };
        after = f.v';
        ends = f.leads;
        tells = subst (λ (l : List Finding). In finding l) told may.tells;
        count = omega (arith, may.count, s.count_is);
      }

  -- a world that moves lead to is a good one
  pub reached-good : (first w : World P) (steps : ℕ) → IsGoodWorld caps good first
      → IsReached parties first steps w → IsGoodWorld caps good w
  reached-good first w steps h r =
      (same-walk first w first r.moves h h (record { places = refl; keys = refl }) r.leads).left
