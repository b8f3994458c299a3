-- The keys of a table are those of worlds to which moves lead, and of all of them where each stored world was expanded.
use Rattle.std.proofs.Common.{◌≡◌, ℕ, ◌+◌, ◌≤◌, Bool, true, false, List, [], ◌∷◌, Option, Some, None, refl, sym, ap, ◌∙◌}
use Rattle.std.proofs.Common.{◌<◌, subst, length, arith}
use Rattle.std.specs.Prelude.{option_and_then, unwrap_or, slice_get, ◌-◌}
use Rattle.std.proofs.lemmas.{List.{length-map}, Option.{same_Some}}
use Rattle.dsa_seen.specs.Table.{HasOneNumberEach}
use Rattle.dsa_base.specs.Lists.{In}
use Rattle.dsa_regs.specs.declared.Caps.{Caps}
use Rattle.dsa_keys.specs.Parties.{Parties, World, Made, Stored, AreLawful, IsGoodWorld, HaveEqualKeys}
use Rattle.dsa_keys.specs.Parties.{IsStored, IsClosedTable, world_after, world_after_all}
use Rattle.dsa_keys.proofs.Parties.{worlds-answer}
use Rattle.dsa_explore.specs.Search.{Space, IsFine, IsLawfulSpace, IsReached, IsWorldTable, AreWritten}
use Rattle.dsa_explore.specs.{Counted.{AreKeysReached, IsKeyReached, NeedsMoves}, Stored.{last_level}}
use Rattle.dsa_explore.proofs.Growth.{In-get, get-at, get-both, get-mapped}
use Rattle.dsa_explore.proofs.Tables.{stored-as}
use Rattle.dsa_explore.proofs.Whole.{In-place}

module _ {P M : Type 0} (caps : Caps) (parties : Parties P M) (good : World P → Bool)
    (lawful : AreLawful caps parties good) (table : List (Stored P)) (closed : IsClosedTable caps parties good table)
  where
    -- each world to which moves lead is stored
    pub walk-stored : (w : World P) (level : ℕ) (xs : List (Made M)) (w' : World P) → IsGoodWorld caps good w
        → IsStored table level w → world_after_all parties w xs ≡ Some w' → IsStored table (level + length xs) w'
    walk-stored w level [] w' h i walk =
        let is : w ≡ w' = ap (λ z. unwrap_or z w) walk in
        subst (IsStored table (level + 0)) is
        (record { at = i.at; within = i.within; soon = omega (arith, i.soon); keys = i.keys })
    walk-stored w level (y ∷ xs) w' h i walk =
        go (λ a level' ha ia e. walk-stored a level' xs w' ha ia e) (world_after parties w y.move y.reply) refl walk
      where
        go : ((a : World P) (level' : ℕ) → IsGoodWorld caps good a → IsStored table level' a
            → world_after_all parties a xs ≡ Some w' → IsStored table (level' + length xs) w')
            → (o : Option (World P)) → world_after parties w y.move y.reply ≡ o
            → option_and_then (λ v. world_after_all parties v xs) o ≡ Some w'
            → IsStored table (level + length (y ∷ xs)) w'
        go more None e walk = absurd cc
        go more (Some a) e walk =
            let f = worlds-answer caps parties good lawful w a i.at.world y.move y.reply h
            (closed.worlds i.at i.within) i.keys e in
            let next = closed.closed i.at f.v' y.move f.reply' i.within f.leads in
            let last = more a (level + 1) f.left (stored-as table (level + 1) a f.v' f.keys (record {
              at = next.at;
              within = next.within;
              soon = omega (arith, next.soon, i.soon);
              keys = next.keys;
            })) walk in
            record { at = last.at; within = last.within; soon = omega (arith, last.soon); keys = last.keys }

module _ {P M : Type 0} (space : Space P M) (lawful : IsLawfulSpace space)
    (byte-keys : (w v : World P) → HaveEqualKeys w v → space.bytes_of w ≡ space.bytes_of v) (first : World P)
    (keys : List (List ℕ)) (levels : List ℕ) (front depth : ℕ) (table : List (Stored P))
    (is : IsWorldTable space first keys levels front table) (written : AreWritten space keys table)
    (low : (x : Stored P) → In x table → x.level ≤ depth) where
  sound : (bytes : List ℕ) → In bytes keys → IsKeyReached space.parties space.bytes_of first depth bytes
  sound bytes i =
      let p = In-place bytes keys i in
      let x = get-both keys table p.0 bytes is.count p.1 in
      let within = In-get table p.0 x.0 x.1 in
      record {
        world = x.0.world;
        steps = x.0.level;
        reached = (is.worlds x.0 within).reached;
        soon = low x.0 within;
        same = written p.0 bytes x.0 p.1 x.1;
      }

  pub keys-of-some : AreKeysReached space.parties space.bytes_of first depth false keys
  keys-of-some = record { sound = sound; complete = λ e. absurd cc }

  pub keys-of-all : IsFine space first → IsClosedTable space.caps space.parties space.good table
      → AreKeysReached space.parties space.bytes_of first depth true keys
  keys-of-all fine closed = record {
    sound = sound;
    complete = λ e steps w r.
        let begin : IsStored table 0 first = record {
          at = record { level = 0; world = first };
          within = is.begin;
          soon = omega arith;
          keys = record { places = refl; keys = refl };
        } in
        let s = walk-stored space.caps space.parties space.good lawful.lawful table closed first 0 r.moves w fine.good
        begin r.leads in
        let p = In-place s.at table s.within in
        let b = get-both table keys p.0 s.at (sym is.count) p.1 in
        let same : b.0 ≡ space.bytes_of w =
        sym (byte-keys w s.at.world s.keys ∙ written p.0 b.0 s.at b.1 p.1) in
        subst (λ (l : List ℕ). In l keys) same (In-get keys p.0 b.0 b.1);
  }

  -- the world that was stored last needs as many moves as its level says
  pub deep-of-all : IsFine space first → IsClosedTable space.caps space.parties space.good table → 0 < length keys
      → HasOneNumberEach keys → NeedsMoves space.parties space.bytes_of first (last_level levels)
  deep-of-all fine closed some once =
      let n = length levels - 1 in
      let many : length table ≡ length levels = sym (length-map table (λ (x : Stored P). x.level))
      ∙ ap length is.levelled in
      let z = get-at table n (omega (arith, some, is.count, many)) in
      let b = get-both table keys n z.0 (sym is.count) z.1 in
      let last : z.0.level ≡ last_level levels = ap (λ o. unwrap_or o 0)
      (sym (get-mapped (λ (x : Stored P). x.level) table n z.0 z.1) ∙ ap (λ (l : List ℕ). slice_get l n) is.levelled) in
      record {
        world = z.0.world;
        reached = subst (λ (m : ℕ). IsReached space.parties first m z.0.world) last
            (is.worlds z.0 (In-get table n z.0 z.1)).reached;
        least = λ steps w r same.
            let begin : IsStored table 0 first = record {
              at = record { level = 0; world = first };
              within = is.begin;
              soon = omega arith;
              keys = record { places = refl; keys = refl };
            } in
            let s = walk-stored space.caps space.parties space.good lawful.lawful table closed first 0 r.moves w
            fine.good begin r.leads in
            let p = In-place s.at table s.within in
            let k = get-both table keys p.0 s.at (sym is.count) p.1 in
            let bytes : k.0 ≡ b.0 = sym (written p.0 k.0 s.at k.1 p.1) ∙ sym (byte-keys w s.at.world s.keys) ∙ same
            ∙ written n b.0 z.0 b.1 z.1 in
            let number : p.0 ≡ n = once p.0 n b.0 (k.1 ∙ ap (λ (x : List ℕ). Some x) bytes) b.1 in
            let level : s.at.level ≡ z.0.level = ap (λ (x : Stored P). x.level)
            (same_Some s.at z.0 (sym p.1 ∙ ap (slice_get table) number ∙ z.1)) in
            omega (arith, s.soon, r.count, level, last);
      }
