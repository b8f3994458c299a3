-- The ways that a search keeps, and steps that tell the findings of its rows.
use Rattle.std.proofs.Common.{◌≡◌, ℕ, ◌+◌, ◌≤◌, ◌^◌, List, [], Option, Some, None, IfSome, IfNone, Bool, true, false, not, is_none, is_some, refl, sym, ap, ◌∙◌}
use Rattle.std.proofs.Common.{subst, length, arith}
use Rattle.std.specs.{Option.{option_eq}, Prelude.{eqb}}
use Rattle.std.proofs.lemmas.Bool.{eqb-false}
use Rattle.dsa_base.specs.Lists.{In}
use Rattle.dsa_regs.specs.declared.Caps.{Caps}
use Rattle.dsa_book.specs.declared.{answer.Reply.{Reply}, event.Event.{Event}}
use Rattle.dsa_keys.specs.Parties.{World, Stored, HaveEqualKeys, IsStored, world_after}
use Rattle.dsa_keys.proofs.Parties.{worlds-answer}
use Rattle.dsa_parties.specs.{declared.{places.Move.{Move}, script.Script.{Script}}, Standing.{Standing}}
use Rattle.dsa_explore.specs.declared.found.{Finding.{Finding}, Found.{Found}}
use Rattle.dsa_explore.specs.declared.{halting.Halt.{Halt}, search.Searched.{Searched}}
use Rattle.dsa_explore.specs.declared.stored.{Node.{Node}, Search.{Search}, Try.{Try}}
use Rattle.dsa_explore.specs.{Findings.{findings_of}, Search.{Space, IsFine, IsLawfulSpace, IsReached, queue_taken_from}}
use Rattle.dsa_explore.specs.{Halting.{IsHalted}, Kept.{KeepsWays}, Trying.{IsSearch, HasReached}}
use Rattle.dsa_explore.specs.{Walked.{space_of, IsFirst}, Ways.{IsTellingStep, TellWays, AreByLevel, AreRowsTold}}
use Rattle.dsa_explore.proofs.{Steps.{findings-agree, mirrored-findings}, Tables.{from-queue, queues-agree}}
use Rattle.dsa_explore.proofs.Ways.{tell-ways}

-- what holds where there is nothing
pub when-not : {X N : Type 0} (o : Option X) → is_some o ≡ false → IfNone o N → N
when-not None e n = n
when-not (Some x) e n = let clash : true ≡ false = e in absurd cc

-- equal levels do not differ
pub other-level : (o : Option ℕ) (a b : ℕ) → o ≡ Some a → a ≡ b → not (option_eq eqb o (Some b)) ≡ true → ⊥
other-level o a b is same differ = go (eqb a b) refl
    (subst (λ (o : Option ℕ). not (option_eq eqb o (Some b)) ≡ true) is differ)
  where
    go : (c : Bool) → eqb a b ≡ c → not c ≡ true → ⊥
    go true e d = let clash : false ≡ true = d in absurd cc
    go false e d = eqb-false a b e same

-- each world that can be reached is stored
abbrev HoldsAll : {P : Type 0} → Space P Move → World P → List (Stored P) → Type 0
HoldsAll {P} space first table = (steps : ℕ) (w : World P) → IsReached space.parties first steps w
    → IsStored table steps w

module _ {P : Type 0} (space : Space P Move) (lawful : IsLawfulSpace space) where
  -- what a try tells from one world it tells from each with its key
  pub telling-as : (w v : World P) (tried : Try) (finding : Finding) → IsFine space w → IsFine space v
      → HaveEqualKeys w v → IsTellingStep space w tried finding → IsTellingStep space v tried finding
  telling-as w v tried finding hw hv k t =
      let same = worlds-answer space.caps space.parties space.good lawful.lawful w t.after v tried.by t.reply hw.good
      hv.good k t.leads in
      let e = mirrored-findings space.asks space.caps space.parties space.good lawful.lawful w t.after v tried.by t.reply
      k same in
      record {
        reply = same.reply';
        after = same.v';
        leads = same.leads;
        taken = sym (queues-agree t.after.labels same.v'.labels t.reply same.reply' same.replies) ∙ t.taken;
        tells = subst (λ (l : List Finding). In finding l) e t.tells;
      }

  -- and whatever reply the try gets
  pub telling-made : (w w' : World P) (tried : Try) (reply : Reply) (finding : Finding) → IsFine space w
      → world_after space.parties w tried.by reply ≡ Some w'
      → ((q p : ℕ) → tried.queue ≡ Some q → queue_taken_from reply ≡ Some p → q ≡ p)
      → IsTellingStep space w tried finding
      → In finding (findings_of (space.asks w.places tried.by) w w' reply)
  telling-made w w' tried reply finding fine leads fits t =
      let e = findings-agree space.asks space.caps space.parties space.good lawful.lawful w w' w t.after tried.by reply
      t.reply fine.good fine.good (record { places = refl; keys = refl })
      (λ q p is is'. sym (fits p q (sym t.taken ∙ from-queue t.reply p is') (from-queue reply q is))) leads t.leads in
      subst (λ (l : List Finding). In finding l) (sym e) t.tells

  -- whether a search halts or not, it has stored worlds
  pub as-stored : (first : World P) (search : Search) (set_up : ℕ) (halted : Option Halt) {N : Type 0}
      {S : Halt → Type 0} → IfNone halted N → IfSome halted S → (N → HasReached space first search)
      → ((halt : Halt) → S halt → IsHalted space first set_up search halt)
      → (table : List (Stored P))
      × (IsSearch space first search table × (is_none halted ≡ true → HoldsAll space first table))
  as-stored first search set_up None whole stops f g = let r = f whole in (r.table, (r.is_search, λ e. r.all))
  as-stored first search set_up (Some halt) whole stops f g =
      let h = g halt stops in
      (h.table, (h.is_search, λ (e : false ≡ true). absurd cc))

module _ (caps : Caps) (script : Script) (setup : List Event) (first : World Standing)
    (begun : IsFirst caps script setup first) (search : Search) (searched : Searched)
    (nodes : searched.nodes.items ≡ search.nodes.items)
    (states : searched.explored.states ≡ length search.seen.strings)
    (rows : searched.explored.rows.items ≡ search.rows.items) where
  -- a search keeps the ways to its rows
  pub keeps-ways : (table : List (Stored Standing)) → IsSearch (space_of caps script) first search table
      → length setup + search.front ≤ 2 ^ 20
      → (searched.explored.is_complete ≡ true → HoldsAll (space_of caps script) first table)
      → KeepsWays caps script setup searched
  keeps-ways table is early all = record {
    first = first;
    begun = begun;
    table = table;
    count = omega (arith, states, is.table_is.count);
    ways = subst (λ (n : List Node). TellWays (space_of caps script) first n table) (sym nodes)
        (tell-ways (space_of caps script) first search table is);
    told = subst (λ (r : List Found). AreRowsTold (space_of caps script) table r) (sym rows) is.rows_told;
    worlds = λ x i. (is.table_is.worlds x i).reached;
    by_level = is.by_level;
    all = all;
    early = λ x i.
        let low = is.table_is.low x i in
        omega (arith, low, early);
    room = λ row i.
        let soon = is.rows_are.early row (subst (λ (r : List Found). In row r) rows i) in
        omega (arith, soon, early);
  }

  -- a search that stored nothing has none
  pub keeps-none : search.seen.strings ≡ [] → search.rows.items ≡ [] → searched.explored.is_complete ≡ false
      → KeepsWays caps script setup searched
  keeps-none none no-rows incomplete = record {
    first = first;
    begun = begun;
    table = [];
    count = sym (states ∙ ap length none);
    ways = record {
      levels = λ i node x here at. absurd cc;
      each = λ i x at. absurd cc;
      begin = λ i x at. absurd cc;
      told = λ i node x here at. absurd cc;
    };
    told = λ row i. absurd (subst (λ (r : List Found). In row r) (rows ∙ no-rows) i);
    worlds = λ x i. absurd i;
    by_level = record { rising = λ i j x y low at at'. absurd cc; early = λ i x at. absurd cc };
    all = λ complete. let clash : false ≡ true = sym incomplete ∙ complete in absurd cc;
    early = λ x i. absurd i;
    room = λ row i. absurd (subst (λ (r : List Found). In row r) (rows ∙ no-rows) i);
  }
