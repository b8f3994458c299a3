-- The read buffers in use, as one list of one engine changes.
use Rattle.std.proofs.Common.{◌≡◌, ℕ, ◌+◌, ◌-◌, ◌*◌, ◌<◌, ◌≤◌, ◌≢◌, Bool, cond, ◌&&◌, nat_lt, List, [], ◌∷◌, ◌++◌}
use Rattle.std.proofs.Common.{length, set, get_or, Option, Some, None, refl, sym, ◌∙◌, ap, arith, inl, inr, ◌⊎◌, false}
use Rattle.std.proofs.lemmas.List.{get_or-set_same, get_or-set_other, set-get_or, nil_from_length}
use Rattle.std.proofs.lemmas.{List.Sums.{sum_by-cons, sum_by-append, sum_by_push, sum_by-set}, Bool.{cases_lt, lt-ltb}}
use Rattle.std.specs.List.{filter, sum_by}
use Rattle.dsa_base.specs.Numbers.{has, numbers_below}
use Rattle.dsa_base.proofs.NumberLists.{length-each, raised-table, given-back, same-table, zero-table}
use Rattle.dsa_base.proofs.{NumberSums.{sum-raised, zero-sum}, FirstPlaces.{hit-at}}
use Rattle.dsa_regs.specs.declared.{Caps.{Caps}, GroupConfig.{GroupConfig}}
use Rattle.dsa_regs.specs.declared.layout.ListUse.TheVariants.{Progress, Members}
use Rattle.dsa_regs.specs.{Caps.{list_number}, Config.{zero_group, group_at}}
use Rattle.dsa_store.specs.{declared.entry.Entry.{Entry}, Content.{HeldEntry, Content, chain, held_count}}
use Rattle.dsa_store.proofs.Lists.{length-le-held}
use Rattle.dsa_book.specs.State.{Setup, is_off, need_of, held_by}
use Rattle.dsa_book.specs.Work.{used_on, used, all_used, group_in, progress_list, member_list}
use Rattle.dsa_engines.specs.Engines.{EnginesState, IsInStep, lists_alone, is_running, buffers_of, buffers_at_rest, Holds}
use Rattle.dsa_engines.{specs.Engines.{buffers_after_return}, proofs.Homes.{one-group, home-of}}

module _ (setup : Setup) where
  -- what the entries of a list hold
  pub load : List HeldEntry → ℕ
  load l = sum_by (λ pair. held_by setup pair.1) l

  -- without entries nothing is held
  pub load-nil : load [] ≡ 0
  unfolding load
  load-nil = refl

  -- two lists one after the other hold what both do
  pub load-append : (a b : List HeldEntry) → load (a ++ b) ≡ load a + load b
  unfolding load
  load-append = sum_by-append (λ pair. held_by setup pair.1)

  -- one entry more
  pub load-cons : (s : HeldEntry) (l : List HeldEntry) → load (s ∷ l) ≡ held_by setup s.1 + load l
  unfolding load
  load-cons = sum_by-cons (λ pair. held_by setup pair.1)

  -- and that at the end
  pub load-push : (l : List HeldEntry) (s : HeldEntry) → load (l ++ s ∷ []) ≡ load l + held_by setup s.1
  unfolding load
  load-push = sum_by_push (λ pair. held_by setup pair.1)

  -- another in the place of one
  pub load-set : (l : List HeldEntry) (k : ℕ) (s d : HeldEntry) → k < length l
      → load (set l k s) + held_by setup (get_or l k d).1 ≡ load l + held_by setup s.1
  unfolding load
  load-set = sum_by-set (λ pair. held_by setup pair.1)

  -- what one entry holds, by whether it runs
  pub held-is : {b : Bool} (entry : Entry) → entry.running ≡ b → held_by setup entry ≡ cond b (need_of setup entry) 0
  held-is entry is = ap (λ (running : Bool). cond {A = ℕ} running (need_of setup entry) 0) is

  -- where none runs nothing is held
  pub none-load : (l : List HeldEntry) → filter is_running l ≡ [] → load l ≡ 0
  none-load [] h = load-nil
  none-load (s ∷ l) h = grind (arith, load-cons s l, none-load l)

  -- an engine holds what its two lists do
  used_on-loads : (c : Content) (e : ℕ) → e < setup.caps.engines
      → used_on (lists_alone setup c) e ≡ load (chain c (progress_list setup e)) + load (chain c (member_list setup e))
  unfolding load
  used_on-loads c e h = rw (lt-ltb e setup.caps.engines h)
      (load-append (chain c (progress_list setup e)) (chain c (member_list setup e)))

  -- one that the device does not have holds nothing
  used_on-past : (c : Content) (e : ℕ) → setup.caps.engines ≤ e → used_on (lists_alone setup c) e ≡ 0
  used_on-past c e h = let past : nat_lt e setup.caps.engines ≡ false = grind arith in rw past refl

-- the list is one of the engine's
abbrev pub IsMine : Setup → ℕ → ℕ → Type 0
IsMine setup e i = (i ≡ progress_list setup e) ⊎ (i ≡ member_list setup e)

-- where its two lists hold the same, so does the engine
pub used_on-same : (setup more : Setup) (c now : Content) (e : ℕ) → more.caps ≡ setup.caps
    → ((j : ℕ) → e < setup.caps.engines → IsMine setup e j → load more (chain now j) ≡ load setup (chain c j))
    → used_on (lists_alone more now) e ≡ used_on (lists_alone setup c) e
used_on-same setup more c now e same lists =
    let engines = ap (λ (x : Caps). x.engines) same in
    elim (cases_lt e setup.caps.engines) [
      | inl h ↦
          used_on-loads more now e (omega (arith, h, engines))
          ∙ ap (λ (x : Caps). load more (chain now (list_number x (Progress e)))
          + load more (chain now (list_number x (Members e)))) same
          ∙ omega (
            arith,
            lists (progress_list setup e) h (inl refl),
            lists (member_list setup e) h (inr refl),
            used_on-loads setup c e h,
          )
      | inr past ↦ used_on-past more now e (omega (arith, past, engines)) ∙ sym (used_on-past setup c e past)
    ]

-- the list i, which is one of engine e's, holds n more, and no other list of an engine has changed
pub record HoldsMore (setup : Setup) (before after : Content) (e i n : ℕ) : Type 0 where
  pub engine : e < setup.caps.engines
  pub list : IsMine setup e i
  pub others : (j : ℕ) → setup.caps.queues ≤ j → j ≢ i → chain after j ≡ chain before j
  pub mine : load setup (chain after i) ≡ load setup (chain before i) + n

module _ {setup : Setup} {before after : Content} {e i n : ℕ} (h : HoldsMore setup before after e i n) where
  -- another list of an engine holds what it did
  same-load : (j : ℕ) → setup.caps.queues ≤ j → j ≢ i → load setup (chain after j) ≡ load setup (chain before j)
  same-load j low ne = ap (load setup) (h.others j low ne)

  -- so does another engine
  same-engine : (k : ℕ) → k ≢ e → used_on (lists_alone setup after) k ≡ used_on (lists_alone setup before) k
  same-engine k ne =
      used_on-same setup setup before after k refl (λ j lt is. same-load j (omega arith) (omega arith))

  -- and this engine holds n more
  more-engine : used_on (lists_alone setup after) e ≡ used_on (lists_alone setup before) e + n
  more-engine =
      let old = used_on-loads setup before e h.engine in
      let new = used_on-loads setup after e h.engine in
      let first = same-load (progress_list setup e) (omega arith) in
      let second = same-load (member_list setup e) (omega arith) in
      elim h.list [
        | inl is ↦ omega (arith, old, new, rw is at h.mine, second (omega arith))
        | inr is ↦ omega (arith, old, new, rw is at h.mine, first (omega arith))
      ]

  -- what a group has in use, by whether it has the engine
  group-raised : (k : ℕ) → used (lists_alone setup after) k ≡ used (lists_alone setup before) k
      + cond (nat_lt e setup.caps.engines && has (group_at setup.groups k).engines e) n 0
  group-raised k = sum-raised (has (group_at setup.groups k).engines) (used_on (lists_alone setup before))
      (used_on (lists_alone setup after)) e n same-engine more-engine setup.caps.engines

module _ {cells : ℕ} {setup : Setup} {engines_state : EnginesState} {content : Content} (s : IsInStep setup engines_state cells content)
    (on : is_off setup.device ≡ false) {before after : Content} {e i n : ℕ}
    (h : HoldsMore setup before after e i n) where
  -- its group has n more in use
  all-raised : {g : ℕ} → group_in setup.groups e ≡ Some g → all_used (lists_alone setup after)
      ≡ set (all_used (lists_alone setup before)) g (get_or (all_used (lists_alone setup before)) g 0 + n)
  all-raised {g} is =
      let at = hit-at (λ (x : GroupConfig). has x.engines e) setup.groups zero_group g is in
      let groups = s.queues.groups in
      raised-table (used (lists_alone setup before)) (used (lists_alone setup after)) setup.caps.groups g n
      (omega (arith, at.0, groups))
      (λ k lt ne. grind (arith, group-raised h k, one-group s on h.engine {g = k} (omega (arith, lt, groups)), is, ne))
      (grind (arith, group-raised h g, at.1, h.engine))

  -- without a group nothing changes
  all-same : group_in setup.groups e ≡ None
      → all_used (lists_alone setup after) ≡ all_used (lists_alone setup before)
  all-same is =
      let groups = s.queues.groups in
      same-table (used (lists_alone setup before)) (used (lists_alone setup after)) setup.caps.groups
      (λ k lt. grind (arith, group-raised h k, one-group s on h.engine {g = k} (omega (arith, lt, groups)), is))

-- as an engine holds n less, its group, if it has one, gives n back
pub record GivesBack (setup : Setup) (engines_state : EnginesState) (after : Content) (e n : ℕ) : Type 0 where
  pub holds : Holds (get_or engines_state.homes e None) n engines_state.buffers
  pub given : buffers_after_return (get_or engines_state.homes e None) n engines_state.buffers ≡ buffers_of setup after

module _ {cells : ℕ} {setup : Setup} {engines_state : EnginesState} {content : Content} (s : IsInStep setup engines_state cells content)
    (on : is_off setup.device ≡ false) {after : Content} {e i : ℕ} where
  -- its group, if it has one, has n in use and gives them back
  pub gives-back : {n : ℕ} → HoldsMore setup after content e i n → GivesBack setup engines_state after e n
  gives-back {n} h = go (group_in setup.groups e) refl
    where
      go : (home : Option ℕ) → group_in setup.groups e ≡ home → GivesBack setup engines_state after e n
      go None is = record {
        holds = rw (home-of s on h.engine, is) tt;
        given = rw (home-of s on h.engine, is, s.buffers on, all-same s on h is) refl;
      }
      go (Some g) is =
          let at = hit-at (λ (x : GroupConfig). has x.engines e) setup.groups zero_group g is in
          let groups = s.queues.groups in
          let back = given-back (all_used (lists_alone setup content)) (all_used (lists_alone setup after)) g n
          (omega (arith, length-each (used (lists_alone setup after)) setup.caps.groups, at.0, groups))
          (all-raised s on h is) in
          record {
            holds = rw (home-of s on h.engine, is, s.buffers on) (at.0, back.0);
            given = rw (home-of s on h.engine, is, s.buffers on, back.1) refl;
          }

  -- as it holds n more, its group takes n
  pub taken-of : {g n : ℕ} → HoldsMore setup content after e i n → get_or engines_state.homes e None ≡ Some g
      → record engines_state.buffers { used = set engines_state.buffers.used g (get_or engines_state.buffers.used g 0 + n) }
      ≡ buffers_of setup after
  taken-of h home = rw (s.buffers on, all-raised s on h (sym (home-of s on h.engine) ∙ home)) refl

  -- where it holds what it did, nothing changes
  pub buffers-same : HoldsMore setup after content e i 0 → engines_state.buffers ≡ buffers_of setup after
  buffers-same h = sym (none (get_or engines_state.homes e None)) ∙ (gives-back h).given
    where
      none : (home : Option ℕ) → buffers_after_return home 0 engines_state.buffers ≡ engines_state.buffers
      none None = refl
      none (Some g) =
          let same : get_or engines_state.buffers.used g 0 - 0 ≡ get_or engines_state.buffers.used g 0 = omega arith in
          rw (same, set-get_or engines_state.buffers.used g 0) refl

-- a list of the engine that is written, and held n more before
pub written-less : {setup : Setup} {content : Content} {e i n : ℕ} (l : List HeldEntry)
    → length content ≡ setup.caps.queues + 2 * setup.caps.engines → e < setup.caps.engines → IsMine setup e i
    → load setup (chain content i) ≡ load setup l + n → HoldsMore setup (set content i l) content e i n
written-less {setup} {content} {e} {i} {n} l len he is more = record {
  engine = he;
  list = is;
  others = λ j low ne. sym (get_or-set_other content i j l [] ne);
  mine = rw (get_or-set_same content i l [] (omega (arith, len, he, is))) more;
}

-- ---- a device on which nothing is held

-- no engine holds anything
rest-on : (setup : Setup) (c : Content) (e : ℕ) → held_count c ≡ 0 → used_on (lists_alone setup c) e ≡ 0
rest-on setup c e h =
    elim (cases_lt e setup.caps.engines) [
      | inl lt ↦
          omega (arith, used_on-loads setup c e lt, empty (progress_list setup e), empty (member_list setup e))
      | inr past ↦ used_on-past setup c e past
    ]
  where
    empty : (i : ℕ) → load setup (chain c i) ≡ 0
    empty i = rw (nil_from_length (chain c i) (omega (arith, h, length-le-held c i))) (load-nil setup)

-- so no buffers are in use
pub buffers-at_rest : (setup : Setup) (c : Content) → length setup.groups ≡ setup.caps.groups → held_count c ≡ 0
    → buffers_at_rest setup ≡ buffers_of setup c
buffers-at_rest setup c len h =
    let zeros = zero-table (used (lists_alone setup c)) setup.caps.groups (λ k. zero-sum (used_on (lists_alone setup c))
    (filter (has (group_at setup.groups k).engines) (numbers_below setup.caps.engines)) (λ e. rest-on setup c e h)) in
    rw (len, zeros) refl
