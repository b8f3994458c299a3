-- Which queues qualify, and what a dispatch leaves.
use Rattle.std.proofs.Common.{◌≡◌, ℕ, zero, suc, ◌+◌, ◌<◌, Bool, true, false, not, cond, ◌&&◌, ◌||◌, nat_lt}
use Rattle.std.proofs.Common.{List, [], ◌∷◌, ◌++◌, drop, length, set, get_or, Option, Some, None, slice_get, is_none}
use Rattle.std.proofs.Common.{refl, sym, ◌∙◌, inl, inr, arith}
use Rattle.std.proofs.lemmas.{Grind.{common_steps}, Bool.{cases_Bool, cases_lt, cases_eq, and_parts, lt-ltb, ltb-true}}
use Rattle.std.proofs.lemmas.List.{get_or-set_same, get_or-set_other, length-set, nil_from_length}
use Rattle.std.proofs.lemmas.List.Folds.{list_any-append}
use Rattle.std.specs.{Prelude.{IfSome, MatchOption}, Option.{IfNone}, List.{list_any}}
use Rattle.dsa_regs.specs.{declared.GroupConfig.{GroupConfig}, Config.{group_at, zero_group}, Buffers.{fits}}
use Rattle.dsa_base.{specs.Numbers.{has, numbers_below, IsNext, NoneFrom}, proofs.FirstPlaces.{hit-at}}
use Rattle.dsa_store.specs.Content.{HeldEntry, Content, chain, after_push, without_front}
use Rattle.dsa_store.proofs.Lists.{length-le-held, length-pushed}
use Rattle.dsa_book.specs.{State.{Setup, any_in, is_off, need_of, is_batch_of, is_drain_of}}
use Rattle.dsa_book.specs.Work.{progress_list, qualifies, group_in, as_running, with_note, opened_note}
use Rattle.dsa_engines.specs.Engines.{EnginesState, work, IsInStep, IsOpen}
use Rattle.dsa_engines.proofs.{Homes.{home-of}, Keeping.{awake-found, in_step-moved}}
use Rattle.dsa_engines.proofs.Used.{load-push, HoldsMore, taken-of}

-- ---- an engine with a slot left

module _ {cells : ℕ} {setup : Setup} {engines_state : EnginesState} {content : Content} {e : ℕ} {home : Option ℕ}
    (s : IsInStep setup engines_state cells content) (he : e < setup.caps.engines) (is : home ≡ get_or engines_state.homes e None) where
  -- without a group no queue qualifies
  pub no-home : IfNone home ((q : ℕ) → qualifies (work setup engines_state content []) e q ≡ false)
  no-home = go home is
    where
      go : (o : Option ℕ) → o ≡ get_or engines_state.homes e None
          → IfNone o ((q : ℕ) → qualifies (work setup engines_state content []) e q ≡ false)
      go (Some g) at = tt
      go None at = λ q. elim (cases_Bool (is_off setup.device)) [
        | inl off ↦
            let none = nil_from_length (chain content q) (omega (arith, s.idle off, length-le-held content q)) in
            rw none (grind (arith, common_steps))
        | inr on ↦ rw (sym (at ∙ home-of s on he)) (grind (arith, common_steps))
      ]

  -- and one that it has is its group
  pub open-home : length (chain content (progress_list setup e)) < setup.caps.slots
      → IfSome home (λ g. is_off setup.device ≡ false → IsOpen setup content e g)
  open-home pair = go home is
    where
      go : (o : Option ℕ) → o ≡ get_or engines_state.homes e None
          → IfSome o (λ g. is_off setup.device ≡ false → IsOpen setup content e g)
      go None at = tt
      go (Some g) at = λ on. record { engine = he; home = sym (at ∙ home-of s on he); pair = pair }

-- ---- the queue that is chosen

-- where none passes none is found
pub none-below : (p : ℕ → Bool) (N : ℕ) → ((k : ℕ) → p k ≡ false) → list_any p (numbers_below N) ≡ false
none-below p zero h = refl
none-below p (suc N) h =
    let here = h N in
    grind (arith, common_steps, list_any-append p (numbers_below N) (N ∷ []), none-below p N h, here)

-- what qualifies is a queue of the device
pub qualifying-queue : (setup : Setup) (engines_state : EnginesState) (content : Content) (e q : ℕ)
    → qualifies (work setup engines_state content []) e q ≡ true → q < setup.caps.queues
qualifying-queue setup engines_state content e q h = ltb-true q setup.caps.queues (and_parts _ _ (and_parts _ _ h).0).1

-- the best so far of the queues below n: one that qualifies, or none does
abbrev pub IsBest : Setup → EnginesState → Content → ℕ → ℕ → Option ℕ → Type 0
IsBest setup engines_state content e n best =
    MatchOption best ((q : ℕ) → q < n → qualifies (work setup engines_state content []) e q ≡ false)
    (λ queue. qualifies (work setup engines_state content []) e queue ≡ true)

module _ {cells : ℕ} {setup : Setup} {engines_state : EnginesState} {content : Content} {e g : ℕ}
    (s : IsInStep setup engines_state cells content) (group : is_off setup.device ≡ false → IsOpen setup content e g) where
  -- a queue that is not the group's does not qualify
  pub not-served : (q : ℕ) → has (group_at setup.groups g).queues q ≡ false
      → qualifies (work setup engines_state content []) e q ≡ false
  not-served q other = elim (cases_Bool (is_off setup.device)) [
    | inl off ↦
        let none = nil_from_length (chain content q) (omega (arith, s.idle off, length-le-held content q)) in
        rw none (grind (arith, common_steps))
    | inr on ↦ rw ((group on).home, other) (grind (arith, common_steps))
  ]

  -- one more queue of the group, with those before it that are not the group's, where it does not qualify
  pub next-best : {from queue : ℕ} (best : Option ℕ) → IsBest setup engines_state content e from best
      → IsNext (group_at setup.groups g).queues from queue
      → (best ≡ None → false ≡ qualifies (work setup engines_state content []) e queue)
      → IsBest setup engines_state content e (queue + 1) best
  next-best (Some other) before next none = before
  next-best {from = from} {queue = queue} None before next none = λ q low.
      elim (cases_lt q from) [
        | inl below ↦ before q below
        | inr past ↦ elim (cases_eq q queue) [
          | inl same ↦ rw same (sym (none refl))
          | inr other ↦ not-served q (next.first q past (omega (arith, low, other)))
        ]
      ]

  -- with none from there on, that is all
  pub last-best : {from : ℕ} (best : Option ℕ) → IsBest setup engines_state content e from best
      → NoneFrom (group_at setup.groups g).queues from
      → MatchOption best ((q : ℕ) → qualifies (work setup engines_state content []) e q ≡ false)
      (λ queue. qualifies (work setup engines_state content []) e queue ≡ true)
  last-best (Some queue) before none = before
  last-best {from = from} None before none = λ q.
      elim (cases_lt q from) [ inl below ↦ before q below | inr past ↦ not-served q (none q past) ]

-- ---- a queue with a front

module _ {cells : ℕ} {setup : Setup} {engines_state : EnginesState} {content : Content} {e g q : ℕ} {front : HeldEntry}
    (s : IsInStep setup engines_state cells content) (group : is_off setup.device ≡ false → IsOpen setup content e g)
    (hq : q < setup.caps.queues) (hf : slice_get (chain content q) 0 ≡ Some front) where
  -- while the device is Off there is no front
  on : is_off setup.device ≡ false
  on = awake-found s (λ (l : List HeldEntry). slice_get l 0) q refl hf

  pub taking-engine : e < setup.caps.engines
  taking-engine = (group on).engine

  home : group_in setup.groups e ≡ Some g
  home = (group on).home

  -- the group is one of those whose buffers are kept
  pub within-groups : g < length engines_state.buffers.groups
  within-groups = rw (s.buffers on) (hit-at (λ (x : GroupConfig). has x.engines e) setup.groups zero_group g home).0

  -- what its qualifying comes to
  pub qualifies-is : {served : Bool} → served ≡ has (group_at setup.groups g).queues q
      → qualifies (work setup engines_state content []) e q
      ≡ (served && (fits engines_state.buffers.total engines_state.buffers.groups engines_state.buffers.used g (need_of setup front.1)
      && (is_none (get_or engines_state.notes e None) || not (is_batch_of setup front.1))
      && not (is_drain_of setup front.1
      && any_in (is_drain_of setup) (chain content (progress_list setup e)))))
  qualifies-is same =
      let pair : nat_lt (length (chain content (progress_list setup e))) setup.caps.slots ≡ true =
      lt-ltb _ _ (group on).pair in
      rw (same, s.buffers on, lt-ltb e setup.caps.engines taking-engine, lt-ltb q setup.caps.queues hq, home, hf)
      (rw (lt-ltb e setup.caps.engines taking-engine, home, pair) refl)

  -- so its buffers fit
  pub fits-taken : {n : ℕ} → n ≡ need_of setup front.1 → qualifies (work setup engines_state content []) e q ≡ true
      → fits engines_state.buffers.total engines_state.buffers.groups engines_state.buffers.used g n ≡ true
  fits-taken is taking =
      let all = and_parts (has (group_at setup.groups g).queues q) _ (sym (qualifies-is refl) ∙ taking) in
      rw is (and_parts (fits engines_state.buffers.total engines_state.buffers.groups engines_state.buffers.used g (need_of setup front.1)) _
      (and_parts _ _ all.1).0).0

  -- once the front was taken the engine holds what it needs more
  taken-more : HoldsMore setup content
      (after_push (without_front content q) (progress_list setup e) front.0 (as_running front.1)) e
      (progress_list setup e) (need_of setup front.1)
  taken-more =
      let p : ℕ = progress_list setup e in
      let mid : Content = without_front content q in
      let same : chain mid p ≡ chain content p =
      get_or-set_other content q p (drop 1 (chain content q)) [] (omega (arith, hq)) in
      let new : List HeldEntry = chain mid p ++ (front.0, as_running front.1) ∷ [] in
      let lists = s.store.lists in
      let within : p < length mid =
      rw (length-set content q (drop 1 (chain content q))) (omega (arith, lists, taking-engine)) in
      record {
        engine = taking-engine;
        list = inl refl;
        others = λ j low ne. get_or-set_other mid p j new [] ne
            ∙ get_or-set_other content q j (drop 1 (chain content q)) [] (omega (arith, hq, low));
        mine = rw (get_or-set_same mid p new [] within, same)
            (load-push setup (chain content p) (front.0, as_running front.1));
      }

  -- by what the calls leave one after another
  pub in_step-after : {more n p : ℕ} {took noted after : EnginesState} {now : Content} → p ≡ progress_list setup e
      → now ≡ after_push (without_front content q) p front.0 (as_running front.1) → more ≡ cells
      → n ≡ need_of setup front.1
      → took ≡ record engines_state {
        buffers = record engines_state.buffers {
          used =
              set engines_state.buffers.used g (get_or engines_state.buffers.used g 0 + n);
        };
      }
      → noted ≡ record took {
        notes = cond (is_batch_of setup front.1)
            (with_note took.notes e (Some (opened_note front.1))) took.notes;
      }
      → after ≡ noted → IsInStep setup after more now
  in_step-after same is kept ne te de ae =
      rw (ae, de, te, is, same, ne)
      (in_step-moved s on kept
      (length-pushed (without_front content q) (progress_list setup e) front.0 (as_running front.1)
      ∙ length-set content q (drop 1 (chain content q)))
      (grind (arith, common_steps)) refl (taken-of s on taken-more (home-of s on taking-engine ∙ home)))
