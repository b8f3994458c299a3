-- The first entry that a Drain waits for, list by list.
use Rattle.std.proofs.Common.{◌≡◌, ◌≢◌, ℕ, ◌+◌, ◌-◌, ◌<◌, ◌≤◌, true, false, length, List, Option, Some, None}
use Rattle.std.proofs.Common.{inl, inr, refl, sym, ◌∙◌, arith, get_or}
use Rattle.std.proofs.lemmas.{Grind.{common_steps}, Bool.{cases_lt, cases_eq, ltb-false, le-ltb}}
use Rattle.std.specs.{Prelude.{find, is_some, nat_lt}, List.{take_while}}
use Rattle.dsa_base.{specs.Lists.{In}, proofs.Lists.{In-find}}
use Rattle.dsa_store.specs.{declared.entry.Entry.{Entry}, Content.{HeldEntry, Content, chain, all_held}}
use Rattle.dsa_book.specs.{State.{Setup}, Work.{waits_for}}
use Rattle.dsa_queues.specs.Queues.{IsStoreFor}
use Rattle.dsa_engines.specs.Engines.{IsInPlace, NamesRise}
use Rattle.dsa_engines.proofs.Waiting.{first-held, none-held, find-within}

-- the first of the list that the Drain waits for
abbrev pub waited_in : Content → Entry → ℕ → Option HeldEntry
waited_in content drain i = find (λ (pair : HeldEntry). waits_for drain pair.1) (chain content i)

-- a list of which none is waited for
none-in : (drain : Entry) (l : List HeldEntry) → ((pair : HeldEntry) → In pair l → waits_for drain pair.1 ≡ false)
    → find (λ (pair : HeldEntry). waits_for drain pair.1) l ≡ None
none-in drain l none = go (find (λ (pair : HeldEntry). waits_for drain pair.1) l) refl
  where
    go : (o : Option HeldEntry) → find (λ (pair : HeldEntry). waits_for drain pair.1) l ≡ o → o ≡ None
    go None is = refl
    go (Some pair) is =
        let found = In-find (λ (pair : HeldEntry). waits_for drain pair.1) pair l is in
        let false_is_true : false ≡ true = sym (none pair found.0) ∙ found.1 in
        absurd cc

-- past the first that is not older than the Drain none is waited for
pub find-older : (drain : Entry) (l : List HeldEntry) → NamesRise l
    → find (λ (pair : HeldEntry). waits_for drain pair.1)
    (take_while (λ pair. nat_lt pair.1.name drain.name) l)
    ≡ find (λ (pair : HeldEntry). waits_for drain pair.1) l
find-older drain l rise =
    find-within (λ pair. waits_for drain pair.1) (λ pair. nat_lt pair.1.name drain.name) l late
    (λ i j d a b off. late (get_or l j d)
    (le-ltb _ _ (omega (arith, rise i j d a b, ltb-false (get_or l i d).1.name drain.name off))))
  where
    late : (pair : HeldEntry) → nat_lt pair.1.name drain.name ≡ false
        → waits_for drain pair.1 ≡ false
    late pair off = grind (arith, common_steps, off)

module _ (setup : Setup) {cells : ℕ} (content : Content) (drain : Entry) (store : IsStoreFor setup.caps cells content)
    (placed : IsInPlace setup content) where
  -- another queue's list has none
  other-queue : (i : ℕ) → i < setup.caps.queues → i ≢ drain.queue → waited_in content drain i ≡ None
  other-queue i low other = none-in drain (chain content i) (λ pair at.
      let its = placed.queued i pair low at in
      grind (arith, common_steps, its, other))

  -- nor have members
  member-list : (i : ℕ) → setup.caps.queues + setup.caps.engines ≤ i → i < length content
      → waited_in content drain i ≡ None
  member-list i high h =
      let k = i - (setup.caps.queues + setup.caps.engines) in
      let is : setup.caps.queues + setup.caps.engines + k ≡ i = omega (arith, high) in
      rw (← is) (none-in drain (chain content (setup.caps.queues + setup.caps.engines + k)) (λ pair at.
      let its = placed.members k pair (omega (arith, store.lists, h, high)) at in
      grind (arith, common_steps, its)))

  -- one that stands in the Drain's queue is the first
  pub first-queued : drain.queue < setup.caps.queues → is_some (waited_in content drain drain.queue) ≡ true
      → waited_in content drain drain.queue ≡ find (λ (pair : HeldEntry). waits_for drain pair.1) (all_held content)
  first-queued h hit =
      first-held (λ (pair : HeldEntry). waits_for drain pair.1) content drain.queue (omega (arith, store.lists, h))
      (λ j less. other-queue j (omega (arith, less, h)) (omega (arith, less))) hit

  module _ (queued : drain.queue < setup.caps.queues → waited_in content drain drain.queue ≡ None) where
    in-queues : (i : ℕ) → i < setup.caps.queues → waited_in content drain i ≡ None
    in-queues i low = elim (cases_eq i drain.queue) [
      | inl same ↦ rw same (queued (omega (arith, same, low)))
      | inr other ↦ other-queue i low other
    ]

    up-to : (k : ℕ) → ((j : ℕ) → j < k → waited_in content drain (setup.caps.queues + j) ≡ None)
        → (i : ℕ) → i < setup.caps.queues + k → waited_in content drain i ≡ None
    up-to k before i h = elim (cases_lt i setup.caps.queues) [
      | inl low ↦ in-queues i low
      | inr past ↦
          let is : setup.caps.queues + (i - setup.caps.queues) ≡ i = omega (arith, past) in
          rw (← is) (before (i - setup.caps.queues) (omega (arith, past, h)))
    ]

    -- else the first that is in progress, by the engines in their order
    pub first-running : {k : ℕ} → k < setup.caps.engines
        → ((j : ℕ) → j < k → waited_in content drain (setup.caps.queues + j) ≡ None)
        → is_some (waited_in content drain (setup.caps.queues + k)) ≡ true
        → waited_in content drain (setup.caps.queues + k)
        ≡ find (λ (pair : HeldEntry). waits_for drain pair.1) (all_held content)
    first-running {k} h before hit =
        first-held (λ (pair : HeldEntry). waits_for drain pair.1) content (setup.caps.queues + k)
        (omega (arith, store.lists, h)) (up-to k before) hit

    -- where there is none in progress either, none is held
    pub none-waited : ((j : ℕ) → j < setup.caps.engines → waited_in content drain (setup.caps.queues + j) ≡ None)
        → find (λ (pair : HeldEntry). waits_for drain pair.1) (all_held content) ≡ None
    none-waited running =
        none-held (λ (pair : HeldEntry). waits_for drain pair.1) content (λ i h.
        elim (cases_lt i (setup.caps.queues + setup.caps.engines)) [
          | inl low ↦ up-to setup.caps.engines running i low
          | inr high ↦ member-list i high h
        ])
