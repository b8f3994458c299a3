-- How many held entries name a queue of a scope, one queue after the other.
use Rattle.std.proofs.Common.{◌≡◌, ℕ, ◌+◌, ◌<◌, ◌==◌, Bool, true, false, not, cond, ◌&&◌, nat_lt, List, [], ◌∷◌}
use Rattle.std.proofs.Common.{refl, ap, ◌∙◌, arith, inl, inr}
use Rattle.std.proofs.lemmas.{Bool.{cases_Bool, cases_eq}, List.Sums.{sum_by-cons}}
use Rattle.std.specs.List.{count_by}
use Rattle.dsa_regs.specs.declared.Scope.{Scope}
use Rattle.dsa_store.specs.{declared.entry.Entry.{Entry}, Content.{HeldEntry, Content, all_held, count_where}}
use Rattle.dsa_book.specs.{State.{has_queue, Setup}, Commands.{is_in_scope}}
use Rattle.dsa_queues.specs.Queues.{Kept, IsCounted, held_of}
use Rattle.dsa_admin.{specs.Admin.{names_queue, names_queues}, proofs.Counting.{names-scope}}

-- an entry of the scope that names one of the first q queues
abbrev pub is_named_below : Scope → ℕ → Entry → Bool
is_named_below scope q entry = nat_lt entry.queue q && is_in_scope scope entry

module _ (scope : Scope) where
  none-in : (l : List HeldEntry) → count_by (λ (s : HeldEntry). is_named_below scope 0 s.1) l ≡ 0
  none-in [] = refl
  none-in (s ∷ l) =
      grind (arith, sum_by-cons (λ (x : HeldEntry). cond (is_named_below scope 0 x.1) 1 0) s l, none-in l)

  -- none names a queue before the first
  pub none-below : (content : Content) → count_where (is_named_below scope 0) content ≡ 0
  none-below content = none-in (all_held content)

  module _ (named : names_queues scope ≡ true) (q : ℕ) where
    -- an entry that names the queue is of the scope where the queue is
    one : (e : Entry) → cond (is_named_below scope (q + 1) e) 1 0
        ≡ cond (is_named_below scope q e) 1 0 + cond (names_queue scope q) (cond (e.queue == q) 1 0) 0
    one e =
        elim (cases_eq e.queue q) [
          | inl same ↦
              let inside : is_in_scope scope e ≡ names_queue scope q =
              names-scope scope e named ∙ ap (names_queue scope) same in
              grind (arith, inside, same)
          | inr other ↦
              let below : nat_lt e.queue (q + 1) ≡ nat_lt e.queue q = grind (arith, other) in
              let miss : (e.queue == q) ≡ false = grind (arith, other) in
              rw (below, miss) (elim (cases_Bool (names_queue scope q)) [
                | inl hit ↦ rw hit (omega arith)
                | inr none ↦ rw none (omega arith)
              ])
        ]

    more-in : (l : List HeldEntry) → count_by (λ (s : HeldEntry). is_named_below scope (q + 1) s.1) l
        ≡ count_by (λ (s : HeldEntry). is_named_below scope q s.1) l
        + cond (names_queue scope q) (count_by (λ (s : HeldEntry). s.1.queue == q) l) 0
    more-in [] = grind arith
    more-in (s ∷ l) =
        let after = sum_by-cons (λ (x : HeldEntry). cond (is_named_below scope (q + 1) x.1) 1 0) s l in
        let before = sum_by-cons (λ (x : HeldEntry). cond (is_named_below scope q x.1) 1 0) s l in
        let here = sum_by-cons (λ (x : HeldEntry). cond (x.1.queue == q) 1 0) s l in
        let this = one s.1 in
        let rest = more-in l in
        elim (cases_Bool (names_queue scope q)) [
          | inl hit ↦ grind (arith, after, before, here, this, rest, hit)
          | inr miss ↦ grind (arith, after, before, here, this, rest, miss)
        ]

    -- with one queue more there are those besides that name it, where it is of the scope
    pub more-below : (k : Kept) (content : Content) → q < k.setup.caps.queues → IsCounted k content
        → count_where (is_named_below scope (q + 1)) content
        ≡ count_where (is_named_below scope q) content + cond (names_queue scope q) (held_of content q) 0
    more-below k content h c = more-in (all_held content)

  all-in : (setup : Setup) (l : List HeldEntry) → count_by (λ (s : HeldEntry). not (has_queue setup s.1.queue)) l ≡ 0
      → count_by (λ (s : HeldEntry). is_named_below scope setup.caps.queues s.1) l
      ≡ count_by (λ (s : HeldEntry). is_in_scope scope s.1) l
  all-in setup [] there = refl
  all-in setup (s ∷ l) there =
      let known = sum_by-cons (λ (x : HeldEntry). cond (not (has_queue setup x.1.queue)) 1 0) s l in
      let below = sum_by-cons (λ (x : HeldEntry). cond (is_named_below scope setup.caps.queues x.1) 1 0) s l in
      let inside = sum_by-cons (λ (x : HeldEntry). cond (is_in_scope scope x.1) 1 0) s l in
      let has : has_queue setup s.1.queue ≡ true = grind (arith, known, there) in
      let rest = all-in setup l (omega (arith, known, there)) in
      grind (arith, below, inside, has, rest)

  -- with all queues there are those of the scope
  pub all-below : (k : Kept) (content : Content) → IsCounted k content
      → count_where (is_named_below scope k.setup.caps.queues) content ≡ count_where (is_in_scope scope) content
  all-below k content c = all-in k.setup (all_held content) c.named
