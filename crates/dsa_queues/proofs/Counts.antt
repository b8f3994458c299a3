-- The numbers of held entries that name each queue, as entries come and go.
use Rattle.std.proofs.Common.{◌≡◌, ℕ, ◌+◌, ◌-◌, ◌<◌, ◌≤◌, ◌==◌, Bool, true, not, cond, List, [], ◌∷◌, drop, length, map}
use Rattle.std.proofs.Common.{replicate, set, get_or, slice_get, Some, inl, inr}
use Rattle.std.proofs.Common.{refl, sym, ap, ◌∙◌, arith, eq-eqb}
use Rattle.std.proofs.lemmas.List.{length-set, nil_from_length, Sums.{count_by-le-length, sum_by-cons}}
use Rattle.std.proofs.lemmas.Bool.{ltb-true}
use Rattle.std.specs.List.{sum_by}
use Rattle.dsa_base.specs.{Numbers.{numbers_below}, Lists.{In}}
use Rattle.dsa_base.proofs.NumberLists.{length-each, get_or-each, given-back, raised-table, same-table, zero-table}
use Rattle.dsa_store.specs.declared.entry.{Cell.{Cell}, Entry.{Entry}}
use Rattle.dsa_store.specs.Content.{HeldEntry, Content, StandsAt, chain, all_held, count_where, use_count, held_count}
use Rattle.dsa_store.specs.Content.{after_push, after_set, after_unlink, without_front}
use Rattle.dsa_store.proofs.Sums.{held-counted, sum-set, sum-pushed, sum-without_front, sum-unlinked, sum-replaced}
use Rattle.dsa_book.specs.State.{Setup, has_queue}
use Rattle.dsa_queues.specs.Queues.{Kept, IsCounted, held_of}

-- how many held entries name a queue that passes
abbrev pub naming : (ℕ → Bool) → Content → ℕ
naming test content = count_where (λ entry. test entry.queue) content

-- where as many name each queue, the numbers are the counts again
pub counted-same : (k : Kept) (content now : Content)
    → ((test : ℕ → Bool) → naming test now ≡ naming test content) → IsCounted k content → IsCounted k now
counted-same k content now same c = record {
  counts = c.counts ∙ sym (same-table (held_of content) (held_of now) k.setup.caps.queues
      (λ q h. same (λ n. n == q)));
  named = same (λ n. not (has_queue k.setup n)) ∙ c.named;
}

-- another set-up with the same queues
pub counted-setup : (k more : Kept) (content : Content) → more.held ≡ k.held
    → more.setup.caps.queues ≡ k.setup.caps.queues → IsCounted k content → IsCounted more content
counted-setup k more content held queues c = record {
  counts = held ∙ c.counts ∙ rw queues refl;
  named = rw queues c.named;
}

-- where nothing is held no queue is named
pub counted-empty : (k : Kept) (content : Content) → held_count content ≡ 0
    → k.held ≡ replicate k.setup.caps.queues 0 → IsCounted k content
counted-empty k content none held =
    let empty : all_held content ≡ [] = nil_from_length (all_held content) (sym (held-counted content) ∙ none) in
    record {
      counts = held ∙ sym (zero-table (held_of content) k.setup.caps.queues (λ q. rw empty refl));
      named = rw empty refl;
    }

-- where one list of lists holds one entry more, and it names queue q
module _ (setup : Setup) (less more : Content) (q : ℕ) (there : has_queue setup q ≡ true)
    (one : (test : ℕ → Bool) → naming test more ≡ naming test less + cond (test q) 1 0) where
  -- the queue is one of the device's
  below : q < setup.caps.queues
  below = ltb-true q setup.caps.queues there

  -- the counts differ by one in one place
  raised : map (held_of more) (numbers_below setup.caps.queues)
      ≡ set (map (held_of less) (numbers_below setup.caps.queues)) q
      (get_or (map (held_of less) (numbers_below setup.caps.queues)) q 0 + 1)
  raised = raised-table (held_of less) (held_of more) setup.caps.queues q 1 below
      (λ j h ne. let here = one (λ n. n == j) in grind (arith, here, ne)) (let here = one (λ n. n == q) in
      grind (arith, here))

  -- no entry names a queue that is not there in the one where none does in the other
  same-named : naming (λ n. not (has_queue setup n)) more ≡ naming (λ n. not (has_queue setup n)) less
  same-named = let here = one (λ n. not (has_queue setup n)) in grind (arith, here, there)

  -- one more entry names queue q
  pub counted-entered : (held : List ℕ) → IsCounted (record { setup = setup; held = held }) less
      → IsCounted (record { setup = setup; held = set held q (get_or held q 0 + 1) }) more
  counted-entered held c = record { counts = rw c.counts (sym raised); named = same-named ∙ c.named }

  -- so before that there is room for it
  pub entered-room : (held : List ℕ) → IsCounted (record { setup = setup; held = held }) less
      → get_or held q 0 < held_count more
  entered-room held c =
      let here = one (λ n. n == q) in
      let few = count_by-le-length (λ pair. pair.1.queue == q) (all_held more) in
      omega (
        arith,
        ap (λ l. get_or l q 0) c.counts,
        get_or-each (held_of less) setup.caps.queues q 0 below,
        here,
        ap (λ b. cond {A = ℕ} b 1 0) (eq-eqb q q refl),
        few,
        held-counted more,
      )

  -- one entry less does
  pub counted-left : (held : List ℕ) → IsCounted (record { setup = setup; held = held }) more
      → (0 < get_or held q 0) × IsCounted (record { setup = setup; held = set held q (get_or held q 0 - 1) }) less
  counted-left held c =
      let back = given-back held _ q 1 (omega (arith, length-each (held_of less) setup.caps.queues, below))
      (c.counts ∙ raised) in
      (back.0, record { counts = back.1; named = sym same-named ∙ c.named })

-- an entry that was pushed
pub counted-pushed : (k : Kept) (content now : Content) (list : ℕ) (cell : Cell) (e : Entry)
    → now ≡ after_push content list cell e → list < length content → has_queue k.setup e.queue ≡ true
    → IsCounted k content → (get_or k.held e.queue 0 < held_count now)
    × IsCounted (record k { held = set k.held e.queue (get_or k.held e.queue 0 + 1) }) now
counted-pushed k content now list cell e is h there c =
    let one : (test : ℕ → Bool) → naming test now ≡ naming test content + cond (test e.queue) 1 0 =
    λ test. ap (naming test) is ∙ sum-pushed (λ pair. cond (test pair.1.queue) 1 0) content list cell e h in (
      entered-room k.setup content now e.queue there one k.held c,
      counted-entered k.setup content now e.queue there one k.held c,
    )

-- ---- an entry that leaves

-- the device has the queue, its number is not 0, and with one less the numbers are the counts of what stays
pub record Leaves (k : Kept) (less : Content) (q : ℕ) : Type 0 where
  pub there : has_queue k.setup q ≡ true
  pub some : 0 < get_or k.held q 0
  pub counted : IsCounted (record k { held = set k.held q (get_or k.held q 0 - 1) }) less

-- where one less names queue q
pub leaves : (k : Kept) (less more : Content) (q : ℕ)
    → ((test : ℕ → Bool) → naming test more ≡ naming test less + cond (test q) 1 0) → IsCounted k more
    → Leaves k less q
leaves k less more q one c =
    let there : has_queue k.setup q ≡ true =
    let here = one (λ n. not (has_queue k.setup n)) in
    grind (arith, here, c.named) in
    let left = counted-left k.setup less more q there one k.held c in
    record { there = there; some = left.0; counted = left.1 }

-- a cell that is unlinked
pub unlinked-leaves : (k : Kept) (content : Content) (i p : ℕ) (cell : Cell) (e : Entry) → use_count content cell ≤ 1
    → i < length content → StandsAt content i p cell e → IsCounted k content
    → Leaves k (after_unlink content cell) e.queue
unlinked-leaves k content i p cell e once h at = leaves k (after_unlink content cell) content e.queue
    (λ test. sym (sum-unlinked (λ pair. cond (test pair.1.queue) 1 0) content i p cell e once h at))

-- the first of what is left of a list
pub first-leaves : (k : Kept) (content : Content) (i : ℕ) (s : HeldEntry) (rest : List HeldEntry) → i < length content
    → IsCounted k (set content i (s ∷ rest)) → Leaves k (set content i rest) s.1.queue
first-leaves k content i s rest h = leaves k (set content i rest) (set content i (s ∷ rest)) s.1.queue (λ test.
    let f : HeldEntry → ℕ = λ pair. cond (test pair.1.queue) 1 0 in
    omega (arith, sum-set f content i (s ∷ rest) h, sum-set f content i rest h, sum_by-cons f s rest))

-- ---- an entry that stays

-- a front that is taken goes to another list, and runs there
pub counted-moved : (k : Kept) (content : Content) (from to : ℕ) (front : HeldEntry) (e : Entry) → from < length content
    → to < length content → slice_get (chain content from) 0 ≡ Some front → e.queue ≡ front.1.queue
    → IsCounted k content → IsCounted k (after_push (without_front content from) to front.0 e)
counted-moved k content from to front e hf ht is same = counted-same k content _ (λ test.
    let f : HeldEntry → ℕ = λ pair. cond (test pair.1.queue) 1 0 in
    let within : to < length (without_front content from) =
    rw (length-set content from (drop 1 (chain content from))) ht in
    omega (
      arith,
      sum-pushed f (without_front content from) to front.0 e within,
      sum-without_front f content from front (drop 1 (chain content from)) hf
          (front-first (chain content from) front is),
      ap (λ n. cond {A = ℕ} (test n) 1 0) same,
    ))
  where
    front-first : (l : List HeldEntry) (s : HeldEntry) → slice_get l 0 ≡ Some s → l ≡ s ∷ drop 1 l
    front-first [] s h = absurd cc
    front-first (x ∷ l) s h = let one : x ≡ s = cc in ap (λ y. y ∷ l) one

-- an entry that begins to run where it stands
pub counted-replaced : (k : Kept) (content : Content) (i p : ℕ) (cell : Cell) (e new : Entry)
    → use_count content cell ≤ 1
    → i < length content → StandsAt content i p cell e → new.queue ≡ e.queue → IsCounted k content
    → IsCounted k (after_set content cell new)
counted-replaced k content i p cell e new once h at same = counted-same k content _ (λ test.
    sum-replaced (λ pair. cond (test pair.1.queue) 1 0) content i p cell e new once h at
    (ap (λ n. cond {A = ℕ} (test n) 1 0) same))

-- one of a list counts in its sum
In-sum : (f : HeldEntry → ℕ) (s : HeldEntry) (l : List HeldEntry) → In s l → f s ≤ sum_by f l
In-sum f s [] at = absurd at
In-sum f s (x ∷ l) (inl is) = omega (arith, sum_by-cons f x l, ap f is)
In-sum f s (x ∷ l) (inr at) = omega (arith, sum_by-cons f x l, In-sum f s l at)

-- what stands in a list names a queue of the device
pub named-in : (k : Kept) (content : Content) (i : ℕ) (s : HeldEntry) → i < length content → In s (chain content i)
    → IsCounted k content → has_queue k.setup s.1.queue ≡ true
named-in k content i s h at c =
    let f : HeldEntry → ℕ = λ pair. cond (not (has_queue k.setup pair.1.queue)) 1 0 in
    let most = In-sum f s (chain content i) at in
    let all = sum-set f content i [] h in
    grind (arith, most, all, c.named)
