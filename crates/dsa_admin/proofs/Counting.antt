-- Numbers of held entries: what commands read from them, and what one entry less leaves.
use Rattle.std.proofs.Common.{◌≡◌, ℕ, ◌+◌, ◌<◌, ◌≤◌, ◌==◌, Bool, true, false, not, cond, List, [], ◌∷◌, ◌++◌}
use Rattle.std.proofs.Common.{take, length, get_or, set, length-append, zero, suc, refl, ap, ◌∙◌, subst, arith}
use Rattle.std.proofs.Common.{inl, inr}
use Rattle.std.proofs.lemmas.{Grind.{flat_map-append}, Bool.{cases_Bool}}
use Rattle.std.proofs.lemmas.List.{get_or-set_same, set-set, append-nil, take_more}
use Rattle.std.proofs.lemmas.List.Sums.{sum_by-cons, sum_by-append, count_by-le-length}
use Rattle.std.specs.List.{count_by, list_any}
use Rattle.dsa_base.proofs.NumberLists.{get_or-each}
use Rattle.dsa_regs.specs.declared.Scope.{Scope, TheVariants.{Device, Queue, Pasid}}
use Rattle.dsa_regs.specs.declared.Deed.{Deed, TheVariants.{Disable}}
use Rattle.dsa_regs.specs.declared.{Phase.{Phase}, layout.ListUse.{ListUse}}
use Rattle.dsa_regs.specs.{Caps.{HasList, engine_of_list, list_number}}
use Rattle.dsa_store.specs.declared.entry.{Cell.{Cell}, Entry.{Entry}}
use Rattle.dsa_store.specs.Content.{HeldEntry, Content, chain, all_held, place_count, use_count, count_where}
use Rattle.dsa_store.proofs.{Places.{count-append}, Lists.{uses-set}, Turns.{Seam, seam}}
use Rattle.dsa_book.specs.{State.{Setup, holds_any}, Commands.{is_in_scope, after_stop, after_enable, reset}}
use Rattle.dsa_queues.{specs.Queues.{Kept, IsCounted, held_of}, proofs.Counts.{counted-setup}}
use Rattle.dsa_engines.specs.Engines.{EnginesState, IsInStep, MayRelease, engines_after_removal}
use Rattle.dsa_engines.proofs.Leaving.{may-release, in_step-removed}
use Rattle.dsa_admin.specs.Admin.{names_queue, names_queues}

-- ---- numbers that are 0

-- none counts exactly where none passes
any-none : (test : HeldEntry → Bool) (l : List HeldEntry) → (count_by test l == 0) ≡ not (list_any test l)
any-none test [] = refl
any-none test (s ∷ l) =
    let one = sum_by-cons (λ x. cond (test x) 1 0) s l in
    elim (cases_Bool (test s)) [
      | inl hit ↦ grind (arith, one, hit)
      | inr miss ↦ grind (arith, one, miss, any-none test l)
    ]

pub held-none : (test : Entry → Bool) (content : Content)
    → (count_where test content == 0) ≡ not (holds_any test content)
held-none test content = any-none (λ s. test s.1) (all_held content)

-- the number of a queue is the count over the lists
pub number-held : (k : Kept) (content : Content) (q : ℕ) → q < k.setup.caps.queues → IsCounted k content
    → get_or k.held q 0 ≡ held_of content q
number-held k content q h c = ap (λ l. get_or l q 0) c.counts ∙ get_or-each (held_of content) k.setup.caps.queues q 0 h

-- a scope of queues has the entries that name one of them
pub names-scope : (scope : Scope) (e : Entry) → names_queues scope ≡ true
    → is_in_scope scope e ≡ names_queue scope e.queue
names-scope Device e h = refl
names-scope (Pasid pasid) e h = absurd cc
names-scope _ e h = refl

-- ---- the first of what is left of a list

module _ (content : Content) (i : ℕ) (done rest : List HeldEntry) (s : HeldEntry) (h : i < length content)
    (once : (cell : Cell) → use_count content cell ≤ 1) (parts : chain content i ≡ done ++ s ∷ rest) where
  -- it stands once there
  low : use_count (set content i (s ∷ rest)) s.0 ≤ 1
  low =
      omega (
        arith,
        uses-set content i (s ∷ rest) s.0 h,
        ap (place_count s.0) parts,
        count-append s.0 done (s ∷ rest),
        once s.0,
      )

  turn : Seam (set content i (s ∷ rest)) i [] rest s.0 s.1
  turn = seam (set content i (s ∷ rest)) i [] rest s.0 s.1 low (get_or-set_same content i (s ∷ rest) [] h)

  module _ {cells : ℕ} {setup : Setup} {engines_state : EnginesState} (step : IsInStep setup engines_state cells (set content i (s ∷ rest)))
      (from : ListUse) (has : HasList setup.caps from) (is : list_number setup.caps from ≡ i) where
    -- what it holds it may give back
    pub first-releases : MayRelease setup engines_state (engine_of_list from) s.1
    first-releases = may-release step low turn.stands from has is

    -- and then all is in step again
    pub first-removed : IsInStep setup (engines_after_removal setup from s.1 engines_state) cells (set content i rest)
    first-removed = subst (IsInStep setup (engines_after_removal setup from s.1 engines_state) cells)
        (turn.unlinked ∙ set-set content i (s ∷ rest) rest) (in_step-removed step low turn.stands from refl has is)

-- ---- another set-up of as many queues

pub counted-caps : (k : Kept) (now : Setup) (content : Content) → now.caps ≡ k.setup.caps → IsCounted k content
    → IsCounted (record k { setup = now }) content
counted-caps k now content same =
    counted-setup k (record k { setup = now }) content refl (ap (λ caps. caps.queues) same)

pub stop-caps : (deed : Deed) (scope : Scope) (phase : Phase) (setup : Setup)
    → (after_stop deed scope phase setup).caps ≡ setup.caps
stop-caps Disable Device phase setup = refl
stop-caps Disable scope phase setup = refl
stop-caps _ scope phase setup = refl

pub stop-name : (deed : Deed) (scope : Scope) (phase : Phase) (setup : Setup)
    → (after_stop deed scope phase setup).next_name ≡ setup.next_name
stop-name Disable Device phase setup = refl
stop-name Disable scope phase setup = refl
stop-name _ scope phase setup = refl

pub enable-caps : (scope : Scope) (setup : Setup) → (after_enable scope setup).caps ≡ setup.caps
enable-caps Device setup = refl
enable-caps (Queue queue) setup = refl
enable-caps _ setup = refl

pub reset-caps : (scope : Scope) (setup : Setup) → (reset scope setup).caps ≡ setup.caps
reset-caps Device setup = refl
reset-caps _ setup = refl

-- ---- counts over the first lists

pub never-counts : (l : List HeldEntry) → count_by (λ (s : HeldEntry). false) l ≡ 0
never-counts [] = refl
never-counts (s ∷ l) = omega (arith, sum_by-cons (λ (x : HeldEntry). 0) s l, never-counts l)

-- no more are counted in the first lists than are held
pub first-few : (test : HeldEntry → Bool) (n : ℕ) (content : Content)
    → count_by test (all_held (take n content)) ≤ length (all_held content)
first-few test zero [] = omega arith
first-few test (suc n) [] = omega arith
first-few test zero (l ∷ ls) = omega arith
first-few test (suc n) (l ∷ ls) =
    omega (
      arith,
      sum_by-append (λ x. cond (test x) 1 0) l (all_held (take n ls)),
      count_by-le-length test l,
      length-append l (all_held ls),
      first-few test n ls,
    )

-- those of one list more
pub first-more : (test : HeldEntry → Bool) (n : ℕ) (content : Content) → n < length content
    → count_by test (all_held (take (n + 1) content))
    ≡ count_by test (all_held (take n content)) + count_by test (chain content n)
first-more test n content h = rw (
  take_more content n [] h,
  flat_map-append (λ (l : List HeldEntry). l) (take n content) (chain content n ∷ []),
  append-nil (chain content n),
) (sum_by-append (λ x. cond (test x) 1 0) (all_held (take n content)) (chain content n))
