-- The notes of the engines, as a command takes entries out of the lists one after the other.
use Rattle.std.proofs.Common.{◌≡◌, ℕ, suc, ◌+◌, ◌-◌, ◌*◌, ◌<◌, ◌≤◌, Bool, true, false, cond, ◌&&◌, ◌||◌, min, List, []}
use Rattle.std.proofs.Common.{◌∷◌, ◌++◌, take, length, set, get_or, map, Option, None, refl, sym, ap, ◌∙◌, arith}
use Rattle.std.proofs.lemmas.List.{set-set, set-get_or, take_more, Folds.{list_any-append}}
use Rattle.dsa_regs.specs.declared.Scope.{Scope, TheVariants.{Device}}
use Rattle.dsa_regs.specs.declared.layout.ListUse.{ListUse, TheVariants.{Queue, Progress, Members}}
use Rattle.dsa_regs.specs.Caps.{list_count, list_use}
use Rattle.dsa_regs.proofs.CapsLemmas.{IsUse, read-back}
use Rattle.dsa_base.{specs.Numbers.{numbers_below}, proofs.Renewing.{renewed, renewed-set, renewed-next, renewed-all}}
use Rattle.dsa_store.specs.{declared.entry.{Cell.{Cell}, Entry.{Entry}}, Content.{HeldEntry, Content, chain, StandsAt}}
use Rattle.dsa_book.specs.{declared.note.BatchNote.{BatchNote}, State.{Setup, is_batch_of}, Work.{progress_list}}
use Rattle.dsa_book.specs.Commands.{is_in_scope, takes_batch, kept_note}
use Rattle.dsa_engines.specs.Engines.{EnginesState, notes_without, engines_after_removal}
use Rattle.dsa_admin.specs.Admin.{notes_left}

-- ---- the places of one list

-- a note that is gone goes no second time
noteless-twice : (from : ListUse) (notes : List (Option BatchNote))
    → notes_without from (notes_without from notes) ≡ notes_without from notes
noteless-twice (Progress e) notes = set-set notes e None None
noteless-twice _ notes = refl

-- whether one of the first has it go, and whether the next has
gone-with : (from : ListUse) (first : List (Option BatchNote)) (before here : Bool)
    → cond (before || (here || false)) (notes_without from first) first
    ≡ cond here (notes_without from (cond before (notes_without from first) first))
    (cond before (notes_without from first) first)
gone-with from first true true = sym (noteless-twice from first)
gone-with from first true false = refl
gone-with from first false true = refl
gone-with from first false false = refl

module _ (setup : Setup) (scope : Scope) (from : ListUse) (first : List (Option BatchNote)) {content : Content}
    {i k : ℕ} {cell : Cell} {e : Entry} (at : StandsAt content i k cell e) where
  -- one more place: a well-formed Batch in the scope there takes the note along
  notes-more : notes_left setup scope from (take (k + 1) (chain content i)) first
      ≡ cond (is_batch_of setup e && is_in_scope scope e)
      (notes_without from (notes_left setup scope from (take k (chain content i)) first))
      (notes_left setup scope from (take k (chain content i)) first)
  notes-more = rw (
    take_more (chain content i) k (cell, e) at.within,
    at.pair,
    list_any-append (λ (pair : HeldEntry). is_batch_of setup pair.1 && is_in_scope scope pair.1) (take k (chain content i))
        ((cell, e) ∷ []),
  ) (gone-with from first (takes_batch setup scope (take k (chain content i)))
      (is_batch_of setup e && is_in_scope scope e))

  -- what the command is not about takes none
  pub notes-stay : {now : List (Option BatchNote)} → is_in_scope scope e ≡ false
      → now ≡ notes_left setup scope from (take k (chain content i)) first
      → now ≡ notes_left setup scope from (take (k + 1) (chain content i)) first
  notes-stay {now} outside is = rw (notes-more, outside, ← is) (none (is_batch_of setup e))
    where
      none : (b : Bool) → now ≡ cond (b && false) (notes_without from now) now
      none true = refl
      none false = refl

  -- what it is about takes it along, where it is a well-formed Batch
  pub notes-leave : {after : EnginesState} (engines_state : EnginesState) → is_in_scope scope e ≡ true
      → engines_state.notes ≡ notes_left setup scope from (take k (chain content i)) first
      → after ≡ engines_after_removal setup from e engines_state
      → after.notes ≡ notes_left setup scope from (take (k + 1) (chain content i)) first
  notes-leave engines_state inside is step = rw (step, notes-more, inside, ← is) (same (is_batch_of setup e))
    where
      same : (b : Bool) → cond b (notes_without from engines_state.notes) engines_state.notes
          ≡ cond (b && true) (notes_without from engines_state.notes) engines_state.notes
      same true = refl
      same false = refl

-- where all are meant, one place more
pub notes-taken : {after : EnginesState} (setup : Setup) (from : ListUse) (first : List (Option BatchNote)) (xs : List HeldEntry)
    (s : HeldEntry) (engines_state : EnginesState) → engines_state.notes ≡ notes_left setup Device from xs first
    → after ≡ engines_after_removal setup from s.1 engines_state → after.notes ≡ notes_left setup Device from (xs ++ s ∷ []) first
notes-taken setup from first xs s engines_state is step =
    ap (λ (g : EnginesState). g.notes) step ∙ same (is_batch_of setup s.1)
    ∙ rw is (sym (gone-with from first (takes_batch setup Device xs) (is_batch_of setup s.1 && is_in_scope Device s.1)))
    ∙ ap (λ (b : Bool). cond b (notes_without from first) first) (sym (list_any-append
    (λ (pair : HeldEntry). is_batch_of setup pair.1 && is_in_scope Device pair.1) xs (s ∷ [])))
  where
    same : (b : Bool) → cond b (notes_without from engines_state.notes) engines_state.notes
        ≡ cond (b && true) (notes_without from engines_state.notes) engines_state.notes
    same true = refl
    same false = refl

-- ---- the lists

-- one engine's note renewed by its list in progress
note-renewed : (b : Bool) (notes : List (Option BatchNote)) (e : ℕ)
    → cond b (set notes e None) notes ≡ set notes e (cond b None (get_or notes e None))
note-renewed true notes e = refl
note-renewed false notes e = sym (set-get_or notes e None)

module _ (setup : Setup) (scope : Scope) (content : Content) (first : List (Option BatchNote)) where
  -- what becomes of the note of an engine
  abbrev pub kept_at : ℕ → Option BatchNote
  kept_at e = kept_note setup scope (chain content (progress_list setup e)) (get_or first e None)

  -- the notes after the first n lists
  abbrev pub swept_notes : ℕ → List (Option BatchNote)
  swept_notes n = renewed kept_at (min (n - setup.caps.queues) setup.caps.engines) first

  -- by how many of the engines were looked at
  swept-as : (n engines : ℕ) → min (n - setup.caps.queues) setup.caps.engines ≡ engines
      → swept_notes n ≡ renewed kept_at engines first
  swept-as n engines is = ap (λ (k : ℕ). renewed kept_at k first) is

  -- one more list
  pub notes-turn : {now after : List (Option BatchNote)} {xs : List HeldEntry} (n : ℕ) → length first ≡ setup.caps.engines
      → n < list_count setup.caps → xs ≡ chain content n → now ≡ swept_notes n
      → after ≡ notes_left setup scope (list_use setup.caps n) xs now → after ≡ swept_notes (n + 1)
  notes-turn {now} {after} {xs} n len h same is step =
      step ∙ on (list_use setup.caps n) (read-back setup.caps n h)
    where
      stays : (engines : ℕ) → min (n - setup.caps.queues) setup.caps.engines ≡ engines
          → min (n + 1 - setup.caps.queues) setup.caps.engines ≡ engines
          → (b : Bool) → cond b now now ≡ swept_notes (n + 1)
      stays engines p q true = is ∙ swept-as n engines p ∙ sym (swept-as (n + 1) engines q)
      stays engines p q false = is ∙ swept-as n engines p ∙ sym (swept-as (n + 1) engines q)

      on : (from : ListUse) → IsUse setup.caps from n → notes_left setup scope from xs now ≡ swept_notes (n + 1)
      on (Queue q) u =
          let has = u.has in
          let at = u.number in
          stays 0 (omega (arith, has, at)) (omega (arith, has, at)) (takes_batch setup scope xs)
      on (Members e) u =
          let at = u.number in
          stays setup.caps.engines (omega (arith, at)) (omega (arith, at)) (takes_batch setup scope xs)
      on (Progress e) u =
          let has = u.has in
          let at = u.number in
          let below : e < length first = omega (arith, has, len) in
          let so_far = is ∙ swept-as n e (omega (arith, has, at)) in
          rw (swept-as (n + 1) (suc e) (omega (arith, has, at)), same, ← at, so_far)
          (note-renewed (takes_batch setup scope (chain content (progress_list setup e))) (renewed kept_at e first) e
          ∙ rw (renewed-next kept_at e first None below) (renewed-set kept_at e first below))

  -- after all of them each engine's note was looked at
  pub notes-all : {now : List (Option BatchNote)} (n : ℕ) → length first ≡ setup.caps.engines
      → setup.caps.queues + 2 * setup.caps.engines ≤ n → now ≡ swept_notes n
      → now ≡ map kept_at (numbers_below setup.caps.engines)
  notes-all n len past is = is ∙ swept-as n setup.caps.engines (omega (arith, past))
      ∙ renewed-all kept_at setup.caps.engines first (omega (arith, len))

  -- before the first of them none
  pub notes-first : first ≡ swept_notes 0
  notes-first = sym (swept-as 0 0 (omega arith))
