-- What an entry leaves that is taken out of a list.
use Rattle.std.proofs.Common.{◌≡◌, ℕ, zero, suc, ◌+◌, ◌<◌, ◌≤◌, Bool, true, false, cond, List, ◌∷◌, length, get_or}
use Rattle.std.proofs.Common.{Option, None, refl, sym, ap, inl, inr, arith, []}
use Rattle.std.proofs.lemmas.List.{length-set}
use Rattle.std.specs.List.{remove}
use Rattle.dsa_regs.specs.declared.layout.ListUse.{ListUse, TheVariants.{Queue, Progress, Members}}
use Rattle.dsa_regs.specs.Caps.{HasList, engine_of_list, list_number}
use Rattle.dsa_store.specs.declared.entry.{Cell.{Cell}, Entry.{Entry}}
use Rattle.dsa_store.specs.Content.{HeldEntry, Content, chain, use_count, after_unlink, StandsAt}
use Rattle.dsa_store.proofs.{Finding.{unlinked-at}, Lists.{length-unlinked}}
use Rattle.dsa_book.specs.{declared.note.BatchNote.{BatchNote}, State.{Setup, is_off, held_by, is_batch_of}}
use Rattle.dsa_engines.specs.Engines.{EnginesState, buffers_after_return, IsInStep, MayRelease, notes_without}
use Rattle.dsa_engines.specs.Engines.{engines_after_removal}
use Rattle.dsa_engines.proofs.Keeping.{awake, in_step-moved, in_step-queue}
use Rattle.dsa_engines.proofs.Used.{load, load-cons, IsMine, GivesBack, gives-back, written-less}

-- a list holds less by what the entry does
load-remove : (setup : Setup) (l : List HeldEntry) (k : ℕ) (s : HeldEntry) → k < length l → get_or l k s ≡ s
    → load setup l ≡ load setup (remove l k) + held_by setup s.1
load-remove setup [] k s h e = absurd (omega arith)
load-remove setup (x ∷ l) zero s h e =
    let same : held_by setup x.1 ≡ held_by setup s.1 = ap (λ (y : HeldEntry). held_by setup y.1) e in
    omega (arith, load-cons setup x l, same)
load-remove setup (x ∷ l) (suc k) s h e =
    omega (arith, load-cons setup x l, load-cons setup x (remove l k), load-remove setup l k s (omega arith) e)

-- the list of notes keeps its length
length-noteless : (from : ListUse) (b : Bool) (notes : List (Option BatchNote))
    → length (cond b (notes_without from notes) notes) ≡ length notes
length-noteless from false notes = refl
length-noteless (Progress e) true notes = length-set notes e None
length-noteless _ true notes = refl

module _ {cells : ℕ} {setup : Setup} {engines_state : EnginesState} {content : Content} {i k : ℕ} {cell : Cell} {entry : Entry}
    (s : IsInStep setup engines_state cells content) (once : use_count content cell ≤ 1)
    (at : StandsAt content i k cell entry) where
  -- so the device is not Off
  on : is_off setup.device ≡ false
  on = awake s i (omega (arith, at.within))

  -- the group of its engine gives back what it held
  pub gives : {e : ℕ} → e < setup.caps.engines → IsMine setup e i
      → GivesBack setup engines_state (after_unlink content cell) e (held_by setup entry)
  gives he mine = gives-back s on {i = i} (rw (unlinked-at content i k cell entry once at)
      (written-less (remove (chain content i) k) s.store.lists he mine
      (load-remove setup (chain content i) k (cell, entry) at.within at.pair)))

  -- and then all is in step again
  pub in_step-left : {more e : ℕ} {notes : List (Option BatchNote)} → more ≡ cells → e < setup.caps.engines
      → IsMine setup e i → length notes ≡ length engines_state.notes
      → IsInStep setup (record engines_state {
        notes = notes;
        buffers =
            buffers_after_return (get_or engines_state.homes e None) (held_by setup entry) engines_state.buffers;
      }) more
      (after_unlink content cell)
  in_step-left same he mine len =
      in_step-moved s on same (length-unlinked content cell) len refl (gives he mine).given

  -- what the list is for says whose group
  pub may-release : (from : ListUse) → HasList setup.caps from → list_number setup.caps from ≡ i
      → MayRelease setup engines_state (engine_of_list from) entry
  may-release (Queue q) has is = tt
  may-release (Progress e) has is = (gives has (inl (sym is))).holds
  may-release (Members e) has is = (gives has (inr (sym is))).holds

  -- after a removal all is in step again
  pub in_step-removed : {more : ℕ} (from : ListUse) → more ≡ cells → HasList setup.caps from
      → list_number setup.caps from ≡ i
      → IsInStep setup (engines_after_removal setup from entry engines_state) more (after_unlink content cell)
  in_step-removed (Queue q) same has is =
      let queue = in_step-queue s on same i (remove (chain content i) k) (omega (arith, has, is)) in
      in_step-moved s on same (length-unlinked content cell)
      (length-noteless (Queue q) (is_batch_of setup entry) engines_state.notes) refl
      (rw (unlinked-at content i k cell entry once at) (queue.buffers on))
  in_step-removed (Progress e) same has is = in_step-left same has (inl (sym is))
      (length-noteless (Progress e) (is_batch_of setup entry) engines_state.notes)
  in_step-removed (Members e) same has is = in_step-left same has (inr (sym is))
      (length-noteless (Members e) (is_batch_of setup entry) engines_state.notes)
