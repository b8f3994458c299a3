-- The numbers of the batch notes.
use Rattle.std.proofs.lemmas.Bool.{cond_both, cases_lt, ltb-false, or_parts, Decides.{nat_tests}, leb-false}
use Rattle.std.proofs.Common.{◌≡◌, false, Some, get_or, true, ◌^◌, None, Bool, not, List, ◌<◌}
use Rattle.std.proofs.{Common.{◌≤◌, refl, arith, ℕ, ap, Option, ⊎_elim, option_map, ◌&&◌}, Math.Nat.{pow-le-pow_right}}
use Rattle.dsa_base.proofs.Lists.{In-front, get_or-replicated}
use Rattle.dsa_base.proofs.{NumberLists.{get_or-each, get_or-past}, Tables.{no-row}}
use Rattle.dsa_desc.specs.declared.{Descriptor.{Descriptor}, QueueLimits.{QueueLimits}}
use Rattle.dsa_desc.specs.Descriptor.{is_lawful_batch, is_successful}
use Rattle.dsa_regs.specs.{declared.Caps.{Caps}, Config.{queue_at, queue_table}}
use Rattle.dsa_store.specs.Content.{HeldEntry, chain}
use Rattle.dsa_book.specs.declared.note.BatchNote.{BatchNote}
use Rattle.dsa_book.specs.State.{Work, State, opening, is_off, is_member, phase_at, limits_at, is_batch_of}
use Rattle.dsa_book.specs.State.{status_of_entry}
use Rattle.dsa_book.specs.{Work.{note_at, opened_note, progress_list}, Commands.{kept_note}}
use Rattle.dsa_laws.specs.{Change.{Change}, WellFormed.{HasShape, HasLawfulSetup, NoteFits, NotesFit, IsWellFormed}}
use Rattle.dsa_laws.proofs.{Effects.{by_effect}, Contents.{each-place}}

-- ---- the size of a batch

batch-size : (d : Descriptor) (limits : QueueLimits) (member : Bool) → is_lawful_batch d limits member ≡ true
    → d.size ≤ 2 ^ limits.max_batch_shift
batch-size d limits member h = grind (arith, nat_tests)

front-size : (caps : Caps) (w : Work) (x : HeldEntry) → HasShape caps w → HasLawfulSetup w.setup
    → is_off (phase_at w.setup x.1.queue) ≡ false → is_batch_of w.setup x.1 ≡ true
    → x.1.desc.size ≤ 2 ^ caps.max_batch_shift
front-size caps w x shape setup off b =
    let rows = no-row (queue_table w.setup.caps w.setup.groups x.1.queue (queue_at w.setup.configs x.1.queue))
    (setup.queue x.1.queue off) in
    let below : (queue_at w.setup.configs x.1.queue).max_batch_shift ≤ caps.max_batch_shift =
    omega (
      arith,
      ltb-false w.setup.caps.max_batch_shift
          (queue_at w.setup.configs x.1.queue).max_batch_shift rows.1.1.1.1.1.0,
      ap
          (λ c. c.max_batch_shift) shape.same_caps,
    ) in
    let two : 0 < 2 = omega arith in
    omega (arith, batch-size x.1.desc (limits_at w.setup x.1.queue) (is_member x.1) b, pow-le-pow_right two below)

-- ---- notes

-- a note with other marks
marked : (caps : Caps) (f : BatchNote → BatchNote) → ((n : BatchNote) → (f n).fetched ≡ n.fetched)
    → ((n : BatchNote) → (f n).count ≡ n.count) → (o : Option BatchNote) → NoteFits caps o
    → NoteFits caps (option_map f o)
marked caps f a b None h = h
marked caps f a b (Some n) h =
    record { fetched = omega (arith, a n, b n, h.fetched); count = omega (arith, b n, h.count) }

pub notes-change : (caps : Caps) (s s' : State) → IsWellFormed caps s → Change s s' → NotesFit caps s'.work
notes-change caps s s' w c =
    let h = w.notes in
    let set = λ (e : ℕ) (note : Option BatchNote) (fits : NoteFits caps note).
    each-place (λ j. NoteFits caps) None s.work.notes e note h fits in
    by_effect (NotesFit caps) s s' c
    (λ e. rw e.notes h)
    (λ c. h)
    (λ c.
    let off = w.entries.none_off c.queue c.front (In-front c.front (chain s.work.content c.queue) c.is_front) in
    cond_both (is_batch_of s.work.setup c.front.1) _ _
    (λ (ns : List (Option BatchNote)). (j : ℕ) → NoteFits caps (get_or ns j None))
    (λ b. set c.engine (Some (opened_note c.front.1))
    (record { fetched = omega arith; count = front-size caps s.work c.front w.shape w.setup off b }))
    (λ b. h))
    (λ c.
    let old : NoteFits caps (Some c.note) = rw c.is_note at (h c.engine) in
    let below = leb-false c.note.count c.note.fetched (or_parts c.note.closed _ c.more).1 in
    set c.engine _ (record { fetched = omega arith; count = old.count }))
    (λ c. h)
    (λ c. set c.engine _ (marked caps (λ note. record note { closed = true }) (λ n. refl) (λ n. refl)
    (note_at s.work c.engine) (h c.engine)))
    (λ c. set c.engine _ (cond_both (is_batch_of s.work.setup c.pair.1) _ _ (NoteFits caps) (λ b. tt)
    (λ b. cond_both (is_member c.pair.1 && not (is_successful (status_of_entry s.work.setup c.pair.1 c.outcome))) _ _
    (NoteFits caps) (λ m. marked caps (λ note. record note { failed = true }) (λ n. refl) (λ n. refl)
    (note_at s.work c.engine) (h c.engine)) (λ m. h c.engine))))
    (λ c j.
    let note : ℕ → Option BatchNote =
    λ e. kept_note s.work.setup c.scope (chain s.work.content (progress_list s.work.setup e)) (note_at s.work e) in
    ⊎_elim
    (λ i. rw (get_or-each note s.work.setup.caps.engines j None i)
    (cond_both _ None (note_at s.work j) (NoteFits caps) (λ t. tt) (λ t. h j)))
    (λ i. rw (get_or-past note s.work.setup.caps.engines j None i) tt)
    (cases_lt j s.work.setup.caps.engines))

pub notes-opening : (caps : Caps) → NotesFit caps (opening caps).work
notes-opening caps e = rw (get_or-replicated {X = Option BatchNote} None caps.engines e) tt
