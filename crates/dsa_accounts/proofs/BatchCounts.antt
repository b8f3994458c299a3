-- Each member that was fetched of a noted batch is done, abandoned or still held.
use Rattle.std.proofs.Common.{false, cond, List, ◌∷◌, ◌++◌, map, filter, set, get_or, Option, Some, None, option_map}
use Rattle.std.proofs.Common.{◌≡◌, ◌≢◌, ◌⊎◌, inl, inr, ⊎_elim, ℕ, zero, suc, ◌+◌, ◌<◌, ◌≤◌, ◌&&◌, ◌==◌, Bool, true, []}
use Rattle.std.proofs.lemmas.{Bool.{cases_lt, ltb-true, and_parts, false_from_ne_true}, Option.{same_Some, none-some}}
use Rattle.std.proofs.{Common.{refl, sym, ap, ◌∙◌, subst, arith, eqb-true, eq-eqb}, lemmas.List.Sums.{sum_by-cons}}
use Rattle.std.specs.Prelude.{count_by}
use Rattle.dsa_base.proofs.{Lists.{In-front, In-find, get_or-replicated}, Counts.{In-counted, count-none, count-cons}}
use Rattle.dsa_base.{proofs.NumberLists.{get_or-each, get_or-past}, specs.Lists.{In}}
use Rattle.dsa_regs.specs.{declared.Caps.{Caps}, Caps.{list_count}}
use Rattle.dsa_store.specs.Content.{HeldEntry, chain, all_held, without_front}
use Rattle.dsa_book.specs.Machine.{replay}
use Rattle.dsa_book.specs.Work.{after_abandon, after_end, fate_row, after_fetch, last_status, member_list, members}
use Rattle.dsa_book.specs.declared.fate.{Fate.{Fate, TheVariants.{Completed, Aborted, Abandoned}}, FateRow.{FateRow}}
use Rattle.dsa_book.specs.{Work.{note_at, opened_note, progress_list, after_take}, State.{Work, State, opening}}
use Rattle.dsa_book.specs.{declared.{note.BatchNote.{BatchNote}, event.Step.{Step}}, Commands.{is_in_scope, kept_note}}
use Rattle.dsa_laws.proofs.Contents.{each-set, each-pushed, each-without_front, all_held-empty, chain-empty}
use Rattle.dsa_laws.proofs.{Flows.{flow-change, rows-counted}, Shapes.{queues-same}, Effects.{by_count}}
use Rattle.dsa_laws.proofs.{Histories.{replay_keeps, well_formed-change, well_formed-opening}, Entries.{each-effect}}
use Rattle.dsa_laws.specs.{Lists.{EachAt}, Change.{Change}, WellFormed.{IsWellFormed}}
use Rattle.dsa_accounts.proofs.Accounts.{entries_with, change-entries}
use Rattle.dsa_accounts.proofs.NotedBatches.{is_of-parent, parent-is_of, noted, noted-place, noted-once, noted-left}
use Rattle.dsa_accounts.proofs.NotedBatches.{member-engine, unnoted, IsUnnoted}
use Rattle.dsa_accounts.specs.BatchCounts.{is_of_batch, was_completed, was_aborted, members_ended, members_abandoned}
use Rattle.dsa_accounts.specs.BatchCounts.{AddsUp}
use Rattle.dsa_accounts.specs.{BatchCounts.{members_aborted}, Accounts.{was_abandoned}}

-- ---- rows

-- how many members of the batch have a fate or are held
abbrev pub members_of : Work → ℕ → ℕ
members_of w batch = entries_with (is_of_batch batch) w

-- each member has one of three fates
fates-counted : (batch : ℕ) (rows : List FateRow)
    → let such : (Fate → Bool) → ℕ = λ test. count_by (λ row. test row.fate && is_of_batch batch row.parent) rows in
    count_by (λ row. is_of_batch batch row.parent) rows ≡ such was_completed + such was_abandoned + such was_aborted
fates-counted batch [] = refl
fates-counted batch (row ∷ rows) = omega (
  arith,
  sum_by-cons,
  each row.fate (is_of_batch batch row.parent),
  fates-counted batch rows,
)
  where
    each : (fate : Fate) (b : Bool) → cond b 1 0
        ≡ cond (was_completed fate && b) 1 0 + cond (was_abandoned fate && b) 1 0 + cond (was_aborted fate && b) 1 0
    each (Completed status) b = omega arith
    each Abandoned b = omega arith
    each (Aborted number) b = omega arith

-- the rows that a step adds
rows-more : (such : Fate → Bool) (w w' : Work) (fate : Fate) (xs : List HeldEntry) (batch : ℕ)
    → w'.fates ≡ w.fates ++ map (fate_row fate) xs → members_ended such w' batch
    ≡ members_ended such w batch + count_by (λ pair. such fate && is_of_batch batch pair.1.parent) xs
rows-more such w w' fate xs batch e =
    let test : FateRow → Bool = λ row. such row.fate && is_of_batch batch row.parent in
    ap (λ (rows : List FateRow). count_by test rows) e ∙ rows-counted test w.fates fate xs

-- rows of another end, and those of entries that are not of the batch, are not counted
pub rows-apart : (such : Fate → Bool) (w w' : Work) (fate : Fate) (xs : List HeldEntry) (batch : ℕ)
    → ((x : HeldEntry) → In x xs → (such fate && is_of_batch batch x.1.parent) ≡ false)
    → w'.fates ≡ w.fates ++ map (fate_row fate) xs → members_ended such w' batch ≡ members_ended such w batch
rows-apart such w w' fate xs batch apart e = omega (
  arith,
  rows-more such w w' fate xs batch e,
  count-none (λ (pair : HeldEntry). such fate && is_of_batch batch pair.1.parent) xs apart,
)

-- ---- what a note counts

-- as many as were fetched have a fate or are held, and some are abandoned exactly where the batch is closed
pub record Counts (w : Work) (batch fetched : ℕ) (is_closed : Bool) : Type 0 where
  pub all : members_of w batch ≡ fetched
  pub unclosed : is_closed ≡ false → members_abandoned w batch ≡ 0
  pub closed : is_closed ≡ true → 1 ≤ members_abandoned w batch
  pub none_aborted : members_aborted w batch ≡ 0

abbrev pub CountsNote : Work → BatchNote → Type 0
CountsNote w note = Counts w note.batch note.fetched note.closed

pub adds-up : (w : Work) (note : BatchNote) → CountsNote w note → AddsUp w note
adds-up w note h = record {
  fetched = let all = h.all in let none = h.none_aborted in
      omega (arith, fates-counted note.batch w.fates, all, none);
  unclosed = h.unclosed;
  closed = h.closed;
  none_aborted = h.none_aborted;
}

-- the same counts in another state
alike : {w w' : Work} {batch fetched : ℕ} {closed : Bool} → members_of w' batch ≡ members_of w batch
    → members_abandoned w' batch ≡ members_abandoned w batch → members_aborted w' batch ≡ members_aborted w batch
    → Counts w batch fetched closed → Counts w' batch fetched closed
alike all abandoned aborted h = record {
  all = all ∙ h.all;
  unclosed = λ o. abandoned ∙ h.unclosed o;
  closed = λ o. subst (λ k. 1 ≤ k) (sym abandoned) (h.closed o);
  none_aborted = aborted ∙ h.none_aborted;
}

-- where the new rows are not of the batch, or of another end
ended : {w w' : Work} {batch fetched : ℕ} {closed : Bool} (fate : Fate) (xs : List HeldEntry)
    → w'.fates ≡ w.fates ++ map (fate_row fate) xs
    → ((x : HeldEntry) → In x xs → (was_abandoned fate && is_of_batch batch x.1.parent) ≡ false)
    → ((x : HeldEntry) → In x xs → (was_aborted fate && is_of_batch batch x.1.parent) ≡ false)
    → members_of w' batch ≡ members_of w batch → Counts w batch fetched closed → Counts w' batch fetched closed
ended {w} {w'} {batch} fate xs e abandoned aborted all h = alike {w = w} {w' = w'} all
    (rows-apart was_abandoned w w' fate xs batch abandoned e) (rows-apart was_aborted w w' fate xs batch aborted e) h

-- where the batch has no members
fresh : (w : Work) (batch : ℕ) → members_of w batch ≡ 0 → Counts w batch 0 false
fresh w batch none = let three = fates-counted batch w.fates in record {
  all = none;
  unclosed = λ o. omega (arith, three, none);
  closed = λ o. absurd cc;
  none_aborted = omega (arith, three, none);
}

-- what holds of each note, and of each name that is no noted batch's
pub record CountsMembers (w : Work) : Type 0 where
  pub notes : (e : ℕ) (n : BatchNote) → note_at w e ≡ Some n → CountsNote w n
  pub queued : (q : ℕ) (x : HeldEntry) → q < w.setup.caps.queues → In x (chain w.content q) → members_of w x.1.name ≡ 0
  pub not_given : (name : ℕ) → w.setup.next_name ≤ name → members_of w name ≡ 0

-- ---- notes that are set

-- a note that was set, or one that stays
note-cases : (notes : List (Option BatchNote)) (e j : ℕ) (o : Option BatchNote) (n : BatchNote)
    → get_or (set notes e o) j None ≡ Some n → (o ≡ Some n) ⊎ ((j ≢ e) × (get_or notes j None ≡ Some n))
note-cases [] e j o n h = absurd (none-some n h)
note-cases (m ∷ notes) zero zero o n h = inl h
note-cases (m ∷ notes) zero (suc j) o n h = inr (λ q. omega (arith, q), h)
note-cases (m ∷ notes) (suc e) zero o n h = inr (λ q. omega (arith, q), h)
note-cases (m ∷ notes) (suc e) (suc j) o n h = ⊎_elim (λ a. inl a)
    (λ b. inr (λ q. b.0 (omega (arith, q)), b.1)) (note-cases notes e j o n h)

-- what holds of a note with other marks
mapped : (P : BatchNote → Type 0) (f : BatchNote → BatchNote) (o : Option BatchNote) (m : BatchNote)
    → option_map f o ≡ Some m → ((n : BatchNote) → o ≡ Some n → P (f n)) → P m
mapped P f None m h each = absurd (none-some m h)
mapped P f (Some n) m h each = subst P (same_Some (f n) m h) (each n refl)

-- a front that opens a note, or does not
opened : (b : Bool) (notes : List (Option BatchNote)) (e j : ℕ) (o n : BatchNote)
    → get_or (cond b (set notes e (Some o)) notes) j None ≡ Some n → (o ≡ n) ⊎ (get_or notes j None ≡ Some n)
opened true notes e j o n h = ⊎_elim (λ a. inl (same_Some o n a)) (λ b. inr b.1) (note-cases notes e j (Some o) n h)
opened false notes e j o n h = inr h

-- the note of an engine after an end, if there is one
failed : (w : Work) (b m : Bool) (o : Option BatchNote) (n' : BatchNote)
    → cond b None (cond m (option_map (λ (note : BatchNote). record note { failed = true }) o) o) ≡ Some n'
    → ((n : BatchNote) → o ≡ Some n → CountsNote w n) → CountsNote w n'
failed w true m o n' h each = absurd (none-some n' h)
failed w false true o n' h each = mapped (CountsNote w) (λ note. record note { failed = true }) o n' h each
failed w false false o n' h each = each n' h

-- a scope that leaves a note leaves its batch
stays : (b : Bool) (o : Option BatchNote) (n : BatchNote) → cond b None o ≡ Some n → (b ≡ false) × (o ≡ Some n)
stays true o n h = absurd (none-some n h)
stays false o n h = (refl, h)

-- ---- each change

-- as many members of each batch as there were, and what came in
abbrev Adds : Work → List (Option ℕ) → Work → Type 0
Adds w xs w' = (batch : ℕ) → members_of w' batch ≡ members_of w batch + count_by (is_of_batch batch) xs

notes-change : (caps : Caps) (s s' : State) → IsWellFormed caps s → CountsMembers s.work → Change s s'
    → (j : ℕ) (n : BatchNote) → note_at s'.work j ≡ Some n → CountsNote s'.work n
notes-change caps s s' w counts c = by_count (λ xs k w'. Adds s.work xs w' → (j : ℕ) (n : BatchNote)
    → note_at w' j ≡ Some n → CountsNote w' n) s s' c
    (λ e same j n h. alike {w = s.work} {w' = s'.work} (none (same n.batch)) (unended was_abandoned n.batch e.fates)
    (unended was_aborted n.batch e.fates)
    (counts.notes j n (ap (λ (ns : List (Option BatchNote)). get_or ns j None) (sym e.notes) ∙ h)))
    (λ c same j n h. alike (none (same n.batch)) refl refl (counts.notes j n h))
    (λ c same j n h.
    let after = after_take s.work c.engine c.queue c.front in
    let front = In-front c.front _ c.is_front in
    let below = ltb-true c.queue s.work.setup.caps.queues (and_parts _ _ (and_parts _ _ c.qualifies).0).1 in
    ⊎_elim
    (λ (o : opened_note c.front.1 ≡ n). subst (CountsNote after) o (fresh after c.front.1.name
    (none (same c.front.1.name) ∙ counts.queued c.queue c.front below front)))
    (λ old. alike (none (same n.batch)) refl refl (counts.notes j n old))
    (opened _ s.work.notes c.engine j (opened_note c.front.1) n h))
    (λ c same j n h.
    let after = (after_fetch s.work c.engine c.desc c.cell c.note c.batch.1).1 in
    let more : BatchNote = record c.note { fetched = c.note.fetched + 1 } in
    let all = same n.batch in
    ⊎_elim
    (λ (o : ◌≡◌ {A = Option BatchNote} (Some more) (Some n)). subst (CountsNote after) (same_Some more n o) (
    let old = counts.notes c.engine c.note c.is_note in
    let all = same c.note.batch in
    let own = count-cons (is_of_batch c.note.batch) (Some c.note.batch) [] true
    (eq-eqb c.note.batch c.note.batch refl) in
    let before = old.all in
    record {
      all = omega (arith, all, own, before);
      unclosed = old.unclosed;
      closed = old.closed;
      none_aborted = old.none_aborted;
    }))
    (λ old.
    let other = count-cons (is_of_batch n.batch) (Some c.note.batch) [] false
    (false_from_ne_true (c.note.batch == n.batch)
    (λ t. old.0 (noted-once w j c.engine n c.note old.1 c.is_note (sym (eqb-true c.note.batch n.batch t))))) in
    alike (omega (arith, all, other)) refl refl (counts.notes j n old.1))
    (note-cases s.work.notes c.engine j (Some more) n h))
    (λ c same j n h. alike (none (same n.batch)) refl refl (counts.notes j n h))
    (λ c same j n h.
    let after = after_abandon s.work c.engine in
    let gone = members s.work c.engine in
    ⊎_elim
    (λ o. mapped (CountsNote after) (λ note. record note { closed = true }) (note_at s.work c.engine) n o (λ m is.
    let old = counts.notes c.engine m is in
    let pair = (In-find _ c.pair gone c.is_first).0 in
    let one = In-counted (λ (pair : HeldEntry). is_of_batch m.batch pair.1.parent) c.pair gone pair
    (parent-is_of m.batch c.pair.1.parent ((noted w c.engine (Some m) is).parents c.pair pair)) in
    record {
      all = none (same m.batch) ∙ old.all;
      unclosed = λ no. absurd cc;
      closed = λ yes. omega (arith, rows-more was_abandoned s.work after Abandoned gone m.batch refl, one);
      none_aborted = rows-apart was_aborted s.work after Abandoned gone m.batch (λ x i. refl) refl ∙ old.none_aborted;
    }))
    (λ old. ended {w = s.work} Abandoned gone refl (λ x i. false_from_ne_true (is_of_batch n.batch x.1.parent)
    (λ t. old.0 (sym (member-engine w c.engine j n x old.1 i (is_of-parent n.batch x.1.parent t)))))
    (λ x i. refl) (none (same n.batch)) (counts.notes j n old.1))
    (note-cases s.work.notes c.engine j _ n h))
    (λ c same j n h.
    let keep : (j : ℕ) (n : BatchNote) → note_at s.work j ≡ Some n
    → CountsNote (after_end s.work c.engine c.pair c.outcome) n = λ j n is.
    ended {w = s.work} (Completed (last_status s.work c.engine c.pair c.outcome)) (c.pair ∷ []) refl (λ x i. refl)
    (λ x i. refl) (none (same n.batch)) (counts.notes j n is) in
    ⊎_elim (λ o. failed _ _ _ (note_at s.work c.engine) n o (keep c.engine)) (λ old. keep j n old.1)
    (note-cases s.work.notes c.engine j _ n h))
    (λ c same j n h.
    let note : ℕ → Option BatchNote = λ e. kept_note s.work.setup c.scope
    (chain s.work.content (progress_list s.work.setup e)) (note_at s.work e) in
    ⊎_elim
    (λ inside.
    let old = stays _ _ n (sym (get_or-each note s.work.setup.caps.engines j None inside) ∙ h) in
    ended {w = s.work} (Aborted c.number) (filter (λ pair. is_in_scope c.scope pair.1) (all_held s.work.content)) refl
    (λ x i. refl) (λ x i. noted-left w j n c.scope x old.1 old.0 i) (none (same n.batch)) (counts.notes j n old.1))
    (λ past. absurd (none-some n (sym (get_or-past note s.work.setup.caps.engines j None past) ∙ h)))
    (cases_lt j s.work.setup.caps.engines))
    (λ batch. change-entries (is_of_batch batch) caps s s' w.shape w.cells c)
  where
    none : {m n : ℕ} → m ≡ n + 0 → m ≡ n
    none e = omega (arith, e)

    unended : (such : Fate → Bool) (batch : ℕ) → s'.work.fates ≡ s.work.fates
        → members_ended such s'.work batch ≡ members_ended such s.work batch
    unended such batch = ap (λ (rows : List FateRow). count_by (λ row. such row.fate && is_of_batch batch row.parent)
        rows)

-- ---- names that are not a noted batch's

-- a name that has no members, and is not in progress as a batch
abbrev IsUnused : Work → ℕ → Type 0
IsUnused w name = (members_of w name ≡ 0) × IsUnnoted w name

-- only of a noted batch members are fetched
pub members-change : (caps : Caps) (s s' : State) (name : ℕ) → IsWellFormed caps s → Change s s'
    → IsUnnoted s.work name → members_of s'.work name ≡ members_of s.work name
members-change caps s s' name w c apart =
    let all = change-entries (is_of_batch name) caps s s' w.shape w.cells c in
    let none = by_count (λ xs k w'. count_by (is_of_batch name) xs ≡ 0) s s' c (λ e. refl) (λ c. refl) (λ c. refl)
    (λ c. count-cons (is_of_batch name) (Some c.note.batch) [] false (false_from_ne_true (c.note.batch == name)
    (λ t. apart c.engine c.note c.is_note (eqb-true c.note.batch name t))))
    (λ c. refl) (λ c. refl) (λ c. refl) (λ c. refl) in
    omega (arith, all, none)

-- a name that is not given yet
unused-not_given : (caps : Caps) (s : State) (name : ℕ) → IsWellFormed caps s → CountsMembers s.work
    → s.work.setup.next_name ≤ name → IsUnused s.work name
unused-not_given caps s name w counts past = (
  counts.not_given name past,
  unnoted w name (omega (arith, w.names.not_given name past)),
)

-- what waits in a queue after a change has an unused name
queued-change : (caps : Caps) (s s' : State) → IsWellFormed caps s → CountsMembers s.work → Change s s'
    → EachAt (λ k x. k < s.work.setup.caps.queues → IsUnused s.work x.1.name) s'.work.content
queued-change caps s s' w counts c = each-effect Waiting s s' old c
    (λ c. each-pushed Waiting s.work.content c.queue _ old
    (λ below. unused-not_given caps s s.work.setup.next_name w counts (omega arith)))
    (λ c. each-pushed Waiting (without_front s.work.content c.queue) (progress_list s.work.setup c.engine) _
    (each-without_front Waiting s.work.content c.queue old) (λ below. absurd (omega (arith, below))))
    (λ c. each-pushed Waiting s.work.content (member_list s.work.setup c.engine) _ old
    (λ below. absurd (omega (arith, below))))
    (λ c. each-set Waiting s.work.content (member_list s.work.setup c.engine) _ old
    (λ x i below. absurd (omega (arith, below))))
  where
    Waiting : ℕ → HeldEntry → Type 0
    Waiting = λ k x. k < s.work.setup.caps.queues → IsUnused s.work x.1.name

    old : EachAt Waiting s.work.content
    old k x i below = (
      counts.queued k x below i,
      λ e n is named. omega (arith, noted-place w e n x k is i (sym named), below),
    )

counts-change : (caps : Caps) (s s' : State) → IsWellFormed caps s → IsWellFormed caps s' → CountsMembers s.work
    → Change s s' → CountsMembers s'.work
counts-change caps s s' w w' counts c = record {
  notes = notes-change caps s s' w counts c;
  queued = λ q x below i.
      let before = queues-same w.shape in
      let after = queues-same w'.shape in
      let unused = queued-change caps s s' w counts c q x i (omega (arith, below, before, after)) in
      members-change caps s s' x.1.name w c unused.1 ∙ unused.0;
  not_given = λ name past.
      let next = (flow-change caps s s' w.shape w.cells c).next in
      let unused = unused-not_given caps s name w counts (omega (arith, past, next)) in
      members-change caps s s' name w c unused.1 ∙ unused.0;
}

counts-opening : (caps : Caps) → CountsMembers (opening caps).work
counts-opening caps = record {
  notes = λ e n h. absurd (none-some n (sym (get_or-replicated None caps.engines e) ∙ h));
  queued = λ q x below i. absurd (subst (In x) (chain-empty (list_count caps) q) i);
  not_given = λ name past. ap (λ (xs : List HeldEntry). 0 + count_by (λ pair. is_of_batch name pair.1.parent) xs)
      (all_held-empty (list_count caps));
}

-- in every state of a history
pub replay-counts : (caps : Caps) (h : List Step) (s : State) → replay caps h ≡ Some s → CountsMembers s.work
replay-counts caps h s e =
    (replay_keeps (λ t. IsWellFormed caps t × CountsMembers t.work)
    (λ t t' p c. let after = well_formed-change caps t t' p.0 c in (after, counts-change caps t t' p.0 after p.1 c))
    h (opening caps) s (well_formed-opening caps, counts-opening caps) e).1
