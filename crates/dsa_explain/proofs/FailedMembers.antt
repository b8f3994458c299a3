-- Where an engine's note says that a member failed, a fate row says which.
use Rattle.std.proofs.Common.{◌≡◌, ℕ, ◌+◌, ◌<◌, ◌∷◌, ◌++◌, ◌==◌, ◌&&◌, not, cond, true, false, List, [], map, get_or}
use Rattle.std.proofs.Common.{Option, Some, None, refl, sym, ap, ◌∙◌, arith, ⊎_elim, option_map, eq-eqb}
use Rattle.std.proofs.lemmas.Bool.{cond_both, cases_lt, or_left, or_right, and_parts, and_from}
use Rattle.std.proofs.lemmas.List.Folds.{list_any-append}
use Rattle.std.specs.{Prelude.{⊤, is_some, find, filter, slice_set, option_and_then}, List.{list_any}}
use Rattle.dsa_base.proofs.{Lists.{get_or-replicated}, NumberLists.{get_or-each, get_or-past}, Tables.{not-both}}
use Rattle.dsa_base.specs.Rows.{passes}
use Rattle.dsa_desc.specs.Descriptor.{is_successful}
use Rattle.dsa_regs.specs.{declared.Caps.{Caps}, Caps.{first_members}}
use Rattle.dsa_store.specs.Content.{chain, all_held}
use Rattle.dsa_book.specs.declared.fate.{Fate.{TheVariants.{Completed, Aborted, Abandoned}}, FateRow.{FateRow}}
use Rattle.dsa_book.specs.declared.{event.Step.{Step}, note.BatchNote.{BatchNote}}
use Rattle.dsa_book.specs.State.{Work, State, opening, is_batch_of, is_member, status_of_entry}
use Rattle.dsa_book.specs.{Machine.{replay}, Commands.{kept_note, is_in_scope}}
use Rattle.dsa_book.specs.Work.{note_at, has_failed_member, opened_note, fate_row, last_status, note_after, after_end}
use Rattle.dsa_book.specs.Work.{progress_list, members}
use Rattle.dsa_laws.proofs.{Histories.{well_formed-change, well_formed-opening, replay_keeps}, Effects.{by_effect}}
use Rattle.dsa_laws.proofs.{Contents.{each-place}, Shapes.{an_engine, queues-same, running-place}}
use Rattle.dsa_laws.specs.{Change.{Change, IsEnded}, WellFormed.{IsWellFormed}, Engines.{IsLawfulEngine}}
use Rattle.dsa_engines.specs.Batch.{is_failed_in, failed_member}
use Rattle.dsa_engines.proofs.Rows.{find-any, some-map}

-- ---- the row

-- where the note says that a member failed there is such a row
abbrev IsNamed : List FateRow → Option BatchNote → Type 0
IsNamed fates None = ⊤
IsNamed fates (Some n) = n.failed ≡ true → list_any (is_failed_in n.batch) fates ≡ true

-- so of each engine
abbrev AreNamed : Work → Type 0
AreNamed w = (e : ℕ) → IsNamed w.fates (note_at w e)

-- rows that follow take none away
more : (fates rows : List FateRow) (o : Option BatchNote) → IsNamed fates o → IsNamed (fates ++ rows) o
more fates rows None h = tt
more fates rows (Some n) h = λ t. list_any-append (is_failed_in n.batch) fates rows ∙ or_left _ _ (h t)

-- an abandoned rest leaves the mark
closed : (fates : List FateRow) (o : Option BatchNote) → IsNamed fates o
    → IsNamed fates (option_map (λ (note : BatchNote). record note { closed = true }) o)
closed fates None h = tt
closed fates (Some n) h = h

-- a member that ends is of the batch that the note of its engine is of
own-parent : (caps : Caps) (s s' : State) (c : IsEnded s s') (n : BatchNote) → IsWellFormed caps s
    → note_at s.work c.engine ≡ Some n → is_member c.pair.1 ≡ true → c.pair.1.parent ≡ Some n.batch
own-parent caps s s' c n w is member =
    let place = running-place s.work c.engine c.ticket c.pair c.is_found in
    let engine = an_engine w.shape c.engine place.there in
    let law : IsLawfulEngine s.work.setup _ (members s.work c.engine) (Some n) = rw is at (w.engines c.engine) in
    ⊎_elim
    (λ q.
    let below : place.list < first_members caps = omega (arith, q, engine.inside, queues-same w.shape) in
    absurd (not-both _ member (ap is_some ((w.entries.placed place.list c.pair place.at).submitted below))))
    (λ q. law.parents c.pair (rw (engine.members, ← q) place.at))
    place.own

-- so the row of one that fails says of which batch
failed-row : (caps : Caps) (s s' : State) (c : IsEnded s s') (n : BatchNote) → IsWellFormed caps s
    → note_at s.work c.engine ≡ Some n → is_batch_of s.work.setup c.pair.1 ≡ false
    → (is_member c.pair.1 && not (is_successful (status_of_entry s.work.setup c.pair.1 c.outcome))) ≡ true
    → is_failed_in n.batch (fate_row (Completed (last_status s.work c.engine c.pair c.outcome)) c.pair) ≡ true
failed-row caps s s' c n w is other failed =
    let parts = and_parts _ _ failed in
    let parent = ap (passes (λ parent. parent == n.batch)) (own-parent caps s s' c n w is parts.0) in
    let status : last_status s.work c.engine c.pair c.outcome ≡ status_of_entry s.work.setup c.pair.1 c.outcome =
    ap (λ b. cond (b && has_failed_member s.work c.engine) 0x05 (status_of_entry s.work.setup c.pair.1 c.outcome))
    other in
    and_from _ _ (parent ∙ eq-eqb n.batch n.batch refl) (ap (λ n. not (is_successful n)) status ∙ parts.1)

-- the note that an end leaves
named-end : (caps : Caps) (s s' : State) (c : IsEnded s s') → IsWellFormed caps s
    → IsNamed s.work.fates (note_at s.work c.engine)
    → IsNamed (after_end s.work c.engine c.pair c.outcome).fates (note_after s.work c.engine c.pair c.outcome)
named-end caps s s' c w h =
    cond_both (is_batch_of s.work.setup c.pair.1) _ _ (IsNamed after) (λ b. tt)
    (λ b. cond_both (is_member c.pair.1 && not (is_successful (status_of_entry s.work.setup c.pair.1 c.outcome))) _ _
    (IsNamed after) (λ failed. go b failed (note_at s.work c.engine) refl)
    (λ m. more s.work.fates (row ∷ []) (note_at s.work c.engine) h))
  where
    row : FateRow
    row = fate_row (Completed (last_status s.work c.engine c.pair c.outcome)) c.pair

    after : List FateRow
    after = s.work.fates ++ row ∷ []

    go : is_batch_of s.work.setup c.pair.1 ≡ false
        → (is_member c.pair.1 && not (is_successful (status_of_entry s.work.setup c.pair.1 c.outcome))) ≡ true
        → (o : Option BatchNote) → note_at s.work c.engine ≡ o
        → IsNamed after (option_map (λ (note : BatchNote). record note { failed = true }) o)
    go b failed None q = tt
    go b failed (Some n) q = λ t. list_any-append (is_failed_in n.batch) s.work.fates (row ∷ [])
        ∙ or_right _ _ (or_left _ _ (failed-row caps s s' c n w q b failed))

-- ---- every state that a history leads to

-- what the effects keep: no mark is set on a note but by the end of a member
named-change : (caps : Caps) (s s' : State) → IsWellFormed caps s → AreNamed s.work → Change s s' → AreNamed s'.work
named-change caps s s' w h c =
    by_effect AreNamed s s' c
    (λ k. rw (k.notes, k.fates) h)
    (λ c. h)
    (λ c. cond_both (is_batch_of s.work.setup c.front.1) _ _
    (λ (ns : List (Option BatchNote)). (j : ℕ) → IsNamed fates (get_or ns j None))
    (λ b. set fates c.engine (Some (opened_note c.front.1)) h (λ t. absurd cc))
    (λ b. h))
    (λ c.
    let old : IsNamed fates (Some c.note) = rw c.is_note at (h c.engine) in
    set fates c.engine (Some (record c.note { fetched = c.note.fetched + 1 })) h old)
    (λ c. h)
    (λ c.
    let rows = map (fate_row Abandoned) (members s.work c.engine) in
    set (fates ++ rows) c.engine _ (still rows)
    (closed (fates ++ rows) (note_at s.work c.engine) (still rows c.engine)))
    (λ c.
    let rows = fate_row (Completed (last_status s.work c.engine c.pair c.outcome)) c.pair ∷ [] in
    set (fates ++ rows) c.engine _ (still rows) (named-end caps s s' c w (h c.engine)))
    (λ c j.
    let note : ℕ → Option BatchNote =
    λ e. kept_note s.work.setup c.scope (chain s.work.content (progress_list s.work.setup e)) (note_at s.work e) in
    let rows = map (fate_row (Aborted c.number))
    (filter (λ pair. is_in_scope c.scope pair.1) (all_held s.work.content)) in
    ⊎_elim
    (λ i. rw (get_or-each note s.work.setup.caps.engines j None i)
    (cond_both _ None (note_at s.work j) (IsNamed (fates ++ rows)) (λ t. tt) (λ t. still rows j)))
    (λ i. rw (get_or-past note s.work.setup.caps.engines j None i) tt)
    (cases_lt j s.work.setup.caps.engines))
  where
    fates : List FateRow
    fates = s.work.fates

    still : (rows : List FateRow) (j : ℕ) → IsNamed (fates ++ rows) (note_at s.work j)
    still rows j = more fates rows (note_at s.work j) (h j)

    set : (rows : List FateRow) (k : ℕ) (note : Option BatchNote) → ((j : ℕ) → IsNamed rows (note_at s.work j))
        → IsNamed rows note → (j : ℕ) → IsNamed rows (get_or (slice_set s.work.notes k note) j None)
    set rows k note = each-place (λ j. IsNamed rows) None s.work.notes k note

named-opening : (caps : Caps) → AreNamed (opening caps).work
named-opening caps e = rw (get_or-replicated {X = Option BatchNote} None caps.engines e) tt

-- so the rows tell which
told : (w : Work) (e : ℕ) → AreNamed w → has_failed_member w e ≡ true → is_some (failed_member w e) ≡ true
told w e h failed = go (note_at w e) (h e) failed
  where
    go : (o : Option BatchNote) → IsNamed w.fates o → passes (λ note. note.failed) o ≡ true
        → is_some (option_and_then (λ (note : BatchNote). option_map (λ (row : FateRow). row.name)
        (find (is_failed_in note.batch) w.fates)) o) ≡ true
    go None n t = absurd cc
    go (Some note) n t = some-map _ (find (is_failed_in note.batch) w.fates)
        ∙ sym (find-any (is_failed_in note.batch) w.fates) ∙ n t

pub replay-named : (caps : Caps) (h : List Step) (s : State) (e : ℕ) → replay caps h ≡ Some s
    → has_failed_member s.work e ≡ true → is_some (failed_member s.work e) ≡ true
replay-named caps h s e r = told s.work e
    (replay_keeps (λ t. IsWellFormed caps t × AreNamed t.work)
    (λ t t' p c. (well_formed-change caps t t' p.0 c, named-change caps t t' p.0 p.1 c)) h (opening caps) s
    (well_formed-opening caps, named-opening caps) r).1
