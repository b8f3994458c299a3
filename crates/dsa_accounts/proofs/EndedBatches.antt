-- When a batch has ended, its members are done or abandoned, and so they stay.
use Rattle.std.proofs.Common.{Some, None, refl, ap, ◌∙◌, subst, arith, ⊎_elim, eq-eqb}
use Rattle.std.proofs.Common.{◌≡◌, ℕ, ◌≤◌, ◌&&◌, ◌==◌, not, Bool, true, false, List, [], ◌∷◌, ◌++◌, length, Option, sym}
use Rattle.std.proofs.lemmas.Bool.{or_parts, or_cases, and_right, leb-true, ltb-false, not-false, false_from_ne_true}
use Rattle.std.specs.Prelude.{count_by, nat_lt, find}
use Rattle.dsa_base.proofs.{Lists.{length-none, In-append, In-filter, In-find}, Tables.{table1}}
use Rattle.dsa_base.{proofs.Counts.{In-counted, count-none, count-cons}, specs.{Rows.{passes}, Lists.{In}}}
use Rattle.dsa_desc.specs.declared.Outcome.{Outcome}
use Rattle.dsa_regs.specs.declared.Caps.{Caps}
use Rattle.dsa_store.specs.Content.{HeldEntry, all_held}
use Rattle.dsa_book.proofs.{Nexts.{next-each}, Replay.{replay_from-append, replay_none}}
use Rattle.dsa_book.specs.Machine.{next, replay, replay_from, with_work}
use Rattle.dsa_book.specs.Work.{after_end, finish_of, in_progress, is_all_fetched, is_unfinished, last_status, members}
use Rattle.dsa_book.specs.Work.{must_wait}
use Rattle.dsa_book.specs.declared.answer.Reply.{Reply, TheVariants.{Finish}}
use Rattle.dsa_book.specs.declared.answer.{FinishAnswer.{FinishAnswer, TheVariants.{Done, NotReady}}, Ticket.{Ticket}}
use Rattle.dsa_book.specs.declared.fate.{Fate.{Fate, TheVariants.{Completed}}, FateRow.{FateRow}}
use Rattle.dsa_book.specs.declared.{event.{Event.TheVariants.{Finish}, Step.{Step}}, note.BatchNote.{BatchNote}}
use Rattle.dsa_book.specs.{State.{Work, State, opening, is_batch_of, is_ticket}, Work.{note_at, running_on}}
use Rattle.dsa_laws.proofs.Histories.{replay_keeps, replay-well_formed, well_formed-change}
use Rattle.dsa_laws.specs.{WellFormed.{IsWellFormed, NoteFits, fates_named}, Change.{Change, IsEnded, is_ended}}
use Rattle.dsa_laws.{proofs.Flows.{flow-change, rows-counted, IsFlow}, specs.Engines.{holds_batch}}
use Rattle.dsa_accounts.proofs.BatchCounts.{CountsMembers, adds-up, members_of, members-change, replay-counts}
use Rattle.dsa_accounts.proofs.NotedBatches.{is_of-parent, named-once, noted, noted-member, unnoted}
use Rattle.dsa_accounts.specs.BatchCounts.{is_of_batch, was_completed, was_aborted, members_ended, members_held}
use Rattle.dsa_accounts.specs.BatchCounts.{HasEnded}
use Rattle.dsa_accounts.{proofs.{Accounts.{change-entries}, BatchCounts.{rows-apart}}, specs.Accounts.{was_abandoned}}

-- ---- the step that ends a batch

-- a batch that ends had nothing left to do
abbrev Ends : State → ℕ → HeldEntry → Outcome → State → Type 0
Ends s e batch outcome t = (must_wait s.work e batch.1 ≡ false)
    × (with_work s (after_end s.work e batch outcome) ≡ t)

-- what an answer says, where it tells of an end with the status
abbrev Tells : State → ℕ → HeldEntry → Outcome → ℕ → FinishAnswer × Work → Type 0
Tells s e batch outcome status r =
    ◌≡◌ {A = Reply} (Finish r.0) (Finish (Done status)) → Ends s e batch outcome (with_work s r.1)

done-is : (s : State) (e : ℕ) (batch : HeldEntry) (outcome : Outcome) (status : ℕ)
    → Tells s e batch outcome status (finish_of s.work e outcome (Some batch))
done-is s e batch outcome status = table1 (Tells s e batch outcome status) _ (NotReady, s.work)
    (Done (last_status s.work e batch outcome), after_end s.work e batch outcome)
    (λ u told. absurd (other told)) (λ u told. (u, refl))
  where
    other : ◌≡◌ {A = Reply} (Finish NotReady) (Finish (Done status)) → ⊥
    other told = cc

next-done : (s t : State) (e : ℕ) (ticket : Ticket) (outcome : Outcome) (status : ℕ) (batch : HeldEntry)
    → next s (Finish e ticket outcome) (Finish (Done status)) ≡ Some t
    → find (is_ticket ticket) (running_on s.work e) ≡ Some batch → Ends s e batch outcome t
next-done s t e ticket outcome status batch h found =
    next-each (λ r u. r ≡ Finish (Done status) → Ends s e batch outcome u)
    s t (Finish e ticket outcome) (Finish (Done status))
    (λ choice may told. subst (λ (o : Option HeldEntry). Tells s e batch outcome status (finish_of s.work e outcome o))
    (sym found) (done-is s e batch outcome status)) h refl

-- ---- where it ends

-- the batch that ends is in progress, and no member is left
record IsEnding (s : State) (e : ℕ) (batch : HeldEntry) : Type 0 where
  running : In batch (in_progress s.work e)
  is_batch : holds_batch s.work.setup batch ≡ true
  no_members : members s.work e ≡ []
  fetched : passes (λ note. not (is_all_fetched note)) (note_at s.work e) ≡ false

ending : (s : State) (e : ℕ) (ticket : Ticket) (batch : HeldEntry)
    → find (is_ticket ticket) (running_on s.work e) ≡ Some batch
    → is_batch_of s.work.setup batch.1 ≡ true → must_wait s.work e batch.1 ≡ false → IsEnding s e batch
ending s e ticket batch found is ready =
    let unfinished : is_unfinished s.work e ≡ false = ap (λ (b : Bool). b && is_unfinished s.work e) (sym is)
    ∙ (or_parts _ _ ready).0 in
    let parts = or_parts (nat_lt 0 (length (members s.work e))) _ unfinished in
    let none = ltb-false 0 (length (members s.work e)) parts.0 in
    let empty = length-none (members s.work e) (omega (arith, none)) in
    let i = (In-filter _ batch (in_progress s.work e ++ members s.work e)
    (In-find _ batch (running_on s.work e) found).0).0 in
    record {
      running = ⊎_elim (λ p. p) (λ m. absurd (subst (In batch) empty m))
          (In-append batch (in_progress s.work e) (members s.work e) i);
      is_batch = is;
      no_members = empty;
      fetched = parts.1;
    }

-- what its members add up to in the state before its end
before-end : (caps : Caps) (s : State) (e : ℕ) (batch : HeldEntry) → IsWellFormed caps s → CountsMembers s.work
    → IsEnding s e batch
    → HasEnded s.work batch.1.name batch.1.desc.size
before-end caps s e batch w counts h = go (note_at s.work e) refl
  where
    go : (o : Option BatchNote) → note_at s.work e ≡ o → HasEnded s.work batch.1.name batch.1.desc.size
    go None q =
        absurd (omega (
          arith,
          (noted w e None q).no_batch,
          In-counted (holds_batch s.work.setup) batch (in_progress s.work e) h.running h.is_batch,
        ))
    go (Some n) q =
        let of = (noted w e (Some n) q).noted batch h.running h.is_batch in
        let count = of.count in
        let sum = adds-up s.work n (counts.notes e n q) in
        let none : members_held s.work n.batch ≡ 0 = count-none (λ (pair : HeldEntry). is_of_batch n.batch pair.1.parent)
        (all_held s.work.content) (λ y i. false_from_ne_true _ (λ t. subst (In y) h.no_members
        (noted-member w e n y q i (is_of-parent n.batch y.1.parent t)))) in
        let fits : NoteFits caps (Some n) = subst (NoteFits caps) q (w.notes e) in
        let fetched = sum.fetched in
        let below = fits.fetched in
        let all = or_cases n.closed _ (not-false _
        (ap (passes (λ note. not (is_all_fetched note))) (sym q) ∙ h.fetched)) in
        subst (λ (name : ℕ). HasEnded s.work name batch.1.desc.size) of.name (record {
          all = λ z. ⊎_elim
              (λ closed. let some = sum.closed closed in absurd (omega (arith, some, z)))
              (λ all. let most = leb-true n.count n.fetched all in omega (arith, fetched, none, z, most, below, count))
              all;
          most = omega (arith, fetched, none, below, count);
          none_held = none;
          none_aborted = sum.none_aborted;
        })

-- ---- later states

-- a batch that has a fate
record IsOver (w : Work) (batch count : ℕ) : Type 0 where
  has_fate : 1 ≤ fates_named w batch
  ended : HasEnded w batch count

-- where no member has come since, none has ended
carried : {caps : Caps} {w w' : Work} (batch count : ℕ) → IsFlow caps w w' → members_of w' batch ≡ members_of w batch
    → HasEnded w batch count → HasEnded w' batch count
carried {caps} {w} {w'} batch count flow all h =
    let test : HeldEntry → Bool = λ pair. is_of_batch batch pair.1.parent in
    let of : FateRow → Bool = λ row. is_of_batch batch row.parent in
    let rows = ap (λ (rows : List FateRow). count_by of rows) flow.fates
    ∙ rows-counted of w.fates flow.fate flow.gone in
    let none = h.none_held in
    let same : (such : Fate → Bool) → members_ended such w' batch ≡ members_ended such w batch = λ such.
    rows-apart such w w' flow.fate flow.gone batch (λ x i. and_right _ _ (false_from_ne_true (test x)
    (λ t. omega (arith, In-counted test x flow.gone i t, rows, all, none)))) flow.fates in
    let done = same was_completed in
    let abandoned = same was_abandoned in
    let most = h.most in
    record {
      all = λ z. done ∙ h.all (sym abandoned ∙ z);
      most = omega (arith, done, abandoned, most);
      none_held = omega (arith, rows, all, none);
      none_aborted = same was_aborted ∙ h.none_aborted;
    }

-- the batch itself ends
after-end : (caps : Caps) (s t : State) (count : ℕ) → IsWellFormed caps s → (c : IsEnded s t)
    → HasEnded s.work c.pair.1.name count → IsOver t.work c.pair.1.name count
after-end caps s t count w c h =
    let name = c.pair.1.name in
    let own : FateRow → Bool = λ row. row.name == name in
    let fate = Completed (last_status s.work c.engine c.pair c.outcome) in
    let rows = rows-counted own s.work.fates fate (c.pair ∷ []) in
    let one = count-cons (λ (pair : HeldEntry). pair.1.name == name) c.pair [] true (eq-eqb name name refl) in
    let all = change-entries (is_of_batch name) caps s t w.shape w.cells (is_ended c) in
    record {
      has_fate = subst (λ (u : State). 1 ≤ fates_named u.work name) c.after (omega (arith, rows, one));
      ended = carried name count (flow-change caps s t w.shape w.cells (is_ended c)) (omega (arith, all)) h;
    }

-- no change adds to a batch that is over
over-change : (caps : Caps) (s s' : State) (batch count : ℕ) → IsWellFormed caps s → IsOver s.work batch count
    → Change s s' → IsOver s'.work batch count
over-change caps s s' batch count w h c =
    let flow = flow-change caps s s' w.shape w.cells c in
    let own : FateRow → Bool = λ row. row.name == batch in
    let fates = ap (λ (rows : List FateRow). count_by own rows) flow.fates
    ∙ rows-counted own s.work.fates flow.fate flow.gone in
    let fate = h.has_fate in
    let once = named-once w batch in
    record {
      has_fate = omega (arith, fates, fate);
      ended = carried batch count flow
          (members-change caps s s' batch w c (unnoted w batch (omega (arith, once, fate)))) h.ended;
    }

-- ---- any history

pub replay-ended : (caps : Caps) (before after : List Step) (s s' : State) (e : ℕ) (ticket : Ticket)
    (outcome : Outcome) (status : ℕ) (batch : HeldEntry)
    → replay caps before ≡ Some s → find (is_ticket ticket) (running_on s.work e) ≡ Some batch
    → is_batch_of s.work.setup batch.1 ≡ true
    → replay caps (before ++ record { event = Finish e ticket outcome; reply = Finish (Done status) } ∷ after) ≡ Some s'
    → HasEnded s'.work batch.1.name batch.1.desc.size
replay-ended caps before after s s' e ticket outcome status batch r found is h =
    go (next s step.event step.reply) refl (sym (ap (λ o. replay_from o (step ∷ after)) r) ∙ sym
    (replay_from-append before (step ∷ after) (Some (opening caps))) ∙ h)
  where
    step : Step
    step = record { event = Finish e ticket outcome; reply = Finish (Done status) }

    IsOverIn : State → Type 0
    IsOverIn = λ u. IsWellFormed caps u × IsOver u.work batch.1.name batch.1.desc.size

    go : (o : Option State) → next s step.event step.reply ≡ o → replay_from o after ≡ Some s'
        → HasEnded s'.work batch.1.name batch.1.desc.size
    go None n k = absurd (replay_none after s' k)
    go (Some t) n k =
        let w = replay-well_formed caps before s r in
        let done = next-done s t e ticket outcome status batch n found in
        let c : IsEnded s t = record {
          engine = e;
          ticket = ticket;
          outcome = outcome;
          pair = batch;
          is_found = found;
          ready = done.0;
          after = done.1;
        } in
        let old = before-end caps s e batch w (replay-counts caps before s r)
        (ending s e ticket batch found is done.0) in
        (replay_keeps IsOverIn
        (λ u u' p c. (
          well_formed-change caps u u' p.0 c,
          over-change caps u u' batch.1.name batch.1.desc.size p.0 p.1 c,
        ))
        after t s' (well_formed-change caps s t w (is_ended c), after-end caps s t batch.1.desc.size w c old) k).1.ended
