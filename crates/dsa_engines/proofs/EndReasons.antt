-- Why an engine does not end an entry, and which answer that is.
use Rattle.std.proofs.Common.{◌≡◌, ℕ, ◌+◌, ◌<◌, ◌≤◌, ◌==◌, Bool, true, false, not, ◌&&◌, ◌||◌, nat_lt, [], ◌∷◌}
use Rattle.std.proofs.Common.{length, Option, Some, None, refl, sym, ap, ◌∙◌, arith, inl, inr}
use Rattle.std.proofs.lemmas.{Grind.{common_steps}, Bool.{cases_lt, lt-ltb}}
use Rattle.std.specs.{Prelude.{find}, Option.{option_map, option_or}}
use Rattle.dsa_base.specs.Rows.{first_row, first_row_or, when, passes}
use Rattle.dsa_desc.specs.declared.Outcome.{Outcome}
use Rattle.dsa_regs.specs.{declared.{Caps.{Caps}}, Caps.{list_use}}
use Rattle.dsa_store.specs.{declared.entry.Entry.{Entry}, Content.{HeldEntry, Content, all_held, use_count, list_of_cell, entry_of}}
use Rattle.dsa_book.specs.declared.answer.{Ticket.{Ticket}, FinishAnswer.{FinishAnswer, TheVariants.{Done, NotReady, Gone}}}
use Rattle.dsa_book.specs.State.{Setup, Work, is_batch_of, is_drain_of, is_ticket}
use Rattle.dsa_book.specs.Work.{running_on, waits_for, waits, members, note_at, is_all_fetched, must_wait}
use Rattle.dsa_book.specs.Work.{finish, finish_of, last_status, after_end}
use Rattle.dsa_engines.proofs.Finding.{meant_in, found}
use Rattle.dsa_engines.specs.declared.reasons.FinishReason.{FinishReason}
use Rattle.dsa_engines.specs.declared.reasons.FinishReason.TheVariants.{OtherName, Elsewhere, NotStarted}
use Rattle.dsa_engines.specs.declared.reasons.FinishReason.TheVariants.{MembersLeft, StillToFetch, DrainWaits}
use Rattle.dsa_engines.specs.Engines.{lists_alone}
use Rattle.dsa_engines.specs.Finish.{first_waited, gone_table, wait_table, is_list_of}
use Rattle.dsa_engines.specs.Finish.{fetched_count, member_total, entry_reason, finish_reason, finish_answer, unended}
use Rattle.dsa_engines.specs.Batch.{name_of_entry}
use Rattle.dsa_engines.proofs.Rows.{find-any}

-- where nothing is waited for, what is no batch waits for nothing
pub no-wait : (w : Work) (e : ℕ) (entry : Entry) → is_batch_of w.setup entry ≡ false → first_waited w entry ≡ None
    → None ≡ first_row (wait_table w e entry)
no-wait w e entry batch h =
    let none = find-any (λ (pair : HeldEntry). waits_for entry pair.1) (all_held w.content) in
    grind (arith, common_steps, none, h, batch)

-- and where something is, a Drain waits for the first
pub one-wait : (w : Work) (e : ℕ) (entry : Entry) (pair : HeldEntry) → is_batch_of w.setup entry ≡ false
    → is_drain_of w.setup entry ≡ true → first_waited w entry ≡ Some pair
    → Some (DrainWaits pair.1.name) ≡ first_row (wait_table w e entry)
one-wait w e entry pair batch is h =
    let some = find-any (λ (pair : HeldEntry). waits_for entry pair.1) (all_held w.content) in
    grind (arith, common_steps, some, is, h, batch)

-- a list is the engine's where its number is
mine : (caps : Caps) (e i : ℕ) → e < caps.engines
    → (i == caps.queues + e || i == caps.queues + caps.engines + e) ≡ is_list_of e (list_use caps i)
mine caps e i h = elim (cases_lt i caps.queues) [
  | inl low ↦ grind (arith, common_steps, low, h)
  | inr past ↦ elim (cases_lt i (caps.queues + caps.engines)) [
    | inl low ↦ grind (arith, common_steps, low, past, h)
    | inr high ↦ grind (arith, common_steps, high, past, h)
  ]
]

-- what has to wait has a reason, and no other
must : (w : Work) (e : ℕ) (entry : Entry)
    → option_map finish_answer (first_row (wait_table w e entry)) ≡ when (must_wait w e entry) NotReady
must w e entry = go (is_batch_of w.setup entry) (nat_lt 0 (length (members w e)))
    (passes (λ note. not (is_all_fetched note)) (note_at w e)) (is_drain_of w.setup entry && waits w entry)
    (length (members w e)) (fetched_count w e) (member_total w e) (name_of_entry (first_waited w entry))
  where
    go : (a b c d : Bool) (left fetched count first : ℕ)
        → option_map finish_answer (first_row ((a && b, MembersLeft left) ∷ (a && c, StillToFetch fetched count) ∷
        (d, DrainWaits first) ∷ []))
        ≡ when (a && (b || c) || d) NotReady
    go true true c d left fetched count first = refl
    go true false true d left fetched count first = refl
    go true false false true left fetched count first = refl
    go true false false false left fetched count first = refl
    go false b c true left fetched count first = refl
    go false b c false left fetched count first = refl

-- the rest of the answer
ready : (w after : Work) (status : ℕ) (m : Bool)
    → when m NotReady
    ≡ unended (first_row_or {X = FinishAnswer × Work} ((m, (NotReady, w)) ∷ []) (Done status, after)).0
ready w after status true = refl
ready w after status false = refl

-- of what the cell holds and in which list
of_entry : (w : Work) (e : ℕ) (t : Ticket) (outcome : Outcome) → e < w.setup.caps.engines
    → (list : Option ℕ) (entry : Option Entry)
    → option_map finish_answer (entry_reason w e t.name entry (option_map (list_use w.setup.caps) list))
    ≡ unended (finish_of w e outcome (meant_in w.setup e t list entry)).0
of_entry w e t outcome h None None = refl
of_entry w e t outcome h None (Some entry) = refl
of_entry w e t outcome h (Some i) None = refl
of_entry w e t outcome h (Some i) (Some entry) = rw (mine w.setup.caps e i h)
    (go (entry.name == t.name) (is_list_of e (list_use w.setup.caps i)) entry.running)
  where
    go : (a b c : Bool)
        → option_map finish_answer (first_row ((not a, OtherName entry.name) ∷
        (not b, Elsewhere (list_use w.setup.caps i)) ∷ (not c, NotStarted) ∷ wait_table w e entry))
        ≡ unended (finish_of w e outcome (when (b && (c && a)) (t.cell, entry))).0
    go false false c = refl
    go false true false = refl
    go false true true = refl
    go true false c = refl
    go true true false = refl
    go true true true =
        must w e entry
        ∙ ready w (after_end w e (t.cell, entry) outcome) (last_status w e (t.cell, entry) outcome)
        (must_wait w e entry)

-- the reason is one for the answer
pub ended-told : (w : Work) (e : ℕ) (t : Ticket) (outcome : Outcome) → use_count w.content t.cell ≤ 1
    → option_map finish_answer (finish_reason w e t) ≡ unended (finish w e t outcome).0
ended-told w e t outcome once = elim (cases_lt e w.setup.caps.engines) [
  | inl here ↦
      let there = found w.setup w.content e t once here in
      let reason : finish_reason w e t ≡ entry_reason w e t.name (entry_of w.content t.cell)
      (option_map (list_use w.setup.caps) (list_of_cell w.content t.cell)) =
      rw (lt-ltb e w.setup.caps.engines here) refl in
      ap (option_map finish_answer) reason
      ∙ of_entry w e t outcome here (list_of_cell w.content t.cell) (entry_of w.content t.cell)
      ∙ ap (λ (pair : Option HeldEntry). unended (finish_of w e outcome pair).0) (sym there)
  | inr past ↦
      let off : nat_lt e w.setup.caps.engines ≡ false = grind (arith, common_steps, past) in
      rw off refl
]

-- where nothing is answered but the reason, nothing ends
finish-kept : (w : Work) (e : ℕ) (t : Ticket) (outcome : Outcome) (answer : FinishAnswer)
    → unended (finish w e t outcome).0 ≡ Some answer → finish w e t outcome ≡ (answer, w)
finish-kept w e t outcome answer = go (find (is_ticket t) (running_on w e))
  where
    ends : (b : Bool) (status : ℕ) (after : Work)
        → unended (first_row_or {X = FinishAnswer × Work} ((b, (NotReady, w)) ∷ []) (Done status, after)).0 ≡ Some answer
        → first_row_or {X = FinishAnswer × Work} ((b, (NotReady, w)) ∷ []) (Done status, after) ≡ (answer, w)
    ends true status after is = let same : answer ≡ NotReady = cc in rw same refl
    ends false status after is = absurd cc

    go : (pair : Option HeldEntry) → unended (finish_of w e outcome pair).0 ≡ Some answer
        → finish_of w e outcome pair ≡ (answer, w)
    go None is = let same : answer ≡ Gone = cc in rw same refl
    go (Some pair) is = ends (must_wait w e pair.1) (last_status w e pair outcome) (after_end w e pair outcome) is

-- so what has a reason is answered by it
pub finish-refused : (w : Work) (e : ℕ) (t : Ticket) (outcome : Outcome) (reason : FinishReason)
    → use_count w.content t.cell ≤ 1 → Some reason ≡ finish_reason w e t
    → finish w e t outcome ≡ (finish_answer reason, w)
finish-refused w e t outcome reason once is =
    finish-kept w e t outcome (finish_answer reason)
    (sym (ended-told w e t outcome once) ∙ ap (option_map finish_answer) (sym is))

-- what waits for nothing need not wait
pub ready-waits : (w : Work) (e : ℕ) (entry : Entry) → None ≡ first_row (wait_table w e entry) → must_wait w e entry ≡ false
ready-waits w e entry is = go (must_wait w e entry) (ap (option_map finish_answer) is ∙ must w e entry)
  where
    go : (b : Bool) → None ≡ when b NotReady → b ≡ false
    go true is = absurd cc
    go false is = refl

-- ---- an entry that is looked for by the ticket's cell

module _ (setup : Setup) (content : Content) (e : ℕ) (t : Ticket) (once : use_count content t.cell ≤ 1)
    (here : e < setup.caps.engines) where
  -- a cell that stands in no list
  pub no-list : list_of_cell content t.cell ≡ None → find (is_ticket t) (running_on (lists_alone setup content) e) ≡ None
  no-list none = found setup content e t once here ∙ rw none refl

  -- and one that holds no entry
  pub no-entry : {i : ℕ} → list_of_cell content t.cell ≡ Some i → entry_of content t.cell ≡ None
      → find (is_ticket t) (running_on (lists_alone setup content) e) ≡ None
  no-entry listed none = found setup content e t once here ∙ rw (listed, none) refl

  module _ {i : ℕ} {entry : Entry} (listed : list_of_cell content t.cell ≡ Some i)
      (there : entry_of content t.cell ≡ Some entry) where
    entry-found : find (is_ticket t) (running_on (lists_alone setup content) e)
        ≡ when (is_list_of e (list_use setup.caps i) && (entry.running && entry.name == t.name)) (t.cell, entry)
    entry-found = found setup content e t once here ∙ rw (listed, there, ← mine setup.caps e i here) refl

    -- an entry that is not the engine's to end
    pub entry-gone : (reason : FinishReason) → Some reason ≡ first_row (gone_table e t.name entry (list_use setup.caps i))
        → find (is_ticket t) (running_on (lists_alone setup content) e) ≡ None
    entry-gone reason is = entry-found ∙ go (entry.name == t.name) (is_list_of e (list_use setup.caps i)) entry.running is
      where
        go : (a b c : Bool) → Some reason
            ≡ first_row ((not a, OtherName entry.name) ∷ (not b, Elsewhere (list_use setup.caps i)) ∷ (not c, NotStarted) ∷ [])
            → ◌≡◌ {A = Option HeldEntry} (when (b && (c && a)) (t.cell, entry)) None
        go false false c is = refl
        go false true false is = refl
        go false true true is = refl
        go true false c is = refl
        go true true false is = refl
        go true true true is = absurd cc

    -- and one that is
    pub entry-meant : None ≡ first_row (gone_table e t.name entry (list_use setup.caps i))
        → find (is_ticket t) (running_on (lists_alone setup content) e) ≡ Some (t.cell, entry)
    entry-meant is = entry-found ∙ go (entry.name == t.name) (is_list_of e (list_use setup.caps i)) entry.running is
      where
        go : (a b c : Bool) → ◌≡◌ {A = Option FinishReason} None
            (first_row ((not a, OtherName entry.name) ∷ (not b, Elsewhere (list_use setup.caps i)) ∷ (not c, NotStarted) ∷ []))
            → ◌≡◌ {A = Option HeldEntry} (when (b && (c && a)) (t.cell, entry)) (Some (t.cell, entry))
        go false b c is = absurd cc
        go true false c is = absurd cc
        go true true false is = absurd cc
        go true true true is = refl
