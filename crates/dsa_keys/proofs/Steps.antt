-- A step of one state, and the same step of another that is alike.
use Rattle.dsa_book.specs.declared.answer.Reply.TheVariants as reply
use Rattle.std.proofs.Common.{◌≡◌, ℕ, ◌≤◌, true, false, not}
use Rattle.std.proofs.Common.{Option, Some, None, refl, sym, ap, ◌∙◌, subst, ◌⊎◌, inl, inr, ⊎_elim, arith}
use Rattle.std.specs.{Prelude.{⊤}, List.{list_any}}
use Rattle.dsa_base.{specs.{Lists.{In}, Numbers.{numbers_below}}, proofs.Tables.{table1, first_row_or-each}}
use Rattle.dsa_desc.specs.declared.{Descriptor.{Descriptor}}
use Rattle.dsa_regs.specs.{declared.Caps.{Caps}, Caps.{cell_count}}
use Rattle.dsa_store.specs.{declared.entry.Cell.{Cell}, Content.{HeldEntry, all_held, is_free}}
use Rattle.dsa_book.specs.declared.note.{BatchNote.{BatchNote}}
use Rattle.dsa_book.specs.declared.event.{Portal.{Portal}, Kind.{Kind, TheVariants.{Enqcmd, Movdir64b}}, Event.{Event}}
use Rattle.dsa_book.specs.declared.event.Event.TheVariants.{Submit, Dispatch, Fetch, Start, Finish, Issue, Poll}
use Rattle.dsa_book.specs.declared.event.Event.TheVariants.{WriteQueue, WriteGroup, ClearError}
use Rattle.dsa_book.specs.declared.answer.{Reply.{Reply}, Ticket.{Ticket}}
use Rattle.dsa_book.specs.declared.answer.{Cause.{Cause, TheVariants.{AtLimit, NotEnabled, WrongKind}}}
use Rattle.dsa_book.specs.declared.answer.SubmitAnswer.{SubmitAnswer, TheVariants.{Accepted}}
use Rattle.dsa_book.specs.declared.answer.{DispatchAnswer.TheVariants.{Taken}}
use Rattle.dsa_book.specs.declared.answer.{FetchAnswer.{FetchAnswer, TheVariants.{Fetched, AllFetched}}}
use Rattle.dsa_book.specs.declared.answer.StartAnswer.TheVariants.{Started}
use Rattle.dsa_book.specs.State.{Setup, Intake, Work, State, is_ticket}
use Rattle.dsa_book.specs.Submit.{submit, submit_table, after_refusal, after_accept}
use Rattle.dsa_book.specs.Work.{dispatch, dispatch_of, front_of, may_leave, fetch, fetch_for, fetch_of, note_at}
use Rattle.dsa_book.specs.Work.{batch_on, is_all_fetched, after_fetch}
use Rattle.dsa_book.specs.Choice.{Choice, nothing, in_cell, from_queue, choice_of, is_nothing, chosen_cell, may_enter}
use Rattle.dsa_book.specs.Machine.{may_choose, reply_of, next, intake_of, with_intake, with_work, state_with_setup}
use Rattle.dsa_book.proofs.Nexts.{next-is, next-of}
use Rattle.dsa_laws.specs.{Change.{Change}, WellFormed.{IsWellFormed}}
use Rattle.dsa_laws.proofs.{Changes.{next-change}, Flows.{flow-change}}
use Rattle.dsa_answers.proofs.Choices.{not-idle}
use Rattle.dsa_answers.specs.Alike.{TakeAlike}
use Rattle.dsa_keys.proofs.Alike.{Same, Alike, IsLabelledNext, SameActive}
use Rattle.dsa_keys.specs.Labels.{labelled_reply, Labels, HaveSameEnds}
use Rattle.dsa_keys.proofs.Known.{known, apart, Twins}
use Rattle.dsa_keys.proofs.Tests.{qualifies-same}
use Rattle.dsa_keys.proofs.Engines.{Leads, none-ends, dispatch-leads, start-leads, finish-leads, fetch-leads}
use Rattle.dsa_keys.proofs.Submits.{LeadsIn, submit-leads}
use Rattle.dsa_keys.proofs.Orders.{Both-known, waits-change, active-change}
use Rattle.dsa_keys.proofs.Commands.{Turns, Follows, issue-follows, poll-follows, Sets, write_queue-sets}
use Rattle.dsa_keys.proofs.Commands.{write_group-sets, clear-sets}

-- ---- the same step

-- the same event, with that ticket
abbrev pub retold : Event → Ticket → Event
retold (Finish engine ticket outcome) ticket' = Finish engine ticket' outcome
retold event ticket' = event

-- the ticket of the event and that one are of the same entries
abbrev pub SameTicket : Labels → Labels → State → State → Event → Ticket → Type 0
SameTicket m n s t (Finish engine ticket outcome) ticket' = (x y : HeldEntry)
    → Same m n x y × (In x (all_held s.work.content) × In y (all_held t.work.content))
    → is_ticket ticket x ≡ is_ticket ticket' y
SameTicket m n s t event ticket' = ⊤

-- the same choice, but for the cell
abbrev pub choice_with : Choice → Cell → Choice
choice_with nothing cell = nothing
choice_with (in_cell c) cell = in_cell cell
choice_with (from_queue queue) cell = from_queue queue

-- the replies tell the same, the same entries end, and what is left is alike
pub record Agree (m n : Labels) (s s' t t' : State) (reply reply' : Reply) : Type 0 where
  pub replies : labelled_reply m reply ≡ labelled_reply n reply'
  pub alike : Alike m n s' t'
  pub ends : HaveSameEnds m n s.work s'.work t.work t'.work

-- the state makes a step with a reply that tells the same, to one that is alike
pub record MakesSame (m n : Labels) (s s' t : State) (event : Event) (reply : Reply) : Type 0 where
  pub reply' : Reply
  pub t' : State
  pub leads : next t event reply' ≡ Some t'
  pub agree : Agree m n s s' t t' reply reply'

-- ---- choices

-- the same queue is chosen, or some cell
abbrev pub SameChoice : Choice → Choice → Type 0
SameChoice nothing nothing = ⊤
SameChoice (in_cell a) (in_cell b) = ⊤
SameChoice (from_queue q) (from_queue p) = q ≡ p
SameChoice _ _ = ⊥

-- a reply tells whether something was chosen
told-chosen : (m : Labels) (r : Reply) → is_nothing (choice_of (labelled_reply m r)) ≡ is_nothing (choice_of r)
told-chosen m (reply.Submit (Accepted t)) = refl
told-chosen m (reply.Dispatch (Taken t q)) = refl
told-chosen m (reply.Fetch (Fetched t)) = refl
told-chosen m (reply.Start (Started t)) = refl
told-chosen m r = refl

is-nothing : (c : Choice) → is_nothing c ≡ true → c ≡ nothing
is-nothing nothing e = refl
is-nothing (in_cell c) e = absurd cc
is-nothing (from_queue q) e = absurd cc

-- ---- what a reply tells of the choice

-- it is the choice, or nothing
abbrev IsChoice : Choice → Choice → Type 0
IsChoice c d = (d ≡ c) ⊎ (d ≡ nothing)

refusal-chosen : (i : Intake) (q : ℕ) (kind : Kind) (cause : Cause)
    → choice_of (reply.Submit (after_refusal i q kind cause).0) ≡ nothing
refusal-chosen i q (Enqcmd pasid) cause = refl
refusal-chosen i q Movdir64b cause = refl

submit-chosen : (i : Intake) (q : ℕ) (portal : Portal) (kind : Kind) (desc : Descriptor) (cell : Cell)
    → IsChoice (in_cell cell) (choice_of (reply.Submit (submit i q portal kind desc cell).0))
submit-chosen i q portal kind desc cell =
    first_row_or-each (λ (r : SubmitAnswer × Intake). IsChoice (in_cell cell) (choice_of (reply.Submit r.0)))
    (submit_table i q portal kind) (after_accept i q kind desc cell) (
      inr (refusal-chosen i q kind NotEnabled),
      (inr (refusal-chosen i q kind WrongKind), (inr (refusal-chosen i q kind AtLimit), tt)),
    )
    (inl refl)

fetch-chosen : (w : Work) (e : ℕ) (desc : Descriptor) (cell : Cell)
    → IsChoice (in_cell cell) (choice_of (reply.Fetch (fetch w e desc cell).0))
fetch-chosen w e desc cell = go (note_at w e)
  where
    found : (note : BatchNote) (o : Option HeldEntry)
        → IsChoice (in_cell cell) (choice_of (reply.Fetch (fetch_of w e desc cell note o).0))
    found note None = inr refl
    found note (Some batch) =
        table1 (λ (r : FetchAnswer × Work). IsChoice (in_cell cell) (choice_of (reply.Fetch r.0)))
        (is_all_fetched note) (AllFetched, w) (after_fetch w e desc cell note batch.1) (λ u. inr refl) (λ u. inl refl)

    go : (o : Option BatchNote) → IsChoice (in_cell cell) (choice_of (reply.Fetch (fetch_for w e desc cell o).0))
    go None = inr refl
    go (Some note) = found note (batch_on w e note)

dispatch-chosen : (w : Work) (e : ℕ) (choice : Choice)
    → IsChoice choice (choice_of (reply.Dispatch (dispatch w e choice).0))
dispatch-chosen w e nothing = inr refl
dispatch-chosen w e (in_cell cell) = inr refl
dispatch-chosen w e (from_queue q) = go (front_of w q)
  where
    go : (o : Option HeldEntry) → IsChoice (from_queue q) (choice_of (reply.Dispatch (dispatch_of w e q o).0))
    go None = inr refl
    go (Some x) = inl refl

-- a choice of a cell is that cell
celled : (s : State) (choice : Choice) (d : Choice) → may_enter s.work.setup s.work.content choice ≡ true
    → IsChoice (in_cell (chosen_cell choice)) d → is_nothing d ≡ is_nothing choice → d ≡ choice
celled s nothing d may is e = is-nothing d e
celled s (in_cell c) d may (inl h) e = h
celled s (in_cell c) d may (inr h) e = let f : true ≡ false = ap is_nothing (sym h) ∙ e in absurd cc
celled s (from_queue q) d may is e = absurd cc

chosen : (s : State) (event : Event) (choice : Choice) → may_choose s event choice ≡ true
    → is_nothing (choice_of (reply_of s event choice).0) ≡ is_nothing choice
    → choice_of (reply_of s event choice).0 ≡ choice
chosen s (Submit client queue portal kind desc) choice may e =
    celled s choice _ may (submit-chosen (intake_of s) queue portal kind desc (chosen_cell choice)) e
chosen s (Dispatch engine) choice may e = ⊎_elim (λ h. h)
    (λ h. h ∙ sym (is-nothing choice (sym e ∙ ap is_nothing h))) (dispatch-chosen s.work engine choice)
chosen s (Fetch engine desc) choice may e =
    celled s choice _ may (fetch-chosen s.work engine desc (chosen_cell choice)) e
chosen s (Start engine) choice may e = sym (is-nothing choice may)
chosen s (Finish engine ticket outcome) choice may e = sym (is-nothing choice may)
chosen s (Issue command) choice may e = sym (is-nothing choice may)
chosen s Poll choice may e = sym (is-nothing choice may)
chosen s (WriteQueue queue config) choice may e = sym (is-nothing choice may)
chosen s (WriteGroup group config) choice may e = sym (is-nothing choice may)
chosen s ClearError choice may e = sym (is-nothing choice may)

still-nothing : (choice : Choice) (cell : Cell) → is_nothing choice ≡ true → is_nothing (choice_with choice cell) ≡ true
still-nothing nothing cell e = refl
still-nothing (in_cell c) cell e = absurd cc
still-nothing (from_queue q) cell e = absurd cc

nothing-same : (choice : Choice) (cell : Cell) → is_nothing (choice_with choice cell) ≡ is_nothing choice
nothing-same nothing cell = refl
nothing-same (in_cell c) cell = refl
nothing-same (from_queue q) cell = refl

same-choice : (choice : Choice) (cell : Cell) → SameChoice choice (choice_with choice cell)
same-choice nothing cell = tt
same-choice (in_cell c) cell = tt
same-choice (from_queue q) cell = refl

-- what is to be the same of the choices of an event
abbrev pub SameFor : Event → Choice → Choice → Type 0
SameFor (Dispatch engine) c d = SameChoice c d
SameFor event c d = ⊤

same-for : (event : Event) (c d : Choice) → SameChoice c d → SameFor event c d
same-for (Dispatch engine) c d h = h
same-for (Submit client queue portal kind desc) c d h = tt
same-for (Fetch engine desc) c d h = tt
same-for (Start engine) c d h = tt
same-for (Finish engine ticket outcome) c d h = tt
same-for (Issue command) c d h = tt
same-for Poll c d h = tt
same-for (WriteQueue queue config) c d h = tt
same-for (WriteGroup group config) c d h = tt
same-for ClearError c d h = tt

-- two dispatches that may come take from one queue, if they do so where both take an entry
module _ {m n : Labels} (s t : State) (h : Twins m n s.work t.work) where
  leave-alike : (e : ℕ) (c d : Choice) → may_leave s.work e c ≡ true → may_leave t.work e d ≡ true
      → ((q p : ℕ) → c ≡ from_queue q → d ≡ from_queue p → q ≡ p) → SameChoice c d
  leave-alike e nothing nothing may might take = tt
  leave-alike e (from_queue q) (from_queue p) may might take = take q p refl refl
  leave-alike e (from_queue q) nothing may might take =
      not-idle t.work e q (sym (qualifies-same h e q) ∙ may) might
  leave-alike e nothing (from_queue p) may might take = not-idle s.work e p (qualifies-same h e p ∙ might) may
  leave-alike e (in_cell c) d may might take = absurd cc
  leave-alike e nothing (in_cell d) may might take = absurd cc
  leave-alike e (from_queue q) (in_cell d) may might take = absurd cc

  pub take-alike : (event : Event) (ticket' : Ticket) (r r' : Reply) → may_choose s event (choice_of r) ≡ true
      → may_choose t (retold event ticket') (choice_of r') ≡ true → TakeAlike r r'
      → SameFor event (choice_of r) (choice_of r')
  take-alike (Dispatch e) ticket' r r' may might take = leave-alike e (choice_of r) (choice_of r') may might take
  take-alike (Submit client queue portal kind desc) ticket' r r' may might take = tt
  take-alike (Fetch engine desc) ticket' r r' may might take = tt
  take-alike (Start engine) ticket' r r' may might take = tt
  take-alike (Finish engine ticket outcome) ticket' r r' may might take = tt
  take-alike (Issue command) ticket' r r' may might take = tt
  take-alike Poll ticket' r r' may might take = tt
  take-alike (WriteQueue queue config) ticket' r r' may might take = tt
  take-alike (WriteGroup group config) ticket' r r' may might take = tt
  take-alike ClearError ticket' r r' may might take = tt

-- ---- any step

module _ {m n : Labels} {s t : State} (h : Twins m n s.work t.work) (k : Both-known m n s t) (a : Alike m n s t) where
  by-work : {A : Type 0} (tell : A → Reply) (r r' : A × Work) → Leads m n s.work t.work tell tell r r'
      → Follows m n s t (tell r.0, with_work s r.1) (tell r'.0, with_work t r'.1)
  by-work tell r r' l = record { replies = l.0; work = l.1; active = inl (refl, refl); ends = l.2 }

  by-setup : {A : Type 0} (tell : A → Reply) (r r' : A × Setup) → Sets m n tell r r'
      → Follows m n s t (tell r.0, state_with_setup s r.1) (tell r'.0, state_with_setup t r'.1)
  by-setup tell r r' l = record {
    replies = l.0;
    work = record { setup = l.1; content = h.like.content; notes = h.like.notes };
    active = inl (refl, refl);
    ends = none-ends m n _ _ _ _ refl refl;
  }

  by-intake : (r r' : SubmitAnswer × Intake) → LeadsIn m n r r'
      → Follows m n s t (reply.Submit r.0, with_intake s r.1) (reply.Submit r'.0, with_intake t r'.1)
  by-intake r r' l = record {
    replies = l.0;
    work = record { setup = l.1.setup; content = l.1.content; notes = h.like.notes };
    active = inl (refl, refl);
    ends = none-ends m n _ _ _ _ refl refl;
  }

  dispatch-follows : (e : ℕ) (choice choice' : Choice) → SameChoice choice choice'
      → Leads m n s.work t.work (λ x. reply.Dispatch x) (λ x. reply.Dispatch x) (dispatch s.work e choice)
      (dispatch t.work e choice')
  dispatch-follows e nothing nothing c = (refl, h.like, none-ends m n _ _ _ _ refl refl)
  dispatch-follows e (in_cell x) (in_cell y) c = (refl, h.like, none-ends m n _ _ _ _ refl refl)
  dispatch-follows e (from_queue q) (from_queue p) c = subst
      (λ j. Leads m n s.work t.work (λ x. reply.Dispatch x) (λ x. reply.Dispatch x) (dispatch s.work e (from_queue q))
      (dispatch t.work e (from_queue j))) c (dispatch-leads h e q)
  dispatch-follows e nothing (in_cell y) c = absurd c
  dispatch-follows e nothing (from_queue p) c = absurd c
  dispatch-follows e (in_cell x) nothing c = absurd c
  dispatch-follows e (in_cell x) (from_queue p) c = absurd c
  dispatch-follows e (from_queue q) nothing c = absurd c
  dispatch-follows e (from_queue q) (in_cell y) c = absurd c

  pub follows : (event : Event) (ticket' : Ticket) (choice choice' : Choice) → SameTicket m n s t event ticket'
      → SameFor event choice choice'
      → Follows m n s t (reply_of s event choice) (reply_of t (retold event ticket') choice')
  follows (Submit client queue portal kind desc) ticket' choice choice' same c =
      by-intake _ _ (submit-leads (record { setup = h.like.setup; content = h.like.content }) queue portal kind desc
      (chosen_cell choice) (chosen_cell choice') k.next)
  follows (Dispatch e) ticket' choice choice' same c = by-work (λ x. reply.Dispatch x) _ _
      (dispatch-follows e choice choice' c)
  follows (Fetch e desc) ticket' choice choice' same c =
      by-work (λ x. reply.Fetch x) _ _ (fetch-leads h e desc (chosen_cell choice) (chosen_cell choice') k.next)
  follows (Start e) ticket' choice choice' same c = by-work (λ x. reply.Start x) _ _ (start-leads h e)
  follows (Finish e ticket outcome) ticket' choice choice' same c =
      by-work (λ x. reply.Finish x) _ _ (finish-leads h a.waits e ticket ticket' outcome same)
  follows (Issue command) ticket' choice choice' same c = issue-follows h k a.active command
  follows Poll ticket' choice choice' same c = poll-follows h k s.active t.active a.active
  follows (WriteQueue q config) ticket' choice choice' same c =
      by-setup (λ x. reply.Write x) _ _ (write_queue-sets m n s.work.setup t.work.setup h.like.setup q config)
  follows (WriteGroup g config) ticket' choice choice' same c =
      by-setup (λ x. reply.Write x) _ _ (write_group-sets m n s.work.setup t.work.setup h.like.setup g config)
  follows ClearError ticket' choice choice' same c =
      by-setup (λ x. reply.Clear x) _ _ (clear-sets m n s.work.setup t.work.setup h.like.setup)

  -- ---- what may be chosen

  -- the same, with a cell that is free
  pub may-same : (event : Event) (ticket' : Ticket) (choice : Choice) (cell : Cell)
      → ((c : Cell) → choice ≡ in_cell c → is_free (cell_count t.work.setup.caps) t.work.content cell ≡ true)
      → may_choose s event choice ≡ true → may_choose t (retold event ticket') (choice_with choice cell) ≡ true
  may-same (Submit client queue portal kind desc) ticket' nothing cell free may = refl
  may-same (Submit client queue portal kind desc) ticket' (in_cell c) cell free may = free c refl
  may-same (Submit client queue portal kind desc) ticket' (from_queue q) cell free may = absurd cc
  may-same (Dispatch e) ticket' nothing cell free may =
      let none : may_leave s.work e nothing ≡ may_leave t.work e nothing =
      λ i. not (list_any (λ q. qualifies-same h e q i) (numbers_below (h.like.setup i).caps.queues)) in
      sym none ∙ may
  may-same (Dispatch e) ticket' (in_cell c) cell free may = absurd cc
  may-same (Dispatch e) ticket' (from_queue q) cell free may = sym (qualifies-same h e q) ∙ may
  may-same (Fetch e desc) ticket' nothing cell free may = refl
  may-same (Fetch e desc) ticket' (in_cell c) cell free may = free c refl
  may-same (Fetch e desc) ticket' (from_queue q) cell free may = absurd cc
  may-same (Start e) ticket' choice cell free may = still-nothing choice cell may
  may-same (Finish e ticket outcome) ticket' choice cell free may = still-nothing choice cell may
  may-same (Issue command) ticket' choice cell free may = still-nothing choice cell may
  may-same Poll ticket' choice cell free may = still-nothing choice cell may
  may-same (WriteQueue q config) ticket' choice cell free may = still-nothing choice cell may
  may-same (WriteGroup g config) ticket' choice cell free may = still-nothing choice cell may
  may-same ClearError ticket' choice cell free may = still-nothing choice cell may

-- ---- the law for one step

names-grow : (caps : Caps) (s s' : State) → IsWellFormed caps s → Change s s'
    → s.work.setup.next_name ≤ s'.work.setup.next_name
names-grow caps s s' w c = omega (arith, (flow-change caps s s' w.shape w.cells c).next)

module _ (caps : Caps) (m n : Labels) (s s' t : State) (event : Event) (reply : Reply) (ticket' : Ticket)
    (ws : IsWellFormed caps s) (wt : IsWellFormed caps t) (ls : IsLabelledNext m s) (lt : IsLabelledNext n t)
    (same : m s.work.setup.next_name ≡ n t.work.setup.next_name) (a : Alike m n s t)
    (ticket : SameTicket m n s t event ticket') where
  these : Both-known m n s t
  these = record {
    left = known caps m s ws (apart m s ls);
    right = known caps n t wt (apart n t lt);
    left-labels = ls;
    right-labels = lt;
    next = same;
  }

  twins : Twins m n s.work t.work
  twins = record { like = a.work; left = known caps m s ws (apart m s ls); right = known caps n t wt (apart n t lt) }

  turned : (t' : State) → Change s s' → Change t t' → Turns m n s t s' t'
      → SameActive m n s'.work t'.work s'.active t'.active
  turned t' c d (inr same) = same
  turned t' c d (inl kept) =
      subst (λ o. SameActive m n s'.work t'.work o t'.active) (sym kept.0)
      (subst (λ p. SameActive m n s'.work t'.work s.active p) (sym kept.1)
      (active-change these c d (names-grow caps s s' ws c) (names-grow caps t t' wt d) s.active t.active a.active))

  -- two steps of one event, with the same queue
  pub agree : (t' : State) (reply' : Reply) → SameFor event (choice_of reply) (choice_of reply')
      → next s event reply ≡ Some s' → next t (retold event ticket') reply' ≡ Some t'
      → Agree m n s s' t t' reply reply'
  agree t' reply' choices step step' =
      let is = next-is s s' event reply step in
      let is' = next-is t t' (retold event ticket') reply' step' in
      let f : Follows m n s t (reply, s') (reply', t') =
      subst (λ r. Follows m n s t (reply, s') r) is'.1
      (subst (λ r. Follows m n s t r (reply_of t (retold event ticket') (choice_of reply'))) is.1
      (follows twins these a event ticket' (choice_of reply) (choice_of reply') ticket choices)) in
      let c = next-change s s' event reply step in
      let d = next-change t t' (retold event ticket') reply' step' in
      record {
        replies = f.replies;
        ends = f.ends;
        alike = record {
          work = f.work;
          waits = waits-change these c d a.waits;
          active = turned t' c d f.active;
        };
      }

  pub makes-same : (cell : Cell)
      → ((c : Cell) → choice_of reply ≡ in_cell c → is_free (cell_count t.work.setup.caps) t.work.content cell ≡ true)
      → next s event reply ≡ Some s' → MakesSame m n s s' t (retold event ticket') reply
  makes-same cell free step =
      let is = next-is s s' event reply step in
      let choice = choice_of reply in
      let choice' = choice_with choice cell in
      let event' = retold event ticket' in
      let r' = reply_of t event' choice' in
      let choices = same-for event choice choice' (same-choice choice cell) in
      let may = may-same twins these a event ticket' choice cell free is.0 in
      let f : Follows m n s t (reply, s') r' = subst (λ r. Follows m n s t r r') is.1
      (follows twins these a event ticket' choice choice' ticket choices) in
      let none : is_nothing (choice_of r'.0) ≡ is_nothing choice' =
      sym (told-chosen n r'.0) ∙ sym (ap (λ z. is_nothing (choice_of z)) f.replies) ∙ told-chosen m reply
      ∙ sym (nothing-same choice cell) in
      let told-choice = chosen t event' choice' may none in
      let step' : next t event' r'.0 ≡ Some r'.1 = next-of t r'.1 event' r'.0
      (subst (λ z. may_choose t event' z ≡ true) (sym told-choice) may) (ap (reply_of t event') told-choice) in
      record {
        reply' = r'.0;
        t' = r'.1;
        leads = step';
        agree = agree r'.1 r'.0 (subst (SameFor event choice) (sym told-choice) choices) step step';
      }
