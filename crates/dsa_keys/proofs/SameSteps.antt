-- Keys say all: two states with equal keys make the same steps, to states with equal keys.
use Rattle.dsa_answers.specs.Alike.{TakeAlike}
use Rattle.dsa_keys.proofs.Alike.{Both, BothSome, Alike, IsLabelledNext, SameActive}
use Rattle.dsa_keys.proofs.Steps.{Agree, retold, SameTicket}
use Rattle.dsa_keys.specs.Key.{labelled_entry, LabelledEntry, key}
use Rattle.dsa_keys.specs.Labels.{Labels, labelled_note, with_label, IsFreshLabel}
use Rattle.dsa_keys.specs.Marks.{HasLawfulMark}
use Rattle.dsa_keys.specs.Steps.{IsSameStep, event_by_label, next_by_label, IsLabelled, HasSameStep}
use Rattle.dsa_book.specs.declared.answer.Reply.TheVariants as reply
use Rattle.std.proofs.Common.{◌≡◌, ℕ, zero, suc, ◌<◌, ◌≤◌, ◌==◌, Bool, true, cond, ◌&&◌, List, [], ◌∷◌, map}
use Rattle.std.proofs.Common.{get_or, Option, Some, None, refl, sym, ap, ◌∙◌, subst, ⊎_elim, arith}
use Rattle.std.{specs.Prelude.{find, option_map, option_and_then}, proofs.lemmas.Bool.{cases_eq, eq-eqb, ne_eqb}}
use Rattle.dsa_base.specs.Lists.{In}
use Rattle.dsa_desc.specs.declared.Outcome.{Outcome}
use Rattle.dsa_regs.specs.{declared.Caps.{Caps}, Caps.{cell_count}}
use Rattle.dsa_store.specs.{declared.entry.Cell.{Cell}, Content.{HeldEntry, Content, all_held, is_free}}
use Rattle.dsa_book.specs.declared.note.{BatchNote.{BatchNote}, ActiveCommand.{ActiveCommand}}
use Rattle.dsa_book.specs.declared.event.Event.{Event}
use Rattle.dsa_book.specs.declared.event.Event.{TheVariants.{Submit, Dispatch, Fetch, Start, Finish, Issue, Poll}}
use Rattle.dsa_book.specs.declared.event.Event.TheVariants.{WriteQueue, WriteGroup, ClearError}
use Rattle.dsa_book.specs.declared.answer.{Reply.{Reply}, Ticket.{Ticket}}
use Rattle.dsa_book.specs.declared.answer.{SubmitAnswer.TheVariants.{Accepted}, FetchAnswer.TheVariants.{Fetched}}
use Rattle.dsa_book.specs.State.{Work, State, ticket_of_entry, opening}
use Rattle.dsa_book.specs.{Work.{running_on, note_at}, Machine.{next}}
use Rattle.dsa_book.specs.Choice.{Choice, nothing, in_cell, from_queue, choice_of}
use Rattle.dsa_book.proofs.Nexts.{next-is}
use Rattle.dsa_book.specs.Machine.{may_choose}
use Rattle.dsa_laws.specs.{WellFormed.{IsWellFormed}}
use Rattle.dsa_laws.proofs.{Changes.{next-change}, Histories.{well_formed-change, well_formed-opening}}
use Rattle.dsa_accounts.proofs.Totals.{next-names}
use Rattle.dsa_book.proofs.Gains.{named_by}
use Rattle.dsa_keys.proofs.Both.{both-find, both-within}
use Rattle.dsa_keys.proofs.Known.{IsKnown, known, apart, Twins, Match, same-cell, same-name}
use Rattle.dsa_keys.proofs.{Tests.{running-both}, Engines.{progress-in}, Steps.{makes-same, agree, take-alike}}
use Rattle.dsa_keys.proofs.{Cells.{free-same}}
use Rattle.dsa_keys.proofs.Keys.{maps-of-both, key-of-alike, alike-of-key}

-- ---- a label for the next name

pub named-other : (m : Labels) (name label a : ℕ) → a < name → with_label m name label a ≡ m a
named-other m name label a l = ap (λ (b : Bool). cond b label (m a)) (ne_eqb a name (λ e. omega (arith, l, e)))

pub named-next : (m : Labels) (name label : ℕ) → with_label m name label name ≡ label
named-next m name label = ap (λ (b : Bool). cond b label (m name)) (eq-eqb name name refl)

pub next-labelled : (caps : Caps) (m : Labels) (s : State) (label : ℕ) → IsLabelled caps m s → IsFreshLabel m s label
    → IsLabelledNext (with_label m s.work.setup.next_name label) s
next-labelled caps m s label h fresh a b la lb e =
    ⊎_elim (λ (ea : a ≡ n). ⊎_elim
    (λ (eb : b ≡ n). ea ∙ sym eb)
    (λ nb. absurd (fresh b (below b lb nb) (sym (old b lb nb) ∙ sym e ∙ new a ea)))
    (cases_eq b n))
    (λ na. ⊎_elim
    (λ (eb : b ≡ n). absurd (fresh a (below a la na) (sym (old a la na) ∙ e ∙ new b eb)))
    (λ nb. h.distinct a b (below a la na) (below b lb nb) (sym (old a la na) ∙ e ∙ old b lb nb))
    (cases_eq b n))
    (cases_eq a n)
  where
    n : ℕ
    n = s.work.setup.next_name

    below : (c : ℕ) → c ≤ n → (c ≡ n → ⊥) → c < n
    below c l ne = ⊎_elim (λ (e : c ≡ n). absurd (ne e)) (λ no. omega (arith, l, no)) (cases_eq c n)

    old : (c : ℕ) → c ≤ n → (c ≡ n → ⊥) → with_label m n label c ≡ m c
    old c l ne = named-other m n label c (below c l ne)

    new : (c : ℕ) → c ≡ n → with_label m n label c ≡ label
    new c e = ap (with_label m n label) e ∙ named-next m n label

-- ---- it does not change the key

diagonal : {X : Type 0} (xs : List X) → Both (λ (x y : X). x ≡ y) xs xs
diagonal [] = tt
diagonal (x ∷ xs) = (refl, diagonal xs)

diagonals : (c : Content) → Both (Both (λ (x y : HeldEntry). x ≡ y)) c c
diagonals [] = tt
diagonals (l ∷ c) = (diagonal l, diagonals c)

maps-at : {X Z : Type 0} (f g : X → Z) (d : X) (xs : List X) → ((k : ℕ) → f (get_or xs k d) ≡ g (get_or xs k d))
    → map f xs ≡ map g xs
maps-at f g d [] h = refl
maps-at f g d (x ∷ xs) h = λ i. h zero i ∷ maps-at f g d xs (λ k. h (suc k)) i

pub key-named : (caps : Caps) (m : Labels) (s : State) (label : ℕ) → IsLabelled caps m s → IsFreshLabel m s label
    → key (with_label m s.work.setup.next_name label) s ≡ key m s
key-named caps m s label h fresh =
    let lists = maps-of-both (Both E) (map (labelled_entry m')) (map (labelled_entry m)) s.work.content s.work.content
    (λ xs ys b. maps-of-both E (labelled_entry m') (labelled_entry m) xs ys each b)
    (both-within (λ (x y : HeldEntry). x ≡ y) s.work.content s.work.content (diagonals s.work.content)) in
    let notes = maps-at (option_map (labelled_note m')) (option_map (labelled_note m)) None s.work.notes
    (λ e. note e (note_at s.work e) refl) in
    λ i. record (key m s) { lists = lists i; notes = notes i }
  where
    m' : Labels
    m' = with_label m s.work.setup.next_name label

    k : IsKnown m' s.work
    k = known caps m' s h.well_formed (apart m' s (next-labelled caps m s label h fresh))

    E : HeldEntry → HeldEntry → Type 0
    E x y = (x ≡ y) × (In x (all_held s.work.content) × In y (all_held s.work.content))

    each : (x y : HeldEntry) → E x y → labelled_entry m' x ≡ labelled_entry m y
    each x y p = (λ i. record (labelled_entry m x) {
      label = named-other m s.work.setup.next_name label x.1.name (k.below x p.1.0) i;
    }) ∙ ap (labelled_entry m) p.0

    note : (e : ℕ) (o : Option BatchNote) → note_at s.work e ≡ o
        → option_map (labelled_note m') o ≡ option_map (labelled_note m) o
    note e None q = refl
    note e (Some z) q =
        let b = k.batches e z q in
        let below = k.below b.0 (progress-in s.work e b.0 b.1.0) in
        λ i. Some (record z {
          batch = named-other m s.work.setup.next_name label z.batch (omega (arith, below, b.1.1)) i;
        })

-- ---- marks

pub mark-of : (m n : Labels) (w v : Work) (o p : Option ActiveCommand) → SameActive m n w v o p
    → ((a : ActiveCommand) → o ≡ Some a → a.mark ≤ w.setup.next_name)
    × ((a : ActiveCommand) → p ≡ Some a → a.mark ≤ v.setup.next_name)
mark-of m n w v None None h = ((λ a e. absurd cc), λ a e. absurd cc)
mark-of m n w v (Some x) (Some y) h = (
  (λ a e. let same : x ≡ a = cc in subst (λ (z : ActiveCommand). z.mark ≤ w.setup.next_name) same h.left),
  λ a e. let same : y ≡ a = cc in subst (λ (z : ActiveCommand). z.mark ≤ v.setup.next_name) same h.right,
)
mark-of m n w v None (Some y) h = absurd h
mark-of m n w v (Some x) None h = absurd h

-- ---- after a step

named-once : (r : Reply) → named_by r ≤ 1
named-once (reply.Submit (Accepted t)) = omega arith
named-once (reply.Fetch (Fetched t)) = omega arith
named-once r = omega arith

after-named : (caps : Caps) (m : Labels) (s s' : State) (event : Event) (r : Reply) → IsWellFormed caps s
    → IsLabelledNext m s → HasLawfulMark s' → next s event r ≡ Some s' → IsLabelled caps m s'
after-named caps m s s' event r w labels marked step =
    let grow = next-names s s' event r step in
    let once = named-once r in
    record {
      well_formed = well_formed-change caps s s' w (next-change s s' event r step);
      marked = marked;
      distinct = λ a b la lb e. labels a b (omega (arith, grow, once, la)) (omega (arith, grow, once, lb)) e;
    }

-- ---- any event

none : Ticket
none = record { cell = record { 0 = 0 }; name = 0 }

-- the cell of an entry that comes in was free
pub entering : (s : State) (event : Event) (c : Cell) → may_choose s event (in_cell c) ≡ true
    → is_free (cell_count s.work.setup.caps) s.work.content c ≡ true
entering s (Submit client queue portal kind desc) c may = may
entering s (Fetch engine desc) c may = may
entering s (Dispatch engine) c may = absurd cc
entering s (Start engine) c may = absurd cc
entering s (Finish engine ticket outcome) c may = absurd cc
entering s (Issue command) c may = absurd cc
entering s Poll c may = absurd cc
entering s (WriteQueue queue config) c may = absurd cc
entering s (WriteGroup group config) c may = absurd cc
entering s ClearError c may = absurd cc

module _ (caps : Caps) (m n : Labels) (s s' t : State) (r : Reply) (ws : IsWellFormed caps s) (wt : IsWellFormed caps t)
    (ls : IsLabelledNext m s) (lt : IsLabelledNext n t) (same : m s.work.setup.next_name ≡ n t.work.setup.next_name)
    (a : Alike m n s t) where
  twins : Twins m n s.work t.work
  twins = record { like = a.work; left = known caps m s ws (apart m s ls); right = known caps n t wt (apart n t lt) }

  -- a free cell of the other state, where one is taken
  free-of : (event : Event) → next s event r ≡ Some s' → (cell : Cell)
      × ((c : Cell) → choice_of r ≡ in_cell c → is_free (cell_count t.work.setup.caps) t.work.content cell ≡ true)
  free-of event step = go (choice_of r) refl (next-is s s' event r step).0
    where
      go : (choice : Choice) → choice_of r ≡ choice → may_choose s event choice ≡ true → (cell : Cell)
          × ((c : Cell) → choice_of r ≡ in_cell c → is_free (cell_count t.work.setup.caps) t.work.content cell ≡ true)
      go nothing e may = (record { 0 = 0 }, λ c f. absurd cc)
      go (from_queue q) e may = (record { 0 = 0 }, λ c f. absurd cc)
      go (in_cell c) e may =
          let free = subst (λ (k : Caps). is_free (cell_count k) s.work.content c ≡ true) ws.shape.same_caps
          (entering s event c may) in
          let found = free-same caps m n s.work t.work c ws.cells a.work free in (
            found.0,
            λ d f. subst (λ (k : Caps). is_free (cell_count k) t.work.content found.0 ≡ true)
                (sym wt.shape.same_caps) found.1,
          )

  -- steps that agree are the same
  so-determined : (event event' : Event) (t' : State) (r' : Reply) → next s event r ≡ Some s'
      → next t event' r' ≡ Some t'
      → Agree m n s s' t t' r r' → IsSameStep caps m n s s' t t' r r'
  so-determined event event' t' r' step step' x =
      let marks = mark-of m n s'.work t'.work s'.active t'.active x.alike.active in
      let left = after-named caps m s s' event r ws ls marks.0 step in
      let right = after-named caps n t t' event' r' wt lt marks.1 step' in
      let after-twins : Twins m n s'.work t'.work = record {
        like = x.alike.work;
        left = known caps m s' left.well_formed left.distinct;
        right = known caps n t' right.well_formed right.distinct;
      } in
      record {
        replies = x.replies;
        ends = x.ends;
        keys = key-of-alike after-twins x.alike;
        left = left;
        right = right;
      }

  -- the other state makes the same step, and each such step of it is the same
  abbrev pub Both-ways : Event → Type 0
  Both-ways move = HasSameStep caps m n s s' t move r
      × ((t' : State) (r' : Reply) → TakeAlike r r' → next_by_label n t move r' ≡ Some t'
      → IsSameStep caps m n s s' t t' r r')

  by-step : (move event : Event) (ticket' : Ticket) → event_by_label n t move ≡ Some (retold event ticket')
      → SameTicket m n s t event ticket' → next s event r ≡ Some s' → Both-ways move
  by-step move event ticket' is ticket step =
      let cell = free-of event step in
      let x = makes-same caps m n s s' t event r ticket' ws wt ls lt same a ticket cell.0 cell.1 step in (
        record {
          reply' = x.reply';
          t' = x.t';
          leads = ap (option_and_then (λ event. next t event x.reply')) is ∙ x.leads;
          is_same = so-determined event (retold event ticket') x.t' x.reply' step x.leads x.agree;
        },
        λ t' r' q e.
            let step' = sym (ap (option_and_then (λ event. next t event r')) is) ∙ e in
            so-determined event (retold event ticket') t' r' step step'
            (agree caps m n s s' t event r ticket' ws wt ls lt same a ticket t' r'
            (take-alike s t twins event ticket' r r'
            (next-is s s' event r step).0 (next-is t t' (retold event ticket') r' step').0 q) step
            step'),
      )

  -- an end by a label is of entries that match
  by-label : (engine : ℕ) (ticket : Ticket) (outcome : Outcome)
      → next_by_label m s (Finish engine ticket outcome) r ≡ Some s'
      → Both-ways (Finish engine ticket outcome)
  by-label engine ticket outcome step =
      go (find (λ (x : HeldEntry). m x.1.name == ticket.name) (running_on s.work engine))
      (find (λ (y : HeldEntry). n y.1.name == ticket.name) (running_on t.work engine)) refl
      (both-find (Match m n s.work t.work) _ _ (running_on s.work engine) (running_on t.work engine)
      (λ x y p. ap (λ (f : LabelledEntry). f.label == ticket.name) p.0) (running-both twins engine)) step
    where
      go : (o p : Option HeldEntry) → find (λ (y : HeldEntry). n y.1.name == ticket.name) (running_on t.work engine) ≡ p
          → BothSome (Match m n s.work t.work) o p
          → option_and_then (λ event. next s event r)
          (option_map (λ (x : HeldEntry). Finish engine (ticket_of_entry x) outcome) o)
          ≡ Some s' → Both-ways (Finish engine ticket outcome)
      go (Some x) (Some y) e b step = by-step (Finish engine ticket outcome) (Finish engine (ticket_of_entry x) outcome)
          (ticket_of_entry y) (ap (option_map (λ (x : HeldEntry). Finish engine (ticket_of_entry x) outcome)) e)
          (λ c d q. let cell = same-cell twins x y c d b q in let name = same-name twins x y c d b q in
          λ i. cell i && name i) step
      go None None e b step = absurd cc
      go None (Some y) e b step = absurd b
      go (Some x) None e b step = absurd b

  pub both-ways : (move : Event) → next_by_label m s move r ≡ Some s' → Both-ways move
  both-ways (Submit client queue portal kind desc) step =
      by-step _ (Submit client queue portal kind desc) none refl tt step
  both-ways (Dispatch engine) step = by-step _ (Dispatch engine) none refl tt step
  both-ways (Fetch engine desc) step = by-step _ (Fetch engine desc) none refl tt step
  both-ways (Start engine) step = by-step _ (Start engine) none refl tt step
  both-ways (Finish engine ticket outcome) step = by-label engine ticket outcome step
  both-ways (Issue command) step = by-step _ (Issue command) none refl tt step
  both-ways Poll step = by-step _ Poll none refl tt step
  both-ways (WriteQueue queue config) step = by-step _ (WriteQueue queue config) none refl tt step
  both-ways (WriteGroup group config) step = by-step _ (WriteGroup group config) none refl tt step
  both-ways ClearError step = by-step _ ClearError none refl tt step

-- ---- the laws

module _ (caps : Caps) (m n : Labels) (s s' t : State) (move : Event) (r : Reply) (label : ℕ) (hs : IsLabelled caps m s)
    (ht : IsLabelled caps n t) (fs : IsFreshLabel m s label) (ft : IsFreshLabel n t label) (e : key m s ≡ key n t)
    (step : next_by_label (with_label m s.work.setup.next_name label) s move r ≡ Some s') where
  laws : let m' = with_label m s.work.setup.next_name label in let n' = with_label n t.work.setup.next_name label in
      HasSameStep caps m' n' s s' t move r
      × ((t' : State) (r' : Reply) → TakeAlike r r' → next_by_label n' t move r' ≡ Some t'
      → IsSameStep caps m' n' s s' t t' r r')
  laws =
      let m' = with_label m s.work.setup.next_name label in
      let n' = with_label n t.work.setup.next_name label in
      let ls = next-labelled caps m s label hs fs in
      let lt = next-labelled caps n t label ht ft in
      let same = named-next m s.work.setup.next_name label ∙ sym (named-next n t.work.setup.next_name label) in
      let keys : key m' s ≡ key n' t = key-named caps m s label hs fs ∙ e ∙ sym (key-named caps n t label ht ft) in
      let a = alike-of-key s t (known caps m' s hs.well_formed (apart m' s ls))
      (known caps n' t ht.well_formed (apart n' t lt)) keys hs.marked ht.marked in
      both-ways caps m' n' s s' t r hs.well_formed ht.well_formed ls lt same a move step

  pub keys-say-all : HasSameStep caps (with_label m s.work.setup.next_name label)
      (with_label n t.work.setup.next_name label) s s' t move r
  keys-say-all = laws.0

  pub keys-determine : (t' : State) (r' : Reply) → TakeAlike r r'
      → next_by_label (with_label n t.work.setup.next_name label) t move r' ≡ Some t'
      → IsSameStep caps (with_label m s.work.setup.next_name label)
      (with_label n t.work.setup.next_name label) s s' t t' r r'
  keys-determine = laws.1

pub opening-named : (caps : Caps) (m : Labels) → IsLabelled caps m (opening caps)
opening-named caps m = record {
  well_formed = well_formed-opening caps;
  marked = λ a e. absurd cc;
  distinct = λ a b la lb e. absurd (omega (arith, la));
}
