-- The steps of engines at two states that are alike: they answer the same, and leave the same entries by labels.
use Rattle.dsa_book.specs.declared.fate.Fate.TheVariants as fate
use Rattle.dsa_book.specs.declared.fate.{Fate.{Fate}}
use Rattle.dsa_book.specs.Work.{fate_row}
use Rattle.std.proofs.{lemmas.List.{append-nil}, Common.{map}}
use Rattle.std.proofs.Common.{◌≡◌, ℕ, ◌+◌, ◌==◌, Bool, true, false, cond, ◌&&◌, ◌||◌, not, List, [], ◌∷◌}
use Rattle.std.proofs.Common.{set, Option, Some, None, refl, sym, ap, ◌∙◌, subst}
use Rattle.std.{proofs.lemmas.Bool.{and_parts}, specs.Prelude.{find, option_map}}
use Rattle.dsa_base.specs.{Lists.{In}}
use Rattle.dsa_desc.specs.Descriptor.{is_drain, is_fenced, is_successful, with_pasid}
use Rattle.dsa_desc.specs.declared.{Descriptor.{Descriptor}, Outcome.{Outcome}}
use Rattle.dsa_store.specs.declared.entry.{Cell.{Cell}, Entry.{Entry}}
use Rattle.dsa_store.specs.Content.{HeldEntry, Content, chain, all_held, after_push, without_front}
use Rattle.dsa_book.specs.declared.note.BatchNote.{BatchNote}
use Rattle.dsa_book.specs.State.{Work, is_drain_of, is_ticket}
use Rattle.dsa_book.specs.Work.{progress_list, in_progress, members, running_on, note_at, front_of}
use Rattle.dsa_book.specs.Work.{opened_note, with_running_entry, after_take, dispatch_of, is_all_fetched}
use Rattle.dsa_book.specs.Work.{batch_on, after_fetch, fetch_of, fetch_for, fetch, first_waiting}
use Rattle.dsa_book.specs.Work.{after_abandon, with_first_run, after_start, start_of, start, waits_for}
use Rattle.dsa_book.specs.Work.{waits, must_wait, last_status, note_after, after_end, finish_of, finish}
use Rattle.dsa_book.specs.declared.answer.{Ticket.{Ticket}, Reply.{Reply, TheVariants.{Dispatch, Fetch, Start, Finish}}}
use Rattle.dsa_book.specs.declared.answer.{DispatchAnswer.TheVariants.{Taken}, FetchAnswer.TheVariants.{Fetched}}
use Rattle.dsa_book.specs.declared.answer.{StartAnswer.TheVariants.{Started, Abandoned}}
use Rattle.dsa_book.specs.declared.answer.{FinishAnswer.TheVariants.{Done}}
use Rattle.dsa_laws.proofs.{Shapes.{In-cond}, Contents.{In-chain}}
use Rattle.dsa_keys.proofs.Alike.{Same, SameNote, Both, BothSome, Like, Pair, SameWaits}
use Rattle.dsa_keys.specs.Labels.{labelled_reply, labelled_row, HaveSameEnds, Labels, labelled_note}
use Rattle.dsa_keys.proofs.Both.{both-cond, both-row1, both-row3, both-length, both-any, both-filter, both-find}
use Rattle.dsa_keys.proofs.Both.{both-append, both-get}
use Rattle.dsa_keys.proofs.Both.{both-set, both-drop, both-map, both-weaken}
use Rattle.dsa_keys.proofs.Known.{Twins, Match, matches, held-matches, match-of, same-cell, same-name}
use Rattle.dsa_keys.proofs.Tests.{progress-same, member-same, progress-both, members-both, running-both}
use Rattle.dsa_keys.proofs.Tests.{note-both, need-both, batch-both, drain-both, status-both, room-at, front-both}
use Rattle.dsa_keys.proofs.Tests.{waiting-both, front-same, failed-same, unfinished-same}

-- the answers tell the same, and the works have the same entries by labels
abbrev pub Leads : {A B : Type 0} → Labels → Labels → Work → Work → (A → Reply) → (B → Reply) → A × Work → B × Work
    → Type 0
Leads m n w v tell tell' r r' = (labelled_reply m (tell r.0) ≡ labelled_reply n (tell' r'.0)) × Like m n r.1 r'.1
    × HaveSameEnds m n w r.1 v r'.1

-- nothing ends
pub none-ends : (m n : Labels) (w w' v v' : Work) → w'.fates ≡ w.fates → v'.fates ≡ v.fates → HaveSameEnds m n w w' v v'
none-ends m n w w' v v' h k = record {
  rows = [];
  rows' = [];
  left = h ∙ sym (append-nil w.fates);
  right = k ∙ sym (append-nil v.fates);
  same = refl;
}

-- the rows of these entries tell the same
pub rows-same : (m n : Labels) (f : Fate) (xs ys : List HeldEntry) → Both (Same m n) xs ys
    → map (labelled_row m) (map (fate_row f) xs) ≡ map (labelled_row n) (map (fate_row f) ys)
rows-same m n f [] [] b = refl
rows-same m n f (x ∷ xs) (y ∷ ys) b =
    λ i. record { name = (b.0 i).label; parent = None; fate = f } ∷ rows-same m n f xs ys b.1 i
rows-same m n f [] (y ∷ ys) b = absurd b
rows-same m n f (x ∷ xs) [] b = absurd b

-- ---- lists

pub both-set-at : {X Y : Type 0} (R : X → Y → Type 0) (xs : List X) (ys : List Y) (k k' : ℕ) (x : X) (y : Y) → k ≡ k'
    → Both R xs ys → R x y → Both R (set xs k x) (set ys k' y)
both-set-at R xs ys k k' x y e b r = subst (λ j. Both R (set xs k x) (set ys j y)) e (both-set R xs ys k x y b r)

pub both-pushed : (R : HeldEntry → HeldEntry → Type 0) (c d : Content) (k k' : ℕ) (cell cell' : Cell)
    (entry entry' : Entry)
    → k ≡ k' → Both (Both R) c d → R (cell, entry) (cell', entry')
    → Both (Both R) (after_push c k cell entry) (after_push d k' cell' entry')
both-pushed R c d k k' cell cell' entry entry' e b r =
    subst (λ j. Both (Both R) (after_push c k cell entry) (after_push d j cell' entry')) e
    (both-set (Both R) c d k _ _ b
    (both-append R (chain c k) ((cell, entry) ∷ []) (chain d k) ((cell', entry') ∷ [])
    (both-get (Both R) c d k [] [] b tt) (r, tt)))

both-fronted : (R : HeldEntry → HeldEntry → Type 0) (c d : Content) (k : ℕ) → Both (Both R) c d
    → Both (Both R) (without_front c k) (without_front d k)
both-fronted R c d k b = both-set (Both R) c d k _ _ b
    (both-drop R (chain c k) (chain d k) (both-get (Both R) c d k [] [] b tt))

runs : (m n : Labels) (x y : HeldEntry) → Same m n x y → Same m n (with_running_entry x) (with_running_entry y)
runs m n x y h = λ i. record (h i) { running = true }

both-first_run : (m n : Labels) (xs ys : List HeldEntry) → Both (Same m n) xs ys
    → Both (Same m n) (with_first_run xs) (with_first_run ys)
both-first_run m n [] [] b = tt
both-first_run m n (x ∷ xs) (y ∷ ys) b = both-cond (Both (Same m n)) x.1.running y.1.running _ _ _ _
    (ap (λ f. f.running) b.0) (b.0, both-first_run m n xs ys b.1) (runs m n x y b.0, b.1)
both-first_run m n [] (y ∷ ys) b = absurd b
both-first_run m n (x ∷ xs) [] b = absurd b

-- ---- tests

both-and : (a b p q : Bool) → a ≡ b → (a ≡ true → p ≡ q) → (a && p) ≡ (b && q)
both-and true true p q e h = h refl
both-and false false p q e h = refl
both-and true false p q e h = absurd cc
both-and false true p q e h = absurd cc

stripped : (a b p q : Bool) → a ≡ true → b ≡ true → (a && p) ≡ (b && q) → p ≡ q
stripped true true p q x y e = e
stripped false b p q x y e = absurd cc
stripped true false p q x y e = absurd cc

-- a mark that a note is given, whatever its batch
marked : (g : BatchNote → BatchNote)
    → ((l : Labels) (note : BatchNote) → labelled_note l (g note) ≡ g (labelled_note l note))
    → (m n : Labels) (o p : Option BatchNote) → SameNote m n o p → SameNote m n (option_map g o) (option_map g p)
marked g c m n o p h = out m o ∙ ap (option_map g) h ∙ sym (out n p)
  where
    out : (l : Labels) (q : Option BatchNote)
        → option_map (labelled_note l) (option_map g q) ≡ option_map g (option_map (labelled_note l) q)
    out l None = refl
    out l (Some note) = ap (λ z. Some z) (c l note)

-- what is in progress is held
pub progress-in : (u : Work) (e : ℕ) (x : HeldEntry) → In x (in_progress u e) → In x (all_held u.content)
progress-in u e x i = In-chain x u.content (progress_list u.setup e) (In-cond _ x _ i).1

module _ {m n : Labels} {w v : Work} (t : Twins m n w v) where
  abbrev M : HeldEntry → HeldEntry → Type 0
  M = Match m n w v

  pub faces : (xs ys : List HeldEntry) → Both M xs ys → Both (Same m n) xs ys
  faces xs ys b = both-weaken M (Same m n) xs ys (λ x y p. p.0) b

  pub pair-of : (x y : HeldEntry) → M x y → Pair m n w.content v.content x y
  pair-of x y p = record { left = p.1.0; right = p.1.1; same = λ i. record (p.0 i) { running = false } }

  -- ---- dispatch

  take-like : (e q : ℕ) (x y : HeldEntry) → M x y → Like m n (after_take w e q x) (after_take v e q y)
  take-like e q x y p = record {
    setup = t.like.setup;
    content = both-pushed (Same m n) (without_front w.content q) (without_front v.content q) _ _ x.0 y.0 _ _
        (progress-same t e) (both-fronted (Same m n) w.content v.content q t.like.content) (runs m n x y p.0);
    notes = both-cond (Both (SameNote m n)) _ _ _ _ _ _ (batch-both t x y p)
        (both-set (SameNote m n) w.notes v.notes e (Some (opened_note x.1)) (Some (opened_note y.1)) t.like.notes
        (λ i. Some (record {
          batch = (p.0 i).label;
          count = (p.0 i).desc.size;
          fetched = 0;
          failed = false;
          closed = false;
        })))
        t.like.notes;
  }

  pub dispatch-leads : (e q : ℕ) → Leads m n w v (λ a. Dispatch a) (λ a. Dispatch a)
      (dispatch_of w e q (front_of w q)) (dispatch_of v e q (front_of v q))
  dispatch-leads e q = go (front_of w q) (front_of v q) (front-both t q)
    where
      go : (o p : Option HeldEntry) → BothSome M o p
          → Leads m n w v (λ a. Dispatch a) (λ a. Dispatch a) (dispatch_of w e q o) (dispatch_of v e q p)
      go None None b = (refl, t.like, none-ends m n _ _ _ _ refl refl)
      go (Some x) (Some y) b = (
        λ i. Dispatch (Taken (record { cell = record { 0 = 0 }; name = (b.0 i).label }) q),
        take-like e q x y b,
        none-ends m n _ _ _ _ refl refl,
      )
      go None (Some y) b = absurd b
      go (Some x) None b = absurd b

  -- ---- start

  abandon-like : (e : ℕ) → Like m n (after_abandon w e) (after_abandon v e)
  abandon-like e = record {
    setup = t.like.setup;
    content = both-set-at (Both (Same m n)) w.content v.content _ _ [] [] (member-same t e) t.like.content tt;
    notes = both-set (SameNote m n) w.notes v.notes e _ _ t.like.notes
        (marked (λ note. record note { closed = true }) (λ l note. refl) m n (note_at w e) (note_at v e)
        (note-both t e));
  }

  abandon-ends : (e : ℕ) → HaveSameEnds m n w (after_abandon w e) v (after_abandon v e)
  abandon-ends e = record {
    rows = map (fate_row fate.Abandoned) (members w e);
    rows' = map (fate_row fate.Abandoned) (members v e);
    left = refl;
    right = refl;
    same = rows-same m n fate.Abandoned (members w e) (members v e)
        (faces (members w e) (members v e) (members-both t e));
  }

  start-like : (e : ℕ) → Like m n (after_start w e) (after_start v e)
  start-like e = record {
    setup = t.like.setup;
    content = both-set-at (Both (Same m n)) w.content v.content _ _ _ _ (member-same t e) t.like.content
        (both-first_run m n (members w e) (members v e) (faces (members w e) (members v e) (members-both t e)));
    notes = t.like.notes;
  }

  pub start-leads : (e : ℕ) → Leads m n w v (λ a. Start a) (λ a. Start a) (start w e) (start v e)
  start-leads e = go (first_waiting w e) (first_waiting v e) (waiting-both t e)
    where
      go : (o p : Option HeldEntry) → BothSome M o p
          → Leads m n w v (λ a. Start a) (λ a. Start a) (start_of w e o) (start_of v e p)
      go None None b = (refl, t.like, none-ends m n _ _ _ _ refl refl)
      go (Some x) (Some y) b =
          let front = front-same t e x y b in
          let failed = failed-same t e in
          let long = both-length M (members w e) (members v e) (members-both t e) in
          let room = room-at t e _ _ (need-both t x y b) in
          both-row3 (Leads m n w v (λ a. Start a) (λ a. Start a)) _ _ _ _ _ _ _ _ _ _ _ _ _ _
          (λ i. is_fenced (b.0 i).desc && not (front i)) (refl, t.like, none-ends m n _ _ _ _ refl refl)
          (λ i. is_fenced (b.0 i).desc && failed i) ((λ i. Start (Abandoned (long i))), abandon-like e, abandon-ends e)
          (λ i. not (room i)) (refl, t.like, none-ends m n _ _ _ _ refl refl) (
            (λ i. Start (Started
                (record { cell = record { 0 = 0 }; name = (b.0 i).label }))),
            start-like e,
            none-ends m n _ _ _ _ refl refl,
          )
      go None (Some y) b = absurd b
      go (Some x) None b = absurd b

  -- ---- finish

  waits-same : SameWaits m n w.content v.content → (x y : HeldEntry) → M x y → is_drain_of w.setup x.1 ≡ true
      → waits w x.1 ≡ waits v y.1
  waits-same same x y p lawful =
      let drain = (and_parts _ _ lawful).0 in
      both-any M _ _ (all_held w.content) (all_held v.content)
      (λ a b q. stripped (is_drain x.1.desc) (is_drain y.1.desc) (waits_for x.1 a.1) (waits_for y.1 b.1) drain
      (ap (λ f. is_drain f.desc) (sym p.0) ∙ drain) (same x a y b (pair-of x y p) (pair-of a b q)))
      (held-matches t)

  must-same : SameWaits m n w.content v.content → (e : ℕ) (x y : HeldEntry) → M x y
      → must_wait w e x.1 ≡ must_wait v e y.1
  must-same same e x y p =
      let batch = batch-both t x y p in
      let unfinished = unfinished-same t e in
      let drain = both-and _ _ _ _ (drain-both t x y p) (waits-same same x y p) in
      λ i. (batch i && unfinished i) || drain i

  last-same : (e : ℕ) (x y : HeldEntry) (outcome : Outcome) → M x y
      → last_status w e x outcome ≡ last_status v e y outcome
  last-same e x y outcome p =
      let batch = batch-both t x y p in
      let failed = failed-same t e in
      let status = status-both t x y outcome p in
      λ i. cond (batch i && failed i) 0x05 (status i)

  note_after-same : (e : ℕ) (x y : HeldEntry) (outcome : Outcome) → M x y
      → SameNote m n (note_after w e x outcome) (note_after v e y outcome)
  note_after-same e x y outcome p =
      let status = status-both t x y outcome p in
      both-cond (SameNote m n) _ _ _ _ _ _ (batch-both t x y p) refl
      (both-cond (SameNote m n) _ _ _ _ _ _ (λ i. (p.0 i).member && not (is_successful (status i)))
      (marked (λ note. record note { failed = true }) (λ l note. refl) m n (note_at w e) (note_at v e) (note-both t e))
      (note-both t e))

  end-like : (e : ℕ) (x y : HeldEntry) (outcome : Outcome) → M x y
      → Like m n (after_end w e x outcome) (after_end v e y outcome)
  end-like e x y outcome p = record {
    setup = t.like.setup;
    content = both-map (Both M) (Both (Same m n)) _ _ w.content v.content
        (λ xs ys b. faces _ _ (both-filter M _ _ xs ys (λ a c q i. not (same-cell t x y a c p q i)) b)) (matches t);
    notes = both-set (SameNote m n) w.notes v.notes e _ _ t.like.notes (note_after-same e x y outcome p);
  }

  end-ends : (e : ℕ) (x y : HeldEntry) (outcome : Outcome) → M x y
      → HaveSameEnds m n w (after_end w e x outcome) v (after_end v e y outcome)
  end-ends e x y outcome p =
      let last = last-same e x y outcome p in
      record {
        rows = fate_row (fate.Completed (last_status w e x outcome)) x ∷ [];
        rows' = fate_row (fate.Completed (last_status v e y outcome)) y ∷ [];
        left = refl;
        right = refl;
        same = λ i. record { name = (p.0 i).label; parent = None; fate = fate.Completed (last i) } ∷ [];
      }

  pub finish-leads : SameWaits m n w.content v.content → (e : ℕ) (ticket ticket' : Ticket) (outcome : Outcome)
      → ((x y : HeldEntry) → M x y → is_ticket ticket x ≡ is_ticket ticket' y)
      → Leads m n w v (λ a. Finish a) (λ a. Finish a) (finish w e ticket outcome) (finish v e ticket' outcome)
  finish-leads same e ticket ticket' outcome such =
      go (find (is_ticket ticket) (running_on w e)) (find (is_ticket ticket') (running_on v e))
      (both-find M _ _ (running_on w e) (running_on v e) such (running-both t e))
    where
      go : (o p : Option HeldEntry) → BothSome M o p
          → Leads m n w v (λ a. Finish a) (λ a. Finish a) (finish_of w e outcome o) (finish_of v e outcome p)
      go None None b = (refl, t.like, none-ends m n _ _ _ _ refl refl)
      go (Some x) (Some y) b =
          let last = last-same e x y outcome b in
          both-row1 (Leads m n w v (λ a. Finish a) (λ a. Finish a)) _ _ _ _ _ _
          (must-same same e x y b) (refl, t.like, none-ends m n _ _ _ _ refl refl)
          ((λ i. Finish (Done (last i))), end-like e x y outcome b, end-ends e x y outcome b)
      go None (Some y) b = absurd b
      go (Some x) None b = absurd b

  -- ---- fetch

  fetch-like : (e : ℕ) (desc : Descriptor) (cell cell' : Cell) (note note' : BatchNote) (x y : HeldEntry)
      → m w.setup.next_name ≡ n v.setup.next_name → labelled_note m note ≡ labelled_note n note' → M x y
      → Like m n (after_fetch w e desc cell note x.1).1 (after_fetch v e desc cell' note' y.1).1
  fetch-like e desc cell cell' note note' x y next h p = record {
    setup = t.like.setup;
    content = both-pushed (Same m n) w.content v.content _ _ cell cell' _ _ (member-same t e) t.like.content
        (λ i. record {
          label = next i;
          desc = with_pasid desc (p.0 i).desc.pasid;
          queue = (p.0 i).queue;
          running = false;
          member = true;
        });
    notes = both-set (SameNote m n) w.notes v.notes e _ _ t.like.notes
        (λ i. Some (record (h i) { fetched = (h i).fetched + 1 }));
  }

  pub fetch-leads : (e : ℕ) (desc : Descriptor) (cell cell' : Cell) → m w.setup.next_name ≡ n v.setup.next_name
      → Leads m n w v (λ a. Fetch a) (λ a. Fetch a) (fetch w e desc cell) (fetch v e desc cell')
  fetch-leads e desc cell cell' next = go (note_at w e) (note_at v e) refl refl (note-both t e)
    where
      found : (note note' : BatchNote) → labelled_note m note ≡ labelled_note n note' → (o p : Option HeldEntry)
          → BothSome M o p
          → Leads m n w v (λ a. Fetch a) (λ a. Fetch a) (fetch_of w e desc cell note o)
          (fetch_of v e desc cell' note' p)
      found note note' h None None b = (refl, t.like, none-ends m n _ _ _ _ refl refl)
      found note note' h (Some x) (Some y) b =
          both-row1 (Leads m n w v (λ a. Fetch a) (λ a. Fetch a)) _ _ _ _ _ _
          (λ i. is_all_fetched (h i)) (refl, t.like, none-ends m n _ _ _ _ refl refl) (
            (λ i. Fetch (Fetched (record { cell = record { 0 = 0 }; name = next i }))),
            fetch-like e desc cell cell' note note' x y next h b,
            none-ends m n _ _ _ _ refl refl,
          )
      found note note' h None (Some y) b = absurd b
      found note note' h (Some x) None b = absurd b

      go : (o p : Option BatchNote) → note_at w e ≡ o → note_at v e ≡ p → SameNote m n o p
          → Leads m n w v (λ a. Fetch a) (λ a. Fetch a) (fetch_for w e desc cell o) (fetch_for v e desc cell' p)
      go None None a b h = (refl, t.like, none-ends m n _ _ _ _ refl refl)
      go (Some note) (Some note') a b h =
          let same : labelled_note m note ≡ labelled_note n note' = cc in
          let x = t.left.batches e note a in
          let y = t.right.batches e note' b in
          let label = ap m (sym x.1.1) ∙ ap (λ (z : BatchNote). z.batch) same ∙ ap n y.1.1 in
          let match = match-of t x.0 y.0 (progress-in w e x.0 x.1.0) (progress-in v e y.0 y.1.0) label in
          found note note' same (batch_on w e note) (batch_on v e note')
          (both-find M _ _ (in_progress w e) (in_progress v e)
          (λ a b q. ap (λ z. a.1.name == z) x.1.1 ∙ same-name t x.0 y.0 a b match q
          ∙ ap (λ z. b.1.name == z) (sym y.1.1))
          (progress-both t e))
      go None (Some note') a b h = absurd cc
      go (Some note) None a b h = absurd cc
