-- A name that comes in is above all that are held and above the mark: so every step keeps how names compare.
use Rattle.std.proofs.Common.{◌≡◌, ℕ, zero, suc, ◌<◌, ◌≤◌, ◌==◌, false, ◌&&◌, not, [], ◌∷◌}
use Rattle.std.proofs.Common.{Option, Some, None, refl, sym, ap, ◌∙◌, ◌⊎◌, inl, inr, ⊎_elim, arith}
use Rattle.std.{proofs.lemmas.Bool.{lt-ltb, le-ltb}, specs.Prelude.{nat_lt}}
use Rattle.dsa_base.{specs.Lists.{In}, proofs.Lists.{In-append, In-front}}
use Rattle.dsa_desc.specs.Descriptor.{is_drain}
use Rattle.dsa_regs.specs.declared.Deed.{Deed, TheVariants.{Enable, Disable, Drain, Abort, Reset}}
use Rattle.dsa_regs.specs.declared.Scope.{Scope, TheVariants.{Device, Queue, Queues, Pasid}}
use Rattle.dsa_regs.specs.Command.{queues_in, scope_of, deed_of}
use Rattle.dsa_store.specs.declared.entry.Entry.{Entry}
use Rattle.dsa_store.specs.Content.{HeldEntry, Content, chain, all_held, without_front}
use Rattle.dsa_book.specs.declared.note.ActiveCommand.{ActiveCommand}
use Rattle.dsa_book.specs.State.{State}
use Rattle.dsa_book.specs.Work.{members, with_running_entry, with_first_run}
use Rattle.dsa_book.specs.Commands.{is_awaited, is_in_scope, is_among}
use Rattle.dsa_laws.specs.{Change.{Change}, Lists.{EachAt}}
use Rattle.dsa_laws.proofs.Contents.{In-chain, each-pushed, each-set, each-without_front}
use Rattle.dsa_laws.proofs.{Entries.{each-effect, first_run-each}, Shapes.{In-cond}}
use Rattle.dsa_admin.specs.Admin.{is_waited_for}
use Rattle.dsa_keys.proofs.Alike.{Same, calm, Pair, SameWaits, SameActive, IsLabelledNext}
use Rattle.dsa_keys.specs.Key.{labelled_entry, waits_as_drain}
use Rattle.dsa_keys.specs.Labels.{Labels}
use Rattle.dsa_keys.proofs.Known.{IsKnown}

-- ---- where the entries after a change come from

-- the same entry, not running
abbrev pub still : Entry → Entry
still entry = record entry { running = false }

-- it was held, running or not, or has the next name
abbrev pub Came : State → HeldEntry → Type 0
Came s x = ((y : HeldEntry) × (In y (all_held s.work.content) × (still y.1 ≡ still x.1)))
    ⊎ (x.1.name ≡ s.work.setup.next_name)

pub In-held : (x : HeldEntry) (c : Content) → In x (all_held c) → (k : ℕ) × In x (chain c k)
In-held x [] i = absurd i
In-held x (l ∷ c) i = ⊎_elim
    (λ j. (zero, j))
    (λ j. let r = In-held x c j in (suc r.0, r.1))
    (In-append x l (all_held c) i)

pub came : (s s' : State) → Change s s' → (x : HeldEntry) → In x (all_held s'.work.content) → Came s x
came s s' c x i =
    let place = In-held x s'.work.content i in
    each-effect P s s' old c
    (λ c. each-pushed P s.work.content c.queue _ old (inr refl))
    (λ c. each-pushed P (without_front s.work.content c.queue) _ (with_running_entry c.front)
    (each-without_front P s.work.content c.queue old) (old c.queue c.front (In-front c.front _ c.is_front)))
    (λ c. each-pushed P s.work.content _ _ old (inr refl))
    (λ c. each-set P s.work.content _ (with_first_run (members s.work c.engine)) old
    (first_run-each (Came s) (λ x p. p) (members s.work c.engine)
    (λ x i. old _ x (In-cond _ x _ i).1)))
    place.0 x place.1
  where
    P : ℕ → HeldEntry → Type 0
    P k = Came s

    old : EachAt P s.work.content
    old k x i = inl (x, (In-chain x s.work.content k i, refl))

-- ---- what compares alike

-- a Drain waits alike where the two names compare alike
pub waits-by : {m n : Labels} (c d : Content) (a x b y : HeldEntry) → Pair m n c d a b → Pair m n c d x y
    → nat_lt x.1.name a.1.name ≡ nat_lt y.1.name b.1.name → waits_as_drain a.1 x.1 ≡ waits_as_drain b.1 y.1
waits-by c d a x b y p q lt = λ i. is_drain (p.same i).desc
    && (not (q.same i).member && (q.same i).queue == (p.same i).queue
    && (q.same i).desc.pasid == (p.same i).desc.pasid && lt i)

pub scope-by : (m n : Labels) (scope : Scope) (x y : HeldEntry) → Same m n (calm x) (calm y)
    → is_in_scope scope x.1 ≡ is_in_scope scope y.1
scope-by m n Device x y h = refl
scope-by m n (Queue queue) x y h = λ i. is_among (queues_in (Queue queue)) (h i).queue
scope-by m n (Queues queues) x y h = λ i. is_among (queues_in (Queues queues)) (h i).queue
scope-by m n (Pasid pasid) x y h = λ i. (h i).desc.pasid == pasid

awaited-by : (m n : Labels) (deed : Deed) (scope : Scope) (mark mark' : ℕ) (x y : HeldEntry)
    → Same m n (calm x) (calm y)
    → nat_lt x.1.name mark ≡ nat_lt y.1.name mark'
    → is_awaited deed scope mark x.1 ≡ is_awaited deed scope mark' y.1
awaited-by m n Disable scope mark mark' x y h lt = scope-by m n scope x y h
awaited-by m n Enable scope mark mark' x y h lt = λ i. scope-by m n scope x y h i && not (h i).member && lt i
awaited-by m n Drain scope mark mark' x y h lt = λ i. scope-by m n scope x y h i && not (h i).member && lt i
awaited-by m n Abort scope mark mark' x y h lt = λ i. scope-by m n scope x y h i && not (h i).member && lt i
awaited-by m n Reset scope mark mark' x y h lt = λ i. scope-by m n scope x y h i && not (h i).member && lt i

-- a command awaits alike where the name compares alike with the mark
pub awaits-by : (m n : Labels) (a b : ActiveCommand) (x y : HeldEntry) → a.command ≡ b.command
    → Same m n (calm x) (calm y)
    → nat_lt x.1.name a.mark ≡ nat_lt y.1.name b.mark → is_waited_for a x.1 ≡ is_waited_for b y.1
awaits-by m n a b x y e h lt =
    awaited-by m n (deed_of a.command) (scope_of a.command) a.mark b.mark x y h lt
    ∙ ap (λ c. is_awaited (deed_of c) (scope_of c) b.mark y.1) e

-- and whether it runs or not
still-awaits : (a : ActiveCommand) (x y : HeldEntry) → still x.1 ≡ still y.1 → is_waited_for a x.1 ≡ is_waited_for a y.1
still-awaits a x y e = awaits-by (λ name. name) (λ name. name) a a x y refl
    (λ i. labelled_entry (λ name. name) (x.0, e i)) (λ i. nat_lt (e i).name a.mark)

-- ---- after a change

-- what is known of two states and of two changes
pub record Both-known (m n : Labels) (s t : State) : Type 0 where
  pub left : IsKnown m s.work
  pub right : IsKnown n t.work
  pub left-labels : IsLabelledNext m s
  pub right-labels : IsLabelledNext n t
  pub next : m s.work.setup.next_name ≡ n t.work.setup.next_name

module _ {m n : Labels} {s s' t t' : State} (k : Both-known m n s t) (c : Change s s') (d : Change t t') where
  -- a pair after two changes was a pair before them, or has come in
  pub record WasPair (x y : HeldEntry) : Type 0 where
    pub x0 : HeldEntry
    pub y0 : HeldEntry
    pub pair : Pair m n s.work.content t.work.content x0 y0
    pub left : still x0.1 ≡ still x.1
    pub right : still y0.1 ≡ still y.1

  abbrev pub IsNew : HeldEntry → HeldEntry → Type 0
  IsNew x y = (x.1.name ≡ s.work.setup.next_name) × (y.1.name ≡ t.work.setup.next_name)

  pub pair-came : (x y : HeldEntry) → Pair m n s'.work.content t'.work.content x y → WasPair x y ⊎ IsNew x y
  pair-came x y p = go (came s s' c x p.left) (came t t' d y p.right)
    where
      label : m x.1.name ≡ n y.1.name
      label = ap (λ f. f.label) p.same

      go : Came s x → Came t y → WasPair x y ⊎ IsNew x y
      go (inl a) (inl b) = inl (record {
        x0 = a.0;
        y0 = b.0;
        pair = record {
          left = a.1.0;
          right = b.1.0;
          same = (λ i. labelled_entry m (x.0, a.1.1 i)) ∙ p.same ∙ (λ i. labelled_entry n (y.0, sym b.1.1 i));
        };
        left = a.1.1;
        right = b.1.1;
      })
      go (inr a) (inr b) = inr (a, b)
      go (inl a) (inr b) =
          let below = k.left.below a.0 a.1.0 in
          let name : a.0.1.name ≡ x.1.name = ap (λ (e : Entry). e.name) a.1.1 in
          let same = k.left-labels x.1.name s.work.setup.next_name (omega (arith, below, name)) (omega arith)
          (label ∙ ap n b ∙ sym k.next) in
          absurd (omega (arith, below, name, same))
      go (inr a) (inl b) =
          let below = k.right.below b.0 b.1.0 in
          let name : b.0.1.name ≡ y.1.name = ap (λ (e : Entry). e.name) b.1.1 in
          let same = k.right-labels y.1.name t.work.setup.next_name (omega (arith, below, name)) (omega arith)
          (sym label ∙ ap m a ∙ k.next) in
          absurd (omega (arith, below, name, same))

  left-below : (x y : HeldEntry) → WasPair x y → x.1.name < s.work.setup.next_name
  left-below x y p =
      let name : p.x0.1.name ≡ x.1.name = ap (λ (e : Entry). e.name) p.left in
      omega (arith, k.left.below p.x0 p.pair.left, name)

  right-below : (x y : HeldEntry) → WasPair x y → y.1.name < t.work.setup.next_name
  right-below x y p =
      let name : p.y0.1.name ≡ y.1.name = ap (λ (e : Entry). e.name) p.right in
      omega (arith, k.right.below p.y0 p.pair.right, name)

  pub waits-change : SameWaits m n s.work.content t.work.content → SameWaits m n s'.work.content t'.work.content
  waits-change same a x b y p q = go (pair-came a b p) (pair-came x y q)
    where
      by : nat_lt x.1.name a.1.name ≡ nat_lt y.1.name b.1.name → waits_as_drain a.1 x.1 ≡ waits_as_drain b.1 y.1
      by = waits-by s'.work.content t'.work.content a x b y p q

      go : WasPair a b ⊎ IsNew a b → WasPair x y ⊎ IsNew x y → waits_as_drain a.1 x.1 ≡ waits_as_drain b.1 y.1
      go (inl u) (inl v) =
          (λ i. waits_as_drain (sym u.left i) (sym v.left i))
          ∙ same u.x0 v.x0 u.y0 v.y0 u.pair v.pair
          ∙ (λ i. waits_as_drain (u.right i) (v.right i))
      go (inl u) (inr v) = by
          (le-ltb x.1.name a.1.name (omega (arith, left-below a b u, v.0))
          ∙ sym (le-ltb y.1.name b.1.name (omega (arith, right-below a b u, v.1))))
      go (inr u) (inl v) = by
          (lt-ltb x.1.name a.1.name (omega (arith, left-below x y v, u.0))
          ∙ sym (lt-ltb y.1.name b.1.name (omega (arith, right-below x y v, u.1))))
      go (inr u) (inr v) = by
          (le-ltb x.1.name a.1.name (omega (arith, u.0, v.0))
          ∙ sym (le-ltb y.1.name b.1.name (omega (arith, u.1, v.1))))

  pub active-change : s.work.setup.next_name ≤ s'.work.setup.next_name
      → t.work.setup.next_name ≤ t'.work.setup.next_name
      → (o p : Option ActiveCommand) → SameActive m n s.work t.work o p → SameActive m n s'.work t'.work o p
  active-change le le' None None h = tt
  active-change le le' (Some a) (Some b) h = record {
    command = h.command;
    left = omega (arith, h.left, le);
    right = omega (arith, h.right, le');
    entries = λ x y p. go x y p (pair-came x y p);
  }
    where
      go : (x y : HeldEntry) → Pair m n s'.work.content t'.work.content x y → WasPair x y ⊎ IsNew x y
          → is_waited_for a x.1 ≡ is_waited_for b y.1
      go x y p (inl u) = still-awaits a x u.x0 (sym u.left) ∙ h.entries u.x0 u.y0 u.pair ∙ still-awaits b u.y0 y u.right
      go x y p (inr u) = awaits-by m n a b x y h.command p.same
          (le-ltb x.1.name a.mark (omega (arith, u.0, h.left))
          ∙ sym (le-ltb y.1.name b.mark (omega (arith, u.1, h.right))))
  active-change le le' None (Some b) h = absurd h
  active-change le le' (Some a) None h = absurd h
