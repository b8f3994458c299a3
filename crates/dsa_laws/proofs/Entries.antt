-- What entries are, by the list in which they stand.
use Rattle.std.{specs.{Prelude.{nat_lt, is_some}, List.{list_any}}, proofs.lemmas.List.{get_or-set_other}}
use Rattle.std.proofs.lemmas.Bool.{false_from_ne_true, cases_Bool, ltb-true, ltb-false, not-true}
use Rattle.std.proofs.{Math.ListN.{get_or-eq_default}, Common.{subst, ◌⊎◌, inl, inr, arith, ⊎_elim}}
use Rattle.std.proofs.Common.{◌∙◌, ◌≡◌, ℕ, ◌<◌, ◌==◌, not, Bool, true, false, cond, List, [], ◌∷◌, refl, sym, ap}
use Rattle.dsa_base.proofs.{Lists.{In-any, none-In, In-front, In-find}, NumberLists.{get_or-each}, Tables.{not-both}}
use Rattle.dsa_base.specs.Lists.{In}
use Rattle.dsa_regs.specs.{Caps.{list_count}, Config.{queue_at, zero_queue}, Command.{queues_in}}
use Rattle.dsa_regs.specs.declared.{Scope.{TheVariants.{Device}, Scope}, Deed.{Deed, TheVariants.{Disable}}}
use Rattle.dsa_regs.specs.declared.{Phase.{Phase, TheVariants.{Off, On, Stopping}}, Caps.{Caps}}
use Rattle.dsa_desc.specs.Descriptor.{pasid_of}
use Rattle.dsa_store.specs.Content.{HeldEntry, Content, chain, all_held, without_front}
use Rattle.dsa_book.specs.{State.{holds_any}, Commands.{after_stop, with_phases, is_among, is_in_scope, is_awaited}}
use Rattle.dsa_book.specs.{Submit.{after_accept}, State.{Setup, Work, State, opening, is_off, phase_at}}
use Rattle.dsa_book.specs.Work.{progress_list, member_list, in_progress, members, with_running_entry, with_first_run}
use Rattle.dsa_book.specs.{Work.{after_take, after_fetch, after_start}, Machine.{intake_of, with_intake}}
use Rattle.dsa_book.proofs.{Scopes.{unnamed}, Phases.{on-not_off}}
use Rattle.dsa_laws.specs.WellFormed.{HasLawfulSetup, IsPlaced, HasLawfulEntries, IsWellFormed, HasShape}
use Rattle.dsa_laws.specs.{Lists.{EachAt}, Change.{Change, IsTaken, IsFetched, IsStarted, IsAccepted}}
use Rattle.dsa_laws.proofs.Shapes.{engines-same, on-queue, In-cond, a_taker, queues-same}
use Rattle.dsa_laws.proofs.Contents.{chain-empty, each-without_front, each-pushed, In-filtered, each-set, each-filtered}
use Rattle.dsa_laws.proofs.{Contents.{In-chain}, Effects.{stopped-keeps, reset-config, by_setting, by_effect}}

-- what holds of each of a list, and is not changed when an entry begins to run, holds when the first begins to run
pub first_run-each : (P : HeldEntry → Type 0) → ((x : HeldEntry) → P x → P (with_running_entry x)) → (xs : List HeldEntry)
    → ((x : HeldEntry) → In x xs → P x) → (x : HeldEntry) → In x (with_first_run xs) → P x
first_run-each P r [] a x i = absurd i
first_run-each P r (y ∷ ys) a x i = go (first_run-each P r ys (λ z j. a z (inr j)) x) y.1.running i
  where
    go : (In x (with_first_run ys) → P x) → (b : Bool)
        → In x (cond b (y ∷ with_first_run ys) (with_running_entry y ∷ ys)) → P x
    go more true (inl e) = a x (inl e)
    go more true (inr j) = more j
    go more false (inl e) = subst P e (r y (a y (inl refl)))
    go more false (inr j) = a x (inr j)

-- twice the low bits are the low bits
pasid-again : (p : ℕ) → pasid_of (pasid_of p) ≡ pasid_of p
pasid-again p = omega arith

-- entries leave or stay: what holds of each by its list is to be seen of those that come, and of
-- those that begin to run
pub each-effect : (P : ℕ → HeldEntry → Type 0) (s s' : State) → EachAt P s.work.content → Change s s'
    → ((c : IsAccepted s s') → EachAt P
    (with_intake s (after_accept (intake_of s) c.queue c.kind c.desc c.cell).1).work.content)
    → ((c : IsTaken s s') → EachAt P (after_take s.work c.engine c.queue c.front).content)
    → ((c : IsFetched s s') → EachAt P (after_fetch s.work c.engine c.desc c.cell c.note c.batch.1).1.content)
    → ((c : IsStarted s s') → EachAt P (after_start s.work c.engine).content)
    → EachAt P s'.work.content
each-effect P s s' a c accept take fetch start = by_effect (λ w. EachAt P w.content) s s' c
    (λ e. subst (EachAt P) (sym e.content) a)
    accept take fetch start
    (λ c. each-set P s.work.content _ [] a (λ x i. absurd i))
    (λ c. each-filtered P _ s.work.content a)
    (λ c. each-filtered P _ s.work.content a)

-- of an entry that its queue is in use, and that its PASID is no longer than a PASID: the same
-- wherever it stands, and whether it runs or not
abbrev IsSettled : Setup → HeldEntry → Type 0
IsSettled setup x = (is_off (phase_at setup x.1.queue) ≡ false) × (pasid_of x.1.desc.pasid ≡ x.1.desc.pasid)

-- each entry after a change is such, by the phases before it
settled : (caps : Caps) (s s' : State) → IsWellFormed caps s → Change s s'
    → EachAt (λ k. IsSettled s.work.setup) s'.work.content
settled caps s s' w c =
    let P : ℕ → HeldEntry → Type 0 = λ k. IsSettled s.work.setup in
    let old : EachAt P s.work.content = λ k x i. (w.entries.none_off k x i, w.entries.pasids k x i) in
    each-effect P s s' old c
    (λ c. each-pushed P s.work.content c.queue _ old (on-not_off _ c.on, pasid-again _))
    (λ c. each-pushed P (without_front s.work.content c.queue) _ (with_running_entry c.front)
    (each-without_front P s.work.content c.queue old) (old c.queue c.front (In-front c.front _ c.is_front)))
    (λ c. each-pushed P s.work.content _ _ old (
      (old _ c.batch (In-cond _ c.batch _
          (In-find _ c.batch (in_progress s.work c.engine) c.is_batch).0).1).0,
      pasid-again _,
    ))
    (λ c. each-set P s.work.content _ (with_first_run (members s.work c.engine)) old
    (first_run-each (IsSettled s.work.setup) (λ x p. p) (members s.work c.engine)
    (λ x i. old _ x (In-cond _ x _ i).1)))

-- ---- places

placed-member : (caps : Caps) (w : Work) (e : ℕ) (x : HeldEntry) → HasShape caps w → is_some x.1.parent ≡ true
    → IsPlaced caps (member_list w.setup e) x
placed-member caps w e x h m =
    let a = queues-same h in
    let b = engines-same h in
    record {
      member = λ i. m;
      queue = λ i. absurd (omega arith);
      submitted = λ i. absurd (omega arith);
      waiting = λ i. absurd (omega arith);
      running = λ i j. absurd (omega arith);
    }

placed-change : (caps : Caps) (s s' : State) → IsWellFormed caps s → Change s s' → EachAt
    (IsPlaced caps) s'.work.content
placed-change caps s s' w c =
    let h = w.shape in
    let a = w.entries.placed in
    let queues = queues-same h in
    let engines = engines-same h in
    each-effect (IsPlaced caps) s s' a c
    (λ c.
    let inside = on-queue h c.queue c.on in
    each-pushed (IsPlaced caps) s.work.content c.queue _ a
    (record {
      member = λ i. absurd (omega arith);
      queue = λ i. refl;
      submitted = λ i. refl;
      waiting = λ i. refl;
      running = λ i j. absurd (omega arith);
    }))
    (λ c.
    let k = a_taker h c.engine c.queue c.front c.qualifies c.is_front in
    let inside = k.engine.inside in
    each-pushed (IsPlaced caps) (without_front s.work.content c.queue) (progress_list s.work.setup c.engine)
    (with_running_entry c.front) (each-without_front (IsPlaced caps) s.work.content c.queue a)
    (record {
      member = λ i. absurd (omega arith);
      queue = λ i. absurd (omega arith);
      submitted = λ i. (a c.queue c.front (In-front c.front _ c.is_front)).submitted (omega arith);
      waiting = λ i. absurd (omega arith);
      running = λ i j. refl;
    }))
    (λ c. each-pushed (IsPlaced caps) s.work.content _ _ a (placed-member caps s.work c.engine _ h refl))
    (λ c. each-set (IsPlaced caps) s.work.content _ (with_first_run (members s.work c.engine)) a
    (λ x i. placed-member caps s.work c.engine x h
    (first_run-each (λ x. is_some x.1.parent ≡ true) (λ x p. p) (members s.work c.engine)
    (λ x j. (a (member_list s.work.setup c.engine) x (In-cond _ x _ j).1).member (omega arith)) x i)))

-- ---- no entry names a queue that is Off

-- nothing that is held is of what ends
pub none-pair : (test : HeldEntry → Bool) (content : Content) (k : ℕ) (x : HeldEntry)
    → list_any test (all_held content) ≡ false → In x (chain content k) → test x ≡ false
none-pair test content k x h i = false_from_ne_true (test x)
    (λ t. not-both (list_any test (all_held content)) (In-any test x (all_held content) (In-chain x content k i) t) h)

-- a queue that is not Off is one of the device's
pub in-use-below : (caps : Caps) (w : Work) (q : ℕ) → HasShape caps w → is_off (phase_at w.setup q) ≡ false
    → q < w.setup.caps.queues
in-use-below caps w q h n = ⊎_elim
    (λ t. ltb-true q w.setup.caps.queues t)
    (λ f. not-both (is_off (phase_at w.setup q)) (ap is_off (get_or-eq_default w.setup.phases Off
    (omega (arith, ltb-false q w.setup.caps.queues f, queues-same h)))) n)
    (cases_Bool (nat_lt q w.setup.caps.queues))

-- a phase that is not set to Off stays
kept-phase : (caps : Caps) (w : Work) (test : ℕ → Bool) (p : Phase) (q : ℕ) → HasShape caps w
    → (test q ≡ false) ⊎ (is_off p ≡ false) → is_off (phase_at w.setup q) ≡ false
    → is_off (phase_at (with_phases test p w.setup) q) ≡ false
kept-phase caps w test p q h out n = rw (get_or-each (λ k. cond (test k) p (phase_at w.setup k))
    w.setup.caps.queues q Off (in-use-below caps w q h n)) (grind arith)

over-off : (caps : Caps) (w : Work) (deed : Deed) (scope : Scope) (mark : ℕ) → HasShape caps w
    → not (holds_any (is_awaited deed scope mark) w.content) ≡ true
    → (k : ℕ) (x : HeldEntry) → In x (chain w.content k) → is_off (phase_at w.setup x.1.queue) ≡ false
    → is_off (phase_at (after_stop deed scope Off w.setup) x.1.queue) ≡ false
over-off caps w Disable Device mark h e k x i p =
    absurd (not-both true refl (none-pair (λ pair. true) w.content k x (not-true _ e) i))
over-off caps w Disable scope mark h e k x i p =
    kept-phase caps w (is_among (queues_in scope)) Off x.1.queue h (inl (unnamed scope x.1
    (none-pair (λ pair. is_in_scope scope pair.1) w.content k x (not-true _ e) i))) p
over-off caps w _ scope mark h e k x i p = p

waiting-off : (caps : Caps) (w : Work) (deed : Deed) (scope : Scope) → HasShape caps w → (q : ℕ)
    → is_off (phase_at w.setup q) ≡ false → is_off (phase_at (after_stop deed scope Stopping w.setup) q) ≡ false
waiting-off caps w Disable Device h q n =
    kept-phase caps w (λ k. not (is_off (phase_at w.setup k))) Stopping q h (inr refl) n
waiting-off caps w Disable scope h q n = kept-phase caps w (is_among (queues_in scope)) Stopping q h (inr refl) n
waiting-off caps w _ scope h q n = n

-- what is held after a change, as its last lists are made
pub In-left : {made left : Content} → made ≡ left → (k : ℕ) (x : HeldEntry) → In x (chain left k) → In x (chain made k)
In-left e k x i = subst (λ c. In x (chain c k)) (sym e) i

-- a queue is in use by the set-up after a change, and configured as before it
record KeepsQueue (setup setup' : Setup) (q : ℕ) : Type 0 where
  in_use : is_off (phase_at setup' q) ≡ false
  config : queue_at setup'.configs q ≡ queue_at setup.configs q

-- so is each that an entry after the change names
queues-kept : (caps : Caps) (s s' : State) → IsWellFormed caps s → Change s s'
    → EachAt (λ k x. KeepsQueue s.work.setup s'.work.setup x.1.queue) s'.work.content
queues-kept caps s s' w c k x i =
    let h = w.shape in
    let p = (settled caps s s' w c k x i).0 in
    by_setting (λ setup. KeepsQueue s.work.setup setup x.1.queue) s s' c
    (λ e. record { in_use = rw e.phases p; config = rw e.configs refl })
    (λ c. record { in_use = p; config = refl })
    (λ c. record { in_use = kept-phase caps s.work (λ q. q == c.queue) On x.1.queue h (inr refl) p; config = refl })
    (λ c. record {
      in_use = waiting-off caps s.work c.deed c.scope h x.1.queue p;
      config = rw (stopped-keeps c.deed c.scope Stopping s.work.setup).configs refl;
    })
    (λ c. record {
      in_use = over-off caps s.work c.deed c.scope c.mark h c.over k x (In-left c.content k x i) p;
      config = rw (stopped-keeps c.deed c.scope Off s.work.setup).configs refl;
    })
    (λ left. not-both false (In-filtered (λ pair. not true) s.work.content k x (In-left left k x i)).1 refl)
    (λ scope left.
    let old = In-filtered (λ pair. not (is_in_scope scope pair.1)) s.work.content k x (In-left left k x i) in
    let out = unnamed scope x.1 (not-true _ old.1) in
    record {
      in_use = kept-phase caps s.work (is_among (queues_in scope)) Off x.1.queue h (inl out) p;
      config = reset-config s.work.setup (queues_in scope) x.1.queue (in-use-below caps s.work x.1.queue h p)
          ∙ rw out refl;
    })
    (λ c. record {
      in_use = p;
      config = get_or-set_other s.work.setup.configs c.queue x.1.queue c.config zero_queue
          (λ e. not-both (is_off (phase_at s.work.setup c.queue)) c.off (rw e at p));
    })
    (λ c. record { in_use = p; config = refl })

pub configs-kept : (caps : Caps) (s s' : State) → IsWellFormed caps s → Change s s'
    → (k : ℕ) (x : HeldEntry) → In x (chain s'.work.content k)
    → queue_at s'.work.setup.configs x.1.queue ≡ queue_at s.work.setup.configs x.1.queue
configs-kept caps s s' w c k x i = (queues-kept caps s s' w c k x i).config

pub entries-change : (caps : Caps) (s s' : State) → IsWellFormed caps s → Change s s'
    → HasLawfulEntries caps s'.work
entries-change caps s s' w c = record {
  placed = placed-change caps s s' w c;
  none_off = λ k x i. (queues-kept caps s s' w c k x i).in_use;
  pasids = λ k x i. (settled caps s s' w c k x i).1;
}

pub each-opening : (P : ℕ → HeldEntry → Type 0) (caps : Caps) → EachAt P (opening caps).work.content
each-opening P caps k x i = absurd (subst (In x) (chain-empty (list_count caps) k) i)

pub entries-opening : (caps : Caps) → HasLawfulEntries caps (opening caps).work
entries-opening caps =
    record { placed = each-opening _ caps; none_off = each-opening _ caps; pasids = each-opening _ caps }

-- where the device is Off nothing is held
pub none-held : (caps : Caps) (w : Work) → HasLawfulSetup w.setup → HasLawfulEntries caps w
    → is_off w.setup.device ≡ true → (k : ℕ) → chain w.content k ≡ []
none-held caps w setup entries off k = none-In (chain w.content k)
    (λ x i. not-both (is_off w.setup.device) off (setup.phases x.1.queue (entries.none_off k x i)))
