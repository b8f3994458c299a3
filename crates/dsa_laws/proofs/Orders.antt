-- Members that run stand before the others.
use Rattle.std.proofs.Common.{drop, ◌≡◌, ℕ, ◌+◌, ◌≤◌, Bool, true, false, List, [], ◌∷◌, ◌++◌, map, set, refl}
use Rattle.std.proofs.{Common.{sym, ap, ◌∙◌, subst, arith, ⊎_elim, ◌-◌, length}, lemmas.Bool.{cases_lt, cond_both}}
use Rattle.std.{proofs.Math.ListN.{get_or-eq_default}, specs.Prelude.{filter, nat_lt}}
use Rattle.dsa_regs.specs.{declared.Caps.{Caps}, Caps.{list_count}}
use Rattle.dsa_store.specs.Content.{HeldEntry, Content, chain, without_front}
use Rattle.dsa_book.specs.{State.{Work, State, opening}, Work.{progress_list, member_list, members, with_first_run}}
use Rattle.dsa_laws.specs.{Change.{Change}, WellFormed.{HasShape, MembersInOrder, runs_first, none_runs, IsWellFormed}}
use Rattle.dsa_laws.proofs.{Effects.{by_effect}, Contents.{each-place, chain-filtered, chain-empty}}
use Rattle.dsa_laws.proofs.Shapes.{queues-same, engines-same, on-queue, a_taker, waiting-engine, members-at}

pub none-first : (xs : List HeldEntry) → none_runs xs ≡ true → runs_first xs ≡ true
none-first [] h = refl
none-first (x ∷ xs) h = grind arith

none-push : (xs : List HeldEntry) (y : HeldEntry) → y.1.running ≡ false → none_runs xs ≡ true → none_runs (xs ++ y ∷ []) ≡ true
none-push [] y n h = grind arith
none-push (x ∷ xs) y n h = grind (arith, none-push xs y n)

first-push : (xs : List HeldEntry) (y : HeldEntry) → y.1.running ≡ false → runs_first xs ≡ true → runs_first (xs ++ y ∷ []) ≡ true
first-push [] y n h = grind arith
first-push (x ∷ xs) y n h = grind (arith, first-push xs y n, none-push xs y n)

none-filter : (p : HeldEntry → Bool) (xs : List HeldEntry) → none_runs xs ≡ true → none_runs (filter p xs) ≡ true
none-filter p [] h = refl
none-filter p (x ∷ xs) h = grind (arith, none-filter p xs)

first-filter : (p : HeldEntry → Bool) (xs : List HeldEntry) → runs_first xs ≡ true → runs_first (filter p xs) ≡ true
first-filter p [] h = refl
first-filter p (x ∷ xs) h = grind (arith, first-filter p xs, none-filter p xs, none-first (filter p xs))

first-first_run : (xs : List HeldEntry) → runs_first xs ≡ true → runs_first (with_first_run xs) ≡ true
first-first_run [] h = refl
first-first_run (x ∷ xs) h = grind (arith, first-first_run xs, none-first xs)

-- members that run stand first, by the number of the list
abbrev pub ListsInOrder : Caps → Content → Type 0
ListsInOrder caps c = (k : ℕ) → caps.queues + caps.engines ≤ k → runs_first (chain c k) ≡ true

-- there is no list past those of the engines
pub lists-in_order : (caps : Caps) (w : Work) → HasShape caps w → MembersInOrder w → ListsInOrder caps w.content
lists-in_order caps w shape h k past = ⊎_elim
    (λ i.
    let e = k - (caps.queues + caps.engines) in
    let is : caps.queues + caps.engines + e ≡ k = omega arith in
    rw (← is, ← members-at shape e (omega arith)) (h e))
    (λ i. ap runs_first (get_or-eq_default w.content [] i))
    (cases_lt k (length w.content))

pub of-lists_in_order : (caps : Caps) (w : Work) → HasShape caps w → ListsInOrder caps w.content → MembersInOrder w
of-lists_in_order caps w shape h e =
    cond_both (nat_lt e w.setup.caps.engines) (chain w.content (member_list w.setup e)) []
    (λ xs. runs_first xs ≡ true)
    (λ t. h (member_list w.setup e) (omega (arith, queues-same shape, engines-same shape))) (λ f. refl)

filtered-order : (caps : Caps) (p : HeldEntry → Bool) (w : Work) → ListsInOrder caps w.content → (k : ℕ)
    → caps.queues + caps.engines ≤ k → runs_first (chain (map (filter p) w.content) k) ≡ true
filtered-order caps p w h k i = ap runs_first (chain-filtered p w.content k)
    ∙ first-filter p (chain w.content k) (h k i)

set-order : (caps : Caps) (c : Content) (k : ℕ) (l : List HeldEntry) → ListsInOrder caps c
    → (caps.queues + caps.engines ≤ k → runs_first l ≡ true) → ListsInOrder caps (set c k l)
set-order caps = each-place (λ k l. caps.queues + caps.engines ≤ k → runs_first l ≡ true) []

pub order-change : (caps : Caps) (s s' : State) → IsWellFormed caps s → Change s s' → ListsInOrder caps s'.work.content
order-change caps s s' w c =
    let shape = w.shape in
    let h = lists-in_order caps s.work w.shape w.order in
    by_effect (λ w. ListsInOrder caps w.content) s s' c
    (λ e. subst (ListsInOrder caps) (sym e.content) h)
    (λ c. set-order caps s.work.content c.queue _ h (λ i. absurd (omega (arith, on-queue shape c.queue c.on))))
    (λ c.
    let k = a_taker shape c.engine c.queue c.front c.qualifies c.is_front in
    set-order caps (without_front s.work.content c.queue) (progress_list s.work.setup c.engine) _
    (set-order caps s.work.content c.queue (drop 1 (chain s.work.content c.queue)) h
    (λ i. absurd (omega arith)))
    (λ i. absurd (omega (arith, queues-same shape))))
    (λ c. let k = member_list s.work.setup c.engine in
    set-order caps s.work.content k _ h (λ i. first-push (chain s.work.content k) _ refl (h k i)))
    (λ c. set-order caps s.work.content _ (with_first_run (members s.work c.engine)) h
    (λ i. first-first_run (members s.work c.engine)
    (ap runs_first (waiting-engine shape c.engine c.pair c.is_first).members ∙ h
    (member_list s.work.setup c.engine) i)))
    (λ c. set-order caps s.work.content (member_list s.work.setup c.engine) [] h (λ i. refl))
    (λ c. filtered-order caps _ s.work h)
    (λ c. filtered-order caps _ s.work h)

pub order-opening : (caps : Caps) → ListsInOrder caps (opening caps).work.content
order-opening caps k i = ap runs_first (chain-empty (list_count caps) k)
