-- The bounds on read buffers stay.
use Rattle.std.proofs.Common.{sym, set, eq-eqb, not, Bool, List, arith, drop, ◌≡◌, refl, ◌<◌, ◌≤◌}
use Rattle.std.proofs.Common.{inr, false, ◌⊎◌, ℕ, ◌+◌, None, ◌==◌, [], ap, ◌∙◌, cond, subst, ◌++◌, true, Some, ◌∷◌, inl}
use Rattle.std.proofs.lemmas.{List.Sums.{sum_by-cons, sum_by-append, sum_by_push}, Bool.{Decides.{nat_tests}, or_parts}}
use Rattle.std.{proofs.{lemmas.Bool.{ltb-false}, Math.Path.{fun_ext}}, specs.Prelude.{find, sum_by, position, nat_lt}}
use Rattle.dsa_regs.specs.Config.{queue_at, total_size, total_reserved, groups_table, limits_of_queue, check_device}
use Rattle.dsa_regs.specs.declared.{Caps.{Caps}, Phase.TheVariants.{Off, Stopping}, Deed.{Deed, TheVariants.{Disable}}}
use Rattle.dsa_regs.specs.{declared.Scope.{Scope, TheVariants.{Device}}, Buffers.{fits}}
use Rattle.dsa_desc.specs.Descriptor.{need}
use Rattle.dsa_store.specs.Content.{HeldEntry, Content, chain, after_push, without_front}
use Rattle.dsa_book.{proofs.Phases.{on-not_off}, specs.Work.{progress_list, member_list, members, used_on, has_room}}
use Rattle.dsa_book.specs.{Work.{in_progress, with_running_entry, with_first_run}, Commands.{after_stop, may_come}}
use Rattle.dsa_book.specs.State.{Setup, Work, is_member, need_of, held_by, State, opening, is_off}
use Rattle.dsa_base.{specs.{Lists.{In}, Rows.{passes}, Numbers.{has}}, proofs.Tables.{not-both, no-row}}
use Rattle.dsa_laws.specs.{Change.{Change}, WellFormed.{HasShape, HasLawfulSetup, IsWellFormed}, Buffering.{HasBuffers}}
use Rattle.dsa_laws.proofs.Effects.{by_effect, by_setting, stopped-keeps}
use Rattle.dsa_laws.proofs.Contents.{each-place, chain-filtered, sum-filter-le}
use Rattle.dsa_laws.proofs.Covering.{AreWithin, all_needed, within-less, within-more, within-none}
use Rattle.dsa_laws.proofs.{Entries.{none-held, configs-kept}, Shapes.{IsEngine, waiting-engine, a_taker, shape-change}}

-- ---- one entry

-- what the entry of the entry holds
weight : Setup → HeldEntry → ℕ
weight setup pair = held_by setup pair.1

weight-waiting : (setup : Setup) (pair : HeldEntry) → pair.1.running ≡ false → weight setup pair ≡ 0
unfolding weight
weight-waiting setup pair h = ap (λ b. cond b (need_of setup pair.1) 0) h

-- it needs as much as it will once it runs
weight-run : (setup : Setup) (pair : HeldEntry) → weight setup (with_running_entry pair) ≡ need_of setup pair.1
unfolding weight
weight-run setup pair = refl

-- the limits of its queue decide
weight-same : (setup setup' : Setup) (pair : HeldEntry)
    → queue_at setup'.configs pair.1.queue ≡ queue_at setup.configs pair.1.queue
    → weight setup' pair ≡ weight setup pair
unfolding weight
weight-same setup setup' pair h = ap (λ c. cond pair.1.running
    (need pair.1.desc (limits_of_queue c) (is_member pair.1)) 0) h

-- ---- one list

sum-within : (f f' : HeldEntry → ℕ) (xs : List HeldEntry) → ((x : HeldEntry) → In x xs → f' x ≤ f x) → sum_by f' xs ≤ sum_by f xs
sum-within f f' [] h = omega arith
sum-within f f' (x ∷ xs) h =
    omega (arith, sum-within f f' xs (λ y i. h y (inr i)), h x (inl refl), sum_by-cons f x xs, sum_by-cons f' x xs)

-- ---- one engine

-- the sum over its entries in progress and its members
abbrev sum_on : Caps → (HeldEntry → ℕ) → Content → ℕ → ℕ
sum_on caps f c e = cond (nat_lt e caps.engines)
    (sum_by f (chain c (caps.queues + e)) + sum_by f (chain c (caps.queues + caps.engines + e))) 0

both-lists : (b : Bool) (f : HeldEntry → ℕ) (xs ys : List HeldEntry)
    → sum_by f (cond b xs []) + sum_by f (cond b ys []) ≡ cond b (sum_by f xs + sum_by f ys) 0
both-lists true f xs ys = refl
both-lists false f xs ys = omega arith

used_on-sum : (w : Work) (e : ℕ) → used_on w e ≡ sum_on w.setup.caps (weight w.setup) w.content e
unfolding weight
used_on-sum w e =
    sum_by-append (weight w.setup) (in_progress w e) (members w e)
    ∙ both-lists (nat_lt e w.setup.caps.engines) (weight w.setup) (chain w.content (progress_list w.setup e))
    (chain w.content (member_list w.setup e))

-- where no list has more, no engine needs more
sum_on-less : (caps : Caps) (f f' : HeldEntry → ℕ) (c c' : Content) (e : ℕ)
    → ((k : ℕ) → sum_by f' (chain c' k) ≤ sum_by f (chain c k)) → sum_on caps f' c' e ≤ sum_on caps f c e
sum_on-less caps f f' c c' e h =
    let progress = h (caps.queues + e) in
    let members = h (caps.queues + caps.engines + e) in
    grind arith

-- where list p, which is one of engine e's, has n more, no other engine needs more
sum_on-more : (caps : Caps) (f : HeldEntry → ℕ) (c c' : Content) (e p n : ℕ) → e < caps.engines
    → (p ≡ caps.queues + e) ⊎ (p ≡ caps.queues + caps.engines + e)
    → ((k : ℕ) → sum_by f (chain c' k) ≤ sum_by f (chain c k) + cond (k == p) n 0) → (j : ℕ)
    → sum_on caps f c' j ≤ sum_on caps f c j + cond (j == e) n 0
sum_on-more caps f c c' e p n engine place h j =
    let progress = h (caps.queues + j) in
    let members = h (caps.queues + caps.engines + j) in
    grind (arith, nat_tests)

-- ---- the bounds, by what each engine needs

-- the bounds of a set-up where these are held, by the sums of the lists
abbrev Bounded : Setup → Content → Type 0
Bounded setup c = is_off setup.device ≡ false
    → AreWithin setup.caps setup.groups (sum_on setup.caps (weight setup) c)

used-is : (w : Work) → used_on w ≡ sum_on w.setup.caps (weight w.setup) w.content
used-is w = fun_ext (used_on-sum w)

bounded : (w : Work) → HasBuffers w.setup.caps w → Bounded w.setup w.content
bounded w h on = subst (AreWithin w.setup.caps w.setup.groups) (used-is w)
    (record { allowed = h.allowed on; total = h.covered on })

of-bounded : (w : Work) → Bounded w.setup w.content → HasBuffers w.setup.caps w
of-bounded w h =
    let within = λ (on : is_off w.setup.device ≡ false).
    subst (AreWithin w.setup.caps w.setup.groups) (sym (used-is w)) (h on) in
    record { allowed = λ on. (within on).allowed; covered = λ on. (within on).total }

-- where one list of an engine needs more, and that much fits
one-more : (w : Work) (c' : Content) (e p n : ℕ) → HasShape w.setup.caps w → HasLawfulSetup w.setup
    → IsEngine w.setup.caps w e → (p ≡ progress_list w.setup e) ⊎ (p ≡ member_list w.setup e)
    → ((k : ℕ)
    → sum_by (weight w.setup) (chain c' k) ≤ sum_by (weight w.setup) (chain w.content k) + cond (k == p) n 0)
    → has_room w e n ≡ true → Bounded w.setup w.content → Bounded w.setup c'
one-more w c' e p n shape setup engine place lists room h on =
    let caps = w.setup.caps in
    let groups = w.setup.groups in
    let f = sum_on caps (weight w.setup) w.content in
    within-more caps groups f (sum_on caps (weight w.setup) c') e n (h on) shape.groups engine.below
    (or_parts _ _ (no-row (groups_table caps (total_size w.setup.configs) groups) (setup.device on)).1.1.0).1
    (subst (λ f. passes (λ g. fits caps.read_buffers groups (all_needed f caps groups) g n)
    (position (λ g. has g.engines e) groups) ≡ true) (used-is w) room)
    (sum_on-more caps (weight w.setup) w.content c' e p n engine.below place lists)

-- ---- lists

-- as they were, or as one is set
set-light : (f : HeldEntry → ℕ) (c : Content) (p : ℕ) (l : List HeldEntry) → sum_by f l ≤ sum_by f (chain c p)
    → (k : ℕ) → sum_by f (chain (set c p l) k) ≤ sum_by f (chain c k)
set-light f c p l = each-place (λ k l. sum_by f l ≤ sum_by f (chain c k)) [] c p l (λ k. omega arith)

-- one is set that may need n more, where the others need no more
set-more : (f : HeldEntry → ℕ) (c c' : Content) (p : ℕ) (l : List HeldEntry) (n : ℕ)
    → ((k : ℕ) → sum_by f (chain c' k) ≤ sum_by f (chain c k)) → sum_by f l ≤ sum_by f (chain c p) + n
    → (k : ℕ) → sum_by f (chain (set c' p l) k) ≤ sum_by f (chain c k) + cond (k == p) n 0
set-more f c c' p l n less h = each-place (λ k l. sum_by f l ≤ sum_by f (chain c k) + cond (k == p) n 0) [] c' p l
    (λ k. omega (arith, less k)) (rw (eq-eqb p p refl) h)

front-light : (f : HeldEntry → ℕ) (c : Content) (q k : ℕ) → sum_by f (chain (without_front c q) k) ≤ sum_by f (chain c k)
front-light f c q = set-light f c q (drop 1 (chain c q)) (rest (chain c q))
  where
    rest : (xs : List HeldEntry) → sum_by f (drop 1 xs) ≤ sum_by f xs
    rest [] = omega arith
    rest (x ∷ xs) = omega (arith, sum_by-cons f x xs)

-- the first that does not run runs
first_run-within : (f : HeldEntry → ℕ) (xs : List HeldEntry) (pair : HeldEntry) → find (λ x. not x.1.running) xs ≡ Some pair
    → sum_by f (with_first_run xs) ≤ sum_by f xs + f (with_running_entry pair)
first_run-within f [] pair h = absurd cc
first_run-within f (x ∷ xs) pair h = grind (arith, first_run-within f xs pair, sum_by-cons f)

-- ---- what is held, and then the set-up

-- one that needs nothing yet is pushed
pushed-light : (setup : Setup) (c : Content) (p : ℕ) (x : HeldEntry) → x.1.running ≡ false → (k : ℕ)
    → sum_by (weight setup) (chain (after_push c p x.0 x.1) k) ≤ sum_by (weight setup) (chain c k)
pushed-light setup c p x z = set-light (weight setup) c p (chain c p ++ x ∷ [])
    (omega (arith, sum_by_push (weight setup) (chain c p) x, weight-waiting setup x z))

-- what is held after a change, by the set-up before it
buffers-effect : (s s' : State) → HasShape s.work.setup.caps s.work → HasLawfulSetup s.work.setup
    → Bounded s.work.setup s.work.content → Change s s' → Bounded s.work.setup s'.work.content
buffers-effect s s' shape setup h c =
    let held = s.work.content in
    let f = weight s.work.setup in
    let light = λ (c' : Content) (lists : (k : ℕ) → sum_by f (chain c' k) ≤ sum_by f (chain held k))
    (on : is_off s.work.setup.device ≡ false).
    within-less s.work.setup.caps s.work.setup.groups (sum_on s.work.setup.caps f held) _ (h on)
    (λ e. sum_on-less s.work.setup.caps f f held c' e lists) in
    by_effect (λ w. Bounded s.work.setup w.content) s s' c
    (λ e. rw e.content h)
    (λ c. light _ (pushed-light s.work.setup held c.queue _ refl))
    (λ c.
    let k = a_taker shape c.engine c.queue c.front c.qualifies c.is_front in
    let p = progress_list s.work.setup c.engine in
    let c' = without_front held c.queue in
    let less = front-light f held c.queue in
    let n = f (with_running_entry c.front) in
    one-more s.work _ c.engine p n shape setup k.engine (inl refl)
    (set-more f held c' p (chain c' p ++ with_running_entry c.front ∷ []) n less
    (omega (arith, sum_by_push f (chain c' p) (with_running_entry c.front), less p)))
    (rw (weight-run s.work.setup c.front) k.room) h)
    (λ c. light _ (pushed-light s.work.setup held (member_list s.work.setup c.engine) _ refl))
    (λ c.
    let k = waiting-engine shape c.engine c.pair c.is_first in
    let p = member_list s.work.setup c.engine in
    let n = f (with_running_entry c.pair) in
    one-more s.work _ c.engine p n shape setup k (inr refl)
    (set-more f held held p (with_first_run (members s.work c.engine)) n (λ k. omega arith)
    (omega (arith, first_run-within f (members s.work c.engine) c.pair c.is_first, ap (sum_by f) k.members)))
    (rw (weight-run s.work.setup c.pair) c.room) h)
    (λ c. light _ (set-light f held (member_list s.work.setup c.engine) [] (omega arith)))
    (λ c. light _ (λ k. rw (chain-filtered _ held k) (sum-filter-le f _ (chain held k))))
    (λ c. light _ (λ k. rw (chain-filtered _ held k) (sum-filter-le f _ (chain held k))))

-- the device is enabled: nothing is held
enabled-bounded : (setup setup' : Setup) (c : Content) → check_device setup.caps setup.configs setup.groups ≡ None
    → ((k : ℕ) → chain c k ≡ []) → AreWithin setup.caps setup.groups (sum_on setup.caps (weight setup') c)
enabled-bounded setup setup' c check none = within-none setup.caps setup.groups _
    (ltb-false setup.caps.read_buffers (total_reserved setup.groups)
    (no-row (groups_table setup.caps (total_size setup.configs) setup.groups) check).1.1.1.0)
    (λ e. let progress = ap (sum_by (weight setup')) (none (setup.caps.queues + e)) in
    let members = ap (sum_by (weight setup')) (none (setup.caps.queues + setup.caps.engines + e)) in grind arith)

waiting-on : (setup : Setup) (deed : Deed) (scope : Scope) → may_come setup deed scope ≡ true
    → is_off (after_stop deed scope Stopping setup).device ≡ false → is_off setup.device ≡ false
waiting-on setup Disable Device may n = on-not_off setup.device may
waiting-on setup Disable scope may n = n
waiting-on setup _ scope may n = n

over-on : (setup : Setup) (deed : Deed) (scope : Scope) → is_off (after_stop deed scope Off setup).device ≡ false
    → is_off setup.device ≡ false
over-on setup Disable Device n = absurd cc
over-on setup Disable scope n = n
over-on setup _ scope n = n

-- by the capabilities of the device
bounded-change : (s s' : State) → IsWellFormed s.work.setup.caps s → Change s s' → Bounded s'.work.setup s'.work.content
bounded-change s s' w change = by_setting After s s' change
    (λ e. settle _ e.caps e.groups (λ n. ap is_off (sym e.device) ∙ n))
    (λ c configs on. enabled-bounded s.work.setup _ s'.work.content c.granted.check
    (λ k. ap (λ t. chain t.work.content k) (sym c.after)
    ∙ none-held s.work.setup.caps s.work w.setup w.entries c.granted.phases k))
    (λ c. settle _ refl refl (λ n. n))
    (λ c. let stop = stopped-keeps c.deed c.scope Stopping s.work.setup in
    settle _ stop.caps stop.groups (waiting-on s.work.setup c.deed c.scope c.may))
    (λ c. let stop = stopped-keeps c.deed c.scope Off s.work.setup in
    settle _ stop.caps stop.groups (over-on s.work.setup c.deed c.scope))
    (λ left configs on. absurd cc)
    (λ scope left. settle _ refl refl (λ n. n))
    (λ c. settle _ refl refl (λ n. n))
    (λ c configs on. not-both (is_off s.work.setup.device) c.off on)
    (configs-kept s.work.setup.caps s s' w change)
  where
    After : Setup → Type 0
    After = λ setup. ((k : ℕ) (x : HeldEntry) → In x (chain s'.work.content k)
        → queue_at setup.configs x.1.queue ≡ queue_at s.work.setup.configs x.1.queue)
        → Bounded setup s'.work.content

    settle : (setup : Setup) → setup.caps ≡ s.work.setup.caps → setup.groups ≡ s.work.setup.groups
        → (is_off setup.device ≡ false → is_off s.work.setup.device ≡ false) → After setup
    settle setup same groups off configs on =
        let caps = s.work.setup.caps in
        let c = s'.work.content in
        let old = weight s.work.setup in
        let new = weight setup in
        subst (λ k. AreWithin k setup.groups (sum_on k new c)) (sym same)
        (subst (λ gs. AreWithin caps gs (sum_on caps new c)) (sym groups)
        (within-less caps s.work.setup.groups (sum_on caps old c) (sum_on caps new c)
        (buffers-effect s s' w.shape w.setup (bounded s.work w.buffers) change (off on))
        (λ e. sum_on-less caps old new c c e (λ k. sum-within old new (chain c k)
        (λ x i. omega (arith, weight-same s.work.setup setup x (configs k x i)))))))

pub buffers-change : (caps : Caps) (s s' : State) → IsWellFormed caps s → Change s s' → HasBuffers caps s'.work
buffers-change caps s s' w c = subst (λ k. HasBuffers k s'.work) (shape-change caps s s' w.shape c).same_caps
    (of-bounded s'.work (bounded-change s s' (rw (← w.shape.same_caps) at w) c))

pub buffers-opening : (caps : Caps) → HasBuffers caps (opening caps).work
buffers-opening caps = record { allowed = λ on. absurd cc; covered = λ on. absurd cc }
