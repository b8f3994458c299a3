-- Names rise along each queue's list.
use Rattle.std.proofs.Common.{◌==◌, ℕ, suc, ◌<◌, Bool, List, [], ◌∷◌, drop, length, filter}
use Rattle.std.proofs.Common.{map, cond, set, get_or, refl, sym, subst, arith, inl, inr}
use Rattle.std.proofs.lemmas.{Bool.{cases_lt, eq-eqb}, List.Kept.{AllPairs-filter}}
use Rattle.std.proofs.lemmas.List.Quantifiers.{all_pairs_push}
use Rattle.std.specs.List.{AllPairs}
use Rattle.dsa_base.proofs.Counts.{some-counted}
use Rattle.dsa_regs.specs.{declared.Caps.{Caps}, Caps.{list_count}}
use Rattle.dsa_store.specs.Content.{HeldEntry, Content, chain, without_front}
use Rattle.dsa_book.specs.{State.{Work, State, opening}, Work.{progress_list, member_list}}
use Rattle.dsa_laws.specs.Change.{Change}
use Rattle.dsa_laws.specs.WellFormed.{IsOlder, IsWellFormed, NamesOnce, QueuesInOrder}
use Rattle.dsa_laws.proofs.Contents.{each-place, chain-filtered, chain-empty, sum-list-le}
use Rattle.dsa_laws.proofs.{Effects.{by_effect}, Shapes.{queues-same}}

-- names rise along the first lists, by their number
abbrev pub ListsRise : Caps → Content → Type 0
ListsRise caps c = (k : ℕ) → k < caps.queues → AllPairs IsOlder (chain c k)

-- a name that stands in a list was given
given-name : (w : Work) → NamesOnce w → (k j : ℕ) (d : HeldEntry) → j < length (chain w.content k)
    → (get_or (chain w.content k) j d).1.name < w.setup.next_name
given-name w once k j d h =
    let name = (get_or (chain w.content k) j d).1.name in
    let named : HeldEntry → Bool = λ pair. pair.1.name == name in
    elim (cases_lt name w.setup.next_name) [
      | inl below ↦ below
      | inr past ↦ absurd (omega (
        arith,
        once.not_given name past,
        sum-list-le (λ pair. cond (named pair) 1 0) w.content k,
        some-counted named (chain w.content k) j d h (eq-eqb name name refl),
      ))
    ]

set-rise : (caps : Caps) (c : Content) (k : ℕ) (l : List HeldEntry) → ListsRise caps c
    → (k < caps.queues → AllPairs IsOlder l) → ListsRise caps (set c k l)
set-rise caps = each-place (λ k l. k < caps.queues → AllPairs IsOlder l) []

front-rise : (l : List HeldEntry) → AllPairs IsOlder l → AllPairs IsOlder (drop 1 l)
front-rise [] h = h
front-rise (x ∷ l) h = λ i j d a b. h (suc i) (suc j) d (omega (arith, a)) (omega (arith, b))

filtered-rise : (caps : Caps) (p : HeldEntry → Bool) (c : Content) → ListsRise caps c
    → ListsRise caps (map (filter p) c)
filtered-rise caps p c h k i =
    subst (AllPairs IsOlder) (sym (chain-filtered p c k))
    (AllPairs-filter IsOlder p (chain c k) (h k i))

pub rising-change : (caps : Caps) (s s' : State) → IsWellFormed caps s → Change s s'
    → QueuesInOrder caps s'.work
rising-change caps s s' w c =
    let shape = w.shape in
    let h = w.rising in
    let content = s.work.content in
    let no_queue : (e : ℕ) → member_list s.work.setup e < caps.queues → ⊥ =
    λ e i. omega (arith, queues-same shape, i) in
    by_effect (λ w. ListsRise caps w.content) s s' c
    (λ e. subst (ListsRise caps) (sym e.content) h)
    (λ c. set-rise caps content c.queue _ h
    (λ i. all_pairs_push IsOlder (chain content c.queue) _ (h c.queue i)
    (λ k d below. given-name s.work w.names c.queue k d below)))
    (λ c.
    set-rise caps (without_front content c.queue) (progress_list s.work.setup c.engine) _
    (set-rise caps content c.queue (drop 1 (chain content c.queue)) h
    (λ i. front-rise (chain content c.queue) (h c.queue i)))
    (λ i. absurd (omega (arith, queues-same shape, i))))
    (λ c. set-rise caps content _ _ h (λ i. absurd (no_queue c.engine i)))
    (λ c. set-rise caps content _ _ h (λ i. absurd (no_queue c.engine i)))
    (λ c. set-rise caps content _ [] h (λ i. absurd (no_queue c.engine i)))
    (λ c. filtered-rise caps _ content h)
    (λ c. filtered-rise caps _ content h)

pub rising-opening : (caps : Caps) → QueuesInOrder caps (opening caps).work
rising-opening caps k i = subst (AllPairs IsOlder) (sym (chain-empty (list_count caps) k))
    (λ i j d i<j j<l. absurd (omega (arith, j<l)))
