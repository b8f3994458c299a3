-- A set-up that lets no entry in leads devices to one state, whatever room their histories have.
use Rattle.std.proofs.Common.{◌≡◌, ℕ, zero, suc, ◌+◌, ◌≤◌, Bool, true, false, cond, List, [], ◌∷◌, ◌++◌, Option}
use Rattle.std.proofs.Common.{Some, None, refl, sym, ap, ◌∙◌, subst, map, length, length-append, append_assoc, inl}
use Rattle.std.proofs.Common.{append-nil, is_some, arith}
use Rattle.std.specs.Prelude.{option_and_then, slice_get}
use Rattle.std.proofs.lemmas.{Option.{same_Some}, Bool.{and_parts, ne_eqb}, List.Elements.{filter-append}}
use Rattle.dsa_base.{specs.{Lists.{In}, Rows.{passes}}, proofs.Lists.{In-left, In-right}}
use Rattle.dsa_regs.specs.declared.Caps.{Caps}
use Rattle.dsa_store.specs.Content.{HeldEntry, Content, all_held, chain}
use Rattle.dsa_book.specs.declared.{event.{Event.{Event}, Step.{Step}}, answer.Reply.{Reply}}
use Rattle.dsa_book.specs.declared.answer.Reply.TheVariants.{Submit, Dispatch, Fetch}
use Rattle.dsa_book.specs.declared.answer.{SubmitAnswer.TheVariants.{Accepted}, DispatchAnswer.TheVariants.{Taken}}
use Rattle.dsa_book.specs.declared.answer.FetchAnswer.TheVariants.{Fetched}
use Rattle.dsa_book.specs.{State.{State, opening}, Work.{qualifies, may_take, front_of}}
use Rattle.dsa_book.specs.Machine.{next, replay, is_stored, stored_steps, is_run_after, may_follow, is_full_reply}
use Rattle.dsa_book.proofs.{Gains.{named_by}, Replay.{replay-snoc}}
use Rattle.dsa_laws.{specs.WellFormed.{IsWellFormed}, proofs.Histories.{well_formed-change, well_formed-opening}}
use Rattle.dsa_laws.proofs.{Changes.{next-change, next_keeps}, Forgotten.{next-grows}}
use Rattle.dsa_accounts.proofs.Totals.{next-names}
use Rattle.dsa_answers.{specs.Choices.{AreAlike}, proofs.Choices.{replies-alike}}
use Rattle.dsa_keys.proofs.Known.{known-below}
use Rattle.dsa_explore.proofs.Covers.{taken-by}

-- these steps lead from s to the other state
abbrev LeadsBy : State → List Step → State → Type 0
LeadsBy s [] s' = s ≡ s'
LeadsBy s (x ∷ xs) s' = (t : State) × ((next s x.event x.reply ≡ Some t) × LeadsBy t xs s')

-- no more are stored
pub fewer-stored : (xs : List Step) → length (stored_steps xs) ≤ length xs
fewer-stored [] = omega arith
fewer-stored (x ∷ xs) = go (is_stored x.reply) (fewer-stored xs)
  where
    go : (b : Bool) → length (stored_steps xs) ≤ length xs
        → length (cond b (x ∷ stored_steps xs) (stored_steps xs)) ≤ length (x ∷ xs)
    go true few = omega (arith, few)
    go false few = omega (arith, few)

-- the history after a step
one-more : (caps : Caps) (h : List Step) (x : Step) (s t : State) → replay caps h ≡ Some s
    → next s x.event x.reply ≡ Some t → replay caps (h ++ stored_steps (x ∷ [])) ≡ Some t
one-more caps h x s t at step = go (is_stored x.reply) refl
  where
    go : (b : Bool) → is_stored x.reply ≡ b → replay caps (h ++ cond b (x ∷ []) []) ≡ Some t
    go true is = replay-snoc caps h x ∙ ap (option_and_then (λ s. next s x.event x.reply)) at ∙ step
    go false is =
        ap (replay caps) (append-nil h) ∙ at ∙ ap (λ z. Some z) (sym (next_keeps s t x.event x.reply step is))

-- a run that its history has room for
pub led-by : (caps : Caps) (cap : ℕ) (xs h : List Step) (s s' : State) → replay caps h ≡ Some s
    → is_run_after caps cap h xs ≡ true → length h + length xs ≤ cap → replay caps (h ++ stored_steps xs) ≡ Some s'
    → LeadsBy s xs s'
led-by caps cap [] h s s' at run room e =
    same_Some s s' (sym at ∙ sym (ap (replay caps) (append-nil h)) ∙ e)
led-by caps cap (x ∷ xs) h s s' at run room e =
    go (λ t more run' room' e'. led-by caps cap xs (h ++ stored_steps (x ∷ [])) t s' more run' room' e')
    (next s x.event x.reply) refl may
  where
    parts : (may_follow caps cap h x ≡ true) × (is_run_after caps cap (h ++ stored_steps (x ∷ [])) xs ≡ true)
    parts = and_parts _ _ run

    free : is_some (option_and_then (λ s. next s x.event x.reply) (replay caps h)) ≡ true
    free = subst (λ (b : Bool). cond b (is_full_reply x.event x.reply)
        (is_some (option_and_then (λ s. next s x.event x.reply) (replay caps h))) ≡ true)
        (ne_eqb (length h) cap (λ same. omega (arith, room, same))) parts.0

    may : is_some (next s x.event x.reply) ≡ true
    may = subst (λ (o : Option State). is_some (option_and_then (λ s. next s x.event x.reply) o) ≡ true) at free

    go : ((t : State) → replay caps (h ++ stored_steps (x ∷ [])) ≡ Some t
        → is_run_after caps cap (h ++ stored_steps (x ∷ [])) xs ≡ true
        → length (h ++ stored_steps (x ∷ [])) + length xs ≤ cap
        → replay caps ((h ++ stored_steps (x ∷ [])) ++ stored_steps xs) ≡ Some s' → LeadsBy t xs s')
        → (o : Option State) → next s x.event x.reply ≡ o → is_some o ≡ true → LeadsBy s (x ∷ xs) s'
    go more None n is = absurd cc
    go more (Some t) n is = (
      t,
      (
        n,
        more t (one-more caps h x s t at n) parts.1
            (omega (arith, room, fewer-stored (x ∷ []), length-append h (stored_steps (x ∷ []))))
            (ap (replay caps) (append_assoc h (stored_steps (x ∷ [])) (stored_steps xs))
            ∙ ap (λ (l : List Step). replay caps (h ++ l)) (sym (filter-append (λ step. is_stored step.reply) (x ∷ []) xs))
            ∙ e),
      ),
    )

-- names do not go away
grows : (xs : List Step) (s s' : State) → LeadsBy s xs s' → s.work.setup.next_name ≤ s'.work.setup.next_name
grows [] s s' same = omega (arith, ap (λ (z : State). z.work.setup.next_name) same)
grows (x ∷ xs) s s' led =
    omega (arith, (next-grows s led.0 x.event x.reply led.1.0).0, grows xs led.0 s' led.1.1)

chain-held : (x : HeldEntry) (content : Content) (k : ℕ) → In x (chain content k) → In x (all_held content)
chain-held x [] k i = absurd i
chain-held x (list ∷ content) zero i = In-left x list (all_held content) i
chain-held x (list ∷ content) (suc k) i = In-right x list (all_held content) (chain-held x content k i)

first-in : (xs : List HeldEntry) (x : HeldEntry) → slice_get xs 0 ≡ Some x → In x xs
first-in [] x h = absurd cc
first-in (y ∷ ys) x h = inl (same_Some y x h)

module _ (caps : Caps) where
  -- an engine takes nothing where no name was given
  none-taken : (s : State) (e q : ℕ) {X : Type 0} → IsWellFormed caps s → s.work.setup.next_name ≡ 0
      → qualifies s.work e q ≡ true → X
  none-taken s e q {X} well none may = go (front_of s.work q) refl (and_parts _ _ (and_parts _ _ may).1).1
    where
      go : (o : Option HeldEntry) → front_of s.work q ≡ o → passes (may_take s.work e) o ≡ true → X
      go None is h = absurd cc
      go (Some pair) is h = absurd (omega (
        arith,
        none,
        known-below caps s well pair (chain-held pair s.work.content q (first-in (chain s.work.content q) pair is)),
      ))

  -- a reply that gives no name, where none was given, is the only one
  same-reply : (s t u : State) (e : Event) (a b : Reply) → IsWellFormed caps s → next s e a ≡ Some t
      → next s e b ≡ Some u → t.work.setup.next_name ≡ 0 → a ≡ b
  same-reply s t u e a b well n m none = go a n (replies-alike s t u e a b n m) (next-names s t e a n)
    where
      go : (a : Reply) → next s e a ≡ Some t → AreAlike a b
          → t.work.setup.next_name ≡ s.work.setup.next_name + named_by a → a ≡ b
      go (Submit (Accepted ticket)) n alike names = absurd (omega (arith, names, none))
      go (Fetch (Fetched ticket)) n alike names = absurd (omega (arith, names, none))
      go (Dispatch (Taken ticket q)) n alike names =
          let taken = taken-by s t e (Dispatch (Taken ticket q)) q n refl in
          none-taken s taken.0 q well (omega (arith, names, none)) taken.2
      go a n alike names = alike

  -- so the same events lead to one state, if one of two runs gives no name
  pub same-end : (xs ys : List Step) (s t u : State) → IsWellFormed caps s
      → map (λ (step : Step). step.event) xs ≡ map (λ (step : Step). step.event) ys → LeadsBy s xs t → LeadsBy s ys u
      → t.work.setup.next_name ≡ 0 → t ≡ u
  same-end [] [] s t u well same a b none = sym a ∙ b
  same-end [] (y ∷ ys) s t u well same a b none = absurd cc
  same-end (x ∷ xs) [] s t u well same a b none = absurd cc
  same-end (x ∷ xs) (y ∷ ys) s t u well same a b none =
      let event : x.event ≡ y.event = cc in
      let rest : map (λ (step : Step). step.event) xs ≡ map (λ (step : Step). step.event) ys = cc in
      let b' : next s x.event y.reply ≡ Some b.0 = subst (λ (e : Event). next s e y.reply ≡ Some b.0) (sym event) b.1.0
      in
      let zero-now : a.0.work.setup.next_name ≡ 0 = omega (arith, grows xs a.0 t a.1.1, none) in
      let reply : x.reply ≡ y.reply = same-reply s a.0 b.0 x.event x.reply y.reply well a.1.0 b' zero-now in
      let mid : a.0 ≡ b.0 = same_Some a.0 b.0
      (sym a.1.0 ∙ ap (λ (r : Reply). next s x.event r) reply ∙ b') in
      same-end xs ys a.0 t u (well_formed-change caps s a.0 well (next-change s a.0 x.event x.reply a.1.0)) rest a.1.1
      (subst (λ (z : State). LeadsBy z ys u) (sym mid) b.1.1) none

  -- from a new device
  pub same-from-opening : (cap others : ℕ) (xs ys : List Step) (t u : State)
      → map (λ (step : Step). step.event) xs ≡ map (λ (step : Step). step.event) ys
      → is_run_after caps cap [] xs ≡ true → is_run_after caps others [] ys ≡ true → length xs ≤ cap
      → length ys ≤ others → replay caps (stored_steps xs) ≡ Some t → replay caps (stored_steps ys) ≡ Some u
      → t.work.setup.next_name ≡ 0 → t ≡ u
  same-from-opening cap others xs ys t u same run run' room room' e e' none =
      same-end xs ys (opening caps) t u (well_formed-opening caps) same
      (led-by caps cap xs [] (opening caps) t refl run (omega (arith, room)) e)
      (led-by caps others ys [] (opening caps) u refl run' (omega (arith, room')) e') none
