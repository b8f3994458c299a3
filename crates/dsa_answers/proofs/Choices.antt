-- Two replies to one event that may both come differ in what is free alone.
use Rattle.std.proofs.Common.{◌≡◌, ℕ, Bool, true, false, List, [], ◌∷◌, Option, Some, None, refl, sym, ap, subst, ◌∙◌}
use Rattle.std.proofs.{lemmas.{Bool.{and_parts, ltb-true, not-true}, Option.{same_Some}}, Common.{◌<◌}}
use Rattle.std.specs.List.{list_any}
use Rattle.dsa_desc.specs.declared.Descriptor.{Descriptor}
use Rattle.dsa_base.proofs.{NumberLemmas.{numbers_below-hit}, Tables.{not-both}}
use Rattle.dsa_base.specs.{Rows.{first_row_or, passes}, Numbers.{numbers_below}}
use Rattle.dsa_store.specs.{declared.entry.Cell.{Cell}, Content.{HeldEntry}}
use Rattle.dsa_book.specs.Work.{after_fetch, note_at, batch_on, is_all_fetched}
use Rattle.dsa_book.specs.Work.{qualifies, may_take, front_of, may_leave, dispatch, dispatch_of, fetch_for, fetch_of}
use Rattle.dsa_book.specs.declared.answer.FetchAnswer.{FetchAnswer, TheVariants.{Fetched, AllFetched}}
use Rattle.dsa_book.specs.declared.answer.Reply.{Reply, TheVariants.{Submit, Dispatch, Fetch}}
use Rattle.dsa_book.specs.declared.answer.SubmitAnswer.{SubmitAnswer, TheVariants.{Accepted}}
use Rattle.dsa_book.specs.declared.event.{Event.{Event, TheVariants.{Submit, Dispatch, Fetch}}, Portal.{Portal}}
use Rattle.dsa_book.specs.declared.{answer.DispatchAnswer.TheVariants.{Taken}, note.BatchNote.{BatchNote}}
use Rattle.dsa_book.specs.{Choice.{Choice, nothing, from_queue, choice_of, chosen_cell}, declared.event.Kind.{Kind}}
use Rattle.dsa_book.specs.{Machine.{intake_of, may_choose, reply_of, next}, Submit.{submit, submit_table, after_accept}}
use Rattle.dsa_book.{specs.State.{Intake, Work, State, ticket_of_entry}, proofs.Nexts.{next-is}}
use Rattle.dsa_answers.specs.Choices.{AreAlike}

-- a reply is like itself
alike-self : (a : Reply) → AreAlike a a
alike-self (Submit (Accepted t)) = refl
alike-self (Dispatch (Taken t q)) = λ e. refl
alike-self (Fetch (Fetched t)) = refl
alike-self _ = refl

-- two tables that differ in what comes where no row stands
both : {X : Type 0} (P : X → X → Type 0) (rows : List (Bool × X)) (x y : X) → ((r : X) → P r r) → P x y
    → P (first_row_or rows x) (first_row_or rows y)
both P [] x y self last = last
both P ((true, r) ∷ rows) x y self last = self r
both P ((false, r) ∷ rows) x y self last = both P rows x y self last

submits : (i : Intake) (q : ℕ) (portal : Portal) (kind : Kind) (d : Descriptor) (c e : Cell)
    → AreAlike (Submit (submit i q portal kind d c).0) (Submit (submit i q portal kind d e).0)
submits i q portal kind d c e =
    both (λ (a b : SubmitAnswer × Intake). AreAlike (Submit a.0) (Submit b.0)) (submit_table i q portal kind)
    (after_accept i q kind d c) (after_accept i q kind d e)
    (λ r. alike-self (Submit r.0)) refl

-- ---- dispatch

-- what qualifies has a front
no-front : (w : Work) (e q : ℕ) {X : Type 0} → front_of w q ≡ None → qualifies w e q ≡ true → X
no-front w e q {X} n may =
    let front : passes (may_take w e) (front_of w q) ≡ true = (and_parts _ _ (and_parts _ _ may).1).1 in
    let none : false ≡ true = sym (ap (passes (may_take w e)) n) ∙ front in absurd cc

fronts : (w : Work) (e q p : ℕ) (o o' : Option HeldEntry) → front_of w q ≡ o → front_of w p ≡ o' → qualifies w e q ≡ true
    → qualifies w e p ≡ true
    → AreAlike (Dispatch (dispatch_of w e q o).0) (Dispatch (dispatch_of w e p o').0)
fronts w e q p None o' n m may might = no-front w e q n may
fronts w e q p (Some f) None n m may might = no-front w e p m might
fronts w e q p (Some f) (Some g) n m may might = λ same.
    ap ticket_of_entry (same_Some f g (sym n ∙ ap (front_of w) same ∙ m))

-- where a queue qualifies, nothing may not be chosen
pub not-idle : (w : Work) (e q : ℕ) {X : Type 0} → qualifies w e q ≡ true → may_leave w e nothing ≡ true → X
not-idle w e q may none =
    let below : q < w.setup.caps.queues = ltb-true q w.setup.caps.queues (and_parts _ _ (and_parts _ _ may).0).1 in
    not-both (list_any (qualifies w e) (numbers_below w.setup.caps.queues))
    (numbers_below-hit (qualifies w e) w.setup.caps.queues q below may)
    (not-true _ none)

dispatches : (w : Work) (e : ℕ) (c c' : Choice) → may_leave w e c ≡ true → may_leave w e c' ≡ true
    → AreAlike (Dispatch (dispatch w e c).0) (Dispatch (dispatch w e c').0)
dispatches w e (from_queue q) (from_queue p) may might =
    fronts w e q p (front_of w q) (front_of w p) refl refl may might
dispatches w e nothing nothing may might = refl
dispatches w e (from_queue q) nothing may might = not-idle w e q may might
dispatches w e nothing (from_queue p) may might = not-idle w e p might may
dispatches w e _ _ may might = absurd cc

-- ---- fetch

of-batch : (w : Work) (e : ℕ) (d : Descriptor) (c c' : Cell) (note : BatchNote) (o : Option HeldEntry)
    → AreAlike (Fetch (fetch_of w e d c note o).0) (Fetch (fetch_of w e d c' note o).0)
of-batch w e d c c' note None = refl
of-batch w e d c c' note (Some batch) =
    both (λ (a b : FetchAnswer × Work). AreAlike (Fetch a.0) (Fetch b.0)) ((is_all_fetched note, (AllFetched, w))
    ∷ []) (after_fetch w e d c note batch.1) (after_fetch w e d c' note batch.1)
    (λ r. alike-self (Fetch r.0)) refl

of-note : (w : Work) (e : ℕ) (d : Descriptor) (c c' : Cell) (o : Option BatchNote)
    → AreAlike (Fetch (fetch_for w e d c o).0) (Fetch (fetch_for w e d c' o).0)
of-note w e d c c' None = refl
of-note w e d c c' (Some note) = of-batch w e d c c' note (batch_on w e note)

-- ---- any event

-- the machine's replies for two choices that may be made
choices-alike : (s : State) (event : Event) (c c' : Choice) → may_choose s event c ≡ true → may_choose s event c' ≡ true
    → AreAlike (reply_of s event c).0 (reply_of s event c').0
choices-alike s (Submit client q portal kind d) c c' may might =
    submits (intake_of s) q portal kind d (chosen_cell c) (chosen_cell c')
choices-alike s (Dispatch e) c c' may might = dispatches s.work e c c' may might
choices-alike s (Fetch e d) c c' may might = of-note s.work e d (chosen_cell c) (chosen_cell c') (note_at s.work e)
choices-alike s _ c c' may might = refl

pub replies-alike : (s s' s'' : State) (event : Event) (a b : Reply) → next s event a ≡ Some s'
    → next s event b ≡ Some s'' → AreAlike a b
replies-alike s s' s'' event a b h k =
    let p = next-is s s' event a h in
    let q = next-is s s'' event b k in
    subst (λ (r : Reply × State). AreAlike r.0 b) p.1
    (subst (λ (r : Reply × State). AreAlike (reply_of s event (choice_of a)).0 r.0) q.1
    (choices-alike s event (choice_of a) (choice_of b) p.0 q.0))
