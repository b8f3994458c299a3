-- A dispatch, a start and an end leave the set-up as it was.
use Rattle.std.proofs.Common.{◌≡◌, ℕ, [], ◌∷◌, Option, Some, None, refl}
use Rattle.dsa_desc.specs.declared.Outcome.{Outcome}
use Rattle.dsa_base.proofs.Tables.{first_row_or-each}
use Rattle.dsa_store.specs.Content.{HeldEntry}
use Rattle.dsa_book.specs.declared.answer.StartAnswer.{StartAnswer, TheVariants.{Started}}
use Rattle.dsa_book.specs.declared.answer.FinishAnswer.{FinishAnswer, TheVariants.{Done, NotReady}}
use Rattle.dsa_book.specs.{State.{Work, ticket_of_entry}, Choice.{Choice, from_queue}}
use Rattle.dsa_book.specs.Work.{front_of, dispatch, dispatch_of, start_of, start_table, after_start, finish_of}
use Rattle.dsa_book.specs.Work.{must_wait, last_status, after_end}

dispatch_of-setup : (w : Work) (e q : ℕ) (o : Option HeldEntry) → (dispatch_of w e q o).1.setup ≡ w.setup
dispatch_of-setup w e q None = refl
dispatch_of-setup w e q (Some front) = refl

pub dispatch-setup : (w : Work) (e : ℕ) (choice : Choice) → (dispatch w e choice).1.setup ≡ w.setup
dispatch-setup w e (from_queue q) = dispatch_of-setup w e q (front_of w q)
dispatch-setup w e _ = refl

pub start_of-setup : (w : Work) (e : ℕ) (o : Option HeldEntry) → (start_of w e o).1.setup ≡ w.setup
start_of-setup w e None = refl
start_of-setup w e (Some pair) =
    let P : StartAnswer × Work → Type 0 = λ r. r.1.setup ≡ w.setup in
    first_row_or-each P (start_table w e pair) (Started (ticket_of_entry pair), after_start w e)
    (refl, (refl, (refl, tt))) refl

pub finish_of-setup : (w : Work) (e : ℕ) (outcome : Outcome) (o : Option HeldEntry)
    → (finish_of w e outcome o).1.setup ≡ w.setup
finish_of-setup w e outcome None = refl
finish_of-setup w e outcome (Some pair) =
    let P : FinishAnswer × Work → Type 0 = λ r. r.1.setup ≡ w.setup in
    first_row_or-each P ((must_wait w e pair.1, (NotReady, w)) ∷ [])
    (Done (last_status w e pair outcome), after_end w e pair outcome) (refl, tt) refl
