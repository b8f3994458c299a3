-- What a step of the device adds to its history, and so to the receipts, and what it answers.
use Rattle.std.proofs.Common.{◌≡◌, ℕ, ◌+◌, ◌≤◌, Bool, true, false, cond, List, [], ◌∷◌, ◌++◌, length, drop, Some}
use Rattle.std.proofs.Common.{refl, sym, ap, ◌∙◌, subst, arith}
use Rattle.std.proofs.lemmas.List.{length_push, drop_at, drop_all, append-nil}
use Rattle.dsa_book.specs.declared.{answer.Reply.{Reply}, event.{Event.{Event}, Step.{Step}}}
use Rattle.dsa_book.specs.Machine.{is_stored, history_after}
use Rattle.dsa_device.{specs.Running.{Running, IsReplay, after_answer}, proofs.Steps.{grows}}
use Rattle.dsa_regs.specs.declared.Caps.{Caps}
use Rattle.dsa_shared.specs.{Seat.{SeatLog, with_step}, Locked.{IsAnsweredFor, IsSeatStep, IsAdminStep}}

grown : (h t : List Step) (x : Step) → t ≡ history_after h x → (length h ≤ length t) × (length t ≤ length h + 1)
grown h t x s = let e = ap (λ (xs : List Step). length xs) s in go (is_stored x.reply) e
  where
    go : (b : Bool) → length t ≡ length (cond b (h ++ x ∷ []) h) → (length h ≤ length t) × (length t ≤ length h + 1)
    go true e = let l = length_push h x in (omega (arith, e, l), omega (arith, e, l))
    go false e = (omega (arith, e), omega (arith, e))

-- the history has grown by a step at most
within : (h : List Step) (d t : Running) (e : Event) (r : Reply) → h ≡ d.history → after_answer d e r ≡ Some t
    → (length h ≤ length t.history) × (length t.history ≤ length h + 1)
within h d t e r same a =
    let P : List Step → Type 0 = λ xs. (length xs ≤ length t.history) × (length t.history ≤ length xs + 1) in
    subst P (sym same) (grown d.history t.history (record { event = e; reply = r }) (grows d t e r a).history)

-- what the history has gained follows on the receipts
gained : (receipts : List Step) (h : List Step) (d t : Running) (e : Event) (r : Reply) → h ≡ d.history
    → after_answer d e r ≡ Some t
    → receipts ++ drop (length h) t.history ≡ with_step receipts e r
gained receipts h d t e r same a =
    (λ i. receipts ++ drop (length (same i)) ((grows d t e r a).history i)) ∙ go (is_stored r)
  where
    go : (b : Bool) → receipts ++ drop (length d.history)
        (cond b (d.history ++ record { event = e; reply = r } ∷ []) d.history)
        ≡ cond b (receipts ++ record { event = e; reply = r } ∷ []) receipts
    go true = ap (λ z. receipts ++ z) (drop_at d.history (record { event = e; reply = r } ∷ []) (length d.history) refl)
    go false = ap (λ z. receipts ++ z) (drop_all (length d.history) d.history (omega arith)) ∙ append-nil receipts

-- what the device under the lock answers, with the receipts and the history that it had before
answered_for : (caps : Caps) (capacity : ℕ) (receipts h : List Step) (d t : Running) (e : Event) (r : Reply)
    → d.anew ≡ false → IsReplay d → d.caps ≡ caps → d.capacity ≡ capacity → h ≡ d.history
    → length receipts ≤ length h → after_answer d e r ≡ Some t → IsAnsweredFor caps capacity receipts e r
answered_for caps capacity receipts h d t e r not_anew replay same_caps same_capacity same seen a =
    let P : List Step → Type 0 = λ xs. length receipts ≤ length xs in (
      d,
      t,
      record { not_anew = not_anew; replay = replay; same_caps = same_caps; same_capacity = same_capacity },
      subst P same seen,
      a,
    )

-- what a step owes the ledger, the lock and the receipts of a seat of this number
pub record Owed (caps : Caps) (capacity : ℕ) (h : List Step) (t : Running) (event_by : ℕ → Event) (number : ℕ)
    (r : Reply) : Type 0 where
  pub same_capacity : t.capacity ≡ capacity
  pub same_caps : t.caps ≡ caps
  pub not_anew : t.anew ≡ false
  pub grown : (length h ≤ length t.history) × (length t.history ≤ length h + 1)
  pub gained : (receipts : List Step) → receipts ++ drop (length h) t.history ≡ with_step receipts (event_by number) r
  pub answered : (receipts : List Step) → length receipts ≤ length h
      → IsAnsweredFor caps capacity receipts (event_by number) r

pub owed : (caps : Caps) (capacity : ℕ) (h : List Step) (d t : Running) (event_by : ℕ → Event) (number : ℕ) (r : Reply)
    → d.anew ≡ false → (d.anew ≡ false → IsReplay d) → d.capacity ≡ capacity → d.caps ≡ caps → h ≡ d.history
    → after_answer d (event_by number) r ≡ Some t → Owed caps capacity h t event_by number r
owed caps capacity h d t event_by number r not_anew replay same_capacity same_caps same a =
    let s = grows d t (event_by number) r a in
    record {
      same_capacity = s.capacity ∙ same_capacity;
      same_caps = s.caps ∙ same_caps;
      not_anew = s.anew ∙ not_anew;
      grown = within h d t (event_by number) r same a;
      gained = λ receipts. gained receipts h d t (event_by number) r same a;
      answered = λ receipts seen. answered_for caps capacity receipts h d t (event_by number) r not_anew
          (replay not_anew) same_caps same_capacity same seen a;
    }

-- a numbered seat after a step, from what it has inside
pub seat_step : (caps : Caps) (capacity : ℕ) (h : List Step) (t : Running) (event_by : ℕ → Event) (number : ℕ)
    (r : Reply) (before after : List Step) (seat : SeatLog) → Owed caps capacity h t event_by number r
    → record { number = number; receipts = before } ≡ seat → length before ≤ length h
    → after ≡ before ++ drop (length h) t.history
    → IsSeatStep caps capacity seat (record { number = number; receipts = after }) (event_by seat.number) r
seat_step caps capacity h t event_by number r before after seat owes same seen noted =
    let log : List Step → SeatLog = λ xs. record { number = number; receipts = xs } in
    subst (λ (s : SeatLog). IsSeatStep caps capacity s (log after) (event_by s.number) r) same (record {
      answered = owes.answered before seen;
      receipts = ap log (noted ∙ owes.gained before);
    })

-- the administrator's seat after a step
pub admin_step : (caps : Caps) (capacity : ℕ) (h : List Step) (t : Running) (event_by : ℕ → Event) (number : ℕ)
    (r : Reply) (before after seat : List Step) → Owed caps capacity h t event_by number r → before ≡ seat
    → length before ≤ length h → after ≡ before ++ drop (length h) t.history
    → IsAdminStep caps capacity seat after (event_by number) r
admin_step caps capacity h t event_by number r before after seat owes same seen noted =
    subst (λ (s : List Step). IsAdminStep caps capacity s after (event_by number) r) same (record {
      answered = owes.answered before seen;
      receipts = noted ∙ owes.gained before;
    })
