-- A table by name keeps to the records, one more at a time.
use Rattle.std.proofs.Common.{◌≡◌, ◌≢◌, ℕ, List, [], ◌∷◌, ◌++◌, Bool, true, false, cond, Option, Some, None, refl, sym}
use Rattle.std.proofs.Common.{ap, ◌∙◌, find, filter_map, nat_eq, length, arith, append-nil, inl, inr}
use Rattle.std.proofs.lemmas.Bool.{eqb-true, eqb-false, false≢true, cases_lt}
use Rattle.std.proofs.lemmas.Option.{slice_get-get_or, slice_get_past}
use Rattle.std.proofs.lemmas.List.{length_push, get_or_push, get_or_append_left}
use Rattle.std.proofs.lemmas.List.{Folds.{find-append}, Elements.{filter_map-append}}
use Rattle.std.specs.{Prelude.{◌==◌, is_some, slice_get}, Option.{option_or}}
use Rattle.dsa_book.specs.declared.answer.Ticket.{Ticket}
use Rattle.dsa_scenario.specs.{declared.run.Record.{Record}, Run.{ticket_given_by, found, IsTable}}
use Rattle.dsa_scenario.proofs.Names.{IsNamed}

-- with nothing in its place, what there is stays
or_none : {A : Type 0} (o : Option A) → o ≡ option_or o None
or_none None = refl
or_none (Some x) = refl

-- where there is nothing, what stands in its place counts
or_new : {A : Type 0} (o p : Option A) → is_some o ≡ false → p ≡ option_or o p
or_new None p h = refl
or_new (Some x) p h = absurd (false≢true (sym h))

-- at each name the table has what it had, and else what the record gives
renewed : (table more : ℕ → Option Ticket) (before : List Record) (r : Record) → IsTable table before
    → ((q : ℕ) → more q ≡ option_or (table q) (found (r ∷ []) q)) → IsTable more (before ++ r ∷ [])
renewed table more before r is each = λ q.
    each q ∙ ap (λ o. option_or o (found (r ∷ []) q)) (is q)
    ∙ sym (ap (find (λ t. t.name == q)) (filter_map-append ticket_given_by before (r ∷ []))
    ∙ find-append (λ t. t.name == q) (filter_map ticket_given_by before) (filter_map ticket_given_by (r ∷ [])))

-- and what it gives is its ticket, at the ticket's name
renewed_by : (table more : ℕ → Option Ticket) (before : List Record) (r : Record) (t : Ticket) → IsTable table before
    → Some t ≡ ticket_given_by r → ((q : ℕ) → more q ≡ option_or (table q) (cond (t.name == q) (Some t) None))
    → IsTable more (before ++ r ∷ [])
renewed_by table more before r t is e each = renewed table more before r is (λ q. each q ∙ (rw (← e) refl))

-- a record without a ticket changes nothing
pub IsTable-nothing : (table : ℕ → Option Ticket) (before : List Record) (r : Record) → IsTable table before
    → None ≡ ticket_given_by r
    → IsTable table (before ++ r ∷ [])
IsTable-nothing table before r is e = renewed table table before r is (λ q. or_none (table q) ∙ (rw (← e) refl))

-- what is inserted at a new name
pub IsTable-new : (table more : ℕ → Option Ticket) (before : List Record) (r : Record) (t : Ticket)
    → IsTable table before
    → Some t ≡ ticket_given_by r → is_some (table t.name) ≡ false → more t.name ≡ Some t
    → ((q : ℕ) → nat_eq t.name q ≡ false → more q ≡ table q) → IsTable more (before ++ r ∷ [])
IsTable-new table more before r t is e absent put others = renewed_by table more before r t is e
    (λ q. at q (t.name == q) refl) where
      at : (q : ℕ) (b : Bool) → (t.name == q) ≡ b → more q ≡ option_or (table q) (cond b (Some t) None)
      at q true same =
          let here = eqb-true t.name q same in
          ap more (sym here) ∙ put ∙ or_new (table q) (Some t) (ap (λ n. is_some (table n)) (sym here) ∙ absent)
      at q false other = others q other ∙ or_none (table q)

-- ---- tickets at the places of their names

-- one ticket more stands at the place behind all others
placed_here : (tickets : List Ticket) (t : Ticket) → t.name ≡ length tickets
    → slice_get (tickets ++ t ∷ []) t.name ≡ Some t
placed_here tickets t named =
    slice_get-get_or (tickets ++ t ∷ []) t.name t (omega (arith, length_push tickets t, named))
    ∙ ap Some (get_or_push tickets t t t.name (sym named))

-- and all others stand as they did
placed_others : (tickets : List Ticket) (t : Ticket) (q : ℕ) → t.name ≡ length tickets → nat_eq t.name q ≡ false
    → slice_get (tickets ++ t ∷ []) q ≡ slice_get tickets q
placed_others tickets t q named other =
    elim (cases_lt q (length tickets)) [
      | inl below ↦
          slice_get-get_or (tickets ++ t ∷ []) q t (omega (arith, length_push tickets t, below))
          ∙ ap Some (get_or_append_left tickets (t ∷ []) t q below) ∙ sym (slice_get-get_or tickets q t below)
      | inr past ↦
          let apart : t.name ≢ q = eqb-false _ _ other in
          slice_get_past (tickets ++ t ∷ []) q (omega (arith, length_push tickets t, named, past, apart))
          ∙ sym (slice_get_past tickets q past)
    ]

-- a ticket of the next name, noted behind all others
pub IsTable-noted : (tickets more : List Ticket) (before : List Record) (r : Record)
    → IsTable (slice_get tickets) before
    → IsNamed (length tickets) (ticket_given_by r) → more ≡ tickets ++ filter_map ticket_given_by (r ∷ [])
    → IsTable (slice_get more) (before ++ r ∷ [])
IsTable-noted tickets more before r is named e = at (ticket_given_by r) refl named e
  where
    at : (o : Option Ticket) → ticket_given_by r ≡ o → IsNamed (length tickets) o
        → more ≡ tickets ++ filter_map (λ (x : Option Ticket). x) (o ∷ []) → IsTable (slice_get more) (before ++ r ∷ [])
    at None gives named e = rw (e, append-nil tickets) (IsTable-nothing (slice_get tickets) before r is (sym gives))
    at (Some t) gives named e =
        rw e (IsTable-new (slice_get tickets) (slice_get (tickets ++ t ∷ [])) before r t is (sym gives)
        (ap is_some (slice_get_past tickets t.name (omega (arith, named)))) (placed_here tickets t named)
        (λ q other. placed_others tickets t q named other))
