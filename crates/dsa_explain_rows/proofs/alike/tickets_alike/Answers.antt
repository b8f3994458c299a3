use Rattle.dsa_explain_rows.proofs.alike.tickets_alike.Goals as goal
use Rattle.std.proofs.Common.{◌≡◌, ◌<◌, List, [], ◌∷◌, ap, arith, inl, inr, lit≤, refl, subst, sym}
use Rattle.std.specs.Prelude.{find, false, None, Some, ◌==◌}
use Rattle.dsa_base.specs.Lists.{In}
use Rattle.dsa_store.specs.Content.{HeldEntry, all_held}
use Rattle.dsa_book.specs.{declared.answer.Ticket.{Ticket}, State.{ticket_of_entry}}
use Rattle.dsa_worked.specs.Setup.{held_entry, no_op, ticket}
use Rattle.dsa_worked.proofs.Bounded.{in_one}
use Rattle.dsa_explain_rows.specs.Alike.{one_in}

pub returns-clause-there : goal.returns-clause-there
returns-clause-there c pair (inl is) same = sym (ap (λ held. held.0) is)
returns-clause-there c pair (inr none) same = absurd none

pub returns-clause-not_held : goal.returns-clause-not_held
returns-clause-not_held c pair (inl is) same = absurd (omega (arith, ap (λ held. held.1.name) is, same))
returns-clause-not_held c pair (inr none) same = absurd none

pub returns-clause-other_cell : goal.returns-clause-other_cell
returns-clause-other_cell c there = omega (arith, ap (λ cell. cell.0) (there _ (inl refl) refl))

pub returns-clause-ends : goal.returns-clause-ends
returns-clause-ends c = (
  refl,
  refl,
  refl,
  λ pair inside same. first pair inside,
  λ pair inside same. second pair inside,
)
  where
    first : (pair : HeldEntry) → In pair (all_held (one_in 2 9)) → pair.0 ≡ (ticket 2 9).cell
    first pair (inl is) = sym (ap (λ held. held.0) is)
    first pair (inr none) = absurd none

    second : (pair : HeldEntry) → In pair (all_held (one_in 3 9)) → pair.0 ≡ (ticket 3 9).cell
    second pair (inl is) = sym (ap (λ held. held.0) is)
    second pair (inr none) = absurd none

pub returns-clause-first_cell : goal.returns-clause-first_cell
returns-clause-first_cell c asks = omega (arith, ap (λ cell. cell.0) (asks.3 _ (inl refl) refl))

pub returns-clause-second_cell : goal.returns-clause-second_cell
returns-clause-second_cell c asks = omega (arith, ap (λ cell. cell.0) (asks.4 _ (inl refl) refl))

-- the tickets of the row
abbrev two : List Ticket
two = ticket 4 0 ∷ ticket 2 9 ∷ []

-- what these tickets have for the only entry that is held
found : (tickets : List Ticket) (held : HeldEntry)
    → find (λ (t : Ticket). t.name == held.1.name) tickets ≡ Some (ticket_of_entry held)
    → (pair : HeldEntry) → In pair (held ∷ [])
    → find (λ (t : Ticket). t.name == pair.1.name) tickets ≡ Some (ticket_of_entry pair)
found tickets = in_one (λ held. find (λ (t : Ticket). t.name == held.1.name) tickets ≡ Some (ticket_of_entry held))

-- each of two tickets has a name that was given
below : (a b : Ticket) → a.name < 10 → b.name < 10 → (t : Ticket) → In t (a ∷ b ∷ []) → t.name < 10
below a b first second t (inl is) = subst (λ (it : Ticket). it.name < 10) is first
below a b first second t (inr (inl is)) = subst (λ (it : Ticket). it.name < 10) is second
below a b first second t (inr (inr none)) = absurd none

pub returns-clause-given : goal.returns-clause-given
returns-clause-given c = record {
  found = found two (held_entry 2 9 None no_op 0 false) refl;
  below = below (ticket 4 0) (ticket 2 9) (lit≤ tt) (lit≤ tt);
}

abbrev later : List Ticket
later = ticket 6 9 ∷ ticket 2 8 ∷ []

pub returns-clause-given_a_later_name : goal.returns-clause-given_a_later_name
returns-clause-given_a_later_name c = record {
  found = found later (held_entry 2 8 None no_op 0 false) refl;
  below = below (ticket 6 9) (ticket 2 8) (lit≤ tt) (lit≤ tt);
}

pub returns-clause-not_given : goal.returns-clause-not_given
returns-clause-not_given c given = grind (arith, given.found _ (inl refl))

pub returns-clause-in_another_cell : goal.returns-clause-in_another_cell
returns-clause-in_another_cell c given = grind (arith, given.found _ (inl refl))

pub returns-clause-too_late : goal.returns-clause-too_late
returns-clause-too_late c given = omega (arith, given.below _ (inl refl))
