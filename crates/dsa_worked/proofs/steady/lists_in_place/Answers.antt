use Rattle.dsa_worked.proofs.steady.lists_in_place.Goals as goal
use Rattle.std.proofs.Common.{◌≡◌, ◌<◌, ℕ, zero, suc, arith, inl, lit≤, refl, true}
use Rattle.dsa_base.specs.Lists.{In}
use Rattle.dsa_store.specs.Content.{HeldEntry, chain}
use Rattle.dsa_book.specs.{State.{is_member, opening_setup}, Work.{member_list}}
use Rattle.dsa_worked.specs.{Lawful.{unlike, that_waits, a_member_of_three}, Steady.{in_places}}
use Rattle.dsa_worked.specs.Values.{of_cell}
use Rattle.dsa_worked.proofs.Bounded.{in_one}

queued : (q : ℕ) (pair : HeldEntry) → q < 1 → In pair (chain in_places q) → pair.1.queue ≡ q
queued zero pair low inside = in_one (λ (held : HeldEntry). held.1.queue ≡ 0) that_waits refl pair inside
queued (suc q) pair low inside = absurd (omega (arith, low))

members : (e : ℕ) (pair : HeldEntry) → e < 2 → In pair (chain in_places (member_list (opening_setup unlike) e))
    → is_member pair.1 ≡ true
members zero pair low inside =
    in_one (λ (held : HeldEntry). is_member held.1 ≡ true) a_member_of_three refl pair inside
members (suc zero) pair low inside =
    in_one (λ (held : HeldEntry). is_member held.1 ≡ true) a_member_of_three refl pair inside
members (suc (suc e)) pair low inside = absurd (omega (arith, low))

pub returns-clause-placed : goal.returns-clause-placed
returns-clause-placed c = record { queued = queued; members = members }

pub returns-clause-queued : goal.returns-clause-queued
returns-clause-queued c is = omega (arith, is.queued 0 _ (lit≤ tt) (inl refl))

pub returns-clause-no_member : goal.returns-clause-no_member
returns-clause-no_member c is = grind (arith, is.members 1 _ (lit≤ tt) (inl refl))

pub returns-clause-no_name_twice : goal.returns-clause-no_name_twice
returns-clause-no_name_twice c is = omega (arith, is 0 (lit≤ tt) 0 1 (of_cell 1) (lit≤ tt) (lit≤ tt))
