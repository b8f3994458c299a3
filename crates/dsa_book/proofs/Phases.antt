-- Phases of queues, as the set-up has them after some were set.
use Rattle.std.proofs.Common.{◌≡◌, ℕ, ◌<◌, ◌≤◌, Bool, true, false, cond, refl, sym, subst, ◌⊎◌, inl, inr, arith, ⊎_elim}
use Rattle.std.{proofs.lemmas.Bool.{cases_Bool, ltb-true, ltb-false}, specs.Prelude.{nat_lt}}
use Rattle.dsa_regs.specs.declared.Phase.{Phase, TheVariants.{Off, On, Stopping}}
use Rattle.dsa_base.proofs.NumberLists.{get_or-each, get_or-past}
use Rattle.dsa_book.specs.{State.{Setup, is_on, is_off, phase_at}, Commands.{with_phases}}

-- what is On is not Off
pub on-not_off : (p : Phase) → is_on p ≡ true → is_off p ≡ false
on-not_off On h = refl
on-not_off Off h = absurd cc
on-not_off Stopping h = absurd cc

-- a queue's phase where some are set: as set, or Off where the device has no such queue
pub phase-set : (test : ℕ → Bool) (p : Phase) (setup : Setup) (q : ℕ) →
    ((q < setup.caps.queues) × (phase_at (with_phases test p setup) q ≡ cond (test q) p (phase_at setup q)))
    ⊎ (phase_at (with_phases test p setup) q ≡ Off)
phase-set test p setup q = ⊎_elim
    (λ t. let i = ltb-true q setup.caps.queues t in
    inl (i, get_or-each (λ k. cond (test k) p (phase_at setup k)) setup.caps.queues q Off i))
    (λ f. inr (get_or-past (λ k. cond (test k) p (phase_at setup k)) setup.caps.queues q Off
    (leb_of q setup.caps.queues f)))
    (cases_Bool (nat_lt q setup.caps.queues))
  where
    leb_of : (a b : ℕ) → nat_lt a b ≡ false → b ≤ a
    leb_of a b h = let e = ltb-false a b h in omega (arith, e)

-- a fact of the new phase, from both cases
pub by_phase : (P : Phase → Type 0) (test : ℕ → Bool) (p : Phase) (setup : Setup) (q : ℕ) → (test q ≡ true → P p)
    → (test q ≡ false → P (phase_at setup q)) → P Off → P (phase_at (with_phases test p setup) q)
by_phase P test p setup q a b c = ⊎_elim
    (λ h. subst P (sym h.1) (tested (test q) refl))
    (λ h. subst P (sym h) c)
    (phase-set test p setup q)
  where
    tested : (t : Bool) → test q ≡ t → P (cond t p (phase_at setup q))
    tested true e = a e
    tested false e = b e
