-- Histories: one that grows by a step at its end, and what its steps add together.
use Rattle.std.proofs.Common.{◌≡◌, List, [], ◌∷◌, ◌++◌, Option, Some, None, option_and_then, refl, ℕ, ◌+◌, sum_by, sym}
use Rattle.std.proofs.{Common.{ap, ◌∙◌, arith, add-zero}, lemmas.List.Sums.{sum_by-cons}}
use Rattle.dsa_regs.specs.declared.Caps.{Caps}
use Rattle.dsa_book.specs.State.{State, opening}
use Rattle.dsa_book.specs.{declared.{event.Step.{Step}, answer.Reply.{Reply}}, Machine.{next, replay_from, replay}}

-- nothing follows a step that may not come
pub replay_none : (h : List Step) (s : State) → replay_from None h ≡ Some s → ⊥
replay_none [] s e = cc
replay_none (x ∷ h) s e = cc

-- what each step adds, a history adds together, while P holds
pub replay-adds : (P : State → Type 0) (measure : State → ℕ) (gain : Reply → ℕ)
    → ((s s' : State) (x : Step) → P s → next s x.event x.reply ≡ Some s'
    → P s' × (measure s' ≡ measure s + gain x.reply))
    → (h : List Step) (s s' : State) → P s → replay_from (Some s) h ≡ Some s'
    → measure s' ≡ measure s + sum_by (λ step. gain step.reply) h
replay-adds P measure gain each [] s s' p e = let same : s ≡ s' = cc in
    sym (ap measure same) ∙ sym (add-zero (measure s))
replay-adds P measure gain each (x ∷ h) s s' p e =
    go (λ t q r. replay-adds P measure gain each h t s' q r) (next s x.event x.reply) refl e
  where
    go : ((t : State) → P t → replay_from (Some t) h ≡ Some s'
        → measure s' ≡ measure t + sum_by (λ step. gain step.reply) h)
        → (o : Option State) → next s x.event x.reply ≡ o → replay_from o h ≡ Some s'
        → measure s' ≡ measure s + sum_by (λ step. gain step.reply) (x ∷ h)
    go further None n e = absurd (replay_none h s' e)
    go further (Some t) n e =
        let first = each s t x p n in
        omega (arith, first.1, further t first.0 e, sum_by-cons)

-- steps that follow others go on from where those lead
pub replay_from-append : (xs ys : List Step) (o : Option State)
    → replay_from o (xs ++ ys) ≡ replay_from (replay_from o xs) ys
replay_from-append [] ys o = refl
replay_from-append (x ∷ xs) [] None = refl
replay_from-append (x ∷ xs) (y ∷ ys) None = refl
replay_from-append (x ∷ xs) ys (Some s) = replay_from-append xs ys (next s x.event x.reply)

-- and so does one step
pub replay-snoc : (caps : Caps) (xs : List Step) (y : Step)
    → replay caps (xs ++ y ∷ []) ≡ option_and_then (λ s. next s y.event y.reply) (replay caps xs)
replay-snoc caps xs y = replay_from-append xs (y ∷ []) (Some (opening caps)) ∙ one (replay caps xs)
  where
    one : (o : Option State) → replay_from o (y ∷ []) ≡ option_and_then (λ s. next s y.event y.reply) o
    one None = refl
    one (Some s) = refl
