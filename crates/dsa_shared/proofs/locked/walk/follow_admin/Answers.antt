use Rattle.dsa_shared.proofs.locked.walk.follow_admin.Goals as goal
use Rattle.std.proofs.Common.{◌≡◌, ℕ, ◌+◌, List, [], ◌∷◌, ◌++◌, Bool, true, false, Some, take, sym, ap, ◌∙◌}
use Rattle.std.specs.{Prelude.{slice_get}, Bool.{OnTrue}}
use Rattle.dsa_book.specs.declared.event.{Step.{Step}, Actor.TheVariants.{Admin}}
use Rattle.dsa_book.specs.Totals.{steps_of_actor, actor_of, same_actor}
use Rattle.dsa_shared.proofs.Agrees.{other_step, next_receipt}

moves_on : (b : Bool) (r : List Step) (x : Step) (m n : ℕ) → same_actor (actor_of x.event) Admin ≡ true
    → OnTrue b ((slice_get r m ≡ Some x) × (n ≡ m + 1))
    → OnTrue b ((h : List Step) → take m r ≡ steps_of_actor h Admin
    → take n r ≡ steps_of_actor (h ++ x ∷ []) Admin)
moves_on true r x m n own moved =
    λ h so_far. ap (λ k. take k r) moved.1 ∙ next_receipt r h Admin m x own moved.0 so_far
moves_on false r x m n own moved = tt

pub returns-then-not-is_admin : goal.returns-then-not-is_admin
returns-then-not-is_admin c h so_far =
    so_far ∙ sym (other_step h Admin _ (ap (λ a. same_actor a Admin) (sym c.requires)
    ∙ sym c.is_admin.ensures ∙ c.if-not-is_admin.true))

pub returns : goal.returns
returns c =
    moves_on _ _ _ _ _ (ap (λ a. same_actor a Admin) (sym c.requires) ∙ sym c.is_admin.ensures
    ∙ c.if-not-is_admin.false) c.step_on.ensures
