use Rattle.dsa_conform.proofs.alike.same_lists.Goals as goal
use Rattle.std.proofs.Common.{◌≡◌, ◌≢◌, ◌<◌, ℕ, Option, Some, None, cond, List, ap, ◌∙◌}
use Rattle.std.proofs.lemmas.Bool.{lt-ltb}
use Rattle.std.specs.Prelude.{nat_lt}
use Rattle.dsa_store.specs.Content.{HeldEntry}
use Rattle.dsa_conform.specs.Ways.{entries_only}

-- what is so of lists that both devices have
of_both : (R : List HeldEntry → List HeldEntry → Type 0) (e n m : ℕ) (xs ys : List HeldEntry)
    (o p : Option (List HeldEntry)) → e < n → e < m
    → o ≡ cond (nat_lt e n) (Some xs) None → p ≡ cond (nat_lt e m) (Some ys) None
    → ((a b : List HeldEntry) → o ≡ Some a → p ≡ Some b → R a b) → R xs ys
of_both R e n m xs ys o p below under first second h =
    h xs ys (first ∙ ap (λ b. cond b (Some xs) None) (lt-ltb e n below))
    (second ∙ ap (λ b. cond b (Some ys) None) (lt-ltb e m under))

abbrev AreSame : List HeldEntry → List HeldEntry → Type 0
AreSame xs ys = entries_only xs ≡ entries_only ys

abbrev AreOther : List HeldEntry → List HeldEntry → Type 0
AreOther xs ys = entries_only xs ≢ entries_only ys

pub returns-then-not-same_entries-clause-other : goal.returns-then-not-same_entries-clause-other
returns-then-not-same_entries-clause-other g c is = λ progress.
    absurd (of_both AreOther c.args.engine _ _ _ _ _ _ c.requires.first c.requires.second c.in_progress.ensures
    c.in_progress-2.ensures (c.same_entries.ensures.other c.if-not-same_entries.true) progress)

pub returns-clause-same : goal.returns-clause-same
returns-clause-same g c h = (
  of_both AreSame c.args.engine _ _ _ _ _ _ c.requires.first c.requires.second c.in_progress.ensures
      c.in_progress-2.ensures (c.same_entries.ensures.same c.if-not-same_entries.false),
  of_both AreSame c.args.engine _ _ _ _ _ _ c.requires.first c.requires.second c.members.ensures c.members-2.ensures
      (c.same_entries-2.ensures.same h),
)

pub returns-clause-other : goal.returns-clause-other
returns-clause-other g c h = λ progress.
    of_both AreOther c.args.engine _ _ _ _ _ _ c.requires.first c.requires.second c.members.ensures c.members-2.ensures
    (c.same_entries-2.ensures.other h)
