-- The batch of a note: it is in progress on one engine, and its members are held there.
use Rattle.std.proofs.Common.{length, filter, Option, None, refl, sym, ap, ◌∙◌, subst, arith, ⊎_elim, eq-eqb, eqb-true}
use Rattle.std.proofs.Common.{◌≡◌, ℕ, zero, suc, ◌+◌, ◌-◌, ◌<◌, ◌≤◌, ◌&&◌, ◌==◌, Bool, true, false, cond, [], ◌∷◌, Some}
use Rattle.std.proofs.lemmas.Bool.{cases_eq, cases_lt, and_from, false_from_ne_true, Decides.{nat_tests}}
use Rattle.std.proofs.{lemmas.Option.{same_Some, none-some}, Math.ListN.{get_or-eq_default}}
use Rattle.std.specs.{Prelude.{nat_lt}, List.{list_any}}
use Rattle.dsa_base.proofs.{Lists.{In-append, In-filter, In-any}, Counts.{In-counted, counted-In}, Tables.{not-both}}
use Rattle.dsa_base.specs.Lists.{In}
use Rattle.dsa_regs.specs.{declared.{Caps.{Caps}, Scope.{Scope}}, Caps.{first_members}}
use Rattle.dsa_store.specs.Content.{HeldEntry, Content, chain, all_held}
use Rattle.dsa_book.specs.{Commands.{is_in_scope, takes_batch}, State.{Work, State, is_batch_of}}
use Rattle.dsa_book.specs.{Work.{in_progress, members, note_at, progress_list}, declared.note.BatchNote.{BatchNote}}
use Rattle.dsa_laws.proofs.Contents.{In-chain}
use Rattle.dsa_laws.proofs.{Batches.{sum-two, scope-alike}, Shapes.{In-cond, members-at}, Flows.{names-counted}}
use Rattle.dsa_laws.specs.{Engines.{holds_batch, IsLawfulEngine}, WellFormed.{IsWellFormed, held_named, fates_named}}
use Rattle.dsa_accounts.specs.BatchCounts.{is_of_batch}

-- ---- lists

-- what is held stands in one of the lists
held-In : (x : HeldEntry) (c : Content) → In x (all_held c) → (k : ℕ) × In x (chain c k)
held-In x [] i = absurd i
held-In x (l ∷ ls) i = ⊎_elim (λ a. (zero, a)) (λ b. let r = held-In x ls b in
    (suc r.0, r.1)) (In-append x l (all_held ls) i)

-- ---- names of parents

-- what is of the batch names it
pub is_of-parent : (batch : ℕ) (o : Option ℕ) → is_of_batch batch o ≡ true → o ≡ Some batch
is_of-parent batch None h = absurd cc
is_of-parent batch (Some n) h = ap (λ m. Some m) (eqb-true n batch h)

pub parent-is_of : (batch : ℕ) (o : Option ℕ) → o ≡ Some batch → is_of_batch batch o ≡ true
parent-is_of batch o e = ap (is_of_batch batch) e ∙ eq-eqb batch batch refl

-- ---- the batch of a note

-- the batch that the note of an engine is of is in progress there
pub record HasBatch (w : Work) (e : ℕ) (n : BatchNote) : Type 0 where
  pub batch : HeldEntry
  pub running : In batch (in_progress w e)
  pub place : In batch (chain w.content (progress_list w.setup e))
  pub named : batch.1.name ≡ n.batch
  pub lawful : holds_batch w.setup batch ≡ true

-- no engine works on a batch of this name
abbrev pub IsUnnoted : Work → ℕ → Type 0
IsUnnoted w name = (e : ℕ) (n : BatchNote) → note_at w e ≡ Some n → n.batch ≡ name → ⊥

module _ {caps : Caps} {s : State} (w : IsWellFormed caps s) where
  -- a name is one entry's, or one row's
  pub named-once : (name : ℕ) → held_named s.work name + fates_named s.work name ≤ 1
  named-once name =
      let most : cond (nat_lt name s.work.setup.next_name) 1 0 ≤ 1 = grind (arith, nat_tests) in
      omega (arith, names-counted s.work w.names name, most)

  -- entries of one name stand in one list
  one-list : (x y : HeldEntry) (i j : ℕ) → In x (chain s.work.content i) → In y (chain s.work.content j)
      → x.1.name ≡ y.1.name → i ≡ j
  one-list x y i j a b same = ⊎_elim
      (λ e. e)
      (λ n.
      let named : HeldEntry → Bool = λ pair. pair.1.name == y.1.name in
      absurd (omega (
        arith,
        sum-two (λ pair. cond (named pair) 1 0) s.work.content i j n,
        In-counted named x (chain s.work.content i) a (eq-eqb x.1.name y.1.name same),
        In-counted named y (chain s.work.content j) b (eq-eqb y.1.name y.1.name refl),
        named-once y.1.name,
      )))
      (cases_eq i j)

  -- an engine works on a batch where it has a note, and else on none
  pub noted : (e : ℕ) (o : Option BatchNote) → note_at s.work e ≡ o
      → IsLawfulEngine s.work.setup (in_progress s.work e) (members s.work e) o
  noted e o is = subst (IsLawfulEngine s.work.setup (in_progress s.work e) (members s.work e)) is (w.engines e)

  noted-batch : (e : ℕ) (n : BatchNote) → note_at s.work e ≡ Some n → HasBatch s.work e n
  noted-batch e n is =
      let law = noted e (Some n) is in
      let one = law.one_batch in
      let x = counted-In (holds_batch s.work.setup) (in_progress s.work e) (omega (arith, one)) in
      record {
        batch = x.0;
        running = x.1.0;
        place = (In-cond _ x.0 _ x.1.0).1;
        named = sym (law.noted x.0 x.1.0 x.1.1).name;
        lawful = x.1.1;
      }

  -- what nothing held has for its name is no such batch's
  pub unnoted : (name : ℕ) → held_named s.work name ≡ 0 → IsUnnoted s.work name
  unnoted name none e n is named =
      let x = noted-batch e n is in
      let some = In-counted (λ (pair : HeldEntry). pair.1.name == name) x.batch (all_held s.work.content)
      (In-chain x.batch s.work.content (progress_list s.work.setup e) x.place)
      (eq-eqb x.batch.1.name name (x.named ∙ named)) in
      omega (arith, some, none)

  -- an entry that has the name of a noted batch stands in progress on that engine
  pub noted-place : (e : ℕ) (n : BatchNote) (y : HeldEntry) (k : ℕ) → note_at s.work e ≡ Some n
      → In y (chain s.work.content k) → y.1.name ≡ n.batch → k ≡ progress_list s.work.setup e
  noted-place e n y k is i named = let x = noted-batch e n is in
      one-list y x.batch k (progress_list s.work.setup e) i x.place (named ∙ sym x.named)

  -- so no two engines have a note of one batch
  pub noted-once : (e k : ℕ) (n m : BatchNote) → note_at s.work e ≡ Some n → note_at s.work k ≡ Some m
      → n.batch ≡ m.batch → e ≡ k
  noted-once e k n m is also same =
      let x = noted-batch e n is in
      omega (arith, noted-place k m x.batch (progress_list s.work.setup e) also x.place (x.named ∙ same))

  -- a member of a noted batch is held on that engine
  pub member-engine : (j e : ℕ) (n : BatchNote) (y : HeldEntry) → note_at s.work e ≡ Some n → In y (members s.work j)
      → y.1.parent ≡ Some n.batch → j ≡ e
  member-engine j e n y is i parent = go (note_at s.work j) refl
    where
      go : (o : Option BatchNote) → note_at s.work j ≡ o → j ≡ e
      go None q = absurd (subst (In y) (noted j None q).no_members i)
      go (Some m) q = noted-once j e m n q is
          (same_Some m.batch n.batch (sym ((noted j (Some m) q).parents y i) ∙ parent))

  pub noted-member : (e : ℕ) (n : BatchNote) (y : HeldEntry) → note_at s.work e ≡ Some n
      → In y (all_held s.work.content) → y.1.parent ≡ Some n.batch → In y (members s.work e)
  noted-member e n y is held parent = ⊎_elim
      (λ (below : k < first_members caps).
      absurd (none-some n.batch (sym ((w.entries.placed k y at.1).submitted below) ∙ parent)))
      (λ (past : first_members caps ≤ k). ⊎_elim
      (λ (inside : k < length s.work.content).
      let j = k - first_members caps in
      let there : caps.queues + caps.engines + j ≡ k = omega (arith, past) in
      let lists = w.shape.lists in
      let home = subst (In y) (sym (members-at w.shape j (omega (arith, there, inside, lists))))
      (subst (λ m. In y (chain s.work.content m)) (sym there) at.1) in
      subst (λ k. In y (members s.work k)) (member-engine j e n y is home parent) home)
      (λ out. absurd (subst (In y) (get_or-eq_default s.work.content [] out) at.1))
      (cases_lt k (length s.work.content)))
      (cases_lt k (first_members caps))
    where
      at : (k : ℕ) × In y (chain s.work.content k)
      at = held-In y s.work.content held

      k : ℕ
      k = at.0

  -- where a scope leaves the batch, it takes none of its members
  pub noted-left : (e : ℕ) (n : BatchNote) (scope : Scope) (y : HeldEntry) → note_at s.work e ≡ Some n
      → takes_batch s.work.setup scope (chain s.work.content (progress_list s.work.setup e)) ≡ false
      → In y (filter (λ pair. is_in_scope scope pair.1) (all_held s.work.content))
      → is_of_batch n.batch y.1.parent ≡ false
  noted-left e n scope y is left i = false_from_ne_true (is_of_batch n.batch y.1.parent) (λ t.
      let gone = In-filter (λ pair. is_in_scope scope pair.1) y (all_held s.work.content) i in
      let home = noted-member e n y is gone.0 (is_of-parent n.batch y.1.parent t) in
      let x = noted-batch e n is in
      let like = (noted e (Some n) is).alike y x.batch home x.running x.lawful in
      let both = and_from _ _ x.lawful (sym (scope-alike scope y x.batch like) ∙ gone.1) in
      let test : HeldEntry → Bool = λ pair. is_batch_of s.work.setup pair.1 && is_in_scope scope pair.1 in
      let progress = chain s.work.content (progress_list s.work.setup e) in
      not-both (list_any test progress) (In-any test x.batch progress x.place both) left)
