-- What the test of a script says of its entries and of its parts.
use Rattle.std.proofs.Common.{◌≡◌, ℕ, zero, suc, ◌+◌, ◌-◌, ◌<◌, ◌≤◌, Bool, true, not, ◌&&◌, List, [], ◌∷◌}
use Rattle.std.proofs.Common.{length, Option, Some, None, refl, sym, ap, ◌∙◌, subst, ⊎_elim, arith, slice_get}
use Rattle.std.specs.{List.{list_all}, Prelude.{option_and_then}, Option.{option_map_or}}
use Rattle.std.proofs.lemmas.{Bool.{and_parts, and_from, cases_lt, cases_order, ltb-true, leb-true}}
use Rattle.std.proofs.lemmas.{Bool.{lt-ltb, le-leb, eqb-true}, List.Folds.{list_all-append}}
use Rattle.std.proofs.lemmas.Option.{slice_get_within, same_Some}
use Rattle.dsa_base.specs.{Rows.{passes}, Numbers.{numbers_below}}
use Rattle.dsa_parties.specs.declared.script.{ScriptEntry.{ScriptEntry}, Submission.{Submission}}
use Rattle.dsa_parties.specs.declared.script.Origin.{Origin, TheVariants.{Submitted, Fetched}}
use Rattle.dsa_parties.specs.Scripts.{origin_submission, submission_at, member_count, member_label, is_member_label}
use Rattle.dsa_parties.specs.Scripts.{is_member_origin, is_fetched_for, is_member_at, is_in_order, are_in_order}
use Rattle.dsa_parties.specs.Scripts.{is_boundary}

-- ---- tests of numbers and of options

pub all-below : (p : ℕ → Bool) (n k : ℕ) → list_all p (numbers_below n) ≡ true → k < n → p k ≡ true
all-below p zero k h l = absurd (omega (arith, l))
all-below p (suc n) k h l =
    let both = and_parts (list_all p (numbers_below n)) (p n && true)
    (sym (list_all-append p (numbers_below n) (n ∷ [])) ∙ h) in
    ⊎_elim (λ below. all-below p n k both.0 below)
    (λ above. let e : k ≡ n = omega (arith, above, l) in ap p e ∙ (and_parts (p n) true both.1).0)
    (cases_lt k n)

pub below-all : (p : ℕ → Bool) (n : ℕ) → ((k : ℕ) → k < n → p k ≡ true) → list_all p (numbers_below n) ≡ true
below-all p zero h = refl
below-all p (suc n) h = list_all-append p (numbers_below n) (n ∷ [])
    ∙ and_from (list_all p (numbers_below n)) (p n && true) (below-all p n (λ k l. h k (omega (arith, l))))
    (and_from (p n) true (h n (omega arith)) refl)

pub passing : {X : Type 0} (p : X → Bool) (o : Option X) → passes p o ≡ true → (x : X) × ((o ≡ Some x) × (p x ≡ true))
passing p None h = absurd cc
passing p (Some x) h = (x, (refl, h))

pub all-at : {X : Type 0} (p : X → Bool) (xs : List X) (k : ℕ) (x : X) → list_all p xs ≡ true → slice_get xs k ≡ Some x
    → p x ≡ true
all-at p [] k x h e = absurd cc
all-at p (y ∷ ys) zero x h e = ap p (sym (same_Some y x e)) ∙ (and_parts (p y) (list_all p ys) h).0
all-at p (y ∷ ys) (suc k) x h e = all-at p ys k x (and_parts (p y) (list_all p ys) h).1 e

-- ---- entries

-- the entry with a submission, and one with a batch
pub record IsSubmitted (entries : List ScriptEntry) (label : ℕ) (s : Submission) : Type 0 where
  pub entry : ScriptEntry
  pub at : slice_get entries label ≡ Some entry
  pub origin : entry.origin ≡ Submitted s

pub is-submitted : (entries : List ScriptEntry) (label : ℕ) (s : Submission) → submission_at entries label ≡ Some s
    → IsSubmitted entries label s
is-submitted entries label s h = go (slice_get entries label) refl h
  where
    by-origin : (o : Origin) → origin_submission o ≡ Some s → o ≡ Submitted s
    by-origin (Submitted t) e = ap (λ z. Submitted z) (same_Some t s e)
    by-origin (Fetched batch) e = absurd cc

    go : (o : Option ScriptEntry) → slice_get entries label ≡ o
        → option_and_then (λ (entry : ScriptEntry). origin_submission entry.origin) o ≡ Some s → IsSubmitted entries label s
    go None e h = absurd cc
    go (Some entry) e h = record { entry = entry; at = e; origin = by-origin entry.origin h }

pub record IsFetchedAt (entries : List ScriptEntry) (batch label : ℕ) : Type 0 where
  pub entry : ScriptEntry
  pub at : slice_get entries label ≡ Some entry
  pub origin : entry.origin ≡ Fetched batch

pub is-fetched : (entries : List ScriptEntry) (batch label : ℕ) → is_member_at entries batch label ≡ true
    → IsFetchedAt entries batch label
is-fetched entries batch label h =
    let p = passing (λ (entry : ScriptEntry). is_fetched_for batch entry.origin) (slice_get entries label) h in
    record { entry = p.0; at = p.1.0; origin = by-origin p.0.origin p.1.1 }
  where
    by-origin : (o : Origin) → is_fetched_for batch o ≡ true → o ≡ Fetched batch
    by-origin (Submitted s) e = absurd cc
    by-origin (Fetched other) e = ap (λ z. Fetched z) (eqb-true other batch e)

-- a batch with members is a submission
pub record HasMembers (entries : List ScriptEntry) (batch : ℕ) : Type 0 where
  pub submission : Submission
  pub at : submission_at entries batch ≡ Some submission
  pub count : member_count entries batch ≡ submission.members

pub has-members : (entries : List ScriptEntry) (batch : ℕ) → 0 < member_count entries batch → HasMembers entries batch
has-members entries batch h = go (submission_at entries batch) refl h
  where
    go : (o : Option Submission) → submission_at entries batch ≡ o
        → 0 < option_map_or (λ (s : Submission). s.members) o 0 → HasMembers entries batch
    go None e h = absurd (omega (arith, h))
    go (Some s) e h = record {
      submission = s;
      at = e;
      count = ap (λ o. option_map_or (λ (s : Submission). s.members) o 0) e;
    }

pub count-of : (entries : List ScriptEntry) (batch : ℕ) (s : Submission) → submission_at entries batch ≡ Some s
    → member_count entries batch ≡ s.members
count-of entries batch s e = ap (λ o. option_map_or (λ (s : Submission). s.members) o 0) e

-- what the numbers of a member's label are
pub record IsInside (entries : List ScriptEntry) (batch label : ℕ) : Type 0 where
  pub above : batch < label
  pub below : label ≤ batch + member_count entries batch

pub inside : (entries : List ScriptEntry) (batch label : ℕ) → is_member_label entries batch label ≡ true
    → IsInside entries batch label
inside entries batch label h =
    let both = and_parts _ _ h in
    record { above = ltb-true _ _ both.0; below = leb-true _ _ both.1 }

pub from-inside : (entries : List ScriptEntry) (batch label : ℕ) → batch < label
    → label ≤ batch + member_count entries batch → is_member_label entries batch label ≡ true
from-inside entries batch label a b = and_from _ _ (lt-ltb batch label a)
    (le-leb label (batch + member_count entries batch) b)

abbrev batch-of : Origin → ℕ
batch-of (Submitted s) = 0
batch-of (Fetched batch) = batch

module _ (entries : List ScriptEntry) (order : are_in_order entries ≡ true) where
  in-order : (label : ℕ) (entry : ScriptEntry) → slice_get entries label ≡ Some entry
      → is_in_order entries label entry.desc entry.origin ≡ true
  in-order label entry e =
      let row = passing _ _ (all-below
      (λ label. passes (λ (e : ScriptEntry). is_in_order entries label e.desc e.origin) (slice_get entries label))
      (length entries) label order (slice_get_within entries label entry e)) in
      subst (λ (z : ScriptEntry). is_in_order entries label z.desc z.origin ≡ true)
      (same_Some row.0 entry (sym row.1.0 ∙ e)) row.1.1

  -- the members of a submission stand behind it
  pub member-at : (label k : ℕ) (s : Submission) → submission_at entries label ≡ Some s → k < s.members
      → IsFetchedAt entries label (member_label label k)
  member-at label k s e l =
      let x = is-submitted entries label s e in
      let row : is_in_order entries label x.entry.desc (Submitted s) ≡ true =
      subst (λ o. is_in_order entries label x.entry.desc o ≡ true) x.origin (in-order label x.entry x.at) in
      is-fetched entries label (member_label label k)
      (all-below (λ k. is_member_at entries label (member_label label k)) s.members k (and_parts _ _ row).1 l)

  -- a label among those of members is of a member
  pub member-label-at : (batch label : ℕ) → is_member_label entries batch label ≡ true
      → IsFetchedAt entries batch label
  member-label-at batch label h =
      let i = inside entries batch label h in
      let m = has-members entries batch (omega (arith, i.above, i.below)) in
      let e : member_label batch (label - batch - 1) ≡ label = omega (arith, i.above) in
      subst (IsFetchedAt entries batch) e
      (member-at batch (label - batch - 1) m.submission m.at (omega (arith, i.above, i.below, m.count)))

  -- and a member stands among those of its batch
  pub placed : (batch label : ℕ) → IsFetchedAt entries batch label → IsInside entries batch label
  placed batch label f = inside entries batch label
      (subst (λ o. is_in_order entries label f.entry.desc o ≡ true) f.origin (in-order label f.entry f.at))

  -- of one batch alone
  pub one-batch : (a b label : ℕ) → IsFetchedAt entries a label → IsFetchedAt entries b label → a ≡ b
  one-batch a b label f g =
      let entry = same_Some f.entry g.entry (sym f.at ∙ g.at) in
      ap batch-of (sym f.origin ∙ ap (λ (e : ScriptEntry). e.origin) entry ∙ g.origin)

  -- which is no submission
  pub not-submitted : (batch label : ℕ) (s : Submission) → IsFetchedAt entries batch label
      → submission_at entries label ≡ Some s → ⊥
  not-submitted batch label s f e =
      let x = is-submitted entries label s e in
      let entry = same_Some f.entry x.entry (sym f.at ∙ x.at) in
      let no : Fetched batch ≡ Submitted s =
      sym f.origin ∙ ap (λ (e : ScriptEntry). e.origin) entry ∙ x.origin in
      absurd cc

  pub not-boundary : (batch label : ℕ) → IsFetchedAt entries batch label → is_boundary entries label ≡ true → ⊥
  not-boundary batch label f h =
      let no : not (is_member_origin (Fetched batch)) ≡ true =
      subst (λ o. not (is_member_origin o) ≡ true) f.origin
      (subst (λ o. not (passes (λ (entry : ScriptEntry). is_member_origin entry.origin) o) ≡ true) f.at h) in
      absurd cc

  -- a boundary that is behind a submission is behind its members
  pub behind-members : (label at : ℕ) (s : Submission) → submission_at entries label ≡ Some s
      → is_boundary entries at ≡ true → label < at → label + s.members < at
  behind-members label at s e h l = ⊎_elim
      (λ below. below)
      (λ above.
      let same : member_label label (at - label - 1) ≡ at = omega (arith, l) in
      absurd (not-boundary label at
      (subst (IsFetchedAt entries label) same (member-at label (at - label - 1) s e (omega (arith, l, above)))) h))
      (cases_lt (label + s.members) at)

  pub submission-boundary : (label : ℕ) (s : Submission) → submission_at entries label ≡ Some s
      → is_boundary entries label ≡ true
  submission-boundary label s e =
      let x = is-submitted entries label s e in
      ap (λ o. not (passes (λ (entry : ScriptEntry). is_member_origin entry.origin) o)) x.at
      ∙ ap (λ o. not (is_member_origin o)) x.origin

  -- behind the members of a submission is a boundary
  pub next-boundary : (label : ℕ) (s : Submission) → submission_at entries label ≡ Some s
      → is_boundary entries (label + 1 + s.members) ≡ true
  next-boundary label s e = go (slice_get entries (label + 1 + s.members)) refl
    where
      no-member : (entry : ScriptEntry) → slice_get entries (label + 1 + s.members) ≡ Some entry → (o : Origin)
          → entry.origin ≡ o → not (is_member_origin o) ≡ true
      no-member entry at (Submitted t) q = refl
      no-member entry at (Fetched batch) q =
          let f : IsFetchedAt entries batch (label + 1 + s.members) = record { entry = entry; at = at; origin = q } in
          let i = placed batch (label + 1 + s.members) f in
          let m = has-members entries batch (omega (arith, i.above, i.below)) in
          absurd (⊎_elim
          (λ same. let count = ap (member_count entries) same in
          omega (arith, same, count, i.below, count-of entries label s e))
          (λ apart. ⊎_elim
          (λ l. omega (
            arith,
            i.below,
            m.count,
            behind-members batch label m.submission m.at
                (submission-boundary label s e) l,
          ))
          (λ l. omega (
            arith,
            i.above,
            behind-members label batch s e
                (submission-boundary batch m.submission m.at) l,
          ))
          apart)
          (cases_order batch label))

      go : (o : Option ScriptEntry) → slice_get entries (label + 1 + s.members) ≡ o
          → not (passes (λ (entry : ScriptEntry). is_member_origin entry.origin) o) ≡ true
      go None at = refl
      go (Some entry) at = no-member entry at entry.origin refl
