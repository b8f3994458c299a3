-- Entries in order, and behind them a submission with its members.
use Rattle.std.proofs.Common.{◌≡◌, ◌∙◌, ◌<◌, ◌≤◌, ◌+◌, ◌-◌, ℕ, zero, suc, Bool, true, not, List, [], ◌∷◌, ◌++◌, length}
use Rattle.std.proofs.Common.{slice_get}
use Rattle.std.proofs.Common.{Some, refl, ap, subst, ◌⊎◌, inl, inr, ⊎_elim, arith, length-append}
use Rattle.std.specs.{List.{list_all}, Prelude.{option_and_then}, Option.{option_map_or}}
use Rattle.std.proofs.lemmas.{Bool.{and_parts, and_from, cases_lt, eqb-true}, Option.{slice_get_within, slice_get_past}}
use Rattle.dsa_base.specs.{Rows.{passes}}
use Rattle.dsa_desc.specs.declared.Descriptor.{Descriptor}
use Rattle.dsa_parties.specs.declared.script.{ScriptEntry.{ScriptEntry}, Submission.{Submission}}
use Rattle.dsa_parties.specs.declared.script.Origin.{Origin, TheVariants.{Submitted, Fetched}}
use Rattle.dsa_parties.specs.Scripts.{origin_submission, member_count, member_label, is_member_label}
use Rattle.dsa_parties.specs.Scripts.{is_member_origin, is_fetched_for, is_member_at, counts_members, is_in_order}
use Rattle.dsa_parties.specs.Scripts.{are_in_order, is_boundary}
use Rattle.dsa_parties.proofs.Fits.{all-below, below-all, passing, inside, from-inside, count-of}

-- ---- lists

get-append : {X : Type 0} (xs ys : List X) (i : ℕ) → i < length xs → slice_get (xs ++ ys) i ≡ slice_get xs i
get-append [] ys i l = absurd (omega (arith, l))
get-append (x ∷ xs) ys zero l = refl
get-append (x ∷ xs) ys (suc i) l = get-append xs ys i (omega (arith, l))

get-behind : {X : Type 0} (xs ys : List X) (i j : ℕ) → j ≡ length xs + i → slice_get (xs ++ ys) j ≡ slice_get ys i
get-behind [] ys i j e = let same : j ≡ i = omega (arith, e) in ap (λ k. slice_get ys k) same
get-behind (x ∷ xs) ys i zero e = absurd (omega (arith, e))
get-behind (x ∷ xs) ys i (suc j) e = get-behind xs ys i j (omega (arith, e))

passes-kept : {X : Type 0} (q : X → Bool) (xs ys : List X) (i : ℕ) → passes q (slice_get xs i) ≡ true
    → passes q (slice_get (xs ++ ys) i) ≡ true
passes-kept q xs ys i h =
    let p = passing q (slice_get xs i) h in
    ap (passes q) (get-append xs ys i (slice_get_within xs i p.0 p.1.0)) ∙ h

passes-all : {X : Type 0} (q : X → Bool) (xs : List X) (i : ℕ) → list_all q xs ≡ true → i < length xs
    → passes q (slice_get xs i) ≡ true
passes-all q [] i h l = absurd (omega (arith, l))
passes-all q (x ∷ xs) zero h l = (and_parts (q x) (list_all q xs) h).0
passes-all q (x ∷ xs) (suc i) h l = passes-all q xs i (and_parts (q x) (list_all q xs) h).1 (omega (arith, l))

-- ---- entries that others follow

abbrev pub stands : List ScriptEntry → ℕ → Bool
stands es label = passes (λ (e : ScriptEntry). is_in_order es label e.desc e.origin) (slice_get es label)

member-kept : (es more : List ScriptEntry) (batch label : ℕ) → is_member_at es batch label ≡ true
    → is_member_at (es ++ more) batch label ≡ true
member-kept es more batch label h =
    passes-kept (λ (e : ScriptEntry). is_fetched_for batch e.origin) es more label h

count-kept : (es more : List ScriptEntry) (batch : ℕ) → batch < length es
    → member_count (es ++ more) batch ≡ member_count es batch
count-kept es more batch l = ap
    (λ o. option_map_or (λ (s : Submission). s.members)
    (option_and_then (λ (e : ScriptEntry). origin_submission e.origin) o) 0)
    (get-append es more batch l)

order-kept : (es more : List ScriptEntry) (label : ℕ) (desc : Descriptor) (o : Origin) → label < length es
    → is_in_order es label desc o ≡ true → is_in_order (es ++ more) label desc o ≡ true
order-kept es more label desc (Submitted s) l h =
    let both = and_parts _ _ h in
    and_from _ _ both.0
    (below-all (λ k. is_member_at (es ++ more) label (member_label label k)) s.members
    (λ k below. member-kept es more label (member_label label k)
    (all-below (λ k. is_member_at es label (member_label label k)) s.members k both.1 below)))
order-kept es more label desc (Fetched batch) l h =
    let i = inside es batch label h in
    from-inside (es ++ more) batch label i.above (rw (count-kept es more batch (omega (arith, i.above, l))) i.below)

stands-kept : (es more : List ScriptEntry) (label : ℕ) → label < length es → stands es label ≡ true
    → stands (es ++ more) label ≡ true
stands-kept es more label l h =
    let p = passing (λ (e : ScriptEntry). is_in_order es label e.desc e.origin) (slice_get es label) h in
    ap (passes (λ (e : ScriptEntry). is_in_order (es ++ more) label e.desc e.origin))
    (get-append es more label l ∙ p.1.0)
    ∙ order-kept es more label p.0.desc p.0.origin l p.1.1

-- ---- a submission with its members

pub record Block (es : List ScriptEntry) (entry : ScriptEntry) (ms : List ScriptEntry) (s : Submission) : Type 0 where
  pub origin : entry.origin ≡ Submitted s
  pub counts : counts_members entry.desc s.members ≡ true
  pub count : length ms ≡ s.members
  pub each : list_all (λ (m : ScriptEntry). is_fetched_for (length es) m.origin) ms ≡ true

module _ (es : List ScriptEntry) (entry : ScriptEntry) (ms : List ScriptEntry) (s : Submission)
    (block : Block es entry ms s) where
  abbrev whole : List ScriptEntry
  whole = es ++ entry ∷ ms

  entry-at : slice_get whole (length es) ≡ Some entry
  entry-at = get-behind es (entry ∷ ms) 0 (length es) (omega arith)

  members-at : (k : ℕ) → k < s.members → is_member_at whole (length es) (member_label (length es) k) ≡ true
  members-at k l =
      ap (passes (λ (e : ScriptEntry). is_fetched_for (length es) e.origin))
      (get-behind es (entry ∷ ms) (suc k) (member_label (length es) k) (omega arith))
      ∙ passes-all (λ (e : ScriptEntry). is_fetched_for (length es) e.origin) ms k block.each
      (omega (arith, l, block.count))

  counted : member_count whole (length es) ≡ s.members
  counted = count-of whole (length es) s
      (ap (option_and_then (λ (e : ScriptEntry). origin_submission e.origin)) entry-at
      ∙ ap origin_submission block.origin)

  first-stands : stands whole (length es) ≡ true
  first-stands =
      ap (passes (λ (e : ScriptEntry). is_in_order whole (length es) e.desc e.origin)) entry-at
      ∙ ap (λ o. is_in_order whole (length es) entry.desc o) block.origin
      ∙ and_from _ _ block.counts
      (below-all (λ k. is_member_at whole (length es) (member_label (length es) k)) s.members members-at)

  fetched-order : (label : ℕ) (desc : Descriptor) (o : Origin) → is_fetched_for (length es) o ≡ true
      → is_member_label whole (length es) label ≡ true → is_in_order whole label desc o ≡ true
  fetched-order label desc (Submitted t) e h = absurd cc
  fetched-order label desc (Fetched batch) e h =
      ap (λ b. is_member_label whole b label) (eqb-true batch (length es) e) ∙ h

  others-stand : (k : ℕ) → k < length ms → stands whole (length es + 1 + k) ≡ true
  others-stand k l =
      let q = λ (e : ScriptEntry). is_fetched_for (length es) e.origin in
      let m = passing q (slice_get ms k) (passes-all q ms k block.each l) in
      let label = length es + 1 + k in
      ap (passes (λ (e : ScriptEntry). is_in_order whole label e.desc e.origin))
      (get-behind es (entry ∷ ms) (suc k) label (omega arith) ∙ m.1.0)
      ∙ fetched-order label m.0.desc m.0.origin m.1.1
      (from-inside whole (length es) label (omega arith) (omega (arith, l, block.count, counted)))

  each-stands : (label : ℕ) → length es ≤ label → label < length es + 1 + length ms → stands whole label ≡ true
  each-stands label above below = ⊎_elim
      (λ same. subst (λ n. stands whole n ≡ true) same first-stands)
      (λ other. let e : length es + 1 + (label - length es - 1) ≡ label = omega (arith, above, other) in
      subst (λ n. stands whole n ≡ true) e (others-stand (label - length es - 1) (omega (arith, above, below, other))))
      (one-of (cases_lt (length es) label))
    where
      one-of : (length es < label) ⊎ (label ≤ length es) → (length es ≡ label) ⊎ (length es < label)
      one-of (inl l) = inr l
      one-of (inr l) = inl (omega (arith, l, above))

  pub block-order : are_in_order es ≡ true → are_in_order whole ≡ true
  block-order order = below-all (stands whole) (length whole) (λ label l. ⊎_elim
      (λ below. stands-kept es (entry ∷ ms) label below (all-below (stands es) (length es) label order below))
      (λ above. each-stands label above (omega (arith, l, length-append es (entry ∷ ms))))
      (cases_lt label (length es)))

  pub block-ends : (end : ℕ) → end ≤ length es → is_boundary es end ≡ true → is_boundary whole end ≡ true
  block-ends end l h = ⊎_elim
      (λ below. ap (λ o. not (passes (λ (e : ScriptEntry). is_member_origin e.origin) o))
      (get-append es (entry ∷ ms) end below) ∙ h)
      (λ above. let same : length es ≡ end = omega (arith, above, l) in
      subst (λ n. is_boundary whole n ≡ true) same
      (ap (λ o. not (passes (λ (e : ScriptEntry). is_member_origin e.origin) o)) entry-at
      ∙ ap (λ o. not (is_member_origin o)) block.origin))
      (cases_lt end (length es))

-- nothing stands behind the last entry
pub last-boundary : (es : List ScriptEntry) → is_boundary es (length es) ≡ true
last-boundary es = ap (λ o. not (passes (λ (e : ScriptEntry). is_member_origin e.origin) o))
    (slice_get_past es (length es) (omega arith))
