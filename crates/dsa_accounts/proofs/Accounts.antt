-- Each accepted and each fetched entry has a fate row or is held, and only members are abandoned.
use Rattle.std.proofs.Common.{◌≡◌, ℕ, ◌+◌, ◌<◌, Bool, cond, List, [], ◌∷◌, length, Option, Some, None, refl, ap, ◌∙◌}
use Rattle.std.proofs.{lemmas.List.Sums.{sum_by-cons, count_by-le-length}, Common.{arith}}
use Rattle.std.specs.Prelude.{sum_by, count_by, is_some, is_none}
use Rattle.dsa_regs.specs.declared.Caps.{Caps}
use Rattle.dsa_store.{specs.Content.{HeldEntry, Content, all_held, after_push}, proofs.Sums.{sum-pushed}}
use Rattle.dsa_book.specs.{Machine.{with_intake, intake_of}, declared.fate.FateRow.{FateRow}, Submit.{after_accept}}
use Rattle.dsa_book.specs.{Work.{member_list, after_fetch}, State.{Work, State}}
use Rattle.dsa_laws.proofs.{Shapes.{on-queue, noted-engine, queue_list-in}, Flows.{flow-change, rows-counted, IsFlow}}
use Rattle.dsa_laws.{specs.{Change.{Change}, WellFormed.{HasShape, CellsOnce}}, proofs.Effects.{by_count, came}}

-- ---- words

-- how many entries have a fate row or are held, among those whose parent passes
abbrev pub entries_with : (Option ℕ → Bool) → Work → ℕ
entries_with p w = count_by (λ row. p row.parent) w.fates + count_by (λ pair. p pair.1.parent) (all_held w.content)

abbrev weight : (Option ℕ → Bool) → HeldEntry → ℕ
weight p pair = cond (p pair.1.parent) 1 0

-- what is gone is counted by its row, and what moved or began to run as before
account-flow : (p : Option ℕ → Bool) (caps : Caps) (w w' : Work) (flow : IsFlow caps w w')
    → entries_with p w' ≡ entries_with p w + count_by (λ pair. p pair.1.parent) flow.came
account-flow p caps w w' flow =
    let sums = flow.sums (weight p) (λ pair. refl) in
    let test : FateRow → Bool = λ row. p row.parent in
    let rows = ap (λ (rows : List FateRow). count_by test rows) flow.fates
    ∙ rows-counted test w.fates flow.fate flow.gone in
    omega (arith, sums, rows)

-- what comes is counted where its parent passes
entered : (p : Option ℕ → Bool) (w w' : Work) (k : ℕ) (x : HeldEntry) → k < length w.content
    → w'.content ≡ after_push w.content k x.0 x.1 → w'.fates ≡ w.fates
    → entries_with p w' ≡ entries_with p w + count_by p (x.1.parent ∷ [])
entered p w w' k x inside content fates = omega (
  arith,
  sum-pushed (weight p) w.content k x.0 x.1 inside,
  ap (λ (c : Content). sum_by (weight p) (all_held c)) content,
  ap (λ (rows : List FateRow). count_by (λ row. p row.parent) rows) fates,
  sum_by-cons,
)

-- those with a parent and those without are all
pub parts : {X : Type 0} (parent : X → Option ℕ) (xs : List X)
    → count_by (λ x. is_none (parent x)) xs + count_by (λ x. is_some (parent x)) xs ≡ length xs
parts parent [] = refl
parts {X} parent (x ∷ xs) = omega (arith, sum_by-cons, either (parent x), parts parent xs)
  where
    either : (o : Option ℕ) → cond (is_none o) 1 0 + cond (is_some o) 1 0 ≡ 1
    either None = refl
    either (Some n) = refl

-- ---- any change

-- what comes in is counted by its parent
pub change-entries : (p : Option ℕ → Bool) (caps : Caps) (s s' : State) → HasShape caps s.work → CellsOnce caps s.work
    → (c : Change s s') → entries_with p s'.work ≡ entries_with p s.work + count_by p (came c)
change-entries p caps s s' h once c =
    by_count (λ xs n w. Kept w → entries_with p w ≡ entries_with p s.work + count_by p xs) s s' c
    (λ e same. same e.names)
    (λ c same.
    let after = (with_intake s (after_accept (intake_of s) c.queue c.kind c.desc c.cell).1).work in
    entered p s.work after c.queue _ (queue_list-in h c.queue
    (on-queue h c.queue c.on)) refl refl)
    (λ c same. same refl)
    (λ c same.
    let inside = (noted-engine h c.engine c.note c.is_note).members_inside in
    entered p s.work (after_fetch s.work c.engine c.desc c.cell c.note c.batch.1).1
    (member_list s.work.setup c.engine) _ inside refl refl)
    (λ c same. same refl)
    (λ c same. same refl)
    (λ c same. same refl)
    (λ c same. same c.names)
    kept
  where
    -- without a new name nothing comes in
    Kept : Work → Type 0
    Kept = λ w. w.setup.next_name ≡ s.work.setup.next_name → entries_with p w ≡ entries_with p s.work + 0

    kept : Kept s'.work
    kept names =
        let flow = flow-change caps s s' h once c in
        omega (
          arith,
          account-flow p caps s.work s'.work flow,
          count_by-le-length (λ (pair : HeldEntry). p pair.1.parent) flow.came,
          flow.next,
          names,
        )
