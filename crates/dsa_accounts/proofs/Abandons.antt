-- Only members are abandoned.
use Rattle.std.proofs.Common.{◌≡◌, ◌||◌, not, true, List, [], ◌∷◌, ◌++◌, map, Some, refl, ap, ◌∙◌, inl}
use Rattle.std.proofs.{lemmas.{List.Folds.{list_all-append}, Bool.{and_from, or_left, or_right}}, Common.{inr, arith}}
use Rattle.std.specs.Prelude.{filter, is_some}
use Rattle.dsa_regs.specs.declared.{Caps.{Caps}}
use Rattle.dsa_store.specs.Content.{HeldEntry, all_held}
use Rattle.dsa_book.specs.declared.fate.{Fate.{Fate, TheVariants.{Completed, Aborted, Abandoned}}, FateRow.{FateRow}}
use Rattle.dsa_book.specs.{State.{State, opening}, declared.event.Step.{Step}, Machine.{replay}}
use Rattle.dsa_book.specs.{Work.{fate_row, member_list, members, last_status}, Commands.{is_in_scope}}
use Rattle.dsa_laws.proofs.Shapes.{queues-same, engines-same, In-cond}
use Rattle.dsa_laws.proofs.{Histories.{well_formed-change, well_formed-opening, replay_keeps}, Effects.{by_effect}}
use Rattle.dsa_laws.specs.{Change.{Change}, WellFormed.{IsWellFormed}}
use Rattle.dsa_accounts.specs.Accounts.{was_abandoned, only_members_abandoned}
use Rattle.dsa_base.specs.Lists.{In}

abbrev Lawful : State → Type 0
Lawful s = only_members_abandoned s.work.fates ≡ true

-- rows of members, or of another end, that follow
more-rows : (fates : List FateRow) (fate : Fate) (xs : List HeldEntry) → only_members_abandoned fates ≡ true
    → ((x : HeldEntry) → In x xs → (is_some x.1.parent || not (was_abandoned fate)) ≡ true)
    → only_members_abandoned (fates ++ map (fate_row fate) xs) ≡ true
more-rows fates fate xs old each =
    list_all-append _ fates (map (fate_row fate) xs) ∙ and_from _ _ old (new xs each)
  where
    new : (ys : List HeldEntry) → ((x : HeldEntry) → In x ys → (is_some x.1.parent || not (was_abandoned fate)) ≡ true)
        → only_members_abandoned (map (fate_row fate) ys) ≡ true
    new [] each = refl
    new (y ∷ ys) each = and_from _ _ (each y (inl refl)) (new ys (λ x i. each x (inr i)))

lawful-change : (caps : Caps) (s s' : State) → IsWellFormed caps s → Lawful s → Change s s' → Lawful s'
lawful-change caps s s' w h c = by_effect (λ w. only_members_abandoned w.fates ≡ true) s s' c
    (λ e. ap only_members_abandoned e.fates ∙ h)
    (λ c. h)
    (λ c. h)
    (λ c. h)
    (λ c. h)
    (λ c. more-rows s.work.fates Abandoned (members s.work c.engine) h (λ x i. or_left _ _
    ((w.entries.placed (member_list s.work.setup c.engine) x (In-cond _ x _ i).1).member
    (omega (arith, queues-same w.shape, engines-same w.shape)))))
    (λ c. more-rows s.work.fates (Completed (last_status s.work c.engine c.pair c.outcome)) (c.pair ∷ []) h
    (λ x i. or_right _ _ refl))
    (λ c. more-rows s.work.fates (Aborted c.number) (filter (λ pair. is_in_scope c.scope pair.1)
    (all_held s.work.content)) h (λ x i. or_right _ _ refl))

pub replay-lawful : (caps : Caps) (h : List Step) (s : State) → replay caps h ≡ Some s
    → only_members_abandoned s.work.fates ≡ true
replay-lawful caps h s e =
    (replay_keeps (λ t. IsWellFormed caps t × Lawful t)
    (λ t t' p c. (well_formed-change caps t t' p.0 c, lawful-change caps t t' p.0 p.1 c)) h (opening caps) s
    (well_formed-opening caps, refl) e).1
