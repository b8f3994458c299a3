-- A queue is searched no further than the first entry after which none is waited for.
use Rattle.std.proofs.Common.{◌≡◌, ℕ, ◌<◌, Bool, true, false, not, ◌&&◌, find, get_or, refl, sym, ap, ◌∙◌}
use Rattle.std.proofs.Common.{arith, inl, inr, subst, None, List, [], ◌∷◌}
use Rattle.std.proofs.lemmas.Bool.{cases_Bool, not-true, not-false, leb-true, le-leb, ltb-false, le-ltb}
use Rattle.std.specs.{Prelude.{is_some, nat_le, nat_lt}, List.{take_while}}
use Rattle.dsa_regs.specs.declared.{Caps.{Caps}, Deed.{Deed, TheVariants.{Disable}}}
use Rattle.dsa_regs.specs.declared.layout.ListUse.{ListUse, TheVariants.{Queue, Progress, Members}}
use Rattle.dsa_regs.specs.declared.Scope.{Scope, TheVariants.{Device, Pasid}}
use Rattle.dsa_regs.specs.{Caps.{HasList, list_number}, Command.{deed_of, scope_of}}
use Rattle.dsa_store.specs.{declared.entry.Entry.{Entry}, Content.{HeldEntry, chain}}
use Rattle.dsa_book.specs.declared.note.ActiveCommand.{ActiveCommand}
use Rattle.dsa_book.specs.{State.{State, is_member}, Commands.{is_awaited, is_in_scope}}
use Rattle.dsa_admin.specs.Admin.{is_awaited_by, is_counting, is_waited_for, names_queues}
use Rattle.dsa_laws.{specs.WellFormed.{IsWellFormed}, proofs.Awaits.{In-at}}
use Rattle.dsa_engines.proofs.Waiting.{find-within}
use Rattle.dsa_explain.specs.{declared.held.ListedEntry.{ListedEntry}, Wait.{is_late}}

-- without a command none is waited for
pub none-awaited : (hs : List ListedEntry)
    → find (λ (h : ListedEntry). is_awaited_by None h.entry) hs ≡ None
none-awaited [] = refl
none-awaited (h ∷ hs) = none-awaited hs

-- a scope of queues has all entries of a queue or none
same-scope : (scope : Scope) (x y : Entry) → names_queues scope ≡ true → x.queue ≡ y.queue
    → is_in_scope scope x ≡ is_in_scope scope y
same-scope Device x y named same = refl
same-scope (Pasid pasid) x y named same = absurd cc
same-scope scope x y named same = ap (λ q. is_in_scope scope (record x { queue = q })) same

-- where a submitted entry of it is not waited for, no later one is
later-bits : (meant member other before after : Bool) → member ≡ false → (before ≡ false → after ≡ false)
    → (meant && not member && before) ≡ false → (meant && not other && after) ≡ false
later-bits false member other before after submitted later h = refl
later-bits true true other before after submitted later h = absurd cc
later-bits true false other true after submitted later h = absurd cc
later-bits true false true false after submitted later h = refl
later-bits true false false false after submitted later h = later refl

later-of-scope : (deed : Deed) (scope : Scope) (mark : ℕ) (x y : Entry)
    → is_in_scope scope x ≡ is_in_scope scope y → x.parent ≡ None → x.name < y.name
    → is_awaited deed scope mark x ≡ false → is_awaited deed scope mark y ≡ false
later-of-scope Disable scope mark x y same submitted older h = sym same ∙ h
later-of-scope _ scope mark x y same submitted older h =
    later-bits (is_in_scope scope y) (is_member x) (is_member y) (nat_lt x.name mark) (nat_lt y.name mark)
    (ap is_some submitted)
    (λ off. le-ltb y.name mark (omega (arith, older, ltb-false x.name mark off)))
    (subst (λ (meant : Bool). (meant && not (is_member x) && nat_lt x.name mark) ≡ false) same h)

-- nor is one past the mark of a drain
last-bit : (meant member before : Bool) → before ≡ false → (meant && not member && before) ≡ false
last-bit false member before h = refl
last-bit true true before h = refl
last-bit true false before h = h

past-mark : (deed : Deed) (scope : Scope) (mark : ℕ) (y : Entry)
    → (is_counting deed && nat_le mark y.name) ≡ true → is_awaited deed scope mark y ≡ false
past-mark Disable scope mark y h = absurd cc
past-mark _ scope mark y h = last-bit (is_in_scope scope y) (is_member y) (nat_lt y.name mark)
    (le-ltb y.name mark (leb-true mark y.name h))

-- a name past one that is past the mark is past it, too
past-later : (b : Bool) (mark x y : ℕ) → x < y → (b && nat_le mark x) ≡ true → (b && nat_le mark y) ≡ true
past-later false mark x y older h = absurd cc
past-later true mark x y older h = le-leb mark y (omega (arith, older, leb-true mark x h))

module _ (noted : ActiveCommand) (q : ℕ) (x : Entry) (h : is_late noted (Queue q) x ≡ true) where
  late : is_waited_for noted x ≡ false
  late = elim (cases_Bool (names_queues (scope_of noted.command))) [
    | inl named ↦ not-true (is_waited_for noted x) (rw named at h)
    | inr pasid ↦
        past-mark (deed_of noted.command) (scope_of noted.command) noted.mark x (rw pasid at h)
  ]

  late-after : (y : Entry) → x.queue ≡ y.queue → x.parent ≡ None → x.name < y.name
      → is_waited_for noted y ≡ false
  late-after y same submitted older = elim (cases_Bool (names_queues (scope_of noted.command))) [
    | inl named ↦
        later-of-scope (deed_of noted.command) (scope_of noted.command) noted.mark x y
        (same-scope (scope_of noted.command) x y named same) submitted older late
    | inr pasid ↦
        past-mark (deed_of noted.command) (scope_of noted.command) noted.mark y
        (past-later (is_counting (deed_of noted.command)) noted.mark x.name y.name older (rw pasid at h))
  ]

module _ {caps : Caps} {s : State} (w : IsWellFormed caps s) (noted : ActiveCommand) where
  abbrev waited : HeldEntry → Bool
  waited pair = is_waited_for noted pair.1

  whole : (l : List HeldEntry) → find waited (take_while (λ (pair : HeldEntry). true) l) ≡ find waited l
  whole l = find-within waited (λ pair. true) l (λ x off. absurd cc) (λ i j d a b off. absurd cc)

  -- of each list the first that is waited for is found before that
  pub found-within : (list : ListUse) → HasList caps list
      → find (λ (pair : HeldEntry). is_waited_for noted pair.1)
      (take_while (λ pair. not (is_late noted list pair.1))
      (chain s.work.content (list_number caps list)))
      ≡ find (λ (pair : HeldEntry). is_waited_for noted pair.1)
      (chain s.work.content (list_number caps list))
  found-within (Queue q) has =
      let l = chain s.work.content q in
      find-within waited (λ pair. not (is_late noted (Queue q) pair.1)) l
      (λ x off. late noted q x.1 (not-false _ off)) (λ i j d a b off.
      let first = w.entries.placed q (get_or l i d) (In-at l i d (omega (arith, a, b))) in
      let after = w.entries.placed q (get_or l j d) (In-at l j d b) in
      late-after noted q (get_or l i d).1 (not-false _ off) (get_or l j d).1
      (first.queue has ∙ sym (after.queue has)) (first.submitted (omega (arith, has)))
      (w.rising q has i j d a b))
  found-within (Progress e) has = whole (chain s.work.content (list_number caps (Progress e)))
  found-within (Members e) has = whole (chain s.work.content (list_number caps (Members e)))
