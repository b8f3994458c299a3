-- The number of entries that a command waits for, as a test submits entries.
use Rattle.std.proofs.Common.{◌≡◌, ℕ, ◌+◌, ◌<◌, ◌≤◌, ◌&&◌, Bool, true, false, not, nat_lt, cond}
use Rattle.std.proofs.Common.{length, refl, ap, arith}
use Rattle.dsa_regs.specs.declared.{Scope.{Scope}, Deed.{Deed, TheVariants.{Enable, Disable, Drain, Abort, Reset}}}
use Rattle.dsa_regs.specs.Command.{deed_of, scope_of}
use Rattle.dsa_store.specs.declared.entry.{Cell.{Cell}, Entry.{Entry}}
use Rattle.dsa_store.{specs.Content.{Content, count_where, after_push}, proofs.Sums.{sum-pushed}}
use Rattle.dsa_book.specs.{State.{is_member}, Commands.{is_awaited, is_in_scope}}
use Rattle.dsa_admin.specs.Admin.{Watch, IsAwaiting, is_watched, is_counting}

-- a command does not count what has its mark as a name, or a later one
later : (deed : Deed) (scope : Scope) (mark : ℕ) (entry : Entry) → mark ≤ entry.name
    → (is_counting deed && is_awaited deed scope mark entry) ≡ false
later deed scope mark entry h = of deed
  where
    not-before : nat_lt entry.name mark ≡ false
    not-before = grind (arith, h)

    never : (b : Bool) → (b && nat_lt entry.name mark) ≡ false
    never true = not-before
    never false = refl

    of : (deed : Deed) → (is_counting deed && is_awaited deed scope mark entry) ≡ false
    of Disable = refl
    of Enable = never (is_in_scope scope entry && not (is_member entry))
    of Drain = never (is_in_scope scope entry && not (is_member entry))
    of Abort = never (is_in_scope scope entry && not (is_member entry))
    of Reset = never (is_in_scope scope entry && not (is_member entry))

pub awaiting-pushed : (watch : Watch) (name : ℕ) (content now : Content) (list : ℕ) (cell : Cell) (entry : Entry)
    → now ≡ after_push content list cell entry → list < length content → entry.name ≡ name
    → IsAwaiting watch name content → IsAwaiting watch (name + 1) now
awaiting-pushed watch name content now list cell entry is h at a = record {
  counts = λ active on.
      let no : is_watched active entry ≡ false =
      later (deed_of active.command) (scope_of active.command) active.mark entry
      (omega (arith, a.mark active on, at)) in
      omega (
        arith,
        a.counts active on,
        ap (count_where (is_watched active)) is,
        sum-pushed (λ pair. cond (is_watched active pair.1) 1 0) content list cell entry h,
        ap (λ b. cond {A = ℕ} b 1 0) no,
      );
  mark = λ active on. omega (arith, a.mark active on);
}
