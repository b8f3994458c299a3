-- A history accepts and fetches as many entries as have a fate row or are held.
use Rattle.std.{proofs.Common.{◌≡◌, ◌+◌, cond, List, Some, sym, ap, ◌∙◌, arith}, specs.Prelude.{count_by, is_none}}
use Rattle.dsa_regs.specs.{declared.Caps.{Caps}, Caps.{list_count}}
use Rattle.dsa_store.{specs.Content.{HeldEntry, all_held}, proofs.Sums.{held-counted}}
use Rattle.dsa_book.specs.declared.{answer.Reply.{Reply}, fate.FateRow.{FateRow}, event.{Event.{Event}, Step.{Step}}}
use Rattle.dsa_book.specs.{Totals.{is_accepted, total_accepted, total_fetched}, State.{State, opening}}
use Rattle.dsa_book.{specs.Machine.{next, replay}, proofs.Replay.{replay-adds}}
use Rattle.dsa_laws.proofs.Histories.{well_formed-change, well_formed-opening, replay-well_formed}
use Rattle.dsa_laws.proofs.{Changes.{next-change, next-tells}, Contents.{all_held-empty}}
use Rattle.dsa_laws.specs.WellFormed.{IsWellFormed}
use Rattle.dsa_accounts.proofs.{Totals.{replay-names}, Accounts.{change-entries, parts}}
use Rattle.dsa_accounts.specs.Accounts.{is_submitted_entry, submitted_entries, member_entries}

-- each step adds a submission where it accepts one
next-account : (caps : Caps) (s s' : State) (event : Event) (reply : Reply) → IsWellFormed caps s
    → next s event reply ≡ Some s'
    → submitted_entries s'.work ≡ submitted_entries s.work + cond (is_accepted reply) 1 0
next-account caps s s' event reply w h =
    let told = next-tells s s' event reply h in
    change-entries is_none caps s s' w.shape w.cells told.change ∙ ap (λ n. submitted_entries s.work + n)
    (sym told.accepted)

none-at-first : (caps : Caps) → submitted_entries (opening caps).work ≡ 0
none-at-first caps = let e = ap (λ (xs : List HeldEntry). count_by is_submitted_entry xs)
    (all_held-empty (list_count caps)) in omega (arith, e)

pub replay-accepted : (caps : Caps) (h : List Step) (s : State) → replay caps h ≡ Some s
    → total_accepted h ≡ submitted_entries s.work
replay-accepted caps h s e =
    let all = replay-adds (IsWellFormed caps) (λ t. submitted_entries t.work) (λ reply. cond (is_accepted reply) 1 0)
    (λ s s' x w n. (
      well_formed-change caps s s' w
          (next-change s s' x.event x.reply n),
      next-account caps s s' x.event x.reply w n,
    )) h (opening caps) s
    (well_formed-opening caps) e in
    omega (arith, all, none-at-first caps)

pub replay-fetched : (caps : Caps) (h : List Step) (s : State) → replay caps h ≡ Some s
    → total_fetched h ≡ member_entries s.work
replay-fetched caps h s e = omega (
  arith,
  replay-names caps h s e,
  (replay-well_formed caps h s e).names.counted,
  replay-accepted caps h s e,
  parts (λ (row : FateRow). row.parent) s.work.fates,
  parts (λ (pair : HeldEntry). pair.1.parent) (all_held s.work.content),
  held-counted s.work.content,
)
