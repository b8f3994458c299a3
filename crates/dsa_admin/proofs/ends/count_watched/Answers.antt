use Rattle.dsa_admin.proofs.ends.count_watched.Goals as goal
use Rattle.std.proofs.Common.{◌∙◌, ◌&&◌, Bool, ap, sym}
use Rattle.dsa_store.specs.{declared.entry.Entry.{Entry}, Content.{all_held, count_where}}
use Rattle.dsa_admin.{specs.Admin.{is_counting, is_waited_for}, proofs.Counting.{never-counts}}

pub returns-then-is_counting : goal.returns-then-is_counting
returns-then-is_counting g c =
    c.count_waited.ensures
    ∙ sym (ap (λ (b : Bool). count_where (λ (e : Entry). b && is_waited_for c.args.active.now e)
    (g.S.EntryStore.content c.args.store.now))
    (ap is_counting (sym c.deed.ensures) ∙ sym c.is_counting.ensures ∙ c.if-is_counting.true))

pub returns-else-is_counting : goal.returns-else-is_counting
returns-else-is_counting g c =
    sym (ap (λ (b : Bool). count_where (λ (e : Entry). b && is_waited_for c.args.active.now e)
    (g.S.EntryStore.content c.args.store.now))
    (ap is_counting (sym c.deed.ensures) ∙ sym c.is_counting.ensures ∙ c.if-is_counting.false)
    ∙ never-counts (all_held (g.S.EntryStore.content c.args.store.now)))
