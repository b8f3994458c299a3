use Rattle.dsa_admin.proofs.admin.Admin.why_poll.Goals as goal
use Rattle.std.proofs.Common.{refl, sym, ap, ◌∙◌, option_map}
use Rattle.dsa_store.specs.Content.{count_where}
use Rattle.dsa_book.specs.declared.note.ActiveCommand.{ActiveCommand}
use Rattle.dsa_admin.{specs.Admin.{is_waited_for}, proofs.Refusing.{poll_told, waits}}

pub returns-in-Some-eq0 : goal.returns-in-Some-eq0
returns-in-Some-eq0 c = λ s active counted awaiting.
    let told = poll_told s s.active c.in-Some-eq0.field-0
    (ap (option_map (λ (a : ActiveCommand). count_where (is_waited_for a) s.work.content)) active
    ∙ sym (c.awaited.ensures s.work.content counted awaiting) ∙ c.in-Some-eq0.is) in
    sym (told ∙ rw c.in-Some-eq0.field-0-test refl)

pub returns-in-Some : goal.returns-in-Some
returns-in-Some c = λ s active counted awaiting.
    let told = poll_told s s.active c.in-Some.awaited
    (ap (option_map (λ (a : ActiveCommand). count_where (is_waited_for a) s.work.content)) active
    ∙ sym (c.awaited.ensures s.work.content counted awaiting) ∙ c.in-Some.is) in
    sym (told ∙ waits c.in-Some.awaited c.in-Some.awaited-test.1)
