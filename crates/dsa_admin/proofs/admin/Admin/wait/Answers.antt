use Rattle.dsa_admin.proofs.admin.Admin.wait.Goals as goal
use Rattle.std.proofs.{Common.{◌≡◌, Option, Some, arith, ap, sym, ◌∙◌}, lemmas.Bool.{not-true}}
use Rattle.dsa_regs.specs.declared.Phase.TheVariants.{Off, Stopping}
use Rattle.dsa_regs.specs.Command.{deed_of, scope_of}
use Rattle.dsa_store.specs.Content.{count_where}
use Rattle.dsa_book.specs.declared.note.ActiveCommand.{ActiveCommand}
use Rattle.dsa_queues.specs.Queues.{Kept}
use Rattle.dsa_admin.{specs.Admin.{is_watched}, proofs.{Commands.{in_step-stopped}, Counting.{stop-name}}}

pub returns-then-is_at_end-clause-in_step : goal.returns-then-is_at_end-clause-in_step
returns-then-is_at_end-clause-in_step g c =
    λ engines_state come s. rw c.stop.ensures (in_step-stopped _ _ c.next_name.result Off c.args.queues.now.setup engines_state
    (g.S.EntryStore.content c.args.store.now) (λ x. come)
    (λ off. not-true _ (sym (c.is_at_end.ensures
    (g.S.EntryStore.content c.args.store.now) c.requires.counted c.count_watched-awaited.ensures)
    ∙ c.if-is_at_end.true)) s)

pub returns-clause-in_step : goal.returns-clause-in_step
returns-clause-in_step g c = λ engines_state come s.
    rw c.stop-2.ensures (in_step-stopped _ _ 0 Stopping c.args.queues.now.setup engines_state
    (g.S.EntryStore.content c.args.store.now) (λ x. come) (λ off. absurd cc) s)

pub returns-clause-awaiting : goal.returns-clause-awaiting
returns-clause-awaiting g c =
    let one : ActiveCommand = record { command = c.args.command; mark = c.next_name.result } in
    record {
      counts = λ active is.
          let same : one ≡ active = let told : ◌≡◌ {A = Option ActiveCommand} (Some one) (Some active) = is in cc in
          c.count_watched-awaited.ensures
          ∙ ap (λ (a : ActiveCommand). count_where (is_watched a) (g.S.EntryStore.content c.args.store.now)) same;
      mark = λ active is.
          let same : one ≡ active = let told : ◌≡◌ {A = Option ActiveCommand} (Some one) (Some active) = is in cc in
          omega (
            arith,
            ap (λ (a : ActiveCommand). a.mark) same,
            ap (λ (k : Kept). k.setup.next_name) c.stop-2.ensures,
            stop-name (deed_of c.args.command) (scope_of c.args.command) Stopping c.args.queues.now.setup,
            c.next_name.ensures,
          );
    }
