use Rattle.dsa_explain.proofs.held.aborted_in.Goals as goal
use Rattle.std.proofs.Common.{◌≡◌, ◌∙◌, ◌++◌, filter, length, true, sym, ap, arith}
use Rattle.std.proofs.lemmas.List.{append-nil}
use Rattle.dsa_regs.specs.Command.{scope_of}
use Rattle.dsa_store.specs.{declared.entry.Entry.{Entry}, Content.{HeldEntry}}
use Rattle.dsa_book.specs.Commands.{is_in_scope}
use Rattle.dsa_explain.proofs.Holding.{filter-hit, filter-count}
use Rattle.std.proofs.lemmas.Grind.{common_steps}

pub returns-then-left-eq0-clause-found : goal.returns-then-left-eq0-clause-found
returns-then-left-eq0-clause-found g c =
    let meant : is_in_scope (scope_of c.args.command.now) c.in-Some.entry ≡ true = rw (← c.scope-scope.ensures)
    (sym c.if-is_in_scope.ensures) in
    let index : c.args.index
    ≡ length (filter (λ (pair : HeldEntry). is_in_scope (scope_of c.args.command.now) pair.1) c.loop-cell.yielded) =
    omega (arith, c.loop-cell.invariant.count, c.if-left-eq0.true) in
    rw (c.loop-cell.invariant.parts, c.in-Some.ensures.steps, index)
    (filter-hit (λ (e : Entry). is_in_scope (scope_of c.args.command.now) e) c.args.list c.loop-cell.yielded _
    (c.in-Some.cell, c.in-Some.entry) meant)

pub returns-clause-left : goal.returns-clause-left
returns-clause-left g c =
    let all = c.loop-cell.invariant.parts ∙ ap (λ l. c.loop-cell.yielded ++ l) c.in-None.ensures.steps.0
    ∙ append-nil c.loop-cell.yielded in
    rw (all, filter-count (λ (e : Entry). is_in_scope (scope_of c.args.command.now) e)) c.loop-cell.invariant.count

pub loop-cell-preserved-then-is_in_scope : goal.loop-cell-preserved-then-is_in_scope
loop-cell-preserved-then-is_in_scope = grind (arith, common_steps)

pub loop-cell-preserved : goal.loop-cell-preserved
loop-cell-preserved = grind (arith, common_steps)
