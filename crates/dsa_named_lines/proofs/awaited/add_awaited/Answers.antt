use Rattle.dsa_named_lines.proofs.awaited.add_awaited.Goals as goal
use Rattle.std.proofs.Common.{◌∙◌, ◌++◌, [], ◌∷◌, ap, cond, sym, append_assoc, append-nil}
use Rattle.dsa_store.specs.Content.{HeldEntry}
use Rattle.dsa_admin.specs.Admin.{is_waited_for}
use Rattle.dsa_explain.specs.Held.{names_where}
use Rattle.dsa_named_lines.proofs.Told.{names-one}

pub loop-cell-preserved : goal.loop-cell-preserved
loop-cell-preserved g c =
    let pair : HeldEntry = (c.in-Some._cell, c.in-Some.entry) in
    let waits = is_waited_for c.args.noted.now in
    let here = cond (waits pair.1) (pair.1.name ∷ []) [] in
    record {
      parts = rw (c.loop-cell.invariant.parts, c.in-Some.ensures.steps)
          (sym (append_assoc c.loop-cell.yielded (pair ∷ []) c.next.new.self));
      names = c.in_ok-add_name.ensures
          ∙ ap (λ l. l ++ here) c.loop-cell.invariant.names
          ∙ append_assoc c.args.names.now.items (names_where waits c.loop-cell.yielded) here
          ∙ ap (λ l. c.args.names.now.items ++ l) (sym (names-one waits c.loop-cell.yielded pair));
    }

pub returns : goal.returns
returns g c =
    let all = c.loop-cell.invariant.parts ∙ ap (λ l. c.loop-cell.yielded ++ l) c.in-None.ensures.steps.0
    ∙ append-nil c.loop-cell.yielded in
    c.loop-cell.invariant.names
    ∙ ap (λ l. c.args.names.now.items ++ names_where (is_waited_for c.args.noted.now) l) (sym all)
