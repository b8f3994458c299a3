use Rattle.dsa_explain_lines.proofs.removals.add_names.Goals as goal
use Rattle.std.proofs.Common.{◌≡◌, ◌∙◌, true, [], ◌∷◌, sym, append_assoc, arith}
use Rattle.std.proofs.lemmas.{Grind.{common_steps}}
use Rattle.dsa_store.specs.Content.{HeldEntry}
use Rattle.dsa_explain.specs.Held.{is_named_by}
use Rattle.dsa_explain_lines.proofs.Naming.{told-more}

pub loop-cell-preserved : goal.loop-cell-preserved
loop-cell-preserved = grind (arith, common_steps)

pub loop-cell-preserved-then-names : goal.loop-cell-preserved-then-names
loop-cell-preserved-then-names g c =
    let pair : HeldEntry = (c.in-Some._cell, c.in-Some.entry) in
    let meant : is_named_by c.args.naming.now.named c.in-Some.entry ≡ true = sym c.names.ensures ∙ c.if-names.true in
    let told = told-more (is_named_by c.args.naming.now.named) c.args.mark.now c.args.naming.now.verb.now c.args.list
    c.loop-cell.yielded pair c.loop-cell.is_told _ _ _ meant c.loop-cell.invariant.told c.loop-cell.invariant.text
    c.in_ok-add_name.ensures in
    record {
      parts = rw (c.loop-cell.invariant.parts, c.in-Some.ensures.steps) (sym (append_assoc c.loop-cell.yielded (pair ∷ []) c.next.new.self));
      text = told.0;
      told = told.1;
    }
