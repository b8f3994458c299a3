use Rattle.dsa_trace.proofs.names.add_each.Goals as goal
use Rattle.std.proofs.Common.{◌∙◌, [], ◌∷◌, ◌++◌, ap, append_assoc, string_bytes, sym}
use Rattle.std.specs.Prelude.{decimal}
use Rattle.dsa_store.specs.Content.{HeldEntry}
use Rattle.dsa_trace.specs.Names.{entry_names_text}
use Rattle.dsa_trace.proofs.Listed.{comma_after, comma_more, name_more}

pub loop-cell-preserved : goal.loop-cell-preserved
loop-cell-preserved g c =
    let pair : HeldEntry = (c.in-Some._cell, c.in-Some.entry) in
    let names = c.loop-cell.yielded in
    let before = string_bytes c.args.text.now in
    let name = decimal pair.1.name in
    let so_far = string_bytes c.loop-cell.text in
    record {
      parts = rw (c.loop-cell.invariant.parts, c.in-Some.ensures.steps)
          (sym (append_assoc names (pair ∷ []) c.next.new.self));
      separator = comma_more names pair;
      told = c.in_ok-add_number.ensures
          ∙ ap (λ comma. so_far ++ (comma ++ name)) c.loop-cell.invariant.separator
          ∙ ap (λ text. text ++ (comma_after names ++ name)) c.loop-cell.invariant.told
          ∙ append_assoc before (entry_names_text names) (comma_after names ++ name)
          ∙ ap (λ text. before ++ text) (name_more names pair);
    }
