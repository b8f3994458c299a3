use Rattle.dsa_explain_lines.proofs.removals.add_names.Given as goal
use Rattle.std.proofs.Common.{◌≡◌, ◌++◌, nat_lt, length, string_bytes}
use Rattle.dsa_regs.specs.Caps.{list_number}
use Rattle.dsa_store.specs.Content.{chain}
use Rattle.dsa_explain.specs.Held.{is_named_by, names_where}
use Rattle.dsa_explain_lines.specs.Sentences.{list_words}

abbrev pub invariant-loop-cell : goal.invariant-loop-cell
invariant-loop-cell g l = record {
  parts : chain l.device.state.work.content (list_number l.device.caps l.list) ≡ l.yielded ++ l._cell-iterator;
  text : string_bytes l.text
      ≡ string_bytes l.initial.text
      ++ list_words l.mark l.naming.verb.now l.list (names_where (is_named_by l.naming.named) l.yielded);
  told : l.is_told ≡ nat_lt 0 (length (names_where (is_named_by l.naming.named) l.yielded));
}
