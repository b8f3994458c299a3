use Rattle.std.proofs.Common.{List, [], ◌∷◌, ◌++◌, ap, sym, ◌∙◌, append_assoc, rules}
use Rattle.std.specs.List.{flat_map}
use Rattle.std.proofs.lemmas.List.{append-nil}
use Rattle.dsa_store.specs.Content.{HeldEntry}
use Rattle.dsa_key_bytes.specs.{Line.{with_numbers}, Marks.{mark_numbers}}
use Rattle.dsa_key_bytes.proofs.Lines.{with_numbers-nil, walked-more}
use Rattle.dsa_key_bytes.proofs.entries.write_list.Goals as goal

pub loop-entry-init : goal.loop-entry-init
loop-entry-init g c = record { parts = search rules; written = sym (with_numbers-nil c.args.line.now) }

pub loop-entry-preserved : goal.loop-entry-preserved
loop-entry-preserved g c =
    let pair : HeldEntry = (c.in-Some.field-0-0, c.in-Some.entry) in
    record {
      parts = rw (c.loop-entry.invariant.parts, c.in-Some.ensures.steps)
          (sym (append_assoc c.loop-entry.yielded (pair ∷ []) c.next.new.self));
      written = walked-more (mark_numbers c.args.device.now.state c.args.mark.now) c.args.line.now c.loop-entry.line
          c.write_number.new.self c.loop-entry.yielded pair c.loop-entry.invariant.written
          (c.write_number.ensures ∙ ap (λ n. with_numbers c.loop-entry.line (n ∷ [])) c.mark_number.ensures);
    }

pub returns : goal.returns
returns g c =
    let all = c.loop-entry.invariant.parts ∙ ap (λ l. c.loop-entry.yielded ++ l) c.in-None.ensures.steps.0
    ∙ append-nil c.loop-entry.yielded in
    c.loop-entry.invariant.written
    ∙ ap (λ (pairs : List HeldEntry). with_numbers c.args.line.now (flat_map (mark_numbers c.args.device.now.state c.args.mark.now) pairs)) (sym all)
