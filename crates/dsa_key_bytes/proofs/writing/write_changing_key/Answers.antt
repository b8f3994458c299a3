use Rattle.std.proofs.Common.{◌≡◌, ◌<◌, ap, ◌∙◌, true, is_some, Some, None, length, slice_index}
use Rattle.dsa_keys.specs.Short.{ShortKey, short_key}
use Rattle.dsa_key_bytes.specs.{Line.{Written, with_numbers, emptied}, KeyBytes.{changing_numbers, changing_key_bytes}}
use Rattle.dsa_key_bytes.proofs.Lines.{on-ok, on-err, capacity-after, written-after, too_long-after}
use Rattle.dsa_key_bytes.proofs.writing.write_changing_key.Goals as goal

pub returns-clause-written : goal.returns-clause-written
returns-clause-written g c =
    let key : ShortKey = short_key (slice_index c.args.labels.now) c.args.device.now.state in
    let whole : c.write_changing.new.line ≡ with_numbers (emptied c.args.line.now) (changing_numbers key)
    = c.write_changing.ensures
    ∙ ap (λ (line : Written). with_numbers line (changing_numbers key)) c.clear.ensures in
    on-ok c.all_written.result (is_some c.write_changing.new.line.bytes ≡ true)
    (c.write_changing.new.line.bytes ≡ Some (changing_key_bytes key)) c.all_written.ensures.written
    (written-after c.args.line.now c.write_changing.new.line (changing_numbers key) whole)

pub returns-clause-too_long : goal.returns-clause-too_long
returns-clause-too_long g c =
    let key : ShortKey = short_key (slice_index c.args.labels.now) c.args.device.now.state in
    let whole : c.write_changing.new.line ≡ with_numbers (emptied c.args.line.now) (changing_numbers key)
    = c.write_changing.ensures
    ∙ ap (λ (line : Written). with_numbers line (changing_numbers key)) c.clear.ensures in
    on-err c.all_written.result (c.write_changing.new.line.bytes ≡ None)
    (c.args.line.now.capacity < length (changing_key_bytes key)) c.all_written.ensures.too_long
    (too_long-after c.args.line.now c.write_changing.new.line (changing_numbers key) whole)

pub returns-clause-capacity : goal.returns-clause-capacity
returns-clause-capacity g c =
    let key : ShortKey = short_key (slice_index c.args.labels.now) c.args.device.now.state in
    let whole : c.write_changing.new.line ≡ with_numbers (emptied c.args.line.now) (changing_numbers key)
    = c.write_changing.ensures
    ∙ ap (λ (line : Written). with_numbers line (changing_numbers key)) c.clear.ensures in
    capacity-after c.args.line.now c.write_changing.new.line (changing_numbers key) whole
