use Rattle.dsa_scenario.proofs.script.script_by_tokens.Goals as goal
use Rattle.std.proofs.Common.{◌∙◌, option_map, sym}
use Rattle.dsa_scenario.proofs.Tokens.{items_of, no_parts, none_left, script_read, token_read}

pub returns-clause-ok : goal.returns-clause-ok
returns-clause-ok c =
    let (all, reads, has) = c.in_ok-read_parts.ensures c.if-not-branch.false in
    let parts = c.read_parts.new.parts in
    script_read c.args.text.now c.next.new.self c.read_parts.new.reader all parts.caps parts.capacity
    (option_map items_of parts.actions) c.script.result
    (sym c.in_ok-reader.ensures.ok
    ∙ token_read c.in_ok-reader.reader c.next.new.self _ _ c.in-Some-BeginObject.ensures.value
    c.in-Some-BeginObject.field-0-is)
    reads
    (none_left c.read_parts.new.reader c.next-else-not-branch.new.self _ c.next-else-not-branch.result
    (sym c.is_some.ensures ∙ c.if-is_some.false) c.next-else-not-branch.ensures.value)
    (has no_parts) c.script.ensures
