use Rattle.dsa_scenario.proofs.script.read_list.Goals as goal
use Rattle.dsa_scenario.proofs.Tokens.{list_read, token_read}

pub returns-in-Some-BeginArray : goal.returns-in-Some-BeginArray
returns-in-Some-BeginArray c =
    list_read c.args.reader.now c.next.new.self c.read_steps.new.reader c.read_steps.result
    (token_read c.args.reader.now c.next.new.self _ _ c.in-Some-BeginArray.ensures.value c.in-Some-BeginArray.field-0-is)
    c.read_steps.ensures
