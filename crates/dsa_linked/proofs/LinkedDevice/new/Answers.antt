use Rattle.dsa_linked.proofs.LinkedDevice.new.Goals as goal
use Rattle.std.proofs.Common.{◌∙◌, sym}
use Rattle.dsa_device.proofs.{NewStore.{only-memory}, Opening.{opening-clear}}

pub list_count-requires : goal.list_count-requires
list_count-requires c = (opening-clear c.args.caps c.args.capacity (sym c.check_opening.ensures ∙ c.in_default.is)).0

pub returns-clause-fault : goal.returns-clause-fault
returns-clause-fault c =
    c.in-Err.ensures.fault ∙ only-memory c.args.caps c.args.capacity c.list_count.result c.cell_count.result
    (sym c.check_opening.ensures ∙ c.in_default.is) c.list_count.ensures c.cell_count.ensures.number
    c.in-Ok.ensures.empty c.in-Ok.ensures.cells
