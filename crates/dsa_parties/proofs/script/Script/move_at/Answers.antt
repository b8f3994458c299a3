use Rattle.std.proofs.Common.{arith, ◌-◌, ◌∙◌}
use Rattle.dsa_parties.proofs.MoveNumbers.{administrator_number, engine_number}
use Rattle.dsa_parties.proofs.script.Script.move_at.Goals as goal

pub returns-then-behind-administrators : goal.returns-then-behind-administrators
returns-then-behind-administrators c = administrator_number c.args.self.now (c.args.number - c.len-clients.result)
    c.args.number
    (omega (arith, c.len-clients.ensures, c.args.self.now.clients.ok.0, c.if-number-clients.false))
    (omega (arith, c.len-administrators.ensures, c.args.self.now.administrators.ok.0, c.if-behind-administrators.true))

pub returns : goal.returns
returns c = c.engine_move_at.ensures
    ∙ engine_number c.args.self.now (c.args.number - c.len-clients.result - c.len-administrators.result) c.args.number
    (omega (
      arith,
      c.len-clients.ensures,
      c.args.self.now.clients.ok.0,
      c.if-number-clients.false,
      c.len-administrators.ensures,
      c.args.self.now.administrators.ok.0,
      c.if-behind-administrators.false,
    ))
