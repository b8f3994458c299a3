use Rattle.std.proofs.Common.{ap, arith, Some, ◌-◌, ◌∙◌}
use Rattle.dsa_parties.specs.declared.places.Move.TheVariants.{Dispatch, Fetch, Start}
use Rattle.dsa_parties.proofs.MoveNumbers.{dispatch_number, fetch_number, start_number, no_number}
use Rattle.dsa_parties.proofs.script.Script.engine_move_at.Goals as goal

pub returns-then-number-engines : goal.returns-then-number-engines
returns-then-number-engines c =
    ap (λ e. Some (Dispatch e)) c.index.ensures
    ∙ dispatch_number c.args.self.now c.args.number c.index.result.now
    (omega (arith, c.if-number-engines.true, c.len-engines.ensures, c.args.self.now.engines.ok.0))

pub returns-then-behind-engines : goal.returns-then-behind-engines
returns-then-behind-engines c =
    ap (λ e. Some (Fetch e)) c.index-then-behind-engines.ensures
    ∙ fetch_number c.args.self.now (c.args.number - c.len-engines.result) c.args.number
    c.index-then-behind-engines.result.now
    (omega (arith, c.if-number-engines.false, c.len-engines.ensures, c.args.self.now.engines.ok.0))
    (omega (arith, c.if-behind-engines.true, c.len-engines.ensures, c.args.self.now.engines.ok.0))

pub returns-then-last-engines : goal.returns-then-last-engines
returns-then-last-engines c =
    ap (λ e. Some (Start e)) c.index-then-last-engines.ensures
    ∙ start_number c.args.self.now (c.args.number - c.len-engines.result - c.len-engines.result) c.args.number
    c.index-then-last-engines.result.now
    (omega (
      arith,
      c.if-number-engines.false,
      c.if-behind-engines.false,
      c.len-engines.ensures,
      c.args.self.now.engines.ok.0,
    ))
    (omega (arith, c.if-last-engines.true, c.len-engines.ensures, c.args.self.now.engines.ok.0))

pub returns : goal.returns
returns c =
    no_number c.args.self.now (c.args.number - c.len-engines.result - c.len-engines.result) c.args.number
    (omega (
      arith,
      c.if-number-engines.false,
      c.if-behind-engines.false,
      c.len-engines.ensures,
      c.args.self.now.engines.ok.0,
    ))
    (omega (arith, c.if-last-engines.false, c.len-engines.ensures, c.args.self.now.engines.ok.0))
