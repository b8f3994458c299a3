use Rattle.dsa_scenario.proofs.writing.write_text.Goals as goal
use Rattle.std.proofs.Common.{◌∙◌}
use Rattle.dsa_scenario.proofs.Bytes.{Appends-more}

pub writes-preserved : goal.writes-preserved
writes-preserved g c =
    let more = Appends-more _ _ _ c.args.text.now c.writes.written c.in-Ok.count c.writes.invariant.bound
    c.in-Ok.ensures.bound c.writes.invariant.bytes c.in-Ok.ensures.bytes in
    record {
      bound = more.0;
      bytes = more.1;
      same_writer = search;
      taken = c.in-Ok.ensures.took c.if-count-gt0.true ∙ c.writes.invariant.taken;
    }
