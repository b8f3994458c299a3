use Rattle.dsa_serve.proofs.ending.end_in.Goals as goal
use Rattle.std.proofs.Common.{◌∙◌, arith, length-take, sym, take}
use Rattle.std.proofs.lemmas.List.{take_all}
use Rattle.dsa_serve.proofs.Ends.{depth_within, ends_here, one_byte}

pub loop-at-preserved : goal.loop-at-preserved
loop-at-preserved c =
    let it = one_byte c.args.inside.now c.loop-at.inside c.args.piece.now c.loop-at.at _ c.loop-at-test.true
    (sym c.ends_with.ensures ∙ c.if-ends_with.false) c.loop-at.invariant in
    (it.0, c.after.ensures ∙ it.1)

pub returns-then-ends_with : goal.returns-then-ends_with
returns-then-ends_with c = (
  c.loop-at-test.true,
  ends_here c.args.inside.now c.loop-at.inside c.args.piece.now c.loop-at.at _ c.loop-at-test.true
      (sym c.ends_with.ensures ∙ c.if-ends_with.true) c.loop-at.invariant,
)

pub after-requires : goal.after-requires
after-requires c =
    let so_far = depth_within c.args.inside.now (take c.loop-at.at c.args.piece.now) in
    rw c.loop-at.invariant.1 (omega (
      arith,
      so_far,
      length-take c.loop-at.at c.args.piece.now,
      c.requires,
      c.loop-at-test.true,
    ))

pub returns : goal.returns
returns c =
    let all = take_all c.loop-at.at c.args.piece.now (omega (arith, c.loop-at-test.false)) in
    (rw all at c.loop-at.invariant.0, rw all at c.loop-at.invariant.1)
