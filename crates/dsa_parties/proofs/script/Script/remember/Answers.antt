use Rattle.std.proofs.Common.{◌∙◌, ◌+◌, refl, sym, subst, arith}
use Rattle.dsa_parties.specs.declared.places.Places.{Places}
use Rattle.dsa_parties.specs.Standing.{stand_of}
use Rattle.dsa_parties.proofs.Watched.{IsMarked, marked-past, marked-seen, marked-unseen, marked-all}
use Rattle.dsa_parties.proofs.script.Script.remember.Goals as goal
use Rattle.dsa_parties.proofs.script.Script.remember.Goals.{then-number-len+then-is_seen, else-number-len}
use Rattle.dsa_parties.proofs.script.Script.remember.Goals.{else-number-len-via-then-number-len+else-is_seen}
use Rattle.dsa_parties.proofs.script.Script.remember.Goals.{else-number-len-via-else-number-len}

pub loop-number-init : goal.loop-number-init
loop-number-init c = record { nobody = refl; marks = refl }

pub loop-number-preserved : goal.loop-number-preserved
loop-number-preserved c =
    let script = c.args.self.now in
    let stand = stand_of c.args.places.now in
    let move = c.args.shown.now.made in
    let reply = c.args.shown.now.reply in
    let ends = c.args.shown.now.ends.now in
    let k = c.loop-number.number in
    let places = c.loop-number.places in
    let marked = c.loop-number.invariant in
    let watch = c.index-watch.result.now in
    elim c.if-number-len.branch [
      | then-number-len+then-is_seen w ↦
          subst (λ (p : Places). IsMarked script stand move reply ends (k + 1) p) (sym w.places-is)
          (marked-seen script stand move reply ends k places marked watch c.index-watch.ensures
          (omega (arith, c.loop-number-test.true, c.len-number-end.ensures, script.watches.ok.0))
          (omega (arith, w.if-number-len.true, c.len.ensures, places.came.ok.0))
          (sym w.is_seen.ensures ∙ w.if-is_seen.true) _ refl)
      | else-number-len w ↦
          subst (λ (p : Places). IsMarked script stand move reply ends (k + 1) p) (sym w.places-is)
          (elim w.else-number-len.branch [
            | else-number-len-via-then-number-len+else-is_seen v ↦
                marked-unseen script stand move reply ends k places marked watch c.index-watch.ensures
                (omega (arith, c.loop-number-test.true, c.len-number-end.ensures, script.watches.ok.0))
                (omega (arith, v.if-number-len.true, c.len.ensures, places.came.ok.0))
                (sym v.is_seen.ensures ∙ v.if-is_seen.false)
            | else-number-len-via-else-number-len v ↦
                marked-past script stand move reply ends k places marked
                (omega (arith, v.if-number-len.false, c.len.ensures, places.came.ok.0))
          ])
    ]

pub returns : goal.returns
returns c = marked-all c.args.self.now (stand_of c.args.places.now) c.args.shown.now.made c.args.shown.now.reply
    c.args.shown.now.ends.now c.loop-number.number c.loop-number.places c.loop-number.invariant
    (omega (arith, c.loop-number-test.false, c.len-number-end.ensures, c.args.self.now.watches.ok.0))
