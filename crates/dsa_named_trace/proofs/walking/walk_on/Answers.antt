use Rattle.dsa_named_trace.proofs.walking.walk_on.Goals as goal
use Rattle.std.proofs.Common.{◌+◌, Err, ap, map, sym, take, take_all}
use Rattle.std.proofs.lemmas.{List.{take_more}, Result.{err_from_is_err_and}}
use Rattle.serde_json.specs.View.{view}
use Rattle.dsa_scenario.proofs.{Streams.{other_page}, Walks.{counted}}
use Rattle.dsa_named.specs.Names.{own_of}
use Rattle.dsa_named_trace.specs.Streams.{HasRefusedNamed, HasTakenNamed, IsTakenFrom}
use Rattle.dsa_named_trace.proofs.Pages.{page_refused, page_taken, piece_taken}
use Rattle.dsa_named_trace.proofs.Streams.{opened_trace, step_taken, stopped_taken, walk_along}

pub loop-i-init : goal.loop-i-init
loop-i-init g c caps capacity first =
    opened_trace g.W.Write.contents c.args.what.form (map view c.args.steps.now) c.args.writer.now caps capacity _ _ _ _
    c.open.ensures (ap (map own_of) c.new.ensures.items) first

pub returns-in_err-step_on-clause-stopped : goal.returns-in_err-step_on-clause-stopped
returns-in_err-step_on-clause-stopped g c =
    let p = err_from_is_err_and c.from_residual.result c.from_residual.ensures.1 in
    rw (p.1, p.2) (λ caps capacity first. (
      λ e. absurd cc,
      λ e. stopped_taken g.W.Write.contents c.args.what.form (map view c.args.steps.now) c.args.writer.now
          c.loop-i.writer
          caps capacity c.args.actions.now c.loop-i.i _ _ _ (c.loop-i.invariant caps capacity first),
    ))

pub returns-in_err-write_piece-clause-stopped : goal.returns-in_err-write_piece-clause-stopped
returns-in_err-write_piece-clause-stopped g c =
    let p = err_from_is_err_and c.from_residual-in_err-write_piece.result c.from_residual-in_err-write_piece.ensures.1
    in
    let form = c.args.what.form in
    let objects = map view c.args.steps.now in
    let old = c.loop-i.writer in
    let new = c.write_piece.new.writer in
    rw (p.1, p.2) (λ caps capacity first. (
      λ e.
          let stepped = step_taken form objects (HasTakenNamed g.W.Write.contents form c.args.writer.now old) caps
          capacity (take c.loop-i.i c.args.actions.now) _ c.loop-i.i _ _ _ _ _ _
          (λ taken. c.in_ok-step_on.ensures caps capacity (take c.loop-i.i c.args.actions.now) taken)
          (c.loop-i.invariant caps capacity first) in
          record {
            count = c.loop-i.i + 1;
            now = _;
            tickets = _;
            walk = walk_along (λ steps page. HasRefusedNamed g.W.Write.contents form objects c.args.writer.now new
                steps) caps capacity _ _ (c.loop-i.i + 1) _ _ tt
                (sym (take_more c.args.actions.now c.loop-i.i _ c.loop-i-test.true))
                (other_page (IsTakenFrom form objects (HasTakenNamed g.W.Write.contents form c.args.writer.now old))
                (λ steps page. HasRefusedNamed g.W.Write.contents form objects c.args.writer.now new steps) caps
                capacity _ (c.loop-i.i + 1) _ _ _ tt
                (λ steps made. page_refused g.W.Write.contents form objects c.args.writer.now old new steps _ _
                c.in_err-write_piece.ensures.writer.same
                (c.in_err-write_piece.ensures.writer.refused.0 (ap Err c.in_err-write_piece.ensures.fault))
                c.in_err-write_piece.ensures.part made) stepped);
          },
      λ other. absurd (other c.in_err-write_piece.ensures.fault),
    ))

pub loop-i-preserved : goal.loop-i-preserved
loop-i-preserved g c caps capacity first =
    let form = c.args.what.form in
    let objects = map view c.args.steps.now in
    let old = c.loop-i.writer in
    let new = c.write_piece.new.writer in
    let was = IsTakenFrom form objects (HasTakenNamed g.W.Write.contents form c.args.writer.now old) in
    let now = IsTakenFrom form objects (HasTakenNamed g.W.Write.contents form c.args.writer.now new) in
    let stepped = step_taken form objects (HasTakenNamed g.W.Write.contents form c.args.writer.now old) caps capacity
    (take c.loop-i.i c.args.actions.now) _ c.loop-i.i _ _ _ _ _ _
    (λ taken. c.in_ok-step_on.ensures caps capacity (take c.loop-i.i c.args.actions.now) taken)
    (c.loop-i.invariant caps capacity first) in
    walk_along now caps capacity _ _ (c.loop-i.i + 1) _ _ _
    (sym (take_more c.args.actions.now c.loop-i.i _ c.loop-i-test.true))
    (other_page was now caps capacity _ (c.loop-i.i + 1) _ _ _ _
    (λ steps made. page_taken g.W.Write.contents form objects c.args.writer.now old new steps _ _ _
    (piece_taken g.W.Write.contents old new _ _ c.in_ok-write_piece.ensures.writer.same
    c.in_ok-write_piece.ensures.writer.refused.1 (λ less. (c.in_ok-write_piece.ensures.short less).1)
    (λ less. (c.in_ok-write_piece.ensures.short less).2) c.in_ok-write_piece.ensures.whole
    c.in_ok-write_piece.ensures.empty) made) stepped)

pub returns-clause-ok : goal.returns-clause-ok
returns-clause-ok g c = λ caps capacity first.
    let form = c.args.what.form in
    let made = IsTakenFrom form (map view c.args.steps.now)
    (HasTakenNamed g.W.Write.contents form c.args.writer.now c.loop-i.writer) in
    counted made caps capacity c.args.actions.now c.loop-i.i _ _ _
    (walk_along made caps capacity _ _ c.loop-i.i _ _ _ (take_all c.loop-i.i c.args.actions.now c.loop-i-test.false)
    (c.loop-i.invariant caps capacity first))
