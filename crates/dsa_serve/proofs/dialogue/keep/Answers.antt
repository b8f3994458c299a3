use Rattle.dsa_serve.proofs.dialogue.keep.Goals as goal
use Rattle.std.proofs.Common.{◌-◌, ◌++◌, take, ap, ◌∙◌}
use Rattle.dsa_serve.proofs.Lines.{kept_more}

pub returns : goal.returns
returns c rest is = c.in_ok-extend_from_slice.ensures.items
    ∙ ap (λ m. c.args.kept.now.items ++ take m c.args.piece.now) c.min.ensures
    ∙ kept_more 1_048_577 rest c.args.piece.now c.args.kept.now.items c.saturating_sub-room.result is
    (c.saturating_sub-room.ensures ∙ ap (λ n. 1_048_577 - n) (c.len.ensures ∙ c.args.kept.now.ok.0))
