use Rattle.dsa_trace.proofs.form.add_spaces.Goals as goal
use Rattle.std.proofs.Common.{◌∙◌, ◌++◌, ◌∷◌, [], ap, append_assoc, replicate, string_bytes}
use Rattle.std.proofs.lemmas.List.{replicate-append-replicate}

pub loop-preserved : goal.loop-preserved
loop-preserved c =
    let before = string_bytes c.args.text.now in
    let n = c.loop.counter in
    c.in_ok-push_str.ensures.bytes ∙ ap (λ text. text ++ 32 ∷ []) c.loop.invariant
    ∙ append_assoc before (replicate n 32) (32 ∷ [])
    ∙ ap (λ spaces. before ++ spaces) (replicate-append-replicate n 1 32)
