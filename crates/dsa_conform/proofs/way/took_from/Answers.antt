use Rattle.dsa_conform.proofs.way.took_from.Goals as goal
use Rattle.std.proofs.Common.{◌∙◌, sym, ap}
use Rattle.std.proofs.lemmas.{Bool.Decides.{Decides-eqb}, Slice.Eq.{slice_eq-Decides}}
use Rattle.dsa_conform.specs.Ways.{queues_taken}

pub returns : goal.returns
returns c = λ same.
    ap queues_taken (sym c.history.ensures) ∙ sym c.in_ok-queues.ensures ∙ sym c.as_slice.ensures.value
    ∙ (slice_eq-Decides Decides-eqb _ _ _ c.eq.ensures).0 same
