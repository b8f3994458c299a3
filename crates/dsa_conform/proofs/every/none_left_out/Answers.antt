use Rattle.dsa_conform.proofs.every.none_left_out.Goals as goal
use Rattle.std.proofs.Common.{◌≡◌, ◌∙◌, List, Bool, ap, length, false, replicate}
use Rattle.std.proofs.lemmas.List.{length-replicate}
use Rattle.std.proofs.lemmas.Result.{IfOk-weaker}
use Rattle.dsa_conform.specs.Sights.{bared}
use Rattle.dsa_conform.proofs.Bare.{none_marked}

pub returns : goal.returns
returns c =
    IfOk-weaker c.vec.result _ _ (λ marks h.
    let same : marks.items ≡ replicate c.args.steps false = h (λ y equal. equal) in (
      ap (λ (l : List Bool). length l) same ∙ length-replicate c.args.steps false,
      λ objects. ap (λ (l : List Bool). bared l objects) same ∙ none_marked c.args.steps objects,
    ))
    c.vec.ensures.items_if_clones_equal
