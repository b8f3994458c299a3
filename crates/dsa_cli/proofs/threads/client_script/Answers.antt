use Rattle.dsa_cli.proofs.threads.client_script.Goals as goal
use Rattle.std.proofs.Common.{◌∙◌, List, ap, length, sym, subst, All}
use Rattle.std.proofs.lemmas.List.{length-replicate, Elements.{All-replicate}}
use Rattle.std.proofs.lemmas.Result.{IfOk-weaker}
use Rattle.dsa_workers.specs.declared.scripts.ClientStep.{ClientStep}
use Rattle.dsa_cli.specs.Threads.{IsClientScript, Submits}

pub returns : goal.returns
returns c =
    let moves = All-replicate (Submits c.args.pasid) c.args.each c.one_move.result c.one_move.ensures in
    IfOk-weaker c.vec.result _ (IsClientScript c.args.pasid c.args.each) (λ script h.
    let same = h (λ y equal. equal) in
    record {
      len = ap (λ (l : List ClientStep). length l) same ∙ length-replicate c.args.each c.one_move.result;
      moves = subst (λ steps. All (Submits c.args.pasid) steps) (sym same) moves;
    })
    c.vec.ensures.items_if_clones_equal
