use Rattle.dsa_check.proofs.remarks.remarks_with.Goals as goal
use Rattle.std.specs.List.{AllByRecursion}
use Rattle.dsa_check.specs.Remarks.{IsRemarkPlaced}
use Rattle.dsa_check.proofs.{Remarked.{says_first}, Told.{appends_both, appended_first}}

pub returns : goal.returns
returns c =
    let P = IsRemarkPlaced c.args.bytes.now in
    record {
      all =
          says_first _ _ _ _ _ c.new-remarks.ensures.items c.in_ok-add_faults.ensures.all
          c.in_ok-add_warnings.ensures.all;
      placed =
          appended_first (AllByRecursion P) _ _ c.new-remarks.ensures.items
          (appends_both P _ _ _ c.in_ok-add_faults.ensures.placed c.in_ok-add_warnings.ensures.placed);
    }
