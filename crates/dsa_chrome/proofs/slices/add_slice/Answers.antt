use Rattle.dsa_chrome.proofs.slices.add_slice.Goals as goal
use Rattle.std.proofs.Common.{◌++◌, List, ℕ, string_bytes}
use Rattle.std.proofs.lemmas.Result.{on_ok_weaker}
use Rattle.std.specs.Prelude.{codes, decimal}
use Rattle.dsa_chrome.specs.Slices.{span_text, entry_title, work_args}
use Rattle.dsa_chrome.proofs.Texts.{then}

pub returns : goal.returns
returns c =
    let before = string_bytes c.args.text.now in
    let title : List ℕ = entry_title c.args.work.now.entry in
    let span : List ℕ = span_text c.args.work.now.begin c.args.end in
    let thread : List ℕ = codes ",\"pid\":2,\"tid\":" ++ decimal c.args.lane in
    let told : List ℕ = work_args c.args.work.now c.args.end in
    on_ok_weaker c.add_work_args.result
    (then before (title ++ span ++ thread) told (then before (title ++ span) thread (then before title span c.in_ok-add_title.ensures
    c.in_ok-add_span.ensures)
    c.in_ok-add_place.ensures))
    c.add_work_args.ensures
