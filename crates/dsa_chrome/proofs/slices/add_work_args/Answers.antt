use Rattle.dsa_chrome.proofs.slices.add_work_args.Goals as goal
use Rattle.std.proofs.Common.{◌++◌, List, ℕ, string_bytes}
use Rattle.std.proofs.lemmas.Result.{on_ok_weaker}
use Rattle.std.specs.Prelude.{codes}
use Rattle.dsa_chrome.specs.Slices.{client_arg, end_text, entry_text}
use Rattle.dsa_chrome.proofs.Texts.{then}

pub returns : goal.returns
returns c =
    let before = string_bytes c.args.text.now in
    let entry : List ℕ = entry_text c.args.work.now.entry in
    let client : List ℕ = client_arg c.args.work.now.client in
    let key : List ℕ = codes ",\"end\":\"" in
    let told : List ℕ = end_text c.args.end in
    let close : List ℕ = codes "\"}}" in
    on_ok_weaker c.add_text-2.result
    (then before (entry ++ client ++ key ++ told) close (then before (entry ++ client ++ key) told (then before (entry ++ client) key (then before entry client c.in_ok-add_entry.ensures
    c.in_ok-add_client_arg.ensures)
    c.in_ok-add_text.ensures)
    c.in_ok-add_end.ensures))
    c.add_text-2.ensures
