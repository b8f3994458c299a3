use Rattle.dsa_chrome.proofs.rendering.add_sort_index.Goals as goal
use Rattle.std.proofs.Common.{◌∙◌, ◌++◌, List, ℕ, ap, string_bytes}
use Rattle.std.proofs.lemmas.Result.{on_ok_weaker}
use Rattle.std.specs.Prelude.{codes, decimal}
use Rattle.dsa_chrome.specs.Traces.{meta_text}
use Rattle.dsa_chrome.proofs.Texts.{then}

pub returns : goal.returns
returns c =
    let number : ℕ → List ℕ = λ n. codes "\"sort_index\":" ++ decimal n in
    let meta : List ℕ = meta_text (codes "thread_sort_index") 2 c.args.thread in
    on_ok_weaker c.add_text.result
    (then (string_bytes c.args.text.now) (meta ++ number c.args.engine) (codes "}}")
    (then (string_bytes c.args.text.now) meta (number c.args.engine) c.in_ok-add_meta.ensures
    (c.in_ok-add_number.ensures ∙ ap (λ n. string_bytes c.add_meta.new.text ++ number n) c.from.ensures)))
    c.add_text.ensures
