use Rattle.dsa_chrome.proofs.events.add_instant.Goals as goal
use Rattle.std.proofs.Common.{◌∙◌, ◌++◌, List, ℕ, ap, string_bytes}
use Rattle.std.proofs.lemmas.Result.{on_ok_weaker}
use Rattle.std.specs.Prelude.{codes, decimal}
use Rattle.dsa_scenario.specs.Lines.{record_text}
use Rattle.dsa_chrome.specs.Events.{maker_of, step_args, thread_text}
use Rattle.dsa_chrome.proofs.Texts.{then}

pub returns : goal.returns
returns c =
    let entry = c.args.entry.now in
    let before = string_bytes c.args.text.now in
    let name : List ℕ = codes ",\n{\"name\":\"" in
    let answer : List ℕ = record_text entry in
    let time : List ℕ = codes "\",\"ph\":\"i\",\"s\":\"t\",\"ts\":" ++ decimal c.args.number in
    let thread : List ℕ = thread_text (maker_of entry) in
    let told : List ℕ = step_args c.args.number entry in
    on_ok_weaker c.add_step_args.result
    (then before (name ++ answer ++ time ++ thread) told
    (then before (name ++ answer ++ time) thread
    (then before (name ++ answer) time
    (then before name answer c.in_ok-add_text.ensures c.in_ok-add_answer.ensures)
    c.in_ok-add_place.ensures)
    (c.in_ok-add_thread.ensures
    ∙ ap (λ asker. string_bytes c.add_place.new.text ++ thread_text asker) c.maker_of.ensures)))
    c.add_step_args.ensures
