use Rattle.dsa_formulas.proofs.facts.is_so.Goals as goal
use Rattle.std.proofs.Common.{◌∙◌, get_or, ap, sym}
use Rattle.dsa_keys.specs.Key.{key, labelled_entry}
use Rattle.dsa_parties.specs.Standing.{stand_of}
use Rattle.dsa_formulas.specs.declared.formula.Fact.{Fact}
use Rattle.dsa_formulas.specs.Facts.{is_found_so, is_so}
use Rattle.dsa_formulas.proofs.Found.{any-flat}

pub returns-in-Entry : goal.returns-in-Entry
returns-in-Entry g c =
    c.holds_found.ensures
    ∙ any-flat (is_found_so c.in-Entry.label c.in-Entry.being)
    (labelled_entry (λ name. get_or c.args.labels.now name 0)) c.args.device.now.state.work.content
    ∙ ap (λ (f : Fact). is_so c.args.script.now (stand_of c.args.places.now)
    (key (λ name. get_or c.args.labels.now name 0) c.args.device.now.state) f) (sym c.in-Entry.is)

pub returns-in-Queue : goal.returns-in-Queue
returns-in-Queue g c =
    c.is_queue_in.ensures c.args.script.now c.args.places.now
    ∙ ap (λ (f : Fact). is_so c.args.script.now (stand_of c.args.places.now)
    (key (λ name. get_or c.args.labels.now name 0) c.args.device.now.state) f) (sym c.in-Queue.is)

pub returns-in-Filled : goal.returns-in-Filled
returns-in-Filled g c =
    c.is_filled.ensures c.args.script.now c.args.places.now
    ∙ ap (λ (f : Fact). is_so c.args.script.now (stand_of c.args.places.now)
    (key (λ name. get_or c.args.labels.now name 0) c.args.device.now.state) f) (sym c.in-Filled.is)
