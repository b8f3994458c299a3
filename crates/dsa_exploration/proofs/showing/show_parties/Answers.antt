use Rattle.dsa_exploration.proofs.showing.show_parties.Goals as goal
use Rattle.std.proofs.Common.{◌∙◌, [], map, refl, string_bytes, subst, sym}
use Rattle.std.specs.Prelude.{IfNone, IfSome}
use Rattle.dsa_explore.specs.{Kept.{KeepsWays}, Walked.{CannotBegin}}
use Rattle.dsa_exploration.specs.Plan.{IsPlan}
use Rattle.dsa_exploration.proofs.{Plans.{found_within}, Shown.{shown-of-setup}}

pub returns-in_default : goal.returns-in_default
returns-in_default c = λ bytes plan called.
    let caps = c.args.caps in
    let none = subst (λ o. IfNone o (CannotBegin caps c.as_slice.result.now)) c.in_default.is
    c.in_ok-searched.ensures.none in
    shown-of-setup c.args.showing.now.bounds c.args.showing.now.row.now bytes called _ _ plan
    (subst (CannotBegin caps) (c.as_slice.ensures.value ∙ c.in_ok-setup.ensures) none) c.fault_alone.ensures.fault
    c.fault_alone.ensures.text

pub returns : goal.returns
returns c = λ bytes plan called.
    let caps = c.args.caps in
    let script = c.args.parties.now.script in
    let setup = c.as_slice.ensures.value ∙ c.in_ok-setup.ensures in
    let told = c.in_ok-searched.ensures in
    c.in_ok-rendering.ensures bytes (record {
      plan = subst (λ events. IsPlan bytes caps script events (map string_bytes c.args.parties.now.labels.items)
          (map string_bytes c.args.parties.now.acts.items) []) (sym setup) plan;
      search = found_within (λ searched. searched.explored) c.args.showing.now.bounds caps script _ _ _
          c.in-Some.searched c.in-Some.is refl told.explored told.states told.nothing told.bounded told.depth;
    }) called
    (subst (λ o. IfSome o (λ searched. KeepsWays caps script c.as_slice.result.now searched)) c.in-Some.is
    c.in_ok-searched.ensures.ways)
