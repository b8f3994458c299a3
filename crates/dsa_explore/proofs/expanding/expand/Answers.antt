use Rattle.dsa_explore.proofs.expanding.expand.Goals as goal
use Rattle.std.proofs.Common.{◌+◌, ◌^◌, List, length, refl, ap, sym, subst, arith, ◌∙◌, map}
use Rattle.std.proofs.lemmas.Bool.{ltb-false, ltb-true}
use Rattle.dsa_explore.specs.declared.halting.Halt.TheVariants.{Steps}
use Rattle.dsa_explore.specs.declared.{stored.{Search.{Search}}, trials.Trial.{Trial}}
use Rattle.dsa_explore.specs.{Trying.{AreTried}, Walked.{space_of}}
use Rattle.dsa_explore.proofs.{Ahead.{stands, tried-all}, Lawful.{byte-keys, space-lawful}, Noted.{out-of-steps}}
use Rattle.dsa_explore.proofs.{Tried.{halt-met, say-none, say-some}, Ways.{tell-ways}}

pub returns-then-not-has_room-clause-halted : goal.returns-then-not-has_room-clause-halted
returns-then-not-has_room-clause-halted c = λ first table x width is at front same e.
    let space = space_of c.args.plan.now.caps c.args.plan.now.script.now in
    let level = (tell-ways space first c.args.search.now table is).levels c.args.number c.in-Some.node x
    (sym c.node_of.ensures ∙ c.in-Some.is) at in
    let many = ltb-false (length c.args.plan.now.setup.now + c.in-Some.node.level) (2 ^ 20)
    (sym c.has_room.ensures ∙ c.if-not-has_room.true) in
    out-of-steps space first c.args.search.now table c.args.number x (length c.args.plan.now.setup.now) Steps is at
    (refl, omega (arith, many, level))

pub returns-then-not-advance-clause-halted : goal.returns-then-not-advance-clause-halted
returns-then-not-advance-clause-halted c = λ first table x width is at front same e.
    let space = space_of c.args.plan.now.caps c.args.plan.now.script.now in
    let level = (tell-ways space first c.args.search.now table is).levels c.args.number c.in-Some.node x
    (sym c.node_of.ensures ∙ c.in-Some.is) at in
    let early = is.by_level.early c.args.number x at in
    absurd (c.advance.ensures.further c.if-not-advance.true (omega (arith, level, early, c.requires))
    (omega (arith, level, front)))

pub returns-in-Some-2-clause-halted : goal.returns-in-Some-2-clause-halted
returns-in-Some-2-clause-halted c = λ first table x width is at front same e.
    let caps = c.args.plan.now.caps in
    let script = c.args.plan.now.script.now in
    let moved = c.advance.ensures.moved c.if-not-advance.false in
    let stand = stands (space_of caps script) (space-lawful caps script) byte-keys first c.args.search.now
    c.advance.new.search c.in-Some.node table c.args.number x is at (sym c.node_of.ensures ∙ c.in-Some.is) moved in
    (rw (c.in-Some-2.is, c.as_slice.ensures.value) at c.in_ok-halt.ensures.halted) caps script first table x
    (length c.args.plan.now.setup.now) stand e.each

pub returns-clause-expanded : goal.returns-clause-expanded
returns-clause-expanded c = say-none c.args.expansion.now.halted (λ none first table x width is at e.
    let caps = c.args.plan.now.caps in
    let script = c.args.plan.now.script.now in
    let space = space_of caps script in
    let moved = c.advance.ensures.moved c.if-not-advance.false in
    let stand = stands space (space-lawful caps script) byte-keys first c.args.search.now
    c.advance.new.search c.in-Some.node table c.args.number x is at (sym c.node_of.ensures ∙ c.in-Some.is) moved in
    let tried = (rw (c.in_default-2.is, c.as_slice.ensures.value) at c.in_ok-halt.ensures.noted) caps script first table x
    stand e.each in
    tried-all space (space-lawful caps script) byte-keys first c.args.search.now c.advance.new.search
    c.note_trials.new.search table c.args.number x c.args.expansion.now.trials.items
    (ap (λ (s : Search). s.rows) moved.changed) (rw none at e.all) tried)

pub returns-clause-halted : goal.returns-clause-halted
returns-clause-halted c = say-some c.args.expansion.now.halted (λ halt some first table x width is at front same e.
    let caps = c.args.plan.now.caps in
    let script = c.args.plan.now.script.now in
    let space = space_of caps script in
    let moved = c.advance.ensures.moved c.if-not-advance.false in
    let stand = stands space (space-lawful caps script) byte-keys first c.args.search.now
    c.advance.new.search c.in-Some.node table c.args.number x is at (sym c.node_of.ensures ∙ c.in-Some.is) moved in
    let tried = (rw (c.in_default-2.is, c.as_slice.ensures.value) at c.in_ok-halt.ensures.noted) caps script first table x
    stand e.each in
    let wide = same ∙ sym (c.in_ok-halt.ensures.width ∙ ap (λ (s : Search). s.seen.width) moved.changed) in
    halt-met space x (space-lawful caps script) byte-keys first c.note_trials.new.search tried.more c.args.number
    (length c.args.plan.now.setup.now) width tried.further.is_at wide halt (rw some at e.halts))

pub returns-in-Some-2-clause-early : goal.returns-in-Some-2-clause-early
returns-in-Some-2-clause-early c = λ fits.
    let moved = c.advance.ensures.moved c.if-not-advance.false in
    let few = ltb-true (length c.args.plan.now.setup.now + c.in-Some.node.level) (2 ^ 20)
    (sym c.has_room.ensures ∙ c.if-not-has_room.false) in
    omega (arith, few, c.in_ok-halt.ensures.front, ap (λ (s : Search). s.front) moved.changed)

pub returns-clause-early : goal.returns-clause-early
returns-clause-early c = λ fits.
    let moved = c.advance.ensures.moved c.if-not-advance.false in
    let few = ltb-true (length c.args.plan.now.setup.now + c.in-Some.node.level) (2 ^ 20)
    (sym c.has_room.ensures ∙ c.if-not-has_room.false) in
    omega (arith, few, c.in_ok-halt.ensures.front, ap (λ (s : Search). s.front) moved.changed)
