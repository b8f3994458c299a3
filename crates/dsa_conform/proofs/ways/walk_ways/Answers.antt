use Rattle.dsa_conform.proofs.ways.walk_ways.Goals as goal
use Rattle.std.proofs.Common.{◌∙◌, sym, subst, string_bytes, Vec, Global}
use Rattle.dsa_conform.specs.declared.way.Way.{Way}
use Rattle.dsa_conform.specs.{Seen.{seen_as}, Sights.{steps_counted}, ToldLines.{IsTextTold}, Ways.{AreGoneOn}}
use Rattle.dsa_conform.proofs.Companions.{step_on, step_differs}

pub returns-then-not-is_empty : goal.returns-then-not-is_empty
returns-then-not-is_empty c =
    let steps = steps_counted c.args.sights.now in
    step_on c.args.sights.now.head.now.caps c.args.sights.now.head.now.capacity steps
    (c.args.action, seen_as c.args.seen.now) c.args.number
    c.args.ways.now.items c.go_all.new.ways.items c.in_ok-tolds.tolds.items
    (subst (λ (old : Vec Way Global). AreGoneOn c.args.sights.now.head.now.caps
    c.args.sights.now.head.now.capacity steps
    (c.args.action, seen_as c.args.seen.now) c.args.number old.items c.go_all.new.ways.items
    c.in_ok-tolds.tolds.items) c.replace-old.ensures.value c.in_ok-tolds.ensures)
    (rw c.as_slice.ensures.value at (sym c.is_empty.ensures ∙ c.if-not-is_empty.true))

pub returns : goal.returns
returns c =
    let steps = steps_counted c.args.sights.now in
    step_differs c.args.sights.now.head.now.caps c.args.sights.now.head.now.capacity steps
    (c.args.action, seen_as c.args.seen.now)
    c.args.number c.args.ways.now.items c.go_all.new.ways.items c.in_ok-tolds.tolds.items
    (string_bytes c.in_ok-text.text)
    (subst (λ (old : Vec Way Global). AreGoneOn c.args.sights.now.head.now.caps
    c.args.sights.now.head.now.capacity steps
    (c.args.action, seen_as c.args.seen.now) c.args.number old.items c.go_all.new.ways.items
    c.in_ok-tolds.tolds.items) c.replace-old.ensures.value c.in_ok-tolds.ensures)
    (rw c.as_slice.ensures.value at (sym c.is_empty.ensures ∙ c.if-not-is_empty.false))
    (subst (λ l. IsTextTold c.args.number (seen_as c.args.seen.now) l (string_bytes c.in_ok-text.text))
    c.as_slice-2.ensures.value c.in_ok-text.ensures)
