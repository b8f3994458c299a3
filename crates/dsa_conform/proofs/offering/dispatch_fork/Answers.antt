use Rattle.dsa_conform.proofs.offering.dispatch_fork.Goals as goal
use Rattle.dsa_book.specs.declared.event.Event.TheVariants as event
use Rattle.std.proofs.Common.{sym, subst, Ok}
use Rattle.dsa_conform.specs.{Seen.{seen_as}, Ways.{IsFork}}
use Rattle.dsa_conform.proofs.Forks.{only_choice, only_shown, all_shown}

pub returns-then-not-has_choice : goal.returns-then-not-has_choice
returns-then-not-has_choice g c =
    let now = c.args.device.now in
    let seen = seen_as c.args.seen.now in
    subst (λ l. IsFork now (Ok (event.Dispatch c.args.engine)) seen l) (sym c.new-none.ensures.items)
    (only_choice now c.args.engine seen c.requires (c.has_choice.ensures c.if-not-has_choice.true))

pub returns-then-as_slice-lt2 : goal.returns-then-as_slice-lt2
returns-then-as_slice-lt2 g c =
    let now = c.args.device.now in
    let seen = seen_as c.args.seen.now in
    subst (λ l. IsFork now (Ok (event.Dispatch c.args.engine)) seen l) (sym c.new-none.ensures.items)
    (only_shown now c.args.engine seen c.in_ok-queues.queues.items c.requires c.in_ok-queues.ensures.all
    (rw c.as_slice.ensures.value at c.if-as_slice-lt2.true))

pub returns : goal.returns
returns g c =
    all_shown c.args.device.now c.args.engine (seen_as c.args.seen.now) c.in_ok-queues.queues.items c.requires
    c.in_ok-queues.ensures.all c.in_ok-queues.ensures.each (rw c.as_slice.ensures.value at c.if-as_slice-lt2.false)
