use Rattle.dsa_conform.proofs.following.follow_engine.Goals as goal
use Rattle.dsa_book.specs.declared.event.Event.TheVariants as event
use Rattle.std.proofs.Common.{◌≡◌, ◌∙◌, sym, ap, subst, [], true, Ok}
use Rattle.std.proofs.lemmas.Option.{same_Some}
use Rattle.dsa_scenario.specs.declared.run.Record.{Record}
use Rattle.dsa_scenario.specs.Run.{answered_by}
use Rattle.dsa_conform.specs.{Allowed.{IsAllowed, offers}, Seen.{seen_as, shows}}
use Rattle.dsa_conform.proofs.Choices.{is_offer, all_offers, none_shows, full_answer, idle_answer, empty_list}
use Rattle.dsa_conform.proofs.Choices.{filled_list, some_of, all_in}

pub returns-in-Some : goal.returns-in-Some
returns-in-Some g c =
    let w = c.args.device.now.state.work in
    let found = rw c.in-Some.is at c.in_ok-queue.ensures in
    let same = same_Some found.0 c.take.result (sym found.1 ∙ c.take.ensures.offered) in (
      ap answered_by (is_offer w c.args.engine c.in-Some.queue c.take.result c.take.ensures.offered).is,
      c.take.ensures.leads,
      subst (λ (e : Record). shows (seen_as c.args.seen.now) e ≡ true) same found.2,
    )

pub follow_only-requires : goal.follow_only-requires
follow_only-requires g c = full_answer _ _ (sym c.is_full.ensures ∙ c.if-is_full.true)

pub follow_only-requires-then-is_empty : goal.follow_only-requires-then-is_empty
follow_only-requires-then-is_empty g c =
    idle_answer c.args.device.now c.args.engine
    (sym c.in_ok-found.ensures ∙ empty_list c.in_ok-found.found.items
    (rw c.as_slice.ensures.value at (sym c.is_empty.ensures ∙ c.if-is_empty.true)))

pub returns : goal.returns
returns g c =
    let now = c.args.device.now in
    let room = sym c.is_full.ensures ∙ c.if-is_full.false in
    let some : offers now.state.work c.args.engine ≡ []
    → ⊥ = λ none. filled_list c.in_ok-found.found.items
    (rw c.as_slice.ensures.value at (sym c.is_empty.ensures ∙ c.if-is_empty.false)) (c.in_ok-found.ensures ∙ none) in
    let all = all_offers now c.args.engine room some in
    let first = some_of (offers now.state.work c.args.engine) some in (
      rw c.in_ok-found.ensures all,
      none_shows now c.args.engine (seen_as c.args.seen.now) room some
          (rw c.in_default.is at c.in_ok-queue.ensures),
      (
        first.0,
        all_in (IsAllowed now (Ok (event.Dispatch c.args.engine))) (offers now.state.work c.args.engine)
            first.0 all.each first.1,
      ),
    )
