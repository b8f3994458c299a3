use Rattle.dsa_shared.proofs.locked.walk.each_matches.Goals as goal
use Rattle.std.proofs.Common.{◌≡◌, true, Some, eqb, take, length, refl, sym, ap, ◌∙◌, subst, arith, eqb-true}
use Rattle.std.proofs.lemmas.{List.{take_more, take_all}, Bool.{OnTrue_at, OnTrue_from}}
use Rattle.dsa_book.specs.declared.event.{Actor.TheVariants.{Client, Engine, Admin}}
use Rattle.dsa_book.specs.Totals.{steps_of_actor, same_actor}
use Rattle.dsa_shared.specs.Seat.{client_of, engine_of_seat, number_of_seat, receipts_of}
use Rattle.dsa_shared.specs.Settle.{AgreeSoFar, AllMatch, Match}
use Rattle.dsa_shared.proofs.Agrees.{at_first, at_end}

pub loop-step-init : goal.loop-step-init
loop-step-init g c = record {
  clients = at_first number_of_seat client_of receipts_of c.args.clients.now
      (OnTrue_at c.if-not-stand_in_order.false c.stand_in_order.ensures.few)
      (OnTrue_at c.if-not-stand_in_order.false c.stand_in_order.ensures.order);
  engines = at_first number_of_seat engine_of_seat receipts_of c.args.engines.now
      (OnTrue_at c.if-not-stand_in_order-2.false c.stand_in_order-2.ensures.few)
      (OnTrue_at c.if-not-stand_in_order-2.false c.stand_in_order-2.ensures.order);
  admin = refl;
}

pub loop-step-preserved : goal.loop-step-preserved
loop-step-preserved g c =
    let h = c.args.history.now in
    let so_far = take c.loop-step.step-index h in
    let before = c.loop-step.invariant in
    let more = sym (take_more h c.loop-step.step-index _ c.loop-step-test.true) in
    record {
      clients = subst (λ t. AgreeSoFar number_of_seat client_of receipts_of t c.args.clients.now
          c.follow.new.places) more (OnTrue_at c.if-not-follow.false c.follow.ensures so_far before.clients);
      engines = subst (λ t. AgreeSoFar number_of_seat engine_of_seat receipts_of t c.args.engines.now
          c.follow-in-loop-step.new.places) more
          (OnTrue_at c.if-not-follow-2.false c.follow-in-loop-step.ensures so_far before.engines);
      admin = subst (λ t. take c.follow_admin.new.place c.args.admin.now ≡ steps_of_actor t Admin) more
          (OnTrue_at c.if-not-follow_admin.false c.follow_admin.ensures so_far before.admin);
    }

pub follow-requires-clause-few : goal.follow-requires-clause-few
follow-requires-clause-few g c = OnTrue_at c.if-not-stand_in_order.false c.stand_in_order.ensures.few

pub follow-requires-in-loop-step-clause-few : goal.follow-requires-in-loop-step-clause-few
follow-requires-in-loop-step-clause-few g c = OnTrue_at c.if-not-stand_in_order-2.false c.stand_in_order-2.ensures.few

pub follow-requires-clause-whose : goal.follow-requires-clause-whose
follow-requires-clause-whose g c s =
    ap (λ a. same_actor a (Client s.number)) (sym c.actor-who.ensures) ∙ c.client_number.ensures s.number

pub follow-requires-in-loop-step-clause-whose : goal.follow-requires-in-loop-step-clause-whose
follow-requires-in-loop-step-clause-whose g c s =
    ap (λ a. same_actor a (Engine s.number)) (sym c.actor-who.ensures) ∙ c.engine_number.ensures s.number

pub have_ended-requires : goal.have_ended-requires
have_ended-requires g c = OnTrue_at c.if-not-stand_in_order.false c.stand_in_order.ensures.few

pub have_ended-requires-2 : goal.have_ended-requires-2
have_ended-requires-2 g c = OnTrue_at c.if-not-stand_in_order-2.false c.stand_in_order-2.ensures.few

pub returns : goal.returns
returns g c =
    let h = c.args.history.now in
    let so_far = take c.loop-step.step-index h in
    let met = c.loop-step.invariant in
    let whole : take c.loop-step.step-index h ≡ h = take_all c.loop-step.step-index h c.loop-step-test.false in
    let all : eqb c.loop-step.admin_place (length c.args.admin.now) ≡ true
    → Match h c.args.clients.now c.args.engines.now (Some c.args.admin.now) = λ e. record {
      client_receipts = subst (λ t. AllMatch client_of receipts_of t c.args.clients.now) whole
          (at_end number_of_seat client_of receipts_of so_far c.args.clients.now _
          (OnTrue_at c.if-not-have_ended.false c.have_ended.ensures)
          met.clients);
      engine_receipts = subst (λ t. AllMatch engine_of_seat receipts_of t c.args.engines.now) whole
          (at_end number_of_seat engine_of_seat receipts_of so_far c.args.engines.now _
          (OnTrue_at c.if-not-have_ended-2.false c.have_ended-2.ensures) met.engines);
      admin_receipts =
          let r = c.args.admin.now in
          ap Some (sym (take_all (length r) r (omega arith)) ∙ ap (λ n. take n r) (sym (eqb-true _ _ e))
          ∙ met.admin ∙ ap (λ t. steps_of_actor t Admin) whole);
    } in
    OnTrue_from _ _ all
