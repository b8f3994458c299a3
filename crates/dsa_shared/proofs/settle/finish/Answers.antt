use Rattle.dsa_shared.proofs.settle.finish.Goals as goal
use Rattle.std.proofs.Common.{◌≡◌, length, ap, sym, ◌∙◌, subst, cond, arith}
use Rattle.dsa_store.specs.Content.{held_count}
use Rattle.dsa_book.specs.Totals.{is_accepted, is_retried, is_fetched, is_done, lost_by}
use Rattle.dsa_accounts.proofs.{Totals.{replay-held}, Accounted.{replay-accepted, replay-fetched}}
use Rattle.dsa_accounts.proofs.Abandons.{replay-lawful}
use Rattle.dsa_shared.specs.{Settle.{over_seats}, Totals.{totals_of, Balance}}
use Rattle.dsa_shared.proofs.{Sums.{seats_sum, seats_len}, settle.finish.{Given.{Over}, Goals.{After-close}}}
use Rattle.dsa_device.specs.Running.{Running, IsReplay}
use Rattle.dsa_laws.specs.WellFormed.{IsWellFormed}

pub close-requires-clause-all : goal.close-requires-clause-all
close-requires-clause-all g c =
    let complete = c.requires.complete in
    (seats_len _ _ complete.each_client, seats_len _ _ complete.each_engine, complete.has_admin)

here : (g : Over) (c : After-close g) → c.history.result.now ≡ c.args.locked.history
here g c = c.history.ensures ∙ ap (λ l. l.history) c.locked.view_is

totals : (g : Over) (c : After-close g)
    → c.count-totals.result ≡ totals_of c.args.locked.history (held_count c.args.locked.state.work.content)
totals g c = c.count-totals.ensures ∙ (λ i.
    totals_of (here g c i) ((c.held.ensures.value ∙ ap (λ l. held_count l.state.work.content) c.locked.view_is) i))

all : (g : Over) (c : After-close g) → over_seats length c.args.seats.clients.items c.args.seats.engines.items
    c.args.seats.admin ≡ length c.args.locked.history
all g c = sym c.close.ensures ∙ ap (λ t. t.steps) (totals g c)

pub returns-clause-totals : goal.returns-clause-totals
returns-clause-totals g c = totals g c

pub returns-clause-sums : goal.returns-clause-sums
returns-clause-sums g c =
    let complete = c.requires.complete in
    let matched = c.requires.matched in
    let whole = all g c in
    let is = totals g c in
    record {
      accepted = ap (λ t. t.accepted) is
          ∙ sym (seats_sum (λ x. cond (is_accepted x.reply) 1 0) _ _ _ _ _ _ complete matched whole);
      fetched = ap (λ t. t.fetched) is ∙ sym
          (seats_sum (λ x. cond (is_fetched x.reply) 1 0) _ _ _ _ _ _ complete matched whole);
      retried = ap (λ t. t.retried) is ∙ sym
          (seats_sum (λ x. cond (is_retried x.reply) 1 0) _ _ _ _ _ _ complete matched whole);
      done = ap (λ t. t.done) is ∙ sym (seats_sum (λ x. cond (is_done x.reply) 1 0) _ _ _ _ _ _ complete matched whole);
      lost = ap (λ t. t.lost) is ∙ sym (seats_sum (λ x. lost_by x.reply) _ _ _ _ _ _ complete matched whole);
      steps = c.close.ensures;
    }

pub returns-clause-balance : goal.returns-clause-balance
returns-clause-balance g c =
    let d = c.locked.inside.device in
    let replayed = (c.state_is_replay.ensures.replay c.locked.invariant.3).replayed in
    let is : c.count-totals.result ≡ totals_of d.history (held_count d.state.work.content) = c.count-totals.ensures
    ∙ (λ i. totals_of (c.history.ensures i) (c.held.ensures.value i)) in
    let P : Running → Type 0 = λ r. Balance c.count-totals.result r.state.work in
    subst P c.locked.view_is (record {
      all =
          let balance = replay-held d.caps d.history d.state replayed in
          let accepted = ap (λ t. t.accepted) is in
          let fetched = ap (λ t. t.fetched) is in
          let done = ap (λ t. t.done) is in
          let lost = ap (λ t. t.lost) is in
          let held_count = ap (λ t. t.held) is in
          omega (arith, balance, accepted, fetched, done, lost, held_count);
      accepted = ap (λ t. t.accepted) is ∙ replay-accepted d.caps d.history d.state replayed;
      fetched = ap (λ t. t.fetched) is ∙ replay-fetched d.caps d.history d.state replayed;
      members_alone = replay-lawful d.caps d.history d.state replayed;
    })

pub close-requires-clause-steps : goal.close-requires-clause-steps
close-requires-clause-steps g c = c.locked.invariant.0 ∙ sym (ap length c.history.ensures)
    ∙ sym (ap (λ t. t.steps) c.count-totals.ensures)

pub returns-clause-device : goal.returns-clause-device
returns-clause-device g c = c.locked.view_is

pub returns-clause-replay : goal.returns-clause-replay
returns-clause-replay g c = subst IsReplay c.locked.view_is (c.state_is_replay.ensures.replay c.locked.invariant.3)

pub returns-clause-well_formed : goal.returns-clause-well_formed
returns-clause-well_formed g c =
    subst (λ r. IsWellFormed r.caps r.state) c.locked.view_is
    (c.state_is_replay.ensures.well_formed c.locked.invariant.3)

pub returns-clause-caps : goal.returns-clause-caps
returns-clause-caps g c = ap (λ l. l.caps) (sym c.locked.view_is) ∙ c.locked.invariant.2

pub returns-clause-capacity : goal.returns-clause-capacity
returns-clause-capacity g c = ap (λ l. l.capacity) (sym c.locked.view_is) ∙ c.locked.invariant.1

pub returns-clause-not_anew : goal.returns-clause-not_anew
returns-clause-not_anew g c = ap (λ l. l.anew) (sym c.locked.view_is) ∙ c.locked.invariant.3
