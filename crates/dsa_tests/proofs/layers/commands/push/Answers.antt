use Rattle.dsa_tests.proofs.layers.commands.push.Goals as goal
use Rattle.std.proofs.Common.{rules, ◌≡◌, ℕ, ◌+◌, ◌<◌, true, false, length, ◌++◌, [], ◌∷◌, refl, arith}
use Rattle.std.proofs.lemmas.Bool.{ltb-true}
use Rattle.dsa_store.specs.Content.{Content, chain}
use Rattle.dsa_book.specs.State.{Setup, is_off, has_queue}
use Rattle.dsa_queues.proofs.Counts.{counted-pushed, counted-setup}
use Rattle.dsa_engines.{specs.Engines.{EnginesState, IsInStep}, proofs.Keeping.{in_step-queue}}
use Rattle.dsa_tests.proofs.Waiting.{awaiting-pushed}

-- a name that is given changes nothing of it
named : {cells : ℕ} {setup : Setup} {engines_state : EnginesState} {content : Content} (name : ℕ)
    → IsInStep setup engines_state cells content → IsInStep (record setup { next_name = name }) engines_state cells content
named name s = assumption

pub entered-requires-clause-room : goal.entered-requires-clause-room
entered-requires-clause-room g c =
    let there : has_queue c.args.parts.now.queues.setup c.args.queue ≡ true = search rules in
    let s = c.requires.agree.in_step in
    let pushed = counted-pushed c.args.parts.now.queues _ _ c.args.queue _ _ c.in-Some.ensures.some
    (omega (arith, ltb-true _ _ there, s.store.lists)) there c.requires.agree.counted in
    rw c.give_name.ensures.after (omega (
      arith,
      pushed.0,
      (g.met.S.EntryStore.sound c.push_back.new.self).room,
      c.push_back.ensures.cells,
      s.store.cells,
    ))

pub returns : goal.returns
returns g c =
    let parts = c.args.parts.now in
    let on : is_off parts.queues.setup.device ≡ false = search rules in
    let there : has_queue parts.queues.setup c.args.queue ≡ true = search rules in
    let s = c.requires.agree.in_step in
    let content : Content = g.S.EntryStore.content parts.store in
    let within : c.args.queue < parts.queues.setup.caps.queues = ltb-true _ _ there in
    let list : c.args.queue < length content = omega (arith, within, s.store.lists) in
    let pushed = counted-pushed parts.queues _ _ c.args.queue _ _ c.in-Some.ensures.some list there
    c.requires.agree.counted in
    let in_step : IsInStep parts.queues.setup parts.engines (g.S.EntryStore.cells c.push_back.new.self)
    (g.S.EntryStore.content c.push_back.new.self) =
    rw c.in-Some.ensures.some (in_step-queue s on c.push_back.ensures.cells c.args.queue
    (chain content c.args.queue ++ (c.in-Some.cell, _) ∷ []) within) in
    rw (c.entered.ensures, c.give_name.ensures.after) (record {
      agree = record {
        in_step = named (parts.queues.setup.next_name + 1) in_step;
        counted = counted-setup _ _ _ refl refl pushed.1;
      };
      awaiting = awaiting-pushed parts.admin parts.queues.setup.next_name content _ c.args.queue _ _
          c.in-Some.ensures.some list c.give_name.ensures.name c.requires.awaiting;
      rows = c.requires.rows;
    })
