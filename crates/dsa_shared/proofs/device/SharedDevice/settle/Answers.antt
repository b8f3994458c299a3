use Rattle.dsa_shared.proofs.device.SharedDevice.settle.Goals as goal
use Rattle.std.proofs.{Common.{◌∙◌, Some, sym, ap}, lemmas.Option.{same_Some}}
use Rattle.dsa_shared.proofs.Sums.{complete_by}
use Rattle.std.proofs.Common.{arith}
use Rattle.std.proofs.lemmas.Grind.{common_steps}

pub returns-in-Some-clause-mismatch : goal.returns-in-Some-clause-mismatch
returns-in-Some-clause-mismatch g c other =
    let engines = ap (λ k. k.engines) (c.caps-engines.ensures ∙ c.locked.invariant.2) in
    complete_by _ _ _ _ _ _ _ c.args.self.clients_are engines
    (c.in-Some.ensures.complete (λ e. other (same_Some _ _ e)))

pub returns-in-Some-clause-missing : goal.returns-in-Some-clause-missing
returns-in-Some-clause-missing g c =
    let engines = ap (λ k. k.engines) (c.caps-engines.ensures ∙ c.locked.invariant.2) in
    let missing = c.in-Some.ensures.missing in (
      λ is all. missing.0 (ap Some is)
          (complete_by _ _ _ _ _ _ _ (sym c.args.self.clients_are) (sym engines) all),
      λ no. same_Some _ _ (missing.1 (λ all. no (complete_by _ _ _ _ _ _ _ c.args.self.clients_are engines all))),
    )

pub returns-in-Some-clause-mismatch_at : goal.returns-in-Some-clause-mismatch_at
returns-in-Some-clause-mismatch_at g c i is =
    let first = (c.in-Some.ensures.mismatch i).0 (ap Some is) in (
      _,
      record {
        not_anew = c.locked.invariant.3;
        replay = c.state_is_replay.ensures.replay c.locked.invariant.3;
        same_caps = c.locked.invariant.2;
        same_capacity = c.locked.invariant.1;
      },
      rw c.history.ensures at first.1,
    )

pub finish-requires-clause-complete : goal.finish-requires-clause-complete
finish-requires-clause-complete = grind (arith, common_steps)

pub returns-clause-complete : goal.returns-clause-complete
returns-clause-complete g c =
    let engines = ap (λ k. k.engines) (c.caps-engines.ensures ∙ c.locked.invariant.2) in
    complete_by _ _ _ _ _ _ _ c.args.self.clients_are engines
    (c.check.ensures.complete (λ is. grind (arith, is, c.in_default.is)))
