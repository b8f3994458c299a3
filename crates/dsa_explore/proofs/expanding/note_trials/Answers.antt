use Rattle.dsa_explore.proofs.expanding.note_trials.Goals as goal
use Rattle.std.proofs.Common.{◌≡◌, ◌∙◌, ◌+◌, ◌++◌, ◌∷◌, [], List, get_or, map, take, ap, sym, subst, refl, arith}
use Rattle.std.proofs.lemmas.List.{take_all, take_more}
use Rattle.dsa_base.specs.Lists.{In}
use Rattle.dsa_explore.specs.declared.{stored.Try.{Try}, trials.Trial.{Trial}}
use Rattle.dsa_explore.specs.{Trying.{AreTried}, Walked.{space_of}}
use Rattle.dsa_explore.proofs.{Added.{In-at}, Growth.{map-push}, Noted.{tried-both, tried-none}}

pub loop-trial-init : goal.loop-trial-init
loop-trial-init c = (
  λ caps script first table x is each.
      tried-none (space_of caps script) first c.args.search.now table c.args.number x is,
  (refl, (refl, refl)),
)

pub returns-in-Some-clause-halted : goal.returns-in-Some-clause-halted
returns-in-Some-clause-halted c = λ caps script first table x set_up is each.
    let t = c.loop-trial.invariant.0 caps script first table x is each in
    (rw c.in-Some.is at c.in_ok-halt.ensures.halted) caps script first t.more x set_up t.further.is_at
    (each c.trial-item.result (subst (λ (t : Trial). In t c.args.trials.now) (sym c.trial-item.is)
    (In-at c.args.trials.now c.loop-trial.trial-index c.trial-item.result c.loop-trial-test.true)))

pub loop-trial-preserved : goal.loop-trial-preserved
loop-trial-preserved c = (
  λ caps script first table x is each.
      let space = space_of caps script in
      let t = c.loop-trial.invariant.0 caps script first table x is each in
      let i = c.loop-trial.trial-index in
      let one = (rw c.in_default.is at c.in_ok-halt.ensures.noted) caps script first t.more x t.further.is_at
      (each c.trial-item.result (subst (λ (t : Trial). In t c.args.trials.now) (sym c.trial-item.is)
      (In-at c.args.trials.now i c.trial-item.result c.loop-trial-test.true))) in
      let tried : Trial → Try = λ (trial : Trial). trial.tried in
      subst (λ (l : List Try). AreTried space first c.args.search.now table c.args.number x l c.note_trial.new.search)
      (sym (ap (map tried) (take_more c.args.trials.now i c.trial-item.result c.loop-trial-test.true
      ∙ ap (λ (t : Trial). take i c.args.trials.now ++ t ∷ []) (sym c.trial-item.is))
      ∙ map-push tried (take i c.args.trials.now) c.trial-item.result))
      (tried-both space first c.args.search.now c.loop-trial.search c.note_trial.new.search table c.args.number x
      (map tried (take i c.args.trials.now)) (c.trial-item.result.tried ∷ []) t one),
  (
    c.in_ok-halt.ensures.most ∙ c.loop-trial.invariant.1.0,
    (
      c.in_ok-halt.ensures.width ∙ c.loop-trial.invariant.1.1.0,
      c.in_ok-halt.ensures.front ∙ c.loop-trial.invariant.1.1.1,
    ),
  ),
)

pub returns-clause-noted : goal.returns-clause-noted
returns-clause-noted c = λ caps script first table x is each.
    subst (λ (l : List Trial). AreTried (space_of caps script) first c.args.search.now table c.args.number x
    (map (λ (trial : Trial). trial.tried) l) c.loop-trial.search)
    (take_all c.loop-trial.trial-index c.args.trials.now (omega (arith, c.loop-trial-test.false)))
    (c.loop-trial.invariant.0 caps script first table x is each)
