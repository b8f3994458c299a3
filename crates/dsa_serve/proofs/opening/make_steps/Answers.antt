use Rattle.dsa_serve.proofs.opening.make_steps.Goals as goal
use Rattle.std.proofs.Common.{◌≡◌, ◌<◌, ◌+◌, List, [], ◌∷◌, ◌++◌, Some, None, sym, ap, ◌∙◌, refl}
use Rattle.std.proofs.Common.{subst, map, take, arith, length, length-append}
use Rattle.std.proofs.Common.{length-take-le}
use Rattle.std.proofs.lemmas.List.{length-map, map-append, take_all}
use Rattle.serde_json.specs.View.{view}
use Rattle.dsa_scenario.specs.declared.actions.Action.{Action}
use Rattle.dsa_conform.specs.Seen.{Seen, seen_as}
use Rattle.dsa_conform.proofs.{Objects.{at_item, count_read}, Steps.{reads_item, read_to}}
use Rattle.dsa_expand.proofs.Lists.{taken_more}
use Rattle.dsa_serve.proofs.Courses.{names_none, names_push}
use Rattle.dsa_serve.specs.Names.{names_given_by, own_names_of, names_over}
use Rattle.dsa_serve.specs.{Requests.{step_request}}

pub loop-step-init : goal.loop-step-init
loop-step-init c = (
  c.requires.0,
  c.requires.1,
  λ caps capacity h. ([], h, refl, names_none (own_names_of c.args.session.now)),
)

pub unreachable-requires : goal.unreachable-requires
unreachable-requires c =
    let vs = c.args.steps.now in
    let i = c.loop-step.step-index in
    reads_item (map view vs) c.loop-step.invariant.0 i c.loop-step.invariant.1
    (subst (λ n. i < n) (sym (length-map vs view)) c.loop-step-test.true)
    (at_item vs i c.step-item.result None c.loop-step-test.true c.step-item.is c.in_default.ensures)

pub loop-step-preserved : goal.loop-step-preserved
loop-step-preserved c =
    let observed = c.loop-step.invariant.0 in
    let i = c.loop-step.step-index in
    let here : Action × Seen = (c.in-Some.action, seen_as c.in-Some.seen) in
    let at = read_to (map view c.args.steps.now) observed i here c.loop-step.invariant.1
    (at_item c.args.steps.now i c.step-item.result (Some here) c.loop-step-test.true c.step-item.is
    c.in-Some.ensures) in
    let more : map step_request (take (i + 1) observed)
    ≡ map step_request (take i observed) ++ step_request here ∷ [] =
    ap (map step_request) at.more ∙ map-append step_request (take i observed) (here ∷ []) in (
      observed,
      c.loop-step.invariant.1,
      λ caps capacity h.
          let before = c.loop-step.invariant.2 caps capacity h in
          let it = c.in_ok-step.ensures in
          let vs = c.args.steps.now in
          let read : take (i + 1) (map view vs) ≡ take i (map view vs) ++ view c.step-item.result ∷ [] =
          taken_more view vs i c.step-item.result c.loop-step-test.true c.step-item.is in
          let many : length observed ≡ length vs = count_read vs observed c.loop-step.invariant.1 in
          let count : length before.0 ≡ length (take i (map view vs)) =
          before.2 ∙ length-take-le i observed (omega (arith, c.loop-step-test.true, many))
          ∙ sym (length-take-le i (map view vs) (omega (arith, c.loop-step-test.true, length-map vs view))) in
          let longer : length (take (i + 1) observed) ≡ length (take i observed) + 1 =
          ap (λ (l : List (Action × Seen)). length l) at.more
          ∙ length-append (take i observed) (here ∷ []) in (
            before.0 ++ it.0 ∷ [],
            rw more (it.1 caps capacity (map step_request (take i observed)) before.0 [] before.1),
            length-append before.0 (it.0 ∷ []) ∙ ap (λ n. n + 1) before.2 ∙ sym longer,
            it.2 ∙ ap (λ n. names_given_by n (Some (view c.step-item.result)) (it.0 ∷ [])) before.3
                ∙ names_push (own_names_of c.args.session.now) (take i (map view vs)) before.0
                (view c.step-item.result) it.0 count
                ∙ ap (λ ds. names_over (own_names_of c.args.session.now) ds (before.0 ++ it.0 ∷ []))
                (sym read),
          ),
    )

pub returns : goal.returns
returns c =
    let observed = c.loop-step.invariant.0 in
    let i = c.loop-step.step-index in
    let past = c.loop-step-test.false in
    let all : take i observed ≡ observed =
    take_all i observed
    (omega (arith, past, count_read c.args.steps.now observed c.loop-step.invariant.1)) in (
      observed,
      c.loop-step.invariant.1,
      λ caps capacity h.
          let it = c.loop-step.invariant.2 caps capacity h in
          let vs = c.args.steps.now in
          let whole : take i (map view vs) ≡ map view vs =
          take_all i (map view vs) (omega (arith, past, length-map vs view)) in (
            it.0,
            rw all at it.1,
            rw all at it.2,
            rw whole at it.3,
          ),
    )
