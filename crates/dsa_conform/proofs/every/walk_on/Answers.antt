use Rattle.dsa_conform.proofs.every.walk_on.Goals as goal
use Rattle.std.proofs.Common.{◌+◌, ◌++◌, ◌∙◌, List, ℕ, refl, sym, ap, subst, length, map, string_bytes}
use Rattle.std.proofs.lemmas.List.{length-map}
use Rattle.serde_json.specs.View.{view}
use Rattle.dsa_conform.specs.{Every.{AreFoundDiffering}, Run.{AreRead}, Sights.{bared}}
use Rattle.dsa_conform.proofs.Bare.{length_bared}
use Rattle.dsa_conform.proofs.Striking.{all_found, differs_within, first_found, more_found, none_differs, one_differs}

pub leave_out-requires : goal.leave_out-requires
leave_out-requires c =
    let vs = c.args.head.now.steps.now in
    differs_within c.args.head.now.caps c.args.head.now.capacity (map view vs) c.args.first
    (length c.in_ok-left_out.left_out.items) (string_bytes c.args.text) c.requires.differs
    (length-map vs view ∙ sym c.in_ok-left_out.ensures.0)

pub loop-before-init : goal.loop-before-init
loop-before-init c =
    let steps = map view c.args.head.now.steps.now in
    let observed = c.requires.read.0 in (
      first_found c.args.head.now.caps c.args.head.now.capacity steps (bared c.leave_out.new.left_out.items steps)
          observed c.args.first (string_bytes c.args.text) c.requires.read.1 c.requires.differs
          (c.leave_out.ensures.read steps observed
          (subst (λ ds. AreRead ds observed) (sym (c.in_ok-left_out.ensures.1 steps)) c.requires.read.1)),
      c.leave_out.ensures.as_many ∙ c.in_ok-left_out.ensures.0,
    )

pub walk_counted-requires : goal.walk_counted-requires
walk_counted-requires c =
    (c.loop-before.invariant.0.now, rw c.as_slice.ensures.value c.loop-before.invariant.0.left_is)

pub leave_out-requires-in-loop-before : goal.leave_out-requires-in-loop-before
leave_out-requires-in-loop-before c =
    let told = c.in_ok-verdict.verdict in
    let vs = c.args.head.now.steps.now in
    let marks = c.as_slice.result.now in
    differs_within c.args.head.now.caps c.args.head.now.capacity (bared marks (map view vs)) c.in-Some.number
    (length c.loop-before.left_out.items) (string_bytes told.text)
    (one_differs c.args.head.now.caps c.args.head.now.capacity (bared marks (map view vs)) told.fault c.in-Some.number
    (string_bytes told.text) c.in_ok-verdict.ensures c.in-Some.ensures)
    (length_bared marks (map view vs) ∙ length-map vs view ∙ sym c.loop-before.invariant.1)

pub loop-before-preserved : goal.loop-before-preserved
loop-before-preserved c =
    let told = c.in_ok-verdict.verdict in
    let caps = c.args.head.now.caps in
    let capacity = c.args.head.now.capacity in
    let steps = map view c.args.head.now.steps.now in
    let old = bared c.loop-before.left_out.items steps in
    let new = bared c.leave_out-in-loop-before.new.left_out.items steps in (
      subst (λ (text : List ℕ). AreFoundDiffering caps capacity steps c.args.first (c.loop-before.before + 1 + 1) text
          new)
          (sym (c.in_ok-push_str.ensures.bytes
          ∙ ap (λ (l : List ℕ). string_bytes c.loop-before.text ++ l) c.as_str.ensures.value))
          (more_found caps capacity steps old new c.args.first (c.loop-before.before + 1) c.in-Some.number
          (string_bytes c.loop-before.text) (string_bytes told.text) c.loop-before.invariant.0
          (one_differs caps capacity old told.fault c.in-Some.number (string_bytes told.text)
          (rw c.as_slice.ensures.value at c.in_ok-verdict.ensures) c.in-Some.ensures)
          (c.leave_out-in-loop-before.ensures.read steps)),
      c.leave_out-in-loop-before.ensures.as_many ∙ c.loop-before.invariant.1,
    )

pub returns-in_default : goal.returns-in_default
returns-in_default c =
    let told = c.in_ok-verdict.verdict in
    let caps = c.args.head.now.caps in
    let capacity = c.args.head.now.capacity in
    let left = bared c.loop-before.left_out.items (map view c.args.head.now.steps.now) in
    let none = none_differs caps capacity left told.fault (string_bytes told.text)
    (rw c.as_slice.ensures.value at c.in_ok-verdict.ensures) c.in_default.ensures in (
      refl,
      all_found caps capacity c.args.head.now.steps.now left c.args.first (c.loop-before.before + 1)
          c.count_seen.result (string_bytes c.loop-before.text) (string_bytes c.add_differs.new.text)
          (string_bytes told.text) c.loop-before.invariant.0 none.1 c.count_seen.ensures c.in_ok-add_differs.ensures,
    )
