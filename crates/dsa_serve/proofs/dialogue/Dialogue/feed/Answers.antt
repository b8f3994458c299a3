use Rattle.dsa_serve.proofs.dialogue.Dialogue.feed.Goals as goal
use Rattle.std.proofs.Common.{[], ◌∷◌, ◌++◌, take, refl, sym, ap, append-nil, ◌∙◌, append_assoc}
use Rattle.std.proofs.Common.{subst, string_bytes, arith}
use Rattle.dsa_serve.specs.Dialogue.{Serves}
use Rattle.dsa_serve.proofs.{Courses.{rest_kept}, Lines.{before_feed, no_feed, behind_feed}}

pub lines-init : goal.lines-init
lines-init g c = ([], refl, λ friendly first behind written h. rw (append-nil behind) h)

pub lines-preserved : goal.lines-preserved
lines-preserved g c =
    let rest = c.lines.rest.now in
    let at = c.in-Some.at in
    let first_feed = c.in-Some.ensures in
    let before = c.lines.invariant in
    let piece = take at rest in
    let line = before_feed rest at (omega (arith, first_feed.0.high)) first_feed.0.before in (
      before.0 ++ piece ++ 10 ∷ [],
      behind_feed c.args.bytes.now before.0 rest at first_feed.0.high first_feed.1 before.1,
      λ friendly first behind written h.
          subst (λ read. Serves friendly first read (written ++ string_bytes c.end_line.new.text)
          c.end_line.new.self.session c.end_line.new.self.kept.items)
          (ap (λ l. l ++ 10 ∷ []) (append_assoc behind before.0 piece)
          ∙ append_assoc behind (before.0 ++ piece) (10 ∷ []))
          (c.in_ok-end_line.ensures line friendly first (behind ++ before.0) written
          (before.2 friendly first behind written h)),
    )

pub returns : goal.returns
returns g c friendly first behind written h =
    let rest = c.lines.rest.now in
    let before = c.lines.invariant in
    subst (λ read. Serves friendly first read (written ++ string_bytes c.lines.text) c.lines.self.session
    c.keep.new.kept.items)
    (append_assoc behind before.0 rest ∙ ap (λ l. behind ++ l) (sym before.1))
    (rest_kept friendly first (behind ++ before.0) (written ++ string_bytes c.lines.text) rest
    c.lines.self.kept.items c.keep.new.kept.items c.lines.self.session (no_feed rest c.in_default.ensures)
    (λ front is. c.in_ok-keep.ensures front is) (before.2 friendly first behind written h))
