use Rattle.dsa_serve.proofs.dialogue.Dialogue.add_end.Goals as goal
use Rattle.std.proofs.Common.{◌≡◌, sym, ap, ◌∙◌, arith, length, string_bytes}
use Rattle.std.specs.Prelude.{◌==◌}
use Rattle.std.proofs.lemmas.{Result.{on_ok_weaker}, Bool.{eqb-true, eqb-false}, List.{nil_from_length}}
use Rattle.dsa_serve.proofs.Courses.{ended_whole, ended_rest}
use Rattle.dsa_serve.proofs.dialogue.Dialogue.add_end.Goals.{then-not-is_empty+in_ok-answer}
use Rattle.dsa_serve.proofs.dialogue.Dialogue.add_end.Goals.{else-not-is_empty}

pub returns : goal.returns
returns g c =
    let kept = c.args.self.now.kept.items in
    let empty : c.is_empty.result ≡ (length kept == 0) =
    c.is_empty.ensures ∙ ap (λ n. n == 0) c.args.self.now.kept.ok.0 in
    on_ok_weaker c.add_rows.result
    (λ adds friendly first behind written h. elim c.if-not-is_empty.branch [
      | then-not-is_empty+in_ok-answer w ↦
          ended_rest friendly first behind written _ (string_bytes c.if-not-is_empty.text) _ c.args.self.now.session
          c.if-not-is_empty.self.session kept w.deref.result.now _
          (omega (arith, eqb-false (length kept) 0 (sym empty ∙ w.if-not-is_empty.true)))
          w.deref.ensures.value (rw (w.self-is, w.text-is) w.in_ok-answer.ensures) c.fates.ensures adds h
      | else-not-is_empty w ↦
          let none = nil_from_length kept (eqb-true (length kept) 0 (sym empty ∙ w.if-not-is_empty.false)) in
          ended_whole friendly first behind written _ _ c.args.self.now.session kept _ none
          (rw w.self-is at c.fates.ensures) (rw w.text-is at adds) h
    ])
    c.add_rows.ensures
