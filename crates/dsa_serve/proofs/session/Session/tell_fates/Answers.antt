use Rattle.dsa_serve.proofs.session.Session.tell_fates.Goals as goal
use Rattle.std.proofs.Common.{◌≡◌, ◌++◌, ◌-◌, ap, ◌∙◌, arith, drop, length, length-drop, List, min, refl}
use Rattle.std.proofs.Common.{string_bytes, take}
use Rattle.std.proofs.lemmas.List.{drop_min, take_all}
use Rattle.dsa_book.specs.declared.fate.FateRow.{FateRow}
use Rattle.dsa_serve.specs.Answers.{new_fates_text}
use Rattle.dsa_serve.proofs.Sessions.{fates_told}

pub returns : goal.returns
returns g c =
    let now = c.args.self.now in
    let fates = c.fates-fates.result.now in
    let same : fates ≡ now.device.state.work.fates = c.fates-fates.ensures in
    let start : c.min.result ≡ min now.told (length fates) = c.min.ensures in
    let rest : take (length fates - c.min.result) (drop c.min.result fates) ≡ drop now.told fates =
    take_all (length fates - c.min.result) (drop c.min.result fates)
    (omega (arith, length-drop c.min.result fates))
    ∙ ap (λ n. drop n fates) start ∙ drop_min now.told fates in (
      fates_told now (record now { told = length fates }) (string_bytes c.args.text.now)
          (string_bytes c.add_fates.new.text) refl refl refl (ap (λ (l : List FateRow). length l) same)
          (c.in_ok-add_fates.ensures
          ∙ ap (λ l. string_bytes c.args.text.now ++ new_fates_text l) (rest ∙ ap (drop now.told) same)),
      refl,
    )
