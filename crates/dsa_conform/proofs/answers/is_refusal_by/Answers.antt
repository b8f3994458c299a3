use Rattle.std.proofs.Common.{◌≡◌, ◌∙◌, ap, codes, decimal, refl}
use Rattle.std.specs.Prelude.{bytes_eq}
use Rattle.dsa_regs.specs.Fault.{fault_name, fault_number}
use Rattle.dsa_conform.specs.Answers.{following}
use Rattle.dsa_conform.proofs.Refusals.{of_refusal}
use Rattle.dsa_conform.proofs.answers.is_refusal_by.Goals as goal

pub returns : goal.returns
returns c =
    let number : c.format-number.result.now ≡ decimal (fault_number c.args.fault) =
    c.format-number.ensures.text ∙ ap decimal (c.from.ensures ∙ c.number.ensures) in
    let name : c.following-name.result.now
    ≡ following (following (following c.args.text.now (codes "refused ")) (decimal (fault_number c.args.fault)))
    (codes " ") =
    rw (c.following-name.ensures, c.following-2.ensures, c.following.ensures, number) refl in
    c.eq.ensures ∙ ap (bytes_eq c.following-name.result.now) c.name.ensures
    ∙ ap (λ text. bytes_eq text (fault_name c.args.fault)) name ∙ of_refusal c.args.text.now c.args.fault
