-- The text of a refusal, from its beginning on.
use Rattle.std.proofs.Common.{◌≡◌, ◌∙◌, ◌<◌, ℕ, List, ◌++◌, codes, decimal, length, sym, ap, append_assoc, length-append, arith}
use Rattle.std.specs.Prelude.{bytes_eq}
use Rattle.dsa_regs.specs.{declared.Fault.{Fault}, Fault.{fault_name, fault_number}}
use Rattle.dsa_scenario.specs.Lines.{refusal_text}
use Rattle.dsa_conform.specs.Answers.{following}
use Rattle.dsa_conform.proofs.Beginnings.{of_both}

has_name : (fault : Fault) → 0 < length (fault_name fault)
has_name fault = grind arith

-- a text of three parts and a last one
of_all : (text first second third last : List ℕ) → 0 < length last → 0 < length (third ++ last)
    → 0 < length (second ++ (third ++ last))
    → bytes_eq (following (following (following text first) second) third) last
    ≡ bytes_eq text (first ++ (second ++ (third ++ last)))
of_all text first second third last some more all =
    of_both (following (following text first) second) third last some
    ∙ of_both (following text first) second (third ++ last) more
    ∙ of_both text first (second ++ (third ++ last)) all

pub of_refusal : (text : List ℕ) (fault : Fault)
    → bytes_eq (following (following (following text (codes "refused ")) (decimal (fault_number fault))) (codes " "))
    (fault_name fault)
    ≡ bytes_eq text (refusal_text fault)
of_refusal text fault =
    let number : List ℕ = decimal (fault_number fault) in
    of_all text (codes "refused ") number (codes " ") (fault_name fault) (has_name fault) (omega arith)
    (omega (arith, length-append number (codes " " ++ fault_name fault)))
    ∙ ap (λ rest. bytes_eq text (codes "refused " ++ rest)) (sym (append_assoc number (codes " ") (fault_name fault)))
