use Rattle.std.proofs.Common.{[], ◌∷◌, ◌/◌, ap, ◌∙◌, arith}
use Rattle.dsa_key_bytes.specs.Line.{Written, with_numbers}
use Rattle.dsa_key_bytes.proofs.Lines.{small-written, large-written}
use Rattle.dsa_key_bytes.proofs.line.Line.write_number.Goals as goal

pub loop-rest-preserved : goal.loop-rest-preserved
loop-rest-preserved c = ap (λ (line : Written). with_numbers line (c.loop-rest.rest / 128 ∷ [])) c.write_byte.ensures
    ∙ large-written c.loop-rest.self c.loop-rest.rest (omega arith) ∙ c.loop-rest.invariant

pub returns : goal.returns
returns c = c.write_byte-2.ensures ∙ small-written c.loop-rest.self c.loop-rest.rest (omega arith)
    ∙ c.loop-rest.invariant
