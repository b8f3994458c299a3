use Rattle.std.proofs.Common.{ap, ◌∙◌}
use Rattle.dsa_key_bytes.specs.{Line.{with_numbers}, KeyBytes.{optional, number_of_phase, numbers_of_noted}}
use Rattle.dsa_key_bytes.proofs.Lines.{renumber, written-three}
use Rattle.dsa_key_bytes.proofs.writing.write_standing.Goals as goal

pub returns : goal.returns
returns g c = written-three c.args.line.now c.write_number.new.self c.write_phases.new.line c.write_noted.new.line _ _ _
    (renumber c.args.line.now c.write_number.new.self _ _ c.write_number.ensures
    (c.number_of_phase.ensures ∙ ap number_of_phase c.phase.ensures))
    c.write_phases.ensures
    (c.write_noted.ensures
    ∙ ap (λ noted. with_numbers c.write_phases.new.line (optional numbers_of_noted noted)) c.noted.ensures)
