use Rattle.dsa_cli.proofs.rows.endings.Goals as goal
use Rattle.std.proofs.Common.{◌≡◌, ◌++◌, inl, inr, refl, subst, arith}
use Rattle.dsa_scenario.specs.Faults.{fault_line}

pub returns-clause-told : goal.returns-clause-told
returns-clause-told c out old new unclosed taken told = told unclosed taken

pub returns-clause-nobody_reads : goal.returns-clause-nobody_reads
returns-clause-nobody_reads c out old new closed = λ unclosed taken. absurd cc

pub returns-clause-not_taken : goal.returns-clause-not_taken
returns-clause-not_taken c out old new refused = λ unclosed taken. absurd cc

pub returns-clause-quiet : goal.returns-clause-quiet
returns-clause-quiet c out old new is = is.0 refl

pub returns-clause-quiet_where_nobody_reads : goal.returns-clause-quiet_where_nobody_reads
returns-clause-quiet_where_nobody_reads c out old new closed is = is.1 refl closed

pub returns-clause-not_quiet : goal.returns-clause-not_quiet
returns-clause-not_quiet c out old new unclosed =
    ((λ status. absurd (omega (arith, status))), (λ status closed. absurd cc))

pub returns-clause-mistaken_words : goal.returns-clause-mistaken_words
returns-clause-mistaken_words c out old new =
    ((λ status. absurd (omega (arith, status))), (λ status closed. absurd (omega (arith, status))))

pub returns-clause-refused : goal.returns-clause-refused
returns-clause-refused c out is = is refl

pub returns-clause-not_of_writing : goal.returns-clause-not_of_writing
returns-clause-not_of_writing c out = λ same. absurd cc

pub returns-clause-no_memory : goal.returns-clause-no_memory
returns-clause-no_memory c writer = inl (refl, refl)

pub returns-clause-unwritten : goal.returns-clause-unwritten
returns-clause-unwritten c old new refused = inr (refl, refused)

pub returns-clause-kept : goal.returns-clause-kept
returns-clause-kept c old new is =
    elim is [
      | inl memory ↦ memory.1
      | inr write ↦ let same = write.0 in absurd cc
    ]

pub returns-clause-refused_words : goal.returns-clause-refused_words
returns-clause-refused_words c old new is =
    elim is [
      | inl memory ↦ let same = memory.0 in absurd cc
      | inr write ↦ write.1
    ]

pub returns-clause-not_of_reading : goal.returns-clause-not_of_reading
returns-clause-not_of_reading c old new is =
    elim is [
      | inl memory ↦ let same = memory.0 in cc
      | inr write ↦ let same = write.0 in cc
    ]

pub returns-clause-end : goal.returns-clause-end
returns-clause-end c status out out' err err' is = (is.same_output, is.same_writer, is.quiet, is.statuses)

pub returns-clause-ended : goal.returns-clause-ended
returns-clause-ended c out old new unclosed taken is =
    subst (λ fault. new.writer.now ≡ old.writer.now ++ fault_line fault) is.1 (is.2 unclosed taken)

pub returns-clause-first_line_refused : goal.returns-clause-first_line_refused
returns-clause-first_line_refused c had left old new is =
    is.2.1 (λ late. elim late [
      | inl read ↦ cc
      | inr (inl write) ↦ cc
      | inr (inr memory) ↦ cc
    ])
