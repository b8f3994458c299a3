use Rattle.dsa_explore.proofs.schedules.schedules_have_a_length.Goals as goal
use Rattle.dsa_explore.proofs.Scheduled.{schedule-length, schedule-to-length}

pub returns-clause-findings : goal.returns-clause-findings
returns-clause-findings c = λ caps script setup count finding steps s.
    schedule-length caps script setup 0 count finding steps s

pub returns-clause-worlds : goal.returns-clause-worlds
returns-clause-worlds c = λ caps script setup count world steps s.
    schedule-to-length caps script setup 0 count world steps s
