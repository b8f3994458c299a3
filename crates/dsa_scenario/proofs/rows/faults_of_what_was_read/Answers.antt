use Rattle.dsa_scenario.proofs.rows.faults_of_what_was_read.Goals as goal
use Rattle.std.proofs.Common.{◌≡◌, ◌++◌, ◌<◌, ◌^◌, ℕ, List, [], ap, arith, codes, length, length-append, lit≤, refl}
use Rattle.serde_json.proofs.OnLiterals.{serde_json_on_literals}

-- a byte that is left was not there
no_byte : (bytes : List ℕ) → [] ≡ bytes ++ codes "c" → ⊥
no_byte bytes same = omega (arith, ap length same, length-append bytes (codes "c"))

pub returns-clause-reading : goal.returns-clause-reading
returns-clause-reading c = (codes "ab", refl, lit≤ tt)

pub returns-clause-unread : goal.returns-clause-unread
returns-clause-unread c is = no_byte is.0 is.1

-- three bytes are no more than a document has
three : (bytes : List ℕ) → codes "abc" ≡ bytes ++ [] → 2 ^ 20 < length bytes → ⊥
three bytes same long = omega (arith, ap length same, length-append bytes [], long)

pub returns-clause-no_length : goal.returns-clause-no_length
returns-clause-no_length c is = three is.0 is.1 is.2

pub returns-clause-writing : goal.returns-clause-writing
returns-clause-writing c = tt

pub returns-clause-memory_alone : goal.returns-clause-memory_alone
returns-clause-memory_alone c = tt

pub returns-clause-not_told : goal.returns-clause-not_told
returns-clause-not_told c is = no_byte is.0 is.1.0

pub returns-clause-no_more : goal.returns-clause-no_more
returns-clause-no_more c is = no_byte is.0 is.1

pub returns-clause-no_fault : goal.returns-clause-no_fault
returns-clause-no_fault c is = is.2

pub returns-clause-no_json : goal.returns-clause-no_json
unfolding serde_json_on_literals
returns-clause-no_json c = (codes "{", (refl, refl, lit≤ tt), λ utf8. refl)
