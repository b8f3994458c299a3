-- Whether a question can be read.
use Rattle.std.specs.Prelude.{Bool, ◌&&◌, is_some, [], codes}
use Rattle.serde_json.specs.{Data.{Data}, Find.{get}}
use Rattle.dsa_questions.specs.declared.question.Kind.{Kind}
use Rattle.dsa_questions.specs.{Conditions.{has_keys}, Stating.{Nameable}}
use Rattle.dsa_questions.specs.Reading.{Inquiry, keys_wanted, name_by, question_onto}

-- no question
abbrev pub no_questions : Inquiry
no_questions = record { asked = []; watches = [] }

-- the question can be read, where this may be named; it does not depend on those before it
abbrev pub is_question : Kind → Nameable → Data → Bool
is_question kind names d = is_some (question_onto kind names no_questions d)

-- the object has `that` and no other key, but for a name that a question may have
abbrev pub is_formed : Data → Bool
is_formed d = has_keys (keys_wanted d) d
    && (is_some (name_by 0 (get (codes "name") d)) && is_some (get (codes "that") d))
