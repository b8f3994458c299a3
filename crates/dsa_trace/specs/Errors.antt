-- What is told of the noted error.
use Rattle.std.specs.Prelude.{ℕ, List, [], ◌++◌, Option, Some, None, codes, decimal}
use Rattle.dsa_book.specs.declared.answer.NotedError.{NotedError}
use Rattle.dsa_event_text.specs.Text.{truth_text}
use Rattle.dsa_scenario.specs.Lines.{cause_text}
use Rattle.dsa_trace.specs.declared.form.Trace.{Trace, TheVariants.{Json}}
use Rattle.dsa_trace.specs.declared.form.Part.TheVariants.{NoError, Error, ObjectEnd}
use Rattle.dsa_trace.specs.Marks.{mark}

-- the queue and the cause of the first descriptor that was dropped, and whether more were
abbrev pub error_members : NotedError → List ℕ
error_members noted =
    (codes "\"queue\":" ++ decimal noted.queue) ++ (codes ",\"cause\":\"" ++ cause_text noted.cause)
    ++ (codes "\",\"overflow\":" ++ truth_text noted.overflow)

-- the error that is noted, or that none is; a row shows neither (profile)
abbrev pub error_part : Trace → Option NotedError → List ℕ
error_part Json None = mark Json NoError
error_part Json (Some noted) = mark Json Error ++ error_members noted ++ mark Json ObjectEnd
error_part _ noted = []
