-- What a trace with own names is of.
use Rattle.std.specs.Prelude.{◌≡◌, ℕ, List, ◌++◌, flat_map}
use Rattle.dsa_device.specs.Running.{Running}
use Rattle.dsa_named.specs.Steps.{NamedVisit, IsNamedText}
use Rattle.dsa_trace.specs.{declared.form.Trace.{Trace}, Held.{held_lines}}
use Rattle.dsa_named_trace.specs.Lines.{named_trace_line}

-- the text has a line for each of these steps, with own names, and one for each entry that the device holds at last
-- (profile)
abbrev pub IsNamedTraceOf : Trace → List NamedVisit → Running → List ℕ → Type 0
IsNamedTraceOf form steps last text =
    text ≡ flat_map (named_trace_line form) steps ++ held_lines form last.caps last.state

-- the bytes are a document without a fault, and the text is the trace of a run of it, with the own names of its steps
-- (profile)
abbrev pub IsNamedTrace : Trace → List ℕ → List ℕ → Type 0
IsNamedTrace form bytes text = IsNamedText (IsNamedTraceOf form) bytes text
