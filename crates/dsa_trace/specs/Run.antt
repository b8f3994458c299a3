-- What a trace is of.
use Rattle.std.specs.Prelude.{◌≡◌, ℕ, List, ◌++◌, flat_map}
use Rattle.dsa_device.specs.Running.{Running}
use Rattle.dsa_scenario.specs.Steps.{Visit, IsTextOfDocument}
use Rattle.dsa_trace.specs.declared.form.Trace.{Trace}
use Rattle.dsa_trace.specs.{Held.{held_lines}, Lines.{trace_line_of_step}}

-- the text has a line for each of these steps, and one for each entry that the device holds at last (profile)
abbrev pub IsTraceOf : Trace → List Visit → Running → List ℕ → Type 0
IsTraceOf form steps last text = text ≡ flat_map (trace_line_of_step form) steps ++ held_lines form last.caps last.state

-- the bytes are a document without a fault, and the text is the trace of a run of it (profile)
abbrev pub IsTrace : Trace → List ℕ → List ℕ → Type 0
IsTrace form bytes text = IsTextOfDocument (IsTraceOf form) bytes text
