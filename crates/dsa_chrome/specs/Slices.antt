-- The slices of entries that engines had. The lanes of engines are the threads of process 2.
use Rattle.std.specs.Prelude.{ℕ, ◌-◌, List, [], ◌++◌, Option, Some, None, codes, decimal}
use Rattle.dsa_store.specs.declared.entry.Entry.{Entry}
use Rattle.dsa_event_text.specs.Text.{descriptor_text}
use Rattle.dsa_scenario.specs.Lines.{fate_text}
use Rattle.dsa_chrome.specs.declared.{lanes.Work.{Work}, slices.End.{End}}

-- how the entry ended, or that it is held
abbrev pub end_text : Option End → List ℕ
end_text (Some end) = fate_text end.fate
end_text None = codes "held"

-- the batch whose member it is
abbrev pub batch_arg : Option ℕ → List ℕ
batch_arg (Some batch) = codes ",\"batch\":" ++ decimal batch
batch_arg None = []

-- the client that submitted it
abbrev pub client_arg : Option ℕ → List ℕ
client_arg (Some client) = codes ",\"client\":" ++ decimal client
client_arg None = []

-- its name and its operation
abbrev pub entry_title : Entry → List ℕ
entry_title entry = codes ",\n{\"name\":\"" ++ decimal entry.name ++ codes " " ++ descriptor_text entry.desc

-- from the step that brought it to the engine, to the step of its end; a slice without an end stays open
abbrev pub span_text : ℕ → Option End → List ℕ
span_text begin (Some end) =
    codes "\",\"ph\":\"X\",\"dur\":" ++ decimal (end.step - begin) ++ codes ",\"ts\":" ++ decimal begin
span_text begin None = codes "\",\"ph\":\"B\",\"ts\":" ++ decimal begin

abbrev pub entry_text : Entry → List ℕ
entry_text entry =
    codes ",\"args\":{\"entry\":" ++ decimal entry.name ++ batch_arg entry.parent ++ codes ",\"queue\":"
    ++ decimal entry.queue ++ codes ",\"opcode\":" ++ decimal entry.desc.op ++ codes ",\"pasid\":"
    ++ decimal entry.desc.pasid ++ codes ",\"size\":" ++ decimal entry.desc.size

abbrev pub work_args : Work → Option End → List ℕ
work_args work end =
    entry_text work.entry ++ client_arg work.client ++ codes ",\"end\":\"" ++ end_text end ++ codes "\"}}"

-- the slice of an entry in a lane
abbrev pub slice_text : ℕ → Work → Option End → List ℕ
slice_text lane work end =
    entry_title work.entry ++ span_text work.begin end ++ (codes ",\"pid\":2,\"tid\":" ++ decimal lane)
    ++ work_args work end
