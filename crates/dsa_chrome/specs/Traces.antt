-- The Chrome trace of a run: a JSON object in the Trace Event Format.
use Rattle.std.specs.Prelude.{◌≡◌, ℕ, ◌+◌, List, [], ◌∷◌, ◌++◌, Option, Some, None, codes, decimal, flat_map}
use Rattle.dsa_base.specs.Numbers.{numbers_below}
use Rattle.dsa_device.specs.Running.{Running}
use Rattle.dsa_scenario.specs.Steps.{Visit, IsTextOfDocument}
use Rattle.dsa_chrome.specs.declared.lanes.{Lane.{Lane}, Work.{Work}}
use Rattle.dsa_chrome.specs.{Pages.{events_made}, Slices.{slice_text}}

-- what comes before the name of a process or of a thread, or its place among others
unfoldable pub meta_text : List ℕ → ℕ → ℕ → List ℕ
meta_text kind process thread =
    codes ",\n{\"name\":\"" ++ kind ++ codes "\",\"ph\":\"M\",\"pid\":" ++ decimal process ++ codes ",\"tid\":"
    ++ decimal thread ++ codes ",\"args\":{"

-- the name of a process, and of a thread of the device, with what ends the event
abbrev pub process_text : ℕ → List ℕ → List ℕ
process_text process name = meta_text (codes "process_name") process 0 ++ name

abbrev pub device_thread : ℕ → List ℕ → List ℕ
device_thread thread name = meta_text (codes "thread_name") 1 thread ++ name

-- the name of a thread of an engine
abbrev pub engine_thread : ℕ → ℕ → ℕ → List ℕ
engine_thread process thread engine =
    meta_text (codes "thread_name") process thread ++ (codes "\"name\":\"engine " ++ decimal engine)
    ++ codes "\"}}"

-- a lane stands beside the others of its engine
abbrev pub sort_index : ℕ → ℕ → List ℕ
sort_index thread engine =
    meta_text (codes "thread_sort_index") 2 thread ++ (codes "\"sort_index\":" ++ decimal engine) ++ codes "}}"

-- the names of the threads of so many engines' steps
abbrev pub step_threads : ℕ → List ℕ
step_threads engines = flat_map (λ engine. engine_thread 3 (engine + 1) engine) (numbers_below engines)

-- the names of the processes, and of the threads of clients, of the administrator and of the steps of so many engines
abbrev pub names_of_trace : ℕ → List ℕ
names_of_trace engines =
    codes "{\"traceEvents\":[\n{\"name\":\"process_name\",\"ph\":\"M\",\"pid\":1,"
    ++ codes "\"tid\":0,\"args\":{\"name\":\"device\"}}" ++ process_text 2 (codes "\"name\":\"engines\"}}")
    ++ process_text 3 (codes "\"name\":\"steps of engines\"}}") ++ device_thread 1 (codes "\"name\":\"clients\"}}")
    ++ device_thread 2 (codes "\"name\":\"administrator\"}}") ++ step_threads engines

-- an entry that is held when the steps are over has a slice without an end
abbrev pub held_text : ℕ → Option Work → List ℕ
held_text thread None = []
held_text thread (Some work) = slice_text thread work None

-- the names of a lane, and the entry that is held in it
abbrev pub lane_part : ℕ → Lane → List ℕ
lane_part thread lane =
    engine_thread 2 thread lane.engine ++ sort_index thread lane.engine ++ held_text thread lane.work

-- these lanes, the first of which has this thread
abbrev pub lanes_text : ℕ → List Lane → List ℕ
lanes_text thread [] = []
lanes_text thread (lane ∷ lanes) = lane_part thread lane ++ lanes_text (thread + 1) lanes

-- names, the events of the steps, and the lanes
abbrev pub chrome_text : List Visit → Running → List ℕ
chrome_text steps last =
    names_of_trace last.caps.engines ++ (events_made steps).text ++ lanes_text 1 (events_made steps).lanes
    ++ codes "\n]}\n"

-- the text is the trace of these steps, after which the device stands so
abbrev pub IsChromeTraceOf : List Visit → Running → List ℕ → Type 0
IsChromeTraceOf steps last text = text ≡ chrome_text steps last

-- the bytes are a document without a fault, and the text is the trace of a run of it: of a new device of the
-- document's capabilities that makes its steps
abbrev pub IsChromeTrace : List ℕ → List ℕ → Type 0
IsChromeTrace bytes text = IsTextOfDocument IsChromeTraceOf bytes text
