-- Bars, entries, levels and steps that the worked rows speak of.
use Rattle.dsa_book.specs.declared.answer.Reply.TheVariants as reply
use Rattle.dsa_book.specs.declared.answer.PollAnswer.TheVariants as poll
use Rattle.dsa_book.specs.declared.event.Event.TheVariants as event
use Rattle.std.specs.Prelude.{ℕ, ◌+◌, ◌≤◌, false, true, List, [], ◌∷◌, length, codes, Option, None, Some, String, ⊤}
use Rattle.std.specs.Prelude.{replicate, ◌++◌}
use Rattle.std.specs.{Str.{IsUtf8, chars}, Char.{encode_utf8}}
use Rattle.std.proofs.Common.{arith, lit≤, refl}
use Rattle.std.proofs.lemmas.Str.{IsUtf8-nil}
use denote.RawPtr.{null_ptr}
use Rattle.std.specs.declared.{alloc.Global.{Global}, vec.Vec.{Vec}}
use Rattle.dsa_book.specs.declared.answer.{DispatchAnswer.TheVariants.{Idle, Taken}, FetchAnswer.TheVariants.{Fetched}}
use Rattle.dsa_book.specs.declared.answer.IssueAnswer.TheVariants.{Active}
use Rattle.dsa_regs.specs.declared.Command.TheVariants.{DrainPasid}
use Rattle.dsa_book.specs.declared.answer.{FinishAnswer.TheVariants.{Done}, StartAnswer.TheVariants.{Started}}
use Rattle.dsa_book.specs.declared.fate.{Fate.{Fate, TheVariants.{Abandoned, Completed}}, FateRow.{FateRow}}
use Rattle.dsa_book.specs.declared.event.{Kind.TheVariants.{Movdir64b}, Portal.TheVariants.{Limited}}
use Rattle.dsa_book.specs.declared.answer.SubmitAnswer.TheVariants.{Accepted}
use Rattle.dsa_book.specs.State.{opening}
use Rattle.dsa_device.specs.Running.{Running, running_at_first}
use Rattle.dsa_regs.specs.declared.Phase.{Phase, TheVariants.{Off, On, Stopping}}
use Rattle.dsa_regs.specs.{Config.{zero_group}, declared.Caps.{Caps}}
use Rattle.dsa_desc.specs.declared.{Descriptor.{Descriptor}, Outcome.TheVariants.{Success}}
use Rattle.dsa_scenario.specs.declared.run.Record.{Record}
use Rattle.dsa_scenario.specs.{Steps.{Visit, visit}, Worked.{caps_of_a_run, digits_on_literals, fill, group_of_a_run, queue_of_a_run}}
use Rattle.dsa_scenario.specs.Worked.{accepted, record_ticket, stepped}
use Rattle.dsa_named.specs.Steps.{NamedVisit, named_visit}
use Rattle.dsa_draw.specs.declared.{bars.{Bar.{Bar}, End.{End}}, engines.Lanes.{Lanes}, range.Extent.{Extent}}
use Rattle.dsa_draw.specs.declared.bands.Band.{Band}
use Rattle.dsa_draw.specs.declared.moment.{BandKind.TheVariants.{Queue, Group}, Level.{Level}, Moment.{Moment}}
use Rattle.dsa_draw.specs.declared.run.Story.{Story}
use Rattle.dsa_draw.specs.Pages.{svg_text, page_size_text, view_text, whole_title_text, some_steps_text, of_run_text}
use Rattle.dsa_draw.specs.Pages.{sheet_text, legend_text, row_name_text, rule_text, dot_text}
use Rattle.dsa_draw.specs.Pages.{cross_text, rect_text, letters_text}
use Rattle.dsa_draw.specs.Bands.{lines_text, frame_text, name_text, band_range_text, peak_text, band_text}
use Rattle.dsa_draw.specs.Bands.{again_place_text, phase_line_text, phase_line_title}
use Rattle.dsa_draw.specs.Columns.{title_text, grid_text, label_text}
use Rattle.dsa_draw.specs.Rows.{command_place_text, ended_head_text, names_above_text}
use Rattle.dsa_draw.specs.Bars.{NotedBars}
use Rattle.dsa_draw.specs.{Active.{finished_text, wait_words}, Labels.{bar_label_text}}
use Rattle.dsa_draw.specs.Engines.{kind_phrase, bar_title_text, batch_title_text, engine_name_text, sign_text}

-- the band of the queue, or of the group, with this number
abbrev pub queue_band : ℕ → Band
queue_band number = record { kind = Queue; number = number }

abbrev pub group_band : ℕ → Band
group_band number = record { kind = Group; number = number }

-- what the rows unfold to compute texts
unfoldable pub drawn_on_literals : ⊤
unfolding digits_on_literals encode_utf8 chars lines_text frame_text name_text band_range_text peak_text band_text
    title_text grid_text label_text svg_text page_size_text view_text whole_title_text some_steps_text of_run_text
    sheet_text legend_text rect_text letters_text
    row_name_text rule_text dot_text cross_text command_place_text ended_head_text names_above_text kind_phrase
    bar_title_text batch_title_text sign_text finished_text wait_words
    phase_line_text phase_line_title again_place_text engine_name_text bar_label_text
drawn_on_literals = tt

-- the fate row of an entry that no batch has
abbrev pub ended_row : ℕ → Fate → FateRow
ended_row name fate = record { name = name; parent = None; fate = fate }

-- an end with that step
abbrev pub end_at : ℕ → Fate → Option End
end_at step fate = Some (record { step = step; fate = fate })

-- an entry of this name that engine 1 had from one step on, as one that it took or as a member of that batch
abbrev pub bar_from : ℕ → Option ℕ → ℕ → Option End → Bar
bar_from name parent begin end = record {
  name = name;
  engine = 1;
  desc = None;
  client = None;
  parent = parent;
  started = Some begin;
  is_batch = false;
  lane = 0;
  begin = begin;
  end = end;
}

-- a move of a page, of PASID 5
abbrev pub move_of_a_page : Descriptor
move_of_a_page = record { pasid = 5; flags = 0; op = 3; size = 4096 }

-- entry 12 of engine 1, which is one
abbrev pub bar_of_a_move : Bar
bar_of_a_move = record (bar_from 12 None 2 None) { desc = Some move_of_a_page }

-- two names, of which the second has a bar
abbrev pub one_of_two_noted : NotedBars
one_of_two_noted = record { bars = bar_of_a_move ∷ []; places = None ∷ Some 0 ∷ []; clients = Some 7 ∷ None ∷ [] }

-- the steps from one on to before another, of so many
abbrev pub some_of_a_run : ℕ → ℕ → ℕ → Extent
some_of_a_run first end last = record { range = record { first = first; end = end }; last = last }

abbrev pub whole_run : ℕ → Extent
whole_run last = some_of_a_run 0 last last

abbrev pub steps_two_to_four : Extent
steps_two_to_four = some_of_a_run 2 5 9

-- the lanes of an engine from 200 on: two, and three of members, of a run of nine steps
abbrev pub five_lanes : Lanes
five_lanes = record { top = 200; taken = 2; members = 3; extent = whole_run 9 }

-- a vector of these
abbrev pub vector : {A : Type 0} → Global → (items : List A) → length items ≤ 99 → Vec A Global
vector memory items few = record {
  ptr = null_ptr;
  len = length items;
  cap = length items;
  alloc = memory;
  items = items;
  ok = (refl, omega arith);
  small = omega (arith, few);
}

-- a text of these bytes
abbrev pub text_with_bytes : Global → (bytes : List ℕ) → length bytes ≤ 99 → IsUtf8 bytes → String Global
text_with_bytes memory bytes few utf8 = record { bytes = vector memory bytes few; ok = ∣ utf8 ∣₁ }

-- the reason of a step that did what it asked for
abbrev pub no_reason : Global → String Global
no_reason memory = text_with_bytes memory [] (lit≤ tt) IsUtf8-nil

-- what a step answered, the batch of its engine, and how many had ended
abbrev pub moment_of : Vec Level Global → Record → Option ℕ → ℕ → Moment
moment_of levels entry batch ended =
    record {
      number = 0;
      entry = entry;
      reason = no_reason levels.alloc;
      note = no_reason levels.alloc;
      phase = Off;
      queues = levels;
      groups = levels;
      batch = batch;
      desc = None;
      own = None;
      ended = ended;
    }

-- these moments, with numbers from this one on
abbrev pub numbered : ℕ → List Moment → List Moment
numbered number [] = []
numbered number (moment ∷ moments) = record moment { number = number } ∷ numbered (number + 1) moments

-- a step at which the device has this phase
abbrev pub moment_in_phase : Vec Level Global → Phase → Moment
moment_in_phase levels phase =
    record (moment_of levels (stepped (event.Dispatch 1) (reply.Dispatch Idle)) None 0) { phase = phase }

-- batch 0 is accepted, engine 1 takes it, fetches member 1, starts it and ends it
abbrev pub moments_of_a_batch : Vec Level Global → List Moment
moments_of_a_batch levels =
    moment_of levels (stepped (event.Submit 5 0 Limited Movdir64b fill) (reply.Submit (Accepted (record_ticket 3 0))))
    None 0 ∷
    record (moment_of levels (stepped (event.Dispatch 1) (reply.Dispatch (Taken (record_ticket 3 0) 0))) (Some 0) 0)
    { desc = Some fill } ∷
    record (moment_of levels (stepped (event.Fetch 1 fill) (reply.Fetch (Fetched (record_ticket 4 1)))) (Some 0) 0)
    { desc = Some move_of_a_page } ∷
    moment_of levels (stepped (event.Start 1) (reply.Start (Started (record_ticket 4 1)))) (Some 0) 0 ∷
    moment_of levels (stepped (event.Finish 1 (record_ticket 4 1) Success) (reply.Finish (Done 1))) (Some 0) 1 ∷ []

-- a Drain PASID is issued, and waits
abbrev pub drain_issued : Record
drain_issued = stepped (event.Issue (DrainPasid 5)) (reply.Issue Active)

-- it is issued with the second step, and the fourth one reports its end
abbrev pub moments_of_a_drain : Vec Level Global → List Moment
moments_of_a_drain levels =
    moment_of levels (stepped (event.Dispatch 1) (reply.Dispatch Idle)) None 0 ∷
    moment_of levels drain_issued None 0 ∷
    moment_of levels (stepped event.Poll (reply.Poll poll.Active)) None 0 ∷
    moment_of levels (stepped event.Poll (reply.Poll poll.Finished)) None 0 ∷ []

-- ---- levels

abbrev pub level : ℕ → ℕ → ℕ → Level
level filled mark limit = record { filled = filled; mark = mark; limit = limit; phase = None }

-- what a step answered, with levels of two queues and of one group
abbrev pub moment_with : Global → Record → Level → Level → Level → Moment
moment_with memory entry first second group = record {
  number = 0;
  entry = entry;
  reason = no_reason memory;
  note = no_reason memory;
  phase = Off;
  queues = vector memory (first ∷ second ∷ []) (lit≤ tt);
  groups = vector memory (group ∷ []) (lit≤ tt);
  batch = None;
  desc = None;
  own = None;
  ended = 0;
}

-- the engine found nothing
abbrev pub idle_step : ℕ → Record
idle_step engine = stepped (event.Dispatch engine) (reply.Dispatch Idle)

-- of the first queue nothing was configured; the levels of the second and of the group rise
abbrev pub moments_with_levels : Global → List Moment
moments_with_levels memory =
    moment_with memory (idle_step 0) (level 0 0 0) (level 1 3 8) (level 2 4 6)
    ∷ moment_with memory (idle_step 0) (level 0 0 0) (level 4 3 8) (level 6 4 6) ∷ []

-- ---- a story of three engines' steps on a device of two

abbrev pub caps_of_a_drawing : Caps
caps_of_a_drawing = record caps_of_a_run { groups = 3; engines = 2; max_batch_shift = 5 }

-- the level of its queue, and none of its groups
abbrev pub moment_of_a_story : Global → ℕ → Record → ℕ → Phase → ℕ → Moment
moment_of_a_story memory number entry filled phase ended = record {
  number = number;
  entry = entry;
  reason = no_reason memory;
  note = no_reason memory;
  phase = On;
  queues = vector memory (record (level filled 3 4) { phase = Some phase } ∷ []) (lit≤ tt);
  groups = vector memory (level 0 0 0 ∷ level 0 0 0 ∷ level 0 0 0 ∷ []) (lit≤ tt);
  batch = Some 7;
  desc = None;
  own = None;
  ended = ended;
}

abbrev pub story : Global → Story
story memory = record {
  caps = caps_of_a_drawing;
  moments =
      vector memory
      (moment_of_a_story memory 0 (idle_step 0) 1 On 0
      ∷ moment_of_a_story memory 1 (stepped (event.Fetch 1 fill) (reply.Fetch (Fetched (record_ticket 4 0)))) 2 On 0
      ∷ moment_of_a_story memory 2
      (stepped (event.Fetch 2 fill) (reply.Fetch (Fetched (record_ticket 5 1)))) 1 Stopping 1
      ∷ [])
      (lit≤ tt);
  fates = vector memory (record { name = 0; parent = Some 7; fate = Completed 1 } ∷ []) (lit≤ tt);
}

-- ---- engine 7 has a batch and its member, with names, steps and cells that are not the same numbers

abbrev pub moments_of_a_third_name : Vec Level Global → List Moment
moments_of_a_third_name levels =
    moment_of levels (accepted (record_ticket 5 0)) None 0 ∷ moment_of levels (accepted (record_ticket 6 1)) None 0
    ∷ moment_of levels (accepted (record_ticket 8 2)) None 0
    ∷ moment_of levels (stepped (event.Dispatch 7) (reply.Dispatch (Taken (record_ticket 8 2) 0))) (Some 2) 0
    ∷ moment_of levels (stepped (event.Fetch 7 fill) (reply.Fetch (Fetched (record_ticket 9 3)))) (Some 2) 0
    ∷ moment_of levels (stepped (event.Start 7) (reply.Start (Started (record_ticket 9 3)))) (Some 2) 0
    ∷ moment_of levels (idle_step 1) None 2 ∷ []

-- ---- a device with an entry that waits, a batch on engine 1 and two entries that ended

abbrev pub device_of_a_drawing : Running
device_of_a_drawing =
    let work = (opening caps_of_a_drawing).work in
    record {
      caps = caps_of_a_drawing;
      room = 9;
      capacity = 9;
      history = [];
      anew = false;
      state = record {
        work = record work {
          setup = record work.setup {
            device = On;
            phases = Stopping ∷ [];
            configs = queue_of_a_run ∷ [];
            groups = group_of_a_run ∷ zero_group ∷ zero_group ∷ [];
          };
          content =
              ((record { 0 = 3 }, record { name = 6; parent = None; desc = fill; queue = 0; running = false }) ∷ [])
              ∷ [];
          notes = None ∷ Some (record { batch = 7; count = 3; fetched = 2; failed = false; closed = false }) ∷ [];
          fates = ended_row 4 Abandoned ∷ ended_row 5 (Completed 1) ∷ [];
        };
        active = None;
      };
    }

-- before it, where engine 1 is of the group of an empty queue
abbrev pub device_with_an_empty_queue : Running
device_with_an_empty_queue =
    let first = running_at_first caps_of_a_drawing 9 in
    record first {
      state = record first.state {
        work = record first.state.work {
          setup = record first.state.work.setup {
            groups = record group_of_a_run { engines = 3 } ∷ zero_group ∷ zero_group ∷ [];
          };
        };
      };
    }

-- what it says of a dispatch of engine 1, what the later device says of it, and what both say of a poll
abbrev pub of_an_empty_queue : List ℕ
of_an_empty_queue = codes ": q0 is empty"

abbrev pub of_no_group : List ℕ
of_no_group = codes ": e1 is of no group"

abbrev pub of_no_command : List ℕ
of_no_command = codes ": no command is active"

pub empty_queue_is_utf8 : IsUtf8 of_an_empty_queue
unfolding encode_utf8
empty_queue_is_utf8 = (of_an_empty_queue, (refl, refl))

pub no_group_is_utf8 : IsUtf8 of_no_group
unfolding encode_utf8
no_group_is_utf8 = (of_no_group, (refl, refl))

pub no_command_is_utf8 : IsUtf8 of_no_command
unfolding encode_utf8
no_command_is_utf8 = (of_no_command, (refl, refl))

abbrev pub moment_of_a_device : Global → Moment
moment_of_a_device memory = record {
  number = 3;
  entry = idle_step 1;
  reason = text_with_bytes memory of_an_empty_queue (lit≤ tt) empty_queue_is_utf8;
  note = no_reason memory;
  phase = On;
  queues = vector memory (record (level 1 8 16) { phase = Some Stopping } ∷ []) (lit≤ tt);
  groups = vector memory (level 0 0 32 ∷ level 0 0 0 ∷ level 0 0 0 ∷ []) (lit≤ tt);
  batch = Some 7;
  desc = None;
  own = None;
  ended = 2;
}

-- the step that led to it
abbrev pub visit_of_a_device : Visit
visit_of_a_device = visit 3 device_with_an_empty_queue (idle_step 1) device_of_a_drawing

-- where no own names were given
abbrev pub step_of_a_device : NamedVisit
step_of_a_device = named_visit [] visit_of_a_device

-- the same moment with this reason
abbrev pub moment_with_reason : Global → String Global → Moment
moment_with_reason memory reason = record (moment_of_a_device memory) { reason = reason }

-- ---- a step that brought entry 6 to engine 1, where that has an own name, and entry 5 another

abbrev pub of_an_own_name : List ℕ
of_an_own_name = codes "a<b"

abbrev pub of_a_note : List ℕ
of_a_note = codes " [6 is a<b]"

pub own_name_is_utf8 : IsUtf8 of_an_own_name
unfolding encode_utf8
own_name_is_utf8 = (of_an_own_name, (refl, refl))

pub note_is_utf8 : IsUtf8 of_a_note
unfolding encode_utf8
note_is_utf8 = (of_a_note, (refl, refl))

abbrev pub entry_brought : Record
entry_brought = stepped (event.Dispatch 1) (reply.Dispatch (Taken (record_ticket 3 6) 0))

abbrev pub visit_with_names : Visit
visit_with_names = record visit_of_a_device { entry = entry_brought }

abbrev pub step_with_names : NamedVisit
step_with_names = named_visit ((5, codes "c") ∷ (6, of_an_own_name) ∷ []) visit_with_names

abbrev pub moment_with_names : Global → Moment
moment_with_names memory = record (moment_of_a_device memory) {
  entry = entry_brought;
  note = text_with_bytes memory of_a_note (lit≤ tt) note_is_utf8;
  desc = Some fill;
  own = Some (text_with_bytes memory of_an_own_name (lit≤ tt) own_name_is_utf8);
}

-- ---- a device of three queues, two groups and four engines, of which engine 3 works on a move for queue 2

-- queue 2 moves 4096 bytes at most, and group 1 has it, queue 0 and engine 3
abbrev pub device_of_a_large_move : Running
device_of_a_large_move =
    let caps = record caps_of_a_run { queues = 3; groups = 2; engines = 4 } in
    let first = running_at_first caps 9 in
    record first {
      state = record first.state {
        work = record first.state.work {
          setup = record first.state.work.setup {
            next_name = 3;
            configs = queue_of_a_run ∷ queue_of_a_run ∷ record queue_of_a_run { max_xfer_shift = 12 } ∷ [];
            groups = zero_group ∷ record group_of_a_run { queues = 5; engines = 8 } ∷ [];
          };
          content =
              replicate 6 []
              ++ ((
                record { 0 = 4 },
                record {
                  name = 2;
                  parent = None;
                  desc = record { pasid = 5; flags = 0; op = 3; size = 4097 };
                  queue = 2;
                  running = true;
                },
              ) ∷ [])
              ∷ replicate 4 [];
        };
      };
    }

-- the move ends there
abbrev pub end_of_a_large_move : Record
end_of_a_large_move = stepped (event.Finish 3 (record_ticket 4 2) Success) (reply.Finish (Done 0x13))

abbrev pub of_a_large_move : List ℕ
of_a_large_move = codes ": size 4097 is above 4096, the transfer limit of q2"

pub large_move_is_utf8 : IsUtf8 of_a_large_move
unfolding encode_utf8
large_move_is_utf8 = (of_a_large_move, (refl, refl))

-- with why it does so
abbrev pub moment_of_a_large_move : Global → Vec Level Global → Moment
moment_of_a_large_move memory levels = record (moment_of levels end_of_a_large_move None 0) {
  number = 12;
  reason = text_with_bytes memory of_a_large_move (lit≤ tt) large_move_is_utf8;
}

-- a step before it, and it
abbrev pub moments_of_a_large_move : Global → Vec Level Global → List Moment
moments_of_a_large_move memory levels =
    moment_of levels (idle_step 1) None 0 ∷ moment_of_a_large_move memory levels ∷ []

-- ---- the story of a device

abbrev pub story_with : Global → Moment → Story
story_with memory moment = record {
  caps = caps_of_a_drawing;
  moments = vector memory (moment ∷ []) (lit≤ tt);
  fates = vector memory (ended_row 4 Abandoned ∷ ended_row 5 (Completed 1) ∷ []) (lit≤ tt);
}

abbrev pub story_of_a_device : Global → Story
story_of_a_device memory = story_with memory (moment_of_a_device memory)
