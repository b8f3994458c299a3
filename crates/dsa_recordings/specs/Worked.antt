-- Lines that the worked rows speak of.
use Rattle.dsa_book.specs.declared.answer.Reply.TheVariants as reply
use Rattle.dsa_book.specs.declared.event.Event.TheVariants as event
use Rattle.std.specs.Prelude.{ℕ, false, List, ◌++◌, codes, replicate, ⊤}
use Rattle.hex.specs.Hex.{encode_with}
use Rattle.dsa_desc.specs.declared.Descriptor.{Descriptor}
use Rattle.dsa_regs.specs.declared.{Caps.{Caps}, GroupConfig.{GroupConfig}, QueueConfig.{QueueConfig}}
use Rattle.dsa_book.specs.declared.{answer.Reply.{Reply}, event.Event.{Event}, event.Step.{Step}}
use Rattle.dsa_book.specs.declared.answer.{NotedError.{NotedError}, Cause.TheVariants.{AtLimit}}
use Rattle.dsa_book.specs.declared.answer.PollAnswer.TheVariants.{Nothing}
use Rattle.dsa_scenario.specs.Worked.{digits_on_literals}
use Rattle.dsa_recordings.specs.{Recordings.{members_of_step}, Texts.{object_text}}

-- what the rows unfold to compute texts
unfoldable pub recorded_on_literals : ⊤
unfolding digits_on_literals encode_with
recorded_on_literals = tt

-- the line of a step
abbrev pub run_line : Event → Reply → List ℕ
run_line e answer = object_text (members_of_step (record { event = e; reply = answer }))

-- so many digits 0
abbrev pub zero_digits : ℕ → List ℕ
zero_digits n = replicate n 48

-- a descriptor with another number in each field
abbrev pub some_desc : Descriptor
some_desc = record { pasid = 0x12345; flags = 0x0d; op = 3; size = 4096 }

-- its 64 bytes, the least byte of each number first
abbrev pub some_digits : List ℕ
some_digits = codes "452301000d000003" ++ zero_digits 48 ++ codes "00100000" ++ zero_digits 56

abbrev pub group_in_fields : GroupConfig
group_in_fields = record { queues = 2; engines = 3; reserved = 4; allowed = 5 }

-- capabilities with another number in each field
abbrev pub recorded_caps : Caps
recorded_caps = record {
  queues = 1;
  groups = 2;
  engines = 3;
  total_size = 4;
  read_buffers = 5;
  slots = 6;
  max_batch_shift = 7;
  max_xfer_shift = 8;
}

abbrev pub some_caps_text : List ℕ
some_caps_text =
    codes "{\"caps\":{\"queues\":1,\"groups\":2,\"engines\":3,\"total_size\":4,\"read_buffers\":5,"
    ++ codes "\"slots\":6,\"max_batch_shift\":7,\"max_xfer_shift\":8}"

-- a poll that has nothing to report
abbrev pub polled : Step
polled = record { event = event.Poll; reply = reply.Poll Nothing }

abbrev pub polled_line : List ℕ
polled_line = codes "{\"do\":\"poll\",\"answer\":\"nothing\"}"

-- ---- the largest numbers

abbrev pub largest_desc : Descriptor
largest_desc = record { pasid = 0; flags = 0; op = 255; size = 4294967295 }

abbrev pub largest_caps : Caps
largest_caps = record {
  queues = 65535;
  groups = 65535;
  engines = 65535;
  total_size = 65535;
  read_buffers = 65535;
  slots = 65535;
  max_batch_shift = 255;
  max_xfer_shift = 255;
}

abbrev pub largest_queue : QueueConfig
largest_queue = record {
  size = 65535;
  threshold = 65535;
  dedicated = false;
  priority = 255;
  pasid = 4294967295;
  max_batch_shift = 255;
  max_xfer_shift = 255;
}

abbrev pub largest_group : GroupConfig
largest_group = record {
  queues = 18446744073709551615;
  engines = 18446744073709551615;
  reserved = 65535;
  allowed = 65535;
}

-- an error of this queue
abbrev pub noted_queue_of : ℕ → NotedError
noted_queue_of queue = record { queue = queue; cause = AtLimit; overflow = false }
