-- A device that the rows speak of, and bytes of saved devices.
use Rattle.std.specs.Prelude.{ℕ, List, [], ◌∷◌, ◌++◌, codes, replicate}
use Rattle.dsa_regs.specs.declared.Caps.{Caps}
use Rattle.dsa_book.specs.declared.answer.PollAnswer.TheVariants as poll
use Rattle.dsa_book.specs.declared.answer.Reply.TheVariants as reply
use Rattle.dsa_book.specs.declared.event.Event.TheVariants as event
use Rattle.dsa_book.specs.declared.event.Step.{Step}
use Rattle.dsa_saved.specs.Words.{bytes_of_words}
use Rattle.dsa_device.specs.Running.{Running, running_at_first}

-- three queues, one group and two engines
abbrev pub saved_uneven_caps : Caps
saved_uneven_caps = record {
  queues = 3;
  groups = 1;
  engines = 2;
  total_size = 12;
  read_buffers = 16;
  slots = 4;
  max_batch_shift = 5;
  max_xfer_shift = 20;
}

-- a poll for which nothing was active
abbrev pub poll_of_nothing : Step
poll_of_nothing = record { event = event.Poll; reply = reply.Poll poll.Nothing }

-- a device that was polled so, whose history may have ten steps, and which took memory for more
abbrev pub device_that_polled : Running
device_that_polled = record (running_at_first saved_uneven_caps 10) {
  room = 16;
  history = poll_of_nothing ∷ [];
}

-- its bytes without the checksum
abbrev pub bytes_of_a_poll : List ℕ
bytes_of_a_poll =
    68 ∷ 83 ∷ 65 ∷ 83 ∷ 65 ∷ 86 ∷ 69 ∷ 68 ∷ 1 ∷ 0 ∷ 0 ∷ 0 ∷ 3 ∷ 0 ∷ 0 ∷ 0 ∷ 1 ∷ 0 ∷ 0 ∷ 0 ∷ 2 ∷ 0 ∷ 0 ∷ 0
    ∷ 12 ∷ 0 ∷ 0 ∷ 0 ∷ 16 ∷ 0 ∷ 0 ∷ 0 ∷ 4 ∷ 0 ∷ 0 ∷ 0 ∷ 5 ∷ 0 ∷ 0 ∷ 0 ∷ 20 ∷ 0 ∷ 0 ∷ 0 ∷ 10 ∷ 0 ∷ 0 ∷ 0 ∷ 1
    ∷ 0 ∷ 0 ∷ 0 ∷ 8 ∷ 0 ∷ 0 ∷ 0 ∷ 0 ∷ 0 ∷ 0 ∷ 0 ∷ 0 ∷ 0 ∷ 0 ∷ 0 ∷ 0 ∷ 0 ∷ 0 ∷ 0 ∷ 0 ∷ 0 ∷ 0 ∷ 0 ∷ 0 ∷ 0 ∷ 0
    ∷ 0 ∷ 0 ∷ 0 ∷ 0 ∷ 0 ∷ 0 ∷ 0 ∷ 0 ∷ 0 ∷ 0 ∷ 0 ∷ 0 ∷ 0 ∷ 0 ∷ 0 ∷ 0 ∷ 0 ∷ 0 ∷ 0 ∷ 0 ∷ 0 ∷ []

-- ---- bytes of which something is wrong

-- the words of a header of this version, with so many engines, room for so many steps, and so many of them
abbrev pub words_saying : ℕ → ℕ → ℕ → ℕ → List ℕ
words_saying version engines capacity count =
    version ∷ 3 ∷ 1 ∷ engines ∷ 12 ∷ 16 ∷ 4 ∷ 5 ∷ 20 ∷ capacity ∷ count ∷ []

-- the magic word, a header of these words, and so many bytes 0
abbrev pub bytes_saying : List ℕ → List ℕ → ℕ → List ℕ
bytes_saying magic words more = magic ++ bytes_of_words words ++ replicate more 0

-- all is well but for the checksum, where there are so many bytes more than the start
abbrev pub bytes_of_zeros : ℕ → List ℕ
bytes_of_zeros more = bytes_saying (codes "DSASAVED") (words_saying 1 2 10 1) more

-- these words in the header
abbrev pub bytes_of_header : List ℕ → List ℕ
bytes_of_header words = bytes_saying (codes "DSASAVED") words 76
