-- What the sentences are told of.
use Rattle.std.specs.Prelude.{ℕ, None, false}
use Rattle.dsa_regs.specs.declared.layout.ListUse.{ListUse}
use Rattle.dsa_worked.specs.Setup.{no_op}
use Rattle.dsa_buffers.specs.declared.want.BufferWant.{BufferWant}
use Rattle.dsa_explain.specs.declared.held.ListedEntry.{ListedEntry}

-- a want with another number in each field
abbrev pub some_want : BufferWant
some_want = record { group = 3; asked = 4; used = 8; allowed = 10; buffers = 16; in_use = 12; kept = 6 }

-- an entry of this name in a list
abbrev pub held_at : ListUse → ℕ → ListedEntry
held_at list name = record {
  list = list;
  cell = record { 0 = 9 };
  entry = record {
    name = name;
    parent = None;
    desc = no_op;
    queue = 8;
    running = false;
  };
}
