-- What the parts of a device keep together.
use Rattle.std.specs.Prelude.{◌≡◌, ℕ}
use Rattle.dsa_store.specs.Content.{Content}
use Rattle.dsa_book.specs.Records.{Records}
use Rattle.dsa_queues.specs.Queues.{Kept, IsCounted}
use Rattle.dsa_engines.specs.Engines.{EnginesState, IsInStep}
use Rattle.dsa_admin.specs.Admin.{Watch, IsAwaiting}

-- the queues, the engines and a store are in step, and the numbers of the queues are counts over the lists
pub record Agree (kept : Kept) (engines_state : EnginesState) (cells : ℕ) (content : Content) : Type 0 where
  pub in_step : IsInStep kept.setup engines_state cells content
  pub counted : IsCounted kept content

-- so do they, the number of the active command is a count over the lists too, and the book has room for as many rows
-- as steps
pub record AllAgree (kept : Kept) (engines_state : EnginesState) (watch : Watch) (book : Records)
    (cells : ℕ) (content : Content) : Type 0 where
  pub agree : Agree kept engines_state cells content
  pub awaiting : IsAwaiting watch kept.setup.next_name content
  pub rows : book.row_room ≡ book.capacity
