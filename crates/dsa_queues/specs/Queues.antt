-- What the queues and a store keep together, and whether a submission is accepted.
use Rattle.std.specs.Prelude.{◌≡◌, ℕ, ◌==◌, Bool, true, not, List, map, length, is_none}
use Rattle.dsa_base.specs.{Rows.{first_row}, Numbers.{numbers_below}}
use Rattle.dsa_regs.specs.{declared.Caps.{Caps}, Caps.{cell_count, check_caps, list_count}}
use Rattle.dsa_store.specs.Content.{Content, count_where}
use Rattle.dsa_book.specs.{declared.event.{Portal.{Portal}, Kind.{Kind}}, State.{Setup, Intake, has_queue}}
use Rattle.dsa_book.specs.Submit.{submit_table}

-- what is kept of the queues: the set-up, and for each queue how many held entries name it (profile)
pub record Kept : Type 0 where
  pub setup : Setup
  pub held : List ℕ

-- the queues, and what a store holds (profile)
abbrev pub intake : Setup → Content → Intake
intake setup content = record { setup = setup; content = content }

-- no cause turns the submission away (profile)
abbrev pub is_accepting : Intake → ℕ → Portal → Kind → Bool
is_accepting i queue portal kind = is_none (first_row (submit_table i queue portal kind))

-- what holds of the queues at all times: lawful capabilities, a configuration and a phase for each
-- queue, a configuration for each group (profile)
pub record IsWholeSetup (setup : Setup) : Type 0 where
  pub lawful : check_caps setup.caps ≡ true
  pub configs : length setup.configs ≡ setup.caps.queues
  pub phases : length setup.phases ≡ setup.caps.queues
  pub groups : length setup.groups ≡ setup.caps.groups

-- a store of so many cells has the lists and the cells that a device with these capabilities needs (profile)
pub record IsStoreFor (caps : Caps) (count : ℕ) (content : Content) : Type 0 where
  pub lists : length content ≡ list_count caps
  pub cells : count ≡ cell_count caps

-- the set-up is whole, and there is a number for each queue (profile)
pub record IsKept (kept : Kept) : Type 0 where
  pub whole : IsWholeSetup kept.setup
  pub numbers : length kept.held ≡ kept.setup.caps.queues

-- how many entries in all lists name the queue (profile)
abbrev pub held_of : Content → ℕ → ℕ
held_of content queue = count_where (λ entry. entry.queue == queue) content

-- each number that is kept is the count over the lists, and no entry names a queue that the device
-- does not have (profile)
pub record IsCounted (kept : Kept) (content : Content) : Type 0 where
  pub counts : kept.held ≡ map (held_of content) (numbers_below kept.setup.caps.queues)
  pub named : count_where (λ entry. not (has_queue kept.setup entry.queue)) content ≡ 0
