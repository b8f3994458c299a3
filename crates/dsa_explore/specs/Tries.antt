-- What has to be tried from a world.
use Rattle.std.specs.Prelude.{◌≡◌, ℕ, true, List, Some, None}
use Rattle.dsa_base.specs.Lists.{In}
use Rattle.dsa_desc.specs.declared.Outcome.{Outcome}
use Rattle.dsa_store.specs.Content.{HeldEntry}
use Rattle.dsa_book.specs.Work.{qualifies, running_on}
use Rattle.dsa_keys.specs.Parties.{Offer, offer_at}
use Rattle.dsa_parties.specs.declared.{places.Move.{Move, TheVariants.{Dispatch, Fetch, Start, Finish}}}
use Rattle.dsa_parties.specs.{declared.script.Script.{Script}, Offers.{parties_of}}
use Rattle.dsa_explore.specs.declared.{stored.Try.{Try}, walked.Walked.{Walked}}
use Rattle.dsa_explore.specs.{Rows.{labels_of}, Walked.{world_of}}

-- all that was listed is
abbrev pub KeepsTries : List Try → List Try → Type 0
KeepsTries old new = (tried : Try) → In tried old → In tried new

-- the move is listed if it is offered, and a dispatch with each queue too that the engine may take from
pub record ListsMove (script : Script) (walked : Walked) (tries : List Try) (by : Move) : Type 0 where
  pub plain : (offer : Offer) → offer_at (parties_of script) (world_of walked) by ≡ Some offer
      → In (record { by = by; queue = None }) tries
  pub queues : (offer : Offer) (engine q : ℕ) → offer_at (parties_of script) (world_of walked) by ≡ Some offer
      → by ≡ Dispatch engine → qualifies walked.machine.device.state.work engine q ≡ true
      → In (record { by = by; queue = Some q }) tries

-- all that the engine may do is listed
pub record ListsEngine (script : Script) (walked : Walked) (tries : List Try) (engine : ℕ) : Type 0 where
  pub dispatch : ListsMove script walked tries (Dispatch engine)
  pub fetch : ListsMove script walked tries (Fetch engine)
  pub start : ListsMove script walked tries (Start engine)
  pub ends : (pair : HeldEntry) (outcome : Outcome)
      → In pair (running_on walked.machine.device.state.work engine)
      → ListsMove script walked tries (Finish engine (labels_of walked.labels.items pair.1.name) outcome)
