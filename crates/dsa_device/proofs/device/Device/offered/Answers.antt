use Rattle.dsa_device.proofs.device.Device.offered.Goals as goal
use Rattle.std.proofs.Common.{◌≡◌, ℕ, List, [], Option, Some, None, slice_get, refl}
use Rattle.dsa_store.specs.Content.{HeldEntry, chain}
use Rattle.dsa_book.specs.{declared.fate.FateRow.{FateRow}, State.{Work}, Work.{dispatch_of}}
use Rattle.dsa_engines.specs.Engines.{work}

-- the answer is the same whatever ended before
same-answer : (w : Work) (fates : List FateRow) (e q : ℕ) (front : Option HeldEntry)
    → (dispatch_of (record w { fates = fates }) e q front).0 ≡ (dispatch_of w e q front).0
same-answer w fates e q None = refl
same-answer w fates e q (Some front) = refl

pub returns : goal.returns
returns g c =
    let content = g.S.EntryStore.content c.self.inside.store in
    rw (
      ← c.self.view_is,
      same-answer (work c.self.inside.queues.setup c.self.inside.engines content []) c.self.inside.book.fates
          c.args.engine c.args.queue (slice_get (chain content c.args.queue) 0),
    ) c.offered.ensures
