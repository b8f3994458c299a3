-- Where a queue accepts or a batch is open, a cell is free.
use Rattle.std.proofs.Common.{◌≡◌, ℕ, ◌+◌, ◌^◌, ◌<◌, ◌≤◌, true, false, List, [], length, Some, None, ap, subst, refl}
use Rattle.std.proofs.{lemmas.Bool.{cases_Bool, ltb-false, leb-false, or_parts, not-false}, Common.{arith, ⊎_elim}}
use Rattle.std.specs.Prelude.{sum_by}
use Rattle.dsa_base.proofs.NumberSums.{sum-places, sum-equal, sum-split_numbers, sum-plus, sum-same, sum-numbers-le}
use Rattle.dsa_base.proofs.NumberSums.{sum-numbers-each}
use Rattle.dsa_base.proofs.{NumberSums.{sum-numbers-lt}, Tables.{no-row}}
use Rattle.dsa_base.specs.{Rows.{first_row}, Numbers.{numbers_below}}
use Rattle.dsa_regs.specs.declared.{Caps.{Caps}, QueueConfig.{QueueConfig}}
use Rattle.dsa_regs.specs.{Config.{queue_at, zero_queue, groups_table, total_size}, Caps.{cell_count, list_count}}
use Rattle.dsa_store.specs.Content.{HeldEntry, Content, chain, held_count}
use Rattle.dsa_book.specs.declared.{event.{Portal.{Portal}, Kind.{Kind}}, note.BatchNote.{BatchNote}}
use Rattle.dsa_book.specs.{Work.{members, note_at, is_all_fetched}, State.{State, is_on, is_off, phase_at}}
use Rattle.dsa_book.{specs.{Submit.{limit_of, submit_table}, Machine.{intake_of}}, proofs.Phases.{on-not_off}}
use Rattle.dsa_laws.proofs.{Shapes.{on-queue, noted-engine, members-at}, Limits.{limit-le, lists-fit}}
use Rattle.dsa_laws.{specs.WellFormed.{IsWellFormed, NoteFits}, proofs.Entries.{none-held}}
use Rattle.dsa_accounts.proofs.NotedBatches.{noted}

-- ---- how many are held, list by list

-- the length of the list of that number
abbrev size : Content → ℕ → ℕ
size content k = length (chain content k)

-- what an engine holds: in progress, and members
abbrev on_engine : Caps → Content → ℕ → ℕ
on_engine caps content e = size content (caps.queues + e) + size content (caps.queues + caps.engines + e)

held-parts : (caps : Caps) (content : Content) → length content ≡ list_count caps
    → held_count content ≡ sum_by (size content) (numbers_below caps.queues)
    + sum_by (on_engine caps content) (numbers_below caps.engines)
unfolding held_count
held-parts caps content long =
    let q = caps.queues in
    let n = caps.engines in
    let twice : length content ≡ q + (n + n) = omega (arith, long) in
    let moved : sum_by (λ k. size content (q + (n + k))) (numbers_below n)
    ≡ sum_by (λ k. size content (q + n + k)) (numbers_below n)
    = sum-equal (λ k. size content (q + (n + k))) (λ k. size content (q + n + k)) (numbers_below n)
    (λ k. ap (size content) (omega arith)) in
    omega (
      arith,
      sum-places (λ (l : List HeldEntry). length l) content [],
      ap (λ k. sum_by (size content) (numbers_below k)) twice,
      sum-split_numbers (size content) q (n + n),
      sum-split_numbers (λ k. size content (q + k)) n n,
      moved,
      sum-plus (λ k. size content (q + k)) (λ k. size content (q + n + k)) n,
    )

-- what an engine may hold: its slots, and a batch
abbrev for_engine : Caps → ℕ
for_engine caps = caps.slots + 2 ^ caps.max_batch_shift

module _ {caps : Caps} {s : State} (w : IsWellFormed caps s) where
  -- the sizes of the queues are no more than the device has, where it is not Off
  sizes-fit : is_off s.work.setup.device ≡ false
      → sum_by (λ q. (queue_at s.work.setup.configs q).size) (numbers_below caps.queues) ≤ caps.total_size
  sizes-fit off =
      let setup = s.work.setup in
      let rows = no-row (groups_table setup.caps (total_size setup.configs) setup.groups) (w.setup.device off) in
      omega (
        arith,
        ltb-false setup.caps.total_size (total_size setup.configs) rows.1.0,
        ap (λ (c : Caps). c.total_size) w.shape.same_caps,
        sum-places (λ (c : QueueConfig). c.size) setup.configs zero_queue,
        ap (λ k. sum_by (λ q. (queue_at setup.configs q).size) (numbers_below k)) w.shape.configs,
      )

  queues-fit : sum_by (size s.work.content) (numbers_below caps.queues) ≤ caps.total_size
  queues-fit = ⊎_elim
      (λ off.
      let none : (k : ℕ) → k < caps.queues → size s.work.content k ≤ 0 = λ k i.
      omega (arith, ap (λ (xs : List HeldEntry). length xs) (none-held caps s.work w.setup w.entries off k)) in
      omega (arith, sum-numbers-le (size s.work.content) (λ k. 0) caps.queues none, sum-same 0 caps.queues))
      (λ not_off. omega (
        arith,
        sum-numbers-le (size s.work.content) (λ q. (queue_at s.work.setup.configs q).size) caps.queues w.limits.queues,
        sizes-fit not_off,
      ))
      (cases_Bool (is_off s.work.setup.device))

  -- so no queue holds more than the device has room for
  pub queue-fits : (queue : ℕ) → queue < caps.queues → size s.work.content queue ≤ caps.total_size
  queue-fits queue i =
      omega (arith, sum-numbers-each (size s.work.content) caps.queues queue i, queues-fit)

  -- with a bound of its members
  engine-fits : (e most : ℕ) → e < caps.engines → length (members s.work e) ≤ most
      → on_engine caps s.work.content e ≤ caps.slots + most
  engine-fits e most i h = omega (
    arith,
    (lists-fit caps s.work w.shape w.limits (caps.queues + e)).progress e refl i,
    h,
    ap (λ (xs : List HeldEntry). length xs) (members-at w.shape e i),
  )

  engine-within : (e : ℕ) → e < caps.engines → on_engine caps s.work.content e ≤ for_engine caps
  engine-within e i = engine-fits e (2 ^ caps.max_batch_shift) i (w.limits.members e i)

  -- where a submission is not turned away, its queue is below its size, and a cell is free
  pub accepting-room : (q : ℕ) (portal : Portal) (kind : Kind)
      → first_row (submit_table (intake_of s) q portal kind) ≡ None → held_count s.work.content < cell_count caps
  accepting-room q portal kind h =
      let rows = no-row (submit_table (intake_of s) q portal kind) h in
      let on : is_on (phase_at s.work.setup q) ≡ true = not-false _ rows.0 in
      let config = queue_at s.work.setup.configs q in
      let off = on-not_off _ on in
      let room : size s.work.content q < config.size = omega (
        arith,
        leb-false (limit_of config portal) (size s.work.content q) rows.1.1.0,
        limit-le s.work.setup.caps s.work.setup.groups q config portal (w.setup.queue q off),
      ) in
      omega (
        arith,
        held-parts caps s.work.content w.shape.lists,
        sum-numbers-lt (size s.work.content) (λ k. (queue_at s.work.setup.configs k).size) caps.queues q
            w.limits.queues (on-queue w.shape q on) room,
        sizes-fit (w.setup.phases q off),
        sum-numbers-le (on_engine caps s.work.content) (λ k. for_engine caps) caps.engines engine-within,
        sum-same (for_engine caps) caps.engines,
      )

  -- where a member may be fetched, its engine has fewer than a batch may have, and a cell is free
  pub fetching-room : (e : ℕ) (note : BatchNote) → note_at s.work e ≡ Some note → is_all_fetched note ≡ false
      → held_count s.work.content < cell_count caps
  fetching-room e note h more =
      let fits : NoteFits caps (Some note) = subst (NoteFits caps) h (w.notes e) in
      let count = fits.count in
      let some = (noted w e (Some note) h).most in
      let inside = (noted-engine w.shape e note h).inside in
      let less = engine-fits e note.fetched inside some in
      let below = leb-false note.count note.fetched (or_parts note.closed _ more).1 in
      omega (
        arith,
        held-parts caps s.work.content w.shape.lists,
        queues-fit,
        sum-numbers-lt (on_engine caps s.work.content) (λ k. for_engine caps) caps.engines e engine-within inside
            (omega (arith, less, below, count)),
        sum-same (for_engine caps) caps.engines,
      )
