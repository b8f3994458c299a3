-- Why an engine does not take a front, row by row.
use Rattle.std.proofs.Common.{◌≡◌, ℕ, ◌<◌, Bool, true, false, not, cond, ◌&&◌, ◌||◌, nat_lt, nat_le, List, [], ◌∷◌}
use Rattle.std.proofs.Common.{length, get_or, slice_get, Option, Some, None, refl, sym, ◌∙◌, ap, arith}
use Rattle.std.proofs.lemmas.{Grind.{common_steps}, Bool.{and_parts, lt-ltb, ltb-true, not-true}}
use Rattle.std.specs.{Prelude.{is_none, is_some, find, unwrap_or}, List.{list_any, list_all}, Option.{option_map}}
use Rattle.dsa_base.{specs.{Rows.{first_row, when, passes}, Numbers.{has, numbers_below}}, proofs.{FirstPlaces.{hit-at}, Tables.{when-some}}}
use Rattle.dsa_regs.specs.{declared.GroupConfig.{GroupConfig}, Config.{group_at, zero_group}, Buffers.{fits}}
use Rattle.dsa_buffers.specs.{declared.want.BufferWant.{BufferWant}, Buffers.{IsRoom, want_of}}
use Rattle.dsa_store.specs.{declared.entry.Entry.{Entry}, Content.{HeldEntry, Content, chain}}
use Rattle.dsa_book.specs.State.{Setup, Work, has_queue, is_off, need_of, is_batch_of, is_drain_of, any_in}
use Rattle.dsa_book.specs.Choice.{nothing}
use Rattle.dsa_book.specs.Work.{group_of_engine, group_in, has_room, in_progress, note_at, serves, front_of, qualifies}
use Rattle.dsa_book.specs.Work.{is_draining, may_leave, may_take, progress_list}
use Rattle.dsa_engines.specs.declared.reasons.QueueReason.{QueueReason}
use Rattle.dsa_engines.specs.declared.reasons.QueueReason.TheVariants.{Empty, NoSlot, NoBuffers, OtherBatch, OtherDrain}
use Rattle.dsa_engines.specs.declared.taking.TakeBlock.{TakeBlock, TheVariants.{Buffers, Batch, Drain}}
use Rattle.dsa_engines.specs.Engines.{EnginesState, IsInStep, work, buffers_at}
use Rattle.dsa_engines.specs.Dispatch.{is_offered, batch_name, drain_name, take_table, block_table, front_reason}
use Rattle.dsa_engines.specs.Dispatch.{queue_reason, all_have_reasons}
use Rattle.dsa_engines.proofs.{Rows.{find-any}, Keeping.{awake-found}}

-- a front has a reason exactly where the engine may not take it
reason-taken : (w : Work) (e : ℕ) (front : HeldEntry) → is_some (first_row (take_table w e front)) ≡ not (may_take w e front)
reason-taken w e front = go (nat_lt (length (in_progress w e)) w.setup.caps.slots)
    (has_room w e (need_of w.setup front.1)) (is_none (note_at w e) || not (is_batch_of w.setup front.1))
    (is_drain_of w.setup front.1 && is_draining w e) (length (in_progress w e)) w.setup.caps.slots
    (want_of (buffers_at w) (unwrap_or (group_of_engine w e) 0) (need_of w.setup front.1)) (batch_name w e) (drain_name w e)
  where
    go : (a b c d : Bool) (used slots : ℕ) (want : BufferWant) (batch drain : ℕ)
        → is_some (first_row ((not a, NoSlot used slots) ∷ (not b, NoBuffers want) ∷ (not c, OtherBatch batch) ∷
        (d, OtherDrain drain) ∷ [])) ≡ not (a && b && c && not d)
    go false b c d used slots want batch drain = refl
    go true false c d used slots want batch drain = refl
    go true true false d used slots want batch drain = refl
    go true true true false used slots want batch drain = refl
    go true true true true used slots want batch drain = refl

-- and a queue of the engine's group exactly where it does not qualify
pub reason-some : (w : Work) (e q : ℕ) → is_some (queue_reason w e q) ≡ (is_offered w e q && not (qualifies w e q))
reason-some w e q = go (nat_lt e w.setup.caps.engines && has_queue w.setup q) (serves w e q) (front_of w q)
  where
    go : (a b : Bool) (front : Option HeldEntry) → is_some (cond (a && b) (front_reason w e front) None)
        ≡ (a && b && not (a && (b && passes (may_take w e) front)))
    go false b front = refl
    go true false front = refl
    go true true None = refl
    go true true (Some front) = reason-taken w e front

-- ---- slots

-- one is left where not all are taken
pub slot-left : (used slots : ℕ) (full : Option ℕ) → full ≡ when (not (nat_lt used slots)) used → is_some full ≡ false
    → used < slots
slot-left used slots full is none = ltb-true used slots (go (nat_lt used slots) full is none)
  where
    go : (b : Bool) (full : Option ℕ) → full ≡ when (not b) used → is_some full ≡ false → b ≡ true
    go true full is none = refl
    go false None is none = absurd cc
    go false (Some n) is none = absurd cc

-- ---- what keeps an engine with a slot left from a front

-- where no Drain is in progress, no front waits for one
pub no-drain : (w : Work) (e : ℕ) (front : Entry) → e < w.setup.caps.engines
    → find (λ (pair : HeldEntry). is_drain_of w.setup pair.1) (chain w.content (progress_list w.setup e)) ≡ None
    → (is_drain_of w.setup front && is_draining w e) ≡ false
no-drain w e front he h =
    let none = find-any (λ (pair : HeldEntry). is_drain_of w.setup pair.1) (chain w.content (progress_list w.setup e)) in
    rw (lt-ltb e w.setup.caps.engines he) (grind (arith, common_steps, none, h))

-- where one is, a Drain waits for it
pub one-drain : (w : Work) (e : ℕ) (front : Entry) (pair : HeldEntry) → e < w.setup.caps.engines
    → is_drain_of w.setup front ≡ true
    → find (λ (pair : HeldEntry). is_drain_of w.setup pair.1) (chain w.content (progress_list w.setup e)) ≡ Some pair
    → ((is_drain_of w.setup front && is_draining w e) ≡ true) × (drain_name w e ≡ pair.1.name)
one-drain w e front pair he is h =
    let some = find-any (λ (pair : HeldEntry). is_drain_of w.setup pair.1) (chain w.content (progress_list w.setup e)) in
    rw (lt-ltb e w.setup.caps.engines he) (grind (arith, common_steps, some, is, h), rw h refl)

-- what is no batch waits for none
pub no-batch : (w : Work) (e : ℕ) (front : Entry) → is_batch_of w.setup front ≡ false
    → (is_none (note_at w e) || not (is_batch_of w.setup front)) ≡ true
no-batch w e front h = rw h (go (is_none (note_at w e)))
  where
    go : (b : Bool) → (b || true) ≡ true
    go true = refl
    go false = refl

-- the last rows, where neither the buffers nor a batch keeps it
module _ (w : Work) (e : ℕ) (room : Bool) (front : Entry) (fits : room ≡ true)
    (batch : (is_none (note_at w e) || not (is_batch_of w.setup front)) ≡ true) where
  pub free-block : (is_drain_of w.setup front && is_draining w e) ≡ false → None ≡ first_row (block_table w e room front)
  free-block drain = rw (fits, batch, drain) refl

  pub drain-block : (name : ℕ) → ((is_drain_of w.setup front && is_draining w e) ≡ true) × (drain_name w e ≡ name)
      → Some (Drain name) ≡ first_row (block_table w e room front)
  drain-block name drain = rw (fits, batch, drain.0, drain.1) refl

-- the answer of a call that asks whether there is none
pub none-is : {X : Type 0} (b : Bool) (o : Option X) → is_some o ≡ not b → b ≡ is_none o
none-is true o h = rw h refl
none-is false o h = rw h refl

-- it may be taken exactly where there is no such row
pub block-free : (w : Work) (e : ℕ) (room : Bool) (front : Entry) → e < w.setup.caps.engines
    → is_none (first_row (block_table w e room front))
    ≡ (room && (is_none (note_at w e) || not (is_batch_of w.setup front))
    && not (is_drain_of w.setup front
    && any_in (is_drain_of w.setup) (chain w.content (progress_list w.setup e))))
block-free w e room front he = rw (lt-ltb e w.setup.caps.engines he)
    (go room (is_none (note_at w e) || not (is_batch_of w.setup front))
    (is_drain_of w.setup front && any_in (is_drain_of w.setup) (chain w.content (progress_list w.setup e))) (batch_name w e) _)
  where
    go : (a b c : Bool) (batch drain : ℕ)
        → is_none (first_row ((not a, Buffers) ∷ (not b, Batch batch) ∷ (c, Drain drain) ∷ [])) ≡ (a && b && not c)
    go false b c batch drain = refl
    go true false c batch drain = refl
    go true true false batch drain = refl
    go true true true batch drain = refl

-- ---- the reason of a queue that is offered

-- the reason of a row, where so many of that group are asked for
abbrev pub told_of : BufferWant → TakeBlock → QueueReason
told_of want Buffers = NoBuffers want
told_of want (Batch name) = OtherBatch name
told_of want (Drain name) = OtherDrain name

offered : (b : Bool) (home : Option ℕ) (g : ℕ) → Some g ≡ cond b home None → (b ≡ true) × (home ≡ Some g)
offered true home g h = (refl, sym h)
offered false home g h = absurd cc

module _ {cells : ℕ} {setup : Setup} {engines_state : EnginesState} {content : Content} (e q : ℕ) {g : ℕ}
    (s : IsInStep setup engines_state cells content)
    (there : Some g ≡ cond (is_offered (work setup engines_state content []) e q) (group_in setup.groups e) None) where
  is-offered : is_offered (work setup engines_state content []) e q ≡ true
  is-offered = (offered (is_offered (work setup engines_state content []) e q) (group_in setup.groups e) g there).0

  home : group_in setup.groups e ≡ Some g
  home = (offered (is_offered (work setup engines_state content []) e q) (group_in setup.groups e) g there).1

  both-there : (nat_lt e setup.caps.engines && nat_lt q setup.caps.queues) ≡ true
  both-there = (and_parts (nat_lt e setup.caps.engines && nat_lt q setup.caps.queues) (serves (work setup engines_state content []) e q) is-offered).0

  pub offered-engine : e < setup.caps.engines
  offered-engine = ltb-true e setup.caps.engines (and_parts (nat_lt e setup.caps.engines) (nat_lt q setup.caps.queues)
      both-there).0

  pub offered-queue : q < setup.caps.queues
  offered-queue = ltb-true q setup.caps.queues (and_parts (nat_lt e setup.caps.engines) (nat_lt q setup.caps.queues)
      both-there).1

  module _ {front : HeldEntry} (hf : slice_get (chain content q) 0 ≡ Some front) where
    on : is_off setup.device ≡ false
    on = awake-found s (λ (l : List HeldEntry). slice_get l 0) q refl hf

    pub offered-group : g < length engines_state.buffers.groups
    offered-group = rw (s.buffers on) (hit-at (λ (x : GroupConfig). has x.engines e) setup.groups zero_group g home).0

    table : queue_reason (work setup engines_state content []) e q ≡ first_row (take_table (work setup engines_state content []) e front)
    table = rw (is-offered, hf) refl

    -- no slot is left
    pub slot-reason : {used : ℕ} (full : Option ℕ)
        → full ≡ when (not (nat_lt (length (chain content (progress_list setup e))) setup.caps.slots))
        (length (chain content (progress_list setup e))) → full ≡ Some used
        → Some (NoSlot used setup.caps.slots) ≡ queue_reason (work setup engines_state content []) e q
    slot-reason {used} full is some =
        let chain_length = length (chain content (progress_list setup e)) in
        let taken = when-some (not (nat_lt chain_length setup.caps.slots)) chain_length used (sym is ∙ some) in
        let off : nat_lt (length (in_progress (work setup engines_state content []) e)) setup.caps.slots ≡ false =
        rw (lt-ltb e setup.caps.engines offered-engine) (not-true _ taken.0) in
        let same : length (in_progress (work setup engines_state content []) e) ≡ used =
        rw (lt-ltb e setup.caps.engines offered-engine) taken.1 in
        rw (table, off, same) refl

    -- else what keeps the engine, which has a slot left, from it
    pub block-reason : (room : ℕ) (full : Option ℕ)
        → full ≡ when (not (nat_lt (length (chain content (progress_list setup e))) setup.caps.slots))
        (length (chain content (progress_list setup e))) → full ≡ None → IsRoom engines_state.buffers g room
        → option_map (told_of (want_of engines_state.buffers g (need_of setup front.1)))
        (first_row (block_table (work setup engines_state content []) e (nat_le (need_of setup front.1) room) front.1)) ≡ queue_reason (work setup engines_state content []) e q
    block-reason room full is none fitting_room =
        let fitting : nat_le (need_of setup front.1) room ≡ has_room (work setup engines_state content []) e (need_of setup front.1) =
        sym (fitting_room offered-group (need_of setup front.1)) ∙ rw (home, s.buffers on) refl in
        let left : nat_lt (length (in_progress (work setup engines_state content []) e)) setup.caps.slots ≡ true =
        rw (lt-ltb e setup.caps.engines offered-engine)
        (free (nat_lt (length (chain content (progress_list setup e))) setup.caps.slots)
        (length (chain content (progress_list setup e))) (sym none ∙ is)) in
        let wants : want_of engines_state.buffers g (need_of setup front.1)
        ≡ want_of (buffers_at (work setup engines_state content [])) (unwrap_or (group_of_engine (work setup engines_state content []) e) 0) (need_of setup front.1) =
        rw (home, s.buffers on) refl in
        ap (λ (want : BufferWant). option_map (told_of want)
        (first_row (block_table (work setup engines_state content []) e (nat_le (need_of setup front.1) room) front.1))) wants
        ∙ rw (table, left, fitting) (go (has_room (work setup engines_state content []) e (need_of setup front.1))
        (is_none (note_at (work setup engines_state content []) e) || not (is_batch_of setup front.1)) (is_drain_of setup front.1 && is_draining (work setup engines_state content []) e)
        (want_of (buffers_at (work setup engines_state content [])) (unwrap_or (group_of_engine (work setup engines_state content []) e) 0) (need_of setup front.1)) (batch_name (work setup engines_state content []) e) (drain_name (work setup engines_state content []) e))
      where
        free : (b : Bool) (n : ℕ) → None ≡ when (not b) n → b ≡ true
        free true n is = refl
        free false n is = absurd cc

        go : (a b c : Bool) (want : BufferWant) (batch drain : ℕ)
            → option_map (told_of want) (first_row ((not a, Buffers) ∷ (not b, Batch batch) ∷ (c, Drain drain) ∷ []))
            ≡ first_row ((not a, NoBuffers want) ∷ (not b, OtherBatch batch) ∷ (c, OtherDrain drain) ∷ [])
        go false b c want batch drain = refl
        go true false c want batch drain = refl
        go true true false want batch drain = refl
        go true true true want batch drain = refl

-- ---- an idle engine

-- an engine is idle exactly where each queue that is offered to it has a reason
pub idle-reasons : (w : Work) (e : ℕ) → may_leave w e nothing ≡ all_have_reasons w e
idle-reasons w e = go (numbers_below w.setup.caps.queues)
  where
    one : (a b c : Bool) → c ≡ (a && not b) → (b ≡ true → a ≡ true) → not b ≡ (not a || c)
    one true b c h more = grind (arith, common_steps, h)
    one false true c h more = let no : false ≡ true = more refl in absurd cc
    one false false c h more = refl

    takes : (q : ℕ) → qualifies w e q ≡ true → is_offered w e q ≡ true
    takes q h = grind (arith, common_steps, h)

    go : (qs : List ℕ) → not (list_any (qualifies w e) qs)
        ≡ list_all (λ q. not (is_offered w e q) || is_some (queue_reason w e q)) qs
    go [] = refl
    go (q ∷ qs) =
        let here = one (is_offered w e q) (qualifies w e q) (is_some (queue_reason w e q)) (reason-some w e q)
        (takes q) in
        both (qualifies w e q) (list_any (qualifies w e) qs) here (go qs)
      where
        both : (a b : Bool) {c d : Bool} → not a ≡ c → not b ≡ d → not (a || b) ≡ (c && d)
        both true b h k = rw (← h) refl
        both false b h k = rw (← h) k
