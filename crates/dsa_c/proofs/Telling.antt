-- A reason has a kind exactly where it has a sentence.
use Rattle.dsa_book.specs.declared.event.Event.TheVariants as event
use Rattle.dsa_book.specs.declared.fate.Fate.TheVariants as fate
use Rattle.dsa_queues.specs.declared.reasons.SubmitReason.TheVariants as submit
use Rattle.dsa_queues.specs.declared.reasons.ClearReason.TheVariants as clear
use Rattle.dsa_engines.specs.declared.reasons.EngineReason.TheVariants as engine
use Rattle.dsa_engines.specs.declared.reasons.QueueReason.TheVariants as queue
use Rattle.dsa_engines.specs.declared.reasons.FetchReason.TheVariants as fetch
use Rattle.dsa_engines.specs.declared.reasons.StartReason.TheVariants as start
use Rattle.dsa_engines.specs.declared.reasons.FinishReason.TheVariants as finish
use Rattle.dsa_explain.specs.declared.done.DoneReason.TheVariants as done
use Rattle.dsa_admin.specs.declared.reasons.IssueReason.TheVariants as issue
use Rattle.dsa_admin.specs.declared.reasons.PollReason.TheVariants as poll
use Rattle.dsa_regs.specs.declared.reasons.CheckReason.TheVariants as check
use Rattle.dsa_regs.specs.declared.reasons.Named.TheVariants as named
use Rattle.dsa_regs.specs.declared.reasons.Bound.TheVariants as bound
use Rattle.dsa_regs.specs.declared.layout.ListUse.TheVariants as list
use Rattle.dsa_c.specs.declared.kinds.TheConstants as kind
use Rattle.std.proofs.Common.{◌≡◌, ◌≢◌, ◌<◌, ◌≤◌, ℕ, suc, ◌+◌, Bool, true, false, cond, ◌==◌, ◌||◌, List, [], ◌∷◌, ◌++◌}
use Rattle.std.proofs.Common.{Option, Some, None, refl, ap, ◌∙◌, arith, length, length-append, drop, nat_lt, inl, inr}
use Rattle.std.proofs.lemmas.{Grind.{common_steps}, Bool.{cases_Bool}}
use Rattle.std.proofs.lemmas.List.Sums.{sum_by-cons, sum_by-append}
use Rattle.std.specs.Prelude.{◌↔◌, ◌⊎◌, codes, decimal, flat_map, is_some}
use Rattle.std.specs.List.{list_any, count_by}
use Rattle.std.specs.{Option.{option_map_or}, Fmt.{digits}}
use Rattle.dsa_base.specs.Numbers.{numbers_below}
use Rattle.dsa_desc.specs.declared.Outcome.{Outcome}
use Rattle.dsa_desc.specs.Descriptor.{OperationRow, operation_row}
use Rattle.dsa_regs.specs.declared.{Caps.{Caps}, Command.{Command}, Deed.{Deed, TheVariants.{Enable, Disable, Drain, Abort, Reset}}}
use Rattle.dsa_regs.specs.declared.{layout.ListUse.{ListUse}}
use Rattle.dsa_regs.specs.declared.reasons.{CheckReason.{CheckReason}}
use Rattle.dsa_regs.specs.{Command.{deed_of, scope_of}, Caps.{list_use}}
use Rattle.dsa_store.specs.{declared.entry.Entry.{Entry}, Content.{HeldEntry, Content, all_held, count_where}}
use Rattle.dsa_book.specs.declared.{event.Event.{Event}, answer.Ticket.{Ticket}, fate.Fate.{Fate}}
use Rattle.dsa_book.specs.{State.{State, Work}, Work.{front_of}, Commands.{is_in_scope}, Machine.{intake_of}}
use Rattle.dsa_queues.specs.declared.reasons.{SubmitReason.{SubmitReason}, ClearReason.{ClearReason}}
use Rattle.dsa_queues.specs.{Submission.{submit_reason}, Write.{clear_reason}}
use Rattle.dsa_engines.specs.declared.reasons.{EngineReason.{EngineReason}, QueueReason.{QueueReason}}
use Rattle.dsa_engines.specs.declared.reasons.{FetchReason.{FetchReason}, StartReason.{StartReason}}
use Rattle.dsa_engines.specs.declared.reasons.FinishReason.{FinishReason}
use Rattle.dsa_engines.specs.{Dispatch.{engine_reason, queue_reason}, Finish.{finish_reason}}
use Rattle.dsa_engines.specs.Batch.{fetch_reason, name_of_entry, start_reason}
use Rattle.dsa_admin.specs.declared.reasons.{IssueReason.{IssueReason}, PollReason.{PollReason}}
use Rattle.dsa_admin.specs.Command.{issue_reason, poll_reason}
use Rattle.dsa_device.specs.Running.{Running}
use Rattle.dsa_explain.specs.declared.{held.ListedEntry.{ListedEntry}, done.DoneReason.{DoneReason}}
use Rattle.dsa_explain.specs.declared.awaiting.WaitReason.{WaitReason}
use Rattle.dsa_explain.specs.Held.{NamedList, names_where, named_list, lists_from, losses, awaited_entry}
use Rattle.dsa_explain.specs.{Wait.{wait_reason}, Done.{done_reason}}
use Rattle.dsa_explain_lines.specs.Sentences.{submit_sentence, engine_sentence, queue_sentence, fetch_sentence}
use Rattle.dsa_explain_lines.specs.Sentences.{start_sentence, finish_sentence, issue_sentence, poll_sentence}
use Rattle.dsa_explain_lines.specs.Sentences.{done_sentence, fate_sentence, check_sentence, clear_sentence, no_engine}
use Rattle.dsa_explain_lines.specs.Sentences.{active_words, unnamed_sentence, list_words}
use Rattle.dsa_explain_lines.specs.Parts.{told_of, any_reason, joint, queue_part, queue_part_of, dispatch_part_of}
use Rattle.dsa_explain_lines.specs.Parts.{start_part_of, unended_words, gone_words, is_of_cell, fate_named}
use Rattle.dsa_explain_lines.specs.Parts.{finish_part_of, lists_part, losses_part, wait_part_of, deed_part, issue_part_of}
use Rattle.dsa_explain_lines.specs.Parts.{event_part, full_part, queue_keeping, start_part}
use Rattle.dsa_explain_lines.proofs.Reasons.{begins}
use Rattle.dsa_c.specs.declared.reason.DeviceReason.{DeviceReason}
use Rattle.dsa_c.specs.Reasons.{in_32_bits, in_list, submit_numbers, engine_numbers, fetch_numbers, start_numbers}
use Rattle.dsa_c.specs.Reasons.{finish_numbers, fate_numbers, done_numbers, check_numbers, waiting_numbers, active_numbers}
use Rattle.dsa_c.specs.Reasons.{issue_numbers, poll_numbers, wait_numbers, clear_numbers, without_reason, told_in_numbers}
use Rattle.dsa_c.specs.Reasons.{idle_numbers, gone_numbers, unended_numbers, end_numbers, removal_numbers, deed_numbers}
use Rattle.dsa_c.specs.Reasons.{command_told, event_numbers, full_numbers, reason_for_c, reason_of_engine}
use Rattle.dsa_c.specs.Reasons.{command_numbers, reason_of_kind, reason_of_name}
use Rattle.dsa_c.specs.Reasons.{writes_config, removed_count, unstarted_numbers}
use Rattle.dsa_c.specs.Why.{is_taking, reason_words}

-- ---- texts

right-empty : (a b : List ℕ) → a ++ b ≡ [] → b ≡ []
right-empty [] b e = e
right-empty (x ∷ a) b e = absurd (begins x (a ++ b) e)

left-empty : (a b : List ℕ) → a ++ b ≡ [] → a ≡ []
left-empty [] b e = refl
left-empty (x ∷ a) b e = absurd (begins x (a ++ b) e)

ends : (a b : List ℕ) → b ≢ [] → a ++ b ≢ []
ends a b some e = some (right-empty a b e)

starts : (a b : List ℕ) → a ≢ [] → a ++ b ≢ []
starts a b some e = some (left-empty a b e)

-- what has no more than its mark is short
few : (l : List ℕ) → drop 2 l ≡ [] → length l ≤ 2
few [] e = omega arith
few (x ∷ []) e = omega arith
few (x ∷ y ∷ []) e = omega arith
few (x ∷ y ∷ z ∷ l) e = absurd (begins z l e)

long : (l : List ℕ) → 2 < length l → drop 2 l ≢ []
long l more e = absurd (omega (arith, few l e, more))

some-length : (l : List ℕ) → l ≢ [] → 0 < length l
some-length [] some = absurd (some refl)
some-length (x ∷ l) some = omega arith

-- ---- a kind and a sentence

positive : (n : ℕ) → nat_lt 0 n ≡ true → n ≢ 0
positive n is none = absurd (grind (arith, common_steps, is, none))

-- both are there
abbrev Says : DeviceReason → List ℕ → Type 0
Says reason text = (reason.kind ≢ 0) × (text ≢ [])

-- both are there, or none is; a text begins with a mark of two signs
abbrev Fits : DeviceReason → List ℕ → Type 0
Fits reason part = (reason.kind ≡ 0) ↔ (drop 2 part ≡ [])

both : (k : ℕ) (text : List ℕ) → k ≢ 0 → text ≢ [] → (k ≡ 0) ↔ (text ≡ [])
both k text some more = (λ e. absurd (some e), λ e. absurd (more e))

none : Fits without_reason []
none = (λ e. refl, λ e. refl)

fits : (reason : DeviceReason) (text : List ℕ) → Says reason text → Fits reason (codes ": " ++ text)
fits reason text says = both reason.kind text says.0 says.1

fits-told : {R : Type 0} (numbers : R → DeviceReason) (sentence : R → List ℕ) (reason : Option R)
    → ((r : R) → Says (numbers r) (sentence r)) → Fits (told_in_numbers numbers reason) (told_of sentence reason)
fits-told numbers sentence None says = none
fits-told numbers sentence (Some r) says = fits (numbers r) (sentence r) (says r)

-- ---- submissions and engines

submits : (q : ℕ) (reason : SubmitReason) → Says (submit_numbers q reason) (submit_sentence q reason)
submits q (submit.NotEnabled device None) = (positive _ refl, begins _ _)
submits q (submit.NotEnabled device (Some phase)) = (positive _ refl, begins _ _)
submits q (submit.WrongKind true) = (positive _ refl, begins _ _)
submits q (submit.WrongKind false) = (positive _ refl, begins _ _)
submits q (submit.AtLimit occupancy limit portal) = (positive _ refl, begins _ _)

engines : (e : ℕ) (reason : EngineReason) → Says (engine_numbers e reason) (engine_sentence e reason)
engines e engine.NoEngine = (positive _ refl, begins _ _)
engines e engine.NoGroup = (positive _ refl, begins _ _)

fetches : (e : ℕ) (reason : FetchReason) → Says (fetch_numbers e reason) (fetch_sentence e reason)
fetches e fetch.NoEngine = (positive _ refl, begins _ _)
fetches e fetch.NoBatch = (positive _ refl, begins _ _)
fetches e (fetch.AllFetched count fetched true) = (positive _ refl, begins _ _)
fetches e (fetch.AllFetched count fetched false) = (positive _ refl, begins _ _)

starts-none : (e : ℕ) (reason : StartReason) → Says (start_numbers e reason) (start_sentence e reason)
starts-none e start.Nothing = (positive _ refl, begins _ _)
starts-none e (start.Fence member waits_for) = (positive _ refl, begins _ _)
starts-none e (start.Failed member None left) = (positive _ refl, begins _ _)
starts-none e (start.Failed member (Some failed) left) = (positive _ refl, begins _ _)
starts-none e (start.NoBuffers want) = (positive _ refl, begins _ _)
starts-none e start.NoGroup = (positive _ refl, begins _ _)

-- a reason keeps its kind in any list
list-some : (place : ListUse) (reason : DeviceReason) → nat_lt 0 reason.kind ≡ true → (in_list place reason).kind ≢ 0
list-some (list.Queue q) reason is = positive reason.kind is
list-some (list.Progress e) reason is = positive reason.kind is
list-some (list.Members e) reason is = positive reason.kind is

finishes : (e : ℕ) (reason : FinishReason) → Says (finish_numbers e reason) (finish_sentence e reason)
finishes e finish.NoEngine = (positive _ refl, begins _ _)
finishes e finish.NoEntry = (positive _ refl, begins _ _)
finishes e (finish.OtherName name) = (positive _ refl, begins _ _)
finishes e (finish.Elsewhere (list.Queue q)) = (positive _ refl, begins _ _)
finishes e (finish.Elsewhere (list.Progress other)) = (positive _ refl, begins _ _)
finishes e (finish.Elsewhere (list.Members other)) = (positive _ refl, begins _ _)
finishes e finish.NotStarted = (positive _ refl, begins _ _)
finishes e (finish.MembersLeft left) = (positive _ refl, starts _ _ (ends (decimal left) _ (begins _ _)))
finishes e (finish.StillToFetch fetched count) = (positive _ refl, begins _ _)
finishes e (finish.DrainWaits first) = (positive _ refl, begins _ _)

-- ---- entries that ended, or end without success

gone : (name : ℕ) (how : Fate) → Says (fate_numbers name how) (fate_sentence name how)
gone name (fate.Completed status) = (positive _ refl, starts _ _ (ends (decimal name) _ (begins _ _)))
gone name (fate.Aborted command) = (positive _ refl, starts _ _ (ends (decimal name) _ (begins _ _)))
gone name fate.Abandoned = (positive _ refl, starts _ _ (ends (decimal name) _ (begins _ _)))

unsupported : (op : ℕ) → done_sentence (done.NotSupported op) ≢ []
unsupported op = go (operation_row op)
  where
    go : (row : Option OperationRow)
        → option_map_or (λ row. row.word ++ codes " is not supported in a batch") row
        (codes "operation 0x" ++ digits 16 false op ++ codes " is not supported")
        ≢ []
    go None = begins _ _
    go (Some row) = ends row.word _ (begins _ _)

ends-badly : (reason : DoneReason) → Says (done_numbers reason) (done_sentence reason)
ends-badly (done.NotSupported op) = (positive _ refl, unsupported op)
ends-badly done.FenceOutside = (positive _ refl, begins _ _)
ends-badly (done.SizeOutside size shift q) = (positive _ refl, begins _ _)
ends-badly (done.CountOutside count shift q) = (positive _ refl, begins _ _)
ends-badly (done.MembersFailed first status failed) = (positive _ refl, begins _ _)
ends-badly done.FailureForgotten = (positive _ refl, begins _ _)
ends-badly done.PageFault = (positive _ refl, begins _ _)

-- ---- commands

checks : (reason : CheckReason) → Says (check_numbers reason) (check_sentence reason)
checks (check.NamesMissing group (named.Queue q) count) = (positive _ refl, begins _ _)
checks (check.NamesMissing group (named.Engine e) count) = (positive _ refl, begins _ _)
checks (check.SizesTooLarge sizes total) = (positive _ refl, begins _ _)
checks (check.TwoGroups (named.Queue q) first second) = (positive _ refl, begins _ _)
checks (check.TwoGroups (named.Engine e) first second) = (positive _ refl, begins _ _)
checks (check.ReservedTooMany reserved total) = (positive _ refl, begins _ _)
checks (check.AllowedOutOfRange group allowed (bound.Reserved reserved)) = (positive _ refl, begins _ _)
checks (check.AllowedOutOfRange group allowed (bound.Unreserved left)) = (positive _ refl, begins _ _)
checks (check.AllowedOutOfRange group allowed bound.Need) = (positive _ refl, begins _ _)
checks (check.GroupWithoutEngine group) = (positive _ refl, begins _ _)
checks (check.GroupWithoutQueue group) = (positive _ refl, begins _ _)
checks (check.SizeZero q) = (positive _ refl, begins _ _)
checks (check.PriorityZero q) = (positive _ refl, begins _ _)
checks (check.PriorityTooLarge q priority) = (positive _ refl, begins _ _)
checks (check.ThresholdZero q) = (positive _ refl, begins _ _)
checks (check.ThresholdAboveSize q threshold size) = (positive _ refl, begins _ _)
checks (check.BatchTooLarge q asked most) = (positive _ refl, begins _ _)
checks (check.TransferTooLarge q asked most) = (positive _ refl, begins _ _)
checks (check.NoGroup q) = (positive _ refl, begins _ _)

-- and whatever is awaited
waiting-some : (awaited : ℕ) (first : Option ListedEntry) (reason : DeviceReason) → nat_lt 0 reason.kind ≡ true
    → (waiting_numbers awaited first reason).kind ≢ 0
waiting-some awaited None reason is = positive reason.kind is
waiting-some awaited (Some first) reason is = list-some first.list _ is

active : (command : Command) (awaited : ℕ) (first : Option ListedEntry)
    → Says (active_numbers command awaited first) (active_words command awaited first)
active command awaited first = go (awaited == 0) refl
  where
    go : (over : Bool) → (awaited == 0) ≡ over → Says (active_numbers command awaited first) (active_words command awaited first)
    go true is = rw is (positive _ refl, ends _ _ (begins _ _))
    go false is = rw is (waiting-some awaited first (command_numbers kind.COMMAND_ACTIVE command) refl, ends _ _ (begins _ _))

issues : (first : Option ListedEntry) (reason : IssueReason) → Says (issue_numbers first reason) (issue_sentence first reason)
issues first (issue.Busy command awaited) = active command awaited first
issues first (issue.NoQueue None) = (positive _ refl, begins _ _)
issues first (issue.NoQueue (Some q)) = (positive _ refl, begins _ _)
issues first (issue.WrongPhase None phase) = (positive _ refl, begins _ _)
issues first (issue.WrongPhase (Some q) phase) = (positive _ refl, begins _ _)
issues first (issue.Check reason) = checks reason

polls : (first : Option ListedEntry) (reason : PollReason) → Says (poll_numbers first reason) (poll_sentence first reason)
polls first poll.Nothing = (positive _ refl, begins _ _)
polls first (poll.Waits awaited) = (waiting-some awaited first (reason_of_kind kind.COMMAND_WAITS) refl, begins _ _)

clears : (reason : ClearReason) → Says (clear_numbers reason) (clear_sentence reason)
clears clear.NothingNoted = (positive _ refl, begins _ _)

-- ---- what a command removes, and what it waits for

-- the names of a list are as many as pass
names-count : (test : Entry → Bool) (pairs : List HeldEntry)
    → count_by (λ (s : HeldEntry). test s.1) pairs ≡ length (names_where test pairs)
names-count test [] = refl
names-count test (s ∷ pairs) =
    let one = sum_by-cons (λ (x : HeldEntry). cond (test x.1) 1 0) s pairs in
    elim (cases_Bool (test s.1)) [
      | inl hit ↦ grind (arith, common_steps, one, hit, names-count test pairs)
      | inr miss ↦ grind (arith, common_steps, one, miss, names-count test pairs)
    ]

-- no entry and no list, or entries and a text that is longer than its mark
abbrev IsLost : List ℕ → ℕ → List NamedList → Type 0
IsLost verb count lists =
    ((count ≡ 0) × (lists ≡ [])) ⊎ ((0 < count) × (2 < length (lists_part verb (codes ": ") lists)))

module _ (test : Entry → Bool) (verb : List ℕ) (caps : Caps) where
  -- one name is enough
  one-lost : (place : ListUse) (name : ℕ) (names more : List ℕ)
      → 2 < length (list_words (codes ": ") verb place (name ∷ names) ++ more)
  one-lost (list.Queue q) name names more = omega arith
  one-lost (list.Progress e) name names more = omega arith
  one-lost (list.Members e) name names more = omega arith

  -- the lists from this number on
  lost : (n : ℕ) (content : Content) → IsLost verb (count_where test content) (lists_from caps test n content)
  lost n [] = inl (refl, refl)
  lost n (pairs ∷ content) = go (names_where test pairs) refl (lost (suc n) content)
    where
      rest : List NamedList
      rest = lists_from caps test (suc n) content

      counted : count_where test (pairs ∷ content) ≡ length (names_where test pairs) + count_where test content
      counted = sum_by-append (λ (s : HeldEntry). cond (test s.1) 1 0) pairs (all_held content)
          ∙ ap (λ (k : ℕ). k + count_where test content) (names-count test pairs)

      go : (names : List ℕ) → names_where test pairs ≡ names → IsLost verb (count_where test content) rest
          → IsLost verb (count_where test (pairs ∷ content)) (named_list (list_use caps n) (names_where test pairs) ++ rest)
      go [] is (inl h) = inl (omega (arith, counted, ap length is, h.0), rw is h.1)
      go [] is (inr h) = inr (omega (arith, counted, ap length is, h.0), rw is h.1)
      go (name ∷ names) is h = inr (
        omega (arith, counted, ap length is),
        rw is
            (one-lost (list_use caps n) name names (lists_part verb (codes "; ") rest)),
      )

removes : (removed : ℕ) → 0 < removed → (removal_numbers removed).kind ≢ 0
removes removed some = go (removed == 0) refl
  where
    go : (b : Bool) → (removed == 0) ≡ b → (removal_numbers removed).kind ≢ 0
    go true is = absurd (grind (arith, common_steps, is, some))
    go false is = rw is (positive _ refl)

-- so many that are removed, with a text of them
removed-fits : (count : ℕ) (part : List ℕ) → ((count ≡ 0) × (part ≡ [])) ⊎ ((0 < count) × (2 < length part))
    → Fits (removal_numbers (in_32_bits count)) part
removed-fits count part (inl h) = rw (h.0, h.1) none
removed-fits count part (inr h) = both _ _ (removes (in_32_bits count) (omega (arith, h.0))) (long part h.1)

-- an abort or a reset
removal : (s : State) (command : Command) → Fits (removal_numbers (removed_count s command)) (losses_part s command)
removal s command = removed-fits (count_where test s.work.content) (losses_part s command)
    (go (losses s command) (lost test (codes " loses ") s.work.setup.caps 0 s.work.content))
  where
    test : Entry → Bool
    test = is_in_scope (scope_of command)

    go : (lists : List NamedList) → IsLost (codes " loses ") (count_where test s.work.content) lists
        → ((count_where test s.work.content ≡ 0) × (lists_part (codes " loses ") (codes ": ") lists ≡ []))
        ⊎ ((0 < count_where test s.work.content) × (2 < length (lists_part (codes " loses ") (codes ": ") lists)))
    go lists (inl h) = inl (h.0, ap (λ (ls : List NamedList). lists_part (codes " loses ") (codes ": ") ls) h.1)
    go lists (inr h) = inr h

-- a drain or a disable
waits : (s : State) (command : Command) (reason : Option WaitReason)
    → Fits (told_in_numbers wait_numbers reason) (wait_part_of s command reason)
waits s command None = none
waits s command (Some reason) =
    both _ _ (waiting-some reason.awaited (Some reason.first) (reason_of_kind kind.WOULD_WAIT) refl) (begins _ _)

deeds : (s : State) (command : Command) (deed : Deed) → Fits (deed_numbers s command deed) (deed_part s command deed)
deeds s command Enable = waits s command (wait_reason s command)
deeds s command Disable = waits s command (wait_reason s command)
deeds s command Drain = waits s command (wait_reason s command)
deeds s command Abort = removal s command
deeds s command Reset = removal s command

commands : (s : State) (command : Command) (reason : Option IssueReason)
    → Fits (command_told s command reason) (issue_part_of s command reason)
commands s command None = deeds s command (deed_of command)
commands s command (Some reason) =
    fits (issue_numbers (awaited_entry s) reason) (issue_sentence (awaited_entry s) reason) (issues (awaited_entry s) reason)

-- ---- idle engines

queue-some : (q name : ℕ) (reason : QueueReason) → queue_sentence q name reason ≢ []
queue-some q name queue.Empty = begins _ _
queue-some q name (queue.NoSlot used slots) = begins _ _
queue-some q name (queue.NoBuffers want) = begins _ _
queue-some q name (queue.OtherBatch batch) = begins _ _
queue-some q name (queue.OtherDrain drain) = begins _ _

joint-two : (w : Work) (e q : ℕ) → length (joint w e q) ≡ 2
joint-two w e q = go (any_reason w e q)
  where
    go : (b : Bool) → length (cond b (codes "; ") (codes ": ")) ≡ 2
    go true = refl
    go false = refl

queue-long : (w : Work) (e q : ℕ) → is_some (queue_reason w e q) ≡ true → 2 < length (queue_part w e q)
queue-long w e q = go (queue_reason w e q)
  where
    go : (reason : Option QueueReason) → is_some reason ≡ true → 2 < length (queue_part_of w e q reason)
    go None h = absurd cc
    go (Some reason) h =
        let told = queue_sentence q (name_of_entry (front_of w q)) reason in
        omega (
          arith,
          joint-two w e q,
          length-append (joint w e q ++ told) (queue_keeping w reason),
          length-append (joint w e q) told,
          some-length told (queue-some q (name_of_entry (front_of w q)) reason),
        )

queues-long : (w : Work) (e : ℕ) (qs : List ℕ) → list_any (λ q. is_some (queue_reason w e q)) qs ≡ true
    → 2 < length (flat_map (queue_part w e) qs)
queues-long w e [] h = absurd cc
queues-long w e (q ∷ qs) h = go (is_some (queue_reason w e q)) refl h (λ there. queues-long w e qs there)
  where
    parts : length (flat_map (queue_part w e) (q ∷ qs))
        ≡ length (queue_part w e q) + length (flat_map (queue_part w e) qs)
    parts = length-append (queue_part w e q) (flat_map (queue_part w e) qs)

    go : (b : Bool) → is_some (queue_reason w e q) ≡ b → (b || list_any (λ q. is_some (queue_reason w e q)) qs) ≡ true
        → (list_any (λ q. is_some (queue_reason w e q)) qs ≡ true → 2 < length (flat_map (queue_part w e) qs))
        → 2 < length (flat_map (queue_part w e) (q ∷ qs))
    go true is h more = omega (arith, parts, queue-long w e q is)
    go false is h more = omega (arith, parts, more h)

idle : (w : Work) (e : ℕ) (reason : Option EngineReason) → Fits (idle_numbers w e reason) (dispatch_part_of w e reason)
idle w e (Some reason) = fits (engine_numbers e reason) (engine_sentence e reason) (engines e reason)
idle w e None = go (any_reason w e w.setup.caps.queues) refl
  where
    go : (b : Bool) → any_reason w e w.setup.caps.queues ≡ b → Fits (idle_numbers w e None) (dispatch_part_of w e None)
    go true is = rw is (both _ _ (positive _ refl) (long _ (queues-long w e (numbers_below w.setup.caps.queues) is)))
    go false is = rw is (both _ _ (positive _ refl) (begins _ _))

-- ---- members that do not start, and entries that do not end

unstarted : (w : Work) (e : ℕ) → Fits (unstarted_numbers w e) (start_part w e)
unstarted w e = go (nat_lt e w.setup.caps.engines) (start_reason w e)
  where
    go : (b : Bool) (reason : Option StartReason)
        → Fits (cond b (told_in_numbers (start_numbers e) reason) (reason_of_engine kind.NO_SUCH_ENGINE e))
        (cond b (start_part_of w e reason) (codes ": " ++ no_engine e))
    go true None = none
    go true (Some reason) =
        both _ _ (starts-none e reason).0 (starts (start_sentence e reason) _ (starts-none e reason).1)
    go false reason = both _ _ (positive _ refl) (begins _ _)

unended : (w : Work) (e : ℕ) (ticket : Ticket) (reason : FinishReason)
    → Says (unended_numbers w e ticket reason) (unended_words w e ticket reason)
unended w e ticket reason = go (is_of_cell reason) (fate_named w ticket.name)
  where
    given : (b : Bool) → Says (cond b (finish_numbers e reason) (reason_of_name kind.NO_SUCH_NAME ticket.name))
        (cond b (finish_sentence e reason) (unnamed_sentence ticket.name))
    given true = finishes e reason
    given false = (positive _ refl, begins _ _)

    go : (b : Bool) (how : Option Fate) → Says (cond b (gone_numbers w e ticket reason how) (finish_numbers e reason))
        (cond b (gone_words w e ticket reason how) (finish_sentence e reason))
    go true (Some how) = gone ticket.name how
    go true None = given (nat_lt ticket.name w.setup.next_name)
    go false how = finishes e reason

ended : (w : Work) (e : ℕ) (ticket : Ticket) (outcome : Outcome) (reason : Option FinishReason)
    → Fits (end_numbers w e ticket outcome reason) (finish_part_of w e ticket outcome reason)
ended w e ticket outcome (Some reason) =
    fits (unended_numbers w e ticket reason) (unended_words w e ticket reason) (unended w e ticket reason)
ended w e ticket outcome None = fits-told done_numbers done_sentence (done_reason w e ticket outcome) ends-badly

-- ---- any event

each : (s : State) (event : Event) → writes_config event ≡ false → Fits (event_numbers s event) (event_part s event)
each s (event.Submit client queue portal kind desc) reads =
    fits-told (submit_numbers queue) (submit_sentence queue) (submit_reason (intake_of s) queue portal kind) (submits queue)
each s (event.Dispatch engine) reads = idle s.work engine (engine_reason s.work engine)
each s (event.Fetch engine desc) reads =
    fits-told (fetch_numbers engine) (fetch_sentence engine) (fetch_reason s.work engine) (fetches engine)
each s (event.Start engine) reads = unstarted s.work engine
each s (event.Finish engine ticket outcome) reads =
    ended s.work engine ticket outcome (finish_reason s.work engine ticket)
each s (event.Issue command) reads = commands s command (issue_reason s command)
each s event.Poll reads =
    fits-told (poll_numbers (awaited_entry s)) (poll_sentence (awaited_entry s)) (poll_reason s) (polls (awaited_entry s))
each s (event.WriteQueue queue config) reads = absurd cc
each s (event.WriteGroup group config) reads = absurd cc
each s event.ClearError reads = fits-told clear_numbers clear_sentence (clear_reason s.work.setup.noted) clears

full : (now : Running) → Fits (full_numbers now) (full_part now)
full now = go (nat_lt now.capacity now.room)
  where
    go : (b : Bool) → Fits (record (full_numbers now) { kind = cond b kind.NAMES_SHORT kind.HISTORY_FULL }) (full_part now)
    go true = both _ _ (positive _ refl) (begins _ _)
    go false = both _ _ (positive _ refl) (begins _ _)

pub law : (now : Running) (event : Event) → writes_config event ≡ false
    → ((reason_for_c now event).kind ≡ kind.NONE) ↔ (reason_words now event ≡ [])
law now event reads = go (is_taking now event) (length now.history == now.capacity)
  where
    go : (taking no_room : Bool)
        → Fits (cond taking without_reason (cond no_room (full_numbers now) (event_numbers now.state event)))
        (cond taking [] (cond no_room (full_part now) (event_part now.state event)))
    go true no_room = none
    go false true = full now
    go false false = each now.state event reads
