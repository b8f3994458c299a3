-- The words of reasons are printable.
use Rattle.dsa_queues.specs.declared.reasons.SubmitReason.TheVariants as submit
use Rattle.dsa_admin.specs.declared.reasons.IssueReason.TheVariants as issue
use Rattle.dsa_admin.specs.declared.reasons.PollReason.TheVariants as poll
use Rattle.dsa_engines.specs.declared.reasons.EngineReason.TheVariants as engine
use Rattle.dsa_engines.specs.declared.reasons.QueueReason.TheVariants as queue
use Rattle.dsa_engines.specs.declared.reasons.FetchReason.TheVariants as fetch
use Rattle.dsa_engines.specs.declared.reasons.StartReason.TheVariants as start
use Rattle.dsa_engines.specs.declared.reasons.FinishReason.TheVariants as finish
use Rattle.dsa_explain.specs.declared.done.DoneReason.TheVariants as done
use Rattle.dsa_regs.specs.declared.reasons.CheckReason.TheVariants as check
use Rattle.dsa_regs.specs.declared.reasons.Named.TheVariants as named
use Rattle.dsa_regs.specs.declared.reasons.Bound.TheVariants as bound
use Rattle.dsa_queues.specs.declared.reasons.WriteReason.TheVariants as write
use Rattle.dsa_queues.specs.declared.reasons.ClearReason.TheVariants as clear
use Rattle.std.proofs.Common.{◌^◌, ◌*◌, ℕ, List, [], ◌∷◌, ◌++◌, Bool, true, false, refl}
use Rattle.std.proofs.Common.{Option, Some, None, Result, Ok, Err, codes, flat_map}
use Rattle.std.specs.Fmt.{decimal, digits}
use Rattle.dsa_desc.specs.Descriptor.{OperationRow, operation_row}
use Rattle.dsa_regs.specs.declared.{Fault.{Fault}, Command.{Command}, layout.ListUse.{ListUse}}
use Rattle.dsa_regs.specs.declared.Phase.{Phase, TheVariants.{Off, On, Stopping}}
use Rattle.dsa_regs.specs.declared.reasons.{CheckReason.{CheckReason}, Named.{Named}, Bound.{Bound}}
use Rattle.dsa_regs.specs.Command.{command_of}
use Rattle.dsa_book.specs.declared.fate.Fate.{Fate, TheVariants.{Completed, Aborted, Abandoned}}
use Rattle.dsa_queues.specs.declared.reasons.{SubmitReason.{SubmitReason}, WriteReason.{WriteReason}}
use Rattle.dsa_queues.specs.declared.reasons.ClearReason.{ClearReason}
use Rattle.dsa_admin.specs.declared.reasons.{IssueReason.{IssueReason}, PollReason.{PollReason}}
use Rattle.dsa_engines.specs.declared.reasons.{EngineReason.{EngineReason}, QueueReason.{QueueReason}}
use Rattle.dsa_engines.specs.declared.reasons.{FetchReason.{FetchReason}, StartReason.{StartReason}}
use Rattle.dsa_engines.specs.declared.reasons.FinishReason.{FinishReason}
use Rattle.dsa_buffers.specs.declared.want.BufferWant.{BufferWant}
use Rattle.dsa_explain.specs.declared.{held.ListedEntry.{ListedEntry}, done.DoneReason.{DoneReason}}
use Rattle.dsa_event_text.specs.Text.{phase_word}
use Rattle.dsa_explain_lines.specs.Sentences.{want_words, kept_words, enabled_words, mode_words}
use Rattle.dsa_explain_lines.specs.Sentences.{submit_sentence, engine_sentence, queue_sentence, closed_words}
use Rattle.dsa_explain_lines.specs.Sentences.{fetched_words}
use Rattle.dsa_explain_lines.specs.Sentences.{fetch_sentence, failed_words, start_sentence, finish_sentence}
use Rattle.dsa_explain_lines.specs.Sentences.{unsupported_words, power_words, outside_limit_words, status_digits}
use Rattle.dsa_explain_lines.specs.Sentences.{first_of_words, done_sentence, by_words, fate_verb, cause_words}
use Rattle.dsa_explain_lines.specs.Sentences.{fate_sentence, unnamed_sentence, name_words, has_words, bound_words}
use Rattle.dsa_explain_lines.specs.Sentences.{check_sentence}
use Rattle.dsa_explain_lines.specs.Sentences.{named_words, whose_words, held_words, first_words, issue_sentence}
use Rattle.dsa_explain_lines.specs.Sentences.{active_words, no_queue, wait_count, poll_sentence}
use Rattle.dsa_explain_lines.specs.Sentences.{list_words as words_of_list, write_sentence}
use Rattle.dsa_explain_lines.specs.Sentences.{clear_sentence}
use Rattle.dsa_conform.proofs.Printable.{Shown, listed, number, parts}
use Rattle.dsa_conform.proofs.PrintableAnswers.{IsNamed, first_named, or_words, label, with_operand, list_words, portal}

-- ---- what several sentences have

phase : (p : Phase) → Shown (phase_word p)
phase Off = refl
phase On = refl
phase Stopping = refl

want : (w : BufferWant) → Shown (want_words w)
want w = search parts depth 16

pub kept : (k g : ℕ) → Shown (kept_words k g)
kept k g = search parts depth 16

-- ---- submissions and engines

enabled : (q : ℕ) (device : Phase) (o : Option Phase) → Shown (enabled_words q device o)
enabled q device None = number q
enabled q device (Some p) = search (parts, phase) depth 16

mode : (b : Bool) → Shown (mode_words b)
mode true = refl
mode false = refl

pub submit_words : (q : ℕ) (r : SubmitReason) → Shown (submit_sentence q r)
submit_words q (submit.NotEnabled device p) = enabled q device p
submit_words q (submit.WrongKind dedicated) = search (parts, mode) depth 16
submit_words q (submit.AtLimit occupancy limit p) = search (parts, portal) depth 16

pub engine_words : (e : ℕ) (r : EngineReason) → Shown (engine_sentence e r)
engine_words e engine.NoEngine = number e
engine_words e engine.NoGroup = search parts depth 16

pub queueless : (e : ℕ) → Shown (no_queue e)
queueless e = search parts depth 16

pub queue_words : (q name : ℕ) (r : QueueReason) → Shown (queue_sentence q name r)
queue_words q name (queue.NoBuffers w) = search (parts, want) depth 16
queue_words q name _ = search parts depth 16

closed : (b : Bool) → Shown (closed_words b)
closed true = refl
closed false = refl

fetched : (e n count : ℕ) → Shown (fetched_words e n count)
fetched e n count = search parts depth 16

pub fetch_words : (e : ℕ) (r : FetchReason) → Shown (fetch_sentence e r)
fetch_words e fetch.NoEngine = number e
fetch_words e fetch.NoBatch = search parts depth 16
fetch_words e (fetch.AllFetched count n is_closed) = search (parts, fetched, closed) depth 16

failed : (o : Option ℕ) → Shown (failed_words o)
failed None = refl
failed (Some name) = number name

pub start_words : (e : ℕ) (r : StartReason) → Shown (start_sentence e r)
start_words e (start.Failed member name left) = search (parts, failed) depth 16
start_words e (start.NoBuffers w) = want w
start_words e _ = search parts depth 16

pub finish_words : (e : ℕ) (r : FinishReason) → Shown (finish_sentence e r)
finish_words e finish.NoEngine = number e
finish_words e finish.NoEntry = refl
finish_words e (finish.Elsewhere l) = list_words l
finish_words e finish.NotStarted = refl
finish_words e (finish.StillToFetch n count) = fetched e n count
finish_words e _ = search parts depth 16

-- ---- entries that end

unsupported : (op : ℕ) → Shown (unsupported_words op)
unsupported op =
    let words : OperationRow → List ℕ = λ (row : OperationRow). row.word ++ codes " is not supported in a batch" in
    let other : List ℕ = codes "operation 0x" ++ digits 16 false op ++ codes " is not supported" in
    let named : IsNamed words (operation_row op) = search (first_named words) depth 12 in
    let shown : Shown other = search parts in
    or_words words (operation_row op) other named shown

power : (shift : ℕ) → Shown (power_words shift)
power shift = search parts depth 16

limits : (before limit : List ℕ) (n least shift q : ℕ) → Shown before → Shown limit
    → Shown (outside_limit_words before n least limit shift q)
limits before limit n least shift q p l = search (parts, power) depth 16

status : (n : ℕ) → Shown (status_digits n)
status n = search parts depth 16

first_of : (count : ℕ) → Shown (first_of_words count)
first_of count = search parts depth 16

pub done_words : (r : DoneReason) → Shown (done_sentence r)
done_words (done.NotSupported op) = unsupported op
done_words (done.SizeOutside size shift q) =
    limits (codes "size ") (codes ", the transfer limit of q") size 1 shift q refl refl
done_words (done.CountOutside count shift q) =
    limits (codes "count ") (codes ", the batch limit of q") count 2 shift q refl refl
done_words (done.MembersFailed first n count) = search (parts, status, first_of) depth 16
done_words _ = refl

by : (r : Result Command Fault) → Shown (by_words r)
by (Ok c) = label c
by (Err f) = refl

verb : (f : Fate) → Shown (fate_verb f)
verb (Completed n) = refl
verb (Aborted n) = refl
verb Abandoned = refl

cause : (f : Fate) → Shown (cause_words f)
cause (Completed n) = refl
cause (Aborted n) = by (command_of (n * 2 ^ 20))
cause Abandoned = refl

pub fate : (name : ℕ) (f : Fate) → Shown (fate_sentence name f)
fate name f = search (parts, verb, cause) depth 16

pub unnamed : (n : ℕ) → Shown (unnamed_sentence n)
unnamed n = number n

-- ---- commands

name : (n : Named) → Shown (name_words n)
name (named.Queue q) = number q
name (named.Engine e) = number e

count : (n : Named) (m : ℕ) → Shown (has_words n m)
count (named.Queue q) m = search parts depth 16
count (named.Engine e) m = search parts depth 16

bounds : (b : Bound) → Shown (bound_words b)
bounds (bound.Reserved n) = search parts depth 16
bounds (bound.Unreserved n) = search parts depth 16
bounds bound.Need = refl

check_words : (r : CheckReason) → Shown (check_sentence r)
check_words (check.NamesMissing group n m) = search (parts, name, count) depth 16
check_words (check.TwoGroups n first second) = search (parts, name) depth 16
check_words (check.AllowedOutOfRange group allowed b) = search (parts, bounds) depth 16
check_words _ = search parts depth 16

missing : (o : Option ℕ) → Shown (named_words o)
missing None = refl
missing (Some q) = number q

whose : (o : Option ℕ) → Shown (whose_words o)
whose None = refl
whose (Some q) = number q

held : (h : ListedEntry) → Shown (held_words h)
held h = search (parts, list_words) depth 16

first_entry : (o : Option ListedEntry) → Shown (first_words o)
first_entry None = refl
first_entry (Some h) = held h

active : (c : Command) (n : ℕ) (o : Option ListedEntry) → Shown (active_words c n o)
active c n o = search (parts, with_operand, first_entry) depth 16

pub issue_words : (o : Option ListedEntry) (r : IssueReason) → Shown (issue_sentence o r)
issue_words o (issue.Busy c awaited) = active c awaited o
issue_words o (issue.NoQueue q) = missing q
issue_words o (issue.WrongPhase q p) = search (parts, whose, phase) depth 16
issue_words o (issue.Check r) = check_words r

pub wait_words : (n : ℕ) → Shown (wait_count n)
wait_words n = search parts depth 16

pub poll_words : (o : Option ListedEntry) (r : PollReason) → Shown (poll_sentence o r)
poll_words o poll.Nothing = refl
poll_words o (poll.Waits awaited) = search (parts, wait_words, first_entry) depth 16

more_names : (others : List ℕ) → Shown (flat_map (λ n. codes ", " ++ decimal n) others)
more_names others = listed (λ n. codes ", " ++ decimal n) others (λ n. number n)

pub named_list : (mark verb : List ℕ) (l : ListUse) (names : List ℕ) → Shown mark → Shown verb
    → Shown (words_of_list mark verb l names)
named_list mark verb l [] p v = refl
named_list mark verb l (first ∷ others) p v = search (parts, list_words, more_names) depth 16

-- ---- configurations

pub write_words : (one many : List ℕ) (r : WriteReason) → Shown one → Shown many → Shown (write_sentence one many r)
write_words one many (write.BadIndex n) p q = search parts depth 16
write_words one many (write.LockedQueue ph) p q = phase ph
write_words one many (write.LockedSize ph size) p q = search (parts, phase) depth 16
write_words one many (write.LockedGroup ph) p q = phase ph

pub clear_words : (r : ClearReason) → Shown (clear_sentence r)
clear_words clear.NothingNoted = refl
