-- A dialogue after one read more, and where a fault ends it.
use Rattle.std.proofs.Common.{◌≡◌, ◌⊎◌, ◌<◌, ◌≤◌, ◌+◌, ◌^◌, ℕ, true, false, Bool, List, [], ◌∷◌, ◌++◌}
use Rattle.std.proofs.Common.{Option, length, take, refl, ap, ◌∙◌, arith, Result, Ok, Err, IfErr}
use Rattle.std.proofs.Common.{append_assoc, append-nil, length-append, length-take, drop, inl, inr}
use Rattle.std.proofs.{Math.Seq.{take-append-add}}
use Rattle.std.proofs.lemmas.{List.{take-append-drop}, Option.{slice_get_within}}
use Rattle.std.specs.Io.KnownBytes.{Consumes, IsAtEnd, Appends, Keeps}
use Rattle.std.proofs.KnownBytes.{Consumes-nil, Consumes-trans, Consumes-kept, Appends-nil, Appends-trans}
use Rattle.dsa_scenario.specs.Lines.{line_of_text}
use Rattle.dsa_scenario.specs.declared.faults.ScenarioFault.{ScenarioFault}
use Rattle.dsa_scenario.specs.declared.faults.ScenarioFault.{TheVariants.{Read, Write, OutOfMemory}}
use Rattle.dsa_scenario.specs.declared.faults.ScenarioFault.TheVariants.{TooLong, NotJson}
use Rattle.dsa_scenario.specs.declared.faults.ScenarioFault.TheVariants.{BadDocument, BadStep}
use Rattle.dsa_scenario.specs.declared.faults.ScenarioFault.TheVariants.{BadCaps, BadCapacity}
use Rattle.dsa_serve.specs.declared.{dialogue.Dialogue.{Dialogue}, session.Session.{Session}}
use Rattle.dsa_serve.specs.declared.ending.Inside.TheVariants.{Brackets}
use Rattle.dsa_serve.specs.Input.{IsFront, HasFirst, IsUnended, IsEndAt, inside_after}
use Rattle.dsa_serve.specs.Dialogue.{IsDialogueEnded, AnswersWhole, AnswersAll, IsInCourse, Serves}
use Rattle.dsa_serve.proofs.FirstFaults.{none_of_first}
use Rattle.dsa_serve.specs.Dialogue.{AnswersOnlyLine, IsFaultOfFirst, IsStoppedWithin, IsStopped}
use Rattle.dsa_serve.proofs.{Courses.{whole_answered}, Ends.{front_cut}}

-- a first part and the front of a second are a front of both
cut_short : (held holds holds' : Option (List ℕ)) (output text : List ℕ) (count : ℕ)
    → Appends held holds output
    → count < length text → Appends holds holds' (take count text)
    → (length output + count < length (output ++ text))
    × Appends held holds' (take (length output + count) (output ++ text))
cut_short held holds holds' output text count first less second = (
  omega (arith, less, length-append output text),
  rw (take-append-add output text count)
      (Appends-trans held holds holds' output (take count text) first second),
)

-- more of what comes behind a first line
front_more : (input first behind bytes : List ℕ) → IsFront false input first behind
    → IsFront false (input ++ bytes) first (behind ++ bytes)
front_more input first behind bytes front =
    (ap (λ l. l ++ bytes) front.0 ∙ append_assoc (line_of_text first) behind bytes, front.1)

-- what a read and its answers make of a dialogue
abbrev pub Advances : {S : Type 0} → List ℕ → List ℕ → Dialogue S → Dialogue S → Type 0
Advances bytes text d d' = (is_friendly : Bool) (first behind output : List ℕ)
    → Serves is_friendly first behind output d.session d.kept.items
    → Serves is_friendly first (behind ++ bytes) (output ++ text) d'.session d'.kept.items

-- one read more, and what is answered
pub course_on : {S : Type 0} (is_friendly : Bool) (had left left' held holds holds' : Option (List ℕ))
    (bytes text : List ℕ) (d d' : Dialogue S) → Consumes left left' bytes → Appends holds holds' text
    → Advances bytes text d d' → IsInCourse is_friendly false had left held holds d
    → IsInCourse is_friendly false had left' held holds' d'
course_on is_friendly had left left' held holds holds' bytes text d d' reads writes on h = record {
  input = h.input ++ bytes;
  first = h.first;
  behind = h.behind ++ bytes;
  output = h.output ++ text;
  read = Consumes-trans had left left' h.input bytes h.read reads;
  written = Appends-trans held holds holds' h.output text h.written writes;
  unended = h.unended;
  short = h.short;
  front = front_more h.input h.first h.behind bytes h.front;
  serving = on is_friendly h.first h.behind h.output h.serving;
}

-- what is answered in its course
pub course_answered : {S : Type 0} (is_friendly ended : Bool)
    (had left held holds : Option (List ℕ)) (d : Dialogue S)
    → (h : IsInCourse is_friendly ended had left held holds d)
    → AnswersWhole is_friendly ended h.input h.output
course_answered is_friendly ended had left held holds d h =
    whole_answered is_friendly h.first h.behind h.output d.session d.kept.items ended h.input h.unended h.short h.front
    h.serving

-- an error of the reader
pub read_stops : {S : Type 0} (is_friendly : Bool) (had left left' held holds : Option (List ℕ))
    (d : Dialogue S) → Keeps left left'
    → IsInCourse is_friendly false had left held holds d → IsStopped is_friendly Read had left' held holds
read_stops is_friendly had left left' held holds d keeps h = (
  h.input,
  h.output,
  Consumes-kept had left left' h.input h.read keeps,
  inr (course_answered is_friendly false had left held holds d h),
  h.written,
)

-- want of memory
pub memory_stops : {S : Type 0} (is_friendly : Bool) (room : ℕ) (had left left' held holds : Option (List ℕ))
    (bytes : List ℕ) (d : Dialogue S) → Consumes left left' bytes → length bytes ≤ room
    → IsInCourse is_friendly false had left held holds d
    → IsStoppedWithin is_friendly room OutOfMemory had left' held holds
memory_stops is_friendly room had left left' held holds bytes d reads few h = (
  h.input,
  bytes,
  h.output,
  Consumes-trans had left left' h.input bytes h.read reads,
  few,
  inl (inr (course_answered is_friendly false had left held holds d h)),
  h.written,
)

-- want of memory at the end of the input
pub end_memory_stops : {S : Type 0} (is_friendly : Bool) (ended : Bool)
    (had left held holds : Option (List ℕ)) (d : Dialogue S)
    → IsAtEnd left → IsInCourse is_friendly ended had left held holds d
    → IsStopped is_friendly OutOfMemory had left held holds
end_memory_stops is_friendly false had left held holds d at_end h =
    memory_stops is_friendly (2 ^ 16) had left left held holds [] d (Consumes-nil left) (omega arith) h
end_memory_stops is_friendly true had left held holds d at_end h = (
  h.input,
  [],
  h.output,
  rw (append-nil h.input) h.read,
  omega arith,
  inr (at_end, rw (append-nil h.input) (course_answered is_friendly true had left held holds d h)),
  h.written,
)

-- an error of the reader, or want of memory before it is asked
pub unread_stops : {S : Type 0} (is_friendly : Bool) (room : ℕ) (had left left' held holds : Option (List ℕ))
    (e : ScenarioFault) (d : Dialogue S) → Keeps left left' → (e ≡ Read) ⊎ (e ≡ OutOfMemory)
    → IsInCourse is_friendly false had left held holds d
    → IsStoppedWithin is_friendly room e had left' held holds
unread_stops is_friendly room had left left' held holds e d keeps (inl is) h =
    rw is (read_stops is_friendly had left left' held holds d keeps h)
unread_stops is_friendly room had left left' held holds e d keeps (inr is) h =
    let reads = Consumes-kept left left left' [] (Consumes-nil left) keeps in
    rw is (memory_stops is_friendly room had left left' held holds [] d reads (omega arith) h)

-- a write that is refused in a turn
pub write_stops : {S : Type 0} (is_friendly : Bool) (had left left' held holds holds' : Option (List ℕ))
    (bytes text : List ℕ) (count : ℕ) (d d' : Dialogue S) → Consumes left left' bytes → count < length text
    → Appends holds holds' (take count text)
    → Advances bytes text d d' → IsInCourse is_friendly false had left held holds d
    → IsStopped is_friendly Write had left' held holds'
write_stops is_friendly had left left' held holds holds' bytes text count d d' reads less writes on h =
    let cut = cut_short held holds holds' h.output text count h.written less writes in (
      h.input ++ bytes,
      h.output ++ text,
      length h.output + count,
      Consumes-trans had left left' h.input bytes h.read reads,
      inl (whole_answered is_friendly h.first (h.behind ++ bytes) (h.output ++ text) d'.session d'.kept.items false
          (h.input ++ bytes) h.unended h.short (front_more h.input h.first h.behind bytes h.front)
          (on is_friendly h.first h.behind h.output h.serving)),
      cut.0,
      cut.1,
    )

-- what the end of a dialogue adds
abbrev pub Ends : {S : Type 0} → List ℕ → Dialogue S → Type 0
Ends text d = (is_friendly : Bool) (first behind output : List ℕ)
    → Serves is_friendly first behind output d.session d.kept.items
    → IsDialogueEnded is_friendly first behind (output ++ text)

-- the answers to all lines
ends_all : {S : Type 0} (is_friendly ended : Bool) (had left held holds : Option (List ℕ))
    (text : List ℕ) (d : Dialogue S)
    → Ends text d → (h : IsInCourse is_friendly ended had left held holds d)
    → AnswersAll is_friendly h.input (h.output ++ text)
ends_all is_friendly ended had left held holds text d ends h = record {
  without_feed = ended;
  first = h.first;
  behind = h.behind;
  split = record { unended = h.unended; short = h.short; front = h.front };
  ended = ends is_friendly h.first h.behind h.output h.serving;
}

-- all of a dialogue
pub all_answered : {S : Type 0} (is_friendly ended : Bool) (had left held holds holds' : Option (List ℕ))
    (text : List ℕ) (d : Dialogue S) → Ends text d → Appends holds holds' text
    → IsInCourse is_friendly ended had left held holds d
    → (input : List ℕ) × (output : List ℕ) × Consumes had left input × AnswersAll is_friendly input output
    × Appends held holds' output
all_answered is_friendly ended had left held holds holds' text d ends writes h = (
  h.input,
  h.output ++ text,
  h.read,
  ends_all is_friendly ended had left held holds text d ends h,
  Appends-trans held holds holds' h.output text h.written writes,
)

-- a write that is refused at the end
pub end_stops : {S : Type 0} (is_friendly : Bool) (ended : Bool)
    (had left held holds holds' : Option (List ℕ)) (text : List ℕ) (count : ℕ)
    (d : Dialogue S) → IsAtEnd left → Ends text d → count < length text
    → Appends holds holds' (take count text)
    → IsInCourse is_friendly ended had left held holds d → IsStopped is_friendly Write had left held holds'
end_stops is_friendly ended had left held holds holds' text count d at_end ends less writes h =
    let cut = cut_short held holds holds' h.output text count h.written less writes in (
      h.input,
      h.output ++ text,
      length h.output + count,
      h.read,
      inr (inr (at_end, ends_all is_friendly ended had left held holds text d ends h)),
      cut.0,
      cut.1,
    )

-- what a feed makes of a dialogue, behind a text that was blank
pub from_blank : {S : Type 0} (bytes old text seen : List ℕ) (d d' : Dialogue S) → old ≡ [] → seen ≡ text
    → ((is_friendly : Bool) (first behind written : List ℕ)
    → Serves is_friendly first behind (written ++ old) d.session d.kept.items
    → Serves is_friendly first (behind ++ bytes) (written ++ text) d'.session d'.kept.items)
    → Advances bytes seen d d'
from_blank bytes old text seen d d' blank same on is_friendly first behind output h =
    rw same (on is_friendly first behind output (rw (blank, append-nil output) h))

-- and what the end adds to one
pub ends_blank : {S : Type 0} (old text seen : List ℕ) (d : Dialogue S) → old ≡ [] → seen ≡ text
    → ((is_friendly : Bool) (first behind written : List ℕ)
    → Serves is_friendly first behind (written ++ old) d.session d.kept.items
    → IsDialogueEnded is_friendly first behind (written ++ text))
    → Ends seen d
ends_blank old text seen d blank same on is_friendly first behind output h =
    rw same (on is_friendly first behind output (rw (blank, append-nil output) h))

-- want of memory before the first line is whole, and after a read more
pub memory_before : (is_friendly : Bool) (room : ℕ) (had left held : Option (List ℕ)) (first more : List ℕ)
    → Consumes had left (first ++ more) → IsUnended first → length first ≤ 2 ^ 20 → length more ≤ room
    → IsStoppedWithin is_friendly room OutOfMemory had left held held
memory_before is_friendly room had left held first more reads unended short few =
    (first, more, [], reads, few, inl (inl (unended, short, refl)), Appends-nil held)

-- want of memory before anything is read
pub unread_memory : (is_friendly : Bool) (had held : Option (List ℕ))
    → IsStopped is_friendly OutOfMemory had had held held
unread_memory is_friendly had held =
    memory_before is_friendly (2 ^ 16) had had held [] [] (Consumes-nil had) refl (omega arith) (omega arith)

-- what comes behind a first line is less than the last read gave
behind_few : (room : ℕ) (ended : Bool) (input first behind : List ℕ) → IsFront ended input first behind
    → (ended ≡ false → length behind < room) → length behind ≤ room
behind_few room false input first behind front few = let some = few refl in omega (arith, some)
behind_few room true input first behind front few =
    let none : length behind ≡ 0 = ap (λ (l : List ℕ). length l) front.1 in
    omega (arith, none)

-- a first line that is no document
module _ (is_friendly : Bool) (room : ℕ) (had left held : Option (List ℕ)) (input first behind : List ℕ)
    (ended : Bool) (reads : Consumes had left input) (split : HasFirst ended input first behind)
    (at_end : ended ≡ true → IsAtEnd left) (less : length behind ≤ room) where
  fault_stops : (e : ScenarioFault) → IsFaultOfFirst is_friendly first e
      → IsStoppedWithin is_friendly room e had left held held
  fault_stops NotJson h = (input, first, behind, ended, reads, split, at_end, less, h, Appends-nil held)
  fault_stops BadDocument h = (input, first, behind, ended, reads, split, at_end, less, h, Appends-nil held)
  fault_stops (BadStep i) h = (input, first, behind, ended, reads, split, at_end, less, h, Appends-nil held)
  fault_stops BadCaps h = (input, first, behind, ended, reads, split, at_end, less, h, Appends-nil held)
  fault_stops BadCapacity h = (input, first, behind, ended, reads, split, at_end, less, h, Appends-nil held)
  fault_stops e h = absurd (none_of_first is_friendly first e refl h)

-- the same, or want of memory before the first line is judged
pub opening_stops : (is_friendly : Bool) (room : ℕ) (had left held : Option (List ℕ))
    (input first behind : List ℕ) (ended : Bool) (e : ScenarioFault)
    → Consumes had left input → IsUnended first → length first ≤ 2 ^ 20 → IsFront ended input first behind
    → (ended ≡ false → length behind < room) → (ended ≡ true → IsAtEnd left) → (e ≡ OutOfMemory)
    ⊎ IsFaultOfFirst is_friendly first e
    → IsStoppedWithin is_friendly room e had left held held
opening_stops is_friendly room had left held input first behind false e reads unended short front
    few at_end (inl h) =
    let split : input ≡ first ++ 10 ∷ behind = front.0 ∙ append_assoc first (10 ∷ []) behind in
    rw h (memory_before is_friendly room had left held first (10 ∷ behind) (rw split at reads) unended short
    (let some = few refl in omega (arith, some)))
opening_stops is_friendly room had left held input first behind true e reads unended short front
    few at_end (inl h) =
    let all = rw (front.0, ← append-nil first) at reads in
    rw h (memory_before is_friendly room had left held first [] all unended short (omega arith))
opening_stops is_friendly room had left held input first behind ended e reads unended short front
    few at_end (inr h) =
    fault_stops is_friendly room had left held input first behind ended reads
    (record { unended = unended; short = short; front = front })
    at_end (behind_few room ended input first behind front few) e h

-- an error of the reader, or want of memory, where the first line is not whole
pub first_read_stops : (is_friendly : Bool) (room : ℕ) (had left left' held : Option (List ℕ))
    (first : List ℕ) (e : ScenarioFault)
    → Consumes had left first → IsUnended first → length first ≤ 2 ^ 20 → Keeps left left'
    → (e ≡ Read) ⊎ (e ≡ OutOfMemory) → IsStoppedWithin is_friendly room e had left' held held
first_read_stops is_friendly room had left left' held first e reads unended short keeps (inl h) = rw h (
  first,
  [],
  Consumes-kept had left left' first reads keeps,
  inl (unended, short, refl),
  Appends-nil held,
)
first_read_stops is_friendly room had left left' held first e reads unended short keeps (inr h) =
    let kept = Consumes-kept had left left' first reads keeps in
    rw h (memory_before is_friendly room had left' held first [] (rw (append-nil first) kept) unended
    short (omega arith))

-- want of memory, or more bytes than a line has, where the first line ends
pub cut_stops : (is_friendly : Bool) (room : ℕ) (had left held : Option (List ℕ)) (first piece : List ℕ)
    (at : ℕ) (e : ScenarioFault)
    → IsEndAt (inside_after (Brackets 0) first) piece at → IsUnended first
    → length first ≤ 2 ^ 20 → length piece ≤ room → Consumes had left (first ++ piece)
    → (e ≡ OutOfMemory) ⊎ ((e ≡ TooLong) × (2 ^ 20 < length first + at))
    → IsStoppedWithin is_friendly room e had left held held
cut_stops is_friendly room had left held first piece at e found unended fits few reads (inl h) =
    rw h (memory_before is_friendly room had left held first piece reads unended fits few)
cut_stops is_friendly room had left held first piece at e found unended fits few reads (inr h) =
    let short = take at piece in
    let whole : (first ++ short) ++ drop at piece ≡ first ++ piece =
    append_assoc first short (drop at piece) ∙ ap (λ l. first ++ l) (take-append-drop at piece) in
    let inside : at < length piece = slice_get_within piece at 10 found.2 in
    rw h.0 (
      first ++ short,
      drop at piece,
      rw whole reads,
      (front_cut first piece at unended found).0,
      omega (arith, h.1, length-append first short, length-take at piece, inside),
      omega (
        arith,
        fits,
        few,
        length-append first piece,
        length-append (first ++ short) (drop at piece),
        ap (λ (l : List ℕ). length l) whole,
      ),
      Appends-nil held,
    )

-- more bytes than a line has before its line feed
pub long_stops : (is_friendly : Bool) (room : ℕ) (had left held : Option (List ℕ)) (first : List ℕ)
    → Consumes had left first → IsUnended first
    → 2 ^ 20 < length first → length first ≤ 2 ^ 20 + room
    → IsStoppedWithin is_friendly room TooLong had left held held
long_stops is_friendly room had left held first reads unended long few =
    (first, [], rw (append-nil first) reads, unended, long, omega (arith, few), Appends-nil held)

-- what answers the whole lines, behind the first line or alone
first_whole : (is_friendly ended : Bool) (left : Option (List ℕ)) (input output : List ℕ)
    → (ended ≡ true → IsAtEnd left) → AnswersWhole is_friendly ended input output
    → AnswersWhole is_friendly false input output ⊎ AnswersOnlyLine is_friendly left input output
    ⊎ (IsAtEnd left × AnswersAll is_friendly input output)
first_whole is_friendly false left input output at_end whole = inl whole
first_whole is_friendly true left input output at_end whole = inr (inl (at_end refl, whole))

-- a write that is refused of the answers to the first line and to the lines that came with it
pub first_write_stops : {S : Type 0} (is_friendly : Bool) (had left held holds : Option (List ℕ)) (ended : Bool)
    (input first behind text seen : List ℕ) (count : ℕ) (session : Session S) (kept : List ℕ) → Consumes had left input
    → IsUnended first → length first ≤ 2 ^ 20 → IsFront ended input first behind → (ended ≡ true → IsAtEnd left)
    → seen ≡ text → Serves is_friendly first behind text session kept → count < length seen
    → Appends held holds (take count seen) → IsStopped is_friendly Write had left held holds
first_write_stops is_friendly had left held holds ended input first behind text seen count session kept reads unended
    short front at_end same serving less writes =
    let whole : AnswersWhole is_friendly ended input seen =
    rw same (whole_answered is_friendly first behind text session kept ended input unended short front serving) in
    (input, seen, count, reads, first_whole is_friendly ended left input seen at_end whole, less, writes)

-- two things that are told of an error
pub of_both : {T E : Type 0} (r : Result T E) (P Q R : E → Type 0) → ((e : E) → P e → Q e → R e)
    → IfErr r P → IfErr r Q → IfErr r R
of_both (Ok x) P Q R f p q = tt
of_both (Err e) P Q R f p q = f e p q
