-- What a writer takes of a run, piece by piece.
use Rattle.std.proofs.Common.{◌≡◌, ◌+◌, ℕ, true, List, [], ◌++◌, length, take, Option, refl, ap, ◌∙◌, sym, subst, arith}
use Rattle.std.proofs.Common.{flat_map, length-append, append_assoc, append-nil, Result, Ok, Err}
use Rattle.std.proofs.{Math.Seq.{take-add, take-append_seam, drop-append_seam}, KnownBytes.{Appends-nil, Appends-trans}}
use Rattle.std.proofs.lemmas.List.Concat.{flat_map-append}
use Rattle.std.specs.{Io.KnownBytes.{Appends}, Prelude.{IfErr, OnOk}}
use Rattle.dsa_scenario.specs.declared.faults.ScenarioFault.{ScenarioFault, TheVariants.{Write, OutOfMemory}}
use Rattle.dsa_scenario.specs.declared.watched.WatchedWriter.{WatchedWriter}
use Rattle.dsa_scenario.specs.{Steps.{Visit}, Watched.{watched_contents, has_refused, IsSameWriter, IsWrittenFor}}
use Rattle.dsa_scenario.specs.Streams.{IsPageOfRest, IsPartWritten, HasTakenLines, HasRefusedLines}

-- a writer that took nothing yet
pub none_taken : {W : Type 0} (contents : W → Option (List ℕ)) (line : Visit → List ℕ) (now : WatchedWriter W)
    → HasTakenLines contents line now now []
none_taken contents line now =
    record { same = refl; refused = refl; lines = Appends-nil (watched_contents contents now) }

-- one that took more lines
pub more_taken : {W : Type 0} (contents : W → Option (List ℕ)) (line : Visit → List ℕ) (first old new : WatchedWriter W)
    (done more : List Visit) → IsSameWriter old new → has_refused new ≡ has_refused old
    → Appends (watched_contents contents old) (watched_contents contents new) (flat_map line more)
    → HasTakenLines contents line first old done → HasTakenLines contents line first new (done ++ more)
more_taken contents line first old new done more same refused takes h = record {
  same = same ∙ h.same;
  refused = refused ∙ h.refused;
  lines = subst (Appends (watched_contents contents first) (watched_contents contents new))
      (sym (flat_map-append line done more)) (Appends-trans _ _ _ _ _ h.lines takes);
}

-- behind a text that it took, a writer took a part of another
pub part_behind : (a b c : Option (List ℕ)) (text more : List ℕ) → Appends a b text → IsPartWritten b c more
    → IsPartWritten a c (text ++ more)
part_behind a b c text more first (count, fits, second) =
    let cut : take (length text + count) (text ++ more) ≡ text ++ take count more =
    take-add (length text) count (text ++ more)
    ∙ (rw (take-append_seam text more, drop-append_seam text more) refl) in (
      length text + count,
      omega (arith, length-append text more, fits),
      subst (Appends a c) (sym cut) (Appends-trans a b c text (take count more) first second),
    )

-- one that refused some of the lines
pub more_refused : {W : Type 0} (contents : W → Option (List ℕ)) (line : Visit → List ℕ)
    (first old new : WatchedWriter W) (done rest : List Visit) → IsSameWriter old new → has_refused new ≡ true
    → IsPartWritten (watched_contents contents old) (watched_contents contents new) (flat_map line rest)
    → HasTakenLines contents line first old done → HasRefusedLines contents line first new (done ++ rest)
more_refused contents line first old new done rest same refused part h = record {
  same = same ∙ h.same;
  refused = refused;
  lines = subst (IsPartWritten (watched_contents contents first) (watched_contents contents new))
      (sym (flat_map-append line done rest)) (part_behind _ _ _ _ _ h.lines part);
}

-- the same, of what a call with this result did
pub refusals : {T W : Type 0} (contents : W → Option (List ℕ)) (line : Visit → List ℕ) (Made : List Visit → Type 0)
    (old new : WatchedWriter W) (r : Result T ScenarioFault) → IsWrittenFor r old new → IfErr r (λ e. e ≡ Write)
    → IfErr r (λ e. (steps : List Visit) → Made steps
    → IsPartWritten (watched_contents contents old) (watched_contents contents new) (flat_map line steps))
    → IfErr r (λ e. (first : WatchedWriter W) → (done : List Visit) → (rest : List Visit)
    → HasTakenLines contents line first old done → Made rest
    → HasRefusedLines contents line first new (done ++ rest))
refusals contents line Made old new (Ok x) written fault part = tt
refusals contents line Made old new (Err e) written fault part = λ first done rest was made.
    more_refused contents line first old new done rest written.same (written.refused.0 (ap Err fault)) (part rest made) was

-- what a call did that wants memory, or whose writer refused
pub written_memory : {T W : Type 0} (contents : W → Option (List ℕ)) (line : Visit → List ℕ) (first now : WatchedWriter W)
    (steps : List Visit) → HasTakenLines contents line first now steps → IsWrittenFor {T = T} (Err OutOfMemory) first now
written_memory contents line first now steps h =
    record { same = h.same; refused = (λ e. absurd cc, tt, λ other. h.refused) }

pub written_refusal : {T W : Type 0} (contents : W → Option (List ℕ)) (line : Visit → List ℕ)
    (first now : WatchedWriter W) (steps : List Visit) → HasRefusedLines contents line first now steps
    → IsWrittenFor {T = T} (Err Write) first now
written_refusal contents line first now steps h =
    record { same = h.same; refused = (λ e. h.refused, tt, λ other. absurd (other refl)) }

-- and one that went on with a writer that took lines
pub written_behind : {T W : Type 0} (contents : W → Option (List ℕ)) (line : Visit → List ℕ)
    (first mid now : WatchedWriter W) (steps : List Visit) (r : Result T ScenarioFault)
    → HasTakenLines contents line first mid steps → IsWrittenFor r mid now → IsWrittenFor r first now
written_behind contents line first mid now steps (Ok x) h w =
    record { same = w.same ∙ h.same; refused = (λ e. absurd cc, w.refused.1 ∙ h.refused, tt) }
written_behind contents line first mid now steps (Err e) h w =
    record { same = w.same ∙ h.same; refused = (w.refused.0, tt, λ other. w.refused.2 other ∙ h.refused) }

-- ---- pages of text

-- a page that was written and emptied
pub page_written : {T Page : Type 0} (line : Visit → List ℕ) (bytes_of : Page → List ℕ) (held holds : Option (List ℕ))
    (old new : Page) (r : Result T ScenarioFault) → OnOk r (Appends held holds (bytes_of old))
    → OnOk r (bytes_of new ≡ [])
    → OnOk r ((steps : List Visit) → bytes_of old ≡ flat_map line steps
    → IsPageOfRest (λ done. Appends held holds (flat_map line done)) (λ made page. bytes_of page ≡ flat_map line made)
    steps new)
page_written line bytes_of held holds old new (Ok x) whole empty = λ steps is.
    (steps, subst (Appends held holds) is whole, ([], sym (append-nil steps), empty))
page_written line bytes_of held holds old new (Err e) whole empty = tt

-- and one that was left as it is
pub page_left : {Page : Type 0} (line : Visit → List ℕ) (bytes_of : Page → List ℕ) (held holds : Option (List ℕ))
    (old new : Page) → new ≡ old → holds ≡ held → (steps : List Visit) → bytes_of old ≡ flat_map line steps
    → IsPageOfRest (λ done. Appends held holds (flat_map line done)) (λ made page. bytes_of page ≡ flat_map line made)
    steps new
page_left line bytes_of held holds old new same kept steps is =
    ([], subst (λ c. Appends held c []) (sym kept) (Appends-nil held), (steps, refl, ap bytes_of same ∙ is))

-- a text that is the lines of the first steps and then one of the others
pub lines_before : {Step : Type 0} (line : Step → List ℕ) (done rest : List Step) (text last : List ℕ)
    → text ≡ flat_map line rest ++ last → flat_map line done ++ text ≡ flat_map line (done ++ rest) ++ last
lines_before line done rest text last is =
    ap (λ t. flat_map line done ++ t) is ∙ sym (append_assoc (flat_map line done) (flat_map line rest) last)
    ∙ ap (λ lines. lines ++ last) (sym (flat_map-append line done rest))
