-- What is printed has the documented lines.
use Rattle.std.proofs.Common.{◌≡◌, ◌∙◌, ◌+◌, ℕ, suc, List, [], ◌∷◌, ◌++◌, Bool, true, false, Option, Some, None, refl}
use Rattle.std.proofs.Common.{sym, subst, ap}
use Rattle.std.proofs.Common.{append_assoc, append-nil, length, take, flat_map, codes, inl, inr}
use Rattle.std.specs.{Fmt.{decimal}, Prelude.{replicate}}
use Rattle.serde_json.specs.Data.{Data}
use Rattle.dsa_base.specs.Lists.{In}
use Rattle.dsa_regs.specs.declared.Caps.{Caps}
use Rattle.dsa_scenario.specs.declared.{actions.Action.{Action}, run.Record.{Record}}
use Rattle.dsa_scenario.specs.declared.faults.ScenarioFault.{ScenarioFault}
use Rattle.dsa_scenario.specs.declared.faults.ScenarioFault.TheVariants as fault
use Rattle.dsa_scenario.specs.{Lines.{record_text}, Run.{event_of}, Steps.{standing}}
use Rattle.dsa_event_text.specs.Text.{count_text}
use Rattle.dsa_explain_lines.specs.{Lines.{asked_words, is_taken, shown}, Parts.{part_of}}
use Rattle.dsa_conform.specs.Quoted.{seen_text}
use Rattle.dsa_conform.specs.Seen.{Seen}
use Rattle.dsa_conform.specs.Lines.{conforms_text, flag_text, against_line, seen_words, seen_line, seen_count}
use Rattle.dsa_conform.specs.Lines.{asked_step_line, allowed_line, difference_text}
use Rattle.dsa_conform.specs.Run.{IsConforming, IsDifference, IsAllowedLine, IsVerdict, IsConformance}
use Rattle.dsa_conform.specs.Every.{AreDifferences, AreDiffering, IsConformanceOf, IsFullVerdict, differs_text}
use Rattle.dsa_conform.specs.Every.{unseen_at}
use Rattle.dsa_conform.specs.Forms.{IsLineWith, AreLinesWith, words_of_difference, AreLinesOfAll, IsFullReport}
use Rattle.dsa_conform.specs.Forms.{IsReport}
use Rattle.dsa_conform.proofs.Printable.{Shown, joined, chosen, parts}
use Rattle.dsa_conform.proofs.{PrintableAnswers.{asked, answer_words}, PrintableParts.{reason}}
use Rattle.dsa_conform.proofs.PrintableFacts.{fact_shown}
use Rattle.dsa_conform.proofs.PrintableTexts.{text_shown}

-- ---- one line

flag : (b : Bool) → Shown (flag_text b)
flag true = refl
flag false = refl

words : (answer : Option (List ℕ)) (zf : Option Bool) → Shown (seen_words answer zf)
words (Some text) (Some zf) =
    joined (seen_text text ++ codes ", ") (flag_text zf) (joined (seen_text text) (codes ", ") (text_shown text) refl)
    (flag zf)
words (Some text) None = text_shown text
words None (Some zf) = flag zf
words None None = refl

seen_is_line : (seen : Seen) → IsLineWith (codes "seen: ") (seen_line seen)
seen_is_line seen = record {
  rest = seen_words seen.answer seen.zf;
  is = refl;
  printable = words seen.answer seen.zf;
}

fact_is_line : (fact : List ℕ) → Shown fact → IsLineWith (codes "against: ") (against_line fact)
fact_is_line fact printed = record { rest = fact; is = refl; printable = printed }

step_is_line : (n : ℕ) (entry : Record) → IsLineWith (codes "step ") (asked_step_line n entry)
step_is_line n entry = record {
  rest = decimal n ++ codes ": " ++ asked_words entry;
  is = refl;
  printable = search (parts, asked) depth 16;
}

-- a line of two parts behind its word
in_two : (word first second : List ℕ) → Shown (word ++ (first ++ second))
    → IsLineWith word (word ++ (first ++ (second ++ codes "\n")))
in_two word first second printed = record {
  rest = first ++ second;
  is = simp append_assoc;
  printable = printed;
}

conforms_is_line : (steps seen : ℕ) → IsLineWith (codes "conforms: ") (conforms_text steps seen)
conforms_is_line steps seen =
    let counts : List ℕ = count_text [] steps (codes "step") (codes "steps")
    ++ count_text (codes ", ") seen (codes "answer") (codes "answers") in
    let printed : Shown (counts ++ codes " seen") = search parts depth 24 in
    in_two (codes "conforms: ") counts (codes " seen") printed

allowed_is_line : (told : List ℕ) (entry : Record) → Shown told → Shown (record_text entry)
    → IsLineWith (codes "allowed: ") (allowed_line told entry)
allowed_is_line told entry p q =
    in_two (codes "allowed: ") (record_text entry) (shown told entry)
    (joined (record_text entry) (shown told entry) q (chosen (is_taken entry) [] told refl p))

-- ---- all lines

lines_allowed : (lines : List (Record × List ℕ))
    → ((line : Record × List ℕ) → In line lines → IsLineWith (codes "allowed: ") line.1)
    → AreLinesWith (replicate (length lines) (codes "allowed: ")) (flat_map (λ l. l.1) lines)
lines_allowed [] each = refl
lines_allowed (line ∷ lines) each =
    (line.1, flat_map (λ l. l.1) lines, each line (inl refl), lines_allowed lines (λ l i. each l (inr i)), refl)

lines_of_difference : (n : ℕ) (seen : Seen) (fact : List ℕ) (lines : List (Record × List ℕ)) (text : List ℕ)
    → Shown fact → ((line : Record × List ℕ) → In line lines → IsLineWith (codes "allowed: ") line.1)
    → (line : Record × List ℕ) × In line lines → text ≡ difference_text n seen fact lines
    → (allowed : ℕ) × AreLinesWith (words_of_difference (suc allowed)) text
lines_of_difference n seen fact [] text printed each any is = absurd any.1
lines_of_difference n seen fact (first ∷ lines) text printed each any is =
    let allowed = flat_map (λ (l : Record × List ℕ). l.1) (first ∷ lines) in
    let asked = asked_step_line n first.0 in (
      length lines,
      (
        asked,
        seen_line seen ++ (against_line fact ++ allowed),
        step_is_line n first.0,
        (
          seen_line seen,
          against_line fact ++ allowed,
          seen_is_line seen,
          (against_line fact, allowed, fact_is_line fact printed, lines_allowed (first ∷ lines) each, refl),
          refl,
        ),
        is ∙ append_assoc (asked ++ seen_line seen) (against_line fact) allowed
            ∙ append_assoc asked (seen_line seen) (against_line fact ++ allowed),
      ),
    )

line_allowed : (caps : Caps) (capacity : ℕ) (before : List (Action × Seen)) (action : Action) (entry : Record)
    (line : List ℕ) → IsAllowedLine caps capacity before action entry line → IsLineWith (codes "allowed: ") line
line_allowed caps capacity before action entry line h =
    let now = standing caps capacity h.records in
    let asked = event_of h.records action in
    subst (IsLineWith (codes "allowed: ")) (sym h.told)
    (allowed_is_line (part_of now asked) entry (reason now asked)
    (answer_words now h.allowed.after entry h.allowed.leads))

differing_report : (caps : Caps) (capacity : ℕ) (before : List (Action × Seen)) (here : Action × Seen) (n : ℕ)
    (text : List ℕ) → IsDifference caps capacity before here n text
    → (allowed : ℕ) × AreLinesWith (words_of_difference (suc allowed)) text
differing_report caps capacity before here n text h =
    let at = standing caps capacity h.against.records in
    lines_of_difference n here.1 h.fact h.lines text
    (subst Shown (sym h.against.is) (fact_shown at (event_of h.against.records here.0) here.1))
    (λ line i. line_allowed caps capacity before here.0 line.0 line.1 (h.told.each line i)) h.any h.is

conforming_report : (caps : Caps) (capacity : ℕ) (steps : List Data) (text : List ℕ)
    → IsConforming caps capacity steps text → AreLinesWith (codes "conforms: " ∷ []) text
conforming_report caps capacity steps text h =
    let n = length h.observed in
    let seen = seen_count h.observed in
    (conforms_text n seen, [], conforms_is_line n seen, refl, h.told ∙ sym (append-nil (conforms_text n seen)))

-- ---- every step that differs

differs_is_line : (differing steps seen : ℕ) → IsLineWith (codes "differs: ") (differs_text differing steps seen)
differs_is_line differing steps seen =
    let counts : List ℕ = count_text [] differing (codes "step") (codes "steps") ++ codes " of " ++ decimal steps
    ++ count_text (codes ", ") seen (codes "answer") (codes "answers") in
    let printed : Shown (counts ++ codes " seen") = search parts depth 24 in
    in_two (codes "differs: ") counts (codes " seen") printed

lines_joined : (words more : List (List ℕ)) (text rest : List ℕ) → AreLinesWith words text → AreLinesWith more rest
    → AreLinesWith (words ++ more) (text ++ rest)
lines_joined [] more text rest h k = subst (λ t. AreLinesWith more (t ++ rest)) (sym h) k
lines_joined (word ∷ words) more text rest h k = (
  h.0,
  h.1 ++ rest,
  h.2,
  lines_joined words more h.1 rest h.3 k,
  ap (λ t. t ++ rest) h.4 ∙ append_assoc h.0 h.1 rest,
)

differences_report : (caps : Caps) (capacity : ℕ) (observed : List (Action × Seen)) (found : List (ℕ × List ℕ))
    → AreDifferences caps capacity observed found
    → (each : List ℕ) × AreLinesWith (flat_map (λ allowed. words_of_difference (suc allowed)) each)
    (flat_map (λ one. one.1) found)
differences_report caps capacity observed [] h = ([], refl)
differences_report caps capacity observed (one ∷ more) h =
    let here = differing_report caps capacity (take one.0 observed) h.0.here one.0 one.1 h.0.differs in
    let later = differences_report caps capacity (unseen_at one.0 observed) more h.1 in (
      here.0 ∷ later.0,
      lines_joined (words_of_difference (suc here.0)) (flat_map (λ allowed. words_of_difference (suc allowed)) later.0)
          one.1 (flat_map (λ (o : ℕ × List ℕ). o.1) more) here.1 later.1,
    )

full_report : (caps : Caps) (capacity : ℕ) (steps : List Data) (i : ℕ) (text : List ℕ)
    → AreDiffering caps capacity steps i text → AreLinesOfAll text
full_report caps capacity steps i text h =
    let first = differing_report caps capacity (take i h.observed) h.differ.0.here i h.first h.differ.0.differs in
    let more = differences_report caps capacity (unseen_at i h.observed) h.more h.differ.1 in
    let last = differs_text (length h.more + 1) (length h.observed) (seen_count h.observed) in
    let rest : List ℕ = flat_map (λ (one : ℕ × List ℕ). one.1) h.more in
    let words : List (List ℕ) = flat_map (λ allowed. words_of_difference (suc allowed)) more.0 in (
      first.0,
      more.0,
      subst (AreLinesWith ((words_of_difference (suc first.0) ++ words) ++ codes "differs: " ∷ [])) (sym h.is)
          (lines_joined (words_of_difference (suc first.0) ++ words) (codes "differs: " ∷ []) (h.first ++ rest) last
          (lines_joined (words_of_difference (suc first.0)) words h.first rest first.1 more.1) (
            last,
            [],
            differs_is_line (length h.more + 1) (length h.observed) (seen_count h.observed),
            refl,
            sym (append-nil last),
          )),
    )

-- of a fault that no verdict has there is no report
judged : (caps : Caps) (capacity : ℕ) (steps : List Data) (f : Option ScenarioFault) (text : List ℕ)
    → IsVerdict caps capacity steps f text → IsReport f text
judged caps capacity steps None text h = conforming_report caps capacity steps text h
judged caps capacity steps (Some (fault.Differs i)) text h =
    differing_report caps capacity (take i h.observed) h.here i text h.differs
judged caps capacity steps (Some _) text h = absurd h

all_judged : (caps : Caps) (capacity : ℕ) (steps : List Data) (f : Option ScenarioFault) (text : List ℕ)
    → IsFullVerdict caps capacity steps f text → IsFullReport f text
all_judged caps capacity steps None text h = conforming_report caps capacity steps text h
all_judged caps capacity steps (Some (fault.Differs i)) text h = full_report caps capacity steps i text h
all_judged caps capacity steps (Some _) text h = absurd h

pub all_reported : (bytes : List ℕ) (f : Option ScenarioFault) (text : List ℕ) → IsConformanceOf true bytes f text
    → IsFullReport f text
all_reported bytes (Some (fault.BadStep i)) text h = h.1
all_reported bytes None text h = all_judged h.caps h.capacity h.steps None text h.verdict
all_reported bytes (Some (fault.Differs i)) text h =
    all_judged h.caps h.capacity h.steps (Some (fault.Differs i)) text h.verdict
all_reported bytes (Some _) text h = absurd h.verdict

pub report : (bytes : List ℕ) (f : Option ScenarioFault) (text : List ℕ) → IsConformance bytes f text → IsReport f text
report bytes (Some (fault.BadStep i)) text h = h.1
report bytes None text h = judged h.caps h.capacity h.steps None text h.verdict
report bytes (Some (fault.Differs i)) text h = judged h.caps h.capacity h.steps (Some (fault.Differs i)) text h.verdict
report bytes (Some _) text h = absurd h.verdict
