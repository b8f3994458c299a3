-- Pages of a run whose lines are taken from them.
use Rattle.std.proofs.Common.{◌≡◌, ◌∙◌, ℕ, List, [], ◌∷◌, ◌++◌, ap, sym, append_assoc, append-nil, subst}
use Rattle.std.proofs.Common.{flat_map, filter_map, ◌⊎◌, inl, inr, Option, String, Global, true, ◌<◌, ◌≤◌}
use Rattle.std.proofs.Common.{string_bytes, string_len}
use Rattle.std.proofs.{KnownBytes.{Appends-trans}, lemmas.{Bool.{cases_lt}, List.Concat.{flat_map-append}}}
use Rattle.std.specs.Io.KnownBytes.{Appends}
use Rattle.serde_json.specs.Data.{Data}
use Rattle.dsa_scenario.specs.declared.watched.WatchedWriter.{WatchedWriter}
use Rattle.dsa_scenario.specs.Steps.{Visit}
use Rattle.dsa_scenario.specs.Streams.{IsPartWritten}
use Rattle.dsa_scenario.specs.Watched.{watched_contents, has_refused, IsSameWriter}
use Rattle.dsa_scenario.proofs.StreamWrites.{part_behind}
use Rattle.dsa_named.specs.Names.{Own, given_at, names_given}
use Rattle.dsa_named.specs.Steps.{NamedVisit, named_visit}
use Rattle.dsa_named.proofs.More.{named-more, names-more}
use Rattle.dsa_trace.specs.declared.form.Trace.{Trace}
use Rattle.dsa_named_trace.specs.Lines.{named_trace_line}
use Rattle.dsa_named_trace.specs.Streams.{IsNamedPage, IsTakenFrom, HasTakenNamed, HasRefusedNamed}

-- a page with the line of one step more, which has these own names
pub page_more : (form : Trace) (objects : List Data) (taken : List NamedVisit) (steps : List Visit) (step : Visit)
    (text longer : List ℕ) (names more told : List Own)
    → ((rest : List NamedVisit) → text ≡ flat_map (named_trace_line form) rest
    → longer ≡ flat_map (named_trace_line form) (rest ++ named_visit told step ∷ []))
    → told ≡ more → more ≡ names ++ filter_map (given_at objects step.number) (step.entry ∷ [])
    → IsNamedPage form objects taken steps text names
    → IsNamedPage form objects taken (steps ++ step ∷ []) longer more
page_more form objects taken steps step text longer names more told adds tells gives h =
    let given : more ≡ names_given objects (steps ++ step ∷ []) =
    gives ∙ ap (λ l. l ++ filter_map (given_at objects step.number) (step.entry ∷ [])) h.given
    ∙ sym (names-more objects steps step) in
    let here = named_visit (names_given objects (steps ++ step ∷ [])) step in
    record {
      rest = h.rest ++ named_visit told step ∷ [];
      split = named-more objects [] steps step ∙ ap (λ l. l ++ here ∷ []) h.split
          ∙ append_assoc taken h.rest (here ∷ [])
          ∙ ap (λ n. taken ++ (h.rest ++ named_visit n step ∷ [])) (sym (tells ∙ given));
      lines = adds h.rest h.lines;
      given = given;
    }

-- the page was left as it is, or was written and emptied
abbrev pub IsLeftOrWritten : {W : Type 0} → (W → Option (List ℕ)) → WatchedWriter W → WatchedWriter W → List ℕ
    → List ℕ → Type 0
IsLeftOrWritten contents old new text left = (left ≡ text) × (new ≡ old)
    ⊎ (left ≡ []) × IsSameWriter old new × (has_refused new ≡ has_refused old)
    × Appends (watched_contents contents old) (watched_contents contents new) text

pub page_taken : {W : Type 0} (contents : W → Option (List ℕ)) (form : Trace) (objects : List Data)
    (first old new : WatchedWriter W) (steps : List Visit) (text left : List ℕ) (names : List Own)
    → IsLeftOrWritten contents old new text left
    → IsTakenFrom form objects (HasTakenNamed contents form first old) steps (text, names)
    → IsTakenFrom form objects (HasTakenNamed contents form first new) steps (left, names)
page_taken contents form objects first old new steps text left names (inl (same, kept)) (taken, was, page) =
    rw (same, kept) (taken, was, page)
page_taken contents form objects first old new steps text left names (inr (none, same, refused, adds)) (
  taken,
  was,
  page,
) = (
  taken ++ page.rest,
  record {
    same = same ∙ was.same;
    refused = refused ∙ was.refused;
    lines = subst (Appends (watched_contents contents first) (watched_contents contents new))
        (ap (λ l. flat_map (named_trace_line form) taken ++ l) page.lines
        ∙ sym (flat_map-append (named_trace_line form) taken page.rest))
        (Appends-trans _ _ _ _ _ was.lines adds);
  },
  record {
    rest = [];
    split = page.split ∙ sym (append-nil (taken ++ page.rest));
    lines = none;
    given = page.given;
  },
)

-- what a call of `write_piece` did that went well
pub piece_taken : {W : Type 0} (contents : W → Option (List ℕ)) (old new : WatchedWriter W) (text left : String Global)
    → IsSameWriter old new → has_refused new ≡ has_refused old
    → (string_len text < 16384 → left ≡ text) → (string_len text < 16384 → new ≡ old)
    → (16384 ≤ string_len text
    → Appends (watched_contents contents old) (watched_contents contents new) (string_bytes text))
    → (16384 ≤ string_len text → string_bytes left ≡ [])
    → IsLeftOrWritten contents old new (string_bytes text) (string_bytes left)
piece_taken contents old new text left same refused short kept whole empty =
    elim (cases_lt (string_len text) 16384) [
      | inl less ↦ inl (ap string_bytes (short less), kept less)
      | inr more ↦ inr (empty more, same, refused, whole more)
    ]

-- or it was refused on the way
pub page_refused : {W : Type 0} (contents : W → Option (List ℕ)) (form : Trace) (objects : List Data)
    (first old new : WatchedWriter W) (steps : List Visit) (text : List ℕ) (names : List Own)
    → IsSameWriter old new → has_refused new ≡ true
    → IsPartWritten (watched_contents contents old) (watched_contents contents new) text
    → IsTakenFrom form objects (HasTakenNamed contents form first old) steps (text, names)
    → HasRefusedNamed contents form objects first new steps
page_refused contents form objects first old new steps text names same refused part (taken, was, page) = record {
  same = same ∙ was.same;
  refused = refused;
  lines = subst (IsPartWritten (watched_contents contents first) (watched_contents contents new))
      (ap (λ l. flat_map (named_trace_line form) taken ++ l) page.lines
      ∙ sym (flat_map-append (named_trace_line form) taken page.rest)
      ∙ ap (flat_map (named_trace_line form)) (sym page.split))
      (part_behind _ _ _ _ _ was.lines part);
}
