-- The lists with the names of some of their entries, one after the other.
use Rattle.std.proofs.Common.{◌≡◌, ℕ, Bool, true, false, ◌||◌, cond, nat_lt, List, [], ◌∷◌, ◌++◌, length, refl, ◌∙◌}
use Rattle.std.proofs.Common.{ap, Some, arith, codes, decimal, append_assoc, not, sym}
use Rattle.std.proofs.lemmas.{Grind.{common_steps}, List.{append-nil, flat_map_more}}
use Rattle.std.specs.Prelude.{Option}
use Rattle.dsa_regs.specs.declared.layout.ListUse.{ListUse}
use Rattle.dsa_store.specs.{declared.entry.Entry.{Entry}, Content.{HeldEntry}}
use Rattle.dsa_regs.specs.declared.Command.{Command}
use Rattle.dsa_book.specs.State.{State}
use Rattle.dsa_event_text.specs.Text.{command_with_operand}
use Rattle.dsa_explain.specs.declared.held.ListedEntry.{ListedEntry}
use Rattle.dsa_explain.specs.declared.{awaiting.WaitReason.{WaitReason}, held.Named.TheVariants.{Awaited}}
use Rattle.dsa_explain.specs.{Held.{NamedList, named_list, names_where, lists_where, is_named_by}, Wait.{wait_reason}}
use Rattle.dsa_explain_lines.specs.{Sentences.{active_words, ended_words, list_head, list_words, wait_count}, Parts.{lists_part, wait_part, wait_part_of}}
use Rattle.dsa_explain_lines.proofs.Joining.{behind, behind_two}

-- ---- the names of one list

-- one more that passes
pub names-more : (p : Entry → Bool) (before : List HeldEntry) (pair : HeldEntry) → p pair.1 ≡ true
    → names_where p (before ++ pair ∷ []) ≡ names_where p before ++ pair.1.name ∷ []
names-more p [] pair h = rw h refl
names-more p (x ∷ before) pair h = grind (arith, common_steps, names-more p before pair h)

some-more : (names : List ℕ) (name : ℕ) → true ≡ nat_lt 0 (length (names ++ name ∷ []))
some-more [] name = refl
some-more (x ∷ names) name = grind (arith, common_steps)

-- and its text
pub words-more : (mark verb : List ℕ) (list : ListUse) (names : List ℕ) (name : ℕ) (told : Bool)
    → told ≡ nat_lt 0 (length names)
    → list_words mark verb list (names ++ name ∷ [])
    ≡ list_words mark verb list names ++ (cond (not told) (list_head mark verb list) (codes ", ") ++ decimal name)
words-more mark verb list [] name told is =
    let none : told ≡ false = grind (arith, common_steps, is) in rw none (append-nil _)
words-more mark verb list (first ∷ others) name told is =
    let some : told ≡ true = grind (arith, common_steps, is) in
    rw some (sym (flat_map_more (λ other. codes ", " ++ decimal other) (list_head mark verb list ++ decimal first) others name))

-- what is told of a list so far, with one name more
pub told-more : (p : Entry → Bool) (mark verb : List ℕ) (list : ListUse) (before : List HeldEntry) (pair : HeldEntry)
    (told : Bool) (old text new : List ℕ) → p pair.1 ≡ true → told ≡ nat_lt 0 (length (names_where p before))
    → text ≡ old ++ list_words mark verb list (names_where p before)
    → new ≡ text ++ (cond (not told) (list_head mark verb list) (codes ", ") ++ decimal pair.1.name)
    → (new ≡ old ++ list_words mark verb list (names_where p (before ++ pair ∷ [])))
    × (true ≡ nat_lt 0 (length (names_where p (before ++ pair ∷ []))))
told-more p mark verb list before pair told old text new h is so then = (
  then ∙ rw (
    so,
    append_assoc,
    names-more p before pair h,
    words-more mark verb list (names_where p before) pair.1.name told is,
  ) refl,
  rw (names-more p before pair h) (some-more (names_where p before) pair.1.name),
)

-- ---- list by list

-- the names of one list, and what is told of those behind it
part-step : (verb mark : List ℕ) (list : ListUse) (names : List ℕ) (more : List NamedList) (has : Bool)
    → has ≡ nat_lt 0 (length names) → lists_part verb mark (named_list list names ++ more)
    ≡ list_words mark verb list names ++ lists_part verb (cond has (codes "; ") mark) more
part-step verb mark list [] more has is =
    let none : has ≡ false = grind (arith, common_steps, is) in rw none refl
part-step verb mark list (name ∷ names) more has is =
    let some : has ≡ true = grind (arith, common_steps, is) in rw some refl

mark-next : (first : List ℕ) (told has : Bool) → cond has (codes "; ") (cond told (codes "; ") first)
    ≡ cond (told || has) (codes "; ") first
mark-next first true true = refl
mark-next first true false = refl
mark-next first false true = refl
mark-next first false false = refl

-- what is told so far, with one list more
pub lists-next : (verb first old text new mark : List ℕ) (list : ListUse) (names : List ℕ) (here more : List NamedList)
    (told has both : Bool) → mark ≡ cond told (codes "; ") first → here ≡ named_list list names ++ more
    → has ≡ nat_lt 0 (length names) → both ≡ (told || has)
    → old ≡ text ++ lists_part verb (cond told (codes "; ") first) here → new ≡ text ++ list_words mark verb list names
    → old ≡ new ++ lists_part verb (cond both (codes "; ") first) more
lists-next verb first old text new mark list names here more told has both m h l b before after =
    before
    ∙ rw (
      h,
      after,
      m,
      b,
      append_assoc,
      part-step verb (cond told (codes "; ") first) list names more has l,
      mark-next first told has,
    ) refl

-- ---- what a command waits for

pub wait-told : (s : State) (command : Command) (reason : WaitReason) (mark count : ℕ) (old mid far new : List ℕ)
    → wait_reason s command ≡ Some reason → mark ≡ s.work.setup.next_name → mid ≡ old ++ codes ": "
    → count ≡ reason.awaited → far ≡ mid ++ wait_count count
    → new ≡ far ++ lists_part (codes ": ") (codes ", ")
    (lists_where (is_named_by (Awaited (record { command = command; mark = mark }))) s)
    → new ≡ old ++ wait_part s command
wait-told s command reason mark count old mid far new told is h so k e =
    let lists : ℕ → List ℕ = λ m. lists_part (codes ": ") (codes ", ")
    (lists_where (is_named_by (Awaited (record { command = command; mark = m }))) s) in
    behind_two old (codes ": ") (wait_count reason.awaited) (lists s.work.setup.next_name) mid far new h
    (k ∙ ap (λ n. mid ++ wait_count n) so)
    (e ∙ ap (λ m. far ++ lists m) is)
    ∙ ap (λ part. old ++ wait_part_of s command part) (sym told)

-- an active command for which nothing is left
pub over-told : (active : Command) (awaited : ℕ) (first : Option ListedEntry) (old mid new : List ℕ)
    → awaited ≡ 0 → mid ≡ old ++ command_with_operand active
    → new ≡ mid ++ ended_words
    → new ≡ old ++ active_words active awaited first
over-told active awaited first old mid new zero h e =
    rw zero (behind old (command_with_operand active) ended_words mid new h e)
