-- Documents, lines and dialogues that several worked rows speak of, all of the smallest device.
use Rattle.dsa_book.specs.declared.event.Event.TheVariants as event
use Rattle.std.proofs.Common.{◌≡◌, ◌≢◌, ◌≤◌, ◌^◌, ◌∙◌, ℕ, true, false, List, [], ◌∷◌, ◌++◌, drop}
use Rattle.std.proofs.Common.{length, map, codes, refl, ap}
use Rattle.std.proofs.Common.{sym, subst, arith, lit≤, inl, inr}
use Rattle.std.specs.{Prelude.{Some, None, IsUtf8}, Fmt.{digits}}
use Rattle.std.proofs.lemmas.{Option.{same_Some}, List.Elements.{All-nil}}
use Rattle.serde_json.{specs.{Data.{Data}, Read.{read}}, proofs.OnLiterals.{serde_json_on_literals}}
use Rattle.dsa_regs.specs.declared.Caps.{Caps}
use Rattle.dsa_book.specs.State.{State, opening}
use Rattle.dsa_scenario.specs.declared.{actions.Action.{Action, TheVariants.{Ask}}, run.Record.{Record}}
use Rattle.dsa_scenario.specs.Document.{head_of, list_of_items, IsOpenable}
use Rattle.dsa_conform.specs.Seen.{Seen, observation_of}
use Rattle.dsa_scenario.specs.{Run.{AreOf, Leads}, Steps.{Visit}, Worked.{smallest_caps}}
use Rattle.dsa_device.specs.Running.{Running, running_at_first}
use Rattle.dsa_scenario.proofs.Heads.{Head, head_by, same_head}
use Rattle.dsa_serve.proofs.FirstFaults.{headless}
use Rattle.dsa_serve.specs.Names.{Names}
use Rattle.dsa_serve.specs.Requests.{Request, Step, Explain, Show, Fates, BeginAnew, Fault, Ready, IsAskedIn}
use Rattle.dsa_serve.specs.Requests.{AreAsked, Asks, IsRead, TellsNoJson}
use Rattle.dsa_serve.specs.{Requests.{actions_of, observed_of}}
use Rattle.dsa_serve.specs.{Answers.{after_requests, answers, records_of_visits}}
use Rattle.dsa_serve.specs.Answers.{AreClosest, AreStepsOf, IsVisitFrom}
use Rattle.dsa_serve.specs.Input.{IsLine, AreLines, IsUnended}
use Rattle.dsa_serve.specs.Dialogue.{from_document, AnswersWhole, IsDialogue, IsObservedDocument, IsTakenAs}
use Rattle.dsa_serve.specs.Worked.{poll_line, explained_poll_line, show_line, line_of_fates, first_line, unseen}
use Rattle.dsa_serve.specs.Worked.{flaw_of_a_brace, not_json, not_utf8}
use Rattle.dsa_check.proofs.OneLine.{open_flaw, byte_flaw}
use Rattle.dsa_serve.proofs.RowLines.{line_by_test}

-- ---- documents

-- a first line without steps, and one with a step
pub bare_document : IsObservedDocument (first_line []) smallest_caps 9 []
unfolding serde_json_on_literals
bare_document = record {
  steps = _;
  head = head_by (first_line []) _ smallest_caps 9 _ (first_line [], (refl, refl)) refl refl;
  read = refl;
}

pub poll_document : IsObservedDocument (first_line poll_line) smallest_caps 9 ((Ask event.Poll, unseen) ∷ [])
unfolding serde_json_on_literals
poll_document = record {
  steps = _;
  head = head_by (first_line poll_line) _ smallest_caps 9 _ (first_line poll_line, (refl, refl)) refl refl;
  read = refl;
}

-- a strict dialogue reads its document as it is
pub as_given : {first strict : List ℕ} {caps : Caps} {capacity : ℕ} {observed : List (Action × Seen)}
    → IsTakenAs false first strict → IsObservedDocument strict caps capacity observed
    → IsObservedDocument first caps capacity observed
as_given {caps = caps} {capacity = capacity} {observed = observed} form document =
    subst (λ bytes. IsObservedDocument bytes caps capacity observed) form document

-- a document has the caps, the capacity and the steps of what it is read as
pub parts_are : (text : List ℕ) (caps : Caps) (capacity : ℕ) (observed : List (Action × Seen))
    (d : Data) (found : Head)
    → read text ≡ Some d → head_of d ≡ Some found → IsObservedDocument text caps capacity observed
    → (found.0 ≡ caps) × (found.1 ≡ capacity)
    × (map observation_of (list_of_items found.2) ≡ map Some observed)
parts_are text caps capacity observed d found reads has is =
    let head : Some found ≡ Some (caps, capacity, is.head.items) =
    sym has ∙ same_head text d caps capacity is.steps reads is.head in
    let parts = same_Some {A = Head} found (caps, capacity, is.head.items) head in (
      ap (λ (h : Head). h.0) parts,
      ap (λ (h : Head). h.1) parts,
      ap (λ (h : Head). map observation_of (list_of_items h.2)) parts ∙ ap (map observation_of) is.head.listed
          ∙ is.read,
    )

-- what is read as something without a head is no document
pub no_document : (text : List ℕ) (caps : Caps) (capacity : ℕ) (observed : List (Action × Seen)) (d : Data)
    → read text ≡ Some d → head_of d ≡ None → ¬ IsObservedDocument text caps capacity observed
no_document text caps capacity observed d reads none is =
    headless text caps capacity is.steps d reads none is.head

-- a number begins no dialogue
pub no_dialogue : (lines : List (List ℕ)) (last : State) (output : List ℕ)
    → ¬ IsDialogue false (codes "1") lines last output
unfolding serde_json_on_literals
no_dialogue lines last output is =
    no_document (codes "1") is.caps is.capacity is.observed _ refl refl (as_given is.form is.document)

no_action : (observed : List (Action × Seen)) → [] ≡ map Some observed → observed ≡ []
no_action [] e = refl
no_action (o ∷ observed) e = absurd cc

-- a first line without steps asks nothing
pub bare_parts : (caps : Caps) (capacity : ℕ) (observed : List (Action × Seen))
    → IsObservedDocument (first_line []) caps capacity observed → (smallest_caps ≡ caps) × (observed ≡ [])
unfolding serde_json_on_literals
bare_parts caps capacity observed is =
    let parts = parts_are (first_line []) caps capacity observed _ _ refl refl is in
    (parts.0, no_action observed parts.2)

-- such a device can be opened
pub opening_is : IsOpenable smallest_caps 9
opening_is = record { good = refl; small = lit≤ tt }

-- ---- lines

pub open_brace : IsLine (codes "{")
open_brace = line_by_test (codes "{") refl

-- no bytes are no lines
pub nothing_behind : AreLines [] [] []
nothing_behind = record { joined = refl; each = All-nil IsLine; last = All-nil (λ byte. byte ≢ 10) }

-- a line is what it is read as
pub read_as : (line : List ℕ) (d : Data) (request : Request) → IsUtf8 line → read line ≡ Some d
    → IsAskedIn d request → IsRead None line request
read_as line d request utf8 reads asks = record
    { document = d; json = record { utf8 = utf8; value = reads }; asks = asks }

pub asks_poll : Asks None poll_line (Step (Ask event.Poll) unseen)
unfolding serde_json_on_literals
asks_poll = (lit≤ tt, read_as poll_line _ _ (poll_line, (refl, refl)) refl refl)

pub asks_explained_poll : Asks None explained_poll_line (Explain (Ask event.Poll) unseen)
unfolding serde_json_on_literals
asks_explained_poll =
    (lit≤ tt, read_as explained_poll_line _ _ (explained_poll_line, (refl, refl)) refl refl)

pub asks_show : Asks None show_line Show
unfolding serde_json_on_literals
asks_show = (lit≤ tt, read_as show_line _ _ (show_line, (refl, refl)) refl refl)

pub asks_fates : Asks None line_of_fates Fates
unfolding serde_json_on_literals
asks_fates = (lit≤ tt, read_as line_of_fates _ _ (line_of_fates, (refl, refl)) refl refl)

pub asks_no_json : Asks None (codes "{") not_json
unfolding serde_json_on_literals
asks_no_json = inr (inl (lit≤ tt, λ utf8. refl, (flaw_of_a_brace, open_flaw, refl)))

-- no lines ask nothing
pub no_request : (names : Names) (requests : List Request) (records : List Record) (last : Names)
    → AreAsked names [] requests records last → requests ≡ []
no_request names [] records last h = refl
no_request names (r ∷ requests) records last h = absurd h

-- what is no JSON asks nothing else
asks_nothing : (names : Names) (line : List ℕ) (request : Request) → length line ≤ 2 ^ 20 → read line ≡ None
    → Asks names line request
    → (why : List ℕ) × TellsNoJson line why × (request ≡ Fault why)
asks_nothing names line (Fault why) short none (inl h) = absurd (omega (arith, short, h.0))
asks_nothing names line (Fault why) short none (inr (inl h)) = (why, h.2, refl)
asks_nothing names line (Fault why) short none (inr (inr h)) = let value = h.1.json.value in absurd cc
asks_nothing names line (Step action seen) short none h = let value = h.1.json.value in absurd cc
asks_nothing names line (Explain action seen) short none h = let value = h.1.json.value in absurd cc
asks_nothing names line Show short none h = let value = h.1.json.value in absurd cc
asks_nothing names line Fates short none h = let value = h.1.json.value in absurd cc
asks_nothing names line (BeginAnew past) short none h = let value = h.1.json.value in absurd cc
asks_nothing names line (Ready count) short none h = let value = h.1.json.value in absurd cc

pub one_fault : (names : Names) (line : List ℕ) (requests : List Request)
    (records : List Record) (last : Names)
    → length line ≤ 2 ^ 20 → read line ≡ None → AreAsked names (line ∷ []) requests records last
    → (why : List ℕ) × TellsNoJson line why × (requests ≡ Fault why ∷ [])
one_fault names line [] records last short none h = absurd h
one_fault names line (r ∷ []) records last short none h =
    let it = asks_nothing names line r short none h.0 in
    (it.0, it.1, ap (λ x. x ∷ []) it.2)
one_fault names line (r ∷ s ∷ requests) records last short none h = absurd h.1

-- a byte that is no UTF-8 is told as such
pub odd_byte : (names : Names) (requests : List Request) (records : List Record) (last : Names)
    → AreAsked names ((255 ∷ []) ∷ []) requests records last → requests ≡ not_utf8 ∷ []
unfolding serde_json_on_literals
odd_byte names requests records last h =
    let one = one_fault names (255 ∷ []) requests records last (lit≤ tt) refl h in
    let flaw = byte_flaw one.1.0 one.1.1 in
    one.2 ∙ ap (λ why. Fault why ∷ []) (one.1.2 ∙ ap (λ text. codes "not JSON: " ++ text) flaw)

-- ---- dialogues

no : ¬ (true ≡ false)
no same = absurd cc

-- where nothing was seen, each answer shows it
pub all_unseen : (actions : List Action) (steps : List Visit)
    → AreClosest (map (λ action. (action, unseen)) actions) steps
all_unseen [] steps = tt
all_unseen (action ∷ actions) [] = tt
all_unseen (action ∷ actions) (step ∷ steps) = (λ other. absurd (no other), all_unseen actions steps)

-- a step of a device that stands so
pub led : {now : Running} {number : ℕ} {step : Visit} → step.number ≡ number → step.before ≡ now
    → Leads now step.entry step.after → IsVisitFrom now number step
led number_is before leads = record { number_is = number_is; before = before; leads = leads }

-- the dialogue of a document and of lines, by what they ask and come to
pub dialogue_by : (first : List ℕ) (lines : List (List ℕ)) (observed : List (Action × Seen))
    (requests : List Request) (steps : List Visit) → IsObservedDocument first smallest_caps 9 observed
    → AreAsked None lines requests (drop (length observed) (records_of_visits steps)) None
    → AreOf [] (actions_of (from_document observed requests)) (records_of_visits steps)
    → AreStepsOf (running_at_first smallest_caps 9) 0 (from_document observed requests) steps
    → (after_requests (running_at_first smallest_caps 9) (from_document observed requests) steps).state
    ≡ opening smallest_caps
    → AreClosest (observed_of (from_document observed requests)) steps
    → IsDialogue false first lines (opening smallest_caps)
    (answers (running_at_first smallest_caps 9) 0 (from_document observed requests) steps)
dialogue_by first lines observed requests steps document asked of_actions led led_to closest = record {
  caps = smallest_caps;
  capacity = 9;
  observed = observed;
  requests = requests;
  steps = steps;
  strict = first;
  form = refl;
  document = document;
  opening = opening_is;
  names = None;
  asked = asked;
  course = record { of_actions = of_actions; led = led; closest = closest; answered = refl };
  led_to = led_to;
}

pub bare_dialogue : IsDialogue false (first_line []) [] (opening smallest_caps) (codes "ready 0\n")
unfolding digits
bare_dialogue = dialogue_by (first_line []) [] [] [] [] bare_document refl tt tt refl tt

-- a document that the end of the input ended, and that a dialogue answers
pub alone : (first output : List ℕ) → IsUnended first → length first ≤ 2 ^ 20
    → IsDialogue false first [] (opening smallest_caps) output → AnswersWhole false true first output
alone first output unended short dialogue = record {
  first = first;
  behind = [];
  lines = [];
  rest = [];
  last = opening smallest_caps;
  split = record { unended = unended; short = short; front = (refl, refl) };
  lines_are = nothing_behind;
  dialogue = dialogue;
}
