-- The head of a document, by what its text reads as.
use Rattle.std.proofs.Common.{◌≡◌, ◌∙◌, ℕ, List, [], Some, IsUtf8, ap, map, refl}
use Rattle.std.specs.Option.{option_map_or}
use Rattle.serde_json.specs.{Data.{Data, Items}, Read.{read}}
use Rattle.dsa_regs.specs.declared.Caps.{Caps}
use Rattle.dsa_scenario.specs.declared.{actions.Action.{Action}, faults.ScenarioFault.{ScenarioFault}}
use Rattle.dsa_scenario.specs.Actions.{action_of}
use Rattle.dsa_scenario.specs.Document.{HasFaultyHead, HasHead, IsDocument, IsFaultOfHead, head_of, list_of_items}

abbrev pub Head : Type 0
Head = Caps × ℕ × Items

-- a text has the head of what it reads as
pub head_by : (text : List ℕ) (d : Data) (caps : Caps) (capacity : ℕ) (items : Items) → IsUtf8 text → read text ≡ Some d
    → head_of d ≡ Some (caps, capacity, items) → HasHead text caps capacity (list_of_items items)
head_by text d caps capacity items utf8 reads head =
    record { document = d; items = items; json = record { utf8 = utf8; value = reads }; head = head; listed = refl }

-- and is a document, where its steps ask these actions
pub document_by : (text : List ℕ) (d : Data) (caps : Caps) (capacity : ℕ) (items : Items) (actions : List Action)
    → IsUtf8 text → read text ≡ Some d → head_of d ≡ Some (caps, capacity, items)
    → map action_of (list_of_items items) ≡ map Some actions → IsDocument text caps capacity actions
document_by text d caps capacity items actions utf8 reads head asked = record {
  steps = list_of_items items;
  head = head_by text d caps capacity items utf8 reads head;
  asked = asked;
}

-- or has a fault of its keys
pub faulty : (text : List ℕ) (d : Data) (caps : Caps) (capacity : ℕ) (items : Items) (fault : ScenarioFault)
    → IsUtf8 text → read text ≡ Some d → head_of d ≡ Some (caps, capacity, items)
    → IsFaultOfHead caps capacity (list_of_items items) fault → HasFaultyHead text fault
faulty text d caps capacity items fault utf8 reads head bad =
    record { caps = _; capacity = _; steps = _; head = head_by text d caps capacity items utf8 reads head; bad = bad }

-- it has no other head
pub same_head : (text : List ℕ) (d : Data) (caps : Caps) (capacity : ℕ) (steps : List Data) → read text ≡ Some d
    → (has : HasHead text caps capacity steps) → head_of d ≡ Some (caps, capacity, has.items)
same_head text d caps capacity steps e has =
    let value = has.json.value in
    let same : d ≡ has.document = cc in
    ap head_of same ∙ has.head

-- nor other caps, nor another capacity
pub same_caps : (text : List ℕ) (d : Data) (caps : Caps) (capacity : ℕ) (steps : List Data) → read text ≡ Some d
    → HasHead text caps capacity steps → option_map_or (λ (h : Head). h.0) (head_of d) caps ≡ caps
same_caps text d caps capacity steps e has =
    ap (λ o. option_map_or (λ (h : Head). h.0) o caps) (same_head text d caps capacity steps e has)

pub same_capacity : (text : List ℕ) (d : Data) (caps : Caps) (capacity : ℕ) (steps : List Data) → read text ≡ Some d
    → HasHead text caps capacity steps → option_map_or (λ (h : Head). h.1) (head_of d) capacity ≡ capacity
same_capacity text d caps capacity steps e has =
    ap (λ o. option_map_or (λ (h : Head). h.1) o capacity) (same_head text d caps capacity steps e has)

-- nor other steps
pub same_steps : (text : List ℕ) (d : Data) (caps : Caps) (capacity : ℕ) (steps : List Data) → read text ≡ Some d
    → HasHead text caps capacity steps
    → option_map_or (λ (h : Head). list_of_items h.2) (head_of d) [] ≡ steps
same_steps text d caps capacity steps e has =
    ap (λ o. option_map_or (λ (h : Head). list_of_items h.2) o []) (same_head text d caps capacity steps e has)
    ∙ has.listed
