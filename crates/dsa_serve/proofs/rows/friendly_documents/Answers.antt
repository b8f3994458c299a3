use Rattle.dsa_serve.proofs.rows.friendly_documents.Goals as goal
use Rattle.dsa_book.specs.declared.event.Event.TheVariants as event
use Rattle.std.proofs.Common.{◌≡◌, ◌∙◌, ℕ, true, false, List, [], ◌∷◌, Option, Some, None, IsUtf8, map, codes, refl}
use Rattle.std.proofs.Common.{ap, sym, subst, inl, inr}
use Rattle.std.specs.{List.{list_any}, Fmt.{digits}}
use Rattle.std.proofs.lemmas.Option.{same_Some}
use Rattle.dsa_book.specs.Machine.{is_run}
use Rattle.serde_json.{specs.{Data.{Data, Items}, Read.{read}}, proofs.OnLiterals.{serde_json_on_literals}}
use Rattle.dsa_scenario.specs.declared.{actions.Action.{Action, TheVariants.{Ask}}, run.Record.{Record}}
use Rattle.dsa_scenario.specs.{Actions.{action_of}, Worked.{smallest_caps, no_caps_text, document_text}}
use Rattle.dsa_scenario.specs.{Document.{head_of, list_of_items, HasHead}, Run.{AreOf, steps_of_records}}
use Rattle.dsa_scenario.proofs.Heads.{Head, head_by, document_by, same_head}
use Rattle.dsa_expand.specs.{Steps.{Pair, is_friendly, object_with}, Expansion.{AreStrictBy, IsLaidOut, IsStrictForm}}
use Rattle.dsa_serve.specs.Worked.{first_line, friendly_line, poll_line, polled_record, unread_poll_line}
use Rattle.dsa_serve.proofs.{FirstFaults.{headless}, RowDialogues.{opening_is}}

-- ---- strict forms

-- a document on the smallest device, none of whose steps is friendly, is its own strict form
own_form : (text : List ℕ) (d : Data) (items : Items) (strict : List (List Pair)) (records : List Record)
    (actions : List Action) → IsUtf8 text → read text ≡ Some d → head_of d ≡ Some (smallest_caps, 9, items)
    → AreStrictBy [] (list_of_items items) strict records
    → map action_of (map object_with strict) ≡ map Some actions → AreOf [] actions records
    → is_run smallest_caps 9 (steps_of_records records) ≡ true → list_any is_friendly (list_of_items items) ≡ false
    → map action_of (list_of_items items) ≡ map Some actions → IsStrictForm text text
own_form text d items strict records actions utf8 reads head by asked of_actions run none same = record {
  document = d;
  caps = smallest_caps;
  capacity = 9;
  items = items;
  strict = strict;
  json = record { utf8 = utf8; value = reads };
  head = head;
  steps = record {
    records = records;
    by = by;
    run = record { actions = actions; asked = asked; of_actions = of_actions; run = run };
  };
  opening = opening_is;
  laid_out = rw none refl;
  reads = rw none (record { utf8 = utf8; value = reads });
  actions = actions;
  faultless = document_by text d smallest_caps 9 items actions utf8 reads head same;
}

bare_form : IsStrictForm (first_line []) (first_line [])
unfolding serde_json_on_literals
bare_form =
    own_form (first_line []) _ _ [] [] [] (first_line [], (refl, refl)) refl refl tt refl tt refl refl refl

poll_form : IsStrictForm (first_line poll_line) (first_line poll_line)
unfolding serde_json_on_literals
poll_form =
    own_form (first_line poll_line) _ _ (_ ∷ []) (polled_record ∷ []) (Ask event.Poll ∷ [])
    (first_line poll_line, (refl, refl)) refl refl (refl, tt) refl (refl, tt) refl refl refl

unread_form : IsStrictForm (first_line unread_poll_line) (first_line unread_poll_line)
unfolding serde_json_on_literals
unread_form =
    own_form (first_line unread_poll_line) _ _ (_ ∷ []) (polled_record ∷ []) (Ask event.Poll ∷ [])
    (first_line unread_poll_line, (refl, refl)) refl refl (refl, tt) refl (refl, tt) refl refl refl

pub returns-clause-strict : goal.returns-clause-strict
returns-clause-strict c = poll_form

-- a document without friendly steps is laid out as it is
pub returns-clause-unchanged : goal.returns-clause-unchanged
returns-clause-unchanged c first strict caps capacity steps h none form =
    let head : Some (form.caps, form.capacity, form.items) ≡ Some (caps, capacity, h.items) =
    sym form.head ∙ same_head first form.document caps capacity steps form.json.value h in
    let same = same_Some {A = Head} (form.caps, form.capacity, form.items) (caps, capacity, h.items) head in
    let listed : list_of_items form.items ≡ steps = ap (λ (it : Head). list_of_items it.2) same ∙ h.listed in
    subst (λ b. IsLaidOut b first form.document form.strict strict) (ap (list_any is_friendly) listed ∙ none)
    form.laid_out

-- ---- what has none

-- a form has a head
head_of_form : (first strict : List ℕ) → (form : IsStrictForm first strict)
    → HasHead first form.caps form.capacity (list_of_items form.items)
head_of_form first strict form =
    record { document = form.document; items = form.items; json = form.json; head = form.head; listed = refl }

formless : (first strict : List ℕ) (d : Data) → read first ≡ Some d → head_of d ≡ None
    → ¬ IsStrictForm first strict
formless first strict d reads none form =
    headless first form.caps form.capacity (list_of_items form.items) d reads none (head_of_form first strict form)

pub returns-clause-no_head : goal.returns-clause-no_head
unfolding serde_json_on_literals
returns-clause-no_head c strict form = formless (codes "{}") strict _ refl refl form

pub returns-clause-not_served : goal.returns-clause-not_served
unfolding serde_json_on_literals
returns-clause-not_served c last output is = formless (codes "{}") is.strict _ refl refl is.form

no_strict_action : (actions : List Action) → ◌≡◌ {A = List (Option Action)} (None ∷ []) (map Some actions) → ⊥
no_strict_action [] e = absurd cc
no_strict_action (action ∷ actions) e = absurd cc

-- a friendly step is no step object
pub returns-clause-as_it_is : goal.returns-clause-as_it_is
unfolding serde_json_on_literals
returns-clause-as_it_is c form =
    let document = form.faultless in
    let head = same_head (first_line friendly_line) _ form.caps form.capacity document.steps refl document.head in
    let same = same_Some {A = Head} _ (form.caps, form.capacity, document.head.items) head in
    let asked = ap (λ (it : Head). map action_of (list_of_items it.2)) same
    ∙ ap (map action_of) document.head.listed ∙ document.asked in
    no_strict_action form.actions asked

-- ---- served

pub returns-clause-served : goal.returns-clause-served
unfolding serde_json_on_literals digits
returns-clause-served c = record {
  caps = smallest_caps;
  capacity = 9;
  observed = [];
  requests = [];
  steps = [];
  strict = first_line [];
  form = bare_form;
  document = record {
    steps = [];
    head = head_by (first_line []) _ smallest_caps 9 _ (first_line [], (refl, refl)) refl refl;
    read = refl;
  };
  opening = opening_is;
  names = Some [];
  asked = refl;
  course = record { of_actions = tt; led = tt; closest = tt; answered = refl };
  led_to = refl;
}

-- ---- faults

pub returns-clause-number : goal.returns-clause-number
unfolding serde_json_on_literals
returns-clause-number c =
    inl (record { document = _; json = record { utf8 = (codes "1", (refl, refl)); value = refl }; none = refl })

pub returns-clause-no_json : goal.returns-clause-no_json
unfolding serde_json_on_literals
returns-clause-no_json c fault = elim fault [
  | inl h ↦ let none = h (codes "1", (refl, refl)) in absurd cc
  | inr h ↦ formless (codes "1") h.0 _ refl refl h.1
]

pub returns-clause-caps : goal.returns-clause-caps
unfolding serde_json_on_literals
returns-clause-caps c = inl (record {
  document = _;
  caps = _;
  capacity = 9;
  items = _;
  json = record { utf8 = (document_text no_caps_text (codes "9") [], (refl, refl)); value = refl };
  head = refl;
  bad = (([], refl), refl);
})

pub returns-clause-stuck : goal.returns-clause-stuck
unfolding serde_json_on_literals
returns-clause-stuck c = inl (record {
  document = _;
  caps = smallest_caps;
  capacity = 9;
  items = _;
  json = record { utf8 = (first_line (codes "{}"), (refl, refl)); value = refl };
  head = refl;
  bad = inl (
    opening_is,
    record {
      strict = [];
      records = [];
      by = tt;
      run = record { actions = []; asked = refl; of_actions = tt; run = refl };
      here = refl;
    },
  );
})

pub returns-clause-unread : goal.returns-clause-unread
unfolding serde_json_on_literals
returns-clause-unread c =
    let text = first_line unread_poll_line in
    inr (
      text,
      unread_form,
      record {
        caps = smallest_caps;
        capacity = 9;
        steps = _;
        head = head_by text _ smallest_caps 9 _ (text, (refl, refl)) refl refl;
        bad = record { done = []; before = refl; here = refl };
      },
    )

pub returns-clause-no_fault : goal.returns-clause-no_fault
unfolding serde_json_on_literals
returns-clause-no_fault c fault = elim fault [
  | inl h ↦
      headless (codes "1") h.caps h.capacity (list_of_items h.items) _ refl refl
      (record { document = h.document; items = h.items; json = h.json; head = h.head; listed = refl })
  | inr h ↦ formless (codes "1") h.0 _ refl refl h.1
]
