-- What is read from the tokens of a text.
use Rattle.std.proofs.Common.{◌≡◌, ℕ, ◌+◌, ◌<◌, ◌≤◌, List, [], ◌∷◌, ◌++◌, Bool, true, false, bytes_eq, Option, Some, None, option_map}
use Rattle.std.proofs.Common.{option_and_then, refl, sym, ap, ◌∙◌, subst, arith, append_assoc, map, length, take, drop}
use Rattle.std.proofs.Common.{get_or, drop-cons, suc, true≢false, length-append, lt-ltb, ◌^◌, codes}
use Rattle.std.proofs.lemmas.List.{take-append-drop}
use Rattle.std.proofs.lemmas.Slice.Eq.{bytes_eq-Decides}
use Rattle.std.specs.Borrow.{Bor}
use Rattle.json.specs.{Token.{Token}, Lex.{tokens}}
use Rattle.json.specs.Json as json
use Rattle.json.specs.Reads.{token_of}
use Rattle.json.specs.declared.token.Token as written
use Rattle.json.specs.Tree as tree
use Rattle.json.proofs.{Found.{Some_inj, not_found}, Printed.Trees.{value-json_tokens}}
use Rattle.serde_json.specs.Data.{Num, Data, null, boolean, number, unsigned, negative, float, string, array, object, Items, Members}
use Rattle.serde_json.specs.Data.{item, no_items, no_members, put}
use Rattle.serde_json.specs.{Find.{as_u64, as_array, as_number, get_member}, Read.{number_of, of_json, of_items, of_members, max_depth, read}}
use Rattle.serde_json.proofs.Views.{get_member-put, get_member-put_other}
use Rattle.dsa_scenario.specs.{declared.actions.Action.{Action}, declared.members.Leaf.{Leaf}, Actions.{action_of, caps_of}}
use Rattle.dsa_regs.specs.declared.Caps.{Caps}
use Rattle.dsa_scenario.specs.Fields.{below_limit, whole_of}
use Rattle.std.specs.Prelude.{IfSome, IfOk, Result, Ok, Err, is_some, MatchOption}
use Rattle.std.proofs.Common.{Vec, Global}
use Rattle.dsa_scenario.specs.declared.script.Script.{Script}
use Rattle.dsa_scenario.specs.Document.{list_of_items}
use Rattle.dsa_scenario.specs.Tokens.{data_of_leaf, put_all, HasParts, IsScript, Reads, ReadsMembers, ReadsSteps}

-- ---- what stands at a key

put_all-append : (ms ns : List (Bor (List ℕ) × Leaf)) (found : Members) → put_all (ms ++ ns) found ≡ put_all ns (put_all ms found)
put_all-append [] ns found = refl
put_all-append (m ∷ ms) ns found = put_all-append ms ns (put m.0.now (data_of_leaf m.1) found)

-- none of the members has this key
abbrev pub HasNone : List ℕ → List (Bor (List ℕ) × Leaf) → Type 0
HasNone key ms = (found : Members) → get_member key (put_all ms found) ≡ get_member key found

-- nor has one before them
pub none_before : (key : List ℕ) (ms : List (Bor (List ℕ) × Leaf)) (i : ℕ) (d : Bor (List ℕ) × Leaf) → i < length ms
    → bytes_eq (get_or ms i d).0.now key ≡ false → HasNone key (drop (i + 1) ms) → HasNone key (drop i ms)
none_before key ms i d inside other none found =
    let m = get_or ms i d in
    let next : suc i ≡ i + 1 = omega arith in
    let split : drop i ms ≡ m ∷ drop (i + 1) ms = drop-cons ms i d inside ∙ ap (λ n. m ∷ drop n ms) next in
    ap (λ x. get_member key (put_all x found)) split
    ∙ none (put m.0.now (data_of_leaf m.1) found)
    ∙ get_member-put_other key m.0.now (data_of_leaf m.1) found
    (λ alike. true≢false (sym ((bytes_eq-Decides m.0.now key).1 (sym alike)) ∙ other))

-- the last that has it
pub last_of : (key : List ℕ) (ms : List (Bor (List ℕ) × Leaf)) (i : ℕ) (d : Bor (List ℕ) × Leaf) → i < length ms
    → bytes_eq (get_or ms i d).0.now key ≡ true → HasNone key (drop (i + 1) ms)
    → Some (data_of_leaf (get_or ms i d).1) ≡ get_member key (put_all ms no_members)
last_of key ms i d inside same none =
    let m = get_or ms i d in
    let next : suc i ≡ i + 1 = omega arith in
    let split : drop i ms ≡ m ∷ drop (i + 1) ms = drop-cons ms i d inside ∙ ap (λ n. m ∷ drop n ms) next in
    let all : ms ≡ take i ms ++ m ∷ drop (i + 1) ms = sym (take-append-drop i ms) ∙ ap (λ x. take i ms ++ x) split in
    let before = put_all (take i ms) no_members in
    let alike : m.0.now ≡ key = (bytes_eq-Decides m.0.now key).0 same in
    sym (ap (λ x. get_member key (put_all x no_members)) all
    ∙ ap (get_member key) (put_all-append (take i ms) (m ∷ drop (i + 1) ms) no_members)
    ∙ none (put m.0.now (data_of_leaf m.1) before)
    ∙ ap (λ k. get_member key (put k (data_of_leaf m.1) before)) alike
    ∙ get_member-put key (data_of_leaf m.1) before)

-- ---- leaves

is_unsigned : (o : Option Num) (n : ℕ) → Some n ≡ option_and_then as_u64 o → o ≡ Some (unsigned n)
is_unsigned None n e = not_found n (sym e)
is_unsigned (Some (unsigned m)) n e = ap (λ x. Some (unsigned x)) (Some_inj m n (sym e))
is_unsigned (Some (negative z)) n e = not_found n (sym e)
is_unsigned (Some (float x)) n e = not_found n (sym e)

pub reads_null : (new : List Token) → Reads 0 (Token.null ∷ new) null new
reads_null new = record { j = json.null; spelled = refl; shallow = omega arith; is = refl }

pub reads_truth : (truth : Bool) (new : List Token) → Reads 0 (Token.boolean truth ∷ new) (boolean truth) new
reads_truth truth new = record { j = json.boolean truth; spelled = refl; shallow = omega arith; is = refl }

pub reads_text : (text : List ℕ) (new : List Token) → Reads 0 (Token.string text ∷ new) (string text) new
reads_text text new = record { j = json.string text; spelled = refl; shallow = omega arith; is = refl }

pub reads_number : (text : List ℕ) (n : ℕ) (new : List Token) → Some n ≡ option_and_then as_u64 (number_of text)
    → Reads 0 (Token.number text ∷ new) (number (unsigned n)) new
reads_number text n new e = record {
  j = json.number text;
  spelled = refl;
  shallow = omega arith;
  is = ap (option_map number) (is_unsigned (number_of text) n e);
}

-- ---- fewer tokens are left

some_tokens : (j : json.Json) → 0 < length (tree.json_tokens j)
some_tokens json.null = omega arith
some_tokens (json.boolean b) = omega arith
some_tokens (json.number s) = omega arith
some_tokens (json.string s) = omega arith
some_tokens (json.array js) = omega arith
some_tokens (json.object ms) = omega arith

some_of_members : (ms : json.Members) → 0 < length (tree.members_tokens ms)
some_of_members json.no_members = omega arith
some_of_members (json.member k j ms) = omega arith

pub fewer : (room : ℕ) (old : List Token) (d : Data) (new : List Token) → Reads room old d new → length new < length old
fewer room old d new r =
    let some = some_tokens r.j in
    let all : length old ≡ length (tree.json_tokens r.j) + length new =
    ap length r.spelled ∙ length-append (tree.json_tokens r.j) new in
    omega (arith, some, all)

pub fewer_members : (room : ℕ) (old : List Token) (found all : Members) (new : List Token) → ReadsMembers room old found all new
    → length new < length old
fewer_members room old found all new r =
    let some = some_of_members r.ms in
    let sum : length old ≡ length (tree.members_tokens r.ms) + length new =
    ap length r.spelled ∙ length-append (tree.members_tokens r.ms) new in
    omega (arith, some, sum)

-- ---- members

-- a key is next
pub key_next : (old : List Token) (k : List ℕ) (new : List Token) → json.read_key old ≡ Some (Some k, new) → old ≡ Token.key k ∷ new
key_next [] k new e = not_found _ e
key_next (Token.begin_object ∷ ts) k new e = not_found _ e
key_next (Token.end_object ∷ ts) k new e = absurd (not_found k (ap (λ p. p.0) (Some_inj _ _ e)))
key_next (Token.begin_array ∷ ts) k new e = not_found _ e
key_next (Token.end_array ∷ ts) k new e = not_found _ e
key_next (Token.key s ∷ ts) k new e =
    let same = Some_inj (Some s, ts) (Some k, new) e in
    ap (λ x. Token.key x ∷ ts) (Some_inj s k (ap (λ p. p.0) same)) ∙ ap (λ x. Token.key k ∷ x) (ap (λ p. p.1) same)
key_next (Token.string s ∷ ts) k new e = not_found _ e
key_next (Token.number s ∷ ts) k new e = not_found _ e
key_next (Token.boolean b ∷ ts) k new e = not_found _ e
key_next (Token.null ∷ ts) k new e = not_found _ e
key_next (Token.bad ∷ ts) k new e = not_found _ e

-- no key is next
pub end_next : (old new : List Token) → json.read_key old ≡ Some (None, new) → old ≡ Token.end_object ∷ new
end_next [] new e = not_found _ e
end_next (Token.begin_object ∷ ts) new e = not_found _ e
end_next (Token.end_object ∷ ts) new e = ap (λ p. Token.end_object ∷ p.1) (Some_inj (None, ts) (None, new) e)
end_next (Token.begin_array ∷ ts) new e = not_found _ e
end_next (Token.end_array ∷ ts) new e = not_found _ e
end_next (Token.key s ∷ ts) new e = absurd (not_found s (sym (ap (λ p. p.0) (Some_inj _ _ e))))
end_next (Token.string s ∷ ts) new e = not_found _ e
end_next (Token.number s ∷ ts) new e = not_found _ e
end_next (Token.boolean b ∷ ts) new e = not_found _ e
end_next (Token.null ∷ ts) new e = not_found _ e
end_next (Token.bad ∷ ts) new e = not_found _ e

pub no_member_more : (room : ℕ) (old new : List Token) (found : Members) → old ≡ Token.end_object ∷ new
    → ReadsMembers room old found found new
no_member_more room old new found e = record { ms = json.no_members; spelled = e; shallow = omega arith; are = refl }

pub one_member_more : (room : ℕ) (k : List ℕ) (d : Data) (old behind mid new : List Token) (found all : Members)
    → old ≡ Token.key k ∷ behind → Reads room behind d mid → ReadsMembers room mid (put k d found) all new
    → ReadsMembers room old found all new
one_member_more room k d old behind mid new found all e r more =
    let one = r.shallow in
    let others = more.shallow in
    record {
      ms = json.member k r.j more.ms;
      spelled = e ∙ ap (λ ts. Token.key k ∷ ts) (r.spelled ∙ ap (λ ts. tree.json_tokens r.j ++ ts) more.spelled
          ∙ sym (append_assoc (tree.json_tokens r.j) (tree.members_tokens more.ms) new));
      shallow = omega (arith, one, others);
      are = ap (option_and_then (λ x. of_members more.ms (put k x found))) r.is ∙ more.are;
    }

-- a leaf more among members
pub one_leaf_more : (ms ns : List (Bor (List ℕ) × Leaf)) (k : Bor (List ℕ)) (leaf : Leaf) (old behind mid : List Token)
    → ns ≡ ms ++ (k, leaf) ∷ [] → old ≡ Token.key k.now ∷ behind → Reads 0 behind (data_of_leaf leaf) mid
    → (all : Members) (new : List Token) → ReadsMembers 0 mid (put_all ns no_members) all new
    → ReadsMembers 0 old (put_all ms no_members) all new
one_leaf_more ms ns k leaf old behind mid grows e r all new h =
    one_member_more 0 k.now (data_of_leaf leaf) old behind mid new (put_all ms no_members) all e r
    (subst (λ found. ReadsMembers 0 mid found all new)
    (ap (λ x. put_all x no_members) grows ∙ put_all-append ms ((k, leaf) ∷ []) no_members) h)

-- ---- objects, and arrays of step objects

pub reads_object : (room : ℕ) (old behind new : List Token) (all : Members) → old ≡ Token.begin_object ∷ behind
    → ReadsMembers room behind no_members all new → Reads (room + 1) old (object all) new
reads_object room old behind new all e h =
    let inside = h.shallow in
    record {
      j = json.object h.ms;
      spelled = e ∙ ap (λ ts. Token.begin_object ∷ ts) h.spelled;
      shallow = omega (arith, inside);
      is = ap (option_map object) h.are;
    }

pub no_step_more : (old new : List Token) → old ≡ Token.end_array ∷ new → ReadsSteps old [] new
no_step_more old new e =
    record { js = json.no_items; spelled = e; shallow = omega arith; steps = no_items; are = refl; asked = refl }

pub one_step_more : (old mid new : List Token) (d : Data) (a : Action) (more : List Action) → Reads 1 old d mid
    → Some a ≡ action_of d → ReadsSteps mid more new → ReadsSteps old (a ∷ more) new
one_step_more old mid new d a more r asks h =
    let one = r.shallow in
    let others = h.shallow in
    record {
      js = json.item r.j h.js;
      spelled = r.spelled ∙ ap (λ ts. tree.json_tokens r.j ++ ts) h.spelled
          ∙ sym (append_assoc (tree.json_tokens r.j) (tree.items_tokens h.js) new);
      shallow = omega (arith, one, others);
      steps = item d h.steps;
      are = rw (r.is, h.are) refl;
      asked = rw (h.asked, ← asks) refl;
    }

pub reads_steps : (old behind new : List Token) (actions : List Action) → old ≡ Token.begin_array ∷ behind
    → ReadsSteps behind actions new
    → (steps : Items) × Reads 2 old (array steps) new × (map action_of (list_of_items steps) ≡ map Some actions)
reads_steps old behind new actions e h =
    let inside = h.shallow in (
      h.steps,
      record {
        j = json.array h.js;
        spelled = e ∙ ap (λ ts. Token.begin_array ∷ ts) h.spelled;
        shallow = omega (arith, inside);
        is = ap (option_map array) h.are;
      },
      h.asked,
    )

-- a value may nest deeper
pub deeper : (room more : ℕ) (old new : List Token) (d : Data) → room ≤ more → Reads room old d new → Reads more old d new
deeper room more old new d h r =
    let shallow = r.shallow in
    record { j = r.j; spelled = r.spelled; shallow = omega (arith, h, shallow); is = r.is }

-- ---- a whole text

pub text_read : (text : List ℕ) (d : Data) (new : List Token) → Reads max_depth (tokens text) d new → new ≡ [] → read text ≡ Some d
text_read text d new r none =
    ap (λ o. option_and_then of_json (option_and_then (λ p. json.if_last p.0 p.1) o))
    (ap (json.value max_depth) (r.spelled ∙ ap (λ ts. tree.json_tokens r.j ++ ts) none)
    ∙ value-json_tokens r.j max_depth [] r.shallow) ∙ r.is

-- ---- the keys of a document

pub no_parts : HasParts no_members None None None
no_parts = record { caps_are = tt; capacity_is = tt; asked = tt }

apart : (q k : List ℕ) → bytes_eq q k ≡ false → q ≡ k → ⊥
apart q k other e = true≢false (sym ((bytes_eq-Decides q k).1 e) ∙ other)

abbrev CapsAre : Members → Option Caps → Type 0
CapsAre found caps = IfSome caps (λ c. option_and_then caps_of (get_member (codes "caps") found) ≡ Some c)

abbrev CapacityIs : Members → Option ℕ → Type 0
CapacityIs found capacity =
    IfSome capacity (λ n. whole_of (2 ^ 64) (codes "capacity") (object found) ≡ Some n)

abbrev AreAsked : Members → Option (List Action) → Type 0
AreAsked found actions = IfSome actions (λ done. (steps : Items)
    × (option_and_then as_array (get_member (codes "steps") found) ≡ Some steps)
    × (map action_of (list_of_items steps) ≡ map Some done))

caps_kept : (k : List ℕ) (d : Data) (found : Members) (caps : Option Caps) → (codes "caps" ≡ k → ⊥)
    → CapsAre found caps → CapsAre (put k d found) caps
caps_kept k d found None other h = tt
caps_kept k d found (Some c) other h =
    ap (option_and_then caps_of) (get_member-put_other (codes "caps") k d found other) ∙ h

capacity_kept : (k : List ℕ) (d : Data) (found : Members) (capacity : Option ℕ) → (codes "capacity" ≡ k → ⊥)
    → CapacityIs found capacity → CapacityIs (put k d found) capacity
capacity_kept k d found None other h = tt
capacity_kept k d found (Some n) other h =
    ap (λ o. option_and_then (below_limit (2 ^ 64)) (option_and_then as_u64 (option_and_then as_number o)))
    (get_member-put_other (codes "capacity") k d found other) ∙ h

asked_kept : (k : List ℕ) (d : Data) (found : Members) (actions : Option (List Action)) → (codes "steps" ≡ k → ⊥)
    → AreAsked found actions → AreAsked (put k d found) actions
asked_kept k d found None other h = tt
asked_kept k d found (Some done) other (steps, is, asks) = (
  steps,
  ap (option_and_then as_array) (get_member-put_other (codes "steps") k d found other) ∙ is,
  asks,
)

-- another key
pub with_other : (k : List ℕ) (d : Data) (found : Members) (caps : Option Caps) (capacity : Option ℕ)
    (actions : Option (List Action)) → (codes "caps" ≡ k → ⊥) → (codes "capacity" ≡ k → ⊥)
    → (codes "steps" ≡ k → ⊥) → HasParts found caps capacity actions
    → HasParts (put k d found) caps capacity actions
with_other k d found caps capacity actions a b e h = record {
  caps_are = caps_kept k d found caps a h.caps_are;
  capacity_is = capacity_kept k d found capacity b h.capacity_is;
  asked = asked_kept k d found actions e h.asked;
}

pub with_caps : (k : List ℕ) (d : Data) (found : Members) (caps : Caps) (before : Option Caps) (capacity : Option ℕ)
    (actions : Option (List Action)) → k ≡ codes "caps" → caps_of d ≡ Some caps → HasParts found before capacity actions
    → HasParts (put k d found) (Some caps) capacity actions
with_caps k d found caps before capacity actions same is h = record {
  caps_are = ap (λ x. option_and_then caps_of (get_member (codes "caps") (put x d found))) same
      ∙ ap (option_and_then caps_of) (get_member-put (codes "caps") d found) ∙ is;
  capacity_is = capacity_kept k d found capacity (apart (codes "capacity") k (ap (bytes_eq (codes "capacity")) same)) h.capacity_is;
  asked = asked_kept k d found actions (apart (codes "steps") k (ap (bytes_eq (codes "steps")) same)) h.asked;
}

below : (n : ℕ) → n < 2 ^ 64 → below_limit (2 ^ 64) n ≡ Some n
below n small = rw (lt-ltb _ _ small) refl

pub with_capacity : (k : List ℕ) (n : ℕ) (found : Members) (caps : Option Caps) (before : Option ℕ)
    (actions : Option (List Action)) → k ≡ codes "capacity" → n < 2 ^ 64 → HasParts found caps before actions
    → HasParts (put k (number (unsigned n)) found) caps (Some n) actions
with_capacity k n found caps before actions same small h = record {
  caps_are = caps_kept k (number (unsigned n)) found caps (apart (codes "caps") k (ap (bytes_eq (codes "caps")) same)) h.caps_are;
  capacity_is =
      ap (λ x. whole_of (2 ^ 64) (codes "capacity") (object (put x (number (unsigned n)) found))) same
      ∙ ap (λ o. option_and_then (below_limit (2 ^ 64)) (option_and_then as_u64 (option_and_then as_number o)))
      (get_member-put (codes "capacity") (number (unsigned n)) found)
      ∙ below n small;
  asked = asked_kept k (number (unsigned n)) found actions (apart (codes "steps") k (ap (bytes_eq (codes "steps")) same)) h.asked;
}

pub with_steps : (k : List ℕ) (steps : Items) (found : Members) (caps : Option Caps) (capacity : Option ℕ)
    (before : Option (List Action)) (actions : List Action) → k ≡ codes "steps"
    → map action_of (list_of_items steps) ≡ map Some actions → HasParts found caps capacity before
    → HasParts (put k (array steps) found) caps capacity (Some actions)
with_steps k steps found caps capacity before actions same asks h = record {
  caps_are = caps_kept k (array steps) found caps (apart (codes "caps") k (ap (bytes_eq (codes "caps")) same)) h.caps_are;
  capacity_is = capacity_kept k (array steps) found capacity (apart (codes "capacity") k (ap (bytes_eq (codes "capacity")) same)) h.capacity_is;
  asked = (
    steps,
    ap (λ x. option_and_then as_array (get_member (codes "steps") (put x (array steps) found))) same
        ∙ ap (option_and_then as_array) (get_member-put (codes "steps") (array steps) found),
    asks,
  );
}

-- all three
pub script_of : (all : Members) (caps : Caps) (capacity : ℕ) (actions : List Action)
    → HasParts all (Some caps) (Some capacity) (Some actions) → IsScript (object all) caps capacity actions
script_of all caps capacity actions h =
    let (steps, are, asks) = h.asked in
    (steps, rw (h.caps_are, h.capacity_is, are) refl, asks)

-- ---- what may have been read

pub caps_read : (old new : List Token) (d : Data) (o : Option Caps) → o ≡ caps_of d → Reads 1 old d new
    → IfSome o (λ caps. (e : Data) × Reads 1 old e new × (caps_of e ≡ Some caps))
caps_read old new d None is r = tt
caps_read old new d (Some caps) is r = (d, r, sym is)

abbrev pub items_of : Vec Action Global → List Action
items_of v = v.items

pub list_read : {E : Type 0} (old behind new : List Token) (r : Result (Option (Vec Action Global)) E)
    → old ≡ Token.begin_array ∷ behind → IfOk r (λ o. IfSome o (λ v. ReadsSteps behind (items_of v) new))
    → IfOk r (λ o. IfSome o (λ v. (steps : Items) × Reads 2 old (array steps) new
    × (map action_of (list_of_items steps) ≡ map Some (items_of v))))
list_read old behind new (Ok None) e h = tt
list_read old behind new (Ok (Some v)) e h = reads_steps old behind new (items_of v) e h
list_read old behind new (Err x) e h = tt

pub caps_part : (key : List ℕ) (old new : List Token) (before o : Option Caps) (capacity : Option ℕ)
    (actions : Option (List Action)) → key ≡ codes "caps"
    → IfSome o (λ caps. (e : Data) × Reads 1 old e new × (caps_of e ≡ Some caps)) → is_some o ≡ true
    → (d : Data) × Reads 2 old d new × ((found : Members) → HasParts found before capacity actions
    → HasParts (put key d found) o capacity actions)
caps_part key old new before None capacity actions same h some = absurd (true≢false (sym some))
caps_part key old new before (Some caps) capacity actions same (d, r, is) some = (
  d,
  deeper 1 2 old new d (omega arith) r,
  λ found parts. with_caps key d found caps before capacity actions same is parts,
)

pub capacity_part : (key : List ℕ) (old new : List Token) (caps : Option Caps) (before o : Option ℕ)
    (actions : Option (List Action)) → key ≡ codes "capacity"
    → IfSome o (λ n. Reads 0 old (number (unsigned n)) new) → IfSome o (λ n. n < 2 ^ 64) → is_some o ≡ true
    → (d : Data) × Reads 2 old d new × ((found : Members) → HasParts found caps before actions
    → HasParts (put key d found) caps o actions)
capacity_part key old new caps before None actions same h small some = absurd (true≢false (sym some))
capacity_part key old new caps before (Some n) actions same r small some = (
  number (unsigned n),
  deeper 0 2 old new (number (unsigned n)) (omega arith) r,
  λ found parts. with_capacity key n found caps before actions same small parts,
)

pub steps_part : (key : List ℕ) (old new : List Token) (caps : Option Caps)
    (capacity : Option ℕ) (before : Option (List Action)) (o : Option (Vec Action Global)) → key ≡ codes "steps"
    → IfSome o (λ v. (steps : Items) × Reads 2 old (array steps) new
    × (map action_of (list_of_items steps) ≡ map Some (items_of v))) → is_some o ≡ true
    → (d : Data) × Reads 2 old d new × ((found : Members) → HasParts found caps capacity before
    → HasParts (put key d found) caps capacity (option_map items_of o))
steps_part key old new caps capacity before None same h some = absurd (true≢false (sym some))
steps_part key old new caps capacity before (Some v) same (steps, r, asks) some = (
  array steps,
  r,
  λ found parts. with_steps key steps found caps capacity before (items_of v) same asks parts,
)

pub other_part : (key : List ℕ) (old new : List Token) (caps : Option Caps) (capacity : Option ℕ)
    (actions : Option (List Action)) (o : Option Leaf) → (codes "caps" ≡ key → ⊥)
    → (codes "capacity" ≡ key → ⊥) → (codes "steps" ≡ key → ⊥)
    → IfSome o (λ leaf. Reads 0 old (data_of_leaf leaf) new) → is_some o ≡ true
    → (d : Data) × Reads 2 old d new × ((found : Members) → HasParts found caps capacity actions
    → HasParts (put key d found) caps capacity actions)
other_part key old new caps capacity actions None a b e h some = absurd (true≢false (sym some))
other_part key old new caps capacity actions (Some leaf) a b e r some = (
  data_of_leaf leaf,
  deeper 0 2 old new (data_of_leaf leaf) (omega arith) r,
  λ found parts. with_other key (data_of_leaf leaf) found caps capacity actions a b e parts,
)

-- a document
pub whole_read : (text : List ℕ) (behind new : List Token) (all : Members) (caps : Caps) (capacity : ℕ) (actions : List Action)
    → tokens text ≡ Token.begin_object ∷ behind → ReadsMembers 2 behind no_members all new → new ≡ []
    → HasParts all (Some caps) (Some capacity) (Some actions)
    → (d : Data) × (read text ≡ Some d) × IsScript d caps capacity actions
whole_read text behind new all caps capacity actions e r none parts = (
  object all,
  text_read text (object all) new (deeper (2 + 1) 127 (tokens text) new (object all) (omega arith)
      (reads_object 2 (tokens text) behind new all e r)) none,
  script_of all caps capacity actions parts,
)

-- ---- what a read gives

pub key_read : (old new : List Token) (o : Option (Bor (List ℕ))) (k : Bor (List ℕ))
    → json.read_key old ≡ Some (option_map (λ (s : Bor (List ℕ)). s.now) o, new) → o ≡ Some k → old ≡ Token.key k.now ∷ new
key_read old new o k e is = key_next old k.now new (e ∙ ap (λ x. Some (option_map (λ (s : Bor (List ℕ)). s.now) x, new)) is)

pub end_read : (old new : List Token) (o : Option (Bor (List ℕ)))
    → json.read_key old ≡ Some (option_map (λ (s : Bor (List ℕ)). s.now) o, new) → o ≡ None → old ≡ Token.end_object ∷ new
end_read old new o e is = end_next old new (e ∙ ap (λ x. Some (option_map (λ (s : Bor (List ℕ)). s.now) x, new)) is)

pub token_read : (old new : List Token) (t u : written.Token) → old ≡ token_of t ∷ new → t ≡ u → old ≡ token_of u ∷ new
token_read old new t u e is = e ∙ ap (λ x. token_of x ∷ new) is

pub none_left : {T : Type 0} (old new : List Token) (P : T → Type 0) (o : Option T) → is_some o ≡ false
    → MatchOption o ((old ≡ []) × (new ≡ [])) P → old ≡ []
none_left old new P None e h = h.0
none_left old new P (Some t) e h = absurd (true≢false e)

pub script_read : (text : List ℕ) (behind new : List Token) (all : Members) (caps : Option Caps) (capacity : Option ℕ)
    (actions : Option (List Action)) (o : Option Script) → tokens text ≡ Token.begin_object ∷ behind
    → ReadsMembers 2 behind no_members all new → new ≡ [] → HasParts all caps capacity actions
    → IfSome o (λ s. (caps ≡ Some s.caps) × (capacity ≡ Some s.capacity) × (actions ≡ Some s.actions.items))
    → IfSome o (λ s. (d : Data) × (read text ≡ Some d) × IsScript d s.caps s.capacity s.actions.items)
script_read text behind new all caps capacity actions None e r none parts h = tt
script_read text behind new all caps capacity actions (Some s) e r none parts (a, b, f) =
    whole_read text behind new all s.caps s.capacity s.actions.items e r none
    (subst (λ x. HasParts all (Some s.caps) (Some s.capacity) x) f
    (subst (λ x. HasParts all (Some s.caps) x actions) b (subst (λ x. HasParts all x capacity actions) a parts)))
