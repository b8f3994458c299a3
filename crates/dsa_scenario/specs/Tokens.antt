-- What is read from the tokens of a JSON text.
use Rattle.std.specs.Prelude.{◌≡◌, ℕ, ◌≤◌, List, [], ◌∷◌, ◌++◌, map, codes, Option, Some, IfSome, option_and_then, ◌^◌}
use Rattle.std.specs.Borrow.{Bor}
use Rattle.json.specs.Token.{Token}
use Rattle.json.specs.Json as json
use Rattle.json.specs.Tree as tree
use Rattle.serde_json.specs.Data.{Data, null, boolean, number, unsigned, string, object, Items, Members, no_members}
use Rattle.serde_json.specs.Data.{put}
use Rattle.serde_json.specs.{Read.{of_json, of_items, of_members}, Find.{get_member, as_array}}
use Rattle.dsa_regs.specs.declared.Caps.{Caps}
use Rattle.dsa_scenario.specs.declared.actions.Action.{Action}
use Rattle.dsa_scenario.specs.declared.members.{Leaf.{Leaf}, Part.{Part}}
use Rattle.dsa_scenario.specs.{Actions.{action_of, caps_of}, Fields.{whole_of}, Document.{list_of_items, head_of}}

-- the data that a leaf is
abbrev pub data_of_leaf : Leaf → Data
data_of_leaf Leaf.Null = null
data_of_leaf (Leaf.Truth truth) = boolean truth
data_of_leaf (Leaf.Number n) = number (unsigned n)
data_of_leaf (Leaf.Text text) = string text.now

-- the members that these keys make behind those found: of a key that comes twice the last counts
abbrev pub put_all : List (Bor (List ℕ) × Leaf) → Members → Members
put_all [] found = found
put_all (m ∷ ms) found = put_all ms (put m.0.now (data_of_leaf m.1) found)

-- the data that a part is
abbrev pub data_of_part : Part → Data
data_of_part (Part.Leaf leaf) = data_of_leaf leaf
data_of_part (Part.Members ms) = object (put_all ms.now no_members)

-- a value of these data, which nests no deeper than so, is first of the old tokens, and then come the new
pub record Reads (most : ℕ) (old : List Token) (d : Data) (new : List Token) : Type 0 where
  pub j : json.Json
  pub spelled : old ≡ tree.json_tokens j ++ new
  pub shallow : tree.depth j ≤ most
  pub is : of_json j ≡ Some d

-- the same of members and the brace behind them, which with those found make all
pub record ReadsMembers (most : ℕ) (old : List Token) (found all : Members) (new : List Token) : Type 0 where
  pub ms : json.Members
  pub spelled : old ≡ tree.members_tokens ms ++ new
  pub shallow : tree.members_depth ms ≤ most
  pub are : of_members ms found ≡ Some all

-- and of step objects and the bracket behind them, which ask these actions
pub record ReadsSteps (old : List Token) (actions : List Action) (new : List Token) : Type 0 where
  pub js : json.Items
  pub spelled : old ≡ tree.items_tokens js ++ new
  pub shallow : tree.items_depth js ≤ 1
  pub steps : Items
  pub are : of_items js ≡ Some steps
  pub asked : map action_of (list_of_items steps) ≡ map Some actions

-- the value has these caps, this capacity and step objects, which ask these actions
abbrev pub IsScript : Data → Caps → ℕ → List Action → Type 0
IsScript d caps capacity actions = (steps : Items) × (head_of d ≡ Some (caps, capacity, steps))
    × (map action_of (list_of_items steps) ≡ map Some actions)

-- the members have these caps, this capacity and these actions, as far as they are there
pub record HasParts (found : Members) (caps : Option Caps) (capacity : Option ℕ) (actions : Option (List Action))
    : Type 0 where
  pub caps_are : IfSome caps (λ c. option_and_then caps_of (get_member (codes "caps") found) ≡ Some c)
  pub capacity_is : IfSome capacity (λ n. whole_of (2 ^ 64) (codes "capacity") (object found) ≡ Some n)
  pub asked : IfSome actions (λ done. (steps : Items)
      × (option_and_then as_array (get_member (codes "steps") found) ≡ Some steps)
      × (map action_of (list_of_items steps) ≡ map Some done))
