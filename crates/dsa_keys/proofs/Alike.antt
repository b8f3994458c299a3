-- When two states are alike: list by list the same entries but for their names and cells, which compare alike where the
-- machine compares them. States are alike exactly where their keys are equal.
use Rattle.std.specs.Prelude.{◌≡◌, ℕ, ◌≤◌, false, List, [], ◌∷◌, Option, Some, None, option_map, ⊤}
use Rattle.dsa_base.specs.Lists.{In}
use Rattle.dsa_store.specs.Content.{HeldEntry, Content, all_held}
use Rattle.dsa_book.specs.{declared.note.{BatchNote.{BatchNote}, ActiveCommand.{ActiveCommand}}, State.{Work, State}}
use Rattle.dsa_admin.specs.Admin.{is_waited_for}
use Rattle.dsa_keys.specs.{Labels.{Labels, labelled_note}, Key.{labelled_entry, without_next_name, waits_as_drain}}

-- ---- lists that agree

-- the lists are as long, and the relation holds place by place
abbrev pub Both : {X Y : Type 0} → (X → Y → Type 0) → List X → List Y → Type 0
Both R [] [] = ⊤
Both R (x ∷ xs) (y ∷ ys) = R x y × Both R xs ys
Both R _ _ = ⊥

-- there is no value, or the relation holds
abbrev pub BothSome : {X Y : Type 0} → (X → Y → Type 0) → Option X → Option Y → Type 0
BothSome R None None = ⊤
BothSome R (Some x) (Some y) = R x y
BothSome R _ _ = ⊥

-- ---- entries

-- the entries are one by their labels
abbrev pub Same : Labels → Labels → HeldEntry → HeldEntry → Type 0
Same m n x y = labelled_entry m x ≡ labelled_entry n y

-- the same entry, not running
abbrev pub calm : HeldEntry → HeldEntry
calm pair = (pair.0, record pair.1 { running = false })

-- the notes are one by their labels
abbrev pub SameNote : Labels → Labels → Option BatchNote → Option BatchNote → Type 0
SameNote m n o p = option_map (labelled_note m) o ≡ option_map (labelled_note n) p

-- two held entries that are one by their labels, whether they run or not
pub record Pair (m n : Labels) (c d : Content) (x y : HeldEntry) : Type 0 where
  pub left : In x (all_held c)
  pub right : In y (all_held d)
  pub same : Same m n (calm x) (calm y)

-- each held Drain waits for the same entries
abbrev pub SameWaits : Labels → Labels → Content → Content → Type 0
SameWaits m n c d = (a x b y : HeldEntry) → Pair m n c d a b → Pair m n c d x y
    → waits_as_drain a.1 x.1 ≡ waits_as_drain b.1 y.1

-- the same command, issued when no more names were given than now, which waits for the same entries
pub record SameCommand (m n : Labels) (w v : Work) (a b : ActiveCommand) : Type 0 where
  pub command : a.command ≡ b.command
  pub left : a.mark ≤ w.setup.next_name
  pub right : b.mark ≤ v.setup.next_name
  pub entries : (x y : HeldEntry) → Pair m n w.content v.content x y → is_waited_for a x.1 ≡ is_waited_for b y.1

-- the same command is active, or none is
abbrev pub SameActive : Labels → Labels → Work → Work → Option ActiveCommand → Option ActiveCommand → Type 0
SameActive m n w v o p = BothSome (SameCommand m n w v) o p

-- ---- states

-- the same entries and notes by labels, and the same set-up; of names, cells and fates nothing
pub record Like (m n : Labels) (w v : Work) : Type 0 where
  pub setup : without_next_name w.setup ≡ without_next_name v.setup
  pub content : Both (Both (Same m n)) w.content v.content
  pub notes : Both (SameNote m n) w.notes v.notes

-- and names compare alike where the machine compares them
pub record Alike (m n : Labels) (s t : State) : Type 0 where
  pub work : Like m n s.work t.work
  pub waits : SameWaits m n s.work.content t.work.content
  pub active : SameActive m n s.work t.work s.active t.active

-- no two names up to the next one have one label
abbrev pub IsLabelledNext : Labels → State → Type 0
IsLabelledNext m s = (a b : ℕ) → a ≤ s.work.setup.next_name → b ≤ s.work.setup.next_name → m a ≡ m b → a ≡ b
