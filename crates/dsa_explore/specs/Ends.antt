-- How runs can end: in worlds from which no move leads on.
use Rattle.std.specs.Prelude.{◌≡◌, ℕ, ◌≤◌, ◌⊎◌, zero, suc, Bool, true, false, cond, nat_lt, List, [], ◌∷◌}
use Rattle.std.specs.Prelude.{length, slice_get, Some}
use Rattle.dsa_base.specs.Lists.{In}
use Rattle.dsa_store.specs.Content.{all_held}
use Rattle.dsa_book.specs.{declared.answer.Reply.{Reply}, State.{State}}
use Rattle.dsa_keys.specs.Parties.{Parties, World, Stored, HaveEqualKeys, world_after}
use Rattle.dsa_parties.specs.declared.{places.Move.{Move}, script.Script.{Script}}
use Rattle.dsa_parties.specs.{Standing.{Standing}, Offers.{parties_of}}
use Rattle.dsa_explore.specs.declared.{found.Ending.{Ending}, stored.Try.{Try}}
use Rattle.dsa_explore.specs.{Search.{Space, IsReached, queue_taken_from}, Trying.{IsThere}, Asks.{asks_left}}

-- ---- worlds

-- each move from the world leads to a world with the same key: no party can get on
abbrev pub IsLastWorld : {P M : Type 0} → Parties P M → World P → Type 0
IsLastWorld {P} {M} parties w = (w' : World P) (move : M) (reply : Reply) → world_after parties w move reply ≡ Some w'
    → HaveEqualKeys w' w

-- an entry is held
abbrev pub holds_entries : State → Bool
holds_entries s = nat_lt 0 (length (all_held s.work.content))

-- ---- endings

-- the ending says what is left in this world, and whether entries are held there
pub record IsEndingOf (script : Script) (ending : Ending) (w : World Standing) : Type 0 where
  pub left : ending.left.items ≡ asks_left script w.places
  pub holds : ending.holds_entries ≡ holds_entries w.state

-- a run can end so, after so many moves
pub record CanEnd (script : Script) (first : World Standing) (ending : Ending) : Type 0 where
  pub world : World Standing
  pub reached : IsReached (parties_of script) first ending.steps world
  pub end : IsLastWorld (parties_of script) world
  pub is : IsEndingOf script ending world

-- the ending of this world is listed, with so many moves at most
pub record HasEnding (script : Script) (endings : List Ending) (steps : ℕ) (w : World Standing) : Type 0 where
  pub ending : Ending
  pub within : In ending endings
  pub is : IsEndingOf script ending w
  pub soon : ending.steps ≤ steps

-- the same is left, and entries are held in both or in neither
pub record AreLikeEndings (ending other : Ending) : Type 0 where
  pub left : ending.left.items ≡ other.left.items
  pub holds : ending.holds_entries ≡ other.holds_entries

-- no two of them are alike
abbrev pub AreApart : List Ending → Type 0
AreApart endings = (i j : ℕ) (ending other : Ending) → slice_get endings i ≡ Some ending
    → slice_get endings j ≡ Some other → AreLikeEndings ending other → i ≡ j

-- each ending can come as it says, and each run that ends has its ending here, none of which is there twice
pub record AreEndings (script : Script) (first : World Standing) (endings : List Ending) : Type 0 where
  pub once : AreApart endings
  pub sound : (ending : Ending) → In ending endings → CanEnd script first ending
  pub complete : (steps : ℕ) (w : World Standing) → IsReached (parties_of script) first steps w
      → IsLastWorld (parties_of script) w → HasEnding script endings steps w

-- ---- how they are found

-- the try leads from one world to the other
pub record IsLed {P : Type 0} (parties : Parties P Move) (w : World P) (tried : Try) (w' : World P) : Type 0 where
  pub reply : Reply
  pub leads : world_after parties w tried.by reply ≡ Some w'
  pub fits : (q p : ℕ) → tried.queue ≡ Some q → queue_taken_from reply ≡ Some p → q ≡ p

-- the try leads back to the stored world
pub record LeadsBack {P : Type 0} (space : Space P Move) (x : Stored P) (tried : Try) : Type 0 where
  pub from : World P
  pub to : World P
  pub there : IsThere space x from
  pub led : IsLed space.parties from tried to
  pub back : HaveEqualKeys to x.world

-- a move leads on from the stored world
pub record LeadsOn {P : Type 0} (space : Space P Move) (x : Stored P) : Type 0 where
  pub from : World P
  pub to : World P
  pub tried : Try
  pub there : IsThere space x from
  pub led : IsLed space.parties from tried to
  pub on : HaveEqualKeys to x.world → ⊥

-- the try cannot be made from the stored world
abbrev pub LeadsNowhere : {P : Type 0} → Space P Move → Stored P → Try → Type 0
LeadsNowhere {P} space x tried = (v : World P) (reply : Reply)
    → world_after space.parties x.world tried.by reply ≡ Some v → queue_taken_from reply ≡ tried.queue → ⊥

-- each try leads back or nowhere, or one leads on
abbrev pub AreDecided : {P : Type 0} → Space P Move → Stored P → List Try → Bool → Type 0
AreDecided space x tries true = (tried : Try) → In tried tries → LeadsBack space x tried ⊎ LeadsNowhere space x tried
AreDecided space x tries false = LeadsOn space x

-- it is so, or it is not
abbrev pub IsDecided : Type 0 → Bool → Type 0
IsDecided A true = A
IsDecided A false = A → ⊥

-- an ending like this one is listed, with no more moves
pub record HasAlike (endings : List Ending) (ending : Ending) : Type 0 where
  pub other : Ending
  pub within : In other endings
  pub alike : AreLikeEndings ending other
  pub soon : other.steps ≤ ending.steps

-- the ending at this place has the fewer moves of its own and these
abbrev pub with_fewer_steps : List Ending → ℕ → ℕ → List Ending
with_fewer_steps [] i steps = []
with_fewer_steps (e ∷ es) zero steps = record e { steps = cond (nat_lt steps e.steps) steps e.steps } ∷ es
with_fewer_steps (e ∷ es) (suc i) steps = e ∷ with_fewer_steps es i steps

-- the ending is listed now, and all that were: those alike are one, with the fewest moves, and none comes twice
pub record IsEndingNoted (old : List Ending) (ending : Ending) (new : List Ending) : Type 0 where
  pub each : (e : Ending) → In e new → In e old ⊎ (AreLikeEndings e ending × (e.steps ≡ ending.steps))
  pub kept : (e : Ending) → In e old → HasAlike new e
  pub has : HasAlike new ending
  pub once : AreApart old → AreApart new

-- the world is an end, and its ending was noted
pub record IsLastWorldNoted (script : Script) (old : List Ending) (x : Stored Standing) (new : List Ending) : Type 0
  where
    pub ending : Ending
    pub end : IsLastWorld (parties_of script) x.world
    pub is : IsEndingOf script ending x.world
    pub steps : ending.steps ≡ x.level
    pub noted : IsEndingNoted old ending new

-- what is noted of a stored world: its ending, or nothing where it is no end
abbrev pub IsWorldNoted : Script → List Ending → Stored Standing → List Ending → Type 0
IsWorldNoted script old x new = IsLastWorldNoted script old x new ⊎ ((old ≡ new) × (IsLastWorld (parties_of script)
    x.world → ⊥))

-- the stored world is an end, and this is its ending
pub record IsLastWorldAt (script : Script) (table : List (Stored Standing)) (ending : Ending) : Type 0 where
  pub at : Stored Standing
  pub within : In at table
  pub end : IsLastWorld (parties_of script) at.world
  pub is : IsEndingOf script ending at.world
  pub steps : ending.steps ≡ at.level

-- these are the endings of the stored worlds that are ends
pub record AreEndingsOf (script : Script) (table : List (Stored Standing)) (endings : List Ending) : Type 0 where
  pub once : AreApart endings
  pub sound : (ending : Ending) → In ending endings → IsLastWorldAt script table ending
  pub complete : (x : Stored Standing) → In x table → IsLastWorld (parties_of script) x.world
      → HasEnding script endings x.level x.world
