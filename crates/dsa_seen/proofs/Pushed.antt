-- Chains with one more string, and the room for it.
use Rattle.std.proofs.Common.{◌≡◌, ℕ, ◌+◌, ◌*◌, ◌<◌, ◌≤◌, List, [], ◌∷◌, ◌++◌, length, get_or, set, Contains, sym, subst, ◌∙◌, vec_capacity, arith}
use Rattle.std.proofs.Math.Nat.{mul-le-mul_right, mul_comm}
use Rattle.dsa_seen.specs.Table.{HasOneNumberEach}
use Rattle.dsa_seen.specs.declared.chains.Chains.{Chains}
use Rattle.dsa_seen.specs.Chains.{place_among, strings_in, strings_of, IsStoredByWidth, IsLinked, IsChained, HasRoomFor}
use Rattle.dsa_seen.proofs.Once.{once-push}
use Rattle.dsa_seen.proofs.Stored.{length-strings_in, strings_in-push, stored-push}
use Rattle.dsa_seen.proofs.Linked.{linked-push, place-within}

pub length-strings_of : (chains : Chains) → length (strings_of chains) ≡ length chains.lengths.items
length-strings_of chains = length-strings_in chains.width chains.stored.items chains.lengths.items

-- fewer strings need no more room
pub room-fewer : (chains : Chains) (most fewer : ℕ) → HasRoomFor chains most → fewer ≤ most
    → length chains.lengths.items ≤ fewer → HasRoomFor chains fewer
room-fewer chains most fewer room below within = record {
  few = omega (arith, room.few);
  within = within;
  bytes = let less : fewer * chains.width ≤ most * chains.width = mul-le-mul_right chains.width below in
      omega (arith, room.bytes);
  lengths = omega (arith, room.lengths);
  nexts = omega (arith, room.nexts);
}

-- there is room for a width
pub width-room : (chains : Chains) → IsChained chains → HasRoomFor chains (length (strings_of chains) + 1)
    → (length chains.lengths.items + 1) * chains.width ≤ vec_capacity chains.stored
width-room chains sound room = subst (λ k. (k + 1) * chains.width ≤ vec_capacity chains.stored)
    (length-strings_of chains) room.bytes

-- what is stored ends where the next width begins
pub next-width : (chains : Chains) → IsChained chains
    → length chains.stored.items + chains.width ≡ (length chains.lengths.items + 1) * chains.width
next-width chains sound = omega (arith, sound.stored.filled, mul_comm chains.width (length chains.lengths.items))

module _ (chains pushed : Chains) (bytes fill : List ℕ) (place : ℕ) (sound : IsChained chains)
    (new : ¬ (Contains (strings_of chains) bytes)) (at : place ≡ place_among (length chains.heads.items) bytes)
    (whole : length bytes + length fill ≡ chains.width) (width : pushed.width ≡ chains.width)
    (stored : pushed.stored.items ≡ chains.stored.items ++ (bytes ++ fill))
    (lengths : pushed.lengths.items ≡ chains.lengths.items ++ length bytes ∷ [])
    (nexts : pushed.nexts.items ≡ chains.nexts.items ++ get_or chains.heads.items place 0 ∷ [])
    (heads : pushed.heads.items ≡ set chains.heads.items place (length (strings_of chains) + 1)) where
  pub strings-push : strings_of pushed ≡ strings_of chains ++ bytes ∷ []
  strings-push = (λ j. strings_in (width j) (stored j) (lengths j))
      ∙ strings_in-push chains.width chains.stored.items chains.lengths.items bytes fill sound.stored

  pub sound-push : IsChained pushed
  sound-push = record {
    once = subst HasOneNumberEach (sym strings-push) (once-push (strings_of chains) bytes sound.once new);
    stored = subst (λ (all : ℕ × List ℕ × List ℕ). IsStoredByWidth all.0 all.1 all.2)
        (λ j. (sym width j, sym stored j, sym lengths j))
        (stored-push chains.width chains.stored.items chains.lengths.items bytes fill sound.stored whole);
    linked = subst (λ (all : List (List ℕ) × List ℕ × List ℕ). IsLinked all.0 all.1 all.2)
        (λ j. (sym strings-push j, sym heads j, sym nexts j))
        (linked-push (strings_of chains) chains.heads.items chains.nexts.items bytes place sound.linked at
        (subst (λ k. k < length chains.heads.items) (sym at)
        (place-within (length chains.heads.items) bytes sound.linked.some)));
  }
