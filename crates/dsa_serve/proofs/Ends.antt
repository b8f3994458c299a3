-- Where a first document ends, in one piece more.
use Rattle.std.proofs.Common.{◌≡◌, ◌≢◌, ◌<◌, ◌≤◌, ◌+◌, ◌-◌, ◌==◌, ◌||◌, ℕ, Bool, true, false, not, List}
use Rattle.std.proofs.Common.{[], ◌∷◌, ◌++◌}
use Rattle.std.proofs.Common.{Some, get_or, length, take, drop, refl, sym, ap, ◌∙◌, arith}
use Rattle.std.proofs.Common.{append_assoc, subst}
use Rattle.std.proofs.lemmas.Bool.{and_parts, cond_both, eqb-true, ne_eqb}
use Rattle.std.specs.Prelude.{cond}
use Rattle.std.proofs.lemmas.Option.{get_or_from_slice_get, slice_get-get_or, slice_get_within}
use Rattle.std.proofs.lemmas.List.{take_more, take-append-drop, Elements.{All-head, All-tail}}
use Rattle.dsa_serve.specs.declared.ending.Inside.{Inside, TheVariants.{Brackets, Text, Escape}}
use Rattle.dsa_serve.specs.Input.{after_byte, depth_after, depth_of, ends_with, has_no_end}
use Rattle.dsa_serve.specs.Input.{inside_after, is_open}
use Rattle.dsa_serve.specs.Input.{IsEndAt, IsFront, IsLine, IsUnended}

-- what is open behind bytes and more of them
pub inside_more : (inside : Inside) (bytes more : List ℕ)
    → inside_after inside (bytes ++ more) ≡ inside_after (inside_after inside bytes) more
inside_more inside [] more = refl
inside_more inside (b ∷ bytes) more = inside_more (after_byte inside b) bytes more

-- a document that does not end in bytes, nor in more of them
pub no_end-append : (inside : Inside) (bytes more : List ℕ) → has_no_end inside bytes ≡ true
    → has_no_end (inside_after inside bytes) more ≡ true → has_no_end inside (bytes ++ more) ≡ true
no_end-append inside [] more h k = k
no_end-append inside (b ∷ bytes) more h k =
    let parts = and_parts (not (ends_with inside b)) (has_no_end (after_byte inside b) bytes) h in
    rw (parts.0, no_end-append (after_byte inside b) bytes more parts.1 k) refl

-- and in both it does in neither
pub no_end-parts : (inside : Inside) (bytes more : List ℕ) → has_no_end inside (bytes ++ more) ≡ true
    → (has_no_end inside bytes ≡ true) × (has_no_end (inside_after inside bytes) more ≡ true)
no_end-parts inside [] more h = (refl, h)
no_end-parts inside (b ∷ bytes) more h =
    let parts = and_parts (not (ends_with inside b)) (has_no_end (after_byte inside b) (bytes ++ more)) h in
    let rest = no_end-parts (after_byte inside b) bytes more parts.1 in
    (rw (parts.0, rest.0) refl, rest.1)

-- at a line feed that ends no document a bracket is open
open_there : (inside : Inside) (more : List ℕ) → has_no_end inside (10 ∷ more) ≡ true → is_open inside ≡ true
open_there inside more h =
    not_not (is_open inside)
    (and_parts (not (not (is_open inside))) (has_no_end (after_byte inside 10) more) h).0
  where
    not_not : (b : Bool) → not (not b) ≡ true → b ≡ true
    not_not true h = refl
    not_not false h = absurd cc

-- a line has no line feed at which a document ends
pub line_no_end : (inside : Inside) (bytes : List ℕ) → IsLine bytes → has_no_end inside bytes ≡ true
line_no_end inside [] line = refl
line_no_end inside (b ∷ bytes) line =
    rw (
      ne_eqb b 10 (All-head (λ byte. byte ≢ 10) b bytes line),
      line_no_end (after_byte inside b) bytes (All-tail (λ byte. byte ≢ 10) b bytes line),
    ) refl

-- no more brackets are open than bytes came
depth_by : (depth byte : ℕ) → depth_after depth byte ≤ depth + 1
depth_by depth byte =
    let closed = cond (byte == 93 || byte == 125) (depth - 1) depth in
    cond_both (byte == 91 || byte == 123) (depth + 1) closed (λ n. n ≤ depth + 1) (λ e. omega arith)
    (λ e. cond_both (byte == 93 || byte == 125) (depth - 1) depth (λ n. n ≤ depth + 1) (λ f. omega arith)
    (λ f. omega arith))

depth_once : (inside : Inside) (byte : ℕ) → depth_of (after_byte inside byte) ≤ depth_of inside + 1
depth_once (Brackets depth) byte =
    cond_both (byte == 34) (Text depth) (Brackets (depth_after depth byte)) (λ i. depth_of i ≤ depth + 1)
    (λ e. omega arith) (λ e. depth_by depth byte)
depth_once (Text depth) byte =
    let within = cond (byte == 92) (Escape depth) (Text depth) in
    cond_both (byte == 34) (Brackets depth) within (λ i. depth_of i ≤ depth + 1) (λ e. omega arith)
    (λ e. cond_both (byte == 92) (Escape depth) (Text depth) (λ i. depth_of i ≤ depth + 1) (λ f. omega arith)
    (λ f. omega arith))
depth_once (Escape depth) byte = omega arith

pub depth_within : (inside : Inside) (bytes : List ℕ)
    → depth_of (inside_after inside bytes) ≤ depth_of inside + length bytes
depth_within inside [] = omega arith
depth_within inside (b ∷ bytes) =
    omega (arith, depth_once inside b, depth_within (after_byte inside b) bytes)

-- one byte more of a piece
pub one_byte : (inside here : Inside) (piece : List ℕ) (i d : ℕ) → i < length piece
    → ends_with here (get_or piece i d) ≡ false
    → (has_no_end inside (take i piece) ≡ true) × (here ≡ inside_after inside (take i piece))
    → (has_no_end inside (take (i + 1) piece) ≡ true)
    × (after_byte here (get_or piece i d) ≡ inside_after inside (take (i + 1) piece))
one_byte inside here piece i d within goes before =
    let byte = get_or piece i d in
    let more : take (i + 1) piece ≡ take i piece ++ byte ∷ [] = take_more piece i d within in
    let last : has_no_end here (byte ∷ []) ≡ true = rw goes refl in (
      rw more (no_end-append inside (take i piece) (byte ∷ []) before.0
          (subst (λ h. has_no_end h (byte ∷ []) ≡ true) before.1 last)),
      rw more (ap (λ h. after_byte h byte) before.1 ∙ sym (inside_more inside (take i piece) (byte ∷ []))),
    )

-- and where it ends the document
pub ends_here : (inside here : Inside) (piece : List ℕ) (i d : ℕ) → i < length piece
    → ends_with here (get_or piece i d) ≡ true
    → (has_no_end inside (take i piece) ≡ true) × (here ≡ inside_after inside (take i piece))
    → IsEndAt inside piece i
ends_here inside here piece i d within ends before =
    let byte = get_or piece i d in
    let parts = and_parts (byte == 10) (not (is_open here)) ends in
    let feed : byte ≡ 10 = eqb-true byte 10 parts.0 in (
      before.0,
      subst (λ h. is_open h ≡ false) before.1 (shut (is_open here) parts.1),
      slice_get-get_or piece i d within ∙ ap Some feed,
    )
  where
    shut : (b : Bool) → not b ≡ true → b ≡ false
    shut true h = absurd cc
    shut false h = refl

-- a document that ends in a piece, and what comes behind it there
pub front_cut : (first piece : List ℕ) (at : ℕ) → IsUnended first
    → IsEndAt (inside_after (Brackets 0) first) piece at
    → IsUnended (first ++ take at piece)
    × IsFront false (first ++ piece) (first ++ take at piece) (drop (at + 1) piece)
front_cut first piece at so_far found =
    let within = slice_get_within piece at 10 found.2 in
    let through : take (at + 1) piece ≡ take at piece ++ 10 ∷ [] =
    take_more piece at 0 within
    ∙ ap (λ b. take at piece ++ b ∷ []) (get_or_from_slice_get piece at 10 0 found.2) in
    let cut : piece ≡ (take at piece ++ 10 ∷ []) ++ drop (at + 1) piece =
    sym (take-append-drop (at + 1) piece) ∙ ap (λ l. l ++ drop (at + 1) piece) through in (
      no_end-append (Brackets 0) first (take at piece) so_far found.0,
      (
        ap (λ l. first ++ l) cut ∙ sym (append_assoc first (take at piece ++ 10 ∷ []) (drop (at + 1) piece))
            ∙ ap (λ l. l ++ drop (at + 1) piece) (sym (append_assoc first (take at piece) (10 ∷ []))),
        ap is_open (inside_more (Brackets 0) first (take at piece)) ∙ found.1,
      ),
    )

-- a document that has not ended has no line feed in it that ends it
pub no_end_within : (input first behind : List ℕ) → IsUnended input → IsFront false input first behind → ⊥
no_end_within input first behind unended front =
    let whole : input ≡ first ++ 10 ∷ behind = front.0 ∙ append_assoc first (10 ∷ []) behind in
    let parts = no_end-parts (Brackets 0) first (10 ∷ behind) (rw whole at unended) in
    let gap = open_there (inside_after (Brackets 0) first) behind parts.1 in
    let closed = front.1 in
    absurd cc

-- bytes are a document and what comes behind it in one way
one_way_in : (inside : Inside) (first first' behind behind' : List ℕ) → has_no_end inside first ≡ true
    → has_no_end inside first' ≡ true → is_open (inside_after inside first) ≡ false
    → is_open (inside_after inside first') ≡ false → first ++ 10 ∷ behind ≡ first' ++ 10 ∷ behind'
    → (first ≡ first') × (behind ≡ behind')
one_way_in inside [] [] behind behind' h h' k k' e = (refl, cc)
one_way_in inside [] (b ∷ first') behind behind' h h' k k' e =
    let feed : 10 ≡ b = cc in
    let gap = open_there inside first' (rw (← feed) at h') in
    absurd cc
one_way_in inside (b ∷ first) [] behind behind' h h' k k' e =
    let feed : b ≡ 10 = cc in
    let gap = open_there inside first (rw feed at h) in
    absurd cc
one_way_in inside (b ∷ first) (b' ∷ first') behind behind' h h' k k' e =
    let heads : b ≡ b' = cc in
    let tails : first ++ 10 ∷ behind ≡ first' ++ 10 ∷ behind' = cc in
    let here = and_parts (not (ends_with inside b)) (has_no_end (after_byte inside b) first) h in
    let there = and_parts (not (ends_with inside b')) (has_no_end (after_byte inside b') first') h' in
    let it = one_way_in (after_byte inside b) first first' behind behind' here.1
    (rw (← heads) at there.1) k (rw (← heads) at k') tails in
    let same = it.0 in
    (cc, it.1)

pub one_document : (input first first' behind behind' : List ℕ) → IsUnended first → IsUnended first'
    → IsFront false input first behind → IsFront false input first' behind'
    → (first ≡ first') × (behind ≡ behind')
one_document input first first' behind behind' h h' front front' =
    one_way_in (Brackets 0) first first' behind behind' h h' front.1 front'.1
    (sym (append_assoc first (10 ∷ []) behind) ∙ sym front.0 ∙ front'.0
    ∙ append_assoc first' (10 ∷ []) behind')
