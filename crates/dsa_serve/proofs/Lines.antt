-- The lines of an input, with more bytes.
use Rattle.std.proofs.Common.{◌≡◌, ◌≢◌, ◌≤◌, ◌<◌, ◌+◌, ◌-◌, ℕ, List, [], ◌∷◌, ◌++◌, length, take}
use Rattle.std.proofs.Common.{drop, get_or}
use Rattle.std.proofs.Common.{refl, sym, ap, ◌∙◌, arith, append_assoc, append-nil, flat_map}
use Rattle.std.proofs.Common.{length-take, length-drop, subst, min, inl, inr}
use Rattle.std.proofs.Math.Seq.{take-append-add}
use Rattle.std.proofs.lemmas.{Bool.{eqb-true, cases_lt}, Grind.{flat_map-append}}
use Rattle.std.proofs.lemmas.List.{take_all, take_min, take_more, get_or-take, take-append-drop}
use Rattle.std.proofs.lemmas.List.{take-append-le}
use Rattle.std.proofs.lemmas.List.Elements.{All-append, All-from_get_or, All-nil, All-cons}
use Rattle.memchr.specs.Find.{Nowhere, Passes, is_byte}
use Rattle.dsa_scenario.specs.Lines.{line_of_text}
use Rattle.dsa_serve.specs.Input.{IsLine, AreLines}

-- bytes up to a place before which there is no line feed
pub before_feed : (bytes : List ℕ) (j : ℕ) → j ≤ length bytes → Nowhere (Passes (is_byte 10) bytes) 0 j
    → IsLine (take j bytes)
before_feed bytes j inside none =
    All-from_get_or (λ b. b ≢ 10) (take j bytes) 0 (λ i below.
    let low : i < j = omega (arith, below, length-take j bytes) in
    λ feed. none i (omega arith) low
    (let here : get_or bytes i 0 ≡ 10 = sym (get_or-take j bytes i 0 low) ∙ feed in rw here refl))

-- and all of them, where there is none
pub no_feed : (bytes : List ℕ) → Nowhere (Passes (is_byte 10) bytes) 0 (length bytes) → IsLine bytes
no_feed bytes none =
    let all : take (length bytes) bytes ≡ bytes = take_all (length bytes) bytes (omega arith) in
    subst IsLine all (before_feed bytes (length bytes) (omega arith) none)

-- the bytes up to the first line feed, and it
pub through_feed : (bytes : List ℕ) (j : ℕ) → j < length bytes → Passes (is_byte 10) bytes j
    → take (j + 1) bytes ≡ take j bytes ++ 10 ∷ []
through_feed bytes j inside feed =
    take_more bytes j 0 inside ∙ ap (λ b. take j bytes ++ b ∷ []) (eqb-true _ _ feed)

-- a rest of a line, and more of it
pub AreLines-rest : (bytes : List ℕ) (lines : List (List ℕ)) (rest piece : List ℕ) → IsLine piece
    → AreLines bytes lines rest → AreLines (bytes ++ piece) lines (rest ++ piece)
AreLines-rest bytes lines rest piece line h = record {
  joined = ap (λ l. l ++ piece) h.joined ∙ append_assoc (flat_map line_of_text lines) rest piece;
  each = h.each;
  last = All-append (λ b. b ≢ 10) rest piece h.last line;
}

-- a rest of a line that ends
pub AreLines-line : (bytes : List ℕ) (lines : List (List ℕ)) (rest piece : List ℕ) → IsLine piece
    → AreLines bytes lines rest → AreLines (bytes ++ piece ++ 10 ∷ []) (lines ++ (rest ++ piece) ∷ []) []
AreLines-line bytes lines rest piece line h =
    let whole = AreLines-rest bytes lines rest piece line h in
    let line_is : flat_map line_of_text ((rest ++ piece) ∷ []) ≡ line_of_text (rest ++ piece) =
    append-nil (line_of_text (rest ++ piece)) in
    record {
      joined = ap (λ l. l ++ 10 ∷ []) whole.joined
          ∙ append_assoc (flat_map line_of_text lines) (rest ++ piece) (10 ∷ [])
          ∙ ap (λ l. flat_map line_of_text lines ++ l) (sym line_is)
          ∙ sym (flat_map-append line_of_text lines ((rest ++ piece) ∷ []))
          ∙ sym (append-nil (flat_map line_of_text (lines ++ (rest ++ piece) ∷ [])));
      each = All-append IsLine lines ((rest ++ piece) ∷ []) h.each
          (All-cons IsLine (rest ++ piece) [] whole.last (All-nil IsLine));
      last = All-nil (λ b. b ≢ 10);
    }

-- what is kept of a rest, and of more of it
pub kept_more : (n : ℕ) (rest piece kept : List ℕ) (room : ℕ) → kept ≡ take n rest → room ≡ n - length kept
    → kept ++ take (min room (length piece)) piece ≡ take n (rest ++ piece)
kept_more n rest piece kept room is left =
    elim (cases_lt n (length rest)) [
      | inl long ↦
          let full : length kept ≡ n = ap length is ∙ omega (arith, length-take n rest, long) in
          let none : min room (length piece) ≡ 0 = omega (arith, left, full) in
          rw none (append-nil kept ∙ is ∙ sym (take-append-le n rest piece (omega (arith, long))))
      | inr short ↦
          let whole : kept ≡ rest = is ∙ take_all n rest short in
          let room_is : room ≡ n - length rest = left ∙ ap (λ l. n - length l) whole in
          let exact : n ≡ length rest + (n - length rest) = omega (arith, short) in
          let cut : take (min room (length piece)) piece ≡ take room piece = take_min room piece in
          ap (λ l. kept ++ l) (cut ∙ ap (λ m. take m piece) room_is)
          ∙ ap (λ l. l ++ take (n - length rest) piece) whole
          ∙ sym (ap (λ m. take m (rest ++ piece)) exact ∙ take-append-add rest piece (n - length rest))
    ]

-- what is read behind a line feed, and all before it
pub behind_feed : (bytes done rest : List ℕ) (j : ℕ) → j < length rest → Passes (is_byte 10) rest j
    → bytes ≡ done ++ rest
    → bytes ≡ (done ++ take j rest ++ 10 ∷ []) ++ take (length rest - (j + 1)) (drop (j + 1) rest)
behind_feed bytes done rest j inside feed is =
    let after = drop (j + 1) rest in
    let whole : take (length rest - (j + 1)) after ≡ after = take_all (length rest - (j + 1)) after
    (omega (arith, length-drop (j + 1) rest)) in
    let cut : rest ≡ (take j rest ++ 10 ∷ []) ++ after =
    sym (take-append-drop (j + 1) rest) ∙ ap (λ l. l ++ after) (through_feed rest j inside feed) in
    rw whole (is ∙ ap (λ l. done ++ l) cut ∙ sym (append_assoc done (take j rest ++ 10 ∷ []) after)
    ∙ ap (λ l. l ++ after) (sym (append_assoc done (take j rest) (10 ∷ []))))
