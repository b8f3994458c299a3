-- Lines and what comes between them, for the worked rows. Each lemma speaks of bytes alone.
use Rattle.std.proofs.Common.{◌≡◌, ◌≢◌, ◌==◌, ℕ, true, false, not, List, [], ◌∷◌, ◌++◌, All, refl}
use Rattle.std.proofs.Common.{ap, sym, ◌∙◌, arith}
use Rattle.std.proofs.Common.{codes, get_or, length, length-append, append_assoc, flat_map}
use Rattle.std.specs.List.{list_all}
use Rattle.std.proofs.Math.Seq.{get_or-append_seam}
use Rattle.std.proofs.lemmas.List.{Elements.{All-head, All-tail}, Sums.{AllPass-from_list_all}}
use Rattle.dsa_scenario.specs.Lines.{line_of_text}
use Rattle.dsa_check.specs.OneStep.{joined_text}

-- bytes without a line feed
abbrev pub NoFeed : List ℕ → Type 0
NoFeed bytes = All (λ byte. byte ≢ 10) bytes

-- bytes that are no line feed, by computation
pub line_by_test : (bytes : List ℕ) → list_all (λ byte. not (byte == 10)) bytes ≡ true → NoFeed bytes
line_by_test bytes passes k d inside feed =
    let here = AllPass-from_list_all (λ byte. not (byte == 10)) bytes passes k d inside in
    let other : false ≡ true = rw feed at here in
    absurd cc

-- a line has no line feed in it
pub no_feed_behind : (input first behind : List ℕ) → NoFeed input → ¬ (input ≡ line_of_text first ++ behind)
no_feed_behind input first behind line front =
    let split : input ≡ first ++ 10 ∷ behind = front ∙ append_assoc first (10 ∷ []) behind in
    let feed = (rw split at line) (length first) 0 (omega (arith, length-append first (10 ∷ behind))) in
    feed (get_or-append_seam first 10 behind 0)

-- bytes with a line feed are a line and what comes behind in one way
pub one_way : (line line' behind behind' : List ℕ) → NoFeed line → NoFeed line'
    → line ++ 10 ∷ behind ≡ line' ++ 10 ∷ behind' → (line ≡ line') × (behind ≡ behind')
one_way [] [] behind behind' h h' e = (refl, cc)
one_way [] (b ∷ line') behind behind' h h' e =
    let feed : b ≡ 10 = cc in
    absurd (All-head (λ byte. byte ≢ 10) b line' h' feed)
one_way (b ∷ line) [] behind behind' h h' e =
    let feed : b ≡ 10 = cc in
    absurd (All-head (λ byte. byte ≢ 10) b line h feed)
one_way (b ∷ line) (b' ∷ line') behind behind' h h' e =
    let heads : b ≡ b' = cc in
    let tails : line ++ 10 ∷ behind ≡ line' ++ 10 ∷ behind' = cc in
    let it = one_way line line' behind behind' (All-tail (λ byte. byte ≢ 10) b line h)
    (All-tail (λ byte. byte ≢ 10) b' line' h') tails in
    let same = it.0 in
    (cc, it.1)

-- lines with what comes behind them, by the first of them
behind_first : (line : List ℕ) (lines : List (List ℕ)) (rest : List ℕ)
    → flat_map line_of_text (line ∷ lines) ++ rest ≡ line ++ 10 ∷ (flat_map line_of_text lines ++ rest)
behind_first line lines rest =
    append_assoc (line_of_text line) (flat_map line_of_text lines) rest
    ∙ append_assoc line (10 ∷ []) (flat_map line_of_text lines ++ rest)

-- bytes fall into lines, and the rest of one, in one way
pub one_division : (lines lines' : List (List ℕ)) (rest rest' : List ℕ) → All NoFeed lines → All NoFeed lines'
    → NoFeed rest → NoFeed rest' → flat_map line_of_text lines ++ rest ≡ flat_map line_of_text lines' ++ rest'
    → (lines ≡ lines') × (rest ≡ rest')
one_division [] [] rest rest' each each' last last' e = (refl, e)
one_division [] (l ∷ lines') rest rest' each each' last last' e =
    absurd (no_feed_behind rest l (flat_map line_of_text lines' ++ rest') last
    (e ∙ append_assoc (line_of_text l) (flat_map line_of_text lines') rest'))
one_division (l ∷ lines) [] rest rest' each each' last last' e =
    absurd (no_feed_behind rest' l (flat_map line_of_text lines ++ rest) last'
    (sym e ∙ append_assoc (line_of_text l) (flat_map line_of_text lines) rest))
one_division (l ∷ lines) (l' ∷ lines') rest rest' each each' last last' e =
    let it = one_way l l' (flat_map line_of_text lines ++ rest) (flat_map line_of_text lines' ++ rest')
    (All-head NoFeed l lines each) (All-head NoFeed l' lines' each')
    (sym (behind_first l lines rest) ∙ e ∙ behind_first l' lines' rest') in
    let more = one_division lines lines' rest rest' (All-tail NoFeed l lines each)
    (All-tail NoFeed l' lines' each') last last' it.1 in
    let first = it.0 in
    let others = more.0 in
    (cc, more.1)

-- no bytes are no lines
pub no_lines : (lines : List (List ℕ)) (rest : List ℕ) → [] ≡ flat_map line_of_text lines ++ rest
    → (lines ≡ []) × (rest ≡ [])
no_lines [] rest e = (refl, sym e)
no_lines (l ∷ lines) rest e = absurd (omega (
  arith,
  ap length e,
  length-append (flat_map line_of_text (l ∷ lines)) rest,
  length-append (line_of_text l) (flat_map line_of_text lines),
  length-append l (10 ∷ []),
))

-- texts that differ in a byte
pub apart_at : (i a b : ℕ) (text other : List ℕ) → get_or text i 0 ≡ a → get_or other i 0 ≡ b
    → a ≢ b → text ≢ other
apart_at i a b text other here there apart same = apart (sym here ∙ ap (λ l. get_or l i 0) same ∙ there)

-- a text is not told as a value that is no step
pub no_step_apart : (text : List ℕ) (texts : List (List ℕ)) (byte : ℕ) → get_or text 2 0 ≡ byte → byte ≢ 32
    → text ≢ codes "no step: " ++ joined_text texts
no_step_apart text texts byte here other = apart_at 2 byte 32 text
    (codes "no step: " ++ joined_text texts) here refl other

pub json_apart : (flaw : List ℕ) (texts : List (List ℕ))
    → codes "not JSON: " ++ flaw ≢ codes "no step: " ++ joined_text texts
json_apart flaw texts =
    no_step_apart (codes "not JSON: " ++ flaw) texts 116 refl (λ same. omega (arith, same))
