use Rattle.dsa_serve.proofs.rows.lines.Goals as goal
use Rattle.std.proofs.Common.{◌≡◌, ◌≢◌, ℕ, List, [], ◌∷◌, ◌++◌, None, codes, length, refl, sym}
use Rattle.std.proofs.Common.{arith, lit≤, inl, inr}
use Rattle.serde_json.proofs.OnLiterals.{serde_json_on_literals}
use Rattle.dsa_check.proofs.{OneLine.{empty_flaw}, OneObject.{no_kind_texts}}
use Rattle.dsa_serve.proofs.RowLines.{apart_at, json_apart, no_step_apart}
use Rattle.dsa_serve.specs.{Requests.{Asks, Fault}, Worked.{flaw_of_a_brace, not_json, not_utf8}}
use Rattle.dsa_serve.proofs.RowDialogues.{read_as, asks_poll, asks_explained_poll, asks_show}
use Rattle.dsa_serve.proofs.RowDialogues.{asks_fates, asks_no_json}
use Rattle.dsa_serve.proofs.RowDialogues.{odd_byte}

-- one fault is not told as another
long_apart : (flaw : List ℕ) → codes "not JSON: " ++ flaw ≢ codes "line too long"
long_apart flaw =
    apart_at 0 110 108 (codes "not JSON: " ++ flaw) (codes "line too long") refl refl
    (λ same. omega (arith, same))

-- JSON is not told to be none
json : Asks None (codes "{}") not_json → ⊥
unfolding serde_json_on_literals
json (inl is) = omega (arith, is.0)
json (inr (inl is)) = let none = is.1 (codes "{}", (refl, refl)) in absurd cc
json (inr (inr is)) = json_apart flaw_of_a_brace is.1.asks.1.0 is.1.asks.1.2

-- where it is none is not left out
placeless : Asks None (codes "{") (Fault (codes "not JSON")) → ⊥
placeless (inl is) = omega (arith, is.0)
placeless (inr (inl is)) =
    let flaw = is.2.0 in
    apart_at 8 0 58 (codes "not JSON") (codes "not JSON: " ++ flaw) refl refl
    (λ same. omega (arith, same)) is.2.2
placeless (inr (inr is)) =
    no_step_apart (codes "not JSON") is.1.asks.1.0 116 refl (λ same. omega (arith, same)) is.1.asks.1.2

-- one text tells of a byte that is no UTF-8
one_text : (text : List ℕ) → Asks None (255 ∷ []) (Fault text)
    → text ≡ codes "not JSON: column 1: the bytes are no UTF-8"
one_text text is =
    let told : Fault text ∷ [] ≡ not_utf8 ∷ [] = odd_byte None (Fault text ∷ []) [] None (is, refl) in
    cc

-- the longest line is not told to be too long, and no longer one is told to be no JSON
longest : (line : List ℕ) → length line ≡ 1_048_576 → Asks None line (Fault (codes "line too long")) → ⊥
longest line long (inl is) = omega (arith, long, is.0)
longest line long (inr (inl is)) = long_apart is.2.0 (sym is.2.2)
longest line long (inr (inr is)) =
    no_step_apart (codes "line too long") is.1.asks.1.0 110 refl (λ same. omega (arith, same)) is.1.asks.1.2

too_long : (line : List ℕ) → length line ≡ 1_048_577 → Asks None line not_json → ⊥
too_long line long (inl is) = long_apart flaw_of_a_brace is.1
too_long line long (inr (inl is)) = omega (arith, long, is.0)
too_long line long (inr (inr is)) = omega (arith, long, is.0)

pub returns : goal.returns
unfolding serde_json_on_literals
returns c = record {
  step = asks_poll;
  explained = asks_explained_poll;
  show = asks_show;
  fates = asks_fates;
  too_long_to_show = λ line long is. let few = is.0 in omega (arith, long, few);
  no_step = inr (inr (
    lit≤ tt,
    read_as (codes "{}") _ _ (codes "{}", (refl, refl)) refl
        (refl, (_, no_kind_texts, refl)),
  ));
  cut = asks_no_json;
  empty = inr (inl (lit≤ tt, λ utf8. refl, (_, empty_flaw, refl)));
  bytes = one_text;
  placeless = placeless;
  too_long = λ line long. inl (omega (arith, long), refl);
  json = json;
  not_asked = λ is.
      let asks = is.1.asks in
      let value = is.1.json.value in
      absurd cc;
  longest = longest;
  too_long_for_a_step = λ line long is. let few = is.0 in omega (arith, long, few);
  too_long_to_be_read = too_long;
  each = (asks_poll, (asks_no_json, refl));
  longest_that_is_no_json =
      λ line flaw long none told. inr (inl (omega (arith, long), none, (flaw, told, refl)));
  longest_that_is_read = λ line why long read. inr (inr (omega (arith, long), read));
  other = λ is. json is.0;
  other_later = λ is. json is.1.0;
  fewer = λ none. none;
  more = λ none. none;
}
