-- Steps that are made of records.
use Rattle.std.proofs.Common.{◌≡◌, ℕ, ◌+◌, ◌*◌, Bool, true, cond, List, [], ◌∷◌, ◌++◌, length, take, drop, get_or, ◌<◌, Some}
use Rattle.std.proofs.Common.{refl, sym, ap, ◌∙◌, append_assoc, arith}
use Rattle.std.proofs.lemmas.List.{append-nil, take_more, flat_map_more, take-append-drop, take-take, drop-take, Elements.{All-append, All-push}}
use Rattle.std.proofs.lemmas.Grind.{flat_map-append}
use Rattle.std.specs.List.{All, flat_map}
use Rattle.dsa_book.specs.declared.{event.{Event.{Event}, Step.{Step}}, answer.Reply.{Reply}}
use Rattle.dsa_book.specs.{Choice.{choice_of}, Machine.{is_stored}}
use Rattle.dsa_device.{specs.Running.{Running, after_answer}, proofs.Steps.{grows}}
use Rattle.dsa_saved.specs.{Words.{words_of}, Format.{event_bytes, choice_bytes, record_of}}
use Rattle.dsa_saved.specs.{Said.{event_of_words, choice_of_words, IsStepRead}, Steps.{HasMade, HaveMade}}

-- a step that the history keeps, whose event and choice are those of the bytes
pub made : (d t : Running) (e : Event) (r : Reply) (bytes first last choice : List ℕ) → after_answer d e r ≡ Some t
    → is_stored r ≡ true → event_of_words (words_of 9 first) ≡ Some e → event_bytes e ≡ first
    → choice ≡ choice_bytes (choice_of r) → choice_of_words (words_of 2 choice) ≡ choice_of r → choice ≡ last
    → first ++ last ≡ bytes → HasMade bytes d t
made d t e r bytes first last choice after kept says is free read same whole =
    let g = grows d t e r after in
    record {
      step = record { event = e; reply = r };
      history = g.history ∙ rw kept refl;
      bytes = rw (is, ← free, same) whole;
      read = record {
        event = rw is says;
        choice = rw (← free) read;
      };
      caps = g.caps;
      capacity = g.capacity;
      room = g.room;
      anew = g.anew;
    }

-- no record
pub none-made : (d : Running) → HaveMade [] d d
none-made d = record {
  steps = [];
  history = sym (append-nil d.history);
  bytes = refl;
  read = λ k step within. absurd (omega (arith, within));
  caps = refl;
  capacity = refl;
  room = refl;
  anew = refl;
}

-- one record more
pub one-more : (d t u : Running) (bytes more all : List ℕ) → HaveMade bytes d t → HasMade more t u
    → all ≡ bytes ++ more → HaveMade all d u
one-more d t u bytes more all have has is = record {
  steps = have.steps ++ has.step ∷ [];
  history = has.history ∙ ap (λ (steps : List Step). steps ++ has.step ∷ []) have.history
      ∙ append_assoc d.history have.steps (has.step ∷ []);
  bytes = flat_map-append record_of have.steps (has.step ∷ [])
      ∙ rw (have.bytes, append-nil, has.bytes) (sym is);
  read = All-push IsStepRead have.steps has.step have.read has.read;
  caps = has.caps ∙ have.caps;
  capacity = has.capacity ∙ have.capacity;
  room = has.room ∙ have.room;
  anew = has.anew ∙ have.anew;
}

-- the next record behind those that were read
pub take-further : (n m : ℕ) (xs : List ℕ) → take (n + m) xs ≡ take n xs ++ take m (drop n xs)
take-further n m xs =
    sym (take-append-drop n (take (n + m) xs))
    ∙ rw (take-take n (n + m) xs (omega arith), drop-take n m xs) refl

-- the record of the next step behind those before it
pub pushed : (old before after : List ℕ) (steps : List Step) (i : ℕ) (d : Step) → i < length steps
    → before ≡ old ++ flat_map record_of (take i steps) → after ≡ before ++ record_of (get_or steps i d)
    → after ≡ old ++ flat_map record_of (take (i + 1) steps)
pushed old before after steps i d within was is =
    is ∙ ap (λ (bytes : List ℕ). bytes ++ record_of (get_or steps i d)) was
    ∙ flat_map_more record_of old (take i steps) (get_or steps i d)
    ∙ ap (λ (taken : List Step). old ++ flat_map record_of taken) (sym (take_more steps i d within))

pub pushed-read : (steps : List Step) (i : ℕ) (d : Step) → i < length steps → All IsStepRead (take i steps)
    → IsStepRead (get_or steps i d) → All IsStepRead (take (i + 1) steps)
pushed-read steps i d within was read =
    rw (take_more steps i d within) (All-push IsStepRead (take i steps) (get_or steps i d) was read)
