-- A device that was made of bytes saves to them.
use Rattle.std.proofs.Common.{◌≡◌, ℕ, ◌*◌, List, [], ◌++◌, length, take, drop, codes, refl, sym, ap, ◌∙◌, arith}
use Rattle.std.proofs.lemmas.List.{take-append-drop}
use Rattle.std.specs.List.{flat_map}
use Rattle.sha2.specs.Sha256.{sha256}
use Rattle.dsa_regs.specs.declared.Caps.{Caps}
use Rattle.dsa_book.specs.declared.event.Step.{Step}
use Rattle.dsa_device.specs.Running.{Running, running_at_first}
use Rattle.dsa_saved.specs.{Words.{words_of}, Format.{record_of, header_words, header_bytes}, Said.{caps_of_words}}
use Rattle.dsa_saved.specs.{Saved.{saved_body, saved_bytes, IsReadAgain}, Steps.{HaveMade}}
use Rattle.dsa_saved.proofs.Equal.{records-length}

module _ (t : Running) (caps : Caps) (capacity count : ℕ) (records : List ℕ)
    (have : HaveMade records (running_at_first caps capacity) t) (size : length records ≡ 44 * count) where
  -- there are as many steps as the header says
  counted : length t.history ≡ count
  counted =
      omega (
        arith,
        ap length have.history,
        ap length have.bytes,
        records-length have.steps,
        size,
      )

  -- and the header is the device's
  same-header : header_bytes t.caps t.capacity (length t.history) ≡ header_bytes caps capacity count
  same-header = rw (have.caps, have.capacity, counted) refl

  same-words : header_words t.caps t.capacity (length t.history) ≡ header_words caps capacity count
  same-words = rw (have.caps, have.capacity, counted) refl

  -- so it saves to the bytes
  pub saves-to : (bytes body start sum : List ℕ) → take 8 start ≡ codes "DSASAVED"
      → drop 8 start ≡ header_bytes caps capacity count → start ++ records ≡ body → sha256 body ≡ sum → body ++ sum ≡ bytes
      → saved_bytes t ≡ bytes
  unfolding saved_bytes saved_body
  saves-to bytes body start sum magic header parts checks whole =
      let begins : codes "DSASAVED" ++ header_bytes t.caps t.capacity (length t.history) ≡ start =
      ap (λ (h : List ℕ). codes "DSASAVED" ++ h) (same-header ∙ sym header)
      ∙ ap (λ (m : List ℕ). m ++ drop 8 start) (sym magic) ∙ take-append-drop 8 start in
      let is : saved_body t ≡ body =
      ap (λ (s : List ℕ). s ++ flat_map record_of t.history) begins
      ∙ ap (λ (h : List Step). start ++ flat_map record_of h) have.history
      ∙ ap (λ (r : List ℕ). start ++ r) have.bytes ∙ parts in
      ap (λ (b : List ℕ). b ++ sha256 b) is ∙ ap (λ (s : List ℕ). body ++ s) checks ∙ whole

  -- and these say what it is
  pub says-again : (header : List ℕ) → header ≡ header_bytes caps capacity count
      → words_of 11 header ≡ header_words caps capacity count
      → caps_of_words (header_words caps capacity count) ≡ caps → IsReadAgain t
  says-again header is words read = record {
    words = ap (words_of 11) (same-header ∙ sym is) ∙ words ∙ sym same-words;
    caps = ap caps_of_words same-words ∙ read ∙ sym have.caps;
    steps = rw have.history have.read;
    not_anew = have.anew;
    room = have.room ∙ sym have.capacity;
  }
