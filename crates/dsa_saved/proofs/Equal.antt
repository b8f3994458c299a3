-- Devices that save to the same bytes are equal.
use Rattle.dsa_book.specs.declared.event.Event.TheVariants as event
use Rattle.std.proofs.Common.{◌≡◌, ℕ, ◌+◌, ◌*◌, List, [], ◌∷◌, ◌++◌, length, take, drop, slice_index, Option, Some, None}
use Rattle.std.proofs.Common.{refl, sym, ap, ◌∙◌, map, suc, codes, arith}
use Rattle.std.proofs.lemmas.{Option.{same_Some}, List.{take_at, drop_at, length-append}}
use Rattle.std.specs.List.{All, flat_map}
use Rattle.sha2.{specs.Sha256.{sha256}, proofs.Facts256.{length-sha256}}
use Rattle.dsa_regs.specs.declared.Caps.{Caps}
use Rattle.dsa_book.specs.declared.{event.{Event.{Event}, Step.{Step}}, answer.Reply.{Reply}}
use Rattle.dsa_book.specs.{State.{State, opening}, Choice.{Choice, choice_of, nothing, in_cell, from_queue}}
use Rattle.dsa_book.specs.Machine.{next, reply_of, replay, replay_from}
use Rattle.dsa_book.proofs.{Nexts.{next-is}, Replay.{replay_none}}
use Rattle.dsa_device.specs.Running.{Running, IsReplay}
use Rattle.dsa_saved.specs.Words.{words_of, bytes_of_words}
use Rattle.dsa_saved.specs.Format.{event_words, event_bytes, choice_words, choice_bytes, record_of, header_words, header_bytes}
use Rattle.dsa_saved.specs.Said.{event_of_words, choice_of_words, caps_of_words, IsStepRead}
use Rattle.dsa_saved.specs.Saved.{saved_body, saved_bytes, IsReadAgain}
use Rattle.dsa_saved.proofs.Written.{length-bytes}

-- lists whose fronts are as long are the same piece by piece
pub fronts-same : {A : Type 0} (n : ℕ) (a b x y : List A) → length a ≡ n → length b ≡ n → a ++ x ≡ b ++ y
    → (a ≡ b) × (x ≡ y)
fronts-same n a b x y la lb e =
    (sym (take_at a x n la) ∙ ap (take n) e ∙ take_at b y n lb, sym (drop_at a x n la) ∙ ap (drop n) e ∙ drop_at b y n lb)

-- ---- how long the parts are

event-size : (e : Event) → length (event_words e) ≡ 9
event-size (event.Submit client queue portal kind desc) = refl
event-size (event.Dispatch engine) = refl
event-size (event.Fetch engine desc) = refl
event-size (event.Start engine) = refl
event-size (event.Finish engine ticket outcome) = refl
event-size (event.Issue command) = refl
event-size event.Poll = refl
event-size (event.WriteQueue queue config) = refl
event-size (event.WriteGroup group config) = refl
event-size event.ClearError = refl

choice-size : (choice : Choice) → length (choice_words choice) ≡ 2
choice-size nothing = refl
choice-size (in_cell cell) = refl
choice-size (from_queue queue) = refl

pub event-length : (e : Event) → length (event_bytes e) ≡ 36
unfolding event_bytes
event-length e = length-bytes (event_words e) ∙ ap (λ n. 4 * n) (event-size e)

pub choice-length : (choice : Choice) → length (choice_bytes choice) ≡ 8
unfolding choice_bytes
choice-length choice = length-bytes (choice_words choice) ∙ ap (λ n. 4 * n) (choice-size choice)

pub record-length : (step : Step) → length (record_of step) ≡ 44
record-length step =
    omega (
      arith,
      length-append (event_bytes step.event) (choice_bytes (choice_of step.reply)),
      event-length step.event,
      choice-length (choice_of step.reply),
    )

pub records-length : (steps : List Step) → length (flat_map record_of steps) ≡ 44 * length steps
records-length [] = refl
records-length (step ∷ steps) =
    omega (
      arith,
      length-append (record_of step) (flat_map record_of steps),
      record-length step,
      records-length steps,
    )

pub header-length : (caps : Caps) (capacity count : ℕ) → length (header_bytes caps capacity count) ≡ 44
unfolding header_bytes
header-length caps capacity count = length-bytes (header_words caps capacity count)

pub saved-length : (d : Running) → length (saved_bytes d) ≡ 84 + 44 * length d.history
unfolding saved_bytes saved_body
saved-length d =
    let header = header_bytes d.caps d.capacity (length d.history) in
    let records = flat_map record_of d.history in
    omega (
      arith,
      length-append (saved_body d) (sha256 (saved_body d)),
      length-sha256 (saved_body d),
      length-append header records,
      header-length d.caps d.capacity (length d.history),
      records-length d.history,
    )

-- ---- what the records say

-- what is said of a step: its event, and what was free in it
abbrev said : Step → Event × Choice
said step = (step.event, choice_of step.reply)

-- records that are the same say the same
step-same : (x y : Step) → IsStepRead x → IsStepRead y → record_of x ≡ record_of y → said x ≡ said y
step-same x y rx ry e =
    let parts = fronts-same 36 (event_bytes x.event) (event_bytes y.event) (choice_bytes (choice_of x.reply))
    (choice_bytes (choice_of y.reply)) (event-length x.event) (event-length y.event) e in
    let events : x.event ≡ y.event = same_Some x.event y.event
    (sym rx.event ∙ ap (λ bytes. event_of_words (words_of 9 bytes)) parts.0 ∙ ry.event) in
    let choices : choice_of x.reply ≡ choice_of y.reply =
    sym rx.choice ∙ ap (λ bytes. choice_of_words (words_of 2 bytes)) parts.1 ∙ ry.choice in
    λ i. (events i, choices i)

steps-same : (xs ys : List Step) → All IsStepRead xs → All IsStepRead ys
    → flat_map record_of xs ≡ flat_map record_of ys → map said xs ≡ map said ys
steps-same [] [] rx ry e = refl
steps-same [] (y ∷ ys) rx ry e =
    let size : length (flat_map record_of (y ∷ ys)) ≡ 0 = sym (ap length e) in
    absurd (omega (arith, size, records-length (y ∷ ys)))
steps-same (x ∷ xs) [] rx ry e =
    let size : length (flat_map record_of (x ∷ xs)) ≡ 0 = ap length e in
    absurd (omega (arith, size, records-length (x ∷ xs)))
steps-same (x ∷ xs) (y ∷ ys) rx ry e =
    let parts = fronts-same 44 (record_of x) (record_of y) (flat_map record_of xs) (flat_map record_of ys)
    (record-length x) (record-length y) e in
    let first : said x ≡ said y = step-same x y (rx 0 x (omega arith)) (ry 0 y (omega arith)) parts.0 in
    let later : map said xs ≡ map said ys = steps-same xs ys (λ k d within. rx (suc k) d (omega (arith, within)))
    (λ k d within. ry (suc k) d (omega (arith, within))) parts.1 in
    λ i. first i ∷ later i

-- ---- what is said decides the history

-- a step and the state after it
abbrev outcome_of : State → Event × Choice → Reply × State
outcome_of s it = reply_of s it.0 it.1

module _ (s : State) (x y : Step) (same : said x ≡ said y) where
  -- two steps of one state of which the same is said are the same
  next-same : (t u : State) → next s x.event x.reply ≡ Some t → next s y.event y.reply ≡ Some u
      → (x ≡ y) × (t ≡ u)
  next-same t u n m =
      let e : (x.reply, t) ≡ (y.reply, u) =
      sym (next-is s t x.event x.reply n).1 ∙ ap (outcome_of s) same ∙ (next-is s u y.event y.reply m).1 in
      let events : x.event ≡ y.event = ap (λ (it : Event × Choice). it.0) same in
      let replies : x.reply ≡ y.reply = ap (λ (r : Reply × State). r.0) e in
      ((λ i. record { event = events i; reply = replies i }), ap (λ (r : Reply × State). r.1) e)

-- the next states of two steps of which the same is said, and what follows them
both-next : (s t u : State) (x y : Step) (xs ys : List Step) → said x ≡ said y
    → ((a : State) → replay_from (Some a) xs ≡ Some t → replay_from (Some a) ys ≡ Some u → (xs ≡ ys) × (t ≡ u))
    → (o p : Option State) → next s x.event x.reply ≡ o → next s y.event y.reply ≡ p
    → replay_from o xs ≡ Some t → replay_from p ys ≡ Some u → (x ∷ xs ≡ y ∷ ys) × (t ≡ u)
both-next s t u x y xs ys first further None p n m h k = absurd (replay_none xs t h)
both-next s t u x y xs ys first further (Some a) None n m h k = absurd (replay_none ys u k)
both-next s t u x y xs ys first further (Some a) (Some b) n m h k =
    let one = next-same s x y first a b n m in
    let rest = further a h (rw one.1 k) in
    ((λ i. one.0 i ∷ rest.0 i), rest.1)

history-same : (s t u : State) (xs ys : List Step) → map said xs ≡ map said ys
    → replay_from (Some s) xs ≡ Some t → replay_from (Some s) ys ≡ Some u → (xs ≡ ys) × (t ≡ u)
history-same s t u [] [] same h k = (refl, sym (same_Some s t h) ∙ same_Some s u k)
history-same s t u [] (y ∷ ys) same h k = absurd cc
history-same s t u (x ∷ xs) [] same h k = absurd cc
history-same s t u (x ∷ xs) (y ∷ ys) same h k =
    let first : said x ≡ said y = cc in
    let later : map said xs ≡ map said ys = cc in
    both-next s t u x y xs ys first (λ a h k. history-same a t u xs ys later h k) (next s x.event x.reply)
    (next s y.event y.reply) refl refl h k

-- ---- the whole

-- what comes before the records
abbrev start_of : Running → List ℕ
start_of d = codes "DSASAVED" ++ header_bytes d.caps d.capacity (length d.history)

start-length : (d : Running) → length (start_of d) ≡ 52
start-length d =
    omega (
      arith,
      length-append (codes "DSASAVED") (header_bytes d.caps d.capacity (length d.history)),
      header-length d.caps d.capacity (length d.history),
    )

-- devices that save to the same bytes are equal
pub saved-same : (d e : Running) → IsReplay d → IsReplay e → IsReadAgain d → IsReadAgain e
    → saved_bytes d ≡ saved_bytes e → d ≡ e
unfolding saved_bytes saved_body
saved-same d e rd re ad ae same =
    let size : length (saved_body d) ≡ length (saved_body e) =
    omega (
      arith,
      ap length same,
      length-append (saved_body d) (sha256 (saved_body d)),
      length-append (saved_body e) (sha256 (saved_body e)),
      length-sha256 (saved_body d),
      length-sha256 (saved_body e),
    ) in
    let bodies = fronts-same (length (saved_body e)) (saved_body d) (saved_body e) (sha256 (saved_body d))
    (sha256 (saved_body e)) size refl same in
    let starts = fronts-same 52 (start_of d) (start_of e) (flat_map record_of d.history) (flat_map record_of e.history)
    (start-length d) (start-length e) bodies.0 in
    let headers = fronts-same 8 (codes "DSASAVED") (codes "DSASAVED") (header_bytes d.caps d.capacity (length d.history))
    (header_bytes e.caps e.capacity (length e.history)) refl refl starts.0 in
    let words : header_words d.caps d.capacity (length d.history) ≡ header_words e.caps e.capacity (length e.history) =
    sym ad.words ∙ ap (words_of 11) headers.1 ∙ ae.words in
    let caps : d.caps ≡ e.caps = sym ad.caps ∙ ap caps_of_words words ∙ ae.caps in
    let capacity : d.capacity ≡ e.capacity = ap (λ words. slice_index words 9) words in
    let steps = history-same (opening d.caps) d.state e.state d.history e.history
    (steps-same d.history e.history ad.steps ae.steps starts.1) rd.replayed
    (rw caps re.replayed) in
    let room : d.room ≡ e.room = ad.room ∙ capacity ∙ sym ae.room in
    let anew : d.anew ≡ e.anew = ad.not_anew ∙ sym ae.not_anew in
    λ i. record {
      caps = caps i;
      room = room i;
      capacity = capacity i;
      history = steps.0 i;
      anew = anew i;
      state = steps.1 i;
    }
