-- Texts with nothing to escape.
use Rattle.dsa_book.specs.declared.answer.SubmitAnswer.TheVariants as submit
use Rattle.dsa_book.specs.declared.answer.DispatchAnswer.TheVariants as dispatch
use Rattle.dsa_book.specs.declared.answer.FetchAnswer.TheVariants as fetch
use Rattle.dsa_book.specs.declared.answer.StartAnswer.TheVariants as start
use Rattle.dsa_book.specs.declared.answer.FinishAnswer.TheVariants as finish
use Rattle.dsa_book.specs.declared.answer.IssueAnswer.TheVariants as issue
use Rattle.dsa_book.specs.declared.answer.PollAnswer.TheVariants as poll
use Rattle.dsa_book.specs.declared.answer.WriteAnswer.TheVariants as write
use Rattle.dsa_book.specs.declared.answer.ClearAnswer.TheVariants as clear
use Rattle.dsa_book.specs.declared.answer.Reply.TheVariants as reply
use Rattle.std.proofs.Common.{◌≡◌, ◌<◌, ◌≤◌, ◌^◌, ◌/◌, ◌%◌, ℕ, zero, suc, Bool}
use Rattle.std.proofs.Common.{true, false, List, [], ◌∷◌, ◌++◌, codes, decimal}
use Rattle.std.proofs.Common.{◌+◌, length, refl, sym, subst, ap₂, ◌∙◌, inl, inr, arith}
use Rattle.std.specs.{Prelude.{⊤, slice_index}, Fmt.{digit_glyph}}
use Rattle.std.specs.Str.Parse.{AllDigits}
use Rattle.std.proofs.lemmas.{Fmt.{decimal_is_IsNumeral}, Grind.{flat_map-append}, Str.Parse.{digit_at}, Bool.{cases_lt, lt-ltb, le-ltb}}
use Rattle.json.specs.Print.{escape, escape_byte}
use Rattle.json.proofs.Printed.Strings.{escape_byte_plain}
use Rattle.hex.specs.Hex.{encode_with, encode_lower, lower_digits}
use Rattle.dsa_regs.specs.{declared.Fault.{Fault, TheVariants.{SizesTooLarge}}, Fault.{fault_number, fault_name}}
use Rattle.dsa_book.specs.declared.answer.{Cause.{Cause, TheVariants.{AtLimit, NotEnabled, WrongKind}}, Reply.{Reply}}
use Rattle.dsa_recordings.specs.Reading.{FitsReply}
use Rattle.dsa_scenario.specs.Lines.{two_digits, cause_text, overflow_text, refusal_text, reply_text}

abbrev pub IsPlainText : List ℕ → Type 0
IsPlainText s = escape s ≡ s

pub plain_append : (a b : List ℕ) → IsPlainText a → IsPlainText b → IsPlainText (a ++ b)
plain_append a b h k = flat_map-append escape_byte a b ∙ ap₂ (λ x y. x ++ y) h k

plain_byte : (x : ℕ) → (x ≡ 34 → ⊥) → (x ≡ 92 → ⊥) → 32 ≤ x → (s : List ℕ) → IsPlainText s → IsPlainText (x ∷ s)
plain_byte x quote slash low s h = ap₂ (λ a b. a ++ b) (escape_byte_plain x quote slash low) h

-- ---- numbers

plain_digits : (ds : List ℕ) → AllDigits 10 ds → IsPlainText ds
plain_digits [] h = refl
plain_digits (d ∷ ds) h =
    let here = digit_at (d ∷ ds) 0 h (omega arith) in
    let low : 48 ≤ d = here.0 in
    let high : d ≤ 57 = here.1 in
    plain_byte d (λ e. omega arith) (λ e. omega arith) (omega arith) ds (plain_digits ds h.1)

pub plain_decimal : (n : ℕ) → n < 2 ^ 64 → IsPlainText (decimal n)
plain_decimal n h = plain_digits (decimal n) (decimal_is_IsNumeral n h).0.1

-- ---- hexadecimal digits

abbrev ArePlainBytes : List ℕ → Type 0
ArePlainBytes [] = ⊤
ArePlainBytes (x ∷ xs) = (escape_byte x ≡ x ∷ []) × ArePlainBytes xs

plain_at : (t : List ℕ) (d : ℕ) → ArePlainBytes t → d < length t
    → escape_byte (slice_index t d) ≡ slice_index t d ∷ []
plain_at [] d h inside = absurd (omega arith)
plain_at (x ∷ xs) zero h inside = h.0
plain_at (x ∷ xs) (suc d) h inside = plain_at xs d h.1 (omega arith)

lower_plain : ArePlainBytes lower_digits
unfolding escape_byte
lower_plain = (
  refl,
  (
    refl,
    (
      refl,
      (
        refl,
        (
          refl,
          (
            refl,
            (
              refl,
              (
                refl,
                (refl, (refl, (refl, (refl, (refl, (refl, (refl, (refl, tt)))))))),
              ),
            ),
          ),
        ),
      ),
    ),
  ),
)

lower_at : (d : ℕ) → d < 16 → escape_byte (slice_index lower_digits d) ≡ slice_index lower_digits d ∷ []
lower_at d h = plain_at lower_digits d lower_plain h

-- each is a byte
abbrev pub AreBytes : List ℕ → Type 0
AreBytes [] = ⊤
AreBytes (x ∷ xs) = (x < 256) × AreBytes xs

pub plain_hex : (bytes : List ℕ) → AreBytes bytes → IsPlainText (encode_lower bytes)
unfolding encode_with
plain_hex [] h = refl
plain_hex (b ∷ bytes) h =
    let small = h.0 in
    ap₂ (λ x y. x ++ y) (lower_at (b / 16) (omega arith))
    (ap₂ (λ x y. x ++ y) (lower_at (b % 16) (omega arith)) (plain_hex bytes h.1))

glyph_plain : (d : ℕ) → d < 16 → (s : List ℕ) → IsPlainText s → IsPlainText (digit_glyph false d ∷ s)
glyph_plain d small s h = elim (cases_lt d 10) [
  | inl below ↦
      let is : digit_glyph false d ≡ 48 + d = rw (lt-ltb d 10 below) refl in
      subst (λ x. IsPlainText (x ∷ s)) (sym is)
      (plain_byte (48 + d) (λ e. omega arith) (λ e. omega arith) (omega arith) s h)
  | inr above ↦
      let is : digit_glyph false d ≡ 87 + d = rw (le-ltb d 10 above) refl in
      subst (λ x. IsPlainText (x ∷ s)) (sym is)
      (plain_byte (87 + d) (λ e. omega arith) (λ e. omega arith) (omega arith) s h)
]

plain_status : (n : ℕ) → n < 256 → IsPlainText (two_digits n)
plain_status n h =
    glyph_plain (n / 16) (omega arith) (digit_glyph false (n % 16) ∷ [])
    (glyph_plain (n % 16) (omega arith) [] refl)

-- ---- answers

plain_cause : (cause : Cause) → IsPlainText (cause_text cause)
unfolding escape_byte
plain_cause AtLimit = refl
plain_cause NotEnabled = refl
plain_cause WrongKind = refl

plain_overflow : (b : Bool) → IsPlainText (overflow_text b)
unfolding escape_byte
plain_overflow true = refl
plain_overflow false = refl

fault_small : (fault : Fault) → fault_number fault < 2 ^ 64
fault_small SizesTooLarge = omega arith
fault_small _ = omega arith

plain_name : (fault : Fault) → IsPlainText (fault_name fault)
unfolding escape_byte
plain_name SizesTooLarge = refl
plain_name _ = refl

plain_refusal : (fault : Fault) → IsPlainText (refusal_text fault)
unfolding escape_byte
plain_refusal fault =
    plain_append (codes "refused " ++ decimal (fault_number fault) ++ codes " ") (fault_name fault)
    (plain_append (codes "refused " ++ decimal (fault_number fault)) (codes " ")
    (plain_append (codes "refused ") (decimal (fault_number fault)) refl
    (plain_decimal (fault_number fault) (fault_small fault))) refl)
    (plain_name fault)

pub plain_reply : (answer : Reply) → FitsReply answer → IsPlainText (reply_text answer)
unfolding escape_byte
plain_reply (reply.Submit (submit.Accepted ticket)) h =
    plain_append (codes "accepted ") (decimal ticket.name) refl (plain_decimal ticket.name (omega (arith, h)))
plain_reply (reply.Submit (submit.Retry cause)) h =
    plain_append (codes "retry ") (cause_text cause) refl (plain_cause cause)
plain_reply (reply.Submit (submit.Dropped cause)) h =
    plain_append (codes "dropped ") (cause_text cause) refl (plain_cause cause)
plain_reply (reply.Submit submit.Full) h = refl
plain_reply (reply.Dispatch (dispatch.Taken ticket queue)) h =
    plain_append (codes "taken " ++ decimal ticket.name ++ codes " from ") (decimal queue)
    (plain_append (codes "taken " ++ decimal ticket.name) (codes " from ")
    (plain_append (codes "taken ") (decimal ticket.name) refl (plain_decimal ticket.name (omega (arith, h.0)))) refl)
    (plain_decimal queue (omega (arith, h.1)))
plain_reply (reply.Dispatch dispatch.Idle) h = refl
plain_reply (reply.Dispatch dispatch.Full) h = refl
plain_reply (reply.Fetch (fetch.Fetched ticket)) h =
    plain_append (codes "fetched ") (decimal ticket.name) refl (plain_decimal ticket.name (omega (arith, h)))
plain_reply (reply.Fetch fetch.NoBatch) h = refl
plain_reply (reply.Fetch fetch.AllFetched) h = refl
plain_reply (reply.Fetch fetch.Full) h = refl
plain_reply (reply.Start (start.Started ticket)) h =
    plain_append (codes "started ") (decimal ticket.name) refl (plain_decimal ticket.name (omega (arith, h)))
plain_reply (reply.Start start.FenceWait) h = refl
plain_reply (reply.Start start.NoBuffers) h = refl
plain_reply (reply.Start (start.Abandoned count)) h =
    plain_append (codes "abandoned ") (decimal count) refl (plain_decimal count (omega (arith, h)))
plain_reply (reply.Start start.Nothing) h = refl
plain_reply (reply.Start start.Full) h = refl
plain_reply (reply.Finish (finish.Done status)) h =
    plain_append (codes "done ") (two_digits status) refl (plain_status status h)
plain_reply (reply.Finish finish.NotReady) h = refl
plain_reply (reply.Finish finish.Gone) h = refl
plain_reply (reply.Finish finish.Full) h = refl
plain_reply (reply.Issue (issue.Ended aborted)) h =
    plain_append (codes "ended ") (decimal aborted) refl (plain_decimal aborted (omega (arith, h)))
plain_reply (reply.Issue issue.Active) h = refl
plain_reply (reply.Issue (issue.Refused fault)) h = plain_refusal fault
plain_reply (reply.Issue issue.Full) h = refl
plain_reply (reply.Poll poll.Finished) h = refl
plain_reply (reply.Poll poll.Active) h = refl
plain_reply (reply.Poll poll.Nothing) h = refl
plain_reply (reply.Poll poll.Full) h = refl
plain_reply (reply.Write write.Written) h = refl
plain_reply (reply.Write (write.Refused fault)) h = plain_refusal fault
plain_reply (reply.Write write.Full) h = refl
plain_reply (reply.Clear (clear.Cleared noted)) h =
    plain_append (codes "cleared " ++ decimal noted.queue ++ codes " " ++ cause_text noted.cause)
    (overflow_text noted.overflow)
    (plain_append (codes "cleared " ++ decimal noted.queue ++ codes " ") (cause_text noted.cause)
    (plain_append (codes "cleared " ++ decimal noted.queue) (codes " ")
    (plain_append (codes "cleared ") (decimal noted.queue) refl (plain_decimal noted.queue (omega (arith, h)))) refl)
    (plain_cause noted.cause))
    (plain_overflow noted.overflow)
plain_reply (reply.Clear clear.Nothing) h = refl
plain_reply (reply.Clear clear.Full) h = refl
