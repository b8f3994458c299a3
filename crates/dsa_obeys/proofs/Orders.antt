-- What a party does next, and lines that are in order from where it stands after it, are in order.
use Rattle.std.proofs.Common.{◌≡◌, ℕ, ◌+◌, ◌<◌, Bool, true, false, cond, not, List, ◌∷◌, length, slice_get}
use Rattle.std.proofs.Common.{Option, Some, None, refl, sym, ap, ◌∙◌, subst, nat_lt}
use Rattle.std.specs.Prelude.{option_and_then}
use Rattle.std.proofs.lemmas.{Bool.{and_from, ltb-true}}
use Rattle.dsa_base.specs.Rows.{passes}
use Rattle.dsa_book.specs.declared.answer.{Reply.{Reply}, Cause.{Cause}}
use Rattle.dsa_book.specs.declared.answer.{SubmitAnswer.TheVariants.{Accepted, Retry, Dropped, Full}}
use Rattle.dsa_book.specs.declared.answer.Reply.TheVariants.{Submit, Dispatch, Fetch, Start, Finish, Issue, Poll, Write}
use Rattle.dsa_book.specs.declared.answer.Reply.TheVariants.{Clear}
use Rattle.dsa_parties.specs.declared.places.{ClientPlace.{ClientPlace}, ClientTurn.{ClientTurn}}
use Rattle.dsa_parties.specs.declared.script.{Part.{Part}, Script.{Script}, ScriptEntry.{ScriptEntry}}
use Rattle.dsa_parties.specs.declared.script.{Act.{Act}}
use Rattle.dsa_parties.specs.declared.script.RetryPolicy.{RetryPolicy, TheVariants.{GiveUp, Again, AtMost}}
use Rattle.dsa_parties.specs.Scripts.{submission_at}
use Rattle.dsa_parties.specs.Standing.{Standing, place_after, place_behind, place_by, next_in, next_act, act_of}
use Rattle.dsa_parties.specs.Standing.{is_through, act_after}
use Rattle.dsa_parties.proofs.ClientTurns.{is_of_submission}
use Rattle.dsa_obeys.specs.Obeys.{LogLine, is_of_number, to_submit, to_do, submits_again, asks_again, submit_in_order}
use Rattle.dsa_obeys.specs.Obeys.{do_in_order}
use Rattle.dsa_obeys.proofs.Submissions.{part_from, accepted-once, dropped-once, not-counted, again-by}
use Rattle.dsa_obeys.proofs.Acts.{acts-parts, part-within, first-to_do, through-not}

-- ---- clients

module _ (entries : List ScriptEntry) (part : Part) (turn : ClientTurn)
    (is : submission_at entries turn.place.next ≡ Some turn.submission)
    (whole : to_submit entries (part_from turn.place.next part)
    ≡ turn.place.next ∷ to_submit entries (part_from (turn.place.next + 1 + turn.submission.members) part))
    (lines : List LogLine) where
  abbrev pub InOrderFrom : ClientPlace → Type 0
  InOrderFrom place = submit_in_order entries (to_submit entries (part_from place.next part)) place.refusals lines ≡ true

  abbrev left : List ℕ
  left = to_submit entries (part_from (turn.place.next + 1 + turn.submission.members) part)

  abbrev Rest : Bool → Type 0
  Rest b = submit_in_order entries (cond b (turn.place.next ∷ left) left) (cond b (turn.place.refusals + 1) 0) lines
      ≡ true

  counted : InOrderFrom (record { next = turn.place.next; refusals = turn.place.refusals + 1 }) → Rest true
  counted h = subst (λ l. submit_in_order entries l (turn.place.refusals + 1) lines ≡ true) whole h

  uncounted : turn.submission.retry ≡ Again → InOrderFrom turn.place → Rest true
  uncounted e h = not-counted entries turn.place.next left turn.submission is e lines (turn.place.refusals + 1)
      turn.place.refusals
      ∙ subst (λ l. submit_in_order entries l turn.place.refusals lines ≡ true) whole h

  retried : (cause : Cause) (p : RetryPolicy) → turn.submission.retry ≡ p → InOrderFrom (place_by p turn)
      → Rest (submits_again p turn.place.refusals (Submit (Retry cause)))
  retried cause GiveUp e h = h
  retried cause Again e h = uncounted e h
  retried cause (AtMost most) e h = by-count (nat_lt turn.place.refusals most) h
    where
      by-count : (b : Bool)
          → InOrderFrom (cond b (record turn.place { refusals = turn.place.refusals + 1 }) (place_behind turn))
          → Rest b
      by-count true h = counted h
      by-count false h = h

  rest-of : (reply : Reply) → is_of_submission reply ≡ true → (reply ≡ Submit Full → ⊥)
      → InOrderFrom (place_after reply turn) → Rest (submits_again turn.submission.retry turn.place.refusals reply)
  rest-of (Submit (Accepted ticket)) of some h =
      subst Rest (sym (accepted-once turn.submission.retry turn.place.refusals ticket)) h
  rest-of (Submit (Dropped cause)) of some h =
      subst Rest (sym (dropped-once turn.submission.retry turn.place.refusals cause)) h
  rest-of (Submit (Retry cause)) of some h = retried cause turn.submission.retry refl h
  rest-of (Submit Full) of some h = absurd (some refl)
  rest-of (Dispatch answer) of some h = absurd cc
  rest-of (Fetch answer) of some h = absurd cc
  rest-of (Start answer) of some h = absurd cc
  rest-of (Finish answer) of some h = absurd cc
  rest-of (Issue answer) of some h = absurd cc
  rest-of (Poll answer) of some h = absurd cc
  rest-of (Write answer) of some h = absurd cc
  rest-of (Clear answer) of some h = absurd cc

  pub turn-in-order : (line : LogLine) → is_of_number turn.place.next line.doer ≡ true
      → is_of_submission line.step.reply ≡ true → (line.step.reply ≡ Submit Full → ⊥)
      → InOrderFrom (place_after line.step.reply turn)
      → submit_in_order entries (to_submit entries (part_from turn.place.next part)) turn.place.refusals (line ∷ lines)
      ≡ true
  turn-in-order line about of some h =
      subst (λ l. submit_in_order entries l turn.place.refusals (line ∷ lines) ≡ true) (sym whole)
      (and_from _ _ about
      (subst Rest (sym (again-by entries turn.place.next left turn.submission is turn.place.refusals line.step.reply))
      (rest-of line.step.reply of some h)))

-- ---- administrators

-- an act is in the part of the administrator that does it next
pub record IsAct (script : Script) (administrators : List ℕ) (a : ℕ) (act : Act) : Type 0 where
  pub part : Part
  pub next : ℕ
  pub at_part : slice_get script.administrators.items a ≡ Some part
  pub at_next : slice_get administrators a ≡ Some next
  pub below : next < part.end
  pub at_act : slice_get script.acts.items next ≡ Some act
  pub next_is : (clients : List ClientPlace) (came : List Bool)
      → next_act script (record { clients = clients; administrators = administrators; came = came }) a ≡ Some next

pub is-act : (script : Script) (stand : Standing) (a : ℕ) (act : Act) → act_of script stand a ≡ Some act
    → IsAct script stand.administrators a act
is-act script stand a act h = with-part (slice_get script.administrators.items a) refl h
  where
    with-next : (part : Part) (next : ℕ) → slice_get script.administrators.items a ≡ Some part
        → slice_get stand.administrators a ≡ Some next → (b : Bool) → nat_lt next part.end ≡ b
        → option_and_then (slice_get script.acts.items) (cond b (Some next) None) ≡ Some act
        → IsAct script stand.administrators a act
    with-next part next p n false l h = absurd cc
    with-next part next p n true l h = record {
      part = part;
      next = next;
      at_part = p;
      at_next = n;
      below = ltb-true next part.end l;
      at_act = h;
      next_is = λ clients came.
          ap (option_and_then (λ part. option_and_then (next_in part) (slice_get stand.administrators a))) p
          ∙ ap (option_and_then (next_in part)) n ∙ ap (λ b. cond b (Some next) None) l;
    }

    with-place : (part : Part) → slice_get script.administrators.items a ≡ Some part → (o : Option ℕ)
        → slice_get stand.administrators a ≡ o
        → option_and_then (slice_get script.acts.items) (option_and_then (next_in part) o) ≡ Some act
        → IsAct script stand.administrators a act
    with-place part p None n h = absurd cc
    with-place part p (Some next) n h = with-next part next p n (nat_lt next part.end) refl h

    with-part : (o : Option Part) → slice_get script.administrators.items a ≡ o
        → option_and_then (slice_get script.acts.items)
        (option_and_then (λ part. option_and_then (next_in part) (slice_get stand.administrators a)) o) ≡ Some act
        → IsAct script stand.administrators a act
    with-part None p h = absurd cc
    with-part (Some part) p h = with-place part p (slice_get stand.administrators a) refl h

module _ (script : Script) (administrators : List ℕ) (a : ℕ) (act : Act) (t : IsAct script administrators a act)
    (lines : List LogLine) where
  abbrev acts : List Act
  acts = script.acts.items

  whole : to_do acts (part_from t.next t.part) ≡ t.next ∷ to_do acts (part_from (t.next + 1) t.part)
  whole = first-to_do acts t.next t.part t.below
      (part-within 0 (length acts) script.administrators.items a t.part (acts-parts script) t.at_part)

  by-answer : (again through : Bool) → through ≡ not again
      → do_in_order acts (to_do acts (part_from (cond through (t.next + 1) t.next) t.part)) lines ≡ true
      → do_in_order acts (cond again (t.next ∷ to_do acts (part_from (t.next + 1) t.part))
      (to_do acts (part_from (t.next + 1) t.part))) lines ≡ true
  by-answer true through e h = subst (λ l. do_in_order acts l lines ≡ true) whole
      (subst (λ b. do_in_order acts (to_do acts (part_from (cond b (t.next + 1) t.next) t.part)) lines ≡ true) e h)
  by-answer false through e h =
      subst (λ b. do_in_order acts (to_do acts (part_from (cond b (t.next + 1) t.next) t.part)) lines ≡ true) e h

  pub act-in-order : (line : LogLine) → is_of_number t.next line.doer ≡ true
      → do_in_order acts (to_do acts (part_from (act_after line.step.reply t.next act) t.part)) lines ≡ true
      → do_in_order acts (to_do acts (part_from t.next t.part)) (line ∷ lines) ≡ true
  act-in-order line about h =
      subst (λ l. do_in_order acts l (line ∷ lines) ≡ true) (sym whole)
      (and_from _ _ about
      (subst (λ b. do_in_order acts (cond b (t.next ∷ to_do acts (part_from (t.next + 1) t.part))
      (to_do acts (part_from (t.next + 1) t.part))) lines ≡ true)
      (sym (ap (passes (λ act. asks_again act line.step.reply)) t.at_act))
      (by-answer (asks_again act line.step.reply) (is_through line.step.reply act) (through-not line.step.reply act) h)))
