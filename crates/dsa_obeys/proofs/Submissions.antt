-- A client that submits in order: what it submits next, and where it stands behind an answer.
use Rattle.std.proofs.Common.{◌≡◌, ℕ, ◌+◌, ◌-◌, ◌<◌, ◌≤◌, Bool, true, false, cond, ◌&&◌, List, [], ◌∷◌}
use Rattle.std.proofs.Common.{length, slice_get, is_some, Option, Some, None, refl, sym, ap, ◌∙◌, subst, ⊎_elim}
use Rattle.std.proofs.Common.{arith, nat_lt}
use Rattle.std.specs.Prelude.{option_map, option_and_then}
use Rattle.std.proofs.lemmas.Bool.{and_parts, and_from, cases_lt, ltb-true, leb-true, lt-ltb, le-leb}
use Rattle.std.proofs.lemmas.Bool.{false_from_ne_true}
use Rattle.dsa_base.specs.{Rows.{passes}}
use Rattle.dsa_book.specs.declared.answer.{Reply.{Reply}, Ticket.{Ticket}, Cause.{Cause}}
use Rattle.dsa_book.specs.declared.answer.{SubmitAnswer.TheVariants.{Accepted, Retry, Dropped, Full}}
use Rattle.dsa_book.specs.declared.answer.Reply.TheVariants.{Submit, Dispatch, Fetch, Start, Finish, Issue, Poll, Write}
use Rattle.dsa_book.specs.declared.answer.Reply.TheVariants.{Clear}
use Rattle.dsa_keys.proofs.Known.{same-tests}
use Rattle.dsa_parties.specs.declared.places.{ClientPlace.{ClientPlace}, ClientTurn.{ClientTurn}}
use Rattle.dsa_parties.specs.declared.script.{ClientScript.{ClientScript}, Part.{Part}, Script.{Script}}
use Rattle.dsa_parties.specs.declared.script.{ScriptEntry.{ScriptEntry}, Submission.{Submission}}
use Rattle.dsa_parties.specs.declared.script.Origin.{Origin, TheVariants.{Submitted, Fetched}}
use Rattle.dsa_parties.specs.declared.script.RetryPolicy.{RetryPolicy, TheVariants.{GiveUp, Again, AtMost}}
use Rattle.dsa_parties.specs.Scripts.{origin_submission, submission_at, member_label, are_in_order}
use Rattle.dsa_parties.specs.Standing.{turn_from, turn_of, turn_with, place_after, place_behind, place_by}
use Rattle.dsa_parties.proofs.Fits.{IsFetchedAt, member-at, not-submitted, not-boundary}
use Rattle.dsa_parties.proofs.Stands.{fits, StandsIn, parts-below}
use Rattle.dsa_parties.proofs.ClientTurns.{is_of_submission}
use Rattle.dsa_obeys.specs.Obeys.{LogLine, is_of_number, is_within_part, to_submit}
use Rattle.dsa_obeys.specs.Obeys.{submits_again, submit_in_order}
use Rattle.dsa_obeys.proofs.Filters.{none-below, first-below, some-at}

-- the rest of a part
abbrev pub part_from : ℕ → Part → Part
part_from next part = record { first = next; end = part.end }

-- ---- the numbers that are left

abbrev passing : List ScriptEntry → Part → ℕ → Bool
passing entries part n = is_within_part part n && is_some (submission_at entries n)

-- what passes is in the part, and submitted
record Passes (entries : List ScriptEntry) (part : Part) (n : ℕ) : Type 0 where
  first : part.first ≤ n
  end : n < part.end
  submitted : is_some (submission_at entries n) ≡ true

passes-of : (entries : List ScriptEntry) (part : Part) (n : ℕ) → passing entries part n ≡ true → Passes entries part n
passes-of entries part n h =
    let a = and_parts _ _ h in
    let b = and_parts _ _ a.0 in
    record { first = leb-true _ _ b.0; end = ltb-true _ _ b.1; submitted = a.1 }

of-passes : (entries : List ScriptEntry) (part : Part) (n : ℕ) → Passes entries part n → passing entries part n ≡ true
of-passes entries part n p =
    and_from _ _ (and_from _ _ (le-leb part.first n p.first) (lt-ltb n part.end p.end)) p.submitted

none-left : (entries : List ScriptEntry) (part : Part) → part.end ≤ part.first → to_submit entries part ≡ []
none-left entries part l = none-below (passing entries part) (length entries)
    (λ n below. false_from_ne_true _ (λ t. let p = passes-of entries part n t in omega (arith, l, p.first, p.end)))

which-submission : (o : Option Submission) → is_some o ≡ true → (s : Submission) × (o ≡ Some s)
which-submission None h = absurd cc
which-submission (Some s) h = (s, refl)

-- the first that is left is submitted next, and its members are passed
pub first-left : (entries : List ScriptEntry) → are_in_order entries ≡ true → (next : ℕ) (part : Part) (s : Submission)
    → submission_at entries next ≡ Some s → next < part.end → part.end ≤ length entries
    → to_submit entries (part_from next part)
    ≡ next ∷ to_submit entries (part_from (next + 1 + s.members) part)
first-left entries order next part s is below within = first-below
    (passing entries (part_from next part)) (passing entries (part_from (next + 1 + s.members) part)) next
    (length entries) (omega (arith, below, within))
    (of-passes entries (part_from next part) next
    (record { first = omega arith; end = below; submitted = ap is_some is }))
    (λ k l. false_from_ne_true _ (λ t.
    let p = passes-of entries (part_from next part) k t in omega (arith, l, p.first)))
    (λ k l. false_from_ne_true _ (λ t.
    let p = passes-of entries (part_from (next + 1 + s.members) part) k t in omega (arith, l, p.first)))
    (λ k l. same-tests _ _
    (λ t.
    let p = passes-of entries (part_from next part) k t in
    of-passes entries (part_from (next + 1 + s.members) part) k
    (record { first = past k l p.submitted; end = p.end; submitted = p.submitted }))
    (λ t.
    let p = passes-of entries (part_from (next + 1 + s.members) part) k t in
    of-passes entries (part_from next part) k
    (record { first = omega (arith, l); end = p.end; submitted = p.submitted })))
  where
    past : (k : ℕ) → next < k → is_some (submission_at entries k) ≡ true → next + 1 + s.members ≤ k
    past k l some = ⊎_elim
        (λ inner.
        let same : member_label next (k - next - 1) ≡ k = omega (arith, l) in
        let t = which-submission (submission_at entries k) some in
        absurd (not-submitted entries order next k t.0
        (subst (IsFetchedAt entries next) same
        (member-at entries order next (k - next - 1) s is (omega (arith, l, inner))))
        t.1))
        (λ outer. outer)
        (cases_lt k (next + 1 + s.members))

-- ---- again or not

pub accepted-once : (p : RetryPolicy) (r : ℕ) (t : Ticket) → submits_again p r (Submit (Accepted t)) ≡ false
accepted-once GiveUp r t = refl
accepted-once Again r t = refl
accepted-once (AtMost most) r t = refl

pub dropped-once : (p : RetryPolicy) (r : ℕ) (c : Cause) → submits_again p r (Submit (Dropped c)) ≡ false
dropped-once GiveUp r c = refl
dropped-once Again r c = refl
dropped-once (AtMost most) r c = refl

again-same : (reply : Reply) (r r' : ℕ) → submits_again Again r reply ≡ submits_again Again r' reply
again-same (Submit (Retry cause)) r r' = refl
again-same reply r r' = refl

module _ (entries : List ScriptEntry) (n : ℕ) (left : List ℕ) (s : Submission)
    (is : submission_at entries n ≡ Some s) where
  abbrev again : ℕ → Reply → Bool
  again r reply = passes (λ (s : Submission). submits_again s.retry r reply) (submission_at entries n)

  pub again-by : (r : ℕ) (reply : Reply) → again r reply ≡ submits_again s.retry r reply
  again-by r reply = ap (passes (λ (s : Submission). submits_again s.retry r reply)) is

  abbrev Behind : Bool → ℕ → LogLine → List LogLine → Bool
  Behind b r line lines = is_of_number n line.doer
      && submit_in_order entries (cond b (n ∷ left) left) (cond b (r + 1) 0) lines

  -- one that is submitted without end is not counted
  pub not-counted : s.retry ≡ Again → (lines : List LogLine) (r r' : ℕ)
      → submit_in_order entries (n ∷ left) r lines ≡ submit_in_order entries (n ∷ left) r' lines
  not-counted e [] r r' = refl
  not-counted e (line ∷ lines) r r' =
      ap (λ b. Behind b r line lines) (is_again r)
      ∙ by-again (not-counted e lines (r + 1) (r' + 1)) (submits_again Again r line.step.reply)
      ∙ ap (λ b. Behind b r' line lines) (again-same line.step.reply r r' ∙ sym (is_again r'))
    where
      is_again : (k : ℕ) → again k line.step.reply ≡ submits_again Again k line.step.reply
      is_again k = again-by k line.step.reply ∙ ap (λ p. submits_again p k line.step.reply) e

      by-again : submit_in_order entries (n ∷ left) (r + 1) lines ≡ submit_in_order entries (n ∷ left) (r' + 1) lines
          → (b : Bool) → Behind b r line lines ≡ Behind b r' line lines
      by-again more true = ap (λ b. is_of_number n line.doer && b) more
      by-again more false = refl

  -- what the line says, and what the lines behind it do
  pub record FirstLine (r : ℕ) (line : LogLine) (lines : List LogLine) : Type 0 where
    pub about : is_of_number n line.doer ≡ true
    pub rest : submit_in_order entries (cond (submits_again s.retry r line.step.reply) (n ∷ left) left)
        (cond (submits_again s.retry r line.step.reply) (r + 1) 0) lines ≡ true

  pub first-line : (r : ℕ) (line : LogLine) (lines : List LogLine)
      → submit_in_order entries (n ∷ left) r (line ∷ lines) ≡ true → FirstLine r line lines
  first-line r line lines h =
      let p = and_parts _ _ h in
      record {
        about = p.0;
        rest = subst (λ b. submit_in_order entries (cond b (n ∷ left) left) (cond b (r + 1) 0) lines ≡ true)
            (again-by r line.step.reply) p.1;
      }

-- ---- a turn

-- the client submits the line's entry next
pub record HasTurn (script : Script) (places : List ClientPlace) (c : ℕ) (client : ClientScript) (place : ClientPlace)
    (line : LogLine) (lines : List LogLine) : Type 0 where
  pub entry : ScriptEntry
  pub submission : Submission
  pub at_entry : slice_get script.entries.items place.next ≡ Some entry
  pub origin : entry.origin ≡ Submitted submission
  pub below : place.next < client.part.end
  pub whole : to_submit script.entries.items (part_from place.next client.part)
      ≡ place.next ∷ to_submit script.entries.items
      (part_from (place.next + 1 + submission.members) client.part)
  pub line_is : FirstLine script.entries.items place.next
      (to_submit script.entries.items (part_from (place.next + 1 + submission.members) client.part)) submission
      (ap (option_and_then (λ (entry : ScriptEntry). origin_submission entry.origin)) at_entry ∙ ap origin_submission origin)
      place.refusals line lines

module _ (script : Script) (places : List ClientPlace) (c : ℕ) (client : ClientScript) (place : ClientPlace)
    (at_client : slice_get script.clients.items c ≡ Some client) (at_place : slice_get places c ≡ Some place)
    (stands : StandsIn script.entries.items client place) (line : LogLine) (lines : List LogLine)
    (order : submit_in_order script.entries.items (to_submit script.entries.items (part_from place.next client.part))
    place.refusals (line ∷ lines) ≡ true) where
  abbrev entries : List ScriptEntry
  entries = script.entries.items

  pub has-turn : HasTurn script places c client place line lines
  has-turn = ⊎_elim
      (λ below.
      let x = some-at entries place.next (omega (arith, below, within)) in
      by-origin below x.0 x.1 x.0.origin refl)
      (λ past. absurd (none (none-left entries (part_from place.next client.part) past)))
      (cases_lt place.next client.part.end)
    where
      within : client.part.end ≤ length entries
      within = (parts-below 0 (length entries) script.clients.items c client (fits script).parts at_client).1

      none : to_submit entries (part_from place.next client.part) ≡ [] → ⊥
      none e =
          let no : false ≡ true = sym (ap (λ left. submit_in_order entries left place.refusals (line ∷ lines)) e)
          ∙ order in
          absurd cc

      by-origin : place.next < client.part.end → (entry : ScriptEntry) → slice_get entries place.next ≡ Some entry
          → (o : Origin) → entry.origin ≡ o → HasTurn script places c client place line lines
      by-origin below entry at (Fetched batch) q = absurd (not-boundary entries (fits script).order batch place.next
          (record { entry = entry; at = at; origin = q }) stands.boundary)
      by-origin below entry at (Submitted s) q =
          let is : submission_at entries place.next ≡ Some s =
          ap (option_and_then (λ (entry : ScriptEntry). origin_submission entry.origin)) at ∙ ap origin_submission q in
          let whole = first-left entries (fits script).order place.next client.part s is below within in
          record {
            entry = entry;
            submission = s;
            at_entry = at;
            origin = q;
            below = below;
            whole = whole;
            line_is = first-line entries place.next
                (to_submit entries (part_from (place.next + 1 + s.members) client.part)) s is place.refusals line lines
                (subst (λ left. submit_in_order entries left place.refusals (line ∷ lines) ≡ true) whole order);
          }

  module _ (t : HasTurn script places c client place line lines) where
    abbrev pub turn : ClientTurn
    turn = record { client = client.number; place = place; desc = t.entry.desc; submission = t.submission }

    pub turn-is : (administrators : List ℕ) (came : List Bool)
        → turn_of script (record { clients = places; administrators = administrators; came = came }) c ≡ Some turn
    turn-is administrators came =
        ap (option_and_then (λ client. option_and_then (turn_from script client) (slice_get places c))) at_client
        ∙ ap (option_and_then (turn_from script client)) at_place
        ∙ ap (λ b. option_and_then (turn_with client.number place)
        (option_and_then (slice_get entries) (cond b (Some place.next) None))) (lt-ltb place.next client.part.end t.below)
        ∙ ap (option_and_then (turn_with client.number place)) t.at_entry
        ∙ ap (λ o. option_map (λ (s : Submission). record {
          client = client.number;
          place = place;
          desc = t.entry.desc;
          submission = s;
        }) (origin_submission o)) t.origin

    abbrev left : List ℕ
    left = to_submit entries (part_from (place.next + 1 + t.submission.members) client.part)

    -- the lines behind it are in order from there
    abbrev pub IsInOrderFrom : ClientPlace → Type 0
    IsInOrderFrom place' = submit_in_order entries (to_submit entries (part_from place'.next client.part))
        place'.refusals lines ≡ true

    abbrev Rest : Bool → Type 0
    Rest b = submit_in_order entries (cond b (place.next ∷ left) left) (cond b (place.refusals + 1) 0) lines ≡ true

    on : Rest false → IsInOrderFrom (place_behind turn)
    on h = h

    again-counted : Rest true → IsInOrderFrom (record { next = place.next; refusals = place.refusals + 1 })
    again-counted h = subst (λ l. submit_in_order entries l (place.refusals + 1) lines ≡ true) (sym t.whole) h

    is : submission_at entries place.next ≡ Some t.submission
    is = ap (option_and_then (λ (entry : ScriptEntry). origin_submission entry.origin)) t.at_entry
        ∙ ap origin_submission t.origin

    again-uncounted : t.submission.retry ≡ Again → Rest true → IsInOrderFrom place
    again-uncounted e h = subst (λ l. submit_in_order entries l place.refusals lines ≡ true) (sym t.whole)
        (not-counted entries place.next left t.submission is e lines place.refusals (place.refusals + 1) ∙ h)

    retried : (cause : Cause) (p : RetryPolicy) → t.submission.retry ≡ p
        → Rest (submits_again p place.refusals (Submit (Retry cause))) → IsInOrderFrom (place_by p turn)
    retried cause GiveUp e h = on h
    retried cause Again e h = again-uncounted e h
    retried cause (AtMost most) e h = by-count (nat_lt place.refusals most) h
      where
        by-count : (b : Bool) → Rest b
            → IsInOrderFrom (cond b (record place { refusals = place.refusals + 1 }) (place_behind turn))
        by-count true h = again-counted h
        by-count false h = on h

    behind : (reply : Reply) → is_of_submission reply ≡ true → (reply ≡ Submit Full → ⊥)
        → Rest (submits_again t.submission.retry place.refusals reply) → IsInOrderFrom (place_after reply turn)
    behind (Submit (Accepted ticket)) of some h =
        on (subst Rest (accepted-once t.submission.retry place.refusals ticket) h)
    behind (Submit (Dropped cause)) of some h =
        on (subst Rest (dropped-once t.submission.retry place.refusals cause) h)
    behind (Submit (Retry cause)) of some h = retried cause t.submission.retry refl h
    behind (Submit Full) of some h = absurd (some refl)
    behind (Dispatch answer) of some h = absurd cc
    behind (Fetch answer) of some h = absurd cc
    behind (Start answer) of some h = absurd cc
    behind (Finish answer) of some h = absurd cc
    behind (Issue answer) of some h = absurd cc
    behind (Poll answer) of some h = absurd cc
    behind (Write answer) of some h = absurd cc
    behind (Clear answer) of some h = absurd cc

    pub behind-line : is_of_submission line.step.reply ≡ true → (line.step.reply ≡ Submit Full → ⊥)
        → IsInOrderFrom (place_after line.step.reply turn)
    behind-line of some = behind line.step.reply of some t.line_is.rest
