-- What a turn of a client is, and where the client stands after it.
use Rattle.std.proofs.Common.{◌≡◌, ℕ, ◌+◌, ◌<◌, Bool, true, false, cond, Option, Some, None, refl, ap}
use Rattle.std.proofs.Common.{◌∙◌, subst, ◌⊎◌, inl, inr, arith, slice_get}
use Rattle.std.specs.Prelude.{option_map, option_and_then, nat_lt}
use Rattle.std.proofs.lemmas.{Bool.{ltb-true, cond_both}, Option.{same_Some}}
use Rattle.dsa_book.specs.declared.answer.{Reply.{Reply}, SubmitAnswer.TheVariants.{Accepted, Retry, Dropped, Full}}
use Rattle.dsa_book.specs.declared.answer.Reply.TheVariants.{Submit, Dispatch, Fetch, Start, Finish, Issue, Poll, Write}
use Rattle.dsa_book.specs.declared.answer.Reply.TheVariants.{Clear}
use Rattle.dsa_book.proofs.Gains.{named_by}
use Rattle.dsa_keys.specs.Labels.{Labels, labelled_reply}
use Rattle.dsa_parties.specs.declared.places.{ClientPlace.{ClientPlace}, ClientTurn.{ClientTurn}}
use Rattle.dsa_parties.specs.declared.script.{ClientScript.{ClientScript}, Script.{Script}, ScriptEntry.{ScriptEntry}}
use Rattle.dsa_parties.specs.declared.script.Submission.{Submission}
use Rattle.dsa_parties.specs.declared.script.RetryPolicy.{RetryPolicy, TheVariants.{GiveUp, Again, AtMost}}
use Rattle.dsa_parties.specs.Scripts.{origin_submission, submission_at}
use Rattle.dsa_parties.specs.Standing.{Standing, turn_with, turn_from, turn_of, place_behind, place_by}
use Rattle.dsa_parties.specs.Standing.{place_after}

-- ---- a turn

pub record IsTurn (script : Script) (stand : Standing) (c : ℕ) (turn : ClientTurn) : Type 0 where
  pub client : ClientScript
  pub entry : ScriptEntry
  pub at_client : slice_get script.clients.items c ≡ Some client
  pub at_place : slice_get stand.clients c ≡ Some turn.place
  pub at_entry : slice_get script.entries.items turn.place.next ≡ Some entry
  pub number : client.number ≡ turn.client
  pub desc : entry.desc ≡ turn.desc
  pub below : turn.place.next < client.part.end
  pub submission : origin_submission entry.origin ≡ Some turn.submission

pub is-turn : (script : Script) (stand : Standing) (c : ℕ) (turn : ClientTurn) → turn_of script stand c ≡ Some turn
    → IsTurn script stand c turn
is-turn script stand c turn h = with-client (slice_get script.clients.items c) refl h
  where
    with-submission : (client : ClientScript) (place : ClientPlace) (entry : ScriptEntry)
        → slice_get script.clients.items c ≡ Some client → slice_get stand.clients c ≡ Some place
        → place.next < client.part.end → slice_get script.entries.items place.next ≡ Some entry
        → (o : Option Submission) → origin_submission entry.origin ≡ o
        → option_map (λ (s : Submission). record {
          client = client.number;
          place = place;
          desc = entry.desc;
          submission = s;
        }) o ≡ Some turn → IsTurn script stand c turn
    with-submission client place entry a b l e None q h = absurd cc
    with-submission client place entry a b l e (Some s) q h = subst (IsTurn script stand c) (same_Some _ turn h)
        (record {
          client = client;
          entry = entry;
          at_client = a;
          at_place = b;
          at_entry = e;
          number = refl;
          desc = refl;
          below = l;
          submission = q;
        })

    with-entry : (client : ClientScript) (place : ClientPlace)
        → slice_get script.clients.items c ≡ Some client → slice_get stand.clients c ≡ Some place
        → place.next < client.part.end → (o : Option ScriptEntry) → slice_get script.entries.items place.next ≡ o
        → option_and_then (turn_with client.number place) o ≡ Some turn → IsTurn script stand c turn
    with-entry client place a b l None q h = absurd cc
    with-entry client place a b l (Some entry) q h =
        with-submission client place entry a b l q (origin_submission entry.origin) refl h

    with-next : (client : ClientScript) (place : ClientPlace)
        → slice_get script.clients.items c ≡ Some client → slice_get stand.clients c ≡ Some place
        → (b : Bool) → nat_lt place.next client.part.end ≡ b
        → option_and_then (turn_with client.number place)
        (option_and_then (slice_get script.entries.items) (cond b (Some place.next) None)) ≡ Some turn
        → IsTurn script stand c turn
    with-next client place a b false q h = absurd cc
    with-next client place a b true q h = with-entry client place a b (ltb-true _ _ q)
        (slice_get script.entries.items place.next) refl h

    with-place : (client : ClientScript) → slice_get script.clients.items c ≡ Some client → (o : Option ClientPlace)
        → slice_get stand.clients c ≡ o → option_and_then (turn_from script client) o ≡ Some turn
        → IsTurn script stand c turn
    with-place client a None q h = absurd cc
    with-place client a (Some place) q h = with-next client place a q (nat_lt place.next client.part.end) refl h

    with-client : (o : Option ClientScript) → slice_get script.clients.items c ≡ o
        → option_and_then (λ client. option_and_then (turn_from script client) (slice_get stand.clients c)) o
        ≡ Some turn → IsTurn script stand c turn
    with-client None q h = absurd cc
    with-client (Some client) q h = with-place client q (slice_get stand.clients c) refl h

pub turn-submission : {script : Script} {stand : Standing} {c : ℕ} {turn : ClientTurn} → IsTurn script stand c turn
    → submission_at script.entries.items turn.place.next ≡ Some turn.submission
turn-submission t = ap (option_and_then (λ (entry : ScriptEntry). origin_submission entry.origin)) t.at_entry ∙ t.submission

-- ---- after a turn

-- the client submits the same again, or has gone on
abbrev pub WentOn : ClientTurn → ClientPlace → Type 0
WentOn turn place = (place.next ≡ turn.place.next) ⊎ (place.next ≡ turn.place.next + 1 + turn.submission.members)

went-by : (policy : RetryPolicy) (turn : ClientTurn) → WentOn turn (place_by policy turn)
went-by GiveUp turn = inr refl
went-by Again turn = inl refl
went-by (AtMost most) turn = cond_both (nat_lt turn.place.refusals most)
    (record turn.place { refusals = turn.place.refusals + 1 }) (place_behind turn) (WentOn turn) (λ t. inl refl)
    (λ f. inr refl)

pub went-on : (reply : Reply) (turn : ClientTurn) → WentOn turn (place_after reply turn)
went-on (Submit (Accepted ticket)) turn = inr refl
went-on (Submit (Dropped cause)) turn = inr refl
went-on (Submit (Retry cause)) turn = went-by turn.submission.retry turn
went-on (Submit Full) turn = inl refl
went-on (Dispatch answer) turn = inl refl
went-on (Fetch answer) turn = inl refl
went-on (Start answer) turn = inl refl
went-on (Finish answer) turn = inl refl
went-on (Issue answer) turn = inl refl
went-on (Poll answer) turn = inl refl
went-on (Write answer) turn = inl refl
went-on (Clear answer) turn = inl refl

-- the reply to a submission
abbrev pub is_of_submission : Reply → Bool
is_of_submission (Submit answer) = true
is_of_submission reply = false

-- a client whose submission got a name has gone on
pub named-on : (labels : Labels) (reply : Reply) (turn : ClientTurn) → is_of_submission reply ≡ true
    → 0 < named_by reply → place_after (labelled_reply labels reply) turn ≡ place_behind turn
named-on labels (Submit (Accepted ticket)) turn t l = refl
named-on labels (Submit (Dropped cause)) turn t l = absurd (omega (arith, l))
named-on labels (Submit (Retry cause)) turn t l = absurd (omega (arith, l))
named-on labels (Submit Full) turn t l = absurd (omega (arith, l))
named-on labels (Dispatch answer) turn t l = absurd cc
named-on labels (Fetch answer) turn t l = absurd cc
named-on labels (Start answer) turn t l = absurd cc
named-on labels (Finish answer) turn t l = absurd cc
named-on labels (Issue answer) turn t l = absurd cc
named-on labels (Poll answer) turn t l = absurd cc
named-on labels (Write answer) turn t l = absurd cc
named-on labels (Clear answer) turn t l = absurd cc
