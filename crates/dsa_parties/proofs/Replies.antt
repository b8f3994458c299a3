-- Where parties stand after a reply does not depend on names.
use Rattle.dsa_parties.specs.declared.watches.Became.TheVariants as became
use Rattle.dsa_parties.specs.declared.watches.Replied.TheVariants as replied
use Rattle.dsa_parties.specs.declared.watches.Watch.TheVariants as watch
use Rattle.std.proofs.Common.{◌≡◌, ◌&&◌, ◌||◌, ℕ, ◌+◌, true, cond, List, Option, Some, None, refl, sym, ap, ◌∙◌, slice_get}
use Rattle.std.specs.{Prelude.{slice_set}, Option.{option_map_or}, List.{list_any}}
use Rattle.dsa_book.specs.declared.fate.FateRow.{FateRow}
use Rattle.dsa_book.specs.declared.answer.{Reply.{Reply}, SubmitAnswer.TheVariants.{Accepted}}
use Rattle.dsa_book.specs.declared.answer.Reply.TheVariants.{Submit, Dispatch, Fetch, Start, Finish, Issue}
use Rattle.dsa_book.specs.declared.answer.{DispatchAnswer.TheVariants.{Taken}}
use Rattle.dsa_book.specs.declared.answer.FetchAnswer.TheVariants.{Fetched}
use Rattle.dsa_book.specs.declared.answer.StartAnswer.TheVariants.{Started}
use Rattle.dsa_book.specs.declared.answer.Ticket.{Ticket}
use Rattle.dsa_keys.specs.Labels.{Labels, labelled_reply}
use Rattle.dsa_parties.specs.declared.places.{ClientPlace.{ClientPlace}, ClientTurn.{ClientTurn}, Move.{Move}}
use Rattle.dsa_parties.specs.declared.places.Move.TheVariants.{Client, Administrator, Dispatch, Fetch, Start, Finish}
use Rattle.dsa_parties.specs.declared.script.{Act.{Act}, Script.{Script}}
use Rattle.dsa_parties.specs.declared.script.Act.TheVariants.{Issue}
use Rattle.dsa_parties.specs.declared.watches.{Became.{Became}, Replied.{Replied}}
use Rattle.dsa_parties.specs.declared.watches.Watch.{Watch}
use Rattle.dsa_parties.specs.Watches.{is_submitted_so, is_replied_so, is_answered_so, is_end_so, submits_label}
use Rattle.dsa_parties.specs.Watches.{asks_for_act, is_to_do, is_watch_seen, came_with, came_after}
use Rattle.dsa_parties.specs.Standing.{Standing, turn_of, next_act, place_after, is_through, act_after, standing_after}

-- a fact of each reply by labels
by-reply : (labels : Labels) (P : Reply → Reply → Type 0) → ((reply : Reply) → P reply reply)
    → ((t u : Ticket) → P (Submit (Accepted t)) (Submit (Accepted u)))
    → ((t u : Ticket) (queue : ℕ) → P (Dispatch (Taken t queue)) (Dispatch (Taken u queue)))
    → ((t u : Ticket) → P (Fetch (Fetched t)) (Fetch (Fetched u)))
    → ((t u : Ticket) → P (Start (Started t)) (Start (Started u)))
    → (reply : Reply) → P (labelled_reply labels reply) reply
by-reply labels P same accepted taken fetched started (Submit (Accepted t)) = accepted _ t
by-reply labels P same accepted taken fetched started (Dispatch (Taken t queue)) = taken _ t queue
by-reply labels P same accepted taken fetched started (Fetch (Fetched t)) = fetched _ t
by-reply labels P same accepted taken fetched started (Start (Started t)) = started _ t
by-reply labels P same accepted taken fetched started reply = same reply

-- a reply with a ticket ends each act
ends-act : (a b : Reply) → ((act : Act) → is_through a act ≡ true) → ((act : Act) → is_through b act ≡ true)
    → (act : Act) → is_through a act ≡ is_through b act
ends-act a b h k act = h act ∙ sym (k act)

accepted-ends : (t : Ticket) (act : Act) → is_through (Submit (Accepted t)) act ≡ true
accepted-ends t (Issue command again) = refl
accepted-ends t act = refl

taken-ends : (t : Ticket) (queue : ℕ) (act : Act) → is_through (Dispatch (Taken t queue)) act ≡ true
taken-ends t queue (Issue command again) = refl
taken-ends t queue act = refl

fetched-ends : (t : Ticket) (act : Act) → is_through (Fetch (Fetched t)) act ≡ true
fetched-ends t (Issue command again) = refl
fetched-ends t act = refl

started-ends : (t : Ticket) (act : Act) → is_through (Start (Started t)) act ≡ true
started-ends t (Issue command again) = refl
started-ends t act = refl

place-same : (labels : Labels) (turn : ClientTurn) (reply : Reply)
    → place_after (labelled_reply labels reply) turn ≡ place_after reply turn
place-same labels turn = by-reply labels (λ a b. place_after a turn ≡ place_after b turn) (λ r. refl) (λ t u. refl)
    (λ t u q. refl) (λ t u. refl) (λ t u. refl)

through-same : (labels : Labels) (act : Act) (reply : Reply)
    → is_through (labelled_reply labels reply) act ≡ is_through reply act
through-same labels act = by-reply labels (λ a b. is_through a act ≡ is_through b act) (λ r. refl)
    (λ t u. accepted-ends t act ∙ sym (accepted-ends u act))
    (λ t u q. taken-ends t q act ∙ sym (taken-ends u q act))
    (λ t u. fetched-ends t act ∙ sym (fetched-ends u act))
    (λ t u. started-ends t act ∙ sym (started-ends u act))

abbrev with_clients : Standing → List ClientPlace → Standing
with_clients stand clients = record stand { clients = clients }

abbrev with_acts : Standing → List ℕ → Standing
with_acts stand acts = record stand { administrators = acts }

abbrev acts_after : Standing → ℕ → Reply → ℕ → Option Act → List ℕ
acts_after stand a reply next act =
    option_map_or (λ act. slice_set stand.administrators a (act_after reply next act)) act stand.administrators

pub standing-same : (script : Script) (stand : Standing) (move : Move) (labels : Labels) (reply : Reply)
    → standing_after script stand move (labelled_reply labels reply) ≡ standing_after script stand move reply
standing-same script stand (Client c) labels reply = go (turn_of script stand c)
  where
    go : (t : Option ClientTurn)
        → with_clients stand (option_map_or
        (λ turn. slice_set stand.clients c (place_after (labelled_reply labels reply) turn)) t stand.clients)
        ≡ with_clients stand (option_map_or
        (λ turn. slice_set stand.clients c (place_after reply turn)) t stand.clients)
    go None = refl
    go (Some turn) = ap (λ place. with_clients stand (slice_set stand.clients c place)) (place-same labels turn reply)
standing-same script stand (Administrator a) labels reply = go (next_act script stand a)
  where
    by-act : (next : ℕ) (act : Option Act)
        → with_acts stand (acts_after stand a (labelled_reply labels reply) next act)
        ≡ with_acts stand (acts_after stand a reply next act)
    by-act next None = refl
    by-act next (Some act) =
        ap (λ b. with_acts stand (slice_set stand.administrators a (cond b (next + 1) next)))
        (through-same labels act reply)

    go : (next : Option ℕ)
        → with_acts stand (option_map_or (λ next. acts_after stand a (labelled_reply labels reply) next
        (slice_get script.acts.items next)) next stand.administrators)
        ≡ with_acts stand (option_map_or (λ next. acts_after stand a reply next (slice_get script.acts.items next))
        next stand.administrators)
    go None = refl
    go (Some next) = by-act next (slice_get script.acts.items next)
standing-same script stand (Dispatch e) labels reply = refl
standing-same script stand (Fetch e) labels reply = refl
standing-same script stand (Start e) labels reply = refl
standing-same script stand (Finish e label outcome) labels reply = refl

-- ---- what is remembered

accepted-alike : (so : Became) (t u : Ticket)
    → is_submitted_so so (Accepted t) ≡ is_submitted_so so (Accepted u)
accepted-alike became.Accepted t u = refl
accepted-alike so t u = refl

answered-same : (labels : Labels) (so : Became) (reply : Reply)
    → is_answered_so so (labelled_reply labels reply) ≡ is_answered_so so reply
answered-same labels so = by-reply labels (λ a b. is_answered_so so a ≡ is_answered_so so b) (λ r. refl)
    (accepted-alike so) (λ t u q. refl) (λ t u. refl) (λ t u. refl)

replied-same : (labels : Labels) (so : Replied) (reply : Reply)
    → is_replied_so so (labelled_reply labels reply) ≡ is_replied_so so reply
replied-same labels replied.Ended = by-reply labels (λ a b. is_replied_so replied.Ended a ≡ is_replied_so replied.Ended b)
    (λ r. refl) (λ t u. refl) (λ t u q. refl) (λ t u. refl) (λ t u. refl)
replied-same labels replied.Active = by-reply labels (λ a b. is_replied_so replied.Active a ≡ is_replied_so replied.Active b)
    (λ r. refl) (λ t u. refl) (λ t u q. refl) (λ t u. refl) (λ t u. refl)
replied-same labels replied.Refused = by-reply labels (λ a b. is_replied_so replied.Refused a ≡ is_replied_so replied.Refused b)
    (λ r. refl) (λ t u. refl) (λ t u q. refl) (λ t u. refl) (λ t u. refl)
replied-same labels replied.Finished = by-reply labels (λ a b. is_replied_so replied.Finished a ≡ is_replied_so replied.Finished b)
    (λ r. refl) (λ t u. refl) (λ t u q. refl) (λ t u. refl) (λ t u. refl)
replied-same labels replied.Nothing = by-reply labels (λ a b. is_replied_so replied.Nothing a ≡ is_replied_so replied.Nothing b)
    (λ r. refl) (λ t u. refl) (λ t u q. refl) (λ t u. refl) (λ t u. refl)
replied-same labels replied.Written = by-reply labels (λ a b. is_replied_so replied.Written a ≡ is_replied_so replied.Written b)
    (λ r. refl) (λ t u. refl) (λ t u q. refl) (λ t u. refl) (λ t u. refl)
replied-same labels replied.Cleared = by-reply labels (λ a b. is_replied_so replied.Cleared a ≡ is_replied_so replied.Cleared b)
    (λ r. refl) (λ t u. refl) (λ t u q. refl) (λ t u. refl) (λ t u. refl)

seen-same-by-label : (script : Script) (stand : Standing) (move : Move) (labels : Labels) (reply : Reply)
    (ends : List FateRow) (w : Watch)
    → is_watch_seen script stand move (labelled_reply labels reply) ends w ≡ is_watch_seen script stand move reply ends w
seen-same-by-label script stand move labels reply ends (watch.Entry label so) =
    ap (λ b. (submits_label script stand move label && b) || list_any (is_end_so label so) ends)
    (answered-same labels so reply)
seen-same-by-label script stand move labels reply ends (watch.Act act so) =
    ap (λ b. asks_for_act script stand move act && b) (replied-same labels so reply)
seen-same-by-label script stand move labels reply ends (watch.Before label act) =
    ap (λ b. submits_label script stand move label && b
    && is_to_do act script.administrators.items stand.administrators) (answered-same labels became.Accepted reply)

pub came-same : (script : Script) (stand : Standing) (move : Move) (labels : Labels) (reply : Reply)
    (ends : List FateRow)
    → came_after script stand move (labelled_reply labels reply) ends ≡ came_after script stand move reply ends
came-same script stand move labels reply ends =
    ap (λ seen. came_with seen script.watches.items stand.came)
    (λ i w. seen-same-by-label script stand move labels reply ends w i)
