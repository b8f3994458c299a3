-- One more record.
use Rattle.dsa_book.specs.declared.answer.Reply.TheVariants as reply
use Rattle.std.proofs.Common.{◌≡◌, ℕ, true, List, [], ◌∷◌, ◌++◌, Option, refl, ap, ◌∙◌, ◌+◌, length, map}
use Rattle.std.proofs.Common.{append_assoc, append-nil, add-zero, subst, filter_map}
use Rattle.std.proofs.lemmas.List.{map-append, Elements.{filter_map-append}}
use Rattle.dsa_regs.specs.declared.Caps.{Caps}
use Rattle.dsa_book.specs.declared.answer.{Ticket.{Ticket}, SubmitAnswer.TheVariants.{Accepted}, Reply.{Reply}}
use Rattle.dsa_book.specs.declared.answer.FetchAnswer.TheVariants.{Fetched}
use Rattle.dsa_book.specs.Machine.{is_run_after, stored_steps}
use Rattle.dsa_book.proofs.Gains.{named_by}
use Rattle.dsa_accounts.proofs.Totals.{name_of}
use Rattle.dsa_device.specs.{Running.{Running, running_at_first, IsReplay}, Runs.{IsRunOf}}
use Rattle.dsa_device.proofs.{Runs.{IsRunOf-push}, Steps.{answered-replay, grows}}
use Rattle.dsa_scenario.specs.declared.{actions.Action.{Action}, run.Record.{Record, TheVariants.{Stepped, Refused}}}
use Rattle.dsa_scenario.specs.Run.{given_by_reply, ticket_given_by, event_of, answered_by, AreOf, step_of}
use Rattle.dsa_scenario.specs.Run.{steps_of_records, Leads}
use Rattle.dsa_scenario.proofs.Names.{IsNamed, gives-in_turn}

-- one action more, with its record
pub AreOf-push : (before : List Record) (actions : List Action) (done : List Record) (a : Action) (r : Record)
    → AreOf before actions done → answered_by r ≡ event_of (before ++ done) a
    → AreOf before (actions ++ a ∷ []) (done ++ r ∷ [])
AreOf-push before [] [] a r h fits =
    let P : List Record → Type 0 = λ b. answered_by r ≡ event_of b a in
    (subst P (append-nil before) fits, tt)
AreOf-push before [] (x ∷ xs) a r h fits = absurd h
AreOf-push before (b ∷ bs) [] a r h fits = absurd h
AreOf-push before (b ∷ bs) (x ∷ xs) a r h fits =
    (h.0, AreOf-push (before ++ x ∷ []) bs xs a r h.1 (rw append_assoc fits))

-- the name that a record gives, where it gives one, and the name that comes next
pub gives : (now new : Running) (entry : Record) → Leads now entry new
    → IsNamed (name_of now.state) (ticket_given_by entry) × (name_of new.state
    ≡ name_of now.state + length (filter_map ticket_given_by (entry ∷ [])))
gives now new (Stepped step) leads =
    let told = gives-in_turn now new step.event step.reply leads in
    (told.given, told.next ∙ ap (λ n. name_of now.state + n) (counted step.reply))
  where
    counted : (r : Reply) → named_by r ≡ length (filter_map (λ (x : Option Ticket). x) (given_by_reply r ∷ []))
    counted (reply.Submit (Accepted t)) = refl
    counted (reply.Fetch (Fetched t)) = refl
    counted _ = refl
gives now new (Refused fault) same = (tt, rw (same, add-zero) refl)

-- the device has answered as its history says, and goes on to
pub record Goes (first now : Running) (records : List Record) : Type 0 where
  pub run : IsRunOf first (map (λ step. step.event) (steps_of_records records)) [] (steps_of_records records) now
  pub room : now.room ≡ first.room
  pub anew : now.anew ≡ first.anew
  pub replay : IsReplay now

-- as one has whose history is that of a run
pub goes_by : (first now : Running) (records : List Record)
    → is_run_after first.caps first.capacity first.history (steps_of_records records) ≡ true
    → (now.caps ≡ first.caps) × (now.capacity ≡ first.capacity) × (now.room ≡ first.room) × (now.anew ≡ first.anew)
    → now.history ≡ first.history ++ stored_steps (steps_of_records records) → IsReplay now → Goes first now records
goes_by first now records allowed same history replay = record {
  run = record {
    steps = steps_of_records records;
    added = refl;
    events_are = refl;
    allowed = allowed;
    same_caps = same.0;
    same_capacity = same.1;
    history = history;
    replayed = rw same.0 at replay.replayed;
  };
  room = same.2;
  anew = same.3;
  replay = replay;
}

-- a new device has gone nowhere
pub goes_nowhere : (caps : Caps) (capacity : ℕ) → IsReplay (running_at_first caps capacity)
    → Goes (running_at_first caps capacity) (running_at_first caps capacity) []
goes_nowhere caps capacity = goes_by (running_at_first caps capacity) (running_at_first caps capacity) [] refl
    (refl, refl, refl, refl) refl

-- with one record more
pub goes_on : (first now new : Running) (records : List Record) (entry : Record) → Goes first now records
    → Leads now entry new → Goes first new (records ++ entry ∷ [])
goes_on first now new records (Stepped step) h leads =
    let g = grows now new step.event step.reply leads in
    record {
      run = IsRunOf-push _ _ _ _ _ _ _ _ _ _ h.replay h.run leads
          (rw (filter_map-append, map-append)) (filter_map-append step_of records (Stepped step ∷ []));
      room = g.room ∙ h.room;
      anew = g.anew ∙ h.anew;
      replay = answered-replay now new step.event step.reply h.replay leads;
    }
goes_on first now new records (Refused fault) h same = record {
  run = rw (filter_map-append, append-nil, same) h.run;
  room = rw same h.room;
  anew = rw same h.anew;
  replay = rw same h.replay;
}
