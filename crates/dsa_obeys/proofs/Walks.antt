-- A log that obeys a script, line by line, is a walk of the script's parties.
use Rattle.dsa_book.specs.declared.answer.Reply.TheVariants as reply
use Rattle.std.proofs.Common.{◌≡◌, ℕ, zero, suc, Bool, true, false, cond, not, List, [], ◌∷◌, ◌++◌, map, filter, find}
use Rattle.std.proofs.Common.{slice_get, Option, Some, None, refl, sym, ap, ◌∙◌, subst, inl, inr, ⊎_elim, arith}
use Rattle.std.proofs.Common.{unwrap_or, length, ◌⊎◌}
use Rattle.std.specs.{Prelude.{option_map, option_and_then}, List.{list_all}}
use Rattle.std.proofs.lemmas.{Bool.{and_parts, and_from, or_cases, not-true}, Option.{same_Some, slice_get_within}}
use Rattle.std.proofs.lemmas.List.Elements.{filter-append}
use Rattle.dsa_base.{specs.{Rows.{passes}, Numbers.{numbers_below}}}
use Rattle.dsa_regs.specs.declared.Caps.{Caps}
use Rattle.dsa_book.specs.declared.answer.{Reply.{Reply}, FetchAnswer.TheVariants.{NoBatch, AllFetched}}
use Rattle.dsa_book.specs.declared.answer.FinishAnswer.TheVariants.{Gone}
use Rattle.dsa_book.specs.declared.event.{Step.{Step}}
use Rattle.dsa_book.specs.State.{State}
use Rattle.dsa_book.specs.Machine.{next, is_stored, is_full_reply, is_run, replay, replay_from, stored_steps}
use Rattle.dsa_book.proofs.Replay.{replay_none}
use Rattle.dsa_laws.proofs.Changes.{next_keeps}
use Rattle.dsa_keys.specs.{Labels.{Labels}, Parties.{World, world_after_all}}
use Rattle.dsa_parties.specs.declared.script.{ClientScript.{ClientScript}, Part.{Part}, Script.{Script}}
use Rattle.dsa_parties.specs.declared.script.ScriptEntry.{ScriptEntry}
use Rattle.dsa_parties.specs.{Standing.{Standing, place_first}, Offers.{parties_of}, Good.{first_world}}
use Rattle.dsa_parties.proofs.{Fits.{all-below}, Lawful.{first-good}}
use Rattle.dsa_obeys.specs.Obeys.{Doer, submits, does, fetches, works, LogLine, number_of, gives, is_event}
use Rattle.dsa_obeys.specs.Obeys.{is_by_client, is_by_administrator, event_of_entry, event_of_act, event_asked, is_work, is_due}
use Rattle.dsa_obeys.specs.Obeys.{to_submit, to_do, submit_in_order, do_in_order, client_lines, administrator_lines}
use Rattle.dsa_obeys.specs.Obeys.{are_due, is_client_in_order, is_administrator_in_order}
use Rattle.dsa_obeys.specs.Obeys.{Obeys}
use Rattle.dsa_obeys.specs.Walks.{is_in_vain, lines_of_moves, IsWalkOf}
use Rattle.dsa_obeys.proofs.{Filters.{filter-in, filter-out}, Runs.{LeadsOn, run-leads, run-behind}}
use Rattle.dsa_obeys.proofs.{Lines.{client-made, administrator-made}, Works.{works-line, fetches-line}}
use Rattle.dsa_obeys.proofs.Stands.{ClientsStand, AdministratorsStand, StandsAt, IsMade}
use Rattle.dsa_obeys.proofs.Stands.{clients-pass, administrators-pass}

-- ---- what is asked for in vain

vain-unstored : (r : Reply) → is_in_vain r ≡ true → is_stored r ≡ false
vain-unstored (reply.Fetch NoBatch) h = refl
vain-unstored (reply.Fetch AllFetched) h = refl
vain-unstored (reply.Finish Gone) h = refl
vain-unstored r h = absurd cc

vain-gives : (name : ℕ) (r : Reply) → is_in_vain r ≡ true → gives name r ≡ false
vain-gives name (reply.Fetch NoBatch) h = refl
vain-gives name (reply.Fetch AllFetched) h = refl
vain-gives name (reply.Finish Gone) h = refl
vain-gives name r h = absurd cc

-- ---- one line

-- a move, or nothing
abbrev Goes : Caps → Script → List LogLine → World Standing → LogLine → List LogLine → State → Type 0
Goes caps script before w line rest s = IsMade caps script before w line rest s
    ⊎ ((is_in_vain line.step.reply ≡ true) × (line.doer ≡ works))

module _ (caps : Caps) (script : Script) (before : List LogLine) (w : World Standing) (line : LogLine)
    (rest : List LogLine) (s : State) (stand : StandsAt caps script before w (line ∷ rest))
    (step : next w.state line.step.event line.step.reply ≡ Some s)
    (answered : is_full_reply line.step.event line.step.reply ≡ false) where
  client-asked : (c n : ℕ) → line.doer ≡ submits c n
      → passes (is_event line.step.event) (event_asked script (submits c n)) ≡ true
      → IsMade caps script before w line rest s
  client-asked c n d h = go (slice_get script.clients.items c) refl h
    where
      go : (o : Option ClientScript) → slice_get script.clients.items c ≡ o
          → passes (is_event line.step.event) (option_and_then (λ (client : ClientScript). option_and_then
          (λ (entry : ScriptEntry). event_of_entry client.number entry.desc entry.origin)
          (slice_get script.entries.items n)) o) ≡ true → IsMade caps script before w line rest s
      go None at h = absurd cc
      go (Some client) at h = client-made caps script before w line rest s stand step answered c n d client at h

  administrator-asked : (a k : ℕ) → line.doer ≡ does a k
      → passes (is_event line.step.event) (event_asked script (does a k)) ≡ true
      → IsMade caps script before w line rest s
  administrator-asked a k d h = go (slice_get script.administrators.items a) refl h
    where
      go : (o : Option Part) → slice_get script.administrators.items a ≡ o
          → passes (is_event line.step.event) (option_and_then (λ (part : Part). option_map event_of_act
          (slice_get script.acts.items k)) o) ≡ true → IsMade caps script before w line rest s
      go None at h = absurd cc
      go (Some part) at h = administrator-made caps script before w line rest s stand step answered a k d part at h

  line-goes : is_due script before w.state line ≡ true → Goes caps script before w line rest s
  line-goes due = go line.doer refl (or_cases _ _ due)
    where
      Asked : Doer → Type 0
      Asked d = passes (is_event line.step.event) (event_asked script d) ≡ true

      Works : Doer → Type 0
      Works d = is_work script before w.state d line.step.event line.step.reply ≡ true

      go : (d : Doer) → line.doer ≡ d → Asked d ⊎ Works d → Goes caps script before w line rest s
      go (submits c n) d (inl h) = inl (client-asked c n d h)
      go (submits c n) d (inr h) = absurd cc
      go (does a k) d (inl h) = inl (administrator-asked a k d h)
      go (does a k) d (inr h) = absurd cc
      go (fetches n) d (inl h) = absurd cc
      go (fetches n) d (inr h) = fetches-line caps script before w line rest s stand step answered n d
          (subst (λ z. is_work script before w.state z line.step.event line.step.reply ≡ true) (sym d) h)
      go works d (inl h) = absurd cc
      go works d (inr h) = works-line caps script before w line rest s stand step answered d
          (subst (λ z. is_work script before w.state z line.step.event line.step.reply ≡ true) (sym d) h)

  -- nothing came of it
  vain-stands : is_in_vain line.step.reply ≡ true → line.doer ≡ works → StandsAt caps script (line ∷ before) w rest
  vain-stands vain d = record {
    world = stand.world;
    named = λ name l. ap (λ b. option_and_then (λ (line : LogLine). number_of line.doer)
        (cond b (Some line) (find (λ (line : LogLine). gives name line.step.reply) before)))
        (vain-gives name line.step.reply vain) ∙ stand.named name l;
    clients = clients-pass script w.places.clients line rest (λ c. ap (is_by_client c) d) stand.clients;
    administrators = administrators-pass script w.places.administrators line rest (λ a. ap (is_by_administrator a) d)
        stand.administrators;
  }

-- ---- all lines

-- the steps of a log
abbrev steps_of : List LogLine → List Step
steps_of log = map (λ (line : LogLine). line.step) log

abbrev is_answered_step : Step → Bool
is_answered_step step = not (is_full_reply step.event step.reply)

module _ (caps : Caps) (script : Script) (end : State) where
  -- what is left of the log
  record Left (before : List LogLine) (w : World Standing) (rest : List LogLine) : Type 0 where
    stand : StandsAt caps script before w rest
    due : are_due script before w.state rest ≡ true
    leads : replay_from (Some w.state) (steps_of rest) ≡ Some end
    answered : list_all is_answered_step (steps_of rest) ≡ true

  abbrev Further : List LogLine → Type 0
  Further rest = (before : List LogLine) (w : World Standing) → Left before w rest → IsWalkOf script w rest end

  -- a move, and a walk behind it
  behind-move : (before : List LogLine) (w : World Standing) (line : LogLine) (rest : List LogLine) (s : State)
      → (m : IsMade caps script before w line rest s) → IsWalkOf script m.after rest end
      → IsWalkOf script w (line ∷ rest) end
  behind-move before w line rest s m walk = record {
    moves = m.made ∷ walk.moves;
    last = walk.last;
    leads = ap (option_and_then (λ v. world_after_all (parties_of script) v walk.moves)) m.leads ∙ walk.leads;
    lines = (λ i. m.left i ∷ unwrap_or (option_map (λ v. lines_of_moves script v walk.moves) (m.leads i)) [])
        ∙ ap (λ lines. Some line ∷ lines) walk.lines
        ∙ ap (map Some) (sym (filter-in (λ (line : LogLine). not (is_in_vain line.step.reply)) line rest
        (ap not m.moves)));
    state = walk.state;
  }

  -- nothing, and a walk behind it
  behind-nothing : (w : World Standing) (line : LogLine) (rest : List LogLine) → is_in_vain line.step.reply ≡ true
      → IsWalkOf script w rest end → IsWalkOf script w (line ∷ rest) end
  behind-nothing w line rest vain walk = record {
    moves = walk.moves;
    last = walk.last;
    leads = walk.leads;
    lines = walk.lines ∙ ap (map Some) (sym (filter-out (λ (line : LogLine). not (is_in_vain line.step.reply)) line rest
        (ap not vain)));
    state = walk.state;
  }

  module _ (before : List LogLine) (w : World Standing) (line : LogLine) (rest : List LogLine)
      (left : Left before w (line ∷ rest)) (further : Further rest) where
    at-next : (o : Option State) → next w.state line.step.event line.step.reply ≡ o
        → replay_from o (steps_of rest) ≡ Some end
        → are_due script (line ∷ before) (unwrap_or o w.state) rest ≡ true → IsWalkOf script w (line ∷ rest) end
    at-next None step leads due = absurd (replay_none (steps_of rest) end leads)
    at-next (Some s) step leads due = ⊎_elim moved nothing
        (line-goes caps script before w line rest s left.stand step (not-true _ all.0)
        (and_parts _ _ left.due).0)
      where
        all : (is_answered_step line.step ≡ true) × (list_all is_answered_step (steps_of rest) ≡ true)
        all = and_parts (is_answered_step line.step) (list_all is_answered_step (steps_of rest)) left.answered

        moved : IsMade caps script before w line rest s → IsWalkOf script w (line ∷ rest) end
        moved m = behind-move before w line rest s m (further (line ∷ before) m.after (record {
          stand = m.stands;
          due = subst (λ z. are_due script (line ∷ before) z rest ≡ true) (sym m.state) due;
          leads = ap (λ z. replay_from (Some z) (steps_of rest)) m.state ∙ leads;
          answered = all.1;
        }))

        nothing : (is_in_vain line.step.reply ≡ true) × (line.doer ≡ works) → IsWalkOf script w (line ∷ rest) end
        nothing v =
            let same : s ≡ w.state = next_keeps w.state s line.step.event line.step.reply step
            (vain-unstored line.step.reply v.0) in
            behind-nothing w line rest v.0 (further (line ∷ before) w (record {
              stand = vain-stands caps script before w line rest s left.stand step (not-true _ all.0) v.0 v.1;
              due = subst (λ z. are_due script (line ∷ before) z rest ≡ true) same due;
              leads = ap (λ z. replay_from (Some z) (steps_of rest)) (sym same) ∙ leads;
              answered = all.1;
            }))

    behind-line : IsWalkOf script w (line ∷ rest) end
    behind-line = at-next (next w.state line.step.event line.step.reply) refl left.leads (and_parts _ _ left.due).1

  log-walks : (rest : List LogLine) → Further rest
  log-walks [] before w left = record {
    moves = [];
    last = w;
    leads = refl;
    lines = refl;
    state = same_Some w.state end left.leads;
  }
  log-walks (line ∷ rest) before w left = behind-line before w line rest left (log-walks rest)

-- ---- where they begin

mapped-at : {X Y : Type 0} (f : X → Y) (xs : List X) (k : ℕ) (x : X) → slice_get xs k ≡ Some x
    → slice_get (map f xs) k ≡ Some (f x)
mapped-at f [] k x e = absurd cc
mapped-at f (y ∷ xs) zero x e = ap Some (ap f (same_Some y x e))
mapped-at f (y ∷ xs) (suc k) x e = mapped-at f xs k x e

all-filtered : {X : Type 0} (p : X → Bool) (xs : List X) → list_all p (filter p xs) ≡ true
all-filtered p [] = refl
all-filtered {X} p (x ∷ xs) = go (all-filtered p xs) (p x) refl
  where
    go : list_all p (filter p xs) ≡ true → (b : Bool) → p x ≡ b → list_all p (cond b (x ∷ filter p xs) (filter p xs)) ≡ true
    go more true h = and_from (p x) (list_all p (filter p xs)) h more
    go more false h = more

pub walked : (caps : Caps) (capacity : ℕ) (script : Script) (labels : Labels) (before steps : List Step) (s s' : State)
    → is_run caps capacity (before ++ steps) ≡ true → replay caps (stored_steps before) ≡ Some s
    → s.work.setup.next_name ≡ 0 → (o : Obeys script s steps)
    → replay caps (stored_steps (before ++ steps)) ≡ Some s'
    → IsWalkOf script (first_world script labels s) o.log s'
walked caps capacity script labels before steps s s' run led none o end = log-walks caps script s' o.log []
    (first_world script labels s) (record {
      stand = record {
        world = first-good caps script labels (stored_steps before) s led none;
        named = λ name l. absurd (omega (arith, l, none));
        clients = clients;
        administrators = administrators;
      };
      due = holds.0;
      leads = ap (replay_from (Some s)) o.steps_are ∙ on.answers
          ∙ sym on.stored ∙ ap (replay caps) (sym (stored-behind before)) ∙ end;
      answered = subst (λ l. list_all is_answered_step l ≡ true) (sym o.steps_are) (all-filtered is_answered_step steps);
    })
  where
    on : LeadsOn caps (stored_steps before) s steps
    on = run-leads caps capacity steps (stored_steps before) s
        (run-behind caps capacity [] before steps run) led

    stored-behind : (xs : List Step) → stored_steps (xs ++ steps) ≡ stored_steps xs ++ stored_steps steps
    stored-behind xs = filter-append (λ (step : Step). is_stored step.reply) xs steps

    holds : (are_due script [] s o.log ≡ true)
        × (list_all (is_client_in_order script o.log) (numbers_below (length script.clients.items)) ≡ true)
        × (list_all (is_administrator_in_order script o.log) (numbers_below (length script.administrators.items)) ≡ true)
    holds =
        let p = and_parts _ _ o.holds in
        let q = and_parts _ _ p.0 in
        (q.0, q.1, p.1)

    clients : ClientsStand script (map place_first script.clients.items) o.log
    clients c client e =
        let at : is_client_in_order script o.log c ≡ true =
        all-below (is_client_in_order script o.log) (length script.clients.items) c holds.1
        (slice_get_within script.clients.items c client e) in
        record {
          place = place_first client;
          at = mapped-at place_first script.clients.items c client e;
          order = sym (ap (passes (λ (client : ClientScript). submit_in_order script.entries.items
              (to_submit script.entries.items client.part) 0 (client_lines c o.log))) e) ∙ at;
        }

    administrators : AdministratorsStand script (map (λ (part : Part). part.first) script.administrators.items) o.log
    administrators a part e =
        let at : is_administrator_in_order script o.log a ≡ true =
        all-below (is_administrator_in_order script o.log) (length script.administrators.items) a holds.2
        (slice_get_within script.administrators.items a part e) in
        record {
          next = part.first;
          at = mapped-at (λ (part : Part). part.first) script.administrators.items a part e;
          order = sym (ap (passes (λ (part : Part). do_in_order script.acts.items (to_do script.acts.items part)
              (administrator_lines a o.log))) e) ∙ at;
        }
