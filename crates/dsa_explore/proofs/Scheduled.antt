-- A device whose steps are kept, a move at a time.
use Rattle.std.proofs.Common.{◌≡◌, ℕ, ◌+◌, ◌<◌, ◌^◌, true, false, nat_lt, List, [], ◌∷◌, ◌++◌, Option, Some, None}
use Rattle.std.proofs.Common.{refl, sym, ap, ◌∙◌, subst, length, length-append, append_assoc, ⊎_elim, arith}
use Rattle.std.specs.Prelude.{option_map, option_and_then, unwrap_or, ◌-◌}
use Rattle.std.proofs.lemmas.Bool.{ltb-false}
use Rattle.dsa_base.specs.Lists.{In}
use Rattle.dsa_regs.specs.declared.Caps.{Caps}
use Rattle.dsa_book.specs.declared.{answer.Reply.{Reply}, event.{Event.{Event}, Step.{Step}}}
use Rattle.dsa_book.specs.{declared.fate.FateRow.{FateRow}, Machine.{is_run, replay, stored_steps}}
use Rattle.dsa_device.specs.{Running.{Running, running_at_first, after_answer, after_answers, IsReplay}}
use Rattle.dsa_device.specs.Runs.{IsAnswered, IsRunOf}
use Rattle.dsa_device.proofs.{Runs.{IsRunOf-push}, Steps.{grows}}
use Rattle.dsa_keys.specs.{Labels.{Labels}, Steps.{event_by_label}}
use Rattle.dsa_keys.specs.Parties.{Parties, World, Made, Offer, offer_at, labels_for, world_after, world_after_all}
use Rattle.dsa_parties.specs.declared.{places.Move.{Move}, script.Script.{Script}}
use Rattle.dsa_parties.specs.{Standing.{Standing, stand_of, standing_first}, Offers.{parties_of}}
use Rattle.dsa_explore.specs.declared.{found.{Ask.{Ask}, Finding.{Finding}, Found.{Found}}, walked.Walked.{Walked}}
use Rattle.dsa_explore.specs.{Findings.{findings_told}, Rows.{AddsRows, HasFinding, labels_of}, Walked.{world_of}}
use Rattle.dsa_explore.specs.Schedules.{event_of_move, step_of_move, steps_of_moves, schedule_events, IsSetUp, IsSchedule, IsScheduleTo}
use Rattle.dsa_explore.specs.Schedules.{schedule_moves, IsMadeBy, IsToldBy, IsEventKept}
use Rattle.dsa_explore.proofs.{Growth.{map-push}, Reached.{walk-more}}

-- ---- the steps of moves

-- a move makes the step of its offer
pub step-made : (script : Script) (w : World Standing) (labels : Labels) (move : Move) (reply : Reply) (o : Offer)
    (event : Event) → offer_at (parties_of script) w move ≡ Some o → labels ≡ labels_for w o
    → event_by_label labels w.state o.event ≡ Some event
    → step_of_move (parties_of script) w (record { move = move; reply = reply })
    ≡ Some (record { event = event; reply = reply })
step-made script w labels move reply o event offered same found =
    let found' : event_by_label (labels_for w o) w.state o.event ≡ Some event =
    subst (λ (m : Labels). event_by_label m w.state o.event ≡ Some event) same found in
    let asked : event_of_move (parties_of script) w move ≡ Some event =
    ap (option_and_then (λ (offer : Offer). event_by_label (labels_for w offer) w.state offer.event)) offered ∙ found'
    in
    ap (option_map (λ (e : Event). record { event = e; reply = reply })) asked

module _ {P M : Type 0} (parties : Parties P M) where
  -- the steps of some moves and of one more
  steps-more : (w v v' : World P) (xs : List (Made M)) (steps : List Step) (last : Made M) (step : Step)
      → steps_of_moves parties w xs ≡ Some steps → world_after_all parties w xs ≡ Some v
      → step_of_move parties v last ≡ Some step → world_after parties v last.move last.reply ≡ Some v'
      → steps_of_moves parties w (xs ++ last ∷ []) ≡ Some (steps ++ step ∷ [])
  steps-more w v v' [] steps last step made leads is ends =
      let same : v ≡ w = sym (ap (λ z. unwrap_or z w) leads) in
      let none : [] ≡ steps = ap (λ z. unwrap_or z steps) made in
      let is' : step_of_move parties w last ≡ Some step =
      subst (λ (z : World P). step_of_move parties z last ≡ Some step) same is in
      let ends' : world_after parties w last.move last.reply ≡ Some v' =
      subst (λ (z : World P). world_after parties z last.move last.reply ≡ Some v') same ends in
      rw (is', ends', ← none) refl
  steps-more w v v' (x ∷ xs) steps last step made leads is ends =
      go (step_of_move parties w x) (world_after parties w x.move x.reply)
      (λ a rest made' leads'. steps-more a v v' xs rest last step made' leads' is ends) made leads
    where
      inner : (a : World P) (s : Step)
          → ((rest : List Step) → steps_of_moves parties a xs ≡ Some rest → world_after_all parties a xs ≡ Some v
          → steps_of_moves parties a (xs ++ last ∷ []) ≡ Some (rest ++ step ∷ []))
          → (o : Option (List Step)) → steps_of_moves parties a xs ≡ o
          → option_map (λ (l : List Step). s ∷ l) o ≡ Some steps → world_after_all parties a xs ≡ Some v
          → option_map (λ (l : List Step). s ∷ l) (steps_of_moves parties a (xs ++ last ∷ []))
          ≡ Some (steps ++ step ∷ [])
      inner a s more None e made leads = absurd cc
      inner a s more (Some rest) e made leads =
          let all : s ∷ rest ≡ steps = ap (λ z. unwrap_or z steps) made in
          ap (option_map (λ (l : List Step). s ∷ l)) (more rest e leads)
          ∙ ap (λ (l : List Step). Some (l ++ step ∷ [])) all

      go : (o : Option Step) (p : Option (World P))
          → ((a : World P) (rest : List Step) → steps_of_moves parties a xs ≡ Some rest
          → world_after_all parties a xs ≡ Some v
          → steps_of_moves parties a (xs ++ last ∷ []) ≡ Some (rest ++ step ∷ []))
          → option_and_then (λ (s : Step). option_map (λ (l : List Step). s ∷ l)
          (option_and_then (λ a. steps_of_moves parties a xs) p)) o ≡ Some steps
          → option_and_then (λ a. world_after_all parties a xs) p ≡ Some v
          → option_and_then (λ (s : Step). option_map (λ (l : List Step). s ∷ l)
          (option_and_then (λ a. steps_of_moves parties a (xs ++ last ∷ [])) p)) o ≡ Some (steps ++ step ∷ [])
      go None p more made leads = absurd cc
      go (Some s) None more made leads = absurd cc
      go (Some s) (Some a) more made leads =
          inner a s (λ rest. more a rest) (steps_of_moves parties a xs) refl made leads

  -- they are as many
  steps-count : (w : World P) (xs : List (Made M)) (steps : List Step) → steps_of_moves parties w xs ≡ Some steps
      → length steps ≡ length xs
  steps-count w [] steps made = sym (ap length (ap (λ z. unwrap_or z steps) made))
  steps-count w (x ∷ xs) steps made =
      go (step_of_move parties w x) (world_after parties w x.move x.reply) (λ a rest. steps-count a xs rest) made
    where
      inner : (s : Step) (a : World P)
          → ((rest : List Step) → steps_of_moves parties a xs ≡ Some rest → length rest ≡ length xs)
          → (o : Option (List Step)) → steps_of_moves parties a xs ≡ o
          → option_map (λ (l : List Step). s ∷ l) o ≡ Some steps → length steps ≡ length (x ∷ xs)
      inner s a more None e made = absurd cc
      inner s a more (Some rest) e made =
          let all : s ∷ rest ≡ steps = ap (λ z. unwrap_or z steps) made in
          omega (arith, ap length all, more rest e)

      go : (o : Option Step) (p : Option (World P))
          → ((a : World P) (rest : List Step) → steps_of_moves parties a xs ≡ Some rest → length rest ≡ length xs)
          → option_and_then (λ (s : Step). option_map (λ (l : List Step). s ∷ l)
          (option_and_then (λ a. steps_of_moves parties a xs) p)) o ≡ Some steps → length steps ≡ length (x ∷ xs)
      go None p more made = absurd cc
      go (Some s) None more made = absurd cc
      go (Some s) (Some a) more made = inner s a (λ rest. more a rest) (steps_of_moves parties a xs) refl made

-- ---- findings

-- a finding of rows that were added to none is one of those that were told
pub told-in : (steps : ℕ) (findings : List Finding) (finding : Finding) (old new rows : List Found) → old ≡ []
    → AddsRows steps findings old new → rows ≡ new → HasFinding rows finding → In finding findings
told-in steps findings finding old new rows none added same has =
    let within : In has.row new = subst (λ (l : List Found). In has.row l) same has.within in
    subst (λ (f : Finding). In f findings) has.same
    (⊎_elim (λ (i : In has.row old). absurd (subst (λ (l : List Found). In has.row l) none i)) (λ p. p.0)
    (added.each has.row within))

-- and each of those is one of theirs
pub told-out : (steps : ℕ) (findings : List Finding) (finding : Finding) (old new rows : List Found)
    → AddsRows steps findings old new → rows ≡ new
    → ((row : Found) → In row rows → row.finding ≡ finding → ⊥) → In finding findings → ⊥
told-out steps findings finding old new rows added same none i =
    let has = added.all finding i in
    none has.row (subst (λ (l : List Found). In has.row l) (sym same) has.within) has.same

-- a finding is told by equal parts
pub told-as : (finding : Finding) (ask ask' : Option Ask) (labels labels' : List ℕ) (reply : Reply)
    (ends ends' : List FateRow) (awaited awaited' : List ℕ) → ask ≡ ask' → labels ≡ labels' → ends ≡ ends'
    → awaited ≡ awaited' → In finding (findings_told ask (labels_of labels) reply ends awaited)
    → In finding (findings_told ask' (labels_of labels') reply ends' awaited')
told-as finding ask ask' labels labels' reply ends ends' awaited awaited' a l e w told =
    subst (λ (fs : List Finding). In finding fs)
    (λ i. findings_told (a i) (labels_of (l i)) reply (e i) (w i)) told

-- ---- devices

-- answers never begin the history anew
answers-go-on : (d t : Running) (steps : List Step) → after_answers d steps ≡ Some t → d.anew ≡ false
    → t.anew ≡ false
answers-go-on d t [] made fresh = subst (λ (z : Running). z.anew ≡ false) (ap (λ z. unwrap_or z d) made) fresh
answers-go-on d t (x ∷ xs) made fresh =
    go (after_answer d x.event x.reply) refl (λ a. answers-go-on a t xs) made
  where
    go : (o : Option Running) → after_answer d x.event x.reply ≡ o
        → ((a : Running) → after_answers a xs ≡ Some t → a.anew ≡ false → t.anew ≡ false)
        → option_and_then (λ a. after_answers a xs) o ≡ Some t → t.anew ≡ false
    go None e more made = absurd cc
    go (Some a) e more made = more a made ((grows d a x.event x.reply e).anew ∙ fresh)

module _ (caps : Caps) (script : Script) (setup : List Event) (capacity : ℕ) where
  -- a device after the set-up
  pub kept-first : (steps : List Step) (walked : Walked) (before : Running)
      → before ≡ running_at_first caps capacity → IsAnswered before setup [] steps walked.machine.device
      → (before.anew ≡ false → IsRunOf before setup [] steps walked.machine.device)
      → nat_lt 0 walked.machine.device.state.work.setup.next_name ≡ false
      → stand_of walked.places ≡ standing_first script → IsEventKept caps script setup capacity 0 steps walked
  kept-first steps walked before first answered ran none stands =
      let fresh : before.anew ≡ false = ap (λ (d : Running). d.anew) first in
      let r = subst (λ (d : Running). IsRunOf d setup [] steps walked.machine.device) first (ran fresh) in
      let events : schedule_events steps ≡ setup = ap schedule_events r.added ∙ r.events_are in
      let none' = ltb-false 0 walked.machine.device.state.work.setup.next_name none in
      record {
        run = subst (λ (l : List Event). IsRunOf (running_at_first caps capacity) l [] steps walked.machine.device)
            (sym events) r;
        no_past = answers-go-on before walked.machine.device answered.steps answered.answered fresh;
        begun = steps;
        more = [];
        parts = sym (append-none steps);
        first = world_of walked;
        set_up = record {
          events = events;
          led = ap (λ (l : List Step). replay caps (stored_steps l)) r.added ∙ sym (ap (replay caps) r.history)
              ∙ r.replayed;
          places = stands;
          no_names = omega (arith, none');
        };
        moves = [];
        count_is = refl;
        leads = refl;
        made = refl;
      }
    where
      append-none : (xs : List Step) → xs ++ [] ≡ xs
      append-none [] = refl
      append-none (x ∷ xs) = ap (λ l. x ∷ l) (append-none xs)

  map-length : (xs : List Step) → length (schedule_events xs) ≡ length xs
  map-length [] = refl
  map-length (x ∷ xs) = omega (arith, map-length xs)

  -- the set-up has a step for each event
  begun-length : (begun : List Step) (first : World Standing) → IsSetUp caps script setup begun first
      → length begun ≡ length setup
  begun-length begun first set-up = sym (map-length begun) ∙ ap length set-up.events

  -- and each move has one
  pub schedule-length : (count : ℕ) (finding : Finding) (steps : List Step)
      → IsSchedule caps script setup count finding steps → length steps ≡ length setup + count
  schedule-length count finding steps s = omega (
    arith,
    ap length s.parts,
    length-append s.begun s.more,
    begun-length s.begun s.first s.set_up,
    steps-count (parties_of script) s.first (schedule_moves s.comes) s.more s.made,
    length-append s.comes.moves (s.comes.last ∷ []),
    s.comes.count,
  )

  -- so has each move that leads to a world
  pub schedule-to-length : (count : ℕ) (world : World Standing) (steps : List Step)
      → IsScheduleTo caps script setup count world steps → length steps ≡ length setup + count
  schedule-to-length count world steps s = omega (
    arith,
    ap length s.parts,
    length-append s.begun s.more,
    begun-length s.begun s.first s.set_up,
    steps-count (parties_of script) s.first s.moves s.more s.made,
    s.count_is,
  )

  module _ (count : ℕ) (steps : List Step) (walked : Walked)
      (kept : IsEventKept caps script setup capacity count steps walked) where
    -- there are as many steps as events of the set-up and moves
    kept-length : length steps ≡ length setup + count
    kept-length = omega (
      arith,
      ap length kept.parts,
      length-append kept.begun kept.more,
      begun-length kept.begun kept.first kept.set_up,
      steps-count (parties_of script) kept.first kept.moves kept.more kept.made,
      kept.count_is,
    )

    -- the steps of a device that has room for them alone lead to where it is
    pub scheduled-to : capacity ≡ length setup + count
        → IsScheduleTo caps script setup count (world_of walked) steps
    scheduled-to room = record {
      allowed = subst (λ (n : ℕ). is_run caps n steps ≡ true) (room ∙ sym kept-length)
          (subst (λ (l : List Step). is_run caps capacity l ≡ true) (sym kept.run.added) kept.run.allowed);
      begun = kept.begun;
      more = kept.more;
      parts = kept.parts;
      first = kept.first;
      set_up = kept.set_up;
      moves = kept.moves;
      count_is = kept.count_is;
      leads = kept.leads;
      made = kept.made;
    }

  module _ (count : ℕ) (steps : List Step) (walked walked' : Walked) (move : Move)
      (kept : IsEventKept caps script setup capacity count steps walked) (replay : IsReplay walked.machine.device) where
    module _ (step : Step) (told : IsMadeBy script walked walked' move step) where
      run-more : IsRunOf (running_at_first caps capacity) (schedule_events (steps ++ step ∷ [])) [] (steps ++ step ∷ [])
          walked'.machine.device
      run-more = IsRunOf-push (running_at_first caps capacity) walked.machine.device walked'.machine.device
          (schedule_events steps) (schedule_events (steps ++ step ∷ [])) [] steps (steps ++ step ∷ []) step.event step.reply
          replay kept.run told.answered (map-push (λ (s : Step). s.event) steps step) refl

      parts-more : steps ++ step ∷ [] ≡ kept.begun ++ (kept.more ++ step ∷ [])
      parts-more = ap (λ (l : List Step). l ++ step ∷ []) kept.parts ∙ append_assoc kept.begun kept.more (step ∷ [])

      made-more : steps_of_moves (parties_of script) kept.first
          (kept.moves ++ record { move = move; reply = step.reply } ∷ []) ≡ Some (kept.more ++ step ∷ [])
      made-more = steps-more (parties_of script) kept.first (world_of walked) (world_of walked') kept.moves kept.more
          (record { move = move; reply = step.reply }) step kept.made kept.leads told.is told.leads

      -- one more step
      pub kept-more : IsEventKept caps script setup capacity (count + 1) (steps ++ step ∷ []) walked'
      kept-more = record {
        run = run-more;
        no_past = (grows walked.machine.device walked'.machine.device step.event step.reply told.answered).anew
            ∙ kept.no_past;
        begun = kept.begun;
        more = kept.more ++ step ∷ [];
        parts = parts-more;
        first = kept.first;
        set_up = kept.set_up;
        moves = kept.moves ++ record { move = move; reply = step.reply } ∷ [];
        count_is = omega (
          arith,
          length-append kept.moves (record { move = move; reply = step.reply } ∷ []),
          kept.count_is,
        );
        leads = walk-more (parties_of script) kept.first (world_of walked) (world_of walked') kept.moves
            (record { move = move; reply = step.reply }) kept.leads told.leads;
        made = made-more;
      }

    -- where the last step tells a finding, all of them show it
    pub scheduled : (finding : Finding) (step : Step) → IsToldBy script walked walked' move finding step
        → (capacity < 2 ^ 64 - 1 → capacity ≡ length setup + (count + 1))
        → IsSchedule caps script setup (count + 1) finding (steps ++ step ∷ [])
    scheduled finding step told room =
        let run = run-more step told.made in
        let held : walked.machine.device.capacity ≡ capacity = kept.run.same_capacity in
        let all : capacity ≡ length (steps ++ step ∷ []) = omega (
          arith,
          room (omega (arith, replay.bounded, held)),
          length-append steps (step ∷ []),
          kept-length count steps walked kept,
        )
        in
        record {
          allowed = subst (λ (n : ℕ). is_run caps n (steps ++ step ∷ []) ≡ true) all
              (subst (λ (l : List Step). is_run caps capacity l ≡ true) (sym run.added) run.allowed);
          begun = kept.begun;
          more = kept.more ++ step ∷ [];
          parts = parts-more step told.made;
          first = kept.first;
          set_up = kept.set_up;
          comes = record {
            moves = kept.moves;
            before = world_of walked;
            leads = kept.leads;
            last = record { move = move; reply = step.reply };
            after = world_of walked';
            ends = told.made.leads;
            tells = told.tells;
            count = omega (arith, kept.count_is);
          };
          made = made-more step told.made;
        }
