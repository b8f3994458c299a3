-- What the seats have together after a run in threads.
use Rattle.std.proofs.Common.{◌≡◌, ◌≢◌, ◌≤◌, ◌<◌, ℕ, suc, ◌+◌, ◌*◌, List, [], ◌∷◌, ◌++◌, Bool, true}
use Rattle.std.proofs.Common.{cond}
use Rattle.std.proofs.Common.{Option, Some, length, take, get_or, refl, sym, ap, ap₂, ◌∙◌}
use Rattle.std.proofs.Common.{append-nil, subst, arith}
use Rattle.std.proofs.lemmas.List.Elements.{filter-append}
use Rattle.std.proofs.lemmas.List.Sums.{sum_by-le, count_by-le-length, length-filter}
use Rattle.std.proofs.lemmas.List.{get_or-replicate, length-take-le, take-append-drop, take_at}
use Rattle.std.specs.{Prelude.{All, drop, filter}, Option.{option_map_or}}
use Rattle.dsa_regs.specs.declared.Caps.{Caps}
use Rattle.dsa_store.specs.Content.{held_count}
use Rattle.dsa_book.specs.declared.event.Step.{Step}
use Rattle.dsa_book.specs.declared.event.Actor.{Actor, TheVariants.{Client, Engine, Admin}}
use Rattle.dsa_book.specs.{State.{State}, Machine.{is_legal, replay, stored_steps}}
use Rattle.dsa_book.specs.Totals.{actor_of, same_actor, steps_of_actor, total_accepted}
use Rattle.dsa_device.specs.Running.{Running, IsReplay}
use Rattle.dsa_shared.specs.{declared.settle.Totals.{Totals}, Seat.{SeatLog, AllFresh, fresh}}
use Rattle.dsa_shared.specs.{Settle.{Match}, Totals.{AreSums, Balance, totals_of}}
use Rattle.dsa_workers.specs.declared.scripts.EngineScript.{EngineScript}
use Rattle.dsa_workers.specs.declared.scripts.Scripts.{Scripts}
use Rattle.dsa_workers.specs.declared.scripts.Stint.{Stint}
use Rattle.dsa_workers.specs.declared.scripts.WorkerEnd.TheVariants.{HistoryFull}
use Rattle.dsa_workers.specs.Workers.{RunsClient, RunsEngine, RunsAdmin, receipts_in}
use Rattle.dsa_workers.specs.Calls.{InOrder, NextCommand}
use Rattle.dsa_cli.specs.declared.options.Workload.{Workload}
use Rattle.dsa_cli.specs.Threads.{AreScriptsOf, engine_script, setup_steps, HaveWorked, AreTotalsOf}
use Rattle.dsa_cli.specs.Threads.{submission_of, caps_for, capacity_for, RanAsClient, RanAsEngine}
use Rattle.dsa_cli.proofs.{Accepted.{none_accepted}, Submissions.{all_submitted, no_calls}}

-- ---- what was accepted

-- no more is accepted than there is to submit
accepted_le : (h : List Step) (caps : Caps) (s : State) (t : Totals) (clients engines : List SeatLog)
    (admin : Option (List Step)) (n each : ℕ)
    → replay caps h ≡ Some s → Match h clients engines admin → AreSums t clients engines admin → length clients ≡ n
    → All (λ seat. total_accepted seat.receipts ≤ each) clients → t.accepted ≤ n * each
accepted_le h caps s t clients engines admin n each e match sums count few =
    let own = sum_by-le (λ seat. total_accepted seat.receipts) each clients few in
    let none = sum_by-le (λ seat. total_accepted seat.receipts) 0 engines (λ k d lt.
    let there = match.engine_receipts k d lt in
    let zero = none_accepted caps h s e (Engine (get_or engines k d).number) refl in
    omega (arith, ap total_accepted there, zero)) in
    let last : option_map_or total_accepted admin 0 ≡ 0 = ap (λ a. option_map_or total_accepted a 0)
    match.admin_receipts ∙ none_accepted caps h s e Admin refl in
    let many : length clients * each ≡ n * each = ap (λ k. k * each) count in
    omega (arith, sums.accepted, own, none, last, many)

-- ---- how many steps

-- the history has room
steps_le : {caps : Caps} {capacity : ℕ} (load : Workload) (t : Totals) (clients engines : List SeatLog)
    (admin : Option (List Step)) (receipts : List Step) → HaveWorked caps capacity load clients engines admin
    → AreSums t clients engines admin
    → admin ≡ Some receipts → t.steps ≤ capacity_for load
steps_le load t clients engines admin receipts w sums is =
    let own = sum_by-le (λ seat. length seat.receipts) load.turns clients w.client_steps in
    let others = sum_by-le (λ seat. length seat.receipts) load.turns engines w.engine_steps in
    let many : length clients * load.turns ≡ load.clients * load.turns = ap (λ k. k * load.turns) w.client_count in
    let many-2 : length engines * load.turns ≡ load.engines * load.turns = ap (λ k. k * load.turns) w.engine_count in
    let last : option_map_or (λ (l : List Step). length l) admin 0 ≡ length receipts =
    ap (λ a. option_map_or (λ (l : List Step). length l) a 0) is in
    let bound : length (receipts_in admin) ≡ 4 = ap (λ (l : List Step). length l) w.setup in
    let same : length (receipts_in admin) ≡ length receipts = ap (λ a. length (receipts_in a)) is in
    let spread : (load.clients + load.engines + 1) * load.turns
    ≡ load.clients * load.turns + load.engines * load.turns + load.turns = omega arith in
    omega (arith, sums.steps, own, others, many, many-2, last, bound, same, spread)

-- ---- what came first

-- a filter that all pass
pub filter_kept : (p : Step → Bool) (steps : List Step) → All (λ step. p step ≡ true) steps → filter p steps ≡ steps
filter_kept p [] all = refl
filter_kept p (step ∷ steps) all =
    ap (λ (b : Bool). cond b (step ∷ filter p steps) (filter p steps)) (all 0 step (omega arith))
    ∙ ap (λ (l : List Step). step ∷ l) (filter_kept p steps (λ k d lt. all (suc k) d (omega (arith, lt))))

-- where the first four steps are the administrator's, they are all that it made to set the device up
pub setup_comes_first : (load : Workload) (history : List Step) → steps_of_actor history Admin ≡ setup_steps load
    → All (λ step. actor_of step.event ≡ Admin) (take 4 history) → take 4 history ≡ setup_steps load
setup_comes_first load history own admins =
    let p = λ (step : Step). same_actor (actor_of step.event) Admin in
    let kept = filter_kept p (take 4 history) (λ k d lt. ap (λ (a : Actor). same_actor a Admin) (admins k d lt)) in
    let split : steps_of_actor history Admin ≡ take 4 history ++ filter p (drop 4 history) =
    ap (filter p) (sym (take-append-drop 4 history)) ∙ filter-append p (take 4 history) (drop 4 history)
    ∙ ap (λ (l : List Step). l ++ filter p (drop 4 history)) kept in
    let four : length (take 4 history) ≡ 4 = length-take-le 4 history (omega (
      arith,
      count_by-le-length p history,
      length-filter p history,
      ap (λ (l : List Step). length l) own,
    )) in
    sym (take_at (take 4 history) (filter p (drop 4 history)) 4 four)
    ∙ ap (λ (l : List Step). take 4 l) (sym split ∙ own)

-- ---- the seats

-- an item of a list that has one
some_item : {A : Type 0} (xs : List A) → 0 < length xs → A
some_item [] h = absurd (omega (arith, h))
some_item (x ∷ xs) h = x

-- what the runs of the workers leave in their seats
pub have_worked : (caps : Caps) (capacity : ℕ) (load : Workload) (scripts : Scripts)
    (old new old-engines new-engines : List SeatLog)
    (admin new-admin : Option (List Step))
    (setup : List Step) (stint engine-stint : ℕ → Stint) (last : Stint)
    → AllFresh load.clients old → AllFresh load.engines old-engines → AreScriptsOf load scripts
    → admin ≡ Some setup → setup ≡ setup_steps load → length new ≡ length old
    → length new-engines ≡ length old-engines
    → ((k : ℕ) (d : SeatLog) (e : _) → k < length old
    → RunsClient caps capacity (get_or scripts.clients.items k e).items load.turns
    (get_or old k d) (get_or new k d) (stint k))
    → ((k : ℕ) (d : SeatLog) (e : _) → k < length old-engines
    → RunsEngine caps capacity (get_or scripts.engines.items k e) load.turns (get_or old-engines k d)
    (get_or new-engines k d) (engine-stint k))
    → RunsAdmin caps capacity scripts.admin.items load.turns (receipts_in admin) (receipts_in new-admin) last
    → ((k : ℕ) → k < length old → (stint k).ended ≢ HistoryFull)
    → ((k : ℕ) → k < length old-engines → (engine-stint k).ended ≢ HistoryFull)
    → HaveWorked caps capacity load new new-engines new-admin
have_worked caps capacity load scripts old new old-engines new-engines admin new-admin setup stint engine-stint last
    fresh-clients fresh-engines are is follows count count-engines clients engines ends room room-engines =
    let place = λ (k : ℕ) (lt : k < length new).
    let same : k < load.clients = omega (arith, lt, count, fresh-clients.0) in same in
    let item = λ (k : ℕ) (lt : k < length new). some_item scripts.clients.items
    (omega (arith, place k lt, are.count)) in
    let runs = λ (k : ℕ) (d : SeatLog) (lt : k < length new). clients k d (item k lt) (omega (arith, lt, count)) in
    let seat = λ (k : ℕ) (lt : k < load.clients).
    let there : k < length new = omega (arith, lt, count, fresh-clients.0) in there in
    let none = no_calls caps capacity (receipts_in admin) ends.calls
    (subst (λ script. InOrder (NextCommand caps capacity (receipts_in admin) script) ends.calls) are.admin
    ends.in_order) in
    let same : receipts_in new-admin ≡ setup = ends.receipts
    ∙ ap₂ (λ (l m : List Step). l ++ stored_steps m) (ap (λ a. receipts_in a) is) none ∙ append-nil setup in
    record {
      client_count = count ∙ fresh-clients.0;
      engine_count = count-engines ∙ fresh-engines.0;
      accepted = λ k d lt.
          let none : total_accepted (get_or old k d).receipts ≡ 0 = ap (λ (s : SeatLog). total_accepted s.receipts)
          (fresh-clients.1 k d (place k lt)) in
          omega (arith, (runs k d lt).accepts, none, (are.clients k (item k lt) (place k lt)).len);
      client_steps = λ k d lt.
          let none : length (get_or old k d).receipts ≡ 0 = ap (λ (s : SeatLog). length s.receipts)
          (fresh-clients.1 k d (place k lt)) in
          omega (arith, (runs k d lt).runs.grows.bound, (runs k d lt).runs.within, none);
      engine_steps = λ k d lt.
          let none : length (get_or old-engines k d).receipts ≡ 0 =
          ap (λ (s : SeatLog). length s.receipts) (fresh-engines.1 k d
          (omega (arith, lt, count-engines, fresh-engines.0))) in
          let ran = engines k d engine_script (omega (arith, lt, count-engines)) in
          omega (arith, ran.grows.bound, ran.within, none);
      numbers = λ k d lt. (runs k d (seat k lt)).number ∙ ap (λ (s : SeatLog). s.number) (fresh-clients.1 k d lt);
      submitted = λ k d lt.
          let ran = (runs k d (seat k lt)).runs in
          let number : (get_or old k d).number ≡ k = ap (λ (s : SeatLog). s.number) (fresh-clients.1 k d lt) in
          let begun : (get_or old k d).receipts ≡ [] = ap (λ (s : SeatLog). s.receipts) (fresh-clients.1 k d lt) in
          subst (λ r. All (λ step. step.event ≡ submission_of k) r)
          (sym (ran.receipts ∙ ap (λ (l : List Step). l ++ stored_steps ran.calls) begun))
          (all_submitted caps capacity (get_or old k d) k (k + 1) _ ran.calls number
          (are.clients k (item k (seat k lt)) lt).moves ran.in_order);
      setup = same ∙ follows;
      client_runs = λ k d lt.
          let script = item k (seat k lt) in
          let is = are.clients k script lt in (
            (get_or scripts.clients.items k script).items,
            stint k,
            is.len,
            is.moves,
            subst (λ s. RunsClient caps capacity (get_or scripts.clients.items k script).items load.turns s
                (get_or new k d) (stint k)) (fresh-clients.1 k d lt) (runs k d (seat k lt)),
            room k (omega (arith, lt, fresh-clients.0)),
          );
      engine_runs = λ k d lt.
          let there : k < length old-engines = omega (arith, lt, fresh-engines.0) in
          let own : get_or scripts.engines.items k engine_script ≡ engine_script =
          ap (λ (xs : List EngineScript). get_or xs k engine_script) are.engines
          ∙ get_or-replicate load.engines k engine_script engine_script lt in
          let begun = subst (λ s. RunsEngine caps capacity (get_or scripts.engines.items k engine_script) load.turns s
          (get_or new-engines k d) (engine-stint k)) (fresh-engines.1 k d lt) (engines k d engine_script there) in (
            engine-stint k,
            subst (λ s. RunsEngine caps capacity s load.turns (fresh k) (get_or new-engines k d)
                (engine-stint k)) own begun,
            room-engines k there,
          );
    }

-- ---- the totals

-- the totals over such seats are those that are wanted, where the device is that of the load
pub totals_of-worked : (caps : Caps) (capacity : ℕ) (load : Workload) (t : Totals) (d : Running)
    (clients engines : List SeatLog) (admin : Option (List Step))
    → HaveWorked caps capacity load clients engines admin
    → caps ≡ caps_for load → capacity ≡ capacity_for load → d.caps ≡ caps → IsReplay d
    → Match d.history clients engines admin
    → t ≡ totals_of d.history (held_count d.state.work.content) → AreSums t clients engines admin
    → Balance t d.state.work
    → All (λ step. actor_of step.event ≡ Admin) (take 4 d.history) → 1 ≤ t.accepted
    → AreTotalsOf load t
totals_of-worked caps capacity load t d clients engines admin worked same-caps same-capacity of-caps whole match
    counted sums balance admins some =
    let w = subst (λ n. HaveWorked (caps_for load) n load clients engines admin) same-capacity
    (subst (λ c. HaveWorked c capacity load clients engines admin) same-caps worked) in
    let known = of-caps ∙ same-caps in
    let receipts : receipts_in admin ≡ steps_of_actor d.history Admin = ap (λ a. receipts_in a) match.admin_receipts in
    let most = steps_le load t clients engines admin (steps_of_actor d.history Admin) w sums match.admin_receipts in
    record {
      history = d.history;
      last = d.state;
      legal = subst (λ c. is_legal c d.history ≡ true) known whole.legal;
      replayed = subst (λ c. replay c d.history ≡ Some d.state) known whole.replayed;
      within = omega (arith, most, ap (λ (x : Totals). x.steps) counted);
      setup = sym receipts ∙ w.setup;
      setup_first = setup_comes_first load d.history (sym receipts ∙ w.setup) admins;
      submitted = λ k lt.
          let seat = get_or clients k (fresh 0) in
          let steps : seat.receipts ≡ steps_of_actor d.history (Client k) =
          match.client_receipts k (fresh 0) (omega (arith, lt, w.client_count))
          ∙ ap (λ n. steps_of_actor d.history (Client n)) (w.numbers k (fresh 0) lt) in
          subst (λ r. All (λ step. step.event ≡ submission_of k) r) steps (w.submitted k (fresh 0) lt);
      counted = counted;
      balanced = balance.all;
      accepted = accepted_le d.history d.caps d.state t clients engines admin load.clients load.each
          whole.replayed match sums w.client_count w.accepted;
      accepted_one = some;
      client_runs = λ k lt.
          let seat = get_or clients k (fresh 0) in
          let steps : seat.receipts ≡ steps_of_actor d.history (Client k) =
          match.client_receipts k (fresh 0) (omega (arith, lt, w.client_count))
          ∙ ap (λ n. steps_of_actor d.history (Client n)) (w.numbers k (fresh 0) lt) in
          let same : seat ≡ record { number = k; receipts = steps_of_actor d.history (Client k) } =
          ap₂ (λ (n : ℕ) (r : List Step). record { number = n; receipts = r }) (w.numbers k (fresh 0) lt) steps in
          subst (λ s. RanAsClient (caps_for load) (capacity_for load) load k s) same (w.client_runs k (fresh 0) lt);
      engine_runs = λ k lt.
          let seat = get_or engines k (fresh 0) in
          let ran = w.engine_runs k (fresh 0) lt in
          let number : seat.number ≡ k = ran.1.number in
          let steps : seat.receipts ≡ steps_of_actor d.history (Engine k) =
          match.engine_receipts k (fresh 0) (omega (arith, lt, w.engine_count))
          ∙ ap (λ n. steps_of_actor d.history (Engine n)) number in
          let same : seat ≡ record { number = k; receipts = steps_of_actor d.history (Engine k) } =
          ap₂ (λ (n : ℕ) (r : List Step). record { number = n; receipts = r }) number steps in
          subst (λ s. RanAsEngine (caps_for load) (capacity_for load) load k s) same ran;
    }
