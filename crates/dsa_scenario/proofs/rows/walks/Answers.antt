use Rattle.dsa_scenario.proofs.rows.walks.Goals as goal
use Rattle.std.proofs.Common.{◌≡◌, ◌==◌, ◌∙◌, Bool, true, false, List, [], ◌∷◌, Some, cond, suc, zero, find, filter_map, length, ne_eqb, refl, ap, arith, lit≤}
use Rattle.std.specs.Prelude.{slice_get}
use Rattle.dsa_book.specs.declared.answer.Ticket.{Ticket}
use Rattle.dsa_book.specs.declared.event.Event.TheVariants.{Poll}
use Rattle.dsa_device.specs.Running.{IsReplay, running_at_first}
use Rattle.dsa_scenario.specs.declared.actions.Action.TheVariants.{Ask}
use Rattle.dsa_scenario.specs.declared.run.Record.{Record}
use Rattle.dsa_scenario.specs.Run.{AreOf, IsTable, ticket_given_by}
use Rattle.dsa_scenario.specs.Steps.{standing, visits}
use Rattle.dsa_scenario.specs.Worked.{caps_of_a_run, record_ticket, records_of_a_submission, smallest_caps}
use Rattle.dsa_scenario.proofs.Records.{goes_by}

-- the table of one ticket
table : IsTable (slice_get (record_ticket 3 0 ∷ [])) records_of_a_submission
table zero = refl
table (suc name) = rw (ne_eqb 0 (suc name) (λ same. absurd cc)) refl

replay : IsReplay (standing caps_of_a_run 7 records_of_a_submission)
replay = record { caps = refl; bounded = lit≤ tt; within = lit≤ tt; legal = refl; replayed = refl }

pub returns-clause-walk : goal.returns-clause-walk
returns-clause-walk c = record {
  records = records_of_a_submission;
  of_actions = (refl, (refl, (refl, (refl, (refl, (refl, tt))))));
  count = refl;
  run = (goes_by (running_at_first caps_of_a_run 7) _ records_of_a_submission refl (refl, refl, refl, refl) refl replay).run;
  room = refl;
  not_anew = refl;
  replay = replay;
  table = table;
  in_turn = refl;
  made = refl;
}

-- an action has a record
some_record : (records : List Record) → AreOf [] (Ask Poll ∷ []) records → length records ≡ 0 → ⊥
some_record [] are none = are
some_record (entry ∷ records) are none = absurd cc

pub returns-clause-no_record : goal.returns-clause-no_record
returns-clause-no_record c is = some_record is.records is.of_actions is.count

-- no action has none
no_record : (records : List Record) → AreOf [] [] records → length records ≡ 1 → ⊥
no_record [] are one = absurd cc
no_record (entry ∷ records) are one = are

pub returns-clause-another_number : goal.returns-clause-another_number
returns-clause-another_number c is = no_record is.records is.of_actions is.count

pub returns-clause-another_device : goal.returns-clause-another_device
returns-clause-another_device c is =
    let same : 8 ≡ 9 = is.run.same_capacity in
    omega (arith, same)

pub returns-clause-another_room : goal.returns-clause-another_room
returns-clause-another_room c is =
    let same : 8 ≡ 9 = is.room in
    omega (arith, same)

pub returns-clause-anew : goal.returns-clause-anew
returns-clause-anew c is =
    let same : true ≡ false = is.not_anew in
    absurd cc

pub returns-clause-no_device : goal.returns-clause-no_device
returns-clause-no_device c is =
    let good : false ≡ true = is.replay.caps in
    absurd cc

-- what is found has the name that was asked for
of_name : (tickets : List Ticket) → Some (record_ticket 3 7) ≡ find (λ (t : Ticket). t.name == 0) tickets → ⊥
of_name [] same = absurd cc
of_name (ticket ∷ tickets) same = here (ticket.name == 0) refl same (of_name tickets) where
  here : (is_here : Bool) → (ticket.name == 0) ≡ is_here
      → Some (record_ticket 3 7) ≡ cond is_here (Some ticket) (find (λ (t : Ticket). t.name == 0) tickets)
      → (Some (record_ticket 3 7) ≡ find (λ (t : Ticket). t.name == 0) tickets → ⊥)
      → ⊥
  here true named same further =
      let it : record_ticket 3 7 ≡ ticket = cc in
      let seven : false ≡ true = ap (λ (t : Ticket). t.name == 0) it ∙ named in
      absurd cc
  here false other same further = further same

pub returns-clause-another_name : goal.returns-clause-another_name
returns-clause-another_name c is = of_name (filter_map ticket_given_by is.records) (is.table 0)

-- no step has no page of one
no_page : (records : List Record) → AreOf [] [] records → 1 ≡ length (visits smallest_caps 9 [] records) → ⊥
no_page [] are one = absurd cc
no_page (entry ∷ records) are one = are

pub returns-clause-another_page : goal.returns-clause-another_page
returns-clause-another_page c is = no_page is.records is.of_actions is.made
