-- What is told of a row.
use Rattle.std.proofs.Common.{◌≡◌, ℕ, List, [], length, Bool, true, false, Option, Some, None, inl, map, refl, sym, subst, ⊎_elim}
use Rattle.std.proofs.Common.{string_bytes}
use Rattle.std.specs.Prelude.{◌∷◌, ◌++◌, String, flat_map, if◌then◌else◌}
use Rattle.std.specs.declared.alloc.Global.{Global}
use Rattle.dsa_regs.specs.declared.Caps.{Caps}
use Rattle.dsa_book.specs.declared.event.{Event.{Event}, Step.{Step}}
use Rattle.dsa_scenario.specs.declared.faults.ScenarioFault.{ScenarioFault}
use Rattle.dsa_scenario.specs.declared.faults.ScenarioFault.TheVariants.{BadSetup, Incomplete, NoSuchRow}
use Rattle.dsa_parties.specs.declared.script.Script.{Script}
use Rattle.dsa_explore.specs.declared.{found.{Explored.{Explored}, Found.{Found}}, search.Bounds.{Bounds}}
use Rattle.dsa_explore.specs.{Walked.{CannotBegin}, Schedules.{IsSchedule}}
use Rattle.dsa_base.{specs.{Lists.{In}, Numbers.{numbers_below}}, proofs.Lists.{In-append, In-filter, In-right}}
use Rattle.dsa_tables.specs.declared.parts.Part.{Part, TheVariants.{Entry, Answers, Waits, Removals}}
use Rattle.dsa_tables.specs.{Lines.{is_in_part}, Naming.{rows_of_act, rows_of_part}}
use Rattle.dsa_tables.specs.Naming.{table_rows, HasNoRowNamed, IsFirstNamed}
use Rattle.dsa_recordings.specs.Recordings.{recording_text}
use Rattle.dsa_exploration.specs.{Plan.{IsPlan}, Exploration.{HasBadParties}}
use Rattle.dsa_questions.specs.Shown.{calls_question}
use Rattle.dsa_exploration.specs.Showing.{HasNoSuchRow, IsRowShowingOf, IsSearchOf, IsShown, IsShowingOf}
use Rattle.dsa_exploration.proofs.Faults.{of_parties}

-- ---- rows of a table

In-flat : {X Y : Type 0} (f : X → List Y) (y : Y) (xs : List X) → In y (flat_map f xs) → (x : X) × In y (f x)
In-flat f y [] i = absurd i
In-flat f y (x ∷ xs) i = ⊎_elim (λ j. (x, j)) (λ j. In-flat f y xs j) (In-append y (f x) (flat_map f xs) i)

part-row : (rows : List Found) (part : Part) (row : Found) → In row (rows_of_part rows part) → In row rows
part-row rows part row i = (In-filter (λ (r : Found). is_in_part part r.finding) row rows i).0

act-row : (rows : List Found) (act : ℕ) (row : Found) → In row (rows_of_act rows act) → In row rows
unfolding rows_of_act
act-row rows act row i = ⊎_elim
    (λ j. ⊎_elim (part-row rows (Answers act) row) (part-row rows (Waits act) row)
    (In-append row (rows_of_part rows (Answers act)) (rows_of_part rows (Waits act)) j))
    (part-row rows (Removals act) row)
    (In-append row (rows_of_part rows (Answers act) ++ rows_of_part rows (Waits act)) (rows_of_part rows (Removals act)) i)

-- they are rows of the search
table-row : (labels acts : List (List ℕ)) (rows : List Found) (row : Found) → In row (table_rows labels acts rows)
    → In row rows
table-row labels acts rows row i = ⊎_elim
    (λ j. let p = In-flat (λ number. rows_of_part rows (Entry number)) row (numbers_below (length labels)) j in
    part-row rows (Entry p.0) row p.1)
    (λ j. let p = In-flat (rows_of_act rows) row (numbers_below (length acts)) j in act-row rows p.0 row p.1)
    (In-append row _ _ i)

-- names and rows that are equal have equal rows of a name
pub first-as : (labels acts labels' acts' : List (String Global)) (rows rows' : List Found) (name : List ℕ) (row : Found)
    → labels ≡ labels' → acts ≡ acts' → rows ≡ rows'
    → IsFirstNamed (map string_bytes labels) (map string_bytes acts)
    (table_rows (map string_bytes labels) (map string_bytes acts) rows) name row
    → IsFirstNamed (map string_bytes labels') (map string_bytes acts')
    (table_rows (map string_bytes labels') (map string_bytes acts') rows') name row
first-as labels acts labels' acts' rows rows' name row a b r named = rw (← a, ← b, ← r) named

pub none-as : (labels acts labels' acts' : List (String Global)) (rows rows' : List Found) (name : List ℕ)
    → labels ≡ labels' → acts ≡ acts' → rows ≡ rows'
    → HasNoRowNamed (map string_bytes labels) (map string_bytes acts)
    (table_rows (map string_bytes labels) (map string_bytes acts) rows) name
    → HasNoRowNamed (map string_bytes labels') (map string_bytes acts')
    (table_rows (map string_bytes labels') (map string_bytes acts') rows') name
none-as labels acts labels' acts' rows rows' name a b r none = rw (← a, ← b, ← r) none

module _ (bounds : Bounds) (name bytes : List ℕ) where
  -- a fault of the parties is told without a text
  pub shown-alone : (text : List ℕ) (fault : Option ScenarioFault) (e : ScenarioFault) → HasBadParties bytes e
      → text ≡ [] → fault ≡ Some e → IsShowingOf bounds name bytes fault text
  shown-alone text fault e has empty is =
      rw is (of_parties (λ e. HasBadParties bytes e → IsShowingOf bounds name bytes (Some e) text)
      (λ has. inl (empty, has)) (λ has. inl (empty, has)) (λ i has. inl (empty, has)) (λ has. inl (empty, has))
      has.caps.engines has.document e has.said has)

  module _ {caps : Caps} {script : Script} {setup : List Event} {labels acts : List (List ℕ)}
      (called : calls_question labels acts name ≡ false) where
    -- no search can begin
    pub shown-of-setup : (fault : Option ScenarioFault) (text : List ℕ) → IsPlan bytes caps script setup labels acts []
        → CannotBegin caps setup → fault ≡ Some BadSetup → text ≡ [] → IsRowShowingOf bounds name bytes fault text
    shown-of-setup fault text plan stopped f empty =
        rw f (
          empty,
          record {
            caps = caps;
            script = script;
            setup = setup;
            labels = labels;
            acts = acts;
            plan = plan;
            called = called;
            stopped = stopped;
          },
        )

    module _ (explored : Explored) (search : IsSearchOf bounds bytes caps script setup labels acts explored) where
      -- no row is called so
      pub none-shown : (fault : Option ScenarioFault) (text : List ℕ)
          → HasNoRowNamed labels acts (table_rows labels acts explored.rows.items) name
          → fault ≡ Some (if explored.is_complete then NoSuchRow else Incomplete) → text ≡ []
          → IsRowShowingOf bounds name bytes fault text
      none-shown fault text none f empty = rw f (go explored.is_complete refl)
        where
          no-row : (b : Bool) → explored.is_complete ≡ b → HasNoSuchRow bounds name bytes b
          no-row b e = record {
            caps = caps;
            script = script;
            setup = setup;
            labels = labels;
            acts = acts;
            explored = explored;
            search = search;
            called = called;
            complete = e;
            none = none;
          }

          go : (b : Bool) → explored.is_complete ≡ b
              → IsRowShowingOf bounds name bytes (Some (if b then NoSuchRow else Incomplete)) text
          go true e = (empty, no-row true e)
          go false e = (empty, no-row false e)

      module _ (row : Found)
          (named : IsFirstNamed labels acts (table_rows labels acts explored.rows.items) name row) where
        -- the search has it
        pub row-within : In row explored.rows.items
        row-within = table-row labels acts explored.rows.items row (subst (λ (l : List Found). In row l)
            (sym named.parts) (In-right row named.before (row ∷ named.after) (inl refl)))

        -- its document
        pub row-shown : (steps : List Step) (text : List ℕ) (count : ℕ)
            → IsSchedule caps script setup row.steps row.finding steps → count ≡ length steps
            → text ≡ recording_text caps count steps → IsRowShowingOf bounds name bytes None text
        row-shown steps text count schedule c document = record {
          caps = caps;
          script = script;
          setup = setup;
          labels = labels;
          acts = acts;
          explored = explored;
          search = search;
          called = called;
          row = row;
          named = named;
          steps = steps;
          schedule = schedule;
          document = rw c at document;
        }
