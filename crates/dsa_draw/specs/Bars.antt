-- The bars of a drawing: which entries engines had, from which step to which, and in which lanes.
use Rattle.std.specs.Prelude.{ℕ, zero, suc, ◌+◌, ◌-◌, ◌^◌, ◌==◌, ◌&&◌, Bool, false, not, cond, nat_lt, nat_le, min, List, [], ◌∷◌}
use Rattle.std.specs.Prelude.{◌++◌, length, set, Option, Some, None, slice_get, option_and_then}
use Rattle.dsa_desc.specs.declared.Descriptor.{Descriptor}
use Rattle.dsa_book.specs.declared.answer.Reply.{Reply, TheVariants.{Submit, Dispatch, Fetch, Start}}
use Rattle.dsa_book.specs.declared.answer.{SubmitAnswer.{SubmitAnswer, TheVariants.{Accepted}}}
use Rattle.dsa_book.specs.declared.answer.{DispatchAnswer.{DispatchAnswer, TheVariants.{Taken}}}
use Rattle.dsa_book.specs.declared.answer.{FetchAnswer.{FetchAnswer, TheVariants.{Fetched}}}
use Rattle.dsa_book.specs.declared.answer.{StartAnswer.{StartAnswer, TheVariants.{Started}}}
use Rattle.dsa_book.specs.declared.event.{Actor.{Actor, TheVariants.{Client, Engine}}}
use Rattle.dsa_book.specs.declared.fate.FateRow.{FateRow}
use Rattle.dsa_book.specs.Totals.{actor_of}
use Rattle.dsa_scenario.specs.declared.run.Record.{Record, TheVariants.{Stepped, Refused}}
use Rattle.dsa_draw.specs.declared.bars.{Arrival.{Arrival}, Bar.{Bar}, End.{End}, Table.{Table}}
use Rattle.dsa_draw.specs.declared.moment.Moment.{Moment}
use Rattle.dsa_draw.specs.{Bands.{next_step}, Rows.{rows_between}}

-- ---- which entries

-- the bars in the order in which they begin, and for each name that was given the place of its bar and who
-- submitted it
pub record NotedBars : Type 0 where
  pub bars : List Bar
  pub places : List (Option ℕ)
  pub clients : List (Option ℕ)

abbrev pub noted_in : Table → NotedBars
noted_in table = record { bars = table.bars.items; places = table.places.items; clients = table.clients.items }

-- a name was given, to an entry of this client, if any, that has no bar yet
abbrev pub with_name : Option ℕ → NotedBars → NotedBars
with_name client noted =
    record noted { places = noted.places ++ None ∷ []; clients = noted.clients ++ client ∷ [] }

-- the bar comes last, and its name has it
abbrev pub with_bar : Bar → NotedBars → NotedBars
with_bar bar noted = record noted {
  bars = noted.bars ++ bar ∷ [];
  places = set noted.places bar.name (Some (length noted.bars));
}

-- the bar at a place, changed
abbrev pub changed_at : (Bar → Bar) → ℕ → List Bar → List Bar
changed_at change place [] = []
changed_at change zero (bar ∷ bars) = change bar ∷ bars
changed_at change (suc place) (bar ∷ bars) = bar ∷ changed_at change place bars

abbrev pub changed_by : (Bar → Bar) → Option ℕ → List Bar → List Bar
changed_by change None bars = bars
changed_by change (Some place) bars = changed_at change place bars

-- the place of the bar that a name has
abbrev pub place_of : ℕ → List (Option ℕ) → Option ℕ
place_of name places = option_and_then (λ place. place) (slice_get places name)

-- who submitted the entry of a name
abbrev pub submitter_in : ℕ → List (Option ℕ) → Option ℕ
submitter_in name clients = option_and_then (λ client. client) (slice_get clients name)

-- the bar that a name has, changed; nothing changes where it has none
abbrev pub with_change : (Bar → Bar) → ℕ → NotedBars → NotedBars
with_change change name noted =
    record noted { bars = changed_by change (place_of name noted.places) noted.bars }

-- since this step it runs
abbrev pub started_at : ℕ → Bar → Bar
started_at step bar = record bar { started = Some step }

-- with this step it ended so
abbrev pub ended_at : ℕ → FateRow → Bar → Bar
ended_at step row bar = record bar { end = Some (record { step = step; fate = row.fate }) }

-- the entries of these rows ended with this step
abbrev pub with_ends : ℕ → List FateRow → NotedBars → NotedBars
with_ends step [] noted = noted
with_ends step (row ∷ rows) noted = with_ends step rows (with_change (ended_at step row) row.name noted)

-- the engine works on this batch
abbrev pub is_batch_named : ℕ → Option ℕ → Bool
is_batch_named name None = false
is_batch_named name (Some batch) = batch == name

-- what comes to an engine so
abbrev pub begun_bar : ℕ → Arrival → Bar
begun_bar name arrival = record {
  name = name;
  engine = arrival.engine;
  client = None;
  desc = arrival.desc;
  parent = None;
  is_batch = false;
  begin = arrival.step;
  started = None;
  end = None;
  lane = 0;
}

-- what it took from a queue was submitted by a client, and runs at once
abbrev pub taken_bar : ℕ → Option ℕ → Arrival → Bar
taken_bar name client arrival = record (begun_bar name arrival) {
  client = client;
  is_batch = is_batch_named name arrival.batch;
  started = Some arrival.step;
}

-- what it fetched is a member of its batch, and is to be started
abbrev pub fetched_bar : ℕ → Arrival → Bar
fetched_bar name arrival = record (begun_bar name arrival) { parent = arrival.batch }

-- the engine whose step it was; 0 where it was of none
abbrev pub engine_of_actor : Actor → ℕ
engine_of_actor (Engine engine) = engine
engine_of_actor _ = 0

-- the client whose step it was
abbrev pub client_of_actor : Actor → Option ℕ
client_of_actor (Client client) = Some client
client_of_actor _ = None

-- how the step of this actor, of which this is the moment, brings an entry to its engine
abbrev pub arrival_of : ℕ → Actor → Moment → Arrival
arrival_of step actor moment =
    record { engine = engine_of_actor actor; step = step; batch = moment.batch; desc = moment.desc }

abbrev pub noted_submit : Actor → SubmitAnswer → NotedBars → NotedBars
noted_submit actor (Accepted ticket) noted = with_name (client_of_actor actor) noted
noted_submit actor _ noted = noted

abbrev pub noted_dispatch : Arrival → DispatchAnswer → NotedBars → NotedBars
noted_dispatch arrival (Taken ticket queue) noted =
    with_bar (taken_bar ticket.name (submitter_in ticket.name noted.clients) arrival) noted
noted_dispatch arrival _ noted = noted

abbrev pub noted_fetch : Arrival → FetchAnswer → NotedBars → NotedBars
noted_fetch arrival (Fetched ticket) noted = with_bar (fetched_bar ticket.name arrival) (with_name None noted)
noted_fetch arrival _ noted = noted

abbrev pub noted_start : ℕ → StartAnswer → NotedBars → NotedBars
noted_start step (Started ticket) noted = with_change (started_at step) ticket.name noted
noted_start step _ noted = noted

-- what the step of this actor brought to its engine
abbrev pub noted_reply : Actor → Arrival → Reply → NotedBars → NotedBars
noted_reply actor arrival (Submit answer) noted = noted_submit actor answer noted
noted_reply actor arrival (Dispatch answer) noted = noted_dispatch arrival answer noted
noted_reply actor arrival (Fetch answer) noted = noted_fetch arrival answer noted
noted_reply actor arrival (Start answer) noted = noted_start arrival.step answer noted
noted_reply actor arrival _ noted = noted

abbrev pub noted_by : ℕ → Moment → Record → NotedBars → NotedBars
noted_by step moment (Stepped made) noted =
    noted_reply (actor_of made.event) (arrival_of step (actor_of made.event) moment) made.reply noted
noted_by step moment (Refused fault) noted = noted

abbrev pub noted_entry : ℕ → Moment → NotedBars → NotedBars
noted_entry step moment noted = noted_by step moment moment.entry noted

-- what a step brought, and then what ended with it; before it so many entries had ended
abbrev pub noted_moment : List FateRow → ℕ → ℕ → Moment → NotedBars → NotedBars
noted_moment fates step ended moment noted =
    with_ends step (rows_between fates ended moment.ended) (noted_entry step moment noted)

-- after all of these moments, the first one's step of this number
abbrev pub noted_moments : List FateRow → ℕ → ℕ → List Moment → NotedBars → NotedBars
noted_moments fates step ended [] noted = noted
noted_moments fates step ended (moment ∷ moments) noted =
    noted_moments fates (next_step step) moment.ended moments (noted_moment fates step ended moment noted)

-- the bars of a run
abbrev pub bars_of : List Moment → List FateRow → List Bar
bars_of moments fates = (noted_moments fates 0 0 moments (record { bars = []; places = []; clients = [] })).bars

-- ---- lanes

-- the step whose column a bar does not reach, `last` where it has no end
abbrev pub end_step_by : ℕ → Option End → ℕ
end_step_by last None = last
end_step_by last (Some end) = end.step

abbrev pub end_step : ℕ → Bar → ℕ
end_step last bar = end_step_by last bar.end

abbrev pub is_kind : Bool → Option ℕ → Bool
is_kind members None = not members
is_kind members (Some batch) = members

-- the bar is this engine's, and one of its members or not
abbrev pub is_bar_of : ℕ → Bool → Bar → Bool
is_bar_of engine members bar = bar.engine == engine && is_kind members bar.parent

-- the place of the first lane that is free from `begin` on, or the one after all of them
abbrev pub free_place : ℕ → List ℕ → ℕ
free_place begin [] = 0
free_place begin (free_from ∷ lanes) = cond (nat_le free_from begin) 0 (free_place begin lanes + 1)

-- that lane is taken until `end`
abbrev pub lanes_taken : ℕ → ℕ → List ℕ → List ℕ
lanes_taken begin end lanes =
    cond (nat_lt (free_place begin lanes) (length lanes)) (set lanes (free_place begin lanes) end) (lanes ++ end ∷ [])

-- numbers of lanes have 32 bits
abbrev pub lane_number : ℕ → ℕ
lane_number place = min place (2 ^ 32 - 1)

-- the bar in its lane, and the lanes after it; other bars stay as they are
abbrev pub in_lane : ℕ → Bool → List ℕ → Bar → Bar
in_lane engine members lanes bar =
    cond (is_bar_of engine members bar) (record bar { lane = lane_number (free_place bar.begin lanes) }) bar

abbrev pub lanes_after : ℕ → Bool → ℕ → List ℕ → Bar → List ℕ
lanes_after engine members last lanes bar =
    cond (is_bar_of engine members bar) (lanes_taken bar.begin (end_step last bar) lanes) lanes

-- each bar in a lane in which it is alone, and all lanes that this takes
abbrev pub in_lanes : ℕ → Bool → ℕ → List ℕ → List Bar → List Bar
in_lanes engine members last lanes [] = []
in_lanes engine members last lanes (bar ∷ bars) =
    in_lane engine members lanes bar
    ∷ in_lanes engine members last (lanes_after engine members last lanes bar) bars

abbrev pub all_lanes : ℕ → Bool → ℕ → List ℕ → List Bar → List ℕ
all_lanes engine members last lanes [] = lanes
all_lanes engine members last lanes (bar ∷ bars) =
    all_lanes engine members last (lanes_after engine members last lanes bar) bars

-- so many lanes
abbrev pub lane_count : List ℕ → ℕ
lane_count lanes = lane_number (length lanes)
