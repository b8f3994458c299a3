-- What was seen of a step, and which answers show it.
use Rattle.dsa_book.specs.declared.event.Event.TheVariants as event
use Rattle.dsa_book.specs.declared.answer.Reply.TheVariants as reply
use Rattle.std.specs.Prelude.{ℕ, Bool, true, false, not, ◌&&◌, ◌||◌, List, [], ◌∷◌, ◌++◌, codes, decimal, bytes_eq}
use Rattle.std.specs.Prelude.{Option, Some, None, option_map, is_some, ⊤, ◌≡◌}
use Rattle.serde_json.specs.{Data.{Data}, Find.{get, as_bool, as_str}}
use Rattle.dsa_base.specs.Rows.{passes}
use Rattle.dsa_book.specs.declared.{event.Event.{Event}, answer.Reply.{Reply}}
use Rattle.dsa_book.specs.declared.answer.SubmitAnswer.TheVariants.{Accepted}
use Rattle.dsa_book.specs.declared.answer.{DispatchAnswer.TheVariants.{Taken}, FetchAnswer.TheVariants.{Fetched}}
use Rattle.dsa_book.specs.declared.answer.StartAnswer.TheVariants.{Started}
use Rattle.dsa_book.specs.Submit.{zf}
use Rattle.dsa_scenario.specs.declared.{actions.Action.{Action}, run.Record.{Record, TheVariants.{Stepped, Refused}}}
use Rattle.dsa_scenario.specs.{Actions.{action_of}, Fields.{◌>>=◌}, Lines.{refusal_text, reply_text, record_text}}
use Rattle.dsa_conform.specs.declared.observed.Observed.{Observed}

-- what was seen of a step: the text of its answer and the zero flag after it, as far as they were seen (profile)
pub record Seen : Type 0 where
  pub answer : Option (List ℕ)
  pub zf : Option Bool

-- nothing was
abbrev pub nothing_seen : Seen
nothing_seen = record { answer = None; zf = None }

-- whether anything was
abbrev pub is_seen : Seen → Bool
is_seen seen = is_some seen.answer || is_some seen.zf

-- ---- in a document

-- nothing, where nothing stands there, and else what is read of it
abbrev pub perhaps : {A : Type 0} → (Data → Option A) → Option Data → Option (Option A)
perhaps read None = Some None
perhaps read (Some value) = option_map Some (read value)

-- what a step object says was seen: a text at `answer` and a truth value at `zf`, where these keys stand there
-- (profile)
abbrev pub seen_of : Data → Option Seen
seen_of d = do
  answer ← perhaps as_str (get (codes "answer") d)
  zf ← perhaps as_bool (get (codes "zf") d)
  Some (record { answer = answer; zf = zf })

-- what it asks, and what was seen of it (profile)
abbrev pub observation_of : Data → Option (Action × Seen)
observation_of d = do
  action ← action_of d
  seen ← seen_of d
  Some (action, seen)

-- what a value of the program says was seen
abbrev pub seen_as : Observed → Seen
seen_as observed = record { answer = option_map (λ text. text.now) observed.answer; zf = observed.zf }

-- ---- which answers show it

-- the text of an answer without the name that it gives or tells (profile)
abbrev pub nameless_reply : Reply → List ℕ
nameless_reply (reply.Submit (Accepted ticket)) = codes "accepted"
nameless_reply (reply.Dispatch (Taken ticket queue)) = codes "taken from " ++ decimal queue
nameless_reply (reply.Fetch (Fetched ticket)) = codes "fetched"
nameless_reply (reply.Start (Started ticket)) = codes "started"
nameless_reply answer = reply_text answer

abbrev pub nameless_text : Record → List ℕ
nameless_text (Stepped step) = nameless_reply step.reply
nameless_text (Refused word) = refusal_text word.fault

-- the text is the line of the answer, with or without its name (profile)
abbrev pub answer_shown : Option (List ℕ) → Record → Bool
answer_shown None entry = true
answer_shown (Some text) entry = bytes_eq text (record_text entry) || bytes_eq text (nameless_text entry)

-- the zero flag that an answer leaves, where it reports one
abbrev pub zf_of_step : Event → Reply → Option Bool
zf_of_step (event.Submit client queue portal kind desc) (reply.Submit answer) = zf answer kind
zf_of_step _ _ = None

abbrev pub zf_of : Record → Option Bool
zf_of (Stepped step) = zf_of_step step.event step.reply
zf_of (Refused word) = None

abbrev pub is_flag : Bool → Bool → Bool
is_flag true flag = flag
is_flag false flag = not flag

-- the answer reports this zero flag (profile)
abbrev pub zf_shown : Option Bool → Record → Bool
zf_shown None entry = true
zf_shown (Some flag) entry = passes (is_flag flag) (zf_of entry)

-- the answer shows all that was seen of it (profile)
abbrev pub shows : Seen → Record → Bool
shows seen entry = answer_shown seen.answer entry && zf_shown seen.zf entry

-- each answer shows what was seen of it
abbrev pub AreShown : List Seen → List Record → Type 0
AreShown [] [] = ⊤
AreShown [] (entry ∷ entries) = ⊥
AreShown (seen ∷ more) [] = ⊥
AreShown (seen ∷ more) (entry ∷ entries) = (shows seen entry ≡ true) × AreShown more entries
