use Rattle.dsa_serve.proofs.rows.dialogues.Goals as goal
use Rattle.dsa_book.specs.declared.answer.Reply.TheVariants as reply
use Rattle.dsa_book.specs.declared.event.Event.TheVariants as event
use Rattle.dsa_scenario.specs.Steps.{visits}
use Rattle.std.proofs.Common.{◌++◌, ℕ, ◌≢◌, true, false, List, [], ◌∷◌, None, codes, map, refl}
use Rattle.std.proofs.Common.{lit≤, lit<, arith, sym}
use Rattle.std.proofs.Common.{append-nil, inl, inr}
use Rattle.std.specs.Fmt.{digits}
use Rattle.std.proofs.lemmas.List.Elements.{All-nil, All-cons}
use Rattle.dsa_book.specs.declared.answer.PollAnswer.TheVariants.{Nothing}
use Rattle.dsa_scenario.specs.declared.{actions.Action.TheVariants.{Ask}, run.Record.{Record}}
use Rattle.dsa_book.specs.State.{opening}
use Rattle.dsa_scenario.specs.{Lines.{line_of_text}, Worked.{smallest_caps, stepped}}
use Rattle.dsa_scenario.specs.Worked.{caps_of_a_run, actions_of_a_run, records_of_a_run}
use Rattle.dsa_serve.specs.Requests.{Explain}
use Rattle.dsa_serve.specs.{Input.{IsLine, AreLines, HasFirst}}
use Rattle.dsa_serve.specs.{Dialogue.{IsDialogue, AnswersWhole, AnswersAll}}
use Rattle.dsa_serve.specs.Worked.{answers_to_a_brace, poll_line, explained_poll_line, first_line}
use Rattle.dsa_serve.specs.Worked.{not_json, unseen}
use Rattle.dsa_serve.proofs.RowDialogues.{bare_document, poll_document, open_brace, nothing_behind}
use Rattle.dsa_serve.proofs.RowDialogues.{asks_no_json, asks_explained_poll, dialogue_by}
use Rattle.dsa_serve.proofs.RowDialogues.{alone, bare_dialogue, all_unseen, led}

pub returns-clause-no_lines : goal.returns-clause-no_lines
returns-clause-no_lines c = bare_dialogue

abbrev polled : Record
polled = stepped event.Poll (reply.Poll Nothing)

pub returns-clause-lines : goal.returns-clause-lines
unfolding digits
returns-clause-lines c =
    dialogue_by (first_line poll_line) (codes "{" ∷ explained_poll_line ∷ []) ((Ask event.Poll, unseen) ∷ [])
    (not_json ∷ Explain (Ask event.Poll) unseen ∷ []) (visits smallest_caps 9 [] (polled ∷ polled ∷ []))
    poll_document (asks_no_json, (asks_explained_poll, refl)) (refl, (refl, tt))
    (led refl refl refl, (led refl refl refl, tt)) refl
    (all_unseen (Ask event.Poll ∷ Ask event.Poll ∷ []) (visits smallest_caps 9 [] (polled ∷ polled ∷ [])))

-- the first line of such an input, and the lines behind it
split : (behind : List ℕ) → HasFirst false (line_of_text (first_line []) ++ behind) (first_line []) behind
split behind = record { unended = refl; short = lit≤ tt; front = (refl, refl) }

one_line : AreLines (codes "{\n{") (codes "{" ∷ []) (codes "{")
one_line = record {
  joined = refl;
  each = All-cons IsLine (codes "{") [] open_brace (All-nil IsLine);
  last = open_brace;
}

no_line : AreLines (codes "{") [] (codes "{")
no_line = record { joined = refl; each = All-nil IsLine; last = open_brace }

dialogue : IsDialogue false (first_line []) (codes "{" ∷ []) (opening smallest_caps) (answers_to_a_brace)
unfolding digits
dialogue = dialogue_by (first_line []) (codes "{" ∷ []) [] (not_json ∷ []) [] bare_document
    (asks_no_json, refl) tt tt refl tt

-- what answers the whole lines of such an input, and what answers all of them
whole_of : (behind rest : List ℕ) → AreLines behind (codes "{" ∷ []) rest
    → AnswersWhole false false (line_of_text (first_line []) ++ behind) (answers_to_a_brace)
whole_of behind rest lines_are = record {
  first = first_line [];
  behind = behind;
  lines = codes "{" ∷ [];
  rest = rest;
  last = opening smallest_caps;
  split = split behind;
  lines_are = lines_are;
  dialogue = dialogue;
}

all_of : AnswersAll false (line_of_text (first_line []) ++ codes "{") (answers_to_a_brace)
all_of = record {
  without_feed = false;
  first = first_line [];
  behind = codes "{";
  split = split (codes "{");
  ended = record {
    lines = [];
    rest = codes "{";
    last = opening smallest_caps;
    answered = answers_to_a_brace;
    lines_are = no_line;
    dialogue = dialogue;
    with_fates = refl;
  };
}

pub returns-clause-whole : goal.returns-clause-whole
returns-clause-whole c = whole_of (codes "{\n{") (codes "{") one_line

pub returns-clause-so_far : goal.returns-clause-so_far
returns-clause-so_far c = inr (whole_of (codes "{\n{") (codes "{") one_line)

pub returns-clause-all : goal.returns-clause-all
returns-clause-all c = all_of

-- ---- where one stopped

pub returns-clause-write : goal.returns-clause-write
returns-clause-write c = (
  line_of_text (first_line []) ++ codes "{\n{",
  answers_to_a_brace,
  5,
  refl,
  inl (whole_of (codes "{\n{") (codes "{") one_line),
  lit< tt,
  refl,
)

pub returns-clause-write_at_the_end : goal.returns-clause-write_at_the_end
returns-clause-write_at_the_end c = (
  line_of_text (first_line []) ++ codes "{",
  answers_to_a_brace,
  5,
  refl,
  inr (inr (refl, all_of)),
  lit< tt,
  refl,
)

line_alone : AreLines (codes "{\n") (codes "{" ∷ []) []
line_alone = record {
  joined = refl;
  each = All-cons IsLine (codes "{") [] open_brace (All-nil IsLine);
  last = All-nil (λ byte. byte ≢ 10);
}

pub returns-clause-memory : goal.returns-clause-memory
returns-clause-memory c rest long = (
  line_of_text (first_line []) ++ codes "{\n",
  10 ∷ rest,
  answers_to_a_brace,
  sym (append-nil ((line_of_text (first_line []) ++ codes "{\n") ++ 10 ∷ rest)),
  omega (arith, long),
  inl (inr (whole_of (codes "{\n") [] line_alone)),
  refl,
)

poll_dialogue : IsDialogue false (first_line poll_line) [] (opening smallest_caps)
    (codes "nothing\nready 1\n")
unfolding digits
poll_dialogue =
    dialogue_by (first_line poll_line) [] ((Ask event.Poll, unseen) ∷ []) []
    (visits smallest_caps 9 [] (polled ∷ [])) poll_document refl (refl, tt) (led refl refl refl, tt) refl
    (all_unseen (Ask event.Poll ∷ []) (visits smallest_caps 9 [] (polled ∷ [])))

only_line : AnswersWhole false true (first_line poll_line) (codes "nothing\nready 1\n")
only_line = alone (first_line poll_line) (codes "nothing\nready 1\n") refl (lit≤ tt) poll_dialogue

pub returns-clause-memory_at_the_only_line : goal.returns-clause-memory_at_the_only_line
returns-clause-memory_at_the_only_line c =
    (first_line poll_line, [], codes "nothing\nready 1\n", refl, lit≤ tt, inr (refl, only_line), refl)

-- ---- fates

pub returns-clause-ended : goal.returns-clause-ended
unfolding digits
returns-clause-ended c first document = record {
  lines = [];
  rest = [];
  last = _;
  answered = codes
      "written\nwritten\nended 0\nended 0\nrefused 13 BadCommand\naccepted 0\ntaken 0 from 0\ndone 01\nfull\nready 9\n";
  lines_are = nothing_behind;
  dialogue = record {
    caps = caps_of_a_run;
    capacity = 7;
    observed = map (λ action. (action, unseen)) actions_of_a_run;
    requests = [];
    steps = visits caps_of_a_run 7 [] records_of_a_run;
    strict = first;
    form = refl;
    document = document;
    opening = record { good = refl; small = lit≤ tt };
    names = None;
    asked = refl;
    course = record {
      of_actions = (refl, (refl, (refl, (refl, (refl, (refl, (refl, (refl, (refl, tt)))))))));
      led = (
        led refl refl refl,
        (
          led refl refl refl,
          (
            led refl refl refl,
            (
              led refl refl refl,
              (
                led refl refl refl,
                (led refl refl refl, (led refl refl refl, (led refl refl refl, (led refl refl refl, tt)))),
              ),
            ),
          ),
        ),
      );
      closest = all_unseen actions_of_a_run (visits caps_of_a_run 7 [] records_of_a_run);
      answered = refl;
    };
    led_to = refl;
  };
  with_fates = refl;
}
