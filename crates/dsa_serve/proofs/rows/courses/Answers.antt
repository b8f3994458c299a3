use Rattle.dsa_serve.proofs.rows.courses.Goals as goal
use Rattle.std.proofs.Common.{◌≡◌, ◌≢◌, ◌∙◌, ◌++◌, ℕ, List, [], ◌∷◌, All, codes, refl, ap}
use Rattle.std.proofs.Common.{None, false, arith, drop, lit≤, flat_map, length, length-take}
use Rattle.std.proofs.Common.{append_assoc, append-nil, subst, sym}
use Rattle.std.proofs.lemmas.{Bool.{false≢true}, List.Elements.{All-nil, All-cons}}
use Rattle.std.specs.Fmt.{digits}
use Rattle.serde_json.proofs.OnLiterals.{serde_json_on_literals}
use Rattle.dsa_regs.specs.Caps.{check_caps}
use Rattle.dsa_book.specs.declared.answer.Ticket.{Ticket}
use Rattle.dsa_device.specs.Running.{Running, running_at_first, IsReplay}
use Rattle.dsa_scenario.specs.Lines.{line_of_text}
use Rattle.dsa_scenario.specs.Worked.{smallest_caps, no_caps_text, document_text}
use Rattle.dsa_serve.proofs.Sessions.{new_session, taken}
use Rattle.dsa_serve.specs.Names.{Names, own_names_of}
use Rattle.dsa_serve.specs.Requests.{Request, Fault, Ready}
use Rattle.dsa_serve.specs.{Answers.{answers}, Input.{IsLine}}
use Rattle.dsa_serve.specs.{Dialogue.{from_document, names_at_first, IsServing}, Worked.{first_line}}
use Rattle.dsa_serve.proofs.RowLines.{apart_at, no_lines, no_feed_behind, one_division}
use Rattle.dsa_serve.proofs.RowDialogues.{as_given, bare_document, parts_are, no_document, bare_parts}
use Rattle.dsa_serve.proofs.RowDialogues.{opening_is, nothing_behind}
use Rattle.dsa_serve.specs.declared.ending.Inside.TheVariants.{Brackets}
use Rattle.dsa_serve.proofs.{Ends.{line_no_end}, RowDialogues.{no_request, one_fault}}

-- what is so of a session: its answers
answers_are : (first behind output : List ℕ) (number : ℕ) (now : Running) (tickets : List Ticket) (told : ℕ)
    (names : Names) (kept : List ℕ)
    (is : IsServing false first behind output number now tickets told names kept) (requests : List Request)
    → from_document is.observed is.requests ≡ requests
    → output ≡ answers (running_at_first is.caps is.capacity) 0 requests is.session.steps
answers_are first behind output number now tickets told names kept is requests e =
    is.session.course.answered
    ∙ ap (λ rs. answers (running_at_first is.caps is.capacity) 0 rs is.session.steps) e

nothing_answered : (output : List ℕ) (number : ℕ) (now : Running) (tickets : List Ticket) (told : ℕ)
    (names : Names) (kept : List ℕ)
    → IsServing false (first_line []) [] output number now tickets told names kept
    → output ≡ codes "ready 0\n"
unfolding digits
nothing_answered output number now tickets told names kept is =
    let none = no_request (names_at_first false is.document.steps is.records) is.requests
    (drop (length is.observed) is.records) names
    (rw (no_lines is.lines is.rest is.lines_are.joined).0 at is.asked) in
    answers_are (first_line []) [] output number now tickets told names kept is (Ready 0 ∷ [])
    (rw (bare_parts is.caps is.capacity is.observed (as_given is.form is.document)).1 (ap (λ rs. Ready 0 ∷ rs) none))

opened_here : IsServing false (first_line []) [] (codes "ready 0\n") 0
    (running_at_first smallest_caps 9) [] 0 None []
unfolding digits
opened_here =
    let replay : IsReplay (running_at_first smallest_caps 9) =
    record { caps = refl; bounded = lit≤ tt; within = lit≤ tt; legal = refl; replayed = refl } in
    record {
      lines = [];
      rest = [];
      caps = smallest_caps;
      capacity = 9;
      observed = [];
      requests = [];
      records = [];
      lines_are = nothing_behind;
      keeps = refl;
      strict = first_line [];
      form = refl;
      document = bare_document;
      opening = opening_is;
      asked = refl;
      session = taken smallest_caps 9 [] [] 0 0 (running_at_first smallest_caps 9) [] 0 [] []
          (codes "ready 0\n") refl (new_session smallest_caps 9 (running_at_first smallest_caps 9) []
          (record { device = refl; replay = replay; none = refl }));
    }

pub returns-clause-opened : goal.returns-clause-opened
returns-clause-opened c = opened_here

no_session : (behind output : List ℕ) (number : ℕ) (now : Running) (tickets : List Ticket) (told : ℕ)
    (names : Names) (kept : List ℕ)
    → ¬ IsServing false (codes "{}") behind output number now tickets told names kept
unfolding serde_json_on_literals
no_session behind output number now tickets told names kept is =
    no_document (codes "{}") is.caps is.capacity is.observed _ refl refl (as_given is.form is.document)

pub returns-clause-no_document : goal.returns-clause-no_document
returns-clause-no_document c output number now tickets told names kept is =
    no_session [] output number now tickets told names kept is

pub returns-clause-bad_caps : goal.returns-clause-bad_caps
unfolding serde_json_on_literals
returns-clause-bad_caps c output number now tickets told names kept is =
    let parts = parts_are (document_text no_caps_text (codes "9") []) is.caps is.capacity is.observed _ _ refl refl
    (as_given is.form is.document) in
    false≢true (ap check_caps parts.0 ∙ is.opening.good)

pub returns-clause-not_told_to_be_taken : goal.returns-clause-not_told_to_be_taken
returns-clause-not_told_to_be_taken c number now tickets told names kept is =
    let none = nothing_answered [] number now tickets told names kept is in
    absurd cc

pub returns-clause-answered_too_early : goal.returns-clause-answered_too_early
returns-clause-answered_too_early c output number now tickets told names kept is =
    nothing_answered output number now tickets told names kept is

-- a line feed is one empty line
one_line : (lines : List (List ℕ)) (rest : List ℕ) → 10 ∷ [] ≡ flat_map line_of_text lines ++ rest
    → All IsLine lines → IsLine rest → lines ≡ [] ∷ []
one_line lines rest e each last =
    let none : IsLine [] = All-nil (λ byte. byte ≢ 10) in
    sym (one_division ([] ∷ []) lines [] rest (All-cons IsLine [] [] none (All-nil IsLine))
    each none last e).0

pub returns-clause-line_without_its_answer : goal.returns-clause-line_without_its_answer
unfolding serde_json_on_literals digits
returns-clause-line_without_its_answer c number now tickets told names kept is =
    let line = one_line is.lines is.rest is.lines_are.joined is.lines_are.each is.lines_are.last in
    let one = one_fault (names_at_first false is.document.steps is.records) [] is.requests
    (drop (length is.observed) is.records) names (lit≤ tt) refl (rw line at is.asked) in
    let answer = answers_are (first_line []) (codes "\n") (codes "ready 0\n") number now tickets told names kept is
    (Ready 0 ∷ Fault one.0 ∷ [])
    (ap (λ o. from_document o is.requests) (bare_parts is.caps is.capacity is.observed (as_given is.form is.document)).1
    ∙ ap (λ rs. Ready 0 ∷ rs) one.2) in
    absurd (apart_at 8 0 102 (codes "ready 0\n") _ refl refl (λ same. omega (arith, same)) answer)

-- bytes without a line feed are the rest of a line
only_rest : (behind : List ℕ) (lines : List (List ℕ)) (rest : List ℕ) → IsLine behind
    → behind ≡ flat_map line_of_text lines ++ rest → behind ≡ rest
only_rest behind [] rest line e = e
only_rest behind (l ∷ lines) rest line e =
    absurd (no_feed_behind behind l (flat_map line_of_text lines ++ rest) line
    (e ∙ append_assoc (line_of_text l) (flat_map line_of_text lines) rest))

pub returns-clause-kept : goal.returns-clause-kept
returns-clause-kept c behind output number now tickets told names kept line is =
    let rest = only_rest behind is.lines is.rest line is.lines_are.joined in
    omega (arith, ap length is.keeps, ap length rest, length-take 1_048_577 is.rest)

-- ---- a dialogue

pub returns-clause-begun : goal.returns-clause-begun
returns-clause-begun c dialogue number device tickets told names kept = record {
  input = line_of_text (first_line []);
  first = first_line [];
  behind = [];
  output = codes "ready 0\n";
  read = refl;
  written = refl;
  unended = refl;
  short = lit≤ tt;
  front = (refl, refl);
  serving = rw number (rw device (rw tickets (rw told (rw names (rw kept opened_here)))));
}

pub returns-clause-begun_with_no_document : goal.returns-clause-begun_with_no_document
returns-clause-begun_with_no_document c dialogue held holds is =
    let session = dialogue.session in
    let first : is.first ≡ codes "{}" = sym (is.read ∙ append-nil is.input ∙ is.front.0) in
    no_session is.behind is.output session.number session.device session.tickets.items session.told
    (own_names_of session) dialogue.kept.items
    (subst (λ f. IsServing false f is.behind is.output session.number session.device session.tickets.items
    session.told (own_names_of session) dialogue.kept.items) first is.serving)

pub returns-clause-longest_first : goal.returns-clause-longest_first
returns-clause-longest_first c first output dialogue line long serving = record {
  input = first;
  first = first;
  behind = [];
  output = output;
  read = sym (append-nil first);
  written = refl;
  unended = line_no_end (Brackets 0) first line;
  short = omega (arith, long);
  front = (refl, refl);
  serving = serving;
}

pub returns-clause-written_too_early : goal.returns-clause-written_too_early
returns-clause-written_too_early c dialogue is =
    let session = dialogue.session in
    let first : is.first ≡ first_line [] = sym (is.read ∙ append-nil is.input ∙ is.front.0) in
    let served = subst (λ f. IsServing false f is.behind is.output session.number session.device
    session.tickets.items session.told (own_names_of session) dialogue.kept.items) first is.serving in
    let none = nothing_answered is.output session.number session.device session.tickets.items session.told
    (own_names_of session) dialogue.kept.items (subst (λ b. IsServing false
    (first_line []) b is.output session.number session.device session.tickets.items session.told
    (own_names_of session) dialogue.kept.items) is.front.1 served) in
    absurd (omega (arith, ap length (is.written ∙ none)))
