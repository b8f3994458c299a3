use Rattle.dsa_serve.proofs.opening.open_session.Goals as goal
use Rattle.std.proofs.Common.{◌≡◌, ◌≢◌, ◌++◌, ◌∙◌, [], ap, length, sym, refl, map, inl, inr, string_bytes}
use Rattle.std.proofs.lemmas.{Result.{err_from_is_err_and}, List.Elements.{All-nil}}
use Rattle.dsa_scenario.{proofs.Whole.{has_head}, specs.Lines.{line_of_text}}
use Rattle.dsa_conform.proofs.Objects.{count_read}
use Rattle.dsa_serve.proofs.FirstFaults.{first_fault}
use Rattle.serde_json.specs.View.{view}
use Rattle.dsa_serve.specs.Names.{names_over}
use Rattle.dsa_serve.specs.{Answers.{ready_text}, Input.{IsLine}, Requests.{step_request}}
use Rattle.dsa_serve.proofs.Sessions.{new_session, taken}

pub returns-clause-ok : goal.returns-clause-ok
returns-clause-ok c blank first form =
    let head = c.in-Some.head in
    let made = c.in_ok-make_steps.ensures in
    let count : length head.steps.now ≡ length made.0 =
    sym (count_read head.steps.now made.0 made.1) in
    let it = made.2 head.caps head.capacity
    (rw blank (new_session head.caps head.capacity _ _ c.in_ok-device.ensures.first)) in
    record {
      lines = [];
      rest = [];
      caps = head.caps;
      capacity = head.capacity;
      observed = made.0;
      requests = [];
      records = it.0;
      lines_are = record { joined = refl; each = All-nil IsLine; last = All-nil (λ b. b ≢ 10) };
      keeps = refl;
      strict = c.args.bytes.now;
      form = form;
      document = record {
        steps = _;
        head = has_head _ _ _ _ _ c.in_ok-value.ensures.ok c.in-Some.ensures;
        read = made.1;
      };
      opening = c.in_ok-device.ensures.opening;
      asked = it.3 ∙ ap (λ n. names_over n (map view head.steps.now) it.0) c.no_names.ensures;
      session = taken head.caps head.capacity (map step_request made.0) it.0 (length made.0) _ _ _ _ [] _ _
          (c.in_ok-add_ready.ensures
          ∙ ap (λ n. string_bytes c.make_steps.new.text ++ line_of_text (ready_text n)) count) it.1;
    }

pub returns-in-Some-first_unread-clause-err : goal.returns-in-Some-first_unread-clause-err
returns-in-Some-first_unread-clause-err c = inr (record {
  caps = _;
  capacity = _;
  steps = _;
  head = has_head _ _ _ _ _ c.in_ok-value.ensures.ok c.in-Some.ensures;
  bad = c.in-Some-first_unread.ensures;
})

pub returns-in_err-device-clause-err : goal.returns-in_err-device-clause-err
returns-in_err-device-clause-err c =
    let p =
    err_from_is_err_and c.from_residual-in_err-device.result c.from_residual-in_err-device.ensures.1 in
    rw (p.1, p.2) (elim c.in_err-device.ensures.fault [
      | inl memory ↦ inl memory
      | inr fault ↦ first_fault _ _ _ _ _ _ (has_head _ _ _ _ _ c.in_ok-value.ensures.ok c.in-Some.ensures)
          c.in_default-first_unread.ensures.1 fault
    ])
