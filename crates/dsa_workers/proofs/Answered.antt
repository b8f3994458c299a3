-- What a call was answered, and how a history shows that it may be answered so.
use Rattle.std.proofs.Common.{◌≡◌, ℕ, ◌≤◌, ◌^◌, true, false, List, length, Option, Some, None, refl, sym, ap, subst}
use Rattle.std.proofs.lemmas.Bool.{and_parts}
use Rattle.std.specs.Prelude.{IsTrue, is_some, unwrap_or}
use Rattle.dsa_regs.specs.{declared.Caps.{Caps}, Caps.{check_caps}}
use Rattle.dsa_book.specs.declared.{answer.Reply.{Reply}, event.{Event.{Event}, Step.{Step}}}
use Rattle.dsa_book.specs.{Choice.{Choice, choice_of}, State.{State, opening}}
use Rattle.dsa_book.specs.Machine.{full_reply, is_legal, replay, reply_of}
use Rattle.dsa_book.proofs.{EqualReplies.{equal-replies}, Nexts.{next-is}}
use Rattle.dsa_device.{specs.Running.{Running, after_answer}, proofs.Steps.{answered_by_cases}}
use Rattle.dsa_shared.specs.Locked.{IsAnsweredFor}

-- what holds of Full and of each reply of the machine to an event, holds of what was answered to it
pub answer_has : (P : Reply → Type 0) (caps : Caps) (capacity : ℕ) (receipts : List Step) (event : Event)
    (reply : Reply)
    → P (full_reply event) → ((s : State) (choice : Choice) → P (reply_of s event choice).0)
    → IsAnsweredFor caps capacity receipts event reply → P reply
answer_has P caps capacity receipts event reply full each is =
    answered_by_cases (λ d. P reply) is.0 is.1 event reply is.4
    (λ room same. subst P (sym (equal-replies reply (full_reply event) same)) full)
    (λ s room step. subst P (ap (λ (r : Reply × State). r.0) (next-is is.0.state s event reply step).1)
    (each is.0.state (choice_of reply)))

-- the device that this history leads to
abbrev pub device_of : Caps → ℕ → List Step → Running
device_of caps capacity history = record {
  caps = caps;
  room = capacity;
  capacity = capacity;
  history = history;
  anew = false;
  state = unwrap_or (replay caps history) (opening caps);
}

there_is : {A : Type 0} (value : Option A) (other : A) → is_some value ≡ true → value ≡ Some (unwrap_or value other)
there_is None other is = absurd cc
there_is (Some x) other is = refl

-- what this device may answer, where it is not older than the receipts
pub answered_after : (caps : Caps) (capacity : ℕ) (receipts history : List Step) (event : Event) (reply : Reply)
    → IsTrue (check_caps caps) → capacity ≤ 2 ^ 20 → length history ≤ capacity → is_legal caps history ≡ true
    → length receipts ≤ length history → is_some (after_answer (device_of caps capacity history) event reply) ≡ true
    → IsAnsweredFor caps capacity receipts event reply
answered_after caps capacity receipts history event reply sound bounded within legal seen may =
    let d = device_of caps capacity history in (
      d,
      unwrap_or (after_answer d event reply) d,
      record {
        not_anew = refl;
        replay = record {
          caps = sound;
          bounded = bounded;
          within = within;
          legal = legal;
          replayed = there_is (replay caps history) (opening caps) (and_parts _ _ legal).1;
        };
        same_caps = refl;
        same_capacity = refl;
      },
      seen,
      there_is (after_answer d event reply) d may,
    )
