-- What step objects are read as.
use Rattle.dsa_book.specs.declared.event.Event.TheVariants as event
use Rattle.std.proofs.Common.{◌≡◌, ◌^◌, ℕ, List, [], ◌∷◌, ◌++◌, Some, codes, refl, arith}
use Rattle.std.proofs.lemmas.Bool.{lt-ltb}
use Rattle.json.specs.Print.{escape_byte}
use Rattle.serde_json.specs.Data.{string}
use Rattle.dsa_desc.specs.{Descriptor.{bytes_of, is_page_fault}}
use Rattle.dsa_desc.specs.declared.Outcome.{Outcome, TheVariants.{Success, PageFault}}
use Rattle.dsa_book.specs.declared.event.{Event.{Event}, Step.{Step}, Kind.TheVariants.{Enqcmd, Movdir64b}}
use Rattle.dsa_book.specs.declared.event.Portal.{Portal, TheVariants.{Limited, Unlimited}}
use Rattle.dsa_scenario.specs.Actions.{action_of, kind_text, portal_of_limited, outcome_of_fault}
use Rattle.dsa_scenario.specs.{Fields.{text_of}, Lines.{reply_text}}
use Rattle.dsa_recordings.specs.Recordings.{fields_of_event, is_limited, kind_of_event, members_of_step}
use Rattle.dsa_recordings.specs.Recordings.{word_or_none}
use Rattle.dsa_recordings.specs.Reading.{FitsEvent, HasWord, IsAskable, action_of_event, action_of_step}
use Rattle.dsa_recordings.specs.Reading.{object_of_members, step_object}
use Rattle.dsa_recordings.proofs.Objects.{ArePlain}
use Rattle.dsa_recordings.proofs.Plain.{IsPlainText, plain_hex, plain_reply}
use Rattle.dsa_recordings.proofs.Descriptors.{bytes_are, bytes_read, digits_read}
use Rattle.dsa_recordings.proofs.Words.{words_fit, words_read}

portal_back : (portal : Portal) → portal_of_limited (is_limited portal) ≡ portal
portal_back Limited = refl
portal_back Unlimited = refl

outcome_back : (outcome : Outcome) → outcome_of_fault (is_page_fault outcome) ≡ outcome
outcome_back Success = refl
outcome_back PageFault = refl

-- a step object asks for its event
asks_by : (e : Event) (answer : List ℕ) → FitsEvent e → HasWord e
    → action_of (object_of_members ((codes "do", string (kind_text (kind_of_event e)))
    ∷ (fields_of_event e ++ (codes "answer", string answer) ∷ [])))
    ≡ Some (action_of_event e)
asks_by (event.Submit client queue portal (Enqcmd pasid) desc) answer h k =
    rw (
      lt-ltb client (2 ^ 16) h.0,
      lt-ltb queue (2 ^ 16) h.1,
      lt-ltb pasid (2 ^ 32) h.2,
      digits_read desc h.3,
      portal_back portal,
      bytes_read desc h.3,
    ) refl
asks_by (event.Submit client queue portal Movdir64b desc) answer h k =
    rw (
      lt-ltb client (2 ^ 16) h.0,
      lt-ltb queue (2 ^ 16) h.1,
      digits_read desc h.3,
      portal_back portal,
      bytes_read desc h.3,
    ) refl
asks_by (event.Dispatch engine) answer h k = rw (lt-ltb engine (2 ^ 16) h) refl
asks_by (event.Fetch engine desc) answer h k =
    rw (lt-ltb engine (2 ^ 16) h.0, digits_read desc h.1, bytes_read desc h.1) refl
asks_by (event.Start engine) answer h k = rw (lt-ltb engine (2 ^ 16) h) refl
asks_by (event.Finish engine ticket outcome) answer h k =
    rw (lt-ltb engine (2 ^ 16) h.0, lt-ltb ticket.name (2 ^ 32) h.1, outcome_back outcome) refl
asks_by (event.Issue command) answer h k =
    rw (lt-ltb (word_or_none command) (2 ^ 32) (words_fit command k.0 k.1), words_read command k.0 h k.1) refl
asks_by event.Poll answer h k = refl
asks_by (event.WriteQueue queue config) answer h k =
    rw (
      lt-ltb queue (2 ^ 16) h.0,
      lt-ltb config.size (2 ^ 16) h.1,
      lt-ltb config.threshold (2 ^ 16) h.2,
      lt-ltb config.priority (2 ^ 8) h.3,
      lt-ltb config.pasid (2 ^ 32) h.4,
      lt-ltb config.max_batch_shift (2 ^ 8) h.5,
      lt-ltb config.max_xfer_shift (2 ^ 8) h.6,
    ) refl
asks_by (event.WriteGroup group config) answer h k =
    rw (
      lt-ltb group (2 ^ 16) h.0,
      lt-ltb config.queues (2 ^ 64) h.1,
      lt-ltb config.engines (2 ^ 64) h.2,
      lt-ltb config.reserved (2 ^ 16) h.3,
      lt-ltb config.allowed (2 ^ 16) h.4,
    ) refl
asks_by event.ClearError answer h k = refl

pub asks : (step : Step) → IsAskable step → action_of (step_object step) ≡ Some (action_of_step step)
asks step h = asks_by step.event (reply_text step.reply) h.event_fits h.word

-- nothing in its members is escaped
plain_by : (e : Event) (answer : List ℕ) → FitsEvent e → HasWord e → IsPlainText answer
    → ArePlain ((codes "do", string (kind_text (kind_of_event e)))
    ∷ (fields_of_event e ++ (codes "answer", string answer) ∷ []))
unfolding escape_byte
plain_by (event.Submit client queue portal (Enqcmd pasid) desc) answer h w k =
    let desc_plain = plain_hex (bytes_of desc) (bytes_are desc h.3) in (
      (refl, refl),
      (
        (refl, omega (arith, h.0)),
        (
          (refl, omega (arith, h.1)),
          (
            (refl, tt),
            ((refl, omega (arith, h.2)), ((refl, desc_plain), ((refl, k), tt))),
          ),
        ),
      ),
    )
plain_by (event.Submit client queue portal Movdir64b desc) answer h w k =
    let desc_plain = plain_hex (bytes_of desc) (bytes_are desc h.3) in (
      (refl, refl),
      (
        (refl, omega (arith, h.0)),
        (
          (refl, omega (arith, h.1)),
          (
            (refl, tt),
            ((refl, desc_plain), ((refl, k), tt)),
          ),
        ),
      ),
    )
plain_by (event.Dispatch engine) answer h w k = ((refl, refl), ((refl, omega (arith, h)), ((refl, k), tt)))
plain_by (event.Fetch engine desc) answer h w k =
    let desc_plain = plain_hex (bytes_of desc) (bytes_are desc h.1) in
    ((refl, refl), ((refl, omega (arith, h.0)), ((refl, desc_plain), ((refl, k), tt))))
plain_by (event.Start engine) answer h w k = ((refl, refl), ((refl, omega (arith, h)), ((refl, k), tt)))
plain_by (event.Finish engine ticket outcome) answer h w k =
    ((refl, refl), ((refl, omega (arith, h.0)), ((refl, omega (arith, h.1)), ((refl, tt), ((refl, k), tt)))))
plain_by (event.Issue command) answer h w k =
    ((refl, refl), ((refl, omega (arith, words_fit command w.0 w.1)), ((refl, k), tt)))
plain_by event.Poll answer h w k = ((refl, refl), ((refl, k), tt))
plain_by (event.WriteQueue queue config) answer h w k = (
  (refl, refl),
  (
    (refl, omega (arith, h.0)),
    (
      (refl, omega (arith, h.1)),
      (
        (refl, omega (arith, h.2)),
        (
          (refl, tt),
          (
            (refl, omega (arith, h.3)),
            (
              (refl, omega (arith, h.4)),
              (
                (refl, omega (arith, h.5)),
                ((refl, omega (arith, h.6)), ((refl, k), tt)),
              ),
            ),
          ),
        ),
      ),
    ),
  ),
)
plain_by (event.WriteGroup group config) answer h w k = (
  (refl, refl),
  (
    (refl, omega (arith, h.0)),
    (
      (refl, omega (arith, h.1)),
      (
        (refl, omega (arith, h.2)),
        ((refl, omega (arith, h.3)), ((refl, omega (arith, h.4)), ((refl, k), tt))),
      ),
    ),
  ),
)
plain_by event.ClearError answer h w k = ((refl, refl), ((refl, k), tt))

pub plain_step : (step : Step) → IsAskable step → ArePlain (members_of_step step)
plain_step step h =
    plain_by step.event (reply_text step.reply) h.event_fits h.word (plain_reply step.reply h.reply_fits)

-- a step object has its answer
answers_by : (e : Event) (answer : List ℕ)
    → text_of (codes "answer") (object_of_members ((codes "do", string (kind_text (kind_of_event e)))
    ∷ (fields_of_event e ++ (codes "answer", string answer) ∷ [])))
    ≡ Some answer
answers_by (event.Submit client queue portal (Enqcmd pasid) desc) answer = refl
answers_by (event.Submit client queue portal Movdir64b desc) answer = refl
answers_by (event.Dispatch engine) answer = refl
answers_by _ answer = refl

pub answers : (step : Step) → text_of (codes "answer") (step_object step) ≡ Some (reply_text step.reply)
answers step = answers_by step.event (reply_text step.reply)
