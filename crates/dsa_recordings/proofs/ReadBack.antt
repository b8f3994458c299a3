-- The document of a run is read back.
use Rattle.std.proofs.Common.{◌≡◌, ◌<◌, ◌^◌, ℕ, List, [], ◌∷◌, Some, map, refl, ap, ap₂, arith}
use Rattle.std.proofs.lemmas.Bool.{lt-ltb}
use Rattle.std.specs.Str.{IsUtf8}
use Rattle.json.specs.Print.{escape_byte}
use Rattle.serde_json.specs.{Data.{Data}, View.{items_of}}
use Rattle.dsa_regs.specs.declared.Caps.{Caps}
use Rattle.dsa_book.specs.declared.event.Step.{Step}
use Rattle.dsa_scenario.specs.{Actions.{action_of}, Document.{IsDocument, head_of, list_of_items}}
use Rattle.dsa_recordings.specs.Recordings.{recording_text, members_of_caps, members_of_step}
use Rattle.dsa_recordings.specs.Reading.{AreAskable, FitsCaps, action_of_step, object_of_members}
use Rattle.dsa_recordings.proofs.Objects.{AreAllPlain, ArePlain, document_data, reads_as}
use Rattle.dsa_recordings.proofs.StepObjects.{asks, plain_step}

listed : (ds : List Data) → list_of_items (items_of ds) ≡ ds
listed [] = refl
listed (d ∷ ds) = ap (λ es. d ∷ es) (listed ds)

all_ask : (steps : List Step) → AreAskable steps
    → map action_of (map object_of_members (map members_of_step steps)) ≡ map Some (map action_of_step steps)
all_ask [] h = refl
all_ask (step ∷ steps) h = ap₂ (λ o os. o ∷ os) (asks step h.0) (all_ask steps h.1)

all_plain : (steps : List Step) → AreAskable steps → AreAllPlain (map members_of_step steps)
all_plain [] h = tt
all_plain (step ∷ steps) h = (plain_step step h.0, all_plain steps h.1)

plain_caps : (caps : Caps) → FitsCaps caps → ArePlain (members_of_caps caps)
unfolding escape_byte
plain_caps caps h = (
  (refl, omega (arith, h.0)),
  (
    (refl, omega (arith, h.1)),
    (
      (refl, omega (arith, h.2)),
      (
        (refl, omega (arith, h.3)),
        (
          (refl, omega (arith, h.4)),
          (
            (refl, omega (arith, h.5)),
            ((refl, omega (arith, h.6)), ((refl, omega (arith, h.7)), tt)),
          ),
        ),
      ),
    ),
  ),
)

head_is : (caps : Caps) (capacity : ℕ) (steps : List Step) → FitsCaps caps → capacity < 2 ^ 64
    → head_of (document_data (members_of_caps caps) capacity (map members_of_step steps))
    ≡ Some (caps, capacity, items_of (map object_of_members (map members_of_step steps)))
head_is caps capacity steps h small =
    rw (
      lt-ltb caps.queues (2 ^ 16) h.0,
      lt-ltb caps.groups (2 ^ 16) h.1,
      lt-ltb caps.engines (2 ^ 16) h.2,
      lt-ltb caps.total_size (2 ^ 16) h.3,
      lt-ltb caps.read_buffers (2 ^ 16) h.4,
      lt-ltb caps.slots (2 ^ 16) h.5,
      lt-ltb caps.max_batch_shift (2 ^ 8) h.6,
      lt-ltb caps.max_xfer_shift (2 ^ 8) h.7,
      lt-ltb capacity (2 ^ 64) small,
    )
    refl

-- the natural law
pub document_reads : (caps : Caps) (capacity : ℕ) (steps : List Step) → FitsCaps caps → capacity < 2 ^ 64
    → AreAskable steps → IsUtf8 (recording_text caps capacity steps)
    → IsDocument (recording_text caps capacity steps) caps capacity (map action_of_step steps)
document_reads caps capacity steps h small askable utf8 =
    let mss = map members_of_step steps in
    let objects = map object_of_members mss in
    record {
      steps = objects;
      head = record {
        document = document_data (members_of_caps caps) capacity mss;
        items = items_of objects;
        json = record {
          utf8 = utf8;
          value = reads_as (members_of_caps caps) capacity mss (plain_caps caps h) (all_plain steps askable) small;
        };
        head = head_is caps capacity steps h small;
        listed = listed objects;
      };
      asked = all_ask steps askable;
    }
