-- Equal bytes are those of equal keys.
use Rattle.std.proofs.Common.{◌≡◌, ℕ, Bool, List, ◌++◌, Option}
use Rattle.dsa_regs.specs.declared.{Caps.{Caps}, QueueConfig.{QueueConfig}, GroupConfig.{GroupConfig}}
use Rattle.dsa_regs.specs.declared.{Command.{Command}, Phase.{Phase}}
use Rattle.dsa_book.specs.declared.{answer.NotedError.{NotedError}, note.BatchNote.{BatchNote}}
use Rattle.dsa_keys.specs.Short.{ShortEntry, ShortKey}
use Rattle.dsa_key_bytes.specs.KeyBytes.{with_count, with_end, optional, numbers_of_caps, numbers_of_queue, numbers_of_group, numbers_of_phase, numbers_of_noted, numbers_of_entry, numbers_of_note, numbers_of_wait, numbers_of_row, numbers_of_command, key_bytes, changing_key_bytes}
use Rattle.dsa_key_bytes.proofs.Numbers.{bytes-apart}
use Rattle.dsa_key_bytes.proofs.SelfEnding.{IsSelfEnding, with_count-ends, with_end-ends, optional-ends, pair-ends, all-apart}
use Rattle.dsa_key_bytes.proofs.PartEnds.{caps-end, queue-ends, group-ends, phase-ends, noted-ends, entry-ends, entry-begins, note-ends, wait-ends, wait-begins, row-ends, row-begins, command-ends}

-- what is configured
abbrev Configured : Type 0
Configured = Caps × (List QueueConfig × List GroupConfig)

abbrev numbers_of_configured : Configured → List ℕ
numbers_of_configured p = numbers_of_caps p.0 ++ (with_count numbers_of_queue p.1.0 ++ with_count numbers_of_group p.1.1)

abbrev configured_of : ShortKey → Configured
configured_of k = (k.setup.caps, (k.setup.configs, k.setup.groups))

configured-end : IsSelfEnding numbers_of_configured
configured-end = pair-ends numbers_of_caps (λ p. with_count numbers_of_queue p.0 ++ with_count numbers_of_group p.1) caps-end
    (pair-ends (with_count numbers_of_queue) (with_count numbers_of_group) (with_count-ends numbers_of_queue queue-ends)
    (with_count-ends numbers_of_group group-ends))

-- phases and the noted error
abbrev Standing : Type 0
Standing = Phase × (List Phase × Option NotedError)

abbrev numbers_of_standing : Standing → List ℕ
numbers_of_standing p = numbers_of_phase p.0 ++ (with_count numbers_of_phase p.1.0 ++ optional numbers_of_noted p.1.1)

standing-ends : IsSelfEnding numbers_of_standing
standing-ends = pair-ends numbers_of_phase (λ p. with_count numbers_of_phase p.0 ++ optional numbers_of_noted p.1) phase-ends
    (pair-ends (with_count numbers_of_phase) (optional numbers_of_noted) (with_count-ends numbers_of_phase phase-ends)
    (optional-ends numbers_of_noted noted-ends))

-- entries, notes, what waits and what is waited for
abbrev Waiting : Type 0
Waiting = List (List Bool) × (Option Command × List Bool)

abbrev numbers_of_waiting : Waiting → List ℕ
numbers_of_waiting p = with_end numbers_of_row p.0 ++ (optional numbers_of_command p.1.0 ++ with_end numbers_of_wait p.1.1)

waiting-ends : IsSelfEnding numbers_of_waiting
waiting-ends = pair-ends (with_end numbers_of_row) (λ p. optional numbers_of_command p.0 ++ with_end numbers_of_wait p.1)
    (with_end-ends numbers_of_row row-ends row-begins)
    (pair-ends (optional numbers_of_command) (with_end numbers_of_wait) (optional-ends numbers_of_command command-ends)
    (with_end-ends numbers_of_wait wait-ends wait-begins))

abbrev Held : Type 0
Held = List (List ShortEntry) × (List (Option BatchNote) × Waiting)

abbrev numbers_of_held : Held → List ℕ
numbers_of_held p = with_count (with_end numbers_of_entry) p.0 ++ (with_count (optional numbers_of_note) p.1.0 ++ numbers_of_waiting p.1.1)

held-ends : IsSelfEnding numbers_of_held
held-ends = pair-ends (with_count (with_end numbers_of_entry)) (λ p. with_count (optional numbers_of_note) p.0 ++ numbers_of_waiting p.1)
    (with_count-ends (with_end numbers_of_entry) (with_end-ends numbers_of_entry entry-ends entry-begins))
    (pair-ends (with_count (optional numbers_of_note)) numbers_of_waiting
    (with_count-ends (optional numbers_of_note) (optional-ends numbers_of_note note-ends)) waiting-ends)

abbrev Changing : Type 0
Changing = Standing × Held

abbrev numbers_of_changing : Changing → List ℕ
numbers_of_changing p = numbers_of_standing p.0 ++ numbers_of_held p.1

abbrev changing_of : ShortKey → Changing
changing_of k = (
  (k.setup.device, (k.setup.phases, k.setup.noted)),
  (k.lists, (k.notes, (k.waits, (k.command, k.awaited)))),
)

changing-ends : IsSelfEnding numbers_of_changing
changing-ends = pair-ends numbers_of_standing numbers_of_held standing-ends held-ends

-- a key is its parts
key-by-parts : (k l : ShortKey) → k.setup.next_name ≡ l.setup.next_name → configured_of k ≡ configured_of l
    → changing_of k ≡ changing_of l → k ≡ l
key-by-parts k l name configured changing = λ j. record {
  setup = record {
    caps = (configured j).0;
    device = (changing j).0.0;
    configs = (configured j).1.0;
    phases = (changing j).0.1.0;
    groups = (configured j).1.1;
    next_name = name j;
    noted = (changing j).0.1.1;
  };
  lists = (changing j).1.0;
  notes = (changing j).1.1.0;
  waits = (changing j).1.1.1.0;
  command = (changing j).1.1.1.1.0;
  awaited = (changing j).1.1.1.1.1;
}

pub keys-apart : (k l : ShortKey) → k.setup.next_name ≡ l.setup.next_name → key_bytes k ≡ key_bytes l → k ≡ l
keys-apart k l name e =
    let all : (configured_of k, changing_of k) ≡ (configured_of l, changing_of l)
    = all-apart {A = Configured × Changing} (λ p. numbers_of_configured p.0 ++ numbers_of_changing p.1)
    (pair-ends numbers_of_configured numbers_of_changing configured-end changing-ends)
    (configured_of k, changing_of k) (configured_of l, changing_of l) (bytes-apart _ _ e) in
    key-by-parts k l name (λ j. (all j).0) (λ j. (all j).1)

pub changes-apart : (k l : ShortKey) → k.setup.next_name ≡ l.setup.next_name → k.setup.caps ≡ l.setup.caps
    → k.setup.configs ≡ l.setup.configs → k.setup.groups ≡ l.setup.groups
    → changing_key_bytes k ≡ changing_key_bytes l → k ≡ l
changes-apart k l name caps configs groups e =
    key-by-parts k l name (λ j. (caps j, (configs j, groups j)))
    (all-apart {A = Changing} numbers_of_changing changing-ends (changing_of k) (changing_of l) (bytes-apart _ _ e))
