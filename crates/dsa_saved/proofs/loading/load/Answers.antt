use Rattle.dsa_saved.proofs.loading.load.Goals as goal
use Rattle.std.proofs.Common.{◌≡◌, ◌-◌, length, drop, slice_index, refl, sym, ◌∙◌, rules}
use Rattle.std.proofs.lemmas.List.{take-append-drop}
use Rattle.dsa_saved.specs.{Format.{header_bytes}, Said.{caps_of_words}, Saved.{saved_bytes}}
use Rattle.dsa_saved.specs.Faults.{HasStart, IsHeaderRead, body_in, start_in, records_in, header_in}
use Rattle.dsa_saved.proofs.{Loaded.{saves-to, says-again}, Equal.{saved-same}}

-- nothing failed at the start
has_start : (c : goal.After-state_is_replay) → HasStart c.args.bytes.now
has_start c = search rules

header_read : (c : goal.After-state_is_replay) → IsHeaderRead c.args.bytes.now
header_read c = search rules

pub returns-clause-saved : goal.returns-clause-saved
returns-clause-saved c =
    let bytes = c.args.bytes.now in
    let words = header_in bytes in
    let s = has_start c in
    saves-to c.make_steps.new.device (caps_of_words words) (slice_index words 9) (slice_index words 10)
    (records_in bytes) c.in_ok-make_steps.ensures.made s.size bytes (body_in bytes) (start_in bytes)
    (drop (length bytes - 32) bytes) s.magic (sym s.caps.fit) (take-append-drop 52 (body_in bytes)) s.checksum
    (take-append-drop (length bytes - 32) bytes)

pub returns-clause-not_anew : goal.returns-clause-not_anew
returns-clause-not_anew c = c.in_ok-make_steps.ensures.made.anew

pub returns-clause-room : goal.returns-clause-room
returns-clause-room c = c.in_ok-make_steps.ensures.made.room ∙ sym c.in_ok-make_steps.ensures.made.capacity

pub returns-clause-equal : goal.returns-clause-equal
returns-clause-equal c d replay again same =
    let bytes = c.args.bytes.now in
    let words = header_in bytes in
    let s = has_start c in
    let h = header_read c in
    let read = says-again c.make_steps.new.device (caps_of_words words) (slice_index words 9) (slice_index words 10)
    (records_in bytes) c.in_ok-make_steps.ensures.made s.size
    (header_bytes (caps_of_words words) (slice_index words 9) (slice_index words 10)) refl h.words h.caps in
    let saved : saved_bytes c.make_steps.new.device ≡ bytes = returns-clause-saved c in
    let whole = c.state_is_replay.ensures.replay c.in_ok-make_steps.ensures.made.anew in
    saved-same c.make_steps.new.device d whole replay read again (saved ∙ sym same)
