use Rattle.dsa_saved.proofs.saving.device_bytes.Goals as goal
use Rattle.std.proofs.Common.{◌≡◌, List, ℕ, ◌++◌, codes, refl, sym, ap, ◌∙◌, rules}
use Rattle.std.specs.List.{flat_map}
use Rattle.sha2.specs.Sha256.{sha256}
use Rattle.dsa_saved.specs.{Format.{record_of, header_bytes}, Saved.{saved_body, saved_bytes}}

pub returns-clause-bytes : goal.returns-clause-bytes
unfolding saved_bytes saved_body
returns-clause-bytes g c =
    let start : c.extend_from_slice.new.self.items ≡ codes "DSASAVED" =
    c.in_ok-extend_from_slice.ensures.items ∙ rw c.in_ok-bytes.ensures.items refl in
    let header = c.in_ok-extend_from_slice-2.ensures.items in
    let records = c.in_ok-push_records.ensures.bytes in
    let body : c.push_records.new.bytes.items ≡ saved_body c.args.device.now =
    records ∙ rw (
      header,
      start,
      c.header_bytes-header.ensures.bytes,
      c.caps.ensures,
      c.capacity.ensures,
      c.history-history.ensures,
    ) refl in
    let sum : c.digest-checksum.result ≡ sha256 (saved_body c.args.device.now) =
    c.digest-checksum.ensures ∙ ap sha256 (c.as_slice.ensures.value ∙ body) in
    c.in_ok-extend_from_slice-3.ensures.items ∙ rw (body, sum) refl

pub returns-clause-read : goal.returns-clause-read
returns-clause-read g c = record {
  words = search rules;
  caps = search rules;
  steps = search rules;
  not_anew = c.requires;
  room = sym (c.state_is_replay.ensures.past.full_room c.requires);
}
