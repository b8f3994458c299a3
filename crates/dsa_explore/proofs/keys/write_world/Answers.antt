use Rattle.dsa_explore.proofs.keys.write_world.Goals as goal
use Rattle.std.proofs.Common.{◌<◌, ℕ, List, length, length-append, subst, slice_index, arith}
use Rattle.dsa_keys.specs.Short.{short_key}
use Rattle.dsa_key_bytes.specs.KeyBytes.{key_bytes}
use Rattle.dsa_parties.specs.Standing.{stand_of}
use Rattle.dsa_explore.specs.{Keys.{place_bytes}, Rows.{labels_of}}

pub returns-in_default-clause-too_long : goal.returns-in_default-clause-too_long
returns-in_default-clause-too_long c =
    let state = c.args.walked.now.machine.device.state in
    let long = subst (λ (l : List ℕ). c.args.key.now.line.capacity < length (key_bytes (short_key (slice_index l) state)))
    c.as_slice-labels.ensures.value c.in_default.ensures.too_long in
    λ e. omega (
      arith,
      long,
      length-append (place_bytes (stand_of c.args.walked.now.places))
          (key_bytes (short_key (labels_of c.args.walked.now.labels.items) state)),
    )
