use Rattle.dsa_statement_rows.proofs.searches.bytes_of_keys_in_worlds.Goals as goal
use Rattle.std.proofs.Common.{◌≡◌, ◌∙◌, ◌++◌, ℕ, List, ap, drop, length, sym}
use Rattle.std.proofs.Math.Seq.{drop-append_seam}
use Rattle.dsa_key_bytes.specs.KeyBytes.{key_bytes}
use Rattle.dsa_keys.specs.Short.{short_key}
use Rattle.dsa_parties.specs.Standing.{Standing}
use Rattle.dsa_explore.specs.Keys.{place_bytes}

pub returns : goal.returns
returns c w v places same =
    let there = place_bytes w.places in
    let first = key_bytes (short_key w.labels w.state) in
    let second = key_bytes (short_key v.labels v.state) in
    let alike = same ∙ ap (λ (p : Standing). place_bytes p ++ second) (sym places) in
    sym (drop-append_seam there first) ∙ ap (λ (bytes : List ℕ). drop (length there) bytes) alike
    ∙ drop-append_seam there second
