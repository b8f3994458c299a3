-- The parties of a script are lawful, and the bytes of a world are its key.
use Rattle.std.proofs.Common.{◌≡◌, ◌++◌}
use Rattle.dsa_regs.specs.declared.Caps.{Caps}
use Rattle.dsa_keys.{specs.Parties.{World, HaveEqualKeys}, proofs.Short.{short-of-key}}
use Rattle.dsa_key_bytes.specs.KeyBytes.{key_bytes}
use Rattle.dsa_parties.specs.Standing.{Standing}
use Rattle.dsa_parties.specs.{declared.script.Script.{Script}, Described.{described_by}}
use Rattle.dsa_parties.proofs.{Lawful.{lawful}, Described.{described-after}}
use Rattle.dsa_explore.specs.{Search.{IsLawfulSpace}, Keys.{place_bytes, world_bytes}, Walked.{space_of}}
use Rattle.dsa_explore.proofs.KeysApart.{worlds-apart}

pub space-lawful : (caps : Caps) (script : Script) → IsLawfulSpace (space_of caps script)
space-lawful caps script = record {
  lawful = lawful caps script;
  kept = λ w w' move reply fine step.
      described-after caps script w fine.good.is_labelled w' move reply fine.described step;
  keys = λ w v fw fv e. worlds-apart (described_by script) w v fw.described fv.described e;
}

-- worlds with equal keys have equal bytes
pub byte-keys : (w v : World Standing) → HaveEqualKeys w v → world_bytes w ≡ world_bytes v
byte-keys w v k =
    let short = short-of-key w.labels v.labels w.state v.state k.keys in
    λ i. place_bytes (k.places i) ++ key_bytes (short i)
