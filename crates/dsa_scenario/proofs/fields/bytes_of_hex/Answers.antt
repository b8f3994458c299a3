use Rattle.dsa_scenario.proofs.fields.bytes_of_hex.Goals as goal
use Rattle.std.proofs.Common.{arith}
use Rattle.dsa_scenario.proofs.Hex.{hex_bytes_of-decoded}

pub returns-then-decode_front : goal.returns-then-decode_front
returns-then-decode_front c = hex_bytes_of-decoded c.args.text.now c.decode_front.new.bytes (omega arith) (omega arith)
    c.if-decode_front.ensures
