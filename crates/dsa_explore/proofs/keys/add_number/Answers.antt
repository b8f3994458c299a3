use Rattle.dsa_explore.proofs.keys.add_number.Goals as goal
use Rattle.std.proofs.Common.{◌++◌, refl, arith}
use Rattle.dsa_key_bytes.specs.Numbers.{number_bytes}
use Rattle.dsa_explore.proofs.Written.{byte-added, last-added}

pub loop-rest-preserved : goal.loop-rest-preserved
loop-rest-preserved c =
    byte-added (c.args.out.now.items ++ number_bytes c.args.number) c.loop-rest.out.items c.push.new.self.items
    c.loop-rest.rest _ (omega arith) c.loop-rest.invariant refl c.in_ok-push.ensures.items

pub returns : goal.returns
returns c =
    last-added (c.args.out.now.items ++ number_bytes c.args.number) c.loop-rest.out.items c.push-2.new.self.items
    c.loop-rest.rest _ (omega arith) c.loop-rest.invariant refl c.in_ok-push-2.ensures.items
