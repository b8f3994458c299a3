use Rattle.dsa_explore.proofs.keys.add_numbers.Goals as goal
use Rattle.dsa_key_bytes.specs.Numbers.{number_bytes}
use Rattle.dsa_explore.proofs.Written.{bytes-more}

pub loop-number-preserved : goal.loop-number-preserved
loop-number-preserved c =
    bytes-more number_bytes c.args.numbers.now c.loop-number.number-index 0 c.args.out.now.items
    c.loop-number.out.items c.add_small_number.new.out.items c.loop-number-test.true c.loop-number.invariant
    c.in_ok-add_small_number.ensures
