use Rattle.dsa_scenario.proofs.rendering.render_counted.Goals as goal
use Rattle.std.proofs.Common.{◌≤◌, ◌^◌, arith, length}

pub returns-clause-prefix : goal.returns-clause-prefix
returns-clause-prefix g c is =
    let cut = rw c.deref.ensures.value at (c.write_rendering.ensures.prefix is) in
    let read = c.in_ok-bytes.ensures in
    let fits : length c.in_ok-bytes.bytes.items ≤ 2 ^ 20 = omega (arith, read.fits, c.in_ok-bytes.bytes.ok.0) in
    (c.in_ok-bytes.bytes.items, cut.0, cut.1, cut.2, (read.bytes.0, read.end, fits), cut.3, cut.4, cut.5)
