use Rattle.dsa_family.proofs.family.render_worlds.Goals as goal
use Rattle.std.proofs.Common.{get_or, map, string_bytes}
use Rattle.serde_json.specs.View.{view}
use Rattle.dsa_family.specs.Told.{varied_as}
use Rattle.dsa_family.proofs.Makings.{same-default, world_more, worlds_end}

pub loop-world-preserved : goal.loop-world-preserved
loop-world-preserved g c =
    let made = c.in_ok-add_world.ensures.ok in
    world_more (g.R.Render.is_rendering c.args.family.now.inner) c.args.family.now.heading
    (view c.args.worlds.now.base) (map varied_as c.args.worlds.now.axes.items) c.args.numbers.now
    c.loop-world.world-index (get_or c.args.numbers.now c.loop-world.world-index 0) c.loop-world.made.fault c.add_world.new.made.fault made.1
    (string_bytes c.loop-world.made.text) (string_bytes c.add_world.new.made.text) made.0 c.loop-world-test.true
    (same-default c.args.numbers.now c.loop-world.world-index 0 _ c.loop-world-test.true) made.2 made.3 made.4 c.loop-world.invariant

pub returns-clause-ok : goal.returns-clause-ok
returns-clause-ok g c =
    worlds_end (g.R.Render.is_rendering c.args.family.now.inner) c.args.family.now.heading
    (view c.args.worlds.now.base) (map varied_as c.args.worlds.now.axes.items) c.args.numbers.now
    c.loop-world.world-index c.loop-world.made.fault (string_bytes c.loop-world.made.text) c.loop-world-test.false
    c.loop-world.invariant
