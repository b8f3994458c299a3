use Rattle.dsa_draw.proofs.page.add_xml.Goals as goal
use Rattle.std.proofs.Common.{◌≡◌, ◌∙◌, sym}
use Rattle.std.specs.Str.{chars}
use Rattle.std.proofs.lemmas.{List.{map-id}, Iterator.{YieldsList-from_chars}, Iterator.Consumers.{YieldsList-end}}

pub returns : goal.returns
returns c =
    let whole : c.loop-c.yielded ≡ chars c.args.plain.now =
    sym (map-id c.loop-c.yielded)
    ∙ (YieldsList-end (YieldsList-from_chars c.args.plain.now c.utf8.plain cc) c.loop-c.yielded _
    c.loop-c.yielded_by _ _ c.in-None.is c.next.ensures.steps).0 in
    rw (← whole) c.loop-c.invariant
