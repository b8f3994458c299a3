use Rattle.dsa_c.proofs.saving.dsa_load.Goals as goal
use Rattle.std.proofs.Common.{Some, ap, sym, ◌∙◌}
use Rattle.dsa_saved.specs.declared.faults.LoadFault.TheVariants.{OutOfMemory}
use Rattle.dsa_c.proofs.Loading.{no-device, device}

pub returns-in_default : goal.returns-in_default
returns-in_default c =
    let handle = c.args.handle.now in
    no-device handle.place.machine c.args.bytes.now OutOfMemory (sym handle.agrees ∙ c.if-handle.false)
    c.in-Ok.ensures.start

pub returns : goal.returns
returns c =
    let handle = c.args.handle.now in
    device handle.place.machine c.put.new.self.place.machine c.args.bytes.now c.in-Ok.machine
    (sym handle.agrees ∙ c.if-handle.false) (c.put.ensures ∙ ap Some c.in-Ok-new.ensures.ok)
    (record {
      saved = c.in-Ok.ensures.saved;
      whole = c.in-Ok.ensures.not_anew;
      room = c.in-Ok.ensures.room;
      only = c.in-Ok.ensures.equal;
    })
