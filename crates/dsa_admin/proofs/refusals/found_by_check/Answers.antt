use Rattle.dsa_admin.proofs.refusals.found_by_check.Goals as goal

pub returns-in-Device : goal.returns-in-Device
returns-in-Device c = rw (
  c.in-Enable.is,
  c.in-Device.is,
  ← c.caps-caps.ensures.value,
  ← c.configs.ensures,
  ← c.groups.ensures,
) c.check_device_reason.ensures
