use Rattle.dsa_device.proofs.device.entries.entry_at.Goals as goal
use Rattle.std.proofs.Common.{◌≡◌, Option, Some, None, refl, sym, ◌∙◌}
use Rattle.std.proofs.lemmas.Iterator.Consumers.{nth_from_yields_List, YieldsList-from_first}
use Rattle.std.specs.Option.{option_map}
use Rattle.dsa_store.specs.Content.{HeldEntry}

unmapped : (o : Option HeldEntry) → option_map (λ (pair : HeldEntry). pair) o ≡ o
unmapped None = refl
unmapped (Some pair) = refl

pub returns : goal.returns
returns g c = rw c.in_ok-entries.was (sym (unmapped c.nth.result)
    ∙ nth_from_yields_List c.nth.result c.nth.new.self c.args.place c.nth.ensures.ran
    (YieldsList-from_first (λ pair. pair) (λ rest. rest) c.in_ok-entries.entries refl))
