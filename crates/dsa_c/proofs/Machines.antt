-- A box of a machine, as the library's proofs about boxes see one.
use Rattle.std_heap.specs.contracts.Global as Global
use Rattle.std_heap.specs.contracts.GlobalAllocator.TheImpl as heap
use Rattle.std_heap.proofs.Global.TheLaws as global_laws
use Rattle.dsa_linked.specs.contracts.LinkedDevice as LinkedDevice
use Rattle.dsa_linked.proofs.LinkedDevice.TheLaws as machine_laws
use mir.Syntax.{impl, tnil, dnil}
use mathlib.Core.{Path.{◌≡◌, refl, sym}, List.{[]}}
use Rattle.std.{proofs.lemmas.Bool.{true≢false}, specs.Prelude.{None, Some, IsSome}}
use Rattle.std_alloc.proofs.BoxSteps.Form.{Bx}
use Rattle.dsa_c.specs.Place.{HeldDevice}

abbrev pub machines : Bx
machines = record {
  row = LinkedDevice.the_row;
  laws = machine_laws.the_row_laws;
  al = record {
    row = Global.the_row;
    laws = global_laws.the_row_laws;
    g = heap.ghosts;
    d = heap.dict;
    drops =
        impl [] tnil dnil;
  };
}

-- a machine that there is
pub there_is : (held : HeldDevice) → IsSome held → (m : LinkedDevice.the_row.Denot) × (held ≡ Some m)
there_is None is = absurd (true≢false (sym is))
there_is (Some m) is = (m, refl)
