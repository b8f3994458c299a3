-- What becomes of a place while its machine is lent.
use Rattle.std.specs.{Prelude.{Some}, Borrow.{Lends, MutBor, Fml}}
use Rattle.dsa_linked.specs.contracts.LinkedDevice.{the_row as machine_row}
use Rattle.dsa_c.specs.contracts.place.Place.{the_row as place_row}

-- the place with this machine
abbrev pub with_machine : place_row.Denot → machine_row.Denot → place_row.Denot
with_machine place machine = record place { machine = Some machine }

-- once the loan is over, the place has the last machine behind it
abbrev pub LendsDevice : MutBor place_row.Denot → MutBor machine_row.Denot → Fml
LendsDevice place loan = Lends place_row machine_row place loan (with_machine place.now)
