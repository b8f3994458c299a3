-- What is added to a text.
use Rattle.std.specs.Prelude.{◌≡◌, ℕ, List, ◌++◌, Result, OnOk, String, string_bytes}
use Rattle.std.specs.declared.alloc.Global.{Global}

-- where memory did not fail, the text has these bytes after those that it had
abbrev pub Adds : {T E : Type 0} → Result T E → String Global → String Global → List ℕ → Type 0
Adds result old new bytes = OnOk result (string_bytes new ≡ string_bytes old ++ bytes)
