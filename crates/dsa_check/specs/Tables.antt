-- The tables of a document beside those of its steps: the keys of each object, and what may stand there.
use Rattle.dsa_scenario.specs.declared.fields.Form.TheVariants as form
use Rattle.std.specs.Prelude.{ℕ, ◌-◌, ◌^◌, List, [], ◌∷◌, map, codes}
use Rattle.dsa_scenario.specs.{declared.fields.Form.{Form}, Fields.{Row}}

-- of a number that the document's field of so many bits holds, a device may have these (profile)
abbrev pub bounded_number : ℕ → ℕ → ℕ → Form
bounded_number n least most = form.Bounded (2 ^ n - 1) least most

abbrev pub document_rows : List Row
document_rows =
    (codes "caps", form.Object) ∷ (codes "capacity", bounded_number 64 0 (2 ^ 20)) ∷ (codes "steps", form.Array) ∷ []

abbrev pub caps_rows : List Row
caps_rows =
    (codes "queues", bounded_number 16 1 64) ∷
    (codes "groups", bounded_number 16 1 8) ∷
    (codes "engines", bounded_number 16 1 64) ∷
    (codes "total_size", bounded_number 16 1 4096) ∷
    (codes "read_buffers", bounded_number 16 1 255) ∷
    (codes "slots", bounded_number 16 1 16) ∷
    (codes "max_batch_shift", bounded_number 8 1 10) ∷
    (codes "max_xfer_shift", bounded_number 8 0 31) ∷ []

-- the same form, where other numbers than those of a device are not wanted
abbrev pub of_a_device : Form → Form
of_a_device (form.Bounded field least most) = form.Whole least most
of_a_device other = other

abbrev pub device_rows : List Row
device_rows = map (λ row. (row.0, of_a_device row.1)) caps_rows

-- a history may have this capacity (profile)
abbrev pub history_rows : List Row
history_rows = (codes "capacity", form.Whole 0 (2 ^ 20)) ∷ []
