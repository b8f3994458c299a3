-- The tables of keys say what the definitions of the objects say.
use Rattle.dsa_scenario.specs.declared.fields.Form.TheVariants as form
use Rattle.std.proofs.Common.{◌≡◌, ℕ, zero, suc, ◌-◌, ◌^◌, Bool, true, false, ◌&&◌, List, [], ◌∷◌, refl, sym}
use Rattle.std.proofs.Common.{◌∙◌, arith}
use Rattle.std.specs.Prelude.{if◌then◌else◌, Option, Some, None, is_some, option_and_then, codes}
use Rattle.std.specs.Prelude.{nat_le, nat_lt, IfSome}
use Rattle.dsa_regs.specs.Caps.{check_caps}
use Rattle.std.proofs.Math.Bool.{and_assoc, and-true, and-false}
use Rattle.std.proofs.lemmas.Bool.{Decides.{nat_tests}}
use Rattle.serde_json.specs.{Data.{Data, null, boolean, number, string, array, object}, Find.{get, as_u64}}
use Rattle.serde_json.specs.Find.{as_number, as_bool, as_str, as_array, as_object}
use Rattle.dsa_scenario.specs.declared.actions.Action.{Action}
use Rattle.dsa_scenario.specs.declared.{fields.Form.{Form}, actions.StepKind.{StepKind}}
use Rattle.dsa_scenario.specs.Fields.{below_limit, whole_of, hex_bytes_of, at_least, Row, Maker, reading_at, made_of}
use Rattle.dsa_scenario.specs.Actions.{KindRow, kind_row, row_of_kind, rows_in, asked_by, action_by, kind_of, action_of}
use Rattle.dsa_scenario.specs.{Actions.{caps_of}, Document.{head_of}}
use Rattle.dsa_check.specs.Reasons.{is_of_form, fits_form, has_rows, is_step_of, is_step, has_caps, is_between}
use Rattle.dsa_check.specs.Tables.{bounded_number, caps_rows, device_rows, document_rows}

-- what needs a value is there where that value is, and the rest
needs : {A B : Type 0} (o : Option A) (f : A → Option B) (here rest : Bool) → is_some o ≡ here
    → ((a : A) → is_some (f a) ≡ rest) → is_some (option_and_then f o) ≡ (here && rest)
needs None f here rest e h = rw (← e) refl
needs (Some a) f here rest e h = rw (← e) (h a)

-- ---- one key

-- a number below a limit
is_below : (n limit most : ℕ) → limit ≡ suc most → (b : Bool) → nat_lt n limit ≡ b
    → is_some (if b then Some n else None) ≡ (nat_le 0 n && nat_le n most)
is_below n limit most e true h = grind (arith, nat_tests)
is_below n limit most e false h = grind (arith, nat_tests)

at_number : (limit most : ℕ) → limit ≡ suc most → (o : Option ℕ)
    → is_some (option_and_then (below_limit limit) o) ≡ is_between 0 most o
at_number limit most e None = refl
at_number limit most e (Some n) = is_below n limit most e (nat_lt n limit) refl

at_held : (limit most least upto : ℕ) → limit ≡ suc most → (o : Option Data)
    → is_some (option_and_then (below_limit limit) (option_and_then as_u64 (option_and_then as_number o)))
    ≡ fits_form (form.Bounded most least upto) o
at_held limit most least upto e None = refl
at_held limit most least upto e (Some d) = at_number limit most e (option_and_then as_u64 (as_number d))

-- a number that is no less
no_less : (less most n : ℕ) (b : Bool) → nat_lt less n ≡ b → nat_le n most ≡ true
    → is_some (if b then Some n else None) ≡ (nat_le (suc less) n && nat_le n most)
no_less less most n true e h = grind (arith, nat_tests)
no_less less most n false e h = grind (arith, nat_tests)

-- a number between two
in_range : (least most n : ℕ) (b : Bool) → nat_lt n (suc most) ≡ b
    → is_some (option_and_then (at_least least) (if b then Some n else None)) ≡ (nat_le least n && nat_le n most)
in_range zero most n true h = grind (arith, nat_tests)
in_range (suc less) most n true h = no_less less most n (nat_lt less n) refl (grind (arith, nat_tests))
in_range zero most n false h = grind (arith, nat_tests)
in_range (suc less) most n false h = grind (arith, nat_tests)

of_number : (least most : ℕ) (o : Option ℕ)
    → is_some (option_and_then (at_least least) (option_and_then (below_limit (suc most)) o)) ≡ is_between least most o
of_number least most None = refl
of_number least most (Some n) = in_range least most n (nat_lt n (suc most)) refl

at_whole : (least most : ℕ) (o : Option Data)
    → is_some (option_and_then (at_least least) (option_and_then (below_limit (suc most))
    (option_and_then as_u64 (option_and_then as_number o))))
    ≡ fits_form (form.Whole least most) o
at_whole least most None = refl
at_whole least most (Some d) = of_number least most (option_and_then as_u64 (as_number d))

-- a value of which something is read exactly where it is of the form
at_form : {A : Type 0} (read : Data → Option A) (wanted : Form) → ((d : Data) → is_some (read d) ≡ is_of_form wanted d)
    → (o : Option Data) → is_some (option_and_then read o) ≡ fits_form wanted o
at_form read wanted f None = refl
at_form read wanted f (Some d) = f d

at_digits : (o : Option Data) → is_some (option_and_then hex_bytes_of (option_and_then as_str o)) ≡ fits_form form.Digits o
at_digits None = refl
at_digits (Some d) = refl

-- something is read at a key exactly where what stands there is of the form
reading_fits : (wanted : Form) (key : List ℕ) (d : Data) → is_some (reading_at wanted key d) ≡ fits_form wanted (get key d)
reading_fits (form.Whole least most) key d = at_whole least most (get key d)
reading_fits (form.Bounded field least most) key d = at_held (suc field) field least most refl (get key d)
reading_fits form.Truth key d = at_form as_bool form.Truth (λ v. refl) (get key d)
reading_fits form.Text key d = at_form as_str form.Text (λ v. refl) (get key d)
reading_fits form.Digits key d = at_digits (get key d)
reading_fits form.Array key d = at_form as_array form.Array (λ v. refl) (get key d)
reading_fits form.Object key d = at_form as_object form.Object (λ v. refl) (get key d)

-- ---- one kind, and all

-- something is made by a table exactly where its rows are there
made_has : (A : Type 0) (rows : List Row) (made : Maker A rows) (d : Data)
    → is_some (made_of {A = A} rows made d) ≡ has_rows d rows
made_has A [] made d = refl
made_has A (row ∷ rows) made d =
    needs (reading_at row.1 row.0 d) (λ reading. made_of {A = A} rows (made reading) d) (fits_form row.1 (get row.0 d))
    (has_rows d rows) (reading_fits row.1 row.0 d) (λ reading. made_has A rows (made reading) d)

row_has : (row : KindRow) (d : Data) → is_some (asked_by row d) ≡ has_rows d (rows_in row)
row_has (kind_row name rows asked) d = made_has Action rows asked d

kind_has : (kind : Option StepKind) (d : Data) → is_some (option_and_then (λ k. action_by k d) kind) ≡ is_step_of d kind
kind_has None d = refl
kind_has (Some kind) d = row_has (row_of_kind kind) d

-- what asks something has the rows of its kind
pub action_has : (d : Data) → is_some (action_of d) ≡ is_step d
action_has d = kind_has (kind_of d) d

-- ---- caps and documents

module _ (d : Data) where
  held_byte : (least upto : ℕ) (key : List ℕ) → is_some (whole_of (2 ^ 8) key d)
      ≡ fits_form (bounded_number 8 least upto) (get key d)
  held_byte least upto key = at_held (2 ^ 8) (2 ^ 8 - 1) least upto refl (get key d)

  held_short : (least upto : ℕ) (key : List ℕ)
      → is_some (whole_of (2 ^ 16) key d) ≡ fits_form (bounded_number 16 least upto) (get key d)
  held_short least upto key = at_held (2 ^ 16) (2 ^ 16 - 1) least upto refl (get key d)

  pub caps_have : is_some (caps_of d) ≡ has_rows d caps_rows
  caps_have =
      needs _ _ _ _ (held_short 1 64 (codes "queues")) (λ queues.
      needs _ _ _ _ (held_short 1 8 (codes "groups")) (λ groups.
      needs _ _ _ _ (held_short 1 64 (codes "engines")) (λ engines.
      needs _ _ _ _ (held_short 1 4096 (codes "total_size")) (λ total_size.
      needs _ _ _ _ (held_short 1 255 (codes "read_buffers")) (λ read_buffers.
      needs _ _ _ _ (held_short 1 16 (codes "slots")) (λ slots.
      needs _ _ _ _ (held_byte 1 10 (codes "max_batch_shift")) (λ max_batch_shift.
      needs _ _ _ true (held_byte 0 31 (codes "max_xfer_shift")) (λ max_xfer_shift. refl))))))))

  capacity_has : is_some (whole_of (2 ^ 64) (codes "capacity") d)
      ≡ fits_form (bounded_number 64 0 (2 ^ 20)) (get (codes "capacity") d)
  capacity_has = at_held (2 ^ 64) (2 ^ 64 - 1) 0 (2 ^ 20) refl (get (codes "capacity") d)

-- caps are an object
caps_in : (o : Option Data) → is_some (option_and_then caps_of o) ≡ (fits_form form.Object o && has_caps o)
caps_in None = refl
caps_in (Some null) = refl
caps_in (Some (boolean b)) = refl
caps_in (Some (number n)) = refl
caps_in (Some (string s)) = refl
caps_in (Some (array ds)) = refl
caps_in (Some (object ms)) = caps_have (object ms)

-- the same two in another order
in_order : (a b c d : Bool) → ((a && b) && (c && (d && true))) ≡ ((a && (c && (d && true))) && b)
in_order false b c d = refl
in_order true false c d = sym (and-false (c && (d && true)))
in_order true true c d = sym (and-true (c && (d && true)))

pub head_has : (d : Data) → is_some (head_of d) ≡ (has_rows d document_rows && has_caps (get (codes "caps") d))
head_has d =
    needs _ _ _ _ (caps_in (get (codes "caps") d)) (λ caps. needs _ _ _ _ (capacity_has d) (λ capacity.
    needs _ _ _ true (at_form as_array form.Array (λ v. refl) (get (codes "steps") d)) (λ steps. refl)))
    ∙ in_order (fits_form form.Object (get (codes "caps") d)) (has_caps (get (codes "caps") d))
    (fits_form (bounded_number 64 0 (2 ^ 20)) (get (codes "capacity") d)) (fits_form form.Array (get (codes "steps") d))

-- ---- devices and histories

-- a number that was read lies between these exactly where one stands there that does
lies_below : (limit least upto m n : ℕ) (b : Bool) → nat_lt m limit ≡ b → (if b then Some m else None) ≡ Some n
    → is_between least upto (Some m) ≡ (nat_le least n && nat_le n upto)
lies_below limit least upto m n true e h =
    let same : m ≡ n = cc in
    rw same refl
lies_below limit least upto m n false e h = absurd cc

lies_at : (limit least upto n : ℕ) (o : Option ℕ) → option_and_then (below_limit limit) o ≡ Some n
    → is_between least upto o ≡ (nat_le least n && nat_le n upto)
lies_at limit least upto n None h = absurd cc
lies_at limit least upto n (Some m) h = lies_below limit least upto m n (nat_lt m limit) refl h

lies : (limit least upto n : ℕ) (o : Option Data)
    → option_and_then (below_limit limit) (option_and_then as_u64 (option_and_then as_number o)) ≡ Some n
    → fits_form (form.Whole least upto) o ≡ (nat_le least n && nat_le n upto)
lies limit least upto n None h = absurd cc
lies limit least upto n (Some d) h = lies_at limit least upto n (option_and_then as_u64 (as_number d)) h

-- what is so of all that a value leads to
so_of : {A B : Type 0} (o : Option A) (f : A → Option B) (P : B → Type 0) → ((a : A) → o ≡ Some a → IfSome (f a) P)
    → IfSome (option_and_then f o) P
so_of None f P h = tt
so_of (Some a) f P h = h a refl

none_below : (n : ℕ) → nat_le 0 n ≡ true
none_below n = grind (arith, nat_tests)

pub device_has : (d : Data) → IfSome (caps_of d) (λ caps. check_caps caps ≡ has_rows d device_rows)
device_has d =
    so_of (whole_of (2 ^ 16) (codes "queues") d) _ _ (λ queues e1.
    so_of (whole_of (2 ^ 16) (codes "groups") d) _ _ (λ groups e2.
    so_of (whole_of (2 ^ 16) (codes "engines") d) _ _ (λ engines e3.
    so_of (whole_of (2 ^ 16) (codes "total_size") d) _ _ (λ total_size e4.
    so_of (whole_of (2 ^ 16) (codes "read_buffers") d) _ _ (λ read_buffers e5.
    so_of (whole_of (2 ^ 16) (codes "slots") d) _ _ (λ slots e6.
    so_of (whole_of (2 ^ 8) (codes "max_batch_shift") d) _ _ (λ max_batch_shift e7.
    so_of (whole_of (2 ^ 8) (codes "max_xfer_shift") d) _ _ (λ max_xfer_shift e8.
    rw (
      lies (2 ^ 16) 1 64 queues (get (codes "queues") d) e1,
      lies (2 ^ 16) 1 8 groups (get (codes "groups") d) e2,
      lies (2 ^ 16) 1 64 engines (get (codes "engines") d) e3,
      lies (2 ^ 16) 1 4096 total_size (get (codes "total_size") d) e4,
      lies (2 ^ 16) 1 255 read_buffers (get (codes "read_buffers") d) e5,
      lies (2 ^ 16) 1 16 slots (get (codes "slots") d) e6,
      lies (2 ^ 8) 1 10 max_batch_shift (get (codes "max_batch_shift") d) e7,
      lies (2 ^ 8) 0 31 max_xfer_shift (get (codes "max_xfer_shift") d) e8,
      none_below max_xfer_shift,
    ) (simp (and_assoc, and-true))))))))))
