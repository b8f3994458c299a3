use Rattle.dsa_desc.proofs.Descriptor.to_bytes.Goals as goal
use Rattle.std.proofs.{Common.{◌≡◌, ℕ, ◌%◌, ◌^◌, [], refl, ap, ◌∙◌, arith}, lemmas.Nat.{and_mask}}
use Rattle.std.specs.Int.Bits.{bit_and, mask_lt}
use Rattle.byteorder.specs.Numbers.{little_number-reads_back}
use Rattle.dsa_desc.specs.{declared.Descriptor.{Descriptor}, Descriptor.{pasid_of}}

-- a descriptor by its fields
abbrev with_fields : ℕ → ℕ → ℕ → ℕ → Descriptor
with_fields op p f s = record { pasid = p; flags = f; op = op; size = s }

-- fields that are equal one by one are the same descriptor
fields : (op p p_2 f f_2 s s_2 : ℕ) → p ≡ p_2 → f ≡ f_2 → s ≡ s_2 → with_fields op p f s ≡ with_fields op p_2 f_2 s_2
fields op p p_2 f f_2 s s_2 e1 e2 e3 = rw (e1, e2, e3) refl

pub returns-clause-parsed : goal.returns-clause-parsed
returns-clause-parsed c =
    rw (c.write_u32-2.ensures, c.write_u24.ensures, c.write_u32.ensures)
    (fields c.args.self.op _ (pasid_of c.args.self.pasid) _ (c.args.self.flags % 16777216) _
    c.args.self.size
    (ap pasid_of (little_number-reads_back 4 (bit_and c.args.self.pasid 1048575) []
    (omega (arith, mask_lt c.args.self.pasid 20)) ∙ and_mask c.args.self.pasid 20) ∙ omega arith)
    (little_number-reads_back 3 (bit_and c.args.self.flags 16777215) [] (mask_lt c.args.self.flags 24)
    ∙ and_mask c.args.self.flags 24)
    (little_number-reads_back 4 c.args.self.size [] (omega (arith, c.well_formed))))
