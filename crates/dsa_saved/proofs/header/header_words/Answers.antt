use Rattle.dsa_saved.proofs.header.header_words.Goals as goal
use Rattle.std.proofs.Common.{◌≡◌, ℕ, ◌%◌, ◌^◌, refl, arith}
use Rattle.dsa_regs.specs.declared.Caps.{Caps}

-- what a device has, by its numbers
abbrev with_numbers : ℕ → ℕ → ℕ → ℕ → ℕ → ℕ → ℕ → ℕ → Caps
with_numbers q g e t r s b x = record {
  queues = q;
  groups = g;
  engines = e;
  total_size = t;
  read_buffers = r;
  slots = s;
  max_batch_shift = b;
  max_xfer_shift = x;
}

same : (q q_2 g g_2 e e_2 t t_2 r r_2 s s_2 b b_2 x x_2 : ℕ) → q ≡ q_2 → g ≡ g_2 → e ≡ e_2 → t ≡ t_2 → r ≡ r_2 → s ≡ s_2
    → b ≡ b_2 → x ≡ x_2 → with_numbers q g e t r s b x ≡ with_numbers q_2 g_2 e_2 t_2 r_2 s_2 b_2 x_2
same q q_2 g g_2 e e_2 t t_2 r r_2 s s_2 b b_2 x x_2 e1 e2 e3 e4 e5 e6 e7 e8 = rw (e1, e2, e3, e4, e5, e6, e7, e8) refl

pub returns-clause-read : goal.returns-clause-read
returns-clause-read c =
    same _ c.args.caps.queues _ c.args.caps.groups _ c.args.caps.engines _ c.args.caps.total_size _
    c.args.caps.read_buffers _ c.args.caps.slots _ c.args.caps.max_batch_shift _ c.args.caps.max_xfer_shift
    (omega (arith, c.well_formed)) (omega (arith, c.well_formed)) (omega (arith, c.well_formed))
    (omega (arith, c.well_formed)) (omega (arith, c.well_formed)) (omega (arith, c.well_formed))
    (omega (arith, c.well_formed)) (omega (arith, c.well_formed))
