-- A device whose parts belong together, after each answer.
use Rattle.std.proofs.Common.{◌≡◌, ℕ, false, Some, sym, ap, ◌∙◌, subst}
use Rattle.dsa_regs.specs.{declared.Caps.{Caps}, Caps.{cell_count}}
use Rattle.dsa_book.specs.{declared.{event.Event.{Event}, answer.Reply.{Reply}}, State.{is_off}}
use Rattle.dsa_laws.proofs.Entries.{none-held}
use Rattle.dsa_engines.{specs.Engines.{EnginesState, IsInStep}, proofs.Keeping.{KeepsLoads, homes-kept, buffers-kept}}
use Rattle.dsa_device.specs.Running.{Running, after_answer, HasPast, HasRows, IsWholeDevice}
use Rattle.dsa_device.proofs.{Known.{lawful, shape_of, entries_of, none-held_all, cells-are}, Steps.{grows}}
use Rattle.dsa_device.proofs.Anew.{answered-past, answered-rows}

-- the device has the queues that it had
pub same-queues : (d now t : Running) (e : Event) (r : Reply) → HasPast d → d ≡ now → after_answer now e r ≡ Some t
    → t.state.work.setup.caps.queues ≡ d.state.work.setup.caps.queues
same-queues d now t e r p is a =
    let a = rw (← is) at a in
    let caps = (shape_of t (answered-past d t e r p a)).same_caps ∙ (grows d t e r a).caps
    ∙ sym (shape_of d p).same_caps in
    ap (λ (c : Caps). c.queues) caps

-- there are rows enough where the book has as many as before
pub rows_after : (rows more : ℕ) (d now t : Running) (e : Event) (r : Reply) → HasPast d → HasRows rows d → d ≡ now
    → after_answer now e r ≡ Some t → more ≡ rows → HasRows more t
rows_after rows more d now t e r p fit is a same =
    subst (λ (k : ℕ). HasRows k t) (sym same) (answered-rows rows d t e r p fit (rw (← is) at a))

-- the device stays whole where queues, engines and store are in step again
pub whole_after : (cells more : ℕ) (engines_state after : EnginesState) (d now t : Running) (e : Event) (r : Reply)
    → IsWholeDevice cells engines_state d → d ≡ now → after_answer now e r ≡ Some t
    → IsInStep t.state.work.setup after more t.state.work.content → IsWholeDevice more after t
whole_after cells more engines_state after d now t e r w is a in_step =
    record { past = answered-past d t e r w.past (rw is a); in_step = in_step }

-- which the laws say after a step of the queues alone, for that leaves the engines as they were
pub whole_after_queues : (cells more : ℕ) (engines_state : EnginesState) (d now t : Running) (e : Event) (r : Reply)
    → IsWholeDevice cells engines_state d → d ≡ now → after_answer now e r ≡ Some t → engines_state.notes ≡ t.state.work.notes
    → more ≡ cells
    → (is_off t.state.work.setup.device ≡ false
    → KeepsLoads d.state.work.setup t.state.work.setup d.state.work.content t.state.work.content)
    → IsWholeDevice more engines_state t
whole_after_queues cells more engines_state d now t e r w is a notes same keeps =
    let a = rw (← is) at a in
    let p = answered-past d t e r w.past a in
    let shape = shape_of t p in
    let setup = (lawful t p).setup in
    let caps = shape.same_caps in
    let after = t.state.work in
    record {
      past = p;
      in_step = record {
        queues = record {
          lawful = rw caps p.caps;
          configs = rw caps shape.configs;
          phases = rw caps shape.phases;
          groups = rw caps shape.groups;
        };
        store = record {
          lists = rw caps shape.lists;
          cells = same ∙ cells-are cells engines_state d w ∙ ap cell_count (sym (caps ∙ (grows d t e r a).caps));
        };
        idle = λ off. none-held_all after.content (none-held t.caps after setup (entries_of t p) off);
        checked = setup.device;
        notes = rw (notes, caps) shape.notes;
        homes = λ on. homes-kept _ _ engines_state _ _ w.in_step (keeps on) on;
        buffers = λ on. buffers-kept _ _ engines_state _ _ w.in_step (keeps on) on;
      };
    }
