-- Every state that a history leads to is well formed.
use Rattle.std.proofs.Common.{◌≡◌, ◌==◌, List, [], ◌∷◌, length, replicate}
use Rattle.std.{proofs.Common.{Option, Some, None, refl, ap, subst, arith, ◌+◌, ◌∙◌}, specs.Prelude.{count_by}}
use Rattle.dsa_regs.specs.{declared.Caps.{Caps}, Caps.{list_count}}
use Rattle.dsa_store.specs.{Content.{is_cell, use_count}, declared.entry.Cell.{Cell}}
use Rattle.dsa_store.proofs.Sums.{uses-counted, held-counted}
use Rattle.dsa_book.specs.{declared.event.Step.{Step}, State.{State, opening}, Machine.{next, replay_from, replay}}
use Rattle.dsa_book.proofs.Replay.{replay_none}
use Rattle.dsa_laws.{specs.{WellFormed.{IsWellFormed}, Change.{Change}}, proofs.Shapes.{shape-change, shape-opening}}
use Rattle.dsa_laws.proofs.{Engines.{engines-opening, engines-change}, Setups.{setup-opening, setup-change}}
use Rattle.dsa_laws.proofs.{Orders.{of-lists_in_order, order-change, order-opening}, Flows.{cells-flow, flow-change}}
use Rattle.dsa_laws.proofs.{Flows.{names-flow}, Entries.{entries-opening, entries-change}, Changes.{next-change}}
use Rattle.dsa_laws.proofs.Rising.{rising-change, rising-opening}
use Rattle.dsa_laws.proofs.{Buffering.{buffers-change, buffers-opening}, Notes.{notes-change, notes-opening}}
use Rattle.dsa_laws.proofs.{Limits.{lists_fit-change, of-lists_fit, lists_fit-opening}, Contents.{all_held-empty}}

pub well_formed-change : (caps : Caps) (s s' : State) → IsWellFormed caps s → Change s s' → IsWellFormed caps s'
well_formed-change caps s s' w c =
    let shape = shape-change caps s s' w.shape c in
    let flow = flow-change caps s s' w.shape w.cells c in
    let engines = engines-change caps s s' w c in
    let notes = notes-change caps s s' w c in
    let lists = lists_fit-change caps s s' w c in
    record {
      shape = shape;
      cells = cells-flow caps s.work s'.work flow;
      names = names-flow caps s.work s'.work w.names flow;
      setup = setup-change caps s s' w c;
      entries = entries-change caps s s' w c;
      rising = rising-change caps s s' w c;
      limits = of-lists_fit caps s'.work shape lists notes engines;
      buffers = buffers-change caps s s' w c;
      engines = engines;
      notes = notes;
      order = of-lists_in_order caps s'.work shape
          (order-change caps s s' w c);
    }

pub well_formed-opening : (caps : Caps) → IsWellFormed caps (opening caps)
well_formed-opening caps =
    let none = all_held-empty (list_count caps) in
    record {
      shape = shape-opening caps;
      cells = record { once = λ cell. omega (arith, unused cell); inside = λ cell past. unused cell };
      names = record {
        given = λ name below. absurd (omega arith);
        not_given = λ name past. ap (λ xs. count_by (λ pair. pair.1.name == name) xs + 0) none;
        counted =
            omega (arith, ap length none, held-counted (replicate (list_count caps) []));
      };
      setup = setup-opening caps;
      entries = entries-opening caps;
      rising = rising-opening caps;
      limits = of-lists_fit caps (opening caps).work (shape-opening caps) (lists_fit-opening caps)
          (notes-opening caps) (engines-opening caps);
      buffers = buffers-opening caps;
      engines = engines-opening caps;
      notes = notes-opening caps;
      order = of-lists_in_order caps (opening caps).work (shape-opening caps) (order-opening caps);
    }
  where
    unused : (cell : Cell) → use_count (opening caps).work.content cell ≡ 0
    unused cell = uses-counted (replicate (list_count caps) []) cell
        ∙ ap (count_by (is_cell cell)) (all_held-empty (list_count caps))

-- what every change keeps, every history keeps
pub replay_keeps : (P : State → Type 0) → ((s s' : State) → P s → Change s s' → P s')
    → (h : List Step) (s s' : State) → P s → replay_from (Some s) h ≡ Some s' → P s'
replay_keeps P keeps [] s s' p e = let is : s ≡ s' = cc in subst P is p
replay_keeps P keeps (x ∷ h) s s' p e = go (λ t q r. replay_keeps P keeps h t s' q r) (next s x.event x.reply) refl e
  where
    go : ((t : State) → P t → replay_from (Some t) h ≡ Some s' → P s') → (o : Option State)
        → next s x.event x.reply ≡ o → replay_from o h ≡ Some s' → P s'
    go more None n e = absurd (replay_none h s' e)
    go more (Some t) n e = more t (keeps s t p (next-change s t x.event x.reply n)) e

pub replay-well_formed : (caps : Caps) (h : List Step) (s : State) → replay caps h ≡ Some s → IsWellFormed caps s
replay-well_formed caps h s e = replay_keeps (IsWellFormed caps) (well_formed-change caps) h (opening caps) s
    (well_formed-opening caps) e
