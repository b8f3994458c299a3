-- The lengths of all lists stay, and which lists there are.
use Rattle.std.proofs.lemmas.{Bool.{ltb-true, lt-ltb, and_parts}, List.{length-set, length-map, length-replicate}}
use Rattle.std.proofs.Common.{◌≡◌, ℕ, zero, suc, ◌<◌, Bool, true, false, cond, List, [], ◌∷◌, length, set, get_or}
use Rattle.std.proofs.Common.{Option, Some, None, refl, sym, ap, ◌∙◌, arith, ◌+◌, subst, map, not, is_none, ◌||◌}
use Rattle.std.{proofs.Common.{◌++◌, ◌⊎◌, inl, inr, ⊎_elim}, specs.Prelude.{nat_lt, find}}
use Rattle.dsa_base.proofs.{Lists.{In-find, In-append, In-filter}, NumberLists.{length-each}}
use Rattle.dsa_base.specs.{Lists.{In}, Numbers.{numbers_below}, Rows.{passes}}
use Rattle.dsa_regs.specs.declared.{Phase.{TheVariants.{Off, Stopping}, Phase}, Deed.{Deed, TheVariants.{Disable}}}
use Rattle.dsa_regs.specs.{declared.{Scope.{TheVariants.{Device}, Scope}, Caps.{Caps}}, Caps.{list_count}}
use Rattle.dsa_store.specs.Content.{HeldEntry, chain, without_front}
use Rattle.dsa_book.specs.declared.{note.BatchNote.{BatchNote}, answer.Ticket.{Ticket}}
use Rattle.dsa_book.specs.State.{Setup, Work, State, opening, is_on, phase_at, need_of, is_batch_of, is_ticket}
use Rattle.dsa_book.specs.Work.{progress_list, member_list, in_progress, members, note_at, first_waiting, has_room}
use Rattle.dsa_book.specs.{Work.{qualifies, front_of, may_take, running_on}, Commands.{after_stop}}
use Rattle.dsa_laws.specs.{Change.{Change}, WellFormed.{HasShape}}
use Rattle.dsa_laws.proofs.Effects.{by_effect, by_setting, stopped-keeps}

-- ---- capabilities stay

pub queues-same : {caps : Caps} {w : Work} → HasShape caps w → w.setup.caps.queues ≡ caps.queues
queues-same h = ap (λ c. c.queues) h.same_caps

pub engines-same : {caps : Caps} {w : Work} → HasShape caps w → w.setup.caps.engines ≡ caps.engines
engines-same h = ap (λ c. c.engines) h.same_caps

-- ---- the lengths

length-cond_set : {X : Type 0} (b : Bool) (xs : List X) (i : ℕ) (x : X) → length (cond b (set xs i x) xs) ≡ length xs
length-cond_set true xs i x = length-set xs i x
length-cond_set false xs i x = refl

stopped-phases : (deed : Deed) (scope : Scope) (phase : Phase) (setup : Setup) (n : ℕ) → setup.caps.queues ≡ n
    → length setup.phases ≡ n
    → length (after_stop deed scope phase setup).phases ≡ n
stopped-phases Disable Device phase setup n q h = length-each _ setup.caps.queues ∙ q
stopped-phases Disable scope phase setup n q h = length-each _ setup.caps.queues ∙ q
stopped-phases _ scope phase setup n q h = h

-- a configuration for each queue and each group, and a phase for each queue
abbrev HasTables : Caps → Setup → Type 0
HasTables caps setup = (length setup.configs ≡ caps.queues) × (length setup.phases ≡ caps.queues)
    × (length setup.groups ≡ caps.groups)

pub shape-change : (caps : Caps) (s s' : State) → HasShape caps s.work → Change s s' → HasShape caps s'.work
shape-change caps s s' h c = record {
  same_caps = held.0 ∙ h.same_caps;
  lists = held.1 ∙ h.lists;
  configs = tables.0;
  phases = tables.1;
  groups = tables.2;
  notes = held.2 ∙ h.notes;
}
  where
    w : Work
    w = s.work

    held : (s'.work.setup.caps ≡ w.setup.caps) × (length s'.work.content ≡ length w.content)
        × (length s'.work.notes ≡ length w.notes)
    held = by_effect (λ t. (t.setup.caps ≡ w.setup.caps) × (length t.content ≡ length w.content)
        × (length t.notes ≡ length w.notes)) s s' c
        (λ e. (e.caps, ap length e.content, ap length e.notes))
        (λ c. (refl, length-set w.content c.queue _, refl))
        (λ c. (
          refl,
          length-set (without_front w.content c.queue) _ _ ∙ length-set w.content c.queue _,
          length-cond_set _ w.notes c.engine _,
        ))
        (λ c. (refl, length-set w.content _ _, length-set w.notes c.engine _))
        (λ c. (refl, length-set w.content _ _, refl))
        (λ c. (refl, length-set w.content _ _, length-set w.notes c.engine _))
        (λ c. (refl, length-map w.content _, length-set w.notes c.engine _))
        (λ c. (c.caps, length-map w.content _, length-each _ w.setup.caps.engines ∙ engines-same h ∙ sym h.notes))

    waits : (deed : Deed) (scope : Scope) (phase : Phase) → HasTables caps (after_stop deed scope phase w.setup)
    waits deed scope phase =
        let stop = stopped-keeps deed scope phase w.setup in (
          ap length stop.configs ∙ h.configs,
          stopped-phases deed scope phase w.setup caps.queues (queues-same h) h.phases,
          ap length stop.groups ∙ h.groups,
        )

    tables : HasTables caps s'.work.setup
    tables = by_setting (HasTables caps) s s' c
        (λ e. (ap length e.configs ∙ h.configs, ap length e.phases ∙ h.phases, ap length e.groups ∙ h.groups))
        (λ c. (h.configs, h.phases, h.groups))
        (λ c. (h.configs, each _, h.groups))
        (λ c. waits c.deed c.scope Stopping)
        (λ c. waits c.deed c.scope Off)
        (λ left. (
          length-replicate w.setup.caps.queues _ ∙ queues-same h,
          length-replicate w.setup.caps.queues _ ∙ queues-same h,
          length-replicate w.setup.caps.groups _ ∙ ap (λ c. c.groups) h.same_caps,
        ))
        (λ scope left. (each _, each _, h.groups))
        (λ c. (length-set w.setup.configs c.queue c.config ∙ h.configs, h.phases, h.groups))
        (λ c. (h.configs, h.phases, length-set w.setup.groups c.group c.config ∙ h.groups))
      where
        each : {X : Type 0} (f : ℕ → X) → length (map f (numbers_below w.setup.caps.queues)) ≡ caps.queues
        each f = length-each f w.setup.caps.queues ∙ queues-same h

pub shape-opening : (caps : Caps) → HasShape caps (opening caps).work
shape-opening caps = record {
  same_caps = refl;
  lists = length-replicate (list_count caps) _;
  configs = length-replicate caps.queues _;
  phases = length-replicate caps.queues _;
  groups = length-replicate caps.groups _;
  notes = length-replicate caps.engines _;
}

-- ---- which lists there are

on-in_range : (phases : List Phase) (q : ℕ) → is_on (get_or phases q Off) ≡ true → q < length phases
on-in_range [] q h = absurd cc
on-in_range (p ∷ phases) zero h = omega arith
on-in_range (p ∷ phases) (suc q) h = omega (arith, on-in_range phases q h)

note-in_range : (notes : List (Option BatchNote)) (e : ℕ) (note : BatchNote) → get_or notes e None ≡ Some note
    → e < length notes
note-in_range [] e note h = absurd cc
note-in_range (n ∷ notes) zero note h = omega arith
note-in_range (n ∷ notes) (suc e) note h = omega (arith, note-in_range notes e note h)

pub In-cond : (b : Bool) (x : HeldEntry) (l : List HeldEntry) → In x (cond b l []) → (b ≡ true) × In x l
In-cond true x l i = (refl, i)
In-cond false x l i = absurd i

-- an engine of the device, with its two lists and its place for a note
pub record IsEngine (caps : Caps) (w : Work) (e : ℕ) : Type 0 where
  pub there : nat_lt e w.setup.caps.engines ≡ true
  pub below : e < w.setup.caps.engines
  pub inside : e < caps.engines
  pub noted : e < length w.notes
  pub progress_inside : progress_list w.setup e < length w.content
  pub members_inside : member_list w.setup e < length w.content
  pub progress : in_progress w e ≡ chain w.content (progress_list w.setup e)
  pub members : members w e ≡ chain w.content (member_list w.setup e)

-- the entry stands in one of the engine's two lists
pub record StandsOn (w : Work) (e : ℕ) (pair : HeldEntry) : Type 0 where
  pub list : ℕ
  pub own : (list ≡ progress_list w.setup e) ⊎ (list ≡ member_list w.setup e)
  pub at : In pair (chain w.content list)
  pub there : nat_lt e w.setup.caps.engines ≡ true

-- an engine that may take the front of a queue
pub record IsTaker (caps : Caps) (w : Work) (e q : ℕ) (front : HeldEntry) : Type 0 where
  pub engine : IsEngine caps w e
  pub queue : q < caps.queues
  pub slots : length (in_progress w e) < caps.slots
  pub room : has_room w e (need_of w.setup front.1) ≡ true
  pub batches : (is_none (note_at w e) || not (is_batch_of w.setup front.1)) ≡ true

module _ {caps : Caps} {w : Work} (shape : HasShape caps w) where
  pub on-queue : (q : ℕ) → is_on (phase_at w.setup q) ≡ true → q < caps.queues
  on-queue q on = omega (arith, on-in_range w.setup.phases q on)

  pub queue_list-in : (q : ℕ) → q < caps.queues → q < length w.content
  queue_list-in q i = omega arith

  pub an_engine : (e : ℕ) → nat_lt e w.setup.caps.engines ≡ true → IsEngine caps w e
  an_engine e t =
      let below = ltb-true e w.setup.caps.engines t in
      let engines = engines-same shape in
      let queues = queues-same shape in
      record {
        there = t;
        below = below;
        inside = omega arith;
        noted = omega arith;
        progress_inside = omega arith;
        members_inside = omega arith;
        progress = rw t refl;
        members = rw t refl;
      }

  -- by its number
  pub numbered-engine : (e : ℕ) → e < caps.engines → IsEngine caps w e
  numbered-engine e i = an_engine e (lt-ltb e w.setup.caps.engines (omega (arith, engines-same shape)))

  -- by its note
  pub noted-engine : (e : ℕ) (note : BatchNote) → note_at w e ≡ Some note → IsEngine caps w e
  noted-engine e note h = numbered-engine e (omega (arith, note-in_range w.notes e note h))

  -- by a member that waits there
  pub waiting-engine : (e : ℕ) (pair : HeldEntry) → first_waiting w e ≡ Some pair → IsEngine caps w e
  waiting-engine e pair h = an_engine e (In-cond _ pair _ (In-find _ pair (members w e) h).0).0

  -- its lists by their numbers
  pub members-at : (e : ℕ) → e < caps.engines → members w e ≡ chain w.content (caps.queues + caps.engines + e)
  members-at e i = (numbered-engine e i).members
      ∙ ap (λ c. chain w.content (c.queues + c.engines + e)) shape.same_caps

  pub progress-at : (e : ℕ) → e < caps.engines → in_progress w e ≡ chain w.content (caps.queues + e)
  progress-at e i = (numbered-engine e i).progress ∙ ap (λ c. chain w.content (c.queues + e)) shape.same_caps

  pub a_taker : (e q : ℕ) (front : HeldEntry) → qualifies w e q ≡ true → front_of w q ≡ Some front
      → IsTaker caps w e q front
  a_taker e q front h f =
      let tests = and_parts _ _ (and_parts _ _ h).0 in
      let takes = subst (λ o. passes (may_take w e) o ≡ true) f
      (and_parts _ _ (and_parts _ _ h).1).1 in
      let may = (and_parts _ _ takes).0 in
      let fits = and_parts _ _ (and_parts _ _ may).0 in
      record {
        engine = an_engine e tests.0;
        queue = omega (arith, ltb-true q w.setup.caps.queues tests.1, queues-same shape);
        slots = subst (λ (c : Caps). length (in_progress w e) < c.slots) shape.same_caps (ltb-true _ _ fits.0);
        room = fits.1;
        batches = (and_parts _ _ may).1;
      }

-- what runs on an engine stands in one of its lists
pub running-place : (w : Work) (e : ℕ) (ticket : Ticket) (pair : HeldEntry)
    → find (is_ticket ticket) (running_on w e) ≡ Some pair → StandsOn w e pair
running-place w e ticket pair h = ⊎_elim
    (λ i. let p = In-cond _ pair _ i in record { list = _; own = inl refl; at = p.1; there = p.0 })
    (λ i. let p = In-cond _ pair _ i in record { list = _; own = inr refl; at = p.1; there = p.0 })
    (In-append pair (in_progress w e) (members w e)
    (In-filter _ pair (in_progress w e ++ members w e) (In-find _ pair (running_on w e) h).0).0)
