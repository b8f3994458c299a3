-- Devices whose queues, engines and groups are alike are.
use Rattle.std.proofs.Common.{◌≡◌, ◌<◌, ◌≤◌, ◌+◌, ◌-◌, ℕ, Bool, true, false, List, [], Option, None, refl, sym, ap}
use Rattle.std.proofs.Common.{subst, ◌∙◌, length, get_or, arith, cond}
use Rattle.std.proofs.lemmas.{Bool.{ltb-true, ltb-false, lt-ltb}, List.{same_lists, length-map, get_or_default}}
use Rattle.std.proofs.Math.ListN.{get_or-map}
use Rattle.std.specs.Prelude.{nat_lt}
use Rattle.dsa_regs.specs.{Caps.{list_count}, Config.{zero_queue, zero_group, queue_at, group_at}}
use Rattle.dsa_regs.specs.declared.{Caps.{Caps}, Phase.TheVariants.{Off}}
use Rattle.dsa_store.specs.{declared.entry.Entry.{Entry}, Content.{chain}}
use Rattle.dsa_book.specs.State.{Setup, Work, State, phase_at}
use Rattle.dsa_book.specs.Work.{in_progress, members, progress_list, member_list}
use Rattle.dsa_book.specs.declared.note.BatchNote.{BatchNote}
use Rattle.dsa_laws.specs.WellFormed.{HasShape}
use Rattle.dsa_answers.specs.Alike.{AreStatesAlike, entries_alone}
use Rattle.dsa_conform.specs.Ways.{IsQueueAlike, IsEngineAlike, entries_only}

-- lists of one length that are the same at each place, where they are read by this default
same_by : {X : Type 0} (xs ys : List X) (n : ℕ) (d : X) → length xs ≡ n → length ys ≡ n
    → ((k : ℕ) → k < n → get_or xs k d ≡ get_or ys k d) → xs ≡ ys
same_by xs ys n d first second h =
    same_lists xs ys (first ∙ sym second)
    (λ k e below. get_or_default xs k e d below ∙ h k (subst (λ m. k < m) first below)
    ∙ get_or_default ys k d e (subst (λ m. k < m) (first ∙ sym second) below))

-- what is compared of two works
pub record AreSame (caps : Caps) (w v : Work) : Type 0 where
  pub device : w.setup.device ≡ v.setup.device
  pub next_name : w.setup.next_name ≡ v.setup.next_name
  pub noted : w.setup.noted ≡ v.setup.noted
  pub groups : (group : ℕ) → group < caps.groups → group_at w.setup.groups group ≡ group_at v.setup.groups group
  pub queues : (queue : ℕ) → queue < caps.queues → IsQueueAlike w v queue
  pub engines : (engine : ℕ) → engine < caps.engines → IsEngineAlike w v engine

-- ---- the set-ups

same_setup : (a b : Setup) → a.caps ≡ b.caps → a.device ≡ b.device → a.configs ≡ b.configs → a.phases ≡ b.phases
    → a.groups ≡ b.groups → a.next_name ≡ b.next_name → a.noted ≡ b.noted → a ≡ b
same_setup a b caps device configs phases groups name noted =
    ap (λ x. record a { caps = x }) caps
    ∙ ap (λ x. record a { caps = b.caps; device = x }) device
    ∙ ap (λ x. record a { caps = b.caps; device = b.device; configs = x }) configs
    ∙ ap (λ x. record a { caps = b.caps; device = b.device; configs = b.configs; phases = x }) phases
    ∙ ap (λ x. record b { groups = x; next_name = a.next_name; noted = a.noted }) groups
    ∙ ap (λ x. record b { next_name = x; noted = a.noted }) name
    ∙ ap (λ x. record b { noted = x }) noted

setups : (caps : Caps) (w v : Work) → HasShape caps w → HasShape caps v → AreSame caps w v → w.setup ≡ v.setup
setups caps w v shape other h =
    same_setup w.setup v.setup (shape.same_caps ∙ sym other.same_caps) h.device
    (same_by w.setup.configs v.setup.configs caps.queues zero_queue shape.configs other.configs
    (λ k below. (h.queues k below).config))
    (same_by w.setup.phases v.setup.phases caps.queues Off shape.phases other.phases
    (λ k below. (h.queues k below).phase))
    (same_by w.setup.groups v.setup.groups caps.groups zero_group shape.groups other.groups
    (λ k below. h.groups k below))
    h.next_name
    h.noted

-- ---- the lists

progress_at : (caps : Caps) (w : Work) (e : ℕ) → HasShape caps w → e < caps.engines
    → in_progress w e ≡ chain w.content (caps.queues + e)
progress_at caps w e shape below =
    subst (λ (c : Caps). cond (nat_lt e c.engines) (chain w.content (c.queues + e)) []
    ≡ chain w.content (caps.queues + e)) (sym shape.same_caps)
    (ap (λ b. cond b (chain w.content (caps.queues + e)) []) (lt-ltb e caps.engines below))

members_at : (caps : Caps) (w : Work) (e : ℕ) → HasShape caps w → e < caps.engines
    → members w e ≡ chain w.content (caps.queues + caps.engines + e)
members_at caps w e shape below =
    subst (λ (c : Caps). cond (nat_lt e c.engines) (chain w.content (c.queues + c.engines + e)) []
    ≡ chain w.content (caps.queues + caps.engines + e)) (sym shape.same_caps)
    (ap (λ b. cond b (chain w.content (caps.queues + caps.engines + e)) []) (lt-ltb e caps.engines below))

-- the entries of one list
one_list : (caps : Caps) (w v : Work) (k : ℕ) → HasShape caps w → HasShape caps v → AreSame caps w v
    → k < list_count caps → entries_only (chain w.content k) ≡ entries_only (chain v.content k)
one_list caps w v k shape other h below = by_queue (nat_lt k caps.queues) refl
  where
    by_engine : (b : Bool) → caps.queues ≤ k → nat_lt (k - caps.queues) caps.engines ≡ b
        → entries_only (chain w.content k) ≡ entries_only (chain v.content k)
    by_engine true past is =
        let e = k - caps.queues in
        let in_it : e < caps.engines = ltb-true e caps.engines is in
        let at : caps.queues + e ≡ k = omega (arith, past) in
        subst (λ i. entries_only (chain w.content i) ≡ entries_only (chain v.content i)) at
        (ap entries_only (sym (progress_at caps w e shape in_it)) ∙ (h.engines e in_it).in_progress
        ∙ ap entries_only (progress_at caps v e other in_it))
    by_engine false past is =
        let e = k - caps.queues - caps.engines in
        let over : caps.engines ≤ k - caps.queues = ltb-false (k - caps.queues) caps.engines is in
        let in_it : e < caps.engines = omega (arith, past, over, below) in
        let at : caps.queues + caps.engines + e ≡ k = omega (arith, past, over) in
        subst (λ i. entries_only (chain w.content i) ≡ entries_only (chain v.content i)) at
        (ap entries_only (sym (members_at caps w e shape in_it)) ∙ (h.engines e in_it).members
        ∙ ap entries_only (members_at caps v e other in_it))

    by_queue : (b : Bool) → nat_lt k caps.queues ≡ b
        → entries_only (chain w.content k) ≡ entries_only (chain v.content k)
    by_queue true is = (h.queues k (ltb-true k caps.queues is)).waiting
    by_queue false is = by_engine (nat_lt (k - caps.queues) caps.engines) (ltb-false k caps.queues is) refl

all_lists : (caps : Caps) (w v : Work) → HasShape caps w → HasShape caps v → AreSame caps w v
    → entries_alone w.content ≡ entries_alone v.content
all_lists caps w v shape other h =
    same_by (entries_alone w.content) (entries_alone v.content) (list_count caps) []
    (length-map w.content entries_only ∙ shape.lists)
    (length-map v.content entries_only ∙ other.lists)
    (λ k below. get_or-map entries_only w.content k [] ∙ one_list caps w v k shape other h below
    ∙ sym (get_or-map entries_only v.content k []))

-- ---- the states

pub alike : (caps : Caps) (s t : State) → HasShape caps s.work → HasShape caps t.work → AreSame caps s.work t.work
    → s.active ≡ t.active → AreStatesAlike s t
alike caps s t shape other h active = record {
  setup = setups caps s.work t.work shape other h;
  entries = all_lists caps s.work t.work shape other h;
  notes = same_by s.work.notes t.work.notes caps.engines None shape.notes other.notes
      (λ k below. (h.engines k below).note);
  active = active;
}

-- ---- the parts of states that are alike

-- the entries of one list
same_entries : (w v : Work) (k : ℕ) → entries_alone w.content ≡ entries_alone v.content
    → entries_only (chain w.content k) ≡ entries_only (chain v.content k)
same_entries w v k entries =
    sym (get_or-map entries_only w.content k []) ∙ ap (λ (lists : List (List Entry)). get_or lists k []) entries
    ∙ get_or-map entries_only v.content k []

-- and those of an engine's list, where the device has the engine
same_entries_where : (has : Bool) (w v : Work) (k : ℕ) → entries_alone w.content ≡ entries_alone v.content
    → entries_only (cond has (chain w.content k) []) ≡ entries_only (cond has (chain v.content k) [])
same_entries_where true w v k entries = same_entries w v k entries
same_entries_where false w v k entries = refl

pub queue_alike : (w v : Work) (q : ℕ) → w.setup ≡ v.setup → entries_alone w.content ≡ entries_alone v.content
    → IsQueueAlike w v q
queue_alike w v q setup entries = record {
  config = ap (λ (s : Setup). queue_at s.configs q) setup;
  phase = ap (λ (s : Setup). phase_at s q) setup;
  waiting = same_entries w v q entries;
}

pub engine_alike : (w v : Work) (e : ℕ) → w.setup ≡ v.setup → entries_alone w.content ≡ entries_alone v.content
    → w.notes ≡ v.notes → IsEngineAlike w v e
engine_alike w v e setup entries notes = record {
  note = ap (λ (l : List (Option BatchNote)). get_or l e None) notes;
  in_progress = same_entries_where (nat_lt e w.setup.caps.engines) w v (progress_list w.setup e) entries
      ∙ ap (λ (s : Setup). entries_only (cond (nat_lt e s.caps.engines) (chain v.content (progress_list s e)) []))
      setup;
  members = same_entries_where (nat_lt e w.setup.caps.engines) w v (member_list w.setup e) entries
      ∙ ap (λ (s : Setup). entries_only (cond (nat_lt e s.caps.engines) (chain v.content (member_list s e)) [])) setup;
}
