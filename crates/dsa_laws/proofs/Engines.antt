-- Each engine has a note exactly where it works on a batch, whatever step is made.
use Rattle.std.proofs.Common.{◌∷◌, ◌≢◌, get_or, ◌≤◌, ◌++◌, Bool, false, arith, ℕ, List, not, set, ⊎_elim}
use Rattle.std.proofs.Common.{◌+◌, ap, option_map, cond, refl, None, ◌<◌, ◌&&◌, ◌==◌, Option, eqb-true, sym, subst}
use Rattle.std.proofs.{Common.{length, Some, filter, eq-eqb, drop, true, [], ◌∙◌, ◌≡◌}, Math.ListN.{get_or-eq_default}}
use Rattle.std.proofs.lemmas.Bool.{ltb-false, false_from_ne_true, cases_eq, Decides.{nat_tests}, cases_Bool, or_parts}
use Rattle.std.{proofs.lemmas.List.{get_or-set_other, length-set, get_or-set_same}, specs.Prelude.{count_by, nat_lt}}
use Rattle.dsa_base.proofs.Lists.{length-none, In-find, get_or-replicated}
use Rattle.dsa_base.{proofs.{Counts.{In-same, In-counted}, NumberLists.{get_or-each}}, specs.Lists.{In}}
use Rattle.dsa_desc.specs.{declared.Outcome.{Outcome}, Descriptor.{with_pasid, is_successful, is_lawful_batch}}
use Rattle.dsa_regs.specs.{declared.Caps.{Caps}, Caps.{list_count}, Config.{limits_of_queue}}
use Rattle.dsa_store.specs.Content.{HeldEntry, Content, is_cell, chain, place_count, use_count, without_front}
use Rattle.dsa_store.proofs.{Places.{filter-absent}, Sums.{uses-counted}}
use Rattle.dsa_book.specs.State.{Setup, Work, State, opening, is_member, is_batch_of, status_of_entry}
use Rattle.dsa_book.specs.Work.{after_take, after_end, progress_list, member_list, in_progress, members}
use Rattle.dsa_book.specs.Work.{note_at, with_running_entry, is_unfinished, note_after, with_first_run, opened_note}
use Rattle.dsa_book.specs.{declared.note.BatchNote.{BatchNote}, Commands.{kept_note, is_among}}
use Rattle.dsa_laws.proofs.{Flows.{names-counted}, Contents.{sum-list-le, sum-without, chain-filtered, chain-empty}}
use Rattle.dsa_laws.proofs.Shapes.{StandsOn, waiting-engine, queues-same, engines-same, shape-change, noted-engine}
use Rattle.dsa_laws.proofs.Shapes.{an_engine, a_taker, IsEngine, IsTaker, on-queue, numbered-engine, running-place}
use Rattle.dsa_laws.proofs.{Shapes.{shape-opening}, Entries.{configs-kept}, Effects.{by_effect}, Batches.{with_none}}
use Rattle.dsa_laws.proofs.Batches.{is_left, with_end, with_member, with_run, by_setup, with_front, sum-two, with_abort}
use Rattle.dsa_laws.specs.WellFormed.{HasShape, NamesOnce, IsWellFormed}
use Rattle.dsa_laws.specs.{Change.{Change}, Engines.{IsAlike, HasLawfulEngines, holds_batch, IsLawfulEngine}}

-- ---- an engine's lists by their numbers

-- what an engine of the device has in progress, and its members
abbrev own_progress : Work → ℕ → List HeldEntry
own_progress w e = chain w.content (progress_list w.setup e)

abbrev own_members : Work → ℕ → List HeldEntry
own_members w e = chain w.content (member_list w.setup e)

-- what a setup says of an engine whose lists and note are these
abbrev LawIn : Setup → Content → List (Option BatchNote) → ℕ → Type 0
LawIn setup content notes e = IsLawfulEngine setup (chain content (progress_list setup e))
    (chain content (member_list setup e)) (get_or notes e None)

abbrev LawAt : Setup → Work → ℕ → Type 0
LawAt setup w e = LawIn setup w.content w.notes e

lists-of : {caps : Caps} (w : Work) (e : ℕ) → IsEngine caps w e → HasLawfulEngines w → LawAt w.setup w e
lists-of w e k h = rw (k.progress, k.members) at (h e)

-- an engine that the device does not have has nothing
of-lists : (caps : Caps) (w : Work) → HasShape caps w → ((e : ℕ) → IsEngine caps w e → LawAt w.setup w e)
    → HasLawfulEngines w
of-lists caps w shape h e = ⊎_elim
    (λ t. let k = an_engine shape e t in rw (k.progress, k.members) (h e k))
    (λ f.
    let none : note_at w e ≡ None = get_or-eq_default w.notes None
    (omega (arith, ltb-false e w.setup.caps.engines f, engines-same shape)) in
    let progress : in_progress w e ≡ [] = rw f refl in
    let members : members w e ≡ [] = rw f refl in
    rw (progress, members, none) (record { no_batch = refl; no_members = refl }))
    (cases_Bool (nat_lt e w.setup.caps.engines))

-- ---- lists and notes that a step sets

-- one engine has changed, or it is another
by_engine : (setup : Setup) (c : Content) (ns : List (Option BatchNote)) (k e : ℕ) → LawIn setup c ns k
    → (e ≢ k → LawIn setup c ns e) → LawIn setup c ns e
by_engine setup c ns k e a b = ⊎_elim (λ q. subst (LawIn setup c ns) (sym q) a) b (cases_eq e k)

-- a list is set that is none of the engine's
set_other : (setup : Setup) (c : Content) (ns ns' : List (Option BatchNote)) (k : ℕ) (l : List HeldEntry) (e : ℕ)
    → progress_list setup e ≢ k → member_list setup e ≢ k → get_or ns' e None ≡ get_or ns e None
    → LawIn setup c ns e → LawIn setup (set c k l) ns' e
set_other setup c ns ns' k l e p m n h =
    rw (get_or-set_other c k (progress_list setup e) l [] p, get_or-set_other c k (member_list setup e) l [] m, n) h

-- the members of an engine are set, with its note
members_set : {caps : Caps} (w : Work) (k e : ℕ) (l : List HeldEntry) (ns : List (Option BatchNote)) (o : Option BatchNote)
    → IsEngine caps w e → IsEngine caps w k
    → get_or ns k None ≡ o → (e ≢ k → get_or ns e None ≡ note_at w e)
    → IsLawfulEngine w.setup (own_progress w k) l o → LawAt w.setup w e
    → LawIn w.setup (set w.content (member_list w.setup k) l) ns e
members_set w k e l ns o i j here other new old =
    let m = member_list w.setup k in
    by_engine w.setup (set w.content m l) ns k e
    (rw (
      get_or-set_other w.content m (progress_list w.setup k) l [] (omega arith),
      get_or-set_same w.content m l [] j.members_inside,
      here,
    ) new)
    (λ n. set_other w.setup w.content w.notes ns m l e (omega arith) (omega arith) (other n) old)

-- ---- an entry ends

-- the lists in which it does not stand stay
other-unlinked : (content : Content) (x : HeldEntry) (i j : ℕ) → use_count content x.0 ≤ 1 → In x (chain content j) → i ≢ j
    → filter (λ s. not (is_cell x.0 s)) (chain content i) ≡ chain content i
unfolding place_count
other-unlinked content x i j once at apart =
    filter-absent x.0 (chain content i) (omega (
      arith,
      sum-two (λ s. cond (is_cell x.0 s) 1 0) content i j apart,
      In-counted (is_cell x.0) x (chain content j) at (eq-eqb x.0.0 x.0.0 refl),
      uses-counted content x.0,
    ))

-- an entry that runs on engine k ends
entry_ended : {caps : Caps} (w : Work) (k e : ℕ) (x : HeldEntry) (outcome : Outcome) → IsEngine caps w k
    → IsEngine caps w e → use_count w.content x.0 ≤ 1 → StandsOn w k x
    → (is_batch_of w.setup x.1 && is_unfinished w k) ≡ false
    → LawAt w.setup w k → LawAt w.setup w e → LawAt w.setup (after_end w k x outcome) e
entry_ended w k e x outcome i j once place ready own old =
    let p : HeldEntry → Bool = λ s. not (is_cell x.0 s) in
    let b = holds_batch w.setup x in
    let note = note_after w k x outcome in
    let apart = λ (l : ℕ) (n : l ≢ place.list). other-unlinked w.content x l place.list once place.at n in
    let empty : b ≡ true → own_members w k ≡ [] = λ t. no-members-left b w k i t ready in
    let below = i.below in
    let inside = j.below in
    by_engine w.setup (after_end w k x outcome).content (after_end w k x outcome).notes k e
    (rw (
      chain-filtered p w.content (progress_list w.setup k),
      chain-filtered p w.content (member_list w.setup k),
      get_or-set_same w.notes k note None i.noted,
    )
    (with_end w.setup p (own_progress w k) (own_members w k) (note_at w k) b
    (is_member x.1 && not (is_successful (status_of_entry w.setup x.1 outcome)))
    (⊎_elim
    (λ (q : place.list ≡ progress_list w.setup k).
    sum-without (λ s. cond (holds_batch w.setup s) 1 0) (is_cell x.0) x (own_progress w k)
    (omega (
      arith,
      uses-counted w.content x.0,
      sum-list-le (λ s. cond (is_cell x.0 s) 1 0) w.content (progress_list w.setup k),
    ))
    (rw q at place.at) (eq-eqb x.0.0 x.0.0 refl))
    (λ (q : place.list ≡ member_list w.setup k).
    let none = false_from_ne_true b (λ t. rw (q, empty t) at place.at) in
    rw (apart (progress_list w.setup k) (omega arith), none) (omega arith))
    place.own)
    empty own))
    (λ n.
    rw (
      chain-filtered p w.content (progress_list w.setup e),
      chain-filtered p w.content (member_list w.setup e),
      apart (progress_list w.setup e) (omega arith),
      apart (member_list w.setup e)
          (omega arith),
      get_or-set_other w.notes k e note None n,
    ) old)
  where
    no-members-left : {caps : Caps} (b : Bool) (w : Work) (k : ℕ) → IsEngine caps w k → b ≡ true
        → (b && is_unfinished w k) ≡ false → own_members w k ≡ []
    no-members-left b w k j t ready =
        length-none (own_members w k) (let is = ap length j.members in grind (arith, nat_tests))

-- ---- each kind

-- a note is set, or stays
note-same : (b : Bool) (ns : List (Option BatchNote)) (k : ℕ) (o : Option BatchNote) → k < length ns
    → get_or (cond b (set ns k o) ns) k None ≡ cond b o (get_or ns k None)
note-same b ns k o i = let is = get_or-set_same ns k o None i in grind arith

-- a front is taken
front_taken : {caps : Caps} (w : Work) (k e q : ℕ) (x : HeldEntry) → IsEngine caps w e → IsTaker caps w k q x
    → w.setup.caps.queues ≡ caps.queues → LawAt w.setup w k → LawAt w.setup w e
    → LawAt w.setup (after_take w k q x) e
front_taken w k e q x i j same own old =
    let rest = drop 1 (chain w.content q) in
    let c1 = without_front w.content q in
    let p = progress_list w.setup k in
    let l = chain c1 p ++ with_running_entry x ∷ [] in
    let b = holds_batch w.setup x in
    let notes = (after_take w k q x).notes in
    let queue : q < w.setup.caps.queues = omega arith in
    let own_below = j.engine.below in
    let below = i.below in
    by_engine w.setup (after_take w k q x).content notes k e
    (rw (
      get_or-set_other c1 p (member_list w.setup k) l [] (omega arith),
      get_or-set_same c1 p l [] (omega (arith, length-set w.content q rest)),
      get_or-set_other w.content q p rest [] (omega arith),
      get_or-set_other w.content q (member_list w.setup k) rest []
          (omega arith),
      note-same b w.notes k (Some (opened_note x.1)) j.engine.noted,
    )
    (with_front w.setup (own_progress w k) (own_members w k) (note_at w k) x b refl j.batches own))
    (λ n. set_other w.setup c1 w.notes notes p l e (omega arith) (omega arith)
    (let same = get_or-set_other w.notes k e (Some (opened_note x.1)) None n in grind arith)
    (set_other w.setup w.content w.notes w.notes q rest e (omega arith) (omega arith) refl old))

-- the entry in progress that has the name of the batch is like each of the batches there
alike-batch : (w : Work) (k : ℕ) (n : BatchNote) (x batch : HeldEntry) → NamesOnce w → IsAlike x batch
    → In batch (own_progress w k) → batch.1.name ≡ n.batch
    → IsLawfulEngine w.setup (own_progress w k) (own_members w k) (Some n) → (b : HeldEntry) → In b (own_progress w k)
    → holds_batch w.setup b ≡ true → IsAlike x b
alike-batch w k n x batch is_among like i is h b j t =
    let named : HeldEntry → Bool = λ pair. pair.1.name == n.batch in
    let most : cond (nat_lt n.batch w.setup.next_name) 1 0 ≤ 1 = grind (arith, nat_tests) in
    let one : count_by named (own_progress w k) ≤ 1 = omega (
      arith,
      names-counted w is_among n.batch,
      sum-list-le (λ s. cond (named s) 1 0) w.content (progress_list w.setup k),
    ) in
    subst (IsAlike x) (In-same named batch b (own_progress w k) one i j (eq-eqb batch.1.name n.batch is)
    (eq-eqb b.1.name n.batch (sym (h.noted b j t).name))) like

lists-change : (caps : Caps) (s s' : State) (e : ℕ) → IsWellFormed caps s → IsEngine caps s.work e → Change s s'
    → LawAt s.work.setup s'.work e
lists-change caps s s' e w i c =
    let queues = queues-same w.shape in
    let old = lists-of s.work e i w.engines in
    by_effect (λ w. LawAt s.work.setup w e) s s' c
    (λ k. rw (k.content, k.notes) old)
    (λ c.
    let inside = on-queue w.shape c.queue c.on in
    set_other s.work.setup s.work.content s.work.notes s.work.notes c.queue _ e (omega arith) (omega arith) refl old)
    (λ c.
    let k = a_taker w.shape c.engine c.queue c.front c.qualifies c.is_front in
    front_taken s.work c.engine e c.queue c.front i k queues (lists-of s.work c.engine k.engine w.engines) old)
    (λ c.
    let k = c.engine in
    let engine = noted-engine w.shape k c.note c.is_note in
    let found = In-find (λ pair. pair.1.name == c.note.batch) c.batch (in_progress s.work k) c.is_batch in
    let here : In c.batch (own_progress s.work k) = rw engine.progress at found.0 in
    let more = Some (record c.note { fetched = c.note.fetched + 1 }) in
    let member : HeldEntry = (
      c.cell,
      record {
        name = s.work.setup.next_name;
        parent = Some c.note.batch;
        desc = with_pasid c.desc c.batch.1.desc.pasid;
        queue = c.batch.1.queue;
        running = false;
      },
    ) in
    let own : IsLawfulEngine s.work.setup (own_progress s.work k) (own_members s.work k) (Some c.note)
    = rw c.is_note at (lists-of s.work k engine w.engines) in
    let like : IsAlike member c.batch =
    record { queue = refl; pasid = w.entries.pasids (progress_list s.work.setup k) c.batch here } in
    members_set s.work k e (own_members s.work k ++ member ∷ []) (set s.work.notes k more) more i engine
    (get_or-set_same s.work.notes k more None engine.noted) (get_or-set_other s.work.notes k e more None)
    (with_member s.work.setup (own_progress s.work k) (own_members s.work k) c.note member refl
    (alike-batch s.work k c.note member c.batch w.names like here
    (eqb-true c.batch.1.name c.note.batch found.1) own) own)
    old)
    (λ c.
    let k = c.engine in
    let engine = waiting-engine w.shape k c.pair c.is_first in
    members_set s.work k e (with_first_run (members s.work k)) s.work.notes (note_at s.work k) i engine refl (λ n. refl)
    (with_run s.work.setup (own_progress s.work k) (members s.work k) (note_at s.work k)
    (rw engine.progress at (w.engines k))) old)
    (λ c.
    let k = c.engine in
    let engine = waiting-engine w.shape k c.pair c.is_first in
    let closed = option_map (λ (note : BatchNote). record note { closed = true })
    (note_at s.work k) in
    members_set s.work k e [] _ closed i engine
    (get_or-set_same s.work.notes k closed None engine.noted) (get_or-set_other s.work.notes k e closed None)
    (with_none s.work.setup (own_progress s.work k) (own_members s.work k) (note_at s.work k)
    (lists-of s.work k engine w.engines)) old)
    (λ c.
    let k = c.engine in
    let place = running-place s.work k c.ticket c.pair c.is_found in
    let engine = an_engine w.shape k place.there in
    entry_ended s.work k e c.pair c.outcome engine i (w.cells.once c.pair.0) place
    (or_parts _ _ c.ready).0 (lists-of s.work k engine w.engines) old)
    (λ c.
    let p = is_left c.scope in
    rw (
      chain-filtered p s.work.content (progress_list s.work.setup e),
      chain-filtered p s.work.content (member_list s.work.setup e),
      get_or-each (λ k. kept_note s.work.setup c.scope (own_progress s.work k) (note_at s.work k))
          s.work.setup.caps.engines e None i.below,
    )
    (with_abort c.scope s.work.setup (own_progress s.work e) (own_members s.work e) (note_at s.work e) old))

pub engines-change : (caps : Caps) (s s' : State) → IsWellFormed caps s → Change s s' → HasLawfulEngines s'.work
engines-change caps s s' w c =
    let after = shape-change caps s s' w.shape c in
    of-lists caps s'.work after (λ e k.
    subst (λ c. IsLawfulEngine s'.work.setup (chain s'.work.content (c.queues + e))
    (chain s'.work.content (c.queues + c.engines + e)) (note_at s'.work e)) (w.shape.same_caps ∙ sym after.same_caps)
    (by_setup s.work.setup s'.work.setup (chain s'.work.content (progress_list s.work.setup e))
    (chain s'.work.content (member_list s.work.setup e)) (note_at s'.work e)
    (λ x i. ap (λ c. is_lawful_batch x.1.desc (limits_of_queue c) (is_member x.1))
    (configs-kept caps s s' w c (progress_list s.work.setup e) x i))
    (lists-change caps s s' e w (numbered-engine w.shape e k.inside) c)))

pub engines-opening : (caps : Caps) → HasLawfulEngines (opening caps).work
engines-opening caps = of-lists caps (opening caps).work (shape-opening caps) (λ e k.
    rw (
      chain-empty (list_count caps) (caps.queues + e),
      chain-empty (list_count caps) (caps.queues + caps.engines + e),
      get_or-replicated {X = Option BatchNote} None caps.engines e,
    )
    (record { no_batch = refl; no_members = refl }))
