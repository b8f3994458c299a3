-- No list grows past its limit.
use Rattle.std.proofs.lemmas.{Bool.{leb-false, Decides.{nat_tests}, cases_eq}, List.{get_or-set_other, length-drop}}
use Rattle.std.proofs.Common.{length, map, set, Some, None, refl, sym, ap, ◌∙◌, subst, arith, ⊎_elim}
use Rattle.std.proofs.Common.{drop, ◌≡◌, ℕ, ◌+◌, ◌<◌, ◌≤◌, not, Bool, true, false, List, [], length-append, ◌^◌, Option}
use Rattle.std.specs.Prelude.{filter}
use Rattle.dsa_base.proofs.{Lists.{none-In}, Counts.{length-filter-le}, Tables.{not-both, no-row}}
use Rattle.dsa_regs.specs.declared.{Phase.TheVariants.{Off, Stopping}, Caps.{Caps}, QueueConfig.{QueueConfig}}
use Rattle.dsa_regs.specs.{declared.GroupConfig.{GroupConfig}, Caps.{list_count}, Command.{queues_in}}
use Rattle.dsa_regs.specs.Config.{queue_at, check_queue, queue_table, zero_queue}
use Rattle.dsa_store.specs.Content.{HeldEntry, Content, chain, without_front}
use Rattle.dsa_book.{proofs.Phases.{on-not_off}, specs.Work.{progress_list, member_list, in_progress, members, note_at}}
use Rattle.dsa_book.specs.{Submit.{limit_of}, State.{Work, State, opening, is_off, phase_at}, Commands.{is_among}}
use Rattle.dsa_book.specs.declared.{event.Portal.{TheVariants.{Limited, Unlimited}, Portal}, note.BatchNote.{BatchNote}}
use Rattle.dsa_laws.proofs.{Entries.{In-left}, Contents.{each-place, chain-filtered, In-filtered, chain-empty}}
use Rattle.dsa_laws.proofs.Shapes.{queues-same, engines-same, on-queue, progress-at, a_taker}
use Rattle.dsa_laws.proofs.Effects.{by_effect, by_setting, stopped-keeps, reset-config, reset-size}
use Rattle.dsa_laws.specs.{Change.{Change}, Engines.{IsLawfulEngine, HasLawfulEngines}}
use Rattle.dsa_laws.specs.WellFormed.{HasShape, HasLawfulEntries, IsWithinLimits, NoteFits, NotesFit, IsWellFormed}

-- ---- lengths of lists

size-without_front : (c : Content) (k j : ℕ) → length (chain (without_front c k) j) ≤ length (chain c j)
size-without_front c k = each-place (λ j l. length l ≤ length (chain c j)) [] c k (drop 1 (chain c k))
    (λ j. omega arith) (omega (arith, length-drop 1 (chain c k)))

pub size-filtered : (p : HeldEntry → Bool) (c : Content) (j : ℕ) → length (chain (map (filter p) c) j) ≤ length (chain c j)
size-filtered p c j = rw chain-filtered (length-filter-le p (chain c j))

-- ---- what a check says

-- the limit of a portal is within the size
pub limit-le : (caps : Caps) (groups : List GroupConfig) (q : ℕ) (config : QueueConfig) (portal : Portal)
    → check_queue caps groups q config ≡ None → limit_of config portal ≤ config.size
limit-le caps groups q config Unlimited h = omega arith
limit-le caps groups q config Limited h =
    let threshold = (no-row (queue_table caps groups q config) h).1.1.1.1.0 in
    grind (arith, nat_tests)

-- ---- limits

-- a list is no longer than its queue's size, or than the slots of an engine, by its number
pub record IsFit (caps : Caps) (configs : List QueueConfig) (list : ℕ) (slots : List HeldEntry) : Type 0 where
  pub queue : list < caps.queues → length slots ≤ (queue_at configs list).size
  pub progress : (e : ℕ) → list ≡ caps.queues + e → e < caps.engines → length slots ≤ caps.slots

-- each list is
abbrev pub ListsFit : Caps → List QueueConfig → Content → Type 0
ListsFit caps configs content = (list : ℕ) → IsFit caps configs list (chain content list)

-- of a work's lists, by its configuration
abbrev pub Fitting : Caps → Work → Type 0
Fitting caps w = ListsFit caps w.setup.configs w.content

pub lists-fit : (caps : Caps) (w : Work) → HasShape caps w → IsWithinLimits caps w → Fitting caps w
lists-fit caps w shape h k = record {
  queue = h.queues k;
  progress = λ e is i. rw (is, ← progress-at shape e i) (h.slots e i);
}

-- with members that are no more than were fetched, and these than a batch may have
pub of-lists_fit : (caps : Caps) (w : Work) → HasShape caps w → Fitting caps w → NotesFit caps w → HasLawfulEngines w
    → IsWithinLimits caps w
of-lists_fit caps w shape h notes engines = record {
  queues = λ q. (h q).queue;
  slots = λ e i. rw (progress-at shape e i) ((h (caps.queues + e)).progress e refl i);
  members = λ e i. few e (note_at w e) (notes e) (engines e);
}
  where
    few : (e : ℕ) (o : Option BatchNote) → NoteFits caps o → IsLawfulEngine w.setup (in_progress w e) (members w e) o
        → length (members w e) ≤ 2 ^ caps.max_batch_shift
    few e None fits law = rw law.no_members (omega arith)
    few e (Some note) fits law = omega arith

-- lists that are no longer
shorter : (caps : Caps) (configs : List QueueConfig) (c c' : Content) → ListsFit caps configs c
    → ((k : ℕ) → length (chain c' k) ≤ length (chain c k)) → ListsFit caps configs c'
shorter caps configs c c' h lists k = record {
  queue = λ i. omega (arith, (h k).queue i, lists k);
  progress = λ e is i. omega (arith, (h k).progress e is i, lists k);
}

off-empty : (caps : Caps) (w : Work) (q : ℕ) → HasLawfulEntries caps w → q < caps.queues
    → is_off (phase_at w.setup q) ≡ true → chain w.content q ≡ []
off-empty caps w q h i off = none-In (chain w.content q) (λ x j.
    not-both (is_off (phase_at w.setup q)) off (rw ((h.placed q x j).queue i) at (h.none_off q x j)))

-- the lists after a change, at the sizes before it
lists-effect : (caps : Caps) (s s' : State) → IsWellFormed caps s → Change s s'
    → ListsFit caps s.work.setup.configs s'.work.content
lists-effect caps s s' w c = by_effect (λ w. ListsFit caps s.work.setup.configs w.content) s s' c
    (λ e. subst (ListsFit caps s.work.setup.configs) (sym e.content) h)
    (λ c.
    let config = queue_at s.work.setup.configs c.queue in
    set-fit s.work.content c.queue _ h
    (λ i. omega (
      arith,
      leb-false (limit_of config c.portal) (length (chain s.work.content c.queue)) c.below,
      limit-le s.work.setup.caps s.work.setup.groups c.queue config c.portal
          (w.setup.queue c.queue (on-not_off _ c.on)),
      length-append {A = HeldEntry},
    ))
    (λ e is. absurd (omega (arith, on-queue w.shape c.queue c.on))))
    (λ c.
    let k = a_taker w.shape c.engine c.queue c.front c.qualifies c.is_front in
    let front = without_front s.work.content c.queue in
    let there = size-without_front s.work.content c.queue in
    set-fit front (progress_list s.work.setup c.engine) _
    (shorter caps s.work.setup.configs s.work.content front h there)
    (λ i. absurd (omega (arith, queues-same w.shape)))
    (λ e is i. omega (
      arith,
      ap length k.engine.progress,
      there (progress_list s.work.setup c.engine),
      length-append {A = HeldEntry},
    )))
    (λ c. members_set c.engine _)
    (λ c. members_set c.engine _)
    (λ c. members_set c.engine _)
    (λ c. shorter caps s.work.setup.configs s.work.content _ h (size-filtered _ s.work.content))
    (λ c. shorter caps s.work.setup.configs s.work.content _ h (size-filtered _ s.work.content))
  where
    h : Fitting caps s.work
    h = lists-fit caps s.work w.shape w.limits

    set-fit : (content : Content) (k : ℕ) (l : List HeldEntry) → ListsFit caps s.work.setup.configs content
        → (k < caps.queues → length l ≤ (queue_at s.work.setup.configs k).size)
        → ((e : ℕ) → k ≡ caps.queues + e → e < caps.engines → length l ≤ caps.slots)
        → ListsFit caps s.work.setup.configs (set content k l)
    set-fit content k l h queue progress = each-place (IsFit caps s.work.setup.configs) [] content k l h
        (record { queue = queue; progress = progress })

    members_set : (e : ℕ) (l : List HeldEntry)
        → ListsFit caps s.work.setup.configs (set s.work.content (member_list s.work.setup e) l)
    members_set e l =
        let a = queues-same w.shape in
        let b = engines-same w.shape in
        set-fit s.work.content (member_list s.work.setup e) l h
        (λ i. absurd (omega arith)) (λ i is j. absurd (omega arith))

pub lists_fit-change : (caps : Caps) (s s' : State) → IsWellFormed caps s → Change s s' → Fitting caps s'.work
lists_fit-change caps s s' w c =
    by_setting (λ setup. ListsFit caps setup.configs s'.work.content) s s' c
    (λ e. rw e.configs h)
    (λ c. h)
    (λ c. h)
    (λ c. rw (stopped-keeps c.deed c.scope Stopping s.work.setup).configs h)
    (λ c. rw (stopped-keeps c.deed c.scope Off s.work.setup).configs h)
    (λ left k.
    let none = none-In (chain s'.work.content k)
    (λ x i. not-both false (In-filtered (λ pair. not true) s.work.content k x (In-left left k x i)).1 refl) in
    record { queue = λ i. rw none (omega arith); progress = λ e is i. rw none (omega arith) })
    (λ scope left.
    let qs = queues_in scope in
    resized (λ q i. ap (λ c. c.size) (reset-config s.work.setup qs q (omega (arith, queues-same w.shape)))
    ∙ reset-size (is_among qs q) (queue_at s.work.setup.configs q)))
    (λ c q. record {
      queue = λ i. ⊎_elim
          (λ e. omega (
            arith,
            ap length (off-empty caps s.work q w.entries i (rw e c.off)),
            ap (λ t. length (chain t.work.content q)) c.after,
          ))
          (λ e. omega (
            arith,
            (h q).queue i,
            ap (λ c. c.size) (get_or-set_other s.work.setup.configs c.queue q c.config zero_queue e),
          ))
          (cases_eq q c.queue);
      progress = (h q).progress;
    })
    (λ c. h)
  where
    h : ListsFit caps s.work.setup.configs s'.work.content
    h = lists-effect caps s s' w c

    resized : {configs : List QueueConfig}
        → ((q : ℕ) → q < caps.queues → (queue_at configs q).size ≡ (queue_at s.work.setup.configs q).size)
        → ListsFit caps configs s'.work.content
    resized sizes q = record { queue = λ i. omega (arith, (h q).queue i, sizes q i); progress = (h q).progress }

pub lists_fit-opening : (caps : Caps) → Fitting caps (opening caps).work
lists_fit-opening caps k = record {
  queue = λ i. omega (arith, ap length (chain-empty (list_count caps) k));
  progress = λ e is i. omega (arith, ap length (chain-empty (list_count caps) k));
}
