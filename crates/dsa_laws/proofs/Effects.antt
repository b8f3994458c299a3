-- What changes do, in eight kinds by what is held and in nine by the set-up: each law says what these mean for it.
use Rattle.std.proofs.Common.{◌≡◌, ◌==◌, ◌<◌, Bool, true, false, not, cond, ℕ, ap}
use Rattle.std.{proofs.Common.{◌+◌, Option, Some, None, List, [], ◌∷◌, length, refl, subst}, specs.Prelude.{slice_set}}
use Rattle.dsa_regs.specs.declared.{Phase.{Phase, TheVariants.{Off, On, Stopping}}, Deed.{Deed, TheVariants.{Disable}}}
use Rattle.dsa_regs.specs.declared.{QueueConfig.{QueueConfig}, Scope.{Scope, TheVariants.{Device}}}
use Rattle.dsa_regs.specs.{Config.{queue_at, zero_queue}, Command.{queues_in, deed_of, scope_of, number_of_command}}
use Rattle.dsa_base.proofs.NumberLists.{get_or-each}
use Rattle.dsa_store.specs.Content.{only_where}
use Rattle.dsa_book.specs.State.{Setup, Work, State, holds_any}
use Rattle.dsa_book.specs.{Submit.{after_accept}, declared.answer.NotedError.{NotedError}}
use Rattle.dsa_book.specs.declared.note.ActiveCommand.{ActiveCommand}
use Rattle.dsa_book.specs.Work.{members, after_take, after_fetch, after_start, after_abandon, after_end}
use Rattle.dsa_book.specs.Commands.{after_stop, with_device, with_phases, with_sizes_alone, size_alone, may_come}
use Rattle.dsa_book.specs.Commands.{is_among, after_abort, count_in_scope, reset, is_awaited, is_in_scope}
use Rattle.dsa_book.specs.Machine.{intake_of, with_intake}
use Rattle.dsa_laws.specs.Change.{IsEnded, IsAbandoned, Change, is_fetched, IsStarted, is_cleared, is_reset, stopped}
use Rattle.dsa_laws.specs.Change.{is_abandoned, is_ended, IsGroupWritten, IsTaken, is_noted, is_started}
use Rattle.dsa_laws.specs.Change.{is_device_enabled, is_waiting, is_taken, IsQueueEnabled, same, IsAccepted, is_over}
use Rattle.dsa_laws.specs.Change.{is_accepted, IsDeviceEnabled, IsFetched, is_aborted, is_queue_enabled}
use Rattle.dsa_laws.specs.Change.{is_queue_written, is_group_written, IsQueueWritten}

-- ---- what a disable sets

-- but for the phases of the device and its queues the set-up stays
pub record HasOtherPhases (setup setup' : Setup) : Type 0 where
  pub caps : setup'.caps ≡ setup.caps
  pub configs : setup'.configs ≡ setup.configs
  pub groups : setup'.groups ≡ setup.groups
  pub names : setup'.next_name ≡ setup.next_name

pub stopped-keeps : (deed : Deed) (scope : Scope) (phase : Phase) (setup : Setup)
    → HasOtherPhases setup (after_stop deed scope phase setup)
stopped-keeps Disable Device phase setup = record { caps = refl; configs = refl; groups = refl; names = refl }
stopped-keeps Disable scope phase setup = record { caps = refl; configs = refl; groups = refl; names = refl }
stopped-keeps _ scope phase setup = record { caps = refl; configs = refl; groups = refl; names = refl }

-- a disable or a drain that waits
pub record Waits (s : State) : Type 0 where
  pub deed : Deed
  pub scope : Scope
  pub may : may_come s.work.setup deed scope ≡ true

-- one that is over
pub record Stops (s s' : State) : Type 0 where
  pub deed : Deed
  pub scope : Scope
  pub mark : ℕ
  pub over : not (holds_any (is_awaited deed scope mark) s.work.content) ≡ true
  pub content : s.work.content ≡ s'.work.content

-- ---- what a reset sets

-- what it leaves of the entries
abbrev pub IsLeft : State → State → Scope → Type 0
IsLeft s s' scope = only_where (λ entry. not (is_in_scope scope entry)) s.work.content ≡ s'.work.content

-- neither the capabilities nor the names are reset
pub reset-same : (scope : Scope) (setup : Setup)
    → ((reset scope setup).caps ≡ setup.caps) × ((reset scope setup).next_name ≡ setup.next_name)
reset-same Device setup = (refl, refl)
reset-same scope setup = (refl, refl)

-- each configuration is as it was, or its size alone is left
pub reset-config : (setup : Setup) (queues : List ℕ) (q : ℕ) → q < setup.caps.queues
    → queue_at (with_sizes_alone queues setup).configs q ≡ cond (is_among queues q)
    (size_alone (queue_at setup.configs q)) (queue_at setup.configs q)
reset-config setup queues q i =
    get_or-each (λ k. cond (is_among queues k) (size_alone (queue_at setup.configs k))
    (queue_at setup.configs k)) setup.caps.queues q zero_queue i

pub reset-size : (b : Bool) (c : QueueConfig) → (cond b (size_alone c) c).size ≡ c.size
reset-size true c = refl
reset-size false c = refl

-- ---- by what is held

-- nothing but the set-up has changed, and of that neither the capabilities nor the names
pub record IsSetUp (w w' : Work) : Type 0 where
  pub content : w'.content ≡ w.content
  pub notes : w'.notes ≡ w.notes
  pub fates : w'.fates ≡ w.fates
  pub caps : w'.setup.caps ≡ w.setup.caps
  pub names : w'.setup.next_name ≡ w.setup.next_name

-- what a command has in its scope is gone; a reset sets up too
pub record IsRemoved (w : Work) : Type 0 where
  pub number : ℕ
  pub scope : Scope
  pub setup : Setup
  pub caps : setup.caps ≡ w.setup.caps
  pub names : setup.next_name ≡ w.setup.next_name

-- what is left then
abbrev pub removed : (w : Work) → IsRemoved w → Work
removed w c = record (after_abort c.number c.scope w) { setup = c.setup }

-- the parents of the entries that come in by a change: an accepted one has none, a member has its batch
abbrev pub came : {s s' : State} → Change s s' → List (Option ℕ)
came (is_accepted c) = None ∷ []
came (is_fetched c) = Some c.note.batch ∷ []
came _ = []

-- how many entries it gives a fate
abbrev pub gone : {s s' : State} → Change s s' → ℕ
gone {s} (is_abandoned c) = length (members s.work c.engine)
gone (is_ended c) = 1
gone {s} (is_aborted c) = count_in_scope (scope_of c.command) s.work.content
gone {s} (is_reset c) = count_in_scope (scope_of c.command) s.work.content
gone _ = 0

-- what is to be seen of each kind for a fact of what a change leaves, of what comes in and of how many are gone
abbrev pub ByEffect : (List (Option ℕ) → ℕ → Work → Type 0) → State → State → Type 0 → Type 0
ByEffect P s s' goal = (IsSetUp s.work s'.work → P [] 0 s'.work)
    → ((c : IsAccepted s s') → P (None ∷ []) 0 (with_intake s
    (after_accept (intake_of s) c.queue c.kind c.desc c.cell).1).work)
    → ((c : IsTaken s s') → P [] 0 (after_take s.work c.engine c.queue c.front))
    → ((c : IsFetched s s') → P (Some c.note.batch ∷ []) 0
    (after_fetch s.work c.engine c.desc c.cell c.note c.batch.1).1)
    → ((c : IsStarted s s') → P [] 0 (after_start s.work c.engine))
    → ((c : IsAbandoned s s') → P [] (length (members s.work c.engine)) (after_abandon s.work c.engine))
    → ((c : IsEnded s s') → P [] 1 (after_end s.work c.engine c.pair c.outcome))
    → ((c : IsRemoved s.work) → P [] (count_in_scope c.scope s.work.content) (removed s.work c))
    → goal

-- so it holds
pub by_count : (P : List (Option ℕ) → ℕ → Work → Type 0) (s s' : State) (c : Change s s')
    → ByEffect P s s' (P (came c) (gone c) s'.work)
by_count P s s' c set accept take fetch start abandon end remove = go c
  where
    is_set : (t : State) → t ≡ s' → IsSetUp s.work t.work → P [] 0 s'.work
    is_set t e h = set (subst (λ t. IsSetUp s.work t.work) e h)

    kept : (setup : Setup) → setup.caps ≡ s.work.setup.caps → setup.next_name ≡ s.work.setup.next_name
        → IsSetUp s.work (record s.work { setup = setup })
    kept setup caps is_among = record { content = refl; notes = refl; fates = refl; caps = caps; names = is_among }

    stops : (active : ActiveCommand) (phase : Phase)
        → IsSetUp s.work (record s.work { setup = stopped phase active s.work.setup })
    stops active phase =
        let stop = stopped-keeps (deed_of active.command) (scope_of active.command) phase s.work.setup in
        kept _ stop.caps stop.names

    at : {xs : List (Option ℕ)} {n : ℕ} (t : State) → t ≡ s' → P xs n t.work → P xs n s'.work
    at {xs} {n} t e p = subst (λ t. P xs n t.work) e p

    is_removed : (number : ℕ) (scope : Scope) (setup : Setup) → setup.caps ≡ s.work.setup.caps
        → setup.next_name ≡ s.work.setup.next_name
        → P [] (count_in_scope scope s.work.content) (record (after_abort number scope s.work) { setup = setup })
    is_removed number scope setup caps is_among =
        remove (record { number = number; scope = scope; setup = setup; caps = caps; names = is_among })

    go : (c : Change s s') → P (came c) (gone c) s'.work
    go (same e) = is_set s e (kept s.work.setup refl refl)
    go (is_noted c) = is_set _ c.after (kept _ refl refl)
    go (is_cleared c) = is_set _ c.after (kept _ refl refl)
    go (is_accepted c) = at _ c.after (accept c)
    go (is_taken c) = at _ c.after (take c)
    go (is_fetched c) = at _ c.after (fetch c)
    go (is_started c) = at _ c.after (start c)
    go (is_abandoned c) = at _ c.after (abandon c)
    go (is_ended c) = at _ c.after (end c)
    go (is_device_enabled c) = is_set _ c.after (kept _ refl refl)
    go (is_queue_enabled c) = is_set _ c.after (kept _ refl refl)
    go (is_waiting c) = is_set _ c.after (stops c.active Stopping)
    go (is_over c) = is_set _ c.after (stops c.active Off)
    go (is_aborted c) =
        at _ c.after (is_removed (number_of_command c.command) (scope_of c.command) s.work.setup refl refl)
    go (is_reset c) =
        let scope = scope_of c.command in
        let same = reset-same scope s.work.setup in
        at _ c.after (is_removed (number_of_command c.command) scope _ same.0 same.1)
    go (is_queue_written c) = is_set _ c.after (kept _ refl refl)
    go (is_group_written c) = is_set _ c.after (kept _ refl refl)

-- the same of a fact of what it leaves alone
pub by_effect : (P : Work → Type 0) (s s' : State) → Change s s' → ByEffect (λ xs n. P) s s' (P s'.work)
by_effect P = by_count (λ xs n. P)

-- ---- by the set-up

-- the device, its queues and its groups are as they were
pub record IsUnmoved (setup setup' : Setup) : Type 0 where
  pub caps : setup'.caps ≡ setup.caps
  pub configs : setup'.configs ≡ setup.configs
  pub groups : setup'.groups ≡ setup.groups
  pub phases : setup'.phases ≡ setup.phases
  pub device : setup'.device ≡ setup.device

-- a fact of the set-up that a change leaves
pub by_setting : (P : Setup → Type 0) (s s' : State) → Change s s'
    → (IsUnmoved s.work.setup s'.work.setup → P s'.work.setup)
    → (IsDeviceEnabled s s' → P (with_device On s.work.setup))
    → ((c : IsQueueEnabled s s') → P (with_phases (λ each. each == c.queue) On s.work.setup))
    → ((c : Waits s) → P (after_stop c.deed c.scope Stopping s.work.setup))
    → ((c : Stops s s') → P (after_stop c.deed c.scope Off s.work.setup))
    → (IsLeft s s' Device → P (reset Device s.work.setup))
    → ((scope : Scope) → IsLeft s s' scope → P (with_sizes_alone (queues_in scope)
    (with_phases (is_among (queues_in scope)) Off s.work.setup)))
    → ((c : IsQueueWritten s s') → P
    (record s.work.setup { configs = slice_set s.work.setup.configs c.queue c.config }))
    → ((c : IsGroupWritten s s') → P (record s.work.setup { groups = slice_set s.work.setup.groups c.group c.config }))
    → P s'.work.setup
by_setting P s s' c stay device queue wait over zero resets write group = go c
  where
    stays : (t : State) → t ≡ s' → IsUnmoved s.work.setup t.work.setup → P s'.work.setup
    stays t e h = stay (subst (λ t. IsUnmoved s.work.setup t.work.setup) e h)

    unmoved : (name : ℕ) (noted : Option NotedError) → IsUnmoved s.work.setup
        (record s.work.setup { next_name = name; noted = noted })
    unmoved name noted = record { caps = refl; configs = refl; groups = refl; phases = refl; device = refl }

    still : IsUnmoved s.work.setup s.work.setup
    still = unmoved s.work.setup.next_name s.work.setup.noted

    one_more : IsUnmoved s.work.setup (record s.work.setup { next_name = s.work.setup.next_name + 1 })
    one_more = unmoved (s.work.setup.next_name + 1) s.work.setup.noted

    at : (t : State) → t ≡ s' → P t.work.setup → P s'.work.setup
    at t e p = subst (λ t. P t.work.setup) e p

    by_scope : (scope : Scope) → IsLeft s s' scope → P (reset scope s.work.setup)
    by_scope Device gone = zero gone
    by_scope scope gone = resets scope gone

    go : Change s s' → P s'.work.setup
    go (same e) = stays s e still
    go (is_noted c) = stays _ c.after (unmoved s.work.setup.next_name _)
    go (is_cleared c) = stays _ c.after (unmoved s.work.setup.next_name None)
    go (is_accepted c) = stays _ c.after one_more
    go (is_taken c) = stays _ c.after still
    go (is_fetched c) = stays _ c.after one_more
    go (is_started c) = stays _ c.after still
    go (is_abandoned c) = stays _ c.after still
    go (is_ended c) = stays _ c.after still
    go (is_device_enabled c) = at _ c.after (device c)
    go (is_queue_enabled c) = at _ c.after (queue c)
    go (is_waiting c) = at _ c.after (wait (record {
      deed = deed_of c.active.command;
      scope = scope_of c.active.command;
      may = c.begun.granted.phases;
    }))
    go (is_over c) = at _ c.after (over (record {
      deed = deed_of c.active.command;
      scope = scope_of c.active.command;
      mark = c.active.mark;
      over = c.over;
      content = ap (λ t. t.work.content) c.after;
    }))
    go (is_aborted c) = stays _ c.after still
    go (is_reset c) = at _ c.after (by_scope (scope_of c.command) (ap (λ t. t.work.content) c.after))
    go (is_queue_written c) = at _ c.after (write c)
    go (is_group_written c) = at _ c.after (group c)
