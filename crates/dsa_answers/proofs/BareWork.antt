-- What an engine sees of its lists, where each cell is 0.
use Rattle.std.proofs.Common.{◌≡◌, ℕ, Bool, true, false, not, cond, ◌&&◌, List, [], ◌++◌, map, Option, Some, None, refl, sym, ap}
use Rattle.std.proofs.{Common.{◌∙◌}, lemmas.{List.{map-append, length-map}, Option.{slice_get-map}}, Math.Path.{fun_ext}}
use Rattle.std.specs.{Prelude.{filter, find, sum_by, option_map, nat_lt, slice_get, ◌==◌}}
use Rattle.dsa_base.specs.{Rows.{passes}, Numbers.{has, numbers_below}}
use Rattle.dsa_regs.specs.{Config.{group_at}, Buffers.{fits}}
use Rattle.dsa_store.specs.{declared.entry.Entry.{Entry}, Content.{HeldEntry, Content, chain, all_held}}
use Rattle.dsa_book.specs.State.{Work, is_drain_of, need_of, held_by, any_in, holds_any}
use Rattle.dsa_book.specs.declared.note.BatchNote.{BatchNote}
use Rattle.dsa_book.specs.Work.{in_progress, members, running_on, used_on, used, all_used, has_room, group_of_engine}
use Rattle.dsa_book.specs.Work.{progress_list, member_list, is_draining, may_take, front_of, qualifies, serves}
use Rattle.dsa_book.specs.Work.{batch_on, first_waiting, waits_for, must_wait}
use Rattle.dsa_answers.proofs.Bare.{bare, bare_content, chain-bare, all_held-bare, filter-map, find-map, any-map, sum-map}

-- the work, where each cell is 0 and no fate is written down
abbrev pub bare_work : Work → Work
bare_work w = record w { content = bare_content w.content; fates = [] }

-- ---- the lists of an engine

own-bare : (b : Bool) (c : Content) (i : ℕ) → cond b (chain (bare_content c) i) [] ≡ map bare (cond b (chain c i) [])
own-bare true c i = chain-bare c i
own-bare false c i = refl

pub progress-bare : (w : Work) (e : ℕ) → in_progress (bare_work w) e ≡ map bare (in_progress w e)
progress-bare w e = own-bare (nat_lt e w.setup.caps.engines) w.content (progress_list w.setup e)

pub members-bare : (w : Work) (e : ℕ) → members (bare_work w) e ≡ map bare (members w e)
members-bare w e = own-bare (nat_lt e w.setup.caps.engines) w.content (member_list w.setup e)

both-bare : (w : Work) (e : ℕ) → in_progress (bare_work w) e ++ members (bare_work w) e
    ≡ map bare (in_progress w e ++ members w e)
both-bare w e = rw (progress-bare w e, members-bare w e) (sym (map-append bare (in_progress w e) (members w e)))

pub running-bare : (w : Work) (e : ℕ) → running_on (bare_work w) e ≡ map bare (running_on w e)
running-bare w e = ap (filter (λ pair. pair.1.running)) (both-bare w e)
    ∙ filter-map bare (λ pair. pair.1.running) (in_progress w e ++ members w e)

-- ---- read buffers

used_on-bare : (w : Work) (e : ℕ) → used_on (bare_work w) e ≡ used_on w e
used_on-bare w e = ap (sum_by (λ pair. held_by w.setup pair.1)) (both-bare w e)
    ∙ sum-map bare (λ pair. held_by w.setup pair.1) (in_progress w e ++ members w e)

used-bare : (w : Work) (g : ℕ) → used (bare_work w) g ≡ used w g
used-bare w g = ap (λ (f : ℕ → ℕ). sum_by f
    (filter (has (group_at w.setup.groups g).engines) (numbers_below w.setup.caps.engines))) (fun_ext (used_on-bare w))

all_used-bare : (w : Work) → all_used (bare_work w) ≡ all_used w
all_used-bare w = ap (λ (f : ℕ → ℕ). map f (numbers_below w.setup.caps.groups)) (fun_ext (used-bare w))

pub room-bare : (w : Work) (e n : ℕ) → has_room (bare_work w) e n ≡ has_room w e n
room-bare w e n = ap (λ (u : List ℕ). passes (λ g. fits w.setup.caps.read_buffers w.setup.groups u g n)
    (group_of_engine w e)) (all_used-bare w)

-- ---- the front of a queue

pub front-bare : (w : Work) (q : ℕ) → front_of (bare_work w) q ≡ option_map bare (front_of w q)
front-bare w q = ap (λ (l : List HeldEntry). slice_get l 0) (chain-bare w.content q)
    ∙ slice_get-map bare (chain w.content q) 0

draining-bare : (w : Work) (e : ℕ) → is_draining (bare_work w) e ≡ is_draining w e
draining-bare w e = ap (any_in (is_drain_of w.setup)) (progress-bare w e)
    ∙ any-map bare (λ pair. is_drain_of w.setup pair.1) (in_progress w e)

pub take-bare : (w : Work) (e : ℕ) (front : HeldEntry) → may_take (bare_work w) e (bare front) ≡ may_take w e front
take-bare w e front = rw (
  draining-bare w e,
  progress-bare w e,
  length-map (in_progress w e) bare,
  room-bare w e (need_of w.setup front.1),
) refl

pub qualifies-bare : (w : Work) (e q : ℕ) → qualifies (bare_work w) e q ≡ qualifies w e q
qualifies-bare w e q = ap (λ b. (nat_lt e w.setup.caps.engines && nat_lt q w.setup.caps.queues) && (serves w e q && b))
    (ap (passes (may_take (bare_work w) e)) (front-bare w q) ∙ go (front_of w q))
  where
    go : (o : Option HeldEntry) → passes (may_take (bare_work w) e) (option_map bare o) ≡ passes (may_take w e) o
    go None = refl
    go (Some front) = take-bare w e front

-- ---- the batch and its members

pub batch-bare : (w : Work) (e : ℕ) (note : BatchNote)
    → batch_on (bare_work w) e note ≡ option_map bare (batch_on w e note)
batch-bare w e note = ap (find (λ pair. pair.1.name == note.batch)) (progress-bare w e)
    ∙ find-map bare (λ pair. pair.1.name == note.batch) (in_progress w e)

pub waiting-bare : (w : Work) (e : ℕ) → first_waiting (bare_work w) e ≡ option_map bare (first_waiting w e)
waiting-bare w e = ap (find (λ pair. not pair.1.running)) (members-bare w e)
    ∙ find-map bare (λ pair. not pair.1.running) (members w e)

-- ---- all entries

pub holds-bare : (test : Entry → Bool) (c : Content) → holds_any test (bare_content c) ≡ holds_any test c
holds-bare test c = ap (any_in test) (all_held-bare c) ∙ any-map bare (λ pair. test pair.1) (all_held c)

pub must_wait-bare : (w : Work) (e : ℕ) (entry : Entry) → must_wait (bare_work w) e entry ≡ must_wait w e entry
must_wait-bare w e entry = rw (
  members-bare w e,
  length-map (members w e) bare,
  holds-bare (waits_for entry) w.content,
) refl
