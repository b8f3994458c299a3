-- The tests of the machine give the same at two states that are alike.
use Rattle.std.proofs.Common.{◌≡◌, ℕ, cond, ◌&&◌, ◌||◌, not, [], ◌++◌, map, filter, Option}
use Rattle.std.proofs.Common.{Some, None, refl, sym, ap, ◌∙◌, subst}
use Rattle.std.specs.Prelude.{nat_lt, is_none, sum_by, slice_get, option_map}
use Rattle.dsa_base.specs.{Rows.{passes}, Numbers.{has, numbers_below}}
use Rattle.dsa_regs.specs.{Config.{group_at}, Buffers.{fits}}
use Rattle.dsa_desc.specs.Descriptor.{need, status, is_lawful_batch, is_lawful_drain}
use Rattle.dsa_desc.specs.declared.Outcome.{Outcome}
use Rattle.dsa_store.specs.Content.{HeldEntry, is_cell, chain}
use Rattle.dsa_book.specs.declared.note.BatchNote.{BatchNote}
use Rattle.dsa_book.specs.State.{Setup, Work, need_of, held_by, status_of_entry, is_batch_of, is_drain_of, limits_at}
use Rattle.dsa_book.specs.State.{has_queue}
use Rattle.dsa_book.specs.Work.{progress_list, member_list, in_progress, members, running_on, note_at, group_in}
use Rattle.dsa_book.specs.Work.{used_on, used, all_used, has_room, serves, is_draining, may_take, front_of, qualifies}
use Rattle.dsa_book.specs.Work.{is_all_fetched, is_front, has_failed_member, is_unfinished, first_waiting}
use Rattle.dsa_keys.proofs.Alike.{Same, SameNote, Both, BothSome}
use Rattle.dsa_keys.specs.Key.{without_next_name}
use Rattle.dsa_keys.specs.Labels.{Labels, labelled_note}
use Rattle.dsa_keys.proofs.Both.{both-cond, both-length, both-any, both-filter, both-find, both-sum, both-append}
use Rattle.dsa_keys.proofs.Both.{both-get}
use Rattle.dsa_keys.proofs.Both.{both-front, both-pass}
use Rattle.dsa_keys.proofs.Known.{Twins, Match, matches, same-cell}

-- ---- entries by their labels

need-same : (m n : Labels) (s s' : Setup) (x y : HeldEntry) → without_next_name s ≡ without_next_name s' → Same m n x y
    → need_of s x.1 ≡ need_of s' y.1
need-same m n s s' x y e f = λ i. need (f i).desc (limits_at (e i) (f i).queue) (f i).member

held-same : (m n : Labels) (s s' : Setup) (x y : HeldEntry) → without_next_name s ≡ without_next_name s' → Same m n x y
    → held_by s x.1 ≡ held_by s' y.1
held-same m n s s' x y e f = λ i. cond (f i).running (need (f i).desc (limits_at (e i) (f i).queue) (f i).member) 0

status-same : (m n : Labels) (s s' : Setup) (x y : HeldEntry) (o : Outcome)
    → without_next_name s ≡ without_next_name s' → Same m n x y
    → status_of_entry s x.1 o ≡ status_of_entry s' y.1 o
status-same m n s s' x y o e f = λ i. status (f i).desc (limits_at (e i) (f i).queue) (f i).member o

batch-same : (m n : Labels) (s s' : Setup) (x y : HeldEntry) → without_next_name s ≡ without_next_name s' → Same m n x y
    → is_batch_of s x.1 ≡ is_batch_of s' y.1
batch-same m n s s' x y e f = λ i. is_lawful_batch (f i).desc (limits_at (e i) (f i).queue) (f i).member

drain-same : (m n : Labels) (s s' : Setup) (x y : HeldEntry) → without_next_name s ≡ without_next_name s' → Same m n x y
    → is_drain_of s x.1 ≡ is_drain_of s' y.1
drain-same m n s s' x y e f = λ i. is_lawful_drain (f i).desc (limits_at (e i) (f i).queue) (f i).member

-- ---- notes

-- what does not see the batch of a note
pub by_note : {A : Type 0} (m n : Labels) (F : Option BatchNote → A) (o p : Option BatchNote)
    → ((l : Labels) (q : Option BatchNote) → F (option_map (labelled_note l) q) ≡ F q) → SameNote m n o p → F o ≡ F p
by_note m n F o p h e = sym (h m o) ∙ ap F e ∙ h n p

blind-none : (l : Labels) (q : Option BatchNote) → is_none (option_map (labelled_note l) q) ≡ is_none q
blind-none l None = refl
blind-none l (Some note) = refl

blind-failed : (l : Labels) (q : Option BatchNote)
    → passes (λ note. note.failed) (option_map (labelled_note l) q) ≡ passes (λ note. note.failed) q
blind-failed l None = refl
blind-failed l (Some note) = refl

blind-open : (l : Labels) (q : Option BatchNote)
    → passes (λ note. not (is_all_fetched note)) (option_map (labelled_note l) q) ≡ passes
    (λ note. not (is_all_fetched note)) q
blind-open l None = refl
blind-open l (Some note) = refl

module _ {m n : Labels} {w v : Work} (t : Twins m n w v) where
  abbrev M : HeldEntry → HeldEntry → Type 0
  M = Match m n w v

  -- ---- lists

  pub chain-both : (k : ℕ) → Both M (chain w.content k) (chain v.content k)
  chain-both k = both-get (Both M) w.content v.content k [] [] (matches t) tt

  pub chain-both-at : (k k' : ℕ) → k ≡ k' → Both M (chain w.content k) (chain v.content k')
  chain-both-at k k' e = subst (λ j. Both M (chain w.content k) (chain v.content j)) e (chain-both k)

  pub progress-same : (e : ℕ) → progress_list w.setup e ≡ progress_list v.setup e
  progress-same e = λ i. progress_list (t.like.setup i) e

  pub member-same : (e : ℕ) → member_list w.setup e ≡ member_list v.setup e
  member-same e = λ i. member_list (t.like.setup i) e

  engine-same : (e : ℕ) → nat_lt e w.setup.caps.engines ≡ nat_lt e v.setup.caps.engines
  engine-same e = λ i. nat_lt e (t.like.setup i).caps.engines

  pub progress-both : (e : ℕ) → Both M (in_progress w e) (in_progress v e)
  progress-both e = both-cond (Both M) _ _ _ _ _ _ (engine-same e)
      (chain-both-at (progress_list w.setup e) (progress_list v.setup e) (progress-same e)) tt

  pub members-both : (e : ℕ) → Both M (members w e) (members v e)
  members-both e = both-cond (Both M) _ _ _ _ _ _ (engine-same e)
      (chain-both-at (member_list w.setup e) (member_list v.setup e) (member-same e)) tt

  work-both : (e : ℕ) → Both M (in_progress w e ++ members w e) (in_progress v e ++ members v e)
  work-both e = both-append M (in_progress w e) (members w e) (in_progress v e) (members v e)
      (progress-both e) (members-both e)

  pub running-both : (e : ℕ) → Both M (running_on w e) (running_on v e)
  running-both e = both-filter M _ _ (in_progress w e ++ members w e) (in_progress v e ++ members v e)
      (λ x y p i. (p.0 i).running) (work-both e)

  pub note-both : (e : ℕ) → SameNote m n (note_at w e) (note_at v e)
  note-both e = both-get (SameNote m n) w.notes v.notes e None None t.like.notes refl

  -- ---- entries

  pub need-both : (x y : HeldEntry) → M x y → need_of w.setup x.1 ≡ need_of v.setup y.1
  need-both x y p = need-same m n w.setup v.setup x y t.like.setup p.0

  pub batch-both : (x y : HeldEntry) → M x y → is_batch_of w.setup x.1 ≡ is_batch_of v.setup y.1
  batch-both x y p = batch-same m n w.setup v.setup x y t.like.setup p.0

  pub drain-both : (x y : HeldEntry) → M x y → is_drain_of w.setup x.1 ≡ is_drain_of v.setup y.1
  drain-both x y p = drain-same m n w.setup v.setup x y t.like.setup p.0

  pub status-both : (x y : HeldEntry) (o : Outcome) → M x y
      → status_of_entry w.setup x.1 o ≡ status_of_entry v.setup y.1 o
  status-both x y o p = status-same m n w.setup v.setup x y o t.like.setup p.0

  -- ---- read buffers

  used_on-same : (e : ℕ) → used_on w e ≡ used_on v e
  used_on-same e = both-sum M _ _ (in_progress w e ++ members w e) (in_progress v e ++ members v e)
      (λ x y p. held-same m n w.setup v.setup x y t.like.setup p.0) (work-both e)

  used-same : (g : ℕ) → used w g ≡ used v g
  used-same g = λ i. sum_by (λ e. used_on-same e i)
      (filter (has (group_at (t.like.setup i).groups g).engines) (numbers_below (t.like.setup i).caps.engines))

  all_used-same : all_used w ≡ all_used v
  all_used-same = λ i. map (λ g. used-same g i) (numbers_below (t.like.setup i).caps.groups)

  pub room-same : (e k : ℕ) → has_room w e k ≡ has_room v e k
  room-same e k = λ i. passes
      (λ g. fits (t.like.setup i).caps.read_buffers (t.like.setup i).groups (all_used-same i) g k)
      (group_in (t.like.setup i).groups e)

  pub room-at : (e k k' : ℕ) → k ≡ k' → has_room w e k ≡ has_room v e k'
  room-at e k k' h = room-same e k ∙ ap (has_room v e) h

  -- ---- dispatch

  serves-same : (e q : ℕ) → serves w e q ≡ serves v e q
  serves-same e q = λ i. passes (λ g. has (group_at (t.like.setup i).groups g).queues q)
      (group_in (t.like.setup i).groups e)

  draining-same : (e : ℕ) → is_draining w e ≡ is_draining v e
  draining-same e = both-any M _ _ (in_progress w e) (in_progress v e) drain-both (progress-both e)

  pub front-both : (q : ℕ) → BothSome M (front_of w q) (front_of v q)
  front-both q = both-front M (chain w.content q) (chain v.content q) (chain-both q)

  take-same : (e : ℕ) (x y : HeldEntry) → M x y → may_take w e x ≡ may_take v e y
  take-same e x y p =
      let long = both-length M (in_progress w e) (in_progress v e) (progress-both e) in
      let room = room-at e _ _ (need-both x y p) in
      let none = by_note m n is_none (note_at w e) (note_at v e) blind-none (note-both e) in
      let drain = drain-both x y p in
      let draining = draining-same e in
      let batch = batch-both x y p in
      λ i. nat_lt (long i) (t.like.setup i).caps.slots && room i && (none i || not (batch i))
      && not (drain i && draining i)

  pub qualifies-same : (e q : ℕ) → qualifies w e q ≡ qualifies v e q
  qualifies-same e q =
      let front = both-pass M (passes (may_take w e)) (passes (may_take v e)) (front_of w q) (front_of v q) refl
      (take-same e) (front-both q) in
      let serve = serves-same e q in
      λ i. (nat_lt e (t.like.setup i).caps.engines && has_queue (t.like.setup i) q) && (serve i && front i)

  -- ---- start and finish

  pub waiting-both : (e : ℕ) → BothSome M (first_waiting w e) (first_waiting v e)
  waiting-both e = both-find M _ _ (members w e) (members v e) (λ x y p i. not (p.0 i).running) (members-both e)

  pub front-same : (e : ℕ) (x y : HeldEntry) → M x y → is_front w e x ≡ is_front v e y
  front-same e x y p = both-pass M (passes (is_cell x.0)) (passes (is_cell y.0)) (slice_get (members w e) 0)
      (slice_get (members v e) 0) refl (λ a b q. same-cell t x y a b p q)
      (both-front M (members w e) (members v e) (members-both e))

  pub failed-same : (e : ℕ) → has_failed_member w e ≡ has_failed_member v e
  failed-same e = by_note m n (passes (λ note. note.failed)) (note_at w e) (note_at v e) blind-failed (note-both e)

  pub unfinished-same : (e : ℕ) → is_unfinished w e ≡ is_unfinished v e
  unfinished-same e =
      let long = both-length M (members w e) (members v e) (members-both e) in
      let more = by_note m n (passes (λ note. not (is_all_fetched note))) (note_at w e) (note_at v e) blind-open
      (note-both e) in
      λ i. nat_lt 0 (long i) || more i
