-- Commands, polls, writes and clears at two states that are alike.
use Rattle.dsa_book.specs.declared.fate.Fate.TheVariants as fate
use Rattle.dsa_book.specs.Work.{fate_row}
use Rattle.std.proofs.Common.{filter}
use Rattle.std.proofs.Common.{◌≡◌, ℕ, ◌==◌, ◌&&◌, not}
use Rattle.std.proofs.Common.{map, Option, Some, None, refl, sym, ap, ◌∙◌, subst, ◌⊎◌, inl, inr, arith}
use Rattle.std.{proofs.lemmas.Bool.{lt-ltb}, specs.{Prelude.{nat_lt, is_some, slice_set}}}
use Rattle.dsa_base.specs.Numbers.{numbers_below}
use Rattle.dsa_regs.specs.{Command.{number_of_command, scope_of, deed_of}, Config.{queue_at, check_device, check_queue}}
use Rattle.dsa_regs.specs.declared.Deed.{Deed, TheVariants.{Enable, Disable, Drain, Abort, Reset}}
use Rattle.dsa_regs.specs.declared.Scope.{Scope, TheVariants.{Device, Queue, Queues, Pasid}}
use Rattle.dsa_regs.specs.declared.{Phase.{Phase, TheVariants.{Off, Stopping}}, Command.{Command}}
use Rattle.dsa_regs.specs.declared.{QueueConfig.{QueueConfig}}
use Rattle.dsa_regs.specs.declared.{GroupConfig.{GroupConfig}, Fault.{Fault}}
use Rattle.dsa_store.specs.Content.{HeldEntry, chain, all_held}
use Rattle.dsa_book.specs.declared.note.ActiveCommand.{ActiveCommand}
use Rattle.dsa_book.specs.State.{Setup, State, is_off, phase_at, has_queue}
use Rattle.dsa_book.specs.Work.{progress_list, note_at}
use Rattle.dsa_book.specs.Commands.{is_in_scope, is_at_end, after_stop, after_enable, reset, kept_note, after_abort}
use Rattle.dsa_book.specs.Commands.{count_in_scope, is_bad_queues, suits, may_come, check_of, work_with_setup, abort_of}
use Rattle.dsa_book.specs.Commands.{wait_of, deed_done_of, refusal_or, issue, poll_of, write_queue}
use Rattle.dsa_book.specs.Commands.{write_group, clear_of, clear}
use Rattle.dsa_book.specs.declared.answer.{IssueAnswer.{IssueAnswer, TheVariants.{Ended, Refused}}}
use Rattle.dsa_book.specs.declared.answer.{ClearAnswer.{TheVariants.{Cleared}}}
use Rattle.dsa_book.specs.declared.answer.{NotedError.{NotedError}}
use Rattle.dsa_book.specs.declared.answer.{Reply.{Reply, TheVariants.{Issue, Poll, Write, Clear}}}
use Rattle.dsa_laws.proofs.Effects.{stopped-keeps}
use Rattle.dsa_admin.specs.Admin.{is_waited_for}
use Rattle.dsa_keys.proofs.Alike.{Same, SameNote, Both, Like, Pair, SameActive}
use Rattle.dsa_keys.specs.Key.{without_next_name}
use Rattle.dsa_keys.specs.Labels.{labelled_reply, HaveSameEnds, Labels}
use Rattle.dsa_keys.proofs.Both.{both-cond, both-row2, both-row3, both-length, both-any, both-filter, both-map}
use Rattle.dsa_keys.proofs.Both.{both-each}
use Rattle.dsa_keys.proofs.Known.{Twins, Match, matches, held-matches}
use Rattle.dsa_keys.proofs.Tests.{chain-both-at, progress-same, note-both, batch-both}
use Rattle.dsa_keys.proofs.{Engines.{faces, pair-of, none-ends, rows-same}, Orders.{scope-by, awaits-by, Both-known}}

-- ---- what does not see the next name

stop-blind : (deed : Deed) (scope : Scope) (phase : Phase) (s s' : Setup) → without_next_name s ≡ without_next_name s'
    → without_next_name (after_stop deed scope phase s) ≡ without_next_name (after_stop deed scope phase s')
stop-blind Disable Device phase s s' h = λ i. without_next_name (after_stop Disable Device phase (h i))
stop-blind Disable (Queue q) phase s s' h = λ i. without_next_name (after_stop Disable (Queue q) phase (h i))
stop-blind Disable (Queues qs) phase s s' h = λ i. without_next_name (after_stop Disable (Queues qs) phase (h i))
stop-blind Disable (Pasid p) phase s s' h = λ i. without_next_name (after_stop Disable (Pasid p) phase (h i))
stop-blind _ scope phase s s' h = h

enable-blind : (scope : Scope) (s s' : Setup) → without_next_name s ≡ without_next_name s'
    → without_next_name (after_enable scope s) ≡ without_next_name (after_enable scope s')
enable-blind Device s s' h = λ i. without_next_name (after_enable Device (h i))
enable-blind (Queue q) s s' h = λ i. without_next_name (after_enable (Queue q) (h i))
enable-blind _ s s' h = h

reset-blind : (scope : Scope) (s s' : Setup) → without_next_name s ≡ without_next_name s'
    → without_next_name (reset scope s) ≡ without_next_name (reset scope s')
reset-blind Device s s' h = λ i. without_next_name (reset Device (h i))
reset-blind (Queue q) s s' h = λ i. without_next_name (reset (Queue q) (h i))
reset-blind (Queues qs) s s' h = λ i. without_next_name (reset (Queues qs) (h i))
reset-blind (Pasid p) s s' h = λ i. without_next_name (reset (Pasid p) (h i))

may-blind : (deed : Deed) (scope : Scope) (s s' : Setup) → without_next_name s ≡ without_next_name s'
    → may_come s deed scope ≡ may_come s' deed scope
may-blind deed Device s s' h = λ i. suits deed (h i).device
may-blind deed (Queue q) s s' h = λ i. may_come (h i) deed (Queue q)
may-blind deed (Queues qs) s s' h = λ i. may_come (h i) deed (Queues qs)
may-blind deed (Pasid p) s s' h = λ i. may_come (h i) deed (Pasid p)

bad-blind : (scope : Scope) (s s' : Setup) → without_next_name s ≡ without_next_name s'
    → is_bad_queues s scope ≡ is_bad_queues s' scope
bad-blind Device s s' h = refl
bad-blind (Pasid p) s s' h = refl
bad-blind (Queue q) s s' h = λ i. is_bad_queues (h i) (Queue q)
bad-blind (Queues qs) s s' h = λ i. is_bad_queues (h i) (Queues qs)

check-blind : (deed : Deed) (scope : Scope) (s s' : Setup) → without_next_name s ≡ without_next_name s'
    → check_of s deed scope ≡ check_of s' deed scope
check-blind Enable Device s s' h = λ i. check_device (h i).caps (h i).configs (h i).groups
check-blind Enable (Queue q) s s' h = λ i. check_queue (h i).caps (h i).groups q (queue_at (h i).configs q)
check-blind _ _ s s' h = refl

-- ---- what a step of the administrator leads to

-- the command is the same as before, or the same at both
abbrev pub Turns : Labels → Labels → State → State → State → State → Type 0
Turns m n s t s' t' = ((s'.active ≡ s.active) × (t'.active ≡ t.active))
    ⊎ SameActive m n s'.work t'.work s'.active t'.active

-- the replies tell the same, and what they leave is alike but for how names compare
pub record Follows (m n : Labels) (s t : State) (r r' : Reply × State) : Type 0 where
  pub replies : labelled_reply m r.0 ≡ labelled_reply n r'.0
  pub work : Like m n r.1.work r'.1.work
  pub active : Turns m n s t r.1 r'.1
  pub ends : HaveSameEnds m n s.work r.1.work t.work r'.1.work

abbrev pub Follow : {A : Type 0} → Labels → Labels → (A → Reply) → State → State → A × State → A × State → Type 0
Follow m n tell s t r r' = Follows m n s t (tell r.0, r.1) (tell r'.0, r'.1)

module _ {m n : Labels} {s t : State} (h : Twins m n s.work t.work) (k : Both-known m n s t) where
  abbrev M : HeldEntry → HeldEntry → Type 0
  M = Match m n s.work t.work

  scope-both : (scope : Scope) (x y : HeldEntry) → M x y → is_in_scope scope x.1 ≡ is_in_scope scope y.1
  scope-both scope x y p = scope-by m n scope x y (pair-of h x y p).same

  nothing-follows : {A : Type 0} (tell : A → Reply) (a : A) → labelled_reply m (tell a) ≡ labelled_reply n (tell a)
      → Follow m n tell s t (a, s) (a, t)
  nothing-follows tell a e = record {
    replies = e;
    work = h.like;
    active = inl (refl, refl);
    ends = none-ends m n _ _ _ _ refl refl;
  }

  set_up-like : (a b : Setup) → without_next_name a ≡ without_next_name b
      → Like m n (work_with_setup s.work a) (work_with_setup t.work b)
  set_up-like a b e = record { setup = e; content = h.like.content; notes = h.like.notes }

  -- ---- abort

  note-kept : (scope : Scope) (e : ℕ) → SameNote m n
      (kept_note s.work.setup scope (chain s.work.content (progress_list s.work.setup e)) (note_at s.work e))
      (kept_note t.work.setup scope (chain t.work.content (progress_list t.work.setup e)) (note_at t.work e))
  note-kept scope e = both-cond (SameNote m n) _ _ None (note_at s.work e) None (note_at t.work e)
      (both-any M _ _ (chain s.work.content (progress_list s.work.setup e))
      (chain t.work.content (progress_list t.work.setup e))
      (λ x y p.
      let batch = batch-both h x y p in
      let scope = scope-both scope x y p in
      λ i. batch i && scope i)
      (chain-both-at h _ _ (progress-same h e)))
      refl (note-both h e)

  abort-like : (number : ℕ) (scope : Scope) (a b : Setup) → without_next_name a ≡ without_next_name b
      → Like m n (work_with_setup (after_abort number scope s.work) a)
      (work_with_setup (after_abort number scope t.work) b)
  abort-like number scope a b e = record {
    setup = e;
    content = both-map (Both M) (Both (Same m n)) _ _ s.work.content t.work.content
        (λ xs ys b. faces h _ _ (both-filter M _ _ xs ys (λ x y p i. not (scope-both scope x y p i)) b)) (matches h);
    notes = subst (λ j. Both (SameNote m n) (after_abort number scope s.work).notes (map
        (λ e. kept_note t.work.setup scope (chain t.work.content (progress_list t.work.setup e)) (note_at t.work e))
        (numbers_below j)))
        (λ i. (h.like.setup i).caps.engines)
        (both-each (SameNote m n) _ _ (numbers_below s.work.setup.caps.engines) (note-kept scope));
  }

  count-same : (scope : Scope) → count_in_scope scope s.work.content ≡ count_in_scope scope t.work.content
  count-same scope = both-length M _ _ (both-filter M _ _ (all_held s.work.content) (all_held t.work.content)
      (scope-both scope) (held-matches h))

  abort-ends : (number : ℕ) (scope : Scope) (a b : Setup)
      → HaveSameEnds m n s.work (work_with_setup (after_abort number scope s.work) a) t.work
      (work_with_setup (after_abort number scope t.work) b)
  abort-ends number scope a b =
      let left = filter (λ (x : HeldEntry). is_in_scope scope x.1) (all_held s.work.content) in
      let right = filter (λ (x : HeldEntry). is_in_scope scope x.1) (all_held t.work.content) in
      record {
        rows = map (fate_row (fate.Aborted number)) left;
        rows' = map (fate_row (fate.Aborted number)) right;
        left = refl;
        right = refl;
        same = rows-same m n (fate.Aborted number) left right (faces h left right (both-filter M _ _
            (all_held s.work.content) (all_held t.work.content) (scope-both scope) (held-matches h)));
      }

  abort-follows : (number : ℕ) (scope : Scope) (change : Setup → Setup)
      → without_next_name (change s.work.setup) ≡ without_next_name (change t.work.setup)
      → Follow m n (λ a. Issue a) s t (abort_of s number scope change) (abort_of t number scope change)
  abort-follows number scope change e =
      let count = count-same scope in
      record {
        ends = abort-ends number scope _ _;
        replies = λ i. Issue (Ended (count i));
        work = abort-like number scope _ _ e;
        active = inl (refl, refl);
      }

  -- ---- issue

  wait-follows : (command : Command) → Follow m n (λ a. Issue a) s t (wait_of s command) (wait_of t command)
  wait-follows command =
      let a : ActiveCommand = record { command = command; mark = s.work.setup.next_name } in
      let b : ActiveCommand = record { command = command; mark = t.work.setup.next_name } in
      let deed = deed_of command in
      let scope = scope_of command in
      let entries : (x y : HeldEntry) → Pair m n s.work.content t.work.content x y
      → is_waited_for a x.1 ≡ is_waited_for b y.1 =
      λ x y p. awaits-by m n a b x y refl p.same
      (lt-ltb x.1.name a.mark (k.left.below x p.left) ∙ sym (lt-ltb y.1.name b.mark (k.right.below y p.right))) in
      let any = both-any M _ _ (all_held s.work.content) (all_held t.work.content)
      (λ x y p. entries x y (pair-of h x y p)) (held-matches h) in
      both-cond (Follow m n (λ a. Issue a) s t) (is_at_end a s.work.content) (is_at_end b t.work.content) _ _ _ _
      (λ i. not (any i))
      (record {
        replies = refl;
        ends = none-ends m n _ _ _ _ refl refl;
        work = set_up-like _ _ (stop-blind deed scope Off s.work.setup t.work.setup h.like.setup);
        active = inl (refl, refl);
      })
      (record {
        replies = refl;
        ends = none-ends m n _ _ _ _ refl refl;
        work = set_up-like _ _ (stop-blind deed scope Stopping s.work.setup t.work.setup h.like.setup);
        active = inr (record {
          command = refl;
          left = omega (arith, (stopped-keeps deed scope Stopping s.work.setup).names);
          right = omega (arith, (stopped-keeps deed scope Stopping t.work.setup).names);
          entries = entries;
        });
      })

  done-follows : (command : Command) (deed : Deed) (scope : Scope)
      → Follow m n (λ a. Issue a) s t (deed_done_of s command deed scope) (deed_done_of t command deed scope)
  done-follows command Enable scope = record {
    replies = refl;
    ends = none-ends m n _ _ _ _ refl refl;
    work = set_up-like _ _ (enable-blind scope s.work.setup t.work.setup h.like.setup);
    active = inl (refl, refl);
  }
  done-follows command Abort scope = abort-follows (number_of_command command) scope (λ setup. setup) h.like.setup
  done-follows command Reset scope = abort-follows (number_of_command command) scope (reset scope)
      (reset-blind scope s.work.setup t.work.setup h.like.setup)
  done-follows command Disable scope = wait-follows command
  done-follows command Drain scope = wait-follows command

  refusal-follows : (o p : Option Fault) → o ≡ p → (r r' : IssueAnswer × State) → Follow m n (λ a. Issue a) s t r r'
      → Follow m n (λ a. Issue a) s t (refusal_or s o r) (refusal_or t p r')
  refusal-follows None None e r r' f = f
  refusal-follows (Some a) (Some b) e r r' f =
      let same : a ≡ b = cc in
      record {
        replies = λ i. labelled_reply m (Issue (Refused (same i)));
        work = h.like;
        active = inl (refl, refl);
        ends = none-ends m n _ _ _ _ refl refl;
      }
  refusal-follows None (Some b) e r r' f = absurd cc
  refusal-follows (Some a) None e r r' f = absurd cc

  some-same : (o p : Option ActiveCommand) → SameActive m n s.work t.work o p → is_some o ≡ is_some p
  some-same None None e = refl
  some-same (Some a) (Some b) e = refl
  some-same None (Some b) e = absurd e
  some-same (Some a) None e = absurd e

  pub issue-follows : SameActive m n s.work t.work s.active t.active → (command : Command)
      → Follow m n (λ a. Issue a) s t (issue s command) (issue t command)
  issue-follows same command =
      let deed = deed_of command in
      let scope = scope_of command in
      let may = may-blind deed scope s.work.setup t.work.setup h.like.setup in
      both-row3 (Follow m n (λ a. Issue a) s t) _ _ _ _ _ _ _ _ _ _ _ _ _ _
      (some-same s.active t.active same) (nothing-follows (λ a. Issue a) _ refl)
      (bad-blind scope s.work.setup t.work.setup h.like.setup) (nothing-follows (λ a. Issue a) _ refl)
      (λ i. not (may i)) (nothing-follows (λ a. Issue a) _ refl)
      (refusal-follows _ _ (check-blind deed scope s.work.setup t.work.setup h.like.setup) _ _
      (done-follows command deed scope))

  -- ---- poll

  pub poll-follows : (o p : Option ActiveCommand) → SameActive m n s.work t.work o p
      → Follow m n (λ a. Poll a) s t (poll_of s o) (poll_of t p)
  poll-follows None None e = nothing-follows (λ a. Poll a) _ refl
  poll-follows (Some a) (Some b) e =
      let any = both-any M _ _ (all_held s.work.content) (all_held t.work.content)
      (λ x y p. e.entries x y (pair-of h x y p)) (held-matches h) in
      both-cond (Follow m n (λ a. Poll a) s t) (is_at_end a s.work.content) (is_at_end b t.work.content) _ _ _ _
      (λ i. not (any i))
      (record {
        replies = refl;
        ends = none-ends m n _ _ _ _ refl refl;
        work = set_up-like _ _
            (stop-blind (deed_of a.command) (scope_of a.command) Off s.work.setup t.work.setup h.like.setup
            ∙ ap (λ c. without_next_name (after_stop (deed_of c) (scope_of c) Off t.work.setup)) e.command);
        active = inr tt;
      })
      (nothing-follows (λ a. Poll a) _ refl)
  poll-follows None (Some b) e = absurd e
  poll-follows (Some a) None e = absurd e

-- ---- writes and clear

-- the answers tell the same, and the set-ups differ in the next name alone
abbrev pub Sets : {A : Type 0} → Labels → Labels → (A → Reply) → A × Setup → A × Setup → Type 0
Sets m n tell r r' = (labelled_reply m (tell r.0) ≡ labelled_reply n (tell r'.0))
    × (without_next_name r.1 ≡ without_next_name r'.1)

module _ (m n : Labels) (s s' : Setup) (h : without_next_name s ≡ without_next_name s') where
  pub write_queue-sets : (q : ℕ) (config : QueueConfig)
      → Sets m n (λ a. Write a) (write_queue s q config) (write_queue s' q config)
  write_queue-sets q config =
      both-row3 (Sets m n (λ a. Write a)) _ _ _ _ _ _ _ _ _ _ _ _ _ _
      (λ i. not (has_queue (h i) q)) (refl, h)
      (λ i. not (is_off (phase_at (h i) q))) (refl, h)
      (λ i. not (is_off (h i).device) && not (config.size == (queue_at (h i).configs q).size)) (refl, h)
      (refl, λ i. record (h i) { configs = slice_set (h i).configs q config })

  pub write_group-sets : (g : ℕ) (config : GroupConfig)
      → Sets m n (λ a. Write a) (write_group s g config) (write_group s' g config)
  write_group-sets g config =
      both-row2 (Sets m n (λ a. Write a)) _ _ _ _ _ _ _ _ _ _
      (λ i. not (nat_lt g (h i).caps.groups)) (refl, h)
      (λ i. not (is_off (h i).device)) (refl, h)
      (refl, λ i. record (h i) { groups = slice_set (h i).groups g config })

  pub clear-sets : Sets m n (λ a. Clear a) (clear s) (clear s')
  clear-sets = go s.noted s'.noted (λ i. (h i).noted)
    where
      go : (o p : Option NotedError) → o ≡ p → Sets m n (λ a. Clear a) (clear_of s o) (clear_of s' p)
      go None None e = (refl, h)
      go (Some a) (Some b) e =
          let same : a ≡ b = cc in
          ((λ i. Clear (Cleared (same i))), λ i. record (h i) { noted = None })
      go None (Some b) e = absurd cc
      go (Some a) None e = absurd cc
