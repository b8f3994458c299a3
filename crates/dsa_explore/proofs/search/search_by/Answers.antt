use Rattle.dsa_explore.proofs.search.search_by.Goals as goal
use Rattle.std.proofs.Common.{◌≡◌, ◌∙◌, ◌<◌, ◌⊎◌, [], ◌∷◌, ℕ, refl, sym, subst, ap, Bool, true, false, is_none, is_some, List, map, arith, length, Option}
use Rattle.std.specs.{Prelude.{IfSome}, declared.{alloc.Global.{Global}, vec.Vec.{Vec}}}
use Rattle.dsa_explore.specs.declared.{found.{Ending.{Ending}, Found.{Found}}, stored.{Node.{Node}, Search.{Search}}}
use Rattle.dsa_explore.specs.declared.walked.Walked.{Walked}
use Rattle.dsa_explore.specs.{Trying.{HasReached}, Explored.{AreFindings}, Counted.{NeedsMoves}, Stored.{last_level, node_levels}}
use Rattle.dsa_explore.specs.{Asks.{ask_of}, Ends.{AreEndings}, Keys.{world_bytes}, Walked.{space_of, world_of}}
use Rattle.dsa_explore.proofs.Bounded.{is-none, when-none, as-halted, as-searched, halted-met, none-stored}
use Rattle.dsa_explore.proofs.{Begun.{has-room}, Endings.{endings-said, is-said, room-behind}}
use Rattle.dsa_explore.proofs.Kept.{as-stored, keeps-none, keeps-ways}
use Rattle.dsa_parties.specs.Offers.{parties_of}
use Rattle.dsa_explore.proofs.{Ahead.{begun, counted, none-counted}, Lawful.{byte-keys, space-lawful}}
use Rattle.dsa_explore.proofs.Whole.{nothing-found}

pub returns-then-not-branch-clause-explored : goal.returns-then-not-branch-clause-explored
returns-then-not-branch-clause-explored g c =
    let caps = c.args.plan.now.caps in
    let script = c.args.plan.now.script.now in
    let first = world_of c.in-Some.walked.value in
    let unstored = c.in_ok-store_first.ensures.unstored c.if-not-branch.true in
    let rows = ap (λ r. r.items) (c.ended.ensures.rows ∙ ap (λ (s : Search). s.rows) unstored)
    ∙ c.in_ok-search.ensures.rows in
    let none = c.ended.ensures.states ∙ ap (λ (s : Search). length s.seen.strings) unstored
    ∙ ap length c.in_ok-search.ensures.keys in
    record {
      first = first;
      begun = rw c.in-Some.is at (c.in_ok-walked.ensures.begun refl);
      findings = subst (λ (b : Bool). AreFindings (parties_of script) (ask_of script) first
          c.ended.result.explored.rows.items b) (sym c.ended.ensures.is_complete)
          (nothing-found (space_of caps script) (space-lawful caps script) first c.ended.result.explored.rows.items
          rows);
      counted = none-counted (space_of caps script) (space-lawful caps script) byte-keys first
          c.ended.result.explored none c.ended.ensures.is_complete;
      says_ends = ap is_some c.ended.ensures.ends ∙ sym c.ended.ensures.is_complete;
      ended = subst (λ (o : Option (Vec Ending Global)). IfSome o (λ endings. AreEndings script first endings.items))
          (sym c.ended.ensures.ends) tt;
    }

pub returns-then-not-branch-clause-states : goal.returns-then-not-branch-clause-states
returns-then-not-branch-clause-states g c =
    omega (arith, c.ended.ensures.most, c.in_ok-store_first.ensures.most, c.in_ok-search.ensures.most)

pub returns-then-not-branch-clause-nothing : goal.returns-then-not-branch-clause-nothing
returns-then-not-branch-clause-nothing g c = λ none.
    let unstored = c.in_ok-store_first.ensures.unstored c.if-not-branch.true in
    record {
      rows = ap (λ r. r.items) (c.ended.ensures.rows ∙ ap (λ (s : Search). s.rows) unstored)
          ∙ c.in_ok-search.ensures.rows;
      tried = c.ended.ensures.tried ∙ ap (λ (s : Search). s.tried) unstored ∙ c.in_ok-search.ensures.tried;
      depth = c.ended.ensures.depth ∙ ap (λ (s : Search). last_level (node_levels s)) unstored
          ∙ ap (λ (l : List Node). last_level (map (λ (n : Node). n.level) l)) c.in_ok-search.ensures.nodes;
      is_complete = c.ended.ensures.is_complete;
    }

pub returns-clause-explored : goal.returns-clause-explored
returns-clause-explored g c =
    let caps = c.args.plan.now.caps in
    let script = c.args.plan.now.script.now in
    let space = space_of caps script in
    let lawful = space-lawful caps script in
    let set_up = length c.args.plan.now.setup.now in
    let first = world_of c.in-Some.walked.value in
    let fine = rw c.in-Some.is at c.in_ok-walked.ensures.fine in
    let begin = rw c.in-Some.is at (c.in_ok-walked.ensures.begun refl) in
    let keys = c.in_ok-store_first.ensures.keys c.if-not-branch.false
    ∙ ap (λ (w : Walked). world_bytes (world_of w) ∷ []) c.deref.ensures in
    let rows = ap (λ r. r.items) c.in_ok-store_first.ensures.rows ∙ c.in_ok-search.ensures.rows in
    let front = c.in_ok-store_first.ensures.front ∙ c.in_ok-search.ensures.front in
    let wide = sym c.in_ok-search.ensures.width ∙ sym c.in_ok-store_first.ensures.width in
    let room = c.in_ok-store_first.ensures.room ∙ c.in_ok-key.ensures.room ∙ wide in
    let is = begun space lawful byte-keys first c.store_first.new.search fine keys
    (c.in_ok-store_first.ensures.levels c.if-not-branch.false) rows in
    let searched = as-searched space lawful byte-keys first c.expand_all.new.search set_up c.in_ok-halted.halted
    c.in_ok-halted.ensures.searched c.in_ok-halted.ensures.halted (λ whole. whole first _ fine begin front is)
    (λ halt stops. stops first _ begin front is wide) in
    let reached : c.is_none-is_complete.result ≡ true → HasReached space first c.expand_all.new.search =
    λ e. when-none c.in_ok-halted.halted c.in_ok-halted.ensures.reached
    (sym (is-none c.in_ok-halted.halted c.is_none-is_complete.result c.is_none-is_complete.ensures) ∙ e)
    first _ fine begin front is in
    let few = has-room caps script c.args.plan.now.setup.now first 0 _ begin refl in
    let early = c.in_ok-halted.ensures.early (omega (arith, few.0, few.1, front)) in
    let complete = c.ended-2.ensures.is_complete
    ∙ is-none c.in_ok-halted.halted c.is_none-is_complete.result c.is_none-is_complete.ensures in
    record {
      first = first;
      begun = begin;
      findings = subst (λ (b : Bool). AreFindings (parties_of script) (ask_of script) first
          c.ended-2.result.explored.rows.items b) (sym complete)
          (subst (λ (r : List Found). AreFindings (parties_of script) (ask_of script) first r
          (is_none c.in_ok-halted.halted)) (sym (ap (λ r. r.items) c.ended-2.ensures.rows)) searched.findings);
      counted = counted space lawful byte-keys first c.ended-2.result.explored c.expand_all.new.search
          (is_none c.in_ok-halted.halted) searched c.ended-2.ensures.states c.ended-2.ensures.once
          c.ended-2.ensures.depth complete;
      says_ends = ap is_some c.ended-2.ensures.ends
          ∙ is-said c.in_ok-ends.ends c.is_none-is_complete.result c.in_ok-ends.ensures.complete
          c.in_ok-ends.ensures.none (λ e none.
          let r = reached e in
          none first r.table begin r.is_search (room-behind space first c.expand_all.new.search set_up r early))
          ∙ sym c.ended-2.ensures.is_complete;
      ended = subst (λ (o : Option (Vec Ending Global)). IfSome o (λ endings. AreEndings script first endings.items))
          (sym c.ended-2.ensures.ends)
          (endings-said caps script c.args.plan.now.setup.now first c.expand_all.new.search
          c.is_none-is_complete.result c.in_ok-ends.ends fine begin reached c.in_ok-ends.ensures.complete _ _
          (room ∙ sym c.in_ok-halted.ensures.width) c.in_ok-ends.ensures.ends);
    }

pub returns-clause-states : goal.returns-clause-states
returns-clause-states g c =
    omega (
      arith,
      c.ended-2.ensures.most,
      c.in_ok-halted.ensures.most,
      c.in_ok-store_first.ensures.most,
      c.in_ok-search.ensures.most,
    )

pub returns-then-not-branch-clause-bounded : goal.returns-then-not-branch-clause-bounded
returns-then-not-branch-clause-bounded g c = λ incomplete.
    let first = world_of c.in-Some.walked.value in
    let unstored = c.in_ok-store_first.ensures.unstored c.if-not-branch.true in
    let none = c.ended.ensures.states ∙ ap (λ (s : Search). length s.seen.strings) unstored
    ∙ ap length c.in_ok-search.ensures.keys in
    record {
      first = first;
      begun = rw c.in-Some.is at (c.in_ok-walked.ensures.begun refl);
      met = none-stored (parties_of c.args.plan.now.script.now) world_bytes first c.args.bounds
          (length c.args.plan.now.setup.now) c.ended.result.explored _ _ c.in_ok-search.ensures.most
          c.in_ok-search.ensures.width none
          (subst (λ (w : Walked). (c.in_ok-search.search.seen.most ≡ 0)
          ⊎ (c.in_ok-search.search.seen.width < length (world_bytes (world_of w)))) c.deref.ensures
          (c.in_ok-store_first.ensures.met c.if-not-branch.true
          (c.in_ok-key.ensures.room ∙ sym c.in_ok-search.ensures.width)));
    }

pub returns-clause-bounded : goal.returns-clause-bounded
returns-clause-bounded g c = λ incomplete.
    let caps = c.args.plan.now.caps in
    let script = c.args.plan.now.script.now in
    let space = space_of caps script in
    let lawful = space-lawful caps script in
    let set_up = length c.args.plan.now.setup.now in
    let first = world_of c.in-Some.walked.value in
    let fine = rw c.in-Some.is at c.in_ok-walked.ensures.fine in
    let begin = rw c.in-Some.is at (c.in_ok-walked.ensures.begun refl) in
    let keys = c.in_ok-store_first.ensures.keys c.if-not-branch.false
    ∙ ap (λ (w : Walked). world_bytes (world_of w) ∷ []) c.deref.ensures in
    let rows = ap (λ r. r.items) c.in_ok-store_first.ensures.rows ∙ c.in_ok-search.ensures.rows in
    let front = c.in_ok-store_first.ensures.front ∙ c.in_ok-search.ensures.front in
    let wide = sym c.in_ok-search.ensures.width ∙ sym c.in_ok-store_first.ensures.width in
    let room = c.in_ok-store_first.ensures.room ∙ c.in_ok-key.ensures.room ∙ wide in
    let is = begun space lawful byte-keys first c.store_first.new.search fine keys
    (c.in_ok-store_first.ensures.levels c.if-not-branch.false) rows in
    let stops = as-halted space lawful byte-keys first c.expand_all.new.search set_up c.in_ok-halted.halted
    (sym (c.ended-2.ensures.is_complete
    ∙ is-none c.in_ok-halted.halted c.is_none-is_complete.result c.is_none-is_complete.ensures) ∙ incomplete) c.in_ok-halted.ensures.halted
    (λ halt stops. stops first _ begin front is wide) in
    record {
      first = first;
      begun = begin;
      met = halted-met space lawful byte-keys first c.args.bounds set_up c.expand_all.new.search stops.0
          c.ended-2.result.explored stops.1
          (c.in_ok-halted.ensures.most ∙ c.in_ok-store_first.ensures.most ∙ c.in_ok-search.ensures.most)
          (c.in_ok-halted.ensures.width ∙ c.in_ok-store_first.ensures.width ∙ c.in_ok-search.ensures.width)
          c.ended-2.ensures.states c.ended-2.ensures.once c.ended-2.ensures.depth;
    }

pub returns-then-not-branch-clause-depth : goal.returns-then-not-branch-clause-depth
returns-then-not-branch-clause-depth g c = λ complete.
    let clash : false ≡ true = sym c.ended.ensures.is_complete ∙ complete in
    absurd cc

pub returns-clause-depth : goal.returns-clause-depth
returns-clause-depth g c = λ whole.
    let caps = c.args.plan.now.caps in
    let script = c.args.plan.now.script.now in
    let space = space_of caps script in
    let lawful = space-lawful caps script in
    let set_up = length c.args.plan.now.setup.now in
    let first = world_of c.in-Some.walked.value in
    let fine = rw c.in-Some.is at c.in_ok-walked.ensures.fine in
    let begin = rw c.in-Some.is at (c.in_ok-walked.ensures.begun refl) in
    let keys = c.in_ok-store_first.ensures.keys c.if-not-branch.false
    ∙ ap (λ (w : Walked). world_bytes (world_of w) ∷ []) c.deref.ensures in
    let rows = ap (λ r. r.items) c.in_ok-store_first.ensures.rows ∙ c.in_ok-search.ensures.rows in
    let front = c.in_ok-store_first.ensures.front ∙ c.in_ok-search.ensures.front in
    let wide = sym c.in_ok-search.ensures.width ∙ sym c.in_ok-store_first.ensures.width in
    let room = c.in_ok-store_first.ensures.room ∙ c.in_ok-key.ensures.room ∙ wide in
    let is = begun space lawful byte-keys first c.store_first.new.search fine keys
    (c.in_ok-store_first.ensures.levels c.if-not-branch.false) rows in
    let searched = as-searched space lawful byte-keys first c.expand_all.new.search set_up c.in_ok-halted.halted
    c.in_ok-halted.ensures.searched c.in_ok-halted.ensures.halted (λ whole. whole first _ fine begin front is)
    (λ halt stops. stops first _ begin front is wide) in
    let complete = c.ended-2.ensures.is_complete
    ∙ is-none c.in_ok-halted.halted c.is_none-is_complete.result c.is_none-is_complete.ensures in
    record {
      first = first;
      begun = begin;
      needed = subst (λ (d : ℕ). NeedsMoves (parties_of script) world_bytes first d) (sym c.ended-2.ensures.depth)
          (searched.deep (sym complete ∙ whole) c.ended-2.ensures.once);
    }

pub returns-clause-nothing : goal.returns-clause-nothing
returns-clause-nothing g c = λ none.
    let caps = c.args.plan.now.caps in
    let script = c.args.plan.now.script.now in
    let space = space_of caps script in
    let lawful = space-lawful caps script in
    let set_up = length c.args.plan.now.setup.now in
    let first = world_of c.in-Some.walked.value in
    let fine = rw c.in-Some.is at c.in_ok-walked.ensures.fine in
    let begin = rw c.in-Some.is at (c.in_ok-walked.ensures.begun refl) in
    let keys = c.in_ok-store_first.ensures.keys c.if-not-branch.false
    ∙ ap (λ (w : Walked). world_bytes (world_of w) ∷ []) c.deref.ensures in
    let rows = ap (λ r. r.items) c.in_ok-store_first.ensures.rows ∙ c.in_ok-search.ensures.rows in
    let front = c.in_ok-store_first.ensures.front ∙ c.in_ok-search.ensures.front in
    let wide = sym c.in_ok-search.ensures.width ∙ sym c.in_ok-store_first.ensures.width in
    let room = c.in_ok-store_first.ensures.room ∙ c.in_ok-key.ensures.room ∙ wide in
    let is = begun space lawful byte-keys first c.store_first.new.search fine keys
    (c.in_ok-store_first.ensures.levels c.if-not-branch.false) rows in
    let searched = as-searched space lawful byte-keys first c.expand_all.new.search set_up c.in_ok-halted.halted
    c.in_ok-halted.ensures.searched c.in_ok-halted.ensures.halted (λ whole. whole first _ fine begin front is)
    (λ halt stops. stops first _ begin front is wide) in
    absurd (omega (arith, none, c.ended-2.ensures.states, searched.some))

pub returns-then-not-branch-clause-ways : goal.returns-then-not-branch-clause-ways
returns-then-not-branch-clause-ways g c =
    let unstored = c.in_ok-store_first.ensures.unstored c.if-not-branch.true in
    keeps-none c.args.plan.now.caps c.args.plan.now.script.now c.args.plan.now.setup.now
    (world_of c.in-Some.walked.value)
    (rw c.in-Some.is at (c.in_ok-walked.ensures.begun refl)) c.store_first.new.search c.ended.result
    (ap (λ n. n.items) c.ended.ensures.nodes) c.ended.ensures.states (ap (λ r. r.items) c.ended.ensures.rows)
    (ap (λ (s : Search). s.seen.strings) unstored ∙ c.in_ok-search.ensures.keys)
    (ap (λ (s : Search). s.rows.items) unstored ∙ c.in_ok-search.ensures.rows) c.ended.ensures.is_complete

pub returns-clause-ways : goal.returns-clause-ways
returns-clause-ways g c =
    let caps = c.args.plan.now.caps in
    let script = c.args.plan.now.script.now in
    let setup = c.args.plan.now.setup.now in
    let space = space_of caps script in
    let lawful = space-lawful caps script in
    let first = world_of c.in-Some.walked.value in
    let fine = rw c.in-Some.is at c.in_ok-walked.ensures.fine in
    let begin = rw c.in-Some.is at (c.in_ok-walked.ensures.begun refl) in
    let keys = c.in_ok-store_first.ensures.keys c.if-not-branch.false
    ∙ ap (λ (w : Walked). world_bytes (world_of w) ∷ []) c.deref.ensures in
    let rows = ap (λ r. r.items) c.in_ok-store_first.ensures.rows ∙ c.in_ok-search.ensures.rows in
    let front = c.in_ok-store_first.ensures.front ∙ c.in_ok-search.ensures.front in
    let wide = sym c.in_ok-search.ensures.width ∙ sym c.in_ok-store_first.ensures.width in
    let room = c.in_ok-store_first.ensures.room ∙ c.in_ok-key.ensures.room ∙ wide in
    let is = begun space lawful byte-keys first c.store_first.new.search fine keys
    (c.in_ok-store_first.ensures.levels c.if-not-branch.false) rows in
    let few = has-room caps script setup first 0 _ begin refl in
    let stored = as-stored space lawful first c.expand_all.new.search (length setup) c.in_ok-halted.halted
    c.in_ok-halted.ensures.reached c.in_ok-halted.ensures.halted (λ whole. whole first _ fine begin front is)
    (λ halt stops. stops first _ begin front is wide) in
    keeps-ways caps script setup first begin c.expand_all.new.search c.ended-2.result
    (ap (λ n. n.items) c.ended-2.ensures.nodes) c.ended-2.ensures.states (ap (λ r. r.items) c.ended-2.ensures.rows)
    stored.0 stored.1.0 (c.in_ok-halted.ensures.early (omega (arith, few.0, few.1, front)))
    (λ complete. stored.1.1 (sym (c.ended-2.ensures.is_complete
    ∙ is-none c.in_ok-halted.halted c.is_none-is_complete.result c.is_none-is_complete.ensures) ∙ complete))
