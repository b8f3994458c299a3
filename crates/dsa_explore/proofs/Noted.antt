-- A step that is noted.
use Rattle.std.proofs.Common.{◌≡◌, ℕ, ◌+◌, ◌<◌, List, [], ◌∷◌, ◌++◌, Option, Some, refl, sym, ap, ◌∙◌}
use Rattle.std.proofs.Common.{◌==◌, ◌^◌, ◌≤◌, Bool, true, false, get_or, map, take, subst, length, length-append}
use Rattle.std.proofs.Common.{inl, inr, ⊎_elim, arith, Contains}
use Rattle.std.specs.Prelude.{slice_get, unwrap_or, ◌-◌}
use Rattle.dsa_base.{specs.Lists.{In}, proofs.Lists.{In-left, In-push, In-append}}
use Rattle.dsa_book.specs.declared.answer.Reply.{Reply}
use Rattle.dsa_keys.specs.Parties.{World, Stored, HaveEqualKeys, IsStored, world_after}
use Rattle.dsa_parties.specs.declared.places.Move.{Move}
use Rattle.dsa_explore.specs.declared.found.{Ask.{Ask}, Finding.{Finding}, Found.{Found}}
use Rattle.dsa_explore.specs.declared.stored.{Search.{Search}, Try.{Try}}
use Rattle.dsa_explore.specs.{Findings.{findings_of, findings_told}, Explored.{MayCome, IsFound}}
use Rattle.dsa_explore.specs.Rows.{HasFinding, AddsRows, labels_of}
use Rattle.dsa_book.specs.declared.fate.FateRow.{FateRow}
use Rattle.std.proofs.lemmas.{Bool.{eqb-true}, List.{length-map, take_more}}
use Rattle.dsa_explore.specs.Search.{Space, IsFine, IsLawfulSpace, IsWorldTable, AreRows, IsStepNoted, IsTriedBy}
use Rattle.dsa_explore.specs.Search.{queue_taken_from, AreWritten, AreWithin}
use Rattle.dsa_explore.specs.Stored.{IsStoredAt, IsUnstored, IsOldKey, IsNewKey, HasNoPlace, last_level, node_levels}
use Rattle.dsa_explore.specs.{Counted.{IsKeyReached}, Halting.{IsHalted, IsMet}}
use Rattle.dsa_explore.specs.declared.halting.Halt.{Halt, TheVariants.{States, KeyBytes, Steps, Lost}}
use Rattle.dsa_seen.specs.Table.{Table}
use Rattle.dsa_keys.proofs.Parties.{worlds-answer}
use Rattle.dsa_explore.proofs.Reached.{reached-more}
use Rattle.dsa_explore.specs.Trying.{IsSearch, IsAt, IsFurther, IsThere, IsAttempted, AreTried}
use Rattle.dsa_explore.proofs.Growth.{In-get, get-below, get-left, get-push, map-push, known-stored, table-pushed}
use Rattle.dsa_explore.proofs.Growth.{IsMirrored, told-soon, fine-more}
use Rattle.dsa_explore.specs.Ways.{AreTold, AreByLevel, IsNodeTo, IsRowTold, AreRowsTold}
use Rattle.dsa_explore.proofs.Steps.{mirrored-findings}
use Rattle.dsa_explore.specs.declared.stored.Node.{Node}
use Rattle.dsa_explore.proofs.Tables.{other-keys, tried-by, tried-as, noted-more}

get-last : {X : Type 0} (xs : List X) (y : X) → slice_get (xs ++ y ∷ []) (length xs) ≡ Some y
get-last [] y = refl
get-last (x ∷ xs) y = get-last xs y

-- the last level is that of the world that is pushed
last-pushed : (levels : List ℕ) (level : ℕ) → last_level (levels ++ level ∷ []) ≡ level
last-pushed levels level =
    let place : length (levels ++ level ∷ []) - 1 ≡ length levels =
    omega (arith, length-append levels (level ∷ [])) in
    ap (λ n. unwrap_or (slice_get (levels ++ level ∷ []) n) 0) place
    ∙ ap (λ o. unwrap_or o 0) (get-last levels level)

-- the same nodes have the same levels
pub same-levels : (old new : Search) → new.nodes.items ≡ old.nodes.items → node_levels new ≡ node_levels old
same-levels old new nodes = ap (map (λ (n : Node). n.level)) nodes

module _ {P : Type 0} (space : Space P Move) (lawful : IsLawfulSpace space)
    (byte-keys : (w v : World P) → HaveEqualKeys w v → space.bytes_of w ≡ space.bytes_of v) (first : World P) where
  -- what is stored stays so where keys, levels and front do
  same-search : (old new : Search) (table : List (Stored P)) → IsSearch space first old table
      → new.seen.strings ≡ old.seen.strings → new.nodes.items ≡ old.nodes.items → new.front ≡ old.front
      → AreRows space first new.front new.rows.items → AreRowsTold space table new.rows.items
      → IsSearch space first new table
  same-search old new table is keys nodes front rows rows-told = let levels = same-levels old new nodes in record {
    table_is = subst (λ (f : ℕ). IsWorldTable space first new.seen.strings (node_levels new) f table) (sym front)
        (subst (λ (l : List ℕ). IsWorldTable space first new.seen.strings l old.front table) (sym levels)
        (subst (λ (k : List (List ℕ)). IsWorldTable space first k (node_levels old) old.front table) (sym keys)
        is.table_is));
    rows_are = rows;
    written = subst (λ (k : List (List ℕ)). AreWritten space k table) (sym keys) is.written;
    within = subst (λ (l : List ℕ). AreWithin (last_level l) table) (sym levels) is.within;
    told = subst (λ (n : List Node). AreTold space n table) (sym nodes) is.told;
    by_level = is.by_level;
    rows_told = rows-told;
  }

  -- rows that a step adds may come
  pub rows-added : (front : ℕ) (findings : List Finding) (old new : List Found) → AreRows space first front old
      → ((finding : Finding) → In finding findings → MayCome space.parties space.asks first front finding)
      → AddsRows front findings old new → AreRows space first front new
  rows-added front findings old new is may added = record {
    sound = λ row i. ⊎_elim (λ j. is.sound row j)
        (λ p. subst (λ (n : ℕ). MayCome space.parties space.asks first n row.finding) (sym p.1)
        (may row.finding p.0)) (added.each row i);
    early = λ row i. ⊎_elim (λ j. is.early row j) (λ p. omega (arith, p.1)) (added.each row i);
    distinct = added.once is.distinct;
  }

  -- and are found by then
  found-added : (front : ℕ) (rows : List Found) (finding : Finding) → AreRows space first front rows
      → HasFinding rows finding → IsFound rows front finding
  found-added front rows finding is has = record {
    row = has.row;
    within = has.within;
    same = has.same;
    soon = is.early has.row has.within;
  }

  -- what a step leaves of a search that stands at x: from v, which has the key of x, the move led to v'
  pub record IsNotedStep (old : Search) (table : List (Stored P)) (number : ℕ) (x : Stored P) (v : World P)
      (move : Move) (reply : Reply) (v' : World P) (at : ℕ) (new : Search) : Type 0 where
    pub more : List (Stored P)
    pub further : IsFurther space first old table number x new more
    pub noted : IsStepNoted space.asks more new.rows.items (x.level + 1) v move reply v'
    pub back : at ≡ number → HaveEqualKeys v' x.world

  -- the bytes of a world that one step leads to can be reached with one move more than the last level
  pub reached-key : (search : Search) (table : List (Stored P)) (number : ℕ) (x : Stored P)
      → IsAt space first search table number x → (v v' : World P) (move : Move) (reply : Reply) → IsThere space x v
      → world_after space.parties v move reply ≡ Some v'
      → IsKeyReached space.parties space.bytes_of first (last_level (node_levels search) + 1) (space.bytes_of v')
  reached-key search table number x is v v' move reply there step =
      let within = In-get table number x is.at in
      let s = is.is_search.table_is.worlds x within in
      let same = worlds-answer space.caps space.parties space.good lawful.lawful v v' x.world move reply
      there.fine.good s.fine.good there.keys step in
      record {
        world = same.v';
        steps = x.level + 1;
        reached = reached-more space.parties first x.world same.v' x.level move same.reply' s.reached same.leads;
        soon = omega (arith, is.is_search.within x within);
        same = sym (byte-keys v' same.v' same.keys);
      }

  module _ (old new : Search) (table : List (Stored P)) (number : ℕ) (x : Stored P)
      (is : IsAt space first old table number x) (v v' : World P) (move : Move) (reply : Reply)
      (there : IsThere space x v) (step : world_after space.parties v move reply ≡ Some v')
      (added : AddsRows old.front (findings_of (space.asks v.places move) v v' reply) old.rows.items new.rows.items)
      (front : new.front ≡ old.front) where
    within : In x table
    within = In-get table number x is.at

    fine' : IsFine space v'
    fine' = fine-more space lawful first v v' move reply there.fine step

    may : (finding : Finding) → In finding (findings_of (space.asks v.places move) v v' reply)
        → MayCome space.parties space.asks first old.front finding
    may finding i = told-soon space lawful first old.seen.strings (node_levels old) old.front table
        is.is_search.table_is x v v' move reply finding within there.fine there.keys is.front step i

    -- the rows are sound, whatever becomes of the world
    pub noted-rows : AreRows space first new.front new.rows.items
    noted-rows = subst (λ (n : ℕ). AreRows space first n new.rows.items) (sym front)
        (rows-added old.front (findings_of (space.asks v.places move) v v' reply) old.rows.items new.rows.items
        is.is_search.rows_are may added)

    -- the step from x that is like it tells the same
    told-from : (row : Found) → In row.finding (findings_of (space.asks v.places move) v v' reply)
        → row.steps ≡ old.front → IsRowTold space table row
    told-from row i steps =
        let s = is.is_search.table_is.worlds x within in
        let same = worlds-answer space.caps space.parties space.good lawful.lawful v v' x.world move reply
        there.fine.good s.fine.good there.keys step in
        let e = mirrored-findings space.asks space.caps space.parties space.good lawful.lawful v v' x.world move reply
        there.keys same in
        record {
          from = x;
          within = within;
          later = steps ∙ is.front;
          tried = record { by = move; queue = queue_taken_from same.reply' };
          tells = record {
            reply = same.reply';
            after = same.v';
            leads = same.leads;
            taken = refl;
            tells = subst (λ (l : List Finding). In row.finding l) e i;
          };
        }

    -- and so are the rows that it adds
    rows-told : AreRowsTold space table new.rows.items
    rows-told row i = ⊎_elim (λ (j : In row old.rows.items). is.is_search.rows_told row j)
        (λ p. told-from row p.0 p.1) (added.each row i)

    told-of : (finding : Finding) → In finding (findings_of (space.asks v.places move) v v' reply)
        → IsFound new.rows.items (x.level + 1) finding
    told-of finding i =
        let f = found-added new.front new.rows.items finding noted-rows (added.all finding i) in
        record { row = f.row; within = f.within; same = f.same; soon = omega (arith, f.soon, front, is.front) }

    at-level : (more : List (Stored P)) (n : ℕ) → n ≡ x.level + 1 → IsStored more n v'
        → IsStepNoted space.asks more new.rows.items (x.level + 1) v move reply v'
    at-level more n e i = record {
      stored = subst (λ (m : ℕ). IsStored more m v') e i;
      told = told-of;
    }

    row-told-more : (ys : List (Stored P)) (row : Found) → IsRowTold space table row → IsRowTold space (table ++ ys) row
    row-told-more ys row t = record {
      from = t.from;
      within = In-left t.from table ys t.within;
      later = t.later;
      tried = t.tried;
      tells = t.tells;
    }

    kept-old : (at : ℕ) → IsOldKey old (space.bytes_of v') at new
        → IsNotedStep old table number x v move reply v' at new
    kept-old at key =
        let t = is.is_search.table_is in
        let stored = known-stored space lawful first old.seen.strings (node_levels old) old.front table t at v' fine'
        key.is in
        record {
          more = table;
          further = record {
            is_at = record {
              is_search = same-search old new table is.is_search key.keys key.nodes front noted-rows rows-told;
              at = is.at;
              front = front ∙ is.front;
            };
            worlds = λ i y h. h;
            kept = λ y i. i;
            rows = added.kept;
          };
          noted = at-level table old.front is.front stored;
          back = λ e. t.keyed number (space.bytes_of v') x
              (subst (λ (n : ℕ). slice_get old.seen.strings n ≡ Some (space.bytes_of v')) e key.is) is.at v' fine'
              refl;
        }

    pushed-new : (tried : Try) (at : ℕ) → tried.by ≡ move → queue_taken_from reply ≡ tried.queue
        → IsNewKey old (space.bytes_of v') number tried at new → IsNotedStep old table number x v move reply v' at new
    pushed-new tried at by taken key =
        let node : Node = record { parent = number; tried = tried; level = old.front } in
        let levels : node_levels new ≡ node_levels old ++ old.front ∷ [] =
        ap (map (λ (n : Node). n.level)) key.nodes ∙ map-push (λ (n : Node). n.level) old.nodes.items node in
        let t = is.is_search.table_is in
        let p = table-pushed space lawful first old.seen.strings (node_levels old) old.front table t x v v' move reply
        within there.fine there.keys is.front step in
        let y = p.0 in
        let more = table ++ y ∷ [] in
        let stored : IsStored more old.front v' = record {
          at = y;
          within = In-last table y;
          soon = omega (arith, p.1);
          keys = p.2.0;
        } in
        record {
          more = more;
          further = record {
            is_at = record {
              is_search = record {
                table_is = subst (λ (f : ℕ). IsWorldTable space first new.seen.strings (node_levels new) f more)
                    (sym front)
                    (subst (λ (l : List ℕ). IsWorldTable space first new.seen.strings l old.front more) (sym levels)
                    (subst (λ (k : List (List ℕ)). IsWorldTable space first k
                    (node_levels old ++ old.front ∷ []) old.front more) (sym key.keys) p.2.1.0));
                rows_are = noted-rows;
                written = subst (λ (k : List (List ℕ)). AreWritten space k more) (sym key.keys) (written y p.2.0);
                within = subst (λ (l : List ℕ). AreWithin (last_level l) more) (sym levels) (within-more y p.1);
                told = subst (λ (n : List Node). AreTold space n more) (sym key.nodes)
                    (told-more y node refl (p.1 ∙ is.front)
                    (subst (λ (m : Move). IsMirrored space x.world m reply y.world) (sym by) p.2.1.1) taken);
                by_level = by-level-more y p.1;
                rows_told = λ row i. row-told-more (y ∷ []) row (rows-told row i);
              };
              at = get-left table (y ∷ []) number x is.at;
              front = front ∙ is.front;
            };
            worlds = λ i z h. get-left table (y ∷ []) i z h;
            kept = λ z i. In-left z table (y ∷ []) i;
            rows = added.kept;
          };
          noted = at-level more old.front is.front stored;
          back = λ e. absurd (omega (arith, e, key.is, t.count, get-below table number x is.at));
        }
      where
        t : IsWorldTable space first old.seen.strings (node_levels old) old.front table
        t = is.is_search.table_is

        written : (y : Stored P) → HaveEqualKeys v' y.world
            → AreWritten space (old.seen.strings ++ space.bytes_of v' ∷ []) (table ++ y ∷ [])
        written y k = λ i bytes z at here. ⊎_elim
            (λ (e : slice_get old.seen.strings i ≡ Some bytes). ⊎_elim
            (λ (e' : slice_get table i ≡ Some z). is.is_search.written i bytes z e e')
            (λ p. absurd (omega (arith, get-below old.seen.strings i bytes e, p.0, t.count)))
            (get-push table y i z here))
            (λ q. ⊎_elim
            (λ (e' : slice_get table i ≡ Some z). absurd (omega (arith, get-below table i z e', q.0, t.count)))
            (λ p. ap (λ (x : Stored P). space.bytes_of x.world) (sym p.1) ∙ sym (byte-keys v' y.world k) ∙ q.1)
            (get-push table y i z here))
            (get-push old.seen.strings (space.bytes_of v') i bytes at)

        within-more : (y : Stored P) → y.level ≡ old.front
            → AreWithin (last_level (node_levels old ++ old.front ∷ [])) (table ++ y ∷ [])
        within-more y e = λ z i.
            let last = last-pushed (node_levels old) old.front in
            ⊎_elim (λ j. omega (arith, t.low z j, last))
            (λ (s : y ≡ z). omega (arith, ap (λ (x : Stored P). x.level) s, e, last)) (In-push z table y i)

        In-last : {X : Type 0} (xs : List X) (y : X) → In y (xs ++ y ∷ [])
        In-last [] y = inl refl
        In-last (x ∷ xs) y = inr (In-last xs y)

        as-many : length old.nodes.items ≡ length table
        as-many = sym (length-map old.nodes.items (λ (n : Node). n.level)) ∙ sym (ap length t.levelled)
            ∙ length-map table (λ (z : Stored P). z.level)

        below : number < length table
        below = get-below table number x is.at

        told-more : (y : Stored P) (node : Node) → node.parent ≡ number → y.level ≡ x.level + 1
            → IsMirrored space x.world node.tried.by reply y.world → queue_taken_from reply ≡ node.tried.queue
            → AreTold space (old.nodes.items ++ node ∷ []) (table ++ y ∷ [])
        told-more y node parent later step from = λ i n z at here up. ⊎_elim
            (λ (e : slice_get old.nodes.items i ≡ Some n). ⊎_elim
            (λ (e' : slice_get table i ≡ Some z).
            let b = is.is_search.told i n z e e' up in record {
              before = b.before;
              parent = b.parent;
              at = get-left table (y ∷ []) n.parent b.parent b.at;
              later = b.later;
              step = b.step;
            })
            (λ p. absurd (omega (arith, get-below old.nodes.items i n e, p.0, as-many)))
            (get-push table y i z here))
            (λ q. ⊎_elim
            (λ (e' : slice_get table i ≡ Some z). absurd (omega (arith, get-below table i z e', q.0, as-many)))
            (λ p. subst (λ (m : Node). IsNodeTo space (table ++ y ∷ []) i m z) q.1
            (subst (λ (u : Stored P). IsNodeTo space (table ++ y ∷ []) i node u) p.1 (record {
              before = omega (arith, parent, below, p.0);
              parent = x;
              at = subst (λ (k : ℕ). slice_get (table ++ y ∷ []) k ≡ Some x) (sym parent)
                  (get-left table (y ∷ []) number x is.at);
              later = later;
              step = record { reply = step.other; leads = step.leads; taken = sym step.taken ∙ from };
            })))
            (get-push table y i z here))
            (get-push old.nodes.items node i n at)

        by-level-more : (y : Stored P) → y.level ≡ old.front → AreByLevel (table ++ y ∷ [])
        by-level-more y e = record {
          rising = λ i j a b le at here. ⊎_elim
              (λ (p : slice_get table i ≡ Some a). ⊎_elim
              (λ (q : slice_get table j ≡ Some b). is.is_search.by_level.rising i j a b le p q)
              (λ q. omega (arith, t.low a (In-get table i a p), e, ap (λ (z : Stored P). z.level) q.1))
              (get-push table y j b here))
              (λ p. ⊎_elim
              (λ (q : slice_get table j ≡ Some b). absurd (omega (arith, get-below table j b q, p.0, le)))
              (λ q. omega (arith, ap (λ (z : Stored P). z.level) p.1, ap (λ (z : Stored P). z.level) q.1))
              (get-push table y j b here))
              (get-push table y i a at);
          early = λ i a at. ⊎_elim (λ (p : slice_get table i ≡ Some a). is.is_search.by_level.early i a p)
              (λ p. omega (
                arith,
                p.0,
                below,
                is.is_search.by_level.early number x is.at,
                is.front,
                e,
                ap (λ (z : Stored P). z.level) p.1,
              ))
              (get-push table y i a at);
        }

    -- a world that does not come in halts the search
    pub not-stored : (set_up : ℕ) (halt : Halt) → IsUnstored old (space.bytes_of v') halt new
        → IsHalted space first set_up new halt
    not-stored set_up halt un = record {
      table = table;
      is_search = same-search old new table is.is_search (ap (λ (t : Table). t.strings) un.seen)
          (ap (λ n. n.items) un.nodes) front noted-rows rows-told;
      met = go halt un.why;
    }
      where
        levels : node_levels old ≡ node_levels new
        levels = sym (same-levels old new (ap (λ n. n.items) un.nodes))

        reached' : IsKeyReached space.parties space.bytes_of first (last_level (node_levels new) + 1)
            (space.bytes_of v')
        reached' = subst (λ (l : List ℕ). IsKeyReached space.parties space.bytes_of first (last_level l + 1)
            (space.bytes_of v')) levels
            (reached-key old table number x is v v' move reply there step)

        go : (halt : Halt) → HasNoPlace old (space.bytes_of v') halt → IsMet space first set_up new halt
        go States why = record {
          full = subst (λ (t : Table). length t.strings ≡ t.most) (sym un.seen) why.1;
          bytes = space.bytes_of v';
          reached = reached';
          new = subst (λ (t : Table). ¬ (Contains t.strings (space.bytes_of v'))) (sym un.seen) why.0;
        }
        go KeyBytes why = record {
          bytes = space.bytes_of v';
          reached = reached';
          long = subst (λ (t : Table). t.width < length (space.bytes_of v')) (sym un.seen) why;
        }
        go Steps why = absurd why
        go Lost why = absurd why

    pub noted-step : (tried : Try) (at : ℕ) → tried.by ≡ move → queue_taken_from reply ≡ tried.queue
        → IsStoredAt old (space.bytes_of v') number tried at new → IsNotedStep old table number x v move reply v' at new
    noted-step tried at by taken key = ⊎_elim (λ k. kept-old at k) (λ k. pushed-new tried at by taken k) key

    -- so one step was tried
    pub attempted : (queue : Option ℕ) (tried : Try) (at : ℕ) → tried.by ≡ move → queue_taken_from reply ≡ tried.queue
        → IsStoredAt old (space.bytes_of v') number tried at new
        → ((q p : ℕ) → queue ≡ Some q → queue_taken_from reply ≡ Some p → q ≡ p)
        → IsAttempted space first old table number x (record { by = move; queue = queue }) new v' (at == number)
    attempted queue taken at by from key fits =
        let n = noted-step taken at by from key in
        let good = (is.is_search.table_is.worlds x within).fine.good in
        let here = tried-by space.caps space.parties space.asks space.good lawful.lawful n.more new.rows.items
        (x.level + 1) v v' move reply queue there.fine.good step fits n.noted in
        record {
          more = n.more;
          further = n.further;
          tried = tried-as space.caps space.parties space.asks space.good lawful.lawful n.more new.rows.items
              (x.level + 1) x.world v move queue good there.fine.good (other-keys v x.world there.keys) here;
          there = λ e. record { fine = fine'; keys = n.back (eqb-true at number e) };
        }

  -- a world whose bytes are too many for a key halts the search
  pub too-long : (search : Search) (table : List (Stored P)) (number : ℕ) (x : Stored P)
      → (is : IsAt space first search table number x) → (v v' : World P) (move : Move) (reply : Reply)
      → IsThere space x v → world_after space.parties v move reply ≡ Some v' → (set_up : ℕ)
      → search.seen.width < length (space.bytes_of v') → IsHalted space first set_up search KeyBytes
  too-long search table number x is v v' move reply there step set_up long = record {
    table = table;
    is_search = is.is_search;
    met = record {
      bytes = space.bytes_of v';
      reached = reached-key search table number x is v v' move reply there step;
      long = long;
    };
  }

  -- what cannot be made leads nowhere
  pub not-made : (search : Search) (table : List (Stored P)) (number : ℕ) (x : Stored P)
      → IsAt space first search table number x → (v w : World P) (tried : Try) → IsThere space x v
      → ((u : World P) (reply : Reply) → world_after space.parties v tried.by reply ≡ Some u
      → queue_taken_from reply ≡ tried.queue → ⊥) → IsAttempted space first search table number x tried search w false
  not-made search table number x is v w tried there cannot =
      let good = (is.is_search.table_is.worlds x (In-get table number x is.at)).fine.good in
      record {
        more = table;
        further = record { is_at = is; worlds = λ i y h. h; kept = λ y i. i; rows = λ row i. i };
        tried = tried-as space.caps space.parties space.asks space.good lawful.lawful table search.rows.items
            (x.level + 1) x.world v tried.by tried.queue good there.fine.good (other-keys v x.world there.keys)
            (λ u reply step from. absurd (cannot u reply step from));
        there = λ e. let clash : false ≡ true = e in absurd cc;
      }

-- fates that were told stay
pub fates-grow : {P : Type 0} (space : Space P Move) → IsLawfulSpace space → (v v' : World P) (move : Move)
    (reply : Reply) → IsFine space v → world_after space.parties v move reply ≡ Some v'
    → length v.state.work.fates ≤ length v'.state.work.fates
fates-grow space lawful v v' move reply fine step =
    let same = worlds-answer space.caps space.parties space.good lawful.lawful v v' v move reply fine.good fine.good
    (record { places = refl; keys = refl }) step in
    omega (arith, ap length same.ends.left, length-append v.state.work.fates same.ends.rows)

-- a history without room halts the search
pub out-of-steps : {P : Type 0} (space : Space P Move) (first : World P) (search : Search) (table : List (Stored P))
    (number : ℕ) (x : Stored P) (set_up : ℕ) (halt : Halt) → IsSearch space first search table
    → slice_get table number ≡ Some x → (halt ≡ Steps) × (2 ^ 20 ≤ set_up + x.level)
    → IsHalted space first set_up search halt
out-of-steps space first search table number x set_up halt is at met = record {
  table = table;
  is_search = is;
  met = subst (λ (h : Halt). IsMet space first set_up search h) (sym met.0)
      (many (last_level (node_levels search)) (is.within x (In-get table number x at)));
}
  where
    many : (last : ℕ) → x.level ≤ last → 2 ^ 20 ≤ set_up + last
    many last low = omega (arith, low, met.1)

-- what was added is told by equal parts
pub added-as : (front : ℕ) (ask ask' : Option Ask) (labels labels' : List ℕ) (reply : Reply)
    (ends ends' : List FateRow) (awaited awaited' : List ℕ) (old new : List Found) → ask ≡ ask' → labels ≡ labels'
    → ends ≡ ends' → awaited ≡ awaited'
    → AddsRows front (findings_told ask (labels_of labels) reply ends awaited) old new
    → AddsRows front (findings_told ask' (labels_of labels') reply ends' awaited') old new
added-as front ask ask' labels labels' reply ends ends' awaited awaited' old new a l e w added =
    subst (λ (fs : List Finding). AddsRows front fs old new)
    (λ i. findings_told (a i) (labels_of (l i)) reply (e i) (w i)) added

module _ {P : Type 0} (space : Space P Move) (first : World P) where
  pub tried-none : (search : Search) (table : List (Stored P)) (number : ℕ) (x : Stored P)
      → IsAt space first search table number x → AreTried space first search table number x [] search
  tried-none search table number x is = record {
    more = table;
    further = record { is_at = is; worlds = λ i y h. h; kept = λ y i. i; rows = λ row i. i };
    tried = λ t i. absurd i;
  }

  pub tried-one : (old new : Search) (table : List (Stored P)) (number : ℕ) (x : Stored P) (try : Try) (w : World P)
      (back : Bool) → IsAttempted space first old table number x try new w back
      → AreTried space first old table number x (try ∷ []) new
  tried-one old new table number x try w back a = record {
    more = a.more;
    further = a.further;
    tried = λ other i. ⊎_elim (λ (e : try ≡ other). subst (λ (z : Try).
        IsTriedBy space.parties space.asks a.more new.rows.items (x.level + 1) x.world z.by z.queue) e a.tried)
        (λ j. absurd j) i;
  }

  -- these, and then those
  pub tried-both : (old mid new : Search) (table : List (Stored P)) (number : ℕ) (x : Stored P) (tries others : List Try)
      → (t : AreTried space first old table number x tries mid)
      → AreTried space first mid t.more number x others new
      → AreTried space first old table number x (tries ++ others) new
  tried-both old mid new table number x tries others t a = record {
    more = a.more;
    further = record {
      is_at = a.further.is_at;
      worlds = λ j y h. a.further.worlds j y (t.further.worlds j y h);
      kept = λ y j. a.further.kept y (t.further.kept y j);
      rows = λ row j. a.further.rows row (t.further.rows row j);
    };
    tried = λ other j. ⊎_elim
        (λ k. λ v' reply step from. noted-more space.asks t.more a.more mid.rows.items new.rows.items a.further.kept
        a.further.rows (x.level + 1) x.world other.by reply v' (t.tried other k v' reply step from))
        (λ k. a.tried other k) (In-append other tries others j);
  }
