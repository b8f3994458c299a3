-- Stored worlds that are expanded one after the other.
use Rattle.std.proofs.Common.{◌≡◌, ℕ, zero, suc, ◌+◌, ◌<◌, ◌≤◌, Bool, true, false, List, [], ◌∷◌, Some, refl, sym}
use Rattle.std.proofs.Common.{ap, ◌∙◌, subst, length, map, inl, ⊎_elim, arith}
use Rattle.std.specs.Prelude.{slice_get}
use Rattle.std.proofs.lemmas.{Option.{same_Some}, Bool.{cases_eq}}
use Rattle.dsa_base.{specs.Lists.{In}, proofs.Lists.{In-length}}
use Rattle.dsa_book.specs.declared.answer.Reply.{Reply}
use Rattle.dsa_keys.specs.Parties.{World, Stored, HaveEqualKeys, IsStored, world_after}
use Rattle.dsa_parties.specs.declared.places.Move.{Move}
use Rattle.dsa_seen.specs.Table.{HasOneNumberEach}
use Rattle.dsa_explore.specs.declared.found.{Explored.{Explored}, Found.{Found}}
use Rattle.dsa_explore.specs.Counted.{AreKeysReached, CountsStates}
use Rattle.dsa_explore.specs.declared.stored.{Node.{Node}, Search.{Search}, Try.{Try}}
use Rattle.dsa_explore.specs.Stored.{last_level, node_levels, IsAdvanced}
use Rattle.dsa_explore.specs.Search.{Space, IsFine, IsLawfulSpace, IsWorldTable, IsKeyOf, IsStoredWorld, AreRows}
use Rattle.dsa_explore.specs.Search.{IsExpanded}
use Rattle.dsa_explore.specs.Search.{queue_taken_from, AreWritten}
use Rattle.dsa_explore.proofs.Reached.{reached-none}
use Rattle.dsa_explore.specs.Trying.{IsSearch, HasReached, IsSearched, IsAt, IsThere, AreTried, IsExpandedAt}
use Rattle.dsa_explore.specs.{Trials.{AreAllFrom, IsAhead}, declared.trials.Trial.{Trial}}
use Rattle.dsa_explore.specs.Ways.{AreTold, AreRowsTold}
use Rattle.dsa_explore.proofs.Growth.{In-get, In-mapped, get-at, get-below, get-mapped, own-key, table-on, rows-on}
use Rattle.dsa_explore.proofs.Tables.{expanded-more, whole-closed}
use Rattle.dsa_explore.proofs.Whole.{In-place, all-found, rows-found, whole-of}
use Rattle.dsa_explore.proofs.Counted.{keys-of-all, keys-of-some, deep-of-all, walk-stored}

module _ {P : Type 0} (space : Space P Move) (lawful : IsLawfulSpace space)
    (byte-keys : (w v : World P) → HaveEqualKeys w v → space.bytes_of w ≡ space.bytes_of v) (first : World P) where
  -- ---- one world

  advanced : (old new : Search) (level : ℕ) (table : List (Stored P)) → IsSearch space first old table
      → IsAdvanced old level new → IsSearch space first new table
  advanced old new level table is a =
      subst (λ (s : Search). IsSearch space first s table) (sym a.changed)
      (record {
        table_is = table-on space lawful first old.seen.strings (node_levels old) old.front
            (level + 1) table is.table_is
            a.before;
        rows_are = rows-on space lawful first old.front (level + 1) old.rows.items is.rows_are a.before;
        written = is.written;
        within = is.within;
        told = is.told;
        by_level = is.by_level;
        rows_told = is.rows_told;
      })

  -- the search stands at a world where its front has moved behind it
  pub stands : (old new : Search) (node : Node) (table : List (Stored P)) (number : ℕ) (x : Stored P)
      → IsSearch space first old table → slice_get table number ≡ Some x
      → slice_get old.nodes.items number ≡ Some node → IsAdvanced old node.level new
      → IsAt space first new table number x
  stands old new node table number x is at here a =
      let level = same_Some x.level node.level
      (sym (get-mapped (λ (y : Stored P). y.level) table number x at)
      ∙ ap (λ (l : List ℕ). slice_get l number) is.table_is.levelled
      ∙ get-mapped (λ (n : Node). n.level) old.nodes.items number node here) in
      let front = ap (λ (s : Search). s.front) a.changed in
      record {
        is_search = advanced old new node.level table is a;
        at = at;
        front = front ∙ ap (λ n. n + 1) (sym level);
      }

  -- where each step that may come was tried, the world was expanded
  pub tried-all : (old mid new : Search) (table : List (Stored P)) (number : ℕ) (x : Stored P) (trials : List Trial)
      → mid.rows ≡ old.rows → AreAllFrom space x.world trials
      → AreTried space first mid table number x (map (λ (t : Trial). t.tried) trials) new
      → IsExpandedAt space first old table number x new
  tried-all old mid new table number x trials same all tried = record {
    more = tried.more;
    is_search = tried.further.is_at.is_search;
    front = tried.further.is_at.front;
    worlds = tried.further.worlds;
    kept = tried.further.kept;
    rows = λ row i. tried.further.rows row
        (subst (λ (r : List Found). In row r) (sym (ap (λ r. r.items) same)) i);
    expanded = λ v move reply step.
        let h = all v move reply step in
        tried.tried (record { by = move; queue = queue_taken_from reply })
        (subst (λ (t : Try). In t (map (λ (t : Trial). t.tried) trials)) h.is
        (In-mapped (λ (t : Trial). t.tried) h.trial trials h.within)) v reply step refl;
  }

  -- ---- all worlds

  pub ahead-none : (search : Search) (table : List (Stored P)) → IsSearch space first search table
      → search.front ≡ 0 → IsAhead space first table search 0
  ahead-none search table is front = record {
    more = table;
    is_search = is;
    worlds = λ i y here. here;
    expanded = λ i x below. absurd (omega (arith, below));
    front = λ x at. omega (arith, front);
    behind = λ i x below. absurd (omega (arith, below));
  }

  pub ahead-more : (table : List (Stored P)) (old new : Search) (number : ℕ) (x : Stored P)
      → (a : IsAhead space first table old number) → slice_get a.more number ≡ Some x
      → IsExpandedAt space first old a.more number x new → IsAhead space first table new (number + 1)
  ahead-more table old new number x a at e = record {
    more = e.more;
    is_search = e.is_search;
    worlds = λ i y here. e.worlds i y (a.worlds i y here);
    expanded = λ i y below here. ⊎_elim
        (λ (same : i ≡ number).
        let is : x ≡ y = same_Some x y
        (sym (e.worlds number x at) ∙ sym (ap (slice_get e.more) same) ∙ here) in
        subst (λ (z : Stored P).
        IsExpanded space.parties space.asks e.more new.rows.items (z.level + 1) z.world) is e.expanded)
        (λ other.
        let low : i < number = omega (arith, below, other) in
        let z = get-at a.more i (omega (arith, low, get-below a.more number x at)) in
        let is : z.0 ≡ y = same_Some z.0 y (sym (e.worlds i z.0 z.1) ∙ here) in
        subst (λ (z : Stored P).
        IsExpanded space.parties space.asks e.more new.rows.items (z.level + 1) z.world) is
        (expanded-more space.asks a.more e.more old.rows.items new.rows.items e.kept e.rows space.parties
        (z.0.level + 1) z.0.world (a.expanded i z.0 low z.1)))
        (cases_eq i number);
    front = λ y at'.
        let rises = e.is_search.by_level.rising number (number + 1) x y (omega arith) (e.worlds number x at) at' in
        omega (arith, e.front, rises);
    behind = λ i y below here.
        let rises = e.is_search.by_level.rising i number y x (omega (arith, below)) here (e.worlds number x at) in
        omega (arith, e.front, rises);
  }

  -- below the number of worlds there is one to expand
  pub ahead-next : (table : List (Stored P)) (search : Search) (number : ℕ)
      → (a : IsAhead space first table search number) → number < length table
      → (x : Stored P) × ((slice_get table number ≡ Some x) × (slice_get a.more number ≡ Some x))
  ahead-next table search number a below =
      let x = get-at table number below in
      (x.0, (x.1, a.worlds number x.0 x.1))

  -- later the same worlds are stored still
  pub ahead-on : (table : List (Stored P)) (old new : Search) (number further : ℕ)
      → (a : IsAhead space first table old number) → IsAhead space first a.more new further
      → IsAhead space first table new further
  ahead-on table old new number further a b = record {
    more = b.more;
    is_search = b.is_search;
    worlds = λ i y here. b.worlds i y (a.worlds i y here);
    expanded = b.expanded;
    front = b.front;
    behind = b.behind;
  }

  -- a search stands where it has come to
  pub ahead-here : (table : List (Stored P)) (search : Search) (number : ℕ)
      → (a : IsAhead space first table search number) → IsAhead space first a.more search number
  ahead-here table search number a = record {
    more = a.more;
    is_search = a.is_search;
    worlds = λ i y here. here;
    expanded = a.expanded;
    front = a.front;
    behind = a.behind;
  }

  has-some : (search : Search) (table : List (Stored P)) → IsSearch space first search table
      → 0 < length search.seen.strings
  has-some search table is = omega (arith, is.table_is.count, In-length _ table is.table_is.begin)

  -- at the end all that may come is found
  pub ahead-all : (table : List (Stored P)) (search : Search) (number : ℕ) → IsFine space first
      → IsAhead space first table search number → length search.seen.strings ≤ number
      → IsSearched space first search true
  ahead-all table search number fine a enough =
      let is = a.is_search in
      let whole = whole-of space lawful first search.seen.strings (node_levels search) search.front number
      search.rows.items a.more is.table_is enough a.expanded in
      record {
        findings = all-found space lawful first search.seen.strings (node_levels search) search.front number
            search.rows.items a.more fine is.table_is is.rows_are enough a.expanded;
        keys = keys-of-all space lawful byte-keys first search.seen.strings (node_levels search) search.front
            (last_level (node_levels search)) a.more is.table_is is.written is.within fine
            (whole-closed space.caps space.parties space.asks space.good lawful.lawful a.more search.rows.items whole);
        some = has-some search a.more is;
        deep = λ e once. deep-of-all space lawful byte-keys first search.seen.strings (node_levels search) search.front
            (last_level (node_levels search)) a.more is.table_is is.written is.within fine
            (whole-closed space.caps space.parties space.asks space.good lawful.lawful a.more search.rows.items whole)
            (has-some search a.more is) once;
      }

  -- and all worlds to which moves lead are stored, as soon as they do
  pub ahead-reached : (table : List (Stored P)) (search : Search) (number : ℕ) → IsFine space first
      → IsAhead space first table search number → length search.seen.strings ≤ number → HasReached space first search
  ahead-reached table search number fine a enough =
      let is = a.is_search in
      let whole = whole-of space lawful first search.seen.strings (node_levels search) search.front number
      search.rows.items a.more is.table_is enough a.expanded in
      let begin : IsStored a.more 0 first = record {
        at = record { level = 0; world = first };
        within = is.table_is.begin;
        soon = omega arith;
        keys = record { places = refl; keys = refl };
      } in
      record {
        table = a.more;
        is_search = is;
        all = λ steps w r.
            let count : 0 + length r.moves ≡ steps = omega (arith, r.count) in
            subst (λ n. IsStored a.more n w) count
            (walk-stored space.caps space.parties space.good lawful.lawful a.more
            (whole-closed space.caps space.parties space.asks space.good lawful.lawful a.more search.rows.items whole)
            first 0 r.moves w fine.good begin r.leads);
        behind = λ x i.
            let p = In-place x a.more i in
            a.behind p.0 x (omega (arith, get-below a.more p.0 x p.1, is.table_is.count, enough)) p.1;
      }

  -- a search that halts has rows that may come
  pub stopped : (search : Search) (table : List (Stored P)) → IsSearch space first search table
      → IsSearched space first search false
  stopped search table is = record {
    findings = rows-found space lawful first search.front search.rows.items is.rows_are;
    keys = keys-of-some space lawful byte-keys first search.seen.strings (node_levels search) search.front
        (last_level (node_levels search)) table is.table_is is.written is.within;
    some = has-some search table is;
    deep = λ e. let clash : false ≡ true = e in absurd cc;
  }

  -- the states that a search counted
  pub counted : (explored : Explored) (search : Search) (is_complete : Bool)
      → IsSearched space first search is_complete → explored.states ≡ length search.seen.strings
      → HasOneNumberEach search.seen.strings → explored.depth ≡ last_level (node_levels search)
      → explored.is_complete ≡ is_complete → CountsStates space.parties space.bytes_of first explored
  counted explored search is_complete s states once depth complete = record {
    keys = search.seen.strings;
    count = sym states;
    once = once;
    reached = subst
        (λ (d : ℕ). AreKeysReached space.parties space.bytes_of first d explored.is_complete search.seen.strings)
        (sym depth)
        (subst (λ (b : Bool). AreKeysReached space.parties space.bytes_of first (last_level (node_levels search)) b
        search.seen.strings) (sym complete) s.keys);
  }

  -- a search that stored none counts none
  pub none-counted : (explored : Explored) → explored.states ≡ 0 → explored.is_complete ≡ false
      → CountsStates space.parties space.bytes_of first explored
  none-counted explored none stopped = record {
    keys = [];
    count = sym none;
    once = λ i j string at. absurd cc;
    reached = record {
      sound = λ bytes i. absurd i;
      complete = λ e. let clash : false ≡ true = sym stopped ∙ e in absurd cc;
    };
  }

  -- ---- the first world

  pub begun : (search : Search) → IsFine space first → search.seen.strings ≡ space.bytes_of first ∷ []
      → node_levels search ≡ 0 ∷ [] → search.rows.items ≡ []
      → IsSearch space first search (record { level = 0; world = first } ∷ [])
  begun search fine keys levels rows = record {
    table_is = subst (λ (l : List ℕ). IsWorldTable space first search.seen.strings l search.front only) (sym levels)
        (subst (λ (k : List (List ℕ)). IsWorldTable space first k (0 ∷ []) search.front only) (sym keys) (record {
          count = refl;
          keyed = λ i bytes x at here. keyed i bytes x at here;
          levelled = refl;
          worlds = λ x i. ⊎_elim (λ (e : here ≡ x). subst (IsStoredWorld space first) e stored) (λ j. absurd j) i;
          low = λ x i. ⊎_elim (λ (e : here ≡ x). subst (λ (z : Stored P). z.level ≤ search.front) e (omega arith))
              (λ j. absurd j) i;
          begin = inl refl;
        }));
    rows_are = subst (λ (r : List Found). AreRows space first search.front r) (sym rows)
        (record {
          sound = λ row i. absurd i;
          early = λ row i. absurd i;
          distinct = λ row other i. absurd i;
        });
    written = subst (λ (k : List (List ℕ)). AreWritten space k only) (sym keys) written;
    within = λ x i. ⊎_elim (λ (e : here ≡ x). subst (λ (z : Stored P). z.level ≤ last_level (node_levels search)) e
        (omega arith)) (λ j. absurd j) i;
    told = told;
    by_level = record {
      rising = λ i j x y le at at'. omega (arith, at-zero i x at);
      early = λ i x at. omega (arith, at-zero i x at);
    };
    rows_told = subst (λ (r : List Found). AreRowsTold space only r) (sym rows) (λ row i. absurd i);
  }
    where
      here : Stored P
      here = record { level = 0; world = first }

      only : List (Stored P)
      only = here ∷ []

      at-zero : (i : ℕ) (x : Stored P) → slice_get only i ≡ Some x → x.level ≡ 0
      at-zero zero x at = ap (λ (z : Stored P). z.level) (sym (same_Some here x at))
      at-zero (suc i) x at = absurd cc

      told : AreTold space search.nodes.items only
      told i node x at here' up = absurd (omega (arith, up, at-zero i x here'))

      stored : IsStoredWorld space first here
      stored = record { fine = fine; reached = reached-none space.parties first }

      written : AreWritten space (space.bytes_of first ∷ []) only
      written zero bytes x at is =
          ap (λ (z : Stored P). space.bytes_of z.world) (sym (same_Some here x is))
          ∙ same_Some (space.bytes_of first) bytes at
      written (suc i) bytes x at is = absurd cc

      keyed : (i : ℕ) (bytes : List ℕ) (x : Stored P) → slice_get (space.bytes_of first ∷ []) i ≡ Some bytes
          → slice_get only i ≡ Some x → IsKeyOf space bytes x.world
      keyed zero bytes x at is =
          subst (λ (z : Stored P). IsKeyOf space bytes z.world) (same_Some here x is)
          (subst (λ (b : List ℕ). IsKeyOf space b first) (same_Some (space.bytes_of first) bytes at)
          (own-key space lawful first first fine))
      keyed (suc i) bytes x at is = absurd cc
