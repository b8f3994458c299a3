-- A walk: where it has come to, what its tries lead to, and where it stops.
use Rattle.std.proofs.Common.{◌≡◌, ◌⊎◌, ℕ, zero, suc, ◌+◌, ◌^◌, ◌<◌, ◌≤◌, List, [], ◌∷◌, ◌++◌, Some, refl, sym, ap}
use Rattle.std.proofs.Common.{◌∙◌, subst}
use Rattle.std.proofs.Common.{length, inl, inr, ⊎_elim, arith, get_or, false}
use Rattle.std.specs.Prelude.{remove}
use Rattle.dsa_base.{specs.Lists.{In}}
use Rattle.dsa_book.specs.declared.answer.Reply.{Reply}
use Rattle.dsa_keys.specs.Parties.{World, Made, Stored, HaveEqualKeys, HasSameMove, IsStored, world_after}
use Rattle.dsa_keys.proofs.Parties.{worlds-answer}
use Rattle.dsa_parties.specs.declared.places.Move.{Move}
use Rattle.dsa_explore.specs.declared.{found.{Finding.{Finding}, Found.{Found}}, stored.Try.{Try}}
use Rattle.dsa_explore.specs.{Explored.{IsFound}, Findings.{findings_of}, Rows.{AddsRows}, Ways.{IsTakenStep, IsWay}}
use Rattle.dsa_explore.specs.{Bounds.{CanReachLongKey}}
use Rattle.dsa_explore.specs.Search.{Space, IsFine, IsLawfulSpace, IsReached, AreRows, IsStepNoted}
use Rattle.dsa_explore.specs.Search.{IsExpanded, queue_taken_from}
use Rattle.dsa_explore.specs.Sampling.{IsAllFound, IsWalkStep, AreWalkSteps, LeadsBackAlone, StopsAt, IsRandomWalk}
use Rattle.dsa_explore.specs.Walking.{HasComeTo, HasStopped, IsTriedBack}
use Rattle.dsa_regs.specs.declared.Caps.{Caps}
use Rattle.dsa_parties.specs.{declared.script.Script.{Script}, Standing.{Standing}}
use Rattle.dsa_explore.specs.declared.{walked.Walked.{Walked}, walking.Leads.{Leads}}
use Rattle.dsa_explore.specs.{Asks.{ask_of}, Ready.{is_filled, HasLabels}, Trying.{IsThere}}
use Rattle.dsa_explore.specs.Walked.{space_of, world_of}
use Rattle.dsa_explore.specs.Walking.{HasLed, IsAtWalk, IsMadeTry}
use Rattle.dsa_explore.proofs.Growth.{fine-more, rows-on}
use Rattle.dsa_explore.proofs.Lawful.{byte-keys, space-lawful}
use Rattle.dsa_explore.proofs.Noted.{rows-added}
use Rattle.dsa_explore.proofs.Reached.{reached-more, reached-none, reached-tells}
use Rattle.dsa_explore.proofs.Steps.{mirrored-findings}
use Rattle.dsa_explore.proofs.Tables.{all-tried, found-more, noted-more, other-keys, queues-agree, same-keys}
use Rattle.dsa_explore.proofs.Tables.{tried-as, tried-by}

-- all that one list of rows finds, the other finds as soon
abbrev pub FindsAll : List Found → List Found → Type 0
FindsAll rows rows' = (steps : ℕ) (finding : Finding) → IsFound rows steps finding → IsFound rows' steps finding

-- ---- lists

length-one : {X : Type 0} (xs : List X) (x : X) → length (xs ++ x ∷ []) ≡ length xs + 1
length-one [] x = refl
length-one (y ∷ ys) x = omega (arith, length-one ys x)

-- what is in a list is what is removed from it, or is left
pub In-removed : {X : Type 0} (xs : List X) (i : ℕ) (d x : X) → i < length xs → In x xs
    → (get_or xs i d ≡ x) ⊎ In x (remove xs i)
In-removed [] i d x below within = absurd within
In-removed (y ∷ xs) zero d x below (inl e) = inl e
In-removed (y ∷ xs) zero d x below (inr j) = inr j
In-removed (y ∷ xs) (suc i) d x below (inl e) = inr (inl e)
In-removed (y ∷ xs) (suc i) d x below (inr j) =
    ⊎_elim (λ e. inl e) (λ k. inr (inr k)) (In-removed xs i d x (omega (arith, below)) j)

-- ---- steps of a walk

module _ {P M : Type 0} (space : Space P M) where
  step-more : (rows rows' : List Found) → FindsAll rows rows' → (steps : ℕ) (w : World P) (made : Made M) (w' : World P)
      → IsWalkStep space rows steps w made w' → IsWalkStep space rows' steps w made w'
  step-more rows rows' more steps w made w' s = record {
    leads = s.leads;
    on = s.on;
    told = λ finding i. more steps finding (s.told finding i);
  }

  -- more rows find as much
  pub steps-more : (rows rows' : List Found) → FindsAll rows rows' → (before : ℕ) (w : World P) (moves : List (Made M))
      (v : World P) → AreWalkSteps space rows before w moves v → AreWalkSteps space rows' before w moves v
  steps-more rows rows' more before w [] v same = same
  steps-more rows rows' more before w (made ∷ rest) v s = (
    s.0,
    (
      step-more rows rows' more (before + 1) w made s.0 s.1.0,
      steps-more rows rows' more (before + 1) s.0 rest v s.1.1,
    ),
  )

  -- one step more
  pub steps-on : (rows : List Found) (before : ℕ) (w : World P) (moves : List (Made M)) (v : World P) (made : Made M)
      (v' : World P) (steps : ℕ) → AreWalkSteps space rows before w moves v → steps ≡ before + length moves + 1
      → IsWalkStep space rows steps v made v' → AreWalkSteps space rows before w (moves ++ made ∷ []) v'
  steps-on rows before w [] v made v' steps same count s =
      let e : steps ≡ before + 1 = omega (arith, count) in (
        v',
        (
          subst (λ (u : World P). IsWalkStep space rows (before + 1) u made v') (sym same)
              (subst (λ (n : ℕ). IsWalkStep space rows n v made v') e s),
          refl,
        ),
      )
  steps-on rows before w (first ∷ rest) v made v' steps before-is count s = (
    before-is.0,
    (
      before-is.1.0,
      steps-on rows (before + 1) before-is.0 rest v made v' steps before-is.1.1 (omega (arith, count)) s,
    ),
  )

  back-more : (rows rows' : List Found) → FindsAll rows rows' → (steps : ℕ) (w : World P)
      → LeadsBackAlone space rows steps w → LeadsBackAlone space rows' steps w
  back-more rows rows' more steps w b = record {
    back = b.back;
    told = λ w' move reply step finding i. more steps finding (b.told w' move reply step finding i);
  }

  stops-more : (rows rows' : List Found) → FindsAll rows rows' → (first : World P) (set_up steps : ℕ) (last : World P)
      → StopsAt space first set_up rows steps last → StopsAt space first set_up rows' steps last
  stops-more rows rows' more first set_up steps last (StopsAt.stops_at_end b) =
      StopsAt.stops_at_end (back-more rows rows' more (steps + 1) last b)
  stops-more rows rows' more first set_up steps last (StopsAt.stops_at_full_history full) =
      StopsAt.stops_at_full_history full
  stops-more rows rows' more first set_up steps last (StopsAt.stops_at_long_key long) = StopsAt.stops_at_long_key long

  -- a walk is one where more is found
  pub walk-found : (rows rows' : List Found) → FindsAll rows rows' → (first : World P) (set_up steps : ℕ)
      → IsRandomWalk space first set_up rows steps → IsRandomWalk space first set_up rows' steps
  walk-found rows rows' more first set_up steps w = record {
    moves = w.moves;
    last = w.last;
    made = steps-more rows rows' more 0 first w.moves w.last w.made;
    count = w.count;
    stops = stops-more rows rows' more first set_up steps w.last w.stops;
  }

  -- each move that may come from the last world was tried, and led back
  pub led-back : (rows : List Found) (steps : ℕ) (last : World P)
      → IsExpanded space.parties space.asks (record { level = steps; world = last } ∷ []) rows (steps + 1) last
      → LeadsBackAlone space rows (steps + 1) last
  led-back rows steps last all = record {
    back = λ w' move reply step. keys w' (all w' move reply step).stored;
    told = λ w' move reply step. (all w' move reply step).told;
  }
    where
      keys : (w' : World P) → IsStored (record { level = steps; world = last } ∷ []) (steps + 1) w'
          → HaveEqualKeys w' last
      keys w' s = ⊎_elim
          (λ (e : record { level = steps; world = last } ≡ s.at).
          subst (λ (x : Stored P). HaveEqualKeys w' x.world) (sym e) s.keys) (λ j. absurd j) s.within

-- ---- ways

-- one step more
pub way-on : {P : Type 0} (space : Space P Move) (w : World P) (way : List Try) (v : World P) (tried : Try)
    (v' : World P) → IsWay space w way v → IsTakenStep space v tried v' → IsWay space w (way ++ tried ∷ []) v'
way-on {P} space w [] v tried v' same step =
    (v', (subst (λ (u : World P). IsTakenStep space u tried v') (sym same) step, refl))
way-on space w (first ∷ rest) v tried v' way step =
    (way.0, (way.1.0, way-on space way.0 rest v tried v' way.1.1 step))

-- ---- one try

module _ {P : Type 0} (space : Space P Move) (lawful : IsLawfulSpace space)
    (byte-keys : (w v : World P) → HaveEqualKeys w v → space.bytes_of w ≡ space.bytes_of v) (first : World P) where
  -- a walk begins
  pub come-first : IsFine space first → HasComeTo space first [] [] first
  come-first fine = record {
    stored = record { fine = fine; reached = reached-none space.parties first };
    leads = refl;
    moves = [];
    count = refl;
    made = refl;
    rows_are = record {
      sound = λ row i. absurd i;
      early = λ row i. absurd i;
      distinct = λ row other i. absurd i;
    };
  }

  module _ (way : List Try) (rows : List Found) (last : World P) (come : HasComeTo space first way rows last)
      (v : World P) (fine : IsFine space v) (here : HaveEqualKeys v last) where
    abbrev pub n : ℕ
    n = length way

    abbrev pub at : Stored P
    at = record { level = n; world = last }

    -- what cannot be made leads nowhere
    pub tried-nowhere : (tried : Try)
        → ((u : World P) (reply : Reply) → world_after space.parties v tried.by reply ≡ Some u
        → queue_taken_from reply ≡ tried.queue → ⊥) → IsTriedBack space rows n last tried
    tried-nowhere tried cannot =
        tried-as space.caps space.parties space.asks space.good lawful.lawful (at ∷ []) rows (n + 1) last v tried.by
        tried.queue come.stored.fine.good fine.good (other-keys v last here)
        (λ u reply step from. absurd (cannot u reply step from))

    -- where all was tried, no step leads on
    pub stops-there : (tries : List Try)
        → ((w : World P) (move : Move) (reply : Reply) → world_after space.parties v move reply ≡ Some w
        → In (record { by = move; queue = queue_taken_from reply }) tries)
        → ((tried : Try) → In tried tries → IsTriedBack space rows n last tried)
        → LeadsBackAlone space rows (n + 1) last
    stops-there tries covers tried = led-back space rows n last
        (all-tried space.caps space.parties space.asks space.good lawful.lawful (at ∷ []) rows (n + 1) last v
        (λ move queue. In (record { by = move; queue = queue }) tries) come.stored.fine.good fine.good
        (other-keys v last here) covers (λ move queue i. tried (record { by = move; queue = queue }) i))

    -- a key that is too long
    pub too-long-here : (most : ℕ) → most < length (space.bytes_of v)
        → CanReachLongKey space.parties space.bytes_of first most (n + 1)
    too-long-here most long = record {
      bytes = space.bytes_of v;
      reached = record {
        world = last;
        steps = n;
        reached = come.stored.reached;
        soon = omega arith;
        same = sym (byte-keys v last here);
      };
      long = long;
    }

    module _ (v' : World P) (tried : Try) (reply : Reply)
        (step : world_after space.parties v tried.by reply ≡ Some v') (new : List Found)
        (added : AddsRows (n + 1) (findings_of (space.asks v.places tried.by) v v' reply) rows new) where
      pub same : HasSameMove space.caps space.parties space.good v v' last tried.by reply
      same = worlds-answer space.caps space.parties space.good lawful.lawful v v' last tried.by reply fine.good
          come.stored.fine.good here step

      mirrored : findings_of (space.asks v.places tried.by) v v' reply
          ≡ findings_of (space.asks last.places tried.by) last same.v' same.reply'
      mirrored = mirrored-findings space.asks space.caps space.parties space.good lawful.lawful v v' last tried.by reply
          here same

      pub fine-there : IsFine space v'
      fine-there = fine-more space lawful first v v' tried.by reply fine step

      pub rows-there : AreRows space first (n + 1) new
      rows-there = rows-added space lawful byte-keys first (n + 1)
          (findings_of (space.asks v.places tried.by) v v' reply) rows new come.rows_are
          (λ finding i. reached-tells space.parties space.asks first last same.v' n tried.by same.reply' finding
          come.stored.reached same.leads (subst (λ (l : List Finding). In finding l) mirrored i)) added

      found-there : IsAllFound space.asks new (n + 1) v tried.by reply v'
      found-there finding i =
          let has = added.all finding i in
          record {
            row = has.row;
            within = has.within;
            same = has.same;
            soon = rows-there.early has.row has.within;
          }

      -- the walk stands where it did, with more rows
      pub come-same : HasComeTo space first way new last
      come-same = record {
        stored = come.stored;
        leads = come.leads;
        moves = come.moves;
        count = come.count;
        made = steps-more space rows new (λ k finding f. found-more rows new k finding added.kept f) 0 first come.moves
            last come.made;
        rows_are = rows-there;
      }

      -- what was tried before was
      pub tried-still : (other : Try) → IsTriedBack space rows n last other → IsTriedBack space new n last other
      tried-still other t = λ u answer leads from.
          noted-more space.asks (at ∷ []) (at ∷ []) rows new (λ x i. i) added.kept (n + 1) last other.by answer u
          (t u answer leads from)

      -- a try that led back
      module _ (bytes : space.bytes_of v' ≡ space.bytes_of v) where
        pub keys-there : HaveEqualKeys v' last
        keys-there = same-keys v' v last (lawful.keys v' v fine-there fine bytes) here

        noted : IsStepNoted space.asks (at ∷ []) new (n + 1) v tried.by reply v'
        noted = record {
          stored = record { at = at; within = inl refl; soon = omega arith; keys = keys-there };
          told = found-there;
        }

        pub tried-there : ((q p : ℕ) → tried.queue ≡ Some q → queue_taken_from reply ≡ Some p → q ≡ p)
            → IsTriedBack space new n last tried
        tried-there fits =
            tried-as space.caps space.parties space.asks space.good lawful.lawful (at ∷ []) new (n + 1) last v tried.by
            tried.queue come.stored.fine.good fine.good (other-keys v last here)
            (tried-by space.caps space.parties space.asks space.good lawful.lawful (at ∷ []) new (n + 1) v v' tried.by
            reply tried.queue fine.good step fits noted)

      -- a try that led on
      module _ (bytes : space.bytes_of v' ≡ space.bytes_of v → ⊥) (taken : Try) (by : taken.by ≡ tried.by)
          (queue : queue_taken_from reply ≡ taken.queue) where
        abbrev pub made : Made Move
        made = record { move = tried.by; reply = same.reply' }

        walk-step : IsWalkStep space new (n + 1) last made same.v'
        walk-step = record {
          leads = same.leads;
          on = λ k. bytes (byte-keys v' last (same-keys v' same.v' last same.keys k) ∙ sym (byte-keys v last here));
          told = λ finding i. found-there finding (subst (λ (l : List Finding). In finding l) (sym mirrored) i);
        }

        way-step : IsTakenStep space last taken same.v'
        way-step = record {
          reply = same.reply';
          leads = subst (λ (m : Move). world_after space.parties last m same.reply' ≡ Some same.v') (sym by) same.leads;
          taken = sym (queues-agree v'.labels same.v'.labels reply same.reply' same.replies) ∙ queue;
        }

        longer : length (way ++ taken ∷ []) ≡ n + 1
        longer = length-one way taken

        pub come-further : HasComeTo space first (way ++ taken ∷ []) new same.v'
        come-further = record {
          stored = record {
            fine = fine-more space lawful first last same.v' tried.by same.reply' come.stored.fine same.leads;
            reached = subst (λ (k : ℕ). IsReached space.parties first k same.v') (sym longer)
                (reached-more space.parties first last same.v' n tried.by same.reply' come.stored.reached same.leads);
          };
          leads = way-on space first way last taken same.v' come.leads way-step;
          moves = come.moves ++ made ∷ [];
          count = longer ∙ ap (λ k. k + 1) come.count ∙ sym (length-one come.moves made);
          made = steps-on space new 0 first come.moves last made same.v' (n + 1)
              (steps-more space rows new (λ k finding f. found-more rows new k finding added.kept f) 0 first come.moves
              last come.made) (omega (arith, come.count)) walk-step;
          rows_are = rows-on space lawful first (n + 1) (length (way ++ taken ∷ []) + 1) new rows-there
              (omega (arith, longer));
        }

        pub keys-further : HaveEqualKeys v' same.v'
        keys-further = same.keys

      -- a key that is too long
      pub too-long-there : (most : ℕ) → most < length (space.bytes_of v')
          → CanReachLongKey space.parties space.bytes_of first most (n + 1)
      too-long-there most long = record {
        bytes = space.bytes_of v';
        reached = record {
          world = same.v';
          steps = n + 1;
          reached = reached-more space.parties first last same.v' n tried.by same.reply' come.stored.reached same.leads;
          soon = omega arith;
          same = sym (byte-keys v' same.v' same.keys);
        };
        long = long;
      }

-- ---- one turn

-- after a turn that led back or nowhere the walk stands where it did, and what was tried before was
pub record IsTurn {P : Type 0} (space : Space P Move) (first : World P) (way : List Try) (rows : List Found)
    (last : World P) (tried : Try) (more : List Found) : Type 0 where
  pub come : HasComeTo space first way more last
  pub this : IsTriedBack space more (length way) last tried
  pub still : (other : Try) → IsTriedBack space rows (length way) last other
      → IsTriedBack space more (length way) last other

-- so less is left
pub left-less : {P : Type 0} (space : Space P Move) (first : World P) (way : List Try) (rows : List Found)
    (last : World P) (tried : Try) (more : List Found) → IsTurn space first way rows last tried more
    → (all left : List Try) (i : ℕ) (d : Try) → i < length left → tried ≡ get_or left i d
    → ((t : Try) → In t all → In t left ⊎ IsTriedBack space rows (length way) last t)
    → (t : Try) → In t all → In t (remove left i) ⊎ IsTriedBack space more (length way) last t
left-less space first way rows last tried more turn all left i d below is before t within = ⊎_elim
    (λ j. ⊎_elim
    (λ (e : get_or left i d ≡ t).
    inr (subst (λ (z : Try). IsTriedBack space more (length way) last z) (is ∙ e) turn.this))
    (λ k. inl k) (In-removed left i d t below j))
    (λ b. inr (turn.still t b)) (before t within)

pub removed-less : {X : Type 0} (xs : List X) (i : ℕ) → i < length xs → length (remove xs i) + 1 ≡ length xs
removed-less [] i below = absurd (omega (arith, below))
removed-less (x ∷ xs) zero below = omega arith
removed-less (x ∷ xs) (suc i) below = omega (arith, removed-less xs i (omega (arith, below)))

module _ (caps : Caps) (script : Script) (first : World Standing) (way : List Try) (rows : List Found)
    (last : World Standing) (come : HasComeTo (space_of caps script) first way rows last) (old : Walked)
    (there : IsThere (space_of caps script) (record { level = length way; world = last }) (world_of old))
    (labels : HasLabels old) (tried : Try) (new : Walked) (steps : ℕ) (count : steps ≡ length way + 1)
    (more : List Found) where
  abbrev pub on_device : Space Standing Move
  on_device = space_of caps script

  rules-kept : IsLawfulSpace on_device
  rules-kept = space-lawful caps script

  added : (made : IsMadeTry script (world_of old) tried (world_of new) steps rows more)
      → AddsRows (length way + 1)
      (findings_of (ask_of script (world_of old).places tried.by) (world_of old) (world_of new) made.reply) rows more
  added made = subst (λ (k : ℕ). AddsRows k
      (findings_of (ask_of script (world_of old).places tried.by) (world_of old) (world_of new) made.reply) rows more)
      count made.told

  pub turn-nowhere : is_filled old.machine.device ≡ false → HasLed script old tried new steps rows more Leads.Nowhere
      → IsTurn on_device first way rows last tried more
  turn-nowhere room led =
      subst (λ (r : List Found). IsTurn on_device first way rows last tried r) (sym led.rows_are) (record {
        come = come;
        this = tried-nowhere on_device rules-kept byte-keys first way rows last come (world_of old) there.fine
            there.keys tried (led.cannot labels room);
        still = λ other t. t;
      })

  pub turn-back : HasLed script old tried new steps rows more Leads.Back
      → IsTurn on_device first way rows last tried more
      × (IsThere on_device (record { level = length way; world = last }) (world_of new) × HasLabels new)
  turn-back led =
      let made = led.on.made in (
        record {
          come = come-same on_device rules-kept byte-keys first way rows last come (world_of old) there.fine
              there.keys (world_of new) tried made.reply made.leads more (added made);
          this = tried-there on_device rules-kept byte-keys first way rows last come (world_of old) there.fine
              there.keys (world_of new) tried made.reply made.leads more (added made) led.same made.fits;
          still = tried-still on_device rules-kept byte-keys first way rows last come (world_of old)
              there.fine there.keys (world_of new) tried made.reply made.leads more (added made);
        },
        (
          record {
            fine = fine-there on_device rules-kept byte-keys first way rows last come (world_of old)
                there.fine there.keys (world_of new) tried made.reply made.leads more (added made);
            keys = keys-there on_device rules-kept byte-keys first way rows last come (world_of old)
                there.fine there.keys (world_of new) tried made.reply made.leads more (added made) led.same;
          },
          led.on.labels labels,
        ),
      )

  pub turn-on : (taken : Try) → HasLed script old tried new steps rows more (Leads.On taken)
      → IsAtWalk on_device first (way ++ taken ∷ []) more new
  turn-on taken led =
      let made = led.on.made in
      record {
        last = _;
        come = come-further on_device rules-kept byte-keys first way rows last come (world_of old) there.fine
            there.keys (world_of new) tried made.reply made.leads more (added made) led.other taken led.by led.queue;
        there = record {
          fine = fine-there on_device rules-kept byte-keys first way rows last come (world_of old) there.fine
              there.keys (world_of new) tried made.reply made.leads more (added made);
          keys = keys-further on_device rules-kept byte-keys first way rows last come (world_of old)
              there.fine there.keys (world_of new) tried made.reply made.leads more (added made) led.other taken led.by
              led.queue;
        };
        labels = led.on.labels labels;
      }

  pub turn-far : (set_up : ℕ) → HasLed script old tried new steps rows more Leads.TooFar
      → HasStopped on_device first set_up way more
  turn-far set_up led = ⊎_elim
      (λ p. subst (λ (r : List Found). HasStopped on_device first set_up way r) (sym p.0) (record {
        last = last;
        come = come;
        stops = StopsAt.stops_at_long_key (too-long-here on_device rules-kept byte-keys first way rows last
            come (world_of old) there.fine there.keys (2 ^ 20) p.1);
      }))
      (λ p.
      let made = p.0.made in
      record {
        last = last;
        come = come-same on_device rules-kept byte-keys first way rows last come (world_of old) there.fine
            there.keys (world_of new) tried made.reply made.leads more (added made);
        stops = StopsAt.stops_at_long_key (too-long-there on_device rules-kept byte-keys first way rows last
            come (world_of old) there.fine there.keys (world_of new) tried made.reply made.leads more (added made)
            (2 ^ 20) p.1);
      }) led.long

-- where all was tried, the walk has stopped
pub turn-last : {P : Type 0} (space : Space P Move) → IsLawfulSpace space
    → ((w v : World P) → HaveEqualKeys w v → space.bytes_of w ≡ space.bytes_of v) → (first : World P) (set_up : ℕ)
    (way : List Try) (rows : List Found) (last : World P) → HasComeTo space first way rows last → (v : World P)
    → IsFine space v → HaveEqualKeys v last → (tries : List Try)
    → ((w : World P) (move : Move) (reply : Reply) → world_after space.parties v move reply ≡ Some w
    → In (record { by = move; queue = queue_taken_from reply }) tries)
    → ((t : Try) → In t tries → IsTriedBack space rows (length way) last t)
    → HasStopped space first set_up way rows
turn-last space lawful byte-keys first set_up way rows last come v fine keys tries covers tried = record {
  last = last;
  come = come;
  stops = StopsAt.stops_at_end
      (stops-there space lawful byte-keys first way rows last come v fine keys tries covers tried);
}

-- where the history is full, too
pub turn-full : {P : Type 0} (space : Space P Move) (first : World P) (set_up : ℕ) (way : List Try)
    (rows : List Found) (last : World P) → HasComeTo space first way rows last → 2 ^ 20 ≤ set_up + length way
    → HasStopped space first set_up way rows
turn-full space first set_up way rows last come full = record {
  last = last;
  come = come;
  stops = StopsAt.stops_at_full_history full;
}

-- ---- the walk

-- a walk that has stopped is one, where as much is found
pub stopped-walk : {P : Type 0} (space : Space P Move) (first : World P) (set_up : ℕ) (way : List Try)
    (rows rows' : List Found) → FindsAll rows rows' → HasStopped space first set_up way rows
    → IsRandomWalk space first set_up rows' (length way)
stopped-walk space first set_up way rows rows' more h =
    walk-found space rows rows' more first set_up (length way) (record {
      moves = h.come.moves;
      last = h.last;
      made = h.come.made;
      count = h.come.count;
      stops = h.stops;
    })
