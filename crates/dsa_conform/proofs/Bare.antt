-- Step objects without what was seen of some of them.
use Rattle.dsa_scenario.specs.declared.fields.Form.TheVariants as form
use Rattle.dsa_scenario.specs.declared.actions.StepKind.TheVariants as kind
use Rattle.std.proofs.Common.{◌≡◌, ◌<◌, ◌∙◌, ℕ, zero, suc, Bool, true, false, List, [], ◌∷◌, Option, Some, None, refl}
use Rattle.std.proofs.Common.{sym, ap, arith, map, length, get_or, option_map, codes, bytes_eq, replicate, set}
use Rattle.std.proofs.Common.{Ordering, Less, Equal, Greater, nat_cmp, is_eq, true≢false}
use Rattle.std.proofs.lemmas.{Map.Text.{is_eq-slice_cmp}, Slice.Eq.{bytes_eq-Decides}, List.{length-map}}
use Rattle.std.proofs.lemmas.Option.{same_Some, slice_get-map, slice_get_read}
use Rattle.std.specs.Prelude.{slice_get, if◌then◌else◌, option_and_then}
use Rattle.std.specs.{Cmp.Lexicographic.{slice_cmp}, Ordering.{match_ordering}}
use Rattle.serde_json.specs.Data.{Data, object, Members, no_members, member}
use Rattle.serde_json.specs.{Find.{get, get_member}, View.{view}, declared.value.Value.{Value}}
use Rattle.dsa_scenario.specs.declared.{fields.Form.{Form}, actions.{Action.{Action}, StepKind.{StepKind}}}
use Rattle.dsa_scenario.specs.Fields.{◌>>=◌, Row, Reading, reading_at, Maker, made_of}
use Rattle.dsa_scenario.specs.Actions.{KindRow, kind_row, row_of_kind, asked_by, kind_of, action_by, action_of}
use Rattle.dsa_conform.specs.{Every.{unseen_at}, Run.{AreRead}, Seen.{Seen, nothing_seen, seen_of, observation_of}}
use Rattle.dsa_conform.specs.Sights.{is_seen_key, bare_members, bare, bare_if, bared, is_marked, step_at, steps_counted}
use Rattle.dsa_conform.specs.declared.sights.Sights.{Sights}

-- ---- keys

key_apart : (q k : List ℕ) → (is_seen_key q ≡ is_seen_key k → ⊥) → bytes_eq q k ≡ false
key_apart q k other = differ (bytes_eq q k) refl
  where
    differ : (b : Bool) → bytes_eq q k ≡ b → b ≡ false
    differ true e = absurd (other (ap is_seen_key ((bytes_eq-Decides q k).0 e)))
    differ false e = refl

either : (o : Ordering) (a b : Option Data) → is_eq o ≡ false → match_ordering o a b a ≡ a
either Less a b e = refl
either Equal a b e = absurd (true≢false e)
either Greater a b e = refl

-- a member of another key is passed by
passes_by : (q k : List ℕ) (d : Data) (ms : Members) → (is_seen_key q ≡ is_seen_key k → ⊥)
    → get_member q (member k d ms) ≡ get_member q ms
passes_by q k d ms other =
    either (slice_cmp nat_cmp q k) (get_member q ms) (Some d) (is_eq-slice_cmp q k ∙ key_apart q k other)

not_both : (b : Bool) → b ≡ false → b ≡ true → ⊥
not_both b is_false is_true = true≢false (sym is_true ∙ is_false)

-- what stands at another key is kept
kept_behind : (q k : List ℕ) (d : Data) (ms : Members) (b : Bool) → is_seen_key k ≡ b → is_seen_key q ≡ false
    → get_member q (bare_members ms) ≡ get_member q ms
    → get_member q (if b then bare_members ms else member k d (bare_members ms)) ≡ get_member q (member k d ms)
kept_behind q k d ms true is other rest =
    rest ∙ sym (passes_by q k d ms (λ same. not_both (is_seen_key q) other (same ∙ is)))
kept_behind q k d ms false is other rest =
    ap (λ r. match_ordering (slice_cmp nat_cmp q k) r (Some d) r) rest

member_kept : (q : List ℕ) (ms : Members) → is_seen_key q ≡ false → get_member q (bare_members ms) ≡ get_member q ms
member_kept q no_members other = refl
member_kept q (member k d ms) other = kept_behind q k d ms (is_seen_key k) refl other (member_kept q ms other)

key_kept : (q : List ℕ) (d : Data) → is_seen_key q ≡ false → get q (bare d) ≡ get q d
key_kept q (object ms) other = member_kept q ms other
key_kept q _ other = refl

-- and of what was seen nothing is
gone_behind : (q k : List ℕ) (d : Data) (ms : Members) (b : Bool) → is_seen_key k ≡ b → is_seen_key q ≡ true
    → get_member q (bare_members ms) ≡ None
    → get_member q (if b then bare_members ms else member k d (bare_members ms)) ≡ None
gone_behind q k d ms true is seen rest = rest
gone_behind q k d ms false is seen rest =
    passes_by q k d (bare_members ms) (λ same. not_both (is_seen_key q) (same ∙ is) seen) ∙ rest

member_gone : (q : List ℕ) (ms : Members) → is_seen_key q ≡ true → get_member q (bare_members ms) ≡ None
member_gone q no_members seen = refl
member_gone q (member k d ms) seen = gone_behind q k d ms (is_seen_key k) refl seen (member_gone q ms seen)

key_gone : (q : List ℕ) (d : Data) → is_seen_key q ≡ true → get q (bare d) ≡ None
key_gone q (object ms) seen = member_gone q ms seen
key_gone q _ seen = refl

-- ---- what is asked

reading_kept : (wanted : Form) (q : List ℕ) (d : Data) → is_seen_key q ≡ false
    → reading_at wanted q (bare d) ≡ reading_at wanted q d
reading_kept (form.Whole least most) q d other = rw (key_kept q d other) refl
reading_kept _ q d other = rw (key_kept q d other) refl

then_same : {A B : Type 0} (o : Option A) (f g : A → Option B) → ((x : A) → f x ≡ g x) → (o >>= f) ≡ (o >>= g)
then_same None f g each = refl
then_same (Some x) f g each = each x

then_kept : {A B : Type 0} (o p : Option A) (f g : A → Option B) → o ≡ p → ((x : A) → f x ≡ g x)
    → (o >>= f) ≡ (p >>= g)
then_kept o p f g same each = ap (λ x. x >>= f) same ∙ then_same p f g each

-- none of the keys says what was seen
abbrev AreOtherKeys : List Row → Type 0
AreOtherKeys [] = Unit {0}
AreOtherKeys (row ∷ rows) = (is_seen_key row.0 ≡ false) × AreOtherKeys rows

made_kept : (rows : List Row) (made : Maker Action rows) (d : Data) → AreOtherKeys rows
    → made_of {A = Action} rows made (bare d) ≡ made_of {A = Action} rows made d
made_kept [] made d h = refl
made_kept (row ∷ rows) made d h =
    then_kept (reading_at row.1 row.0 (bare d)) (reading_at row.1 row.0 d)
    (λ reading. made_of {A = Action} rows (made reading) (bare d))
    (λ reading. made_of {A = Action} rows (made reading) d) (reading_kept row.1 row.0 d h.0)
    (λ reading. made_kept rows (made reading) d h.1)

abbrev HasOtherKeys : KindRow → Type 0
HasOtherKeys (kind_row name rows asked) = AreOtherKeys rows

row_kept : (row : KindRow) (d : Data) → HasOtherKeys row → asked_by row (bare d) ≡ asked_by row d
row_kept (kind_row name rows asked) d h = made_kept rows asked d h

-- each kind of steps
each_other : (kind : StepKind) → HasOtherKeys (row_of_kind kind)
each_other kind.Queue = (refl, (refl, (refl, (refl, (refl, (refl, (refl, (refl, tt))))))))
each_other kind.Group = (refl, (refl, (refl, (refl, (refl, tt)))))
each_other kind.Enqcmd = (refl, (refl, (refl, (refl, (refl, tt)))))
each_other kind.Movdir = (refl, (refl, (refl, (refl, tt))))
each_other kind.Dispatch = (refl, tt)
each_other kind.Fetch = (refl, (refl, tt))
each_other kind.Start = (refl, tt)
each_other kind.Finish = (refl, (refl, (refl, tt)))
each_other kind.Command = (refl, tt)
each_other kind.Poll = tt
each_other kind.Clear = tt

kind_kept : (d : Data) → kind_of (bare d) ≡ kind_of d
kind_kept d = rw (key_kept (codes "do") d refl) refl

action_kept : (d : Data) → action_of (bare d) ≡ action_of d
action_kept d =
    then_kept (kind_of (bare d)) (kind_of d) (λ kind. action_by kind (bare d)) (λ kind. action_by kind d) (kind_kept d)
    (λ kind. row_kept (row_of_kind kind) d (each_other kind))

-- ---- what is read

seen_bare : (d : Data) → seen_of (bare d) ≡ Some nothing_seen
seen_bare d = rw (key_gone (codes "answer") d refl, key_gone (codes "zf") d refl) refl

abbrev with_nothing : Action → Option (Action × Seen)
with_nothing action = Some (action, nothing_seen)

abbrev with_this : Action → Seen → Option (Action × Seen)
with_this action seen = Some (action, seen)

observed_bare : (d : Data) → observation_of (bare d) ≡ (action_of d >>= with_nothing)
observed_bare d =
    then_kept (action_of (bare d)) (action_of d) (λ action. seen_of (bare d) >>= with_this action) with_nothing
    (action_kept d) (λ action. ap (λ (o : Option Seen). o >>= with_this action) (seen_bare d))

-- whatever counted, nothing does now
bare_read : (b : Bool) (d : Data) (o : Action × Seen) → observation_of (bare_if b d) ≡ Some o
    → observation_of (bare d) ≡ Some (o.0, nothing_seen)
bare_read b d o h = observed_bare d ∙ of b h
  where
    of_bare : (a : Option Action) → (a >>= with_nothing) ≡ Some o → (a >>= with_nothing) ≡ Some (o.0, nothing_seen)
    of_bare None is = absurd cc
    of_bare (Some a) is =
        ap (λ (p : Action × Seen). with_nothing p.0) (same_Some {A = Action × Seen} (a, nothing_seen) o is)

    of_seen : (a : Action) (s : Option Seen) → (s >>= with_this a) ≡ Some o
        → with_nothing a ≡ Some (o.0, nothing_seen)
    of_seen a None is = absurd cc
    of_seen a (Some seen) is =
        ap (λ (p : Action × Seen). with_nothing p.0) (same_Some {A = Action × Seen} (a, seen) o is)

    of_read : (a : Option Action) → (a >>= λ action. seen_of d >>= with_this action) ≡ Some o
        → (a >>= with_nothing) ≡ Some (o.0, nothing_seen)
    of_read None is = absurd cc
    of_read (Some a) is = of_seen a (seen_of d) is

    of : (b : Bool) → observation_of (bare_if b d) ≡ Some o
        → (action_of d >>= with_nothing) ≡ Some (o.0, nothing_seen)
    of true is = of_bare (action_of d) (sym (observed_bare d) ∙ is)
    of false is = of_read (action_of d) is

-- ---- steps that are marked

same_object : (o : Option Data) → o ≡ option_map (bare_if false) o
same_object None = refl
same_object (Some d) = refl

object_at : (marks : List Bool) (steps : List Data) (i : ℕ)
    → slice_get (bared marks steps) i ≡ option_map (bare_if (is_marked marks i)) (slice_get steps i)
object_at [] steps i = same_object (slice_get steps i)
object_at (mark ∷ marks) [] i = refl
object_at (mark ∷ marks) (step ∷ steps) zero = refl
object_at (mark ∷ marks) (step ∷ steps) (suc i) = object_at marks steps i

-- what is read of a step, with its mark
read_marked : (marks : List Bool) (vs : List Value) (i : ℕ) (v : Value) (b : Bool) → i < length vs
    → v ≡ get_or vs i v → is_marked marks i ≡ b
    → step_at (bared marks (map view vs)) i ≡ observation_of (bare_if b (view v))
read_marked marks vs i v b inside is mark =
    let item : slice_get vs i ≡ Some v = slice_get_read vs (length vs) i v refl inside is in
    let found : option_map (bare_if (is_marked marks i)) (slice_get (map view vs) i) ≡ Some (bare_if b (view v)) =
    rw (slice_get-map view vs i, item, mark) refl in
    ap (option_and_then observation_of) (object_at marks (map view vs) i ∙ found)

pub read_whole : (marks : List Bool) (vs : List Value) (i : ℕ) (v : Value) (o : Option (Action × Seen)) → i < length vs
    → v ≡ get_or vs i v → is_marked marks i ≡ false → o ≡ observation_of (view v)
    → o ≡ step_at (bared marks (map view vs)) i
read_whole marks vs i v o inside is mark reads = reads ∙ sym (read_marked marks vs i v false inside is mark)

pub read_bare : (marks : List Bool) (vs : List Value) (i : ℕ) (v : Value) (o : Option Action) → i < length vs
    → v ≡ get_or vs i v → is_marked marks i ≡ true → o ≡ action_of (view v)
    → (o >>= with_nothing) ≡ step_at (bared marks (map view vs)) i
read_bare marks vs i v o inside is mark reads =
    ap (λ (a : Option Action). a >>= with_nothing) reads ∙ sym (observed_bare (view v))
    ∙ sym (read_marked marks vs i v true inside is mark)

pub length_bared : (marks : List Bool) (steps : List Data) → length (bared marks steps) ≡ length steps
length_bared [] steps = refl
length_bared (mark ∷ marks) [] = refl
length_bared (mark ∷ marks) (step ∷ steps) = ap suc (length_bared marks steps)

pub none_marked : (n : ℕ) (steps : List Data) → bared (replicate n false) steps ≡ steps
none_marked zero steps = refl
none_marked (suc n) [] = refl
none_marked (suc n) (step ∷ steps) = ap (λ l. step ∷ l) (none_marked n steps)

read_first : (d : Data) (ds : List Data) (o : Action × Seen) (os : List (Action × Seen))
    → observation_of d ≡ Some o → AreRead ds os → AreRead (d ∷ ds) (o ∷ os)
read_first d ds o os first rest = rw (first, rest) refl

-- one step more is marked
marks_one : (marks : List Bool) (steps : List Data) (observed : List (Action × Seen)) (i : ℕ)
    → AreRead (bared marks steps) observed → i < length marks
    → AreRead (bared (set marks i true) steps) (unseen_at i observed)
marks_one [] steps observed i h inside = absurd (omega (arith, inside))
marks_one (mark ∷ marks) [] [] zero h inside = refl
marks_one (mark ∷ marks) [] [] (suc i) h inside = refl
marks_one (mark ∷ marks) [] (o ∷ os) i h inside = absurd cc
marks_one (mark ∷ marks) (d ∷ ds) [] i h inside = absurd cc
marks_one (mark ∷ marks) (d ∷ ds) (o ∷ os) zero h inside =
    let first : observation_of (bare_if mark d) ≡ Some o = cc in
    let rest : map observation_of (bared marks ds) ≡ map Some os = cc in
    read_first (bare d) (bared marks ds) (o.0, nothing_seen) os (bare_read mark d o first) rest
marks_one (mark ∷ marks) (d ∷ ds) (o ∷ os) (suc i) h inside =
    let first : observation_of (bare_if mark d) ≡ Some o = cc in
    let rest : map observation_of (bared marks ds) ≡ map Some os = cc in
    read_first (bare_if mark d) (bared (set marks i true) ds) o (unseen_at i os) first
    (marks_one marks ds os i rest (omega (arith, inside)))

pub marked : (marks new : List Bool) (steps : List Data) (observed : List (Action × Seen)) (i : ℕ) → i < length marks
    → new ≡ set marks i true → AreRead (bared marks steps) observed
    → AreRead (bared new steps) (unseen_at i observed)
marked marks new steps observed i inside is h =
    rw is (marks_one marks steps observed i h inside)

pub length_counted : (sights : Sights) → length (steps_counted sights) ≡ length sights.head.now.steps.now
length_counted sights =
    length_bared sights.left_out.now (map view sights.head.now.steps.now) ∙ length-map sights.head.now.steps.now view
