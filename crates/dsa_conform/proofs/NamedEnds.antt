-- Documents ask for the end of an entry by its name.
use Rattle.dsa_scenario.specs.declared.actions.StepKind.TheVariants as kind
use Rattle.std.proofs.Common.{◌≡◌, ℕ, zero, suc, List, [], ◌∷◌, Option, Some, None, ap}
use Rattle.std.proofs.Common.{subst, sym, take, Result, Ok, Err}
use Rattle.std.specs.Prelude.{slice_get, option_and_then}
use Rattle.std.proofs.lemmas.Option.{same_Some}
use Rattle.serde_json.specs.Data.{Data}
use Rattle.dsa_regs.specs.declared.{Command.{Command}, Fault.{Fault}}
use Rattle.dsa_regs.specs.Command.{command_of}
use Rattle.dsa_scenario.specs.declared.actions.{Action.{Action}, StepKind.{StepKind}}
use Rattle.dsa_scenario.specs.Fields.{◌>>=◌, Row, Reading, reading_at, Maker, made_of}
use Rattle.dsa_scenario.specs.Actions.{action_of_command, KindRow, kind_row, row_of_kind, asked_by, kind_of, action_by}
use Rattle.dsa_scenario.specs.Actions.{action_of}
use Rattle.dsa_conform.specs.{Seen.{Seen, seen_of, observation_of}, Run.{AreRead}, Sights.{step_at}}
use Rattle.dsa_conform.specs.Ways.{AreNamedEnds, IsNamedEnd}

-- an action, if there is one, asks for no end but by a name
unfoldable NamedIn : Option Action → Type 0
NamedIn None = Unit {0}
NamedIn (Some a) = IsNamedEnd a

then_named : {A : Type 0} (o : Option A) (f : A → Option Action) → ((x : A) → NamedIn (f x)) → NamedIn (o >>= f)
unfolding NamedIn
then_named None f h = tt
then_named (Some x) f h = h x

is_named : (a : Action) → NamedIn (Some a) → IsNamedEnd a
unfolding NamedIn
is_named a h = h

command_named : (word : ℕ) (c : Result Command Fault) → IsNamedEnd (action_of_command word c)
command_named word (Ok command) = tt
command_named word (Err fault) = tt

-- whatever is read by these rows, what is made of it asks for no end but by a name
abbrev AreNamedBy : (rows : List Row) → Maker Action rows → Type 0
AreNamedBy [] action = IsNamedEnd action
AreNamedBy (row ∷ rows) made = (reading : Reading row.1) → AreNamedBy rows (made reading)

made_named : (rows : List Row) (made : Maker Action rows) (d : Data) → AreNamedBy rows made
    → NamedIn (made_of rows made d)
unfolding NamedIn
made_named [] made d h = h
made_named (row ∷ rows) made d h =
    then_named (reading_at row.1 row.0 d) (λ reading. made_of {A = Action} rows (made reading) d)
    (λ reading. made_named rows (made reading) d (h reading))

abbrev AreNamedIn : KindRow → Type 0
AreNamedIn (kind_row name rows asked) = AreNamedBy rows asked

row_named : (row : KindRow) (d : Data) → AreNamedIn row → NamedIn (asked_by row d)
row_named (kind_row name rows asked) d h = made_named rows asked d h

-- each kind of steps
each_named : (kind : StepKind) → AreNamedIn (row_of_kind kind)
each_named kind.Command = λ word. command_named word (command_of word)
each_named _ = search

action_named : (d : Data) → NamedIn (action_of d)
action_named d =
    then_named (kind_of d) (λ kind. action_by kind d) (λ kind. row_named (row_of_kind kind) d (each_named kind))

pub observed_named : (d : Data) (o : Action × Seen) → observation_of d ≡ Some o → IsNamedEnd o.0
observed_named d o h = at (action_of d) (action_named d) h
  where
    with_seen : (a : Action) (s : Option Seen) → IsNamedEnd a → (s >>= λ seen. Some (a, seen)) ≡ Some o → IsNamedEnd o.0
    with_seen a None named is = absurd cc
    with_seen a (Some seen) named is = subst (λ (x : Action × Seen). IsNamedEnd x.0) (same_Some (a, seen) o is) named

    at : (a : Option Action) → NamedIn a → (a >>= λ action. seen_of d >>= λ seen. Some (action, seen)) ≡ Some o
        → IsNamedEnd o.0
    at None named is = absurd cc
    at (Some a) named is = with_seen a (seen_of d) (is_named a named) is

pub step_named : (steps : List Data) (i : ℕ) (here : Action × Seen) → Some here ≡ step_at steps i → IsNamedEnd here.0
step_named steps i here h = of (slice_get steps i) h
  where
    of : (d : Option Data) → Some here ≡ option_and_then observation_of d → IsNamedEnd here.0
    of None is = absurd cc
    of (Some d) is = observed_named d here (sym is)

head-or : {X : Type 0} → X → List X → X
head-or d [] = d
head-or d (x ∷ xs) = x

tail-of : {X : Type 0} → List X → List X
tail-of [] = []
tail-of (x ∷ xs) = xs

pub all_named : (ds : List Data) (observed : List (Action × Seen)) → AreRead ds observed → AreNamedEnds observed
unfolding head-or tail-of
all_named ds [] h = tt
all_named [] (o ∷ os) h = absurd cc
all_named (d ∷ ds) (o ∷ os) h =
    (observed_named d o (ap (head-or None) h), all_named ds os (ap tail-of h))

pub take_named : (n : ℕ) (observed : List (Action × Seen)) → AreNamedEnds observed → AreNamedEnds (take n observed)
take_named zero observed h = tt
take_named (suc n) [] h = tt
take_named (suc n) (o ∷ os) h = (h.0, take_named n os h.1)
