-- What the parties of a script ask for where they stand.
use Rattle.std.specs.Prelude.{List, [], ◌∷◌, ◌++◌, length, flat_map, Option, Some, None, option_map}
use Rattle.dsa_base.specs.Numbers.{numbers_below}
use Rattle.dsa_parties.specs.declared.{script.Script.{Script}, places.ClientTurn.{ClientTurn}}
use Rattle.dsa_parties.specs.declared.places.Move.{Move, TheVariants.{Client, Administrator}}
use Rattle.dsa_parties.specs.Standing.{Standing, turn_of, next_act}
use Rattle.dsa_explore.specs.declared.found.Ask.{Ask, TheVariants.{Submission, Act}}

-- what a party asks for by a move: its next submission, or its next act
abbrev pub ask_of : Script → Standing → Move → Option Ask
ask_of script stand (Client c) = option_map (λ (turn : ClientTurn). Submission turn.place.next) (turn_of script stand c)
ask_of script stand (Administrator a) = option_map Act (next_act script stand a)
ask_of script stand move = None

-- what a party asks for, if it is not through
abbrev pub asked : Option Ask → List Ask
asked None = []
asked (Some ask) = ask ∷ []

-- what the parties still ask for where they stand, clients first
abbrev pub asks_left : Script → Standing → List Ask
asks_left script stand =
    flat_map (λ c. asked (ask_of script stand (Client c))) (numbers_below (length script.clients.items))
    ++ flat_map (λ a. asked (ask_of script stand (Administrator a)))
    (numbers_below (length script.administrators.items))
