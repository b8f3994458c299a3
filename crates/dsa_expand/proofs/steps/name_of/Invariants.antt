use Rattle.std.proofs.Common.{◌≡◌, drop, map}
use Rattle.dsa_expand.specs.{Steps.{given_name, named_onto}, Members.{given_as}}
use Rattle.dsa_expand.proofs.steps.name_of.Given as goal

abbrev pub invariant-loop-one : goal.invariant-loop-one
invariant-loop-one l =
    named_onto l.found (map given_as (drop l.one-index l.given)) l.text ≡ given_name (map given_as l.given) l.text
