use Rattle.std.proofs.Common.{◌≡◌, ◌++◌, codes, drop, map, string_bytes}
use denote.Text.{Utf8}
use denote.Shadow.{shadow}
use Rattle.dsa_recordings.specs.{Recordings.{members_of_step}, Texts.{objects_text}}
use Rattle.dsa_recordings.proofs.documents.add_steps.Given as goal

abbrev pub invariant-loop-step : goal.invariant-loop-step
invariant-loop-step l = shadow (Utf8 l.mark)
    × (string_bytes l.text ++ objects_text l.mark (codes ",\n") (map members_of_step (drop l.step-index l.steps))
    ≡ string_bytes l.initial.text ++ objects_text (codes "\n") (codes ",\n") (map members_of_step l.steps))
