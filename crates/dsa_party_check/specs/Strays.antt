-- Keys that are unknown.
use Rattle.std.specs.Prelude.{ℕ, not, List, map, filter}
use Rattle.serde_json.specs.Data.{Data}
use Rattle.dsa_check.specs.declared.finding.Aim.TheVariants.{Key}
use Rattle.dsa_check.specs.Reasons.{keys_of}
use Rattle.dsa_check.specs.Warnings.{is_named, plain_key, stray_key_text}
use Rattle.dsa_party_check.specs.declared.complaint.Inside.{Inside}
use Rattle.dsa_party_check.specs.Complaints.{Complained}

abbrev pub stray_complaint : Inside → List (List ℕ) → List ℕ → Complained
stray_complaint inside names key =
    record { inside = inside; aim = Key; name = plain_key key; reason = stray_key_text names key }

-- the keys of an object that are none of these
abbrev pub stray_complaints : Inside → List (List ℕ) → Data → List Complained
stray_complaints inside names d =
    map (stray_complaint inside names) (filter (λ key. not (is_named names key)) (keys_of d))
