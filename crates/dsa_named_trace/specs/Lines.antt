-- Lines of a trace with own names.
use Rattle.std.specs.Prelude.{ℕ, ◌-◌, List, [], ◌∷◌, ◌++◌, codes, decimal, flat_map, length, take}
use Rattle.dsa_named.specs.{Names.{Own}, Notes.{names_note}, Steps.{NamedVisit}}
use Rattle.dsa_trace.specs.declared.form.{Trace.{Trace, TheVariants.{Json}}, Part.TheVariants.{LineEnd}}
use Rattle.dsa_trace.specs.{Lines.{trace_line_of_step}, Marks.{mark}}
use Rattle.dsa_named_trace.specs.Shown.{shown_names}

-- an own name as a member of an object, after this mark: the key is the number of the entry
abbrev pub own_member : List ℕ → Own → List ℕ
own_member before own = before ++ decimal own.0 ++ codes "\":\"" ++ own.1 ++ codes "\""

-- own names as the last member of an object; nothing where there is none (profile)
abbrev pub own_members : List Own → List ℕ
own_members [] = []
own_members (own ∷ more) = own_member (codes ",\"as\":{\"") own ++ flat_map (own_member (codes ",\"")) more ++ codes "}"

-- own names as a line of this form has them (profile)
abbrev pub trace_note : Trace → List Own → List ℕ
trace_note Json names = own_members names
trace_note form names = names_note names

-- a line whose last bytes are the end, with a note before these
abbrev pub before_end : List ℕ → List ℕ → List ℕ → List ℕ
before_end end note line = take (length line - length end) line ++ note ++ end

-- a line with these own names before its end; where there is none, it is the line (profile)
abbrev pub noted_line : Trace → List Own → List ℕ → List ℕ
noted_line form [] line = line
noted_line form (own ∷ more) line = before_end (mark form LineEnd) (trace_note form (own ∷ more)) line

-- the line of a step of a run, with the own names of the entries that it lists and of those that the step is about
-- (profile)
abbrev pub named_trace_line : Trace → NamedVisit → List ℕ
named_trace_line form named =
    let step = named.step in
    noted_line form (shown_names form named.names step.entry step.after) (trace_line_of_step form step)
