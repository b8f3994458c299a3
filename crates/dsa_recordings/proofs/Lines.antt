-- The text of a document: its parts, and one line more.
use Rattle.std.proofs.Common.{◌≡◌, ◌<◌, ◌≤◌, ◌+◌, ◌∙◌, ℕ, List, ◌++◌, codes}
use Rattle.std.proofs.Common.{decimal, drop, get_or, length, map, sym, ap}
use Rattle.std.proofs.Common.{append_assoc, append-nil}
use Rattle.std.proofs.lemmas.List.{drop_all, drop_more}
use Rattle.dsa_book.specs.declared.event.Step.{Step}
use Rattle.dsa_regs.specs.declared.Caps.{Caps}
use Rattle.dsa_recordings.specs.Recordings.{recording_text, members_of_caps, members_of_step}
use Rattle.dsa_recordings.specs.Texts.{object_text, objects_text}
use Rattle.dsa_recordings.proofs.Adding.{seven}

in_order : (text before object rest : List ℕ)
    → ((text ++ before) ++ object) ++ rest ≡ text ++ (before ++ object ++ rest)
in_order text before object rest = simp append_assoc

pub line_more : (steps : List Step) (i : ℕ) (d : Step) (text before start : List ℕ) → i < length steps
    → text ++ objects_text before (codes ",\n") (map members_of_step (drop i steps)) ≡ start
    → ((text ++ before) ++ object_text (members_of_step (get_or steps i d)))
    ++ objects_text (codes ",\n") (codes ",\n") (map members_of_step (drop (i + 1) steps)) ≡ start
line_more steps i d text before start inside h =
    in_order text before (object_text (members_of_step (get_or steps i d))) _
    ∙ ap (λ more. text ++ objects_text before (codes ",\n") (map members_of_step more)) (sym (drop_more steps i d inside))
    ∙ h

pub lines_end : (steps : List Step) (i : ℕ) (text before start : List ℕ) → length steps ≤ i
    → text ++ objects_text before (codes ",\n") (map members_of_step (drop i steps)) ≡ start → text ≡ start
lines_end steps i text before start past h =
    sym (append-nil text)
    ∙ ap (λ more. text ++ objects_text before (codes ",\n") (map members_of_step more)) (sym (drop_all i steps past)) ∙ h

-- the text of a document, part by part
pub document_of : (caps : Caps) (capacity : ℕ) (steps : List Step) (text : List ℕ)
    {first second third fourth fifth whole : List ℕ} → first ≡ text ++ codes "{\"caps\":"
    → second ≡ first ++ object_text (members_of_caps caps)
    → third ≡ second ++ (codes ",\"capacity\":" ++ decimal capacity)
    → fourth ≡ third ++ codes ",\"steps\":["
    → fifth ≡ fourth ++ objects_text (codes "\n") (codes ",\n") (map members_of_step steps)
    → whole ≡ fifth ++ codes "\n]}" → whole ≡ text ++ recording_text caps capacity steps
document_of caps capacity steps text =
    seven text (codes "{\"caps\":") (object_text (members_of_caps caps)) (codes ",\"capacity\":")
    (decimal capacity) (codes ",\"steps\":[")
    (objects_text (codes "\n") (codes ",\n") (map members_of_step steps)) (codes "\n]}")
