use Rattle.dsa_serve.proofs.rows.one_division.Goals as goal
use Rattle.std.proofs.Common.{◌≡◌, ℕ, true, false, Bool, List, sym, ◌∙◌}
use Rattle.dsa_serve.specs.Input.{IsFront, IsUnended}
use Rattle.dsa_serve.proofs.{Ends.{no_end_within, one_document}, RowLines.{one_division}}

-- an input has one document
one_first : (ended ended' : Bool) (input first first' behind behind' : List ℕ) → IsUnended first
    → IsUnended first' → IsFront ended input first behind → IsFront ended' input first' behind'
    → (first ≡ first') × (behind ≡ behind')
one_first true true input first first' behind behind' h h' front front' =
    (sym front.0 ∙ front'.0, front.1 ∙ sym front'.1)
one_first true false input first first' behind behind' h h' front front' =
    absurd (no_end_within input first' behind' (rw front.0 h) front')
one_first false true input first first' behind behind' h h' front front' =
    absurd (no_end_within input first behind (rw front'.0 h') front)
one_first false false input first first' behind behind' h h' front front' =
    one_document input first first' behind behind' h h' front front'

pub returns-clause-first : goal.returns-clause-first
returns-clause-first c ended also input first behind other more h h' =
    one_first ended also input first other behind more h.unended h'.unended h.front h'.front

pub returns-clause-lines : goal.returns-clause-lines
returns-clause-lines c bytes lines rest others other h h' =
    one_division lines others rest other h.each h'.each h.last h'.last (sym h.joined ∙ h'.joined)
