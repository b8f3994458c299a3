use Rattle.dsa_explore.proofs.expanding.note_trial.Goals as goal
use Rattle.std.proofs.Common.{◌∙◌, ◌==◌, ℕ, List, map, subst}
use Rattle.dsa_explore.specs.declared.found.Found.{Found}
use Rattle.dsa_explore.specs.{Findings.{findings_of}, Rows.{AddsRows}, Stored.{IsStoredAt, IsUnstored}, Walked.{space_of}}
use Rattle.dsa_explore.proofs.{Added.{added-told}, Lawful.{byte-keys, space-lawful}, Noted.{attempted, not-stored, tried-one}}

pub returns-in-Ok-clause-noted : goal.returns-in-Ok-clause-noted
returns-in-Ok-clause-noted c = λ caps script first table x is t.
    let space = space_of caps script in
    let old = c.args.search.now in
    let new = c.note.new.search in
    let trial = c.args.trial.now in
    let rows = subst (λ (l : List Found). AddsRows old.front (map (λ (r : Found). r.finding) l) old.rows.items
    new.rows.items) c.as_slice-rows.ensures.value c.in_ok-noted.ensures.rows in
    let added = added-told old.front (findings_of (space.asks t.from.places trial.tried.by) t.from t.to t.reply)
    trial.rows.items old.rows.items new.rows.items t.told rows in
    let at = rw c.in-Ok.is at c.in_ok-noted.ensures.stored in
    tried-one space first old new table c.args.number x trial.tried t.to (c.in-Ok._at == c.args.number)
    (attempted space (space-lawful caps script) byte-keys first old new table c.args.number x is t.from t.to
    trial.tried.by t.reply t.there t.leads added c.in_ok-noted.ensures.front trial.tried.queue trial.taken c.in-Ok._at
    t.by t.queue
    (subst (λ (k : List ℕ). IsStoredAt old k c.args.number trial.taken c.in-Ok._at new)
    (c.as_slice.ensures.value ∙ t.key) at) t.fits)

pub returns-in-Err-clause-halted : goal.returns-in-Err-clause-halted
returns-in-Err-clause-halted c = λ caps script first table x set_up is t.
    let space = space_of caps script in
    let old = c.args.search.now in
    let new = c.note.new.search in
    let trial = c.args.trial.now in
    let rows = subst (λ (l : List Found). AddsRows old.front (map (λ (r : Found). r.finding) l) old.rows.items
    new.rows.items) c.as_slice-rows.ensures.value c.in_ok-noted.ensures.rows in
    let added = added-told old.front (findings_of (space.asks t.from.places trial.tried.by) t.from t.to t.reply)
    trial.rows.items old.rows.items new.rows.items t.told rows in
    not-stored space (space-lawful caps script) byte-keys first old new table c.args.number x is t.from t.to
    trial.tried.by t.reply t.there t.leads added c.in_ok-noted.ensures.front set_up c.in-Err.halt
    (subst (λ (k : List ℕ). IsUnstored old k c.in-Err.halt new) (c.as_slice.ensures.value ∙ t.key)
    (rw c.in-Err.is at c.in_ok-noted.ensures.unstored))
