use Rattle.dsa_shared.proofs.locked.walk.follow.Goals as goal
use Rattle.std.proofs.Common.{eqb, false, get_or, refl, sym, ap, ◌∙◌, arith}
use Rattle.std.proofs.lemmas.{List.{get_or_read}, Grind.{common_steps}}
use Rattle.std.specs.{Prelude.{slice_get}, Option.{option_map_or}}
use Rattle.dsa_shared.proofs.Agrees.{none_moves, one_moves}

pub returns-in_default : goal.returns-in_default
returns-in_default g c h so_far =
    none_moves g.T.Numbered.number g.T.Numbered.actor g.T.Numbered.receipts h _ _ _
    (λ s. c.requires.whose s ∙ ap (λ o. option_map_or (λ n. eqb n (g.T.Numbered.number s)) o false) c.in_default.is)
    so_far

pub returns : goal.returns
returns g c h so_far =
    let seats = c.args.seats.now in
    let n = c.from-seat.result in
    let at = get_or c.args.places.now n 0 in
    one_moves g.T.Numbered.number g.T.Numbered.actor g.T.Numbered.receipts h seats c.args.places.now _ n at
    (λ s. c.requires.whose s ∙ ap (λ o. option_map_or (λ m. eqb m (g.T.Numbered.number s)) o false) c.in-Some.is
    ∙ ap (λ m. eqb m (g.T.Numbered.number s)) (sym c.from-seat.ensures))
    c.if-seat-seats.false (grind (arith, common_steps)) refl
    (λ d. ap (λ s. slice_get (g.T.Numbered.receipts s) at)
    (sym (get_or_read seats n _ c.if-seat-seats.false c.index-seats-seat.is d))
    ∙ ap (λ r. slice_get r at) (sym c.seat_receipts.ensures) ∙ c.is_at.ensures.same.0 c.if-not-is_at.false)
    so_far
