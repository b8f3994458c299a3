use Rattle.dsa_shared.proofs.locked.walk.all_match.Goals as goal
use Rattle.std.proofs.Common.{◌≡◌, List, Bool, Option, Some, sym, ap, ◌∙◌, subst}
use Rattle.std.specs.Bool.{OnTrue}
use Rattle.dsa_book.specs.declared.event.Step.{Step}
use Rattle.dsa_shared.specs.{Seat.{SeatLog}, Settle.{Match}}

match_by : (b : Bool) (h : List Step) (clients clients' engines engines' : List SeatLog) (own : List Step)
    (admin : Option (List Step)) → clients ≡ clients' → engines ≡ engines' → admin ≡ Some own
    → OnTrue b (Match h clients engines (Some own)) → OnTrue b (Match h clients' engines' admin)
match_by b h clients clients' engines engines' own admin same same' is m =
    let P : List SeatLog → Type 0 = λ xs. OnTrue b (Match h xs engines (Some own)) in
    let Q : List SeatLog → Type 0 = λ ys. OnTrue b (Match h clients' ys (Some own)) in
    let R : Option (List Step) → Type 0 = λ a. OnTrue b (Match h clients' engines' a) in
    subst R (sym is) (subst Q same' (subst P same m))

pub returns : goal.returns
returns g c =
    match_by _ _ _ _ _ _ _ _ c.deref.ensures.value c.deref-2.ensures.value
    (c.in-Some.is ∙ ap Some (sym c.receipts.ensures)) c.each_matches.ensures
