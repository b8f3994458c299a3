-- One moment more.
use Rattle.std.proofs.Common.{List, [], ◌∷◌, ◌++◌}
use Rattle.dsa_named.specs.Steps.{NamedVisit}
use Rattle.dsa_draw.specs.{declared.moment.Moment.{Moment}, Moments.{IsMomentOf}, Drawings.{AreMoments}}

-- one moment more, of one step more
pub AreMoments-push : (steps : List NamedVisit) (moments : List Moment) (step : NamedVisit) (moment : Moment)
    → AreMoments steps moments → IsMomentOf step moment
    → AreMoments (steps ++ step ∷ []) (moments ++ moment ∷ [])
AreMoments-push [] [] step moment h is = (is, tt)
AreMoments-push [] (m ∷ ms) step moment h is = absurd h
AreMoments-push (s ∷ ss) [] step moment h is = absurd h
AreMoments-push (s ∷ ss) (m ∷ ms) step moment h is = (h.0, AreMoments-push ss ms step moment h.1 is)
