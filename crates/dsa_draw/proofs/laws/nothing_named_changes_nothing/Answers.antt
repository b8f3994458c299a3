use Rattle.dsa_draw.proofs.laws.nothing_named_changes_nothing.Goals as goal
use Rattle.std.proofs.Common.{[], subst}
use Rattle.dsa_draw.specs.Drawings.{IsDrawnOf}
use Rattle.dsa_draw.proofs.Nameless.{same-visits}

pub returns : goal.returns
returns c = λ objects range steps last text none is.
    subst (λ named. IsDrawnOf range named last text) (same-visits objects [] steps none) is
