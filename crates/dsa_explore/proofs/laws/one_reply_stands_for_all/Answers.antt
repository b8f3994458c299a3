use Rattle.dsa_explore.proofs.laws.one_reply_stands_for_all.Goals as goal
use Rattle.std.proofs.Common.{sym, ◌∙◌}
use Rattle.std.proofs.lemmas.Option.{same_Some}
use Rattle.dsa_explore.specs.Search.{queue_taken_from}
use Rattle.dsa_explore.proofs.Tables.{tried-by, tried-as}

pub returns-clause-replies : goal.returns-clause-replies
returns-clause-replies c space table rows level move v v' reply lawful fine step noted =
    tried-by space.caps space.parties space.asks space.good lawful.lawful table rows level v v' move reply
    (queue_taken_from reply) fine.good step (λ q p is is'. same_Some q p (sym is ∙ is')) noted

pub returns-clause-worlds : goal.returns-clause-worlds
returns-clause-worlds c space table rows level move w v queue lawful fw fv keys tried =
    tried-as space.caps space.parties space.asks space.good lawful.lawful table rows level w v move queue fw.good
    fv.good keys tried
