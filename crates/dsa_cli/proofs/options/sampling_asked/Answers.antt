use Rattle.dsa_cli.proofs.options.sampling_asked.Goals as goal
use Rattle.std.proofs.Common.{refl}

pub returns-in-Ok : goal.returns-in-Ok
returns-in-Ok c = (refl, c.walks_of-walks.ensures, c.requires.walks, c.search_form-form.ensures, c.requires.clash)

pub returns-in-Err : goal.returns-in-Err
returns-in-Err c =
    (refl, c.in-Err.ensures.text, c.in-Err.ensures.wrong, c.requires.walks, c.requires.show, c.requires.clash)
