use Rattle.dsa_draw.proofs.rows.drawings.Goals as goal
use Rattle.std.proofs.Common.{refl}
use Rattle.dsa_draw.specs.{Pages.{description_text, shapes_text, style_text}, Worked.{drawn_on_literals}}

pub returns-clause-levels : goal.returns-clause-levels
unfolding drawn_on_literals
returns-clause-levels c memory = refl

pub returns-clause-peaks : goal.returns-clause-peaks
unfolding drawn_on_literals
returns-clause-peaks c memory = refl

pub returns-clause-bands_end : goal.returns-clause-bands_end
unfolding drawn_on_literals
returns-clause-bands_end c memory = refl

pub returns-clause-bands : goal.returns-clause-bands
unfolding drawn_on_literals
returns-clause-bands c memory = refl

pub returns-clause-steps : goal.returns-clause-steps
unfolding drawn_on_literals
returns-clause-steps c memory = refl

pub returns-clause-story_bands_end : goal.returns-clause-story_bands_end
unfolding drawn_on_literals
returns-clause-story_bands_end c memory = refl

pub returns-clause-height : goal.returns-clause-height
unfolding drawn_on_literals
returns-clause-height c memory = refl

pub returns-clause-story : goal.returns-clause-story
unfolding drawn_on_literals description_text shapes_text style_text
returns-clause-story c memory = refl
