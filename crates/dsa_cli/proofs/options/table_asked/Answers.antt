use Rattle.dsa_cli.proofs.options.table_asked.Goals as goal
use Rattle.std.proofs.Common.{◌∙◌, refl, sym}

pub returns : goal.returns
returns c = (
  refl,
  c.bounds_of-bounds.ensures,
  c.requires.show,
  c.search_form-form.ensures,
  sym c.is_text_given.ensures ∙ c.if-is_text_given.false,
  c.requires.clash,
)
