use Rattle.dsa_conform.proofs.laws.seen_texts_are_told.Goals as goal
use Rattle.std.proofs.Common.{refl}
use Rattle.dsa_conform.proofs.{PrintableTexts.{text_shown}, ReadBack.{read_quoted}}

pub returns-clause-printable : goal.returns-clause-printable
returns-clause-printable c = text_shown

pub returns-clause-plain : goal.returns-clause-plain
returns-clause-plain c = λ text p. rw p refl

pub returns-clause-quoted : goal.returns-clause-quoted
returns-clause-quoted c = λ text utf8 p. rw p (read_quoted text utf8)
