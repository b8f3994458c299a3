use Rattle.dsa_check.proofs.report.add_form.Goals as goal
use Rattle.std.proofs.Common.{codes, string_bytes}
use Rattle.dsa_check.proofs.Texts.{pushed}

pub returns-in-Whole : goal.returns-in-Whole
returns-in-Whole c = rw c.in-Whole.is c.add_range.ensures

pub returns-in-Truth : goal.returns-in-Truth
returns-in-Truth c =
    rw c.in-Truth.is (pushed _ (string_bytes c.args.text.now) (codes "true or false") _ c.push_str.ensures.bytes)

pub returns-in-Digits : goal.returns-in-Digits
returns-in-Digits c =
    rw c.in-Digits.is
    (pushed _ (string_bytes c.args.text.now) (codes "a text of hexadecimal digits") _ c.push_str-in-Digits.ensures.bytes)
