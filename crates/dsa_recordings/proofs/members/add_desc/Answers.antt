use Rattle.dsa_recordings.proofs.members.add_desc.Goals as goal
use Rattle.std.proofs.Common.{◌∙◌, codes, string_bytes}
use Rattle.std.proofs.lemmas.Result.{on_ok_weaker}
use Rattle.dsa_recordings.specs.Recordings.{desc_digits}
use Rattle.dsa_recordings.proofs.Adding.{pushed, quoted}

pub returns : goal.returns
returns c = on_ok_weaker c.push_str-3.result
    (λ added. added
    ∙ rw (
      c.in_ok-push_str-2.ensures.bytes,
      c.as_str.ensures.value,
      c.in_ok-digits.ensures,
      c.as_slice.ensures,
      c.to_bytes.ensures.bytes,
      c.in_ok-push_str.ensures.bytes,
      c.in_ok-add_key.ensures,
    ) (quoted (string_bytes c.args.text.now) (codes ",\"desc\":") (codes "\"") (desc_digits c.args.desc)))
    (pushed c.push_str-3.result (string_bytes c.push_str-2.new.self) (codes "\"") (string_bytes c.push_str-3.new.self)
    c.push_str-3.ensures.bytes)
