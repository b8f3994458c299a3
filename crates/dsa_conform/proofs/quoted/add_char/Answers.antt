use Rattle.std.proofs.Common.{rules, append_assoc}
use Rattle.dsa_conform.proofs.Chars.{escaped_char, plain_char}
use Rattle.dsa_conform.proofs.quoted.add_char.Goals as goal

pub returns-in_ok-push-in-34 : goal.returns-in_ok-push-in-34
returns-in_ok-push-in-34 c =
    rw (escaped_char c.args.c c.in-34.is, ← append_assoc, ← c.in_ok-push-in-34.ensures.bytes) (search rules)

pub returns-in-32-to-126 : goal.returns-in-32-to-126
returns-in-32-to-126 c =
    rw (plain_char c.args.c (search rules) (search rules) (search rules) (search rules)) (search rules)
