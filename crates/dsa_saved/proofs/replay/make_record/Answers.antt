use Rattle.dsa_saved.proofs.replay.make_record.Goals as goal
use Rattle.std.proofs.Common.{◌≡◌, true, ◌++◌, rules}
use Rattle.std.proofs.lemmas.List.{take-append-drop}
use Rattle.dsa_book.specs.Machine.{is_stored}
use Rattle.dsa_saved.proofs.Making.{made}

pub returns-clause-made : goal.returns-clause-made
returns-clause-made g c =
    let kept : is_stored c.make_step-reply.result ≡ true = search rules in
    let same : c.choice_bytes-choice.result ≡ c.split_at.result.1.now = search rules in
    let whole : c.split_at.result.0.now ++ c.split_at.result.1.now ≡ c.args.bytes.now =
    rw (c.split_at.ensures.front, c.split_at.ensures.back) (take-append-drop 36 c.args.bytes.now) in
    made c.args.device.now c.make_step-reply.new.device c.in-Some.event c.make_step-reply.result c.args.bytes.now
    c.split_at.result.0.now c.split_at.result.1.now c.choice_bytes-choice.result c.make_step-reply.ensures kept
    c.in-Some.ensures.said c.in-Some.ensures.bytes c.choice_bytes-choice.ensures.bytes c.choice_bytes-choice.ensures.read
    same whole
