use Rattle.dsa_conform.proofs.following.follow_only.Goals as goal
use Rattle.std.proofs.Common.{◌∙◌, sym}
use Rattle.dsa_conform.specs.{Allowed.{IsAllowed}, Seen.{seen_as}}
use Rattle.dsa_conform.proofs.Choices.{only_answer}

pub returns : goal.returns
returns g c =
    let now = c.args.device.now in
    let allowed : IsAllowed now c.args.asked.now c.ask-entry.result =
    record { answers = c.ask-entry.ensures.answers; after = _; leads = c.ask-entry.ensures.leads } in (
      rw c.in_ok-vec.ensures.items (only_answer now c.args.asked.now c.ask-entry.result c.requires allowed),
      λ entry may. (c.requires entry c.ask-entry.result may allowed).shown (seen_as c.args.seen.now)
          ∙ sym c.in_ok-is_shown.ensures ∙ c.if-branch.false,
      (c.ask-entry.result, allowed),
    )
