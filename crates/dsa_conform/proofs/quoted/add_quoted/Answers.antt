use Rattle.std.proofs.Common.{rules, ◌≡◌, ◌∙◌, sym, flat_map, string_bytes}
use Rattle.std.specs.Str.{chars}
use Rattle.std.specs.Char.{encode_utf8}
use Rattle.std.proofs.lemmas.{List.{map-id}, Iterator.{YieldsList-from_chars}, Iterator.Consumers.{YieldsList-end}}
use Rattle.dsa_conform.specs.Quoted.{char_text}
use Rattle.dsa_conform.proofs.Chars.{in_quotes}
use Rattle.dsa_conform.proofs.quoted.add_quoted.Goals as goal

pub returns : goal.returns
unfolding encode_utf8
returns c =
    let whole : c.loop-c.yielded ≡ chars c.args.seen.now =
    sym (map-id c.loop-c.yielded)
    ∙ (YieldsList-end (YieldsList-from_chars c.args.seen.now c.utf8.seen cc) c.loop-c.yielded _
    c.loop-c.yielded_by _ _ c.in-None.is c.next.ensures.steps).0 in
    let all = in_quotes (string_bytes c.args.text.now) _ (flat_map char_text c.loop-c.yielded) _
    c.in_ok-push.ensures.bytes c.loop-c.invariant in
    rw (← whole, ← all) (search rules)
