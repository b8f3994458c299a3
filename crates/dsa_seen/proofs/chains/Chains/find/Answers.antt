-- The search begins at the head, and goes on to the next string.
use Rattle.std.proofs.Common.{◌≡◌, ◌<◌, ◌-◌, length, sym, subst, ◌∙◌, true≢false, [], arith}
use Rattle.std.proofs.lemmas.List.{get_or_default}
use Rattle.std.proofs.lemmas.Option.{get_or_from_slice_get}
use Rattle.std.proofs.lemmas.Slice.Eq.{bytes_eq-Decides}
use Rattle.dsa_seen.specs.Chains.{strings_of, string_at}
use Rattle.dsa_seen.proofs.Linked.{IsSearched, place-within, searched-head, searched-next}
use Rattle.dsa_seen.proofs.chains.Chains.find.Goals as goal

pub index-link-requires : goal.index-link-requires
index-link-requires c = let heads = c.args.self.now.heads in
    omega (arith, heads.ok.0, place-within (length heads.items) c.args.bytes.now c.requires.sound.linked.some)

pub loop-link-init : goal.loop-link-init
loop-link-init c = let chains = c.args.self.now in
    let within : c.args.place < length chains.heads.items
    = subst (λ k. k < length chains.heads.items) (sym c.requires.place)
    (place-within (length chains.heads.items) c.args.bytes.now c.requires.sound.linked.some) in
    subst (IsSearched (length chains.heads.items) (strings_of chains) c.args.bytes.now)
    (sym (c.index-link.ensures
    ∙ get_or_default chains.heads.items c.args.place c.index-link.result.now 0 within))
    (searched-head (strings_of chains) chains.heads.items chains.nexts.items c.requires.sound.linked c.args.bytes.now
    c.args.place c.requires.place within)

pub loop-link-preserved : goal.loop-link-preserved
loop-link-preserved c = let chains = c.args.self.now in
    let string : c.string.result.now ≡ string_at (strings_of chains) (c.loop-link.link - 1)
    = sym (get_or_from_slice_get (strings_of chains) (c.loop-link.link - 1) c.string.result.now []
    c.string.ensures.string) in
    subst (IsSearched (length chains.heads.items) (strings_of chains) c.args.bytes.now)
    (sym (c.index-link-in-loop-link.ensures
    ∙ get_or_default chains.nexts.items (c.loop-link.link - 1) c.index-link-in-loop-link.result.now 0
    (omega (arith, c.requires.sound.linked.as_many, c.loop-link.invariant.below))))
    (searched-next (strings_of chains) chains.heads.items chains.nexts.items c.requires.sound.linked c.args.bytes.now
    c.loop-link.link (omega arith) c.loop-link.invariant
    (λ same. true≢false (sym ((bytes_eq-Decides c.string.result.now c.args.bytes.now).1 (string ∙ same))
    ∙ sym c.eq.ensures ∙ c.if-eq.false)))
