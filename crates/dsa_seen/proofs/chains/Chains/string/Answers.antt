-- The string begins its width.
use Rattle.std.proofs.Common.{ℕ, List, ◌≡◌, ◌*◌, ◌≤◌, ◌<◌, length, get_or, take, drop, Some, ap, sym, ◌∙◌, arith}
use Rattle.std.proofs.lemmas.List.{get_or_default, length-take}
use Rattle.std.proofs.Math.Nat.{mul_comm}
use Rattle.dsa_seen.proofs.Stored.{length-strings_in, strings_in-get, stored-within}
use Rattle.dsa_seen.proofs.chains.Chains.string.Goals as goal

pub index-requires : goal.index-requires
index-requires c = let chains = c.args.self.now in
    omega (arith, length-strings_in chains.width chains.stored.items chains.lengths.items, chains.lengths.ok.0)

pub bytes_at-requires : goal.bytes_at-requires
bytes_at-requires c = let chains = c.args.self.now in
    let within : c.args.number < length chains.lengths.items
    = omega (arith, length-strings_in chains.width chains.stored.items chains.lengths.items) in
    let count : c.index.result.now ≡ get_or chains.lengths.items c.args.number 0
    = c.index.ensures ∙ get_or_default chains.lengths.items c.args.number c.index.result.now 0 within in
    omega (
      arith,
      stored-within chains.width chains.stored.items chains.lengths.items c.args.number
          c.requires.sound.stored within,
      ap length c.deref.ensures.value,
    )

pub returns-clause-string : goal.returns-clause-string
returns-clause-string c = let chains = c.args.self.now in
    let within : c.args.number < length chains.lengths.items
    = omega (arith, length-strings_in chains.width chains.stored.items chains.lengths.items) in
    let count : c.index.result.now ≡ get_or chains.lengths.items c.args.number 0
    = c.index.ensures ∙ get_or_default chains.lengths.items c.args.number c.index.result.now 0 within in
    let start : c.args.number * chains.width ≡ chains.width * c.args.number = mul_comm c.args.number chains.width in
    strings_in-get chains.width chains.stored.items chains.lengths.items c.args.number within
    ∙ (λ j. Some (take (sym count j) (drop (sym start j) (sym c.deref.ensures.value j))))
    ∙ ap (λ (s : List ℕ). Some s) (sym c.bytes_at.ensures)

pub returns-clause-width : goal.returns-clause-width
returns-clause-width c = let chains = c.args.self.now in
    let within : c.args.number < length chains.lengths.items
    = omega (arith, length-strings_in chains.width chains.stored.items chains.lengths.items) in
    let count : c.index.result.now ≡ get_or chains.lengths.items c.args.number 0
    = c.index.ensures ∙ get_or_default chains.lengths.items c.args.number c.index.result.now 0 within in
    let short : get_or chains.lengths.items c.args.number 0 ≤ chains.width
    = c.requires.sound.stored.short c.args.number within in
    omega (
      arith,
      ap length c.bytes_at.ensures
          ∙ length-take c.index.result.now (drop (c.args.number * chains.width) c.deref.result.now),
    )
