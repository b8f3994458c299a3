use Rattle.dsa_cells.proofs.store.LinkedStoreEntryStore.free.Goals as goal
use Rattle.std.proofs.{Common.{◌≡◌, ◌-◌, length, ap, arith}, lemmas.List.{get_or_read}}
use Rattle.dsa_cells.{specs.{Array.{no_header}}, proofs.Contents.{free-is}}

pub returns : goal.returns
returns g c =
    let r = c.args.self.now.headers.items in
    let k : c.len.result ≡ length r = omega (arith, c.len.ensures, c.args.self.now.headers.ok.0) in
    let read = get_or_read r (c.len.result - 1) _ (omega (arith, k, c.args.self.now.whole.free)) c.index.ensures
    no_header in
    omega (arith, ap (λ t. t.count) read, free-is c.args.self.now.whole k)
