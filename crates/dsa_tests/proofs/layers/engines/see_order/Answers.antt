use Rattle.dsa_tests.proofs.layers.engines.see_order.Goals as goal
use Rattle.std.proofs.Common.{◌≡◌, inl, inr, ap, arith, length}
use Rattle.std.proofs.lemmas.Bool.{cases_lt}
use Rattle.dsa_regs.specs.declared.Caps.{Caps}
use Rattle.dsa_store.specs.Content.{Content, chain}

pub returns : goal.returns
returns g c =
    let content : Content = g.S.EntryStore.content c.args.store.now in
    let same = ap (λ (x : Caps). x.queues) c.caps-caps.ensures.value in
    let queues : c.args.queues.now.setup.caps.queues ≡ 2 = omega (arith, same) in
    λ q h i j d a b. elim (cases_lt q 1) [
      | inl low ↦
          let is : q ≡ 0 = omega (arith, low) in
          absurd (omega (arith, a, b, ap (λ k. length (chain content k)) is, c.len.ensures))
      | inr high ↦
          let is : q ≡ 1 = omega (arith, high, h, queues) in
          absurd (omega (arith, a, b, ap (λ k. length (chain content k)) is, c.len-2.ensures))
    ]
