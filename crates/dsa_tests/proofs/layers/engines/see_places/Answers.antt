use Rattle.dsa_tests.proofs.layers.engines.see_places.Goals as goal
use Rattle.std.proofs.Common.{rules, ◌≡◌, ℕ, ◌==◌, not, Bool, true, false, List, inl, inr, sym, ◌∙◌, ap, arith}
use Rattle.std.proofs.lemmas.{Grind.{common_steps}, Bool.{cases_lt, cases_Bool}}
use Rattle.std.specs.List.{list_any}
use Rattle.dsa_base.{specs.Lists.{In}, proofs.Lists.{In-any}}
use Rattle.dsa_regs.specs.declared.Caps.{Caps}
use Rattle.dsa_store.specs.{declared.entry.Entry.{Entry}, Content.{HeldEntry, Content, chain}}
use Rattle.dsa_book.specs.{State.{any_in, is_member}, Work.{member_list}}

none-passes : (test : HeldEntry → Bool) (pair : HeldEntry) (l : List HeldEntry) → list_any test l ≡ false → In pair l
    → test pair ≡ false
none-passes test pair l none at = elim (cases_Bool (test pair)) [
  | inl passes ↦
      let false_is_true : false ≡ true = sym none ∙ In-any test pair l at passes in
      absurd cc
  | inr fails ↦ fails
]

named : (pair : HeldEntry) (q : ℕ) (l : List HeldEntry) → any_in (λ (entry : Entry). not (entry.queue == q)) l ≡ false
    → In pair l
    → pair.1.queue ≡ q
named pair q l none at =
    let no = none-passes (λ (s : HeldEntry). not (s.1.queue == q)) pair l none at in
    grind (arith, common_steps, no)

member : (pair : HeldEntry) (l : List HeldEntry) → any_in (λ (entry : Entry). not (is_member entry)) l ≡ false → In pair l
    → is_member pair.1 ≡ true
member pair l none at =
    let no = none-passes (λ (s : HeldEntry). not (is_member s.1)) pair l none at in
    grind (arith, common_steps, no)

pub returns : goal.returns
returns g c =
    let content : Content = g.S.EntryStore.content c.args.store.now in
    let q = ap (λ (x : Caps). x.queues) c.caps-caps.ensures.value in
    let e = ap (λ (x : Caps). x.engines) c.caps-caps.ensures.value in
    let queues : c.args.queues.now.setup.caps.queues ≡ 2 = omega (arith, q) in
    let engines : c.args.queues.now.setup.caps.engines ≡ 2 = omega (arith, e) in
    let first : c.is_misplaced.result ≡ false = search rules in
    let second : c.is_misplaced-2.result ≡ false = search rules in
    let third : c.has_submitted.result ≡ false = search rules in
    let fourth : c.has_submitted-2.result ≡ false = search rules in
    record {
      queued = λ k pair h at. elim (cases_lt k 1) [
        | inl low ↦
            let is : k ≡ 0 = omega (arith, low) in
            named pair k (chain content k) (rw is (sym c.is_misplaced.ensures ∙ first)) at
        | inr high ↦
            let is : k ≡ 1 = omega (arith, high, h, queues) in
            named pair k (chain content k) (rw is (sym c.is_misplaced-2.ensures ∙ second)) at
      ];
      members = λ k pair h at. elim (cases_lt k 1) [
        | inl low ↦
            let is : member_list c.args.queues.now.setup k ≡ 4 = omega (arith, low, queues, engines) in
            member pair (chain content (member_list c.args.queues.now.setup k))
            (rw is (sym c.has_submitted.ensures ∙ third)) at
        | inr high ↦
            let is : member_list c.args.queues.now.setup k ≡ 5 = omega (arith, high, h, queues, engines) in
            member pair (chain content (member_list c.args.queues.now.setup k))
            (rw is (sym c.has_submitted-2.ensures ∙ fourth)) at
      ];
    }
