use Rattle.dsa_check.proofs.warnings.add_twice.Goals as goal
use Rattle.std.proofs.Common.{◌≡◌, [], drop, sym, ◌∙◌}
use Rattle.std.proofs.lemmas.List.{drop_all, append-nil}
use Rattle.std.proofs.Common.{Bor, List, ℕ, refl}
use Rattle.std.specs.declared.alloc.Global.{Global}
use Rattle.json.specs.declared.value.Value.{Value}
use Rattle.dsa_check.specs.{Repeats.{has_text}, Warnings.{twice_key_text}}
use Rattle.dsa_check.proofs.Repeated.{keys_of_members, seen_next, again_next, told_next}

pub returns : goal.returns
returns c =
    let items = c.deref-member-items.result.now in
    let none : drop c.loop-member.member-index items ≡ [] =
    drop_all c.loop-member.member-index items c.loop-member-test.false in
    let told = rw none at c.loop-member.invariant.told in
    rw (← c.in-Some.ensures, keys_of_members c.in-Some.members.now.items, ← c.deref-member-items.ensures.value) (sym (append-nil _) ∙ told)

pub loop-member-preserved : goal.loop-member-preserved
loop-member-preserved c =
    let ms = c.deref-member-items.result.now in
    let key = λ (m : Bor (List ℕ) × Value Global). m.0.now in
    let i = c.loop-member.member-index in
    let had = c.loop-member.invariant in
    let step = c.in_ok-add_again.ensures in
    let inside = c.loop-member-test.true in
    let m = c.member-item.result in
    let is = c.member-item.is in
    record {
      seen = λ text. seen_next key ms i m inside text _ _ (had.seen text) (rw (← is) (step.seen text));
      again = λ text. again_next key ms i m inside text _ _ _ (had.seen text) (had.again text)
          (rw (← is) (step.again text));
      told = told_next key ms i m inside twice_key_text _ _ had.told _ (has_text c.loop-member.seen (key m))
          (has_text c.loop-member.again (key m)) _ (rw (← is) (had.seen (key m)))
          (rw (← is) (had.again (key m))) refl (rw (← is) step.told);
    }
