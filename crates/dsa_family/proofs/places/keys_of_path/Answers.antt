use Rattle.dsa_family.proofs.places.keys_of_path.Goals as goal
use Rattle.std.proofs.Common.{◌++◌, ℕ, List, Bor, ap, sym, ◌∙◌, map, arith, rules}
use Rattle.std.proofs.lemmas.Str.Pattern.{split_parts}
use Rattle.dsa_family.specs.Places.{keys_of_path}
use Rattle.dsa_family.proofs.Sets.{keys-all, keys-more, mapped-push}

pub keys-preserved : goal.keys-preserved
keys-preserved c =
    let l = c.keys in
    let cut = rw c.in-Some.is at (split_parts 47 l.rest.now c.split_once.result c.split_once.ensures.cases (omega arith)) in
    let pushed = ap (map (λ (key : Bor (List ℕ)). key.now)) c.in_ok-push.ensures.items
    ∙ mapped-push (λ (key : Bor (List ℕ)). key.now) l.keys.items c.in-Some.key in (
      keys-more _ _ l.rest.now c.in-Some.key.now c.in-Some.more.now l.invariant.0 cut.0 cut.1
          ∙ ap (λ x. x ++ keys_of_path c.in-Some.more.now) (sym pushed),
      search rules,
    )

pub returns : goal.returns
returns c =
    let l = c.keys in
    let none = rw c.in_default.is at (split_parts 47 l.rest.now c.split_once.result c.split_once.ensures.cases (omega arith)) in
    ap (map (λ (key : Bor (List ℕ)). key.now)) c.in_ok-push-2.ensures.items
    ∙ mapped-push (λ (key : Bor (List ℕ)). key.now) l.keys.items l.rest ∙ keys-all _ _ l.rest.now l.invariant.0 none
