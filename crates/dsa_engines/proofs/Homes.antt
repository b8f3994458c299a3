-- The group of an engine.
use Rattle.std.proofs.Common.{◌≡◌, ℕ, ◌+◌, ◌<◌, true, false, nat_lt, List, [], ◌∷◌, ◌++◌, map, length, get_or, Option}
use Rattle.std.proofs.Common.{Some, None, add-one, sym, arith}
use Rattle.std.proofs.lemmas.{Bool.{or_parts}, List.{map-append}}
use Rattle.std.specs.Prelude.{count_by}
use Rattle.dsa_regs.specs.declared.{Caps.{Caps}, GroupConfig.{GroupConfig}}
use Rattle.dsa_regs.specs.Config.{zero_group, group_at, is_in_two, groups_table, total_size}
use Rattle.dsa_base.specs.Numbers.{has, numbers_below}
use Rattle.dsa_base.proofs.{NumberLemmas.{numbers_below-miss}, NumberLists.{get_or-each}}
use Rattle.dsa_base.proofs.{Tables.{no-row}, Counts.{only-position}}
use Rattle.dsa_store.specs.Content.{Content}
use Rattle.dsa_book.specs.{State.{Setup, is_off}, Work.{group_in}}
use Rattle.dsa_engines.specs.Engines.{EnginesState, IsInStep}

-- the device has an engine that is below a copy of its capabilities
pub has-engine : {caps all : Caps} {e : ℕ} → caps ≡ all → e < caps.engines → e < all.engines
has-engine same h = rw (← same) h

module _ {cells : ℕ} {setup : Setup} {engines_state : EnginesState} {content : Content} (s : IsInStep setup engines_state cells content)
    (on : is_off setup.device ≡ false) {e : ℕ} (he : e < setup.caps.engines) where
  -- while the device is not Off each of its engines is of one group at most
  pub one-group : {g : ℕ} → g < length setup.groups → has (group_at setup.groups g).engines e ≡ true
      → group_in setup.groups e ≡ Some g
  one-group {g} hg has_e =
      let off = no-row (groups_table setup.caps (total_size setup.configs) setup.groups) (s.checked on) in
      let two : is_in_two (λ x. x.engines) setup.groups setup.caps.engines ≡ false =
      (or_parts (is_in_two (λ x. x.queues) setup.groups setup.caps.queues) _ off.1.1.0).1 in
      let low : nat_lt 1 (count_by (λ (x : GroupConfig). has x.engines e) setup.groups) ≡ false =
      numbers_below-miss (λ k. nat_lt 1
      (count_by (λ (x : GroupConfig). has x.engines k) setup.groups)) setup.caps.engines e two he in
      only-position (λ (x : GroupConfig). has x.engines e) setup.groups g zero_group (grind (arith, low)) hg has_e

  -- what is kept of it is its group
  pub home-of : get_or engines_state.homes e None ≡ group_in setup.groups e
  home-of = rw (s.homes on) (get_or-each (group_in setup.groups) setup.caps.engines e None he)

-- one more engine
pub homes-more : (f : ℕ → Option ℕ) (n : ℕ) (homes : List (Option ℕ)) → homes ≡ map f (numbers_below n)
    → homes ++ f n ∷ [] ≡ map f (numbers_below (n + 1))
homes-more f n homes is = rw (is, add-one) (sym (map-append f (numbers_below n) (n ∷ [])))
