use Rattle.dsa_check.proofs.near.near_key.Goals.{In_ok-distance}
use Rattle.dsa_check.proofs.near.near_key.Goals as goal
use Rattle.std.proofs.Common.{rules, ◌≡◌, ℕ, List, [], ◌∷◌, Bor, map, option_map, sym, ◌∙◌, ap, refl}
use Rattle.std.specs.Prelude.{String, string_bytes}
use Rattle.std.specs.declared.alloc.Global.{Global}
use Rattle.serde_json.specs.View.{view}
use Rattle.dsa_scenario.specs.Fields.{row_of_field}
use Rattle.dsa_check.specs.Reasons.{stray_distance}
use Rattle.dsa_check.proofs.{Keys.{finds_in}, Nearest.{keys_in, taken, passed, stray_of}}

pub loop-other-init : goal.loop-other-init
loop-other-init c =
    let all = c.into_iter-other-iterator.ensures.into_iter_gives ∙ c.keys-other-items.ensures.rest in
    record {
      inside = finds_in (view c.args.object.now) _ _ c.in-Some.ensures all;
      stray = tt;
      nearest = rw (keys_in (view c.args.object.now) _ _ c.in-Some.ensures all) refl;
    }

-- the keys that are left, and how far the next of them is
left : (c : In_ok-distance) → c.loop-other.other-iterator ≡ c.in-Some-other.other.now ∷ c.next.new.self
left c = search rules

distance_is : (c : In_ok-distance)
    → c.in_ok-distance.distance
    ≡ stray_distance (map row_of_field c.args.fields.now) c.args.name.now (string_bytes c.in-Some-other.other.now)
distance_is c =
    c.in_ok-distance.ensures
    ∙ ap (λ name. stray_distance (map row_of_field c.args.fields.now) c.args.name.now name) c.as_str-other.ensures.value

pub loop-other-preserved-then-is_below : goal.loop-other-preserved-then-is_below
loop-other-preserved-then-is_below c =
    let now = (goal.at.loop-other-preserved-then-is_below c).In_ok-distance in
    let rows = map row_of_field c.args.fields.now in
    let key = string_bytes c.in-Some-other.other.now in
    let found = option_map (λ (key : Bor (List ℕ)). key.now) c.loop-other.nearest in
    let rest = map (λ (key : String Global). string_bytes key) c.next.new.self in
    let inside = rw (left now) at c.loop-other.invariant.inside in
    let so = rw (left now) at c.loop-other.invariant.nearest in
    let below = sym c.is_below.ensures ∙ c.if-is_below.true in
    let plain = stray_of rows c.args.name.now key c.loop-other.least c.in_ok-distance.distance (distance_is now) below in
    record {
      inside = inside.1;
      stray = rw c.as_str-other.ensures.value (record { inside = inside.0; strange = plain.0; plain = plain.1 });
      nearest = rw (c.as_str-other.ensures.value, c.unwrap_or-least.ensures)
          (taken (stray_distance rows c.args.name.now) _ found key rest _ _ (distance_is now) so below);
    }

pub loop-other-preserved : goal.loop-other-preserved
loop-other-preserved c =
    let now = (goal.at.loop-other-preserved c).In_ok-distance in
    record {
      inside = (rw (left now) at c.loop-other.invariant.inside).1;
      stray = c.loop-other.invariant.stray;
      nearest = passed (stray_distance (map row_of_field c.args.fields.now) c.args.name.now) _
          (option_map (λ (key : Bor (List ℕ)). key.now) c.loop-other.nearest) (string_bytes c.in-Some-other.other.now)
          (map (λ (key : String Global). string_bytes key) c.next.new.self) _ _ (distance_is now)
          (rw (left now) at c.loop-other.invariant.nearest) (sym c.is_below.ensures ∙ c.if-is_below.false);
    }

pub returns-in_ok-from_str-in-Some-nearest-clause-nearest :
    goal.returns-in_ok-from_str-in-Some-nearest-clause-nearest
returns-in_ok-from_str-in-Some-nearest-clause-nearest c =
    let none : c.loop-other.other-iterator ≡ [] = search rules in
    rw c.in_ok-from_str-in-Some-nearest.ensures.ok
    (rw (c.in-Some-nearest.is, none) at c.loop-other.invariant.nearest)

pub returns-in-None-nearest-clause-nearest : goal.returns-in-None-nearest-clause-nearest
returns-in-None-nearest-clause-nearest c =
    let none : c.loop-other.other-iterator ≡ [] = search rules in
    rw (c.in-None-nearest.is, none) at c.loop-other.invariant.nearest
