-- A search that expanded each stored world found all that may come.
use Rattle.std.proofs.Common.{◌≡◌, ℕ, suc, ◌+◌, ◌<◌, ◌≤◌, true, false, List, [], ◌∷◌, Some, refl, sym, length, inl, inr}
use Rattle.std.proofs.Common.{arith, ap, subst}
use Rattle.std.specs.Prelude.{slice_get}
use Rattle.dsa_base.specs.Lists.{In}
use Rattle.dsa_keys.specs.Parties.{World, Stored, IsStored}
use Rattle.dsa_explore.specs.declared.found.{Found.{Found}}
use Rattle.dsa_explore.specs.Explored.{AreFindings}
use Rattle.dsa_explore.specs.Search.{Space, IsFine, IsLawfulSpace, IsWorldTable, AreRows, IsExpanded}
use Rattle.dsa_explore.proofs.Tables.{whole-complete, IsWhole}
use Rattle.dsa_explore.proofs.Growth.{get-below}

-- what stands in a list has a place
pub In-place : {X : Type 0} (x : X) (xs : List X) → In x xs → (i : ℕ) × (slice_get xs i ≡ Some x)
In-place x [] i = absurd i
In-place x (y ∷ ys) (inl e) = (0, ap (λ z. Some z) e)
In-place x (y ∷ ys) (inr i) = let r = In-place x ys i in (suc r.0, r.1)

module _ {P M : Type 0} (space : Space P M) (lawful : IsLawfulSpace space) (first : World P) where
  -- rows of a search that stopped
  pub rows-found : (front : ℕ) (rows : List Found) → AreRows space first front rows
      → AreFindings space.parties space.asks first rows false
  rows-found front rows is = record {
    sound = is.sound;
    complete = λ e. absurd cc;
    least = λ e. absurd cc;
  }

  -- no rows
  pub nothing-found : (rows : List Found) → rows ≡ [] → AreFindings space.parties space.asks first rows false
  nothing-found rows none = subst (λ (r : List Found). AreFindings space.parties space.asks first r false) (sym none)
      (record {
        sound = λ row i. absurd i;
        complete = λ e. absurd cc;
        least = λ e. absurd cc;
      })

  -- a search that expanded each world
  pub whole-of : (keys : List (List ℕ)) (levels : List ℕ) (front done : ℕ) (rows : List Found)
      (table : List (Stored P)) → IsWorldTable space first keys levels front table → length keys ≤ done
      → ((i : ℕ) (x : Stored P) → i < done → slice_get table i ≡ Some x
      → IsExpanded space.parties space.asks table rows (x.level + 1) x.world)
      → IsWhole space.caps space.parties space.asks space.good lawful.lawful table rows
  whole-of keys levels front done rows table is enough expanded = record {
    worlds = λ x i. (is.worlds x i).fine.good;
    expanded = λ x i.
        let p = In-place x table i in
        expanded p.0 x (omega (arith, get-below table p.0 x p.1, is.count, enough)) p.1;
  }

  -- its rows
  pub all-found : (keys : List (List ℕ)) (levels : List ℕ) (front done : ℕ) (rows : List Found)
      (table : List (Stored P)) → IsFine space first → IsWorldTable space first keys levels front table
      → AreRows space first front rows → length keys ≤ done
      → ((i : ℕ) (x : Stored P) → i < done → slice_get table i ≡ Some x
      → IsExpanded space.parties space.asks table rows (x.level + 1) x.world)
      → AreFindings space.parties space.asks first rows true
  all-found keys levels front done rows table fine is rows_are enough expanded =
      let whole = whole-of keys levels front done rows table is enough expanded in
      let begin : IsStored table 0 first = record {
        at = record { level = 0; world = first };
        within = is.begin;
        soon = omega arith;
        keys = record { places = refl; keys = refl };
      } in
      let complete = whole-complete space.caps space.parties space.asks space.good lawful.lawful table rows first whole
      fine.good begin in
      record {
        sound = rows_are.sound;
        complete = λ e. complete;
        least = λ e row steps i may.
            let f = complete steps row.finding may in
            let same : row.steps ≡ f.row.steps =
            ap (λ (r : Found). r.steps) (rows_are.distinct row f.row i f.within (sym f.same)) in
            omega (arith, same, f.soon);
      }
