-- What a device is after the steps of records.
use Rattle.std.specs.Prelude.{◌≡◌, List, [], ◌∷◌, ◌++◌, ℕ, flat_map}
use Rattle.std.specs.List.{All}
use Rattle.dsa_book.specs.declared.event.Step.{Step}
use Rattle.dsa_device.specs.Running.{Running}
use Rattle.dsa_saved.specs.{Format.{record_of}, Said.{IsStepRead}}

-- one step more is in the history: that of this record
pub record HasMade (said : List ℕ) (old new : Running) : Type 0 where
  pub step : Step
  pub history : new.history ≡ old.history ++ step ∷ []
  pub bytes : record_of step ≡ said
  pub read : IsStepRead step
  pub caps : new.caps ≡ old.caps
  pub capacity : new.capacity ≡ old.capacity
  pub room : new.room ≡ old.room
  pub anew : new.anew ≡ old.anew

-- so many steps more are: those of these records
pub record HaveMade (said : List ℕ) (old new : Running) : Type 0 where
  pub steps : List Step
  pub history : new.history ≡ old.history ++ steps
  pub bytes : flat_map record_of steps ≡ said
  pub read : All IsStepRead steps
  pub caps : new.caps ≡ old.caps
  pub capacity : new.capacity ≡ old.capacity
  pub room : new.room ≡ old.room
  pub anew : new.anew ≡ old.anew
