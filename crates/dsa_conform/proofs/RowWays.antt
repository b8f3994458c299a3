-- Lists of one element or two, and devices of the worked rows that are followed.
use Rattle.dsa_book.specs.declared.event.Event.TheVariants as event
use Rattle.std.proofs.Common.{◌≡◌, false, List, [], ◌∷◌, inl, inr, Ok, ap, arith, codes, length, refl, sym, subst}
use Rattle.std.{specs.{declared.{alloc.Global.{Global}, vec.Vec.{Vec}}}, proofs.lemmas.Option.{same_Some}}
use Rattle.dsa_base.{specs.Lists.{In}, proofs.Tables.{not-both}}
use Rattle.dsa_book.specs.declared.answer.Ticket.{Ticket}
use Rattle.dsa_device.specs.Running.{Running}
use Rattle.dsa_scenario.specs.{declared.{actions.Action.{Action}, run.Record.{Record}}, Run.{AreOf, Leads}}
use Rattle.dsa_scenario.specs.Worked.{smallest_caps}
use Rattle.dsa_conform.specs.{Allowed.{IsAllowed, NoneShows}, Run.{IsFollowedTo}, Seen.{Seen, shows}}
use Rattle.dsa_conform.specs.Ways.{AreDevicesAlike, Covers, IsAmong}
use Rattle.dsa_conform.specs.{declared.way.Way.{Way}, Worked.{answered, smallest_device_at_first, way_at_first}}
use Rattle.dsa_conform.proofs.RowRuns.{nothing, only_nothing}

pub to_one : {X : Type 0} (P : X → Type 0) (x : X) → P x → (y : X) → In y (x ∷ []) → P y
to_one P x holds y (inl is) = subst P is holds
to_one P x holds y (inr none) = absurd none

pub to_two : {X : Type 0} (P : X → Type 0) (w x : X) → P w → P x → (y : X) → In y (w ∷ x ∷ []) → P y
to_two P w x first second y (inl is) = subst P is first
to_two P w x first second y (inr among) = to_one P x second y among

-- a device is alike itself
pub itself : (d : Running) → AreDevicesAlike d d
itself d = record {
  caps = refl;
  capacity = refl;
  count = refl;
  states = record { setup = refl; entries = refl; notes = refl; active = refl };
}

-- no device has come by no steps and has made one, or by one and made two
pub not_one : (way : Way) → IsFollowedTo smallest_caps 9 [] 1 way.device way.tickets.items → ⊥
not_one way h = at h.records h.of_actions h.count
  where
    at : (records : List Record) → AreOf [] [] records → length records ≡ 1 → ⊥
    at [] of count = omega (arith, count)
    at (r ∷ rs) of count = of

pub not_two : (here : Action × Seen) (way : Way)
    → IsFollowedTo smallest_caps 9 (here ∷ []) 2 way.device way.tickets.items → ⊥
not_two here way h = at h.records h.of_actions h.count
  where
    at : (records : List Record) → AreOf [] (here.0 ∷ []) records → length records ≡ 2 → ⊥
    at [] of count = of
    at (r ∷ []) of count = omega (arith, count)
    at (r ∷ q ∷ rs) of count = of.1

-- devices of two capacities are not the same
pub other_capacity : (t : Vec Ticket Global) → way_at_first 8 t ≡ way_at_first 9 t → ⊥
other_capacity t same = omega (arith, ap (λ (way : Way). way.device.capacity) same)

pub not_in_other : (t : Vec Ticket Global) → In (way_at_first 8 t) (way_at_first 9 t ∷ []) → ⊥
not_in_other t (inl same) = other_capacity t (sym same)
not_in_other t (inr none) = none

-- one of another capacity is not alike the smallest device
pub not_alike : (t : Vec Ticket Global) → IsAmong smallest_device_at_first (way_at_first 8 t ∷ []) → ⊥
not_alike t among =
    to_one (λ (way : Way). AreDevicesAlike smallest_device_at_first way.device → ⊥) (way_at_first 8 t)
    (λ alike. omega (arith, alike.capacity)) among.0 among.1 among.2

-- a poll leads the smallest device to itself, and is answered so alone
pub poll_covered : (seen : Seen) (t : Vec Ticket Global) (ways : List Way) → In (way_at_first 9 t) ways
    → Covers smallest_device_at_first (Ok event.Poll) seen ways
poll_covered seen t ways among entry after asked leads shown =
    let is : IsAllowed smallest_device_at_first (Ok event.Poll) entry =
    record { answers = asked; after = after; leads = leads } in
    let same : Leads smallest_device_at_first nothing after =
    subst (λ r. Leads smallest_device_at_first r after) (sym (only_nothing entry is)) leads in (
      way_at_first 9 t,
      among,
      subst (λ d. AreDevicesAlike d smallest_device_at_first) (same_Some smallest_device_at_first after same)
          (itself smallest_device_at_first),
    )

pub none_active : NoneShows smallest_device_at_first (Ok event.Poll) (answered (codes "active"))
none_active entry is = subst (λ r. shows (answered (codes "active")) r ≡ false) (only_nothing entry is) refl

pub none_covered : (ways : List Way)
    → Covers smallest_device_at_first (Ok event.Poll) (answered (codes "active")) ways
none_covered ways entry after asked leads shown = absurd
    (not-both (shows (answered (codes "active")) entry) shown
    (none_active entry (record { answers = asked; after = after; leads = leads })))
