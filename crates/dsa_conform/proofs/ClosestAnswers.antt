-- A step that goes on by the answer closest to what was seen.
use Rattle.std.proofs.Common.{◌≡◌, ◌<◌, ◌==◌, ◌∙◌, ℕ, true, false, List, [], ◌∷◌, Some, Ok, Result, length, sym, subst}
use Rattle.std.proofs.Common.{refl}
use Rattle.std.proofs.lemmas.Option.{same_Some}
use Rattle.dsa_book.specs.State.{Work}
use Rattle.dsa_book.specs.declared.event.Event.{Event, TheVariants.{Dispatch}}
use Rattle.dsa_device.specs.Running.{Running}
use Rattle.dsa_scenario.specs.declared.actions.BadWord.{BadWord}
use Rattle.dsa_scenario.specs.{declared.run.Record.{Record}, Run.{answered_by, Leads}}
use Rattle.dsa_conform.specs.Allowed.{IsAllowed, IsClosest, HasOneAnswer, NoneShows, offer, offers}
use Rattle.dsa_conform.specs.Seen.{Seen, is_seen, shows}
use Rattle.dsa_conform.proofs.{Choices.{idle_answer, none_shows}, Walks.{shows_unseen}}

-- the one answer of a step
pub only_closest : (now new : Running) (asked : Result Event BadWord) (seen : Seen) (entry : Record)
    → answered_by entry ≡ asked → Leads now entry new → HasOneAnswer now asked → IsClosest now asked seen new entry
only_closest now new asked seen entry answers leads one = record {
  answers = answers;
  leads = leads;
  best = λ other e may.
      let allowed : IsAllowed now asked entry = record { answers = answers; after = new; leads = leads } in
      (one e entry may allowed).shown seen ∙ other;
}

-- any answer, where nothing was seen
pub unseen_closest : (now new : Running) (asked : Result Event BadWord) (seen : Seen) (entry : Record)
    → answered_by entry ≡ asked → Leads now entry new → is_seen seen ≡ false → IsClosest now asked seen new entry
unseen_closest now new asked seen entry answers leads none = record {
  answers = answers;
  leads = leads;
  best = λ other. let shown : true ≡ false = sym (shows_unseen seen entry none) ∙ other in absurd cc;
}

-- what is taken shows what was seen, where the front of the queue does
pub shown_offer : (w : Work) (e q : ℕ) (seen : Seen) (found taken : Record) → offer w e q ≡ Some found
    → shows seen found ≡ true → offer w e q ≡ Some taken → shows seen taken ≡ true
shown_offer w e q seen found taken offered shown takes =
    subst (λ (entry : Record). shows seen entry ≡ true) (same_Some found taken (sym offered ∙ takes)) shown

-- any answer of an engine that is offered nothing that was seen
pub dispatch_closest : (now new : Running) (e : ℕ) (seen : Seen) (entry : Record)
    → (length now.history == now.capacity) ≡ false
    → ((q : ℕ) (entry : Record) → q < now.state.work.setup.caps.queues → offer now.state.work e q ≡ Some entry
    → shows seen entry ≡ false)
    → answered_by entry ≡ Ok (Dispatch e) → Leads now entry new → IsClosest now (Ok (Dispatch e)) seen new entry
dispatch_closest now new e seen entry room fails answers leads = by_offers (offers now.state.work e) refl
  where
    by_offers : (found : List Record) → offers now.state.work e ≡ found → IsClosest now (Ok (Dispatch e)) seen new entry
    by_offers [] none =
        only_closest now new (Ok (Dispatch e)) seen entry answers leads (idle_answer now e none)
    by_offers (first ∷ found) some = record {
      answers = answers;
      leads = leads;
      best = λ other. none_shows now e seen room (λ none. absurd cc) fails;
    }
