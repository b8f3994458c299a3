-- Only a client's steps accept a descriptor.
use Rattle.dsa_book.specs.declared.event.Event.TheVariants as event
use Rattle.std.proofs.Common.{◌≡◌, ℕ, List, [], ◌∷◌, Bool, true, false, cond, Option, Some, None}
use Rattle.std.proofs.Common.{refl, ◌∙◌, arith}
use Rattle.std.proofs.lemmas.List.Sums.{sum_by-cons}
use Rattle.dsa_regs.specs.declared.Caps.{Caps}
use Rattle.dsa_book.specs.declared.event.Actor.{Actor, TheVariants.{Client, Engine, Admin}}
use Rattle.dsa_book.specs.declared.event.Event.{Event}
use Rattle.dsa_book.specs.declared.event.Step.{Step}
use Rattle.dsa_book.specs.declared.answer.Reply.{Reply}
use Rattle.dsa_book.specs.State.{State, opening}
use Rattle.dsa_book.specs.Machine.{next, reply_of, replay, replay_from}
use Rattle.dsa_book.specs.Choice.{Choice}
use Rattle.dsa_book.specs.Totals.{actor_of, same_actor, steps_of_actor, is_accepted, total_accepted}
use Rattle.dsa_book.proofs.{Nexts.{next-each}, Replay.{replay_none}}

-- whether it is a client
abbrev pub is_client : Actor → Bool
is_client (Client k) = true
is_client _ = false

-- the machine's reply to what is not a client's accepts nothing
accepts-nothing : (s : State) (e : Event) (choice : Choice) → is_client (actor_of e) ≡ false
    → is_accepted (reply_of s e choice).0 ≡ false
accepts-nothing s (event.Submit client queue portal kind desc) choice other = absurd cc
accepts-nothing s _ choice other = refl

-- nor does any reply that it may get
not_accepted : (s s' : State) (e : Event) (r : Reply) → next s e r ≡ Some s' → is_client (actor_of e) ≡ false
    → is_accepted r ≡ false
not_accepted s s' e r h other = next-each (λ r t. is_accepted r ≡ false) s s' e r
    (λ choice may told. accepts-nothing s e choice other) h

-- one actor is of one kind
same_kind : (a b : Actor) → same_actor a b ≡ true → is_client a ≡ is_client b
same_kind (Client a) (Client b) h = refl
same_kind (Engine a) (Engine b) h = refl
same_kind Admin Admin h = refl
same_kind _ _ h = absurd cc

-- the same from any state on
none_from : (a : Actor) → is_client a ≡ false → (h : List Step) (s s' : State) → replay_from (Some s) h ≡ Some s'
    → total_accepted (steps_of_actor h a) ≡ 0
none_from a other [] s s' e = refl
none_from a other (x ∷ h) s s' e = after (λ t left. none_from a other h t s' left) (next s x.event x.reply) refl e where
  own : (t : State) → next s x.event x.reply ≡ Some t → (b : Bool) → same_actor (actor_of x.event) a ≡ b
      → total_accepted (steps_of_actor h a) ≡ 0
      → total_accepted (cond b (x ∷ steps_of_actor h a) (steps_of_actor h a)) ≡ 0
  own t n false same rest = rest
  own t n true same rest =
      let here : is_accepted x.reply ≡ false = not_accepted s t x.event x.reply n
      (same_kind (actor_of x.event) a same ∙ other) in
      let one : ◌≡◌ {A = ℕ} (cond (is_accepted x.reply) 1 0) 0 = rw here refl in
      omega (arith, one, rest, sum_by-cons (λ (step : Step). cond (is_accepted step.reply) 1 0) x (steps_of_actor h a))

  after : ((t : State) → replay_from (Some t) h ≡ Some s' → total_accepted (steps_of_actor h a) ≡ 0)
      → (o : Option State)
      → next s x.event x.reply ≡ o
      → replay_from o h ≡ Some s' → total_accepted (steps_of_actor (x ∷ h) a) ≡ 0
  after further None n left = absurd (replay_none h s' left)
  after further (Some t) n left = own t n (same_actor (actor_of x.event) a) refl (further t left)

-- no step of an engine or of the administrator accepts a descriptor
pub none_accepted : (caps : Caps) (h : List Step) (s : State) → replay caps h ≡ Some s → (a : Actor)
    → is_client a ≡ false → total_accepted (steps_of_actor h a) ≡ 0
none_accepted caps h s e a other = none_from a other h (opening caps) s e
