-- A step of a device, for all kinds of event at once.
use Rattle.dsa_book.specs.declared.event.Event.TheVariants as event
use Rattle.std.proofs.Common.{◌≡◌, ◌≢◌, ◌==◌, Bool, true, false, cond, [], ◌∷◌, ◌++◌, length, Option}
use Rattle.std.proofs.Common.{Some, None, option_map, refl, sym, ap, ◌∙◌, subst, arith}
use Rattle.std.proofs.lemmas.{Option.{same_Some}, Bool.{eqb-false, and_parts}}
use Rattle.std.proofs.lemmas.List.{length_push, Folds.{list_all-append}}
use Rattle.std.specs.List.{list_all}
use Rattle.dsa_base.{specs.Rows.{when}, proofs.Tables.{when-some}}
use Rattle.dsa_book.specs.declared.{event.{Event.{Event}, Step.{Step}}, answer.Reply.{Reply}}
use Rattle.dsa_book.specs.{State.{State}, Choice.{choice_of}}
use Rattle.dsa_book.specs.Machine.{may_choose, reply_of, next, is_stored, history_after, full_reply, is_full_reply}
use Rattle.dsa_book.specs.Machine.{replay}
use Rattle.dsa_book.proofs.{EqualReplies.{equal-replies}, Replay.{replay-snoc}, Nexts.{next-of}}
use Rattle.dsa_device.specs.Running.{Running, running_after, after_answer, IsReplay}
use Rattle.dsa_laws.proofs.{Changes.{next_keeps}}

-- what a reply came of: a history without room, or a step of the machine
pub answered_by_cases : (P : Running → Type 0) (d t : Running) (e : Event) (r : Reply) → after_answer d e r ≡ Some t
    → ((length d.history == d.capacity) ≡ true → is_full_reply e r ≡ true → P d)
    → ((s : State) → (length d.history == d.capacity) ≡ false → next d.state e r ≡ Some s
    → P (running_after d e r s)) → P t
answered_by_cases P d t e r a full step = at_room (length d.history == d.capacity) refl a
  where
    at_next : (o : Option State) → next d.state e r ≡ o → (length d.history == d.capacity) ≡ false
        → option_map (running_after d e r) o ≡ Some t → P t
    at_next None n free a = absurd cc
    at_next (Some s) n free a = subst P (same_Some (running_after d e r s) t a) (step s free n)

    at_room : (b : Bool) → (length d.history == d.capacity) ≡ b
        → cond b (when (is_full_reply e r) d) (option_map (running_after d e r) (next d.state e r)) ≡ Some t → P t
    at_room true room a = let p = when-some (is_full_reply e r) d t a in subst P p.1 (full room p.0)
    at_room false room a = at_next (next d.state e r) refl room a

-- Full is not kept
full-unstored : (e : Event) (r : Reply) → is_full_reply e r ≡ true → is_stored r ≡ false
full-unstored e r h = ap is_stored (equal-replies r (full_reply e) h) ∙ unstored e
  where
    unstored : (e : Event) → is_stored (full_reply e) ≡ false
    unstored event.Poll = refl
    unstored _ = refl

-- the history has the step where it is kept, and all else but the state stays
pub record Grows (d : Running) (e : Event) (r : Reply) (t : Running) : Type 0 where
  pub history : t.history ≡ history_after d.history (record { event = e; reply = r })
  pub room : t.room ≡ d.room
  pub capacity : t.capacity ≡ d.capacity
  pub anew : t.anew ≡ d.anew
  pub caps : t.caps ≡ d.caps

pub grows : (d t : Running) (e : Event) (r : Reply) → after_answer d e r ≡ Some t → Grows d e r t
grows d t e r a = answered_by_cases (Grows d e r) d t e r a
    (λ room full. record {
      history = rw (full-unstored e r full);
      room = refl;
      capacity = refl;
      anew = refl;
      caps = refl;
    })
    (λ s room n. record { history = refl; room = refl; capacity = refl; anew = refl; caps = refl })

-- a history with room takes a step of the machine
recorded : (d : Running) (x : Step) (s : State) → IsReplay d → (length d.history == d.capacity) ≡ false
    → next d.state x.event x.reply ≡ Some s → IsReplay (running_after d x.event x.reply s)
recorded d x s i room n = at (is_stored x.reply) refl
  where
    at : (b : Bool) → is_stored x.reply ≡ b
        → IsReplay (record d { history = cond b (d.history ++ x ∷ []) d.history; state = s })
    at false lost = subst (λ t. IsReplay (record d { state = t })) (sym (next_keeps d.state s x.event x.reply n lost)) i
    at true kept =
        let room : length d.history ≢ d.capacity = eqb-false _ _ room in
        let led : replay d.caps (d.history ++ x ∷ []) ≡ Some s = replay-snoc d.caps d.history x ∙ rw i.replayed n
        in
        let stored : list_all (λ step. is_stored step.reply) d.history ≡ true = (and_parts _ _ i.legal).0 in
        record {
          caps = i.caps;
          bounded = i.bounded;
          within = omega (arith, length_push d.history x, i.within, room);
          legal = rw (list_all-append, stored, kept, led) refl;
          replayed = led;
        }

-- each step keeps the theorem
pub answered-replay : (d t : Running) (e : Event) (r : Reply) → IsReplay d → after_answer d e r ≡ Some t → IsReplay t
answered-replay d t e r i a =
    answered_by_cases IsReplay d t e r a (λ room full. i) (λ s room n. recorded d (record { event = e; reply = r }) s
    i room n)

-- a device with room that goes on by the machine's reply has answered it
pub answered : (d now t : Running) (e : Event) (r : Reply) → d ≡ now → (length d.history == d.capacity) ≡ false
    → may_choose d.state e (choice_of r) ≡ true → reply_of d.state e (choice_of r) ≡ (r, t.state)
    → running_after d e r t.state ≡ t → after_answer now e r ≡ Some t
answered d now t e r is room may step goes = rw (← is, room, next-of d.state t.state e r may step) (ap Some goes)
