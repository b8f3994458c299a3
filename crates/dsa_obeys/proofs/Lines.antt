-- Each line of a log that obeys is a move, or an engine asked in vain.
use Rattle.dsa_parties.specs.declared.places.Move.TheVariants as moves
use Rattle.dsa_parties.specs.declared.script.Act.TheVariants as act
use Rattle.std.proofs.Common.{◌≡◌, ℕ, true, false, List, ◌∷◌}
use Rattle.std.proofs.Common.{slice_get, slice_set, Some, refl, sym, ap, ◌∙◌, subst}
use Rattle.std.proofs.Common.{arith, unwrap_or}
use Rattle.std.specs.{Prelude.{option_map, option_and_then}, Option.{option_map_or}}
use Rattle.std.proofs.lemmas.{Bool.{eqb-true}}
use Rattle.dsa_base.{specs.{Rows.{passes}}}
use Rattle.dsa_base.proofs.Tables.{not-both}
use Rattle.dsa_regs.specs.declared.Caps.{Caps}
use Rattle.dsa_book.specs.declared.answer.{Reply.{Reply}}
use Rattle.dsa_book.specs.declared.event.{Event.{Event}}
use Rattle.dsa_book.specs.State.{State}
use Rattle.dsa_book.specs.Machine.{next, reply_of, is_full_reply}
use Rattle.dsa_book.specs.{Choice.{Choice, choice_of}}
use Rattle.dsa_book.proofs.{Nexts.{next-is}, Gains.{named_by}, EqualSteps.{same-event}}
use Rattle.dsa_keys.specs.{Labels.{Labels}}
use Rattle.dsa_keys.specs.{Parties.{World, labels_for}, Steps.{event_by_label}}
use Rattle.dsa_parties.specs.declared.places.{ClientTurn.{ClientTurn}}
use Rattle.dsa_parties.specs.declared.script.{ClientScript.{ClientScript}, Part.{Part}, Script.{Script}}
use Rattle.dsa_parties.specs.declared.script.{ScriptEntry.{ScriptEntry}, Act.{Act}}
use Rattle.dsa_parties.specs.Standing.{Standing, turn_of, next_act, place_after, act_after}
use Rattle.dsa_parties.specs.Offers.{submission_event, act_event, bare_offer}
use Rattle.dsa_parties.proofs.Stands.{StandsIn, stand-at}
use Rattle.dsa_parties.proofs.{ClientTurns.{is_of_submission}, Worlds.{good-of}}
use Rattle.dsa_obeys.specs.Obeys.{submits, does, LogLine, number_of, is_of_number, is_by_client}
use Rattle.dsa_obeys.specs.Obeys.{is_by_administrator, client_lines, administrator_lines, is_event, event_of_entry}
use Rattle.dsa_obeys.specs.Obeys.{event_of_act}
use Rattle.dsa_obeys.specs.Obeys.{to_submit, to_do, submit_in_order, do_in_order}
use Rattle.dsa_obeys.specs.Walks.{is_in_vain}
use Rattle.dsa_obeys.proofs.{Submissions.{part_from, HasTurn, has-turn, turn, turn-is, behind-line}}
use Rattle.dsa_obeys.proofs.{Acts.{HasAct, has-act, next-is as next-act-is, act-is}}
use Rattle.dsa_obeys.proofs.Stands.{ClientStands, AdministratorStands, StandsAt, IsMade, client-line, administrator-line}
use Rattle.dsa_obeys.proofs.Stands.{clients-pass, administrators-pass, clients-move, administrators-move, made-so}

-- ---- replies by their events

-- what is said of the machine's reply is said of the line's
pub said : {A : Type 0} (f : Reply → A) (x : A) (s s' : State) (e : Event) (r : Reply) → next s e r ≡ Some s'
    → f (reply_of s e (choice_of r)).0 ≡ x → f r ≡ x
said f x s s' e r step h = ap (λ (z : Reply × State). f z.0) (sym (next-is s s' e r step).1) ∙ h

pub act-names-none : (s : State) (a : Act) (choice : Choice) → named_by (reply_of s (event_of_act a) choice).0 ≡ 0
act-names-none s (act.Issue command again) choice = refl
act-names-none s (act.Poll until) choice = refl
act-names-none s (act.WriteQueue queue config) choice = refl
act-names-none s (act.WriteGroup group config) choice = refl
act-names-none s act.ClearError choice = refl

act-moves : (s : State) (a : Act) (choice : Choice) → is_in_vain (reply_of s (event_of_act a) choice).0 ≡ false
act-moves s (act.Issue command again) choice = refl
act-moves s (act.Poll until) choice = refl
act-moves s (act.WriteQueue queue config) choice = refl
act-moves s (act.WriteGroup group config) choice = refl
act-moves s act.ClearError choice = refl

pub act-event-is : (a : Act) → act_event a ≡ event_of_act a
act-event-is (act.Issue command again) = refl
act-event-is (act.Poll until) = refl
act-event-is (act.WriteQueue queue config) = refl
act-event-is (act.WriteGroup group config) = refl
act-event-is act.ClearError = refl

pub act-by-label : (labels : Labels) (s : State) (a : Act) → event_by_label labels s (act_event a) ≡ Some (act_event a)
act-by-label labels s (act.Issue command again) = refl
act-by-label labels s (act.Poll until) = refl
act-by-label labels s (act.WriteQueue queue config) = refl
act-by-label labels s (act.WriteGroup group config) = refl
act-by-label labels s act.ClearError = refl

module _ (caps : Caps) (script : Script) (before : List LogLine) (w : World Standing) (line : LogLine)
    (rest : List LogLine) (s : State) (stand : StandsAt caps script before w (line ∷ rest))
    (step : next w.state line.step.event line.step.reply ≡ Some s)
    (answered : is_full_reply line.step.event line.step.reply ≡ false) where
  abbrev Made : Type 0
  Made = IsMade caps script before w line rest s

  abbrev entries : List ScriptEntry
  entries = script.entries.items

  -- ---- a client's line

  module _ (c n : ℕ) (d : line.doer ≡ submits c n) (client : ClientScript)
      (at_client : slice_get script.clients.items c ≡ Some client)
      (asked : passes (is_event line.step.event) (option_and_then
      (λ (entry : ScriptEntry). event_of_entry client.number entry.desc entry.origin) (slice_get entries n)) ≡ true) where
    here : ClientStands script w.places.clients (line ∷ rest) c client
    here = stand.clients c client at_client

    stands : StandsIn entries client here.place
    stands = stand-at entries script.clients.items w.places.clients c client here.place
        (good-of script w stand.world.is_good).within at_client here.at

    next-turn : HasTurn script w.places.clients c client here.place line (client_lines c rest)
    next-turn = has-turn script w.places.clients c client here.place at_client here.at stands line (client_lines c rest)
        (subst (λ lines. submit_in_order entries (to_submit entries (part_from here.place.next client.part))
        here.place.refusals lines ≡ true) (client-line c n line rest d) here.order)

    abbrev the-turn : ClientTurn
    the-turn = turn script w.places.clients c client here.place at_client here.at stands line (client_lines c rest)
        (subst (λ lines. submit_in_order entries (to_submit entries (part_from here.place.next client.part))
        here.place.refusals lines ≡ true) (client-line c n line rest d) here.order) next-turn

    the-number : n ≡ here.place.next
    the-number = eqb-true n here.place.next (ap (is_of_number here.place.next) (sym d) ∙ next-turn.line_is.about)

    the-event : line.step.event ≡ submission_event the-turn
    the-event = same-event line.step.event (submission_event the-turn)
        (sym (ap (passes (is_event line.step.event))
        (ap (λ k. option_and_then (λ (entry : ScriptEntry). event_of_entry client.number entry.desc entry.origin)
        (slice_get entries k)) the-number
        ∙ ap (option_and_then (λ (entry : ScriptEntry). event_of_entry client.number entry.desc entry.origin))
        next-turn.at_entry
        ∙ ap (event_of_entry client.number next-turn.entry.desc) next-turn.origin)) ∙ asked)

    the-step : next w.state (submission_event the-turn) line.step.reply ≡ Some s
    the-step = subst (λ e. next w.state e line.step.reply ≡ Some s) the-event step

    the-turn-is : turn_of script w.places c ≡ Some the-turn
    the-turn-is = turn-is script w.places.clients c client here.place at_client here.at stands line (client_lines c rest)
        (subst (λ lines. submit_in_order entries (to_submit entries (part_from here.place.next client.part))
        here.place.refusals lines ≡ true) (client-line c n line rest d) here.order) next-turn w.places.administrators w.places.came

    pub client-made : Made
    client-made = made-so caps script before w line rest s stand step (moves.Client c)
        (record { event = submission_event the-turn; label = here.place.next })
        (ap (option_map (λ (turn : ClientTurn). record { event = submission_event turn; label = turn.place.next }))
        the-turn-is)
        (ap Some (sym the-event))
        (ap (submits c) (sym the-number) ∙ sym d)
        (λ l. ap number_of d ∙ ap Some the-number)
        (said is_in_vain false w.state s (submission_event the-turn) line.step.reply the-step refl)
        (record w.places {
          clients = slice_set w.places.clients c (place_after line.step.reply the-turn);
        })
        (ap (λ t. record w.places {
          clients = option_map_or (λ turn. slice_set w.places.clients c (place_after line.step.reply turn)) t
              w.places.clients;
        }) the-turn-is)
        (clients-move script w.places.clients line rest c n client here.place (place_after line.step.reply the-turn) d
        at_client here.at
        (behind-line script w.places.clients c client here.place at_client here.at stands line (client_lines c rest)
        (subst (λ lines. submit_in_order entries (to_submit entries (part_from here.place.next client.part))
        here.place.refusals lines ≡ true) (client-line c n line rest d) here.order) next-turn
        (said is_of_submission true w.state s (submission_event the-turn) line.step.reply the-step refl)
        (λ e. not-both (is_full_reply line.step.event line.step.reply)
        (λ i. is_full_reply (the-event i) (e i)) answered))
        stand.clients)
        (administrators-pass script w.places.administrators line rest (λ a. ap (is_by_administrator a) d)
        stand.administrators)

  -- ---- an administrator's line

  module _ (a k : ℕ) (d : line.doer ≡ does a k) (part : Part)
      (at_part : slice_get script.administrators.items a ≡ Some part)
      (asked : passes (is_event line.step.event) (option_map event_of_act (slice_get script.acts.items k)) ≡ true)
    where
      at : AdministratorStands script w.places.administrators (line ∷ rest) a part
      at = stand.administrators a part at_part

      in-order : do_in_order script.acts.items (to_do script.acts.items (part_from at.next part))
          (line ∷ administrator_lines a rest) ≡ true
      in-order = subst (λ lines. do_in_order script.acts.items (to_do script.acts.items (part_from at.next part)) lines
          ≡ true) (administrator-line a k line rest d) at.order

      next-do : HasAct script part at.next line (administrator_lines a rest)
      next-do = has-act script w.places.administrators a part at.next at_part at.at line (administrator_lines a rest)
          in-order

      number-is : k ≡ at.next
      number-is = eqb-true k at.next (ap (is_of_number at.next) (sym d) ∙ next-do.about)

      event-is : line.step.event ≡ event_of_act next-do.act
      event-is = same-event line.step.event (event_of_act next-do.act)
          (sym (ap (passes (is_event line.step.event))
          (ap (λ j. option_map event_of_act (slice_get script.acts.items j)) number-is
          ∙ ap (option_map event_of_act) next-do.at_act)) ∙ asked)

      step-is : next w.state (event_of_act next-do.act) line.step.reply ≡ Some s
      step-is = subst (λ e. next w.state e line.step.reply ≡ Some s) event-is step

      the-next : next_act script w.places a ≡ Some at.next
      the-next = next-act-is script w.places.administrators a part at.next at_part at.at line (administrator_lines a rest)
          in-order next-do w.places.clients w.places.came

      pub administrator-made : Made
      administrator-made = made-so caps script before w line rest s stand step (moves.Administrator a)
          (bare_offer script (act_event next-do.act))
          (ap (option_map (λ act. bare_offer script (act_event act)))
          (act-is script w.places.administrators a part at.next at_part at.at line (administrator_lines a rest)
          in-order next-do w.places.clients w.places.came))
          (act-by-label (labels_for w (bare_offer script (act_event next-do.act))) w.state next-do.act
          ∙ ap Some (act-event-is next-do.act ∙ sym event-is))
          (ap (λ o. does a (unwrap_or o 0)) the-next ∙ ap (does a) (sym number-is) ∙ sym d)
          (λ l. absurd (omega (
            arith,
            l,
            said named_by 0 w.state s (event_of_act next-do.act) line.step.reply step-is
                (act-names-none w.state next-do.act (choice_of line.step.reply)),
          )))
          (said is_in_vain false w.state s (event_of_act next-do.act) line.step.reply step-is
          (act-moves w.state next-do.act (choice_of line.step.reply)))
          (record w.places {
            administrators = slice_set w.places.administrators a (act_after line.step.reply at.next next-do.act);
          })
          (ap (λ o. record w.places {
            administrators = option_map_or (λ next. option_map_or
                (λ act. slice_set w.places.administrators a (act_after line.step.reply next act))
                (slice_get script.acts.items next) w.places.administrators) o w.places.administrators;
          }) the-next
          ∙ ap (λ o. record w.places {
            administrators = option_map_or
                (λ act. slice_set w.places.administrators a (act_after line.step.reply at.next act)) o
                w.places.administrators;
          }) next-do.at_act)
          (clients-pass script w.places.clients line rest (λ c. ap (is_by_client c) d) stand.clients)
          (administrators-move script w.places.administrators line rest a k part at.next
          (act_after line.step.reply at.next next-do.act) d at_part at.at next-do.rest stand.administrators)
