-- What commands do, deed by deed, and that they leave queues, engines and store in step.
use Rattle.std.proofs.Common.{◌≡◌, ℕ, Bool, true, false, not, List, [], ◌∷◌, length, refl, sym, ap, ◌∙◌}
use Rattle.std.specs.List.{list_any}
use Rattle.dsa_regs.specs.declared.{Phase.{Phase}, Command.{Command}, Scope.{Scope, TheVariants.{Device}}}
use Rattle.dsa_regs.specs.declared.Deed.{Deed, TheVariants.{Disable}}
use Rattle.dsa_regs.specs.Command.{scope_of, deed_of, queues_in}
use Rattle.dsa_store.specs.{declared.entry.Entry.{Entry}, Content.{HeldEntry, Content, all_held, held_count}}
use Rattle.dsa_store.proofs.Sums.{held-counted}
use Rattle.dsa_book.specs.{declared.answer.IssueAnswer.{IssueAnswer}, State.{Setup, State, is_off, phase_at}}
use Rattle.dsa_book.specs.{State.{holds_any}, Commands.{command_done_of, deed_done_of, is_awaited, may_come, is_among}}
use Rattle.dsa_book.specs.Commands.{after_stop, with_phases}
use Rattle.dsa_book.proofs.Phases.{on-not_off}
use Rattle.dsa_queues.proofs.Whole.{whole-phases}
use Rattle.dsa_engines.specs.Engines.{EnginesState, IsInStep}

-- a command is carried out as its deed is done
pub carried-as : (s : State) (command : Command) (deed is : Deed) (done : IssueAnswer × State)
    → deed ≡ deed_of command → deed ≡ is
    → deed_done_of s command is (scope_of command) ≡ done → command_done_of s command ≡ done
carried-as s command deed is done of e h = ap (λ d. deed_done_of s command d (scope_of command)) (sym of ∙ e) ∙ h

-- ---- phases

-- phases of queues change nothing else
pub in_step-phases : {cells : ℕ} (test : ℕ → Bool) (phase : Phase) (setup : Setup) (engines_state : EnginesState) (content : Content)
    → IsInStep setup engines_state cells content → IsInStep (with_phases test phase setup) engines_state cells content
in_step-phases test phase setup engines_state content s = assumption (whole-phases test phase setup s.queues)

-- nothing is held that a disable of the device waits for, so nothing is held
none-awaited : (content : Content) → holds_any (λ (entry : Entry). true) content ≡ false → held_count content ≡ 0
none-awaited content none = held-counted content ∙ empty (all_held content) none
  where
    empty : (xs : List HeldEntry) → list_any (λ (x : HeldEntry). true) xs ≡ false → length xs ≡ 0
    empty [] h = refl
    empty (x ∷ xs) h = absurd cc

-- what is stopped stays in step; it comes to Off once nothing is held that is waited for
pub in_step-stopped : {cells : ℕ} (deed : Deed) (scope : Scope) (mark : ℕ) (phase : Phase) (setup : Setup)
    (engines_state : EnginesState) (content : Content)
    → (is_off phase ≡ false → may_come setup deed scope ≡ true)
    → (is_off phase ≡ true → holds_any (is_awaited deed scope mark) content ≡ false)
    → IsInStep setup engines_state cells content → IsInStep (after_stop deed scope phase setup) engines_state cells content
in_step-stopped Disable Device mark phase setup engines_state content come none s =
    let on : is_off phase ≡ false → is_off setup.device ≡ false = λ stays. on-not_off setup.device (come stays) in
    record {
      queues = assumption (whole-phases (λ q. not (is_off (phase_at setup q))) phase setup s.queues);
      store = s.store;
      idle = λ off. none-awaited content (none off);
      checked = λ stays. s.checked (on stays);
      notes = s.notes;
      homes = λ stays. s.homes (on stays);
      buffers = λ stays. s.buffers (on stays);
    }
in_step-stopped Disable scope mark phase setup engines_state content come none s =
    in_step-phases (is_among (queues_in scope)) phase setup engines_state content s
in_step-stopped _ scope mark phase setup engines_state content come none s = s
