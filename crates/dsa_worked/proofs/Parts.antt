-- Records of which several goals ask, by what their fields say.
use Rattle.std.proofs.Common.{◌≡◌, ℕ, arith, length, true}
use Rattle.dsa_book.specs.State.{Setup, is_off}
use Rattle.dsa_engines.specs.Engines.{EnginesState, IsInStep}
use Rattle.dsa_queues.specs.Queues.{IsStoreFor, IsWholeSetup}
use Rattle.dsa_store.specs.Content.{Content, held_count}

-- while the device is Off, nothing is asked of its check, of the engines' groups and of read buffers
pub in_step_while_off : (setup : Setup) (engines_state : EnginesState) (cells : ℕ) (content : Content)
    → is_off setup.device ≡ true → IsWholeSetup setup → IsStoreFor setup.caps cells content → held_count content ≡ 0
    → length engines_state.notes ≡ setup.caps.engines → IsInStep setup engines_state cells content
in_step_while_off setup engines_state cells content off queues store empty notes = record {
  queues = queues;
  store = store;
  idle = λ same. empty;
  checked = λ on. absurd (grind (arith, off, on));
  notes = notes;
  homes = λ on. absurd (grind (arith, off, on));
  buffers = λ on. absurd (grind (arith, off, on));
}
