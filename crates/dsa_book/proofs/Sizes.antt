-- The sizes of queues, where some of them lose all else.
use Rattle.std.proofs.Common.{◌≡◌, ℕ, Bool, true, false, cond, List, length, refl, sym, ap, ◌∙◌}
use Rattle.std.specs.Prelude.{sum_by}
use Rattle.dsa_base.{specs.Numbers.{numbers_below}, proofs.NumberSums.{sum-places, sum-map, sum-equal}}
use Rattle.dsa_regs.specs.{declared.QueueConfig.{QueueConfig}, Config.{queue_at, total_size, zero_queue}}
use Rattle.dsa_book.specs.{State.{Setup}, Commands.{is_among, size_alone, with_sizes_alone}}

size-alone : (b : Bool) (c : QueueConfig) → (cond b (size_alone c) c).size ≡ c.size
size-alone true c = refl
size-alone false c = refl

-- together they stay as large
pub total_size-alone : (queues : List ℕ) (setup : Setup) → length setup.configs ≡ setup.caps.queues
    → total_size (with_sizes_alone queues setup).configs ≡ total_size setup.configs
total_size-alone queues setup long =
    let config : ℕ → QueueConfig = λ q.
    cond (is_among queues q) (size_alone (queue_at setup.configs q)) (queue_at setup.configs q) in
    let all = numbers_below setup.caps.queues in
    sum-map (λ (c : QueueConfig). c.size) config all
    ∙ sum-equal (λ q. (config q).size) (λ q. (queue_at setup.configs q).size) all
    (λ q. size-alone (is_among queues q) (queue_at setup.configs q))
    ∙ ap (λ n. sum_by (λ q. (queue_at setup.configs q).size) (numbers_below n)) (sym long)
    ∙ sum-places (λ (c : QueueConfig). c.size) setup.configs zero_queue
