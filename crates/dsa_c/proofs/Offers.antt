-- A dispatch takes an entry exactly where an engine may take one.
use Rattle.dsa_book.specs.declared.answer.Reply.TheVariants as reply
use Rattle.dsa_book.specs.declared.answer.DispatchAnswer.TheVariants as dispatched
use Rattle.std.proofs.Common.{◌≡◌, ℕ, Bool, true, false, not, ◌&&◌, ◌==◌, ◌<◌, nat_lt, length, refl, sym, arith, inl, inr}
use Rattle.std.proofs.lemmas.{Grind.{common_steps}, Bool.{cases_lt}}
use Rattle.std.specs.{Prelude.{is_some, Option, Some, None, option_map}, List.{list_any}}
use Rattle.dsa_base.{specs.{Numbers.{numbers_below}, Rows.{when}}, proofs.NumberLemmas.{numbers_below-hit}}
use Rattle.dsa_book.specs.declared.{answer.DispatchAnswer.{DispatchAnswer}, event.Event.TheVariants.{Dispatch}}
use Rattle.dsa_book.specs.{Machine.{next, is_full_reply}, State.{State, Work}, Work.{qualifies}}
use Rattle.dsa_engines.specs.Dispatch.{queue_reason}
use Rattle.dsa_device.specs.Running.{Running, after_answer}
use Rattle.dsa_explain_lines.specs.Lines.{is_taken_by}
use Rattle.dsa_c.specs.Why.{is_taking}

abbrev offers : Work → ℕ → Bool
offers w e = list_any (qualifies w e) (numbers_below w.setup.caps.queues)

-- a queue that qualifies is one that is offered
taken : (w : Work) (e q : ℕ) → qualifies w e q ≡ true → offers w e ≡ true
taken w e q is = numbers_below-hit (qualifies w e) w.setup.caps.queues q (grind (arith, common_steps, is)) is

held : {X : Type 0} (b c : Bool) (x : X) → is_some (when (b && c) x) ≡ true → b ≡ true
held true c x may = refl
held false c x may = absurd cc

-- the answers of a machine that has room
with-room : (s : State) (e : ℕ) (answer : DispatchAnswer)
    → is_some (next s (Dispatch e) (reply.Dispatch answer)) ≡ true
    → offers s.work e ≡ is_taken_by (reply.Dispatch answer)
with-room s e (dispatched.Taken ticket queue) may = taken s.work e queue (held (qualifies s.work e queue) _ _ may)
with-room s e dispatched.Idle may = grind (arith, common_steps, may)
with-room s e dispatched.Full may = grind (arith, common_steps, may)

without-room : (e : ℕ) (answer : DispatchAnswer) → is_full_reply (Dispatch e) (reply.Dispatch answer) ≡ true
    → is_taken_by (reply.Dispatch answer) ≡ false
without-room e (dispatched.Taken ticket queue) may = grind (arith, common_steps, may)
without-room e dispatched.Idle may = refl
without-room e dispatched.Full may = refl

-- a queue with a reason is one of the device
pub within : (w : Work) (e q : ℕ) → is_some (queue_reason w e q) ≡ true → q < w.setup.caps.queues
within w e q some = elim (cases_lt q w.setup.caps.queues) [
  | inl inside ↦ inside
  | inr past ↦
      let off : nat_lt q w.setup.caps.queues ≡ false = grind (arith, common_steps, past) in
      absurd (grind (arith, common_steps, off, some))
]

-- there is something of a test that passes
passed : {X : Type 0} (b : Bool) (x : X) → is_some (when b x) ≡ true → b ≡ true
passed true x may = refl
passed false x may = absurd cc

-- what is made of something is something
made-of : {X Y : Type 0} (f : X → Y) (o : Option X) → is_some (option_map f o) ≡ true → is_some o ≡ true
made-of f None may = absurd cc
made-of f (Some x) may = refl

pub takes : (now : Running) (e : ℕ) (answer : DispatchAnswer)
    → is_some (after_answer now (Dispatch e) (reply.Dispatch answer)) ≡ true
    → is_taking now (Dispatch e) ≡ is_taken_by (reply.Dispatch answer)
takes now e answer may = go (length now.history == now.capacity) refl
  where
    go : (full : Bool) → (length now.history == now.capacity) ≡ full
        → (not full && offers now.state.work e) ≡ is_taken_by (reply.Dispatch answer)
    go true is = sym (without-room e answer (passed _ _ (rw is at may)))
    go false is = with-room now.state e answer (made-of _ _ (rw is at may))
