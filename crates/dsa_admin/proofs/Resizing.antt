-- Queues that lose all but their sizes: what other queues' entries need stays.
use Rattle.std.proofs.Common.{◌≡◌, ℕ, zero, suc, Bool, false, not, cond, List, ◌∷◌, length, refl, sym}
use Rattle.std.proofs.Common.{ap, ◌∙◌, inl, inr, arith, []}
use Rattle.std.proofs.lemmas.{Grind.{common_steps}, Bool.{cases_lt, cases_Bool}}
use Rattle.std.specs.List.{filter}
use Rattle.dsa_desc.specs.Descriptor.{need}
use Rattle.dsa_regs.specs.declared.{QueueConfig.{QueueConfig}, Scope.{Scope, TheVariants.{Device}}}
use Rattle.dsa_regs.specs.declared.Phase.TheVariants.{Off}
use Rattle.dsa_regs.specs.{Config.{check_groups, zero_queue, queue_at, limits_of_queue}, Command.{queues_in}}
use Rattle.dsa_store.specs.{declared.entry.Entry.{Entry}, Content.{HeldEntry, Content, chain, held_count, only_where}}
use Rattle.dsa_store.proofs.Lists.{held-nil, held-cons}
use Rattle.dsa_queues.{specs.Queues.{IsWholeSetup}, proofs.Whole.{whole-reset}}
use Rattle.dsa_base.proofs.NumberLists.{get_or-each, length-each}
use Rattle.dsa_book.specs.State.{Setup, held_by, is_member}
use Rattle.dsa_book.specs.Commands.{is_in_scope, is_among, with_phases, with_sizes_alone, size_alone, reset}
use Rattle.dsa_book.proofs.{Scopes.{unnamed}, Sizes.{total_size-alone}}
use Rattle.dsa_engines.specs.Engines.{EnginesState, IsInStep}
use Rattle.dsa_engines.proofs.{Keeping.{KeepsLoads, homes-kept, buffers-kept}, Used.{load, load-nil, load-cons}}

-- the set-up after Reset WQ
abbrev after_reset : Scope → Setup → Setup
after_reset scope setup = with_sizes_alone (queues_in scope) (with_phases (is_among (queues_in scope)) Off setup)

module _ (scope : Scope) (setup : Setup) (w : IsWholeSetup setup) where
  -- a queue that is not named keeps its configuration
  config-same : (q : ℕ) → is_among (queues_in scope) q ≡ false
      → queue_at (after_reset scope setup).configs q ≡ queue_at setup.configs q
  config-same q out =
      let config : ℕ → QueueConfig =
      λ k. cond (is_among (queues_in scope) k) (size_alone (queue_at setup.configs k)) (queue_at setup.configs k) in
      elim (cases_lt q setup.caps.queues) [
        | inl h ↦ get_or-each config setup.caps.queues q zero_queue h ∙ rw out refl
        | inr past ↦ grind (arith, common_steps, length-each config setup.caps.queues, w.configs, past)
      ]

  -- and its entries hold what they held
  held-same : (e : Entry) → is_in_scope scope e ≡ false → held_by (after_reset scope setup) e ≡ held_by setup e
  held-same e out =
      ap (λ (config : QueueConfig). cond {A = ℕ} e.running (need e.desc (limits_of_queue config) (is_member e)) 0)
      (config-same e.queue (unnamed scope e out))

  -- so does what is left of a list
  load-spared : (l : List HeldEntry) → load (after_reset scope setup) (filter (λ (s : HeldEntry). not (is_in_scope scope s.1)) l)
      ≡ load setup (filter (λ (s : HeldEntry). not (is_in_scope scope s.1)) l)
  load-spared [] = load-nil (after_reset scope setup) ∙ sym (load-nil setup)
  load-spared (s ∷ l) =
      elim (cases_Bool (is_in_scope scope s.1)) [
        | inl inside ↦ rw inside (load-spared l)
        | inr outside ↦
            let rest : List HeldEntry = filter (λ (x : HeldEntry). not (is_in_scope scope x.1)) l in
            rw outside (omega (
              arith,
              load-spared l,
              held-same s.1 outside,
              load-cons (after_reset scope setup) s rest,
              load-cons setup s rest,
            ))
      ]

-- a list of what is kept
chain-kept : (test : Entry → Bool) (content : Content) (i : ℕ)
    → chain (only_where test content) i ≡ filter (λ (s : HeldEntry). test s.1) (chain content i)
chain-kept test [] i = refl
chain-kept test (l ∷ ls) zero = refl
chain-kept test (l ∷ ls) (suc i) = chain-kept test ls i

-- a reset of what is not the device
pub reset-named : (scope : Scope) (setup : Setup) → (scope ≡ Device → ⊥) → reset scope setup ≡ after_reset scope setup
reset-named Device setup n = absurd (n refl)
reset-named _ setup n = refl

-- a reset of the device takes all out
none-kept : (content : Content) → held_count (only_where (λ entry. false) content) ≡ 0
none-kept [] = held-nil
none-kept (l ∷ ls) =
    omega (arith, held-cons (filter (λ (s : HeldEntry). false) l) (only_where (λ entry. false) ls), none l, none-kept ls)
  where
    none : (l : List HeldEntry) → length (filter (λ (s : HeldEntry). false) l) ≡ 0
    none [] = refl
    none (s ∷ l) = none l

-- a reset leaves in step what it left
pub in_step-reset : {cells : ℕ} (scope : Scope) (setup : Setup) (engines_state : EnginesState) (content now : Content)
    → now ≡ only_where (λ entry. not (is_in_scope scope entry)) content → IsInStep setup engines_state cells now
    → IsInStep (reset scope setup) engines_state cells now
in_step-reset Device setup engines_state content now is s = record {
  queues = whole-reset Device setup s.queues;
  store = s.store;
  idle = λ off. ap held_count is ∙ none-kept content;
  checked = λ on. absurd cc;
  notes = s.notes;
  homes = λ on. absurd cc;
  buffers = λ on. absurd cc;
}
in_step-reset scope setup engines_state content now is s =
    let w = s.queues in
    let keeps : KeepsLoads setup (after_reset scope setup) now now = record {
      caps = refl;
      groups = refl;
      device = λ on. on;
      loads = λ j low. rw (is, chain-kept (λ entry. not (is_in_scope scope entry)) content j)
          (load-spared scope setup w (chain content j));
    } in
    record {
      queues = whole-reset scope setup w;
      store = s.store;
      idle = s.idle;
      checked = λ on. ap (λ (n : ℕ). check_groups setup.caps n setup.groups)
          (total_size-alone (queues_in scope) setup w.configs) ∙ s.checked on;
      notes = s.notes;
      homes = homes-kept setup (after_reset scope setup) engines_state now now s keeps;
      buffers = buffers-kept setup (after_reset scope setup) engines_state now now s keeps;
    }
