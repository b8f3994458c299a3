-- What leaves queues, engines and store in step.
use Rattle.std.proofs.Common.{◌≡◌, ℕ, ◌<◌, ◌≤◌, false, List, [], ◌∷◌, length, map, set, Option, Some, None, refl}
use Rattle.std.proofs.Common.{sym, ap, ◌∙◌, arith, inl, inr}
use Rattle.std.proofs.lemmas.{Bool.{cases_Bool}, List.{get_or-set_other, length-set}}
use Rattle.std.proofs.Math.Path.{fun_ext}
use Rattle.dsa_base.proofs.Tables.{not-both}
use Rattle.std.specs.List.{filter, sum_by}
use Rattle.dsa_base.specs.Numbers.{has, numbers_below}
use Rattle.dsa_regs.specs.{declared.{Caps.{Caps}, GroupConfig.{GroupConfig}}, Config.{group_at}}
use Rattle.dsa_buffers.specs.Buffers.{Buffers}
use Rattle.dsa_store.specs.{Content.{HeldEntry, Content, chain}}
use Rattle.dsa_store.proofs.Lists.{length-le-held}
use Rattle.dsa_book.specs.{State.{Setup, is_off}, Work.{used_on}}
use Rattle.dsa_engines.specs.Engines.{EnginesState, IsInStep, lists_alone, buffers_of, homes_of}
use Rattle.dsa_engines.proofs.Used.{load, used_on-same}

-- ---- a change that touches no list of an engine

-- the new set-up has the old one's capabilities, groups and phase, and each list of an engine needs what it needed
pub record KeepsLoads (setup more : Setup) (content now : Content) : Type 0 where
  pub caps : more.caps ≡ setup.caps
  pub groups : more.groups ≡ setup.groups
  pub device : is_off more.device ≡ false → is_off setup.device ≡ false
  pub loads : (j : ℕ) → setup.caps.queues ≤ j → load more (chain now j) ≡ load setup (chain content j)

-- the read buffers in use, by what each engine holds
abbrev buffers_by : Caps → List GroupConfig → (ℕ → ℕ) → Buffers
buffers_by caps groups holds = record {
  total = caps.read_buffers;
  groups = groups;
  used =
      map (λ g. sum_by holds (filter (has (group_at groups g).engines) (numbers_below caps.engines)))
      (numbers_below caps.groups);
}

module _ {cells : ℕ} (setup more : Setup) (engines_state : EnginesState) (content now : Content)
    (s : IsInStep setup engines_state cells content) (k : KeepsLoads setup more content now)
    (on : is_off more.device ≡ false) where
  -- the groups of the engines stay
  pub homes-kept : engines_state.homes ≡ homes_of more
  homes-kept = s.homes (k.device on) ∙ rw (k.caps, k.groups) refl

  -- each engine holds what it held
  engine-kept : (e : ℕ) → used_on (lists_alone more now) e ≡ used_on (lists_alone setup content) e
  engine-kept e = used_on-same setup more content now e k.caps (λ j lt is. k.loads j (omega arith))

  -- and so do the buffers in use
  pub buffers-kept : engines_state.buffers ≡ buffers_of more now
  buffers-kept = s.buffers (k.device on) ∙ ap (buffers_by setup.caps setup.groups) (sym (fun_ext engine-kept))
      ∙ rw (k.caps, k.groups) refl

-- ---- a device with entries

module _ {cells : ℕ} {setup : Setup} {engines_state : EnginesState} {content : Content} (s : IsInStep setup engines_state cells content) where
  -- while the device is Off nothing stands in a list
  pub awake : (i : ℕ) → 0 < length (chain content i) → is_off setup.device ≡ false
  awake i some =
      elim (cases_Bool (is_off setup.device)) [
        | inl off ↦ absurd (omega (arith, s.idle off, length-le-held content i, some))
        | inr on ↦ on
      ]

  -- so that nothing is found in one
  pub awake-found : {X : Type 0} {x : X} (search_in : List HeldEntry → Option X) (i : ℕ) → search_in [] ≡ None
      → search_in (chain content i) ≡ Some x → is_off setup.device ≡ false
  awake-found {X} {x} search_in i none found = awake i (some (chain content i) found)
    where
      some : (l : List HeldEntry) → search_in l ≡ Some x → 0 < length l
      some [] h = absurd cc
      some (pair ∷ l) h = omega arith

  module _ (on : is_off setup.device ≡ false) {more : ℕ} (same : more ≡ cells) where
    -- lists, cells and notes stay as many, and the buffers in use are told anew
    pub in_step-moved : {after : EnginesState} {now : Content} → length now ≡ length content
        → length after.notes ≡ length engines_state.notes → after.homes ≡ engines_state.homes → after.buffers ≡ buffers_of setup now
        → IsInStep setup after more now
    in_step-moved lists notes homes buffers = record {
      queues = s.queues;
      store = record { lists = lists ∙ s.store.lists; cells = same ∙ s.store.cells };
      idle = λ off. not-both (is_off setup.device) off on;
      checked = s.checked;
      notes = notes ∙ s.notes;
      homes = λ x. homes ∙ s.homes x;
      buffers = λ x. buffers;
    }

    -- a queue's list, whatever it comes to
    pub in_step-queue : (q : ℕ) (l : List HeldEntry) → q < setup.caps.queues → IsInStep setup engines_state more (set content q l)
    in_step-queue q l hq = in_step-moved (length-set content q l) refl refl
        (buffers-kept setup setup engines_state content (set content q l) s (record {
          caps = refl;
          groups = refl;
          device = λ on. on;
          loads = λ j low. ap (load setup) (get_or-set_other content q j l [] (omega arith));
        }) on)
