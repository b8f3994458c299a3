-- Replays from states with equal keys.
use Rattle.dsa_book.specs.declared.answer.Reply.TheVariants as reply
use Rattle.std.proofs.Common.{◌≡◌, ℕ, ◌+◌, ◌<◌, List, [], ◌∷◌, Option, Some, None, refl, sym, ap, ◌∙◌}
use Rattle.std.proofs.Common.{subst, inl, inr, ⊎_elim, arith, Bool, true, false, cond}
use Rattle.std.{specs.Prelude.{option_map, option_and_then, unwrap_or}, proofs.lemmas.Bool.{cases_eq}}
use Rattle.dsa_base.specs.Lists.{In}
use Rattle.dsa_regs.specs.declared.Caps.{Caps}
use Rattle.dsa_book.specs.declared.event.Event.{Event}
use Rattle.dsa_book.specs.declared.answer.{Reply.{Reply}, SubmitAnswer.TheVariants.{Accepted}}
use Rattle.dsa_book.specs.declared.answer.{FetchAnswer.TheVariants.{Fetched}, DispatchAnswer.TheVariants.{Taken}}
use Rattle.dsa_book.specs.declared.answer.StartAnswer.TheVariants.{Started}
use Rattle.dsa_book.specs.{State.{State}, Machine.{next}}
use Rattle.dsa_accounts.proofs.Totals.{next-names}
use Rattle.dsa_book.proofs.Gains.{named_by}
use Rattle.dsa_keys.specs.Key.{key}
use Rattle.dsa_keys.specs.Labels.{Labels, labelled_reply, with_label}
use Rattle.dsa_keys.specs.Replays.{LabelledStep, labels_at, replay_by_labels, told_by_labels, gives_name, used_after}
use Rattle.dsa_keys.specs.Replays.{AreFreshLabels, AreInUse, HasSameReplay}
use Rattle.dsa_keys.specs.Steps.{event_by_label, next_by_label, IsLabelled}
use Rattle.dsa_keys.proofs.SameSteps.{keys-say-all, named-other, named-next}

-- an event that may come gives as many names as its reply says
pub after-names : (m : Labels) (s s' : State) (move : Event) (r : Reply) → next_by_label m s move r ≡ Some s'
    → s'.work.setup.next_name ≡ s.work.setup.next_name + named_by r
after-names m s s' move r e = go (event_by_label m s move) e
  where
    go : (o : Option Event) → option_and_then (λ event. next s event r) o ≡ Some s'
        → s'.work.setup.next_name ≡ s.work.setup.next_name + named_by r
    go None e = absurd cc
    go (Some event) e = next-names s s' event r e

told-gives : (m : Labels) (r : Reply) → gives_name (labelled_reply m r) ≡ gives_name r
told-gives m (reply.Submit (Accepted t)) = refl
told-gives m (reply.Dispatch (Taken t q)) = refl
told-gives m (reply.Fetch (Fetched t)) = refl
told-gives m (reply.Start (Started t)) = refl
told-gives m r = refl

-- how many names a reply gives
gave : (r : Reply) → named_by r ≡ cond (gives_name r) 1 0
gave (reply.Submit (Accepted t)) = refl
gave (reply.Fetch (Fetched t)) = refl
gave r = refl

-- the labels that are used after an event
uses-after : (used : List ℕ) (m : Labels) (s s' : State) (move : Event) (r : Reply) (label : ℕ) (gives : Bool)
    → AreInUse used m s → next_by_label (with_label m s.work.setup.next_name label) s move r ≡ Some s'
    → gives_name r ≡ gives
    → AreInUse (cond gives (label ∷ used) used) (with_label m s.work.setup.next_name label) s'
uses-after used m s s' move r label gives uses step is a l =
    go gives (gave r ∙ ap (λ (b : Bool). cond b 1 0) is)
  where
    n : ℕ
    n = s.work.setup.next_name

    names : s'.work.setup.next_name ≡ n + named_by r
    names = after-names (with_label m n label) s s' move r step

    old : a < n → In (with_label m n label a) used
    old below = subst (λ z. In z used) (sym (named-other m n label a below)) (uses a below)

    go : (b : Bool) → named_by r ≡ cond b 1 0 → In (with_label m n label a) (cond b (label ∷ used) used)
    go true count = ⊎_elim
        (λ (e : a ≡ n). inl (sym (ap (with_label m n label) e ∙ named-next m n label)))
        (λ ne. inr (old (grind (arith, names, l, count, ne))))
        (cases_eq a n)
    go false count = old (omega (arith, names, l, count))

pub walks-alike : (caps : Caps) (m n m' : Labels) (s t s' : State) (used : List ℕ) (xs : List LabelledStep)
    → IsLabelled caps m s → IsLabelled caps n t → AreInUse used m s → AreInUse used n t → AreFreshLabels used xs
    → key m s ≡ key n t → replay_by_labels m s xs ≡ Some (m', s') → HasSameReplay m n s t xs m' s'
walks-alike caps m n m' s t s' used [] hs ht us ut fresh e w =
    let end : ◌≡◌ {A = Labels × State} (m, s) (m', s') = cc in
    record {
      steps' = [];
      others' = n;
      t' = t;
      leads = refl;
      tells = refl;
      keys = sym (ap (λ (p : Labels × State). key p.0 p.1) end) ∙ e;
    }
walks-alike caps m n m' s t s' used (x ∷ xs) hs ht us ut fresh e w =
    go (λ m1 n1 s1 t1 a b c d f g h. walks-alike caps m1 n1 m' s1 t1 s' (used_after used x) xs a b c d f g h)
    (next_by_label (labels_at m s x) s x.event x.reply) refl w
  where
    Rest : Type 0
    Rest = (m1 n1 : Labels) (s1 t1 : State) → IsLabelled caps m1 s1 → IsLabelled caps n1 t1
        → AreInUse (used_after used x) m1 s1 → AreInUse (used_after used x) n1 t1
        → AreFreshLabels (used_after used x) xs
        → key m1 s1 ≡ key n1 t1 → replay_by_labels m1 s1 xs ≡ Some (m', s') → HasSameReplay m1 n1 s1 t1 xs m' s'

    go : Rest → (o : Option State) → next_by_label (labels_at m s x) s x.event x.reply ≡ o
        → option_and_then (λ s1. replay_by_labels (labels_at m s x) s1 xs) o ≡ Some (m', s')
        → HasSameReplay m n s t (x ∷ xs) m' s'
    go again None step w = absurd cc
    go again (Some s1) step w =
        let m1 = labels_at m s x in
        let n1 = with_label n t.work.setup.next_name x.label in
        let f = keys-say-all caps m n s s1 t x.event x.reply x.label hs ht
        (λ a l u. fresh.0 (subst (λ z. In z used) u (us a l)))
        (λ a l u. fresh.0 (subst (λ z. In z used) u (ut a l))) e step in
        let gives : gives_name f.reply' ≡ gives_name x.reply =
        sym (told-gives n1 f.reply') ∙ sym (ap gives_name f.is_same.replies) ∙ told-gives m1 x.reply in
        let y : LabelledStep = record { event = x.event; reply = f.reply'; label = x.label } in
        let rest = again m1 n1 s1 f.t' f.is_same.left f.is_same.right
        (uses-after used m s s1 x.event x.reply x.label (gives_name x.reply) us step refl)
        (uses-after used n t f.t' x.event f.reply' x.label
        (gives_name x.reply) ut f.leads gives) fresh.1 f.is_same.keys w in
        let more = ap (λ o. unwrap_or (option_map (λ s1. told_by_labels m1 s1 xs) o) []) step ∙ rest.tells
        ∙ sym (ap (λ o. unwrap_or (option_map (λ t1. told_by_labels n1 t1 rest.steps') o) []) f.leads) in
        record {
          steps' = y ∷ rest.steps';
          others' = rest.others';
          t' = rest.t';
          leads = ap (option_and_then (λ t1. replay_by_labels n1 t1 rest.steps')) f.leads ∙ rest.leads;
          tells = λ i. record { event = x.event; label = x.label; reply = f.is_same.replies i } ∷ more i;
          keys = rest.keys;
        }
