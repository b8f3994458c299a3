-- All that has to be tried is listed.
use Rattle.dsa_book.specs.declared.event.Event.TheVariants as event
use Rattle.dsa_parties.specs.declared.places.Move.TheVariants as move
use Rattle.std.proofs.Common.{◌≡◌, ◌==◌, ℕ, ◌<◌, Bool, true, List, Option, Some, None, refl, sym, ap, ◌∙◌, subst}
use Rattle.std.proofs.Common.{length}
use Rattle.std.proofs.Common.{false, cond, ◌≤◌, ◌^◌}
use Rattle.std.specs.Prelude.{option_map, option_and_then, slice_get}
use Rattle.dsa_base.{specs.Rows.{when}, proofs.Lists.{any-In}}
use Rattle.dsa_desc.specs.declared.Outcome.{Outcome}
use Rattle.dsa_regs.specs.declared.Caps.{Caps}
use Rattle.dsa_book.specs.declared.answer.Reply.{Reply}
use Rattle.dsa_keys.specs.Parties.{Offer, World, world_after}
use Rattle.dsa_parties.specs.Standing.{Standing, act_of, next_act}
use Rattle.dsa_parties.specs.Offers.{has_engine, may_give, parties_of}
use Rattle.dsa_explore.specs.{Search.{IsFine, queue_taken_from}, Walked.{space_of, world_of}}
use Rattle.std.specs.Prelude.{find}
use Rattle.dsa_store.specs.Content.{HeldEntry}
use Rattle.dsa_base.specs.Rows.{passes}
use Rattle.dsa_book.specs.{State.{Work, has_queue}, Work.{running_on, qualifies, serves, may_take, front_of}}
use Rattle.std.specs.Prelude.{nat_lt, ◌&&◌}
use Rattle.std.proofs.lemmas.Bool.{ltb-true, leb-true}
use Rattle.dsa_keys.specs.Parties.{offer_at}
use Rattle.dsa_explore.specs.declared.walked.Offered.{Offered}
use Rattle.dsa_explore.specs.Walked.{IsOffer}
use Rattle.dsa_answers.proofs.Named.{In-running}
use Rattle.dsa_keys.specs.{Parties.{labels_for}, Steps.{event_by_label}}
use Rattle.dsa_keys.proofs.{Known.{known-below}, SameSteps.{named-other}}
use Rattle.dsa_parties.specs.Offers.{label_ticket}
use Rattle.dsa_explore.proofs.Covers.{whens}
use Rattle.dsa_explore.proofs.{Covers.{IsMade, is-made, taken-in}, Growth.{get-below}, Offered.{turn_offer}}
use Rattle.std.proofs.lemmas.{Bool.{eqb-true, and_parts}}
use Rattle.dsa_base.{specs.Lists.{In}, proofs.Lists.{In-find, In-push}}
use Rattle.std.proofs.Common.{◌+◌, take, get_or, ⊎_elim}
use Rattle.std.proofs.lemmas.List.{take_more}
use Rattle.dsa_explore.specs.Rows.{labels_of}
use Rattle.dsa_explore.specs.declared.stored.Try.{Try}
use Rattle.dsa_explore.specs.Tries.{KeepsTries, ListsMove, ListsEngine}
use Rattle.dsa_parties.specs.declared.{places.Move.{Move}, script.Script.{Script}}
use Rattle.dsa_explore.specs.declared.walked.Walked.{Walked}

pub lists-more : (script : Script) (walked : Walked) (old new : List Try) (by : Move) → KeepsTries old new
    → ListsMove script walked old by → ListsMove script walked new by
lists-more script walked old new by kept l = record {
  plain = λ o h. kept (record { by = by; queue = None }) (l.plain o h);
  queues = λ o engine q h is may. kept (record { by = by; queue = Some q }) (l.queues o engine q h is may);
}

pub engine-more : (script : Script) (walked : Walked) (old new : List Try) (engine : ℕ) → KeepsTries old new
    → ListsEngine script walked old engine → ListsEngine script walked new engine
engine-more script walked old new engine kept l = record {
  dispatch = lists-more script walked old new (move.Dispatch engine) kept l.dispatch;
  fetch = lists-more script walked old new (move.Fetch engine) kept l.fetch;
  start = lists-more script walked old new (move.Start engine) kept l.start;
  ends = λ pair outcome i. lists-more script walked old new _ kept (l.ends pair outcome i);
}

-- one entry more whose ends are listed
pub ends-more : (script : Script) (walked : Walked) (old new : List Try) (e : ℕ) (running : List HeldEntry) (i : ℕ)
    (d : HeldEntry) → i < length running → KeepsTries old new
    → ((pair : HeldEntry) (outcome : Outcome) → In pair (take i running)
    → ListsMove script walked old (move.Finish e (labels_of walked.labels.items pair.1.name) outcome))
    → ((outcome : Outcome)
    → ListsMove script walked new (move.Finish e (labels_of walked.labels.items (get_or running i d).1.name) outcome))
    → (pair : HeldEntry) (outcome : Outcome) → In pair (take (i + 1) running)
    → ListsMove script walked new (move.Finish e (labels_of walked.labels.items pair.1.name) outcome)
ends-more script walked old new e running i d below kept before here pair outcome j =
    ⊎_elim (λ k. lists-more script walked old new _ kept (before pair outcome k))
    (λ (same : get_or running i d ≡ pair). subst (λ (p : HeldEntry).
    ListsMove script walked new (move.Finish e (labels_of walked.labels.items p.1.name) outcome)) same
    (here outcome))
    (In-push pair (take i running) (get_or running i d)
    (subst (λ (l : List HeldEntry). In pair l) (take_more running i d below) j))

-- one engine more
pub engines-more : (script : Script) (walked : Walked) (old new : List Try) (engines : List ℕ) (i d : ℕ)
    → i < length engines → KeepsTries old new
    → ((e : ℕ) → In e (take i engines) → ListsEngine script walked old e)
    → ListsEngine script walked new (get_or engines i d)
    → (e : ℕ) → In e (take (i + 1) engines) → ListsEngine script walked new e
engines-more script walked old new engines i d below kept before here e j =
    ⊎_elim (λ k. engine-more script walked old new e kept (before e k))
    (λ (same : get_or engines i d ≡ e). subst (ListsEngine script walked new) same here)
    (In-push e (take i engines) (get_or engines i d)
    (subst (λ (l : List ℕ). In e l) (take_more engines i d below) j))

-- the clients and the administrators have numbers of 16 bits
pub clients-few : (script : Script) → length script.clients.items ≤ 2 ^ 16
clients-few script = leb-true _ _ (and_parts _ _ (and_parts _ _ script.fits).0).1

pub administrators-few : (script : Script) → length script.administrators.items ≤ 2 ^ 16
administrators-few script = leb-true _ _ (and_parts _ _ script.fits).1

-- a move that is not offered needs no try
pub not-offered : (script : Script) (walked : Walked) (tries : List Try) (by : Move) (offered : Option Offered)
    → offered ≡ None → IsOffer script walked by offered → ListsMove script walked tries by
not-offered script walked tries by offered none is = record {
  plain = λ o h. bad o h;
  queues = λ o engine q h same may. bad o h;
}
  where
    bad : (o : Offer) {X : Type 0} → offer_at (parties_of script) (world_of walked) by ≡ Some o → X
    bad o h =
        let no : None ≡ Some o = sym
        (ap (option_map (λ (z : Offered). record { event = z.event; label = z.label })) none)
        ∙ is ∙ h in
        absurd cc

-- an engine takes from queues of the device alone
pub may-below : (w : Work) (e q : ℕ) → qualifies w e q ≡ true → q < w.setup.caps.queues
may-below w e q h =
    let both = and_parts (nat_lt e w.setup.caps.engines && has_queue w.setup q)
    (serves w e q && passes (may_take w e) (front_of w q)) h in
    ltb-true q w.setup.caps.queues (and_parts (nat_lt e w.setup.caps.engines) (has_queue w.setup q) both.0).1

-- ---- which moves are offered

who : {X Y : Type 0} (xs : List X) (k : ℕ) (f : X → Option Y) (y : Y) → option_and_then f (slice_get xs k) ≡ Some y
    → k < length xs
who {X} {Y} xs k f y h = go (slice_get xs k) refl h
  where
    go : (o : Option X) → slice_get xs k ≡ o → option_and_then f o ≡ Some y → k < length xs
    go None e h = absurd cc
    go (Some x) e h = get-below xs k x e

mapped-some : {X Y : Type 0} (f : X → Y) (o : Option X) (y : Y) → option_map f o ≡ Some y → (x : X) × (o ≡ Some x)
mapped-some f None y h = absurd cc
mapped-some f (Some x) y h = (x, refl)

then-some : {X Y : Type 0} (f : X → Option Y) (o : Option X) (y : Y) → option_and_then f o ≡ Some y
    → (x : X) × (o ≡ Some x)
then-some f None y h = absurd cc
then-some f (Some x) y h = (x, refl)

engine-of : (script : Script) (e : ℕ) → has_engine script e ≡ true → In e script.engines.items
engine-of script e h =
    let x = any-In (λ engine. engine == e) script.engines.items h in
    subst (λ k. In k script.engines.items) (eqb-true x.0 e x.1.1) x.1.0

when-true : (b : Bool) (x o : Offer) → when b x ≡ Some o → b ≡ true
when-true true x o h = refl
when-true false x o h = absurd cc

cond-true : (b : Bool) (x : Option Offer) (o : Offer) → cond b x None ≡ Some o → b ≡ true
cond-true true x o h = refl
cond-true false x o h = absurd cc

module _ (caps : Caps) (script : Script) (walked : Walked) (tries : List Try)
    (fine : IsFine (space_of caps script) (world_of walked))
    (clients : (c : ℕ) → c < length script.clients.items → ListsMove script walked tries (move.Client c))
    (administrators : (a : ℕ) → a < length script.administrators.items
    → ListsMove script walked tries (move.Administrator a))
    (engines : (e : ℕ) → In e script.engines.items → ListsEngine script walked tries e) where
  abbrev w : World Standing
  w = world_of walked

  -- an end that may come is of a running entry
  ends : (e label : ℕ) (outcome : Outcome) (w' : World Standing) (r : Reply)
      → (x : IsMade script w w' (move.Finish e label outcome) r) → In e script.engines.items
      → ListsMove script walked tries (move.Finish e label outcome)
  ends e label outcome w' r x i =
      let named = labels_for w x.offer in
      let event : x.offer.event ≡ event.Finish e (label_ticket label) outcome =
      ap (λ (o : Offer). o.event) (sym (whens _ _ x.offer x.offered)) in
      let found = subst (λ z. event_by_label named w.state z ≡ Some x.event) event x.named in
      let pair = mapped-some _ (find (λ (p : HeldEntry). named p.1.name == label) (running_on w.state.work e)) x.event
      found in
      let there = In-find (λ (p : HeldEntry). named p.1.name == label) pair.0 (running_on w.state.work e) pair.1 in
      let low = known-below caps w.state fine.good.is_labelled.well_formed pair.0
      (In-running w.state.work e pair.0 there.0) in
      let same : w.labels pair.0.1.name ≡ label =
      sym (named-other w.labels w.state.work.setup.next_name x.offer.label pair.0.1.name low)
      ∙ eqb-true (named pair.0.1.name) label there.1 in
      subst (λ (l : ℕ). ListsMove script walked tries (move.Finish e l outcome)) same
      ((engines e i).ends pair.0 outcome there.0)

  lists : (m : Move) (w' : World Standing) (r : Reply) → IsMade script w w' m r → ListsMove script walked tries m
  lists (move.Client c) w' r x =
      let t = mapped-some turn_offer _ x.offer x.offered in
      clients c (who script.clients.items c _ t.0 t.1)
  lists (move.Administrator a) w' r x =
      let t = mapped-some _ (act_of script w.places a) x.offer x.offered in
      let n = then-some (slice_get script.acts.items) (next_act script w.places a) t.0 t.1 in
      administrators a (who script.administrators.items a _ n.0 n.1)
  lists (move.Dispatch e) w' r x = (engines e (engine-of script e (when-true _ _ x.offer x.offered))).dispatch
  lists (move.Fetch e) w' r x = (engines e (engine-of script e (cond-true _ _ x.offer x.offered))).fetch
  lists (move.Start e) w' r x = (engines e (engine-of script e (when-true _ _ x.offer x.offered))).start
  lists (move.Finish e label outcome) w' r x =
      let both = and_parts (has_engine script e) (may_give script.entries.items label outcome)
      (when-true _ _ x.offer x.offered) in
      ends e label outcome w' r x (engine-of script e both.0)

  pub covers : (w' : World Standing) (m : Move) (r : Reply) → world_after (parties_of script) w m r ≡ Some w'
      → In (record { by = m; queue = queue_taken_from r }) tries
  covers w' m r h = go (queue_taken_from r) refl
    where
      x : IsMade script w w' m r
      x = is-made script w w' m r h

      go : (o : Option ℕ) → queue_taken_from r ≡ o → In (record { by = m; queue = queue_taken_from r }) tries
      go None e = subst (λ (q : Option ℕ). In (record { by = m; queue = q }) tries) (sym e)
          ((lists m w' r x).plain x.offer x.offered)
      go (Some q) e =
          let t = taken-in script w w' m r q h e in
          subst (λ (o : Option ℕ). In (record { by = m; queue = o }) tries) (sym e)
          ((lists m w' r x).queues x.offer t.0 q x.offered t.1 t.2)
