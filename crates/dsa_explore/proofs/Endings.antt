-- Endings of runs: what is left where they end, which stored worlds are ends, and their endings in a list.
use Rattle.std.proofs.Common.{◌≡◌, ℕ, zero, suc, ◌+◌, ◌<◌, ◌≤◌, ◌^◌, Bool, true, false, List, [], ◌∷◌, ◌++◌, Some, refl, sym}
use Rattle.std.proofs.Common.{ap, ◌∙◌, subst, map, length, take, get_or, ◌⊎◌, inl, inr, ⊎_elim, arith, add-one, cond}
use Rattle.std.specs.Prelude.{slice_get, slice_set, nat_lt, flat_map, IfSome, IfNone, is_some, Option, None, unwrap_or, option_and_then}
use Rattle.std.proofs.lemmas.{List.{flat_map_more, take_more}, Option.{same_Some}, Bool.{lt-ltb, le-ltb, ltb-true, ltb-false}}
use Rattle.dsa_base.{specs.{Lists.{In}, Numbers.{numbers_below}}, proofs.Lists.{In-left, In-right, In-push}}
use Rattle.dsa_book.specs.{declared.{answer.Reply.{Reply}, event.Event.{Event}}}
use Rattle.dsa_store.specs.Content.{HeldEntry, Content, all_held, chain}
use Rattle.std.specs.declared.{alloc.Global.{Global}, vec.Vec.{Vec}}
use Rattle.dsa_regs.specs.declared.Caps.{Caps}
use Rattle.dsa_keys.specs.Parties.{World, Made, Stored, HaveEqualKeys, HasSameMove, IsGoodWorld, world_after, world_after_all}
use Rattle.dsa_keys.proofs.Parties.{worlds-answer, worlds-agree}
use Rattle.dsa_parties.specs.declared.{places.Move.{Move}, script.Script.{Script}}
use Rattle.dsa_parties.specs.{Standing.{Standing}, Offers.{parties_of}}
use Rattle.dsa_explore.specs.declared.{found.Ending.{Ending}, stored.{Search.{Search}, Try.{Try}}}
use Rattle.dsa_explore.specs.Search.{Space, IsFine, IsLawfulSpace, queue_taken_from}
use Rattle.dsa_explore.specs.{Trying.{IsSearch, IsThere}, Asks.{asks_left}, Ends.{IsLastWorld, holds_entries, IsEndingOf, HasEnding}}
use Rattle.dsa_explore.specs.Ends.{AreLikeEndings, IsLed, LeadsBack, LeadsNowhere, LeadsOn, AreDecided, HasAlike, with_fewer_steps, IsEndingNoted, AreApart}
use Rattle.dsa_explore.specs.Ends.{IsLastWorldNoted, IsWorldNoted, IsLastWorldAt, AreEndingsOf, AreEndings, IsDecided}
use Rattle.dsa_explore.specs.{Search.{IsReached}, Trying.{HasReached, HasRoomBehind}, Walked.{space_of, IsFirst}}
use Rattle.dsa_explore.proofs.Lawful.{byte-keys, space-lawful}
use Rattle.dsa_explore.proofs.Growth.{In-get, fine-more, get-both, get-push}
use Rattle.dsa_explore.proofs.Tables.{same-keys, other-keys, from-queue, queues-agree}
use Rattle.dsa_explore.proofs.Waits.{held-more}

-- ---- what is left

-- what is listed of the numbers below, and of one more
pub listed-more : {A : Type 0} (f : ℕ → List A) (n : ℕ) (o now new : List A) → now ≡ o ++ flat_map f (numbers_below n)
    → new ≡ now ++ f n → new ≡ o ++ flat_map f (numbers_below (n + 1))
listed-more f n o now new h e = rw add-one (e ∙ ap (λ l. l ++ f n) h ∙ flat_map_more f o (numbers_below n) n)

-- ---- entries that are held

some-more : (xs ys : List HeldEntry) → nat_lt 0 (length ys) ≡ true → nat_lt 0 (length (xs ++ ys)) ≡ true
some-more [] ys h = h
some-more (x ∷ xs) ys h = lt-ltb 0 (suc (length (xs ++ ys))) (omega arith)

some-first : (xs ys : List HeldEntry) → nat_lt 0 (length xs) ≡ true → nat_lt 0 (length (xs ++ ys)) ≡ true
some-first [] ys h = absurd cc
some-first (x ∷ xs) ys h = lt-ltb 0 (suc (length (xs ++ ys))) (omega arith)

-- what a list has is held
pub held-one : (content : Content) (i : ℕ) → nat_lt 0 (length (chain content i)) ≡ true
    → nat_lt 0 (length (all_held content)) ≡ true
held-one [] i h = absurd cc
held-one (list ∷ lists) zero h = some-first list (all_held lists) h
held-one (list ∷ lists) (suc i) h = some-more list (all_held lists) (held-one lists i h)

none-more : (xs ys all : List HeldEntry) → xs ++ ys ≡ all → length xs ≡ 0 → ys ≡ [] → length all ≡ 0
none-more [] ys all e h n = ap length (sym e ∙ n)
none-more (x ∷ xs) ys all e h n = absurd (omega (arith, h))

-- nothing is held in one list more
pub held-none : (content : Content) (i : ℕ) → i < length content → length (all_held (take i content)) ≡ 0
    → chain content i ≡ [] → length (all_held (take (i + 1) content)) ≡ 0
held-none content i within h n =
    none-more (all_held (take i content)) (chain content i) _ (held-more content i within) h n

length-mapped : {X Y : Type 0} (f : X → Y) (xs : List X) → length (map f xs) ≡ length xs
length-mapped f [] = refl
length-mapped f (x ∷ xs) = ap (λ n. suc n) (length-mapped f xs)

-- worlds with equal keys hold as many
pub same-holding : {P : Type 0} (w v : World P) → HaveEqualKeys w v → holds_entries w.state ≡ holds_entries v.state
same-holding w v k = ap (λ n. nat_lt 0 n)
    (sym (length-mapped _ (all_held w.state.work.content)) ∙ ap (λ x. length x.awaited) k.keys
    ∙ length-mapped _ (all_held v.state.work.content))

-- the ending of a world is that of each with its key
pub ending-as : (script : Script) (ending : Ending) (w v : World Standing) → HaveEqualKeys w v
    → IsEndingOf script ending w → IsEndingOf script ending v
ending-as script ending w v k is = record {
  left = is.left ∙ ap (asks_left script) k.places;
  holds = is.holds ∙ same-holding w v k;
}

-- ---- one stored world

module _ {P : Type 0} (space : Space P Move) (lawful : IsLawfulSpace space)
    (byte-keys : (w v : World P) → HaveEqualKeys w v → space.bytes_of w ≡ space.bytes_of v) (first : World P)
    (search : Search) (table : List (Stored P)) (number : ℕ) (x : Stored P) (is : IsSearch space first search table)
    (at : slice_get table number ≡ Some x) where
  pub fine-to : (from to : World P) (tried : Try) → IsThere space x from → IsLed space.parties from tried to
      → IsFine space to
  fine-to from to tried there led = fine-more space lawful first from to tried.by led.reply there.fine led.leads

  pub keys-back : (from to : World P) (tried : Try) → IsThere space x from → IsLed space.parties from tried to
      → slice_get search.seen.strings number ≡ Some (space.bytes_of to) → HaveEqualKeys to x.world
  keys-back from to tried there led here =
      is.table_is.keyed number (space.bytes_of to) x here at to (fine-to from to tried there led) refl

  -- a try that leads to the key of the stored world leads back
  pub leads-back : (from to : World P) (tried : Try) → IsThere space x from → IsLed space.parties from tried to
      → slice_get search.seen.strings number ≡ Some (space.bytes_of to) → LeadsBack space x tried
  leads-back from to tried there led here = record {
    from = from;
    to = to;
    there = there;
    led = led;
    back = keys-back from to tried there led here;
  }

  -- one that leads to another key leads on
  pub leads-on : (from to : World P) (tried : Try) → IsThere space x from → IsLed space.parties from tried to
      → (slice_get search.seen.strings number ≡ Some (space.bytes_of to) → ⊥) → LeadsOn space x
  leads-on from to tried there led away = record {
    from = from;
    to = to;
    tried = tried;
    there = there;
    led = led;
    on = λ k.
        let b = get-both table search.seen.strings number x (sym is.table_is.count) at in
        away (b.1 ∙ ap (λ k. Some k) (sym (is.written number b.0 x b.1 at) ∙ sym (byte-keys to x.world k)));
  }

  -- one that cannot be made leads nowhere
  pub leads-nowhere : (v : World P) (tried : Try) → IsThere space x v
      → ((u : World P) (reply : Reply) → world_after space.parties v tried.by reply ≡ Some u
      → queue_taken_from reply ≡ tried.queue → ⊥) → LeadsNowhere space x tried
  leads-nowhere v tried there cannot = λ u reply step from.
      let good = (is.table_is.worlds x (In-get table number x at)).fine.good in
      let same = worlds-answer space.caps space.parties space.good lawful.lawful x.world u v tried.by reply good
      there.fine.good (other-keys v x.world there.keys) step in
      cannot same.v' same.reply' same.leads
      (sym (queues-agree u.labels same.v'.labels reply same.reply' same.replies) ∙ from)

  -- where a try leads back, all that take from the same queue do
  went-back : (v w' : World P) (move : Move) (reply : Reply) → IsThere space x v
      → (same : HasSameMove space.caps space.parties space.good x.world w' v move reply)
      → LeadsBack space x (record { by = move; queue = queue_taken_from same.reply' }) → HaveEqualKeys w' x.world
  went-back v w' move reply there same b =
      let keys = same-keys v x.world b.from there.keys (other-keys b.from x.world b.there.keys) in
      let agree = worlds-agree space.caps space.parties space.good lawful.lawful v same.v' b.from b.to move same.reply'
      b.led.reply there.fine.good b.there.fine.good keys
      (λ q p e e'. b.led.fits q p (from-queue same.reply' q e) (from-queue b.led.reply p e')) same.leads b.led.leads in
      same-keys w' same.v' x.world same.keys (same-keys same.v' b.to x.world agree b.back)

  -- where each try leads back or nowhere, no move leads on, and else one does
  pub decided : (v : World P) (tries : List Try) → IsThere space x v
      → ((w : World P) (move : Move) (reply : Reply) → world_after space.parties v move reply ≡ Some w
      → In (record { by = move; queue = queue_taken_from reply }) tries)
      → ((tried : Try) → In tried tries → LeadsBack space x tried ⊎ LeadsNowhere space x tried)
      → IsLastWorld space.parties x.world
  decided v tries there covers each = λ w' move reply step.
      let good = (is.table_is.worlds x (In-get table number x at)).fine.good in
      let same = worlds-answer space.caps space.parties space.good lawful.lawful x.world w' v move reply good
      there.fine.good (other-keys v x.world there.keys) step in
      ⊎_elim (λ back. went-back v w' move reply there same back)
      (λ nowhere. absurd (nowhere w' reply step
      (queues-agree w'.labels same.v'.labels reply same.reply' same.replies)))
      (each _ (covers same.v' move same.reply' same.leads))

  pub undecided : LeadsOn space x → IsLastWorld space.parties x.world → ⊥
  undecided on end =
      let good = (is.table_is.worlds x (In-get table number x at)).fine.good in
      let same = worlds-answer space.caps space.parties space.good lawful.lawful on.from on.to x.world on.tried.by
      on.led.reply on.there.fine.good good on.there.keys on.led.leads in
      on.on (same-keys on.to same.v' x.world same.keys (end same.v' on.tried.by same.reply' same.leads))

-- one try more leads back or nowhere
pub back-more : {P : Type 0} (space : Space P Move) (x : Stored P) (tries : List Try) (i : ℕ) (d tried : Try)
    → i < length tries → tried ≡ get_or tries i d → AreDecided space x (take i tries) true
    → LeadsBack space x tried ⊎ LeadsNowhere space x tried → AreDecided space x (take (i + 1) tries) true
back-more space x tries i d tried below is before this other j = ⊎_elim (λ k. before other k)
    (λ (e : get_or tries i d ≡ other). subst (λ (t : Try). LeadsBack space x t ⊎ LeadsNowhere space x t) (is ∙ e) this)
    (In-push other (take i tries) (get_or tries i d)
    (subst (λ (l : List Try). In other l) (take_more tries i d below) j))

-- ---- lists of endings

alike-other : (a b : Ending) → AreLikeEndings a b → AreLikeEndings b a
alike-other a b k = record { left = sym k.left; holds = sym k.holds }

alike-self : (a : Ending) → AreLikeEndings a a
alike-self a = record { left = refl; holds = refl }

alike-both : (a b c : Ending) → AreLikeEndings a b → AreLikeEndings b c → AreLikeEndings a c
alike-both a b c k l = record { left = k.left ∙ l.left; holds = k.holds ∙ l.holds }

-- an ending that is like none stands apart from them
apart-more : (old : List Ending) (ending : Ending)
    → ((i : ℕ) (other : Ending) → slice_get old i ≡ Some other → AreLikeEndings other ending → ⊥) → AreApart old
    → AreApart (old ++ ending ∷ [])
apart-more old ending none apart i j a b at here alike = ⊎_elim
    (λ (p : slice_get old i ≡ Some a). ⊎_elim
    (λ (q : slice_get old j ≡ Some b). apart i j a b p q alike)
    (λ q. absurd (none i a p (subst (AreLikeEndings a) (sym q.1) alike))) (get-push old ending j b here))
    (λ p. ⊎_elim
    (λ (q : slice_get old j ≡ Some b).
    absurd (none j b q (alike-other ending b (subst (λ (e : Ending). AreLikeEndings e b) (sym p.1) alike))))
    (λ q. p.0 ∙ sym q.0) (get-push old ending j b here))
    (get-push old ending i a at)

-- it is pushed
pub noted-new : (old : List Ending) (ending : Ending)
    → ((i : ℕ) (other : Ending) → slice_get old i ≡ Some other → AreLikeEndings other ending → ⊥)
    → IsEndingNoted old ending (old ++ ending ∷ [])
noted-new old ending none = record {
  once = apart-more old ending none;
  each = λ e i. ⊎_elim (λ j. inl j)
      (λ (s : ending ≡ e). inr (
        subst (λ (o : Ending). AreLikeEndings o ending) s (alike-self ending),
        ap (λ (o : Ending). o.steps) (sym s),
      )) (In-push e old ending i);
  kept = λ e i. record {
    other = e;
    within = In-left e old (ending ∷ []) i;
    alike = alike-self e;
    soon = omega arith;
  };
  has = record {
    other = ending;
    within = In-right ending old (ending ∷ []) (inl refl);
    alike = alike-self ending;
    soon = omega arith;
  };
}

abbrev lowered : Ending → ℕ → Ending
lowered e steps = record e { steps = cond (nat_lt steps e.steps) steps e.steps }

lowered-steps : (steps own : ℕ) (b : Bool) → nat_lt steps own ≡ b
    → (cond b steps own ≤ steps) × (cond b steps own ≤ own)
lowered-steps steps own true e = (omega arith, omega (arith, ltb-true steps own e))
lowered-steps steps own false e = (ltb-false steps own e, omega arith)

-- it is the same ending, or has these steps
lowered-is : (e : Ending) (steps : ℕ) (b : Bool)
    → (record e { steps = cond b steps e.steps } ≡ e) ⊎ (cond b steps e.steps ≡ steps)
lowered-is e steps true = inr refl
lowered-is e steps false = inl refl

has-behind : (es : List Ending) (o e : Ending) → HasAlike es e → HasAlike (o ∷ es) e
has-behind es o e h = record { other = h.other; within = inr h.within; alike = h.alike; soon = h.soon }

fewer-each : (es : List Ending) (i : ℕ) (ending : Ending)
    → IfSome (slice_get es i) (λ other. AreLikeEndings other ending) → (e : Ending)
    → In e (with_fewer_steps es i ending.steps) → In e es ⊎ (AreLikeEndings e ending × (e.steps ≡ ending.steps))
fewer-each [] i ending alike e within = inl within
fewer-each (o ∷ es) zero ending alike e (inl s) = ⊎_elim
    (λ (same : lowered o ending.steps ≡ o). inl (inl (sym same ∙ s)))
    (λ steps. inr (
      record {
        left = ap (λ (a : Ending). a.left.items) (sym s) ∙ alike.left;
        holds = ap (λ (a : Ending). a.holds_entries) (sym s) ∙ alike.holds;
      },
      ap (λ (a : Ending). a.steps) (sym s) ∙ steps,
    ))
    (lowered-is o ending.steps (nat_lt ending.steps o.steps))
fewer-each (o ∷ es) zero ending alike e (inr i) = inl (inr i)
fewer-each (o ∷ es) (suc i) ending alike e (inl s) = inl (inl s)
fewer-each (o ∷ es) (suc i) ending alike e (inr j) =
    ⊎_elim (λ k. inl (inr k)) (λ k. inr k) (fewer-each es i ending alike e j)

fewer-kept : (es : List Ending) (i steps : ℕ) (e : Ending) → In e es → HasAlike (with_fewer_steps es i steps) e
fewer-kept [] i steps e within = absurd within
fewer-kept (o ∷ es) zero steps e (inl s) = subst (HasAlike (with_fewer_steps (o ∷ es) zero steps)) s (record {
  other = lowered o steps;
  within = inl refl;
  alike = record { left = refl; holds = refl };
  soon = (lowered-steps steps o.steps (nat_lt steps o.steps) refl).1;
})
fewer-kept (o ∷ es) zero steps e (inr i) = record {
  other = e;
  within = inr i;
  alike = alike-self e;
  soon = omega arith;
}
fewer-kept (o ∷ es) (suc i) steps e (inl s) = record {
  other = e;
  within = inl s;
  alike = alike-self e;
  soon = omega arith;
}
fewer-kept (o ∷ es) (suc i) steps e (inr j) =
    has-behind (with_fewer_steps es i steps) o e (fewer-kept es i steps e j)

fewer-has : (es : List Ending) (i : ℕ) (ending : Ending) → i < length es
    → IfSome (slice_get es i) (λ other. AreLikeEndings other ending)
    → HasAlike (with_fewer_steps es i ending.steps) ending
fewer-has [] i ending within alike = absurd (omega (arith, within))
fewer-has (o ∷ es) zero ending within alike = record {
  other = lowered o ending.steps;
  within = inl refl;
  alike = record { left = sym alike.left; holds = sym alike.holds };
  soon = (lowered-steps ending.steps o.steps (nat_lt ending.steps o.steps) refl).0;
}
fewer-has (o ∷ es) (suc i) ending within alike = has-behind (with_fewer_steps es i ending.steps) o ending
    (fewer-has es i ending (omega (arith, within)) alike)

-- at each place is an ending like the one before
fewer-at : (es : List Ending) (i steps k : ℕ) (e : Ending) → slice_get (with_fewer_steps es i steps) k ≡ Some e
    → (o : Ending) × ((slice_get es k ≡ Some o) × AreLikeEndings e o)
fewer-at [] i steps k e h = absurd cc
fewer-at (o ∷ es) zero steps zero e h =
    let s = same_Some (lowered o steps) e h in
    (o, (refl, subst (λ (z : Ending). AreLikeEndings z o) s (record { left = refl; holds = refl })))
fewer-at (o ∷ es) zero steps (suc k) e h = (e, (h, alike-self e))
fewer-at (o ∷ es) (suc i) steps zero e h = (e, (h, alike-self e))
fewer-at (o ∷ es) (suc i) steps (suc k) e h = fewer-at es i steps k e h

fewer-apart : (es : List Ending) (i steps : ℕ) → AreApart es → AreApart (with_fewer_steps es i steps)
fewer-apart es i steps apart k l a b at here alike =
    let p = fewer-at es i steps k a at in
    let q = fewer-at es i steps l b here in
    apart k l p.0 q.0 p.1.0 q.1.0
    (alike-both p.0 a q.0 (alike-other a p.0 p.1.1) (alike-both a b q.0 alike q.1.1))

-- one like it that is listed has the fewer steps of both
pub noted-old : (old : List Ending) (i : ℕ) (ending : Ending) → i < length old
    → IfSome (slice_get old i) (λ other. AreLikeEndings other ending)
    → IsEndingNoted old ending (with_fewer_steps old i ending.steps)
noted-old old i ending within alike = record {
  once = fewer-apart old i ending.steps;
  each = fewer-each old i ending alike;
  kept = fewer-kept old i ending.steps;
  has = fewer-has old i ending within alike;
}

-- fewer steps are set, and others change nothing
pub fewer-set : (es : List Ending) (i steps : ℕ) (e : Ending) → slice_get es i ≡ Some e → steps < e.steps
    → slice_set es i (record e { steps = steps }) ≡ with_fewer_steps es i steps
fewer-set [] i steps e h l = absurd cc
fewer-set (o ∷ es) zero steps e h l =
    let s = same_Some o e h in
    ap (λ (z : Ending). z ∷ es) (ap (λ (z : Ending). record z { steps = steps }) (sym s)
    ∙ ap (λ b. record o { steps = cond b steps o.steps })
    (sym (lt-ltb steps o.steps (omega (arith, l, ap (λ (z : Ending). z.steps) s)))))
fewer-set (o ∷ es) (suc i) steps e h l = ap (λ z. o ∷ z) (fewer-set es i steps e h l)

pub fewer-same : (es : List Ending) (i steps : ℕ) (e : Ending) → slice_get es i ≡ Some e → e.steps ≤ steps
    → es ≡ with_fewer_steps es i steps
fewer-same [] i steps e h l = refl
fewer-same (o ∷ es) zero steps e h l =
    let s = same_Some o e h in
    ap (λ b. record o { steps = cond b steps o.steps } ∷ es)
    (sym (le-ltb steps o.steps (omega (arith, l, ap (λ (z : Ending). z.steps) s))))
fewer-same (o ∷ es) (suc i) steps e h l = ap (λ z. o ∷ z) (fewer-same es i steps e h l)

-- ---- all stored worlds

pub no-endings : (script : Script) → AreEndingsOf script [] []
no-endings script = record {
  once = λ i j e o at. absurd cc;
  sound = λ e i. absurd i;
  complete = λ x i. absurd i;
}

ending-like : (script : Script) (a b : Ending) (w : World Standing) → AreLikeEndings a b → IsEndingOf script b w
    → IsEndingOf script a w
ending-like script a b w k is = record { left = k.left ∙ is.left; holds = k.holds ∙ is.holds }

listed-as : (script : Script) (new : List Ending) (e : Ending) (steps : ℕ) (w : World Standing) → HasAlike new e
    → IsEndingOf script e w → e.steps ≤ steps → HasEnding script new steps w
listed-as script new e steps w h is soon = record {
  ending = h.other;
  within = h.within;
  is = ending-like script h.other e w (alike-other e h.other h.alike) is;
  soon = omega (arith, h.soon, soon);
}

end-further : (script : Script) (table : List (Stored Standing)) (x : Stored Standing) (e : Ending)
    → IsLastWorldAt script table e → IsLastWorldAt script (table ++ x ∷ []) e
end-further script table x e a = record {
  at = a.at;
  within = In-left a.at table (x ∷ []) a.within;
  end = a.end;
  is = a.is;
  steps = a.steps;
}

module _ (script : Script) (table : List (Stored Standing)) (x : Stored Standing) (old new : List Ending)
    (are : AreEndingsOf script table old) where
  with-end : IsLastWorldNoted script old x new → AreEndingsOf script (table ++ x ∷ []) new
  with-end n = record {
    once = n.noted.once are.once;
    sound = λ e i. ⊎_elim (λ j. end-further script table x e (are.sound e j))
        (λ p. record {
          at = x;
          within = In-right x table (x ∷ []) (inl refl);
          end = n.end;
          is = ending-like script e n.ending x.world p.0 n.is;
          steps = p.1 ∙ n.steps;
        }) (n.noted.each e i);
    complete = λ y i end. ⊎_elim
        (λ j. let l = are.complete y j end in
        listed-as script new l.ending y.level y.world (n.noted.kept l.ending l.within) l.is l.soon)
        (λ (s : x ≡ y). subst (λ (z : Stored Standing). HasEnding script new z.level z.world) s
        (listed-as script new n.ending x.level x.world n.noted.has n.is (omega (arith, n.steps))))
        (In-push y table x i);
  }

  without-end : old ≡ new → (IsLastWorld (parties_of script) x.world → ⊥) → AreEndingsOf script (table ++ x ∷ []) new
  without-end same none = subst (AreEndingsOf script (table ++ x ∷ [])) same (record {
    once = are.once;
    sound = λ e i. end-further script table x e (are.sound e i);
    complete = λ y i end. ⊎_elim (λ j. are.complete y j end)
        (λ (s : x ≡ y). absurd (none (subst (λ (z : Stored Standing). IsLastWorld (parties_of script) z.world) (sym s) end)))
        (In-push y table x i);
  })

  pub endings-more : IsWorldNoted script old x new → AreEndingsOf script (table ++ x ∷ []) new
  endings-more n = ⊎_elim (λ e. with-end e) (λ p. without-end p.0 p.1) n

-- ---- all worlds to which moves lead

module _ {P M : Type 0} (space : Space P M) (lawful : IsLawfulSpace space) where
  -- moves lead from good worlds to good ones
  walk-good : (w : World P) (xs : List (Made M)) (w' : World P) → IsGoodWorld space.caps space.good w
      → world_after_all space.parties w xs ≡ Some w' → IsGoodWorld space.caps space.good w'
  walk-good w [] w' h walk =
      let is : w ≡ w' = ap (λ z. unwrap_or z w) walk in
      subst (IsGoodWorld space.caps space.good) is h
  walk-good w (y ∷ xs) w' h walk =
      go (λ a ha e. walk-good a xs w' ha e) (world_after space.parties w y.move y.reply) refl walk
    where
      go : ((a : World P) → IsGoodWorld space.caps space.good a → world_after_all space.parties a xs ≡ Some w'
          → IsGoodWorld space.caps space.good w') → (o : Option (World P))
          → world_after space.parties w y.move y.reply ≡ o
          → option_and_then (λ v. world_after_all space.parties v xs) o ≡ Some w' → IsGoodWorld space.caps space.good w'
      go more None e walk = absurd cc
      go more (Some a) e walk =
          let k : HaveEqualKeys w w = record { places = refl; keys = refl } in
          more a (worlds-answer space.caps space.parties space.good lawful.lawful w a w y.move y.reply h h k e).left walk

  -- an end is one by its key
  end-as : (w v : World P) → IsGoodWorld space.caps space.good w → IsGoodWorld space.caps space.good v
      → HaveEqualKeys w v → IsLastWorld space.parties w → IsLastWorld space.parties v
  end-as w v hw hv k end = λ v' move reply step.
      let same = worlds-answer space.caps space.parties space.good lawful.lawful v v' w move reply hv hw
      (other-keys w v k) step in
      same-keys v' same.v' v same.keys (same-keys same.v' w v (end same.v' move same.reply' same.leads) k)

-- the endings of the worlds that are stored are those of all runs, where all worlds are stored
pub endings-of-all : (caps : Caps) (script : Script) (first : World Standing) (search : Search)
    (endings : List Ending) → IsFine (space_of caps script) first
    → (r : HasReached (space_of caps script) first search) → AreEndingsOf script r.table endings
    → AreEndings script first endings
endings-of-all caps script first search endings fine r are = record {
  once = are.once;
  sound = λ e i.
      let a = are.sound e i in
      record {
        world = a.at.world;
        reached = subst (λ n. IsReached (parties_of script) first n a.at.world) (sym a.steps)
            (r.is_search.table_is.worlds a.at a.within).reached;
        end = a.end;
        is = a.is;
      };
  complete = λ steps w reached end.
      let space = space_of caps script in
      let lawful = space-lawful caps script in
      let s = r.all steps w reached in
      let hw = walk-good space lawful first reached.moves w fine.good reached.leads in
      let hv = (r.is_search.table_is.worlds s.at s.within).fine.good in
      let l = are.complete s.at s.within (end-as space lawful w s.at.world hw hv s.keys end) in
      record {
        ending = l.ending;
        within = l.within;
        is = ending-as script l.ending s.at.world w (other-keys w s.at.world s.keys) l.is;
        soon = omega (arith, l.soon, s.soon);
      };
}

-- where the endings are said, they are those of all runs
pub endings-said : (caps : Caps) (script : Script) (events : List Event) (first : World Standing) (search : Search)
    (is_complete : Bool) (ends : Option (Vec Ending Global)) → IsFine (space_of caps script) first
    → IsFirst caps script events first → (is_complete ≡ true → HasReached (space_of caps script) first search)
    → IfSome ends (λ endings. is_complete ≡ true)
    → (capacity width : ℕ) → capacity ≡ width
    → IfSome ends (λ endings. (f : World Standing) (table : List (Stored Standing)) → IsFirst caps script events f
    → IsSearch (space_of caps script) f search table → capacity ≡ width → AreEndingsOf script table endings.items)
    → IfSome ends (λ endings. AreEndings script first endings.items)
endings-said caps script events first search is_complete None fine begun r done capacity width room are = tt
endings-said caps script events first search is_complete (Some endings) fine begun r done capacity width room are =
    let r' = r done in
    endings-of-all caps script first search endings.items fine r' (are first r'.table begun r'.is_search room)

-- something is said if and only if it has to be
pub is-said : {X N : Type 0} (o : Option X) (b : Bool) → IfSome o (λ x. b ≡ true) → IfNone o (b ≡ true → N)
    → (b ≡ true → N → ⊥) → is_some o ≡ b
is-said None true s n f = absurd (f refl (n refl))
is-said None false s n f = refl
is-said (Some x) true s n f = refl
is-said (Some x) false s n f = let clash : false ≡ true = s in absurd cc

-- before the front of such a search, a history has room
pub room-behind : {P : Type 0} (space : Space P Move) (first : World P) (search : Search) (set_up : ℕ)
    → (r : HasReached space first search) → set_up + search.front ≤ 2 ^ 20 → HasRoomBehind set_up r.table
room-behind space first search set_up r early = λ x i. omega (arith, r.behind x i, early)

take-step : {X : Type 0} (xs : List X) (i : ℕ) (x : X) → slice_get xs i ≡ Some x
    → take i xs ++ x ∷ [] ≡ take (suc i) xs
take-step [] i x h = absurd cc
take-step (y ∷ ys) zero x h = ap (λ z. z ∷ []) (sym (same_Some y x h))
take-step (y ∷ ys) (suc i) x h = ap (λ z. y ∷ z) (take-step ys i x h)

-- the first ones and the next are one more
pub take-next : {X : Type 0} (xs : List X) (i : ℕ) (x : X) → slice_get xs i ≡ Some x
    → take i xs ++ x ∷ [] ≡ take (i + 1) xs
take-next xs i x h = rw add-one (take-step xs i x h)

-- what is at a place of a list
pub at-place : {X : Type 0} (xs : List X) (i : ℕ) (d : X) → i < length xs → slice_get xs i ≡ Some (get_or xs i d)
at-place [] i d h = absurd (omega (arith, h))
at-place (y ∷ ys) zero d h = refl
at-place (y ∷ ys) (suc i) d h = at-place ys i d (omega (arith, h))

-- ---- which stored world is an end

pub end-decided : (caps : Caps) (script : Script) (events : List Event) (search : Search) (number : ℕ)
    (v : World Standing) (tries : List Try) (all : Option Bool)
    → ((first : World Standing) (table : List (Stored Standing)) (x : Stored Standing)
    → IsFirst caps script events first → IsSearch (space_of caps script) first search table → slice_get table number ≡ Some x
    → IsThere (space_of caps script) x v)
    → (IsFine (space_of caps script) v → (w : World Standing) (move : Move) (reply : Reply)
    → world_after (parties_of script) v move reply ≡ Some w
    → In (record { by = move; queue = queue_taken_from reply }) tries) → (L C : Type 0) → L
    → IfSome all (λ b. (first : World Standing) (table : List (Stored Standing)) (x : Stored Standing)
    → IsFirst caps script events first → IsSearch (space_of caps script) first search table
    → slice_get table number ≡ Some x → IsThere (space_of caps script) x v → L → C
    → AreDecided (space_of caps script) x tries b)
    → IfSome all (λ b. (first : World Standing) (table : List (Stored Standing)) (x : Stored Standing)
    → IsFirst caps script events first → IsSearch (space_of caps script) first search table
    → slice_get table number ≡ Some x → C → IsDecided (IsLastWorld (parties_of script) x.world) b)
end-decided caps script events search number v tries None there covers L C has h = tt
end-decided caps script events search number v tries (Some true) there covers L C has h = λ first table x begun is at room.
    let t = there first table x begun is at in
    decided (space_of caps script) (space-lawful caps script) byte-keys first search table number x is at v tries t
    (covers t.fine) (h first table x begun is at t has room)
end-decided caps script events search number v tries (Some false) there covers L C has h = λ first table x begun is at room.
    let t = there first table x begun is at in
    undecided (space_of caps script) (space-lawful caps script) byte-keys first search table number x is at
    (h first table x begun is at t has room)
