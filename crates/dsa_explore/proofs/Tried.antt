-- What comes of tries from a stored world, and what a search notes of it.
use Rattle.std.proofs.Common.{◌≡◌, ℕ, ◌+◌, ◌<◌, ◌≤◌, ◌^◌, List, [], ◌∷◌, ◌++◌, Option, Some, None, refl, sym, ap, ◌∙◌}
use Rattle.std.proofs.Common.{subst, map, take, get_or, length, ◌⊎◌, inl, inr, ⊎_elim, arith, IfSome, IfNone, Bool, true, false}
use Rattle.std.specs.Prelude.{slice_get}
use Rattle.std.proofs.lemmas.List.{take_more}
use Rattle.dsa_base.{specs.Lists.{In}, proofs.Lists.{In-left, In-right, In-push}}
use Rattle.dsa_book.specs.declared.answer.Reply.{Reply}
use Rattle.dsa_keys.specs.Parties.{World, Stored, HaveEqualKeys, world_after}
use Rattle.dsa_keys.proofs.Parties.{worlds-answer}
use Rattle.dsa_parties.specs.declared.places.Move.{Move}
use Rattle.dsa_explore.specs.declared.{halting.Halt.{Halt, TheVariants.{States, KeyBytes, Steps, Lost}}}
use Rattle.dsa_explore.specs.declared.{stored.{Search.{Search}, Try.{Try}}, trials.{Trial.{Trial}, Expansion.{Expansion}}}
use Rattle.dsa_explore.specs.{Ends.{LeadsNowhere}, Halting.{IsHalted}, Search.{Space, IsFine, IsLawfulSpace, queue_taken_from}}
use Rattle.dsa_explore.specs.Trials.{IsTrial, HasTrial, AreMadeFrom, AreAllFrom, LeadsTooFar, IsHaltAt, AreTrials}
use Rattle.dsa_explore.specs.Trials.{IsWholeExpansion, AreExpansions}
use Rattle.dsa_explore.specs.Trying.{IsSearch, IsAt, IsThere}
use Rattle.dsa_explore.proofs.Growth.{In-get, get-push, get-append}
use Rattle.dsa_explore.proofs.Noted.{out-of-steps, too-long}
use Rattle.dsa_explore.proofs.Tables.{other-keys, queues-agree}
use Rattle.dsa_explore.proofs.Ways.{map-none}

-- ---- answers that may be there

pub some-of : {A L : Type 0} (o : Option A) → IfNone o ⊥ → IfSome o (λ x. L) → L
some-of (Some x) n l = l
some-of None n l = absurd n

pub known-of : {A : Type 0} (o : Option A) (key : A → List ℕ) (found : Option (List ℕ)) (bytes : List ℕ)
    → IfNone o ⊥ → IfSome o (λ x. found ≡ Some (key x)) → IfSome o (λ x. key x ≡ bytes) → found ≡ Some bytes
known-of (Some x) key found bytes n at is = at ∙ ap (λ k. Some k) is
known-of None key found bytes n at is = absurd n

pub say-none : {A T : Type 0} (o : Option A) → (o ≡ None → T) → IfNone o T
say-none None f = f refl
say-none (Some x) f = tt

pub say-some : {A : Type 0} {T : A → Type 0} (o : Option A) → ((x : A) → o ≡ Some x → T x) → IfSome o T
say-some None f = tt
say-some (Some x) f = f x refl

module _ {P : Type 0} (space : Space P Move) (x : Stored P) where
  -- ---- the tries of one world

  -- what came of these tries so far
  pub record AreSoFar (tries : List Try) (trials : List Trial) : Type 0 where
    pub each : (trial : Trial) → In trial trials → IsTrial space x trial
    pub made : AreMadeFrom space x tries trials

  pub so-far-none : AreSoFar [] []
  so-far-none = record { each = λ trial i. absurd i; made = λ try i. absurd i }

  has-more : (trials more : List Trial) (try : Try) → ((t : Trial) → In t trials → In t more)
      → HasTrial trials try ⊎ LeadsNowhere space x try → HasTrial more try ⊎ LeadsNowhere space x try
  has-more trials more try kept here = ⊎_elim
      (λ (h : HasTrial trials try). inl (record { trial = h.trial; within = kept h.trial h.within; is = h.is }))
      (λ n. inr n) here

  made-more : (tries : List Try) (i : ℕ) (d tried : Try) (trials more : List Trial) → i < length tries
      → tried ≡ get_or tries i d → ((t : Trial) → In t trials → In t more)
      → AreMadeFrom space x (take i tries) trials → HasTrial more tried ⊎ LeadsNowhere space x tried
      → AreMadeFrom space x (take (i + 1) tries) more
  made-more tries i d tried trials more below is kept before this other j = ⊎_elim
      (λ k. has-more trials more other kept (before other k))
      (λ (e : get_or tries i d ≡ other). subst (λ (t : Try). HasTrial more t ⊎ LeadsNowhere space x t) (is ∙ e) this)
      (In-push other (take i tries) (get_or tries i d)
      (subst (λ (l : List Try). In other l) (take_more tries i d below) j))

  -- one try more, which was made or leads nowhere
  pub so-far-more : (tries : List Try) (i : ℕ) (d tried : Try) (led : Option Trial) (trials more : List Trial)
      → i < length tries → tried ≡ get_or tries i d → IfSome led (λ t. more ≡ trials ++ t ∷ [])
      → IfNone led (more ≡ trials) → IfSome led (IsTrial space x) → IfSome led (λ t. t.tried ≡ tried)
      → IfNone led (LeadsNowhere space x tried) → AreSoFar (take i tries) trials
      → AreSoFar (take (i + 1) tries) more
  so-far-more tries i d tried (Some t) trials more below is pushed same trial by nowhere before = record {
    each = λ other j. ⊎_elim (λ k. before.each other k) (λ (e : t ≡ other). subst (IsTrial space x) e trial)
        (In-push other trials t (subst (λ (l : List Trial). In other l) pushed j));
    made = made-more tries i d tried trials more below is
        (λ other j. subst (λ (l : List Trial). In other l) (sym pushed) (In-left other trials (t ∷ []) j)) before.made
        (inl (record {
          trial = t;
          within = subst (λ (l : List Trial). In t l) (sym pushed) (In-right t trials (t ∷ []) (inl refl));
          is = by;
        }));
  }
  so-far-more tries i d tried None trials more below is pushed same trial by nowhere before = record {
    each = λ other j. before.each other (subst (λ (l : List Trial). In other l) same j);
    made = made-more tries i d tried trials more below is
        (λ other j. subst (λ (l : List Trial). In other l) (sym same) j) before.made (inr nowhere);
  }

  pub steps-halt : (set_up width : ℕ) (halt : Halt) → (halt ≡ Steps) × (2 ^ 20 ≤ set_up + x.level)
      → IsHaltAt space set_up width x halt
  steps-halt set_up width halt met = subst (IsHaltAt space set_up width x) (sym met.0) met.1

  pub far-halt : (set_up width : ℕ) (halt : Halt) → halt ≡ KeyBytes → LeadsTooFar space x width
      → IsHaltAt space set_up width x halt
  far-halt set_up width halt is far = subst (IsHaltAt space set_up width x) (sym is) far

  -- a bound was met
  pub trials-halted : (set_up width : ℕ) (tries some : List Try) (trials : List Trial) (expansion : Expansion)
      (halt : Halt) → AreSoFar some trials → expansion.trials.items ≡ trials → expansion.halted ≡ Some halt
      → IsHaltAt space set_up width x halt → AreTrials space set_up width x tries expansion
  trials-halted set_up width tries some trials expansion halt so-far is halted met = record {
    each = λ t i. so-far.each t (subst (λ (l : List Trial). In t l) is i);
    made = subst (λ (o : Option Halt). IfNone o (AreMadeFrom space x tries expansion.trials.items)) (sym halted) tt;
    halts = subst (λ (o : Option Halt). IfSome o (IsHaltAt space set_up width x)) (sym halted) met;
  }

  pub expansion-halted : (set_up width : ℕ) (expansion : Expansion) (halt : Halt) → expansion.trials.items ≡ []
      → expansion.halted ≡ Some halt → IsHaltAt space set_up width x halt → IsWholeExpansion space set_up width x expansion
  expansion-halted set_up width expansion halt is halted met = record {
    each = λ t i. let none : In t [] = subst (λ (l : List Trial). In t l) is i in absurd none;
    all = subst (λ (o : Option Halt). IfNone o (AreAllFrom space x.world expansion.trials.items)) (sym halted) tt;
    halts = subst (λ (o : Option Halt). IfSome o (IsHaltAt space set_up width x)) (sym halted) met;
  }

  -- where all that is listed was tried, each step that may come was
  pub expansion-of : IsLawfulSpace space → IsFine space x.world → (set_up width : ℕ) (v : World P) (tries : List Try)
      (expansion : Expansion) → IsThere space x v
      → ((w : World P) (move : Move) (reply : Reply) → world_after space.parties v move reply ≡ Some w
      → In (record { by = move; queue = queue_taken_from reply }) tries)
      → AreTrials space set_up width x tries expansion → IsWholeExpansion space set_up width x expansion
  expansion-of lawful fine set_up width v tries expansion there covers t = record {
    each = t.each;
    all = map-none expansion.halted t.made (λ made w move reply step.
        let same = worlds-answer space.caps space.parties space.good lawful.lawful x.world w v move reply fine.good
        there.fine.good (other-keys v x.world there.keys) step in
        let alike = queues-agree w.labels same.v'.labels reply same.reply' same.replies in
        let this : Try = record { by = move; queue = queue_taken_from reply } in
        let listed : In this tries =
        subst (λ (q : Option ℕ). In (record { by = move; queue = q }) tries) (sym alike)
        (covers same.v' move same.reply' same.leads) in
        ⊎_elim (λ (h : HasTrial expansion.trials.items this). h)
        (λ (nowhere : LeadsNowhere space x this). absurd (nowhere w reply step refl)) (made this listed));
    halts = t.halts;
  }

  -- ---- what halts a search

  pub halt-met : IsLawfulSpace space
      → ((w v : World P) → HaveEqualKeys w v → space.bytes_of w ≡ space.bytes_of v) → (first : World P)
      (search : Search) (table : List (Stored P)) (number set_up width : ℕ) → IsAt space first search table number x
      → width ≡ search.seen.width → (halt : Halt) → IsHaltAt space set_up width x halt
      → IsHalted space first set_up search halt
  halt-met lawful byte-keys first search table number set_up width is same KeyBytes far =
      too-long space lawful byte-keys first search table number x is far.from far.to far.move far.reply far.there
      far.leads set_up (omega (arith, same, far.long))
  halt-met lawful byte-keys first search table number set_up width is same Steps many =
      out-of-steps space first search table number x set_up Steps is.is_search is.at (refl, many)
  halt-met lawful byte-keys first search table number set_up width is same States never = absurd never
  halt-met lawful byte-keys first search table number set_up width is same Lost never = absurd never

module _ {P : Type 0} (space : Space P Move) (set_up width : ℕ) (table : List (Stored P)) (from : ℕ) where
  -- ---- the expansions of several worlds

  pub expansions-none : AreExpansions space set_up width table from []
  expansions-none i e x at = absurd cc

  pub expansions-more : (es : List Expansion) (e : Expansion) (number : ℕ) → from + length es ≡ number
      → ((x : Stored P) → slice_get table number ≡ Some x → IsWholeExpansion space set_up width x e)
      → AreExpansions space set_up width table from es
      → AreExpansions space set_up width table from (es ++ e ∷ [])
  expansions-more es e number is this before i other x at here = ⊎_elim (λ k. before i other x k here)
      (λ p. subst (IsWholeExpansion space set_up width x) p.1
      (this x (subst (λ (n : ℕ). slice_get table n ≡ Some x) (ap (λ n. from + n) p.0 ∙ is) here)))
      (get-push es e i other at)

  pub expansions-both : (es others : List Expansion) (number : ℕ) → from + length es ≡ number
      → AreExpansions space set_up width table from es → AreExpansions space set_up width table number others
      → AreExpansions space set_up width table from (es ++ others)
  expansions-both es others number is before these i other x at here = ⊎_elim (λ k. before i other x k here)
      (λ p. these p.0 other x p.1.1
      (subst (λ (n : ℕ). slice_get table n ≡ Some x) (omega (arith, p.1.0, is)) here))
      (get-append es others i other at)
