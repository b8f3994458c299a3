-- The batch of an engine, as its lists and its note change.
use Rattle.std.{specs.Prelude.{count_by, sum_by}, proofs.Common.{subst, arith, ⊎_elim, length-append, []}}
use Rattle.std.proofs.Common.{◌∷◌, ◌++◌, length, filter, Option, Some, None, option_map, is_none, refl, sym, ap, ◌∙◌}
use Rattle.std.proofs.Common.{◌≡◌, ◌≢◌, ℕ, zero, suc, ◌+◌, ◌≤◌, ◌&&◌, ◌||◌, ◌==◌, not, Bool, true, false, cond, List}
use Rattle.std.proofs.lemmas.{List.Sums.{sum_by-append}, Bool.{and_parts, false_from_ne_true}}
use Rattle.dsa_base.proofs.Lists.{length-none, In-push, In-filter, In-passing, any-In, In-any}
use Rattle.dsa_base.proofs.Counts.{count-push, length-filter-le, filter-none, In-counted, count-none, count-alike}
use Rattle.dsa_base.{proofs.{Counts.{In-old}, Tables.{not-both}}, specs.Lists.{In}}
use Rattle.dsa_regs.specs.{declared.Scope.{Scope, TheVariants.{Device, Pasid}}, Command.{queues_in}}
use Rattle.dsa_store.{specs.Content.{HeldEntry, Content, chain, all_held}, proofs.Sums.{sum-split}}
use Rattle.dsa_book.specs.{Commands.{is_in_scope, is_among, takes_batch, kept_note}, State.{Setup, is_batch_of}}
use Rattle.dsa_book.specs.{Work.{with_running_entry, opened_note, with_first_run}, declared.note.BatchNote.{BatchNote}}
use Rattle.dsa_laws.specs.Engines.{holds_batch, IsNoteOf, IsAlike, IsLawfulEngine}
use Rattle.dsa_laws.proofs.{Contents.{sum-list-le}, Entries.{first_run-each}}

-- ---- lists

-- two lists together hold no more than all do
pub sum-two : (f : HeldEntry → ℕ) (c : Content) (i j : ℕ) → i ≢ j
    → sum_by f (chain c i) + sum_by f (chain c j) ≤ sum_by f (all_held c)
sum-two f [] i j n = omega arith
sum-two f (l ∷ ls) zero zero n = absurd (n refl)
sum-two f (l ∷ ls) zero (suc j) n = omega (arith, sum_by-append f l (all_held ls), sum-list-le f ls j)
sum-two f (l ∷ ls) (suc i) zero n = omega (arith, sum_by-append f l (all_held ls), sum-list-le f ls i)
sum-two f (l ∷ ls) (suc i) (suc j) n = omega (
  arith,
  sum_by-append f l (all_held ls),
  sum-two f ls i j
      (λ e. n (ap (λ k. suc k) e)),
)

length-first_run : (xs : List HeldEntry) → length (with_first_run xs) ≡ length xs
length-first_run [] = refl
length-first_run (x ∷ xs) = grind (arith, length-first_run xs)

-- ---- by another setup, with fewer entries, with other marks

-- the same lists by a setup with the same batches
pub by_setup : (setup setup' : Setup) (ps ms : List HeldEntry) (o : Option BatchNote)
    → ((x : HeldEntry) → In x ps → holds_batch setup' x ≡ holds_batch setup x) → IsLawfulEngine setup ps ms o
    → IsLawfulEngine setup' ps ms o
by_setup setup setup' ps ms None same h =
    let count = count-alike (holds_batch setup') (holds_batch setup) ps same in
    record { no_batch = count ∙ h.no_batch; no_members = h.no_members }
by_setup setup setup' ps ms (Some note) same h = record {
  one_batch = count-alike (holds_batch setup') (holds_batch setup) ps same ∙ h.one_batch;
  noted = λ b i t. h.noted b i (sym (same b i) ∙ t);
  parents = h.parents;
  alike = λ m b i j t. h.alike m b i j (sym (same b j) ∙ t);
  most = h.most;
}

-- some go, and no batch is among them
pub fewer : (setup : Setup) (ps ps' ms ms' : List HeldEntry) (o : Option BatchNote)
    → count_by (holds_batch setup) ps' ≡ count_by (holds_batch setup) ps → ((x : HeldEntry) → In x ps' → In x ps)
    → ((x : HeldEntry) → In x ms' → In x ms) → length ms' ≤ length ms → IsLawfulEngine setup ps ms o
    → IsLawfulEngine setup ps' ms' o
fewer setup ps ps' ms ms' None same p m l h = record {
  no_batch = same ∙ h.no_batch;
  no_members = length-none ms' (omega (arith, ap length h.no_members));
}
fewer setup ps ps' ms ms' (Some note) same p m l h = record {
  one_batch = same ∙ h.one_batch;
  noted = λ b i t. h.noted b (p b i) t;
  parents = λ x i. h.parents x (m x i);
  alike = λ x b i j t. h.alike x b (m x i) (p b j) t;
  most = omega arith;
}

-- a note with other marks
pub marked : (setup : Setup) (ps ms : List HeldEntry) (f : BatchNote → BatchNote) (o : Option BatchNote)
    → ((n : BatchNote) → (f n).batch ≡ n.batch) → ((n : BatchNote) → (f n).count ≡ n.count)
    → ((n : BatchNote) → (f n).fetched ≡ n.fetched)
    → IsLawfulEngine setup ps ms o → IsLawfulEngine setup ps ms (option_map f o)
marked setup ps ms f None a b c h = h
marked setup ps ms f (Some n) a b c h = record {
  one_batch = h.one_batch;
  noted = λ x i t. let is = h.noted x i t in record { name = a n ∙ is.name; count = b n ∙ is.count };
  parents = λ x i. h.parents x i ∙ ap (λ k. Some k) (sym (a n));
  alike = h.alike;
  most = omega (arith, c n);
}

-- ---- each kind of step of an engine

-- a front comes: a batch where there was none, or no batch
pub with_front : (setup : Setup) (ps ms : List HeldEntry) (o : Option BatchNote) (x : HeldEntry) (b : Bool)
    → holds_batch setup x ≡ b → (is_none o || not b) ≡ true
    → IsLawfulEngine setup ps ms o → IsLawfulEngine setup (ps ++ with_running_entry x ∷ []) ms
    (cond b (Some (opened_note x.1)) o)
with_front setup ps ms None x true is may h =
    let count = count-push (holds_batch setup) ps (with_running_entry x) true is in
    let old = h.no_batch in
    let none : (y : HeldEntry) → In y ms → ⊥ = λ y i. subst (λ l. In y l) h.no_members i in
    record {
      one_batch = omega arith;
      noted = λ y i t. ⊎_elim
          (λ j. absurd (omega (arith, In-counted (holds_batch setup) y ps j t)))
          (λ e. subst
          (λ z. IsNoteOf (opened_note x.1) z) e (record { name = refl; count = refl }))
          (In-push y ps (with_running_entry x) i);
      parents = λ y i. absurd (none y i);
      alike = λ y z i j t. absurd (none y i);
      most = omega (arith, ap length h.no_members);
    }
with_front setup ps ms (Some n) x true is may h = absurd cc
with_front setup ps ms None x false is may h = record {
  no_batch = omega (arith, count-push (holds_batch setup) ps (with_running_entry x) false is);
  no_members = h.no_members;
}
with_front setup ps ms (Some n) x false is may h = record {
  one_batch = omega (arith, count-push (holds_batch setup) ps (with_running_entry x) false is);
  noted = λ y i t. h.noted y (In-old (holds_batch setup) y ps (with_running_entry x) is i t) t;
  parents = h.parents;
  alike = λ m y i j t. h.alike m y i (In-old (holds_batch setup) y ps (with_running_entry x) is j t) t;
  most = h.most;
}

-- a member comes, like the batch
pub with_member : (setup : Setup) (ps ms : List HeldEntry) (n : BatchNote) (x : HeldEntry) → x.1.parent ≡ Some n.batch
    → ((b : HeldEntry) → In b ps → holds_batch setup b ≡ true → IsAlike x b)
    → IsLawfulEngine setup ps ms (Some n)
    → IsLawfulEngine setup ps (ms ++ x ∷ []) (Some (record n { fetched = n.fetched + 1 }))
with_member setup ps ms n x parent like h = record {
  one_batch = h.one_batch;
  noted = λ b i t. let is = h.noted b i t in record { name = is.name; count = is.count };
  parents = λ m i. ⊎_elim (λ j. h.parents m j)
      (λ e. subst (λ z. z.1.parent ≡ Some n.batch) e parent) (In-push m ms x i);
  alike = λ m b i j t. ⊎_elim (λ k. h.alike m b k j t)
      (λ e. subst (λ z. IsAlike z b) e (like b j t)) (In-push m ms x i);
  most = omega (arith, length-append ms (x ∷ []));
}

-- the first member that waits runs
pub with_run : (setup : Setup) (ps ms : List HeldEntry) (o : Option BatchNote) → IsLawfulEngine setup ps ms o
    → IsLawfulEngine setup ps (with_first_run ms) o
with_run setup ps ms None h = record {
  no_batch = h.no_batch;
  no_members = ap with_first_run h.no_members;
}
with_run setup ps ms (Some n) h = record {
  one_batch = h.one_batch;
  noted = h.noted;
  parents = first_run-each (λ m. m.1.parent ≡ Some n.batch) (λ x p. p) ms h.parents;
  alike = λ m b i j t. first_run-each (λ m. IsAlike m b) (λ x p. record { queue = p.queue; pasid = p.pasid }) ms
      (λ x k. h.alike x b k j t) m i;
  most = omega (arith, length-first_run ms);
}

-- those that pass are left, and no batch is gone
filtered : (setup : Setup) (p : HeldEntry → Bool) (ps ms : List HeldEntry) (o : Option BatchNote)
    → count_by (holds_batch setup) (filter p ps) ≡ count_by (holds_batch setup) ps → IsLawfulEngine setup ps ms o
    → IsLawfulEngine setup (filter p ps) (filter p ms) o
filtered setup p ps ms o same = fewer setup ps (filter p ps) ms (filter p ms) o same
    (λ x i. (In-filter p x ps i).0) (λ x i. (In-filter p x ms i).0) (length-filter-le p ms)

-- a batch ends, which has no members left, or another entry
pub with_end : (setup : Setup) (p : HeldEntry → Bool) (ps ms : List HeldEntry) (o : Option BatchNote) (b m : Bool)
    → count_by (holds_batch setup) (filter p ps) + cond b 1 0 ≡ count_by (holds_batch setup) ps
    → (b ≡ true → ms ≡ []) → IsLawfulEngine setup ps ms o → IsLawfulEngine setup (filter p ps) (filter p ms)
    (cond b None (cond m (option_map (λ (note : BatchNote). record note { failed = true }) o) o))
with_end setup p ps ms None true m less none h = absurd (omega arith)
with_end setup p ps ms (Some n) true m less none h =
    record { no_batch = omega arith; no_members = ap (filter p) (none refl) }
with_end setup p ps ms o false true less none h =
    marked setup (filter p ps) (filter p ms) (λ note. record note { failed = true }) o (λ n. refl)
    (λ n. refl) (λ n. refl) (filtered setup p ps ms o (omega arith) h)
with_end setup p ps ms o false false less none h = filtered setup p ps ms o (omega arith) h

-- the members are abandoned, and the batch is closed
pub with_none : (setup : Setup) (ps ms : List HeldEntry) (o : Option BatchNote) → IsLawfulEngine setup ps ms o
    → IsLawfulEngine setup ps [] (option_map (λ (note : BatchNote). record note { closed = true }) o)
with_none setup ps ms o h =
    marked setup ps [] (λ note. record note { closed = true }) o (λ n. refl) (λ n. refl)
    (λ n. refl) (fewer setup ps ps ms [] o refl (λ x i. i) (λ x i. absurd i) (omega arith) h)

-- ---- an abort

-- the entries that an abort takes
abbrev is_taken_out : Scope → HeldEntry → Bool
is_taken_out scope x = is_in_scope scope x.1

-- the entries that an abort leaves
abbrev pub is_left : Scope → HeldEntry → Bool
is_left scope x = not (is_in_scope scope x.1)

-- a member and its batch are both of a scope, or neither is
pub scope-alike : (scope : Scope) (m b : HeldEntry) → IsAlike m b → is_in_scope scope m.1 ≡ is_in_scope scope b.1
scope-alike Device m b h = refl
scope-alike (Pasid pasid) m b h = ap (λ p. p == pasid) h.pasid
scope-alike scope m b h = ap (is_among (queues_in scope)) h.queue

-- a batch in the scope is the only one in progress, and no member is left
goes-along : (scope : Scope) (setup : Setup) (ps ms : List HeldEntry) (o : Option BatchNote) (x : HeldEntry) → In x ps
    → holds_batch setup x ≡ true → is_taken_out scope x ≡ true → IsLawfulEngine setup ps ms o
    → (count_by (holds_batch setup) ps ≡ 1) × ((m : HeldEntry) → In m ms → is_left scope m ≡ false)
goes-along scope setup ps ms None x i t s h =
    absurd (omega (arith, In-counted (holds_batch setup) x ps i t))
goes-along scope setup ps ms (Some n) x i t s h =
    (h.one_batch, λ m j. ap not (scope-alike scope m x (h.alike m x j i t) ∙ s))

-- a batch goes with all its members, or stays
pub with_abort : (scope : Scope) (setup : Setup) (ps ms : List HeldEntry) (o : Option BatchNote)
    → IsLawfulEngine setup ps ms o
    → IsLawfulEngine setup (filter (is_left scope) ps) (filter (is_left scope) ms) (kept_note setup scope ps o)
with_abort scope setup ps ms o h = go (takes_batch setup scope ps) refl
  where
    go : (b : Bool) → takes_batch setup scope ps ≡ b
        → IsLawfulEngine setup (filter (is_left scope) ps) (filter (is_left scope) ms) (cond b None o)
    go true t =
        let batch = any-In (λ pair. is_batch_of setup pair.1 && is_in_scope scope pair.1) ps t in
        let both = and_parts _ _ batch.1.1 in
        let along = goes-along scope setup ps ms o batch.0 batch.1.0 both.0 both.1 h in
        record {
          no_batch = omega (
            arith,
            sum-split (λ x. cond (holds_batch setup x) 1 0) (is_taken_out scope) ps,
            In-counted
                (holds_batch setup) batch.0 (filter (is_taken_out scope) ps)
                (In-passing (is_taken_out scope) batch.0 ps batch.1.0 both.1) both.0,
          );
          no_members = filter-none (is_left scope) ms (count-none (is_left scope) ms along.1);
        }
    go false f =
        let none = count-none (holds_batch setup) (filter (is_taken_out scope) ps) (λ x j.
        let i = In-filter (is_taken_out scope) x ps j in
        false_from_ne_true (holds_batch setup x) (λ t.
        not-both _ (In-any (λ pair. is_batch_of setup pair.1 && is_in_scope scope pair.1) x ps i.0
        (ap (λ b. b && is_in_scope scope x.1) t ∙ i.1)) f)) in
        filtered setup (is_left scope) ps ms o
        (omega (arith, sum-split (λ x. cond (holds_batch setup x) 1 0) (is_taken_out scope) ps)) h
