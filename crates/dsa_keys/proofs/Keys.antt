-- Keys and alikeness: states that are alike have equal keys, and states with equal keys are alike.
use Rattle.std.proofs.Common.{◌≡◌, Bool, List, [], ◌∷◌, map}
use Rattle.std.proofs.Common.{Option, Some, None, refl, sym, ap, ◌∙◌}
use Rattle.std.specs.Prelude.{option_map}
use Rattle.dsa_store.specs.Content.{HeldEntry, Content, all_held}
use Rattle.dsa_book.specs.declared.note.{ActiveCommand.{ActiveCommand}}
use Rattle.dsa_book.specs.State.{State}
use Rattle.dsa_admin.specs.Admin.{is_awaited_by}
use Rattle.dsa_keys.proofs.Alike.{Same, Both, SameNote, Pair, SameActive, SameWaits, Like, Alike}
use Rattle.dsa_keys.specs.Key.{waits_of, labelled_entry, LabelledEntry, waits_as_drain, key}
use Rattle.dsa_keys.specs.Labels.{Labels, labelled_note}
use Rattle.dsa_keys.specs.Marks.{HasLawfulMark}
use Rattle.dsa_keys.proofs.Both.{both-weaken, both-held}
use Rattle.dsa_keys.proofs.{Known.{IsKnown, Twins, Match, held-matches, both-partner}, Engines.{pair-of}}

-- ---- equal lists of what is made of each

abbrev pub head_or : {X : Type 0} → X → List X → X
head_or x [] = x
head_or x (y ∷ ys) = y

abbrev pub tail_of : {X : Type 0} → List X → List X
tail_of [] = []
tail_of (y ∷ ys) = ys

pub both-of-maps : {X Y Z : Type 0} (f : X → Z) (g : Y → Z) (xs : List X) (ys : List Y) → map f xs ≡ map g ys
    → Both (λ x y. f x ≡ g y) xs ys
both-of-maps f g [] [] e = tt
both-of-maps f g (x ∷ xs) (y ∷ ys) e = (ap (head_or (f x)) e, both-of-maps f g xs ys (ap tail_of e))
both-of-maps f g [] (y ∷ ys) e = absurd cc
both-of-maps f g (x ∷ xs) [] e = absurd cc

pub maps-of-both : {X Y Z : Type 0} (R : X → Y → Type 0) (f : X → Z) (g : Y → Z) (xs : List X) (ys : List Y)
    → ((x : X) (y : Y) → R x y → f x ≡ g y) → Both R xs ys → map f xs ≡ map g ys
maps-of-both R f g [] [] h b = refl
maps-of-both R f g (x ∷ xs) (y ∷ ys) h b = λ i. h x y b.0 i ∷ maps-of-both R f g xs ys h b.1 i
maps-of-both R f g [] (y ∷ ys) h b = absurd b
maps-of-both R f g (x ∷ xs) [] h b = absurd b

pub both-and-both : {X Y : Type 0} (R S : X → Y → Type 0) (xs : List X) (ys : List Y) → Both R xs ys → Both S xs ys
    → Both (λ x y. R x y × S x y) xs ys
both-and-both R S [] [] b c = tt
both-and-both R S (x ∷ xs) (y ∷ ys) b c = ((b.0, c.0), both-and-both R S xs ys b.1 c.1)
both-and-both R S [] (y ∷ ys) b c = absurd b
both-and-both R S (x ∷ xs) [] b c = absurd b

-- for which held entries each held entry waits
abbrev pub held_waits : Content → List (List Bool)
held_waits content = waits_of (all_held content) content

-- ---- from alike to equal keys

module _ {m n : Labels} {s t : State} (h : Twins m n s.work t.work) (a : Alike m n s t) where
  abbrev M : HeldEntry → HeldEntry → Type 0
  M = Match m n s.work t.work

  waits-equal : held_waits s.work.content ≡ held_waits t.work.content
  waits-equal = maps-of-both M _ _ (all_held s.work.content) (all_held t.work.content)
      (λ b c p. maps-of-both M _ _ (all_held s.work.content) (all_held t.work.content)
      (λ x y q. a.waits b x c y (pair-of h b c p) (pair-of h x y q)) (held-matches h)) (held-matches h)

  command-equal : (o p : Option ActiveCommand) → SameActive m n s.work t.work o p
      → option_map (λ (b : ActiveCommand). b.command) o ≡ option_map (λ (b : ActiveCommand). b.command) p
  command-equal None None e = refl
  command-equal (Some b) (Some c) e = ap (λ z. Some z) e.command
  command-equal None (Some c) e = absurd e
  command-equal (Some b) None e = absurd e

  awaited-equal : (o p : Option ActiveCommand) → SameActive m n s.work t.work o p → (x y : HeldEntry) → M x y
      → is_awaited_by o x.1 ≡ is_awaited_by p y.1
  awaited-equal None None e x y q = refl
  awaited-equal (Some b) (Some c) e x y q = e.entries x y (pair-of h x y q)
  awaited-equal None (Some c) e x y q = absurd e
  awaited-equal (Some b) None e x y q = absurd e

  pub key-of-alike : key m s ≡ key n t
  key-of-alike =
      let lists = maps-of-both (Both (Same m n)) (map (labelled_entry m))
      (map (labelled_entry n)) s.work.content t.work.content
      (λ xs ys b. maps-of-both (Same m n) (labelled_entry m) (labelled_entry n) xs ys (λ x y e. e) b) a.work.content in
      let notes = maps-of-both (SameNote m n) (option_map (labelled_note m)) (option_map (labelled_note n)) s.work.notes
      t.work.notes (λ o p e. e) a.work.notes in
      let command = command-equal s.active t.active a.active in
      let awaited = maps-of-both M (λ (x : HeldEntry). is_awaited_by s.active x.1)
      (λ (x : HeldEntry). is_awaited_by t.active x.1)
      (all_held s.work.content) (all_held t.work.content)
      (awaited-equal s.active t.active a.active) (held-matches h) in
      λ i. record {
        setup = a.work.setup i;
        lists = lists i;
        notes = notes i;
        waits = waits-equal i;
        command = command i;
        awaited = awaited i;
      }

-- ---- from equal keys to alike

module _ {m n : Labels} (s t : State) (left : IsKnown m s.work) (right : IsKnown n t.work) (e : key m s ≡ key n t) where
  pub like-of-key : Like m n s.work t.work
  like-of-key = record {
    setup = λ i. (e i).setup;
    content = both-weaken (λ xs ys. map (labelled_entry m) xs ≡ map (labelled_entry n) ys)
        (Both (Same m n)) s.work.content t.work.content
        (λ xs ys b. both-of-maps (labelled_entry m) (labelled_entry n) xs ys b)
        (both-of-maps (map (labelled_entry m)) (map (labelled_entry n)) s.work.content t.work.content
        (λ i. (e i).lists));
    notes = both-of-maps (option_map (labelled_note m)) (option_map (labelled_note n)) s.work.notes t.work.notes
        (λ i. (e i).notes);
  }

  held-same : Both (Same m n) (all_held s.work.content) (all_held t.work.content)
  held-same = both-held (Same m n) s.work.content t.work.content like-of-key.content

  -- what is equal place by place is equal for each pair
  by-pair : {Z : Type 0} (f g : HeldEntry → Z) → map f (all_held s.work.content) ≡ map g (all_held t.work.content)
      → (x y : HeldEntry) → Pair m n s.work.content t.work.content x y → f x ≡ g y
  by-pair {Z} f g equal x y p =
      let both = both-and-both (Same m n) (λ x y. f x ≡ g y) (all_held s.work.content) (all_held t.work.content)
      held-same (both-of-maps f g (all_held s.work.content) (all_held t.work.content) equal) in
      let r = both-partner (λ x y. Same m n x y × (f x ≡ g y)) (all_held s.work.content) (all_held t.work.content) x
      both p.left in
      let same = right.labels r.0 y r.1.1 p.right
      (sym (ap (λ (z : LabelledEntry). z.label) r.1.0.0) ∙ ap (λ (z : LabelledEntry). z.label) p.same) in
      r.1.0.1 ∙ ap g same

  waits-of-key : SameWaits m n s.work.content t.work.content
  waits-of-key a x b y p q =
      by-pair (λ x. waits_as_drain a.1 x.1) (λ y. waits_as_drain b.1 y.1)
      (by-pair (λ a. map (λ (x : HeldEntry). waits_as_drain a.1 x.1) (all_held s.work.content))
      (λ b. map (λ (y : HeldEntry). waits_as_drain b.1 y.1) (all_held t.work.content)) (λ i. (e i).waits) a b p) x y q

  active-of-key : HasLawfulMark s → HasLawfulMark t → SameActive m n s.work t.work s.active t.active
  active-of-key marked marked' = go s.active t.active refl refl (λ i. (e i).command)
    where
      go : (o p : Option ActiveCommand) → s.active ≡ o → t.active ≡ p
          → option_map (λ (b : ActiveCommand). b.command) o ≡ option_map (λ (b : ActiveCommand). b.command) p
          → SameActive m n s.work t.work o p
      go None None a b c = tt
      go (Some u) (Some v) a b c = record {
        command = cc;
        left = marked u a;
        right = marked' v b;
        entries = λ x y p.
            ap (λ o. is_awaited_by o x.1) (sym a)
            ∙ by-pair (λ x. is_awaited_by s.active x.1) (λ y. is_awaited_by t.active y.1) (λ i. (e i).awaited) x y p
            ∙ ap (λ o. is_awaited_by o y.1) b;
      }
      go None (Some v) a b c = absurd cc
      go (Some u) None a b c = absurd cc

  pub alike-of-key : HasLawfulMark s → HasLawfulMark t → Alike m n s t
  alike-of-key marked marked' = record {
    work = like-of-key;
    waits = waits-of-key;
    active = active-of-key marked marked';
  }
