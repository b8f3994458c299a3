-- One more of a list.
use Rattle.std.proofs.Common.{◌≡◌, ◌⊎◌, inl, inr, ◌<◌, ℕ, List, [], ◌∷◌, ◌++◌, length, take, drop, get_or, refl, sym}
use Rattle.std.proofs.Common.{subst, ◌∙◌, arith, string_bytes, ap}
use Rattle.std.proofs.lemmas.List.{take-append-drop}
use Rattle.std.specs.Prelude.{remove, insert}
use Rattle.dsa_base.{specs.Lists.{In}, proofs.Lists.{In-append, In-push, In-left, In-right}}
use Rattle.dsa_conform.proofs.Choices.{contains_in}
use Rattle.dsa_scenario.specs.declared.run.Record.{Record}
use Rattle.dsa_conform.specs.declared.told.{Line.{Line}, Told.{Told}}
use Rattle.dsa_conform.specs.Lines.{allowed_line}
use Rattle.dsa_conform.specs.Allowed.{queue_taken}
use Rattle.dsa_conform.specs.ToldLines.{IsPlaceOf, IsLinePlaced, HasText, IsLineOf, AddsLines, AreLinesTold}
use Rattle.dsa_conform.proofs.Listed.{listed_more}

-- the element at a place stands in the list
pub in_at : {X : Type 0} (xs : List X) (i : ℕ) (x : X) → i < length xs → x ≡ get_or xs i x → In x xs
in_at xs i x inside is = contains_in xs x (i, inside, sym is)

-- the front, and the rest
pub front_removed : {X : Type 0} (xs : List X) (x : X) → 0 < length xs → x ≡ get_or xs 0 x → xs ≡ x ∷ remove xs 0
front_removed [] x some is = absurd (omega (arith, some))
front_removed (y ∷ ys) x some is = ap (λ z. z ∷ ys) (sym is)

-- between two parts of a list
between : {X : Type 0} (pre post : List X) (x y : X) → In y (pre ++ x ∷ post) → In y (pre ++ post) ⊎ (x ≡ y)
between pre post x y i = elim (In-append y pre (x ∷ post) i) [
  | inl before ↦ inl (In-left y pre post before)
  | inr after ↦ at after
]
  where
    at : In y (x ∷ post) → In y (pre ++ post) ⊎ (x ≡ y)
    at (inl same) = inr same
    at (inr i) = inl (In-right y pre post i)

beside : {X : Type 0} (pre post : List X) (x y : X) → In y (pre ++ post) → In y (pre ++ x ∷ post)
beside pre post x y i = elim (In-append y pre post i) [
  | inl before ↦ In-left y pre (x ∷ post) before
  | inr after ↦ In-right y pre (x ∷ post) (inr after)
]

pub placed : (old new : List Line) (i queue : ℕ) (line : Line) → new ≡ insert old i line → IsPlaceOf old queue i
    → queue ≡ queue_taken line.entry → ¬ HasText old (string_bytes line.text) → IsLinePlaced old line new
placed old new i queue line is place taken none = record {
  each = λ other k. elim (between (take i old) (drop i old) line other (subst (In other) is k)) [
    | inl before ↦ inl (subst (In other) (take-append-drop i old) before)
    | inr same ↦ inr same
  ];
  all = λ other k. subst (In other) (sym is)
      (beside (take i old) (drop i old) line other (subst (In other) (sym (take-append-drop i old)) k));
  here = (line, subst (In line) (sym is) (In-right line (take i old) (line ∷ drop i old) (inl refl)), refl);
  listed = listed_more old new i queue line is place taken none;
}

-- ---- lines

-- no line has been added
pub none_placed : (old : List Line) (told : Told) → AddsLines old old told []
none_placed old told =
    record { each = λ line i. inl i; all = λ line i. i; here = λ entry i. absurd i; listed = λ h. h }

-- one more has
pub more_placed : (old mid new : List Line) (told : Told) (entries : List Record) (entry : Record) (line : Line)
    → AddsLines old mid told entries → In entry told.allowed.items → line.entry ≡ entry
    → string_bytes line.text ≡ allowed_line (string_bytes told.why) entry → IsLinePlaced mid line new
    → AddsLines old new told (entries ++ entry ∷ [])
more_placed old mid new told entries entry line before among is text placed = record {
  each = λ other i. elim (placed.each other i) [
    | inl earlier ↦ before.each other earlier
    | inr same ↦ inr (subst (λ (l : Line). IsLineOf l told) same (
      subst (λ r. In r told.allowed.items) (sym is) among,
      text ∙ ap (allowed_line (string_bytes told.why)) (sym is),
    ))
  ];
  all = λ other i. placed.all other (before.all other i);
  here = λ other i. elim (In-push other entries entry i) [
    | inl earlier ↦
        let h = before.here other earlier in (h.0, placed.all h.0 h.1, h.2)
    | inr same ↦
        (placed.here.0, placed.here.1, placed.here.2 ∙ text ∙ ap (allowed_line (string_bytes told.why)) same)
  ];
  listed = λ h. placed.listed (before.listed h);
}

pub no_lines : AreLinesTold [] []
no_lines = record {
  each = λ line i. absurd i;
  all = λ told i. absurd i;
  listed = record { order = tt; once = tt };
}

-- those of one device more
pub more_lines : (tolds : List Told) (told : Told) (old new : List Line) → AreLinesTold tolds old
    → AddsLines old new told told.allowed.items → AreLinesTold (tolds ++ told ∷ []) new
more_lines tolds told old new before added = record {
  each = λ line i. elim (added.each line i) [
    | inl earlier ↦
        let h = before.each line earlier in (h.0, In-left h.0 tolds (told ∷ []) h.1, h.2)
    | inr is ↦ (told, In-right told tolds (told ∷ []) (inl refl), is)
  ];
  all = λ other i. elim (In-push other tolds told i) [
    | inl earlier ↦ (λ entry j.
        let h = before.all other earlier entry j in (h.0, added.all h.0 h.1, h.2))
    | inr same ↦
        subst (λ (t : Told). (entry : Record) → In entry t.allowed.items
        → HasText new (allowed_line (string_bytes t.why) entry)) same added.here
  ];
  listed = added.listed before.listed;
}
