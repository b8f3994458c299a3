-- Lists that agree place by place: what is made of them alike agrees too.
use Rattle.std.proofs.Common.{◌≡◌, ℕ, zero, suc, ◌+◌, Bool, true, false, cond, ◌||◌, List, [], ◌∷◌, ◌++◌, map, filter}
use Rattle.std.proofs.Common.{length, get_or, set, drop, Option, Some, None, refl, sym, ap, ◌∙◌, inl, inr}
use Rattle.std.specs.{Prelude.{find, slice_get, sum_by}, List.{list_any}}
use Rattle.std.proofs.lemmas.List.Sums.{sum_by-cons}
use Rattle.dsa_base.{specs.{Lists.{In}, Rows.{first_row_or}}, proofs.Lists.{In-left, In-right}}
use Rattle.dsa_store.specs.Content.{HeldEntry, Content, all_held}
use Rattle.dsa_keys.proofs.Alike.{Both, BothSome}

-- ---- choices

pub both-cond : {X Y : Type 0} (R : X → Y → Type 0) (a b : Bool) (x x' : X) (y y' : Y) → a ≡ b → R x y → R x' y'
    → R (cond a x x') (cond b y y')
both-cond R true true x x' y y' e p q = p
both-cond R false false x x' y y' e p q = q
both-cond R true false x x' y y' e p q = absurd cc
both-cond R false true x x' y y' e p q = absurd cc

-- tables whose rows have equal tests, and give what agrees
pub both-rows : {X Y : Type 0} (R : X → Y → Type 0) (rows : List (Bool × X)) (rows' : List (Bool × Y)) (x : X) (y : Y)
    → Both (λ (r : Bool × X) (r' : Bool × Y). (r.0 ≡ r'.0) × R r.1 r'.1) rows rows' → R x y
    → R (first_row_or rows x) (first_row_or rows' y)
both-rows R [] [] x y b last = last
both-rows R ((true, z) ∷ rows) ((true, z') ∷ rows') x y b last = b.0.1
both-rows R ((false, z) ∷ rows) ((false, z') ∷ rows') x y b last = both-rows R rows rows' x y b.1 last
both-rows R ((true, z) ∷ rows) ((false, z') ∷ rows') x y b last = let e : true ≡ false = b.0.0 in absurd cc
both-rows R ((false, z) ∷ rows) ((true, z') ∷ rows') x y b last = let e : false ≡ true = b.0.0 in absurd cc
both-rows R [] (r ∷ rows') x y b last = absurd b
both-rows R (r ∷ rows) [] x y b last = absurd b

-- the same for tables of one row and of three, which need not be written out
pub both-row1 : {X Y : Type 0} (R : X → Y → Type 0) (a b : Bool) (x last : X) (y last' : Y) → a ≡ b → R x y
    → R last last' → R (first_row_or ((a, x) ∷ []) last) (first_row_or ((b, y) ∷ []) last')
both-row1 R a b x last y last' e r r' = both-rows R ((a, x) ∷ []) ((b, y) ∷ []) last last' ((e, r), tt) r'

pub both-row2 : {X Y : Type 0} (R : X → Y → Type 0) (a a' b b' : Bool) (x1 x2 last : X) (y1 y2 last' : Y)
    → a ≡ a' → R x1 y1 → b ≡ b' → R x2 y2 → R last last'
    → R (first_row_or ((a, x1) ∷ (b, x2) ∷ []) last) (first_row_or ((a', y1) ∷ (b', y2) ∷ []) last')
both-row2 R a a' b b' x1 x2 last y1 y2 last' e r e' r' l =
    both-rows R ((a, x1) ∷ (b, x2) ∷ []) ((a', y1) ∷ (b', y2) ∷ []) last last' ((e, r), ((e', r'), tt)) l

pub both-row3 : {X Y : Type 0} (R : X → Y → Type 0) (a a' b b' c c' : Bool) (x1 x2 x3 last : X) (y1 y2 y3 last' : Y)
    → a ≡ a' → R x1 y1 → b ≡ b' → R x2 y2 → c ≡ c' → R x3 y3 → R last last'
    → R (first_row_or ((a, x1) ∷ (b, x2) ∷ (c, x3) ∷ []) last)
    (first_row_or ((a', y1) ∷ (b', y2) ∷ (c', y3) ∷ []) last')
both-row3 R a a' b b' c c' x1 x2 x3 last y1 y2 y3 last' e r e' r' e'' r'' l =
    both-rows R ((a, x1) ∷ (b, x2) ∷ (c, x3) ∷ []) ((a', y1) ∷ (b', y2) ∷ (c', y3) ∷ []) last last'
    ((e, r), ((e', r'), ((e'', r''), tt))) l

-- ---- lists

pub both-length : {X Y : Type 0} (R : X → Y → Type 0) (xs : List X) (ys : List Y) → Both R xs ys → length xs ≡ length ys
both-length R [] [] b = refl
both-length R (x ∷ xs) (y ∷ ys) b = ap suc (both-length R xs ys b.1)
both-length R [] (y ∷ ys) b = absurd b
both-length R (x ∷ xs) [] b = absurd b

pub both-weaken : {X Y : Type 0} (R S : X → Y → Type 0) (xs : List X) (ys : List Y)
    → ((x : X) (y : Y) → R x y → S x y) → Both R xs ys → Both S xs ys
both-weaken R S [] [] w b = tt
both-weaken R S (x ∷ xs) (y ∷ ys) w b = (w x y b.0, both-weaken R S xs ys w b.1)
both-weaken R S [] (y ∷ ys) w b = absurd b
both-weaken R S (x ∷ xs) [] w b = absurd b

pub both-in : {X Y : Type 0} (R : X → Y → Type 0) (xs : List X) (ys : List Y) → Both R xs ys
    → Both (λ x y. R x y × (In x xs × In y ys)) xs ys
both-in R [] [] b = tt
both-in R (x ∷ xs) (y ∷ ys) b = (
  (b.0, (inl refl, inl refl)),
  both-weaken (λ x y. R x y × (In x xs × In y ys)) _ xs ys (λ z z' r. (r.0, (inr r.1.0, inr r.1.1)))
      (both-in R xs ys b.1),
)
both-in R [] (y ∷ ys) b = absurd b
both-in R (x ∷ xs) [] b = absurd b

pub both-any : {X Y : Type 0} (R : X → Y → Type 0) (p : X → Bool) (q : Y → Bool) (xs : List X) (ys : List Y)
    → ((x : X) (y : Y) → R x y → p x ≡ q y) → Both R xs ys → list_any p xs ≡ list_any q ys
both-any R p q [] [] h b = refl
both-any R p q (x ∷ xs) (y ∷ ys) h b = λ i. h x y b.0 i || both-any R p q xs ys h b.1 i
both-any R p q [] (y ∷ ys) h b = absurd b
both-any R p q (x ∷ xs) [] h b = absurd b

pub both-filter : {X Y : Type 0} (R : X → Y → Type 0) (p : X → Bool) (q : Y → Bool) (xs : List X) (ys : List Y)
    → ((x : X) (y : Y) → R x y → p x ≡ q y) → Both R xs ys → Both R (filter p xs) (filter q ys)
both-filter R p q [] [] h b = tt
both-filter R p q (x ∷ xs) (y ∷ ys) h b = both-cond (Both R) (p x) (q y) _ _ _ _ (h x y b.0)
    (b.0, both-filter R p q xs ys h b.1) (both-filter R p q xs ys h b.1)
both-filter R p q [] (y ∷ ys) h b = absurd b
both-filter R p q (x ∷ xs) [] h b = absurd b

pub both-find : {X Y : Type 0} (R : X → Y → Type 0) (p : X → Bool) (q : Y → Bool) (xs : List X) (ys : List Y)
    → ((x : X) (y : Y) → R x y → p x ≡ q y) → Both R xs ys → BothSome R (find p xs) (find q ys)
both-find R p q [] [] h b = tt
both-find R p q (x ∷ xs) (y ∷ ys) h b = both-cond (BothSome R) (p x) (q y) _ _ _ _ (h x y b.0) b.0
    (both-find R p q xs ys h b.1)
both-find R p q [] (y ∷ ys) h b = absurd b
both-find R p q (x ∷ xs) [] h b = absurd b

pub both-sum : {X Y : Type 0} (R : X → Y → Type 0) (f : X → ℕ) (g : Y → ℕ) (xs : List X) (ys : List Y)
    → ((x : X) (y : Y) → R x y → f x ≡ g y) → Both R xs ys → sum_by f xs ≡ sum_by g ys
both-sum R f g [] [] h b = refl
both-sum R f g (x ∷ xs) (y ∷ ys) h b =
    sum_by-cons f x xs ∙ (λ i. h x y b.0 i + both-sum R f g xs ys h b.1 i) ∙ sym (sum_by-cons g y ys)
both-sum R f g [] (y ∷ ys) h b = absurd b
both-sum R f g (x ∷ xs) [] h b = absurd b

pub both-append : {X Y : Type 0} (R : X → Y → Type 0) (xs xs' : List X) (ys ys' : List Y) → Both R xs ys
    → Both R xs' ys'
    → Both R (xs ++ xs') (ys ++ ys')
both-append R [] xs' [] ys' b c = c
both-append R (x ∷ xs) xs' (y ∷ ys) ys' b c = (b.0, both-append R xs xs' ys ys' b.1 c)
both-append R [] xs' (y ∷ ys) ys' b c = absurd b
both-append R (x ∷ xs) xs' [] ys' b c = absurd b

pub both-get : {X Y : Type 0} (R : X → Y → Type 0) (xs : List X) (ys : List Y) (k : ℕ) (x : X) (y : Y) → Both R xs ys
    → R x y → R (get_or xs k x) (get_or ys k y)
both-get R [] [] k x y b r = r
both-get R (z ∷ xs) (z' ∷ ys) zero x y b r = b.0
both-get R (z ∷ xs) (z' ∷ ys) (suc k) x y b r = both-get R xs ys k x y b.1 r
both-get R [] (z' ∷ ys) k x y b r = absurd b
both-get R (z ∷ xs) [] k x y b r = absurd b

pub both-set : {X Y : Type 0} (R : X → Y → Type 0) (xs : List X) (ys : List Y) (k : ℕ) (x : X) (y : Y) → Both R xs ys
    → R x y → Both R (set xs k x) (set ys k y)
both-set R [] [] k x y b r = tt
both-set R (z ∷ xs) (z' ∷ ys) zero x y b r = (r, b.1)
both-set R (z ∷ xs) (z' ∷ ys) (suc k) x y b r = (b.0, both-set R xs ys k x y b.1 r)
both-set R [] (z' ∷ ys) k x y b r = absurd b
both-set R (z ∷ xs) [] k x y b r = absurd b

pub both-drop : {X Y : Type 0} (R : X → Y → Type 0) (xs : List X) (ys : List Y) → Both R xs ys
    → Both R (drop 1 xs) (drop 1 ys)
both-drop R [] [] b = tt
both-drop R (x ∷ xs) (y ∷ ys) b = b.1
both-drop R [] (y ∷ ys) b = absurd b
both-drop R (x ∷ xs) [] b = absurd b

pub both-front : {X Y : Type 0} (R : X → Y → Type 0) (xs : List X) (ys : List Y) → Both R xs ys
    → BothSome R (slice_get xs 0) (slice_get ys 0)
both-front R [] [] b = tt
both-front R (x ∷ xs) (y ∷ ys) b = b.0
both-front R [] (y ∷ ys) b = absurd b
both-front R (x ∷ xs) [] b = absurd b

pub both-map : {X Y X' Y' : Type 0} (R : X → Y → Type 0) (S : X' → Y' → Type 0) (f : X → X') (g : Y → Y') (xs : List X)
    (ys : List Y) → ((x : X) (y : Y) → R x y → S (f x) (g y)) → Both R xs ys → Both S (map f xs) (map g ys)
both-map R S f g [] [] h b = tt
both-map R S f g (x ∷ xs) (y ∷ ys) h b = (h x y b.0, both-map R S f g xs ys h b.1)
both-map R S f g [] (y ∷ ys) h b = absurd b
both-map R S f g (x ∷ xs) [] h b = absurd b

pub both-each : {X Y A : Type 0} (R : X → Y → Type 0) (f : A → X) (g : A → Y) (zs : List A) → ((a : A) → R (f a) (g a))
    → Both R (map f zs) (map g zs)
both-each R f g [] h = tt
both-each R f g (a ∷ zs) h = (h a, both-each R f g zs h)

pub both-held : (R : HeldEntry → HeldEntry → Type 0) (c d : Content) → Both (Both R) c d
    → Both R (all_held c) (all_held d)
both-held R [] [] b = tt
both-held R (l ∷ c) (k ∷ d) b = both-append R l (all_held c) k (all_held d) b.0 (both-held R c d b.1)
both-held R [] (k ∷ d) b = absurd b
both-held R (l ∷ c) [] b = absurd b

-- with where each stands
pub both-within : (R : HeldEntry → HeldEntry → Type 0) (c d : Content) → Both (Both R) c d
    → Both (Both (λ x y. R x y × (In x (all_held c) × In y (all_held d)))) c d
both-within R [] [] b = tt
both-within R (l ∷ c) (k ∷ d) b = (
  both-weaken (λ x y. R x y × (In x l × In y k)) _ l k
      (λ x y r. (r.0, (In-left x l (all_held c) r.1.0, In-left y k (all_held d) r.1.1))) (both-in R l k b.0),
  both-weaken (Both (λ x y. R x y × (In x (all_held c) × In y (all_held d)))) _ c d
      (λ us vs r. both-weaken (λ x y. R x y × (In x (all_held c) × In y (all_held d))) _ us vs
      (λ x y q. (q.0, (In-right x l (all_held c) q.1.0, In-right y k (all_held d) q.1.1))) r)
      (both-within R c d b.1),
)
both-within R [] (k ∷ d) b = absurd b
both-within R (l ∷ c) [] b = absurd b

-- ---- one value

pub both-pass : {X Y : Type 0} (R : X → Y → Type 0) (f : Option X → Bool) (g : Option Y → Bool) (o : Option X)
    (p : Option Y) → f None ≡ g None → ((x : X) (y : Y) → R x y → f (Some x) ≡ g (Some y)) → BothSome R o p → f o ≡ g p
both-pass R f g None None none some b = none
both-pass R f g (Some x) (Some y) none some b = some x y b
both-pass R f g None (Some y) none some b = absurd b
both-pass R f g (Some x) None none some b = absurd b
