-- From lanes to the seats that come back and to the report.
use Rattle.std.proofs.Common.{◌≡◌, sym, ap, subst, refl, ◌∙◌, ℕ, zero, suc, ◌+◌, ◌<◌, List, [], ◌∷◌, ◌++◌, length}
use Rattle.std.proofs.Common.{map, get_or, append-nil, arith}
use Rattle.std.proofs.lemmas.List.{length-map, length-append, map-append, get_or-append-add}
use Rattle.dsa_workers.specs.declared.scripts.{Stint.{Stint}, WorkerEnd.{WorkerEnd, TheVariants.{TurnsOut}}}
use Rattle.dsa_workers.specs.declared.lanes.Lane.{Lane}
use Rattle.dsa_workers.specs.Workers.{RunsAdmin}
use Rattle.dsa_regs.specs.declared.{Caps.{Caps}, Command.{Command}}
use Rattle.dsa_book.specs.declared.event.Step.{Step}
use mathlib.Core.List.{append_assoc}

abbrev pub turns_of : {T Z : Type 0} → List (Lane T Z) → List ℕ
turns_of lanes = map (λ l. l.stint.turns) lanes

abbrev pub ends_of : {T Z : Type 0} → List (Lane T Z) → List WorkerEnd
ends_of lanes = map (λ l. l.stint.ended) lanes

-- an element before others, by a function
get_mapped : {T A : Type 0} (f : T → A) (xs : List T) (rest : List A) (k : ℕ) (e : T) (d : A) → k < length xs
    → get_or (map f xs ++ rest) k d ≡ f (get_or xs k e)
get_mapped f [] rest k e d lt = absurd (omega arith)
get_mapped f (x ∷ xs) rest zero e d lt = refl
get_mapped f (x ∷ xs) rest (suc k) e d lt = get_mapped f xs rest k e d (omega arith)

-- an element of the second of three parts
get_middle : {T A : Type 0} (f : T → A) (whole before : List A) (xs : List T) (rest : List A) (first k : ℕ) (e : T)
    (d : A)
    → whole ≡ before ++ (map f xs ++ rest) → length before ≡ first → k < length xs
    → get_or whole (first + k) d ≡ f (get_or xs k e)
get_middle f whole before xs rest first k e d w n lt =
    ap (λ z. get_or z (first + k) d) w ∙ ap (λ z. get_or (before ++ (map f xs ++ rest)) (z + k) d) (sym n)
    ∙ get_or-append-add before (map f xs ++ rest) k d ∙ get_mapped f xs rest k e d lt

-- the element behind two parts
pub get_last : {A : Type 0} (whole a b : List A) (x : A) (m n : ℕ) (d : A) → whole ≡ a ++ (b ++ x ∷ [])
    → length a ≡ m → length b ≡ n → get_or whole (m + n) d ≡ x
get_last whole a b x m n d w p q =
    ap (λ z. get_or z (m + n) d) w ∙ ap (λ z. get_or (a ++ (b ++ x ∷ [])) (z + n) d) (sym p)
    ∙ get_or-append-add a (b ++ x ∷ []) n d
    ∙ ap (λ z. get_or (b ++ x ∷ []) z d) (sym q ∙ add_zero (length b)) ∙ get_or-append-add b (x ∷ []) 0 d
  where
    add_zero : (k : ℕ) → k ≡ k + 0
    add_zero k = omega arith

-- what holds of each lane holds of the seat that it gives back and of its stint
lift : {T Z : Type 0} (Q : ℕ → T → T → Stint → Type 0) (before after : List (Lane T Z)) → length after ≡ length before
    → ((k : ℕ) (d : Lane T Z) → k < length before
    → Q k (get_or before k d).seat (get_or after k d).seat (get_or after k d).stint)
    → (k : ℕ) (d : T) (e : Lane T Z) → k < length before
    → Q k (get_or (map (λ l. l.seat) before) k d) (get_or (map (λ l. l.seat) after) k d) (get_or after k e).stint
lift Q [] after len f k d e lt = absurd (omega arith)
lift Q (x ∷ xs) [] len f k d e lt = absurd (omega arith)
lift Q (x ∷ xs) (y ∷ ys) len f zero d e lt = f zero e lt
lift Q (x ∷ xs) (y ∷ ys) len f (suc k) d e lt =
    lift (λ n. Q (suc n)) xs ys (omega arith) (λ n b below. f (suc n) b (omega arith)) k d e (omega arith)

some_lane : {T Z : Type 0} (lanes : List (Lane T Z)) (k : ℕ) → k < length lanes → Lane T Z
some_lane [] k lt = absurd (omega arith)
some_lane (x ∷ xs) k lt = x

-- what holds of each lane holds of the seats that were lent, of those that came back and of the report
pub runs_back : {T Z : Type 0} (Q : ℕ → T → T → Stint
    → Type 0) (before after : List (Lane T Z)) (old new : List T) (turns : List ℕ) (ends : List WorkerEnd)
    (turns_before turns_after : List ℕ) (ends_before ends_after : List WorkerEnd) (first : ℕ)
    → map (λ l. l.seat) before ≡ old → new ≡ map (λ l. l.seat) after → length after ≡ length before
    → turns ≡ turns_before ++ (turns_of after ++ turns_after) → ends ≡ ends_before ++ (ends_of after ++ ends_after)
    → length turns_before ≡ first → length ends_before ≡ first
    → ((k : ℕ) (d : Lane T Z) → k < length before
    → Q k (get_or before k d).seat (get_or after k d).seat (get_or after k d).stint)
    → (k at : ℕ) (d : T) → at ≡ first + k → k < length old
    → Q k (get_or old k d) (get_or new k d) (record { turns = get_or turns at 0; ended = get_or ends at TurnsOut })
runs_back {T} {Z} Q before after old new turns ends tb ta eb ea first was now len ts es nt ne f k at d there_at lt =
    let many : length (map (λ (l : Lane T Z). l.seat) before) ≡ length before =
    length-map before (λ (l : Lane T Z). l.seat) in
    let same = ap length was in
    let below : k < length before = omega arith in
    let e : Lane T Z = some_lane before k below in
    let there : k < length after = omega arith in
    let t : get_or turns at 0 ≡ (get_or after k e).stint.turns = ap (λ z. get_or turns z 0) there_at
    ∙ get_middle (λ l. l.stint.turns) turns tb after ta first k e 0 ts nt there in
    let u : get_or ends at TurnsOut ≡ (get_or after k e).stint.ended = ap (λ z. get_or ends z TurnsOut) there_at
    ∙ get_middle (λ l. l.stint.ended) ends eb after ea first k e TurnsOut es ne there in
    let base : Q k (get_or (map (λ l. l.seat) before) k d) (get_or (map (λ l. l.seat) after) k d)
    (get_or after k e).stint = lift Q before after len f k d e below in
    let P : List T → Type 0 = λ o. Q k (get_or o k d) (get_or (map (λ l. l.seat) after) k d) (get_or after k e).stint in
    let N : List T → Type 0 = λ n. Q k (get_or old k d) (get_or n k d) (get_or after k e).stint in
    let A : ℕ → Type 0 = λ n. Q k (get_or old k d) (get_or new k d)
    (record { turns = n; ended = (get_or after k e).stint.ended }) in
    let B : WorkerEnd → Type 0 = λ n. Q k (get_or old k d) (get_or new k d)
    (record { turns = get_or turns at 0; ended = n }) in
    subst B (sym u) (subst A (sym t) (subst N (sym now) (subst P was base)))

-- a report that was filled in three goes
pub in_three : {A : Type 0} (none one two whole a b : List A) (x : A) → length none ≡ 0 → one ≡ none ++ a
    → two ≡ one ++ b → whole ≡ two ++ x ∷ [] → whole ≡ a ++ (b ++ x ∷ [])
in_three [] one two whole a b x n o t w = w ∙ ap (λ z. z ++ x ∷ []) (t ∙ ap (λ z. z ++ b) o) ∙ append_assoc a b (x ∷ [])
in_three (y ∷ none) one two whole a b x n o t w = absurd cc

pub length_parts : {A : Type 0} (whole a b : List A) (x : A) (m n : ℕ) → whole ≡ a ++ (b ++ x ∷ []) → length a ≡ m
    → length b ≡ n → length whole ≡ m + n + 1
length_parts whole a b x m n w p q =
    let all = ap (λ z. length z) w ∙ length-append a (b ++ x ∷ []) in
    let rest = length-append b (x ∷ []) in
    omega (arith, all, rest, p, q)

-- there are as many lanes as seats that were lent
pub lanes_left : {T Z : Type 0} (now loaded : List (Lane T Z)) (seats : List T) (n : ℕ)
    → length now ≡ length loaded → map (λ l. l.seat) loaded ≡ seats → length seats ≡ n → length now ≡ n
lanes_left {T} {Z} now loaded seats n same lent count =
    same ∙ sym (length-map loaded (λ (l : Lane T Z). l.seat)) ∙ ap (λ z. length z) lent ∙ count

-- what the administrator's worker did, by what the report says
pub stint_same : (caps : Caps) (capacity : ℕ) (script : List Command) (limit : ℕ) (old new : List Step) (stint : Stint)
    (turns : ℕ) (ended : WorkerEnd) → turns ≡ stint.turns → ended ≡ stint.ended
    → RunsAdmin caps capacity script limit old new stint
    → RunsAdmin caps capacity script limit old new (record { turns = turns; ended = ended })
stint_same caps capacity script limit old new stint turns ended t u r = rw (t, u) r

-- there are as many lanes as seats in them
pub lent : {T Z : Type 0} (lanes : List (Lane T Z)) (seats : List T) (m n : ℕ) → m ≡ length lanes
    → n ≡ length seats → map (λ l. l.seat) lanes ≡ seats → m ≡ n
lent {T} {Z} lanes seats m n p q is =
    p ∙ sym (length-map lanes (λ (l : Lane T Z). l.seat)) ∙ ap (λ z. length z) is ∙ sym q

-- a part of the report has grown by an element for each lane
pub noted : {T A : Type 0} (f : T → A) (new old : List A) (lanes : List T) (m n k : ℕ) → m ≡ length new
    → n ≡ length old → k ≡ length lanes → new ≡ old ++ map f lanes → m ≡ n + k
noted f new old lanes m n k p q r is =
    let all = ap (λ z. length z) is ∙ length-append old (map f lanes) in
    let many = length-map lanes f in
    omega (arith, all, many, p, q, r)

-- an iterator that is through has given all
pub given_all : {A : Type 0} (given rest all : List A) (n : ℕ) → given ++ rest ≡ all → n ≡ length rest → n ≡ 0
    → given ≡ all
given_all given [] all n is len none = sym (append-nil given) ∙ is
given_all given (x ∷ rest) all n is len none = absurd (omega (arith, len, none))

-- a list that has an element for each given one, once another is given
pub map_grown : {T A : Type 0} (f : T → A) (new now old : List A) (given : List T) (x : T) → new ≡ now ++ f x ∷ []
    → now ≡ old ++ map f given → new ≡ old ++ map f (given ++ x ∷ [])
map_grown f new now old given x pushed is =
    pushed ∙ ap (λ z. z ++ f x ∷ []) is ∙ append_assoc old (map f given) (f x ∷ [])
    ∙ ap (λ z. old ++ z) (sym (map-append f given (x ∷ [])))
