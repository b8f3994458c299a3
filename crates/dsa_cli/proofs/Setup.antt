-- What the receipts of the steps that set a device up tell of their answers.
use Rattle.dsa_book.specs.declared.answer.Reply.TheVariants as reply
use Rattle.std.proofs.Common.{◌≡◌, ◌+◌, ◌≤◌, Bool, true, false, cond, List, [], ◌∷◌, ◌++◌, length}
use Rattle.std.proofs.Common.{drop, get_or}
use Rattle.std.proofs.Common.{refl, sym, ap, ◌∙◌, arith, length-append}
use Rattle.std.proofs.lemmas.List.{length_push, drop_at}
use Rattle.dsa_book.specs.declared.answer.IssueAnswer.{IssueAnswer, TheVariants.{Ended}}
use Rattle.dsa_book.specs.declared.answer.Reply.{Reply}
use Rattle.dsa_book.specs.declared.answer.WriteAnswer.{WriteAnswer, TheVariants.{Written}}
use Rattle.dsa_book.specs.declared.event.{Event.{Event}, Step.{Step}}
use Rattle.dsa_book.specs.Machine.{is_stored}
use Rattle.dsa_shared.specs.Seat.{with_step}
use Rattle.dsa_cli.specs.{declared.options.Workload.{Workload}, Threads.{setup_steps}}

-- a list with one more step, or without it
abbrev pushed : Bool → List Step → Step → List Step
pushed b steps step = cond b (steps ++ step ∷ []) steps

long : (b : Bool) (steps : List Step) (step : Step) → length (pushed b steps step) ≤ length steps + 1
long true steps step = let l = length_push steps step in omega (arith, l)
long false steps step = omega arith

-- one that has grown by a step has that step
has : (b : Bool) (steps : List Step) (step : Step) → length steps + 1 ≤ length (pushed b steps step) → b ≡ true
has true steps step h = refl
has false steps step h = absurd (omega (arith, h))

joined : (old : List Step) (w x y z : Step)
    → (((old ++ w ∷ []) ++ x ∷ []) ++ y ∷ []) ++ z ∷ [] ≡ old ++ w ∷ x ∷ y ∷ z ∷ []
joined [] w x y z = refl
joined (step ∷ old) w x y z = ap (λ (l : List Step). step ∷ l) (joined old w x y z)

-- where four steps have made a list longer by four, each of them is there
all_there : (b c d e : Bool) (old : List Step) (w x y z : Step)
    → length (pushed e (pushed d (pushed c (pushed b old w) x) y) z) ≡ length old + 4
    → pushed e (pushed d (pushed c (pushed b old w) x) y) z ≡ old ++ w ∷ x ∷ y ∷ z ∷ []
all_there b c d e old w x y z h =
    let one = long b old w in
    let two = long c (pushed b old w) x in
    let three = long d (pushed c (pushed b old w) x) y in
    let four = long e (pushed d (pushed c (pushed b old w) x) y) z in
    go b c d e (has b old w (omega (arith, h, two, three, four)))
    (has c (pushed b old w) x (omega (arith, h, one, three, four)))
    (has d (pushed c (pushed b old w) x) y (omega (arith, h, one, two, four)))
    (has e (pushed d (pushed c (pushed b old w) x) y) z (omega (arith, h, one, two, three)))
  where
    go : (b c d e : Bool) → b ≡ true → c ≡ true → d ≡ true → e ≡ true
        → pushed e (pushed d (pushed c (pushed b old w) x) y) z ≡ old ++ w ∷ x ∷ y ∷ z ∷ []
    go true true true true p q r s = joined old w x y z
    go _ _ _ _ p q r s = absurd cc

abbrev write_of : Reply → WriteAnswer
write_of (reply.Write answer) = answer
write_of _ = Written

abbrev issue_of : Reply → IssueAnswer
issue_of (reply.Issue answer) = answer
issue_of _ = Ended 0

-- where the receipts of four steps are those of the set-up, each of its steps was done
pub were_done : (load : Workload) (old : List Step) (e f g h : Event) (a b : WriteAnswer) (c d : IssueAnswer)
    (one two three four : List Step) → one ≡ with_step old e (reply.Write a) → two ≡ with_step one f (reply.Write b)
    → three ≡ with_step two g (reply.Issue c) → four ≡ with_step three h (reply.Issue d)
    → four ≡ old ++ setup_steps load
    → (a ≡ Written) × (b ≡ Written) × (c ≡ Ended 0) × (d ≡ Ended 0)
were_done load old e f g h a b c d one two three four p q r s is =
    let w : Step = record { event = e; reply = reply.Write a } in
    let x : Step = record { event = f; reply = reply.Write b } in
    let y : Step = record { event = g; reply = reply.Issue c } in
    let z : Step = record { event = h; reply = reply.Issue d } in
    let second = q ∙ ap (λ (l : List Step). with_step l f (reply.Write b)) p in
    let third = r ∙ ap (λ (l : List Step). with_step l g (reply.Issue c)) second in
    let whole = sym (s ∙ ap (λ (l : List Step). with_step l h (reply.Issue d)) third) ∙ is in
    let len = ap (λ (l : List Step). length l) whole ∙ length-append old (setup_steps load) in
    let there = all_there (is_stored (reply.Write a)) (is_stored (reply.Write b)) (is_stored (reply.Issue c))
    (is_stored (reply.Issue d)) old w x y z len in
    let same : ◌≡◌ {A = List Step} (w ∷ x ∷ y ∷ z ∷ []) (setup_steps load) =
    sym (drop_at old (w ∷ x ∷ y ∷ z ∷ []) (length old) refl)
    ∙ ap (λ (l : List Step). drop (length old) l) (sym there ∙ whole)
    ∙ drop_at old (setup_steps load) (length old) refl in (
      ap (λ (l : List Step). write_of (get_or l 0 w).reply) same,
      ap (λ (l : List Step). write_of (get_or l 1 w).reply) same,
      ap (λ (l : List Step). issue_of (get_or l 2 w).reply) same,
      ap (λ (l : List Step). issue_of (get_or l 3 w).reply) same,
    )
