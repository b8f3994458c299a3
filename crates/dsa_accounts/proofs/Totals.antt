-- What the totals of a history say of its names, of its fate rows and of what is held.
use Rattle.dsa_book.specs.declared.fate.Fate.TheVariants as fate
use Rattle.std.proofs.Common.{◌≡◌, ℕ, ◌+◌, ◌≤◌, cond, List, [], ◌∷◌, length, Some, Option, sum_by, refl, sym, ap, ◌∙◌}
use Rattle.std.proofs.{Common.{arith, add-zero, zero-add}, lemmas.List.Sums.{sum_by-cons}}
use Rattle.std.specs.Prelude.{⊤, filter}
use Rattle.dsa_regs.specs.declared.Caps.{Caps}
use Rattle.dsa_store.specs.Content.{all_held, held_count}
use Rattle.dsa_book.proofs.{Gains.{named_by, ended_by}, Replay.{replay-adds}}
use Rattle.dsa_book.specs.Totals.{is_accepted, is_fetched, is_done, lost_by, total_accepted}
use Rattle.dsa_book.specs.declared.answer.Reply.{Reply, TheVariants.{Submit, Fetch, Start, Finish, Issue}}
use Rattle.dsa_book.specs.declared.answer.{FetchAnswer.TheVariants.{Fetched}, FinishAnswer.TheVariants.{Done}}
use Rattle.dsa_book.specs.declared.answer.{SubmitAnswer.TheVariants.{Accepted}, StartAnswer.TheVariants.{Abandoned}}
use Rattle.dsa_book.specs.declared.{answer.IssueAnswer.TheVariants.{Ended}, event.{Event.{Event}, Step.{Step}}}
use Rattle.dsa_book.specs.{State.{State, opening}, Commands.{is_in_scope}, Machine.{next, replay}}
use Rattle.dsa_book.specs.{Totals.{total_fetched, total_done, total_lost}, Work.{last_status, members}}
use Rattle.dsa_accounts.proofs.Accounts.{parts}
use Rattle.dsa_laws.proofs.{Effects.{by_count, came, gone}, Histories.{replay-well_formed}, Changes.{next-tells}}
use Rattle.dsa_laws.{proofs.Flows.{length-rows}, specs.Change.{Change}}

-- the name that comes next
abbrev pub name_of : State → ℕ
name_of s = s.work.setup.next_name

abbrev rows_of : State → ℕ
rows_of s = length s.work.fates

-- ---- one step

-- what comes in takes the next name
change-names : (s s' : State) (c : Change s s') → name_of s' ≡ name_of s + length (came c)
change-names s s' c =
    let same = sym (add-zero (name_of s)) in
    by_count (λ xs n w. w.setup.next_name ≡ name_of s + length xs) s s' c
    (λ e. e.names ∙ same) (λ c. refl) (λ c. same) (λ c. refl) (λ c. same) (λ c. same) (λ c. same) (λ c. c.names ∙ same)

-- and what is gone leaves a row
change-rows : (s s' : State) (c : Change s s') → rows_of s' ≡ rows_of s + gone c
change-rows s s' c =
    let same = sym (add-zero (rows_of s)) in
    let rows = length-rows s.work.fates in
    by_count (λ xs n w. length w.fates ≡ rows_of s + n) s s' c
    (λ e. ap length e.fates ∙ same) (λ c. same) (λ c. same) (λ c. same) (λ c. same)
    (λ c. rows fate.Abandoned (members s.work c.engine))
    (λ c. rows (fate.Completed (last_status s.work c.engine c.pair c.outcome)) (c.pair ∷ []))
    (λ c. rows (fate.Aborted c.number) (filter (λ pair. is_in_scope c.scope pair.1) (all_held s.work.content)))

named_by-is : (r : Reply) → named_by r ≡ cond (is_accepted r) 1 0 + cond (is_fetched r) 1 0
named_by-is (Submit (Accepted t)) = refl
named_by-is (Fetch (Fetched t)) = refl
named_by-is _ = refl

ended_by-is : (r : Reply) → ended_by r ≡ cond (is_done r) 1 0 + lost_by r
ended_by-is (Finish (Done status)) = refl
ended_by-is (Start (Abandoned k)) = sym (zero-add k)
ended_by-is (Issue (Ended aborted)) = sym (zero-add aborted)
ended_by-is _ = refl

-- each step gives as many names as its reply says
pub next-names : (s s' : State) (event : Event) (reply : Reply) → next s event reply ≡ Some s'
    → name_of s' ≡ name_of s + named_by reply
next-names s s' event reply h =
    let told = next-tells s s' event reply h in
    omega (
      arith,
      change-names s s' told.change,
      named_by-is reply,
      told.accepted,
      told.fetched,
      parts (λ (o : Option ℕ). o) (came told.change),
    )

-- and as many fate rows
next-rows : (s s' : State) (event : Event) (reply : Reply) → next s event reply ≡ Some s'
    → rows_of s' ≡ rows_of s + ended_by reply
next-rows s s' event reply h =
    let told = next-tells s s' event reply h in
    change-rows s s' told.change ∙ ap (λ n. rows_of s + n) (sym told.ended)

-- ---- any history

-- what each step adds in two parts
parts-added : (f g h : Reply → ℕ) → ((r : Reply) → f r ≡ g r + h r) → (steps : List Step)
    → sum_by (λ step. f step.reply) steps ≡ sum_by (λ step. g step.reply) steps + sum_by (λ step. h step.reply) steps
parts-added f g h is [] = refl
parts-added f g h is (x ∷ steps) = omega (arith, is x.reply, parts-added f g h is steps, sum_by-cons)

named_total : (h : List Step) → sum_by (λ step. named_by step.reply) h ≡ total_accepted h + total_fetched h
named_total = parts-added named_by (λ r. cond (is_accepted r) 1 0) (λ r. cond (is_fetched r) 1 0) named_by-is

pub replay-names : (caps : Caps) (h : List Step) (s : State) → replay caps h ≡ Some s
    → total_accepted h + total_fetched h ≡ name_of s
replay-names caps h s e =
    let all = replay-adds (λ s. ⊤) name_of named_by (λ s s' x p n. (tt, next-names s s' x.event x.reply n)) h
    (opening caps) s tt e in
    omega (arith, all, named_total h)

pub replay-rows : (caps : Caps) (h : List Step) (s : State) → replay caps h ≡ Some s
    → total_done h + total_lost h ≡ rows_of s
replay-rows caps h s e =
    let all = replay-adds (λ s. ⊤) rows_of ended_by (λ s s' x p n. (tt, next-rows s s' x.event x.reply n)) h
    (opening caps) s tt e in
    omega (arith, all, parts-added ended_by (λ r. cond (is_done r) 1 0) lost_by ended_by-is h)

-- names are held or have a row
pub replay-held : (caps : Caps) (h : List Step) (s : State) → replay caps h ≡ Some s
    → total_accepted h + total_fetched h ≡ total_done h + total_lost h + held_count s.work.content
replay-held caps h s e =
    omega (arith, replay-names caps h s e, replay-rows caps h s e, (replay-well_formed caps h s e).names.counted)

named-one : (r : Reply) → named_by r ≤ 1
named-one (Submit (Accepted t)) = omega arith
named-one (Fetch (Fetched t)) = omega arith
named-one _ = omega arith

named-le : (h : List Step) → sum_by (λ step. named_by step.reply) h ≤ length h
named-le [] = omega arith
named-le (x ∷ h) = omega (arith, named-one x.reply, named-le h, sum_by-cons)

-- no step gives two names
pub replay-names-le : (caps : Caps) (h : List Step) (s : State) → replay caps h ≡ Some s → name_of s ≤ length h
replay-names-le caps h s e = omega (arith, replay-names caps h s e, named_total h, named-le h)
