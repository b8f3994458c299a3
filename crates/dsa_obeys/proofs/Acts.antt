-- An administrator that acts in order: what it does next, and where it stands behind an answer.
use Rattle.std.proofs.Common.{◌≡◌, ℕ, zero, suc, ◌+◌, ◌<◌, ◌≤◌, Bool, true, false, cond, not, List, [], ◌∷◌}
use Rattle.std.proofs.Common.{length, slice_get, Some, None, refl, sym, ap, ◌∙◌, subst, ⊎_elim, arith, nat_lt, nat_le}
use Rattle.std.specs.Prelude.{option_and_then}
use Rattle.std.proofs.lemmas.{Bool.{and_parts, and_from, cases_lt, ltb-true, leb-true, lt-ltb, le-leb}}
use Rattle.std.proofs.lemmas.{Bool.{false_from_ne_true, eqb-true}, Option.{same_Some}}
use Rattle.dsa_base.specs.{Rows.{passes}}
use Rattle.dsa_regs.specs.declared.Fault.{TheVariants.{Busy}}
use Rattle.dsa_book.specs.declared.answer.Reply.{Reply}
use Rattle.dsa_book.specs.declared.answer.Reply.TheVariants as reply
use Rattle.dsa_book.specs.declared.answer.PollAnswer.{PollAnswer}
use Rattle.dsa_book.specs.declared.answer.PollAnswer.TheVariants as poll
use Rattle.dsa_book.specs.declared.answer.{IssueAnswer.{TheVariants.{Refused}}}
use Rattle.dsa_keys.proofs.Known.{same-tests}
use Rattle.dsa_parties.specs.declared.places.ClientPlace.{ClientPlace}
use Rattle.dsa_parties.specs.declared.script.{Part.{Part}, Script.{Script}}
use Rattle.dsa_parties.specs.declared.script.Act.{Act, TheVariants.{Issue, Poll}}
use Rattle.dsa_parties.specs.declared.script.Until.{Until, TheVariants.{Once, Finished, Over}}
use Rattle.dsa_parties.specs.{Scripts.{are_parts}}
use Rattle.dsa_parties.specs.{Standing.{next_in, next_act, act_of, ends_polling, is_through, act_after}}
use Rattle.dsa_parties.proofs.Stands.{first-part}
use Rattle.dsa_obeys.specs.Obeys.{LogLine, is_of_number, is_within_part, to_do, polls_again, asks_again, do_in_order}
use Rattle.dsa_obeys.proofs.{Filters.{none-below, first-below, some-at}, Submissions.{part_from}}

-- ---- the parts of acts

pub acts-parts : (script : Script) → are_parts 0 (length script.acts.items) script.administrators.items ≡ true
acts-parts script = (and_parts _ _ (and_parts _ _ (and_parts _ _ (and_parts _ _ (and_parts _ _ script.fits).0).0).0).0).1

part-ends : (from end : ℕ) (parts : List Part) → are_parts from end parts ≡ true → from ≤ end
part-ends from end [] h = omega (arith, eqb-true from end h)
part-ends from end (part ∷ parts) h =
    let p = first-part from end part parts h in
    omega (arith, p.rises, part-ends part.end end parts p.rest)

pub part-within : (from end : ℕ) (parts : List Part) (a : ℕ) (part : Part) → are_parts from end parts ≡ true
    → slice_get parts a ≡ Some part → part.end ≤ end
part-within from end [] a part h e = absurd cc
part-within from end (x ∷ parts) zero part h e =
    let p = first-part from end x parts h in
    subst (λ (z : Part). z.end ≤ end) (same_Some x part e) (part-ends x.end end parts p.rest)
part-within from end (x ∷ parts) (suc a) part h e =
    part-within x.end end parts a part (first-part from end x parts h).rest e

-- ---- the numbers that are left

none-to_do : (acts : List Act) (part : Part) → part.end ≤ part.first → to_do acts part ≡ []
none-to_do acts part l = none-below (is_within_part part) (length acts)
    (λ n below. false_from_ne_true _ (λ t.
    let p = and_parts (nat_le part.first n) (nat_lt n part.end) t in
    omega (arith, l, leb-true part.first n p.0, ltb-true n part.end p.1)))

pub first-to_do : (acts : List Act) (next : ℕ) (part : Part) → next < part.end → part.end ≤ length acts
    → to_do acts (part_from next part) ≡ next ∷ to_do acts (part_from (next + 1) part)
first-to_do acts next part below within = first-below
    (is_within_part (part_from next part)) (is_within_part (part_from (next + 1) part)) next (length acts)
    (omega (arith, below, within))
    (and_from _ _ (le-leb next next (omega arith)) (lt-ltb next part.end below))
    (λ k l. false_from_ne_true _ (λ t. omega (arith, l, leb-true next k (and_parts _ _ t).0)))
    (λ k l. false_from_ne_true _ (λ t. omega (arith, l, leb-true (next + 1) k (and_parts _ _ t).0)))
    (λ k l. same-tests _ _
    (λ t. and_from _ _ (le-leb (next + 1) k (omega (arith, l))) (and_parts _ _ t).1)
    (λ t. and_from _ _ (le-leb next k (omega (arith, l))) (and_parts _ _ t).1))

-- ---- again or not

poll-over : (until : Until) (answer : PollAnswer) → ends_polling until answer ≡ not (polls_again until answer)
poll-over Once answer = refl
poll-over Finished poll.Finished = refl
poll-over Finished answer = refl
poll-over Over poll.Finished = refl
poll-over Over poll.Nothing = refl
poll-over Over answer = refl

pub through-not : (reply : Reply) (act : Act) → is_through reply act ≡ not (asks_again act reply)
through-not (reply.Issue (Refused Busy)) (Issue command true) = refl
through-not (reply.Issue answer) (Issue command true) = refl
through-not (reply.Issue answer) (Issue command false) = refl
through-not (reply.Poll answer) (Poll until) = poll-over until answer
through-not reply (Issue command true) = refl
through-not reply (Issue command false) = refl
through-not reply (Poll until) = refl
through-not reply act = refl

-- ---- an act

-- the administrator does the line's act next
pub record HasAct (script : Script) (part : Part) (next : ℕ) (line : LogLine) (lines : List LogLine) : Type 0 where
  pub act : Act
  pub at_act : slice_get script.acts.items next ≡ Some act
  pub below : next < part.end
  pub about : is_of_number next line.doer ≡ true
  pub rest : do_in_order script.acts.items
      (to_do script.acts.items (part_from (act_after line.step.reply next act) part)) lines ≡ true

module _ (script : Script) (administrators : List ℕ) (a : ℕ) (part : Part) (next : ℕ)
    (at_part : slice_get script.administrators.items a ≡ Some part) (at_next : slice_get administrators a ≡ Some next)
    (line : LogLine) (lines : List LogLine)
    (order : do_in_order script.acts.items (to_do script.acts.items (part_from next part)) (line ∷ lines) ≡ true) where
  abbrev acts : List Act
  acts = script.acts.items

  pub has-act : HasAct script part next line lines
  has-act = ⊎_elim
      (λ below.
      let x = some-at acts next (omega (arith, below, within)) in
      found below x.0 x.1)
      (λ past. absurd (none (none-to_do acts (part_from next part) past)))
      (cases_lt next part.end)
    where
      within : part.end ≤ length acts
      within = part-within 0 (length acts) script.administrators.items a part (acts-parts script) at_part

      none : to_do acts (part_from next part) ≡ [] → ⊥
      none e =
          let no : false ≡ true = sym (ap (λ left. do_in_order acts left (line ∷ lines)) e) ∙ order in
          absurd cc

      found : next < part.end → (act : Act) → slice_get acts next ≡ Some act → HasAct script part next line lines
      found below act at =
          let whole = first-to_do acts next part below within in
          let p = and_parts _ _ (subst (λ left. do_in_order acts left (line ∷ lines) ≡ true) whole order) in
          record {
            act = act;
            at_act = at;
            below = below;
            about = p.0;
            rest = by-answer whole (asks_again act line.step.reply) (is_through line.step.reply act)
                (through-not line.step.reply act)
                (subst (λ b. do_in_order acts
                (cond b (next ∷ to_do acts (part_from (next + 1) part)) (to_do acts (part_from (next + 1) part))) lines
                ≡ true)
                (ap (passes (λ act. asks_again act line.step.reply)) at) p.1);
          }
        where
          by-answer : to_do acts (part_from next part) ≡ next ∷ to_do acts (part_from (next + 1) part)
              → (again through : Bool) → through ≡ not again
              → do_in_order acts (cond again (next ∷ to_do acts (part_from (next + 1) part))
              (to_do acts (part_from (next + 1) part))) lines ≡ true
              → do_in_order acts (to_do acts (part_from (cond through (next + 1) next) part)) lines ≡ true
          by-answer whole true through e h = subst
              (λ b. do_in_order acts (to_do acts (part_from (cond b (next + 1) next) part)) lines ≡ true) (sym e)
              (subst (λ left. do_in_order acts left lines ≡ true) (sym whole) h)
          by-answer whole false through e h = subst
              (λ b. do_in_order acts (to_do acts (part_from (cond b (next + 1) next) part)) lines ≡ true) (sym e) h

  module _ (t : HasAct script part next line lines) where
    pub next-is : (clients : List ClientPlace) (came : List Bool)
        → next_act script (record { clients = clients; administrators = administrators; came = came }) a ≡ Some next
    next-is clients came =
        ap (option_and_then (λ part. option_and_then (next_in part) (slice_get administrators a))) at_part
        ∙ ap (option_and_then (next_in part)) at_next
        ∙ ap (λ b. cond b (Some next) None) (lt-ltb next part.end t.below)

    pub act-is : (clients : List ClientPlace) (came : List Bool)
        → act_of script (record { clients = clients; administrators = administrators; came = came }) a ≡ Some t.act
    act-is clients came = ap (option_and_then (slice_get acts)) (next-is clients came) ∙ t.at_act
