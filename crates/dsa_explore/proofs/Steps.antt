-- Steps of worlds with equal keys tell the same.
use Rattle.dsa_book.specs.declared.answer.Reply.TheVariants as reply
use Rattle.dsa_book.specs.declared.answer.IssueAnswer.TheVariants as issue
use Rattle.std.proofs.Common.{◌≡◌, List, [], ◌∷◌, ◌++◌, Option, Some, None, refl, sym, ap, ◌∙◌, subst, map, drop}
use Rattle.std.proofs.Common.{length}
use Rattle.std.{specs.Prelude.{option_map, option_and_then, unwrap_or}, proofs.lemmas.List.{drop_at}}
use Rattle.std.proofs.Common.{Bool}
use Rattle.dsa_regs.specs.declared.Caps.{Caps}
use Rattle.dsa_book.specs.declared.{answer.Reply.{Reply}, fate.FateRow.{FateRow}}
use Rattle.dsa_book.specs.declared.answer.{SubmitAnswer.TheVariants.{Accepted}, DispatchAnswer.TheVariants.{Taken}}
use Rattle.dsa_book.specs.declared.answer.{FetchAnswer.TheVariants.{Fetched}, StartAnswer.TheVariants.{Started}}
use Rattle.dsa_book.specs.State.{State}
use Rattle.dsa_answers.specs.Alike.{TakeAlike}
use Rattle.dsa_keys.specs.Labels.{Labels, labelled_reply, HaveSameEnds}
use Rattle.dsa_keys.specs.Steps.{next_by_label}
use Rattle.dsa_keys.specs.Parties.{Parties, World, Offer, AreLawful, IsGoodWorld, HaveEqualKeys, HasSameMove, offer_at}
use Rattle.dsa_keys.specs.Parties.{labels_for, world_with, world_after_offer, world_after}
use Rattle.dsa_keys.proofs.SameSteps.{keys-determine}
use Rattle.dsa_keys.specs.Key.{key}
use Rattle.dsa_keys.specs.Labels.{labelled_row}
use Rattle.dsa_explore.specs.declared.found.Ask.{Ask, TheVariants.{Submission, Act}}
use Rattle.dsa_explore.specs.declared.found.Finding.{TheVariants.{Answer}}
use Rattle.dsa_explore.specs.{Findings.{answer_to, ending_told, findings_of, rows_of_step}, Explored.{AskOf}}
use Rattle.dsa_explore.specs.Findings.{labels_waited_for, removal_told, removals_of, waits_told}
use Rattle.dsa_explore.proofs.Waits.{same-awaited}

same-answers : (ask : Option Ask) (m n : Labels) (r r' : Reply) → labelled_reply m r ≡ labelled_reply n r'
    → answer_to ask m r ≡ answer_to ask n r'
same-answers None m n r r' e = refl
same-answers (Some ask) m n r r' e = ap (λ z. Answer ask z ∷ []) e

-- the rows that a step adds
added : (s s' : State) (rows : List FateRow) → s'.work.fates ≡ s.work.fates ++ rows → rows_of_step s s' ≡ rows
added s s' rows e =
    ap (drop (length s.work.fates)) e ∙ drop_at s.work.fates rows (length s.work.fates) refl

same-rows : (m n : Labels) (s s' t t' : State) → HaveSameEnds m n s.work s'.work t.work t'.work
    → map (labelled_row m) (rows_of_step s s') ≡ map (labelled_row n) (rows_of_step t t')
same-rows m n s s' t t' ends =
    ap (map (labelled_row m)) (added s s' ends.rows ends.left) ∙ ends.same
    ∙ sym (ap (map (labelled_row n)) (added t t' ends.rows' ends.right))

-- what was removed
same-removals : (ask : Option Ask) (m n : Labels) (rows rows' : List FateRow)
    → map (labelled_row m) rows ≡ map (labelled_row n) rows' → removals_of ask m rows ≡ removals_of ask n rows'
same-removals None m n rows rows' e = refl
same-removals (Some (Submission label)) m n rows rows' e = refl
same-removals (Some (Act act)) m n rows rows' e = ap (map (removal_told act)) e

-- what is waited for follows from the reply by labels
waited-by : (m : Labels) (s : State) (r : Reply) → labels_waited_for m s r ≡ labels_waited_for m s (labelled_reply m r)
waited-by m s (reply.Submit (Accepted ticket)) = refl
waited-by m s (reply.Dispatch (Taken ticket queue)) = refl
waited-by m s (reply.Fetch (Fetched ticket)) = refl
waited-by m s (reply.Start (Started ticket)) = refl
waited-by m s r = refl

same-waited : (m n : Labels) (s t : State) (r : Reply) → key m s ≡ key n t
    → labels_waited_for m s r ≡ labels_waited_for n t r
same-waited m n s t (reply.Issue issue.Active) e = same-awaited m n s t e
same-waited m n s t r e = refl

same-waits : (m n : Labels) (s t : State) (r r' : Reply) → labelled_reply m r ≡ labelled_reply n r'
    → key m s ≡ key n t → labels_waited_for m s r ≡ labels_waited_for n t r'
same-waits m n s t r r' replies e =
    waited-by m s r ∙ ap (labels_waited_for m s) replies ∙ same-waited m n s t (labelled_reply n r') e
    ∙ sym (waited-by n t r')

module _ {P M : Type 0} (asks : AskOf P M) where
  -- two steps that are answered alike, end the same entries and lead to equal keys tell the same
  pub same-findings : (w w' v v' : World P) (move : M) (reply reply' : Reply) → w.places ≡ v.places
      → labelled_reply w'.labels reply ≡ labelled_reply v'.labels reply'
      → HaveSameEnds w'.labels v'.labels w.state.work w'.state.work v.state.work v'.state.work
      → key w'.labels w'.state ≡ key v'.labels v'.state
      → findings_of (asks w.places move) w w' reply ≡ findings_of (asks v.places move) v v' reply'
  same-findings w w' v v' move reply reply' places replies ends keys =
      let rows = same-rows w'.labels v'.labels w.state w'.state v.state v'.state ends in
      let ask = asks v.places move in
      ap (λ (p : P). findings_of (asks p move) w w' reply) places
      ∙ (λ i. same-answers ask w'.labels v'.labels reply reply' replies i ++ (map ending_told (rows i)
      ++ (waits_told ask (same-waits w'.labels v'.labels w'.state v'.state reply reply' replies keys i)
      ++ same-removals ask w'.labels v'.labels (rows_of_step w.state w'.state) (rows_of_step v.state v'.state) rows i)))

  module _ (caps : Caps) (parties : Parties P M) (good : World P → Bool) (lawful : AreLawful caps parties good) where
    pub mirrored-findings : (w w' v : World P) (move : M) (reply : Reply) → HaveEqualKeys w v
        → (same : HasSameMove caps parties good w w' v move reply)
        → findings_of (asks w.places move) w w' reply ≡ findings_of (asks v.places move) v same.v' same.reply'
    mirrored-findings w w' v move reply k same =
        same-findings w w' v same.v' move reply same.reply' k.places same.replies same.ends same.keys.keys

    here : (w w' v v' : World P) (move : M) (reply reply' : Reply) (o : Offer) → IsGoodWorld caps good w
        → IsGoodWorld caps good v → HaveEqualKeys w v → offer_at parties w move ≡ Some o
        → offer_at parties v move ≡ Some o → TakeAlike reply reply'
        → (p p' : Option State) → next_by_label (labels_for w o) w.state o.event reply ≡ p
        → next_by_label (labels_for v o) v.state o.event reply' ≡ p'
        → option_map (world_with parties w move reply o) p ≡ Some w'
        → option_map (world_with parties v move reply' o) p' ≡ Some v'
        → findings_of (asks w.places move) w w' reply ≡ findings_of (asks v.places move) v v' reply'
    here w w' v v' move reply reply' o hw hv k e e' same (Some s1) (Some t1) q q' step step' =
        let f = keys-determine caps w.labels v.labels w.state s1 v.state o.event reply o.label
        hw.is_labelled hv.is_labelled
        (lawful.fresh w move o hw.is_labelled hw.is_good e)
        (lawful.fresh v move o hv.is_labelled hv.is_good e')
        k.keys q t1 reply' same q' in
        let x : World P = world_with parties w move reply o s1 in
        let y : World P = world_with parties v move reply' o t1 in
        let one : findings_of (asks w.places move) w x reply ≡ findings_of (asks v.places move) v y reply' =
        same-findings w x v y move reply reply' k.places f.replies f.ends f.keys in
        let is : x ≡ w' = ap (λ z. unwrap_or z x) step in
        let is' : y ≡ v' = ap (λ z. unwrap_or z y) step' in
        subst (λ (z : World P). findings_of (asks w.places move) w z reply
        ≡ findings_of (asks v.places move) v v' reply') is
        (subst (λ (z : World P). findings_of (asks w.places move) w x reply
        ≡ findings_of (asks v.places move) v z reply') is' one)
    here w w' v v' move reply reply' o hw hv k e e' same None p' q q' step step' = absurd cc
    here w w' v v' move reply reply' o hw hv k e e' same (Some s1) None q q' step step' = absurd cc

    -- two moves of worlds with equal keys, from one queue, tell the same
    pub findings-agree : (w w' v v' : World P) (move : M) (reply reply' : Reply) → IsGoodWorld caps good w
        → IsGoodWorld caps good v → HaveEqualKeys w v → TakeAlike reply reply'
        → world_after parties w move reply ≡ Some w' → world_after parties v move reply' ≡ Some v'
        → findings_of (asks w.places move) w w' reply ≡ findings_of (asks v.places move) v v' reply'
    findings-agree w w' v v' move reply reply' hw hv k same step step' =
        go (offer_at parties w move) refl step
      where
        go : (p : Option Offer) → offer_at parties w move ≡ p
            → option_and_then (world_after_offer parties w move reply) p ≡ Some w'
            → findings_of (asks w.places move) w w' reply ≡ findings_of (asks v.places move) v v' reply'
        go None e step = absurd cc
        go (Some o) e step =
            let e' : offer_at parties v move ≡ Some o =
            (λ i. parties.offer (sym k.places i) (sym k.keys i) move) ∙ e in
            here w w' v v' move reply reply' o hw hv k e e' same
            (next_by_label (labels_for w o) w.state o.event reply)
            (next_by_label (labels_for v o) v.state o.event reply') refl refl step
            (sym (ap (option_and_then (world_after_offer parties v move reply')) e') ∙ step')
