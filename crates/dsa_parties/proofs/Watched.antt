-- What is remembered, watch by watch.
use Rattle.std.proofs.Common.{◌≡◌, ◌∙◌, ℕ, zero, suc, ◌+◌, ◌<◌, ◌≤◌, Bool, true, false, ◌||◌, ◌&&◌, List, [], ◌∷◌, ◌++◌}
use Rattle.std.proofs.Common.{length, take, drop, get_or, set, min, refl, sym, ap, arith, add-one}
use Rattle.std.specs.List.{list_any}
use Rattle.std.proofs.lemmas.List.{append_assoc, append-nil, drop_all, take_all, take-append-drop, take_more}
use Rattle.std.proofs.lemmas.List.{take_more_set, drop-set-lt}
use Rattle.dsa_book.specs.declared.{answer.Reply.{Reply}, fate.FateRow.{FateRow}}
use Rattle.dsa_parties.specs.declared.places.{Move.{Move, TheVariants.{Client, Administrator}}, Places.{Places}}
use Rattle.dsa_parties.specs.declared.script.{Part.{Part}, Script.{Script}}
use Rattle.dsa_parties.specs.declared.watches.Became.TheVariants.{Accepted}
use Rattle.dsa_parties.specs.declared.watches.Watch.{Watch, TheVariants.{Entry, Act, Before}}
use Rattle.dsa_parties.specs.Standing.{Standing, stand_of}
use Rattle.dsa_parties.specs.Watches.{is_to_do, is_answered_so, is_end_so, is_replied_so, submits_label, asks_for_act}
use Rattle.dsa_parties.specs.Watches.{is_watch_seen, came_with, came_after}

-- ---- acts to come

to-do-nobody : (act : ℕ) (parts : List Part) → is_to_do act parts [] ≡ false
to-do-nobody act [] = refl
to-do-nobody act (part ∷ parts) = refl

-- nobody is left who has to do it
pub to-do-end : (act k : ℕ) (parts : List Part) (nexts : List ℕ) → min (length parts) (length nexts) ≤ k
    → is_to_do act (drop k parts) (drop k nexts) ≡ false
to-do-end act zero [] nexts l = refl
to-do-end act (suc k) [] nexts l = refl
to-do-end act zero (part ∷ parts) [] l = refl
to-do-end act (suc k) (part ∷ parts) [] l = to-do-nobody act (drop k parts)
to-do-end act zero (part ∷ parts) (n ∷ nexts) l = absurd (omega (arith, l))
to-do-end act (suc k) (part ∷ parts) (n ∷ nexts) l = to-do-end act k parts nexts (omega (arith, l))

-- ---- what is seen does not depend on what has come

abbrev with_came : Standing → List Bool → Standing
with_came stand came = record stand { came = came }

submits-same : (script : Script) (stand : Standing) (came : List Bool) (move : Move) (label : ℕ)
    → submits_label script (with_came stand came) move label ≡ submits_label script stand move label
submits-same script stand came (Client c) label = refl
submits-same script stand came move label = refl

asks-same : (script : Script) (stand : Standing) (came : List Bool) (move : Move) (act : ℕ)
    → asks_for_act script (with_came stand came) move act ≡ asks_for_act script stand move act
asks-same script stand came (Administrator a) act = refl
asks-same script stand came move act = refl

pub seen-same : (script : Script) (stand : Standing) (came : List Bool) (move : Move) (reply : Reply)
    (ends : List FateRow) (watch : Watch)
    → is_watch_seen script (with_came stand came) move reply ends watch ≡ is_watch_seen script stand move reply ends watch
seen-same script stand came move reply ends (Entry label became) =
    ap (λ b. (b && is_answered_so became reply) || list_any (is_end_so label became) ends)
    (submits-same script stand came move label)
seen-same script stand came move reply ends (Act act replied) =
    ap (λ b. b && is_replied_so replied reply) (asks-same script stand came move act)
seen-same script stand came move reply ends (Before label act) =
    ap (λ b. b && is_answered_so Accepted reply
    && is_to_do act script.administrators.items stand.administrators) (submits-same script stand came move label)

-- ---- watch by watch

or-true : (b : Bool) → (b || true) ≡ true
or-true true = refl
or-true false = refl

or-false : (b : Bool) → (b || false) ≡ b
or-false true = refl
or-false false = refl

module _ (seen : Watch → Bool) where
  -- the marks from here on, watch by watch
  came-at : (k : ℕ) (watches : List Watch) (came : List Bool) (d : Watch) → k < length watches → k < length came
      → came_with seen (drop k watches) (drop k came)
      ≡ (get_or came k false || seen (get_or watches k d))
      ∷ came_with seen (drop (suc k) watches) (drop (suc k) came)
  came-at k [] came d l m = absurd (omega (arith, l))
  came-at k (w ∷ ws) [] d l m = absurd (omega (arith, m))
  came-at zero (w ∷ ws) (c ∷ cs) d l m = refl
  came-at (suc k) (w ∷ ws) (c ∷ cs) d l m = came-at k ws cs d (omega (arith, l)) (omega (arith, m))

  no-marks : (watches : List Watch) → came_with seen watches [] ≡ []
  no-marks [] = refl
  no-marks (w ∷ ws) = refl

  -- so far, and from there on
  abbrev pub marks_from : List Watch → ℕ → List Bool → List Bool
  marks_from watches k came = take k came ++ came_with seen (drop k watches) (drop k came)

  -- behind the last mark nothing changes
  pub marks-past : (watches : List Watch) (k : ℕ) (came : List Bool) → length came ≤ k
      → marks_from watches k came ≡ came
  marks-past watches k came l =
      ap (λ (cs : List Bool). take k came ++ came_with seen (drop k watches) cs) (drop_all k came l)
      ∙ ap (λ (cs : List Bool). take k came ++ cs) (no-marks (drop k watches)) ∙ append-nil (take k came)
      ∙ take_all k came l

  -- behind the last watch nothing changes
  pub marks-end : (watches : List Watch) (k : ℕ) (came : List Bool) → length watches ≤ k
      → marks_from watches k came ≡ came
  marks-end watches k came l =
      ap (λ (ws : List Watch). take k came ++ came_with seen ws (drop k came)) (drop_all k watches l)
      ∙ take-append-drop k came

  one-more : (watches : List Watch) (k : ℕ) (came : List Bool) (d : Watch) (now : List Bool) → k < length watches
      → k < length came → take (suc k) now ≡ take k came ++ (get_or came k false || seen (get_or watches k d)) ∷ []
      → drop (suc k) now ≡ drop (suc k) came → marks_from watches (suc k) now ≡ marks_from watches k came
  one-more watches k came d now l m begin end =
      let mark = get_or came k false || seen (get_or watches k d) in
      (λ i. begin i ++ came_with seen (drop (suc k) watches) (end i))
      ∙ append_assoc (take k came) (mark ∷ []) (came_with seen (drop (suc k) watches) (drop (suc k) came))
      ∙ ap (λ (cs : List Bool). take k came ++ cs) (sym (came-at k watches came d l m))

  -- a watch that is seen is marked
  pub marks-seen : (watches : List Watch) (k : ℕ) (came : List Bool) (d : Watch) → k < length watches
      → k < length came → seen (get_or watches k d) ≡ true
      → marks_from watches (k + 1) (set came k true) ≡ marks_from watches k came
  marks-seen watches k came d l m e = rw add-one
      (one-more watches k came d (set came k true) l m
      (rw add-one at (take_more_set came k true m)
      ∙ ap (λ (b : Bool). take k came ++ b ∷ [])
      (sym (ap (λ b. get_or came k false || b) e ∙ or-true (get_or came k false))))
      (drop-set-lt (suc k) came k true (omega arith)))

  -- and one that is not stays as it is
  pub marks-unseen : (watches : List Watch) (k : ℕ) (came : List Bool) (d : Watch) → k < length watches
      → k < length came → seen (get_or watches k d) ≡ false
      → marks_from watches (k + 1) came ≡ marks_from watches k came
  marks-unseen watches k came d l m e = rw add-one
      (one-more watches k came d came l m
      (rw add-one at (take_more came k false m)
      ∙ ap (λ (b : Bool). take k came ++ b ∷ [])
      (sym (ap (λ b. get_or came k false || b) e ∙ or-false (get_or came k false)))) refl)

-- ---- the marks of places, so far

module _ (script : Script) (stand : Standing) (move : Move) (reply : Reply) (ends : List FateRow) where
  abbrev seen : Watch → Bool
  seen = is_watch_seen script stand move reply ends

  -- nobody moved, and the marks of so many watches are those after the step
  pub record IsMarked (k : ℕ) (places : Places) : Type 0 where
    pub nobody : stand_of places ≡ with_came stand places.came.items
    pub marks : marks_from seen script.watches.items k places.came.items ≡ came_after script stand move reply ends

  module _ (k : ℕ) (places : Places) (marked : IsMarked k places) where
    seen-there : (watch : Watch)
        → is_watch_seen script (stand_of places) move reply ends watch ≡ is_watch_seen script stand move reply ends watch
    seen-there watch = ap (λ (s : Standing). is_watch_seen script s move reply ends watch) marked.nobody
        ∙ seen-same script stand places.came.items move reply ends watch

    pub marked-past : length places.came.items ≤ k → IsMarked (k + 1) places
    marked-past l = record {
      nobody = marked.nobody;
      marks = marks-past seen script.watches.items (k + 1) places.came.items (omega (arith, l))
          ∙ sym (marks-past seen script.watches.items k places.came.items l) ∙ marked.marks;
    }

    pub marked-all : length script.watches.items ≤ k
        → stand_of places ≡ with_came stand (came_after script stand move reply ends)
    marked-all l = marked.nobody
        ∙ ap (with_came stand) (sym (marks-end seen script.watches.items k places.came.items l) ∙ marked.marks)

    module _ (watch : Watch) (is : watch ≡ get_or script.watches.items k watch) (below : k < length script.watches.items)
        (within : k < length places.came.items) where
      pub marked-unseen : is_watch_seen script (stand_of places) move reply ends watch ≡ false → IsMarked (k + 1) places
      marked-unseen e = record {
        nobody = marked.nobody;
        marks = marks-unseen seen script.watches.items k places.came.items watch below within
            (ap seen (sym is) ∙ sym (seen-there watch) ∙ e) ∙ marked.marks;
      }

      pub marked-seen : is_watch_seen script (stand_of places) move reply ends watch ≡ true → (after : Places)
          → stand_of after ≡ with_came (stand_of places) (set places.came.items k true) → IsMarked (k + 1) after
      marked-seen e after changed =
          let came : after.came.items ≡ set places.came.items k true = ap (λ (s : Standing). s.came) changed in
          record {
            nobody = changed
                ∙ (λ i. with_came (marked.nobody i) (sym came i));
            marks = ap (marks_from seen script.watches.items (k + 1)) came
                ∙ marks-seen seen script.watches.items k places.came.items watch below within
                (ap seen (sym is) ∙ sym (seen-there watch) ∙ e) ∙ marked.marks;
          }
