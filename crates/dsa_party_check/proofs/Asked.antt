-- What is told first of questions is the fault that is told of a search.
use Rattle.dsa_party_check.specs.declared.complaint.Subject.TheVariants as subject
use Rattle.dsa_scenario.specs.declared.fields.Form.TheVariants as form
use Rattle.std.proofs.Common.{◌≡◌, ◌∙◌, ◌+◌, ◌++◌, ◌||◌, ℕ, suc, Bool, true, false, cond, List, [], ◌∷◌}
use Rattle.std.proofs.Common.{Option, Some, None, Ok, Err, refl, ap, sym, subst, arith, codes, length}
use Rattle.std.specs.Prelude.{Result, if◌then◌else◌, is_none, is_some, ok_or}
use Rattle.serde_json.specs.Data.{Data, null, boolean, number, string, array, object}
use Rattle.serde_json.specs.Find.{get}
use Rattle.dsa_regs.specs.declared.Caps.{Caps}
use Rattle.dsa_scenario.specs.declared.faults.ScenarioFault.{ScenarioFault, TheVariants.{BadQuestion}}
use Rattle.dsa_parties.specs.declared.script.Script.{Script}
use Rattle.dsa_plans.specs.{Said.{items_in, read_or}, PartyLabels.{act_labels, entry_labels, numbered_from}}
use Rattle.dsa_plans.specs.Plans.{ok_and_then, parties_said, tables_of}
use Rattle.dsa_questions.specs.declared.question.Kind.{Kind, TheVariants.{Never, Sometimes, Always}}
use Rattle.dsa_questions.specs.Judging.{is_formed, is_question, no_questions}
use Rattle.dsa_questions.specs.Reading.{Inquiry, key_of, list_onto, question_onto, questions_onto, questions_said}
use Rattle.dsa_questions.specs.Stating.{Nameable, nameable}
use Rattle.dsa_questions.proofs.Judged.{formed-question, question-alike, question-adds}
use Rattle.dsa_check.specs.{Judgement.{caps_at}, Reasons.{fits_form}}
use Rattle.dsa_party_check.specs.declared.complaint.Subject.{Subject}
use Rattle.dsa_party_check.specs.Complaints.{Complained, Flawed, flaws_of}
use Rattle.dsa_party_check.specs.{Flaws.{flaws_of_document}, PartyCheck.{first_flaw}}
use Rattle.dsa_party_check.specs.QuestionFlaws.{all_flaws_of, count_of_list, kind_flaws, list_flaws, or_no_condition}
use Rattle.dsa_party_check.specs.QuestionFlaws.{question_flaws, questions_at, questions_flaws}
use Rattle.dsa_party_check.proofs.Led.{first-of-parties}

-- the first of two lists is that of the one before
first-front : (xs ys : List Flawed) (fault : ScenarioFault) → first_flaw xs ≡ Some fault
    → first_flaw (xs ++ ys) ≡ Some fault
first-front [] ys fault e = absurd cc
first-front (x ∷ xs) ys fault e = e

first-back : (xs ys : List Flawed) (fault : ScenarioFault) → xs ≡ [] → first_flaw ys ≡ Some fault
    → first_flaw (xs ++ ys) ≡ Some fault
first-back xs ys fault none e = subst (λ (l : List Flawed). first_flaw (l ++ ys) ≡ Some fault) (sym none) e

-- ---- one question

something : (complaints : List Complained) (fault : ScenarioFault) (s : Subject)
    → first_flaw (flaws_of fault s (or_no_condition complaints)) ≡ Some fault
something [] fault s = refl
something (c ∷ cs) fault s = refl

told-if : (good : Bool) (complaints : List Complained) (fault : ScenarioFault) (s : Subject) → good ≡ false
    → first_flaw (flaws_of fault s (cond good [] (or_no_condition complaints))) ≡ Some fault
told-if true complaints fault s e = absurd cc
told-if false complaints fault s e = something complaints fault s

quiet-if : (good : Bool) (complaints : List Complained) (fault : ScenarioFault) (s : Subject) → good ≡ true
    → flaws_of fault s (cond good [] complaints) ≡ []
quiet-if true complaints fault s e = refl
quiet-if false complaints fault s e = absurd cc

pub quiet-unformed : (kind : Kind) (names : Nameable) (first place : ℕ) (d : Data) → is_question kind names d ≡ true
    → question_flaws None kind first place d ≡ []
quiet-unformed kind names first place d e =
    quiet-if (is_formed d) _ (BadQuestion (first + place)) (subject.Question kind place)
    (formed-question kind names d e)

-- ---- a value that is no list

not-listed : (o : Option Data) → read_or [] items_in o ≡ None → (is_none o || fits_form form.Array o) ≡ false
not-listed None e = absurd cc
not-listed (Some null) e = refl
not-listed (Some (boolean b)) e = refl
not-listed (Some (number n)) e = refl
not-listed (Some (string s)) e = refl
not-listed (Some (array ds)) e = absurd cc
not-listed (Some (object ms)) e = refl

rule-told : (kept : Bool) (c : Complained) (fault : ScenarioFault) (s : Subject) → kept ≡ false
    → first_flaw (flaws_of fault s (if kept then [] else c ∷ [])) ≡ Some fault
rule-told true c fault s e = absurd cc
rule-told false c fault s e = refl

module _ (names : Nameable) where
  pub one-good : (kind : Kind) (first place : ℕ) (done more : Inquiry) (d : Data)
      → question_onto kind names done d ≡ Some more → question_flaws (Some names) kind first place d ≡ []
  one-good kind first place done more d e =
      quiet-if (is_question kind names d) _ (BadQuestion (first + place)) (subject.Question kind place)
      (sym (question-alike kind names done no_questions d) ∙ ap is_some e)

  pub one-bad : (kind : Kind) (first place : ℕ) (done : Inquiry) (d : Data) → question_onto kind names done d ≡ None
      → first_flaw (question_flaws (Some names) kind first place d) ≡ Some (BadQuestion (first + place))
  one-bad kind first place done d e =
      told-if (is_question kind names d) _ (BadQuestion (first + place)) (subject.Question kind place)
      (sym (question-alike kind names done no_questions d) ∙ ap is_some e)

  -- ---- a list

  bad-from : (kind : Kind) (first place : ℕ) (done : Inquiry) (ds : List Data) (fault : ScenarioFault)
      → length done.asked ≡ first + place → questions_onto kind names done ds ≡ Err fault
      → first_flaw (numbered_from (question_flaws (Some names) kind first) place ds) ≡ Some fault
  bad-from kind first place done [] fault at h = absurd cc
  bad-from kind first place done (d ∷ ds) fault at h =
      go (λ more n k. bad-from kind first (place + 1) more ds fault n k) (question_onto kind names done d) refl h
    where
      go : ((more : Inquiry) → length more.asked ≡ first + (place + 1) → questions_onto kind names more ds ≡ Err fault
          → first_flaw (numbered_from (question_flaws (Some names) kind first) (place + 1) ds) ≡ Some fault)
          → (o : Option Inquiry) → question_onto kind names done d ≡ o
          → ok_and_then (λ more. questions_onto kind names more ds) (ok_or o (BadQuestion (length done.asked)))
          ≡ Err fault
          → first_flaw (question_flaws (Some names) kind first place d
          ++ numbered_from (question_flaws (Some names) kind first) (place + 1) ds) ≡ Some fault
      go next None e h =
          let same : BadQuestion (length done.asked) ≡ fault = cc in
          first-front (question_flaws (Some names) kind first place d) _ fault
          (one-bad kind first place done d e ∙ ap Some (ap BadQuestion (sym at) ∙ same))
      go next (Some more) e h =
          let adds = question-adds kind names done more d e in
          first-back (question_flaws (Some names) kind first place d) _ fault
          (one-good kind first place done more d e) (next more (omega (arith, adds, at)) h)

  -- nothing is told of a list that can be read, and so many more are asked
  pub record IsQuiet (done more : Inquiry) (flaws : List Flawed) (count : ℕ) : Type 0 where
    pub none : flaws ≡ []
    pub many : length more.asked ≡ length done.asked + count

  good-from : (kind : Kind) (first place : ℕ) (done more : Inquiry) (ds : List Data)
      → questions_onto kind names done ds ≡ Ok more
      → IsQuiet done more (numbered_from (question_flaws (Some names) kind first) place ds) (length ds)
  good-from kind first place done more [] h =
      let same : done ≡ more = cc in
      let count = ap (λ (i : Inquiry). length i.asked) same in
      record { none = refl; many = omega (arith, count) }
  good-from kind first place done more (d ∷ ds) h =
      go (λ next k. good-from kind first (place + 1) next more ds k) (question_onto kind names done d) refl h
    where
      go : ((next : Inquiry) → questions_onto kind names next ds ≡ Ok more
          → IsQuiet next more (numbered_from (question_flaws (Some names) kind first) (place + 1) ds) (length ds))
          → (o : Option Inquiry) → question_onto kind names done d ≡ o
          → ok_and_then (λ next. questions_onto kind names next ds) (ok_or o (BadQuestion (length done.asked)))
          ≡ Ok more
          → IsQuiet done more (question_flaws (Some names) kind first place d
          ++ numbered_from (question_flaws (Some names) kind first) (place + 1) ds) (suc (length ds))
      go rest None e h = absurd cc
      go rest (Some next) e h =
          let q = rest next h in
          let adds = question-adds kind names done next d e in
          record {
            none = ap (λ (l : List Flawed). l ++ numbered_from (question_flaws (Some names) kind first) (place + 1) ds)
                (one-good kind first place done next d e) ∙ q.none;
            many = omega (arith, adds, q.many);
          }

  -- ---- what stands at a key

  kind-bad : (kind : Kind) (first : ℕ) (document : Data) (done : Inquiry) (fault : ScenarioFault)
      → length done.asked ≡ first → list_onto kind names document done ≡ Err fault
      → first_flaw (kind_flaws (Some names) document kind first) ≡ Some fault
  kind-bad kind first document done fault at h = go (questions_at kind document) refl h
    where
      go : (o : Option (List Data)) → questions_at kind document ≡ o
          → ok_and_then (questions_onto kind names done) (ok_or o (BadQuestion (length done.asked))) ≡ Err fault
          → first_flaw (list_flaws (Some names) kind first document o) ≡ Some fault
      go (Some ds) e h = bad-from kind first 0 done ds fault (omega (arith, at)) h
      go None e h =
          let same : BadQuestion (length done.asked) ≡ fault = cc in
          rule-told (is_none (get (key_of kind) document) || fits_form form.Array (get (key_of kind) document)) _
          (BadQuestion first) subject.Document (not-listed (get (key_of kind) document) e)
          ∙ ap Some (ap BadQuestion (sym at) ∙ same)

  kind-good : (kind : Kind) (first : ℕ) (document : Data) (done more : Inquiry)
      → list_onto kind names document done ≡ Ok more
      → IsQuiet done more (kind_flaws (Some names) document kind first) (count_of_list (questions_at kind document))
  kind-good kind first document done more h = go (questions_at kind document) h
    where
      go : (o : Option (List Data))
          → ok_and_then (questions_onto kind names done) (ok_or o (BadQuestion (length done.asked))) ≡ Ok more
          → IsQuiet done more (list_flaws (Some names) kind first document o) (count_of_list o)
      go (Some ds) h = good-from kind first 0 done more ds h
      go None h = absurd cc

  -- ---- all questions

  -- the numbers behind those of `never`, and behind those of `sometimes`
  abbrev nevers-end : Data → ℕ
  nevers-end document = count_of_list (questions_at Never document)

  abbrev others-end : Data → ℕ
  others-end document = nevers-end document + count_of_list (questions_at Sometimes document)

  pub questions-bad : (document : Data) (fault : ScenarioFault) → questions_said names document ≡ Err fault
      → first_flaw (questions_flaws (Some names) document) ≡ Some fault
  questions-bad document fault h = nevers (list_onto Never names document no_questions) refl h
    where
      others : kind_flaws (Some names) document Never 0 ≡ [] → (done : Inquiry)
          → length done.asked ≡ nevers-end document → (r : Result Inquiry ScenarioFault)
          → list_onto Sometimes names document done ≡ r
          → ok_and_then (list_onto Always names document) r ≡ Err fault
          → first_flaw (questions_flaws (Some names) document) ≡ Some fault
      others none done at (Err e) is h =
          let same : e ≡ fault = cc in
          first-front (kind_flaws (Some names) document Never 0
          ++ kind_flaws (Some names) document Sometimes (nevers-end document)) _ fault
          (first-back (kind_flaws (Some names) document Never 0) _ fault none
          (kind-bad Sometimes (nevers-end document) document done fault at (is ∙ ap Err same)))
      others none done at (Ok next) is h =
          let q = kind-good Sometimes (nevers-end document) document done next is in
          let many : length next.asked ≡ length done.asked + count_of_list (questions_at Sometimes document) = q.many in
          first-back (kind_flaws (Some names) document Never 0
          ++ kind_flaws (Some names) document Sometimes (nevers-end document)) _ fault
          (ap (λ (l : List Flawed). l ++ kind_flaws (Some names) document Sometimes (nevers-end document)) none
          ∙ q.none)
          (kind-bad Always (others-end document) document next fault (omega (arith, at, many)) h)

      nevers : (r : Result Inquiry ScenarioFault) → list_onto Never names document no_questions ≡ r
          → ok_and_then (list_onto Always names document) (ok_and_then (list_onto Sometimes names document) r)
          ≡ Err fault
          → first_flaw (questions_flaws (Some names) document) ≡ Some fault
      nevers (Err e) is h =
          let same : e ≡ fault = cc in
          first-front (kind_flaws (Some names) document Never 0
          ++ kind_flaws (Some names) document Sometimes (nevers-end document)) _ fault
          (first-front (kind_flaws (Some names) document Never 0) _ fault
          (kind-bad Never 0 document no_questions fault refl (is ∙ ap Err same)))
      nevers (Ok next) is h =
          let q = kind-good Never 0 document no_questions next is in
          let many : length next.asked ≡ 0 + nevers-end document = q.many in
          others q.none next (omega (arith, many)) (list_onto Sometimes names document next) refl h

  pub questions-good : (document : Data) (inquiry : Inquiry) → questions_said names document ≡ Ok inquiry
      → questions_flaws (Some names) document ≡ []
  questions-good document inquiry h = nevers (list_onto Never names document no_questions) refl h
    where
      others : (done : Inquiry) → (r : Result Inquiry ScenarioFault)
          → list_onto Sometimes names document done ≡ r
          → ok_and_then (list_onto Always names document) r ≡ Ok inquiry
          → kind_flaws (Some names) document Sometimes (nevers-end document)
          ++ kind_flaws (Some names) document Always (others-end document) ≡ []
      others done (Err e) is h = absurd cc
      others done (Ok next) is h =
          let q = kind-good Sometimes (nevers-end document) document done next is in
          let r = kind-good Always (others-end document) document next inquiry h in
          ap (λ (l : List Flawed). l ++ kind_flaws (Some names) document Always (others-end document)) q.none ∙ r.none

      nevers : (r : Result Inquiry ScenarioFault) → list_onto Never names document no_questions ≡ r
          → ok_and_then (list_onto Always names document) (ok_and_then (list_onto Sometimes names document) r)
          ≡ Ok inquiry
          → questions_flaws (Some names) document ≡ []
      nevers (Err e) is h = absurd cc
      nevers (Ok next) is h =
          let q = kind-good Never 0 document no_questions next is in
          ap (λ (l : List Flawed). l ++ kind_flaws (Some names) document Sometimes (nevers-end document)
          ++ kind_flaws (Some names) document Always (others-end document)) q.none
          ∙ others next (list_onto Sometimes names document next) refl h

-- ---- a document

pub first-of-all : (document d : Data) (caps : Caps) (fault : ScenarioFault) → get (codes "parties") document ≡ Some d
    → caps_at document ≡ Some caps → parties_said caps.engines document ≡ Err fault
    → first_flaw (all_flaws_of document) ≡ Some fault
first-of-all document d caps fault there has bad =
    first-front (flaws_of_document document) _ fault (first-of-parties document d caps fault there has bad)

module _ (document d : Data) (caps : Caps) (script : Script) (there : get (codes "parties") document ≡ Some d)
    (has : caps_at document ≡ Some caps) (read : parties_said caps.engines document ≡ Ok (tables_of script)) where
  pub first-of-questions : (fault : ScenarioFault)
      → questions_said (nameable caps script (entry_labels d) (act_labels d)) document ≡ Err fault
      → first_flaw (all_flaws_of document) ≡ Some fault
  first-of-questions fault bad =
      rw (there, has, read) (questions-bad (nameable caps script (entry_labels d) (act_labels d)) document fault bad)

  pub none-of-questions : (inquiry : Inquiry)
      → questions_said (nameable caps script (entry_labels d) (act_labels d)) document ≡ Ok inquiry
      → all_flaws_of document ≡ []
  none-of-questions inquiry good =
      rw (there, has, read)
      (questions-good (nameable caps script (entry_labels d) (act_labels d)) document inquiry good)
