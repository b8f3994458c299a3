-- `boxed` hands the two parts to `from_raw`, with what they own.
use Rattle.std_alloc.specs.contracts.boxed.Box.from_raw as closes
use Rattle.dsa_c.specs.contracts.unboxed.Unboxed as Unboxed
use Rattle.dsa_c.specs.contracts.unboxed.Unboxed.boxed as here
use Rattle.dsa_c.proofs.unboxed.Unboxed.boxed.Code as code
use mathlib.Core.{Path.{◌≡◌, refl, sym, subst, ap}, List.{List, [], ◌∷◌, ◌++◌}}
use lib.Dec.{T}
use mir.Syntax.{Args, a_type, dcons, dnil}
use mir.MapTy.{inst_fn}
use mir.Val.{Val, vptr, has_ty, WT}
use base.Logic.{SProp, ent, id⊢}
use base.Fml.{ftrue, fsep, flft}
use prog.Wp.{WpFn}
use contract.BorrowLft.{◌⊑◌}
use contract.Monad.{fact}
use contract.Running.{tables, tables_of}
use sound.WpLaws.{fm_of}
use types.Kit.{Item, ‵, raw, ◌⊛◌, some, later, at_ret, ◌$◌, ◌∵◌, !, qed, move, drop, use1, join, split, split3, pick}
use types.Kit.{rewrite, fsplit, fjoin, feq_i, suffices, await, done}
use types.Part.{whole, sub}
use types.Run.{stop, fld, no_more, and_then, of_opd, first, blocks, exec, returns, enter}
use types.ByLocal.{alloc_all, pass_all, free_all, look_at, get, get_in, sets, lands_last, env}
use denote.Exit.{no}
use denote.Param.{bounded}
use denote.RattleType.{RattleType}
use denote.RawPtr.{block_ptr}
use denote.Signature.{Slot, plain}
use denote.Steps.{heard, nothing, only}
use denote.Triple.{Call.{calls_at_last}, Spec.{triple_of}, Walked.{says, Stays, stay_dropped, walk_of, ends_at}}
use Rattle.std.proofs.{alloc.Calls.{Goes-blank}, raw_atomic.Walks.{proved_at}}
use Rattle.std_alloc.proofs.BoxSteps.{Form.{Bx, D, R, P, B, box_ty, word, box_typed}, Steps.{box_out, box_in}}
use Rattle.std_alloc.proofs.{VecSteps.Shapes.{after}, boxed.Box.from_raw.Met.{met}}
use Rattle.dsa_c.specs.contracts.unboxed.Unboxed.boxed.Key.{name as #self}
use Rattle.dsa_c.proofs.unboxed.Unboxed.boxed.Statement.{statement}

pub boxed_spec : {M : Type 1} → statement M
unfolding tables_of
boxed_spec 𝓤 𝓛 𝓜 𝓡 wired X Z LX LZ g d dd allocator drops =
    let H = 𝓛.H in let 𝓣 = tables 𝓤 H 𝓜 𝓡 𝓡.env in
    let E : Bx = record { row = X; laws = LX; al = record { row = Z; laws = LZ; g = g; d = d; drops = dd } } in
    let at : Args = bounded (a_type ∷ a_type ∷ []) (X, (Z, tt)) (dcons d (dcons dd dnil)) in
    let fn = inst_fn at code.function in let En = here.ended X Z g d dd in
    let c = here.clauses X Z g d dd 𝓛 𝓜.mem 𝓡.returns in
    let From : RattleType = Unboxed.the_row (R E) (P E) g in let Given : Slot 2 = plain (λ _. From) in
    let hs : Stays En.signature.params En.kept = (stay_dropped Given no, tt) in
    let Closes = triple_of 𝓛 (closes.signature X Z g d dd) (closes.spec X Z g d dd 𝓛 𝓜.mem 𝓡.returns) in
    proved_at 𝓛 En hs c 𝓜 𝓡 (Goes-blank 𝓛 2 Given no (λ κs x f. tt), tt) (#self at) fn
    (code.unfolded 𝓤 H 𝓜 𝓡 wired (X, (Z, tt)) d dd) (λ z are.
    let κs = z.0.0 in let qs = z.0.1 in let given = z.0.3.0 in let a = given.alloc in let x = given.value in
    let Post : Val → SProp 𝓤 = (walk_of 𝓛 En hs c).post z in
    let Runs : List Val → SProp 𝓤 = λ ws. WpFn 𝓤 H 𝓣.C 𝓣.Λ fn ws Post in
    let parts : D E = record { ptr = given.to; alloc = a; value = x } in
    let tokens : Item 𝓤 = ‵ (flft κs.0 qs.0) ⊛ ‵ (flft κs.1.0 qs.1.0) ⊛ ‵ ftrue in
    let outlive : Item 𝓤 = raw (fact 𝓤 (κs.0 ⊑ X.lives)) ⊛ raw (fact 𝓤 (κs.1.0 ⊑ Z.lives)) ⊛ ‵ ftrue in
    qed 𝓛 ((tokens ⊛ ‵ (fsep ((B E).own_val parts z.0.4.0) ftrue)) ∷ outlive ∷ []) ∵ split ! $ move ! (1
    ∷ []) $ fsplit ! $
    box_out E ! parts z.0.4.0 (λ b o hv lies is fits.
    let w = word E hv b o in let y : Closes.Ghost =
    ((κs, qs, tt, (a, (block_ptr b o, tt)), (hv ∷ [], (vptr b o ∷ [], tt))), x) in
    suffices ! (Runs (w ∷ [])) (subst (λ (us : List Val). ent 𝓤 (Runs (w ∷ [])) (Runs us)) (sym (λ i. is i ++ []))
    (id⊢ 𝓤 (Runs (w ∷ [])))) $
    -- [the value; its block; the allocator; nothing; the tokens; what outlives them]
    fjoin ! $ move ! (4 ∷ []) $ split3 ! $ move ! (2 ∷ []) $ drop ! $ move ! (1 ∷ 2 ∷ []) $ join ! $ move ! (1 ∷ 0
    ∷ []) $ join ! $
    move ! (2 ∷ []) $ feq_i ! (List Val) (vptr b o ∷ []) (vptr b o ∷ []) refl $ fjoin ! $ move ! (2 ∷ 0
    ∷ []) $ fjoin ! $
    move ! (2 ∷ 0 ∷ []) $ join ! $ join ! $ use1 𝓛 (raw (Closes.pre y)) (id⊢ 𝓤 _) $
    enter ! _ _ _ _ _ $ alloc_all ! (λ l. pass_all ! refl (box_typed E hv b o fits, tt) $
    sets ! (of_opd ! (get_in ! (fld ! refl (stop !)) (sub ! 0 refl (whole !)))) refl (tt, tt) $
    sets ! (of_opd ! (get_in ! (fld ! refl (stop !)) (sub ! 1 refl (whole !)))) refl fits $
    first ! $ blocks ! $ sets ! (of_opd ! (get ! refl)) refl fits $
    calls_at_last ! (fm_of 𝓤 H 𝓛.laws (tables_of 𝓤 H 𝓜 𝓣)) Closes
    (met 𝓤 𝓛 𝓜 𝓡 (code.calls-std_alloc::boxed::Box::from_raw 𝓡.env wired) X Z LX LZ g d dd allocator drops) y
    (and_then ! (get ! refl) (and_then ! (get ! refl) (no_more !))) (λ u.
    use1 𝓛 (later (some (λ (r : D E). (tokens ⊛ ‵ ((B E).own_val r (u ∷ []))) ⊛ some
    (λ (_ : Unit {0} × (Unit {0} × Unit {0})).
    ‵ (fsep ftrue (fsep ftrue ftrue)) ⊛ (raw (fact 𝓤 (r.value ≡ x)) ⊛ raw (fact 𝓤 (r.alloc ≡ a))))))) (id⊢ 𝓤 _) $
    await ! tt $ pick ! (λ r. split ! $ move ! (1 ∷ []) $ pick !
    (λ _. split3 ! $ drop ! $ heard ! (r.value ≡ x) (λ same. drop ! $ split ! $ move ! (1 ∷ []) $
    box_out E ! r (u ∷ []) (λ b' o' hv' lies' now fits'. box_in E ! r b' o' r.value lies' refl $ rewrite ! 0
    (λ (us : List Val). ‵ ((B E).own_val r us)) (sym now) refl $
    -- [the box; the tokens; the locals]
    let typed : T (has_ty (box_ty E) u) × WT u =
    subst (λ (v : Val). T (has_ty (box_ty E) v) × WT v) (sym (ap only now)) (box_typed E hv' b' o' fits') in
    lands_last ! refl typed $ exec ! 𝓣.C 𝓣.Λ (env fn.locals l) (after 3 fn.body) (at_ret (env fn.locals l) Post) $
    sets ! (of_opd ! (get ! refl)) refl typed $ returns ! (look_at ! 0 refl) $ free_all ! refl $
    suffices ! _ (ends_at 𝓛 En hs c z u r ((tt, (tt, tt)), tt) (tt, tt)) $ says ! same $
    nothing ! $ nothing ! $ fjoin ! $ join ! $ move ! (1 ∷ 0 ∷ []) $ join ! $ done !))))))))
