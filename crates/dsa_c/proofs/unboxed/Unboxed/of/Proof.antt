-- `of` asks the box for its pointer and its allocator, and writes the two down.
use Rattle.std_alloc.specs.contracts.boxed.Box.into_raw_with_allocator as opens
use Rattle.dsa_c.specs.contracts.unboxed.Unboxed as Unboxed
use Rattle.dsa_c.specs.contracts.unboxed.Unboxed.of as here
use Rattle.dsa_c.proofs.unboxed.Unboxed.of.Code as code
use mathlib.Core.{Path.{◌≡◌, refl, sym, subst}, List.{List, [], ◌∷◌, ◌++◌}}
use mir.Syntax.{Args, a_type, dcons, dnil}
use mir.MapTy.{inst_fn}
use mir.Val.{Val}
use base.Logic.{SProp, ent, id⊢}
use base.Fml.{ftrue, fsep, flft}
use prog.Wp.{WpFn}
use contract.BorrowLft.{◌⊑◌}
use contract.Monad.{fact}
use contract.Running.{tables, tables_of}
use sound.WpLaws.{fm_of}
use types.Kit.{Item, ‵, raw, ◌⊛◌, some, later, ◌$◌, ◌∵◌, !, qed, move, drop, use1, join, split, split3, pick, fsplit}
use types.Kit.{fjoin, suffices, await, done}
use types.Part.{whole, sub, agg}
use types.Run.{stop, fld, no_more, and_then, of_opd, returns, enter}
use types.ByLocal.{alloc_all, pass_all, free_all, look_at, get, get_in, sets, lands_as}
use denote.RattleType.{RattleType}
use denote.Exit.{no}
use denote.Param.{bounded}
use denote.RawPtr.{Ptr, RawPtr, block_ptr}
use denote.Signature.{Slot, plain}
use denote.Steps.{heard, nothing}
use denote.Struct.Tuple.{Tuple}
use denote.Triple.{Call.{calls_at}, Spec.{triple_of}, Walked.{says, Stays, stay_dropped, walk_of, ends_at}}
use Rattle.std.proofs.{alloc.Calls.{token, Goes-blank}, raw_atomic.Walks.{proved_at}}
use Rattle.std_alloc.specs.Box.Ownership.{box_owns}
use Rattle.std_alloc.proofs.BoxSteps.{Form.{Bx, D, R, P, B, word, box_typed}, Steps.{box_out, box_in}}
use Rattle.std_alloc.proofs.boxed.Box.into_raw_with_allocator.Met.{met}
use Rattle.dsa_c.proofs.{Unboxing.{pair_out}, unboxed.Unboxed.of.Statement.{statement}}
use Rattle.dsa_c.specs.contracts.unboxed.Unboxed.of.Key.{name as #self}

pub of_spec : {M : Type 1} → statement M
unfolding tables_of
of_spec 𝓤 𝓛 𝓜 𝓡 wired X Z LX LZ g d dd dx allocator drops glue =
    let H = 𝓛.H in let 𝓣 = tables 𝓤 H 𝓜 𝓡 𝓡.env in
    let E : Bx = record { row = X; laws = LX; al = record { row = Z; laws = LZ; g = g; d = d; drops = dd } } in
    let at : Args = bounded (a_type ∷ a_type ∷ []) (X, (Z, tt)) (dcons d (dcons dd (dcons dx dnil))) in
    let fn = inst_fn at code.function in let En = here.ended X Z g d dd dx in
    let c = here.clauses X Z g d dd dx 𝓛 𝓜.mem 𝓡.returns in
    let Given : Slot 2 = plain (λ _. B E) in let hs : Stays En.signature.params En.kept = (stay_dropped Given no, tt) in
    let Made : RattleType = Unboxed.the_row (R E) (P E) g in
    let Opens = triple_of 𝓛 (opens.signature X Z g d dd dx) (opens.spec X Z g d dd dx 𝓛 𝓜.mem 𝓡.returns) in
    proved_at 𝓛 En hs c 𝓜 𝓡 (Goes-blank 𝓛 2 Given no (λ κs x f. tt), tt) (#self at) fn
    (code.unfolded 𝓤 H 𝓜 𝓡 wired (X, (Z, tt)) d dd dx) (λ z are.
    let κs = z.0.0 in let qs = z.0.1 in let boxed = z.0.3.0 in let a = boxed.alloc in
    let Runs : List Val → SProp 𝓤 = λ ws. WpFn 𝓤 H 𝓣.C 𝓣.Λ fn ws ((walk_of 𝓛 En hs c).post z) in
    let tokens : Item 𝓤 = ‵ (flft κs.0 qs.0) ⊛ ‵ (flft κs.1.0 qs.1.0) ⊛ ‵ ftrue in
    let outlive : Item 𝓤 = raw (fact 𝓤 (κs.0 ⊑ X.lives)) ⊛ raw (fact 𝓤 (κs.1.0 ⊑ Z.lives)) ⊛ ‵ ftrue in
    qed 𝓛 ((tokens ⊛ ‵ (fsep ((B E).own_val boxed z.0.4.0) ftrue)) ∷ outlive ∷ []) ∵ split ! $ move ! (1
    ∷ []) $ fsplit ! $
    box_out E ! boxed z.0.4.0 (λ b o hv lies is fits. box_in E ! boxed b o boxed.value lies refl $
    let w = word E hv b o in let y : Opens.Ghost = ((κs, qs, tt, (boxed, tt), (w ∷ [], tt)), tt) in
    suffices ! (Runs (w ∷ [])) (subst (λ (us : List Val). ent 𝓤 (Runs (w ∷ [])) (Runs us)) (sym (λ i. is i ++ []))
    (id⊢ 𝓤 (Runs (w ∷ [])))) $
    -- [the box; nothing; the tokens; what outlives them]
    fjoin ! $ move ! (1 ∷ 0 ∷ []) $ join ! $ join ! $ use1 𝓛 (raw (Opens.pre y)) (id⊢ 𝓤 _) $
    enter ! _ _ _ _ _ $ alloc_all ! (λ l. pass_all ! refl (box_typed E hv b o fits, tt) $
    sets ! (of_opd ! (get ! refl)) refl (box_typed E hv b o fits) $
    calls_at ! (fm_of 𝓤 H 𝓛.laws (tables_of 𝓤 H 𝓜 𝓣)) Opens
    (met 𝓤 𝓛 𝓜 𝓡 (code.calls-std_alloc::boxed::Box::into_raw_with_allocator 𝓡.env wired) X Z LX LZ g d dd dx
    allocator drops glue) y
    (and_then ! (get ! refl) (no_more !)) (λ u.
    use1 𝓛 (later (some (λ (r : Ptr × Z.Denot). (tokens ⊛ ‵ ((Tuple (RawPtr ∷ P E ∷ [])).own_val r (u ∷ []))) ⊛ some
    (λ (_ : (Unit {0} × (Unit {0} × Unit {0})) × Unit {0}).
    ‵ (fsep (fsep ftrue (fsep ftrue ftrue)) ftrue) ⊛
    (raw (fact 𝓤 (r.1 ≡ a)) ⊛ ‵ (box_owns (token E.al a) (R E) r.0 boxed.value)))))) (id⊢ 𝓤 _) $
    await ! tt $ pick ! (λ r. split ! $ move ! (1 ∷ []) $ pick ! (λ _. split3 ! $ drop ! $ heard ! (r.1 ≡ a) (λ same.
    move ! (1 ∷ []) $ split ! $ move ! (2 ∷ 1 ∷ []) $ pair_out E ! r a boxed.value u same (λ b' o' hv' now fits'.
    let w' = word E hv' b' o' in let typed = box_typed E hv' b' o' fits' in
    let opened : D E = record { ptr = block_ptr b' o'; alloc = a; value = boxed.value } in
    let made : Made.Denot = record { to = block_ptr b' o'; alloc = a; value = boxed.value } in
    box_in E ! opened b' o' boxed.value refl refl $ use1 𝓛 (‵ (Made.own_val made (w' ∷ []))) (id⊢ 𝓤 _) $
    -- [what was a box; the tokens; the locals]
    lands_as ! now refl typed $
    sets ! (of_opd ! (get_in ! (fld ! refl (stop !)) (sub ! 0 refl (whole !)))) refl (tt, tt) $
    sets ! (of_opd ! (get_in ! (fld ! refl (stop !)) (sub ! 1 refl (whole !)))) refl fits' $
    sets ! (of_opd ! (get ! refl)) refl fits' $
    sets ! (agg ! (and_then ! (get ! refl) (and_then ! (get ! refl) (no_more !)))) refl typed $
    returns ! (look_at ! 0 refl) $ free_all ! refl $
    suffices ! _ (ends_at 𝓛 En hs c z w' made ((tt, (tt, tt)), tt) (tt, tt)) $ says ! refl $
    nothing ! $ nothing ! $ fjoin ! $ join ! $ move ! (1 ∷ 0 ∷ []) $ join ! $ done !))))))))
