-- The meter is asked first. Then the request is refused, or answered as the inner allocator answers. Assumes `Logic`.
use Rattle.dsa_tests.specs.contracts.shared.refusing.Meter as meter
use Rattle.dsa_tests.specs.contracts.shared.refusing.Meter.refuses as r
use Rattle.dsa_tests.specs.contracts.shared.refusing.RefusingAllocator.allocate as f
use Rattle.dsa_tests.proofs.shared.refusing.RefusingAllocator.allocate.Code as code
use Rattle.std.proofs.Common.{◌≡◌, false, true, [], ◌∷◌, Ok, Err, refl, ap, w64, Bor}
use Rattle.std.proofs.raw_atomic.Walks.{proved, leaves}
use Rattle.std.proofs.alloc.Calls.{Al, seen, Answer, answer_val, Answer-typed, Answer-Ok, Answer-err, Takes, at_takes}
use Rattle.std.proofs.alloc.Calls.{Answered, Takes-goes, Takes-gives, answers}
use Rattle.std.proofs.alloc.Shapes.{after}
use Rattle.dsa_tests.proofs.shared.refusing.Behind.{borrowed, inner_at, meter_at, taken_apart, handed_back}
use Rattle.dsa_tests.proofs.shared.refusing.Meter.refuses.Met.{met as refuses_met}
use Rattle.dsa_tests.proofs.shared.refusing.RefusingAllocator.allocate.Statement.{statement}
use mathlib.Core.Bool.{Bool}
use base.Fml.{ftrue, fsep, flft}
use base.Logic.{SProp, ent, sep, via, id⊢}
use mir.Syntax.{Args, Fn, a_type, dnil, dcons}
use mir.MapTy.{inst_fn}
use mir.Val.{Val}
use prog.Memory.{size, align, capped}
use contract.BorrowLft.{◌⊑◌, ⊑_trans}
use contract.Monad.{fact}
use contract.Running.{tables}
use types.Logic.{sem}
use types.Kit.{‵, raw, ◌⊛◌, some, later, at_ret, prop, Sq, ◌$◌, ◌∵◌, !, qed, move, keep, drop, use0, use1, use2}
use types.Kit.{split, split3, join, pick, fsplit, fjoin, feq_i, feq_l, suffices, await, done}
use types.Run.{stop, fld, addr, no_more, and_then, returns, returns_within, enter, lit, first, branches, skips, exec}
use types.ByLocal.{alloc_all, pass_all, free_all, look_at, get, through, sets, lands_as, env}
use types.Part.{agg}
use denote.Builtin.{usize, bool}
use denote.Exit.{yes}
use denote.Memory.{hidden_shr}
use denote.Param.{bounded}
use denote.Plain.{uint_vals, uint_Tells}
use denote.RattleType.{owns}
use denote.RawPtr.{block_ptr}
use denote.Ref.{shr_vals}
use denote.Signature.{plain, types_at}
use denote.Steps.{heard, nothing, only}
use denote.Triple.{Call.{calls_at}, Clauses.{at_exit}, Entry.{alive}, Spec.{triple_of}, Table.{framed}}
use denote.Triple.Walked.{Stays, stay_dropped, walk_of, Goes-dropped}

module _ (B : Al) where
  abbrev over : Args
  over = bounded (a_type ∷ []) (B.row, tt) (dcons B.d (dcons B.drops dnil))

  abbrev body : Fn
  body = inst_fn over code.function

  abbrev E : denote.Triple.Clauses.Ended
  E = f.ended B.row B.g B.d B.drops

  abbrev uses_up : Stays E.signature.params E.kept
  uses_up = (stay_dropped _ yes, (stay_dropped _ yes, (stay_dropped _ yes, tt)))

pub allocate_spec : {M : Type 1} → statement M
allocate_spec 𝓤 𝓛 𝓜 𝓡 wired Y laws g d drops met _ =
    let B : Al = record { row = Y; laws = laws; g = g; d = d; drops = drops } in
    let c = f.clauses Y g d drops 𝓛 𝓜.mem 𝓡.returns in
    let W = walk_of 𝓛 (E B) (uses_up B) c in
    let 𝓣 = tables 𝓤 𝓛.H 𝓜 𝓡 𝓡.env in
    let number = Goes-dropped 𝓛 2 (plain (λ _. usize)) yes (λ κs x f. refl) in
    proved 𝓛 (E B) (uses_up B) c 𝓜 𝓡
    (Goes-dropped 𝓛 2 (borrowed B) yes (λ κs x f. refl), (number, (number, tt)))
    (f.Key.name (over B)) (body B) (code.unfolded 𝓤 𝓛.H 𝓜 𝓡 wired (Y, tt) d drops)
    (λ κs. (shr_vals, (uint_vals w64, (uint_vals w64, tt))))
    (λ κs. ((λ r vs shown. shown.0), (uint_Tells w64, (uint_Tells w64, tt))))
    (λ κs qs bounds a τ are.
    let me = a.0 in let heap = me.now.inner in let bytes = a.1.0 in let to = a.1.1.0 in
    let κ = κs.0 in let q = qs.0 in let at = inner_at B me in
    let y : W.Ghost = ((κs, qs, bounds, a, (shr_vals me, (uint_vals w64 bytes, (uint_vals w64 to, tt)))), τ) in
    let Sized : Type 0 = (capped (size τ) ≡ bytes) × (capped (align τ) ≡ to) in
    let Said : Answer.Denot → Val → SProp 𝓤 = λ answer v. sep 𝓤 (sem 𝓛 (Answer.own_val answer (v ∷ [])))
    ((c κs a).ensures τ answer (at_exit (E B) κs a (tt, (tt, (tt, tt))))) in
    let ends : (answer : Answer.Denot) (v : Val)
    → ent 𝓤 (sep 𝓤 (Said answer v) (sep 𝓤 (sem 𝓛 (flft κ q)) (sem 𝓛 (flft κs.1.0 qs.1.0)))) (W.post y v) =
    λ answer v. via 𝓤 _ (handed_back 𝓛 κs qs 3 (Said answer v))
    (leaves 𝓛 (E B) (uses_up B) c y v answer (tt, (tt, (tt, tt))) (tt, (tt, (tt, tt)))) in
    let refused : Sq 𝓛 (‵ (flft κ q) ∷ ‵ (flft κs.1.0 qs.1.0) ∷ []) (prop (W.post y (answer_val false 0 0))) =
    suffices ! _ (ends (Err (record {})) (answer_val false 0 0)) $ nothing ! $
    use0 𝓛 (‵ (Answer.own_val (Err (record {})) (answer_val false 0 0 ∷ []))) (Answer-err 𝓛) $ join ! $ done ! in
    let counted : Bor meter.the_row.Denot = record { ref_ptr = meter_at B me; now = me.now.meter } in
    let Asked = triple_of 𝓛 r.signature (r.spec 𝓛 𝓜.mem 𝓡.returns) in
    let x : Asked.Ghost = (((κ, tt), (q, tt), tt, (counted, tt), (shr_vals counted, tt)), tt) in
    let z = at_takes B 𝓛 𝓜.mem 𝓡.returns κ q at heap bytes to τ in
    qed 𝓛 ((raw (alive 𝓛 (E B).signature κs qs) ⊛ ‵ (owns (types_at (E B).signature.params κs) a y.0.4))
    ∷ (raw (fact 𝓤 (κs.1.0 ⊑ Y.lives)) ⊛ raw (fact 𝓤 Sized)) ∷ []) ∵
    split ! $ move ! (2 ∷ []) $ split ! $ heard ! _ (λ within. heard ! Sized (λ sized.
    move ! (1 ∷ []) $ fsplit ! $ keep ! (0 ∷ 2 ∷ []) $
    use2 𝓛 (‵ (hidden_shr meter.the_row κ me.now.meter counted.ref_ptr.0 counted.ref_ptr.1) ⊛ ‵ (flft κ q)
    ⊛ ‵ (seen B κ at heap) ⊛ ‵ (flft κs.1.0 qs.1.0)) (taken_apart 𝓛 κs qs B me) $ split ! $ move ! (1 ∷ []) $ split3 ! $
    enter ! _ _ _ _ _ $ alloc_all ! (λ l. pass_all ! refl
    ((tt, tt), ((tt, record { fits = are.1.0.1 }), ((tt, record { fits = are.1.1.0.1 }), tt))) $
    -- [a token; the inner allocator; the other token; the meter]
    sets ! (addr ! (through ! refl (fld ! refl (stop !)))) refl (tt, tt) $
    nothing ! $ move ! (1 ∷ 0 ∷ []) $ join ! $ nothing ! $ move ! (4 ∷ []) $
    feq_i ! _ (shr_vals counted) _ refl $ fjoin ! $ join ! $ move ! (1 ∷ 0 ∷ []) $ join ! $
    nothing ! $ move ! (1 ∷ 0 ∷ []) $ use2 𝓛 (raw (Asked.pre x)) (id⊢ 𝓤 _) $
    calls_at ! (framed 𝓤 𝓛.H 𝓜 𝓣) Asked
    (refuses_met 𝓤 𝓛 𝓜 𝓡 (code.calls-dsa_tests::shared::refusing::Meter::refuses 𝓡.env wired)) x
    (and_then ! (get ! refl) (no_more !)) (λ u.
    use1 𝓛 (later (some (λ (no : Bool). ((‵ (flft κ q) ⊛ ‵ ftrue) ⊛ ‵ (bool.own_val no (u ∷ [])))
    ⊛ some (λ (ws : Unit {0} × Unit {0}). ‵ (fsep ftrue ftrue) ⊛ ‵ ftrue)))) (id⊢ 𝓤 _) $
    await ! tt $ pick ! (λ no. split ! $ move ! (1 ∷ []) $ drop ! $ split ! $ move ! (1 ∷ []) $ feq_l ! (λ is_no.
    split ! $ move ! (1 ∷ []) $ drop ! $ lands_as ! (ap only is_no) refl (tt, tt) $
    first ! $ branches ! (get ! refl)
    (λ _. move ! (1 ∷ []) $ drop ! $ sets ! (agg ! (no_more !)) refl (tt, tt) $
    sets ! (agg ! (and_then ! (lit ! tt) (and_then ! (get ! refl) (no_more !)))) refl (Answer-typed false 0 0) $
    returns_within ! (W.post y) refl (look_at ! 0 refl) $ free_all ! refl $ refused)
    (λ _. skips ! $
    exec ! 𝓣.C 𝓣.Λ (env (body B).locals l) (after 3 (body B).body) (at_ret _ (W.post y)) $
    sets ! (addr ! (through ! refl (fld ! refl (stop !)))) refl (tt, tt) $ move ! (1 ∷ 0 ∷ []) $
    use2 𝓛 (raw ((Takes B 𝓛 𝓜.mem 𝓡.returns).pre z)) (Takes-goes B 𝓛 𝓜.mem 𝓡.returns κ q at heap
    (⊑_trans κ κs.1.0 Y.lives bounds.0 within) bytes to τ sized.0 sized.1 are.1.0.1 are.1.1.0.1) $
    calls_at ! (framed 𝓤 𝓛.H 𝓜 𝓣) (Takes B 𝓛 𝓜.mem 𝓡.returns) (met.allocate drops) z
    (and_then ! (get ! refl) (and_then ! (get ! refl) (and_then ! (get ! refl) (no_more !)))) (λ v.
    use1 𝓛 (later (raw (Answered B 𝓛 𝓜.mem 𝓡.returns heap τ v) ⊛ ‵ (flft κ q)))
    (Takes-gives B 𝓛 𝓜.mem 𝓡.returns κ q at heap bytes to τ v) $ await ! tt $ split ! $
    answers B ! 𝓜.mem 𝓡.returns heap τ v
    (λ b o is_block. lands_as ! is_block refl (Answer-typed true b o) $ returns ! (look_at ! 0 refl) $ free_all ! refl $
    suffices ! _ (ends (Ok (block_ptr b o)) (answer_val true b o)) $ fjoin ! $
    use0 𝓛 (‵ (Answer.own_val (Ok (block_ptr b o)) (answer_val true b o ∷ []))) (Answer-Ok 𝓛 b o) $ join ! $ done !)
    (λ is_none. lands_as ! is_none refl (Answer-typed false 0 0) $ returns ! (look_at ! 0 refl) $ free_all ! refl $
    refused))))))))))
