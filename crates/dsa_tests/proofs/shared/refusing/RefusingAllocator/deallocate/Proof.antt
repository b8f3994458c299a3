-- The block goes back to the inner allocator, which answers nothing. No block lies at null. Assumes `Logic`.
use Rattle.dsa_tests.specs.contracts.shared.refusing.Meter as meter
use Rattle.dsa_tests.specs.contracts.shared.refusing.RefusingAllocator.deallocate as f
use Rattle.dsa_tests.proofs.shared.refusing.RefusingAllocator.deallocate.Code as code
use Rattle.std.proofs.{Common.{◌≡◌, [], ◌∷◌, refl, w64}, raw_atomic.Walks.{proved, leaves}}
use Rattle.std.proofs.alloc.Calls.{Al, seen, token, Gives, at_gives, Gives-goes, Gives-Gives}
use Rattle.dsa_tests.proofs.shared.refusing.Behind.{borrowed, inner_at, meter_at, taken_apart, handed_back}
use Rattle.dsa_tests.proofs.shared.refusing.RefusingAllocator.deallocate.Statement.{statement}
use base.Logic.{SProp, sep, via, fst∗, never}
use base.Fml.{Fml, ftrue, fsep, flft}
use mir.Syntax.{Args, Fn, a_type, dnil, dcons}
use mir.MapTy.{inst_fn}
use mir.Val.{vunit}
use prog.Memory.{size, align, capped}
use prog.Wp.{WpFn}
use contract.BorrowLft.{◌⊑◌, ⊑_trans}
use contract.Monad.{fact}
use contract.Running.{tables}
use types.Logic.{sem}
use types.Kit.{‵, raw, ◌⊛◌, later, given, prop, ◌$◌, ◌∵◌, !, qed, move, drop, keep, use1, use2, split, split3, join}
use types.Kit.{learn, fsplit, feq_i, regoal, suffices, group, await, done}
use types.Run.{stop, fld, addr, no_more, and_then, of_opd, returns, enter, unit_lit}
use types.ByLocal.{alloc_all, pass_all, free_all, look_at, get, through, sets, lands_as}
use denote.Builtin.{usize, unit, RawPtr}
use denote.Exit.{yes}
use denote.Memory.{hidden_shr}
use denote.Param.{bounded}
use denote.Plain.{uint_vals, uint_Tells}
use denote.RawPtr.{Ptr, block_ptr, null_ptr, room_for, in_a_block, rawptr_vals, rawptr_Tells}
use denote.RattleType.{owns}
use denote.Ref.{shr_vals}
use denote.Signature.{plain, types_at}
use denote.Steps.{heard, nothing}
use denote.Triple.{Call.{calls_at}, Entry.{alive}, Table.{framed}}
use denote.Triple.Walked.{Stays, stay_dropped, walk_of, Goes-dropped}

module _ (B : Al) where
  abbrev over : Args
  over = bounded (a_type ∷ []) (B.row, tt) (dcons B.d (dcons B.drops dnil))

  abbrev body : Fn
  body = inst_fn over code.function

  abbrev E : denote.Triple.Clauses.Ended
  E = f.ended B.row B.g B.d B.drops

  abbrev uses_up : Stays E.signature.params E.kept
  uses_up = (stay_dropped _ yes, (stay_dropped _ yes, (stay_dropped _ yes, (stay_dropped _ yes, tt))))

pub deallocate_spec : {M : Type 1} → statement M
deallocate_spec 𝓤 𝓛 𝓜 𝓡 wired Y laws g d drops met _ =
    let B : Al = record { row = Y; laws = laws; g = g; d = d; drops = drops } in
    let c = f.clauses Y g d drops 𝓛 𝓜.mem 𝓡.returns in
    let W = walk_of 𝓛 (E B) (uses_up B) c in
    let 𝓣 = tables 𝓤 𝓛.H 𝓜 𝓡 𝓡.env in
    let number = Goes-dropped 𝓛 2 (plain (λ _. usize)) yes (λ κs x f. refl) in
    let pointer = Goes-dropped 𝓛 2 (plain (λ _. RawPtr)) yes (λ κs x f. refl) in
    proved 𝓛 (E B) (uses_up B) c 𝓜 𝓡
    (Goes-dropped 𝓛 2 (borrowed B) yes (λ κs x f. refl), (pointer, (number, (number, tt))))
    (f.Key.name (over B)) (body B) (code.unfolded 𝓤 𝓛.H 𝓜 𝓡 wired (Y, tt) d drops)
    (λ κs. (shr_vals, (rawptr_vals, (uint_vals w64, (uint_vals w64, tt)))))
    (λ κs. ((λ r vs shown. shown.0), (rawptr_Tells, (uint_Tells w64, (uint_Tells w64, tt)))))
    (λ κs qs bounds a τ are.
    let me = a.0 in let heap = me.now.inner in let bytes = a.1.1.0 in let to = a.1.1.1.0 in
    let κ = κs.0 in let q = qs.0 in let at = inner_at B me in
    let y : Ptr → W.Ghost = λ p. (
      (
        κs,
        qs,
        bounds,
        (me, (p, (bytes, (to, tt)))),
        (shr_vals me, (rawptr_vals p, (uint_vals w64 bytes, (uint_vals w64 to, tt)))),
      ),
      τ,
    ) in
    let Sized : Type 0 = (capped (size τ) ≡ bytes) × (capped (align τ) ≡ to) in
    let Nothing : SProp 𝓤 = sep 𝓤 (sem 𝓛 (unit.own_val tt (vunit ∷ []))) (sem 𝓛 ftrue) in
    let Held : Ptr → Fml = λ p. fsep (room_for τ p) (token B heap τ p) in
    qed 𝓛 ((raw (alive 𝓛 (E B).signature κs qs) ⊛ ‵ (owns (types_at (E B).signature.params κs) a (y a.1.0).0.4))
    ∷ (raw (fact 𝓤 (κs.1.0 ⊑ Y.lives)) ⊛ raw (fact 𝓤 Sized) ⊛ ‵ (Held a.1.0)) ∷ []) ∵
    split ! $ move ! (1 ∷ []) $ fsplit ! $ keep ! (0 ∷ 2 ∷ 3 ∷ []) $
    use2 𝓛 (‵ (hidden_shr meter.the_row κ me.now.meter (meter_at B me).0 (meter_at B me).1) ⊛ ‵ (flft κ q)
    ⊛ ‵ (seen B κ at heap) ⊛ ‵ (flft κs.1.0 qs.1.0)) (taken_apart 𝓛 κs qs B me) $
    split ! $ drop ! $ split3 ! $ move ! (3 ∷ []) $ split3 ! $
    heard ! _ (λ within. heard ! Sized (λ sized.
    in_a_block ! a.1.0 Held (fst∗ 𝓤 (never 𝓤) (sem 𝓛 (token B heap τ null_ptr))) (λ b o is_block.
    regoal ! (λ p. prop (WpFn 𝓤 𝓛.H 𝓣.C 𝓣.Λ (body B) (W.args (y p)) (W.post (y p)))) is_block refl $ fsplit ! $
    -- [the room; the right to free it; a token; the inner allocator; the other token]
    enter ! _ _ _ _ _ $ alloc_all ! (λ l. pass_all ! refl
    ((tt, tt), ((tt, tt), ((tt, record { fits = are.1.1.0.1 }), ((tt, record { fits = are.1.1.1.0.1 }), tt)))) $
    sets ! (addr ! (through ! refl (fld ! refl (stop !)))) refl (tt, tt) $
    let z = at_gives B 𝓛 𝓜.mem 𝓡.returns κ q at heap b o bytes to τ in
    move ! (0 ∷ 1 ∷ 3 ∷ 2 ∷ []) $ group ! 4 $
    use1 𝓛 (raw ((Gives B 𝓛 𝓜.mem 𝓡.returns).pre z)) (Gives-goes B 𝓛 𝓜.mem 𝓡.returns κ q at heap
    (⊑_trans κ κs.1.0 Y.lives bounds.0 within) b o bytes to τ sized.0 sized.1 are.1.1.0.1 are.1.1.1.0.1) $
    calls_at ! (framed 𝓤 𝓛.H 𝓜 𝓣) (Gives B 𝓛 𝓜.mem 𝓡.returns) (met.deallocate drops) z
    (and_then ! (get ! refl) (and_then ! (get ! refl)
    (and_then ! (get ! refl) (and_then ! (get ! refl) (no_more !))))) (λ v.
    use1 𝓛 (later (given (v ≡ vunit) (‵ (flft κ q)))) (Gives-Gives B 𝓛 𝓜.mem 𝓡.returns κ q at heap b o bytes to τ v) $
    await ! tt $ learn ! (λ is_unit. lands_as ! is_unit refl (tt, tt) $ sets ! (of_opd ! (unit_lit !)) refl (tt, tt) $
    returns ! (look_at ! 0 refl) $ free_all ! refl $
    suffices ! _ (via 𝓤 _ (handed_back 𝓛 κs qs 4 Nothing) (leaves 𝓛 (E B) (uses_up B) c (y (block_ptr b o)) vunit tt
    (tt, (tt, (tt, (tt, tt)))) (tt, (tt, (tt, (tt, tt)))))) $
    nothing ! $ feq_i ! _ (vunit ∷ []) _ refl $ join ! $ done !)))))))
