-- `of` writes the pointer down under another type; what the parts own, the place owns.
use Rattle.std_heap.specs.contracts.Global as Global
use Rattle.std_heap.specs.contracts.GlobalAllocator.TheImpl as heap
use Rattle.dsa_linked.specs.contracts.LinkedDevice as LinkedDevice
use Rattle.dsa_c.specs.contracts.unboxed.Unboxed as Unboxed
use Rattle.dsa_c.specs.contracts.place.Place.of as here
use Rattle.dsa_c.proofs.place.Place.of.Code as code
use mathlib.Core.{Path.{refl, sym, subst}, List.{List, [], ◌∷◌, ◌++◌}}
use mir.Val.{Val}
use base.Logic.{SProp, ent, emp, id⊢}
use base.Fml.{ftrue, fsep}
use prog.Wp.{WpFn}
use contract.Running.{tables}
use types.Kit.{‵, raw, ◌⊛◌, ◌$◌, ◌∵◌, !, qed, move, drop, use1, join, split, fsplit, fjoin, suffices, done}
use types.Part.{whole, sub, agg}
use types.Run.{stop, fld, no_more, and_then, of_opd, returns, enter}
use types.ByLocal.{alloc_all, pass_all, free_all, look_at, get, get_in, sets}
use denote.Exit.{yes}
use denote.RattleType.{RattleType}
use denote.Signature.{Slot, plain, type_at}
use denote.Steps.{nothing}
use denote.Triple.Walked.{says, Stays, stay_dropped, walk_of, ends_at, Goes-dropped}
use Rattle.std.{proofs.raw_atomic.Walks.{proved_at}, specs.Prelude.{Some}}
use Rattle.std_alloc.proofs.BoxSteps.{Form.{D, B, word, box_typed}, Steps.{box_out, box_in}}
use Rattle.dsa_c.proofs.{Machines.{machines}, place.Place.of.Statement.{statement}}
use Rattle.dsa_c.specs.contracts.place.Place.of.Key.{name as #self}

abbrev Given : Slot 0
Given = plain (λ _. Unboxed.the_row LinkedDevice.the_row Global.the_row heap.ghosts)

abbrev Made : RattleType
Made = type_at (here.signature).result tt

abbrev stayed : Stays (here.ended).signature.params (here.ended).kept
stayed = (stay_dropped Given yes, tt)

pub of_spec : {M : Type 1} → statement M
of_spec 𝓤 𝓛 𝓜 𝓡 wired =
    let H = 𝓛.H in let 𝓣 = tables 𝓤 H 𝓜 𝓡 𝓡.env in let c = here.clauses 𝓛 𝓜.mem 𝓡.returns in
    proved_at 𝓛 here.ended stayed c 𝓜 𝓡 (Goes-dropped 𝓛 0 Given yes (λ κs x f. refl), tt) #self code.function
    (code.unfolded 𝓤 H 𝓜 𝓡 wired) (λ z are.
    let given = z.0.3.0 in let boxed : D machines =
    record { ptr = given.to; alloc = given.alloc; value = given.value } in
    let made : Made.Denot = record { at = given.to; alloc = given.alloc; machine = Some given.value } in
    let Runs : List Val → SProp 𝓤 = λ ws. WpFn 𝓤 H 𝓣.C 𝓣.Λ code.function ws ((walk_of 𝓛 here.ended stayed c).post z) in
    qed 𝓛 ((‵ ftrue ⊛ ‵ (fsep ((B machines).own_val boxed z.0.4.0) ftrue)) ∷ raw (emp 𝓤) ∷ []) ∵
    split ! $ drop ! $ fsplit ! $ box_out machines ! boxed z.0.4.0 (λ b o hv lies is fits.
    let w = word machines hv b o in let typed = box_typed machines hv b o fits in
    suffices ! (Runs (w ∷ [])) (subst (λ (us : List Val). ent 𝓤 (Runs (w ∷ [])) (Runs us)) (sym (λ i. is i ++ []))
    (id⊢ 𝓤 (Runs (w ∷ [])))) $
    box_in machines ! boxed b o boxed.value lies refl $ use1 𝓛 (‵ (Made.own_val made (w ∷ []))) (id⊢ 𝓤 _) $ move ! (1
    ∷ 2 ∷ []) $ drop ! $ drop ! $
    -- [the place]
    enter ! _ _ _ _ _ $ alloc_all ! (λ l. pass_all ! refl (typed, tt) $
    sets ! (of_opd ! (get_in ! (fld ! refl (stop !)) (sub ! 0 refl (whole !)))) refl (tt, tt) $
    sets ! (of_opd ! (get_in ! (fld ! refl (stop !)) (sub ! 1 refl (whole !)))) refl fits $
    sets ! (of_opd ! (get ! refl)) refl (tt, tt) $
    sets ! (agg ! (and_then ! (get ! refl) (and_then ! (get ! refl) (no_more !)))) refl typed $
    returns ! (look_at ! 0 refl) $ free_all ! refl $
    suffices ! _ (ends_at 𝓛 here.ended stayed c z w made (tt, tt) (tt, tt)) $ says ! refl $
    nothing ! $ nothing ! $ fjoin ! $ join ! $ nothing ! $ join ! $ done !)))
