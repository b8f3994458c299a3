-- `unboxed` gives the pointer its type back; the place has a machine, so it owns what the parts own.
use Rattle.dsa_c.specs.contracts.place.Place as Place
use Rattle.dsa_c.specs.contracts.place.Place.unboxed as here
use Rattle.dsa_c.proofs.place.Place.unboxed.Code as code
use mathlib.Core.{Path.{◌≡◌, refl, sym, subst}, List.{List, [], ◌∷◌, ◌++◌}}
use mir.Val.{Val}
use base.Logic.{SProp, ent, id⊢}
use base.Fml.{ftrue, fsep}
use prog.Wp.{WpFn}
use contract.Monad.{fact}
use contract.Running.{tables}
use types.Kit.{‵, raw, ◌⊛◌, ◌$◌, ◌∵◌, !, qed, move, drop, use1, join, split, fsplit, fjoin, rewrite, suffices, done}
use types.Part.{whole, sub, agg}
use types.Run.{stop, fld, no_more, and_then, of_opd, returns, enter}
use types.ByLocal.{alloc_all, pass_all, free_all, look_at, get, get_in, sets}
use denote.Exit.{yes}
use denote.RattleType.{RattleType}
use denote.Signature.{Slot, plain, type_at}
use denote.Steps.{heard, nothing}
use denote.Triple.Walked.{says, Stays, stay_dropped, walk_of, ends_at, Goes-dropped}
use Rattle.std.{proofs.raw_atomic.Walks.{proved_at}, specs.Prelude.{IsSome}}
use Rattle.std_alloc.proofs.BoxSteps.{Form.{D, B, word, box_typed}, Steps.{box_out, box_in}}
use Rattle.dsa_c.proofs.{Machines.{machines, there_is}, place.Place.unboxed.Statement.{statement}}
use Rattle.dsa_c.specs.{Place.{HeldDevice}, contracts.place.Place.unboxed.Key.{name as #self}}

abbrev Given : Slot 0
Given = plain (λ _. Place.the_row)

abbrev Made : RattleType
Made = type_at (here.signature).result tt

abbrev stayed : Stays (here.ended).signature.params (here.ended).kept
stayed = (stay_dropped Given yes, tt)

pub unboxed_spec : {M : Type 1} → statement M
unboxed_spec 𝓤 𝓛 𝓜 𝓡 wired =
    let H = 𝓛.H in let 𝓣 = tables 𝓤 H 𝓜 𝓡 𝓡.env in let c = here.clauses 𝓛 𝓜.mem 𝓡.returns in
    proved_at 𝓛 here.ended stayed c 𝓜 𝓡 (Goes-dropped 𝓛 0 Given yes (λ κs x f. refl), tt) #self code.function
    (code.unfolded 𝓤 H 𝓜 𝓡 wired) (λ z are.
    let given = z.0.3.0 in
    let Runs : List Val → SProp 𝓤 = λ ws. WpFn 𝓤 H 𝓣.C 𝓣.Λ code.function ws ((walk_of 𝓛 here.ended stayed c).post z) in
    qed 𝓛 ((‵ ftrue ⊛ ‵ (fsep (Place.the_row.own_val given z.0.4.0) ftrue)) ∷ raw (fact 𝓤 (IsSome given.machine))
    ∷ []) ∵
    split ! $ drop ! $ fsplit ! $ move ! (2 ∷ []) $ heard ! (IsSome given.machine) (λ some.
    let m = (there_is given.machine some).0 in let held = (there_is given.machine some).1 in
    let boxed : D machines = record { ptr = given.at; alloc = given.alloc; value = m } in
    let made : Made.Denot = record { to = given.at; alloc = given.alloc; value = m } in
    rewrite ! 0 (λ (o : HeldDevice). ‵
    (Place.the_row.own_val (record { at = given.at; alloc = given.alloc; machine = o }) z.0.4.0)) held refl $
    use1 𝓛 (‵ ((B machines).own_val boxed z.0.4.0)) (id⊢ 𝓤 _) $ box_out machines ! boxed z.0.4.0 (λ b o hv lies is fits.
    let w = word machines hv b o in let typed = box_typed machines hv b o fits in
    suffices ! (Runs (w ∷ [])) (subst (λ (us : List Val). ent 𝓤 (Runs (w ∷ [])) (Runs us)) (sym (λ i. is i ++ []))
    (id⊢ 𝓤 (Runs (w ∷ [])))) $
    box_in machines ! boxed b o m lies refl $ use1 𝓛 (‵ (Made.own_val made (w ∷ []))) (id⊢ 𝓤 _) $ move ! (1
    ∷ []) $ drop ! $
    -- [what was a box]
    enter ! _ _ _ _ _ $ alloc_all ! (λ l. pass_all ! refl (typed, tt) $
    sets ! (of_opd ! (get_in ! (fld ! refl (stop !)) (sub ! 0 refl (whole !)))) refl (tt, tt) $
    sets ! (of_opd ! (get_in ! (fld ! refl (stop !)) (sub ! 1 refl (whole !)))) refl fits $
    sets ! (of_opd ! (get ! refl)) refl (tt, tt) $
    sets ! (agg ! (and_then ! (get ! refl) (and_then ! (get ! refl) (no_more !)))) refl typed $
    returns ! (look_at ! 0 refl) $ free_all ! refl $
    suffices ! _ (ends_at 𝓛 here.ended stayed c z w made (tt, tt) (tt, tt)) $ says ! held $
    nothing ! $ nothing ! $ fjoin ! $ join ! $ nothing ! $ join ! $ done !))))
