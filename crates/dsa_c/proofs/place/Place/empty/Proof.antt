-- `empty` writes the null pointer beside the allocator; a place of no machine owns no more than its fields do.
use Rattle.std_heap.specs.contracts.Global as Global
use Rattle.dsa_c.specs.contracts.place.Place.empty as here
use Rattle.dsa_c.proofs.place.Place.empty.Code as code
use mathlib.Core.{Path.{refl, sym, subst}, List.{List, [], ◌∷◌, ◌++◌}}
use mir.Syntax.{w64}
use mir.Val.{Val, vint, vstruct, vnil, vcons, has_ty, WT}
use base.Logic.{SProp, ent, emp, id⊢}
use base.Fml.{ftrue, fsep}
use lib.Dec.{T, lit<}
use prog.Wp.{WpFn}
use contract.Running.{tables}
use types.Kit.{‵, raw, ◌⊛◌, ◌$◌, ◌∵◌, !, qed, move, drop, use1, join, split, fsplit, fjoin, fpack, feq_i, suffices}
use types.Kit.{done}
use types.Part.{agg}
use types.Run.{lit, no_more, and_then, returns, enter}
use types.ByLocal.{alloc_all, pass_all, free_all, look_at, get, sets}
use denote.Exit.{yes}
use denote.Param.{layout}
use denote.RattleType.{RattleType, Valss}
use denote.RawPtr.{RawPtr, null_ptr, ptr_val}
use denote.Signature.{Slot, plain, type_at}
use denote.Steps.{nothing}
use denote.Struct.{Struct.{within}, Owning.{shape}}
use denote.Triple.Walked.{says, Stays, stay_dropped, walk_of, ends_at, Goes-dropped}
use Rattle.std.{proofs.{raw_atomic.Walks.{proved_at}, alloc.Calls.{α, handle_tells}}, specs.Prelude.{None}}
use Rattle.std_alloc.proofs.{ResultValues.{and_tt}, BoxSteps.Form.{P, owning}}
use Rattle.dsa_c.proofs.{Machines.{machines}, place.Place.empty.Statement.{statement}}
use Rattle.dsa_c.specs.contracts.place.Place.empty.Key.{name as #self}

abbrev Given : Slot 0
Given = plain (λ _. Global.the_row)

abbrev Made : RattleType
Made = type_at (here.signature).result tt

abbrev stayed : Stays (here.ended).signature.params (here.ended).kept
stayed = (stay_dropped Given yes, tt)

-- the word of a place with no machine
abbrev word : Val → Val
word hv = vstruct (vcons (vint w64 0) (vcons hv vnil))

pub empty_spec : {M : Type 1} → statement M
empty_spec 𝓤 𝓛 𝓜 𝓡 wired =
    let H = 𝓛.H in let 𝓣 = tables 𝓤 H 𝓜 𝓡 𝓡.env in let c = here.clauses 𝓛 𝓜.mem 𝓡.returns in
    proved_at 𝓛 here.ended stayed c 𝓜 𝓡 (Goes-dropped 𝓛 0 Given yes (λ κs x f. refl), tt) #self code.function
    (code.unfolded 𝓤 H 𝓜 𝓡 wired) (λ z are.
    let alloc = z.0.3.0 in let made : Made.Denot = record { at = null_ptr; alloc = alloc; machine = None } in
    let Runs : List Val → SProp 𝓤 = λ ws. WpFn 𝓤 H 𝓣.C 𝓣.Λ code.function ws ((walk_of 𝓛 here.ended stayed c).post z) in
    qed 𝓛 ((‵ ftrue ⊛ ‵ (fsep (Global.the_row.own_val alloc z.0.4.0) ftrue)) ∷ raw (emp 𝓤) ∷ []) ∵
    split ! $ drop ! $ fsplit ! $ handle_tells machines.al ! alloc z.0.4.0 (λ hv is fits.
    let typed : T (has_ty (layout Made) (word hv)) × WT (word hv) =
    (and_tt (has_ty (α machines.al) hv) fits.0, (record { fits = lit< tt }, (fits.1, tt))) in
    suffices ! (Runs (hv ∷ [])) (subst (λ (us : List Val). ent 𝓤 (Runs (hv ∷ [])) (Runs us)) (sym (λ i. is i ++ []))
    (id⊢ 𝓤 (Runs (hv ∷ [])))) $
    move ! (1 ∷ 2 ∷ []) $ drop ! $ drop ! $
    -- [the allocator]
    nothing ! $ move ! (1 ∷ 0 ∷ []) $ fjoin ! $ feq_i ! (List Val) (ptr_val null_ptr ∷ []) (ptr_val null_ptr
    ∷ []) refl $ fjoin ! $
    feq_i ! (List Val) (word hv ∷ []) (word hv ∷ []) refl $ fjoin ! $
    fpack ! (Valss (RawPtr ∷ P machines ∷ []))
    (within (shape (owning machines)) (null_ptr, (alloc, tt)) (word hv ∷ [])) (
      ptr_val null_ptr
          ∷ [],
      (hv ∷ [], tt),
    ) $
    nothing ! $ move ! (1 ∷ 0 ∷ []) $ fjoin ! $ use1 𝓛 (‵ (Made.own_val made (word hv ∷ []))) (id⊢ 𝓤 _) $
    -- [the place]
    enter ! _ _ _ _ _ $ alloc_all ! (λ l. pass_all ! refl (fits, tt) $
    sets ! (agg ! (and_then ! (lit ! tt) (and_then ! (get ! refl) (no_more !)))) refl typed $
    returns ! (look_at ! 0 refl) $ free_all ! refl $
    suffices ! _ (ends_at 𝓛 here.ended stayed c z (word hv) made (tt, tt) (tt, tt)) $ says ! refl $
    nothing ! $ nothing ! $ fjoin ! $ join ! $ nothing ! $ join ! $ done !)))
