-- `machine` gives the pointer its type back, and lends what lies there; what stays behind makes a place again with any
-- machine that is left.
use Rattle.dsa_linked.specs.contracts.LinkedDevice as LinkedDevice
use Rattle.dsa_c.specs.contracts.place.Place as Place
use Rattle.dsa_c.specs.contracts.place.Place.machine as here
use Rattle.dsa_c.proofs.place.Place.machine.Code as code
use mathlib.Core.{Path.{◌≡◌, refl}, List.{List, [], ◌∷◌}}
use Prim.Native.Nat.{ℕ}
use mir.{Raw.{raw as bare}, Syntax.{named}, Val.{Val, vptr}}
use base.{Fraction.{full_share}, Logic.{SProp, ent, sep, id⊢}, Fml.{Fml, GName, ftrue, fsep, flft}}
use contract.{Monad.{fact}, Running.{tables}}
use seplogic.Ra.Ura.{Ura}
use types.Logic.{Logic, sem}
use types.Kit.{‵, raw, ◌⊛◌, ◌$◌, ◌∵◌, !, qed, move, keep, drop, use1, split, split3, join, pick, fsplit, fsplit3, fjoin}
use types.Kit.{fpack, rewrite, suffices, group, await, later, some, at_ret, frame, done}
use types.Part.{whole, sub, look_in}
use types.Run.{stop, fld, load, of_opd, addr, first, blocks, exec, returns, enter}
use types.ByLocal.{alloc_all, pass_all, free_all, look_at, get, through, sets, sets_last, env}
use denote.{Exit.{no}, Follow.{follows, Part, lends_Part}, Memory.{mem, cell_at, part_at, part_of}, RawPtr.{block_ptr}}
use denote.RattleType.{owns}
use denote.Ref.{MutRef, MutBor, mut_vals, mut_Tells}
use denote.Signature.{Slot, plain, mut_ref_to}
use denote.Steps.{heard, nothing, opens}
use denote.Triple.Walked.{says, Stays, stay_dropped, walk_of, ends_at, Goes-spent_ref}
use Rattle.std.proofs.{alloc.Calls.{token}, raw_atomic.Walks.{proved}}
use Rattle.std.specs.Prelude.{IsSome}
use Rattle.std_alloc.proofs.VecSteps.Shapes.{after}
use Rattle.std_alloc.proofs.BoxSteps.{Form.{D, B, R, τ, word, handle}, Steps.{box_out, box_in}}
use Rattle.dsa_c.proofs.{Machines.{machines, there_is}, place.Place.machine.Statement.{statement}}
use Rattle.dsa_c.specs.{Lending.{with_machine}, Place.{HeldDevice}, contracts.place.Place.machine.Key.{name as #self}}

abbrev Given : Slot 1
Given = plain (λ _. Place.the_row)

abbrev stayed : Stays (here.ended).signature.params (here.ended).kept
stayed = (stay_dropped (mut_ref_to (0 ∷ []) tt Given) no, tt)

-- what stays of a place whose machine is lent: what would free the machine, and the place's own words
abbrev Rest : Place.the_row.Denot → ℕ → ℕ → ℕ → ℕ → Val → Fml
Rest given b o rb ro hv =
    fsep (fsep (token machines.al given.alloc (bare (τ machines)) (block_ptr b o)) (handle machines given.alloc hv))
    (cell_at full_share Place.the_row.mir (word machines hv b o ∷ []) rb ro)

module _ {M : Type 1} {𝓤 : Ura M} (𝓛 : Logic 𝓤) (given : Place.the_row.Denot) (b o rb ro : ℕ) (hv : Val) where
  -- with any machine at the pointer it is a place again
  back : given.at ≡ block_ptr b o → (m : LinkedDevice.the_row.Denot)
      → ent 𝓤 (sep 𝓤 (sem 𝓛 ((mem LinkedDevice.the_row).own_at m b o)) (sem 𝓛 (Rest given b o rb ro hv)))
      (sem 𝓛 ((mem Place.the_row).own_at (with_machine given m) rb ro))
  unfolding part_of
  back lies m =
      let place = with_machine given m in let ws = word machines hv b o ∷ [] in
      let boxed : D machines = record { ptr = given.at; alloc = given.alloc; value = m } in
      qed 𝓛 (‵ (part_at (R machines) full_share m b o) ∷ ‵ (Rest given b o rb ro hv) ∷ []) ∵
      move ! (1 ∷ []) $ fsplit ! $ fsplit ! $ move ! (3 ∷ []) $ box_in machines ! boxed b o m lies refl $
      use1 𝓛 (‵ (Place.the_row.own_val place ws)) (id⊢ 𝓤 _) $ move ! (1 ∷ 0 ∷ []) $ fjoin ! $
      fpack ! (List Val) (λ us. fsep (cell_at full_share Place.the_row.mir us rb ro) (Place.the_row.own_val place us))
      ws $ done !

pub machine_spec : {M : Type 1} → statement M
machine_spec 𝓤 𝓛 𝓜 𝓡 wired =
    let H = 𝓛.H in let 𝓣 = tables 𝓤 H 𝓜 𝓡 𝓡.env in let c = here.clauses 𝓛 𝓜.mem 𝓡.returns in
    let goes = Goes-spent_ref 𝓛 1 (0 ∷ []) tt Given in
    proved 𝓛 here.ended stayed c 𝓜 𝓡 (goes, tt) #self code.function (code.unfolded 𝓤 H 𝓜 𝓡 wired)
    (λ κs. (mut_vals, tt)) (λ κs. (mut_Tells (named 0) κs.0 Place.the_row, tt)) (λ κs qs bounds a g are.
    let κ = κs.0 in let q = qs.0 in let given = a.0.now in let γ = a.0.ghost_name in
    let rb = a.0.ref_ptr.0 in let ro = a.0.ref_ptr.1 in let at = vptr rb ro in
    let lent : Fml = owns (MutRef (named 0) κ Place.the_row ∷ []) a (at ∷ [], tt) in
    let y : (walk_of 𝓛 here.ended stayed c).Ghost = ((κs, qs, bounds, a, (at ∷ [], tt)), g) in
    let Post : Val → SProp 𝓤 = (walk_of 𝓛 here.ended stayed c).post y in
    qed 𝓛 (((‵ (flft κ q) ⊛ ‵ ftrue) ⊛ ‵ lent) ∷ raw (fact 𝓤 (IsSome given.machine)) ∷ []) ∵
    move ! (1 ∷ []) $ heard ! (IsSome given.machine) (λ there.
    let m = (there_is given.machine there).0 in let held = (there_is given.machine there).1 in
    let boxed : D machines = record { ptr = given.at; alloc = given.alloc; value = m } in
    split ! $ split ! $ move ! (2 ∷ []) $ fsplit ! $ fsplit3 ! $ drop ! $ move ! (0 ∷ 1 ∷ 3 ∷ []) $
    -- [what was seen; the borrow; its token]
    enter ! _ _ _ _ _ $ alloc_all ! (λ l. pass_all ! refl ((tt, tt), tt) $
    opens ! tt Place.the_row {h = given} rb ro (λ vs. move ! (1 ∷ []) $
    rewrite ! 0 (λ (o : HeldDevice). ‵
    (Place.the_row.own_val (record { at = given.at; alloc = given.alloc; machine = o }) vs)) held refl $
    use1 𝓛 (‵ ((B machines).own_val boxed vs)) (id⊢ 𝓤 _) $ box_out machines ! boxed vs (λ b o hv lies ws fits.
    move ! (1 ∷ 2 ∷ []) $ fjoin ! $ move ! (2 ∷ []) $
    rewrite ! 0 (λ (us : List Val). ‵ (cell_at full_share Place.the_row.mir us rb ro)) ws refl $
    first ! $ blocks ! $
    sets ! (of_opd ! (load ! (through ! refl (fld ! refl (stop !)))
    (look_in ! 0 (sub ! 0 refl (whole !))))) refl (tt, tt) $
    sets ! (of_opd ! (get ! refl)) refl (tt, tt) $ sets_last ! (addr ! (through ! refl (stop !))) refl (tt, tt) $
    let locals = env code.function.locals l in
    exec ! 𝓣.C 𝓣.Λ locals (after 1 code.function.body) (at_ret locals Post) $
    sets ! (of_opd ! (get ! refl)) refl (tt, tt) $
    move ! (1 ∷ 0 ∷ []) $ fjoin ! $ move ! (2 ∷ 3 ∷ 4 ∷ 1 ∷ 0 ∷ []) $ group ! 5 $
    let value = Place.the_row.coded.code given in let makes = with_machine given in
    let rest = sem 𝓛 (Rest given b o rb ro hv) in
    let whole_again = back 𝓛 given b o rb ro hv lies in
    use1 𝓛 (later (some (λ (γ' : GName). raw (
    Part 𝓛 Place.the_row LinkedDevice.the_row makes (named 0) κ q rb ro b o γ rest whole_again m γ')))) (
    lends_Part 𝓛 Place.the_row LinkedDevice.the_row makes (named 0) κ q rb ro b o γ rest whole_again value value m) $
    await ! tt $ pick ! (λ γ'.
    let loan : MutBor LinkedDevice.the_row.Denot = record { ref_ptr = (b, o); ghost_name = γ'; now = m } in
    let out : Fml = (MutRef (named 0) κ LinkedDevice.the_row).own_val loan (vptr b o ∷ []) in
    returns ! (look_at ! 0 refl) $ free_all ! refl $
    use1 𝓛 (‵ out ⊛ ‵ (flft κ q) ⊛ ‵ (follows Place.the_row LinkedDevice.the_row γ γ' makes)) (id⊢ 𝓤 _) $ split3 ! $
    suffices ! _ (ends_at 𝓛 here.ended stayed c y (vptr b o) loan (tt, tt) (tt, tt)) $
    keep ! (0 ∷ 1 ∷ 2 ∷ []) $ nothing ! $ nothing ! $ fjoin ! $ join ! $ nothing ! $
    move ! (2 ∷ 0 ∷ []) $ join ! $ join ! $ frame ! $ says ! held $ done !))))))
