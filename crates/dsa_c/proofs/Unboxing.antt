-- The pair that `into_raw_with_allocator` gives, taken apart. Assumes `Logic`.
use mathlib.Core.{Path.{◌≡◌, refl, ap, ◌∙◌}, List.{List, [], ◌∷◌, ◌++◌}}
use Prim.Native.Nat.{ℕ}
use seplogic.Ra.Ura.{Ura}
use mir.Raw.{raw as bare}
use mir.Val.{Val, vstruct, of_list}
use base.Logic.{fst∗, never}
use base.Fraction.{full_share}
use types.Logic.{Logic, sem}
use types.Kit.{Goal, Seq, Item, ‵, ◌$◌, move, drop, rewrite, fsplit, fpick, feq_l}
use denote.Memory.{part_at}
use denote.RawPtr.{Ptr, RawPtr, block_ptr, null_ptr, ptr_val, in_a_block}
use denote.Steps.{only}
use denote.Struct.Tuple.{Tuple}
use Rattle.std.{proofs.alloc.Calls.{token, Fits, handle_tells}, specs.Box.Ownership.{box_owns}}
use Rattle.std_alloc.proofs.BoxSteps.Form.{Bx, X, τ, R, P, word, handle}

module _ (E : Bx) {M : Type 1} {𝓤 : Ura M} {𝓛 : Logic 𝓤} {K : Type 0} {Γ : List (Item 𝓤)} {G : Goal 𝓤 𝓛.H} where
  -- a pointer to a value that is owned, beside its allocator, is one word that a box could be
  pub pair_out : K → (r : Ptr × E.al.row.Denot) (a : E.al.row.Denot) (x : X E) (u : Val) → r.1 ≡ a
      → ((b o : ℕ) (hv : Val) → u ≡ word E hv b o → Fits E.al hv
      → Seq K 𝓛 (‵ (part_at (R E) full_share x b o) ∷ ‵ (token E.al a (bare (τ E)) (block_ptr b o))
      ∷ ‵ (handle E a hv) ∷ Γ) G)
      → Seq K 𝓛 (‵ (box_owns (token E.al a) (R E) r.0 x) ∷ ‵ ((Tuple (RawPtr ∷ P E ∷ [])).own_val r (u ∷ [])) ∷ Γ) G
  pair_out t r a x u same then =
      in_a_block t r.0 (λ p. box_owns (token E.al a) (R E) p x)
      (fst∗ 𝓤 (never 𝓤) (sem 𝓛 (token E.al a (bare (τ E)) null_ptr))) (λ b o lies.
      move t (1 ∷ []) $ fpick t (λ words. fsplit t $ feq_l t (λ whole. fsplit t $ feq_l t (λ first. fsplit t $
      rewrite t 0 (λ (s : E.al.row.Denot). ‵ (E.al.row.own_val s words.1.0)) same refl $
      handle_tells E.al t a words.1.0 (λ hv second fits.
      move t (1 ∷ []) $ drop t $ move t (1 ∷ []) $ fsplit t $
      then b o hv (ap only (whole ∙ (λ i.
      vstruct (of_list ((first ∙ ap (λ (p : Ptr). ptr_val p ∷ []) lies) i ++ (second i ++ []))) ∷ []))) fits)))))
