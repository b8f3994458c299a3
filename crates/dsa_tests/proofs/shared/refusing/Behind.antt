-- What both methods do with a `&Refusing<B>`: they take it apart on the way in, and have nothing left on the way out.
-- Assumes `Logic`.
use Rattle.dsa_tests.specs.contracts.shared.refusing.Meter as meter
use Rattle.dsa_tests.specs.contracts.shared.refusing.Refusing as refusing
use Rattle.std.proofs.{Common.{ℕ, ◌+◌, [], ◌∷◌, Bor}, alloc.Calls.{Al, α, seen}}
use Prim.Native.Nat.{zero, suc}
use seplogic.Ra.Ura.{Ura}
use base.Logic.{SProp, ent, emp, sep, id⊢}
use base.Fml.{Fml, ftrue, flft, fsep}
use prog.Memory.{size, align, up}
use types.Logic.{Logic, sem}
use types.Kit.{‵, raw, ◌⊛◌, ◌$◌, ◌∵◌, !, qed, move, keep, use0, use1, split3, join, fsplit, fjoin, group, done}
use contract.Lifetimes.{Lfts, Shares}
use denote.RattleType.{RattleType}
use denote.Ref.{shr_vals}
use denote.Opens.{unhide}
use denote.Param.{param}
use denote.Memory.{hidden_shr}
use denote.Builtin.{RefOf}
use denote.Signature.{Slot, plain}
use denote.Steps.{nothing}

-- what is left of so many parameters
abbrev pub spent : ℕ → Fml
spent zero = ftrue
spent (suc n) = fsep ftrue (spent n)

module _ (B : Al) where
  abbrev pub Refuser : RattleType
  Refuser = refusing.the_row B.row

  abbrev pub borrowed : Slot 2
  borrowed = RefOf (0 ∷ []) tt (plain (λ _. refusing.the_row (param 0 B.row))) (λ _. tt)

  module _ (me : Bor Refuser.Denot) where
    abbrev pub inner_at : ℕ × ℕ
    inner_at = (me.ref_ptr.0, me.ref_ptr.1 + up (align (α B)) 0)

    abbrev pub meter_at : ℕ × ℕ
    meter_at = (me.ref_ptr.0, me.ref_ptr.1 + up 8 (up (align (α B)) 0 + size (α B)))

module _ {M : Type 1} {𝓤 : Ura M} (𝓛 : Logic 𝓤) where
  all_spent : (n : ℕ) → ent 𝓤 (emp 𝓤) (sem 𝓛 (spent n))
  all_spent zero = qed 𝓛 [] ∵ nothing ! $ done !
  all_spent (suc n) = qed 𝓛 [] ∵ use0 𝓛 (‵ (spent n)) (all_spent n) $ nothing ! $ fjoin ! $ done !

  module _ (κs : Lfts 2) (qs : Shares 2) where
    abbrev token₀ : Fml
    token₀ = flft κs.0 qs.0

    abbrev token₁ : Fml
    token₁ = flft κs.1.0 qs.1.0

    pub taken_apart : (B : Al) (me : Bor (Refuser B).Denot) → ent 𝓤
        (sep 𝓤 (sem 𝓛 (((borrowed B).row κs).own_val me (shr_vals me)))
        (sep 𝓤 (sem 𝓛 token₀) (sep 𝓤 (sem 𝓛 token₁) (sem 𝓛 ftrue))))
        (sep 𝓤 (sem 𝓛 (hidden_shr meter.the_row κs.0 me.now.meter (meter_at B me).0 (meter_at B me).1))
        (sep 𝓤 (sem 𝓛 token₀) (sep 𝓤 (sem 𝓛 (seen B κs.0 (inner_at B me) me.now.inner)) (sem 𝓛 token₁))))
    taken_apart B me =
        qed 𝓛 (‵ (((borrowed B).row κs).own_val me (shr_vals me)) ∷ (‵ token₀ ⊛ ‵ token₁ ⊛ ‵ ftrue) ∷ []) ∵
        fsplit ! $ move ! (2 ∷ []) $ split3 ! $ move ! (4 ∷ []) $
        -- [what lies behind the `&`; token₀; token₁; nothing; where it lies]
        unhide ! $ fsplit ! $ fsplit ! $ move ! (1 ∷ []) $ fsplit ! $ keep ! (2 ∷ 0 ∷ 4 ∷ 5 ∷ []) $
        use1 𝓛 (‵ (seen B κs.0 (inner_at B me) me.now.inner)) (id⊢ 𝓤 _) $ move ! (1 ∷ 2 ∷ []) $ done !

    pub handed_back : (n : ℕ) (P : SProp 𝓤) → ent 𝓤
        (sep 𝓤 P (sep 𝓤 (sem 𝓛 token₀) (sem 𝓛 token₁)))
        (sep 𝓤 (sep 𝓤 (sem 𝓛 token₀) (sep 𝓤 (sem 𝓛 token₁) (sem 𝓛 ftrue))) (sep 𝓤 (sem 𝓛 (spent n)) P))
    handed_back n P =
        qed 𝓛 (raw P ∷ ‵ token₀ ∷ ‵ token₁ ∷ []) ∵ use0 𝓛 (‵ (spent n)) (all_spent n) $ join ! $
        nothing ! $ move ! (2 ∷ 3 ∷ 0 ∷ []) $ group ! 3 $ done !
