-- Whether the same execution goes on behind the next step.
use Rattle.std.proofs.Common.{◌⊎◌, inl, inr, List, [], ◌∷◌, Option, Some, None}
use Rattle.uc_machine.specs.declared.exec.UnwindReason.{UnwindReason}
use Rattle.uc_machine.specs.declared.exec.UnwindReason.TheVariants as reason
use Rattle.uc_machine.specs.Pieces as pc
use Rattle.uc_machine.specs.Pieces.{Todo}
use Rattle.uc_life_laws.specs.Kinds.{Returns, GoesPast, GoesOn}

returns_or : (why : Option UnwindReason) → Returns why ⊎ (Returns why → ⊥)
returns_or (Some (reason.ReturnTo k)) = inl tt
returns_or (Some reason.Destroyed) = inr (λ h. h)
returns_or (Some (reason.Event k x y)) = inr (λ h. h)
returns_or None = inr (λ h. h)

past_or : (x : pc.Sort) (why : Option UnwindReason) → GoesPast x why ⊎ (GoesPast x why → ⊥)
past_or pc.IsFinishCoroutine why = returns_or why
past_or x why = inl tt

pub goes_or : (todo : List Todo) (why : Option UnwindReason) → GoesOn todo why ⊎ (GoesOn todo why → ⊥)
goes_or [] why = inl tt
goes_or (pc.TakeDownNow ∷ todo) why = inr (λ h. h)
goes_or (pc.ResumeNow ∷ todo) why = inr (λ h. h)
goes_or (pc.SuspendNow ∷ todo) why = inr (λ h. h)
goes_or (pc.FinishCoroutine ∷ todo) why = inr (λ h. h)
goes_or (pc.Unwind ∷ []) why = inl tt
goes_or (pc.Unwind ∷ (p ∷ todo)) why = past_or (pc.sort p) why
goes_or (p ∷ todo) why = inl tt
