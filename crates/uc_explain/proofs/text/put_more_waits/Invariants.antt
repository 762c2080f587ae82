use Rattle.std.proofs.Common.{◌≡◌, ◌++◌, ◌∷◌, take}
use Rattle.std.specs.List.{flat_map}
use Rattle.uc_explain.specs.Explained.{colon}
use Rattle.uc_explain.specs.Steps.{waits_of}
use Rattle.uc_explain.proofs.text.put_more_waits.Given as goal

-- those so far are written
abbrev pub invariant-loop-i : goal.invariant-loop-i
invariant-loop-i l = l.text.items ≡ l.initial.text.items ++ flat_map (λ b. 32 ∷ colon (b.1, b.0)) (take l.i (waits_of l.conds l.waits))
