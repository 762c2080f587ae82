use Rattle.std.proofs.Common.{◌≡◌, ◌++◌, ◌∷◌, take}
use Rattle.std.specs.List.{flat_map}
use Rattle.uc_explain.specs.Explained.{colon}
use Rattle.uc_explain.proofs.text.put_calls.Given as goal

-- the calls so far are written
abbrev pub invariant-loop-call : goal.invariant-loop-call
invariant-loop-call l = l.text.items ≡ l.initial.text.items ++ flat_map (λ c. 32 ∷ colon c) (take l.call-index l.rest)
