use Rattle.std.proofs.Common.{◌≡◌, ◌+◌, ◌-◌, length, drop, reverse}
use Rattle.uc_names.specs.Kept.{Agrees, bindings}
use Rattle.uc_names.proofs.scope.take_back.Given as goal

abbrev pub invariant-loop-place : goal.invariant-loop-place
invariant-loop-place l =
    Agrees l.names (reverse l.declared.items) × (length l.declared.items + (l._place - l.start) ≡ length l.fn.declared.items) × (bindings l.names l.declared.items ≡ drop (l._place - l.start) (bindings l.fn.names l.fn.declared.items))
