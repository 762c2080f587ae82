use Rattle.std.proofs.Common.{◌+◌, ◌≤◌, ◌≡◌, length, List, ℕ, ◌++◌}
use Rattle.uc_outside.specs.Taking.{Took}
use Rattle.uc_outside.proofs.sinks.put_all.Given as goal

abbrev pub invariant-loop-rest : goal.invariant-loop-rest
invariant-loop-rest g l =
    (taken : List ℕ)
    × (l.text ≡ taken ++ l.rest)
    × Took (g.S.Sink.state l.initial.s) (g.S.Sink.state l.s) taken
    × (g.S.Sink.puts l.s + length l.rest ≤ g.S.Sink.puts l.initial.s + length l.text)

abbrev pub decreases-loop-rest : goal.decreases-loop-rest
decreases-loop-rest g l = length l.rest
