use Rattle.std.proofs.Common.{ap, rules, ℕ, ◌==◌, w64}
use Rattle.std.proofs.lemmas.Nat.Bits.{bit_at-trailing_zeros}
use Rattle.uc_cluster.proofs.processor_set.ProcessorSet.least.Goals as goal

pub returns-clause-some : goal.returns-clause-some
returns-clause-some c =
    let n = c.args.self.bits in
    let found = bit_at-trailing_zeros w64 n (search rules) (search rules) in
    (found.0, ap (λ (b : ℕ). b == 1) found.1, λ q small. ap (λ (b : ℕ). b == 1) (found.2 q small))
