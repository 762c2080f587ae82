use Rattle.std.proofs.Common.{◌≡◌, ◌++◌, drop, map}
use Rattle.uc_numbering.specs.Flat.{flat}
use Rattle.uc_numbering.specs.Sites.{own_listed}
use Rattle.uc_numbering.proofs.sites.push_sites.Given as goal

abbrev pub invariant-loop-s : goal.invariant-loop-s
invariant-loop-s l = l.found.items ++ flat (own_listed (map (λ n. n.now) l.names) l.class) (map (λ s. s.now) (drop l.s-index l.statements)) ≡ l.initial.found.items ++ flat (own_listed (map (λ n. n.now) l.names) l.class) (map (λ s. s.now) l.statements)
