use Rattle.std.proofs.Common.{◌≡◌, ◌++◌, drop, map}
use Rattle.uc_types.specs.Members.{built_with}
use Rattle.uc_types.proofs.members.params_in_each.Given as goal

abbrev pub invariant-loop-class : goal.invariant-loop-class
invariant-loop-class l = map (λ x. x.now) l.all.items ++ map built_with (map (λ c. c.now) (drop l.class-index l.classes)) ≡ map built_with (map (λ c. c.now) l.classes)
