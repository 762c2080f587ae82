use Rattle.std.proofs.Common.{◌≡◌, ◌++◌, drop, map}
use Rattle.uc_types.specs.Members.{numbered_in}
use Rattle.uc_classes.proofs.tabled.numbered_in_each.Given as goal

abbrev pub invariant-loop-class : goal.invariant-loop-class
invariant-loop-class l = map (λ ns. map (λ n. n.now) ns.items) l.all.items ++ map numbered_in (map (λ c. c.now) (drop l.class-index l.classes)) ≡ map numbered_in (map (λ c. c.now) l.classes)
