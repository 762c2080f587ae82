-- Where a break would not be the first, nothing that asks for it changes what was found.
use Rattle.std.proofs.Common.{◌≡◌, Bool, true, false, Some, if◌then◌else◌, refl, ap}
use Rattle.uc_tree.specs.declared.pos.Pos.{Pos}
use Rattle.uc_rules.specs.declared.rule.Rule.{Rule}
use Rattle.uc_rules.specs.declared.rule.Break.{Break}
use Rattle.uc_rules.specs.Asked.{unless}
use Rattle.uc_rules.specs.Firsts.{after, before}

pub opened : (a : Break) (rule : Rule) (pos : Pos) → before (record { rule = rule; pos = pos }) a ≡ true → after (Some a) (unless false rule pos) ≡ Some (record { rule = rule; pos = pos })
opened a rule pos h = ap (λ t. if t then Some (record { rule = rule; pos = pos }) else Some a) h

pub shut : (a : Break) (rule : Rule) (pos : Pos) → before (record { rule = rule; pos = pos }) a ≡ false → (holds : Bool) → after (Some a) (unless holds rule pos) ≡ Some a
shut a rule pos h true = refl
shut a rule pos h false = ap (λ t. if t then Some (record { rule = rule; pos = pos }) else Some a) h

pub ruleset opening = (opened, shut)
