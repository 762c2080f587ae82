-- The rules on names, types and places, and those on who owns what, each by themselves.
use Rattle.std.specs.Prelude.{◌≡◌, false, true, Contains}
use Rattle.uc_tree.specs.Programs.{Program}
use Rattle.uc_rules.specs.declared.checked.RuleFault.{RuleFault}
use Rattle.uc_rules.specs.declared.checked.RuleFault.TheVariants.{Rule, NoMemory}
use Rattle.uc_rules.specs.declared.rule.Break.{Break}
use Rattle.uc_rules.specs.Breaks.{breaks_of}
use Rattle.uc_rules.specs.Firsts.{is_owner_number}
use Rattle.uc_rules.specs.RuleNames.{rule_number}

-- it is of one of the rules on names, types and places
abbrev pub IsTextFault : RuleFault → Type 0
IsTextFault (Rule rule place) = is_owner_number (rule_number rule) ≡ false
IsTextFault NoMemory = Unit {0}

-- it is of one of the rules on who owns what
abbrev pub IsOwnerFault : RuleFault → Type 0
IsOwnerFault (Rule rule place) = is_owner_number (rule_number rule) ≡ true
IsOwnerFault NoMemory = Unit {0}

-- none of the rules on names, types and places is broken
abbrev pub KeepsText : Program → Type 0
KeepsText program = (b : Break) → Contains (breaks_of program) b → is_owner_number (rule_number b.rule) ≡ true
