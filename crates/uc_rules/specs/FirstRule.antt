-- What a fault of the rules says of a program.
use Rattle.uc_tree.specs.Programs.{Program}
use Rattle.uc_rules.specs.declared.checked.RuleFault.{RuleFault}
use Rattle.uc_rules.specs.declared.checked.RuleFault.TheVariants.{Rule, NoMemory}
use Rattle.uc_rules.specs.Breaks.{breaks_of}
use Rattle.uc_rules.specs.Firsts.{IsFirst}

-- it is the first break of the program
abbrev pub IsFaultOf : Program → RuleFault → Type 0
IsFaultOf program (Rule rule place) = IsFirst (breaks_of program) (record { rule = rule; pos = place })
IsFaultOf program NoMemory = Unit {0}
