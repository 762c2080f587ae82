use Rattle.std.proofs.Common.{◌≡◌, drop}
use Rattle.std.specs.List.{list_any}
use Rattle.uc_tree.specs.Names.{same_name}
use Rattle.uc_tree.specs.Numbering.{main_name}
use Rattle.uc_rules.specs.ClassBreaks.{members_declare}
use Rattle.uc_check_decl.proofs.class.declares_main.Given as goal

abbrev pub invariant-loop-member : goal.invariant-loop-member
invariant-loop-member l = list_any (λ n. same_name n main_name) (members_declare (drop l.member-index l.members)) ≡ list_any (λ n. same_name n main_name) (members_declare l.members)
