use Rattle.std.proofs.Common.{◌≡◌, drop}
use Rattle.std.specs.List.{list_all}
use Rattle.uc_rules.specs.OwnerBreaks.{is_simple_field}
use Rattle.uc_types.proofs.spans.are_simple.Given as goal

abbrev pub invariant-loop-declarator : goal.invariant-loop-declarator
invariant-loop-declarator l = list_all (is_simple_field l.tables l.base) (drop l.declarator-index l.declarators) ≡ list_all (is_simple_field l.tables l.base) l.declarators
