use Rattle.std.proofs.Common.{◌≡◌, drop}
use Rattle.std.specs.List.{list_all}
use Rattle.uc_rules.specs.OwnerBreaks.{form_is_simple}
use Rattle.uc_types.proofs.spans.are_simple_members.Given as goal

abbrev pub invariant-loop-member : goal.invariant-loop-member
invariant-loop-member l = list_all (λ m. form_is_simple l.tables m.form) (drop l.member-index l.members) ≡ list_all (λ m. form_is_simple l.tables m.form) l.members
