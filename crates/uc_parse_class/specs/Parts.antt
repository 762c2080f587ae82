-- Parts of classes as the code holds them.
use Rattle.std.specs.Prelude.{List, [], ◌∷◌}
use Rattle.uc_tree.specs.declared.kinds.Access.{Access}
use Rattle.uc_tree.specs.ProgramViews.{member_form_at}
use Rattle.uc_grammar.specs.Names.{ClassPart, AccessPart, MemberPart}
use Rattle.uc_parse_class.specs.declared.class.Part.{Part}
use Rattle.uc_parse_class.specs.declared.class.Part.TheVariants as held

abbrev pub part_of : Part → ClassPart
part_of (held.Access access) = AccessPart access
part_of (held.Member pos mark form) = MemberPart pos mark (member_form_at form)

-- the access of what follows these parts, where a is that of what they follow
abbrev pub access_after : Access → List ClassPart → Access
access_after a [] = a
access_after a (AccessPart b ∷ ps) = access_after b ps
access_after a (MemberPart pos m w ∷ ps) = access_after a ps
