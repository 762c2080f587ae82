use Rattle.std.proofs.Common.{sym, ◌∙◌, arith, refl}
use Rattle.uc_tree.specs.declared.kinds.Role.TheVariants as role
use Rattle.uc_lower_stmt.proofs.Openings.{no_call}
use Rattle.uc_lower_class.specs.Fields.{part_in}
use Rattle.uc_lower_class.proofs.Assembling.{behind_in, stands_by}
use Rattle.uc_lower_class.proofs.Fielding.{field_begins, left_part, left_plain, part_made}
use Rattle.uc_lower_class.proofs.Leaving.{opens_as, opens_nothing, opens_scope}
use Rattle.uc_lower_class.proofs.parts.lower_left.Goals as goal

pub clean_call-what-requires : goal.clean_call-what-requires
clean_call-what-requires c = c.requires.class c.in-Some.part.made (part_made c.args.field c.in-Some.part (sym c.part_of.ensures ∙ c.in-Some.is))

pub open-requires : goal.open-requires
open-requires c =
    stands_by c.args.names.now c.in-Some.part.made c.args.out.now.marks c.args.out.now.marks role.Destructor _ c.in-Some.part.spot _ c.clean_call-what.result
    (behind_in c.args.names.now c.args.out.now.marks (part_in c.args.field) c.in-Some.part (sym c.part_of.ensures ∙ c.in-Some.is) c.requires.behind) refl c.clean_call-what.ensures.call

pub returns-in_ok-_row-in-Some : goal.returns-in_ok-_row-in-Some
returns-in_ok-_row-in-Some c = λ cl i number f at.
    let p = c.args.names.now in
    let is = sym c.part_of.ensures ∙ c.in-Some.is in
    opens_as (opens_scope _ c.clean_call-what.result c.args.out.now c.open.new.self c.in_ok-_row-in-Some.ensures.ok c.in_ok-_row-in-Some.ensures.kept (c.clean_call-what.ensures.cleans _ (field_begins p cl i number f c.args.field at c.in-Some.part is)) (no_call p _ _ _)) (omega arith)
    (λ ss. left_part p cl i number f c.args.field at c.in-Some.part is ss)

pub returns-in-None : goal.returns-in-None
returns-in-None c = λ cl i number f at. opens_as (opens_nothing 1 c.args.out.now) (omega arith) (λ ss. left_plain c.args.names.now cl i number f c.args.field at (sym c.part_of.ensures ∙ c.in-None.is) ss)
