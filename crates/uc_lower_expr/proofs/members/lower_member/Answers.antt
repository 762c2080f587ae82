use Rattle.std.proofs.Common.{sym, arith, ◌∙◌}
use Rattle.uc_resolve.specs.Resolve.{Of, member_meant, place_member}
use Rattle.uc_lower_expr.proofs.MembersLemmas.{array_none, scalar_none, object_is, grown_told}
use Rattle.uc_lower_expr.proofs.Walks.{put_for_nothing}
use Rattle.uc_lower_expr.proofs.members.lower_member.Goals as goal

pub returns-in-Some : goal.returns-in-Some
returns-in-Some c =
    put_for_nothing c.args.out.now.marks c.put_nothing.result c.args.names.now _ c.args.line c.args.start (λ m. place_member c.args.names.now m.ty.len m c.args.name.now) c.args.told _ _ (omega arith) c.requires.inside (array_none c.args.names.now c.args.name.now c.args.told c.in-Some.field-0 c.in-Some.is) c.put_nothing.ensures.code c.put_nothing.ensures.tells

pub returns-in-Some-members_of : goal.returns-in-Some-members_of
returns-in-Some-members_of c =
    grown_told c.lower_member_of.result c.args.names.now _ c.args.line c.args.out.now.marks c.args.start (λ m. member_meant c.args.names.now c.in-Some-members_of.class (Of m.expr) c.args.name.now) (λ m. place_member c.args.names.now m.ty.len m c.args.name.now) c.args.told _ _ (λ m u. sym (object_is c.args.names.now c.args.name.now c.args.told c.in-Some-members_of.class c.in-None.is (sym c.members_of.ensures ∙ c.in-Some-members_of.is) m u)) c.lower_member_of.ensures

pub returns-in-None-members_of : goal.returns-in-None-members_of
returns-in-None-members_of c =
    put_for_nothing c.args.out.now.marks c.put_nothing-in-None-members_of.result c.args.names.now _ c.args.line c.args.start (λ m. place_member c.args.names.now m.ty.len m c.args.name.now) c.args.told _ _ (omega arith) c.requires.inside (scalar_none c.args.names.now c.args.name.now c.args.told c.in-None.is (sym c.members_of.ensures ∙ c.in-None-members_of.is)) c.put_nothing-in-None-members_of.ensures.code c.put_nothing-in-None-members_of.ensures.tells
