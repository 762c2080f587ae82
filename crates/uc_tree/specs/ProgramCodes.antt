-- How programs are stored.
use Rattle.std.specs.Prelude.{◌≡◌, zero, suc, refl}
use base.Stored.{Coded, Gv, gnil, gnum, gcons}
use Rattle.uc_tree.specs.declared.kinds.Owner.{Owner}
use Rattle.uc_tree.specs.declared.kinds.Owner.TheVariants as owner
use Rattle.uc_tree.specs.declared.kinds.Param.{Param}
use Rattle.uc_tree.specs.declared.kinds.Forward.{Forward}
use Rattle.uc_tree.specs.Codes.{Codec, coded_by, via, nat_codec, flag_codec, name_codec, pos_codec, no_pos, list_codec, pair_codec, kind_codec, access_codec, mark_codec, role_codec}
use Rattle.uc_tree.specs.ExpressionCodes.{expr_codec, exprs_codec}
use Rattle.uc_tree.specs.StatementCodes.{base_codec, declarators_codec, stmts_codec}
use Rattle.uc_tree.specs.Programs.{Sig, Init, Routine, MemberForm, FieldsMember, RoutineMember, ProtoMember, Member, Class, Constant, Item, ClassItem, RoutineItem, ConstItem, ProtoItem, ForwardItem, UsingItem, Program, Site}

abbrev owner_code : Owner → Gv
owner_code owner.Here = gnil
owner_code owner.Main = gnum 0
owner_code (owner.Class name) = gcons gnil (name_codec.code name)

abbrev owner_back : Gv → Owner
owner_back gnil = owner.Here
owner_back (gnum _) = owner.Main
owner_back (gcons _ name) = owner.Class (name_codec.back name)

abbrev owner_again : (o : Owner) → owner_back (owner_code o) ≡ o
owner_again owner.Here = refl
owner_again owner.Main = refl
owner_again (owner.Class name) = λ i. owner.Class (name_codec.again name i)

abbrev pub owner_codec : Codec Owner
owner_codec = record { code = owner_code; back = owner_back; again = owner_again }

abbrev pub param_codec : Codec Param
param_codec = via (pair_codec pos_codec (pair_codec base_codec (pair_codec flag_codec name_codec))) (λ x. (x.pos, (x.base, (x.by_ref, x.name)))) (λ p. record { pos = p.0; base = p.1.0; by_ref = p.1.1.0; name = p.1.1.1 }) (λ x. refl)

abbrev pub forward_codec : Codec Forward
forward_codec = via (pair_codec pos_codec (pair_codec kind_codec name_codec)) (λ x. (x.pos, (x.kind, x.name))) (λ p. record { pos = p.0; kind = p.1.0; name = p.1.1 }) (λ x. refl)

abbrev pub sig_codec : Codec Sig
sig_codec = via (pair_codec pos_codec (pair_codec owner_codec (pair_codec role_codec (pair_codec base_codec (pair_codec name_codec (list_codec param_codec)))))) (λ x. (x.pos, (x.owner, (x.role, (x.ret, (x.name, x.params)))))) (λ p. record { pos = p.0; owner = p.1.0; role = p.1.1.0; ret = p.1.1.1.0; name = p.1.1.1.1.0; params = p.1.1.1.1.1 }) (λ x. refl)

abbrev pub init_codec : Codec Init
init_codec = via (pair_codec pos_codec (pair_codec name_codec exprs_codec)) (λ x. (x.pos, (x.name, x.args))) (λ p. record { pos = p.0; name = p.1.0; args = p.1.1 }) (λ x. refl)

abbrev pub routine_codec : Codec Routine
routine_codec = via (pair_codec sig_codec (pair_codec (list_codec init_codec) (pair_codec pos_codec stmts_codec))) (λ x. (x.sig, (x.inits, (x.brace, x.body)))) (λ p. record { sig = p.0; inits = p.1.0; brace = p.1.1.0; body = p.1.1.1 }) (λ x. refl)

abbrev member_form_code : MemberForm → Gv
member_form_code (FieldsMember at base ds) = gcons (gnum 0) (gcons (pos_codec.code at) (gcons (base_codec.code base) (declarators_codec.code ds)))
member_form_code (RoutineMember routine) = gcons (gnum 1) (routine_codec.code routine)
member_form_code (ProtoMember sig) = gcons (gnum 2) (sig_codec.code sig)

abbrev member_form_back : Gv → MemberForm
member_form_back (gcons (gnum zero) (gcons at (gcons base ds))) = FieldsMember (pos_codec.back at) (base_codec.back base) (declarators_codec.back ds)
member_form_back (gcons (gnum (suc zero)) routine) = RoutineMember (routine_codec.back routine)
member_form_back (gcons _ sig) = ProtoMember (sig_codec.back sig)
member_form_back _ = ProtoMember (sig_codec.back gnil)

abbrev member_form_again : (f : MemberForm) → member_form_back (member_form_code f) ≡ f
member_form_again (FieldsMember at base ds) = λ i. FieldsMember at (base_codec.again base i) (declarators_codec.again ds i)
member_form_again (RoutineMember routine) = λ i. RoutineMember (routine_codec.again routine i)
member_form_again (ProtoMember sig) = λ i. ProtoMember (sig_codec.again sig i)

abbrev pub member_form_codec : Codec MemberForm
member_form_codec = record { code = member_form_code; back = member_form_back; again = member_form_again }

abbrev pub member_codec : Codec Member
member_codec = via (pair_codec pos_codec (pair_codec access_codec (pair_codec mark_codec member_form_codec))) (λ x. (x.pos, (x.access, (x.mark, x.form)))) (λ p. record { pos = p.0; access = p.1.0; mark = p.1.1.0; form = p.1.1.1 }) (λ x. refl)

abbrev pub class_codec : Codec Class
class_codec = via (pair_codec pos_codec (pair_codec kind_codec (pair_codec name_codec (list_codec member_codec)))) (λ x. (x.pos, (x.kind, (x.name, x.members)))) (λ p. record { pos = p.0; kind = p.1.0; name = p.1.1.0; members = p.1.1.1 }) (λ x. refl)

abbrev pub constant_codec : Codec Constant
constant_codec = via (pair_codec pos_codec (pair_codec base_codec (pair_codec name_codec expr_codec))) (λ x. (x.pos, (x.base, (x.name, x.value)))) (λ p. record { pos = p.0; base = p.1.0; name = p.1.1.0; value = p.1.1.1 }) (λ x. refl)

abbrev item_code : Item → Gv
item_code (ClassItem class) = gcons (gnum 0) (class_codec.code class)
item_code (RoutineItem routine) = gcons (gnum 1) (routine_codec.code routine)
item_code (ConstItem constant) = gcons (gnum 2) (constant_codec.code constant)
item_code (ProtoItem sig) = gcons (gnum 3) (sig_codec.code sig)
item_code (ForwardItem forward) = gcons (gnum 4) (forward_codec.code forward)
item_code (UsingItem pos) = gcons (gnum 5) (pos_codec.code pos)

abbrev item_back : Gv → Item
item_back (gcons (gnum zero) x) = ClassItem (class_codec.back x)
item_back (gcons (gnum (suc zero)) x) = RoutineItem (routine_codec.back x)
item_back (gcons (gnum (suc (suc zero))) x) = ConstItem (constant_codec.back x)
item_back (gcons (gnum (suc (suc (suc zero)))) x) = ProtoItem (sig_codec.back x)
item_back (gcons (gnum (suc (suc (suc (suc zero))))) x) = ForwardItem (forward_codec.back x)
item_back (gcons _ x) = UsingItem (pos_codec.back x)
item_back _ = UsingItem no_pos

abbrev item_again : (x : Item) → item_back (item_code x) ≡ x
item_again (ClassItem class) = λ i. ClassItem (class_codec.again class i)
item_again (RoutineItem routine) = λ i. RoutineItem (routine_codec.again routine i)
item_again (ConstItem constant) = λ i. ConstItem (constant_codec.again constant i)
item_again (ProtoItem sig) = λ i. ProtoItem (sig_codec.again sig i)
item_again (ForwardItem forward) = λ i. ForwardItem (forward_codec.again forward i)
item_again (UsingItem pos) = refl

abbrev pub item_codec : Codec Item
item_codec = record { code = item_code; back = item_back; again = item_again }

abbrev pub program_codec : Codec Program
program_codec = via (list_codec item_codec) (λ x. x.items) (λ p. record { items = p }) (λ x. refl)

abbrev pub site_codec : Codec Site
site_codec = via (pair_codec nat_codec (pair_codec (list_codec (list_codec nat_codec)) flag_codec)) (λ x. (x.class, (x.clauses, x.has_else))) (λ p. record { class = p.0; clauses = p.1.0; has_else = p.1.1 }) (λ x. refl)

abbrev pub sig_coded : Coded Sig
sig_coded = coded_by sig_codec

abbrev pub init_coded : Coded Init
init_coded = coded_by init_codec

abbrev pub routine_coded : Coded Routine
routine_coded = coded_by routine_codec

abbrev pub member_coded : Coded Member
member_coded = coded_by member_codec

abbrev pub class_coded : Coded Class
class_coded = coded_by class_codec

abbrev pub constant_coded : Coded Constant
constant_coded = coded_by constant_codec

abbrev pub item_coded : Coded Item
item_coded = coded_by item_codec

abbrev pub program_coded : Coded Program
program_coded = coded_by program_codec

abbrev pub site_coded : Coded Site
site_coded = coded_by site_codec
