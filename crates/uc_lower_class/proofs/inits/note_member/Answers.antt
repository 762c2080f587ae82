use Rattle.std.proofs.Common.{◌≡◌, ◌++◌, [], map, ap, sym, ◌∙◌, append-nil}
use Rattle.uc_tree.specs.Objects.{declared_fields, form_fields}
use Rattle.uc_tree.specs.Statements.{Declarator}
use Rattle.uc_tree.specs.ProgramViews.{member_form_at}
use Rattle.uc_lower_class.specs.Inits.{names_of}
use Rattle.uc_lower_class.proofs.Naming.{names_declared}
use Rattle.uc_lower_class.proofs.inits.note_member.Goals as goal

pub returns-in-Routine : goal.returns-in-Routine
returns-in-Routine c =
    let none : names_of (form_fields (member_form_at c.args.form.now)) ≡ [] = ap (λ f. names_of (form_fields (member_form_at f))) c.in-Routine.is in
    sym (ap (λ ns. map (λ n. n.now) c.args.names.now.items ++ ns) none ∙ append-nil (map (λ n. n.now) c.args.names.now.items))

pub returns-in-Proto : goal.returns-in-Proto
returns-in-Proto c =
    let none : names_of (form_fields (member_form_at c.args.form.now)) ≡ [] = ap (λ f. names_of (form_fields (member_form_at f))) c.in-Proto.is in
    sym (ap (λ ns. map (λ n. n.now) c.args.names.now.items ++ ns) none ∙ append-nil (map (λ n. n.now) c.args.names.now.items))

pub returns-in_ok-note_declarators-in-Fields : goal.returns-in_ok-note_declarators-in-Fields
returns-in_ok-note_declarators-in-Fields c =
    let form : names_of (form_fields (member_form_at c.args.form.now)) ≡ names_of (declared_fields c.in-Fields.base c.in-Fields.declarators.items) = ap (λ f. names_of (form_fields (member_form_at f))) c.in-Fields.is in
    c.in_ok-note_declarators-in-Fields.ensures ∙ ap (λ ns. map (λ n. n.now) c.args.names.now.items ++ ns) (ap (map (λ (d : Declarator). d.name)) c.deref.ensures.value ∙ names_declared c.in-Fields.base c.in-Fields.declarators.items ∙ sym form)
