use Rattle.std.proofs.Common.{◌≡◌, None, ap, ◌∙◌, if◌then◌else◌}
use Rattle.std.specs.List.{list_any}
use Rattle.uc_tree.specs.Constants.{constants_of, elements, value_of_name}
use Rattle.uc_tree.specs.Cells.{member_form_named}
use Rattle.uc_layout.proofs.sizes.Sizes.elements_in.Goals as goal

pub returns : goal.returns
returns c =
    let members : c.deref.result.now ≡ c.args.class.now.members = c.deref.ensures.value ∙ ap (λ k. k.members) c.class.view_is in
    c.elements_of.ensures ∙ ap (λ f. elements (λ name. if list_any (λ m. member_form_named name m.form) c.deref.result.now then None else f name) c.args.declarator.now) c.known.ensures ∙ ap (λ ms. elements (λ name. if list_any (λ m. member_form_named name m.form) ms then None else value_of_name (constants_of c.args.self.now.items) name) c.args.declarator.now) members
