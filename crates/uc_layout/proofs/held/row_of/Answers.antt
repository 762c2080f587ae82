use Rattle.std.proofs.Common.{ap, map, None, if◌then◌else◌, ◌∙◌, ◌≡◌}
use Rattle.std.specs.List.{list_any}
use mathlib.Core.Path.{fun_ext}
use Rattle.uc_tree.specs.Cells.{leading_cells, member_form_named, members_held}
use Rattle.uc_layout.specs.Values.{value_at, seen_at}
use Rattle.uc_layout.proofs.held.row_of.Goals as goal

pub returns : goal.returns
returns c =
    let classes = map (λ b. b.now) c.args.classes.now.list.now in
    let constants = map (λ b. b.now) c.args.known.now.constants.now in
    let values = c.args.known.now.values.now in
    let noted : c.deref.result.now ≡ c.args.class.now.members = c.deref.ensures.value ∙ ap (λ k. k.members) c.class.view_is in
    let members : c.deref-2.result.now ≡ c.args.class.now.members = c.deref-2.ensures.value ∙ ap (λ k. k.members) c.class.view_is in
    let named = fun_ext (λ name. ap (λ b. if b then None else value_at constants values name) (c.in_ok-members.ensures name ∙ ap (λ l. list_any (λ m. member_form_named name m.form) l) noted)) in
    let leading = c.leading_cells.ensures ∙ ap (λ k. leading_cells k.kind) c.class.view_is in
    let held = c.in_ok-held.ensures ∙ ap (λ f. members_held classes f c.deref-2.result.now) named ∙ ap (λ l. members_held classes (seen_at constants values c.args.class.now.members) l) members in
    λ j. record { leading = leading j; held = held j }
