use Rattle.std.proofs.Common.{◌≡◌, ℕ, ◌≤◌, List, None, length, subst, ap, ◌∙◌, slice_index_or}
use Rattle.uc_links.specs.declared.object.Object.{Object}
use Rattle.uc_links.specs.Held.{ends_of}
use Rattle.uc_links.specs.Rows.{bare, whole}
use Rattle.uc_links.proofs.Wholes.{no_caller, no_row_caller, past_caller}
use Rattle.uc_links.proofs.object.first_caller.Goals as goal

pub returns-in_err-get : goal.returns-in_err-get
returns-in_err-get c = c.from_residual.ensures ∙ no_caller c.args.rows.now.list.items c.args.objects.now.items c.args.object c.args.member (subst (λ (n : ℕ). n ≤ c.args.object) (ap length c.deref.ensures.value) c.in_err-get.ensures.lookup.3)

pub returns-in_err-row : goal.returns-in_err-row
returns-in_err-row c =
    let rows = c.args.rows.now.list.items in let m = c.args.member in
    let known = c.in_ok-get.ensures.lookup.3.1 bare ∙ ap (λ (l : List Object). slice_index_or l c.args.object bare) c.deref.ensures.value in
    c.from_residual-in_err-row.ensures ∙ subst (λ (b : Object). None ≡ (ends_of (whole rows b) m).first) known (no_row_caller rows c.in_ok-get.field-0.now m c.in_err-row.was)

pub returns-in_err-get-2 : goal.returns-in_err-get-2
returns-in_err-get-2 c =
    let rows = c.args.rows.now.list.items in let m = c.args.member in
    let known = c.in_ok-get.ensures.lookup.3.1 bare ∙ ap (λ (l : List Object). slice_index_or l c.args.object bare) c.deref.ensures.value in
    let past = subst (λ (n : ℕ). n ≤ c.in_ok-row.row) (ap length c.deref-2.ensures.value) c.in_err-get-2.ensures.lookup.3 in
    c.from_residual-in_err-get-2.ensures ∙ subst (λ (b : Object). None ≡ (ends_of (whole rows b) m).first) known (past_caller rows c.in_ok-get.field-0.now m c.in_ok-row.row c.in_ok-row.was past)
