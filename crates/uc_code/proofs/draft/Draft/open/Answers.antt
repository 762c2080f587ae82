use Rattle.std.proofs.Common.{◌≡◌, ◌∙◌, ◌<◌, ◌++◌, [], ◌∷◌, List, length, reverse, ap, sym, subst, refl, rules}
use Rattle.uc_code.specs.declared.rows.HandlerRow.{HandlerRow}
use Rattle.uc_code.specs.declared.rows.CodeMark.{CodeMark}
use Rattle.uc_code.specs.declared.rows.TheConstants.{OPEN_END}
use Rattle.uc_code.specs.Drafts.{Draft}
use Rattle.uc_code.specs.Layout.{handlers, under}
use Rattle.uc_code.specs.OpenRows.{OpensBehind, first_in, name_of, named_by, opening_bound, opening_around, opening_mark, made}
use Rattle.uc_code.proofs.Closing.{reverse_push}
use Rattle.uc_code.proofs.Settled.{outer_is, outer_fits, row_made, settled_open, kept_open}
use Rattle.uc_code.proofs.draft.Draft.open.Goals as goal

pub name_of-outer-requires : goal.name_of-outer-requires
name_of-outer-requires c =
    let l : length c.self.inside.rows.items < OPEN_END = search rules in
    let e : c.row_below.result ≡ first_in (under c.bound_of.result (handlers (reverse c.self.inside.marks.items))) = c.row_below.ensures ∙ ap (λ l. first_in (under c.bound_of.result (handlers (reverse l)))) c.deref.ensures.value in
    outer_fits c.bound_of.result (length c.self.inside.ops.items) c.self.inside.settled c.self.inside.rows.items (reverse c.self.inside.marks.items) c.row_below.result l e c.self.invariant.1

pub invariant_of-self-2 : goal.invariant_of-self-2
invariant_of-self-2 c =
    let ms : List CodeMark = reverse c.self.inside.marks.items in
    let l : length c.self.inside.rows.items < OPEN_END = search rules in
    let len : c.len.result ≡ length c.self.inside.ops.items = search rules in
    let len2 : c.len-2.result ≡ length c.self.inside.ops.items = search rules in
    let num : c.len-number.result ≡ length c.self.inside.rows.items = search rules in
    let e : c.row_below.result ≡ first_in (under c.bound_of.result (handlers ms)) = c.row_below.ensures ∙ ap (λ l. first_in (under c.bound_of.result (handlers (reverse l)))) c.deref.ensures.value in
    let b : c.bound_of.result ≡ opening_bound c.args.opening (length c.self.inside.rows.items) = c.bound_of.ensures ∙ ap (opening_bound c.args.opening) num in
    let f : c.name_of-outer.result ≡ named_by (opening_around c.args.opening ms) = c.name_of-outer.ensures ∙ ap name_of (e ∙ (ap (λ k. first_in (under k (handlers ms))) b ∙ outer_is c.args.opening (length c.self.inside.ops.items) c.self.inside.settled c.self.inside.rows.items ms c.self.invariant.1)) in
    let rs : c.push-2.new.self.items ≡ c.self.inside.rows.items ++ made c.args.opening (length c.self.inside.ops.items) ms ∷ [] = c.in_default.ensures.items ∙ ap (λ (r : HandlerRow). c.self.inside.rows.items ++ r ∷ []) (row_made c.args.opening (length c.self.inside.ops.items) c.len.result c.name_of-outer.result c.event_of.result c.kind_of.result ms len f c.kind_of.ensures c.event_of.ensures) in
    let mk : c.mark_of.result ≡ opening_mark c.args.opening (length c.self.inside.rows.items) = c.mark_of.ensures ∙ ap (opening_mark c.args.opening) num in
    let mks : reverse c.push.new.self.items ≡ opening_mark c.args.opening (length c.self.inside.rows.items) ∷ ms = ap reverse c.in_ok-push.ensures.items ∙ (reverse_push c.self.inside.marks.items c.mark_of.result ∙ ap (λ m. m ∷ ms) mk) in
    let q : OpensBehind c.args.opening ms = subst (λ (d : Draft). OpensBehind c.args.opening d.marks) (sym c.self.view_is) c.requires in
    (c.self.invariant.0, rw (len2, rs, mks) (settled_open c.args.opening (length c.self.inside.ops.items) c.self.inside.settled c.self.inside.rows.items ms l q c.self.invariant.1))

pub returns-clause-ok : goal.returns-clause-ok
returns-clause-ok c =
    let ms : List CodeMark = reverse c.self.inside.marks.items in
    let len : c.len.result ≡ length c.self.inside.ops.items = search rules in
    let len2 : c.len-2.result ≡ length c.self.inside.ops.items = search rules in
    let num : c.len-number.result ≡ length c.self.inside.rows.items = search rules in
    let e : c.row_below.result ≡ first_in (under c.bound_of.result (handlers ms)) = c.row_below.ensures ∙ ap (λ l. first_in (under c.bound_of.result (handlers (reverse l)))) c.deref.ensures.value in
    let b : c.bound_of.result ≡ opening_bound c.args.opening (length c.self.inside.rows.items) = c.bound_of.ensures ∙ ap (opening_bound c.args.opening) num in
    let f : c.name_of-outer.result ≡ named_by (opening_around c.args.opening ms) = c.name_of-outer.ensures ∙ ap name_of (e ∙ (ap (λ k. first_in (under k (handlers ms))) b ∙ outer_is c.args.opening (length c.self.inside.ops.items) c.self.inside.settled c.self.inside.rows.items ms c.self.invariant.1)) in
    let rs : c.push-2.new.self.items ≡ c.self.inside.rows.items ++ made c.args.opening (length c.self.inside.ops.items) ms ∷ [] = c.in_default.ensures.items ∙ ap (λ (r : HandlerRow). c.self.inside.rows.items ++ r ∷ []) (row_made c.args.opening (length c.self.inside.ops.items) c.len.result c.name_of-outer.result c.event_of.result c.kind_of.result ms len f c.kind_of.ensures c.event_of.ensures) in
    let mk : c.mark_of.result ≡ opening_mark c.args.opening (length c.self.inside.rows.items) = c.mark_of.ensures ∙ ap (opening_mark c.args.opening) num in
    let mks : reverse c.push.new.self.items ≡ opening_mark c.args.opening (length c.self.inside.rows.items) ∷ ms = ap reverse c.in_ok-push.ensures.items ∙ (reverse_push c.self.inside.marks.items c.mark_of.result ∙ ap (λ m. m ∷ ms) mk) in
    rw (← c.self.view_is, len2, rs, mks) refl

pub returns-clause-kept : goal.returns-clause-kept
returns-clause-kept c =
    let ms : List CodeMark = reverse c.self.inside.marks.items in
    let len : c.len.result ≡ length c.self.inside.ops.items = search rules in
    rw (← c.self.view_is, c.in_default.ensures.items) (kept_open c.self.inside.ops.items c.self.inside.rows.items _ len)
