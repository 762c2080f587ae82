use Rattle.std.proofs.Common.{◌≡◌, List, length, reverse, ap, sym, subst, refl, arith, rules}
use Rattle.uc_code.specs.declared.rows.Handler.{Handler}
use Rattle.uc_code.specs.declared.rows.CodeMark.{CodeMark}
use Rattle.uc_code.specs.Drafts.{Draft}
use Rattle.uc_code.specs.Layout.{laid_in, handlers}
use Rattle.uc_code.specs.CodeShapes.{IsBare}
use Rattle.uc_code.proofs.Handling.{rows_are, rows_fit, settled_handler, kept_handler, handler_set}
use Rattle.uc_code.proofs.draft.Draft.begin_handler.Goals as goal

pub overflow_cast-handler : goal.overflow_cast-handler
overflow_cast-handler c =
    let ms : List CodeMark = reverse c.self.inside.marks.items in
    let num : c.len.result ≡ length c.self.inside.rows.items = search rules in
    let b : c.rows_below.result ≡ length (handlers ms) = rows_are c.rows_below.result c.len.result (length c.self.inside.ops.items) c.self.inside.settled c.deref.result.now c.self.inside.marks.items c.self.inside.rows.items c.rows_below.ensures c.deref.ensures.value num c.self.invariant.1 in
    rw b (rows_fit (length c.self.inside.ops.items) c.self.inside.settled c.self.inside.rows.items ms c.self.invariant.1)

pub invariant_of-self : goal.invariant_of-self
invariant_of-self c =
    let ms : List CodeMark = reverse c.self.inside.marks.items in
    let num : c.len.result ≡ length c.self.inside.rows.items = search rules in
    let b : c.rows_below.result ≡ length (handlers ms) = rows_are c.rows_below.result c.len.result (length c.self.inside.ops.items) c.self.inside.settled c.deref.result.now c.self.inside.marks.items c.self.inside.rows.items c.rows_below.ensures c.deref.ensures.value num c.self.invariant.1 in
    let len : c.len-2.result ≡ length c.self.inside.ops.items = search rules in
    let bare : IsBare (record { ops = c.self.inside.ops.items; rows = c.self.inside.rows.items }) c.args.row = subst (λ (d : Draft). IsBare (laid_in d) c.args.row) (sym c.self.view_is) c.requires.bare in
    let h : Handler = record { kind = c.args.kind; event = c.args.event; rest = length (handlers ms); entry = length c.self.inside.ops.items } in
    (c.self.invariant.0, rw (c.handle_row.ensures, b, len) (settled_handler h c.self.inside.ops.items c.self.inside.rows.items c.args.row c.requires.kind bare c.self.inside.settled ms c.self.invariant.1))

pub returns-clause-begun : goal.returns-clause-begun
returns-clause-begun c =
    let ms : List CodeMark = reverse c.self.inside.marks.items in
    let num : c.len.result ≡ length c.self.inside.rows.items = search rules in
    let b : c.rows_below.result ≡ length (handlers ms) = rows_are c.rows_below.result c.len.result (length c.self.inside.ops.items) c.self.inside.settled c.deref.result.now c.self.inside.marks.items c.self.inside.rows.items c.rows_below.ensures c.deref.ensures.value num c.self.invariant.1 in
    let len : c.len-2.result ≡ length c.self.inside.ops.items = search rules in
    rw (← c.self.view_is, c.handle_row.ensures, b, len) refl

pub returns-clause-handler : goal.returns-clause-handler
returns-clause-handler c =
    let ms : List CodeMark = reverse c.self.inside.marks.items in
    let num : c.len.result ≡ length c.self.inside.rows.items = search rules in
    let b : c.rows_below.result ≡ length (handlers ms) = rows_are c.rows_below.result c.len.result (length c.self.inside.ops.items) c.self.inside.settled c.deref.result.now c.self.inside.marks.items c.self.inside.rows.items c.rows_below.ensures c.deref.ensures.value num c.self.invariant.1 in
    let len : c.len-2.result ≡ length c.self.inside.ops.items = search rules in
    let bare : IsBare (record { ops = c.self.inside.ops.items; rows = c.self.inside.rows.items }) c.args.row = subst (λ (d : Draft). IsBare (laid_in d) c.args.row) (sym c.self.view_is) c.requires.bare in
    let h : Handler = record { kind = c.args.kind; event = c.args.event; rest = length (handlers ms); entry = length c.self.inside.ops.items } in
    let l : length c.self.inside.ops.items ≡ length c.args.self.now.ops = ap (λ (d : Draft). length d.ops) c.self.view_is in
    let e = c.requires.entry in
    rw (← c.self.view_is, c.handle_row.ensures, b, len) (handler_set h c.self.inside.ops.items c.self.inside.rows.items c.args.row c.requires.kind bare (omega arith))

pub returns-clause-kept : goal.returns-clause-kept
returns-clause-kept c =
    let ms : List CodeMark = reverse c.self.inside.marks.items in
    let num : c.len.result ≡ length c.self.inside.rows.items = search rules in
    let b : c.rows_below.result ≡ length (handlers ms) = rows_are c.rows_below.result c.len.result (length c.self.inside.ops.items) c.self.inside.settled c.deref.result.now c.self.inside.marks.items c.self.inside.rows.items c.rows_below.ensures c.deref.ensures.value num c.self.invariant.1 in
    let len : c.len-2.result ≡ length c.self.inside.ops.items = search rules in
    let bare : IsBare (record { ops = c.self.inside.ops.items; rows = c.self.inside.rows.items }) c.args.row = subst (λ (d : Draft). IsBare (laid_in d) c.args.row) (sym c.self.view_is) c.requires.bare in
    let h : Handler = record { kind = c.args.kind; event = c.args.event; rest = length (handlers ms); entry = length c.self.inside.ops.items } in
    rw (← c.self.view_is, c.handle_row.ensures, b, len) (kept_handler h c.self.inside.ops.items c.self.inside.rows.items c.args.row c.requires.kind bare)
