use Rattle.std.proofs.Common.{◌≡◌, ◌∙◌, ◌+◌, length, reverse, drop, Some, ap, sym, arith, rules}
use Rattle.uc_code.specs.Drafts.{Draft}
use Rattle.uc_code.specs.OpenRows.{row_in, entry_in}
use Rattle.uc_code.proofs.Closed.{reverse_rest}
use Rattle.uc_code.proofs.Settled.{settled_close, kept_close, handler_closed, bare_closed}
use Rattle.uc_code.proofs.draft.Draft.close.Goals as goal

pub invariant_of-self : goal.invariant_of-self
invariant_of-self c =
    let h : c.len-here.result ≡ length c.self.inside.ops.items = search rules in
    let m : reverse c.pop.new.self.items ≡ drop 1 (reverse c.self.inside.marks.items) = reverse_rest c.self.inside.marks.items c.pop.new.self.items _ (search rules) c.pop.ensures.rest in
    let r : row_in (reverse c.self.inside.marks.items) ≡ Some c.in-Some.number = ap (λ l. row_in (reverse l)) (sym c.deref.ensures.value) ∙ (sym c.row_of.ensures ∙ c.in-Some.is) in
    let n : c.entry_of-entry.result ≡ entry_in (reverse c.self.inside.marks.items) (length c.self.inside.ops.items + c.args.ahead) = c.entry_of-entry.ensures ∙ (ap (λ l. entry_in (reverse l) (c.len-here.result + c.args.ahead)) c.deref-in-Some.ensures.value ∙ ap (λ k. entry_in (reverse c.self.inside.marks.items) (k + c.args.ahead)) h) in
    (c.self.invariant.0, rw (c.close_row.ensures, m, h, n) (settled_close (entry_in (reverse c.self.inside.marks.items) (length c.self.inside.ops.items + c.args.ahead)) c.self.inside.ops.items c.self.inside.settled c.self.inside.rows.items (reverse c.self.inside.marks.items) c.in-Some.number c.self.invariant.1 r))

pub returns-in-Some-clause-kept : goal.returns-in-Some-clause-kept
returns-in-Some-clause-kept c =
    let h : c.len-here.result ≡ length c.self.inside.ops.items = search rules in
    let r : row_in (reverse c.self.inside.marks.items) ≡ Some c.in-Some.number = ap (λ l. row_in (reverse l)) (sym c.deref.ensures.value) ∙ (sym c.row_of.ensures ∙ c.in-Some.is) in
    let n : c.entry_of-entry.result ≡ entry_in (reverse c.self.inside.marks.items) (length c.self.inside.ops.items + c.args.ahead) = c.entry_of-entry.ensures ∙ (ap (λ l. entry_in (reverse l) (c.len-here.result + c.args.ahead)) c.deref-in-Some.ensures.value ∙ ap (λ k. entry_in (reverse c.self.inside.marks.items) (k + c.args.ahead)) h) in
    rw (← c.self.view_is, c.close_row.ensures, h, n) (kept_close (entry_in (reverse c.self.inside.marks.items) (length c.self.inside.ops.items + c.args.ahead)) c.self.inside.ops.items c.self.inside.settled c.self.inside.rows.items (reverse c.self.inside.marks.items) c.in-Some.number c.self.invariant.1 r c.self.invariant.0)

pub returns-in-Some-clause-handler : goal.returns-in-Some-clause-handler
returns-in-Some-clause-handler c =
    let h : c.len-here.result ≡ length c.self.inside.ops.items = search rules in
    let r : row_in (reverse c.self.inside.marks.items) ≡ Some c.in-Some.number = ap (λ l. row_in (reverse l)) (sym c.deref.ensures.value) ∙ (sym c.row_of.ensures ∙ c.in-Some.is) in
    let e : length c.self.inside.ops.items ≡ length c.args.self.now.ops = ap (λ (d : Draft). length d.ops) c.self.view_is in
    let q = c.requires.entry in
    let n : c.entry_of-entry.result ≡ entry_in (reverse c.self.inside.marks.items) (length c.self.inside.ops.items + c.args.ahead) = c.entry_of-entry.ensures ∙ (ap (λ l. entry_in (reverse l) (c.len-here.result + c.args.ahead)) c.deref-in-Some.ensures.value ∙ ap (λ k. entry_in (reverse c.self.inside.marks.items) (k + c.args.ahead)) h) in
    rw (← c.self.view_is, c.close_row.ensures, h, n) (λ row g. handler_closed (length c.self.inside.ops.items + c.args.ahead) c.self.inside.ops.items c.self.inside.settled c.self.inside.rows.items (reverse c.self.inside.marks.items) c.in-Some.number c.self.invariant.1 r (omega arith) row g)

pub returns-in-Some-clause-bare : goal.returns-in-Some-clause-bare
returns-in-Some-clause-bare c =
    let h : c.len-here.result ≡ length c.self.inside.ops.items = search rules in
    let r : row_in (reverse c.self.inside.marks.items) ≡ Some c.in-Some.number = ap (λ l. row_in (reverse l)) (sym c.deref.ensures.value) ∙ (sym c.row_of.ensures ∙ c.in-Some.is) in
    let n : c.entry_of-entry.result ≡ entry_in (reverse c.self.inside.marks.items) (length c.self.inside.ops.items + c.args.ahead) = c.entry_of-entry.ensures ∙ (ap (λ l. entry_in (reverse l) (c.len-here.result + c.args.ahead)) c.deref-in-Some.ensures.value ∙ ap (λ k. entry_in (reverse c.self.inside.marks.items) (k + c.args.ahead)) h) in
    rw (← c.self.view_is, c.close_row.ensures, h, n) (λ row g. bare_closed (length c.self.inside.ops.items + c.args.ahead) c.self.inside.ops.items c.self.inside.settled c.self.inside.rows.items (reverse c.self.inside.marks.items) c.in-Some.number c.self.invariant.1 r c.self.invariant.0 row g)
