use Rattle.std.proofs.Common.{◌≡◌, ◌&&◌, sym, ap, ◌∙◌}
use Rattle.std.specs.Prelude.{nat_eq}
use Rattle.std.specs.Cmp.Lexicographic.{pointwise}
use Rattle.std.specs.Option.{option_eq}
use Rattle.uc_explain.specs.Shown.{same_pair}
use Rattle.uc_explain.proofs.SameLemmas.{and_then, and_else, in_a_row, same_number, waits_apart, seen_same}
use Rattle.uc_explain.proofs.explaining.is_same.Goals as goal
use Rattle.uc_explain.proofs.explaining.is_same.Goals.{then-eq, else-eq, then-eq-2, else-eq-2, then-eq-3, else-eq-3, then-eq-4, else-eq-4}

pub returns-then-eq-5 : goal.returns-then-eq-5
returns-then-eq-5 c =
    let l = c.left.inside in
    let r = c.right.inside in
    let p = pointwise nat_eq l.inside.items r.inside.items in
    let q = pointwise same_pair l.waiting.items r.waiting.items in
    let s = pointwise nat_eq l.stacked.items r.stacked.items in
    let t = pointwise nat_eq l.conds.items r.conds.items in
    let u = pointwise same_number l.waits.items r.waits.items in
    let v = option_eq same_pair l.accept r.accept in
    let one : c.if-eq.value ≡ (p && q) = elim c.if-eq.branch [
      | then-eq w ↦ and_then p q c.if-eq.value (sym c.eq.ensures ∙ w.if-eq.true) (w.value-is ∙ w.eq-then-eq.ensures)
      | else-eq w ↦ and_else p q c.if-eq.value (sym c.eq.ensures ∙ w.if-eq.false) (w.value-is ∙ c.eq.ensures)
    ] in
    let two : c.if-eq-2.value ≡ ((p && q) && s) = elim c.if-eq-2.branch [
      | then-eq-2 w ↦ and_then (p && q) s c.if-eq-2.value (sym one ∙ w.if-eq-2.true) (w.value-is ∙ w.eq-then-eq-2.ensures)
      | else-eq-2 w ↦ and_else (p && q) s c.if-eq-2.value (sym one ∙ w.if-eq-2.false) (w.value-is ∙ one)
    ] in
    let three : c.if-eq-3.value ≡ (((p && q) && s) && t) = elim c.if-eq-3.branch [
      | then-eq-3 w ↦ and_then ((p && q) && s) t c.if-eq-3.value (sym two ∙ w.if-eq-3.true) (w.value-is ∙ w.eq-then-eq-3.ensures)
      | else-eq-3 w ↦ and_else ((p && q) && s) t c.if-eq-3.value (sym two ∙ w.if-eq-3.false) (w.value-is ∙ two)
    ] in
    let four : c.if-eq-4.value ≡ ((((p && q) && s) && t) && u) = elim c.if-eq-4.branch [
      | then-eq-4 w ↦ and_then (((p && q) && s) && t) u c.if-eq-4.value (sym three ∙ w.if-eq-4.true) (w.value-is ∙ w.eq-then-eq-4.ensures)
      | else-eq-4 w ↦ and_else (((p && q) && s) && t) u c.if-eq-4.value (sym three ∙ w.if-eq-4.false) (w.value-is ∙ three)
    ] in
    seen_same c.eq-then-eq-5.result _ _ _ _ c.left.view_is c.right.view_is
    (and_then ((((p && q) && s) && t) && u) v c.eq-then-eq-5.result (sym four ∙ c.if-eq-5.true) c.eq-then-eq-5.ensures
    ∙ in_a_row p q s t u v
    ∙ ap (λ b. p && (q && (s && (b && v)))) (sym (waits_apart l.conds.items l.waits.items r.conds.items r.waits.items c.left.invariant c.right.invariant)))

pub returns-else-eq-5 : goal.returns-else-eq-5
returns-else-eq-5 c =
    let l = c.left.inside in
    let r = c.right.inside in
    let p = pointwise nat_eq l.inside.items r.inside.items in
    let q = pointwise same_pair l.waiting.items r.waiting.items in
    let s = pointwise nat_eq l.stacked.items r.stacked.items in
    let t = pointwise nat_eq l.conds.items r.conds.items in
    let u = pointwise same_number l.waits.items r.waits.items in
    let v = option_eq same_pair l.accept r.accept in
    let one : c.if-eq.value ≡ (p && q) = elim c.if-eq.branch [
      | then-eq w ↦ and_then p q c.if-eq.value (sym c.eq.ensures ∙ w.if-eq.true) (w.value-is ∙ w.eq-then-eq.ensures)
      | else-eq w ↦ and_else p q c.if-eq.value (sym c.eq.ensures ∙ w.if-eq.false) (w.value-is ∙ c.eq.ensures)
    ] in
    let two : c.if-eq-2.value ≡ ((p && q) && s) = elim c.if-eq-2.branch [
      | then-eq-2 w ↦ and_then (p && q) s c.if-eq-2.value (sym one ∙ w.if-eq-2.true) (w.value-is ∙ w.eq-then-eq-2.ensures)
      | else-eq-2 w ↦ and_else (p && q) s c.if-eq-2.value (sym one ∙ w.if-eq-2.false) (w.value-is ∙ one)
    ] in
    let three : c.if-eq-3.value ≡ (((p && q) && s) && t) = elim c.if-eq-3.branch [
      | then-eq-3 w ↦ and_then ((p && q) && s) t c.if-eq-3.value (sym two ∙ w.if-eq-3.true) (w.value-is ∙ w.eq-then-eq-3.ensures)
      | else-eq-3 w ↦ and_else ((p && q) && s) t c.if-eq-3.value (sym two ∙ w.if-eq-3.false) (w.value-is ∙ two)
    ] in
    let four : c.if-eq-4.value ≡ ((((p && q) && s) && t) && u) = elim c.if-eq-4.branch [
      | then-eq-4 w ↦ and_then (((p && q) && s) && t) u c.if-eq-4.value (sym three ∙ w.if-eq-4.true) (w.value-is ∙ w.eq-then-eq-4.ensures)
      | else-eq-4 w ↦ and_else (((p && q) && s) && t) u c.if-eq-4.value (sym three ∙ w.if-eq-4.false) (w.value-is ∙ three)
    ] in
    seen_same c.if-eq-4.value _ _ _ _ c.left.view_is c.right.view_is
    (and_else ((((p && q) && s) && t) && u) v c.if-eq-4.value (sym four ∙ c.if-eq-5.false) four
    ∙ in_a_row p q s t u v
    ∙ ap (λ b. p && (q && (s && (b && v)))) (sym (waits_apart l.conds.items l.waits.items r.conds.items r.waits.items c.left.invariant c.right.invariant)))
