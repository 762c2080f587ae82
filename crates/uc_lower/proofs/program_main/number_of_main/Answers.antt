use Rattle.std.proofs.Common.{◌≡◌, ◌+◌, ◌^◌, ◌≤◌, ◌∷◌, drop, refl, sym, ◌∙◌, arith}
use Rattle.uc_numbering.proofs.Listed.{drop_at}
use Rattle.uc_lower.proofs.Mained.{count_step, main_here, main_step}
use Rattle.uc_lower.proofs.program_main.number_of_main.Goals as goal

pub loop-item-preserved : goal.loop-item-preserved
loop-item-preserved c =
    let xs = c.args.items.now in
    let i = c.loop-item.item-index in
    let x = c.item-item.result in
    let here : drop i xs ≡ x ∷ drop (i + 1) xs = drop_at xs i x c.loop-item-test.true c.item-item.is in
    let number = c.routines_in.ensures in
    let next : c.in_ok-number.number ≡ c.loop-item.number + c.routines_in.result = c.in_ok-number.ensures.number in (
      λ p.
          let e = c.loop-item.invariant.0 p in
          let s = main_step p xs (drop (i + 1) xs) i x here (sym c.is_main.ensures ∙ c.if-is_main.false) in
          omega (arith, e, s, number, next),
      λ p.
          let e = c.loop-item.invariant.1 p in
          let s = count_step p xs (drop (i + 1) xs) i x here in
          omega (arith, e, s, number, next),
    )

pub returns-then-is_main-clause-number : goal.returns-then-is_main-clause-number
returns-then-is_main-clause-number c =
    λ p.
    let xs = c.args.items.now in
    let i = c.loop-item.item-index in
    let x = c.item-item.result in
    let here : drop i xs ≡ x ∷ drop (i + 1) xs = drop_at xs i x c.loop-item-test.true c.item-item.is in
    let e = c.loop-item.invariant.0 p in
    let s = main_here p xs (drop (i + 1) xs) i x here (sym c.is_main.ensures ∙ c.if-is_main.true) in
    omega (arith, e, s)

pub returns-in_err-number-clause-none : goal.returns-in_err-number-clause-none
returns-in_err-number-clause-none c =
    λ none p.
    let xs = c.args.items.now in
    let i = c.loop-item.item-index in
    let x = c.item-item.result in
    let here : drop i xs ≡ x ∷ drop (i + 1) xs = drop_at xs i x c.loop-item-test.true c.item-item.is in
    let number = c.routines_in.ensures in
    let over : 2 ^ 32 ≤ c.loop-item.number + c.routines_in.result = c.in_err-number.ensures.none refl in
    let e = c.loop-item.invariant.1 p in
    let s = count_step p xs (drop (i + 1) xs) i x here in
    omega (arith, e, s, number, over)
