use Rattle.std.proofs.Common.{◌<◌, ◌≤◌, ◌+◌, ◌++◌, ◌∷◌, ℕ, ℤ, take, length, get_or, ap, ◌∙◌, arith, add-one}
use Rattle.std.specs.Prelude.{pos}
use Rattle.std.specs.List.{flat_map}
use Rattle.uc_explain.specs.Explained.{colon, joined}
use Rattle.uc_explain.specs.Steps.{waits_of}
use Rattle.uc_explain.proofs.LineLemmas.{item_more}
use Rattle.uc_explain.proofs.WaitLemmas.{waits_more, waits_all}
use Rattle.uc_explain.proofs.text.put_more_waits.Goals as goal

pub loop-i-preserved : goal.loop-i-preserved
loop-i-preserved c =
    let cs = c.args.conds.now in
    let ws = c.args.waits.now in
    let k = c.loop-i.i in
    let lt : k < length ws = omega arith in
    let w : ℕ × ℤ = get_or ws k (0, pos 0) in
    item_more (λ (b : ℕ × ℕ × ℤ). colon (b.1, b.0)) (take k (waits_of cs ws)) (take (k + 1) (waits_of cs ws)) (w.0, get_or cs k 0, w.1) c.args.text.now.items c.loop-i.text.items c.push.new.self.items c.put_joined.new.text.items
    (ap (λ n. take n (waits_of cs ws)) (add-one k) ∙ waits_more cs ws k 0 (0, pos 0) c.requires lt)
    c.loop-i.invariant c.in_ok-push.ensures.items (c.in_ok-put_joined.ensures ∙ ap (λ n. c.push.new.self.items ++ joined 58 (get_or cs k 0) n) c.from.ensures)

pub returns : goal.returns
returns c =
    let le : length c.args.waits.now ≤ c.loop-i.i = omega arith in
    c.loop-i.invariant ∙ ap (λ l. c.args.text.now.items ++ flat_map (λ (b : ℕ × ℕ × ℤ). 32 ∷ colon (b.1, b.0)) l) (waits_all c.args.conds.now c.args.waits.now c.loop-i.i c.requires le)
