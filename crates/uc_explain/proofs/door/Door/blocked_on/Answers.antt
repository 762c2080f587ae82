use Rattle.std.proofs.Common.{◌≡◌, take, drop, ◌-◌, ap, ◌∙◌, arith}
use Rattle.uc_explain.specs.Shown.{Shown}
use Rattle.uc_explain.proofs.ViewLemmas.{first_of, last_of, part_of, part_within}
use Rattle.uc_explain.proofs.door.Door.blocked_on.Goals as goal

pub slice_bounds-result-count : goal.slice_bounds-result-count
slice_bounds-result-count c =
    let cs = c.self.inside.conds.items in
    let from : c.first_at-from.result ≡ first_of c.args.cond cs = c.first_at-from.ensures.place ∙ ap (first_of c.args.cond) c.deref.ensures.value in
    let to : c.wait_place-to.result ≡ last_of c.args.cond cs = c.wait_place-to.ensures.place ∙ ap (last_of c.args.cond) c.deref-2.ensures.value in
    let within = part_within c.args.cond cs in
    omega (arith, from, to, within)

pub slice_bounds-result-start : goal.slice_bounds-result-start
slice_bounds-result-start c =
    let cs = c.self.inside.conds.items in
    let from : c.first_at-from.result ≡ first_of c.args.cond cs = c.first_at-from.ensures.place ∙ ap (first_of c.args.cond) c.deref.ensures.value in
    let to : c.wait_place-to.result ≡ last_of c.args.cond cs = c.wait_place-to.ensures.place ∙ ap (last_of c.args.cond) c.deref-2.ensures.value in
    let within = part_within c.args.cond cs in
    omega (arith, from, to, within)

pub returns : goal.returns
returns c bs h =
    let cs = c.self.inside.conds.items in
    let ws = c.self.inside.waits.items in
    let from : c.first_at-from.result ≡ first_of c.args.cond cs = c.first_at-from.ensures.place ∙ ap (first_of c.args.cond) c.deref.ensures.value in
    let to : c.wait_place-to.result ≡ last_of c.args.cond cs = c.wait_place-to.ensures.place ∙ ap (last_of c.args.cond) c.deref-2.ensures.value in
    ap (λ l. take (c.wait_place-to.result - c.first_at-from.result) (drop c.first_at-from.result l)) c.deref-3.ensures.value
    ∙ ap (λ k. take (k - c.first_at-from.result) (drop c.first_at-from.result ws)) to
    ∙ ap (λ k. take (last_of c.args.cond cs - k) (drop k ws)) from
    ∙ part_of c.args.cond cs ws bs c.self.invariant (ap (λ (s : Shown). s.blocked) c.self.view_is ∙ h)
