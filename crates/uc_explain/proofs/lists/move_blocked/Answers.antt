use Rattle.std.proofs.Common.{◌≡◌, ◌<◌, ap, sym, ◌∙◌, not, arith, rules, to_z, of_z, w64}
use Rattle.std.proofs.lemmas.Int.{ints, to_z-of_z}
use Rattle.std.specs.Prelude.{nat_lt, vec_len, vec_capacity}
use Rattle.std.specs.List.{insert, prefix_len}
use Rattle.uc_explain.specs.Shown.{placed}
use Rattle.uc_explain.specs.Steps.{placed_if, waits_kept, waits_of}
use Rattle.uc_explain.proofs.WaitLemmas.{when_ok, wait_put}
use Rattle.uc_explain.proofs.lists.move_blocked.Goals as goal

pub returns-in-Some-clause-rows : goal.returns-in-Some-clause-rows
returns-in-Some-clause-rows c =
    let e = c.args.e.now in
    let cs = c.drop_waits.new.conds in
    let ws = c.drop_waits.new.waits in
    let old = waits_of c.args.conds.now.items c.args.waits.now.items in
    let cond_room : vec_len cs < vec_capacity cs = omega arith in
    let same = c.drop_waits.ensures.same in
    let before = c.requires.same in
    let wait_room : vec_len ws < vec_capacity ws = omega arith in
    let number : to_z w64 (of_z w64 c.in-Some.n) ≡ c.in-Some.n = search (rules, ints, to_z-of_z) in
    let at : c.wait_place-at.result ≡ prefix_len (λ d. not (nat_lt c.in-Some.cond d)) cs.items = c.wait_place-at.ensures.place ∙ ap (prefix_len (λ d. not (nat_lt c.in-Some.cond d))) c.deref.ensures.value in
    wait_put c.in-Some.cond c.in-Some.task c.wait_place-at.result c.in-Some.n cs.items c.insert-cond_put.new.self.items ws.items c.insert-wait_put.new.self.items same at
    (c.insert-cond_put.ensures.items ∙ when_ok _ _ _ (c.insert-cond_put.ensures.succeeds cond_room))
    (c.insert-wait_put.ensures.items ∙ when_ok _ _ _ (c.insert-wait_put.ensures.succeeds wait_room) ∙ ap (λ z. insert ws.items c.wait_place-at.result (c.in-Some.task, z)) number)
    ∙ ap (placed (λ b. b.1) (c.in-Some.task, c.in-Some.cond, c.in-Some.n)) c.drop_waits.ensures.rows
    ∙ ap (λ o. placed_if (λ b. b.1) o (waits_kept e old)) (sym c.in-Some.is ∙ c.wait_of.ensures)
