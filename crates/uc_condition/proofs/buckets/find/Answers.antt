use Rattle.std.proofs.Common.{◌≡◌, ◌<◌, ◌+◌, ℕ, suc, length, ap, sym, ◌∙◌, arith, subst}
use Rattle.std.specs.List.{filter}
use Rattle.std.proofs.lemmas.List.{get_or_default, take_all}
use Rattle.uc_condition.specs.declared.buckets.WaitRow.{WaitRow}
use Rattle.uc_condition.specs.Waiting.{is_at}
use Rattle.uc_condition.specs.Buckets.{no_row, row_at, is_row_at, waits_in, wait_of, task_behind}
use Rattle.uc_condition.proofs.Linked.{at_behind, behind_next}
use Rattle.uc_condition.proofs.Waits.{first_passes, waits_length, wait_at}
use Rattle.uc_condition.proofs.buckets.find.Goals as goal

pub index-row-requires : goal.index-row-requires
index-row-requires c =
    let rows = c.args.rows.now.items in let b = c.args.bucket in let n = c.loop-at.at in
    let known = subst (λ (t : ℕ). t < length rows) (sym c.loop-at.invariant.task) (at_behind (λ t. t < length rows) rows b.count b.first n (omega arith) c.requires) in
    let len = c.args.rows.now.ok.0 in
    omega (arith, known, len)

pub returns-then-is_row_at-clause-some : goal.returns-then-is_row_at-clause-some
returns-then-is_row_at-clause-some c =
    let rows = c.args.rows.now.items in let b = c.args.bucket in let n = c.loop-at.at in
    let known = subst (λ (t : ℕ). t < length rows) (sym c.loop-at.invariant.task) (at_behind (λ t. t < length rows) rows b.count b.first n (omega arith) c.requires) in
    let same = c.index-row.ensures ∙ get_or_default rows c.loop-at.task c.index-row.result.now no_row known in
    record {
      within = omega arith;
      task = c.loop-at.invariant.task;
      before = c.loop-at.invariant.before;
      here = ap (is_row_at c.args.object c.args.cond) (sym same) ∙ sym c.is_row_at.ensures ∙ c.if-is_row_at.true;
      older = c.loop-at.invariant.older;
    }

pub loop-at-preserved : goal.loop-at-preserved
loop-at-preserved c =
    let rows = c.args.rows.now.items in let b = c.args.bucket in let n = c.loop-at.at in
    let known = subst (λ (t : ℕ). t < length rows) (sym c.loop-at.invariant.task) (at_behind (λ t. t < length rows) rows b.count b.first n (omega arith) c.requires) in
    let same = c.index-row.ensures ∙ get_or_default rows c.loop-at.task c.index-row.result.now no_row known in
    let one_more : suc n ≡ n + 1 = omega arith in
    let fails = ap (is_row_at c.args.object c.args.cond) (sym same) ∙ sym c.is_row_at.ensures ∙ c.if-is_row_at.false in
    record {
      task = ap (λ (r : WaitRow). r.next) same ∙ ap (λ (t : ℕ). (row_at rows t).next) c.loop-at.invariant.task ∙ behind_next rows n b.first ∙ ap (λ (k : ℕ). task_behind rows k b.first) one_more;
      before = λ k e. c.loop-at.invariant.task ∙ ap (λ (m : ℕ). task_behind rows m b.first) (let same_place : n ≡ k = omega (arith, e) in same_place);
      older = first_passes c.args.object c.args.cond n (waits_in rows b) (let e = waits_length rows b in omega (arith, e)) c.loop-at.invariant.older
          (ap (is_at c.args.object c.args.cond) (wait_at rows b n (omega arith) ∙ ap (wait_of rows) (sym c.loop-at.invariant.task)) ∙ fails);
    }

pub returns-clause-none : goal.returns-clause-none
returns-clause-none c =
    let rows = c.args.rows.now.items in let b = c.args.bucket in
    ap (filter (is_at c.args.object c.args.cond)) (sym (take_all c.loop-at.at (waits_in rows b) (let e = waits_length rows b in omega (arith, e)))) ∙ c.loop-at.invariant.older
