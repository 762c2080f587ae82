use Rattle.std.proofs.Common.{ap, sym, ◌++◌, ◌∙◌}
use Rattle.std.specs.Prelude.{decimal}
use Rattle.uc_acts.specs.Queues.{successor}
use Rattle.uc_explain.specs.Explained.{line, parted, maybe, colon, slash}
use Rattle.uc_explain.specs.Steps.{waits_of}
use Rattle.uc_explain.proofs.LineLemmas.{joins, joins_as, joins_both}
use Rattle.uc_explain.specs.Shown.{Shown}
use Rattle.uc_explain.proofs.text.put_line.Goals as goal

pub returns : goal.returns
returns c =
    let first = c.in_ok-put_number.ensures in
    let inside = joins_as (parted decimal) _ _ _ _ _ _ (joins _ _ _ _ _ first c.in_ok-extend_from_slice.ensures.items) c.in_ok-put_tasks.ensures c.deref.ensures.value in
    let waiting = joins_as (parted colon) _ _ _ _ _ _ (joins _ _ _ _ _ inside c.in_ok-extend_from_slice-2.ensures.items) c.in_ok-put_calls.ensures c.deref-2.ensures.value in
    let stacked = joins_as (parted decimal) _ _ _ _ _ _ (joins _ _ _ _ _ waiting c.in_ok-extend_from_slice-3.ensures.items) c.in_ok-put_tasks-2.ensures c.deref-3.ensures.value in
    let blocked = joins_both (λ cs ws. parted (λ b. colon (b.1, b.0)) (waits_of cs ws)) _ _ _ _ _ _ _ _ (joins _ _ _ _ _ stacked c.in_ok-extend_from_slice-4.ensures.items) c.in_ok-put_waits.ensures c.deref-4.ensures.value c.deref-5.ensures.value in
    let accept = joins _ _ _ _ _ (joins _ _ _ _ _ blocked c.in_ok-extend_from_slice-5.ensures.items) c.in_ok-put_accept.ensures in
    let next = joins_as (maybe slash) _ _ _ _ _ _ (joins _ _ _ _ _ accept c.in_ok-extend_from_slice-6.ensures.items) c.in_ok-put_next.ensures (c.next.ensures ∙ ap (λ (s : Shown). successor s.stacked s.waiting) (sym c.door.view_is)) in
    joins _ _ _ _ _ next c.in_ok-push.ensures.items ∙ ap (λ s. c.args.text.now.items ++ line c.args.number s) c.door.view_is
