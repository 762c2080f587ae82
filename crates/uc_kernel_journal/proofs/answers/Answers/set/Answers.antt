use Rattle.std.proofs.Common.{◌≡◌, ◌∙◌, ◌<◌, sym, ap, subst, rules, arith, length, false, Some}
use Rattle.std.specs.Prelude.{slice_set}
use Rattle.uc_entry.specs.declared.request.Answer.TheVariants as answer
use Rattle.uc_kernel_journal.specs.EntryAnswers.{told_by_flags}
use Rattle.uc_kernel_journal.proofs.Flags.{flags_length, flag_set, other_set}
use Rattle.uc_kernel_journal.proofs.answers.Answers.set.Goals as goal

pub set-requires : goal.set-requires
set-requires c =
    let l = subst (λ v. c.args.task < length v) (sym c.self.view_is) c.requires in
    let n = flags_length c.self.inside.goes c.self.inside.others in
    let s = c.self.invariant in
    omega (arith, l, n, s)

pub set-requires-in_default : goal.set-requires-in_default
set-requires-in_default c =
    let l = subst (λ v. c.args.task < length v) (sym c.self.view_is) c.requires in
    let n = flags_length c.self.inside.goes c.self.inside.others in
    let s = c.self.invariant in
    omega (arith, l, n, s)

pub set-requires-in_default-2 : goal.set-requires-in_default-2
set-requires-in_default-2 c =
    let l = subst (λ v. c.args.task < length v) (sym c.self.view_is) c.requires in
    let n = flags_length c.self.inside.goes c.self.inside.others in
    omega (arith, l, n)

pub returns-in-Some-Go : goal.returns-in-Some-Go
returns-in-Some-Go c =
    let l = subst (λ v. c.args.task < length v) (sym c.self.view_is) c.requires in
    let n = flags_length c.self.inside.goes c.self.inside.others in
    let s = c.self.invariant in
    let own : c.args.task < length c.self.inside.others = omega (arith, l, n) in
    let flag : c.args.task < length c.self.inside.goes = omega (arith, own, s) in
    let is : c.args.told ≡ Some answer.Go = search rules in
    ap (λ g. told_by_flags g c.self.inside.others) c.set.ensures ∙ flag_set c.self.inside.goes c.self.inside.others c.args.task flag own ∙ ap (λ v. slice_set v c.args.task (Some answer.Go)) c.self.view_is ∙ ap (λ x. slice_set c.args.self.now c.args.task x) (sym is)

pub returns-in_default : goal.returns-in_default
returns-in_default c =
    let l = subst (λ v. c.args.task < length v) (sym c.self.view_is) c.requires in
    let n = flags_length c.self.inside.goes c.self.inside.others in
    let s = c.self.invariant in
    let own : c.args.task < length c.self.inside.others = omega (arith, l, n) in
    let flag : c.args.task < length c.self.inside.goes = omega (arith, own, s) in
    ap (λ g. told_by_flags g c.set-in_default-2.new.self) c.set-in_default.ensures ∙ ap (λ o. told_by_flags (slice_set c.self.inside.goes c.args.task false) o) c.set-in_default-2.ensures ∙ other_set c.self.inside.goes c.self.inside.others c.args.task c.args.told flag own ∙ ap (λ v. slice_set v c.args.task c.args.told) c.self.view_is
