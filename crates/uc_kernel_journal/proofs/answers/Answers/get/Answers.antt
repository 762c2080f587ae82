use Rattle.std.proofs.Common.{◌≡◌, ◌∙◌, ◌<◌, sym, ap, subst, arith, length, cond, false, true, Some}
use Rattle.std.proofs.lemmas.List.{get_or_default}
use Rattle.std.specs.Prelude.{slice_index_or}
use Rattle.uc_entry.specs.declared.request.Answer.TheVariants as answer
use Rattle.uc_kernel_journal.proofs.Flags.{flags_length, flag_at}
use Rattle.uc_kernel_journal.proofs.answers.Answers.get.Goals as goal

pub get-requires : goal.get-requires
get-requires c =
    let l = subst (λ v. c.args.task < length v) (sym c.self.view_is) c.requires in
    let n = flags_length c.self.inside.goes c.self.inside.others in
    let s = c.self.invariant in
    omega (arith, l, n, s)

pub returns-then-get : goal.returns-then-get
returns-then-get c =
    let l = subst (λ v. c.args.task < length v) (sym c.self.view_is) c.requires in
    let n = flags_length c.self.inside.goes c.self.inside.others in
    let s = c.self.invariant in
    let own : c.args.task < length c.self.inside.others = omega (arith, l, n) in
    let flag : c.args.task < length c.self.inside.goes = omega (arith, own, s) in
    let is : slice_index_or c.self.inside.goes c.args.task false ≡ true = get_or_default c.self.inside.goes c.args.task false c.get.result flag ∙ (sym c.get.ensures ∙ c.if-get.true) in
    sym (ap (λ v. slice_index_or v c.args.task (Some answer.Go)) (sym c.self.view_is) ∙ flag_at c.self.inside.goes c.self.inside.others c.args.task (Some answer.Go) flag own ∙ ap (λ b. cond b (Some answer.Go) (slice_index_or c.self.inside.others c.args.task (Some answer.Go))) is)

pub get-requires-2 : goal.get-requires-2
get-requires-2 c =
    let l = subst (λ v. c.args.task < length v) (sym c.self.view_is) c.requires in
    let n = flags_length c.self.inside.goes c.self.inside.others in
    omega (arith, l, n)

pub returns : goal.returns
returns c =
    let l = subst (λ v. c.args.task < length v) (sym c.self.view_is) c.requires in
    let n = flags_length c.self.inside.goes c.self.inside.others in
    let s = c.self.invariant in
    let own : c.args.task < length c.self.inside.others = omega (arith, l, n) in
    let flag : c.args.task < length c.self.inside.goes = omega (arith, own, s) in
    let is : slice_index_or c.self.inside.goes c.args.task false ≡ false = get_or_default c.self.inside.goes c.args.task false c.get.result flag ∙ (sym c.get.ensures ∙ c.if-get.false) in
    c.get-2.ensures ∙ sym (ap (λ v. slice_index_or v c.args.task c.get-2.result) (sym c.self.view_is) ∙ flag_at c.self.inside.goes c.self.inside.others c.args.task c.get-2.result flag own ∙ ap (λ b. cond b (Some answer.Go) (slice_index_or c.self.inside.others c.args.task c.get-2.result)) is)
