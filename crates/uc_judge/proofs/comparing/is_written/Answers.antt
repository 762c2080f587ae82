use Rattle.std.proofs.Common.{◌≡◌, ℤ, ap, sym, ◌∙◌, rules, to_z, of_z, w64}
use Rattle.uc_judge.specs.Runs.{lined}
use Rattle.uc_judge.proofs.SameEntry.{entry_of, same_entry}
use Rattle.uc_judge.proofs.comparing.is_written.Goals.{then-lines, else-lines}
use Rattle.uc_judge.proofs.comparing.is_written.Goals as goal

pub returns-clause-same : goal.returns-clause-same
returns-clause-same c h =
    let e = c.args.e.now in
    let line = c.if-lines.line in
    let a : to_z w64 (of_z w64 e.a) ≡ e.a = search rules in
    let b : to_z w64 (of_z w64 e.b) ≡ e.b = search rules in
    let k : to_z w64 (of_z w64 e.c) ≡ e.c = search rules in
    let d : to_z w64 (of_z w64 e.d) ≡ e.d = search rules in
    let of_ = entry_of e.kind e.proc e.task e.ticks e.object in
    let kept : ℤ → ℤ = λ z. to_z w64 (of_z w64 z) in
    let same = same_entry c.args.entry.now (of_ (kept e.a) (kept e.b) (kept e.c) (kept e.d) line) (sym c.eq.ensures ∙ h) ∙ ap (λ z. of_ z (kept e.b) (kept e.c) (kept e.d) line) a ∙ ap (λ z. of_ e.a z (kept e.c) (kept e.d) line) b ∙ ap (λ z. of_ e.a e.b z (kept e.d) line) k ∙ ap (λ z. of_ e.a e.b e.c z line) d in
    elim c.if-lines.branch [
      | then-lines w ↦ same ∙ ap (λ l. record e { line = l }) w.line-is ∙ sym (ap (λ b. lined b e) w.if-lines.true)
      | else-lines w ↦ same ∙ ap (λ l. record e { line = l }) w.line-is ∙ sym (ap (λ b. lined b e) w.if-lines.false)
    ]
