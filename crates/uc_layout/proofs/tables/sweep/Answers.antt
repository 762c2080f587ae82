use Rattle.std.proofs.Common.{◌≡◌, ◌<◌, ◌≤◌, map, length, sym, ◌∙◌, ◌+◌, subst, rules, arith}
use Rattle.uc_layout.specs.ValueProgress.{Reckoned, known}
use Rattle.uc_layout.proofs.ValuesLemmas.{reckoned_more}
use Rattle.uc_layout.proofs.tables.sweep.Goals as goal
use Rattle.uc_layout.proofs.tables.sweep.Goals.{then-reckon, else-reckon}

pub loop-place-preserved : goal.loop-place-preserved
loop-place-preserved c =
    let len : length c.reckon.new.values ≡ length c.args.constants.now = omega (arith, c.loop-place.invariant.0, c.reckon.auto.values) in
    elim c.if-reckon.branch [
      | then-reckon w ↦
          let more : known c.loop-place.values < known c.reckon.new.values = c.reckon.ensures.more (search rules) in
          let least : known c.args.values.now ≤ known c.loop-place.values = c.loop-place.invariant.2 in
          (len, c.reckon.ensures.sound, omega arith, (λ h. omega arith), (λ h. cc))
      | else-reckon w ↦
          let same : c.reckon.new.values ≡ c.loop-place.values = c.reckon.ensures.same (search rules) in (
            len,
            c.reckon.ensures.sound,
            subst (λ vs. known c.args.values.now ≤ known vs) (sym same) c.loop-place.invariant.2,
            (λ h. subst (λ vs. known c.args.values.now < known vs) (sym same) (c.loop-place.invariant.3 (sym w.changed-is ∙ h))),
            (λ h. subst (λ vs. Reckoned (map (λ c'. c'.now) c.args.constants.now) vs (c.loop-place.place + 1)) (sym same)
                (reckoned_more (map (λ c'. c'.now) c.args.constants.now) c.loop-place.values c.loop-place.place (c.loop-place.invariant.4 (sym w.changed-is ∙ h)) (c.reckon.ensures.reckoned (search rules)))),
          )
    ]
