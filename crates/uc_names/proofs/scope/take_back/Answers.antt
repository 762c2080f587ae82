use Rattle.std.proofs.Common.{ap, sym, arith, length, drop, suc, ◌+◌, ◌-◌, ◌∙◌, ◌≡◌}
use Rattle.uc_names.specs.Kept.{bindings}
use Rattle.uc_names.proofs.KeptLemmas.{agrees_taken, bindings_taken, length_taken}
use Rattle.uc_names.proofs.scope.take_back.Goals as goal

pub loop-place-preserved : goal.loop-place-preserved
loop-place-preserved c =
    let names = c.loop-place.names in
    let inv = c.loop-place.invariant in
    let counted = inv.1 in
    let from = c.loop-place.auto._place in
    let lengths = length_taken names c.set_place.new.self c.loop-place.declared.items c.pop.new.self.items c.in-Some.declaration c.in-Some.ensures.items c.set_place.ensures.names in
    let step : c.loop-place._place + 1 - c.args.start ≡ suc (c.loop-place._place - c.args.start) = omega (arith, from) in
    let all = bindings c.args.names.now c.args.declared.now.items in (
      agrees_taken names c.set_place.new.self c.loop-place.declared.items c.pop.new.self.items c.in-Some.declaration c.in-Some.ensures.items c.set_place.ensures.names inv.0 c.set_place.ensures.places,
      omega (arith, counted, lengths, from),
      bindings_taken names c.set_place.new.self c.loop-place.declared.items c.pop.new.self.items c.in-Some.declaration c.in-Some.ensures.items c.set_place.ensures.names (c.loop-place._place - c.args.start) all inv.2 ∙ ap (λ k. drop k all) (sym step),
    )

pub returns-clause-declared : goal.returns-clause-declared
returns-clause-declared c =
    let inv = c.loop-place.invariant in
    let from = c.loop-place.auto._place in
    let until = c.loop-place.auto._place-end in
    let ended = c.loop-place-test.false in
    let within = c.requires.within in
    let length_is = c.len-place-end.ensures in
    let ok = c.args.declared.now.ok in
    let all = bindings c.args.names.now c.args.declared.now.items in
    let taken : c.loop-place._place - c.args.start ≡ length c.args.declared.now.items - c.args.start = omega (arith, from, until, ended, within, length_is, ok) in
    inv.2 ∙ ap (λ k. drop k all) taken
