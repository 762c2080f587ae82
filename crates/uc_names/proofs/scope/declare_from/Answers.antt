use Rattle.std.proofs.Common.{ap, sym, subst, reverse, not, length, set, Some, arith, ◌∙◌, ◌≡◌}
use Rattle.std.proofs.lemmas.Result.{err_from_is_err_and}
use Rattle.uc_names.specs.Kept.{Agrees, bindings, is_from}
use Rattle.uc_names.proofs.KeptLemmas.{agrees_then, bindings_then, stands_from, agrees_after, bindings_after}
use Rattle.uc_names.proofs.scope.declare_from.Goals as goal

pub returns-then-is_from-clause-answer : goal.returns-then-is_from-clause-answer
returns-then-is_from-clause-answer c =
    let e = c.in_ok-number.ensures in
    let stands = stands_from c.args.names.now c.see.new.self c.args.name.now c.in_ok-number.number c.args.start c.args.declared.now.items c.requires e.seen e.number e.distinct in
    ap not (sym (stands ∙ ap (λ o. is_from c.args.start o) (sym c.place-hidden.ensures) ∙ sym c.is_from.ensures ∙ c.if-is_from.true))

pub returns-then-is_from-clause-declared : goal.returns-then-is_from-clause-declared
returns-then-is_from-clause-declared c =
    let e = c.in_ok-number.ensures in
    bindings_then c.args.names.now c.see.new.self c.args.name.now c.in_ok-number.number c.args.start c.args.declared.now.items c.requires e.seen e.number e.distinct

pub returns-in_err-push-clause-agrees : goal.returns-in_err-push-clause-agrees
returns-in_err-push-clause-agrees c =
    let e = c.in_ok-number.ensures in
    subst (λ l. Agrees c.see.new.self (reverse l)) (sym c.in_err-push.ensures.items) (agrees_then c.args.names.now c.see.new.self c.args.name.now c.in_ok-number.number c.args.start c.args.declared.now.items c.requires e.seen e.number e.distinct)

pub returns-in_err-push-clause-err : goal.returns-in_err-push-clause-err
returns-in_err-push-clause-err c =
    let e = c.in_ok-number.ensures in
    let p = err_from_is_err_and c.from_residual-in_err-push.result c.from_residual-in_err-push.ensures.1 in
    rw p.1 (ap (λ l. bindings c.see.new.self l) c.in_err-push.ensures.items ∙ bindings_then c.args.names.now c.see.new.self c.args.name.now c.in_ok-number.number c.args.start c.args.declared.now.items c.requires e.seen e.number e.distinct)

pub returns-clause-agrees : goal.returns-clause-agrees
returns-clause-agrees c =
    let e = c.in_ok-number.ensures in
    let length_is = c.len-place.ensures in
    let ok = c.args.declared.now.ok in
    let place : c.len-place.result ≡ length c.args.declared.now.items = omega (arith, length_is, ok) in
    let written = c.set_place.ensures.places ∙ ap (λ k. set c.see.new.self.places c.in_ok-number.number (Some k)) place in
    agrees_after c.args.names.now c.see.new.self c.args.name.now c.in_ok-number.number c.args.start c.args.declared.now.items c.requires e.seen e.number e.distinct c.set_place.new.self _ c.push.new.self.items c.args.id c.set_place.ensures.names (ap (λ o. record { name = c.in_ok-number.number; id = c.args.id; hidden = o }) c.place-hidden.ensures) c.in_ok-push.ensures.items written e.within

pub returns-clause-answer : goal.returns-clause-answer
returns-clause-answer c =
    let e = c.in_ok-number.ensures in
    let stands = stands_from c.args.names.now c.see.new.self c.args.name.now c.in_ok-number.number c.args.start c.args.declared.now.items c.requires e.seen e.number e.distinct in
    ap not (sym (stands ∙ ap (λ o. is_from c.args.start o) (sym c.place-hidden.ensures) ∙ sym c.is_from.ensures ∙ c.if-is_from.false))

pub returns-clause-declared : goal.returns-clause-declared
returns-clause-declared c =
    let e = c.in_ok-number.ensures in
    bindings_after c.args.names.now c.see.new.self c.args.name.now c.in_ok-number.number c.args.start c.args.declared.now.items c.requires e.seen e.number e.distinct c.set_place.new.self _ c.push.new.self.items c.args.id c.set_place.ensures.names (ap (λ o. record { name = c.in_ok-number.number; id = c.args.id; hidden = o }) c.place-hidden.ensures) c.in_ok-push.ensures.items
