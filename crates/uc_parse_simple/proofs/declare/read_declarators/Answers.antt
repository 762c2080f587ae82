use Rattle.std.proofs.Common.{rules, ◌≡◌, inl, arith, [], ◌∷◌, ◌++◌, inr}
use Rattle.std.proofs.lemmas.Result.{err_from_is_err_and}
use Rattle.uc_grammar.specs.Spell.{Begins, Run, ListRun}
use Rattle.uc_grammar.specs.Form.{Spells, Fails, skip}
use Rattle.uc_grammar.specs.Tables.{sign_of, is_comma}
use Rattle.uc_grammar.specs.Grammar.{declarator_form, declarators_form, inner, faults}
use Rattle.uc_grammar.proofs.Fit.{list_more}
use Rattle.uc_parse_simple.proofs.declare.read_declarators.Goals as goal

pub items-init : goal.items-init
unfolding Run ListRun
items-init c = search rules

pub items-preserved : goal.items-preserved
items-preserved c = let b : Begins (λ o. is_comma (sign_of o)) c.args.tokens.now c.items.at = search rules in
    record {
      run = let more = list_more (Spells (inner c.args.room) declarator_form) (λ o. is_comma (sign_of o)) (Spells (inner c.args.room) (skip declarator_form)) c.args.tokens.now c.args.from c.items.at c.in_ok-next.end c.items.all.items c.in_ok-next.next c.items.invariant.run b c.in_ok-next.ensures.found in
          let e : c.push-in-items.new.self.items ≡ c.items.all.items ++ c.in_ok-next.next ∷ [] = search rules in rw e more;
      after = omega (arith, c.in_ok-next.ensures.moved.0);
      within = c.in_ok-next.ensures.moved.1;
    }

pub returns-in_err-first-clause-fails : goal.returns-in_err-first-clause-fails
returns-in_err-first-clause-fails c = let h : Fails (inner c.args.room) (faults c.args.room) (declarators_form) c.args.tokens.now c.args.from c.in_err-first.field-0.0 = inl c.in_err-first.ensures.fails in
    let p = err_from_is_err_and c.from_residual.result c.from_residual.ensures.1 in rw (p.1, p.2) h

pub returns-in_err-next-clause-fails : goal.returns-in_err-next-clause-fails
returns-in_err-next-clause-fails c = let b : Begins (λ o. is_comma (sign_of o)) c.args.tokens.now c.items.at = search rules in
    let h : Fails (inner c.args.room) (faults c.args.room) declarators_form c.args.tokens.now c.args.from c.in_err-next.field-0.0 = inr (inl (c.items.at, c.items.all.items, c.items.invariant.run, b, c.in_err-next.ensures.fails)) in
    let p = err_from_is_err_and c.from_residual-in_err-next.result c.from_residual-in_err-next.ensures.1 in rw (p.1, p.2) h
