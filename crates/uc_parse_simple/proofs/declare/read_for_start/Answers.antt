use Rattle.std.proofs.Common.{rules, ◌≡◌, Some, inl, inr, refl, ap, subst, sym}
use Rattle.std.proofs.lemmas.Result.{err_from_is_err_and}
use Rattle.uc_tree.specs.declared.token.TokenKind.TheVariants as token
use Rattle.uc_tree.specs.declared.token.Sign.TheVariants as sign
use Rattle.uc_grammar.specs.Names.{Declares, Evaluates}
use Rattle.uc_grammar.specs.Spell.{kind_at}
use Rattle.uc_grammar.specs.Form.{Spells, Fails}
use Rattle.uc_grammar.specs.Grammar.{simple_form, for_start_form, inner, faults}
use Rattle.uc_parse_simple.specs.Parts.{simple_of}
use Rattle.uc_parse_simple.proofs.declare.read_for_start.Goals as goal

pub returns-in_err-s-2-clause-fails : goal.returns-in_err-s-2-clause-fails
returns-in_err-s-2-clause-fails c = let other : kind_at c.args.tokens.now c.args.from ≡ Some (token.Sign sign.Semicolon) → ⊥ = search rules in
    let h : Fails (inner c.args.room) (faults c.args.room) (for_start_form) c.args.tokens.now c.args.from c.in_err-s-2.field-0.0 = inr (other, inl (inr (inl (c.in_ok-s.at, simple_of c.in_ok-s.s, c.in_ok-s.ensures.found, inl c.in_err-s-2.ensures.fails)))) in
    let p = err_from_is_err_and c.from_residual-in_err-s-2.result c.from_residual-in_err-s-2.ensures.1 in rw (p.1, p.2) h

pub returns-in-Declares-clause-found : goal.returns-in-Declares-clause-found
returns-in-Declares-clause-found c = let other : kind_at c.args.tokens.now c.args.from ≡ Some (token.Sign sign.Semicolon) → ⊥ = search rules in
    let e : Declares c.in-Declares.pos c.in-Declares.base c.in-Declares.declarators.items ≡ simple_of c.in_ok-s.s = subst (λ s. Declares c.in-Declares.pos c.in-Declares.base c.in-Declares.declarators.items ≡ simple_of s) c.in_ok-s-2.ensures.same (sym (ap simple_of c.in-Declares.is)) in
    inr (other, record { inside = Declares c.in-Declares.pos c.in-Declares.base c.in-Declares.declarators.items; spelled = record { middle = c.in_ok-s.at; left = simple_of c.in_ok-s.s; first = c.in_ok-s.ensures.found; second = (c.in_ok-s-2.ensures.found.0, (c.in_ok-s-2.ensures.found.1, e)) }; value = refl })

pub returns-in-Evaluates-clause-found : goal.returns-in-Evaluates-clause-found
returns-in-Evaluates-clause-found c = let other : kind_at c.args.tokens.now c.args.from ≡ Some (token.Sign sign.Semicolon) → ⊥ = search rules in
    let e : Evaluates c.in-Evaluates.pos c.in-Evaluates.value ≡ simple_of c.in_ok-s.s = subst (λ s. Evaluates c.in-Evaluates.pos c.in-Evaluates.value ≡ simple_of s) c.in_ok-s-2.ensures.same (sym (ap simple_of c.in-Evaluates.is)) in
    inr (other, record { inside = Evaluates c.in-Evaluates.pos c.in-Evaluates.value; spelled = record { middle = c.in_ok-s.at; left = simple_of c.in_ok-s.s; first = c.in_ok-s.ensures.found; second = (c.in_ok-s-2.ensures.found.0, (c.in_ok-s-2.ensures.found.1, e)) }; value = refl })
