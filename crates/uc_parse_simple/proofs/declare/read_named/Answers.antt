use Rattle.std.proofs.Common.{rules}
use Rattle.std.proofs.lemmas.Result.{err_from_is_err_and}
use Rattle.uc_grammar.specs.Spell.{kind_at}
use Rattle.uc_grammar.specs.Form.{Fails, Spells, look}
use Rattle.uc_grammar.specs.Grammar.{named_at, inner, faults}
use Rattle.uc_parse_simple.specs.Parts.{simple_of}
use Rattle.uc_parse_simple.proofs.Other.{named_twice, named_once}
use Rattle.uc_parse_simple.proofs.declare.read_named.Goals as goal

pub returns-in_err-s-clause-fails : goal.returns-in_err-s-clause-fails
returns-in_err-s-clause-fails c = let h : Fails (inner c.args.room) (faults c.args.room) (look (named_at c.args.pos c.args.name.now)) c.args.tokens.now c.args.from c.in_err-s.field-0.0 = named_twice (λ g. Fails (inner c.args.room) (faults c.args.room) g c.args.tokens.now c.args.from c.in_err-s.field-0.0) c.args.pos c.args.name.now (kind_at c.args.tokens.now c.args.from) (search rules) c.in_err-s.ensures.fails in
    let p = err_from_is_err_and c.from_residual.result c.from_residual.ensures.1 in rw (p.1, p.2) h

pub returns-in_err-s-2-clause-fails : goal.returns-in_err-s-2-clause-fails
returns-in_err-s-2-clause-fails c = let h : Fails (inner c.args.room) (faults c.args.room) (look (named_at c.args.pos c.args.name.now)) c.args.tokens.now c.args.from c.in_err-s-2.field-0.0 = named_once (λ g. Fails (inner c.args.room) (faults c.args.room) g c.args.tokens.now c.args.from c.in_err-s-2.field-0.0) c.args.pos c.args.name.now (kind_at c.args.tokens.now c.args.from) (search rules) c.in_err-s-2.ensures.fails in
    let p = err_from_is_err_and c.from_residual-in_err-s-2.result c.from_residual-in_err-s-2.ensures.1 in rw (p.1, p.2) h

pub returns-then-is_name_at-clause-found : goal.returns-then-is_name_at-clause-found
returns-then-is_name_at-clause-found c = named_twice (λ g. Spells (inner c.args.room) g c.args.tokens.now c.args.from c.in_ok-s.to (simple_of c.in_ok-s.s)) c.args.pos c.args.name.now (kind_at c.args.tokens.now c.args.from) (search rules) c.in_ok-s.ensures.found

pub returns-clause-found : goal.returns-clause-found
returns-clause-found c = named_once (λ g. Spells (inner c.args.room) g c.args.tokens.now c.args.from c.in_ok-s-2.to (simple_of c.in_ok-s-2.s)) c.args.pos c.args.name.now (kind_at c.args.tokens.now c.args.from) (search rules) c.in_ok-s-2.ensures.found
