use Rattle.std.proofs.Common.{◌≡◌, refl, ap, subst, sym}
use Rattle.uc_grammar.specs.Names.{Declares, Evaluates}
use Rattle.uc_grammar.specs.Form.{Spells}
use Rattle.uc_grammar.specs.Grammar.{simple_form, inner}
use Rattle.uc_parse_simple.specs.Parts.{simple_of}
use Rattle.uc_parse_simple.proofs.declare.read_simple_stmt.Goals as goal

pub returns-in-Declares-clause-found : goal.returns-in-Declares-clause-found
returns-in-Declares-clause-found c = let e : Declares c.in-Declares.pos c.in-Declares.base c.in-Declares.declarators.items ≡ simple_of c.in_ok-s.s = subst (λ s. Declares c.in-Declares.pos c.in-Declares.base c.in-Declares.declarators.items ≡ simple_of s) c.in_ok-s-2.ensures.same (sym (ap simple_of c.in-Declares.is)) in
    record { inside = Declares c.in-Declares.pos c.in-Declares.base c.in-Declares.declarators.items; spelled = record { middle = c.in_ok-s.at; left = simple_of c.in_ok-s.s; first = c.in_ok-s.ensures.found; second = (c.in_ok-s-2.ensures.found.0, (c.in_ok-s-2.ensures.found.1, e)) }; value = refl }

pub returns-in-Evaluates-clause-found : goal.returns-in-Evaluates-clause-found
returns-in-Evaluates-clause-found c = let e : Evaluates c.in-Evaluates.pos c.in-Evaluates.value ≡ simple_of c.in_ok-s.s = subst (λ s. Evaluates c.in-Evaluates.pos c.in-Evaluates.value ≡ simple_of s) c.in_ok-s-2.ensures.same (sym (ap simple_of c.in-Evaluates.is)) in
    record { inside = Evaluates c.in-Evaluates.pos c.in-Evaluates.value; spelled = record { middle = c.in_ok-s.at; left = simple_of c.in_ok-s.s; first = c.in_ok-s.ensures.found; second = (c.in_ok-s-2.ensures.found.0, (c.in_ok-s-2.ensures.found.1, e)) }; value = refl }
