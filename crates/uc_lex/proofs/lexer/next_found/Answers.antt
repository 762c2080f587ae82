use Rattle.std.proofs.Common.{sym, subst, length}
use Rattle.uc_tree.specs.declared.scan.Lexeme.{Lexeme}
use Rattle.uc_lex.specs.Places.{InText}
use Rattle.uc_lex.proofs.Inside.{found_inside}
use Rattle.uc_lex.proofs.lexer.next_found.Goals as goal

pub returns-clause-inside : goal.returns-clause-inside
returns-clause-inside c = let P : Lexeme → Type 0 = λ f. InText f (length c.args.rest.now) in subst P (sym c.in_ok-found.ensures) (found_inside c.args.fresh c.args.rest.now c.requires.some)
