use Rattle.uc_lex.proofs.Endings.{text_ending-piece}
use Rattle.uc_lex.proofs.literals.piece_at.Goals as goal

pub returns-clause-goes_on : goal.returns-clause-goes_on
returns-clause-goes_on c = rw (c.piece_of.ensures, c.byte_at.ensures, c.byte_at-2.ensures) ((text_ending-piece c.args.rest.now).0)

pub returns-clause-moves : goal.returns-clause-moves
returns-clause-moves c = rw (c.piece_of.ensures, c.byte_at.ensures, c.byte_at-2.ensures) ((text_ending-piece c.args.rest.now).1)
