-- Parts of plain statements that no tree has, as the code holds them.
use Rattle.std.specs.Prelude.{Bool, true, false}
use Rattle.uc_grammar.specs.Names.{Simple, Declares, Evaluates}
use Rattle.uc_grammar.specs.Grammar.{Caught}
use Rattle.uc_grammar.specs.declared.start.StmtStart.{StmtStart}
use Rattle.uc_grammar.specs.declared.start.StmtStart.TheVariants as start
use Rattle.uc_parse_simple.specs.declared.declare.Simple.{Simple as Held}
use Rattle.uc_parse_simple.specs.declared.declare.Simple.TheVariants as held
use Rattle.uc_parse_simple.specs.declared.event.Caught.{Caught as HeldCaught}

abbrev pub simple_of : Held → Simple
simple_of (held.Declares pos base declarators) = Declares pos base declarators.items
simple_of (held.Evaluates pos value) = Evaluates pos value

abbrev pub caught_of : HeldCaught → Caught
caught_of c = (c.event, c.param)

-- the statements that hold no statement
abbrev pub is_plain : StmtStart → Bool
is_plain start.Block = false
is_plain start.If = false
is_plain start.While = false
is_plain start.Do = false
is_plain start.For = false
is_plain start.Try = false
is_plain start.Enable = false
is_plain start.Disable = false
is_plain start.Accept = false
is_plain _ = true

-- those of one word or none, and those that begin with neither a word nor a sign of a statement
abbrev pub is_bare : StmtStart → Bool
is_bare start.Empty = true
is_bare start.Break = true
is_bare start.Continue = true
is_bare start.Resume = true
is_bare start.Suspend = true
is_bare start.Yield = true
is_bare start.Simple = true
is_bare _ = false
