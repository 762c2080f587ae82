-- Statements that hold no other one and declare nothing.
use Rattle.std.specs.Prelude.{List, [], Bool, true, false, if◌then◌else◌}
use Rattle.uc_tree.specs.Statements.{Stmt, Block, Declare, If, While, Do, For, Try, Enable, Disable, Accept}
use Rattle.uc_rules.specs.Scopes.{Env}
use Rattle.uc_rules.specs.Visits.{Visit, stmt_visits}

abbrev pub is_alone : Stmt → Bool
is_alone (Block p body) = false
is_alone (Declare p b ds) = false
is_alone (If p test chosen other) = false
is_alone (While p test body) = false
is_alone (Do p body test) = false
is_alone (For p start test step body) = false
is_alone (Try p brace body hs) = false
is_alone (Enable p events body) = false
is_alone (Disable p events body) = false
is_alone (Accept p cs other) = false
is_alone _ = true

-- the visits of such a statement; of the others none
abbrev pub alone_visits : Stmt → Env → List Visit
alone_visits s env = if is_alone s then stmt_visits s env else []
