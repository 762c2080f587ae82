-- The tree of the generated program.
use Rattle.std.proofs.Common.{◌≡◌, ℕ, zero, suc, Bool, true, false, List, [], ◌∷◌, ◌++◌, refl}
use Rattle.std.specs.Prelude.{pos, decimal, codes, Some, None}
use Rattle.uc_tree.specs.declared.pos.Pos.{Pos}
use Rattle.uc_tree.specs.declared.scan.ScanPlace.{ScanPlace}
use Rattle.uc_tree.specs.declared.ops.BinaryOp.TheVariants as binary
use Rattle.uc_tree.specs.declared.ops.AssignOp.TheVariants as assign
use Rattle.uc_tree.specs.declared.kinds.Base.TheVariants as base
use Rattle.uc_tree.specs.declared.kinds.Kind.TheVariants as kind
use Rattle.uc_tree.specs.declared.kinds.Access.TheVariants as access
use Rattle.uc_tree.specs.declared.kinds.MutexMark.TheVariants as mark
use Rattle.uc_tree.specs.declared.kinds.Role.TheVariants as role
use Rattle.uc_tree.specs.declared.kinds.Owner.TheVariants as owner
use Rattle.uc_tree.specs.declared.kinds.Param.{Param}
use Rattle.uc_tree.specs.Expressions.{Expr, Number, Name, Postfix, Chain, Assign, Field, Call, NoExprs, Linked, exprs_of, parts_of, links_of}
use Rattle.uc_tree.specs.Statements.{Stmt, Stmts, Declarator, Block, Evaluate, Declare, For, ForDeclare, Return, Print, Yield, NoStmts, NoStart, StartValue, StartArgs, Literal, Printed, Endl, stmts_of}
use Rattle.uc_tree.specs.Programs.{Routine, Item, ClassItem, RoutineItem, FieldsMember, RoutineMember, Program}
use Rattle.uc_make.specs.Generated.{workers, quoted}
use Rattle.uc_made.proofs.Lexing.{past}
use Rattle.uc_made.proofs.GeneratedTokens.{front_end, name_place, open_place, number_place, count_place, total_place}

abbrev at : ℕ → ℕ → Pos
at line col = record { line = line; col = col }

abbrev named : Pos → List ℕ → Expr
named p name = Name p name

abbrev field : Pos → Bool → List ℕ → Declarator
field p by_ref name = record { pos = p; by_ref = by_ref; name = name; len = None; start = NoStart }

abbrev number_param : Pos → Param
number_param p = record { pos = p; base = base.Int; by_ref = false; name = codes "n" }

abbrev total_param : Pos → Param
total_param p = record { pos = p; base = base.Named (codes "Total"); by_ref = true; name = codes "t" }

-- the monitor

abbrev adds : Routine
adds = record {
  sig = record { pos = at 1 35; owner = owner.Here; role = role.Plain; ret = base.Void; name = codes "add"; params = number_param (at 1 44) ∷ [] };
  inits = [];
  brace = at 1 51;
  body = stmts_of (Evaluate (at 1 53) (Assign (at 1 53) (at 1 57) assign.Add (named (at 1 53) (codes "sum")) (named (at 1 60) (codes "n"))) ∷ []);
}

abbrev gets : Routine
gets = record {
  sig = record { pos = at 1 65; owner = owner.Here; role = role.Plain; ret = base.Int; name = codes "get"; params = [] };
  inits = [];
  brace = at 1 75;
  body = stmts_of (Return (at 1 77) (Some (named (at 1 84) (codes "sum"))) ∷ []);
}

abbrev pub total_class : Item
total_class = ClassItem (record {
  pos = at 1 1;
  kind = kind.Monitor;
  name = codes "Total";
  members =
      record { pos = at 1 18; access = access.Private; mark = mark.Unmarked; form = FieldsMember (at 1 18) base.Int (field (at 1 22) false (codes "sum") ∷ []) }
      ∷ record { pos = at 1 35; access = access.Public; mark = mark.Unmarked; form = RoutineMember adds }
      ∷ record { pos = at 1 65; access = access.Public; mark = mark.Unmarked; form = RoutineMember gets } ∷ [];
})

-- the task

abbrev turn : Stmts
turn = stmts_of (
    Evaluate (at 3 50) (Postfix (at 3 50) (named (at 3 50) (codes "t")) (parts_of (Field (at 3 51) (codes "add") ∷ Call (at 3 55) (exprs_of (Chain (at 3 56) (named (at 3 56) (codes "n")) (links_of (Linked (at 3 58) binary.Mul (named (at 3 60) (codes "i")) ∷ [])) ∷ [])) ∷ [])))
    ∷ Yield (at 3 64) ∷ [])

abbrev loop : Stmt
loop = For (at 3 15)
    (ForDeclare (at 3 20) base.Int (record { pos = at 3 24; by_ref = false; name = codes "i"; len = None; start = StartValue (Number (at 3 28) (pos 1)) } ∷ []))
    (Some (Chain (at 3 31) (named (at 3 31) (codes "i")) (links_of (Linked (at 3 33) binary.LessEqual (Number (at 3 36) (pos 10)) ∷ []))))
    (Some (Assign (at 3 40) (at 3 42) assign.Add (named (at 3 40) (codes "i")) (Number (at 3 45) (pos 1))))
    (Block (at 3 48) turn)

abbrev works : Routine
works = record {
  sig = record { pos = at 3 1; owner = owner.Here; role = role.Plain; ret = base.Void; name = codes "main"; params = [] };
  inits = [];
  brace = at 3 13;
  body = stmts_of (loop ∷ []);
}

abbrev builds : Routine
builds = record {
  sig = record { pos = at 4 9; owner = owner.Here; role = role.Constructor; ret = base.Void; name = codes "Worker"; params = total_param (at 4 16) ∷ number_param (at 4 27) ∷ [] };
  inits = record { pos = at 4 36; name = codes "t"; args = exprs_of (named (at 4 38) (codes "t") ∷ []) } ∷ record { pos = at 4 42; name = codes "n"; args = exprs_of (named (at 4 44) (codes "n") ∷ []) } ∷ [];
  brace = at 4 47;
  body = NoStmts;
}

abbrev pub worker_class : Item
worker_class = ClassItem (record {
  pos = at 2 1;
  kind = kind.Task;
  name = codes "Worker";
  members =
      record { pos = at 2 16; access = access.Private; mark = mark.Unmarked; form = FieldsMember (at 2 16) (base.Named (codes "Total")) (field (at 2 22) true (codes "t") ∷ []) }
      ∷ record { pos = at 2 27; access = access.Private; mark = mark.Unmarked; form = FieldsMember (at 2 27) base.Int (field (at 2 31) false (codes "n") ∷ []) }
      ∷ record { pos = at 3 1; access = access.Private; mark = mark.Unmarked; form = RoutineMember works }
      ∷ record { pos = at 4 9; access = access.Public; mark = mark.Unmarked; form = RoutineMember builds } ∷ [];
})

-- the statements of main

abbrev pub total_stmt : Stmt
total_stmt = Declare (at 6 1) (base.Named (codes "Total")) (field (at 6 7) false (codes "t") ∷ [])

-- the declarator of a worker whose line begins at this place
abbrev pub worker_declarator : ScanPlace → ℕ → Declarator
worker_declarator p k = record { pos = (name_place p).pos; by_ref = false; name = 119 ∷ decimal k; len = None; start = StartArgs (exprs_of (named (past (open_place p k) (codes "(")).pos (codes "t") ∷ Number (number_place p k).pos (pos k) ∷ [])) }

abbrev pub worker_stmt : ScanPlace → ℕ → Stmt
worker_stmt p k = Declare p.pos (base.Named (codes "Worker")) (worker_declarator p k ∷ [])

pub workers_stmts : ScanPlace → ℕ → List Stmt
workers_stmts p zero = []
workers_stmts p (suc n) = workers_stmts p n ++ worker_stmt (past p (workers n)) (suc n) ∷ []

pub no_stmts : (p : ScanPlace) → workers_stmts p zero ≡ []
unfolding workers_stmts
no_stmts p = refl

pub more_stmts : (p : ScanPlace) (n : ℕ) → workers_stmts p (suc n) ≡ workers_stmts p n ++ worker_stmt (past p (workers n)) (suc n) ∷ []
unfolding workers_stmts
more_stmts p n = refl

-- what is printed, where the lines of workers end at the first place and the number of tasks ends at the second
abbrev printed : ScanPlace → ScanPlace → ℕ → Stmt
printed q r n = Print (past q (codes "}\n")).pos (
    Literal (past q (codes "}\ncout ")).pos (codes "tasks ")
    ∷ Printed (past q (codes "}\ncout << " ++ (quoted (codes "tasks ") ++ codes " "))).pos (Number (count_place q).pos (pos n))
    ∷ Literal (past r (codes " ")).pos (codes " total ")
    ∷ Printed (past (total_place r) (codes " ")).pos (Postfix (past (total_place r) (codes " << ")).pos (named (past (total_place r) (codes " << ")).pos (codes "t")) (parts_of (Field (past (total_place r) (codes " << t")).pos (codes "get") ∷ Call (past (total_place r) (codes " << t.get")).pos NoExprs ∷ [])))
    ∷ Endl (past (total_place r) (codes " << t.get() ")).pos ∷ [])

abbrev pub count_stmt : ScanPlace → ℕ → Stmt
count_stmt q n = printed q (past (count_place q) (decimal n)) n

-- a main with this block of workers, and this statement behind it
abbrev pub main_with : List Stmt → Stmt → Routine
main_with ws last = record {
  sig = record { pos = at 5 1; owner = owner.Main; role = role.Plain; ret = base.Void; name = codes "main"; params = [] };
  inits = [];
  brace = at 5 20;
  body = stmts_of (total_stmt ∷ Block (at 7 1) (stmts_of ws) ∷ last ∷ []);
}

abbrev pub program_with : List Stmt → Stmt → Program
program_with ws last = record { items = total_class ∷ worker_class ∷ RoutineItem (main_with ws last) ∷ [] }

-- the program of n tasks
abbrev pub made : ℕ → Program
made n = program_with (workers_stmts front_end n) (count_stmt (past front_end (workers n)) n)
