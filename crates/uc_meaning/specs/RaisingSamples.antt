-- Sample programs with events, as the trees of their texts, and journals that are worked out by hand. Each place has the line of its
-- text, and column 1.
use Rattle.std.specs.Prelude.{ℕ, pos, List, [], ◌∷◌, ◌++◌, codes, Option, Some, None}
use Rattle.uc_tree.specs.declared.kinds.Base.TheVariants as base
use Rattle.uc_tree.specs.declared.kinds.Owner.TheVariants as owner
use Rattle.uc_tree.specs.declared.kinds.Role.TheVariants as role
use Rattle.uc_tree.specs.declared.kinds.Kind.TheVariants as kind_of
use Rattle.uc_tree.specs.declared.kinds.HandlerKind.{HandlerKind}
use Rattle.uc_tree.specs.declared.kinds.HandlerKind.TheVariants as handler_kind
use Rattle.uc_tree.specs.Expressions.{Expr, Postfix, exprs_of, Field, parts_of}
use Rattle.uc_tree.specs.Statements.{NoStart, StartValue, Raised, Stmt, Evaluate, Declare, Print, Return, Try, Throw, Raise, stmts_of, Handler, Handles, handlers_of}
use Rattle.uc_tree.specs.Programs.{Item, ClassItem, RoutineItem, FieldsMember, Member, Program}
use Rattle.uc_resolve.specs.Resolve.{source_of}
use Rattle.uc_entry.specs.declared.entry.EntryKind.TheVariants as kind
use Rattle.uc_acts.specs.Journal.{Journal, entry}
use Rattle.uc_meaning.specs.SamplePrograms.{in_line}
use Rattle.uc_meaning.specs.Runs.{IsRun}
use Rattle.uc_acts.specs.Samples.{options}
use Rattle.uc_meaning.specs.ObjectSamples.{at, named, number, called, character, value, variable, int_param, sig, routine, init, open_to_all, constructor, destructor, class, main, prints, opening, done}

-- trees

abbrev event : ℕ → List ℕ → List Member → Item
event line name members = ClassItem (record { pos = at line; kind = kind_of.Event; name = name; members = members })

-- an event of the name E with these arguments
abbrev raised : ℕ → List Expr → Option Raised
raised line args = Some (record { pos = at line; name = codes "E"; args = exprs_of args })

-- a guarded block with one handler
abbrev guarded : ℕ → List Stmt → Handler → Stmt
guarded line body handler = Try (at line) (at line) (stmts_of body) (handlers_of (handler ∷ []))

-- a handler of E, whose parameter is e
abbrev handles : ℕ → HandlerKind → List Stmt → Handler
handles line kind body = Handles (at line) kind (Some (codes "E")) (Some (codes "e")) (at line) (stmts_of body)

-- the field of that event
abbrev field_of_event : ℕ → Expr
field_of_event line = Postfix (at line) (named line (codes "e")) (parts_of (Field (at line) (codes "n") ∷ []))

-- `_Event E { public: int n; E(int n) : n(n) {} };`
abbrev event_with_field : Item
event_with_field = event 1 (codes "E") (open_to_all 1 (FieldsMember (at 1) base.Int (variable 1 (codes "n") NoStart ∷ [])) ∷ constructor 1 (codes "E") (int_param 1 (codes "n") ∷ []) (init 1 (codes "n") (named 1 (codes "n") ∷ []) ∷ []) [] ∷ [])

-- line 1: _Event E { public: int n; E(int n) : n(n) {} };
-- line 2: class A { public: ~A() { cout << '-'; } };
-- line 3: void uMain::main() { try { A a; _Throw E(7); } catch (E & e) { cout << e.n; } cout << '.'; }
abbrev pub thrown_text : Program
thrown_text = record {
  items = event_with_field ∷ class 2 (codes "A") (destructor 2 (codes "A") (Print (at 2) (character 2 45 ∷ []) ∷ []) ∷ []) ∷ main 3 (guarded 3 (Declare (at 3) (base.Named (codes "A")) (variable 3 (codes "a") NoStart ∷ []) ∷ Throw (at 3) (raised 3 (number 3 7 ∷ [])) ∷ []) (handles 3 handler_kind.Catch (Print (at 3) (value 3 (field_of_event 3) ∷ []) ∷ [])) ∷ Print (at 3) (character 3 46 ∷ []) ∷ []) ∷ [];
}

-- -7.: the constructor of the event and the destructor make a tick each, and the handler runs behind the destructor
abbrev pub thrown_journal : Journal
thrown_journal = opening ++ in_line 2 (prints 2 1 45) ∷ in_line 3 (prints 0 0 7) ∷ in_line 3 (prints 0 1 46) ∷ done 3

pub record ThrownRun : Type 0 where
  pub run : IsRun (source_of thrown_text) [] options thrown_journal

-- line 1: _Event E { public: int n; E(int n) : n(n) {} };
-- line 2: void f(int k) { _Resume E(k); cout << '+'; }
-- line 3: void uMain::main() { int x = 5;
-- line 4:     try {
-- line 5:         try { f(2); } _CatchResume (E & e) { cout << e.n; _Resume; } } _CatchResume (E & e) { cout << x; } }
abbrev pub resumed_text : Program
resumed_text = record {
  items = event_with_field ∷ RoutineItem (routine 2 (sig 2 owner.Here role.Plain base.Void (codes "f") (int_param 2 (codes "k") ∷ [])) [] (Raise (at 2) (raised 2 (named 2 (codes "k") ∷ [])) ∷ Print (at 2) (character 2 43 ∷ []) ∷ [])) ∷ main 3 (Declare (at 3) base.Int (variable 3 (codes "x") (StartValue (number 3 5)) ∷ []) ∷ guarded 4 (guarded 5 (Evaluate (at 5) (called 5 (codes "f") (number 5 2 ∷ [])) ∷ []) (handles 5 handler_kind.CatchResume (Print (at 5) (value 5 (field_of_event 5) ∷ []) ∷ Raise (at 5) None ∷ [])) ∷ []) (handles 5 handler_kind.CatchResume (Print (at 5) (value 5 (named 5 (codes "x")) ∷ []) ∷ [])) ∷ []) ∷ [];
}

-- 25+: each handler has the variables of the main and returns to the raise; the second raise passes over the block of the handler
-- that makes it
abbrev pub resumed_journal : Journal
resumed_journal = opening ++ in_line 5 (prints 2 0 2) ∷ in_line 5 (prints 0 0 5) ∷ in_line 2 (prints 0 1 43) ∷ done 3

pub record ResumedRun : Type 0 where
  pub run : IsRun (source_of resumed_text) [] options resumed_journal

-- line 1: _Event E {};
-- line 2: class N { public: ~N() { _Throw E(); } };
-- line 3: void uMain::main() {
-- line 4:     try { N n; _Throw E(); } catch (...) { } }
abbrev pub escaped_text : Program
escaped_text = record {
  items = event 1 (codes "E") [] ∷ class 2 (codes "N") (destructor 2 (codes "N") (Throw (at 2) (raised 2 []) ∷ []) ∷ []) ∷ main 3 (guarded 4 (Declare (at 4) (base.Named (codes "N")) (variable 4 (codes "n") NoStart ∷ []) ∷ Throw (at 4) (raised 4 []) ∷ []) (Handles (at 4) handler_kind.Catch None None (at 4) (stmts_of [])) ∷ []) ∷ [];
}

-- the destructor is called as its block is unwound: the second event escapes, in the line of the block
abbrev pub escaped_journal : Journal
escaped_journal = opening ++ in_line 4 (entry kind.Fault 0 0 1 0 (pos 13) (pos 4)) ∷ []

pub record EscapedRun : Type 0 where
  pub run : IsRun (source_of escaped_text) [] options escaped_journal

-- line 1: _Event E {};
-- line 2: class A { public: ~A() { cout << '-'; } };
-- line 3: int f() { A a; try { A b; _Resume E(); cout << '+'; } _CatchResume (E & e) { return 7; } return 1; }
-- line 4: void uMain::main() { cout << f(); }
abbrev object : List ℕ → Stmt
object name = Declare (at 3) (base.Named (codes "A")) (variable 3 name NoStart ∷ [])

abbrev handing : ℕ → Stmt
handing n = Return (at 3) (Some (number 3 n))

abbrev pub returned_text : Program
returned_text = record {
  items = event 1 (codes "E") [] ∷ class 2 (codes "A") (destructor 2 (codes "A") (Print (at 2) (character 2 45 ∷ []) ∷ []) ∷ []) ∷ RoutineItem (routine 3 (sig 3 owner.Here role.Plain base.Int (codes "f") []) [] (object (codes "a") ∷ guarded 3 (object (codes "b") ∷ Raise (at 3) (raised 3 []) ∷ Print (at 3) (character 3 43 ∷ []) ∷ []) (handles 3 handler_kind.CatchResume (handing 7 ∷ [])) ∷ handing 1 ∷ [])) ∷ main 4 (Print (at 4) (value 4 (called 4 (codes "f") []) ∷ []) ∷ []) ∷ [];
}

-- --7: a return in a resumption handler leaves the routine in which the handler stands, from the raise on
abbrev pub returned_journal : Journal
returned_journal = opening ++ in_line 2 (prints 2 1 45) ∷ in_line 2 (prints 1 1 45) ∷ in_line 4 (prints 0 0 7) ∷ done 4

pub record ReturnedRun : Type 0 where
  pub run : IsRun (source_of returned_text) [] options returned_journal
