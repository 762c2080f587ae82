-- Sample programs with mutex objects and tasks, as the trees of their texts, with journals. What they print is worked out by hand.
-- Each place has the line of its text, and column 1.
use Rattle.std.specs.Prelude.{ℕ, pos, negsuc, false, true, List, [], ◌∷◌, codes, Some, None}
use Rattle.uc_tree.specs.declared.kinds.Base.TheVariants as base
use Rattle.uc_tree.specs.declared.kinds.Owner.TheVariants as owner
use Rattle.uc_tree.specs.declared.kinds.Role.TheVariants as role
use Rattle.uc_tree.specs.declared.kinds.Kind.{Kind}
use Rattle.uc_tree.specs.declared.kinds.Kind.TheVariants as kind_of
use Rattle.uc_tree.specs.declared.kinds.HandlerKind.TheVariants as handler_kind
use Rattle.uc_tree.specs.declared.ops.BinaryOp.TheVariants as binary
use Rattle.uc_tree.specs.declared.ops.AssignOp.TheVariants as assign
use Rattle.uc_tree.specs.Expressions.{Postfix, exprs_of, Field, parts_of, Assign, Index}
use Rattle.uc_tree.specs.Statements.{NoStart, StartValue, StartArgs, Endl, Literal, NoFor, Block, Empty, Evaluate, Declare, For, Break, Return, Try, Throw, RaiseAt, Enable, Accept, Print, Resume, Suspend, Migrate, NoStmt, stmts_of, Handles, handlers_of, Accepts, clauses_of, ForDeclare, Yield}
use Rattle.uc_tree.specs.Programs.{FieldsMember, RoutineMember, ProtoMember, Member, Item, ClassItem, RoutineItem, ForwardItem, Program}
use Rattle.uc_resolve.specs.Resolve.{source_of}
use Rattle.uc_entry.specs.declared.entry.EntryKind.TheVariants as kind
use Rattle.uc_acts.specs.Journal.{Journal, cost, entry, asking, begin}
use Rattle.uc_acts.specs.Acts.{dispatch}
use Rattle.uc_acts.specs.Samples.{options}
use Rattle.uc_meaning.specs.Runs.{IsRun}
use Rattle.uc_meaning.specs.ObjectSamples.{at, named, number, called_at, called, joined, set, character, value, variable, reference, int_param, sig, routine, init, hidden, open_to_all, main, array}

-- a class of any kind
abbrev class_of : ℕ → Kind → List ℕ → List Member → Item
class_of line k name members = ClassItem (record { pos = at line; kind = k; name = name; members = members })

-- line 1: _Task T { void main() { _Accept(~T) { cout << "told "; } cout << "rest "; } public: ~T() { cout << "destroyed" << endl; } };
-- line 2: void uMain::main() { T t; cout << "block "; }
abbrev pub told_text : Program
told_text = record {
  items = class_of 1 kind_of.Task (codes "T") (hidden 1 (RoutineMember (routine 1 (sig 1 owner.Here role.Plain base.Void (codes "main") []) [] (Accept (at 1) (clauses_of (Accepts (at 1) None (record { destructor = true; name = codes "T" } ∷ []) (Block (at 1) (stmts_of (Print (at 1) (Literal (at 1) (codes "told ") ∷ []) ∷ []))) ∷ [])) NoStmt ∷ Print (at 1) (Literal (at 1) (codes "rest ") ∷ []) ∷ []))) ∷ open_to_all 1 (RoutineMember (routine 1 (sig 1 owner.Here role.Destructor base.Void (codes "T") []) [] (Print (at 1) (Literal (at 1) (codes "destroyed") ∷ Endl (at 1) ∷ []) ∷ []))) ∷ []) ∷ main 2 (Declare (at 2) (base.Named (codes "T")) (variable 2 (codes "t") NoStart ∷ []) ∷ Print (at 2) (Literal (at 2) (codes "block ") ∷ []) ∷ []) ∷ [];
}

-- block told rest destroyed: the call of the destructor is accepted, and goes on where the main has ended
abbrev pub told_journal : Journal
told_journal =
    begin options ∷ dispatch 0 0 ∷ asking kind.Make 0 0 (cost 0 2) 1 (pos 1) (pos 0) ∷ asking kind.Spawn 0 0 (cost 0 2) 1 (pos 1) (pos 0) ∷ asking kind.Print 0 0 (cost 0 2) 0 (pos 2) (pos 3) ∷ asking kind.Call 0 0 (cost 1 2) 1 (pos 0) (pos 0) ∷ dispatch 0 1 ∷ (record (asking kind.Accept 0 1 (cost 0 1) 1 (pos 0) (pos 1)) { c = pos 0; d = pos 3 }) ∷ entry kind.Push 0 0 0 1 (pos 0) (pos 0) ∷ asking kind.Print 0 1 (cost 0 1) 0 (pos 2) (pos 0) ∷ asking kind.Print 0 1 (cost 0 1) 0 (pos 2) (pos 1) ∷ asking kind.End 0 1 (cost 0 1) 1 (pos 0) (pos 0) ∷ entry kind.Admit 0 0 0 1 (pos 3) (pos 0) ∷ dispatch 0 0 ∷ asking kind.Print 0 0 (cost 0 1) 0 (pos 2) (pos 2) ∷ asking kind.Print 0 0 (cost 0 1) 0 (pos 1) (pos 10) ∷ asking kind.Gone 0 0 (cost 0 2) 1 (pos 0) (pos 0) ∷ asking kind.End 0 0 (cost 0 2) 0 (pos 0) (pos 0) ∷ entry kind.Done 0 0 0 0 (pos 0) (pos 0) ∷ []

pub record ToldRun : Type 0 where
  pub run : IsRun (source_of told_text) [] options told_journal

-- line 1: _Coroutine Pong;
-- line 2: _Coroutine Ping { Pong & other; void main();
-- line 3:   public: Ping(Pong & o) : other(o) {} void go() { resume(); } };
-- line 4: _Coroutine Pong { Ping & other;
-- line 5:   void main() { for (int i = 0; i < 3; i += 1) { cout << "pong "; other.go(); }
-- line 6:     cout << "end-pong "; }
-- line 7:   public: Pong(Ping & o) : other(o) {} void go() { resume(); } };
-- line 8: void Ping::main() { for (int i = 0; i < 3; i += 1) { cout << "ping "; other.go(); }
-- line 9:   cout << "end-ping "; }
-- line 10: class Table { Ping p; Pong q; public: Table() : p(q), q(p) {}
-- line 11:   void play() { p.go(); cout << "back" << endl; } };
-- line 12: void uMain::main() { Table t; t.play(); }
abbrev pub ping_pong_text : Program
ping_pong_text = record {
  items = ForwardItem (record { pos = at 1; kind = kind_of.Coroutine; name = codes "Pong" }) ∷ class_of 2 kind_of.Coroutine (codes "Ping") (hidden 2 (FieldsMember (at 2) (base.Named (codes "Pong")) (reference 2 (codes "other") ∷ [])) ∷ hidden 2 (ProtoMember (sig 2 owner.Here role.Plain base.Void (codes "main") [])) ∷ open_to_all 3 (RoutineMember (routine 3 (sig 3 owner.Here role.Constructor base.Void (codes "Ping") (record { pos = at 3; base = base.Named (codes "Pong"); by_ref = true; name = codes "o" } ∷ [])) (init 3 (codes "other") (named 3 (codes "o") ∷ []) ∷ []) [])) ∷ open_to_all 3 (RoutineMember (routine 3 (sig 3 owner.Here role.Plain base.Void (codes "go") []) [] (Resume (at 3) ∷ []))) ∷ []) ∷ class_of 4 kind_of.Coroutine (codes "Pong") (hidden 4 (FieldsMember (at 4) (base.Named (codes "Ping")) (reference 4 (codes "other") ∷ [])) ∷ hidden 5 (RoutineMember (routine 5 (sig 5 owner.Here role.Plain base.Void (codes "main") []) [] (For (at 5) (ForDeclare (at 5) base.Int (variable 5 (codes "i") (StartValue (number 5 0)) ∷ [])) (Some (joined 5 binary.Less (named 5 (codes "i")) (number 5 3))) (Some (Assign (at 5) (at 5) assign.Add (named 5 (codes "i")) (number 5 1))) (Block (at 5) (stmts_of (Print (at 5) (Literal (at 5) (codes "pong ") ∷ []) ∷ Evaluate (at 5) (called_at 5 (named 5 (codes "other")) [] (codes "go") []) ∷ []))) ∷ Print (at 6) (Literal (at 6) (codes "end-pong ") ∷ []) ∷ []))) ∷ open_to_all 7 (RoutineMember (routine 7 (sig 7 owner.Here role.Constructor base.Void (codes "Pong") (record { pos = at 7; base = base.Named (codes "Ping"); by_ref = true; name = codes "o" } ∷ [])) (init 7 (codes "other") (named 7 (codes "o") ∷ []) ∷ []) [])) ∷ open_to_all 7 (RoutineMember (routine 7 (sig 7 owner.Here role.Plain base.Void (codes "go") []) [] (Resume (at 7) ∷ []))) ∷ []) ∷ RoutineItem (routine 8 (sig 8 (owner.Class (codes "Ping")) role.Plain base.Void (codes "main") []) [] (For (at 8) (ForDeclare (at 8) base.Int (variable 8 (codes "i") (StartValue (number 8 0)) ∷ [])) (Some (joined 8 binary.Less (named 8 (codes "i")) (number 8 3))) (Some (Assign (at 8) (at 8) assign.Add (named 8 (codes "i")) (number 8 1))) (Block (at 8) (stmts_of (Print (at 8) (Literal (at 8) (codes "ping ") ∷ []) ∷ Evaluate (at 8) (called_at 8 (named 8 (codes "other")) [] (codes "go") []) ∷ []))) ∷ Print (at 9) (Literal (at 9) (codes "end-ping ") ∷ []) ∷ [])) ∷ class_of 10 kind_of.Class (codes "Table") (hidden 10 (FieldsMember (at 10) (base.Named (codes "Ping")) (variable 10 (codes "p") NoStart ∷ [])) ∷ hidden 10 (FieldsMember (at 10) (base.Named (codes "Pong")) (variable 10 (codes "q") NoStart ∷ [])) ∷ open_to_all 10 (RoutineMember (routine 10 (sig 10 owner.Here role.Constructor base.Void (codes "Table") []) (init 10 (codes "p") (named 10 (codes "q") ∷ []) ∷ init 10 (codes "q") (named 10 (codes "p") ∷ []) ∷ []) [])) ∷ open_to_all 11 (RoutineMember (routine 11 (sig 11 owner.Here role.Plain base.Void (codes "play") []) [] (Evaluate (at 11) (called_at 11 (named 11 (codes "p")) [] (codes "go") []) ∷ Print (at 11) (Literal (at 11) (codes "back") ∷ Endl (at 11) ∷ []) ∷ []))) ∷ []) ∷ main 12 (Declare (at 12) (base.Named (codes "Table")) (variable 12 (codes "t") NoStart ∷ []) ∷ Evaluate (at 12) (called_at 12 (named 12 (codes "t")) [] (codes "play") []) ∷ []) ∷ [];
}

-- ping pong ping pong ping pong end-ping back: the main of p ends and activates its starter, not q, its last resumer
abbrev pub ping_pong_journal : Journal
ping_pong_journal =
    begin options ∷ dispatch 0 0 ∷ asking kind.Print 0 0 (cost 6 8) 0 (pos 2) (pos 2) ∷ asking kind.Print 0 0 (cost 2 5) 0 (pos 2) (pos 0) ∷ asking kind.Print 0 0 (cost 2 8) 0 (pos 2) (pos 2) ∷ asking kind.Print 0 0 (cost 2 5) 0 (pos 2) (pos 0) ∷ asking kind.Print 0 0 (cost 2 8) 0 (pos 2) (pos 2) ∷ asking kind.Print 0 0 (cost 2 5) 0 (pos 2) (pos 0) ∷ asking kind.Print 0 0 (cost 1 9) 0 (pos 2) (pos 3) ∷ asking kind.Print 0 0 (cost 0 11) 0 (pos 2) (pos 4) ∷ asking kind.Print 0 0 (cost 0 11) 0 (pos 1) (pos 10) ∷ asking kind.End 0 0 (cost 0 12) 0 (pos 0) (pos 0) ∷ entry kind.Done 0 0 0 0 (pos 0) (pos 0) ∷ []

pub record Ping_pongRun : Type 0 where
  pub run : IsRun (source_of ping_pong_text) [] options ping_pong_journal

-- line 1: _Cormonitor Two { void main() { cout << "one "; suspend(); cout << "two "; }
-- line 2:   public: void step() { resume(); } };
-- line 3: _Task A { Two & t; int n; void main() { t.step(); cout << n << ' '; }
-- line 4:   public: A(Two & t, int n) : t(t), n(n) {} };
-- line 5: void uMain::main() { Two t; { A a(t, 1); } { A b(t, 2); } cout << "end" << endl; }
abbrev pub two_steps_text : Program
two_steps_text = record {
  items = class_of 1 kind_of.Cormonitor (codes "Two") (hidden 1 (RoutineMember (routine 1 (sig 1 owner.Here role.Plain base.Void (codes "main") []) [] (Print (at 1) (Literal (at 1) (codes "one ") ∷ []) ∷ Suspend (at 1) ∷ Print (at 1) (Literal (at 1) (codes "two ") ∷ []) ∷ []))) ∷ open_to_all 2 (RoutineMember (routine 2 (sig 2 owner.Here role.Plain base.Void (codes "step") []) [] (Resume (at 2) ∷ []))) ∷ []) ∷ class_of 3 kind_of.Task (codes "A") (hidden 3 (FieldsMember (at 3) (base.Named (codes "Two")) (reference 3 (codes "t") ∷ [])) ∷ hidden 3 (FieldsMember (at 3) base.Int (variable 3 (codes "n") NoStart ∷ [])) ∷ hidden 3 (RoutineMember (routine 3 (sig 3 owner.Here role.Plain base.Void (codes "main") []) [] (Evaluate (at 3) (called_at 3 (named 3 (codes "t")) [] (codes "step") []) ∷ Print (at 3) (value 3 (named 3 (codes "n")) ∷ character 3 32 ∷ []) ∷ []))) ∷ open_to_all 4 (RoutineMember (routine 4 (sig 4 owner.Here role.Constructor base.Void (codes "A") (record { pos = at 4; base = base.Named (codes "Two"); by_ref = true; name = codes "t" } ∷ int_param 4 (codes "n") ∷ [])) (init 4 (codes "t") (named 4 (codes "t") ∷ []) ∷ init 4 (codes "n") (named 4 (codes "n") ∷ []) ∷ []) [])) ∷ []) ∷ main 5 (Declare (at 5) (base.Named (codes "Two")) (variable 5 (codes "t") NoStart ∷ []) ∷ Block (at 5) (stmts_of (Declare (at 5) (base.Named (codes "A")) (variable 5 (codes "a") (StartArgs (exprs_of (named 5 (codes "t") ∷ number 5 1 ∷ []))) ∷ []) ∷ [])) ∷ Block (at 5) (stmts_of (Declare (at 5) (base.Named (codes "A")) (variable 5 (codes "b") (StartArgs (exprs_of (named 5 (codes "t") ∷ number 5 2 ∷ []))) ∷ []) ∷ [])) ∷ Print (at 5) (Literal (at 5) (codes "end") ∷ Endl (at 5) ∷ []) ∷ []) ∷ [];
}

-- one 1 two 2 end: two tasks resume one cormonitor; the starter is gone at the end of its main, so the last resumer goes on
abbrev pub two_steps_journal : Journal
two_steps_journal =
    begin options ∷ dispatch 0 0 ∷ asking kind.Make 0 0 (cost 0 5) 1 (pos 1) (pos 0) ∷ asking kind.Made 0 0 (cost 0 5) 1 (pos 0) (pos 0) ∷ asking kind.Make 0 0 (cost 1 5) 2 (pos 2) (pos 0) ∷ asking kind.Spawn 0 0 (cost 0 5) 2 (pos 1) (pos 0) ∷ asking kind.Call 0 0 (cost 0 5) 2 (pos 0) (pos 0) ∷ dispatch 0 1 ∷ asking kind.Call 0 1 (cost 1 3) 1 (pos 1) (pos 0) ∷ entry kind.Admit 0 1 0 1 (pos 0) (pos 0) ∷ asking kind.Print 0 1 (cost 0 1) 0 (pos 2) (pos 0) ∷ asking kind.Leave 0 1 (cost 0 3) 1 (pos 0) (pos 0) ∷ asking kind.Print 0 1 (cost 0 3) 0 (pos 0) (pos 1) ∷ asking kind.Print 0 1 (cost 0 3) 0 (pos 1) (pos 32) ∷ asking kind.End 0 1 (cost 0 3) 2 (pos 0) (pos 0) ∷ entry kind.Admit 0 0 0 2 (pos 2) (pos 0) ∷ dispatch 0 0 ∷ asking kind.Gone 0 0 (cost 0 5) 2 (pos 0) (pos 0) ∷ asking kind.Make 0 0 (cost 1 5) 3 (pos 2) (pos 0) ∷ asking kind.Spawn 0 0 (cost 0 5) 3 (pos 2) (pos 0) ∷ asking kind.Call 0 0 (cost 0 5) 3 (pos 0) (pos 0) ∷ dispatch 0 2 ∷ asking kind.Call 0 2 (cost 1 3) 1 (pos 1) (pos 0) ∷ entry kind.Admit 0 2 0 1 (pos 0) (pos 0) ∷ asking kind.Print 0 2 (cost 0 1) 0 (pos 2) (pos 1) ∷ asking kind.Leave 0 2 (cost 0 3) 1 (pos 0) (pos 0) ∷ asking kind.Print 0 2 (cost 0 3) 0 (pos 0) (pos 2) ∷ asking kind.Print 0 2 (cost 0 3) 0 (pos 1) (pos 32) ∷ asking kind.End 0 2 (cost 0 3) 3 (pos 0) (pos 0) ∷ entry kind.Admit 0 0 0 3 (pos 2) (pos 0) ∷ dispatch 0 0 ∷ asking kind.Gone 0 0 (cost 0 5) 3 (pos 0) (pos 0) ∷ asking kind.Print 0 0 (cost 0 5) 0 (pos 2) (pos 2) ∷ asking kind.Print 0 0 (cost 0 5) 0 (pos 1) (pos 10) ∷ asking kind.Call 0 0 (cost 0 5) 1 (pos 0) (pos 0) ∷ entry kind.Admit 0 0 0 1 (pos 0) (pos 0) ∷ asking kind.Gone 0 0 (cost 0 5) 1 (pos 0) (pos 0) ∷ asking kind.End 0 0 (cost 0 5) 0 (pos 0) (pos 0) ∷ entry kind.Done 0 0 0 0 (pos 0) (pos 0) ∷ []

pub record Two_stepsRun : Type 0 where
  pub run : IsRun (source_of two_steps_text) [] options two_steps_journal

-- line 1: _Task Buf { int front, back, count, slot[2];
-- line 2:   void main() { _When (count == 5) _Accept(insert) { cout << "never"; }
-- line 3:     cout << "on ";
-- line 4:     for (;;) { _Accept(~Buf) { break; } or _When (count != 2) _Accept(insert) {}
-- line 5:       or _When (count != 0) _Accept(remove) {} }
-- line 6:     cout << "closed" << endl; }
-- line 7:   public: void insert(int v) { slot[back] = v; back = (back + 1) % 2; count += 1; }
-- line 8:   int remove() { int v = slot[front]; front = (front + 1) % 2; count -= 1; return v; } };
-- line 9: void uMain::main() { Buf b; b.insert(1); b.insert(2);
-- line 10:   cout << b.remove() << b.remove() << endl; }
abbrev pub guarded_text : Program
guarded_text = record {
  items = class_of 1 kind_of.Task (codes "Buf") (hidden 1 (FieldsMember (at 1) base.Int (variable 1 (codes "front") NoStart ∷ variable 1 (codes "back") NoStart ∷ variable 1 (codes "count") NoStart ∷ array 1 (codes "slot") 2 ∷ [])) ∷ hidden 2 (RoutineMember (routine 2 (sig 2 owner.Here role.Plain base.Void (codes "main") []) [] (Accept (at 2) (clauses_of (Accepts (at 2) (Some (joined 2 binary.Equal (named 2 (codes "count")) (number 2 5))) (record { destructor = false; name = codes "insert" } ∷ []) (Block (at 2) (stmts_of (Print (at 2) (Literal (at 2) (codes "never") ∷ []) ∷ []))) ∷ [])) NoStmt ∷ Print (at 3) (Literal (at 3) (codes "on ") ∷ []) ∷ For (at 4) NoFor None None (Block (at 4) (stmts_of (Accept (at 4) (clauses_of (Accepts (at 4) None (record { destructor = true; name = codes "Buf" } ∷ []) (Block (at 4) (stmts_of (Break (at 4) ∷ []))) ∷ Accepts (at 4) (Some (joined 4 binary.NotEqual (named 4 (codes "count")) (number 4 2))) (record { destructor = false; name = codes "insert" } ∷ []) (Block (at 4) (stmts_of [])) ∷ Accepts (at 5) (Some (joined 5 binary.NotEqual (named 5 (codes "count")) (number 5 0))) (record { destructor = false; name = codes "remove" } ∷ []) (Block (at 5) (stmts_of [])) ∷ [])) NoStmt ∷ []))) ∷ Print (at 6) (Literal (at 6) (codes "closed") ∷ Endl (at 6) ∷ []) ∷ []))) ∷ open_to_all 7 (RoutineMember (routine 7 (sig 7 owner.Here role.Plain base.Void (codes "insert") (int_param 7 (codes "v") ∷ [])) [] (Evaluate (at 7) (Assign (at 7) (at 7) assign.Set (Postfix (at 7) (named 7 (codes "slot")) (parts_of (Index (at 7) (named 7 (codes "back")) ∷ []))) (named 7 (codes "v"))) ∷ set 7 (codes "back") (joined 7 binary.Rem (joined 7 binary.Add (named 7 (codes "back")) (number 7 1)) (number 7 2)) ∷ Evaluate (at 7) (Assign (at 7) (at 7) assign.Add (named 7 (codes "count")) (number 7 1)) ∷ []))) ∷ open_to_all 8 (RoutineMember (routine 8 (sig 8 owner.Here role.Plain base.Int (codes "remove") []) [] (Declare (at 8) base.Int (variable 8 (codes "v") (StartValue (Postfix (at 8) (named 8 (codes "slot")) (parts_of (Index (at 8) (named 8 (codes "front")) ∷ [])))) ∷ []) ∷ set 8 (codes "front") (joined 8 binary.Rem (joined 8 binary.Add (named 8 (codes "front")) (number 8 1)) (number 8 2)) ∷ Evaluate (at 8) (Assign (at 8) (at 8) assign.Sub (named 8 (codes "count")) (number 8 1)) ∷ Return (at 8) (Some (named 8 (codes "v"))) ∷ []))) ∷ []) ∷ main 9 (Declare (at 9) (base.Named (codes "Buf")) (variable 9 (codes "b") NoStart ∷ []) ∷ Evaluate (at 9) (called_at 9 (named 9 (codes "b")) [] (codes "insert") (number 9 1 ∷ [])) ∷ Evaluate (at 9) (called_at 9 (named 9 (codes "b")) [] (codes "insert") (number 9 2 ∷ [])) ∷ Print (at 10) (value 10 (called_at 10 (named 10 (codes "b")) [] (codes "remove") []) ∷ value 10 (called_at 10 (named 10 (codes "b")) [] (codes "remove") []) ∷ Endl (at 10) ∷ []) ∷ []) ∷ [];
}

-- on 12, closed: an accept with a false guard alone asks nothing; the others take the clauses with true guards
abbrev pub guarded_journal : Journal
guarded_journal =
    begin options ∷ dispatch 0 0 ∷ asking kind.Make 0 0 (cost 0 9) 1 (pos 1) (pos 0) ∷ asking kind.Spawn 0 0 (cost 0 9) 1 (pos 1) (pos 0) ∷ asking kind.Call 0 0 (cost 1 9) 1 (pos 1) (pos 0) ∷ dispatch 0 1 ∷ asking kind.Print 0 1 (cost 0 3) 0 (pos 2) (pos 1) ∷ (record (asking kind.Accept 0 1 (cost 1 4) 1 (pos 1) (pos 3)) { c = pos 0; d = pos 1 }) ∷ entry kind.Admit 0 0 0 1 (pos 1) (pos 0) ∷ dispatch 0 0 ∷ asking kind.Leave 0 0 (cost 0 9) 1 (pos 0) (pos 0) ∷ entry kind.Admit 0 1 0 1 (pos 3) (pos 2) ∷ asking kind.Call 0 0 (cost 1 9) 1 (pos 1) (pos 0) ∷ dispatch 0 1 ∷ (record (asking kind.Accept 0 1 (cost 1 4) 1 (pos 1) (pos 7)) { c = pos 0; d = pos 1 }) ∷ entry kind.Admit 0 0 0 1 (pos 1) (pos 0) ∷ dispatch 0 0 ∷ asking kind.Leave 0 0 (cost 0 9) 1 (pos 0) (pos 0) ∷ entry kind.Admit 0 1 0 1 (pos 3) (pos 2) ∷ asking kind.Call 0 0 (cost 1 10) 1 (pos 2) (pos 0) ∷ dispatch 0 1 ∷ (record (asking kind.Accept 0 1 (cost 1 4) 1 (pos 1) (pos 5)) { c = pos 0; d = pos 1 }) ∷ entry kind.Admit 0 0 0 1 (pos 1) (pos 0) ∷ dispatch 0 0 ∷ asking kind.Leave 0 0 (cost 0 10) 1 (pos 0) (pos 0) ∷ entry kind.Admit 0 1 0 1 (pos 3) (pos 3) ∷ asking kind.Print 0 0 (cost 0 10) 0 (pos 0) (pos 1) ∷ asking kind.Call 0 0 (cost 1 10) 1 (pos 2) (pos 0) ∷ dispatch 0 1 ∷ (record (asking kind.Accept 0 1 (cost 1 4) 1 (pos 1) (pos 7)) { c = pos 0; d = pos 1 }) ∷ entry kind.Admit 0 0 0 1 (pos 1) (pos 0) ∷ dispatch 0 0 ∷ asking kind.Leave 0 0 (cost 0 10) 1 (pos 0) (pos 0) ∷ entry kind.Admit 0 1 0 1 (pos 3) (pos 3) ∷ asking kind.Print 0 0 (cost 0 10) 0 (pos 0) (pos 2) ∷ asking kind.Print 0 0 (cost 0 10) 0 (pos 1) (pos 10) ∷ asking kind.Call 0 0 (cost 0 9) 1 (pos 0) (pos 0) ∷ dispatch 0 1 ∷ (record (asking kind.Accept 0 1 (cost 1 4) 1 (pos 1) (pos 3)) { c = pos 0; d = pos 3 }) ∷ entry kind.Push 0 0 0 1 (pos 0) (pos 0) ∷ asking kind.Print 0 1 (cost 0 6) 0 (pos 2) (pos 2) ∷ asking kind.Print 0 1 (cost 0 6) 0 (pos 1) (pos 10) ∷ asking kind.End 0 1 (cost 0 2) 1 (pos 0) (pos 0) ∷ entry kind.Admit 0 0 0 1 (pos 3) (pos 0) ∷ dispatch 0 0 ∷ asking kind.Gone 0 0 (cost 0 9) 1 (pos 0) (pos 0) ∷ asking kind.End 0 0 (cost 0 9) 0 (pos 0) (pos 0) ∷ entry kind.Done 0 0 0 0 (pos 0) (pos 0) ∷ []

pub record GuardedRun : Type 0 where
  pub run : IsRun (source_of guarded_text) [] options guarded_journal

-- line 1: _Task S { uCondition c; void main() { _Accept(outer) { cout << "after "; } c.signal(); }
-- line 2:   void inner() { c.wait(); cout << "woken "; }
-- line 3:   public: void outer() { inner(); cout << "back "; } };
-- line 4: void uMain::main() { S s; s.outer(); cout << endl; }
abbrev pub signalled_text : Program
signalled_text = record {
  items = class_of 1 kind_of.Task (codes "S") (hidden 1 (FieldsMember (at 1) base.Condition (variable 1 (codes "c") NoStart ∷ [])) ∷ hidden 1 (RoutineMember (routine 1 (sig 1 owner.Here role.Plain base.Void (codes "main") []) [] (Accept (at 1) (clauses_of (Accepts (at 1) None (record { destructor = false; name = codes "outer" } ∷ []) (Block (at 1) (stmts_of (Print (at 1) (Literal (at 1) (codes "after ") ∷ []) ∷ []))) ∷ [])) NoStmt ∷ Evaluate (at 1) (called_at 1 (named 1 (codes "c")) [] (codes "signal") []) ∷ []))) ∷ hidden 2 (RoutineMember (routine 2 (sig 2 owner.Here role.Plain base.Void (codes "inner") []) [] (Evaluate (at 2) (called_at 2 (named 2 (codes "c")) [] (codes "wait") []) ∷ Print (at 2) (Literal (at 2) (codes "woken ") ∷ []) ∷ []))) ∷ open_to_all 3 (RoutineMember (routine 3 (sig 3 owner.Here role.Plain base.Void (codes "outer") []) [] (Evaluate (at 3) (called 3 (codes "inner") []) ∷ Print (at 3) (Literal (at 3) (codes "back ") ∷ []) ∷ []))) ∷ []) ∷ main 4 (Declare (at 4) (base.Named (codes "S")) (variable 4 (codes "s") NoStart ∷ []) ∷ Evaluate (at 4) (called_at 4 (named 4 (codes "s")) [] (codes "outer") []) ∷ Print (at 4) (Endl (at 4) ∷ []) ∷ []) ∷ [];
}

-- after woken back: whoever waits within an accepted call lets the acceptor go on, and comes in again from the stack
abbrev pub signalled_journal : Journal
signalled_journal =
    begin options ∷ dispatch 0 0 ∷ asking kind.Make 0 0 (cost 0 4) 1 (pos 1) (pos 0) ∷ asking kind.Spawn 0 0 (cost 0 4) 1 (pos 1) (pos 0) ∷ asking kind.Call 0 0 (cost 1 4) 1 (pos 1) (pos 0) ∷ dispatch 0 1 ∷ (record (asking kind.Accept 0 1 (cost 0 1) 1 (pos 0) (pos 1)) { c = pos 0; d = pos 1 }) ∷ entry kind.Admit 0 0 0 1 (pos 1) (pos 0) ∷ dispatch 0 0 ∷ asking kind.Wait 0 0 (cost 1 2) 1 (pos 0) (pos 0) ∷ entry kind.Admit 0 1 0 1 (pos 3) (pos 1) ∷ dispatch 0 1 ∷ asking kind.Print 0 1 (cost 0 1) 0 (pos 2) (pos 0) ∷ asking kind.Signal 0 1 (cost 0 1) 1 (pos 0) (pos 1) ∷ entry kind.Push 0 0 0 1 (pos 0) (pos 0) ∷ asking kind.End 0 1 (cost 0 1) 1 (pos 0) (pos 0) ∷ entry kind.Admit 0 0 0 1 (pos 3) (pos 0) ∷ dispatch 0 0 ∷ asking kind.Print 0 0 (cost 0 2) 0 (pos 2) (pos 1) ∷ asking kind.Print 0 0 (cost 0 3) 0 (pos 2) (pos 2) ∷ asking kind.Leave 0 0 (cost 0 4) 1 (pos 0) (pos 0) ∷ asking kind.Print 0 0 (cost 0 4) 0 (pos 1) (pos 10) ∷ asking kind.Call 0 0 (cost 0 4) 1 (pos 0) (pos 0) ∷ entry kind.Admit 0 0 0 1 (pos 0) (pos 0) ∷ asking kind.Gone 0 0 (cost 0 4) 1 (pos 0) (pos 0) ∷ asking kind.End 0 0 (cost 0 4) 0 (pos 0) (pos 0) ∷ entry kind.Done 0 0 0 0 (pos 0) (pos 0) ∷ []

pub record SignalledRun : Type 0 where
  pub run : IsRun (source_of signalled_text) [] options signalled_journal

-- line 1: _Event E { public: int n; E(int n) : n(n) {} };
-- line 2: _Event F {};
-- line 3: _Task T { void main() { _Accept(ready);
-- line 4:     try { _Enable <F> { cout << "f-done "; } _Enable { cout << "all-done"; } }
-- line 5:     _CatchResume(E & e) { cout << 'E' << e.n << ' '; } _CatchResume(F &) { cout << "F "; } cout << endl; }
-- line 6:   public: void ready() {} };
-- line 7: void uMain::main() { T t; _Resume E(1) _At t; _Resume E(2) _At t; _Resume F() _At t; t.ready(); }
abbrev pub polled_text : Program
polled_text = record {
  items = class_of 1 kind_of.Event (codes "E") (open_to_all 1 (FieldsMember (at 1) base.Int (variable 1 (codes "n") NoStart ∷ [])) ∷ open_to_all 1 (RoutineMember (routine 1 (sig 1 owner.Here role.Constructor base.Void (codes "E") (int_param 1 (codes "n") ∷ [])) (init 1 (codes "n") (named 1 (codes "n") ∷ []) ∷ []) [])) ∷ []) ∷ class_of 2 kind_of.Event (codes "F") [] ∷ class_of 3 kind_of.Task (codes "T") (hidden 3 (RoutineMember (routine 3 (sig 3 owner.Here role.Plain base.Void (codes "main") []) [] (Accept (at 3) (clauses_of (Accepts (at 3) None (record { destructor = false; name = codes "ready" } ∷ []) (Empty (at 3)) ∷ [])) NoStmt ∷ Try (at 4) (at 4) (stmts_of (Enable (at 4) (record { pos = at 4; name = codes "F" } ∷ []) (Block (at 4) (stmts_of (Print (at 4) (Literal (at 4) (codes "f-done ") ∷ []) ∷ []))) ∷ Enable (at 4) [] (Block (at 4) (stmts_of (Print (at 4) (Literal (at 4) (codes "all-done") ∷ []) ∷ []))) ∷ [])) (handlers_of (Handles (at 5) handler_kind.CatchResume (Some (codes "E")) (Some (codes "e")) (at 5) (stmts_of (Print (at 5) (character 5 69 ∷ value 5 (Postfix (at 5) (named 5 (codes "e")) (parts_of (Field (at 5) (codes "n") ∷ []))) ∷ character 5 32 ∷ []) ∷ [])) ∷ Handles (at 5) handler_kind.CatchResume (Some (codes "F")) None (at 5) (stmts_of (Print (at 5) (Literal (at 5) (codes "F ") ∷ []) ∷ [])) ∷ [])) ∷ Print (at 5) (Endl (at 5) ∷ []) ∷ []))) ∷ open_to_all 6 (RoutineMember (routine 6 (sig 6 owner.Here role.Plain base.Void (codes "ready") []) [] [])) ∷ []) ∷ main 7 (Declare (at 7) (base.Named (codes "T")) (variable 7 (codes "t") NoStart ∷ []) ∷ RaiseAt (at 7) (record { pos = at 7; name = codes "E"; args = exprs_of (number 7 1 ∷ []) }) (named 7 (codes "t")) ∷ RaiseAt (at 7) (record { pos = at 7; name = codes "E"; args = exprs_of (number 7 2 ∷ []) }) (named 7 (codes "t")) ∷ RaiseAt (at 7) (record { pos = at 7; name = codes "F"; args = exprs_of [] }) (named 7 (codes "t")) ∷ Evaluate (at 7) (called_at 7 (named 7 (codes "t")) [] (codes "ready") []) ∷ []) ∷ [];
}

-- F f-done E1 E2 all-done: an event that is enabled is delivered at the next poll, before older ones that are not
abbrev pub polled_journal : Journal
polled_journal =
    begin options ∷ dispatch 0 0 ∷ asking kind.Make 0 0 (cost 0 7) 1 (pos 1) (pos 0) ∷ asking kind.Spawn 0 0 (cost 0 7) 1 (pos 1) (pos 0) ∷ (record (asking kind.Raise 0 0 (cost 1 7) 1 (pos 1) (pos 2)) { c = pos 1; d = pos 0 }) ∷ (record (asking kind.Raise 0 0 (cost 1 7) 1 (pos 1) (pos 2)) { c = pos 2; d = pos 0 }) ∷ asking kind.Raise 0 0 (cost 0 7) 1 (pos 1) (pos 3) ∷ asking kind.Call 0 0 (cost 1 7) 1 (pos 1) (pos 0) ∷ dispatch 0 1 ∷ (record (asking kind.Accept 0 1 (cost 0 3) 1 (pos 0) (pos 1)) { c = pos 0; d = pos 1 }) ∷ entry kind.Admit 0 0 0 1 (pos 1) (pos 0) ∷ dispatch 0 0 ∷ asking kind.Leave 0 0 (cost 0 7) 1 (pos 0) (pos 0) ∷ entry kind.Admit 0 1 0 1 (pos 3) (pos 1) ∷ asking kind.Call 0 0 (cost 0 7) 1 (pos 0) (pos 0) ∷ dispatch 0 1 ∷ asking kind.Poll 0 1 (cost 0 4) 0 (pos 4) (pos 8) ∷ asking kind.Print 0 1 (cost 0 5) 0 (pos 2) (pos 2) ∷ asking kind.Poll 0 1 (cost 0 4) 0 (pos 0) (pos 8) ∷ asking kind.Print 0 1 (cost 0 4) 0 (pos 2) (pos 0) ∷ (record (asking kind.Poll 0 1 (cost 0 4) 0 (pos 3) (negsuc 0)) { c = pos 1; d = pos 0 }) ∷ asking kind.Print 0 1 (cost 0 5) 0 (pos 1) (pos 69) ∷ asking kind.Print 0 1 (cost 0 5) 0 (pos 0) (pos 1) ∷ asking kind.Print 0 1 (cost 0 5) 0 (pos 1) (pos 32) ∷ (record (asking kind.Poll 0 1 (cost 0 4) 0 (pos 3) (negsuc 0)) { c = pos 2; d = pos 0 }) ∷ asking kind.Print 0 1 (cost 0 5) 0 (pos 1) (pos 69) ∷ asking kind.Print 0 1 (cost 0 5) 0 (pos 0) (pos 2) ∷ asking kind.Print 0 1 (cost 0 5) 0 (pos 1) (pos 32) ∷ asking kind.Poll 0 1 (cost 0 4) 0 (pos 0) (negsuc 0) ∷ asking kind.Print 0 1 (cost 0 4) 0 (pos 2) (pos 1) ∷ asking kind.Print 0 1 (cost 0 5) 0 (pos 1) (pos 10) ∷ asking kind.End 0 1 (cost 0 3) 1 (pos 0) (pos 0) ∷ entry kind.Admit 0 0 0 1 (pos 2) (pos 0) ∷ dispatch 0 0 ∷ asking kind.Gone 0 0 (cost 0 7) 1 (pos 0) (pos 0) ∷ asking kind.End 0 0 (cost 0 7) 0 (pos 0) (pos 0) ∷ entry kind.Done 0 0 0 0 (pos 0) (pos 0) ∷ []

pub record PolledRun : Type 0 where
  pub run : IsRun (source_of polled_text) [] options polled_journal

-- line 1: void uMain::main() { cout << "a"; uCluster c; migrate(c); cout << "b"; }
abbrev pub migrated_text : Program
migrated_text = record {
  items = main 1 (Print (at 1) (Literal (at 1) (codes "a") ∷ []) ∷ Declare (at 1) base.Cluster (variable 1 (codes "c") NoStart ∷ []) ∷ Migrate (at 1) (named 1 (codes "c")) ∷ Print (at 1) (Literal (at 1) (codes "b") ∷ []) ∷ []) ∷ [];
}

-- a: a task that migrates to a cluster without a processor ends the run where no other is
abbrev pub migrated_journal : Journal
migrated_journal =
    begin options ∷ dispatch 0 0 ∷ asking kind.Print 0 0 (cost 0 1) 0 (pos 2) (pos 0) ∷ asking kind.Cluster 0 0 (cost 0 1) 0 (pos 1) (pos 0) ∷ asking kind.Migrate 0 0 (cost 0 1) 0 (pos 1) (pos 0) ∷ entry kind.NoProcessor 0 0 0 0 (pos 0) (pos 0) ∷ []

pub record MigratedRun : Type 0 where
  pub run : IsRun (source_of migrated_text) [] options migrated_journal

-- line 1: _Event E {};
-- line 2: _Task T { void main() { try { _Accept(go) { cout << 'n'; } } _CatchResume(RendezvousFailure &) { cout << 'f'; } }
-- line 3:   public: void go() { _Throw E(); } };
-- line 4: void uMain::main() { T t; try { t.go(); } catch (E &) { cout << 'c'; } }
abbrev pub failed_text : Program
failed_text = record {
  items = class_of 1 kind_of.Event (codes "E") [] ∷ class_of 2 kind_of.Task (codes "T") (hidden 2 (RoutineMember (routine 2 (sig 2 owner.Here role.Plain base.Void (codes "main") []) [] (Try (at 2) (at 2) (stmts_of (Accept (at 2) (clauses_of (Accepts (at 2) None (record { destructor = false; name = codes "go" } ∷ []) (Block (at 2) (stmts_of (Print (at 2) (character 2 110 ∷ []) ∷ []))) ∷ [])) NoStmt ∷ [])) (handlers_of (Handles (at 2) handler_kind.CatchResume (Some (codes "RendezvousFailure")) None (at 2) (stmts_of (Print (at 2) (character 2 102 ∷ []) ∷ [])) ∷ [])) ∷ []))) ∷ open_to_all 3 (RoutineMember (routine 3 (sig 3 owner.Here role.Plain base.Void (codes "go") []) [] (Throw (at 3) (Some (record { pos = at 3; name = codes "E"; args = exprs_of [] })) ∷ []))) ∷ []) ∷ main 4 (Declare (at 4) (base.Named (codes "T")) (variable 4 (codes "t") NoStart ∷ []) ∷ Try (at 4) (at 4) (stmts_of (Evaluate (at 4) (called_at 4 (named 4 (codes "t")) [] (codes "go") []) ∷ [])) (handlers_of (Handles (at 4) handler_kind.Catch (Some (codes "E")) None (at 4) (stmts_of (Print (at 4) (character 4 99 ∷ []) ∷ [])) ∷ [])) ∷ []) ∷ [];
}

-- the call that an accept took is left by an event: RendezvousFailure is resumed there, before the branch
abbrev pub failed_journal : Journal
failed_journal =
    begin options ∷ dispatch 0 0 ∷ asking kind.Make 0 0 (cost 0 4) 1 (pos 1) (pos 0) ∷ asking kind.Spawn 0 0 (cost 0 4) 1 (pos 1) (pos 0) ∷ asking kind.Call 0 0 (cost 1 4) 1 (pos 1) (pos 0) ∷ dispatch 0 1 ∷ (record (asking kind.Accept 0 1 (cost 0 2) 1 (pos 0) (pos 1)) { c = pos 0; d = pos 1 }) ∷ entry kind.Admit 0 0 0 1 (pos 1) (pos 0) ∷ dispatch 0 0 ∷ asking kind.Leave 0 0 (cost 0 4) 1 (pos 1) (pos 0) ∷ (record (entry kind.Admit 0 1 0 1 (pos 3) (pos 1)) { c = pos 1; d = pos 0 }) ∷ asking kind.Print 0 0 (cost 0 4) 0 (pos 1) (pos 99) ∷ asking kind.Call 0 0 (cost 0 4) 1 (pos 0) (pos 0) ∷ dispatch 0 1 ∷ asking kind.Print 0 1 (cost 0 2) 0 (pos 1) (pos 102) ∷ asking kind.Print 0 1 (cost 0 2) 0 (pos 1) (pos 110) ∷ asking kind.End 0 1 (cost 0 2) 1 (pos 0) (pos 0) ∷ entry kind.Admit 0 0 0 1 (pos 2) (pos 0) ∷ dispatch 0 0 ∷ asking kind.Gone 0 0 (cost 0 4) 1 (pos 0) (pos 0) ∷ asking kind.End 0 0 (cost 0 4) 0 (pos 0) (pos 0) ∷ entry kind.Done 0 0 0 0 (pos 0) (pos 0) ∷ []

pub record FailedRun : Type 0 where
  pub run : IsRun (source_of failed_text) [] options failed_journal

-- line 1: _Monitor M { int n; public: void add(int k) { n = n + k; } int get() { return n; } };
-- line 2: _Task T { M & m; void main() { m.add(2); } public: T(M & m) : m(m) {} };
-- line 3: void uMain::main() { M m; { T a(m); m.add(1); } cout << m.get(); }
abbrev pub bank_text : Program
bank_text = record {
  items = class_of 1 kind_of.Monitor (codes "M") (hidden 1 (FieldsMember (at 1) base.Int (variable 1 (codes "n") NoStart ∷ [])) ∷ open_to_all 1 (RoutineMember (routine 1 (sig 1 owner.Here role.Plain base.Void (codes "add") (int_param 1 (codes "k") ∷ [])) [] (set 1 (codes "n") (joined 1 binary.Add (named 1 (codes "n")) (named 1 (codes "k"))) ∷ []))) ∷ open_to_all 1 (RoutineMember (routine 1 (sig 1 owner.Here role.Plain base.Int (codes "get") []) [] (Return (at 1) (Some (named 1 (codes "n"))) ∷ []))) ∷ []) ∷ class_of 2 kind_of.Task (codes "T") (hidden 2 (FieldsMember (at 2) (base.Named (codes "M")) (reference 2 (codes "m") ∷ [])) ∷ hidden 2 (RoutineMember (routine 2 (sig 2 owner.Here role.Plain base.Void (codes "main") []) [] (Evaluate (at 2) (called_at 2 (named 2 (codes "m")) [] (codes "add") (number 2 2 ∷ [])) ∷ []))) ∷ open_to_all 2 (RoutineMember (routine 2 (sig 2 owner.Here role.Constructor base.Void (codes "T") (record { pos = at 2; base = base.Named (codes "M"); by_ref = true; name = codes "m" } ∷ [])) (init 2 (codes "m") (named 2 (codes "m") ∷ []) ∷ []) [])) ∷ []) ∷ main 3 (Declare (at 3) (base.Named (codes "M")) (variable 3 (codes "m") NoStart ∷ []) ∷ Block (at 3) (stmts_of (Declare (at 3) (base.Named (codes "T")) (variable 3 (codes "a") (StartArgs (exprs_of (named 3 (codes "m") ∷ []))) ∷ []) ∷ Evaluate (at 3) (called_at 3 (named 3 (codes "m")) [] (codes "add") (number 3 1 ∷ [])) ∷ [])) ∷ Print (at 3) (value 3 (called_at 3 (named 3 (codes "m")) [] (codes "get") []) ∷ []) ∷ []) ∷ [];
}

-- 3: two tasks call a monitor, and a block waits for its task
abbrev pub bank_journal : Journal
bank_journal =
    begin options ∷ dispatch 0 0 ∷ asking kind.Make 0 0 (cost 0 3) 1 (pos 1) (pos 0) ∷ asking kind.Made 0 0 (cost 0 3) 1 (pos 0) (pos 0) ∷ asking kind.Make 0 0 (cost 1 3) 2 (pos 2) (pos 0) ∷ asking kind.Spawn 0 0 (cost 0 3) 2 (pos 1) (pos 0) ∷ asking kind.Call 0 0 (cost 1 3) 1 (pos 1) (pos 0) ∷ entry kind.Admit 0 0 0 1 (pos 0) (pos 0) ∷ asking kind.Leave 0 0 (cost 0 3) 1 (pos 0) (pos 0) ∷ asking kind.Call 0 0 (cost 0 3) 2 (pos 0) (pos 0) ∷ dispatch 0 1 ∷ asking kind.Call 0 1 (cost 1 2) 1 (pos 1) (pos 0) ∷ entry kind.Admit 0 1 0 1 (pos 0) (pos 0) ∷ asking kind.Leave 0 1 (cost 0 2) 1 (pos 0) (pos 0) ∷ asking kind.End 0 1 (cost 0 2) 2 (pos 0) (pos 0) ∷ entry kind.Admit 0 0 0 2 (pos 2) (pos 0) ∷ dispatch 0 0 ∷ asking kind.Gone 0 0 (cost 0 3) 2 (pos 0) (pos 0) ∷ asking kind.Call 0 0 (cost 1 3) 1 (pos 2) (pos 0) ∷ entry kind.Admit 0 0 0 1 (pos 0) (pos 0) ∷ asking kind.Leave 0 0 (cost 0 3) 1 (pos 0) (pos 0) ∷ asking kind.Print 0 0 (cost 0 3) 0 (pos 0) (pos 3) ∷ asking kind.Call 0 0 (cost 0 3) 1 (pos 0) (pos 0) ∷ entry kind.Admit 0 0 0 1 (pos 0) (pos 0) ∷ asking kind.Gone 0 0 (cost 0 3) 1 (pos 0) (pos 0) ∷ asking kind.End 0 0 (cost 0 3) 0 (pos 0) (pos 0) ∷ entry kind.Done 0 0 0 0 (pos 0) (pos 0) ∷ []

pub record BankRun : Type 0 where
  pub run : IsRun (source_of bank_text) [] options bank_journal

-- line 1: _Monitor M { uCondition c, d; public: void w1() { c.wait(); cout << "c "; }
-- line 2:   void w2() { d.wait(); cout << "d "; }
-- line 3:   void go() { c.signal(); d.signal(); yield(); cout << "go "; }
-- line 4:   void late() { cout << "late "; } };
-- line 5: _Task A { M & m; void main() { m.w1(); } public: A(M & m) : m(m) {} };
-- line 6: _Task B { M & m; void main() { m.w2(); } public: B(M & m) : m(m) {} };
-- line 7: _Task C { M & m; void main() { m.go(); } public: C(M & m) : m(m) {} };
-- line 8: _Task D { M & m; void main() { m.late(); } public: D(M & m) : m(m) {} };
-- line 9: void uMain::main() { M m; { A a(m); B b(m); C c(m); D d(m); } cout << endl; }
abbrev pub late_text : Program
late_text = record {
  items = class_of 1 kind_of.Monitor (codes "M") (hidden 1 (FieldsMember (at 1) base.Condition (variable 1 (codes "c") NoStart ∷ variable 1 (codes "d") NoStart ∷ [])) ∷ open_to_all 1 (RoutineMember (routine 1 (sig 1 owner.Here role.Plain base.Void (codes "w1") []) [] (Evaluate (at 1) (called_at 1 (named 1 (codes "c")) [] (codes "wait") []) ∷ Print (at 1) (Literal (at 1) (codes "c ") ∷ []) ∷ []))) ∷ open_to_all 2 (RoutineMember (routine 2 (sig 2 owner.Here role.Plain base.Void (codes "w2") []) [] (Evaluate (at 2) (called_at 2 (named 2 (codes "d")) [] (codes "wait") []) ∷ Print (at 2) (Literal (at 2) (codes "d ") ∷ []) ∷ []))) ∷ open_to_all 3 (RoutineMember (routine 3 (sig 3 owner.Here role.Plain base.Void (codes "go") []) [] (Evaluate (at 3) (called_at 3 (named 3 (codes "c")) [] (codes "signal") []) ∷ Evaluate (at 3) (called_at 3 (named 3 (codes "d")) [] (codes "signal") []) ∷ Yield (at 3) ∷ Print (at 3) (Literal (at 3) (codes "go ") ∷ []) ∷ []))) ∷ open_to_all 4 (RoutineMember (routine 4 (sig 4 owner.Here role.Plain base.Void (codes "late") []) [] (Print (at 4) (Literal (at 4) (codes "late ") ∷ []) ∷ []))) ∷ []) ∷ class_of 5 kind_of.Task (codes "A") (hidden 5 (FieldsMember (at 5) (base.Named (codes "M")) (reference 5 (codes "m") ∷ [])) ∷ hidden 5 (RoutineMember (routine 5 (sig 5 owner.Here role.Plain base.Void (codes "main") []) [] (Evaluate (at 5) (called_at 5 (named 5 (codes "m")) [] (codes "w1") []) ∷ []))) ∷ open_to_all 5 (RoutineMember (routine 5 (sig 5 owner.Here role.Constructor base.Void (codes "A") (record { pos = at 5; base = base.Named (codes "M"); by_ref = true; name = codes "m" } ∷ [])) (init 5 (codes "m") (named 5 (codes "m") ∷ []) ∷ []) [])) ∷ []) ∷ class_of 6 kind_of.Task (codes "B") (hidden 6 (FieldsMember (at 6) (base.Named (codes "M")) (reference 6 (codes "m") ∷ [])) ∷ hidden 6 (RoutineMember (routine 6 (sig 6 owner.Here role.Plain base.Void (codes "main") []) [] (Evaluate (at 6) (called_at 6 (named 6 (codes "m")) [] (codes "w2") []) ∷ []))) ∷ open_to_all 6 (RoutineMember (routine 6 (sig 6 owner.Here role.Constructor base.Void (codes "B") (record { pos = at 6; base = base.Named (codes "M"); by_ref = true; name = codes "m" } ∷ [])) (init 6 (codes "m") (named 6 (codes "m") ∷ []) ∷ []) [])) ∷ []) ∷ class_of 7 kind_of.Task (codes "C") (hidden 7 (FieldsMember (at 7) (base.Named (codes "M")) (reference 7 (codes "m") ∷ [])) ∷ hidden 7 (RoutineMember (routine 7 (sig 7 owner.Here role.Plain base.Void (codes "main") []) [] (Evaluate (at 7) (called_at 7 (named 7 (codes "m")) [] (codes "go") []) ∷ []))) ∷ open_to_all 7 (RoutineMember (routine 7 (sig 7 owner.Here role.Constructor base.Void (codes "C") (record { pos = at 7; base = base.Named (codes "M"); by_ref = true; name = codes "m" } ∷ [])) (init 7 (codes "m") (named 7 (codes "m") ∷ []) ∷ []) [])) ∷ []) ∷ class_of 8 kind_of.Task (codes "D") (hidden 8 (FieldsMember (at 8) (base.Named (codes "M")) (reference 8 (codes "m") ∷ [])) ∷ hidden 8 (RoutineMember (routine 8 (sig 8 owner.Here role.Plain base.Void (codes "main") []) [] (Evaluate (at 8) (called_at 8 (named 8 (codes "m")) [] (codes "late") []) ∷ []))) ∷ open_to_all 8 (RoutineMember (routine 8 (sig 8 owner.Here role.Constructor base.Void (codes "D") (record { pos = at 8; base = base.Named (codes "M"); by_ref = true; name = codes "m" } ∷ [])) (init 8 (codes "m") (named 8 (codes "m") ∷ []) ∷ []) [])) ∷ []) ∷ main 9 (Declare (at 9) (base.Named (codes "M")) (variable 9 (codes "m") NoStart ∷ []) ∷ Block (at 9) (stmts_of (Declare (at 9) (base.Named (codes "A")) (variable 9 (codes "a") (StartArgs (exprs_of (named 9 (codes "m") ∷ []))) ∷ []) ∷ Declare (at 9) (base.Named (codes "B")) (variable 9 (codes "b") (StartArgs (exprs_of (named 9 (codes "m") ∷ []))) ∷ []) ∷ Declare (at 9) (base.Named (codes "C")) (variable 9 (codes "c") (StartArgs (exprs_of (named 9 (codes "m") ∷ []))) ∷ []) ∷ Declare (at 9) (base.Named (codes "D")) (variable 9 (codes "d") (StartArgs (exprs_of (named 9 (codes "m") ∷ []))) ∷ []) ∷ [])) ∷ Print (at 9) (Endl (at 9) ∷ []) ∷ []) ∷ [];
}

-- go d c late: whoever is signalled goes on the stack, and the last comes in first, before those that call
abbrev pub late_journal : Journal
late_journal =
    begin options ∷ dispatch 0 0 ∷ asking kind.Make 0 0 (cost 0 9) 1 (pos 1) (pos 0) ∷ asking kind.Made 0 0 (cost 0 9) 1 (pos 0) (pos 0) ∷ asking kind.Make 0 0 (cost 1 9) 2 (pos 2) (pos 0) ∷ asking kind.Spawn 0 0 (cost 0 9) 2 (pos 1) (pos 0) ∷ asking kind.Make 0 0 (cost 1 9) 3 (pos 3) (pos 0) ∷ asking kind.Spawn 0 0 (cost 0 9) 3 (pos 2) (pos 0) ∷ asking kind.Make 0 0 (cost 1 9) 4 (pos 4) (pos 0) ∷ asking kind.Spawn 0 0 (cost 0 9) 4 (pos 3) (pos 0) ∷ asking kind.Make 0 0 (cost 1 9) 5 (pos 5) (pos 0) ∷ asking kind.Spawn 0 0 (cost 0 9) 5 (pos 4) (pos 0) ∷ asking kind.Call 0 0 (cost 0 9) 5 (pos 0) (pos 0) ∷ dispatch 0 1 ∷ asking kind.Call 0 1 (cost 1 5) 1 (pos 1) (pos 0) ∷ entry kind.Admit 0 1 0 1 (pos 0) (pos 0) ∷ asking kind.Wait 0 1 (cost 0 1) 1 (pos 0) (pos 0) ∷ dispatch 0 2 ∷ asking kind.Call 0 2 (cost 1 6) 1 (pos 2) (pos 0) ∷ entry kind.Admit 0 2 0 1 (pos 0) (pos 0) ∷ asking kind.Wait 0 2 (cost 0 2) 1 (pos 1) (pos 0) ∷ dispatch 0 3 ∷ asking kind.Call 0 3 (cost 1 7) 1 (pos 3) (pos 0) ∷ entry kind.Admit 0 3 0 1 (pos 0) (pos 0) ∷ asking kind.Signal 0 3 (cost 0 3) 1 (pos 0) (pos 1) ∷ entry kind.Push 0 1 0 1 (pos 0) (pos 0) ∷ asking kind.Signal 0 3 (cost 0 3) 1 (pos 1) (pos 1) ∷ entry kind.Push 0 2 0 1 (pos 0) (pos 0) ∷ asking kind.Yield 0 3 (cost 0 3) 0 (pos 0) (pos 0) ∷ dispatch 0 4 ∷ asking kind.Call 0 4 (cost 1 8) 1 (pos 4) (pos 0) ∷ dispatch 0 3 ∷ asking kind.Print 0 3 (cost 0 3) 0 (pos 2) (pos 2) ∷ asking kind.Leave 0 3 (cost 0 7) 1 (pos 0) (pos 0) ∷ entry kind.Admit 0 2 0 1 (pos 3) (pos 0) ∷ asking kind.End 0 3 (cost 0 7) 4 (pos 0) (pos 0) ∷ dispatch 0 2 ∷ asking kind.Print 0 2 (cost 0 2) 0 (pos 2) (pos 1) ∷ asking kind.Leave 0 2 (cost 0 6) 1 (pos 0) (pos 0) ∷ entry kind.Admit 0 1 0 1 (pos 3) (pos 0) ∷ asking kind.End 0 2 (cost 0 6) 3 (pos 0) (pos 0) ∷ dispatch 0 1 ∷ asking kind.Print 0 1 (cost 0 1) 0 (pos 2) (pos 0) ∷ asking kind.Leave 0 1 (cost 0 5) 1 (pos 0) (pos 0) ∷ entry kind.Admit 0 4 0 1 (pos 2) (pos 0) ∷ asking kind.End 0 1 (cost 0 5) 2 (pos 0) (pos 0) ∷ dispatch 0 4 ∷ asking kind.Print 0 4 (cost 0 4) 0 (pos 2) (pos 3) ∷ asking kind.Leave 0 4 (cost 0 8) 1 (pos 0) (pos 0) ∷ asking kind.End 0 4 (cost 0 8) 5 (pos 0) (pos 0) ∷ entry kind.Admit 0 0 0 5 (pos 2) (pos 0) ∷ dispatch 0 0 ∷ asking kind.Gone 0 0 (cost 0 9) 5 (pos 0) (pos 0) ∷ asking kind.Call 0 0 (cost 0 9) 4 (pos 0) (pos 0) ∷ entry kind.Admit 0 0 0 4 (pos 0) (pos 0) ∷ asking kind.Gone 0 0 (cost 0 9) 4 (pos 0) (pos 0) ∷ asking kind.Call 0 0 (cost 0 9) 3 (pos 0) (pos 0) ∷ entry kind.Admit 0 0 0 3 (pos 0) (pos 0) ∷ asking kind.Gone 0 0 (cost 0 9) 3 (pos 0) (pos 0) ∷ asking kind.Call 0 0 (cost 0 9) 2 (pos 0) (pos 0) ∷ entry kind.Admit 0 0 0 2 (pos 0) (pos 0) ∷ asking kind.Gone 0 0 (cost 0 9) 2 (pos 0) (pos 0) ∷ asking kind.Print 0 0 (cost 0 9) 0 (pos 1) (pos 10) ∷ asking kind.Call 0 0 (cost 0 9) 1 (pos 0) (pos 0) ∷ entry kind.Admit 0 0 0 1 (pos 0) (pos 0) ∷ asking kind.Gone 0 0 (cost 0 9) 1 (pos 0) (pos 0) ∷ asking kind.End 0 0 (cost 0 9) 0 (pos 0) (pos 0) ∷ entry kind.Done 0 0 0 0 (pos 0) (pos 0) ∷ []

pub record LateRun : Type 0 where
  pub run : IsRun (source_of late_text) [] options late_journal
