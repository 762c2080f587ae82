-- Sample programs with objects, as the trees of their texts, and journals that are worked out by hand. Each place has the line of
-- its text, and column 1.
use Rattle.std.specs.Prelude.{ℕ, pos, false, true, List, [], ◌∷◌, ◌++◌, codes, Some, None}
use Rattle.uc_tree.specs.declared.pos.Pos.{Pos}
use Rattle.uc_tree.specs.declared.kinds.Base.{Base}
use Rattle.uc_tree.specs.declared.kinds.Base.TheVariants as base
use Rattle.uc_tree.specs.declared.kinds.Owner.{Owner}
use Rattle.uc_tree.specs.declared.kinds.Owner.TheVariants as owner
use Rattle.uc_tree.specs.declared.kinds.Role.{Role}
use Rattle.uc_tree.specs.declared.kinds.Role.TheVariants as role
use Rattle.uc_tree.specs.declared.kinds.Kind.TheVariants as kind_of
use Rattle.uc_tree.specs.declared.kinds.Access.TheVariants as access
use Rattle.uc_tree.specs.declared.kinds.MutexMark.TheVariants as mark
use Rattle.uc_tree.specs.declared.kinds.Param.{Param}
use Rattle.uc_tree.specs.declared.ops.BinaryOp.{BinaryOp}
use Rattle.uc_tree.specs.declared.ops.BinaryOp.TheVariants as binary
use Rattle.uc_tree.specs.declared.ops.AssignOp.TheVariants as assign
use Rattle.uc_tree.specs.Expressions.{Expr, Number, Character, Name, Postfix, Chain, Assign, exprs_of, Part, Field, Index, Call, parts_of, Linked, links_of}
use Rattle.uc_tree.specs.Statements.{Start, NoStart, StartArgs, Declarator, OutItem, Literal, Printed, NoFor, Stmt, Block, Evaluate, Declare, For, Break, Print, Return, stmts_of}
use Rattle.uc_tree.specs.Programs.{Sig, Init, Routine, MemberForm, FieldsMember, RoutineMember, ProtoMember, Member, Item, ClassItem, RoutineItem, Program}
use Rattle.uc_resolve.specs.Resolve.{source_of}
use Rattle.uc_entry.specs.declared.entry.EntryKind.TheVariants as kind
use Rattle.uc_entry.specs.declared.entry.Entry.{Entry}
use Rattle.uc_acts.specs.Journal.{Journal, entry, begin}
use Rattle.uc_acts.specs.Acts.{dispatch}
use Rattle.uc_meaning.specs.SamplePrograms.{in_line}
use Rattle.uc_meaning.specs.Runs.{IsRun}
use Rattle.uc_acts.specs.Samples.{options}

-- trees

abbrev pub at : ℕ → Pos
at line = record { line = line; col = 1 }

abbrev pub named : ℕ → List ℕ → Expr
named line name = Name (at line) name

abbrev pub number : ℕ → ℕ → Expr
number line n = Number (at line) (pos n)

-- `root.name(args)`, and `name(args)`
abbrev pub called_at : ℕ → Expr → List Part → List ℕ → List Expr → Expr
called_at line root before name args = Postfix (at line) root (parts_of (before ++ Field (at line) name ∷ Call (at line) (exprs_of args) ∷ []))

abbrev pub called : ℕ → List ℕ → List Expr → Expr
called line name args = Postfix (at line) (named line name) (parts_of (Call (at line) (exprs_of args) ∷ []))

abbrev pub joined : ℕ → BinaryOp → Expr → Expr → Expr
joined line op a b = Chain (at line) a (links_of (Linked (at line) op b ∷ []))

abbrev pub sum : ℕ → Expr → Expr → Expr
sum line a b = joined line binary.Add a b

abbrev pub set : ℕ → List ℕ → Expr → Stmt
set line name e = Evaluate (at line) (Assign (at line) (at line) assign.Set (named line name) e)

abbrev pub character : ℕ → ℕ → OutItem
character line byte = Printed (at line) (Character (at line) byte)

abbrev pub value : ℕ → Expr → OutItem
value line e = Printed (at line) e

abbrev pub variable : ℕ → List ℕ → Start → Declarator
variable line name start = record { pos = at line; by_ref = false; name = name; len = None; start = start }

abbrev pub array : ℕ → List ℕ → ℕ → Declarator
array line name n = record { pos = at line; by_ref = false; name = name; len = Some (number line n); start = NoStart }

abbrev pub reference : ℕ → List ℕ → Declarator
reference line name = record { pos = at line; by_ref = true; name = name; len = None; start = NoStart }

abbrev pub int_reference : ℕ → List ℕ → Param
int_reference line name = record { pos = at line; base = base.Int; by_ref = true; name = name }

abbrev pub int_param : ℕ → List ℕ → Param
int_param line name = record { pos = at line; base = base.Int; by_ref = false; name = name }

abbrev pub sig : ℕ → Owner → Role → Base → List ℕ → List Param → Sig
sig line o r ret name params = record { pos = at line; owner = o; role = r; ret = ret; name = name; params = params }

abbrev pub routine : ℕ → Sig → List Init → List Stmt → Routine
routine line s inits body = record { sig = s; inits = inits; brace = at line; body = stmts_of body }

abbrev pub init : ℕ → List ℕ → List Expr → Init
init line name args = record { pos = at line; name = name; args = exprs_of args }

abbrev pub hidden : ℕ → MemberForm → Member
hidden line form = record { pos = at line; access = access.Private; mark = mark.Unmarked; form = form }

abbrev pub open_to_all : ℕ → MemberForm → Member
open_to_all line form = record { pos = at line; access = access.Public; mark = mark.Unmarked; form = form }

abbrev pub constructor : ℕ → List ℕ → List Param → List Init → List Stmt → Member
constructor line name params inits body =
    open_to_all line (RoutineMember (routine line (sig line owner.Here role.Constructor base.Void name params) inits body))

abbrev pub destructor : ℕ → List ℕ → List Stmt → Member
destructor line name body = open_to_all line (RoutineMember (routine line (sig line owner.Here role.Destructor base.Void name []) [] body))

abbrev pub class : ℕ → List ℕ → List Member → Item
class line name members = ClassItem (record { pos = at line; kind = kind_of.Class; name = name; members = members })

abbrev pub main : ℕ → List Stmt → Item
main line body = RoutineItem (routine line (sig line owner.Main role.Plain base.Void (codes "main") []) [] body)

-- journals

-- a print of a form, after so many ticks
abbrev pub prints : ℕ → ℕ → ℕ → Entry
prints ticks form value = entry kind.Print 0 0 ticks 0 (pos form) (pos value)

abbrev pub opening : Journal
opening = begin options ∷ dispatch 0 0 ∷ []

-- the end, in this line
abbrev pub done : ℕ → Journal
done line = in_line line (entry kind.End 0 0 0 0 (pos 0) (pos 0)) ∷ entry kind.Done 0 0 0 0 (pos 0) (pos 0) ∷ []

-- line 1: class A { int n; public: A(int n) : n(n) { cout << '+' << n; } ~A() { cout << '-' << n; } };
-- line 2: class B { A x, y; public: B() : x(1), y(2) { cout << "+B"; } ~B() { cout << "-B"; } };
-- line 3: void uMain::main() { A z(0); B b; cout << ' '; }
abbrev class_a : Item
class_a = class 1 (codes "A") (hidden 1 (FieldsMember (at 1) base.Int (variable 1 (codes "n") NoStart ∷ [])) ∷ constructor 1 (codes "A") (int_param 1 (codes "n") ∷ []) (init 1 (codes "n") (named 1 (codes "n") ∷ []) ∷ []) (Print (at 1) (character 1 43 ∷ value 1 (named 1 (codes "n")) ∷ []) ∷ []) ∷ destructor 1 (codes "A") (Print (at 1) (character 1 45 ∷ value 1 (named 1 (codes "n")) ∷ []) ∷ []) ∷ [])

abbrev class_b : Item
class_b = class 2 (codes "B") (hidden 2 (FieldsMember (at 2) (base.Named (codes "A")) (variable 2 (codes "x") NoStart ∷ variable 2 (codes "y") NoStart ∷ [])) ∷ constructor 2 (codes "B") [] (init 2 (codes "x") (number 2 1 ∷ []) ∷ init 2 (codes "y") (number 2 2 ∷ []) ∷ []) (Print (at 2) (Literal (at 2) (codes "+B") ∷ []) ∷ []) ∷ destructor 2 (codes "B") (Print (at 2) (Literal (at 2) (codes "-B") ∷ []) ∷ []) ∷ [])

abbrev pub nested_text : Program
nested_text = record {
  items = class_a ∷ class_b ∷ main 3 (Declare (at 3) (base.Named (codes "A")) (variable 3 (codes "z") (StartArgs (exprs_of (number 3 0 ∷ []))) ∷ []) ∷ Declare (at 3) (base.Named (codes "B")) (variable 3 (codes "b") NoStart ∷ []) ∷ Print (at 3) (character 3 32 ∷ []) ∷ []) ∷ [];
}

-- +0+1+2+B -B-2-1-0: each constructor and each destructor makes a tick
abbrev pub nested_journal : Journal
nested_journal =
    opening ++ in_line 1 (prints 1 1 43) ∷ in_line 1 (prints 0 0 0) ∷ in_line 1 (prints 2 1 43) ∷ in_line 1 (prints 0 0 1) ∷ in_line 1 (prints 1 1 43) ∷ in_line 1 (prints 0 0 2) ∷ in_line 2 (prints 0 2 0) ∷ in_line 3 (prints 0 1 32) ∷ in_line 2 (prints 1 2 1) ∷ in_line 1 (prints 1 1 45) ∷ in_line 1 (prints 0 0 2) ∷ in_line 1 (prints 1 1 45) ∷ in_line 1 (prints 0 0 1) ∷ in_line 1 (prints 1 1 45) ∷ in_line 1 (prints 0 0 0) ∷ done 3

pub record NestedRun : Type 0 where
  pub run : IsRun (source_of nested_text) [] options nested_journal

-- line 1: class A { int n; public: A() { cout << '+'; } void set(int m) { n = m; } ~A() { cout << '-' << n; } };
-- line 2: void uMain::main() { for (;;) { A a[2]; a[1].set(7); break; } }
abbrev class_settable : Item
class_settable = class 1 (codes "A") (hidden 1 (FieldsMember (at 1) base.Int (variable 1 (codes "n") NoStart ∷ [])) ∷ constructor 1 (codes "A") [] [] (Print (at 1) (character 1 43 ∷ []) ∷ []) ∷ open_to_all 1 (RoutineMember (routine 1 (sig 1 owner.Here role.Plain base.Void (codes "set") (int_param 1 (codes "m") ∷ [])) [] (set 1 (codes "n") (named 1 (codes "m")) ∷ []))) ∷ destructor 1 (codes "A") (Print (at 1) (character 1 45 ∷ value 1 (named 1 (codes "n")) ∷ []) ∷ []) ∷ [])

abbrev pub array_text : Program
array_text = record {
  items = class_settable ∷ main 2 (For (at 2) NoFor None None (Block (at 2) (stmts_of (Declare (at 2) (base.Named (codes "A")) (array 2 (codes "a") 2 ∷ []) ∷ Evaluate (at 2) (called_at 2 (named 2 (codes "a")) (Index (at 2) (number 2 1) ∷ []) (codes "set") (number 2 7 ∷ [])) ∷ Break (at 2) ∷ []))) ∷ []) ∷ [];
}

-- ++-7-0: the last element is destroyed first
abbrev pub array_journal : Journal
array_journal = opening ++ in_line 1 (prints 2 1 43) ∷ in_line 1 (prints 1 1 43) ∷ in_line 1 (prints 2 1 45) ∷ in_line 1 (prints 0 0 7) ∷ in_line 1 (prints 1 1 45) ∷ in_line 1 (prints 0 0 0) ∷ done 2

pub record ArrayRun : Type 0 where
  pub run : IsRun (source_of array_text) [] options array_journal

-- line 1: class C { int n; int twice() { return n + n; } public: C(int m) : n(m) {} int get(); };
-- line 2: int C::get() { return twice() + 1; }
-- line 3: void uMain::main() { C c(5); cout << c.get(); }
abbrev class_c : Item
class_c = class 1 (codes "C") (hidden 1 (FieldsMember (at 1) base.Int (variable 1 (codes "n") NoStart ∷ [])) ∷ hidden 1 (RoutineMember (routine 1 (sig 1 owner.Here role.Plain base.Int (codes "twice") []) [] (Return (at 1) (Some (sum 1 (named 1 (codes "n")) (named 1 (codes "n")))) ∷ []))) ∷ constructor 1 (codes "C") (int_param 1 (codes "m") ∷ []) (init 1 (codes "n") (named 1 (codes "m") ∷ []) ∷ []) [] ∷ open_to_all 1 (ProtoMember (sig 1 owner.Here role.Plain base.Int (codes "get") [])) ∷ [])

abbrev pub member_text : Program
member_text = record {
  items = class_c ∷ RoutineItem (routine 2 (sig 2 (owner.Class (codes "C")) role.Plain base.Int (codes "get") []) [] (Return (at 2) (Some (sum 2 (called 2 (codes "twice") []) (number 2 1))) ∷ [])) ∷ main 3 (Declare (at 3) (base.Named (codes "C")) (variable 3 (codes "c") (StartArgs (exprs_of (number 3 5 ∷ []))) ∷ []) ∷ Print (at 3) (value 3 (called_at 3 (named 3 (codes "c")) [] (codes "get") []) ∷ []) ∷ []) ∷ [];
}

-- 11; the destructor is not written, and makes no tick
abbrev pub member_journal : Journal
member_journal = opening ++ in_line 3 (prints 3 0 11) ∷ done 3

pub record MemberRun : Type 0 where
  pub run : IsRun (source_of member_text) [] options member_journal

-- line 1: class A { public: A() { cout << '+'; } };
-- line 2: class B { A x; A y[2]; };
-- line 3: void uMain::main() { B b; }
abbrev class_printing : Item
class_printing = class 1 (codes "A") (constructor 1 (codes "A") [] [] (Print (at 1) (character 1 43 ∷ []) ∷ []) ∷ [])

abbrev class_unwritten : Item
class_unwritten = class 2 (codes "B") (hidden 2 (FieldsMember (at 2) (base.Named (codes "A")) (variable 2 (codes "x") NoStart ∷ [])) ∷ hidden 2 (FieldsMember (at 2) (base.Named (codes "A")) (array 2 (codes "y") 2 ∷ [])) ∷ [])

abbrev pub unwritten_text : Program
unwritten_text = record {
  items = class_printing ∷ class_unwritten ∷ main 3 (Declare (at 3) (base.Named (codes "B")) (variable 3 (codes "b") NoStart ∷ []) ∷ []) ∷ [];
}

-- +++: only what is written makes ticks
abbrev pub unwritten_journal : Journal
unwritten_journal = opening ++ in_line 1 (prints 1 1 43) ∷ in_line 1 (prints 1 1 43) ∷ in_line 1 (prints 1 1 43) ∷ done 3

pub record UnwrittenRun : Type 0 where
  pub run : IsRun (source_of unwritten_text) [] options unwritten_journal

-- line 1: class D { int & r; public: D(int & x) : r(x) {} ~D() { r = r + 1; cout << r; } };
-- line 2: int f(int & n) {
-- line 3:     D d(n); return n; }
-- line 4: class E { int q; public: E(int x) : q(10 / x) {} };
-- line 5: void uMain::main() { int n;
-- line 6:     cout << f(n) << n;
-- line 7:     E e(n - 1); }
abbrev class_d : Item
class_d = class 1 (codes "D") (hidden 1 (FieldsMember (at 1) base.Int (reference 1 (codes "r") ∷ [])) ∷ constructor 1 (codes "D") (int_reference 1 (codes "x") ∷ []) (init 1 (codes "r") (named 1 (codes "x") ∷ []) ∷ []) [] ∷ destructor 1 (codes "D") (set 1 (codes "r") (sum 1 (named 1 (codes "r")) (number 1 1)) ∷ Print (at 1) (value 1 (named 1 (codes "r")) ∷ []) ∷ []) ∷ [])

abbrev class_e : Item
class_e = class 4 (codes "E") (hidden 4 (FieldsMember (at 4) base.Int (variable 4 (codes "q") NoStart ∷ [])) ∷ constructor 4 (codes "E") (int_param 4 (codes "x") ∷ []) (init 4 (codes "q") (joined 4 binary.Div (number 4 10) (named 4 (codes "x")) ∷ []) ∷ []) [] ∷ [])

abbrev pub reference_text : Program
reference_text = record {
  items = class_d ∷ RoutineItem (routine 2 (sig 2 owner.Here role.Plain base.Int (codes "f") (int_reference 2 (codes "n") ∷ [])) [] (Declare (at 3) (base.Named (codes "D")) (variable 3 (codes "d") (StartArgs (exprs_of (named 3 (codes "n") ∷ []))) ∷ []) ∷ Return (at 3) (Some (named 3 (codes "n"))) ∷ [])) ∷ class_e ∷ main 5 (Declare (at 5) base.Int (variable 5 (codes "n") NoStart ∷ []) ∷ Print (at 6) (value 6 (called 6 (codes "f") (named 6 (codes "n") ∷ [])) ∷ value 6 (named 6 (codes "n")) ∷ []) ∷ Declare (at 7) (base.Named (codes "E")) (variable 7 (codes "e") (StartArgs (exprs_of (joined 7 binary.Sub (named 7 (codes "n")) (number 7 1) ∷ []))) ∷ []) ∷ []) ∷ [];
}

-- 101: what a return hands over is found before it destroys what it leaves. The fault of an initialiser is in the line of the
-- declaration
abbrev pub reference_journal : Journal
reference_journal = opening ++ in_line 1 (prints 3 0 1) ∷ in_line 6 (prints 0 0 0) ∷ in_line 6 (prints 0 0 1) ∷ in_line 7 (entry kind.Fault 0 0 1 0 (pos 2) (pos 7)) ∷ []

pub record ReferenceRun : Type 0 where
  pub run : IsRun (source_of reference_text) [] options reference_journal
