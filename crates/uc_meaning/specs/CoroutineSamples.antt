-- Sample programs with coroutines, as the trees of their texts, and journals that are worked out by hand. Each place has the line of its
-- text, and column 1.
use Rattle.std.specs.Prelude.{ℕ, pos, true, List, [], ◌∷◌, ◌++◌, codes, Some, None}
use Rattle.uc_tree.specs.declared.kinds.Base.{Base}
use Rattle.uc_tree.specs.declared.kinds.Base.TheVariants as base
use Rattle.uc_tree.specs.declared.kinds.Owner.TheVariants as owner
use Rattle.uc_tree.specs.declared.kinds.Role.TheVariants as role
use Rattle.uc_tree.specs.declared.kinds.Kind.TheVariants as kind_of
use Rattle.uc_tree.specs.declared.kinds.HandlerKind.TheVariants as handler_kind
use Rattle.uc_tree.specs.declared.ops.BinaryOp.TheVariants as binary
use Rattle.uc_tree.specs.Expressions.{Expr, exprs_of}
use Rattle.uc_tree.specs.Statements.{NoStart, StartArgs, Stmt, Block, Evaluate, Declare, For, NoFor, Print, Return, Try, Throw, Resume, Suspend, stmts_of, Handles, handlers_of}
use Rattle.uc_tree.specs.Programs.{Item, ClassItem, FieldsMember, RoutineMember, Member, Program}
use Rattle.uc_resolve.specs.Resolve.{source_of}
use Rattle.uc_entry.specs.declared.entry.EntryKind.TheVariants as kind
use Rattle.uc_acts.specs.Journal.{Journal, entry}
use Rattle.uc_meaning.specs.SamplePrograms.{in_line}
use Rattle.uc_meaning.specs.Runs.{IsRun}
use Rattle.uc_acts.specs.Samples.{options}
use Rattle.uc_meaning.specs.ObjectSamples.{at, named, number, called_at, joined, sum, set, character, value, variable, reference, sig, routine, init, hidden, open_to_all, constructor, destructor, class, main, prints, opening, done}

-- trees

abbrev coroutine : ℕ → List ℕ → List Member → Item
coroutine line name members = ClassItem (record { pos = at line; kind = kind_of.Coroutine; name = name; members = members })

abbrev main_of : ℕ → List Stmt → Member
main_of line body = hidden line (RoutineMember (routine line (sig line owner.Here role.Plain base.Void (codes "main") []) [] body))

abbrev member : ℕ → Base → List ℕ → List Stmt → Member
member line ret name body = open_to_all line (RoutineMember (routine line (sig line owner.Here role.Plain ret name []) [] body))

-- `void go() { resume(); }`
abbrev goes_on : ℕ → Member
goes_on line = member line base.Void (codes "go") (Resume (at line) ∷ [])

-- `x.name()`
abbrev of_object : ℕ → List ℕ → List ℕ → Expr
of_object line x name = called_at line (named line x) [] name []

abbrev go : ℕ → List ℕ → Stmt
go line x = Evaluate (at line) (of_object line x (codes "go"))

abbrev object : ℕ → List ℕ → List ℕ → Stmt
object line type name = Declare (at line) (base.Named type) (variable line name NoStart ∷ [])

-- line 1: _Coroutine C { int n; void main() { for (;;) { n = n + 1; suspend(); } } public: int next() { resume(); return n; } };
-- line 2: void uMain::main() { C c; cout << c.next() * 10 + c.next(); }
abbrev next : Expr
next = of_object 2 (codes "c") (codes "next")

abbrev pub switched_text : Program
switched_text = record {
  items = coroutine 1 (codes "C") (hidden 1 (FieldsMember (at 1) base.Int (variable 1 (codes "n") NoStart ∷ [])) ∷ main_of 1 (For (at 1) NoFor None None (Block (at 1) (stmts_of (set 1 (codes "n") (sum 1 (named 1 (codes "n")) (number 1 1)) ∷ Suspend (at 1) ∷ []))) ∷ []) ∷ member 1 base.Int (codes "next") (Resume (at 1) ∷ Return (at 1) (Some (named 1 (codes "n"))) ∷ []) ∷ []) ∷ main 2 (object 2 (codes "C") (codes "c") ∷ Print (at 2) (value 2 (sum 2 (joined 2 binary.Mul next (number 2 10)) next) ∷ []) ∷ []) ∷ [];
}

-- 12: the operands of the expression wait for both switches. Each makes two ticks, one of the call and one of a turn.
abbrev pub switched_journal : Journal
switched_journal = opening ++ in_line 2 (prints 4 0 12) ∷ done 2

pub record SwitchedRun : Type 0 where
  pub run : IsRun (source_of switched_text) [] options switched_journal

-- line 1: class A { public: ~A() { cout << '-'; } };
-- line 2: _Coroutine C { void main() { try { A a; suspend(); } catch (...) { cout << '+'; } } public: void go() { resume(); } };
-- line 3: void uMain::main() { { C c; c.go(); } cout << '.'; }
abbrev pub destroyed_text : Program
destroyed_text = record {
  items = class 1 (codes "A") (destructor 1 (codes "A") (Print (at 1) (character 1 45 ∷ []) ∷ []) ∷ []) ∷ coroutine 2 (codes "C") (main_of 2 (Try (at 2) (at 2) (stmts_of (object 2 (codes "A") (codes "a") ∷ Suspend (at 2) ∷ [])) (handlers_of (Handles (at 2) handler_kind.Catch None None (at 2) (stmts_of (Print (at 2) (character 2 43 ∷ []) ∷ [])) ∷ [])) ∷ []) ∷ goes_on 2 ∷ []) ∷ main 3 (Block (at 3) (stmts_of (object 3 (codes "C") (codes "c") ∷ go 3 (codes "c") ∷ [])) ∷ Print (at 3) (character 3 46 ∷ []) ∷ []) ∷ [];
}

-- -.: the stack of the coroutine is unwound as it is destroyed, and no handler stops that
abbrev pub destroyed_journal : Journal
destroyed_journal = opening ++ in_line 1 (prints 2 1 45) ∷ in_line 3 (prints 0 1 46) ∷ done 3

pub record DestroyedRun : Type 0 where
  pub run : IsRun (source_of destroyed_text) [] options destroyed_journal

-- line 1: _Coroutine J { void main() { suspend(); cout << 'j'; suspend(); } public: void go() { resume(); } };
-- line 2: _Coroutine B { J & j; void main() { j.go(); suspend(); cout << 'b'; } public: B(J & j) : j(j) { } void go() { resume(); } };
-- line 3: void uMain::main() { J j; B b(j); b.go(); j.go(); j.go(); cout << '.'; }
abbrev pub ended_text : Program
ended_text = record {
  items = coroutine 1 (codes "J") (main_of 1 (Suspend (at 1) ∷ Print (at 1) (character 1 106 ∷ []) ∷ Suspend (at 1) ∷ []) ∷ goes_on 1 ∷ []) ∷ coroutine 2 (codes "B") (hidden 2 (FieldsMember (at 2) (base.Named (codes "J")) (reference 2 (codes "j") ∷ [])) ∷ main_of 2 (go 2 (codes "j") ∷ Suspend (at 2) ∷ Print (at 2) (character 2 98 ∷ []) ∷ []) ∷ constructor 2 (codes "B") (record { pos = at 2; base = base.Named (codes "J"); by_ref = true; name = codes "j" } ∷ []) (init 2 (codes "j") (named 2 (codes "j") ∷ []) ∷ []) [] ∷ goes_on 2 ∷ []) ∷ main 3 (object 3 (codes "J") (codes "j") ∷ Declare (at 3) (base.Named (codes "B")) (variable 3 (codes "b") (StartArgs (exprs_of (named 3 (codes "j") ∷ []))) ∷ []) ∷ go 3 (codes "b") ∷ go 3 (codes "j") ∷ go 3 (codes "j") ∷ Print (at 3) (character 3 46 ∷ []) ∷ []) ∷ [];
}

-- jb.: j suspends to the task, which has resumed it last; its end activates b, which has started it, where that is suspended
abbrev pub ended_journal : Journal
ended_journal = opening ++ in_line 1 (prints 4 1 106) ∷ in_line 2 (prints 1 1 98) ∷ in_line 3 (prints 0 1 46) ∷ done 3

pub record EndedRun : Type 0 where
  pub run : IsRun (source_of ended_text) [] options ended_journal

-- line 1: _Event E {};
-- line 2: _Coroutine C { void main() { _Throw E(); } public: void go() { resume(); } };
-- line 3: void uMain::main() { C c; try { c.go(); } catch (uUnhandled &) { cout << 'u'; } c.go(); }
abbrev pub left_text : Program
left_text = record {
  items = ClassItem (record { pos = at 1; kind = kind_of.Event; name = codes "E"; members = [] }) ∷ coroutine 2 (codes "C") (main_of 2 (Throw (at 2) (Some (record { pos = at 2; name = codes "E"; args = exprs_of [] })) ∷ []) ∷ goes_on 2 ∷ []) ∷ main 3 (object 3 (codes "C") (codes "c") ∷ Try (at 3) (at 3) (stmts_of (go 3 (codes "c") ∷ [])) (handlers_of (Handles (at 3) handler_kind.Catch (Some (codes "uUnhandled")) None (at 3) (stmts_of (Print (at 3) (character 3 117 ∷ []) ∷ [])) ∷ [])) ∷ go 3 (codes "c") ∷ []) ∷ [];
}

-- u, and fault 5 in line 2: the event has ended the coroutine's main, and is thrown as another one where that was resumed
abbrev pub left_journal : Journal
left_journal = opening ++ in_line 3 (prints 1 1 117) ∷ in_line 2 (entry kind.Fault 0 0 1 0 (pos 5) (pos 2)) ∷ []

pub record LeftRun : Type 0 where
  pub run : IsRun (source_of left_text) [] options left_journal
