-- The resolved trees of two programs are sound for tables: the premise of the laws can be met.
use Rattle.std.specs.Prelude.{◌≡◌, pos, false, true, [], ◌∷◌, Some, None}
use Rattle.uc_tree.specs.declared.kinds.ValueForm.TheVariants as value_form
use Rattle.uc_tree.specs.Source.{Shape, Last, Integer, Field, Source, TaskMain, Builder, Literal, Variable, Get, Load, Assign, OfObject, OwnField, FieldOf, CallOn, CallUnwritten, EndOn, MakeOn, NoExprs, MoreExprs, Show, ShowText, Destroys, Ends, Frees, Block, Whole, Evaluate, Declare, Print, OfTasks, OfEvents, Throw, Try, BuiltAt, NoHandlers, MoreHandlers, Nil, Then, Scoped, Accept, NoClauses, MoreClauses}
use Rattle.uc_typing.specs.Typing.{Table}
use Rattle.uc_typing.specs.States.{Sound}

-- _Task T { void main() { _Accept(~T) { cout << "told "; } cout << "rest "; } public: ~T() { cout << "destroyed" << endl; } };
-- void uMain::main() { T t; cout << "block "; }
abbrev pub task_source : Source
task_source = record {
  routines = record {
    line = 1;
    cells = 0;
    params = 0;
    purpose = TaskMain;
    written = true;
    body = Then (OfTasks (Accept 1 0 (MoreClauses (Literal (pos 1)) (Block 1 (Then (Print 1 (ShowText 0 ∷ [])) Nil)) NoClauses))) (Then (Print 1 (ShowText 1 ∷ [])) Nil);
  } ∷ record {
    line = 1;
    cells = 0;
    params = 0;
    purpose = Builder;
    written = true;
    body = Scoped Ends (Then (Whole 1 (Then (Print 1 (ShowText 2 ∷ Show value_form.Character (Literal (pos 10)) ∷ [])) Nil)) Nil);
  } ∷ record {
    line = 2;
    cells = 1;
    params = 0;
    purpose = TaskMain;
    written = true;
    body = Then (Declare 2 (record { cell = 0; cells = 1; value = None } ∷ [])) (Then (Evaluate 2 (OfObject (MakeOn 1 3 false (Variable 0) NoExprs))) (Scoped (Destroys (OfObject (EndOn 1 true (Load (Variable 0))))) (Then (Print 2 (ShowText 3 ∷ [])) Nil)));
  } ∷ record {
    line = 0;
    cells = 0;
    params = 0;
    purpose = Builder;
    written = false;
    body = Scoped (Frees (Some 0)) Nil;
  } ∷ [];
  main = 2;
  classes = record { cells = 0 } ∷ record { cells = 0 } ∷ [];
  sites = [];
  texts = [];
}

-- _Event E { int n; public: E(int n) : n(n) {} };
-- class C { public: ~C() { cout << '-'; } };
-- void uMain::main() { try { C a; _Throw E(7); } catch (E & e) { cout << e.n; } cout << '.'; }
abbrev pub one_int : Shape
one_int = Field Integer Last

abbrev pub event_source : Source
event_source = record {
  routines = record {
    line = 1;
    cells = 1;
    params = 1;
    purpose = Builder;
    written = true;
    body = Then (Evaluate 0 (Assign (OfObject (OwnField one_int 0)) (Get 0))) (Then (Whole 1 Nil) Nil);
  } ∷ record {
    line = 2;
    cells = 0;
    params = 0;
    purpose = Builder;
    written = true;
    body = Then (Whole 2 (Then (Print 2 (Show value_form.Character (Literal (pos 45)) ∷ [])) Nil)) Nil;
  } ∷ record {
    line = 3;
    cells = 5;
    params = 0;
    purpose = TaskMain;
    written = true;
    body = Then (OfEvents (Try 3 (Then (Block 3 (Then (Declare 3 (record { cell = 0; cells = 0; value = None } ∷ [])) (Then (Evaluate 3 (OfObject (CallUnwritten 3 (Variable 0)))) (Scoped (Destroys (OfObject (CallOn 1 (Variable 0) NoExprs))) (Then (OfEvents (Throw 3 (BuiltAt 2 0 (OfObject (CallOn 0 (Variable 0) (MoreExprs (Literal (pos 7)) NoExprs)))))) Nil))))) Nil) (MoreHandlers false (Some 2) 2 3 (Then (Print 3 (Show value_form.Number (Load (OfObject (FieldOf one_int 0 (Variable 3)))) ∷ [])) Nil) NoHandlers))) (Then (Print 3 (Show value_form.Character (Literal (pos 46)) ∷ [])) Nil);
  } ∷ record {
    line = 0;
    cells = 0;
    params = 0;
    purpose = Builder;
    written = false;
    body = Nil;
  } ∷ [];
  main = 2;
  classes = record { cells = 0 } ∷ record { cells = 0 } ∷ [];
  sites = [];
  texts = [];
}

abbrev pub SampleSound : Type 0
SampleSound = (t : Table) × Sound t task_source

-- where no binding but a parameter is read
abbrev pub EventSound : Type 0
EventSound = (t : Table) × Sound t event_source × (t.refers ≡ false)
