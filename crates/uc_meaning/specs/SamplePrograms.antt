-- Sample programs, as the trees of their texts, and journals that are worked out by hand.
use Rattle.std.specs.Prelude.{ℕ, ℤ, pos, false, [], ◌∷◌, codes, Some, None}
use Rattle.uc_tree.specs.declared.pos.Pos.{Pos}
use Rattle.uc_tree.specs.declared.kinds.Base.TheVariants as base
use Rattle.uc_tree.specs.declared.kinds.Owner.TheVariants as owner
use Rattle.uc_tree.specs.declared.kinds.Role.TheVariants as role
use Rattle.uc_tree.specs.declared.ops.BinaryOp.TheVariants as binary
use Rattle.uc_tree.specs.declared.ops.StepOp.TheVariants as step
use Rattle.uc_tree.specs.Expressions.{Number, Name, Postfix, Chain, NoExprs, MoreExprs, Call, Step, NoParts, MoreParts, Linked, NoLinks, MoreLinks}
use Rattle.uc_tree.specs.Statements.{StartValue, Endl, Printed, ForDeclare, Stmt, For, Print, Return, stmts_of}
use Rattle.uc_tree.specs.Programs.{Sig, Routine, RoutineItem, Program}
use Rattle.uc_resolve.specs.Resolve.{source_of}
use Rattle.uc_entry.specs.declared.entry.EntryKind.TheVariants as kind
use Rattle.uc_entry.specs.declared.entry.Entry.{Entry}
use Rattle.uc_entry.specs.declared.entry.Options.{Options}
use Rattle.uc_acts.specs.Journal.{Journal, entry, begin}
use Rattle.uc_acts.specs.Acts.{dispatch}
use Rattle.uc_meaning.specs.Runs.{IsRun}
use Rattle.uc_acts.specs.Samples.{options, first_journal}

-- an entry that carries the line of what was asked
abbrev pub in_line : ℕ → Entry → Entry
in_line line e = record e { line = line }

abbrev at : ℕ → ℕ → Pos
at line col = record { line = line; col = col }

-- `void uMain::main()` in this line
abbrev main_sig : ℕ → Sig
main_sig line = record { pos = at line 1; owner = owner.Main; role = role.Plain; ret = base.Void; name = codes "main"; params = [] }

-- void uMain::main() { cout << 3 << endl; }
abbrev pub first_text : Program
first_text = record {
  items = RoutineItem (record {
    sig = main_sig 1;
    inits = [];
    brace = at 1 20;
    body = stmts_of (Print (at 1 22) (Printed (at 1 27) (Number (at 1 30) (pos 3)) ∷ (Endl (at 1 32) ∷ [])) ∷ []);
  }) ∷ [];
}

-- the journal of the first program is a run of it
pub record FirstRun : Type 0 where
  pub run : IsRun (source_of first_text) [] options first_journal

-- void uMain::main() { for (int i = 0; i < 3; i++) cout << i; }
abbrev loop_body : Stmt
loop_body =
    For (at 1 22) (ForDeclare (at 1 27) base.Int (record { pos = at 1 31; by_ref = false; name = codes "i"; len = None; start = StartValue (Number (at 1 35) (pos 0)) } ∷ [])) (Some (Chain (at 1 38) (Name (at 1 38) (codes "i")) (MoreLinks (Linked (at 1 40) binary.Less (Number (at 1 42) (pos 3))) NoLinks))) (Some (Postfix (at 1 45) (Name (at 1 45) (codes "i")) (MoreParts (Step (at 1 46) step.Increment) NoParts))) (Print (at 1 50) (Printed (at 1 55) (Name (at 1 58) (codes "i")) ∷ []))

abbrev pub loop_text : Program
loop_text = record {
  items = RoutineItem (record { sig = main_sig 1; inits = []; brace = at 1 20; body = stmts_of (loop_body ∷ []) }) ∷ [];
}

-- a task may make two ticks at a time
abbrev pub two_ticks : Options
two_ticks = record options { slice = 2 }

-- the tick of the second turn fills the slice: it comes before what the turn does
abbrev pub loop_journal : Journal
loop_journal =
    begin two_ticks ∷ dispatch 0 0 ∷ in_line 1 (entry kind.Print 0 0 1 0 (pos 0) (pos 0)) ∷ in_line 1 (entry kind.Slice 0 0 1 0 (pos 0) (pos 0)) ∷ dispatch 0 0 ∷ in_line 1 (entry kind.Print 0 0 0 0 (pos 0) (pos 1)) ∷ in_line 1 (entry kind.Print 0 0 1 0 (pos 0) (pos 2)) ∷ in_line 1 (entry kind.End 0 0 0 0 (pos 0) (pos 0)) ∷ entry kind.Done 0 0 0 0 (pos 0) (pos 0) ∷ []

pub record LoopRun : Type 0 where
  pub run : IsRun (source_of loop_text) [] two_ticks loop_journal

-- line 1: int part(int n) {
-- line 2:     return 10 / n;
-- line 3: }
-- line 4: void uMain::main() {
-- line 5:     cout << part(5);
-- line 6:     cout << part(0);
-- line 7: }
abbrev part_routine : Routine
part_routine = record {
  sig = record {
    pos = at 1 1;
    owner = owner.Here;
    role = role.Plain;
    ret = base.Int;
    name = codes "part";
    params = record { pos = at 1 10; base = base.Int; by_ref = false; name = codes "n" } ∷ [];
  };
  inits = [];
  brace = at 1 17;
  body = stmts_of (Return (at 2 5) (Some (Chain (at 2 12) (Number (at 2 12) (pos 10)) (MoreLinks (Linked (at 2 15) binary.Div (Name (at 2 17) (codes "n"))) NoLinks))) ∷ []);
}

-- a line that prints what `part` gives for a number
abbrev part_printed : ℕ → ℤ → Stmt
part_printed line n =
    Print (at line 5) (Printed (at line 10) (Postfix (at line 13) (Name (at line 13) (codes "part")) (MoreParts (Call (at line 17) (MoreExprs (Number (at line 18) n) NoExprs)) NoParts)) ∷ [])

abbrev pub call_text : Program
call_text = record {
  items = RoutineItem part_routine ∷ (RoutineItem (record {
    sig = main_sig 4;
    inits = [];
    brace = at 4 20;
    body = stmts_of (part_printed 5 (pos 5) ∷ (part_printed 6 (pos 0) ∷ []));
  }) ∷ []);
}

-- each call makes a tick; the second divides by 0 in line 2
abbrev pub call_journal : Journal
call_journal =
    begin options ∷ dispatch 0 0 ∷ in_line 5 (entry kind.Print 0 0 1 0 (pos 0) (pos 2)) ∷ in_line 2 (entry kind.Fault 0 0 1 0 (pos 2) (pos 2)) ∷ []

pub record CallRun : Type 0 where
  pub run : IsRun (source_of call_text) [] options call_journal
