-- A main as it begins.
use Rattle.std.proofs.Common.{◌≡◌, ℕ, ◌+◌, List, [], ◌∷◌, None, Some, refl, sym, subst, ap, ◌∙◌}
use Rattle.std.specs.Prelude.{max, slice_get}
use Rattle.uc_tree.specs.Source.{Purpose, TaskMain, CoroutineMain, Procedure, Function, Builder, Stmts, Routine, Source}
use Rattle.uc_machine.specs.Quiet as quiet
use Rattle.uc_machine.specs.Quiet.{Todo, Rest, Within, behind_body, routine_todo, first_state}
use Rattle.uc_code.specs.declared.op.Op.TheVariants as op
use Rattle.uc_code.specs.declared.rows.MainOf.TheVariants as main_of
use Rattle.uc_code.specs.declared.rows.CodeMark.{CodeMark}
use Rattle.uc_code.specs.declared.rows.CodeMark.TheVariants as mark
use Rattle.uc_code.specs.declared.rows.RoutineCode.{RoutineCode}
use Rattle.uc_code.specs.Codes.{Code}
use Rattle.uc_code.specs.Layout.{Laid, laid_of}
use Rattle.uc_code.specs.CodeShapes.{OpAt, Arrived}
use Rattle.uc_code.specs.Lowered.{BodyAt, RoutineAt, Lowered}
use Rattle.uc_frames.specs.Machine.{Machine, cell_of, first_machine}
use Rattle.uc_frames.specs.Stands.{OfRoutine, FollowsAt, Stands}
use Rattle.uc_step.specs.Starts.{Starts}
use Rattle.uc_frames.proofs.Lists.{replicate_map}
use Rattle.uc_step.proofs.Routines.{routine_at}

module _ (code : Laid) where
  -- the code from here on does what is to do in a routine, in these marks
  pub record Begun (todo : List Todo) (entry : ℕ) : Type 0 where
    pub marks : List CodeMark
    pub follows : FollowsAt code todo marks entry

  -- the end of a routine that is no main
  last_of : (number a : ℕ) → OpAt code a op.Return 0 → FollowsAt code [] (mark.Body number ∷ []) a
  last_of number a o = record { last = OfRoutine number; end = a; leads = Arrived a; returns = o }

  last_within : (number line a : ℕ) → OpAt code a op.Return 0 → FollowsAt code (Within line ∷ []) (mark.Body number ∷ []) a
  last_within number line a o = record { from = a; to = a; leads = Arrived a; piece = record { end = refl }; on = last_of number a o }

  begun_by : (p : Purpose) (number line : ℕ) (ss : Stmts) (a z : ℕ) → BodyAt code p number line ss a z → Begun (Rest ss ∷ behind_body p line) a
  begun_by TaskMain number line ss a z h = record {
    marks = mark.Finish main_of.Task number line h.row ∷ [];
    follows = record {
      from = a;
      to = h.body_end;
      leads = Arrived a;
      piece = h.body;
      on = record {
        behind = refl;
        routine = number;
        row = h.row;
        pops = refl;
        end = h.body_end;
        entry = h.body_end + 1;
        leads = Arrived h.body_end;
        returns = h.returns;
        handler = h.handler;
        unwound = h.unwound;
      };
    };
  }
  begun_by CoroutineMain number line ss a z h = record {
    marks = mark.Finish main_of.Coroutine number line h.row ∷ [];
    follows = record {
      from = a;
      to = h.body_end;
      leads = Arrived a;
      piece = h.body;
      on = record {
        behind = refl;
        routine = number;
        row = h.row;
        pops = refl;
        end = h.body_end;
        entry = h.body_end + 1;
        leads = Arrived h.body_end;
        returns = h.returns;
        handler = h.handler;
        unwound = h.unwound;
      };
    };
  }
  begun_by Procedure number line ss a z h =
      let m : ℕ = h.middle in
      record { marks = mark.Body number ∷ []; follows = record { from = a; to = m; leads = Arrived a; piece = h.first; on = last_within number line m h.second.here } }
  begun_by Function number line ss a z h =
      let g = h.second in
      let w : FollowsAt code (Within line ∷ []) (mark.Body number ∷ []) g.middle = last_within number line g.middle g.second.here in
      record { marks = mark.Body number ∷ []; follows = record { from = a; to = h.middle; leads = Arrived a; piece = h.first; on = record { from = h.middle; to = g.middle; leads = Arrived h.middle; piece = g.first; on = w } } }
  begun_by Builder number line ss a z h =
      record { marks = mark.Body number ∷ []; follows = record { from = a; to = h.middle; leads = Arrived a; piece = h.first; on = last_of number h.middle h.second.here } }

  -- the code of a routine does what is to do in it
  pub begun : (last number : ℕ) (r : Routine) (c : RoutineCode) (a z : ℕ) → RoutineAt code last number r c a z → Begun (routine_todo r) c.entry
  begun last number r c a z h = rw (h.entry) (begun_by r.purpose (max number last) r.line r.body a z h.body)

  -- the first machine of a routine's code stands for the first state of the routine
  pub begins : (last number : ℕ) (r : Routine) (c : RoutineCode) (o a z : ℕ) → RoutineAt code last number r c a z → Stands code (first_machine c o) (first_state r o)
  begins last number r c o a z h = record {
    run = record { marks = (begun last number r c a z h).marks; follows = (begun last number r c a z h).follows; is = refl };
    callers = tt;
    env = record {
      frames = rw h.cells (ap (λ f. f ∷ []) (replicate_map cell_of r.cells quiet.nought));
      links = refl;
      exec = refl;
      own = refl;
      house = record { values = refl; serial = refl; parked = (refl, tt, tt) };
      depths = refl;
      hand = tt;
      gathered = refl;
    };
  }

none_some : {A B : Type 0} {x : A} → None ≡ Some x → B
none_some e = absurd (cc)

module _ (code : Code) (main : ℕ) where
  one_code : (c d : RoutineCode) → slice_get code.routines main ≡ Some c → slice_get code.routines main ≡ Some d → d ≡ c
  one_code c d p q = cc

  pub starts_some : (own : ℕ) (m : Machine) (c : RoutineCode) → slice_get code.routines main ≡ Some c → m ≡ first_machine c own → Starts code main own (Some m)
  starts_some own m c e f source r l q =
      let h = routine_at (laid_of code) l.last source.routines code.routines _ _ main r l.routines q in
      rw f (subst (λ d. Stands (laid_of code) (first_machine d own) (first_state r own)) (one_code c h.code e h.there) (begins (laid_of code) l.last main r h.code own h.from h.to h.at))

  -- code of a source has the routines of the source
  pub starts_none : slice_get code.routines main ≡ None → (source : Source) (r : Routine) → Lowered source code → slice_get source.routines main ≡ Some r → ⊥
  starts_none e source r l q =
      let h = routine_at (laid_of code) l.last source.routines code.routines _ _ main r l.routines q in
      none_some (sym e ∙ h.there)
