-- The task that is spawned stands for the one that the source makes.
use Rattle.std.proofs.Common.{◌≡◌, ℕ, Option, Some, None, refl, sym, ap, subst, ◌∙◌}
use Rattle.std.specs.Prelude.{slice_get}
use Rattle.uc_tree.specs.Source.{Source, Routine, routine_of, routine_or_none}
use Rattle.uc_entry.specs.declared.request.Request.{Request}
use Rattle.uc_entry.specs.declared.request.Request.TheVariants as ask
use Rattle.uc_machine.specs.Quiet.{State, first_state}
use Rattle.uc_machine.specs.Answering.{child_main, child_of}
use Rattle.uc_code.specs.declared.rows.Instruction.{Instruction}
use Rattle.uc_code.specs.declared.rows.RoutineCode.{RoutineCode}
use Rattle.uc_code.specs.Codes.{Code}
use Rattle.uc_code.specs.Layout.{laid_of}
use Rattle.uc_code.specs.Lowered.{Lowered}
use Rattle.uc_frames.specs.PaceInvariant.{AllIdle, has_begun}
use Rattle.uc_frames.specs.Machine.{Machine, Cells, first_machine}
use Rattle.uc_frames.specs.StandsByParts.{Alike}
use Rattle.uc_frames.specs.Stands.{Stands}
use Rattle.uc_frames.proofs.Keeps.{first_kept}
use Rattle.uc_step.specs.Simulation.{StandsAfter}
use Rattle.uc_step.specs.WeightFalls.{Keeps}
use Rattle.uc_step.proofs.Routines.{Stood, routines_alike}
use Rattle.uc_step.proofs.StartsLemmas.{begins}
use Rattle.uc_ride.specs.RideStands.{spawned_by, main_at, routine_in, main_behind, BornBy, BornAs}

spawn_is : (r : Request) (o : ℕ) → spawned_by r ≡ Some o → r ≡ ask.Spawn o
spawn_is (ask.Spawn x) o e = let i : x ≡ o = cc in ap ask.Spawn i
spawn_is _ o e = absurd (cc e)

module _ (code : Code) where
  -- the code of a main stands for the main itself
  main_stands : (last number o : ℕ) (c : RoutineCode) (x : Option RoutineCode) (y : Option Routine) → x ≡ Some c → Alike (Stood (laid_of code) last number) x y → Stands (laid_of code) (first_machine c o) (first_state (routine_or_none y) o)
  main_stands last number o c None y e a = absurd (cc)
  main_stands last number o c (Some d) None e a = absurd a
  main_stands last number o c (Some d) (Some r) e a =
      let same : d ≡ c = cc in
      subst (λ z. Stands (laid_of code) (first_machine z o) (first_state r o)) same (begins (laid_of code) last number r d o a.from a.to a.at)

  child_stands : (source : Source) (s : State) (m n : Machine) (o : ℕ) (c : RoutineCode) → Lowered source code → StandsAfter (laid_of code) (ask.Spawn o) m s → main_behind code m ≡ Some c → n ≡ first_machine c o → Stands (laid_of code) n (child_of source o s)
  child_stands source s m n o c low (h, k) e q =
      let there : slice_get code.routines k.main ≡ Some c = sym (ap (λ (i : Option Instruction). routine_in code (main_at i)) k.here.here) ∙ e in
      let first = main_stands low.last k.main o c (slice_get code.routines k.main) (slice_get source.routines k.main) there (routines_alike (laid_of code) low.last source.routines code.routines _ _ k.main low.routines) in
      let main : child_main source s.run.control ≡ k.main = ap (child_main source) k.todo in
      subst (λ z. Stands (laid_of code) z (child_of source o s)) (sym q) (subst (λ z. Stands (laid_of code) (first_machine c o) (first_state (routine_of source z) o)) (sym main) first)

  pub none_born : (source : Source) (s : State) (r : Request) → spawned_by r ≡ None → BornAs source (laid_of code) r None s
  none_born source s r e = subst (λ x. BornBy source (laid_of code) x None s) (sym e) refl

  pub one_born : (source : Source) (s : State) (m n : Machine) (r : Request) (o : ℕ) (c : RoutineCode) → spawned_by r ≡ Some o → main_behind code m ≡ Some c → n ≡ first_machine c o → Lowered source code → StandsAfter (laid_of code) r m s → BornAs source (laid_of code) r (Some n) s
  one_born source s m n r o c e b q low h =
      subst (λ x. BornBy source (laid_of code) x (Some n) s) (sym e) (child_stands source s m n o c low (subst (λ x. StandsAfter (laid_of code) x m s) (spawn_is r o e) h) b q)

  -- it keeps what rides need
  pub child_keeps : (n : Machine) (o : ℕ) (c : RoutineCode) → n ≡ first_machine c o → Keeps code n
  child_keeps n o c e = record {
    run = first_kept (laid_of code) code.routines n (ap (λ (x : Machine). x.callers) e) (ap (λ (x : Machine). x.run.handles) e);
    begun = ap (λ (x : Machine). has_begun x.env.links.stage) e;
    others = subst (λ (x : Cells). AllIdle (laid_of code) code.routines x) (sym (ap (λ (x : Machine). x.env) e)) ((tt, tt), tt);
  }
