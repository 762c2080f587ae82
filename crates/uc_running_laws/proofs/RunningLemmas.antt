-- Nobody leaves its home for good where nothing else is owed to what is let go of: so the running execution of each task is there.
use Rattle.std.proofs.Common.{◌≡◌, ℕ, Bool, true, false, List, [], refl}
use Rattle.std.specs.Prelude.{nat_eq, ◌||◌}
use Rattle.std.proofs.lemmas.Bool.{eqb-true}
use Rattle.uc_tree.specs.Programs.{Program}
use Rattle.uc_entry.specs.declared.entry.Options.{Options}
use Rattle.uc_entry.specs.declared.request.Request.{Request}
use Rattle.uc_entry.specs.declared.request.Request.TheVariants as ask
use Rattle.uc_entry.specs.Keyed.{find}
use Rattle.uc_acts.specs.Journal.{Journal}
use Rattle.uc_acts.specs.KernelRuns.{InRange}
use Rattle.uc_machine.specs.declared.exec.Home.{Home}
use Rattle.uc_machine.specs.declared.exec.Home.TheVariants.{Task, Object}
use Rattle.uc_machine.specs.Executions.{home_eq}
use Rattle.uc_machine.specs.Insides.{has_engaged}
use Rattle.uc_machine.specs.Quiet.{State}
use Rattle.uc_resolve.specs.Resolve.{source_of}
use Rattle.uc_rules.specs.Breaks.{breaks_of}
use Rattle.uc_sound.specs.SoundFormed.{IsFormed}
use Rattle.uc_meaning.specs.Runs.{World, Runs, gives, no_room, acts, begun, more}
use Rattle.uc_state_laws.specs.Fitting.{RunFits}
use Rattle.uc_sound.proofs.Routines.{law_entered}
use Rattle.uc_source_laws.specs.SourceLaws.{part_of}
use Rattle.uc_source_laws.proofs.InnerSources.{law_inner}
use Rattle.uc_letting_laws.specs.AloneRuns.{RunAlone}
use Rattle.uc_letting_laws.specs.LettingLaws.{LeavesFree}
use Rattle.uc_letting_laws.proofs.LettingWorlds.{law_leaving}
use Rattle.uc_life_laws.specs.RunningRuns.{LeavesHome, RunLeaves}
use Rattle.uc_life_laws.proofs.RunningWorlds.{law_running_runs}
use Rattle.uc_running_laws.specs.Running.{LawRunning}

-- an execution that is not at home in an object
not_home : (h : Home) (o : ℕ) → (h ≡ Object o → ⊥) → home_eq h (Object o) ≡ false
not_home (Task a) o n = refl
not_home (Object k) o n = by (nat_eq k o) refl
  where
    by : (b : Bool) → nat_eq k o ≡ b → nat_eq k o ≡ false
    by true e = let same : k ≡ o = eqb-true k o e in absurd (n (cc same))
    by false e = e

or_first : (a b : Bool) → (a || b) ≡ false → a ≡ false
or_first true b e = cc
or_first false b e = refl

leaves : (own : ℕ) (q : Request) (s : State) → LeavesFree own q s → LeavesHome own q s.env
leaves own (ask.Gone o) s h = not_home s.env.exec.home o h
leaves own ask.End s h = or_first (home_eq s.env.exec.home (Object own)) (has_engaged (find own s.env.hand)) h
leaves own q s h = tt

module _ (p : Program) (formed : IsFormed p) (ok : breaks_of p ≡ []) (input : List ℕ) (opts : Options) (range : InRange opts) where
  pub run_leaves : {j : Journal} {w : World} (r : Runs (source_of p) input opts j w) → RunFits (source_of p) input opts j w r → RunAlone (source_of p) input opts j w r → RunLeaves (source_of p) input opts j w r
  run_leaves begun f g = tt
  run_leaves (more r o (gives q t s le)) f g = (run_leaves r f.0 g.0, tt)
  run_leaves (more r o (no_room q t s le)) f g = (run_leaves r f.0 g.0, tt)
  run_leaves (more {j} {w} r o (acts q t n s asked d)) f g =
      (run_leaves r f.0 g.0, leaves _ asked.request s (law_leaving (part_of p) (source_of p) (law_entered p formed ok) (law_inner p formed ok).source input opts j w r range f.0 g.0 o q t n s asked d g.1))

pub law_running : LawRunning
law_running p formed ok input opts range j w r fits on alone spares =
    law_running_runs (source_of p) input opts j w r range fits on (run_leaves p formed ok input opts range r fits alone) spares
