-- Each state of each task of a program whose source is sound is in order.
use Rattle.std.proofs.Common.{◌≡◌, [], subst}
use Rattle.uc_tree.specs.Programs.{Program}
use Rattle.uc_tree.specs.Source.{Source}
use Rattle.uc_entry.specs.declared.request.Request.TheVariants.{Spawn}
use Rattle.uc_machine.specs.Quiet.{State, Step, Goes, Ticks, Asks, quiet}
use Rattle.uc_resolve.specs.Resolve.{source_of}
use Rattle.uc_typing.specs.Typing.{Table}
use Rattle.uc_typing.specs.States.{Sound, Typed, IsTask, After}
use Rattle.uc_typing.specs.Laws.{ReadsIn}
use Rattle.uc_typing.proofs.Answers.{handed, begins, law_answered, law_spawned}
use Rattle.uc_typing.proofs.Keeps.{keeps}
use Rattle.uc_sound.specs.Tables.{table_of}
use Rattle.uc_sound.specs.WellTyped.{IsTaskState, ReadsTo, begun, spawned, steps, ticks, told, drawn}

behind : (t : Table) (source : Source) → Sound t source → (s : State) (step : Step) → quiet source s ≡ step → Typed t [] s → ReadsIn t s → After t source step
behind t source sound s step e x r = subst (After t source) e (keeps t source sound s (r x).0 (r x).1)

module _ (p : Program) (sound : Sound (table_of p) (source_of p)) (main : IsTask (table_of p) (source_of p).main) where
  pub typed : (u : State) (i : IsTaskState p u) → ReadsTo p u i → Typed (table_of p) [] u
  typed _ (begun o) r = begins (table_of p) (source_of p) sound (source_of p).main o main
  typed _ (spawned {s} {u} o n i e) r =
      law_spawned (table_of p) (source_of p) sound o n u (behind (table_of p) (source_of p) sound s (Asks (Spawn o) u) e (typed s i r.1) r.0)
  typed _ (steps {s} {u} i e) r = behind (table_of p) (source_of p) sound s (Goes u) e (typed s i r.1) r.0
  typed _ (ticks {s} {u} i e) r = behind (table_of p) (source_of p) sound s (Ticks u) e (typed s i r.1) r.0
  typed _ (told {s} {u} q a i e k) r =
      law_answered (table_of p) (source_of p) q a u (behind (table_of p) (source_of p) sound s (Asks q u) e (typed s i r.1) r.0) k
  typed _ (drawn {s} hand i h) r = handed (table_of p) [] hand s (typed s i r) h
