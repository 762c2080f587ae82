-- The end of an activation: the one that waits goes on, or is unwound, and all stays known.
use Rattle.std.proofs.Common.{◌≡◌, List, [], ◌∷◌, Option, Some, None, Bool, refl, subst}
use Rattle.uc_machine.specs.declared.exec.Exec.{Exec}
use Rattle.uc_tree.specs.Source.{Source}
use Rattle.uc_machine.specs.declared.exec.UnwindReason.{UnwindReason}
use Rattle.uc_machine.specs.declared.exec.UnwindReason.TheVariants as reason
use Rattle.uc_machine.specs.declared.exec.Visited.{Visited}
use Rattle.uc_machine.specs.Executions.{others, left_for, unwound}
use Rattle.uc_machine.specs.Raising as r
use Rattle.uc_machine.specs.Pieces as pc
use Rattle.uc_machine.specs.Pieces.{Value, Todo, Active, State, Env}
use Rattle.uc_typing.specs.Typing.{Num, Sig, Table}
use Rattle.uc_typing.proofs.Control.{left}
use Rattle.uc_life_laws.specs.Knowing.{KnownFrames, KnowsWaits, ClaimsEnv, StepBy}
use Rattle.uc_life_laws.specs.Kinds.{IsKept, FollowsOn, goes_back}
use Rattle.uc_life_laws.proofs.Parked.{Ex}
use Rattle.uc_life_laws.proofs.Parking.{frames_run, frames_others, like}
use Rattle.uc_life_laws.specs.Things.{Few}

module _ (t : Table) (few : Few) (Q : Exec → List Sig → Ex → Type 0) (kept : IsKept Q) (source : Source) (s : State) (sigs : List Sig) (frames : KnownFrames t few s.env.exec sigs s.env.frames (s.run ∷ s.callers)) (env : ClaimsEnv t few Q s.env) where
  abbrev After : pc.Step → Type 0
  After x = StepBy t few (FollowsOn Q t few source s sigs) (ClaimsEnv t few Q) source x

  -- the frames of those that wait
  behind : (c d : Active) (cs : List Active) → s.callers ≡ c ∷ cs → KnownFrames t few s.env.exec (others sigs) (others s.env.frames) (d ∷ cs)
  behind c d cs e =
      frames_run t few s.env.exec (others sigs) (others s.env.frames) c d cs (subst (KnownFrames t few s.env.exec (others sigs) (others s.env.frames)) e (frames_others t few s.env.exec sigs s.env.frames s.run s.callers frames))

  -- it is handed a number
  pub returned_knows : (given : Value) (cs : List Active) → s.callers ≡ cs → KnowsWaits t few s.env.exec (others sigs) cs → After (pc.return_step given cs s)
  returned_knows given [] e w = (tt, env)
  returned_knows given (c ∷ cs) e w = (
    record {
      sigs = others sigs;
      frames = behind c _ cs e;
      run = record { sig = w.0.sig; own = Num ∷ w.0.own; scope = w.0.scope; base = w.0.base; frame = w.0.frame; values = (tt, w.0.values); this = w.0.this; ok = w.0.ok; ends = w.0.ends };
      callers = w.1;
      env = like t few Q kept env refl refl refl;
    },
    goes_back c e refl refl refl refl,
  )

  -- it is unwound
  pub left_knows : (why : UnwindReason) (given : Value) (c : Active) (cs : List Active) → s.callers ≡ c ∷ cs → (counts : Bool) → KnowsWaits t few s.env.exec (others sigs) (c ∷ cs) → FollowsOn Q t few source s sigs [] (left_for counts (unwound (pc.Unwind ∷ c.control) why given c) cs s.env)
  left_knows why given c cs e counts w = (
    record {
      sigs = others sigs;
      frames = behind c _ cs e;
      run = record { sig = w.0.sig; own = []; scope = w.0.scope; base = w.0.base; frame = w.0.frame; values = tt; this = w.0.this; ok = left t w.0.sig w.0.base w.0.scope c.control (Num ∷ w.0.own) w.0.ok; ends = w.0.ends };
      callers = w.1;
      env = like t few Q kept env refl refl refl;
    },
    goes_back c e refl refl refl refl,
  )

  past_knows : (v : Visited) (given : Value) (cs : List Active) → s.callers ≡ cs → KnowsWaits t few s.env.exec (others sigs) cs → After (r.return_past v given cs s)
  past_knows v given [] e w = (tt, env)
  past_knows v given (c ∷ cs) e w = left_knows (reason.ReturnTo v.home) given c cs e s.run.counts w

  -- the end of a routine, or of a handler
  pub end_knows : (h : Option Visited) (given : Value) → KnowsWaits t few s.env.exec (others sigs) s.callers → After (r.end_by h given s)
  end_knows None given w = returned_knows given s.callers refl w
  end_knows (Some v) given w = past_knows v given s.callers refl w
