-- A task and its hand, apart and together.
use Rattle.std.proofs.Common.{◌≡◌, ℕ, ◌==◌, Bool, true, false, List, [], ◌∷◌, Option, Some, None, refl, subst}
use Rattle.std.specs.Prelude.{if◌then◌else◌}
use Rattle.uc_entry.specs.declared.request.Request.{Request}
use Rattle.uc_entry.specs.declared.request.Request.TheVariants as ask
use Rattle.uc_entry.specs.Keyed.{find}
use Rattle.uc_tree.specs.Source.{Source}
use Rattle.uc_machine.specs.Quiet as quiet
use Rattle.uc_machine.specs.Quiet.{State, Members as Home}
use Rattle.uc_machine.specs.Answering as answering
use Rattle.uc_machine.specs.Answering.{child_of}
use Rattle.uc_code.specs.Codes.{Code}
use Rattle.uc_code.specs.Layout.{Laid, laid_of}
use Rattle.uc_frames.specs.Machine.{Machine, Cells, Members, with_hand}
use Rattle.uc_frames.specs.PaceInvariant.{EachOf, IdlesAt}
use Rattle.uc_frames.specs.Stands.{Stands, Binds, Rests, Standing, Binding, EnvironmentStands}
use Rattle.uc_frames.specs.StandsByParts.{Numbered}
use Rattle.uc_step.specs.Simulation.{StandsAfter}
use Rattle.uc_step.specs.WeightFalls.{Keeps}
use Rattle.uc_ride.specs.RideStands.{BornAs}
use Rattle.uc_ride.specs.UnwindingFalls.{KeepsAfter}
use Rattle.uc_meaning.specs.Runs.{bare}
use Rattle.uc_kernel.specs.Numbered.{added, gathered}
use Rattle.uc_vproc.specs.Rest.{IsHome, IsTask, IsWork, faults, stops}

-- another machine rests by what each way to rest says of it
rests_by : (code : Laid) (m m' : Machine) (s s' : State) → (Stands code m s → Stands code m' s') → (Binds code m s → Binds code m' s') → Rests code m s → Rests code m' s'
rests_by code m m' s s' f g (Standing n u h) = Standing m' s' (f h)
rests_by code m m' s s' f g (Binding n u h) = Binding m' s' (g h)

module _ (code : Code) where
  bare_env : (e : Cells) (v : quiet.Env) → EnvironmentStands (laid_of code) e v → EnvironmentStands (laid_of code) (record e { hand = [] }) (record v { hand = [] })
  bare_env e v h = record {
    frames = h.frames;
    links = h.links;
    exec = h.exec;
    own = h.own;
    house = h.house;
    depths = h.depths;
    hand = tt;
    gathered = h.gathered;
  }

  handed_env : (e : Cells) (v : quiet.Env) (ms : List (ℕ × Members)) (hs : List (ℕ × Home)) → Numbered (IsHome code) ms hs → EnvironmentStands (laid_of code) e v → EnvironmentStands (laid_of code) (record e { hand = ms }) (record v { hand = hs })
  handed_env e v ms hs hand h = record {
    frames = h.frames;
    links = h.links;
    exec = h.exec;
    own = h.own;
    house = h.house;
    depths = h.depths;
    hand = hand;
    gathered = h.gathered;
  }

  stands_bare : (v : Machine) (s : State) → Stands (laid_of code) v s → Stands (laid_of code) (with_hand [] v) (bare s)
  stands_bare v s h = record { run = h.run; callers = h.callers; env = bare_env v.env s.env h.env }

  pub task_of : (v : Machine) (ms : List (ℕ × Members)) (s : State) → IsWork code v ms s → IsTask code v s
  task_of v ms s =
      rests_by (laid_of code) (with_hand ms v) (with_hand [] v) s (bare s) (stands_bare (with_hand ms v) s) (λ h. record { run = h.run; callers = h.callers; env = bare_env (with_hand ms v).env s.env h.env })

  -- a task that is born has nothing in hand
  pub born_task : (v : Machine) (s : State) → Stands (laid_of code) v s → IsTask code v s
  born_task v s h = Standing (with_hand [] v) (bare s) (stands_bare v s h)

  pub work_of : (v : Machine) (ms : List (ℕ × Members)) (s : State) (hs : List (ℕ × Home)) → IsTask code v s → Numbered (IsHome code) ms hs → IsWork code v ms (answering.with_hand hs s)
  work_of v ms s hs h hand =
      rests_by (laid_of code) (with_hand [] v) (with_hand ms v) (bare s) (answering.with_hand hs s) (λ h. record { run = h.run; callers = h.callers; env = handed_env (with_hand [] v).env (bare s).env ms hs hand h.env }) (λ h. record { run = h.run; callers = h.callers; env = handed_env (with_hand [] v).env (bare s).env ms hs hand h.env }) h

  pub kept_bare : (v : Machine) → Keeps code v → Keeps code (with_hand [] v)
  kept_bare v k = record { run = record { run = k.run.run; callers = k.run.callers }; begun = k.begun; others = (k.others.0, tt) }

  pub kept_task : (v : Machine) (ms : List (ℕ × Members)) → Keeps code (with_hand ms v) → Keeps code (with_hand [] v)
  kept_task v ms k = kept_bare (with_hand ms v) k

  pub kept_work : (v : Machine) (ms : List (ℕ × Members)) → Keeps code (with_hand [] v) → EachOf (IdlesAt (laid_of code) code.routines) ms → Keeps code (with_hand ms v)
  kept_work v ms k h = record { run = record { run = k.run.run; callers = k.run.callers }; begun = k.begun; others = (k.others.0, h) }

  -- behind a request after which a task goes on
  pub goes_stands : (r : Request) (m : Machine) (s : State) → stops r ≡ false → StandsAfter (laid_of code) r m s → Rests (laid_of code) m s
  goes_stands ask.End m s f h = absurd (cc f)
  goes_stands (ask.Fault n) m s f h = absurd (cc f)
  goes_stands (ask.Make c) m s f h = Binding m s h
  goes_stands (ask.Spawn o) m s f h = Standing m s h.0
  goes_stands r m s f h = Standing m s h

  pub goes_kept : (r : Request) (m : Machine) → stops r ≡ false → KeepsAfter code r m → Keeps code m
  goes_kept ask.End m f h = absurd (cc f)
  goes_kept (ask.Fault n) m f h = absurd (cc f)
  goes_kept r m f h = h

  -- behind any request its hand stands
  pub hand_stands_after : (r : Request) (m : Machine) (s : State) → StandsAfter (laid_of code) r m s → Numbered (IsHome code) m.env.hand s.env.hand
  hand_stands_after ask.End m s h = h
  hand_stands_after (ask.Fault n) m s h = h
  hand_stands_after (ask.Make c) m s h = h.env.hand
  hand_stands_after (ask.Spawn o) m s h = h.0.env.hand
  hand_stands_after r m s h = h.env.hand

  pub hand_kept_after : (r : Request) (m : Machine) → faults r ≡ false → KeepsAfter code r m → EachOf (IdlesAt (laid_of code) code.routines) m.env.hand
  hand_kept_after ask.End m f h = h
  hand_kept_after (ask.Fault n) m f h = absurd (cc f)
  hand_kept_after r m f h = h.others.1

  -- a new task comes with a request for it alone
  pub born_stands : (source : Source) (r : Request) (child : Option Machine) (s : State) (o : ℕ) (v : Machine) → BornAs source (laid_of code) r child s → r ≡ ask.Spawn o → child ≡ Some v → IsTask code v (child_of source o s)
  born_stands source r child s o v h e f =
      born_task v (child_of source o s) (subst (λ c. BornAs source (laid_of code) (ask.Spawn o) c s) f (subst (λ q. BornAs source (laid_of code) q child s) e h))

module _ {X : Type 0} (P : X → Type 0) where
  each_added : (o : ℕ) (x : Option X) (ms : List (ℕ × X)) → ((m : X) → x ≡ Some m → P m) → EachOf P ms → EachOf P (added o x ms)
  each_added o None ms h all = all
  each_added o (Some m) ms h all = (h m refl, all)

  pub each_gathered : (os : List ℕ) (f : ℕ → Option X) → ((o : ℕ) (m : X) → f o ≡ Some m → P m) → EachOf P (gathered os f)
  each_gathered [] f h = tt
  each_gathered (o ∷ os) f h = each_added o (f o) (gathered os f) (h o) (each_gathered os f h)

  pub each_found : (o : ℕ) (ms : List (ℕ × X)) (m : X) → EachOf P ms → find o ms ≡ Some m → P m
  each_found o [] m all e = absurd (cc e)
  each_found o (x ∷ ms) m all e = by (x.0 == o) (λ f. each_found o ms m (all.1) f) e
    where
      by : (b : Bool) → (find o ms ≡ Some m → P m) → (if b then Some x.1 else find o ms) ≡ Some m → P m
      by true f h = let same : x.1 ≡ m = cc h in subst P same (all.0)
      by false f h = f h
