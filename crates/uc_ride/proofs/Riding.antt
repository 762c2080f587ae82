-- Ops, one after another, are a ride of the source.
use Rattle.std.proofs.Common.{◌≡◌, ℕ, zero, suc, ◌+◌, ◌-◌, ◌≤◌, true, refl, sym, subst, arith}
use Rattle.uc_tree.specs.Source.{Source}
use Rattle.uc_entry.specs.declared.request.Asked.{Asked}
use Rattle.uc_entry.specs.declared.request.Request.{Request}
use Rattle.uc_entry.specs.declared.request.Request.TheVariants as ask
use Rattle.uc_machine.specs.Quiet.{State}
use Rattle.uc_machine.specs.Rides.{Rides, slices, asked_in}
use Rattle.uc_code.specs.Codes.{Code}
use Rattle.uc_code.specs.Layout.{laid_of}
use Rattle.uc_code.specs.Lowered.{Lowered}
use Rattle.uc_frames.specs.Machine.{Machine}
use Rattle.uc_frames.specs.Stands.{Standing}
use Rattle.uc_frames.specs.PaceInvariant.{has_begun, AllIdle}
use Rattle.uc_step.specs.Effects.{Effect, Quiet, Tick, Ask}
use Rattle.uc_step.specs.Simulation.{behind_line, StandsAfter, Follow, Onward, HasArrived}
use Rattle.uc_step.specs.WeightFalls.{AskFalls, FallsBelow}
use Rattle.uc_step.proofs.Rode.{quiet_rides, tick_rides, ask_rides}
use Rattle.uc_ride.specs.UnwindingFalls.{KeepsAfter}
use Rattle.uc_ride.specs.RideStands.{IsOnWay, HasRidden}

-- one ride goes on where another one is
joined : {source : Source} {quantum middle left : ℕ} {s t u : State} → Onward source quantum middle s t → Onward source middle left t u → Onward source quantum left s u
joined o p =
    let first = o.together in
    let second = p.together in
    record {
      ticks = o.ticks + p.ticks;
      together = omega arith;
      rides = λ k v a r. let e : o.ticks + (p.ticks + k) ≡ (o.ticks + p.ticks) + k = omega arith in rw e at (o.rides (p.ticks + k) v a (p.rides k v a r));
    }

module _ (code : Code) where
  -- what settling says of each source
  abbrev pub Settling : Effect → Machine → Effect → Machine → Type 0
  Settling how m after n = (source : Source) (s : State) → Lowered source code → Follow (laid_of code) source how m s → Follow (laid_of code) source after n s

  pub way_first : (quantum : ℕ) (m : Machine) → IsOnWay code quantum quantum m m
  way_first quantum m source s l h = record {
    now = s;
    onward = record { ticks = 0; together = omega arith; rides = λ k u a r. let e : 0 + k ≡ k = omega arith in rw e r };
    rests = h;
  }

  -- ops, from where a task is on its way
  pub way_ran : (quantum middle left : ℕ) (old m n : Machine) (how : Effect) → IsOnWay code quantum middle old m → HasArrived code middle left m how n → HasArrived code quantum left old how n
  way_ran quantum middle left old m n how w f source s l st =
      let o = w source s l st in
      let p = f source o.now l o.rests in
      record { now = p.now; onward = joined o.onward p.onward; follows = p.follows }

  -- what that leaves is settled
  pub way_settled : (quantum left : ℕ) (old m n : Machine) (how after : Effect) → HasArrived code quantum left old how m → Settling how m after n → HasArrived code quantum left old after n
  way_settled quantum left old m n how after w g source s l st =
      let o = w source s l st in
      record { now = o.now; onward = o.onward; follows = g source o.now l o.follows }

  -- it goes on
  pub way_on : (quantum left : ℕ) (old m : Machine) → 1 ≤ left → HasArrived code quantum left old Quiet m → IsOnWay code quantum left old m
  way_on quantum zero old m some w source s l st = absurd (omega (arith, some))
  way_on quantum (suc k) old m some w source s l st =
      let o = w source s l st in
      let way = o.onward in
      let f = quiet_rides source (laid_of code) m o.now o.follows in
      record {
        now = f.reached;
        onward = record { ticks = way.ticks; together = way.together; rides = λ j u a r. way.rides j u a (f.rides k j u a r) };
        rests = Standing m f.reached f.stands;
      }

  -- it asks
  pub way_asked : (quantum left : ℕ) (old m : Machine) (asked : Asked) → 1 ≤ left → HasArrived code quantum left old (Ask asked) m → HasRidden code quantum old (quantum - left) asked m
  way_asked quantum zero old m asked some w source s l st = absurd (omega (arith, some))
  way_asked quantum (suc k) old m asked some w source s l st =
      let o = w source s l st in
      let way = o.onward in
      let whole = way.together in
      let f = ask_rides source (laid_of code) asked m o.now o.follows in
      let e : way.ticks + 0 ≡ quantum - suc k = omega arith in
      record {
        reached = f.reached;
        rides = rw e at (way.rides 0 f.reached asked (f.rides k));
        stands = subst (λ r. StandsAfter (laid_of code) r m f.reached) (sym f.same) f.stands;
      }

  -- the last tick is made, and a slice is asked
  pub way_sliced : (quantum left : ℕ) (old m : Machine) (asked : Asked) → left ≡ 1 → HasArrived code quantum left old Tick m → asked ≡ record { request = ask.Slice; line = behind_line (laid_of code) m } → HasRidden code quantum old quantum asked m
  way_sliced quantum left old m asked one w q source s l st =
      let o = w source s l st in
      let way = o.onward in
      let whole = way.together in
      let t = tick_rides source (laid_of code) m o.now o.follows in
      let e : way.ticks + suc 0 ≡ quantum = omega (arith, whole, one) in
      let same : asked_in t.reached ask.Slice ≡ asked = rw q (rw t.line refl) in
      let r : Rides source o.now left t.reached (suc 0) (asked_in t.reached ask.Slice) = rw one (t.rides 0 0 t.reached (asked_in t.reached ask.Slice) slices) in
      record {
        reached = t.reached;
        rides = subst (λ a. Rides source s quantum t.reached quantum a) same (rw e at (way.rides (suc 0) t.reached (asked_in t.reached ask.Slice) r));
        stands = rw q t.stands;
      }

-- a request behind which less is left keeps as much
kept_by : (code : Code) (v : ℕ) (r : Request) (m : Machine) → AskFalls code v r m → has_begun m.env.links.stage ≡ true → AllIdle (laid_of code) code.routines m.env → KeepsAfter code r m
kept_by code v ask.End m l b o = o.1
kept_by code v (ask.Fault n) m l b o = tt
kept_by code v (ask.Make x0) m l b o = record { run = l.1; begun = b; others = o }
kept_by code v (ask.Made x0) m l b o = record { run = l.1; begun = b; others = o }
kept_by code v (ask.Spawn x0) m l b o = record { run = l.1; begun = b; others = o }
kept_by code v (ask.Call x0 x1) m l b o = record { run = l.1; begun = b; others = o }
kept_by code v (ask.Leave x0 x1) m l b o = record { run = l; begun = b; others = o }
kept_by code v (ask.Accept x0 x1 x2) m l b o = record { run = l; begun = b; others = o }
kept_by code v (ask.Wait x0 x1 x2) m l b o = record { run = l.1; begun = b; others = o }
kept_by code v (ask.Signal x0 x1) m l b o = record { run = l.1; begun = b; others = o }
kept_by code v (ask.SignalBlock x0 x1) m l b o = record { run = l.1; begun = b; others = o }
kept_by code v (ask.Empty x0 x1) m l b o = record { run = l.1; begun = b; others = o }
kept_by code v (ask.Front x0 x1) m l b o = record { run = l.1; begun = b; others = o }
kept_by code v (ask.Raise x0 x1 x2 x3) m l b o = record { run = l.1; begun = b; others = o }
kept_by code v (ask.Poll x0) m l b o = record { run = l; begun = b; others = o }
kept_by code v ask.Yield m l b o = record { run = l.1; begun = b; others = o }
kept_by code v ask.Slice m l b o = record { run = l.1; begun = b; others = o }
kept_by code v (ask.Print x0 x1) m l b o = record { run = l.1; begun = b; others = o }
kept_by code v (ask.Read x0) m l b o = record { run = l.1; begun = b; others = o }
kept_by code v ask.Fail m l b o = record { run = l.1; begun = b; others = o }
kept_by code v ask.Cluster m l b o = record { run = l.1; begun = b; others = o }
kept_by code v (ask.ClusterEnd x0) m l b o = record { run = l.1; begun = b; others = o }
kept_by code v (ask.Processor x0) m l b o = record { run = l.1; begun = b; others = o }
kept_by code v (ask.ProcessorEnd x0) m l b o = record { run = l.1; begun = b; others = o }
kept_by code v (ask.Migrate x0) m l b o = record { run = l.1; begun = b; others = o }
kept_by code v (ask.Gone x0) m l b o = record { run = l.1; begun = b; others = o }

pub asked_keeps : (code : Code) (w : ℕ) (a : Asked) (m : Machine) → FallsBelow code w (Ask a) m → KeepsAfter code a.request m
asked_keeps code w a m h = kept_by code h.part a.request m h.is h.begun h.others
