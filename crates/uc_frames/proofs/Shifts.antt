-- What is left to all executions as one stops and another goes on.
use Rattle.std.proofs.Common.{◌≡◌, ℕ, suc, ◌+◌, ◌<◌, ◌≤◌, pos, List, length, Option, Some, None, Bool, true, false, refl, sym, subst, ap, ◌∙◌, arith}
use Rattle.std.specs.Prelude.{nat_eq, if◌then◌else◌}
use Rattle.std.proofs.lemmas.Bool.{eq-eqb}
use Rattle.uc_tree.specs.declared.limits.TheConstants.{UNHANDLED}
use Rattle.uc_machine.specs.declared.exec.Exec.{Exec}
use Rattle.uc_machine.specs.declared.exec.Home.{Home}
use Rattle.uc_machine.specs.declared.exec.Home.TheVariants.{Task, Object}
use Rattle.uc_machine.specs.declared.exec.UnwindReason.TheVariants as reason
use Rattle.uc_machine.specs.declared.exec.Stage.{Stage}
use Rattle.uc_machine.specs.declared.exec.Stage.TheVariants.{Fresh, Started, Ended}
use Rattle.uc_entry.specs.declared.fault.RunFault.{RunFault}
use Rattle.uc_entry.specs.declared.fault.RunFault.TheVariants.{ResumeInUse, SwitchInUnwind}
use Rattle.uc_machine.specs.Executions.{Links, Execution, home_eq, exec_eq, joined, members_at, slot_in, parked_at, change_in, change}
use Rattle.uc_entry.specs.Keyed.{find}
use Rattle.uc_machine.specs.Raising.{home_of}
use Rattle.uc_machine.specs.Switches.{Moved, To, Stops, or_else, woken, slot_set, set_slot, links_changed, stopped, spread, switched, able_at, able_by, able, go_on, in_destruction, wake_at, wake_by, wake_one, wake, suspend, ended, finish, unwound_there, throw_at, escape, taken_down, over, take_down_at, take_down_by, take_down}
use Rattle.uc_code.specs.declared.rows.RoutineCode.{RoutineCode}
use Rattle.uc_code.specs.Layout.{Laid}
use Rattle.uc_frames.specs.declared.cell.Cell.{Cell}
use Rattle.uc_frames.specs.PaceInvariant.{has_begun, Holds, IsFresh, HasStopped, IdlesBy, Idles, IdlesAt, AllIdle, Kept, Goes, ResumesBelow, Within, Idly}
use Rattle.uc_frames.specs.Machine.{Machine, Members, Cells, own_exec, resumed}
use Rattle.uc_frames.specs.Weight.{weight, weight_of, idle_by, idle_in, idle_at, idle}
use Rattle.uc_frames.proofs.Idling.{update_out, update_more, update_each, found_each, over_idly}
use Rattle.uc_frames.proofs.Keeps.{holds_moved, first_kept}

abbrev Ex : Type 0
Ex = Execution ℕ Cell

none-some : {A B : Type 0} {x : A} → None ≡ Some x → B
none-some e = absurd (cc)

some-same : {A : Type 0} {x y : A} → Some x ≡ Some y → x ≡ y
some-same e = cc

joined_is : {X : Type 0} {x : X} (o : Option (Option X)) → joined o ≡ Some x → o ≡ Some (Some x)
joined_is None e = none-some e
joined_is (Some o) e = ap Some e

no_stop : {B : Type 0} {n : Machine} (f : RunFault) → (let x : Moved ℕ Cell = Stops f in x ≡ To n) → B
no_stop f e = absurd (cc)

same_to : {n o : Machine} → (let x : Moved ℕ Cell = To n in x ≡ To o) → n ≡ o
same_to e = cc

-- the names of executions

home_same : (h : Home) → home_eq h h ≡ true
home_same (Task t) = eq-eqb t t refl
home_same (Object o) = eq-eqb o o refl

exec_same : (n : Exec) → exec_eq n n ≡ true
exec_same n =
    let h : home_eq n.home n.home ≡ true = home_same n.home in
    let s : nat_eq n.serial n.serial ≡ true = eq-eqb n.serial n.serial refl in
    rw h s

-- where the running execution has ended, the others are as they were
ended_members : (h : Home) (m : Machine) → members_at h (ended m).env ≡ members_at h m.env
ended_members (Task t) m = refl
ended_members (Object o) m = refl

pub ended_parked : (n : Exec) (m : Machine) → parked_at n (ended m).env ≡ parked_at n m.env
ended_parked n m = ap (λ o. joined (slot_in n.serial o)) (ended_members n.home m)

module _ (code : Laid) (routines : List RoutineCode) where
  abbrev W : Option Ex → ℕ
  W = idle_in code.ops

  abbrev H : Members → ℕ
  H = idle_at code.ops

  -- the one that is taken out

  out_home : (k : ℕ) (m : Members) (x : Ex) → find k m.parked ≡ Some (Some x) → H (slot_set k None m) + W (Some x) ≤ H m
  out_home k m x e =
      let z : W None ≡ 0 = refl in
      let l = update_out W k None m.parked (Some x) e in
      omega arith

  out_task : (b : Bool) (k : ℕ) (e : Cells) (m : Members) (x : Ex) → (if b then Some e.house else None) ≡ Some m → find k m.parked ≡ Some (Some x) → idle code.ops (if b then record e { house = slot_set k None m } else e) + W (Some x) ≤ idle code.ops e
  out_task true k e m x q f =
      let s : e.house ≡ m = some-same q in
      let l : H (slot_set k None m) + W (Some x) ≤ H e.house = subst (λ n. H (slot_set k None m) + W (Some x) ≤ H n) (sym s) (out_home k m x f) in
      omega arith
  out_task false k e m x q f = none-some q

  out_by : (h : Home) (k : ℕ) (e : Cells) (o : Option Members) (x : Ex) → members_at h e ≡ o → joined (slot_in k o) ≡ Some x → idle code.ops (change_in h (slot_set k None) o e) + W (Some x) ≤ idle code.ops e
  out_by h k e None x q f = none-some f
  out_by (Task t) k e (Some m) x q f = out_task (nat_eq t e.own) k e m x q (joined_is (find k m.parked) f)
  out_by (Object o) k e (Some m) x q f =
      let l = out_home k m x (joined_is (find k m.parked) f) in
      let u = update_out H o (slot_set k None m) e.hand m q in
      omega arith

  pub slot_out : (n : Exec) (e : Cells) (x : Ex) → parked_at n e ≡ Some x → idle code.ops (set_slot n None e) + W (Some x) ≤ idle code.ops e
  slot_out n e x f = out_by n.home n.serial e (members_at n.home e) x refl f

  -- the one that is put there

  more_home : (k : ℕ) (z : Option Ex) (m : Members) → H (slot_set k z m) ≤ H m + W z
  more_home k z m = update_more W k z m.parked

  more_task : (b : Bool) (k : ℕ) (z : Option Ex) (e : Cells) (m : Members) → (if b then Some e.house else None) ≡ Some m → idle code.ops (if b then record e { house = slot_set k z m } else e) ≤ idle code.ops e + W z
  more_task true k z e m q =
      let s : e.house ≡ m = some-same q in
      let l : H (slot_set k z m) ≤ H e.house + W z = subst (λ n. H (slot_set k z m) ≤ H n + W z) (sym s) (more_home k z m) in
      omega arith
  more_task false k z e m q = omega arith

  more_by : (h : Home) (k : ℕ) (z : Option Ex) (e : Cells) (o : Option Members) → members_at h e ≡ o → idle code.ops (change_in h (slot_set k z) o e) ≤ idle code.ops e + W z
  more_by h k z e None q = omega arith
  more_by (Task t) k z e (Some m) q = more_task (nat_eq t e.own) k z e m q
  more_by (Object o) k z e (Some m) q =
      let l = more_home k z m in
      let u = update_out H o (slot_set k z m) e.hand m q in
      omega arith

  pub slot_more : (n : Exec) (z : Option Ex) (e : Cells) → idle code.ops (set_slot n z e) ≤ idle code.ops e + W z
  slot_more n z e = more_by n.home n.serial z e (members_at n.home e) refl

  -- what is kept

  each_task : (b : Bool) (k : ℕ) (z : Option Ex) (e : Cells) (m : Members) → (if b then Some e.house else None) ≡ Some m → Idles code routines z → AllIdle code routines e → AllIdle code routines (if b then record e { house = slot_set k z m } else e)
  each_task true k z e m q h r =
      let s : e.house ≡ m = some-same q in
      (update_each (Idles code routines) k z m.parked h (subst (IdlesAt code routines) s r.0), r.1)
  each_task false k z e m q h r = r

  each_by : (h : Home) (k : ℕ) (z : Option Ex) (e : Cells) (o : Option Members) → members_at h e ≡ o → Idles code routines z → AllIdle code routines e → AllIdle code routines (change_in h (slot_set k z) o e)
  each_by h k z e None q i r = r
  each_by (Task t) k z e (Some m) q i r = each_task (nat_eq t e.own) k z e m q i r
  each_by (Object o) k z e (Some m) q i r =
      let g : IdlesAt code routines m = found_each (IdlesAt code routines) o e.hand m q r.1 in
      (r.0, update_each (IdlesAt code routines) o (slot_set k z m) e.hand (update_each (Idles code routines) k z m.parked i g) r.1)

  slot_each : (n : Exec) (z : Option Ex) (e : Cells) → Idles code routines z → AllIdle code routines e → AllIdle code routines (set_slot n z e)
  slot_each n z e i r = each_by n.home n.serial z e (members_at n.home e) refl i r

  found_task : (b : Bool) (e : Cells) (m : Members) → (if b then Some e.house else None) ≡ Some m → AllIdle code routines e → IdlesAt code routines m
  found_task true e m q r = subst (IdlesAt code routines) (some-same q) r.0
  found_task false e m q r = none-some q

  found_home : (h : Home) (e : Cells) (m : Members) → members_at h e ≡ Some m → AllIdle code routines e → IdlesAt code routines m
  found_home (Task t) e m q r = found_task (nat_eq t e.own) e m q r
  found_home (Object o) e m q r = found_each (IdlesAt code routines) o e.hand m q r.1

  found_by : (k : ℕ) (o : Option Members) (x : Ex) → joined (slot_in k o) ≡ Some x → ((m : Members) → o ≡ Some m → IdlesAt code routines m) → Idles code routines (Some x)
  found_by k None x f i = none-some f
  found_by k (Some m) x f i = found_each (Idles code routines) k m.parked (Some x) (joined_is (find k m.parked) f) (i m refl)

  pub found_idles : (n : Exec) (e : Cells) (x : Ex) → parked_at n e ≡ Some x → AllIdle code routines e → Idles code routines (Some x)
  found_idles n e x f r = found_by n.serial (members_at n.home e) x f (λ m q. found_home n.home e m q r)

  -- another one goes on

  shift_weight : (k : Exec) (y : Ex) (e : Cells) → weight code.ops (spread k y e) ≡ weight_of code.ops y
  unfolding weight
  shift_weight k y e = refl

  shift : (k : Exec) (x y z : Ex) (m : Machine) (w : ℕ) → parked_at k m.env ≡ Some x → AllIdle code routines m.env → Idles code routines (Some z) → weight_of code.ops y ≡ weight_of code.ops x → y.links.stage ≡ Started → HasStopped code routines y → weight_of code.ops x + idle code.ops m.env + W (Some z) < w + W (Some x) → Within code routines (Goes code routines) w (spread k y (set_slot m.env.exec (Some z) (set_slot k None m.env)))
  shift k x y z m w f r i q t h l =
      let a = slot_out k m.env x f in
      let b = slot_more m.env.exec (Some z) (set_slot k None m.env) in
      let c = shift_weight k y (set_slot m.env.exec (Some z) (set_slot k None m.env)) in
      record {
        part = suc (weight_of code.ops x);
        fits = omega arith;
        is = (omega arith, record { run = h.run; callers = h.callers });
        begun = ap has_begun t;
        others = slot_each m.env.exec (Some z) (set_slot k None m.env) i (slot_each k None m.env tt r);
      }

  -- the one that stops

  stopped_is : (m : Machine) → weight_of code.ops (stopped m) ≡ weight code.ops m
  unfolding weight
  stopped_is m = refl

  stopped_by : (t : Stage) (m : Machine) → has_begun t ≡ true → idle_by code.ops t (stopped m) ≤ weight code.ops m
  stopped_by Fresh m e = absurd (cc)
  stopped_by Started m e = let f = stopped_is m in omega arith
  stopped_by Ended m e = omega arith

  stopped_weight : (m : Machine) → has_begun m.env.links.stage ≡ true → W (Some (stopped m)) ≤ weight code.ops m
  stopped_weight m t = stopped_by m.env.links.stage m t

  stopped_kept : (t : Stage) (m : Machine) → has_begun t ≡ true → Kept code routines m → IdlesBy code routines t (stopped m)
  stopped_kept Fresh m e k = absurd (cc)
  stopped_kept Started m e k = record { run = k.run; callers = k.callers }
  stopped_kept Ended m e k = tt

  stopped_idles : (m : Machine) → has_begun m.env.links.stage ≡ true → Kept code routines m → Idles code routines (Some (stopped m))
  stopped_idles m t k = stopped_kept m.env.links.stage m t k

  -- what goes on holds as it did, whatever it is to be unwound for
  raised_holds : (x y : Ex) → y.callers ≡ x.callers → y.run.control ≡ x.run.control → y.run.handles ≡ x.run.handles → y.run.counts ≡ x.run.counts → HasStopped code routines x → HasStopped code routines y
  raised_holds x y c p e f h = record {
    run = subst (λ us. Holds code routines y.run.control y.run us) (sym c)
        (subst (λ at. Holds code routines at y.run x.callers) (sym p) (holds_moved code routines x.run.control x.run.control x.run y.run x.callers e (λ t i. i) h.run));
    callers = rw c h.callers;
  }

  fresh_holds : (x : Ex) (m : Machine) → IsFresh code routines x → HasStopped code routines x
  fresh_holds x m h =
      let k = first_kept code routines (record { run = x.run; callers = x.callers; env = m.env }) h.callers h.handles in
      record { run = k.run; callers = k.callers }

  -- one that has begun goes on in the place of one that stops, or has ended

  started_idle : (x : Ex) → x.links.stage ≡ Started → W (Some x) ≡ weight_of code.ops x
  started_idle x t = rw t refl

  started_kept : (x : Ex) → x.links.stage ≡ Started → Idles code routines (Some x) → HasStopped code routines x
  started_kept x t h = subst (λ s. IdlesBy code routines s x) t h

  fresh_kept : (x : Ex) → x.links.stage ≡ Fresh → Idles code routines (Some x) → IsFresh code routines x
  fresh_kept x t h = subst (λ s. IdlesBy code routines s x) t h

  pub goes_on : (k : Exec) (x y : Ex) (m : Machine) (w : ℕ) → parked_at k m.env ≡ Some x → x.links.stage ≡ Started → y.callers ≡ x.callers → y.run.control ≡ x.run.control → y.run.handles ≡ x.run.handles → y.run.counts ≡ x.run.counts → weight_of code.ops y ≡ weight_of code.ops x → y.links.stage ≡ Started → Within code routines (Goes code routines) w m → Within code routines (Goes code routines) w (switched k y m)
  goes_on k x y m w f s c p e g q t h =
      let a = h.is.0 in
      let b = h.fits in
      let u = stopped_weight m h.begun in
      let v = started_idle x s in
      let l : weight_of code.ops x + idle code.ops m.env + W (Some (stopped m)) < w + W (Some x) = omega arith in
      shift k x y (stopped m) m w f h.others (stopped_idles m h.begun h.is.1) q t (raised_holds x y c p e g (started_kept x s (found_idles k m.env x f h.others))) l

  -- one whose main begins, where there is room
  begins : (k : Exec) (x y : Ex) (m : Machine) (w : ℕ) → parked_at k m.env ≡ Some x → x.links.stage ≡ Fresh → y.callers ≡ x.callers → y.run.control ≡ x.run.control → y.run.handles ≡ x.run.handles → y.run.counts ≡ x.run.counts → weight_of code.ops y ≡ weight_of code.ops x → y.links.stage ≡ Started → (home_of m.run.handles (length m.callers) ≡ 0 → ⊥) → Within code routines (ResumesBelow code routines) w m → Within code routines (Goes code routines) w (switched k y m)
  begins k x y m w f s c p e g q t n h =
      let i = fresh_kept x s (found_idles k m.env x f h.others) in
      let a = h.is.room n in
      let b = h.fits in
      let d = i.low in
      let u = stopped_weight m h.begun in
      let l : weight_of code.ops x + idle code.ops m.env + W (Some (stopped m)) < w + W (Some x) = omega arith in
      shift k x y (stopped m) m w f h.others (stopped_idles m h.begun h.is.goes.1) q t (raised_holds x y c p e g (fresh_holds x m i)) l

  -- where the running one has ended
  pub ends_for : (k : Exec) (x y : Ex) (m : Machine) (w : ℕ) → parked_at k m.env ≡ Some x → x.links.stage ≡ Started → y.callers ≡ x.callers → y.run.control ≡ x.run.control → y.run.handles ≡ x.run.handles → y.run.counts ≡ x.run.counts → weight_of code.ops y ≡ weight_of code.ops x → y.links.stage ≡ Started → idle code.ops m.env < w → AllIdle code routines m.env → Within code routines (Goes code routines) w (switched k y (ended m))
  ends_for k x y m w f s c p e g q t l r =
      let v = started_idle x s in
      let d : weight_of code.ops x + idle code.ops (ended m).env + W (Some (stopped (ended m))) < w + W (Some x) = omega arith in
      shift k x y (stopped (ended m)) (ended m) w (ended_parked k m ∙ f) r tt q t (raised_holds x y c p e g (started_kept x s (found_idles k m.env x f r))) d

  -- a resume

  to_wake : (t : Stage) (k : Exec) (x : Ex) (m n : Machine) (w : ℕ) → x.links.stage ≡ t → parked_at k m.env ≡ Some x → (home_of m.run.handles (length m.callers) ≡ 0 → ⊥) → Within code routines (ResumesBelow code routines) w m → wake_at t k x m ≡ To n → Within code routines (Goes code routines) w n
  to_wake Fresh k x m n w s f h u e = subst (Within code routines (Goes code routines) w) (same_to e) (begins k x (record x { links = woken m.env.exec x.links }) m w f s refl refl refl refl refl refl h u)
  to_wake Started k x m n w s f h u e =
      let v : Within code routines (Goes code routines) w m = record { part = u.part; fits = u.fits; is = u.is.goes; begun = u.begun; others = u.others } in
      subst (Within code routines (Goes code routines) w) (same_to e) (goes_on k x (record x { links = woken m.env.exec x.links }) m w f s refl refl refl refl refl refl v)
  to_wake Ended k x m n w s f h u e = no_stop _ e

  to_parked : (k : Exec) (o : Option Ex) (m n : Machine) (w : ℕ) → parked_at k m.env ≡ o → (home_of m.run.handles (length m.callers) ≡ 0 → ⊥) → Within code routines (ResumesBelow code routines) w m → wake_by k o m ≡ To n → Within code routines (Goes code routines) w n
  to_parked k None m n w f h u e = no_stop _ e
  to_parked k (Some x) m n w f h u e = to_wake x.links.stage k x m n w refl f h u e

  to_one : (b : Bool) (k : Exec) (m n : Machine) (w : ℕ) → (home_of m.run.handles (length m.callers) ≡ 0 → ⊥) → Within code routines (ResumesBelow code routines) w m → (if b then Stops ResumeInUse else wake_by k (parked_at k m.env) m) ≡ To n → Within code routines (Goes code routines) w n
  to_one true k m n w h u e = no_stop _ e
  to_one false k m n w h u e = to_parked k (parked_at k m.env) m n w refl h u e

  to_own : (o : Option Exec) (m n : Machine) (w : ℕ) → (home_of m.run.handles (length m.callers) ≡ 0 → ⊥) → Within code routines (ResumesBelow code routines) w m → wake_one o m ≡ To n → Within code routines (Goes code routines) w n
  to_own None m n w h u e = no_stop _ e
  to_own (Some k) m n w h u e = to_one (exec_eq k m.env.exec) k m n w h u e

  not_zero : (n : ℕ) → nat_eq n 0 ≡ false → n ≡ 0 → ⊥
  not_zero n e q = let t : nat_eq n 0 ≡ true = eq-eqb n 0 q in absurd (cc)

  -- the one that runs is in use
  own_stops : (b : Bool) (m n : Machine) → b ≡ true → (if b then Stops ResumeInUse else wake_by m.env.exec (parked_at m.env.exec m.env) m) ≡ To n → ⊥
  own_stops true m n q e = no_stop _ e
  own_stops false m n q e = absurd (cc)

  to_resumed : (b : Bool) (m n : Machine) (w : ℕ) → nat_eq (home_of m.run.handles (length m.callers)) 0 ≡ b → Within code routines (ResumesBelow code routines) w m → wake_one (if b then Some m.env.exec else own_exec m) m ≡ To n → Within code routines (Goes code routines) w n
  to_resumed true m n w q u e = absurd (own_stops (exec_eq m.env.exec m.env.exec) m n (exec_same m.env.exec) e)
  to_resumed false m n w q u e = to_own (own_exec m) m n w (not_zero (home_of m.run.handles (length m.callers)) q) u e

  wakes_by : (b : Bool) (m n : Machine) (w : ℕ) → Within code routines (ResumesBelow code routines) w m → (if b then Stops SwitchInUnwind else wake_one (resumed m) m) ≡ To n → Within code routines (Goes code routines) w n
  wakes_by true m n w u e = no_stop _ e
  wakes_by false m n w u e = to_resumed (nat_eq (home_of m.run.handles (length m.callers)) 0) m n w refl u e

  pub wake_goes : (m n : Machine) (w : ℕ) → Within code routines (ResumesBelow code routines) w m → wake (resumed m) m ≡ To n → Within code routines (Goes code routines) w n
  wake_goes m n w u e = wakes_by (in_destruction m.env) m n w u e

  -- who may be activated

  pub record Able (m : Machine) (p : Exec × Ex) : Type 0 where
    pub there : parked_at p.0 m.env ≡ Some p.1
    pub begun : p.1.links.stage ≡ Started

  able_stage : (t : Stage) (k : Exec) (x : Ex) (m : Machine) (p : Exec × Ex) → x.links.stage ≡ t → parked_at k m.env ≡ Some x → able_at t k x ≡ Some p → Able m p
  able_stage Fresh k x m p s f e = none-some e
  able_stage Started k x m p s f e = let q : (k, x) ≡ p = some-same e in subst (Able m) q (record { there = f; begun = s })
  able_stage Ended k x m p s f e = none-some e

  able_parked : (k : Exec) (o : Option Ex) (m : Machine) (p : Exec × Ex) → parked_at k m.env ≡ o → able_by k o ≡ Some p → Able m p
  able_parked k None m p f e = none-some e
  able_parked k (Some x) m p f e = able_stage x.links.stage k x m p refl f e

  is_able : (o : Option Exec) (m : Machine) (p : Exec × Ex) → able o m.env ≡ Some p → Able m p
  is_able None m p e = none-some e
  is_able (Some k) m p e = able_parked k (parked_at k m.env) m p refl e

  suspends_to : (o : Option (Exec × Ex)) (m n : Machine) (w : ℕ) → ((p : Exec × Ex) → o ≡ Some p → Able m p) → Within code routines (Goes code routines) w m → go_on o m ≡ To n → Within code routines (Goes code routines) w n
  suspends_to None m n w a u e = no_stop _ e
  suspends_to (Some p) m n w a u e =
      let b = a p refl in
      subst (Within code routines (Goes code routines) w) (same_to e) (goes_on p.0 p.1 p.1 m w b.there b.begun refl refl refl refl refl b.begun u)

  suspend_by : (b : Bool) (m n : Machine) (w : ℕ) → Within code routines (Goes code routines) w m → (if b then Stops SwitchInUnwind else go_on (able m.env.links.resumer m.env) m) ≡ To n → Within code routines (Goes code routines) w n
  suspend_by true m n w u e = no_stop _ e
  suspend_by false m n w u e = suspends_to (able m.env.links.resumer m.env) m n w (is_able m.env.links.resumer m) u e

  pub suspend_goes : (m n : Machine) (w : ℕ) → Within code routines (Goes code routines) w m → suspend m ≡ To n → Within code routines (Goes code routines) w n
  suspend_goes m n w u e = suspend_by (in_destruction m.env) m n w u e

  -- an end

  ends_to : (o : Option (Exec × Ex)) (m n : Machine) (w : ℕ) → ((p : Exec × Ex) → o ≡ Some p → Able m p) → idle code.ops m.env < w → AllIdle code routines m.env → go_on o (ended m) ≡ To n → Within code routines (Goes code routines) w n
  ends_to None m n w a l r e = no_stop _ e
  ends_to (Some p) m n w a l r e =
      let b = a p refl in
      subst (Within code routines (Goes code routines) w) (same_to e) (ends_for p.0 p.1 p.1 m w b.there b.begun refl refl refl refl refl b.begun l r)

  or_able : (a b : Option (Exec × Ex)) (m : Machine) → ((p : Exec × Ex) → a ≡ Some p → Able m p) → ((p : Exec × Ex) → b ≡ Some p → Able m p) → (p : Exec × Ex) → or_else a b ≡ Some p → Able m p
  or_able None b m f g p e = g p e
  or_able (Some x) b m f g p e = f p e

  pub finish_goes : (m n : Machine) (w : ℕ) → idle code.ops m.env < w → AllIdle code routines m.env → finish m ≡ To n → Within code routines (Goes code routines) w n
  finish_goes m n w l r e =
      ends_to (or_else (able m.env.links.starter m.env) (able m.env.links.resumer m.env)) m n w
      (or_able (able m.env.links.starter m.env) (able m.env.links.resumer m.env) m (is_able m.env.links.starter m) (is_able m.env.links.resumer m)) l r e

  pub taken_down_goes : (m n : Machine) (w : ℕ) → idle code.ops m.env < w → AllIdle code routines m.env → taken_down m ≡ To n → Within code routines (Goes code routines) w n
  taken_down_goes m n w l r e = ends_to (able m.env.links.destroyer m.env) m n w (is_able m.env.links.destroyer m) l r e

  throws_to : (o : Option (Exec × Ex)) (m n : Machine) (w : ℕ) → ((p : Exec × Ex) → o ≡ Some p → Able m p) → idle code.ops m.env < w → AllIdle code routines m.env → throw_at o (ended m) ≡ To n → Within code routines (Goes code routines) w n
  throws_to None m n w a l r e = no_stop _ e
  throws_to (Some p) m n w a l r e =
      let b = a p refl in
      subst (Within code routines (Goes code routines) w) (same_to e)
      (ends_for p.0 p.1 (unwound_there (reason.Event UNHANDLED (pos 0) (pos 0)) p.1) m w b.there b.begun refl refl refl refl refl b.begun l r)

  pub escape_goes : (m n : Machine) (w : ℕ) → idle code.ops m.env < w → AllIdle code routines m.env → escape m ≡ To n → Within code routines (Goes code routines) w n
  escape_goes m n w l r e = throws_to (able m.env.links.resumer m.env) m n w (is_able m.env.links.resumer m) l r e

  -- the destruction of a coroutine begins

  pub within_idly : (P Q : ℕ → Machine → Type 0) (w : ℕ) (m n : Machine) → Idly code routines m.env n.env → ((v : ℕ) → P v m → Q v n) → Within code routines P w m → Within code routines Q w n
  within_idly P Q w m n i f h =
      let l = i.less in
      let g = h.fits in
      record { part = h.part; fits = omega arith; is = f h.part h.is; begun = i.stage ∙ h.begun; others = i.kept h.others }

  goes_as_it_is : (v : ℕ) (m : Machine) (e : Cells) → Goes code routines v m → Goes code routines v (record m { env = e })
  unfolding weight
  goes_as_it_is v m e g = (g.0, record { run = g.1.run; callers = g.1.callers })

  abbrev ends : Links → Links
  ends l = record l { live = false; stage = Ended }

  over_by : (b : Bool) (k : Exec) (m : Machine) (w : ℕ) → Within code routines (Goes code routines) w m → Within code routines (Goes code routines) w (record m { env = if b then record m.env { links = ends m.env.links } else change k.home (links_changed ends k.serial) m.env })
  over_by true k m w u =
      record { part = u.part; fits = u.fits; is = goes_as_it_is u.part m (record m.env { links = ends m.env.links }) u.is; begun = refl; others = u.others }
  over_by false k m w u =
      let e : Cells = change k.home (links_changed ends k.serial) m.env in
      within_idly (Goes code routines) (Goes code routines) w m (record m { env = e }) (over_idly code routines k m.env) (λ v g. goes_as_it_is v m e g) u

  live_no_more : (k : Exec) (m n : Machine) (w : ℕ) → Within code routines (Goes code routines) w m → (let x : Moved ℕ Cell = To (over k m) in x ≡ To n) → Within code routines (Goes code routines) w n
  live_no_more k m n w u e = subst (Within code routines (Goes code routines) w) (same_to e) (over_by (exec_eq k m.env.exec) k m w u)

  to_take_down : (t : Stage) (k : Exec) (x : Ex) (m n : Machine) (w : ℕ) → x.links.stage ≡ t → parked_at k m.env ≡ Some x → Within code routines (Goes code routines) w m → take_down_at t k x m ≡ To n → Within code routines (Goes code routines) w n
  to_take_down Fresh k x m n w s f u e = live_no_more k m n w u e
  to_take_down Started k x m n w s f u e =
      subst (Within code routines (Goes code routines) w) (same_to e)
      (goes_on k x (unwound_there reason.Destroyed (record x { links = record x.links { live = false; destroyer = Some m.env.exec } })) m w f s refl refl refl refl refl s u)
  to_take_down Ended k x m n w s f u e = live_no_more k m n w u e

  down_parked : (k : Exec) (o : Option Ex) (m n : Machine) (w : ℕ) → parked_at k m.env ≡ o → Within code routines (Goes code routines) w m → take_down_by k o m ≡ To n → Within code routines (Goes code routines) w n
  down_parked k None m n w f u e = subst (Within code routines (Goes code routines) w) (same_to e) u
  down_parked k (Some x) m n w f u e = to_take_down x.links.stage k x m n w refl f u e

  pub take_down_goes : (o : Option Exec) (m n : Machine) (w : ℕ) → Within code routines (Goes code routines) w m → take_down o m ≡ To n → Within code routines (Goes code routines) w n
  take_down_goes None m n w u e = subst (Within code routines (Goes code routines) w) (same_to e) u
  take_down_goes (Some k) m n w u e = down_parked k (parked_at k m.env) m n w refl u e
