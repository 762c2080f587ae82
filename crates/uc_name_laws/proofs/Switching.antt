-- Names are of executions that were made where another execution goes on, and only that one runs then.
use Rattle.std.proofs.Common.{◌≡◌, ℕ, ◌<◌, Bool, true, false, List, [], ◌∷◌, Option, Some, None, refl, sym, ap, ◌∙◌, subst}
use Rattle.std.specs.Prelude.{nat_eq, if◌then◌else◌}
use Rattle.std.proofs.lemmas.Bool.{eqb-true}
use Rattle.uc_entry.specs.Keyed.{find}
use Rattle.uc_entry.specs.declared.fault.RunFault.TheVariants.{ResumeInUse, SwitchInUnwind}
use Rattle.uc_machine.specs.declared.exec.Exec.{Exec}
use Rattle.uc_machine.specs.declared.exec.Home.{Home}
use Rattle.uc_machine.specs.declared.exec.UnwindReason.{UnwindReason}
use Rattle.uc_machine.specs.declared.exec.Stage.{Stage}
use Rattle.uc_machine.specs.declared.exec.Stage.TheVariants.{Fresh, Started, Ended}
use Rattle.uc_machine.specs.Executions.{Links, exec_eq, members_at, slot_in, parked_at}
use Rattle.uc_machine.specs.Switches as sw
use Rattle.uc_machine.specs.Switches.{Moved, To, Stops}
use Rattle.uc_machine.specs.Pieces.{Value, Todo, State, Env, Members}
use Rattle.uc_name_laws.specs.Below.{Ex, IsBelow, MaybeBelow, LinksNamed, ExNamed, SlotNamed, ParkedNamed, EnvNamed, slot_at}
use Rattle.uc_name_laws.specs.NameSteps.{Named}
use Rattle.uc_name_laws.proofs.Homes.{either, no_both, same_exec, exec_self, like_members}
use Rattle.uc_name_laws.proofs.Keeping.{like, linked, parked_named, slot_set_kept}
use Rattle.uc_name_laws.proofs.Running.{joined_some, like_alone, set_other, set_here, set_some}

module _ (serials : Home → ℕ) where
  pub found_below : (n k : ℕ) (ps : List (ℕ × Option Ex)) (y : Option Ex) → ParkedNamed serials n ps → find k ps ≡ Some y → k < n
  found_below n k [] y h e = cc
  found_below n k (p ∷ ps) y h e = by (nat_eq p.0 k) refl (found_below n k ps y h.2) e
    where
      by : (b : Bool) → nat_eq p.0 k ≡ b → (find k ps ≡ Some y → k < n) → (if b then Some p.1 else find k ps) ≡ Some y → k < n
      by true g ih e = subst (λ i. i < n) (eqb-true p.0 k g) h.0
      by false g ih e = ih e

module _ (here : Home → Bool) (sure : Bool) (serials : Home → ℕ) where
  abbrev Goes : State → Type 0
  Goes = Named here sure serials

  abbrev pub MovedNamed : Moved (List Todo) Value → Type 0
  MovedNamed (To s) = Named here sure serials s
  MovedNamed (Stops f) = Unit {0}

  -- what is there has a name of one that was made
  pub slot_below : (n : Exec) (y : Option Ex) (e : Env) → EnvNamed serials here e → slot_at n e ≡ Some y → IsBelow serials n
  slot_below n y e s i = by (members_at n.home e) refl i
    where
      by : (o : Option Members) → members_at n.home e ≡ o → slot_in n.serial o ≡ Some y → IsBelow serials n
      by None g i = cc
      by (Some m) g i =
          let x = s.members_named n.home m g in
          subst (λ k. n.serial < k) x.serial_is (found_below serials m.serial n.serial m.parked y x.parked_named i)

  -- one that may go on
  pub record Ready (n : Exec) (x : Ex) (e : Env) : Type 0 where
    pub ex_named : ExNamed serials x
    pub below : IsBelow serials n
    pub old : Ex
    pub stands : slot_at n e ≡ Some (Some old)

  abbrev pub ReadyNext : Option (Exec × Ex) → Env → Type 0
  ReadyNext None e = Unit {0}
  ReadyNext (Some p) e = Ready p.0 p.1 e

  pub ready : (n : Exec) (x : Ex) (e : Env) → EnvNamed serials here e → parked_at n e ≡ Some x → Ready n x e
  ready n x e s i =
      let j = joined_some (slot_at n e) x i in
      record {
        ex_named = subst (SlotNamed serials) i (parked_named serials here n e s);
        below = slot_below n (Some x) e s j;
        old = x;
        stands = j;
      }

  -- another is as ready
  other_ready : (n : Exec) (x y : Ex) (e : Env) → ExNamed serials y → Ready n x e → Ready n y e
  other_ready n x y e h r = record { ex_named = h; below = r.below; old = r.old; stands = r.stands }

  like_ready : (o : Option (Exec × Ex)) (e d : Env) → d.own ≡ e.own → d.house ≡ e.house → d.hand ≡ e.hand → ReadyNext o e → ReadyNext o d
  like_ready None e d a b c r = tt
  like_ready (Some p) e d a b c r = record {
    ex_named = r.ex_named;
    below = r.below;
    old = r.old;
    stands = ap (slot_in p.0.serial) (like_members p.0.home e d a b c) ∙ r.stands;
  }

  pub switched_named : (n : Exec) (x : Ex) (s : State) → Ready n x s.env → Named here sure serials s → Named here sure serials (sw.switched n x s)
  switched_named n x s r h = record {
    names = record {
      run_named = r.ex_named.run_named;
      callers_named = r.ex_named.callers_named;
      env_named = like serials here (slot_set_kept serials here s.env.exec (Some (sw.stopped s)) (sw.set_slot n None s.env) stopped_named (slot_set_kept serials here n None s.env tt h.names.env_named)) r.ex_named.frames_named r.ex_named.links_named r.below refl refl refl;
    };
    runs = like_alone sure n (sw.set_slot s.env.exec (Some (sw.stopped s)) (sw.set_slot n None s.env)) _ refl refl refl (record { alone = λ u m i. alone u m i (exec_eq m s.env.exec) refl; there = there });
  }
    where
      stopped_named : ExNamed serials (sw.stopped s)
      stopped_named = record {
        run_named = h.names.run_named;
        callers_named = h.names.callers_named;
        frames_named = h.names.env_named.frames_named;
        links_named = h.names.env_named.links_named;
      }

      alone : sure ≡ true → (m : Exec) → slot_at m (sw.set_slot s.env.exec (Some (sw.stopped s)) (sw.set_slot n None s.env)) ≡ Some None → (b : Bool) → exec_eq m s.env.exec ≡ b → m ≡ n
      alone u m i true g =
          absurd (set_some s.env.exec (sw.stopped s) (sw.set_slot n None s.env) (sym (ap (λ k. slot_at k (sw.set_slot s.env.exec (Some (sw.stopped s)) (sw.set_slot n None s.env))) (same_exec m s.env.exec g)) ∙ i))
      alone u m i false g = by (exec_eq m n) refl
        where
          by : (c : Bool) → exec_eq m n ≡ c → m ≡ n
          by true k = same_exec m n k
          by false k =
              let at : slot_at m s.env ≡ Some None = sym (set_other n m None s.env k) ∙ (sym (set_other s.env.exec m (Some (sw.stopped s)) (sw.set_slot n None s.env) g) ∙ i) in
              no_both (exec_eq m s.env.exec) (ap (λ k. exec_eq k s.env.exec) (h.runs.alone u m at) ∙ exec_self s.env.exec) g

      there : sure ≡ true → slot_at n (sw.set_slot s.env.exec (Some (sw.stopped s)) (sw.set_slot n None s.env)) ≡ Some None
      there u =
          set_other s.env.exec n (Some (sw.stopped s)) (sw.set_slot n None s.env) (other (exec_eq n s.env.exec) refl) ∙ set_here n None (Some r.old) s.env r.stands
        where
          other : (b : Bool) → exec_eq n s.env.exec ≡ b → exec_eq n s.env.exec ≡ false
          other true g =
              let no : Some (Some r.old) ≡ Some None = sym r.stands ∙ (ap (λ k. slot_at k s.env) (same_exec n s.env.exec g) ∙ h.runs.there u) in
              absurd (cc)
          other false g = g

  -- who may be activated

  able_stage : (g : Stage) (n : Exec) (x : Ex) (e : Env) → Ready n x e → ReadyNext (sw.able_at g n x) e
  able_stage Fresh n x e r = tt
  able_stage Started n x e r = r
  able_stage Ended n x e r = tt

  pub able_ready : (o : Option Exec) (e : Env) → EnvNamed serials here e → ReadyNext (sw.able o e) e
  able_ready None e s = tt
  able_ready (Some n) e s = by (parked_at n e) refl
    where
      by : (o : Option Ex) → parked_at n e ≡ o → ReadyNext (sw.able_by n o) e
      by None i = tt
      by (Some x) i = able_stage x.links.stage n x e (ready n x e s i)

  or_ready : (a b : Option (Exec × Ex)) (e : Env) → ReadyNext a e → ReadyNext b e → ReadyNext (sw.or_else a b) e
  or_ready None b e h k = k
  or_ready (Some p) b e h k = h

  go_on_named : (o : Option (Exec × Ex)) (s : State) → ReadyNext o s.env → Named here sure serials s → MovedNamed (sw.go_on o s)
  go_on_named None s r h = tt
  go_on_named (Some p) s r h = switched_named p.0 p.1 s r h

  woken_named : (n : Exec) (l : Links) → IsBelow serials n → LinksNamed serials l → LinksNamed serials (sw.woken n l)
  woken_named n l b h = record { starter_below = by l.starter h.starter_below; resumer_below = b; destroyer_below = h.destroyer_below }
    where
      by : (o : Option Exec) → MaybeBelow serials o → MaybeBelow serials (sw.or_else o (Some n))
      by None k = b
      by (Some m) k = k

  wakes : (n : Exec) (x : Ex) (s : State) → Ready n x s.env → Named here sure serials s → Named here sure serials (sw.switched n (record x { links = sw.woken s.env.exec x.links }) s)
  wakes n x s r h =
      switched_named n _ s (other_ready n x _ s.env (record { run_named = r.ex_named.run_named; callers_named = r.ex_named.callers_named; frames_named = r.ex_named.frames_named; links_named = woken_named s.env.exec x.links h.names.env_named.exec_below r.ex_named.links_named }) r) h

  wake_stage : (g : Stage) (n : Exec) (x : Ex) (s : State) → Ready n x s.env → Named here sure serials s → MovedNamed (sw.wake_at g n x s)
  wake_stage Fresh n x s r h = wakes n x s r h
  wake_stage Started n x s r h = wakes n x s r h
  wake_stage Ended n x s r h = tt

  wake_slot : (n : Exec) (s : State) → Named here sure serials s → (o : Option Ex) → parked_at n s.env ≡ o → MovedNamed (sw.wake_by n o s)
  wake_slot n s h None i = tt
  wake_slot n s h (Some x) i = wake_stage x.links.stage n x s (ready n x s.env h.names.env_named i) h

  wake_one_named : (o : Option Exec) (s : State) → Named here sure serials s → MovedNamed (sw.wake_one o s)
  wake_one_named None s h = tt
  wake_one_named (Some n) s h = either MovedNamed (exec_eq n s.env.exec) (Stops ResumeInUse) (sw.wake_by n (parked_at n s.env) s) tt (wake_slot n s h (parked_at n s.env) refl)

  pub wake_named : (o : Option Exec) (s : State) → Named here sure serials s → MovedNamed (sw.wake o s)
  wake_named o s h = either MovedNamed (sw.in_destruction s.env) (Stops SwitchInUnwind) (sw.wake_one o s) tt (wake_one_named o s h)

  pub suspend_named : (s : State) → Named here sure serials s → MovedNamed (sw.suspend s)
  suspend_named s h = either MovedNamed (sw.in_destruction s.env) (Stops SwitchInUnwind) (sw.go_on (sw.able s.env.links.resumer s.env) s) tt (go_on_named (sw.able s.env.links.resumer s.env) s (able_ready s.env.links.resumer s.env h.names.env_named) h)

  -- the running execution has ended

  ended_named : (s : State) → Named here sure serials s → Named here sure serials (sw.ended s)
  ended_named s h = record {
    names = record {
      run_named = h.names.run_named;
      callers_named = h.names.callers_named;
      env_named = linked serials here h.names.env_named refl (record { starter_below = h.names.env_named.links_named.starter_below; resumer_below = h.names.env_named.links_named.resumer_below; destroyer_below = tt }) refl refl refl refl;
    };
    runs = like_alone sure s.env.exec s.env _ refl refl refl h.runs;
  }

  pub finish_named : (s : State) → Named here sure serials s → MovedNamed (sw.finish s)
  finish_named s h =
      go_on_named _ (sw.ended s) (like_ready (sw.or_else (sw.able s.env.links.starter s.env) (sw.able s.env.links.resumer s.env)) s.env _ refl refl refl (or_ready (sw.able s.env.links.starter s.env) (sw.able s.env.links.resumer s.env) s.env (able_ready s.env.links.starter s.env h.names.env_named) (able_ready s.env.links.resumer s.env h.names.env_named))) (ended_named s h)

  throw_named : (o : Option (Exec × Ex)) (s : State) → ReadyNext o s.env → Named here sure serials s → MovedNamed (sw.throw_at o s)
  throw_named None s r h = tt
  throw_named (Some p) s r h =
      switched_named p.0 _ s (other_ready p.0 p.1 _ s.env (unwound_named _ p.1 r.ex_named) r) h
    where
      unwound_named : (why : UnwindReason) (x : Ex) → ExNamed serials x → ExNamed serials (sw.unwound_there why x)
      unwound_named why x k = record {
        run_named = record { operands_named = k.run_named.operands_named; this_named = k.run_named.this_named; result_named = k.run_named.result_named };
        callers_named = k.callers_named;
        frames_named = k.frames_named;
        links_named = k.links_named;
      }

  pub escape_named : (s : State) → Named here sure serials s → MovedNamed (sw.escape s)
  escape_named s h =
      throw_named (sw.able s.env.links.resumer s.env) (sw.ended s) (like_ready (sw.able s.env.links.resumer s.env) s.env _ refl refl refl (able_ready s.env.links.resumer s.env h.names.env_named)) (ended_named s h)

  pub taken_down_named : (s : State) → Named here sure serials s → MovedNamed (sw.taken_down s)
  taken_down_named s h =
      go_on_named (sw.able s.env.links.destroyer s.env) (sw.ended s) (like_ready (sw.able s.env.links.destroyer s.env) s.env _ refl refl refl (able_ready s.env.links.destroyer s.env h.names.env_named)) (ended_named s h)
