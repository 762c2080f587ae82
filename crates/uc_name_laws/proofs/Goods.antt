-- All but the activations of the running execution of a task, where something is written, and where executions are made, go and change.
use Rattle.std.proofs.Common.{◌≡◌, ℕ, Bool, true, false, List, Option, Some, None, refl, sym, subst}
use Rattle.uc_machine.specs.declared.exec.Exec.{Exec}
use Rattle.uc_machine.specs.declared.exec.Home.{Home}
use Rattle.uc_machine.specs.declared.exec.Home.TheVariants as home
use Rattle.uc_machine.specs.declared.exec.Owner.{Owner}
use Rattle.uc_machine.specs.declared.exec.Owner.TheVariants.{Frame, Fields}
use Rattle.uc_machine.specs.declared.exec.UnwindReason.{UnwindReason}
use Rattle.uc_machine.specs.declared.exec.UnwindReason.TheVariants as reason
use Rattle.uc_machine.specs.declared.exec.Stage.{Stage}
use Rattle.uc_machine.specs.declared.exec.Stage.TheVariants.{Fresh, Started, Ended}
use Rattle.uc_machine.specs.Executions.{Links, exec_eq, change, parked_at, frames_changed, frame_changed, with_owned, values_cleared}
use Rattle.uc_machine.specs.Switches as sw
use Rattle.uc_machine.specs.Switches.{Moved, To, Stops}
use Rattle.uc_machine.specs.Pieces.{Value, Number, Place, Running, Object, Nothing, State, Env, written, nought}
use Rattle.uc_name_laws.specs.Below.{Ex, IsBelow, IsNamed, FramesNamed, LinksNamed, ExNamed, EnvNamed, RunsAlone}
use Rattle.uc_name_laws.specs.NameSteps.{Named}
use Rattle.uc_name_laws.proofs.Homes.{either, change_beside}
use Rattle.uc_name_laws.proofs.Values.{named_cleared}
use Rattle.uc_name_laws.proofs.Keeping.{KeepsLinks, like, linked, owned_kept, written_kept, gone_kept, with_links_kept, enlivened_kept, same_names}
use Rattle.uc_name_laws.proofs.Running.{like_alone, owned_alone, written_alone, forgotten_alone, with_links_alone, enlivened_alone}
use Rattle.uc_name_laws.proofs.Switching.{MovedNamed, Ready, switched_named, ready}

-- who runs stays

pub owned_exec : (o : Owner) (g : List Value → List Value) (e : Env) → (with_owned o g e).exec ≡ e.exec
owned_exec (Frame n d) g e =
    let b = change_beside n.home (frames_changed n.serial (frame_changed d g)) e in
    either (λ d. d.exec ≡ e.exec) (exec_eq n e.exec) (record e { frames = frame_changed d g e.frames }) (change n.home (frames_changed n.serial (frame_changed d g)) e) refl b.exec_same
owned_exec (Fields o) g e = let b = change_beside (home.Object o) (λ m. record m { values = g m.values }) e in b.exec_same

pub written_exec : (p v : Value) (e : Env) → (written p v e).exec ≡ e.exec
written_exec (Number n) v e = refl
written_exec (Place o p) v e = owned_exec o _ e
written_exec (Running n) v e = refl
written_exec (Object o) v e = owned_exec (Fields o) _ e
written_exec Nothing v e = refl

links_exec : (g : Links → Links) (n : Exec) (e : Env) → (sw.with_links g n e).exec ≡ e.exec
links_exec g n e =
    let b = change_beside n.home (sw.links_changed g n.serial) e in
    either (λ d. d.exec ≡ e.exec) (exec_eq n e.exec) (record e { links = g e.links }) (change n.home (sw.links_changed g n.serial) e) refl b.exec_same

enlivened_exec : (o : Option Exec) (e : Env) → (sw.enlivened o e).exec ≡ e.exec
enlivened_exec None e = refl
enlivened_exec (Some n) e = links_exec (λ l. record l { live = true }) n e

forgotten_exec : (o : Option Exec) (e : Env) → (sw.forgotten o e).exec ≡ e.exec
forgotten_exec None e = refl
forgotten_exec (Some n) e = let b = change_beside n.home (sw.slot_gone n.serial) e in b.exec_same

module _ (here : Home → Bool) (sure : Bool) (serials : Home → ℕ) where
  pub record Good (e : Env) : Type 0 where
    pub env_named : EnvNamed serials here e
    pub runs : RunsAlone sure e.exec e

  made : (e d : Env) → d.exec ≡ e.exec → EnvNamed serials here d → RunsAlone sure e.exec d → Good d
  made e d x s r = record { env_named = s; runs = subst (λ n. RunsAlone sure n d) (sym x) r }

  pub good : (s : State) → Named here sure serials s → Good s.env
  good s h = record { env_named = h.names.env_named; runs = h.runs }

  -- the same, with links that name the same
  pub good_links : {e d : Env} → Good e → d.frames ≡ e.frames → LinksNamed serials d.links → d.exec ≡ e.exec → d.own ≡ e.own → d.house ≡ e.house → d.hand ≡ e.hand → Good d
  good_links {e} {d} g f l x a b c = made e d x (linked serials here g.env_named f l x a b c) (like_alone sure e.exec e d a b c g.runs)

  -- the same, with other frames
  pub good_frames : {e d : Env} → Good e → FramesNamed serials d.frames → LinksNamed serials d.links → d.exec ≡ e.exec → d.own ≡ e.own → d.house ≡ e.house → d.hand ≡ e.hand → Good d
  good_frames {e} {d} g f l x a b c =
      made e d x (like serials here g.env_named f l (subst (IsBelow serials) (sym x) g.env_named.exec_below) a b c) (like_alone sure e.exec e d a b c g.runs)

  pub good_written : (p v : Value) (e : Env) → IsNamed serials v → Good e → Good (written p v e)
  good_written p v e i g = made e _ (written_exec p v e) (written_kept serials here p v e i g.env_named) (written_alone sure e.exec p v e g.runs)

  pub good_cleared : (o : Owner) (k n : ℕ) (e : Env) → Good e → Good (with_owned o (values_cleared k n nought) e)
  good_cleared o k n e g =
      made e _ (owned_exec o (values_cleared k n nought) e) (owned_kept serials here o (values_cleared k n nought) e (λ vs h. named_cleared serials k n vs h) g.env_named) (owned_alone sure e.exec o (values_cleared k n nought) e g.runs)

  pub good_with_links : (g : Links → Links) (n : Exec) (e : Env) → KeepsLinks serials here g → Good e → Good (sw.with_links g n e)
  good_with_links g n e c h = made e _ (links_exec g n e) (with_links_kept serials here g n e c h.env_named) (with_links_alone sure e.exec g n e h.runs)

  pub good_enlivened : (o : Option Exec) (e : Env) → Good e → Good (sw.enlivened o e)
  good_enlivened o e g = made e _ (enlivened_exec o e) (enlivened_kept serials here o e g.env_named) (enlivened_alone sure e.exec o e g.runs)

  pub good_forgotten : (o : Option Exec) (e : Env) → (sure ≡ true → o ≡ Some e.exec → ⊥) → Good e → Good (sw.forgotten o e)
  good_forgotten o e not g =
      made e _ (forgotten_exec o e) (gone_kept serials here o e g.env_named) (forgotten_alone sure e.exec o e (λ h m i. let y = g.env_named.members_named h m i in y.apart) not g.runs)

  -- a coroutine is destroyed

  over_named : (n : Exec) (s : State) → Named here sure serials s → Named here sure serials (sw.over n s)
  over_named n s h =
      let g = good_with_links (λ l. record l { live = false; stage = Ended }) n s.env (λ l k. same_names serials here l (record l { live = false; stage = Ended }) refl refl refl k) (good s h) in
      record { names = record { run_named = h.names.run_named; callers_named = h.names.callers_named; env_named = g.env_named }; runs = g.runs }

  destroyed : (why : UnwindReason) (n : Exec) (x : Ex) (e : Env) → IsBelow serials e.exec → ExNamed serials x → ExNamed serials (sw.unwound_there why (record x { links = record x.links { live = false; destroyer = Some e.exec } }))
  destroyed why n x e b k = record {
    run_named = record { operands_named = k.run_named.operands_named; this_named = k.run_named.this_named; result_named = k.run_named.result_named };
    callers_named = k.callers_named;
    frames_named = k.frames_named;
    links_named = record { starter_below = k.links_named.starter_below; resumer_below = k.links_named.resumer_below; destroyer_below = b };
  }

  take_down_stage : (g : Stage) (n : Exec) (x : Ex) (s : State) → Ready here sure serials n x s.env → Named here sure serials s → MovedNamed here sure serials (sw.take_down_at g n x s)
  take_down_stage Fresh n x s r h = over_named n s h
  take_down_stage Started n x s r h =
      switched_named here sure serials n _ s (record { ex_named = destroyed reason.Destroyed n x s.env h.names.env_named.exec_below r.ex_named; below = r.below; old = r.old; stands = r.stands }) h
  take_down_stage Ended n x s r h = over_named n s h

  take_down_slot : (n : Exec) (s : State) → Named here sure serials s → (o : Option Ex) → parked_at n s.env ≡ o → MovedNamed here sure serials (sw.take_down_by n o s)
  take_down_slot n s h None i = h
  take_down_slot n s h (Some x) i = take_down_stage x.links.stage n x s (ready here sure serials n x s.env h.names.env_named i) h

  pub take_down_named : (o : Option Exec) (s : State) → Named here sure serials s → MovedNamed here sure serials (sw.take_down o s)
  take_down_named None s h = h
  take_down_named (Some n) s h = take_down_slot n s h (parked_at n s.env) refl
