-- What mutex objects in hand hold stays, as far as it names executions, where members, executions and who runs change.
use Rattle.std.proofs.Common.{◌≡◌, ℕ, Bool, true, false, List, [], ◌∷◌, Option, Some, None, refl, sym, ◌∙◌, subst}
use Rattle.std.specs.Prelude.{pos, nat_eq, if◌then◌else◌, slice_index_or}
use Rattle.std.proofs.lemmas.Bool.{eqb-true}
use Rattle.uc_tree.specs.declared.limits.TheConstants.{UNHANDLED}
use Rattle.uc_entry.specs.declared.fault.RunFault.TheVariants.{ResumeInUse, SwitchInUnwind}
use Rattle.uc_entry.specs.Keyed.{find}
use Rattle.uc_machine.specs.declared.exec.Exec.{Exec}
use Rattle.uc_machine.specs.declared.exec.Home.{Home}
use Rattle.uc_machine.specs.declared.exec.Home.TheVariants as home
use Rattle.uc_machine.specs.declared.exec.Owner.{Owner}
use Rattle.uc_machine.specs.declared.exec.Owner.TheVariants.{Frame, Fields}
use Rattle.uc_machine.specs.declared.exec.Stage.{Stage}
use Rattle.uc_machine.specs.declared.exec.Stage.TheVariants.{Fresh, Started, Ended}
use Rattle.uc_machine.specs.declared.exec.UnwindReason.TheVariants as reason
use Rattle.uc_machine.specs.Executions.{Links, Execution, exec_eq, joined, update, members_at, set_members, change, change_in, parked_at, frames_by, frames_changed, frame_changed, value_changed, with_owned, with_frames}
use Rattle.uc_machine.specs.Switches as sw
use Rattle.uc_machine.specs.Switches.{Moved, To, Stops}
use Rattle.uc_machine.specs.Pieces.{Value, Number, Place, Running, Object, Nothing, Todo, State, Env, Members, address, nought, stored, written}
use Rattle.uc_life_laws.proofs.Cells.{either, cell_stored}

abbrev Ex : Type 0
Ex = Execution (List Todo) Value

-- cells that name an execution name it still
abbrev pub NamesStill : Members → Members → Type 0
NamesStill m n = (k : ℕ) (x : Exec) → slice_index_or m.values k nought ≡ Running x → slice_index_or n.values k nought ≡ Running x

-- so it is of each object in hand
abbrev pub HandStill : List (ℕ × Members) → List (ℕ × Members) → Type 0
HandStill [] [] = Unit {0}
HandStill (p ∷ ps) (q ∷ qs) = (q.0 ≡ p.0) × NamesStill p.1 q.1 × HandStill ps qs
HandStill [] (q ∷ qs) = ⊥
HandStill (p ∷ ps) [] = ⊥

pub hand_same : (ps : List (ℕ × Members)) → HandStill ps ps
hand_same [] = tt
hand_same (p ∷ ps) = (refl, λ k x e. e, hand_same ps)

-- of what is found there
abbrev pub FoundStill : Option Members → Option Members → Type 0
FoundStill None None = Unit {0}
FoundStill (Some m) (Some n) = NamesStill m n
FoundStill None (Some n) = ⊥
FoundStill (Some m) None = ⊥

pub found_still : (o : ℕ) (ps qs : List (ℕ × Members)) → HandStill ps qs → FoundStill (find o ps) (find o qs)
found_still o [] [] h = tt
found_still o (p ∷ ps) (q ∷ qs) h = subst (λ k. FoundStill (find o (p ∷ ps)) (if nat_eq k o then Some q.1 else find o qs)) (sym h.0) (by (nat_eq p.0 o) (found_still o ps qs h.2))
  where
    by : (b : Bool) → FoundStill (find o ps) (find o qs) → FoundStill (if b then Some p.1 else find o ps) (if b then Some q.1 else find o qs)
    by true k = h.1
    by false k = k
found_still o [] (q ∷ qs) h = absurd h
found_still o (p ∷ ps) [] h = absurd h

running_stored : (v : Value) (x : Exec) (y : Value) → y ≡ Running x → stored v y ≡ Running x
running_stored v x (Running z) e = e
running_stored v x (Number z) e = absurd (cc)
running_stored v x (Place o p) e = absurd (cc)
running_stored v x (Object o) e = absurd (cc)
running_stored v x Nothing e = absurd (cc)

-- another one under a number at which this is found
hand_updated : (o : ℕ) (n : Members) (old ps : List (ℕ × Members)) (m : Members) → find o ps ≡ Some m → NamesStill m n → HandStill old ps → HandStill old (update o n ps)
hand_updated o n [] [] m e f h = tt
hand_updated o n (q ∷ qs) (p ∷ ps) m e f h = by (nat_eq p.0 o) refl e (λ e. hand_updated o n qs ps m e f h.2)
  where
    by : (b : Bool) → nat_eq p.0 o ≡ b → (if b then Some p.1 else find o ps) ≡ Some m → (find o ps ≡ Some m → HandStill qs (update o n ps)) → HandStill (q ∷ qs) (if b then (o, n) ∷ ps else p ∷ update o n ps)
    by true i e r =
        let same : p.1 ≡ m = cc e in
        (sym (eqb-true p.0 o i) ∙ h.0, λ k x z. f k x (subst (λ (y : Members). slice_index_or y.values k nought ≡ Running x) same (h.1 k x z)), h.2)
    by false i e r = (h.0, h.1, r e)
hand_updated o n [] (p ∷ ps) m e f h = absurd h
hand_updated o n (q ∷ qs) [] m e f h = absurd h

module _ (old : List (ℕ × Members)) where
  -- a task in whose hand what these hold names still what it named
  abbrev pub Still : Env → Type 0
  Still e = HandStill old e.hand

  set_still : (h : Home) (m n : Members) (e : Env) → members_at h e ≡ Some m → NamesStill m n → Still e → Still (set_members h n e)
  set_still (home.Task t) m n e i f d = either Still (nat_eq t e.own) (record e { house = n }) e d d
  set_still (home.Object o) m n e i f d = hand_updated o n old e.hand m i f d

  change_by : (h : Home) (f : Members → Members) (o : Option Members) (e : Env) → members_at h e ≡ o → ((m : Members) → NamesStill m (f m)) → Still e → Still (change_in h f o e)
  change_by h f None e i g d = d
  change_by h f (Some m) e i g d = set_still h m (f m) e i (g m) d

  change_still : (h : Home) (f : Members → Members) (e : Env) → ((m : Members) → NamesStill m (f m)) → Still e → Still (change h f e)
  change_still h f e g d = change_by h f (members_at h e) e refl g d

  frames_values : (n : ℕ) (f : List (List Value) → List (List Value)) (o : Option Ex) (m : Members) → NamesStill m (frames_by n f o m)
  frames_values n f None m k x e = e
  frames_values n f (Some y) m k x e = e

  pub with_frames_still : (n : Exec) (f : List (List Value) → List (List Value)) (e : Env) → Still e → Still (with_frames n f e)
  with_frames_still n f e d =
      either Still (exec_eq n e.exec) (record e { frames = f e.frames }) (change n.home (frames_changed n.serial f) e) d (change_still n.home (frames_changed n.serial f) e (λ m. frames_values n.serial f (joined (find n.serial m.parked)) m) d)

  owned_still : (o : Owner) (j : ℕ) (w : Value) (e : Env) → Still e → Still (with_owned o (value_changed j (stored w) nought) e)
  owned_still (Frame n k) j w e d = with_frames_still n (frame_changed k (value_changed j (stored w) nought)) e d
  owned_still (Fields o) j w e d =
      change_still (home.Object o) (λ m. record m { values = value_changed j (stored w) nought m.values }) e (λ m k x z. cell_stored (λ y. y ≡ Running x) w (λ y i. running_stored w x y i) m.values k j z) d

  pub written_still : (v w : Value) (e : Env) → Still e → Still (written v w e)
  written_still (Number n) w e d = d
  written_still (Place o p) w e d = owned_still o (address p) w e d
  written_still (Running x) w e d = d
  written_still (Object o) w e d = owned_still (Fields o) 0 w e d
  written_still Nothing w e d = d

  -- executions are made and go, and their links change

  pub born_still : (h : Home) (x : Ex) (e : Env) → Still e → Still (sw.born h x e)
  born_still h x e d = change_still h (sw.one_more x) e (λ m k y z. z) d

  pub forgotten_still : (o : Option Exec) (e : Env) → Still e → Still (sw.forgotten o e)
  forgotten_still None e d = d
  forgotten_still (Some n) e d = change_still n.home (sw.slot_gone n.serial) e (λ m k y z. z) d

  links_values : (g : Links → Links) (n : ℕ) (o : Option Ex) (m : Members) → NamesStill m (sw.links_by g n o m)
  links_values g n None m k x e = e
  links_values g n (Some y) m k x e = e

  pub with_links_still : (g : Links → Links) (n : Exec) (e : Env) → Still e → Still (sw.with_links g n e)
  with_links_still g n e d =
      either Still (exec_eq n e.exec) (record e { links = g e.links }) (change n.home (sw.links_changed g n.serial) e) d (change_still n.home (sw.links_changed g n.serial) e (λ m. links_values g n.serial (joined (find n.serial m.parked)) m) d)

  pub enlivened_still : (o : Option Exec) (e : Env) → Still e → Still (sw.enlivened o e)
  enlivened_still None e d = d
  enlivened_still (Some n) e d = with_links_still (λ l. record l { live = true }) n e d

  slot_still : (n : Exec) (o : Option Ex) (e : Env) → Still e → Still (sw.set_slot n o e)
  slot_still n o e d = change_still n.home (sw.slot_set n.serial o) e (λ m k y z. z) d

  -- switches

  abbrev pub MovedStill : Moved (List Todo) Value → Type 0
  MovedStill (To s) = Still s.env
  MovedStill (Stops f) = Unit {0}

  switched_still : (n : Exec) (x : Ex) (s : State) → Still s.env → Still (sw.switched n x s).env
  switched_still n x s d = slot_still s.env.exec (Some (sw.stopped s)) (sw.set_slot n None s.env) (slot_still n None s.env d)

  go_on_still : (o : Option (Exec × Ex)) (s : State) → Still s.env → MovedStill (sw.go_on o s)
  go_on_still None s d = tt
  go_on_still (Some p) s d = switched_still p.0 p.1 s d

  wake_stage : (g : Stage) (n : Exec) (x : Ex) (s : State) → Still s.env → MovedStill (sw.wake_at g n x s)
  wake_stage Fresh n x s d = switched_still n (record x { links = sw.woken s.env.exec x.links }) s d
  wake_stage Started n x s d = switched_still n (record x { links = sw.woken s.env.exec x.links }) s d
  wake_stage Ended n x s d = tt

  wake_slot : (n : Exec) (o : Option Ex) (s : State) → Still s.env → MovedStill (sw.wake_by n o s)
  wake_slot n None s d = tt
  wake_slot n (Some x) s d = wake_stage x.links.stage n x s d

  wake_named : (o : Option Exec) (s : State) → Still s.env → MovedStill (sw.wake_one o s)
  wake_named None s d = tt
  wake_named (Some n) s d =
      either MovedStill (exec_eq n s.env.exec) (Stops ResumeInUse) (sw.wake_by n (parked_at n s.env) s) tt (wake_slot n (parked_at n s.env) s d)

  pub wake_still : (o : Option Exec) (s : State) → Still s.env → MovedStill (sw.wake o s)
  wake_still o s d = either MovedStill (sw.in_destruction s.env) (Stops SwitchInUnwind) (sw.wake_one o s) tt (wake_named o s d)

  pub suspend_still : (s : State) → Still s.env → MovedStill (sw.suspend s)
  suspend_still s d =
      either MovedStill (sw.in_destruction s.env) (Stops SwitchInUnwind) (sw.go_on (sw.able s.env.links.resumer s.env) s) tt (go_on_still (sw.able s.env.links.resumer s.env) s d)

  pub finish_still : (s : State) → Still s.env → MovedStill (sw.finish s)
  finish_still s d =
      go_on_still (sw.or_else (sw.able s.env.links.starter s.env) (sw.able s.env.links.resumer s.env)) (sw.ended s) d

  throw_still : (o : Option (Exec × Ex)) (s : State) → Still s.env → MovedStill (sw.throw_at o s)
  throw_still None s d = tt
  throw_still (Some p) s d = switched_still p.0 (sw.unwound_there (reason.Event UNHANDLED (pos 0) (pos 0)) p.1) s d

  pub escape_still : (s : State) → Still s.env → MovedStill (sw.escape s)
  escape_still s d = throw_still (sw.able s.env.links.resumer s.env) (sw.ended s) d

  pub taken_down_still : (s : State) → Still s.env → MovedStill (sw.taken_down s)
  taken_down_still s d = go_on_still (sw.able s.env.links.destroyer s.env) (sw.ended s) d

  over_still : (n : Exec) (s : State) → Still s.env → Still (sw.over n s).env
  over_still n s d = with_links_still (λ l. record l { live = false; stage = Ended }) n s.env d

  take_down_stage : (g : Stage) (n : Exec) (x : Ex) (s : State) → Still s.env → MovedStill (sw.take_down_at g n x s)
  take_down_stage Fresh n x s d = over_still n s d
  take_down_stage Started n x s d =
      switched_still n (sw.unwound_there reason.Destroyed (record x { links = record x.links { live = false; destroyer = Some s.env.exec } })) s d
  take_down_stage Ended n x s d = over_still n s d

  take_down_slot : (n : Exec) (o : Option Ex) (s : State) → Still s.env → MovedStill (sw.take_down_by n o s)
  take_down_slot n None s d = d
  take_down_slot n (Some x) s d = take_down_stage x.links.stage n x s d

  pub take_down_still : (o : Option Exec) (s : State) → Still s.env → MovedStill (sw.take_down o s)
  take_down_still None s d = d
  take_down_still (Some n) s d = take_down_slot n (parked_at n s.env) s d
