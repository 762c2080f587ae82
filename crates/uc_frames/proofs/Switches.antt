-- Switches are alike on cells and in the source, whatever relation of activations there is.
use Rattle.std.proofs.Common.{◌≡◌, ℕ, pos, List, [], ◌∷◌, ◌++◌, Option, Some, None, Bool, true, false, refl, sym, subst, ap, ◌∙◌}
use Rattle.std.specs.Prelude.{is_some, if◌then◌else◌}
use Rattle.uc_tree.specs.declared.limits.TheConstants.{UNHANDLED}
use Rattle.uc_machine.specs.declared.exec.Exec.{Exec}
use Rattle.uc_machine.specs.declared.exec.Pending.{Pending}
use Rattle.uc_machine.specs.declared.exec.UnwindReason.{UnwindReason}
use Rattle.uc_machine.specs.declared.exec.UnwindReason.TheVariants as reason
use Rattle.uc_machine.specs.declared.exec.Stage.{Stage}
use Rattle.uc_machine.specs.declared.exec.Stage.TheVariants.{Fresh, Started, Ended}
use Rattle.uc_machine.specs.Executions.{Links, Activation, Execution, Members, Env, State, exec_eq}
use Rattle.uc_machine.specs.Switches.{Moved, or_else, woken, live_in, live_at, is_live, links_by, links_changed, with_links, enlivened, set_slot, stopped, switched, able_at, able_by, able, go_on, in_destruction, wake_at, wake_by, wake_one, wake, suspend, ended, finish, unwound_there, throw_at, escape, taken_down, over, take_down_at, take_down_by, take_down}
use Rattle.uc_machine.specs.Insides.{pending_in, pending_at, raised_at}
use Rattle.uc_frames.specs.StandsByParts.{Lined, Alike, Unless, ExecutionStands, MembersStand, EnvStands, StateStands, MovedStand}
use Rattle.uc_frames.proofs.Lists.{find_both, joined_both}
use Rattle.uc_frames.proofs.Changes.{env_by, parked_both, change_both, slot_set_both, set_slot_both}

module _ {A B V W : Type 0} (R K : Activation A V → Activation B W → Type 0) (f : W → V) where
  abbrev Ex : Execution A V → Execution B W → Type 0
  Ex = ExecutionStands R K f

  abbrev Me : Members A V → Members B W → Type 0
  Me = MembersStand R K f

  abbrev En : Env A V → Env B W → Type 0
  En = EnvStands R K f

  abbrev St : State A V → State B W → Type 0
  St = StateStands R K f

  abbrev Mo : Moved A V → Moved B W → Type 0
  Mo = MovedStand R K f

  unless_of : (t : Stage) (P : Type 0) → P → Unless t P
  unless_of Fresh P p = p
  unless_of Started P p = p
  unless_of Ended P p = tt

  -- the running execution stops
  stopped_both : (m : State A V) (s : State B W) → St m s → Ex (stopped m) (stopped s)
  stopped_both m s h =
      record { run = unless_of s.env.links.stage (R m.run s.run) h.run; callers = h.callers; frames = h.env.frames; links = h.env.links }

  ended_both : (m : State A V) (s : State B W) → Lined K m.callers s.callers → En m.env s.env → Ex (stopped (ended m)) (stopped (ended s))
  ended_both m s h e =
      record { run = tt; callers = h; frames = e.frames; links = ap (λ (l : Links). record l { stage = Ended; destroyer = None }) e.links }

  ended_env : (m : State A V) (s : State B W) → En m.env s.env → En (ended m).env (ended s).env
  ended_env m s e =
      record { frames = e.frames; links = ap (λ (l : Links). record l { stage = Ended; destroyer = None }) e.links; exec = e.exec; own = e.own; house = e.house; depths = e.depths; hand = e.hand; gathered = e.gathered }

  -- another goes on
  switched_both : (n : Exec) (x : Execution A V) (y : Execution B W) (m : State A V) (s : State B W) → Ex (stopped m) (stopped s) → R x.run y.run → Ex x y → En m.env s.env → St (switched n x m) (switched n y s)
  switched_both n x y m s g r h e =
      let a : En (set_slot n None m.env) (set_slot n None s.env) = set_slot_both R K f n None None m.env s.env tt e in
      let b : En (set_slot m.env.exec (Some (stopped m)) (set_slot n None m.env)) (set_slot s.env.exec (Some (stopped s)) (set_slot n None s.env)) =
      subst (λ c. En (set_slot m.env.exec (Some (stopped m)) (set_slot n None m.env)) (set_slot c (Some (stopped s)) (set_slot n None s.env))) e.exec
      (set_slot_both R K f m.env.exec (Some (stopped m)) (Some (stopped s)) _ _ g a) in
      record { run = r; callers = h.callers; env = record { frames = h.frames; links = h.links; exec = refl; own = b.own; house = b.house; depths = b.depths; hand = b.hand; gathered = b.gathered } }

  -- who may be activated
  abbrev Pair : (Exec × Execution A V) → (Exec × Execution B W) → Type 0
  Pair p q = (p.0 ≡ q.0) × R p.1.run q.1.run × Ex p.1 q.1

  able_stage : (t : Stage) (n : Exec) (x : Execution A V) (y : Execution B W) → Unless t (R x.run y.run) → Ex x y → Alike Pair (able_at t n x) (able_at t n y)
  able_stage Fresh n x y u q = tt
  able_stage Started n x y u q = (refl, u, q)
  able_stage Ended n x y u q = tt

  able_in : (n : Exec) (a : Option (Execution A V)) (b : Option (Execution B W)) → Alike Ex a b → Alike Pair (able_by n a) (able_by n b)
  able_in n None None q = tt
  able_in n None (Some b) q = absurd q
  able_in n (Some a) None q = absurd q
  able_in n (Some a) (Some b) q =
      subst (λ t. Alike Pair (able_at t n a) (able_at b.links.stage n b)) (sym (ap (λ (l : Links). l.stage) q.links)) (able_stage b.links.stage n a b q.run q)

  able_same : (o : Option Exec) (m : Env A V) (s : Env B W) → En m s → Alike Pair (able o m) (able o s)
  able_same None m s e = tt
  able_same (Some n) m s e = able_in n _ _ (parked_both R K f n m s e)

  able_both : (o p : Option Exec) (m : Env A V) (s : Env B W) → o ≡ p → En m s → Alike Pair (able o m) (able p s)
  able_both o p m s q e = subst (λ r. Alike Pair (able o m) (able r s)) q (able_same o m s e)

  or_both : (a c : Option (Exec × Execution A V)) (b d : Option (Exec × Execution B W)) → Alike Pair a b → Alike Pair c d → Alike Pair (or_else a c) (or_else b d)
  or_both None c None d g h = h
  or_both None c (Some b) d g h = absurd g
  or_both (Some a) c None d g h = absurd g
  or_both (Some a) c (Some b) d g h = g

  go_both : (a : Option (Exec × Execution A V)) (b : Option (Exec × Execution B W)) (m : State A V) (s : State B W) → Alike Pair a b → Ex (stopped m) (stopped s) → En m.env s.env → Mo (go_on a m) (go_on b s)
  go_both None None m s q g e = refl
  go_both None (Some b) m s q g e = absurd q
  go_both (Some a) None m s q g e = absurd q
  go_both (Some a) (Some b) m s (q, r, h) g e =
      subst (λ n. St (switched a.0 a.1 m) (switched n b.1 s)) q (switched_both a.0 a.1 b.1 m s g r h e)

  moved_same : (b : Bool) (x z : Moved A V) (y w : Moved B W) → Mo x y → Mo z w → Mo (if b then x else z) (if b then y else w)
  moved_same true x z y w g h = g
  moved_same false x z y w g h = h

  moved_if : (b c : Bool) (x z : Moved A V) (y w : Moved B W) → b ≡ c → Mo x y → Mo z w → Mo (if b then x else z) (if c then y else w)
  moved_if b c x z y w q g h = subst (λ d. Mo (if b then x else z) (if d then y else w)) q (moved_same b x z y w g h)

  destruction_same : (m : Env A V) (s : Env B W) → En m s → in_destruction m ≡ in_destruction s
  destruction_same m s e = ap (λ (l : Links). is_some l.destroyer) e.links

  resumer_same : (m : Env A V) (s : Env B W) → En m s → m.links.resumer ≡ s.links.resumer
  resumer_same m s e = ap (λ (l : Links). l.resumer) e.links

  pub suspend_both : (m : State A V) (s : State B W) → St m s → Mo (suspend m) (suspend s)
  suspend_both m s h =
      moved_if (in_destruction m.env) (in_destruction s.env) _ _ _ _ (destruction_same m.env s.env h.env) refl
      (go_both _ _ m s (able_both _ _ m.env s.env (resumer_same m.env s.env h.env) h.env) (stopped_both m s h) h.env)

  -- resume
  wakes : (n : Exec) (x : Execution A V) (y : Execution B W) (m : State A V) (s : State B W) → R x.run y.run → Ex x y → St m s → St (switched n (record x { links = woken m.env.exec x.links }) m) (switched n (record y { links = woken s.env.exec y.links }) s)
  wakes n x y m s r q h =
      let l : woken m.env.exec x.links ≡ woken s.env.exec y.links = ap (λ k. woken k x.links) h.env.exec ∙ ap (woken s.env.exec) q.links in
      switched_both n _ _ m s (stopped_both m s h) r (record { run = r; callers = q.callers; frames = q.frames; links = l }) h.env

  wake_stage : (t : Stage) (n : Exec) (x : Execution A V) (y : Execution B W) (m : State A V) (s : State B W) → Unless t (R x.run y.run) → Ex x y → St m s → Mo (wake_at t n x m) (wake_at t n y s)
  wake_stage Fresh n x y m s u q h = wakes n x y m s u q h
  wake_stage Started n x y m s u q h = wakes n x y m s u q h
  wake_stage Ended n x y m s u q h = refl

  wake_in : (n : Exec) (a : Option (Execution A V)) (b : Option (Execution B W)) (m : State A V) (s : State B W) → Alike Ex a b → St m s → Mo (wake_by n a m) (wake_by n b s)
  wake_in n None None m s q h = refl
  wake_in n None (Some b) m s q h = absurd q
  wake_in n (Some a) None m s q h = absurd q
  wake_in n (Some a) (Some b) m s q h =
      subst (λ t. Mo (wake_at t n a m) (wake_at b.links.stage n b s)) (sym (ap (λ (l : Links). l.stage) q.links)) (wake_stage b.links.stage n a b m s q.run q h)

  wake_some : (o : Option Exec) (m : State A V) (s : State B W) → St m s → Mo (wake_one o m) (wake_one o s)
  wake_some None m s h = refl
  wake_some (Some n) m s h =
      moved_if (exec_eq n m.env.exec) (exec_eq n s.env.exec) _ _ _ _ (ap (exec_eq n) h.env.exec) refl
      (wake_in n _ _ m s (parked_both R K f n m.env s.env h.env) h)

  wake_same : (o : Option Exec) (m : State A V) (s : State B W) → St m s → Mo (wake o m) (wake o s)
  wake_same o m s h =
      moved_if (in_destruction m.env) (in_destruction s.env) _ _ _ _ (destruction_same m.env s.env h.env) refl (wake_some o m s h)

  pub wake_both : (o p : Option Exec) (m : State A V) (s : State B W) → o ≡ p → St m s → Mo (wake o m) (wake p s)
  wake_both o p m s q h = subst (λ r. Mo (wake o m) (wake r s)) q (wake_same o m s h)

  -- the end of a main
  pub finish_both : (m : State A V) (s : State B W) → Lined K m.callers s.callers → En m.env s.env → Mo (finish m) (finish s)
  finish_both m s h e =
      go_both _ _ (ended m) (ended s)
      (or_both _ _ _ _ (able_both _ _ m.env s.env (ap (λ (l : Links). l.starter) e.links) e) (able_both _ _ m.env s.env (resumer_same m.env s.env e) e))
      (ended_both m s h e) (ended_env m s e)

  -- who destroys a coroutine goes on
  pub taken_down_both : (m : State A V) (s : State B W) → Lined K m.callers s.callers → En m.env s.env → Mo (taken_down m) (taken_down s)
  taken_down_both m s h e =
      go_both _ _ (ended m) (ended s) (able_both _ _ m.env s.env (ap (λ (l : Links). l.destroyer) e.links) e) (ended_both m s h e) (ended_env m s e)

  -- other links of an execution that does not run, at which nothing goes on that did not before
  pub record Quieter (g : Links → Links) : Type 0 where
    pub stage : (l : Links) (x : Activation A V) (y : Activation B W) → Unless l.stage (R x y) → Unless (g l).stage (R x y)

  linked_both : (g : Links → Links) → Quieter g → (x : Execution A V) (y : Execution B W) → Ex x y → Ex (record x { links = g x.links }) (record y { links = g y.links })
  linked_both g c x y q = record { run = c.stage y.links x.run y.run q.run; callers = q.callers; frames = q.frames; links = ap g q.links }

  links_by_both : (g : Links → Links) → Quieter g → (k : ℕ) (x : Option (Execution A V)) (y : Option (Execution B W)) → Alike Ex x y → (c : Members A V) (d : Members B W) → Me c d → Me (links_by g k x c) (links_by g k y d)
  links_by_both g h k None None q c d e = e
  links_by_both g h k None (Some y) q c d e = absurd q
  links_by_both g h k (Some x) None q c d e = absurd q
  links_by_both g h k (Some x) (Some y) q c d e = slot_set_both R K f k _ _ (linked_both g h x y q) c d e

  links_both : (g : Links → Links) → Quieter g → (n : Exec) (m : Env A V) (s : Env B W) → En m s → En (with_links g n m) (with_links g n s)
  links_both g h n m s e =
      env_by R K f (exec_eq n m.exec) (exec_eq n s.exec) _ _ _ _ (ap (exec_eq n) e.exec)
      (record { frames = e.frames; links = ap g e.links; exec = e.exec; own = e.own; house = e.house; depths = e.depths; hand = e.hand; gathered = e.gathered })
      (change_both R K f n.home (links_changed g n.serial) (links_changed g n.serial) m s
      (λ c d i. links_by_both g h n.serial _ _ (joined_both Ex _ _ (find_both (Alike Ex) n.serial c.parked d.parked i.parked)) c d i) e)

  -- a coroutine is live; or its main does not begin, or go on, any more

  lives : Quieter (λ l. record l { live = true })
  lives = record { stage = λ l x y p. p }

  is_over : Quieter (λ l. record l { live = false; stage = Ended })
  is_over = record { stage = λ l x y p. tt }

  over_both : (n : Exec) (m : State A V) (s : State B W) → St m s → St (over n m) (over n s)
  over_both n m s h = record { run = h.run; callers = h.callers; env = links_both (λ l. record l { live = false; stage = Ended }) is_over n m.env s.env h.env }

  enlivened_same : (o : Option Exec) (m : Env A V) (s : Env B W) → En m s → En (enlivened o m) (enlivened o s)
  enlivened_same None m s e = e
  enlivened_same (Some n) m s e = links_both (λ l. record l { live = true }) lives n m s e

  pub enlivened_both : (o p : Option Exec) (m : Env A V) (s : Env B W) → o ≡ p → En m s → En (enlivened o m) (enlivened p s)
  enlivened_both o p m s q e = subst (λ r. En (enlivened o m) (enlivened r s)) q (enlivened_same o m s e)

  live_in_same : (x : Option (Execution A V)) (y : Option (Execution B W)) → Alike Ex x y → live_in x ≡ live_in y
  live_in_same None None q = refl
  live_in_same None (Some y) q = absurd q
  live_in_same (Some x) None q = absurd q
  live_in_same (Some x) (Some y) q = ap (λ (l : Links). l.live) q.links

  if_same : (b c x y z w : Bool) → b ≡ c → x ≡ y → z ≡ w → (if b then x else z) ≡ (if c then y else w)
  if_same b c x y z w p q r = rw (p, q, r) refl

  live_at_same : (n : Exec) (m : Env A V) (s : Env B W) → En m s → live_at n m ≡ live_at n s
  live_at_same n m s e =
      if_same (exec_eq n m.exec) (exec_eq n s.exec) _ _ _ _ (ap (exec_eq n) e.exec) (ap (λ (l : Links). l.live) e.links) (live_in_same _ _ (parked_both R K f n m s e))

  is_live_same : (o : Option Exec) (m : Env A V) (s : Env B W) → En m s → is_live o m ≡ is_live o s
  is_live_same None m s e = refl
  is_live_same (Some n) m s e = live_at_same n m s e

  pub is_live_both : (o p : Option Exec) (m : Env A V) (s : Env B W) → o ≡ p → En m s → is_live o m ≡ is_live p s
  is_live_both o p m s q e = ap (λ r. is_live r m) q ∙ is_live_same p m s e

  -- the events that are pending at an execution, and one more

  pending_in_same : (x : Option (Execution A V)) (y : Option (Execution B W)) → Alike Ex x y → pending_in x ≡ pending_in y
  pending_in_same None None q = refl
  pending_in_same None (Some y) q = absurd q
  pending_in_same (Some x) None q = absurd q
  pending_in_same (Some x) (Some y) q = ap (λ (l : Links). l.pending) q.links

  list_same : (b c : Bool) (x y z w : List Pending) → b ≡ c → x ≡ y → z ≡ w → (if b then x else z) ≡ (if c then y else w)
  list_same b c x y z w p q r = rw (p, q, r) refl

  pub pending_both : (n : Exec) (m : Env A V) (s : Env B W) → En m s → pending_at n m ≡ pending_at n s
  pending_both n m s e =
      list_same (exec_eq n m.exec) (exec_eq n s.exec) _ _ _ _ (ap (exec_eq n) e.exec) (ap (λ (l : Links). l.pending) e.links) (pending_in_same _ _ (parked_both R K f n m s e))

  pub raised_both : (n : Exec) (p : Pending) (m : Env A V) (s : Env B W) → En m s → En (raised_at n p m) (raised_at n p s)
  raised_both n p m s e = links_both (λ l. record l { pending = l.pending ++ p ∷ [] }) (record { stage = λ l x y h. h }) n m s e

  -- an activation that stands does so where there is another reason to unwind it
  module _ (raises : (m : Activation A V) (s : Activation B W) (r : Option UnwindReason) → R m s → R (record m { raised = r }) (record s { raised = r })) where
    abbrev unwinding : Exec → Execution A V → Execution A V
    unwinding n x = unwound_there reason.Destroyed (record x { links = record x.links { live = false; destroyer = Some n } })

    abbrev unwinding_there : Exec → Execution B W → Execution B W
    unwinding_there n y = unwound_there reason.Destroyed (record y { links = record y.links { live = false; destroyer = Some n } })

    take_down_stage : (t : Stage) (n : Exec) (x : Execution A V) (y : Execution B W) (m : State A V) (s : State B W) → Unless t (R x.run y.run) → Ex x y → St m s → Mo (take_down_at t n x m) (take_down_at t n y s)
    take_down_stage Fresh n x y m s u q h = over_both n m s h
    take_down_stage Started n x y m s u q h =
        let r : R (record x.run { raised = Some reason.Destroyed }) (record y.run { raised = Some reason.Destroyed }) = raises x.run y.run (Some reason.Destroyed) u in
        let l : record x.links { live = false; destroyer = Some m.env.exec } ≡ record y.links { live = false; destroyer = Some s.env.exec } =
        ap (λ k. record x.links { live = false; destroyer = Some k }) h.env.exec ∙ ap (λ (g : Links). record g { live = false; destroyer = Some s.env.exec }) q.links in
        switched_both n (unwinding m.env.exec x) (unwinding_there s.env.exec y) m s (stopped_both m s h) r
        (record { run = unless_of y.links.stage (R (record x.run { raised = Some reason.Destroyed }) (record y.run { raised = Some reason.Destroyed })) r; callers = q.callers; frames = q.frames; links = l }) h.env
    take_down_stage Ended n x y m s u q h = over_both n m s h

    take_down_in : (n : Exec) (a : Option (Execution A V)) (b : Option (Execution B W)) (m : State A V) (s : State B W) → Alike Ex a b → St m s → Mo (take_down_by n a m) (take_down_by n b s)
    take_down_in n None None m s q h = h
    take_down_in n None (Some b) m s q h = absurd q
    take_down_in n (Some a) None m s q h = absurd q
    take_down_in n (Some a) (Some b) m s q h =
        subst (λ t. Mo (take_down_at t n a m) (take_down_at b.links.stage n b s)) (sym (ap (λ (l : Links). l.stage) q.links)) (take_down_stage b.links.stage n a b m s q.run q h)

    take_down_same : (o : Option Exec) (m : State A V) (s : State B W) → St m s → Mo (take_down o m) (take_down o s)
    take_down_same None m s h = h
    take_down_same (Some n) m s h = take_down_in n _ _ m s (parked_both R K f n m.env s.env h.env) h

    pub take_down_both : (o p : Option Exec) (m : State A V) (s : State B W) → o ≡ p → St m s → Mo (take_down o m) (take_down p s)
    take_down_both o p m s q h = subst (λ r. Mo (take_down o m) (take_down r s)) q (take_down_same o m s h)

    -- an event leaves a main
    abbrev last : Option UnwindReason
    last = Some (reason.Event UNHANDLED (pos 0) (pos 0))

    throw_both : (a : Option (Exec × Execution A V)) (b : Option (Exec × Execution B W)) (m : State A V) (s : State B W) → Alike Pair a b → Ex (stopped m) (stopped s) → En m.env s.env → Mo (throw_at a m) (throw_at b s)
    throw_both None None m s q g e = refl
    throw_both None (Some b) m s q g e = absurd q
    throw_both (Some a) None m s q g e = absurd q
    throw_both (Some a) (Some b) m s (q, r, h) g e =
        let u : R (record a.1.run { raised = last }) (record b.1.run { raised = last }) = raises a.1.run b.1.run last r in
        let x : Execution A V = record a.1 { run = record a.1.run { raised = last } } in
        let y : Execution B W = record b.1 { run = record b.1.run { raised = last } } in
        subst (λ n. St (switched a.0 x m) (switched n y s)) q
        (switched_both a.0 x y m s g u (record { run = unless_of b.1.links.stage (R x.run y.run) u; callers = h.callers; frames = h.frames; links = h.links }) e)

    pub escape_both : (m : State A V) (s : State B W) → Lined K m.callers s.callers → En m.env s.env → Mo (escape m) (escape s)
    escape_both m s h e =
        throw_both _ _ (ended m) (ended s) (able_both _ _ m.env s.env (resumer_same m.env s.env e) e) (ended_both m s h e) (ended_env m s e)
