-- What is done to a task is done to its parts.
use Rattle.std.proofs.Common.{◌≡◌, ℕ, ◌+◌, List, [], ◌∷◌, ◌++◌, Option, Some, None, Bool, true, false, refl, subst, ap, ◌∙◌, map}
use Rattle.std.specs.Prelude.{nat_eq, if◌then◌else◌}
use Rattle.std.proofs.Math.ListN.{get_or-map}
use Rattle.uc_machine.specs.declared.exec.Exec.{Exec}
use Rattle.uc_machine.specs.declared.exec.Home.{Home}
use Rattle.uc_machine.specs.declared.exec.Home.TheVariants.{Task, Object}
use Rattle.uc_machine.specs.declared.exec.Owner.{Owner}
use Rattle.uc_machine.specs.declared.exec.Owner.TheVariants.{Frame, Fields}
use Rattle.uc_entry.specs.declared.request.Piece.{Piece}
use Rattle.uc_machine.specs.Executions.{Activation, Execution, Links, Members, Env, exec_eq, at_depth, frame_changed, list_in, values_in, frames_in, members_at, set_members, slot_in, parked_at, change_in, change, frames_of, frames_by, frames_changed, with_frames, owned, value_at, with_owned}
use Rattle.uc_machine.specs.Switches.{slot_set, set_slot, serial_in, new_exec, one_more, born, slot_gone, gone, forgotten}
use Rattle.uc_frames.specs.StandsByParts.{Numbered, Alike, ExecutionStands, MembersStand, EnvStands}
use Rattle.uc_frames.proofs.Lists.{find_both, update_both, without_both, more_both, joined_both, at_map, frame_map}

module _ {A B V W : Type 0} (R K : Activation A V → Activation B W → Type 0) (f : W → V) where
  abbrev Ex : Execution A V → Execution B W → Type 0
  Ex = ExecutionStands R K f

  abbrev Me : Members A V → Members B W → Type 0
  Me = MembersStand R K f

  abbrev En : Env A V → Env B W → Type 0
  En = EnvStands R K f

  house_by : (b : Bool) (x : Members A V) (y : Members B W) → Me x y → Alike Me (if b then Some x else None) (if b then Some y else None)
  house_by true x y h = h
  house_by false x y h = tt

  pub members_both : (h : Home) (m : Env A V) (s : Env B W) → En m s → Alike Me (members_at h m) (members_at h s)
  members_both (Task t) m s e = rw e.own (house_by (nat_eq t s.own) m.house s.house e.house)
  members_both (Object o) m s e = find_both Me o m.hand s.hand e.hand

  slot_both : (k : ℕ) (x : Option (Members A V)) (y : Option (Members B W)) → Alike Me x y → Alike (Alike Ex) (slot_in k x) (slot_in k y)
  slot_both k None None h = tt
  slot_both k None (Some y) h = absurd h
  slot_both k (Some x) None h = absurd h
  slot_both k (Some x) (Some y) h = find_both (Alike Ex) k x.parked y.parked h.parked

  pub parked_both : (n : Exec) (m : Env A V) (s : Env B W) → En m s → Alike Ex (parked_at n m) (parked_at n s)
  parked_both n m s e = joined_both Ex _ _ (slot_both n.serial _ _ (members_both n.home m s e))

  pub env_same : (b : Bool) (m n : Env A V) (s t : Env B W) → En m s → En n t → En (if b then m else n) (if b then s else t)
  env_same true m n s t g h = g
  env_same false m n s t g h = h

  pub env_by : (b c : Bool) (m n : Env A V) (s t : Env B W) → b ≡ c → En m s → En n t → En (if b then m else n) (if c then s else t)
  env_by b c m n s t q g h = subst (λ x. En (if b then m else n) (if x then s else t)) q (env_same b m n s t g h)

  set_members_both : (h : Home) (a : Members A V) (b : Members B W) (m : Env A V) (s : Env B W) → Me a b → En m s → En (set_members h a m) (set_members h b s)
  set_members_both (Task t) a b m s g e =
      env_by (nat_eq t m.own) (nat_eq t s.own) _ _ _ _ (ap (nat_eq t) e.own)
      (record { frames = e.frames; links = e.links; exec = e.exec; own = e.own; house = g; depths = e.depths; hand = e.hand; gathered = e.gathered }) e
  set_members_both (Object o) a b m s g e =
      record { frames = e.frames; links = e.links; exec = e.exec; own = e.own; house = e.house; depths = e.depths; hand = update_both Me o a b m.hand s.hand g e.hand; gathered = e.gathered }

  change_by : (h : Home) (g : Members A V → Members A V) (k : Members B W → Members B W) (a : Option (Members A V)) (b : Option (Members B W)) (m : Env A V) (s : Env B W) → ((c : Members A V) (d : Members B W) → Me c d → Me (g c) (k d)) → Alike Me a b → En m s → En (change_in h g a m) (change_in h k b s)
  change_by h g k None None m s q r e = e
  change_by h g k None (Some b) m s q r e = absurd r
  change_by h g k (Some a) None m s q r e = absurd r
  change_by h g k (Some a) (Some b) m s q r e = set_members_both h (g a) (k b) m s (q a b r) e

  pub change_both : (h : Home) (g : Members A V → Members A V) (k : Members B W → Members B W) (m : Env A V) (s : Env B W) → ((c : Members A V) (d : Members B W) → Me c d → Me (g c) (k d)) → En m s → En (change h g m) (change h k s)
  change_both h g k m s q e = change_by h g k _ _ m s q (members_both h m s e) e

  frames_in_both : (x : Option (Execution A V)) (y : Option (Execution B W)) → Alike Ex x y → frames_in x ≡ map (map f) (frames_in y)
  frames_in_both None None h = refl
  frames_in_both None (Some y) h = absurd h
  frames_in_both (Some x) None h = absurd h
  frames_in_both (Some x) (Some y) h = h.frames

  frames_same : (b : Bool) (x y : List (List V)) (z w : List (List W)) → x ≡ map (map f) z → y ≡ map (map f) w → (if b then x else y) ≡ map (map f) (if b then z else w)
  frames_same true x y z w g h = g
  frames_same false x y z w g h = h

  frames_if : (b c : Bool) (x y : List (List V)) (z w : List (List W)) → b ≡ c → x ≡ map (map f) z → y ≡ map (map f) w → (if b then x else y) ≡ map (map f) (if c then z else w)
  frames_if b c x y z w q g h = subst (λ d. (if b then x else y) ≡ map (map f) (if d then z else w)) q (frames_same b x y z w g h)

  frames_both : (n : Exec) (m : Env A V) (s : Env B W) → En m s → frames_of n m ≡ map (map f) (frames_of n s)
  frames_both n m s e = frames_if (exec_eq n m.exec) (exec_eq n s.exec) _ _ _ _ (ap (exec_eq n) e.exec) e.frames (frames_in_both _ _ (parked_both n m s e))

  frames_by_both : (k : ℕ) (g : List (List V) → List (List V)) (j : List (List W) → List (List W)) (x : Option (Execution A V)) (y : Option (Execution B W)) → ((fs : List (List W)) → g (map (map f) fs) ≡ map (map f) (j fs)) → Alike Ex x y → (c : Members A V) (d : Members B W) → Me c d → Me (frames_by k g x c) (frames_by k j y d)
  frames_by_both k g j None None q h c d e = e
  frames_by_both k g j None (Some y) q h c d e = absurd h
  frames_by_both k g j (Some x) None q h c d e = absurd h
  frames_by_both k g j (Some x) (Some y) q h c d e =
      record { values = e.values; serial = e.serial; parked = update_both (Alike Ex) k _ _ c.parked d.parked (record { run = h.run; callers = h.callers; frames = ap g h.frames ∙ q y.frames; links = h.links }) e.parked }

  with_frames_both : (n : Exec) (g : List (List V) → List (List V)) (j : List (List W) → List (List W)) (m : Env A V) (s : Env B W) → ((fs : List (List W)) → g (map (map f) fs) ≡ map (map f) (j fs)) → En m s → En (with_frames n g m) (with_frames n j s)
  with_frames_both n g j m s q e =
      env_by (exec_eq n m.exec) (exec_eq n s.exec) _ _ _ _ (ap (exec_eq n) e.exec)
      (record { frames = ap g e.frames ∙ q s.frames; links = e.links; exec = e.exec; own = e.own; house = e.house; depths = e.depths; hand = e.hand; gathered = e.gathered })
      (change_both n.home (frames_changed n.serial g) (frames_changed n.serial j) m s (λ c d h. frames_by_both n.serial g j _ _ q (joined_both Ex _ _ (find_both (Alike Ex) n.serial c.parked d.parked h.parked)) c d h) e)

  values_both : (x : Option (Members A V)) (y : Option (Members B W)) → Alike Me x y → values_in x ≡ map f (values_in y)
  values_both None None h = refl
  values_both None (Some y) h = absurd h
  values_both (Some x) None h = absurd h
  values_both (Some x) (Some y) h = h.values

  owned_both : (o : Owner) (m : Env A V) (s : Env B W) → En m s → owned o m ≡ map f (owned o s)
  owned_both (Frame n d) m s e = ap (λ fs. list_in (at_depth fs d)) (frames_both n m s e) ∙ at_map f (frames_of n s) d
  owned_both (Fields o) m s e = values_both _ _ (find_both Me o m.hand s.hand e.hand)

  -- a read, of whatever owner
  pub value_both : (o : Owner) (k : ℕ) (d : W) (m : Env A V) (s : Env B W) → En m s → value_at o k (f d) m ≡ f (value_at o k d s)
  value_both o k d m s e = rw (owned_both o m s e) (get_or-map f (owned o s) k d)

  -- a change of what an owner holds
  pub with_owned_both : (o : Owner) (g : List V → List V) (j : List W → List W) (m : Env A V) (s : Env B W) → ((vs : List W) → g (map f vs) ≡ map f (j vs)) → En m s → En (with_owned o g m) (with_owned o j s)
  with_owned_both (Frame n d) g j m s q e = with_frames_both n (frame_changed d g) (frame_changed d j) m s (frame_map f d g j q) e
  with_owned_both (Fields o) g j m s q e =
      change_both (Object o) (λ a. record a { values = g a.values }) (λ b. record b { values = j b.values }) m s (λ c d h. record { values = ap g h.values ∙ q d.values; serial = h.serial; parked = h.parked }) e

  -- what is gathered
  pub gathered_both : (x y : Option (List Piece)) (m : Env A V) (s : Env B W) → x ≡ y → En m s → En (record m { gathered = x }) (record s { gathered = y })
  gathered_both x y m s q e =
      record { frames = e.frames; links = e.links; exec = e.exec; own = e.own; house = e.house; depths = e.depths; hand = e.hand; gathered = q }

  -- other frames and links in the running execution
  pub framed_both : (m : Env A V) (s : Env B W) (fs : List (List V)) (gs : List (List W)) (l k : Links) → fs ≡ map (map f) gs → l ≡ k → En m s → En (record m { frames = fs; links = l }) (record s { frames = gs; links = k })
  framed_both m s fs gs l k q r e =
      record { frames = q; links = r; exec = e.exec; own = e.own; house = e.house; depths = e.depths; hand = e.hand; gathered = e.gathered }

  -- what is left of an execution at a home is another
  pub slot_set_both : (k : ℕ) (x : Option (Execution A V)) (y : Option (Execution B W)) → Alike Ex x y → (c : Members A V) (d : Members B W) → Me c d → Me (slot_set k x c) (slot_set k y d)
  slot_set_both k x y g c d h = record { values = h.values; serial = h.serial; parked = update_both (Alike Ex) k x y c.parked d.parked g h.parked }

  pub set_slot_both : (n : Exec) (x : Option (Execution A V)) (y : Option (Execution B W)) (m : Env A V) (s : Env B W) → Alike Ex x y → En m s → En (set_slot n x m) (set_slot n y s)
  set_slot_both n x y m s g e = change_both n.home (slot_set n.serial x) (slot_set n.serial y) m s (slot_set_both n.serial x y g) e

  -- a new execution, and one that is no more
  serial_both : (x : Option (Members A V)) (y : Option (Members B W)) → Alike Me x y → serial_in x ≡ serial_in y
  serial_both None None h = refl
  serial_both None (Some y) h = absurd h
  serial_both (Some x) None h = absurd h
  serial_both (Some x) (Some y) h = h.serial

  pub new_exec_both : (h : Home) (m : Env A V) (s : Env B W) → En m s → new_exec h m ≡ new_exec h s
  new_exec_both h m s e = ap (λ (k : ℕ). let n : Exec = record { home = h; serial = k } in n) (serial_both _ _ (members_both h m s e))

  one_more_both : (x : Execution A V) (y : Execution B W) → Ex x y → (a : Members A V) (b : Members B W) → Me a b → Me (one_more x a) (one_more y b)
  one_more_both x y g a b q =
      record {
        values = q.values;
        serial = ap (λ k. k + 1) q.serial;
        parked = subst (λ k. Numbered (Alike Ex) (a.parked ++ (a.serial, Some x) ∷ []) (b.parked ++ (k, Some y) ∷ [])) q.serial (more_both (Alike Ex) a.serial (Some x) (Some y) a.parked b.parked g q.parked);
      }

  pub born_both : (h : Home) (x : Execution A V) (y : Execution B W) (m : Env A V) (s : Env B W) → Ex x y → En m s → En (born h x m) (born h y s)
  born_both h x y m s g e = change_both h (one_more x) (one_more y) m s (one_more_both x y g) e

  gone_both : (n : Exec) (m : Env A V) (s : Env B W) → En m s → En (gone n m) (gone n s)
  gone_both n m s e =
      change_both n.home (slot_gone n.serial) (slot_gone n.serial) m s (λ a b q. record { values = q.values; serial = q.serial; parked = without_both (Alike Ex) n.serial a.parked b.parked q.parked }) e

  pub forgotten_both : (o : Option Exec) (m : Env A V) (s : Env B W) → En m s → En (forgotten o m) (forgotten o s)
  forgotten_both None m s e = e
  forgotten_both (Some n) m s e = gone_both n m s e
