-- What holds a task up in an object, and the events that are pending and enabled, are alike on cells and in the source.
use Rattle.std.proofs.Common.{◌≡◌, ℕ, ◌+◌, List, [], ◌∷◌, Option, Some, None, Bool, refl, ap, ◌∙◌}
use Rattle.std.specs.Prelude.{◌||◌, nat_lt}
use Rattle.std.specs.List.{list_any}
use Rattle.uc_machine.specs.declared.exec.Exec.{Exec}
use Rattle.uc_machine.specs.declared.exec.Home.TheVariants.{Task, Object}
use Rattle.uc_machine.specs.declared.exec.Pending.{Pending}
use Rattle.uc_entry.specs.Keyed.{drop_first}
use Rattle.uc_tree.specs.SiteOffers.{has_bit}
use Rattle.uc_machine.specs.Executions.{Links, Activation, Execution, Members, Env, home_eq, exec_eq}
use Rattle.uc_machine.specs.Insides.{is_engaged, has_engaged, is_held_up, is_own, oldest_enabled, without_oldest}
use Rattle.uc_frames.specs.StandsByParts.{Numbered, Alike, ExecutionStands, MembersStand, EnvStands}
use Rattle.uc_frames.proofs.Lists.{find_both}

or_same : (a b c d : Bool) → a ≡ b → c ≡ d → (a || c) ≡ (b || d)
or_same a b c d e f = ap (λ x. x || c) e ∙ ap (λ x. b || x) f

module _ {A B V W : Type 0} (R K : Activation A V → Activation B W → Type 0) (f : W → V) where
  abbrev Ex : Execution A V → Execution B W → Type 0
  Ex = ExecutionStands R K f

  abbrev Me : Members A V → Members B W → Type 0
  Me = MembersStand R K f

  abbrev En : Env A V → Env B W → Type 0
  En = EnvStands R K f

  engaged_same : (x : Option (Execution A V)) (y : Option (Execution B W)) → Alike Ex x y → is_engaged x ≡ is_engaged y
  engaged_same None None q = refl
  engaged_same None (Some y) q = absurd q
  engaged_same (Some x) None q = absurd q
  engaged_same (Some x) (Some y) q = ap (λ (l : Links). nat_lt 0 (l.mutex_calls + l.builds)) q.links

  any_same : (ps : List (ℕ × Option (Execution A V))) (qs : List (ℕ × Option (Execution B W))) → Numbered (Alike Ex) ps qs → list_any (λ p. is_engaged p.1) ps ≡ list_any (λ p. is_engaged p.1) qs
  any_same [] [] h = refl
  any_same [] (q ∷ qs) h = absurd h
  any_same (p ∷ ps) [] h = absurd h
  any_same (p ∷ ps) (q ∷ qs) h = or_same _ _ _ _ (engaged_same p.1 q.1 h.1) (any_same ps qs h.2)

  has_same : (x : Option (Members A V)) (y : Option (Members B W)) → Alike Me x y → has_engaged x ≡ has_engaged y
  has_same None None q = refl
  has_same None (Some y) q = absurd q
  has_same (Some x) None q = absurd q
  has_same (Some x) (Some y) q = any_same x.parked y.parked q.parked

  pub held_up_both : (o : ℕ) (m : Env A V) (s : Env B W) → En m s → is_held_up o m ≡ is_held_up o s
  held_up_both o m s e =
      or_same _ _ _ _ (ap (λ (n : Exec). home_eq n.home (Object o)) e.exec) (has_same _ _ (find_both Me o m.hand s.hand e.hand))

  -- in the task's own object
  pub own_held_up_both : (m : Env A V) (s : Env B W) → En m s → is_held_up m.own m ≡ is_held_up s.own s
  own_held_up_both m s e = ap (λ o. is_held_up o m) e.own ∙ held_up_both s.own m s e

  pub is_own_both : (m : Env A V) (s : Env B W) → En m s → is_own m ≡ is_own s
  is_own_both m s e =
      ap (λ (n : Exec). exec_eq n (record { home = Task m.own; serial = 0 })) e.exec ∙ ap (λ (o : ℕ). exec_eq s.exec (record { home = Task o; serial = 0 })) e.own

  -- events

  pub oldest_both : (m : Env A V) (s : Env B W) → En m s → oldest_enabled m.links ≡ oldest_enabled s.links
  oldest_both m s e = ap oldest_enabled e.links

  pub without_oldest_both : (m : Env A V) (s : Env B W) → En m s → En (without_oldest m) (without_oldest s)
  without_oldest_both m s e = record {
    frames = e.frames;
    links = ap (λ (l : Links). record l { pending = drop_first (λ (p : Pending). has_bit p.event l.enabled) l.pending }) e.links;
    exec = e.exec;
    own = e.own;
    house = e.house;
    depths = e.depths;
    hand = e.hand;
    gathered = e.gathered;
  }
