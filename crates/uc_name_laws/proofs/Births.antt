-- An execution is made: its name is none that was there.
use Rattle.std.proofs.Common.{◌≡◌, ℕ, suc, ◌+◌, ◌<◌, ◌≤◌, ◌⊎◌, inl, inr, ◌++◌, Bool, true, false, List, [], ◌∷◌, Option, Some, None, refl, sym, ap, ◌∙◌, subst, arith, ⊎_elim}
use Rattle.std.proofs.lemmas.Bool.{cases_lt}
use Rattle.std.specs.Prelude.{if◌then◌else◌}
use Rattle.uc_tree.specs.Source.{Routine}
use Rattle.uc_entry.specs.Keyed.{find}
use Rattle.uc_machine.specs.declared.exec.Exec.{Exec}
use Rattle.uc_machine.specs.declared.exec.Home.{Home}
use Rattle.uc_machine.specs.declared.exec.Home.TheVariants as home
use Rattle.uc_machine.specs.declared.exec.Owner.TheVariants.{Frame, Fields}
use Rattle.uc_machine.specs.Executions.{home_eq, members_at, change, change_in, slot_in}
use Rattle.uc_machine.specs.Switches as sw
use Rattle.uc_machine.specs.Quiet as quiet
use Rattle.uc_machine.specs.Pieces.{Value, Number, Place, Running, Object, Nothing, Todo, State, Step, Env, Members, written}
use Rattle.uc_name_laws.specs.Below.{Ex, one_more_at, IsBelow, IsNamed, FramesNamed, LinksNamed, ActiveNamed, ExNamed, ParkedNamed, MembersNamed, EnvNamed, slot_at, RunsAlone}
use Rattle.uc_name_laws.specs.NameSteps.{Named, StepNamed, Grows, LawNew}
use Rattle.uc_name_laws.proofs.Homes.{either, none_some, the_same, same_home, home_self, mapped, change_beside, change_same, change_other}
use Rattle.uc_name_laws.proofs.Values.{below_more, value_more, values_more, frames_more, links_more, active_more, all_more, parked_more, named_noughts}
use Rattle.uc_name_laws.proofs.Keeping.{more_named, more_apart}
use Rattle.uc_name_laws.proofs.Running.{born_alone}
use Rattle.uc_name_laws.proofs.Goods.{Good, good_written}
use Rattle.uc_name_laws.proofs.Switching.{found_below}
use Rattle.uc_name_laws.proofs.Steps as steps

-- behind what makes an execution with such a main
-- an execution of this name is made by a routine at a home in hand
pub record HasMade (r : Option Routine) (at : Home) (e : Env) (n : Exec) : Type 0 where
  pub routine : Routine
  pub known : r ≡ Some routine
  pub members : Members
  pub in_hand : members_at at e ≡ Some members
  pub named : n ≡ sw.new_exec at e

pub record MadeBehind (here : Home → Bool) (sure : Bool) (before : Home → ℕ) (r : Option Routine) (at : Home) (e : Env) (step : Step) : Type 0 where
  pub serials : Home → ℕ
  pub grows : Grows here before serials
  pub named : StepNamed here sure serials step
  pub born : (x : Routine) → r ≡ Some x → (m : Members) → members_at at e ≡ Some m → IsBelow serials (sw.new_exec at e)
  pub only : (n : Exec) → IsBelow serials n → IsBelow before n ⊎ HasMade r at e n

module _ (here : Home → Bool) (sure : Bool) (serials : Home → ℕ) where
  -- a home that has made one more
  module _ (h : Home) where
    pub more_at : (k : Home) → serials k ≤ one_more_at h serials k
    more_at k = either (λ n. serials k ≤ n) (home_eq k h) (suc (serials k)) (serials k) (omega arith) (omega arith)

    at_home : one_more_at h serials h ≡ suc (serials h)
    at_home = ap (λ b. if b then suc (serials h) else serials h) (home_self h)

    elsewhere : (k : Home) → home_eq k h ≡ false → one_more_at h serials k ≡ serials k
    elsewhere k f = ap (λ b. if b then suc (serials k) else serials k) f

    members_more : (k : Home) (m : Members) → home_eq k h ≡ false → MembersNamed serials k m → MembersNamed (one_more_at h serials) k m
    members_more k m f y = record {
      values_named = values_more serials (one_more_at h serials) more_at m.values y.values_named;
      parked_named = parked_more serials (one_more_at h serials) more_at m.serial m.serial (omega arith) m.parked y.parked_named;
      apart = y.apart;
      serial_is = y.serial_is ∙ sym (elsewhere k f);
    }

    members_born : (x : Ex) (m : Members) → ExNamed (one_more_at h serials) x → MembersNamed serials h m → MembersNamed (one_more_at h serials) h (sw.one_more x m)
    members_born x m i y =
        let grown : suc m.serial ≡ m.serial + 1 = omega arith in
        record {
          values_named = values_more serials (one_more_at h serials) more_at m.values y.values_named;
          parked_named = subst (λ n. ParkedNamed (one_more_at h serials) n (m.parked ++ (m.serial, Some x) ∷ [])) grown (more_named (one_more_at h serials) m.serial x m.parked i (parked_more serials (one_more_at h serials) more_at m.serial m.serial (omega arith) m.parked y.parked_named));
          apart = more_apart serials m.serial x m.parked y.parked_named y.apart;
          serial_is = sym grown ∙ (ap suc y.serial_is ∙ sym at_home);
        }

    born_named : (x : Ex) (e : Env) (m : Members) → members_at h e ≡ Some m → ExNamed (one_more_at h serials) x → EnvNamed serials here e → EnvNamed (one_more_at h serials) here (sw.born h x e)
    born_named x e m g i s =
        let b = change_beside h (sw.one_more x) e in
        record {
          frames_named = subst (FramesNamed (one_more_at h serials)) (sym b.frames_same) (frames_more serials (one_more_at h serials) more_at e.frames s.frames_named);
          links_named = subst (LinksNamed (one_more_at h serials)) (sym b.links_same) (links_more serials (one_more_at h serials) more_at e.links s.links_named);
          exec_below = subst (IsBelow (one_more_at h serials)) (sym b.exec_same) (below_more serials (one_more_at h serials) more_at e.exec s.exec_below);
          members_named = λ k y j. found k y j (home_eq k h) refl;
          away = λ k j. gone k j (home_eq k h) refl;
        }
      where
        found : (k : Home) (y : Members) → members_at k (sw.born h x e) ≡ Some y → (b : Bool) → home_eq k h ≡ b → MembersNamed (one_more_at h serials) k y
        found k y j true f =
            let same = same_home k h f in
            let there : Some (sw.one_more x m) ≡ Some y = sym (change_same h (sw.one_more x) e ∙ ap (mapped (sw.one_more x)) g) ∙ (ap (λ q. members_at q (sw.born h x e)) (sym same) ∙ j) in
            subst (λ q. MembersNamed (one_more_at h serials) q y) (sym same) (subst (MembersNamed (one_more_at h serials) h) (the_same (sw.one_more x m) y there) (members_born x m i (s.members_named h m g)))
        found k y j false f = members_more k y f (s.members_named k y (sym (change_other h k (sw.one_more x) e f) ∙ j))

        gone : (k : Home) → here k ≡ false → (b : Bool) → home_eq k h ≡ b → members_at k (sw.born h x e) ≡ None
        gone k j true f = none_some m (members_at h e) (ap (λ q. members_at q e) (sym (same_home k h f)) ∙ s.away k j) g
        gone k j false f = change_other h k (sw.one_more x) e f ∙ s.away k j

  module _ (s : State) (h : Named here sure serials s) where
    -- what is at home in no object in hand is not written
    away_written : (o : ℕ) (e : Env) (g : List Value → List Value) → members_at (home.Object o) e ≡ None → Good here sure serials e → Good here sure serials (change (home.Object o) (λ m. record m { values = g m.values }) e)
    away_written o e g n k = subst (Good here sure serials) (sym (ap (λ x. change_in (home.Object o) (λ m. record m { values = g m.values }) x e) n)) k

    -- where nothing is at the home, the name is the first there, if any
    away_good : (v : Value) (e : Env) → IsNamed serials v → members_at (quiet.home_at v e) e ≡ None → Good here sure serials e → Good here sure serials (written v (Running (sw.new_exec (quiet.home_at v e) e)) e)
    away_good (Number n) e i g k = k
    away_good (Place (Frame n d) p) e i g k = good_written here sure serials (Place (Frame n d) p) _ e first k
      where
        first : IsBelow serials (sw.new_exec n.home e)
        first = subst (λ x. sw.serial_in x < serials n.home) (sym g) (let lt = i in omega (arith, lt))
    away_good (Place (Fields o) p) e i g k = away_written o e _ g k
    away_good (Running n) e i g k = k
    away_good (Object o) e i g k = away_written o e _ g k
    away_good Nothing e i g k = k

    env : Good here sure serials s.env
    env = record { env_named = h.names.env_named; runs = h.runs }

    grows_not : Grows here serials serials
    grows_not = record { more = λ q. omega arith; same = λ q e. refl }

    -- nothing is there
    none_made : (r : Routine) (todo : List Todo) → members_at (quiet.home_at s.run.this s.env) s.env ≡ None → MadeBehind here sure serials (Some r) (quiet.home_at s.run.this s.env) s.env (quiet.set_up_at r (quiet.home_at s.run.this s.env) todo s)
    none_made r todo g =
        let same : sw.born (quiet.home_at s.run.this s.env) (quiet.fresh r s.run.this) s.env ≡ s.env = ap (λ o. change_in (quiet.home_at s.run.this s.env) (sw.one_more (quiet.fresh r s.run.this)) o s.env) g in
        record { serials = serials; grows = grows_not; named = steps.go_in here sure serials s h todo s.run.operands _ (steps.ops here sure serials s h) (subst (λ d. Good here sure serials (written s.run.this (Running (sw.new_exec (quiet.home_at s.run.this s.env) s.env)) d)) (sym same) (away_good s.run.this s.env h.names.run_named.this_named g env)); born = λ x e m f. none_some m (members_at (quiet.home_at s.run.this s.env) s.env) g f; only = λ n x. inl x }

    -- one more is made
    module _ (r : Routine) (at : Home) (m : Members) (g : members_at at s.env ≡ Some m) where
      this : IsNamed (one_more_at at serials) s.run.this
      this = value_more serials (one_more_at at serials) (more_at at) s.run.this h.names.run_named.this_named

      apart : (k : Home) → here k ≡ false → (b : Bool) → home_eq k at ≡ b → home_eq k at ≡ false
      apart k e true f = none_some m (members_at at s.env) (ap (λ q. members_at q s.env) (sym (same_home k at f)) ∙ h.names.env_named.away k e) g
      apart k e false f = f

      new : IsBelow (one_more_at at serials) (sw.new_exec at s.env)
      new =
          let y = h.names.env_named.members_named at m g in
          let old = y.serial_is in
          let grown = at_home at in
          let is : sw.serial_in (members_at at s.env) ≡ m.serial = ap sw.serial_in g in
          subst (λ n. sw.serial_in (members_at at s.env) < n) (sym grown) (omega (arith, old, is))

      fresh_named : ExNamed (one_more_at at serials) (quiet.fresh r s.run.this)
      fresh_named = record {
        run_named = record { operands_named = tt; this_named = this; result_named = tt };
        callers_named = tt;
        frames_named = (named_noughts (one_more_at at serials) r.cells, tt);
        links_named = record { starter_below = tt; resumer_below = tt; destroyer_below = tt };
      }

      born : Good here sure (one_more_at at serials) (sw.born at (quiet.fresh r s.run.this) s.env)
      born =
          let b = change_beside at (sw.one_more (quiet.fresh r s.run.this)) s.env in
          record {
            env_named = born_named at (quiet.fresh r s.run.this) s.env m g fresh_named h.names.env_named;
            runs = subst (λ n. RunsAlone sure n (sw.born at (quiet.fresh r s.run.this) s.env)) (sym b.exec_same) (born_alone sure s.env.exec at (quiet.fresh r s.run.this) s.env h.runs);
          }

      one_made : (todo : List Todo) → MadeBehind here sure serials (Some r) at s.env (quiet.set_up_at r at todo s)
      one_made todo = record {
        serials = one_more_at at serials;
        grows = record { more = more_at at; same = λ k e. elsewhere at k (apart k e (home_eq k at) refl) };
        named = steps.task here sure (one_more_at at serials) _ (run_more (active_more serials (one_more_at at serials) (more_at at) s.run h.names.run_named)) (all_more serials (one_more_at at serials) (more_at at) s.callers h.names.callers_named) (good_written here sure (one_more_at at serials) s.run.this (Running (sw.new_exec at s.env)) (sw.born at (quiet.fresh r s.run.this) s.env) new born);
        born = λ x e y f. new;
        only = λ n x. last n x (home_eq n.home at) refl;
      }
        where
          -- one that was not made before is the next one there
          last : (n : Exec) → IsBelow (one_more_at at serials) n → (b : Bool) → home_eq n.home at ≡ b → IsBelow serials n ⊎ HasMade (Some r) at s.env n
          last n x false f = inl (subst (λ k. n.serial < k) (elsewhere at n.home f) x)
          last n x true f = ⊎_elim (λ lt. inl lt) (λ le. inr (it le)) (cases_lt n.serial (serials n.home))
            where
              grown : one_more_at at serials n.home ≡ suc (serials n.home)
              grown = ap (λ b. if b then suc (serials n.home) else serials n.home) f

              it : serials n.home ≤ n.serial → HasMade (Some r) at s.env n
              it le =
                  let lt : n.serial < suc (serials n.home) = subst (λ k. n.serial < k) grown x in
                  let y = h.names.env_named.members_named at m g in
                  let place : n.home ≡ at = same_home n.home at f in
                  let count : n.serial ≡ serials n.home = omega (arith, lt, le) in
                  let number : n.serial ≡ sw.serial_in (members_at at s.env) = count ∙ (ap serials place ∙ (sym y.serial_is ∙ sym (ap sw.serial_in g))) in
                  record {
                    routine = r;
                    known = refl;
                    members = m;
                    in_hand = g;
                    named = ap (λ k. record { home = k; serial = n.serial }) place ∙ ap (λ k. record { home = at; serial = k }) number;
                  }

          run_more : ActiveNamed (one_more_at at serials) s.run → ActiveNamed (one_more_at at serials) (record s.run { control = todo; operands = s.run.operands })
          run_more a = record { operands_named = a.operands_named; this_named = a.this_named; result_named = a.result_named }

    made : (r : Routine) (todo : List Todo) → MadeBehind here sure serials (Some r) (quiet.home_at s.run.this s.env) s.env (quiet.set_up_at r (quiet.home_at s.run.this s.env) todo s)
    made r todo = by (members_at (quiet.home_at s.run.this s.env) s.env) refl
      where
        by : (o : Option Members) → members_at (quiet.home_at s.run.this s.env) s.env ≡ o → MadeBehind here sure serials (Some r) (quiet.home_at s.run.this s.env) s.env (quiet.set_up_at r (quiet.home_at s.run.this s.env) todo s)
        by None g = none_made r todo g
        by (Some m) g = one_made r (quiet.home_at s.run.this s.env) m g todo

    pub set_up : (r : Option Routine) (todo : List Todo) → MadeBehind here sure serials r (quiet.home_at s.run.this s.env) s.env (quiet.set_up_step r todo s)
    set_up None todo = record { serials = serials; grows = grows_not; named = steps.turn here sure serials s h todo; born = λ x e. cc; only = λ n x. inl x }
    set_up (Some r) todo = made r todo

-- new names

unnamed : (here : Home → Bool) (sure : Bool) (serials : Home → ℕ) (s : State) → Named here sure serials s → (h : Home) (m : Members) → members_at h s.env ≡ Some m → IsBelow serials (sw.new_exec h s.env) → ⊥
unnamed here sure serials s n h m g lt =
    let y = n.names.env_named.members_named h m g in
    let old = y.serial_is in
    let is : sw.serial_in (members_at h s.env) ≡ m.serial = ap sw.serial_in g in
    omega (arith, lt, old, is)

absent : (here : Home → Bool) (sure : Bool) (serials : Home → ℕ) (s : State) → Named here sure serials s → (h : Home) → slot_at (sw.new_exec h s.env) s.env ≡ None
absent here sure serials s n h = by (members_at h s.env) refl
  where
    in_list : (m : Members) → MembersNamed serials h m → (o : Option (Option Ex)) → find m.serial m.parked ≡ o → find m.serial m.parked ≡ None
    in_list m y None g = g
    in_list m y (Some x) g = let lt = found_below serials m.serial m.serial m.parked x y.parked_named g in absurd (omega (arith, lt))

    by : (o : Option Members) → members_at h s.env ≡ o → slot_in (sw.serial_in o) o ≡ None
    by None g = refl
    by (Some m) g = in_list m (n.names.env_named.members_named h m g) (find m.serial m.parked) refl

pub law_new : LawNew
law_new = record { unnamed = unnamed; absent = absent }
