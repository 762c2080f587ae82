-- Where the first cell of an object in a frame names the execution that has been made for it, that is a frame of who made it.
use Rattle.std.proofs.Common.{◌≡◌, ℕ, suc, ◌<◌, Bool, true, false, List, [], ◌∷◌, length, Some, refl, sym, ap, ◌∙◌, subst, arith}
use Rattle.std.specs.Prelude.{nat_eq, if◌then◌else◌, slice_index_or}
use Rattle.std.proofs.lemmas.Bool.{eqb-true}
use Rattle.uc_tree.specs.Programs.{Program}
use Rattle.uc_machine.specs.declared.exec.Exec.{Exec}
use Rattle.uc_machine.specs.declared.exec.Owner.TheVariants.{Frame, Fields}
use Rattle.uc_machine.specs.Executions.{exec_eq, at_depth, list_in, frames_in, parked_at, frame_changed, frames_changed, value_changed, change}
use Rattle.uc_machine.specs.Switches as sw
use Rattle.uc_machine.specs.Switches.{new_exec}
use Rattle.uc_machine.specs.Pieces as piece
use Rattle.uc_machine.specs.Pieces.{Link, Value, Number, Place, Running, Object, Nothing, SetUpNow, State, Env, Goes, address, at, exec_in, in_env, nought, own_exec, stored, written}
use Rattle.uc_machine.specs.Quiet as quiet
use Rattle.uc_machine.specs.Quiet.{home_at}
use Rattle.uc_name_laws.specs.NameSteps.{IsBorn}
use Rattle.uc_name_laws.proofs.Homes.{exec_self}
use Rattle.uc_state_laws.specs.Layout.{Sized}
use Rattle.uc_state_laws.specs.RoomStacks.{StackState}
use Rattle.uc_life_laws.specs.Belonging.{Belongs, frame, fields, object}
use Rattle.uc_life_laws.specs.LifeStates.{frame_at}
use Rattle.uc_life_laws.specs.Held.{Seating, IsNamedIn, NamedAt}
use Rattle.uc_life_laws.proofs.Cells.{set_length}
use Rattle.uc_life_laws.proofs.Parked.{change_exec, change_frames}
use Rattle.uc_putting_laws.specs.Putting.{Setting, PutState}
use Rattle.uc_putting_laws.specs.OwnPlaces.{OwnPlacesAt}
use Rattle.uc_putting_laws.proofs.OwnPlaces.{law_own_places}
use Rattle.uc_parts_laws.specs.Leaving.{NamesNew}
use Rattle.uc_parts_laws.specs.Naming.{NamesFirst}

-- a frame that holds what is no number is there
there_at : (fs : List (List Value)) (d k : ℕ) (x : Exec) → slice_index_or (frame_at d fs) k nought ≡ Running x → d < length fs
there_at [] d k x e = let f : nought ≡ Running x = e in absurd (cc)
there_at (y ∷ fs) d k x e = by (nat_eq d (length fs)) refl e (there_at fs d k x)
  where
    by : (b : Bool) → nat_eq d (length fs) ≡ b → slice_index_or (list_in (if b then Some y else at_depth fs d)) k nought ≡ Running x → (slice_index_or (frame_at d fs) k nought ≡ Running x → d < length fs) → d < suc (length fs)
    by true q e h = let same : d ≡ length fs = eqb-true d (length fs) q in omega (arith, same)
    by false q e h = let l = h e in omega (arith, l)

pub is_running : (v : Value) (x : Exec) → exec_in v ≡ Some x → v ≡ Running x
is_running (Running y) x e = let same : Some y ≡ Some x = e in let o : y ≡ x = cc in ap Running o
is_running (Number z) x e = absurd (cc)
is_running (Place o p) x e = absurd (cc)
is_running (Object o) x e = absurd (cc)
is_running Nothing x e = absurd (cc)

-- whose frame it is
own_frame : (g : Setting) (n m : Exec) (d : ℕ) (p : List Link) → Belongs g.few n (Place (Frame m d) p) → m ≡ n
own_frame g n m d p b = by b refl
  where
    by : {v : Value} → Belongs g.few n v → v ≡ Place (Frame m d) p → m ≡ n
    by (frame {x} {d = e} {p = q} i) h = let o : x ≡ m = cc in sym o ∙ i
    by (fields {o} {p = q} i) h = absurd (cc)
    by (object {o} i) h = absurd (cc)

module _ (program : Program) (g : Setting) (seats : Seating) (up : Exec → Bool) (s : State) (put : PutState g s) (stack : StackState (Sized program) s) (seat : (n : Exec) → IsBorn g.source s n → (seats.seat n).place ≡ s.run.this) where
  -- behind the step, at an object in a frame of who runs
  module _ (n : Exec) (b : IsBorn g.source s n) (d : ℕ) (p : List Link) (this : s.run.this ≡ Place (Frame s.env.exec d) p) where
    abbrev born : Env
    born = sw.born (home_at s.run.this s.env) (quiet.fresh b.routine s.run.this) s.env

    abbrev behind : Env
    behind = written s.run.this (Running (new_exec (home_at s.run.this s.env) s.env)) born

    abbrev framed : List (List Value)
    framed = frame_changed d (value_changed (address p) (stored (Running (new_exec (home_at s.run.this s.env) s.env))) nought) born.frames

    born_exec : born.exec ≡ s.env.exec
    born_exec = change_exec (home_at s.run.this s.env) (sw.one_more (quiet.fresh b.routine s.run.this)) s.env

    born_frames : born.frames ≡ s.env.frames
    born_frames = change_frames (home_at s.run.this s.env) (sw.one_more (quiet.fresh b.routine s.run.this)) s.env

    mine : exec_eq s.env.exec born.exec ≡ true
    mine = ap (exec_eq s.env.exec) born_exec ∙ exec_self s.env.exec

    is_written : behind ≡ record born { frames = framed }
    is_written =
        ap (λ v. written v (Running (new_exec (home_at s.run.this s.env) s.env)) born) this ∙ ap (λ (c : Bool). if c then record born { frames = framed } else change s.env.exec.home (frames_changed s.env.exec.serial (frame_changed d (value_changed (address p) (stored (Running (new_exec (home_at s.run.this s.env) s.env))) nought))) born) mine

    many : length framed ≡ suc (length s.callers)
    many = set_length born.frames d _ ∙ (ap length born_frames ∙ stack.frames)

    home : n.home ≡ s.env.exec.home
    home = ap (λ (m : Exec). m.home) b.named ∙ ap (λ v. home_at v s.env) this

    new_in : exec_in (piece.loaded s.run.this behind) ≡ Some n → IsNamedIn s.env.exec s.callers framed n s.env.exec d p
    new_in e =
        let at_frame : exec_in (slice_index_or (list_in (at_depth (if exec_eq s.env.exec born.exec then framed else frames_in (parked_at s.env.exec (record born { frames = framed }))) d)) (address p) nought) ≡ Some n = subst (λ v. exec_in (piece.loaded v (record born { frames = framed })) ≡ Some n) this (subst (λ (z : Env). exec_in (piece.loaded s.run.this z) ≡ Some n) is_written e) in
        let names : slice_index_or (frame_at d framed) (address p) nought ≡ Running n = is_running (slice_index_or (frame_at d framed) (address p) nought) n (subst (λ (c : Bool). exec_in (slice_index_or (list_in (at_depth (if c then framed else frames_in (parked_at s.env.exec (record born { frames = framed }))) d)) (address p) nought) ≡ Some n) mine at_frame) in
        let l = there_at framed d (address p) n names in
        let m = many in
        record { own = refl; home = home; frames = many; there = omega (arith, l, m); names = names }

    abbrev Behind : State
    Behind = at b.todo s.run.operands (in_env behind s)

    goes_to : (u : State) → quiet.quiet g.source s ≡ Goes u → at b.todo s.run.operands (in_env behind s) ≡ u
    goes_to u e =
        let first : quiet.act_todo g.source (SetUpNow b.main ∷ b.todo) s ≡ Goes u = subst (λ l. quiet.act_todo g.source l s ≡ Goes u) b.next e in
        let goes : Goes (at b.todo s.run.operands (in_env behind s)) ≡ Goes u = subst (λ o. quiet.set_up_step o b.todo s ≡ Goes u) b.known first in
        cc goes

    new_at : (u : State) → quiet.quiet g.source s ≡ Goes u → own_exec u ≡ Some n → NamedAt u.env.exec u.callers u.env.frames n (Place (Frame s.env.exec d) p)
    new_at u e o =
        let here : own_exec (at b.todo s.run.operands (in_env behind s)) ≡ Some n = subst (λ (v : State). own_exec v ≡ Some n) (sym (goes_to u e)) o in
        let named : IsNamedIn s.env.exec s.callers framed n s.env.exec d p = new_in here in
        let as_born : IsNamedIn born.exec s.callers framed n s.env.exec d p = subst (λ m. IsNamedIn m s.callers framed n s.env.exec d p) (sym born_exec) named in
        let written_so : NamedAt behind.exec s.callers behind.frames n (Place (Frame s.env.exec d) p) = subst (λ (z : Env). NamedAt z.exec s.callers z.frames n (Place (Frame s.env.exec d) p)) (sym is_written) as_born in
        subst (λ (v : State). NamedAt v.env.exec v.callers v.env.frames n (Place (Frame s.env.exec d) p)) (goes_to u e) written_so

  -- wherever it lies
  pub new_named : NamesFirst g.source s → NamesNew g.source seats up s
  new_named h n b u e = subst (NamedAt u.env.exec u.callers u.env.frames n) (sym (seat n b)) (by s.run.this refl (h n b u e))
    where
      own : OwnPlacesAt g.few g.source (SetUpNow b.main ∷ b.todo) s
      own = subst (λ l. OwnPlacesAt g.few g.source l s) b.next (law_own_places.states g s put)

      by : (v : Value) → s.run.this ≡ v → own_exec u ≡ Some n → NamedAt u.env.exec u.callers u.env.frames n v
      by (Place (Frame m d) p) i k =
          let o : m ≡ s.env.exec = own_frame g s.env.exec m d p (subst (Belongs g.few s.env.exec) i own) in
          subst (λ z. NamedAt u.env.exec u.callers u.env.frames n (Place (Frame z d) p)) (sym o) (new_at n b d p (i ∙ ap (λ z. Place (Frame z d) p) o) u e k)
      by (Place (Fields o) p) i k = tt
      by (Number z) i k = tt
      by (Running y) i k = tt
      by (Object o) i k = tt
      by Nothing i k = tt
