-- What constructors have bound stays so where members, executions and links change.
use Rattle.std.proofs.Common.{◌≡◌, ℕ, ℤ, ◌∙◌, true, List, Option, Some, None, refl, sym, subst}
use Rattle.uc_machine.specs.declared.exec.Exec.{Exec}
use Rattle.uc_machine.specs.declared.exec.Home.{Home}
use Rattle.uc_machine.specs.declared.exec.Home.TheVariants as home
use Rattle.uc_machine.specs.declared.exec.Owner.{Owner}
use Rattle.uc_machine.specs.declared.exec.Owner.TheVariants.{Frame, Fields}
use Rattle.uc_machine.specs.Executions.{Links, exec_eq, change, frames_changed, frame_changed, value_changed, with_owned, with_frames}
use Rattle.uc_machine.specs.Switches as sw
use Rattle.uc_machine.specs.Pieces.{Value, Number, Place, Running, Object, Nothing, Env, Members, address, stored, nought, written}
use Rattle.uc_life_laws.proofs.Cells.{either}
use Rattle.uc_life_laws.proofs.Parked as parked
use Rattle.uc_life_laws.proofs.Parked.{Ex}
use Rattle.uc_building_laws.proofs.Memory.{FrameKeeps, FrameLoosens, same_frame, same_loose, frame_stored, frame_number, kept_both}

pub some_is : {A : Type 0} {x y : A} → Some x ≡ Some y → x ≡ y
some_is h = cc

-- a task changes, but who runs stays, and what is bound in its frames stays so
pub record Binds (e f : Env) : Type 0 where
  pub exec : f.exec ≡ e.exec
  pub frames : (d : ℕ) → FrameKeeps e.frames f.frames d

pub binds_both : {e f g : Env} → Binds e f → Binds f g → Binds e g
binds_both {e} {f} {g} h k = record {
  exec = k.exec ∙ h.exec;
  frames = λ d j. kept_both _ _ _ (h.frames d j) (k.frames d j);
}

-- and what is free stays free
pub record Keeps (e f : Env) : Type 0 where
  pub binds : Binds e f
  pub looses : (d : ℕ) → FrameLoosens e.frames f.frames d

pub keeps_both : {e f g : Env} → Keeps e f → Keeps f g → Keeps e g
keeps_both {e} {f} {g} h k = record { binds = binds_both h.binds k.binds; looses = λ d j x. k.looses d j (h.looses d j x) }

-- with the same frames
pub keeps_like : {e f : Env} → f.exec ≡ e.exec → f.frames ≡ e.frames → Keeps e f
keeps_like {e} {f} x q = record {
  binds = record { exec = x; frames = λ d. subst (λ fs. FrameKeeps e.frames fs d) (sym q) (same_frame e.frames d) };
  looses = λ d. subst (λ fs. FrameLoosens e.frames fs d) (sym q) (same_loose e.frames d);
}

keeps_change : (h : Home) (f : Members → Members) (e : Env) → Keeps e (change h f e)
keeps_change h f e = keeps_like (parked.change_exec h f e) (parked.change_frames h f e)

-- writes

with_frames_binds : (n : Exec) (f : List (List Value) → List (List Value)) (e : Env) → ((fs : List (List Value)) (d : ℕ) → FrameKeeps fs (f fs) d) → Binds e (with_frames n f e)
with_frames_binds n f e same =
    either (Binds e) (exec_eq n e.exec) (record e { frames = f e.frames }) (change n.home (frames_changed n.serial f) e) (record { exec = refl; frames = same e.frames }) (keeps_change n.home (frames_changed n.serial f) e).binds

owned_binds : (o : Owner) (k : ℕ) (v : Value) (e : Env) → Binds e (with_owned o (value_changed k (stored v) nought) e)
owned_binds (Frame n d) k v e = with_frames_binds n (frame_changed d (value_changed k (stored v) nought)) e (λ fs f. frame_stored fs d k f v)
owned_binds (Fields o) k v e = (keeps_change (home.Object o) _ e).binds

pub written_binds : (v w : Value) (e : Env) → Binds e (written v w e)
written_binds (Number n) w e = (keeps_like refl refl).binds
written_binds (Place o p) w e = owned_binds o (address p) w e
written_binds (Running x) w e = (keeps_like refl refl).binds
written_binds (Object o) w e = owned_binds (Fields o) 0 w e
written_binds Nothing w e = (keeps_like refl refl).binds

-- of numbers

with_frames_looses : (n : Exec) (f : List (List Value) → List (List Value)) (e : Env) → ((fs : List (List Value)) (d : ℕ) → FrameLoosens fs (f fs) d) → (d : ℕ) → FrameLoosens e.frames (with_frames n f e).frames d
with_frames_looses n f e same d =
    either (λ x. FrameLoosens e.frames x.frames d) (exec_eq n e.exec) (record e { frames = f e.frames }) (change n.home (frames_changed n.serial f) e) (same e.frames d) ((keeps_change n.home (frames_changed n.serial f) e).looses d)

owned_looses : (o : Owner) (k : ℕ) (z : ℤ) (e : Env) (d : ℕ) → FrameLoosens e.frames (with_owned o (value_changed k (stored (Number z)) nought) e).frames d
owned_looses (Frame n c) k z e d = with_frames_looses n (frame_changed c (value_changed k (stored (Number z)) nought)) e (λ fs f. frame_number fs c k f z) d
owned_looses (Fields o) k z e d = (keeps_change (home.Object o) _ e).looses d

number_looses : (v : Value) (z : ℤ) (e : Env) (d : ℕ) → FrameLoosens e.frames (written v (Number z) e).frames d
number_looses (Number n) z e d = same_loose e.frames d
number_looses (Place o p) z e d = owned_looses o (address p) z e d
number_looses (Running x) z e d = same_loose e.frames d
number_looses (Object o) z e d = owned_looses (Fields o) 0 z e d
number_looses Nothing z e d = same_loose e.frames d

pub number_keeps : (v : Value) (z : ℤ) (e : Env) → Keeps e (written v (Number z) e)
number_keeps v z e = record { binds = written_binds v (Number z) e; looses = number_looses v z e }

-- executions are made and go, and their links change

pub born_keeps : (h : Home) (x : Ex) (e : Env) → Keeps e (sw.born h x e)
born_keeps h x e = keeps_change h (sw.one_more x) e

pub forgotten_keeps : (o : Option Exec) (e : Env) → Keeps e (sw.forgotten o e)
forgotten_keeps None e = keeps_like refl refl
forgotten_keeps (Some n) e = keeps_change n.home (sw.slot_gone n.serial) e

pub links_keeps : (g : Links → Links) (n : Exec) (e : Env) → Keeps e (sw.with_links g n e)
links_keeps g n e =
    either (Keeps e) (exec_eq n e.exec) (record e { links = g e.links }) (change n.home (sw.links_changed g n.serial) e) (keeps_like refl refl) (keeps_change n.home (sw.links_changed g n.serial) e)

pub enlivened_keeps : (o : Option Exec) (e : Env) → Keeps e (sw.enlivened o e)
enlivened_keeps None e = keeps_like refl refl
enlivened_keeps (Some n) e = links_keeps (λ l. record l { live = true }) n e
