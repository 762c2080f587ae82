-- Who neither builds nor destroys an object, nor has at hand that in which it is at home, does not have it at hand.
use Rattle.std.proofs.Common.{◌≡◌, ℕ, ◌⊎◌, inl, inr, List, [], ◌∷◌, Option, Some, None, refl, subst, ⊎_elim}
use Rattle.uc_tree.specs.Source.{Source}
use Rattle.uc_machine.specs.declared.exec.Exec.{Exec}
use Rattle.uc_machine.specs.declared.exec.Home.{Home}
use Rattle.uc_machine.specs.declared.exec.Home.TheVariants as home
use Rattle.uc_machine.specs.declared.exec.Stage.{Stage}
use Rattle.uc_machine.specs.declared.exec.Stage.TheVariants.{Fresh, Started, Ended}
use Rattle.uc_machine.specs.Monitors.{this_object}
use Rattle.uc_machine.specs.Pieces as piece
use Rattle.uc_machine.specs.Pieces.{Value, Object, Todo, Active, State, Env, Members}
use Rattle.uc_typing.specs.Typing.{Ty, Cell, Obj, Raw, Sig, Table}
use Rattle.uc_life_laws.specs.Things.{Few, Within, lies, inside, Base, Things, Stands, Held}
use Rattle.uc_life_laws.specs.LifeStates.{SlotBy, ParkedBy, HandBy, EnvBy}
use Rattle.uc_life_laws.specs.Knowing.{AtHand, InMaking, KnowsState}
use Rattle.uc_life_laws.proofs.Reading.{within_raw, not_whole, NoNumber, behind_number}
use Rattle.uc_life_laws.specs.Marks.{Marked}
use Rattle.uc_life_laws.specs.Rooted.{IsBase}
use Rattle.uc_life_laws.proofs.Rooted.{within_object, things_object, things_raw, things_split, stands_more, stands_split, stands_things}
use Rattle.uc_depth_laws.specs.Owing.{Ex, entering}
use Rattle.uc_life_laws.specs.AtHand.{IsAtHand, FarBy, IsFar, elsewhere, IsApartAt}
use Rattle.uc_apart_laws.specs.Clear.{HomeAt, IsClear, ClearBy, ClearEx, IsClearAt, LawClear}

-- where more is at hand, so is that in which an object is at home; and what an execution has at hand it is to clean up, or has of others
module _ (t : Table) (few : Few) (o : ℕ) where
  pub home_more : (K L : Value → Ty → Type 0) → ((w : Value) (a : Ty) → K w a → L w a) → (c : ℕ) → HomeAt t few o K c → HomeAt t few o L c
  home_more K L f c (inl s) = inl (stands_more t few K L f (Cell (Obj c)) (few.home o) s)
  home_more K L f c (inr k) = inr (f (Object o) (Raw c) k)

  pub home_split : (n : Exec) (cs : List Active) (c : ℕ) → HomeAt t few o (Things t few n cs) c → Stands t few (Marked t n cs) (Cell (Obj c)) (few.home o) ⊎ HomeAt t few o (Base few n) c
  home_split n cs c (inl s) =
      ⊎_elim (λ x. inl x) (λ x. inr (inl x)) (stands_split t few (Things t few n cs) (Marked t n cs) (Base few n) (things_split t few n cs) (Cell (Obj c)) (few.home o) s)
  home_split n cs c (inr k) = inr (inr (things_object t few n cs (Object o) (Raw c) k o refl))

module _ (t : Table) (few : Few) (places : (n : Exec) (w : Value) (b : Ty) → Base few n w b → IsBase w b) (o : ℕ) where
  held : (n : Exec) (gs : List Sig) (cs : List Active) → IsClear t few o n gs cs → (c : ℕ) → Held t few (AtHand t few n gs cs) (Obj c) (Object o) → ⊥
  held n gs cs f c (inl (lies {w = w} {a = d} (inl k) h)) = things_raw t few places n cs w d k o c h
  held n gs cs f c (inl (lies {w = w} {a = d} (inr k) h)) =
      let q = not_whole t n gs cs w d k in
      let e : Obj c ≡ Raw q.0 = within_raw t w q.0 (Object o) (Obj c) (subst (λ d. Within t w d (Object o) (Obj c)) q.1 h) in
      absurd (cc)
  held n gs cs f c (inl (inside {o = u} {c = d} m k h)) =
      let e : Object u ≡ Object o = within_object t (Object u) (Obj d) (Object o) (Obj c) o h refl in
      let same : u ≡ o = cc in
      f.1 d (inl (subst (λ (u : ℕ). Stands t few (Things t few n cs) (Cell (Obj d)) (few.home u)) same (stands_things t few n gs cs (Obj d) (few.home u) k)))
  held n gs cs f c (inr h) =
      ⊎_elim (λ k. f.1 h.1 (inr (subst (λ w. Things t few n cs w (Raw h.1)) e k))) (λ k. ⊎_elim (λ k. f.0 h.1 (subst (λ w. InMaking gs cs w (Raw h.1)) e k)) (λ k. subst NoNumber e (behind_number t n cs h.0 (Raw h.1) k)) k) h.2
    where
      e : h.0 ≡ Object o
      e = within_object t h.0 (Obj h.1) (Object o) (Obj c) o h.3 refl

  hand : (n : Exec) (gs : List Sig) (cs : List Active) → IsClear t few o n gs cs → IsAtHand t few n gs cs o → ⊥
  hand n gs cs f h = held n gs cs f h.0 h.2

  far : (g : Stage) (n : Exec) (x : Ex) → ClearBy t few o g n x → FarBy t few o g n x
  far Fresh n x f = f
  far Started n x f = λ k. hand n k.sigs (x.run ∷ x.callers) (f k)
  far Ended n x f = tt

  slot_far : (n : Exec) (x : Option Ex) → SlotBy (ClearEx t few o) n x → SlotBy (IsFar t few o) n x
  slot_far n None f = tt
  slot_far n (Some x) f = far x.links.stage n x f

  parked_far : (h : Home) (ps : List (ℕ × Option Ex)) → ParkedBy (ClearEx t few o) h ps → ParkedBy (IsFar t few o) h ps
  parked_far h [] f = tt
  parked_far h (p ∷ ps) f = (slot_far (record { home = h; serial = p.0 }) p.1 f.0, parked_far h ps f.1)

  hand_far : (ps : List (ℕ × Members)) → HandBy (ClearEx t few o) ps → HandBy (IsFar t few o) ps
  hand_far [] f = tt
  hand_far (p ∷ ps) f = (parked_far (home.Object p.0) p.1.parked f.0, hand_far ps f.1)

  env_far : (e : Env) → EnvBy (ClearEx t few o) e → EnvBy (IsFar t few o) e
  env_far e f = record { house = parked_far (home.Task e.own) e.house.parked f.house; hand = hand_far e.hand f.hand }

module _ (t : Table) (few : Few) (places : (n : Exec) (w : Value) (b : Ty) → Base few n w b → IsBase w b) (source : Source) (s : State) (k : KnowsState t few [] s) where
  apart : (todo : List Todo) → IsClearAt t few source s k todo → IsApartAt t few source s k todo
  apart (piece.EnterNow m r ∷ todo) f = λ e a. let x = f e a in (x.0, hand t few places (entering source r s) s.env.exec k.sigs (s.run ∷ s.callers) x.1, x.2)
  apart (piece.MadeNow ∷ todo) f = λ away. env_far t few places (this_object s) (elsewhere t few source s k) (f away)
  apart (piece.SpawnNow r ∷ todo) f = λ away. env_far t few places (this_object s) (elsewhere t few source s k) (f away)
  apart (piece.GoneNow ∷ todo) f = λ away. env_far t few places (this_object s) (elsewhere t few source s k) (f away)
  apart (piece.GiveUpNow ∷ todo) f = λ away. env_far t few places (this_object s) (elsewhere t few source s k) (f away)
  apart [] f = tt
  apart (p ∷ todo) f = tt

pub law_clear : LawClear
law_clear = record {
  hand = λ t few places o n gs cs f h. hand t few places o n gs cs f h;
  step = λ t few places source s k f. apart t few places source s k s.run.control f;
}
