-- What an event is raised at that is known by its number.
use Rattle.std.proofs.Common.{◌≡◌, ℕ, inl, inr, Bool, true, false, List, [], ◌∷◌, refl, sym, ◌∙◌, subst}
use Rattle.uc_machine.specs.declared.exec.Exec.{Exec}
use Rattle.uc_machine.specs.declared.exec.Owner.TheVariants.{Frame}
use Rattle.uc_machine.specs.Executions.{others}
use Rattle.uc_machine.specs.Pieces as piece
use Rattle.uc_machine.specs.Pieces.{Link, Value, Number, Place, Running, Object, Nothing, Todo, Sort, Active, State, RaiseAtNow, further, top}
use Rattle.uc_tree.specs.Source.{CleanUp}
use Rattle.uc_typing.specs.Typing.{Ty, Cell, Obj, Raw, Name, Sig, Table}
use Rattle.uc_typing.specs.Pieces.{Ok}
use Rattle.uc_typing.specs.States.{IsObjectBy}
use Rattle.uc_life_laws.specs.Things as thing
use Rattle.uc_life_laws.specs.Things.{Few, Within, IsFor, AtField, InTodo, InStack, Marks, Base, Things, Stands, Held, Known, lies, inside, itself}
use Rattle.uc_life_laws.proofs.Reading.{behind_number}
use Rattle.uc_life_laws.specs.Knowing.{InMaking, AtHand, KnownAll}
use Rattle.uc_tasked_laws.specs.Aims.{IsAimed, LawAimed}

-- a field and an element are places

further_place : (l : Link) (v : Value) (o : ℕ) → further l v ≡ Object o → ⊥
further_place l (Number n) o e = cc
further_place l (Place w p) o e = cc
further_place l (Running x) o e = cc
further_place l (Object q) o e = cc
further_place l Nothing o e = cc

-- so nothing else lies within such an object but it itself
within_object : (t : Table) (w : Value) (a : Ty) (v : Value) (b : Ty) (o : ℕ) → Within t w a v b → v ≡ Object o → (w ≡ Object o) × (a ≡ b)
within_object t w a v b o itself e = (e, refl)
within_object t w a _ _ o (thing.field h i f) e = absurd (further_place _ _ o e)
within_object t w a _ _ o (thing.element h j l) e = absurd (further_place _ _ o e)

module _ (t : Table) (few : Few) (n : Exec) (o : ℕ) (a : Ty) where
  -- no mark is for one
  mark_none : (f : ℕ) (this : Value) (c : CleanUp) → IsFor t (Frame n f) this c (Object o) a → ⊥
  mark_none f this c (inl h) = let e = h.2 in cc
  mark_none f this c (inr h) = further_place _ this o (sym h.3)

  part_none : (f : ℕ) (this : Value) (c : CleanUp) → AtField t (Frame n f) this c (Object o) a → ⊥
  part_none f this c h = further_place _ this o (sym h.3)

  sort_none : (f : ℕ) (this : Value) (k : Sort) (X : Type 0) → (X → ⊥) → Marks (IsFor t (Frame n f) this) (AtField t (Frame n f) this) k (Object o) a X → ⊥
  sort_none f this (piece.IsClean c) X g (inl h) = mark_none f this c h
  sort_none f this (piece.IsClean c) X g (inr h) = g h
  sort_none f this (piece.IsPart c) X g (inl h) = part_none f this c h
  sort_none f this (piece.IsPart c) X g (inr h) = g h
  sort_none f this piece.Simple X g h = g h
  sort_none f this (piece.IsLoop x y z q) X g h = g h
  sort_none f this piece.IsWhole X g h = g h
  sort_none f this (piece.IsFill x y z) X g h = g h
  sort_none f this (piece.IsSweep x) X g h = g h
  sort_none f this (piece.IsGuard x) X g h = g h
  sort_none f this piece.IsFinish X g h = g h
  sort_none f this piece.IsFinishCoroutine X g h = g h

  list_none : (f : ℕ) (this : Value) (todo : List Todo) → InTodo (IsFor t (Frame n f) this) (AtField t (Frame n f) this) todo (Object o) a → ⊥
  list_none f this [] h = h
  list_none f this (p ∷ todo) h = sort_none f this (piece.sort p) _ (λ k. list_none f this todo k) h

  -- so it is what the execution has of others
  of_base : (cs : List Active) → Things t few n cs (Object o) a → Base few n (Object o) a
  of_base [] h = h
  of_base (c ∷ cs) (inl h) = absurd (list_none c.frame c.this c.control h)
  of_base (c ∷ cs) (inr h) = of_base cs h

making_raw : (gs : List Sig) (cs : List Active) (w : Value) (i : ℕ) → InMaking gs cs w (Obj i) → ⊥
making_raw gs [] w i h = h
making_raw gs (c ∷ cs) w i (inl h) = let e = h.2.1.3 in cc
making_raw gs (c ∷ cs) w i (inr h) = making_raw (others gs) cs w i h

object_is : {o q : ℕ} → Object o ≡ Object q → o ≡ q
object_is e = cc

class_is : {i c : ℕ} → Obj c ≡ Obj i → c ≡ i
class_is e = cc

module _ (t : Table) (few : Few) (n : Exec) (gs : List Sig) (cs : List Active) (i o : ℕ) where
  abbrev K : Value → Ty → Type 0
  K w a = AtHand t few n gs cs w a

  whole : (w : Value) (a : Ty) → w ≡ Object o → a ≡ Obj i → K w a → IsAimed t few n gs cs i o
  whole w a e q h = by (subst (λ w. K w (Obj i)) e (subst (K w) q h))
    where
      by : K (Object o) (Obj i) → IsAimed t few n gs cs i o
      by (inl k) = inr (inl (inl (of_base t few n o (Obj i) cs k)))
      by (inr (inl k)) = absurd (making_raw gs cs (Object o) i k)
      by (inr (inr k)) = absurd (behind_number t n cs (Object o) (Obj i) k)

  raw : (w : Value) (c : ℕ) → w ≡ Object o → c ≡ i → K w (Raw c) → IsAimed t few n gs cs i o
  raw w c e q h = by (subst (λ w. K w (Raw i)) e (subst (λ c. K w (Raw c)) q h))
    where
      by : K (Object o) (Raw i) → IsAimed t few n gs cs i o
      by (inl k) = inr (inl (inr (of_base t few n o (Raw i) cs k)))
      by (inr (inl k)) = inr (inr k)
      by (inr (inr k)) = absurd (behind_number t n cs (Object o) (Raw i) k)

  at_home : (q c : ℕ) → q ≡ o → c ≡ i → Stands t few K (Cell (Obj c)) (few.home q) → IsAimed t few n gs cs i o
  at_home q c e f h =
      inl (subst (λ q. Stands t few K (Cell (Obj i)) (few.home q)) e (subst (λ c. Stands t few K (Cell (Obj c)) (few.home q)) f h))

  stands : (b : Ty) (v : Value) → b ≡ Obj i → v ≡ Object o → Stands t few K b v → IsAimed t few n gs cs i o
  stands b v e q (lies {w} {a} k h) = let x = within_object t w a v b o h q in whole w a x.0 (x.1 ∙ e) k
  stands b v e q (inside {o = p} {c} m k h) =
      let x = within_object t (Object p) (Obj c) v b o h q in
      at_home p c (object_is x.0) (class_is (x.1 ∙ e)) k

  held : Held t few K (Obj i) (Object o) → IsAimed t few n gs cs i o
  held (inl h) = stands (Obj i) (Object o) refl refl h
  held (inr h) = let x = within_object t h.0 (Obj h.1) (Object o) (Obj i) o h.3 refl in raw h.0 h.1 x.0 (class_is x.1) h.2

is_mutex : (t : Table) (i o : ℕ) (b : Bool) → IsObjectBy t b i (Object o) → b ≡ true
is_mutex t i o true h = refl
is_mutex t i o false h = absurd h

module _ (t : Table) (few : Few) (n : Exec) (gs : List Sig) (cs : List Active) (g : Sig) (base sc : List Name) (todo : List Todo) (o : ℕ) where
  aimed : (own : List Ty) (vs : List Value) → Ok t g base sc (RaiseAtNow ∷ todo) own → KnownAll t few n (AtHand t few n gs cs) own vs → top vs ≡ Object o → (i : ℕ) × (t.tasks i ≡ true) × IsAimed t few n gs cs i o
  aimed (Obj i ∷ (a ∷ (b ∷ (d ∷ own)))) (v ∷ vs) h k e =
      let m : t.mutex i ≡ true = is_mutex t i o (t.mutex i) (subst (IsObjectBy t (t.mutex i) i) e k.0.is) in
      (i, h.0 m, held t few n gs cs i o (subst (λ v. thing.LiesIn t few n (AtHand t few n gs cs) (Obj i) v) e (k.0.held m)))
  aimed (Obj i ∷ (a ∷ (b ∷ (d ∷ own)))) [] h k e = absurd k
  aimed own vs h k e = absurd h

pub law_aimed : LawAimed
law_aimed t few s x todo control o at =
    aimed t few s.env.exec x.sigs (s.run ∷ s.callers) x.run.sig x.run.base x.run.scope todo o x.run.own s.run.operands (subst (λ l. Ok t x.run.sig x.run.base x.run.scope l x.run.own) control x.run.ok) x.run.values at
