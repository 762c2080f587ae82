-- What is still to be bound of an object that is built, and that it holds what is known once nothing is.
use Rattle.std.proofs.Common.{◌≡◌, ℕ, suc, ◌⊎◌, inl, inr, Bool, true, List, [], ◌∷◌, length, refl, sym, subst}
use Rattle.std.specs.Prelude.{slice_index_or}
use Rattle.uc_tree.specs.Source as src
use Rattle.uc_tree.specs.Source.{Stmt, Stmts, CleanUp}
use Rattle.uc_machine.specs.declared.exec.Exec.{Exec}
use Rattle.uc_machine.specs.declared.exec.Owner.{Owner}
use Rattle.uc_machine.specs.declared.exec.Owner.TheVariants.{Frame}
use Rattle.uc_machine.specs.Pieces as piece
use Rattle.uc_machine.specs.Pieces.{FieldAt, Value, Place, Todo, Active, address, further, nought}
use Rattle.uc_typing.specs.Typing.{Ty, Cell, Obj, Row, Sig, Table, element_shape, IsParam, CleansAt}
use Rattle.uc_life_laws.specs.Things.{Few, IsField, Within, itself, field, element, IsUnbound, Known, Holds}
use Rattle.uc_life_laws.specs.LifeStates.{frame_at}
use Rattle.uc_building_laws.specs.Building.{IsHead, Behind, Stills, Lands, Now}
use Rattle.uc_building_laws.specs.BuildingStates.{variable, AtScope, Awaits, IsLoose, IsBuilt, IsMaking, Builds, of_wait, AllBuild}
use Rattle.uc_building_laws.proofs.Memory.{FrameKeeps, same_frame, known_kept, holds_kept}

-- parts

pub within_more : (t : Table) {u v : Value} {a b : Ty} {w : Value} {d : Ty} → Within t u a v b → Within t v b w d → Within t u a w d
within_more t h itself = h
within_more t h (field k i f) = field (within_more t h k) i f
within_more t h (element k j l) = element (within_more t h k) j l

-- a part of an object is that itself, or one of a field of it
data IsPart (t : Table) (w : Value) (c : ℕ) (v : Value) (b : Ty) : Type 0 where
  whole : v ≡ w → b ≡ Obj c → IsPart t w c v b
  of : (i : ℕ) → IsField t c i → Within t (further (FieldAt (t.shape c) i) w) (t.fields c i) v b → IsPart t w c v b

part_of : (t : Table) (w : Value) (c : ℕ) {v : Value} {b : Ty} → Within t w (Obj c) v b → IsPart t w c v b
part_of t w c itself = whole refl refl
part_of t w c (field {v} {c = d} h i f) = by (part_of t w c h)
  where
    by : IsPart t w c v (Obj d) → IsPart t w c (further (FieldAt (t.shape d) i) v) (t.fields d i)
    by (whole e q) =
        let s : d ≡ c = cc in
        of i (subst (λ c. IsField t c i) s f) (subst (λ v. Within t (further (FieldAt (t.shape c) i) w) (t.fields c i) (further (FieldAt (t.shape d) i) v) (t.fields d i)) (sym e) (subst (λ d. Within t (further (FieldAt (t.shape c) i) w) (t.fields c i) (further (FieldAt (t.shape d) i) w) (t.fields d i)) (sym s) itself))
    by (of j g k) = of j g (field k i f)
part_of t w c (element {v} {m} {b} h j l) = by (part_of t w c h)
  where
    by : IsPart t w c v (Row m b) → IsPart t w c (further (piece.At (element_shape t b) j) v) b
    by (whole e q) = absurd (cc)
    by (of k g x) = of k g (element x j l)

-- what holds what is known if something is bound in it does
pub where_bound : (t : Table) (few : Few) (n : Exec) (K : Value → Ty → Type 0) (o : Owner) (vs : List Value) (w : Value) (a : Ty) → ((IsUnbound t a → ⊥) → Holds t few n K o vs w a) → Holds t few n K o vs w a
where_bound t few n K o vs w a h p b i binds = h (λ none. none w (Place o p) b i binds) p b i binds

-- lists

pub head_more : (t : Table) (c i : ℕ) (a : Stmt) (A B : Type 0) → (A → B) → IsHead t c i a A → IsHead t c i a B
head_more t c i (src.Evaluate line e) A B f h = (h.0, f h.1)
head_more t c i (src.OfTasks (src.SetUp r)) A B f h = (h.0, f h.1)
head_more t c i a A B f h = absurd h

module _ (t : Table) (heads : ℕ → ℕ → Bool) (ps : List Ty) (c i : ℕ) (w : Value) (K : Ty → Value → Type 0) where
  -- behind a number that is written, or what is bound
  pub now : (todo : List Todo) (vs : List Value) → Behind t heads ps c i todo → Now t heads ps c i w K todo vs
  now (piece.Rest ss ∷ todo) vs h = h
  now (piece.Do a ∷ todo) vs h = inr h
  now (piece.DropNow ∷ todo) vs h = h
  now (piece.Within line ∷ todo) vs h = h
  now todo vs h = absurd h

  -- what another field is bound to has been found
  pub lands : (todo : List Todo) (v : Value) (vs : List Value) → Lands t heads ps c i w K todo vs → Now t heads ps c i w K todo (v ∷ vs)
  lands (piece.FieldNow s m ∷ todo) v vs h = inr (inl h)
  lands (piece.BindNow ∷ todo) v vs h = inr h
  lands todo v vs h = absurd h

  -- a number has been found without a call, which is written then
  pub stills : (todo : List Todo) (vs : List Value) → Stills t heads ps c i todo → Now t heads ps c i w K todo vs
  stills (piece.Eval e ∷ todo) vs h = inr (inr (inr (inr h)))
  stills (piece.LoadNow ∷ todo) vs h = h
  stills (piece.ElementNow n s ∷ todo) vs h = h
  stills (piece.FieldNow s m ∷ todo) vs h = inr (inr h)
  stills (piece.NegateNow ∷ todo) vs h = h
  stills (piece.NotNow ∷ todo) vs h = h
  stills (piece.CharacterNow ∷ todo) vs h = h
  stills (piece.TruthNow ∷ todo) vs h = h
  stills (piece.OperateNow op ∷ todo) vs h = h
  stills (piece.Choose e f ∷ todo) vs h = h
  stills (piece.KeepNow ∷ todo) vs h = h
  stills todo vs h = absurd h

-- what is next

pub awaits_more : (P Q : CleanUp → List Todo → Type 0) → ((c : CleanUp) (todo : List Todo) → P c todo → Q c todo) → (l : List Todo) → Awaits P l → Awaits Q l
awaits_more P Q f (piece.DropNow ∷ (piece.Within line ∷ (piece.Rest (src.Scoped c ss) ∷ todo))) h = f c todo h
awaits_more P Q f l h = tt

pub awaits_both : (P Q R : CleanUp → List Todo → Type 0) → ((c : CleanUp) (todo : List Todo) → P c todo → Q c todo → R c todo) → (l : List Todo) → Awaits P l → Awaits Q l → Awaits R l
awaits_both P Q R f (piece.DropNow ∷ (piece.Within line ∷ (piece.Rest (src.Scoped c ss) ∷ todo))) h k = f c todo h k
awaits_both P Q R f l h k = tt

pub awaits_all : (P : CleanUp → List Todo → Type 0) → ((c : CleanUp) (todo : List Todo) → P c todo) → (l : List Todo) → Awaits P l
awaits_all P f (piece.DropNow ∷ (piece.Within line ∷ (piece.Rest (src.Scoped c ss) ∷ todo))) = f c todo
awaits_all P f l = tt

module _ (t : Table) (heads : ℕ → ℕ → Bool) (few : Few) (kinds : List Sig) (n : Exec) where
  pub unbound : (fs : List (List Value)) (g : ℕ) (w : Value) (K : Value → Ty → Type 0) (a : Ty) → IsUnbound t a → Holds t few n K (Frame n g) (frame_at g fs) w a
  unbound fs g w K a none p b i binds = absurd (none w (Place (Frame n g) p) b i binds)

  -- of an object in which nothing is bound
  pub none_bound : (fs : List (List Value)) (g : ℕ) (w : Value) (K : Value → Ty → Type 0) (c : ℕ) → IsUnbound t (Obj c) → IsBuilt t heads few kinds n fs g w c K
  none_bound fs g w K c none i f told p b h binds = absurd (none w (Place (Frame n g) p) b (within_more t (field itself i f) h) binds)

  pub built_kept : (fs gs : List (List Value)) (g : ℕ) (w : Value) (c : ℕ) (K : Value → Ty → Type 0) → FrameKeeps fs gs g → IsBuilt t heads few kinds n fs g w c K → IsBuilt t heads few kinds n gs g w c K
  built_kept fs gs g w c K k h i f told = holds_kept t few n K (Frame n g) (frame_at g fs) (frame_at g gs) (further (FieldAt (t.shape c) i) w) (t.fields c i) k (h i f told)

  -- those that wait keep what is bound in their frames
  abbrev pub AllKeep : List (List Value) → List (List Value) → List Active → Type 0
  AllKeep fs gs [] = Unit {0}
  AllKeep fs gs (a ∷ older) = FrameKeeps fs gs a.frame × AllKeep fs gs older

  pub all_keep : (fs gs : List (List Value)) → ((d : ℕ) → FrameKeeps fs gs d) → (cs : List Active) → AllKeep fs gs cs
  all_keep fs gs k [] = tt
  all_keep fs gs k (a ∷ older) = (k a.frame, all_keep fs gs k older)

  -- of the object for whose scope the first of these waits
  abbrev pub Lying : (ℕ → ℕ → ℕ → Type 0) → List Active → Type 0
  Lying E [] = Unit {0}
  Lying E (b ∷ older) = Awaits (λ c todo. (k i : ℕ) → CleansAt t (Obj i) (src.Variable k) c → E b.frame k i) b.control

  module _ (E : ℕ → ℕ → ℕ → Type 0) (L M : List Ty → ℕ → ℕ → Value → (Ty → Value → Type 0) → Type 0) (fs gs : List (List Value)) (f : ℕ) (this : Value) where
    -- what is still to be bound of an object is bound, or still to be bound, and then nothing is there
    abbrev pub Goes : ℕ → Type 1
    Goes g = (k : ℕ) (ps : List Ty) (c i : ℕ) (K : Value → Ty → Type 0) → E g k c → IsField t c i → heads c i ≡ true → this ≡ variable n g k → ((j : ℕ) (b : Ty) → IsParam ps j b → Known t few n K b (slice_index_or (frame_at f fs) j nought)) → Known t few n K (Obj c) (variable n g k) → ((j : ℕ) → IsField t c j → heads c j ≡ true → Holds t few n K (Frame n g) (frame_at g fs) (further (FieldAt (t.shape c) j) (variable n g k)) (t.fields c j) ⊎ (L ps c j (variable n g k) (Known t few n K) × IsLoose fs g (further (FieldAt (t.shape c) j) (variable n g k)))) → L ps c i (variable n g k) (Known t few n K) → IsLoose fs g (further (FieldAt (t.shape c) i) (variable n g k)) → Holds t few n K (Frame n g) (frame_at g gs) (further (FieldAt (t.shape c) i) (variable n g k)) (t.fields c i) ⊎ (M ps c i (variable n g k) (Known t few n K) × IsLoose gs g (further (FieldAt (t.shape c) i) (variable n g k)))

    making_to : (depth g k c : ℕ) (K : Value → Ty → Type 0) → FrameKeeps fs gs f → FrameKeeps fs gs g → Goes g → E g k c → IsMaking t heads few kinds n L fs f depth this g (variable n g k) c K → IsMaking t heads few kinds n M gs f depth this g (variable n g k) c K
    making_to depth g k c K kf kg m e h = record {
      frame = h.frame;
      object = h.object;
      known_object = h.known_object;
      params = h.params;
      known = λ j b i. known_kept t few n K b _ _ (kf j) (h.known j b i);
      fields = λ i x told. by i x told (h.fields i x told);
    }
      where
        by : (i : ℕ) → IsField t c i → heads c i ≡ true → Holds t few n K (Frame n g) (frame_at g fs) (further (FieldAt (t.shape c) i) (variable n g k)) (t.fields c i) ⊎ (L h.params c i (variable n g k) (Known t few n K) × IsLoose fs g (further (FieldAt (t.shape c) i) (variable n g k))) → Holds t few n K (Frame n g) (frame_at g gs) (further (FieldAt (t.shape c) i) (variable n g k)) (t.fields c i) ⊎ (M h.params c i (variable n g k) (Known t few n K) × IsLoose gs g (further (FieldAt (t.shape c) i) (variable n g k)))
        by i x told (inl y) = inl (holds_kept t few n K (Frame n g) (frame_at g fs) (frame_at g gs) _ (t.fields c i) kg y)
        by i x told (inr y) = m k h.params c i K e x told h.object h.known h.known_object h.fields y.0 y.1

    either_to : (depth g k c : ℕ) (K : Value → Ty → Type 0) → FrameKeeps fs gs f → FrameKeeps fs gs g → Goes g → E g k c → IsBuilt t heads few kinds n fs g (variable n g k) c K ⊎ IsMaking t heads few kinds n L fs f depth this g (variable n g k) c K → IsBuilt t heads few kinds n gs g (variable n g k) c K ⊎ IsMaking t heads few kinds n M gs f depth this g (variable n g k) c K
    either_to depth g k c K kf kg m e (inl h) = inl (built_kept fs gs g (variable n g k) c K kg h)
    either_to depth g k c K kf kg m e (inr h) = inr (making_to depth g k c K kf kg m e h)

    pub builds_in : (cs : List Active) → FrameKeeps fs gs f → AllKeep fs gs cs → Lying E cs → ((g : ℕ) → Goes g) → Builds t heads few kinds n L fs f this cs → Builds t heads few kinds n M gs f this cs
    builds_in [] kf k y m h = tt
    builds_in (b ∷ older) kf k y m h =
        awaits_both _ _ _ (λ c todo e x j i d. either_to (suc (length older)) b.frame j i (AtScope t few kinds n b.frame b.this older c todo) kf k.0 (m b.frame) (e j i d) (x j i d)) b.control y h

  pub all_lying : (cs : List Active) → Lying (λ g k c. Unit {0}) cs
  all_lying [] = tt
  all_lying (b ∷ older) = awaits_all _ (λ c todo k i d. tt) b.control

  -- something else is left, in the same frames, by what is known there
  pub builds_with : (L M : List Ty → ℕ → ℕ → Value → (Ty → Value → Type 0) → Type 0) (fs : List (List Value)) (f : ℕ) (this : Value) (cs : List Active) → ((g k : ℕ) (ps : List Ty) (c i : ℕ) (K : Value → Ty → Type 0) → this ≡ variable n g k → ((j : ℕ) (b : Ty) → IsParam ps j b → Known t few n K b (slice_index_or (frame_at f fs) j nought)) → Known t few n K (Obj c) (variable n g k) → L ps c i (variable n g k) (Known t few n K) → M ps c i (variable n g k) (Known t few n K)) → Builds t heads few kinds n L fs f this cs → Builds t heads few kinds n M fs f this cs
  builds_with L M fs f this cs m h =
      builds_in (λ g k c. Unit {0}) L M fs fs f this cs (same_frame fs f) (all_keep fs fs (same_frame fs) cs) (all_lying cs) (λ g k ps c i K e x told o q p all y free. inr (m g k ps c i K o q p y, free)) h

  pub builds_more : (L M : List Ty → ℕ → ℕ → Value → (Ty → Value → Type 0) → Type 0) → ((ps : List Ty) (c i : ℕ) (w : Value) (K : Ty → Value → Type 0) → L ps c i w K → M ps c i w K) → (fs : List (List Value)) (f : ℕ) (this : Value) (cs : List Active) → Builds t heads few kinds n L fs f this cs → Builds t heads few kinds n M fs f this cs
  builds_more L M m fs f this cs h = builds_with L M fs f this cs (λ g k ps c i K o q p y. m ps c i (variable n g k) (Known t few n K) y) h

  -- nothing is left
  pub builds_kept : (fs gs : List (List Value)) (f : ℕ) (this : Value) (cs : List Active) → FrameKeeps fs gs f → AllKeep fs gs cs → Builds t heads few kinds n of_wait fs f this cs → Builds t heads few kinds n of_wait gs f this cs
  builds_kept fs gs f this cs kf k h =
      builds_in (λ g k c. Unit {0}) of_wait of_wait fs gs f this cs kf k (all_lying cs) (λ g k ps c i K e x told o q p all y free. absurd y) h

  pub all_kept : (fs gs : List (List Value)) (cs : List Active) → AllKeep fs gs cs → AllBuild t heads few kinds n fs cs → AllBuild t heads few kinds n gs cs
  all_kept fs gs [] k h = tt
  all_kept fs gs (a ∷ older) k h = (builds_kept fs gs a.frame a.this older k.0 k.1 h.0, all_kept fs gs older k.1 h.1)

  -- an object of which all fields hold what is known does
  pub whole_built : (fs : List (List Value)) (g : ℕ) (w : Value) (c : ℕ) (K : Value → Ty → Type 0) → ((i : ℕ) → IsField t c i → Holds t few n K (Frame n g) (frame_at g fs) (further (FieldAt (t.shape c) i) w) (t.fields c i)) → Holds t few n K (Frame n g) (frame_at g fs) w (Obj c)
  whole_built fs g w c K h p b i binds = by (part_of t w c i)
    where
      by : IsPart t w c (Place (Frame n g) p) (Cell b) → Known t few n K b (slice_index_or (frame_at g fs) (address p) nought)
      by (whole e q) = absurd (cc)
      by (of j f k) = h j f p b k binds
