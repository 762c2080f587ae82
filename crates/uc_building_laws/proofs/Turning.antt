-- What constructors have bound is known by the kinds that go along with a step.
use Rattle.std.proofs.Common.{ℕ, suc, ◌≤◌, inl, inr, ⊎_elim, Bool, List, [], ◌∷◌, length, arith}
use Rattle.uc_tree.specs.Source as src
use Rattle.uc_tree.specs.Source.{Source, Expr, CleanUp}
use Rattle.uc_machine.specs.declared.exec.Exec.{Exec}
use Rattle.uc_machine.specs.Executions.{others}
use Rattle.uc_machine.specs.Pieces as piece
use Rattle.uc_machine.specs.Pieces.{FieldAt, Value, Todo, Active, State, further}
use Rattle.uc_typing.specs.Typing.{Ty, Obj, Sig, Table}
use Rattle.uc_life_laws.specs.Things.{Few, Known}
use Rattle.uc_life_laws.specs.Lives.{MakingAt, MakingIn}
use Rattle.uc_life_laws.proofs.Knowns.{known_more}
use Rattle.uc_life_laws.proofs.LivesLemmas.{Below, at_newer, in_newer, at_older, in_older}
use Rattle.uc_building_laws.specs.Building.{Starts, StartsAside, Onwards, Lands, Now}
use Rattle.uc_building_laws.specs.BuildingStates.{variable, AtScope, Nears, IsBuilt, IsMaking, Builds, of_wait, AllBuild, BuildsBy, Stands}
use Rattle.uc_building_laws.proofs.Building.{awaits_more}

-- what is still to be bound, where more is known

module _ (t : Table) (heads : ℕ → ℕ → Bool) (ps : List Ty) (c i : ℕ) (w : Value) (K L : Ty → Value → Type 0) (more : (a : Ty) (v : Value) → K a v → L a v) where
  onwards_more : (a : Ty) (todo : List Todo) (vs : List Value) → Onwards t heads ps c i w K a todo vs → Onwards t heads ps c i w L a todo vs
  onwards_more a (piece.FieldNow s m ∷ todo) vs h = (h.0, h.1, h.2, h.3, h.4, onwards_more (t.fields h.0 m) todo vs h.5)
  onwards_more a (piece.BindNow ∷ todo) vs h = h
  onwards_more a todo vs h = absurd h

  starts_more : (e : Expr) (todo : List Todo) → Starts t heads ps c i w K e todo → Starts t heads ps c i w L e todo
  starts_more (src.OfObject (src.OwnField s m)) (piece.Eval e ∷ (piece.BindNow ∷ todo)) h = h
  starts_more e todo h = absurd h

  lands_more : (todo : List Todo) (vs : List Value) → Lands t heads ps c i w K todo vs → Lands t heads ps c i w L todo vs
  lands_more (piece.FieldNow s m ∷ todo) vs h = lands_more todo vs h
  lands_more (piece.BindNow ∷ todo) vs h = h
  lands_more todo vs h = absurd h

  starts_aside_more : (e : Expr) (todo : List Todo) → StartsAside t heads ps c i w K e todo → StartsAside t heads ps c i w L e todo
  starts_aside_more (src.OfObject (src.OwnField s m)) (piece.Eval e ∷ (piece.BindNow ∷ todo)) h = h
  starts_aside_more (src.OfObject (src.OwnField s m)) (piece.Eval e ∷ (piece.KeepNow ∷ todo)) h = h
  starts_aside_more e todo h = absurd h

  pub now_more : (todo : List Todo) (vs : List Value) → Now t heads ps c i w K todo vs → Now t heads ps c i w L todo vs
  now_more (piece.Do a ∷ todo) vs h = h
  now_more (piece.KeepNow ∷ todo) vs h = h
  now_more (piece.SetUpNow r ∷ todo) vs h = h
  now_more (piece.Eval e ∷ todo) vs (inl (inl h)) = inl (inl h)
  now_more (piece.Eval e ∷ todo) vs (inl (inr (inl h))) = inl (inr (inl (starts_more e todo h)))
  now_more (piece.Eval e ∷ todo) vs (inl (inr (inr h))) = inl (inr (inr (h.0, h.1, onwards_more h.0 todo vs h.2)))
  now_more (piece.Eval e ∷ todo) vs (inr (inl h)) = inr (inl h)
  now_more (piece.Eval e ∷ todo) vs (inr (inr (inl h))) = inr (inr (inl (starts_aside_more e todo h)))
  now_more (piece.Eval e ∷ todo) vs (inr (inr (inr (inl h)))) = inr (inr (inr (inl (h.0, lands_more todo vs h.1))))
  now_more (piece.Eval e ∷ todo) vs (inr (inr (inr (inr h)))) = inr (inr (inr (inr h)))
  now_more (piece.FieldNow s m ∷ todo) vs (inl h) = inl (h.0, onwards_more h.0 (piece.FieldNow s m ∷ todo) (piece.below vs) h.1, more h.0 (piece.top vs) h.2)
  now_more (piece.FieldNow s m ∷ todo) vs (inr (inl h)) = inr (inl (lands_more todo (piece.below vs) h))
  now_more (piece.FieldNow s m ∷ todo) vs (inr (inr h)) = inr (inr h)
  now_more (piece.BindNow ∷ todo) vs (inl h) = inl (h.0, onwards_more h.0 (piece.BindNow ∷ todo) (piece.below vs) h.1, more h.0 (piece.top vs) h.2)
  now_more (piece.BindNow ∷ todo) vs (inr h) = inr h
  now_more todo vs h = h

nears_more : (P Q : CleanUp → List Todo → Type 0) → ((c : CleanUp) (todo : List Todo) → P c todo → Q c todo) → (l : List Todo) → Nears P l → Nears Q l
nears_more P Q f (piece.Rest (src.Scoped c ss) ∷ todo) h = f c todo h
nears_more P Q f (piece.Within line ∷ (piece.Rest (src.Scoped c ss) ∷ todo)) h = f c todo h
nears_more P Q f (piece.DropNow ∷ (piece.Within line ∷ (piece.Rest (src.Scoped c ss) ∷ todo))) h = f c todo h
nears_more P Q f l h = tt

-- what is known by these kinds is so by those

module _ (gs hs : List Sig) where
  -- of an activation with this frame and this object before older ones
  abbrev pub MoreMade : ℕ → Value → List Active → Type 0
  MoreMade f this older = ((w : Value) (a : Ty) → MakingAt gs f this w a → MakingAt hs f this w a) ×
      ((w : Value) (a : Ty) → MakingIn gs older w a → MakingIn hs older w a)

  abbrev pub AllMade : List Active → Type 0
  AllMade [] = Unit {0}
  AllMade (c ∷ older) = MoreMade c.frame c.this older × AllMade older

module _ (t : Table) (heads : ℕ → ℕ → Bool) (few : Few) (gs hs : List Sig) where
  module _ (n : Exec) where
    at_more : (f : ℕ) (this : Value) (older : List Active) → MoreMade gs hs f this older → (c : CleanUp) (todo : List Todo) (w : Value) (a : Ty) → AtScope t few gs n f this older c todo w a → AtScope t few hs n f this older c todo w a
    at_more f this older m c todo w a (inl h) = inl h
    at_more f this older m c todo w a (inr (inl h)) = inr (inl (m.0 w a h))
    at_more f this older m c todo w a (inr (inr h)) = inr (inr (m.1 w a h))

    module _ (K L : Value → Ty → Type 0) (more : (w : Value) (a : Ty) → K w a → L w a) where
      built_more : (fs : List (List Value)) (g : ℕ) (w : Value) (c : ℕ) → IsBuilt t heads few gs n fs g w c K → IsBuilt t heads few hs n fs g w c L
      built_more fs g w c h i f told p b x y = known_more t few n K L more b _ (h i f told p b x y)

      module _ (P Q : List Ty → ℕ → ℕ → Value → (Ty → Value → Type 0) → Type 0) (left : (ps : List Ty) (c i : ℕ) (w : Value) → P ps c i w (Known t few n K) → Q ps c i w (Known t few n L)) where
        making_more : (fs : List (List Value)) (f depth : ℕ) (this : Value) (g : ℕ) (w : Value) (c : ℕ) → IsMaking t heads few gs n P fs f depth this g w c K → IsMaking t heads few hs n Q fs f depth this g w c L
        making_more fs f depth this g w c h = record {
          frame = h.frame;
          object = h.object;
          known_object = known_more t few n K L more (Obj c) w h.known_object;
          params = h.params;
          known = λ k b i. known_more t few n K L more b _ (h.known k b i);
          fields = λ i x told. ⊎_elim (λ y. inl (λ p b z u. known_more t few n K L more b _ (y p b z u))) (λ y. inr (left h.params c i w y.0, y.1)) (h.fields i x told);
        }

    module _ (P Q : List Ty → ℕ → ℕ → Value → (Ty → Value → Type 0) → Type 0) (left : (K L : Value → Ty → Type 0) → ((w : Value) (a : Ty) → K w a → L w a) → (ps : List Ty) (c i : ℕ) (w : Value) → P ps c i w (Known t few n K) → Q ps c i w (Known t few n L)) where
      pub builds_by : (fs : List (List Value)) (f : ℕ) (this : Value) (cs : List Active) → AllMade gs hs cs → Builds t heads few gs n P fs f this cs → Builds t heads few hs n Q fs f this cs
      builds_by fs f this [] m h = tt
      builds_by fs f this (b ∷ older) m h =
          awaits_more _ _ (λ c todo x k i d. ⊎_elim (λ y. inl (built_more (AtScope t few gs n b.frame b.this older c todo) (AtScope t few hs n b.frame b.this older c todo) (at_more b.frame b.this older m.0 c todo) fs b.frame (variable n b.frame k) i y)) (λ y. inr (making_more (AtScope t few gs n b.frame b.this older c todo) (AtScope t few hs n b.frame b.this older c todo) (at_more b.frame b.this older m.0 c todo) P Q (left (AtScope t few gs n b.frame b.this older c todo) (AtScope t few hs n b.frame b.this older c todo) (at_more b.frame b.this older m.0 c todo)) fs f (suc (length older)) this b.frame (variable n b.frame k) i y)) (x k i d)) b.control h

    pub all_by : (fs : List (List Value)) (cs : List Active) → AllMade gs hs cs → AllBuild t heads few gs n fs cs → AllBuild t heads few hs n fs cs
    all_by fs [] m h = tt
    all_by fs (a ∷ older) m h = (builds_by of_wait of_wait (λ K L more ps c i w y. y) fs a.frame a.this older m.1 h.0, all_by fs older m.1 h.1)

  pub stands_by : (u : State) → AllMade gs hs (u.run ∷ u.callers) → Stands t heads few gs u → Stands t heads few hs u
  stands_by u m h = nears_more _ _ (λ c todo x k i d. built_more u.env.exec (AtScope t few gs u.env.exec u.run.frame u.run.this u.callers c todo) (AtScope t few hs u.env.exec u.run.frame u.run.this u.callers c todo) (at_more u.env.exec u.run.frame u.run.this u.callers m.0 c todo) u.env.frames u.run.frame (variable u.env.exec u.run.frame k) i (x k i d)) u.run.control h

  pub by_kinds : (P Q : List Ty → ℕ → ℕ → Value → (Ty → Value → Type 0) → Type 0) (u : State) → ((K L : Value → Ty → Type 0) → ((w : Value) (a : Ty) → K w a → L w a) → (ps : List Ty) (c i : ℕ) (w : Value) → P ps c i w (Known t few u.env.exec K) → Q ps c i w (Known t few u.env.exec L)) → AllMade gs hs (u.run ∷ u.callers) → BuildsBy t heads few gs P u → BuildsBy t heads few hs Q u
  by_kinds P Q u left m h = record {
    anew = h.anew;
    run = builds_by u.env.exec P Q left u.env.frames u.run.frame u.run.this u.callers m.1 h.run;
    callers = all_by u.env.exec u.env.frames u.callers m.1 h.callers;
  }

-- one frame more, and one less

module _ (t : Table) (few : Few) where
  pub newer_made : (g : Sig) (gs : List Sig) (cs : List Active) → AllMade gs (g ∷ gs) cs
  newer_made g gs [] = tt
  newer_made g gs (c ∷ older) = (((λ w a h. at_newer t few g gs c.frame c.this w a h), (λ w a h. in_newer t few g gs older w a h)), newer_made g gs older)

  pub older_made : (gs : List Sig) (cs : List Active) → Below cs → length cs ≤ length (others gs) → AllMade gs (others gs) cs
  older_made gs [] b l = tt
  older_made gs (c ∷ older) b l =
      let d = b.0 in
      (((λ w a h. at_older t few gs c.frame c.this w a (omega (arith, d, l)) h), (λ w a h. in_older t few gs older w a b.1 (omega (arith, l)) h)), older_made gs older b.1 (omega (arith, l)))
