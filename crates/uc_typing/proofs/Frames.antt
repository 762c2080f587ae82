-- Frames and operands of the types that are asked for: what calls, writes and returns do to them.
use Rattle.std.proofs.Common.{◌≡◌, ℕ, zero, suc, ◌≤◌, List, [], ◌∷◌, ◌++◌, length, take, drop, ◌+◌, Option, Some, None, Bool, true, false, refl, sym, ap, ◌∙◌, subst, arith}
use Rattle.std.specs.Prelude.{nat_eq, if◌then◌else◌, slice_index_or, slice_set}
use Rattle.std.proofs.lemmas.Bool.{eq-eqb}
use Rattle.uc_machine.specs.declared.exec.Exec.{Exec}
use Rattle.uc_machine.specs.declared.exec.Home.{Home}
use Rattle.uc_machine.specs.declared.exec.Home.TheVariants as home
use Rattle.uc_machine.specs.declared.exec.Owner.{Owner}
use Rattle.uc_machine.specs.declared.exec.Owner.TheVariants.{Frame, Fields}
use Rattle.uc_machine.specs.Executions.{home_eq, exec_eq, at_depth, set_depth, frame_changed, list_in, first_or, others, take_operands, value_changed, values_cleared, with_owned, change, change_in, set_members, members_at, frames_changed}
use Rattle.uc_machine.specs.Pieces.{Value, Number, Place, Running, Object, Nothing, Env, Members, stored, written, nought, address}
use Rattle.uc_typing.specs.Typing.{Ty, Num, Cell, Obj, Raw, Row, Clu, Pro, Sig, Table, IsParam}
use Rattle.uc_typing.specs.Pieces.{onto}
use Rattle.uc_typing.specs.States.{whole, IsAt, IsNumbered, IsObjectBy, Is, Values, Bound, Framed}

-- lists

drop_more : {X : Type 0} (n : ℕ) (xs : List X) → drop (suc n) xs ≡ drop 1 (drop n xs)
drop_more zero xs = refl
drop_more (suc n) [] = refl
drop_more (suc n) (x ∷ xs) = drop_more n xs

pub drop_onto : (ps more : List Ty) → drop (length ps) (onto ps more) ≡ more
drop_onto [] more = refl
drop_onto (a ∷ rest) more = drop_more (length rest) (onto rest (a ∷ more)) ∙ ap (drop 1) (drop_onto rest (a ∷ more))

set_onto : (ps xs : List Ty) (k : ℕ) (a : Ty) → slice_set (onto ps xs) (length ps + k) a ≡ onto ps (slice_set xs k a)
set_onto [] xs k a = let e : 0 + k ≡ k = omega arith in ap (λ n. slice_set xs n a) e
set_onto (p ∷ rest) xs k a =
    let e : suc (length rest) + k ≡ length rest + suc k = omega arith in
    ap (λ n. slice_set (onto rest (p ∷ xs)) n a) e ∙ set_onto rest (p ∷ xs) (suc k) a

pub replaced_onto : (ps more : List Ty) (a b : Ty) → slice_set (onto ps (a ∷ more)) (length ps) b ≡ onto ps (b ∷ more)
replaced_onto ps more a b =
    let e : length ps ≡ length ps + 0 = omega arith in
    ap (λ n. slice_set (onto ps (a ∷ more)) n b) e ∙ set_onto ps (a ∷ more) 0 b

drop_others : {X : Type 0} (n : ℕ) (xs : List X) → drop n (others xs) ≡ drop (suc n) xs
drop_others zero [] = refl
drop_others (suc n) [] = refl
drop_others n (x ∷ xs) = refl

taken_more : {X : Type 0} (d : X) (n : ℕ) (xs ys : List X) → take_operands d (suc n) xs ys ≡ first_or d (drop n xs) ∷ take_operands d n xs ys
taken_more d zero xs ys = refl
taken_more d (suc n) xs ys =
    taken_more d n (others xs) (first_or d xs ∷ ys) ∙ ap (λ zs. first_or d zs ∷ take_operands d (suc n) xs ys) (drop_others n xs)

module _ (t : Table) where
  -- operands

  pub values_drop : (n : ℕ) (tys : List Ty) (vs : List Value) → Values t tys vs → Values t (drop n tys) (drop n vs)
  values_drop zero tys vs h = h
  values_drop (suc n) [] [] h = tt
  values_drop (suc n) [] (v ∷ vs) h = absurd h
  values_drop (suc n) (a ∷ more) [] h = absurd h
  values_drop (suc n) (a ∷ more) (v ∷ vs) h = values_drop n more vs h.1

  pub values_top : (a : Ty) (more : List Ty) (vs : List Value) → Values t (a ∷ more) vs → Is t a (first_or Nothing vs)
  values_top a more [] h = absurd h
  values_top a more (v ∷ vs) h = h.0

  pub values_set : (n : ℕ) (tys : List Ty) (vs : List Value) (a : Ty) (v : Value) → Values t tys vs → Is t a v → Values t (slice_set tys n a) (slice_set vs n v)
  values_set n [] [] a v h i = tt
  values_set n [] (w ∷ vs) a v h i = absurd h
  values_set n (b ∷ more) [] a v h i = absurd h
  values_set zero (b ∷ more) (w ∷ vs) a v h i = (i, h.1)
  values_set (suc n) (b ∷ more) (w ∷ vs) a v h i = (h.0, values_set n more vs a v h.1 i)

  -- a frame

  pub bound_call : (ps more : List Ty) (vs ys : List Value) → Values t (onto ps more) vs → Bound t ps (take_operands Nothing (length ps) vs ys)
  bound_call [] more vs ys h = tt
  bound_call (a ∷ rest) more vs ys h =
      let d : Values t (a ∷ more) (drop (length rest) vs) = subst (λ l. Values t l (drop (length rest) vs)) (drop_onto rest (a ∷ more)) (values_drop (length rest) (onto rest (a ∷ more)) vs h) in
      subst (Bound t (a ∷ rest)) (sym (taken_more Nothing (length rest) vs ys)) (values_top a more (drop (length rest) vs) d, bound_call rest (a ∷ more) vs ys h)

  at_stored : (a : Ty) (v x : Value) → IsAt t a x → IsAt t a (stored v x)
  at_stored a v (Number n) h = absurd h
  at_stored a v (Place o p) h = h
  at_stored a v (Running e) h = absurd h
  at_stored a v (Object o) h = absurd h
  at_stored a v Nothing h = absurd h

  numbered_stored : (v x : Value) → IsNumbered x → IsNumbered (stored v x)
  numbered_stored v (Number n) h = absurd h
  numbered_stored v (Place o p) h = absurd h
  numbered_stored v (Running e) h = absurd h
  numbered_stored v (Object o) h = h
  numbered_stored v Nothing h = absurd h

  object_stored : (b : Bool) (c : ℕ) (v x : Value) → IsObjectBy t b c x → IsObjectBy t b c (stored v x)
  object_stored true c v x h = numbered_stored v x h
  object_stored false c v x h = at_stored (Obj c) v x h

  is_stored : (a : Ty) (v x : Value) → Is t a x → Is t a (stored v x)
  is_stored Num v x h = tt
  is_stored (Cell a) v x h = at_stored (Cell (whole a)) v x h
  is_stored (Obj c) v x h = object_stored (t.mutex c) c v x h
  is_stored (Raw c) v x h = object_stored (t.mutex c) c v x h
  is_stored (Row n a) v x h = at_stored (Row n (whole a)) v x h
  is_stored Clu v x h = numbered_stored v x h
  is_stored Pro v x h = numbered_stored v x h

  pub bound_stored : (ps : List Ty) (vs : List Value) (k : ℕ) (v : Value) → Bound t ps vs → Bound t ps (value_changed k (stored v) nought vs)
  bound_stored [] vs k v h = tt
  bound_stored (a ∷ more) [] k v h = absurd h
  bound_stored (a ∷ more) (x ∷ vs) zero v h = (is_stored a v x h.0, h.1)
  bound_stored (a ∷ more) (x ∷ vs) (suc k) v h = (h.0, bound_stored more vs k v h.1)

  bound_take : (ps : List Ty) (vs ws : List Value) (k : ℕ) → length ps ≤ k → Bound t ps vs → Bound t ps (take k vs ++ ws)
  bound_take [] vs ws k l h = tt
  bound_take (a ∷ more) [] ws k l h = absurd h
  bound_take (a ∷ more) (x ∷ vs) ws zero l h = let f : ⊥ = omega arith in absurd f
  bound_take (a ∷ more) (x ∷ vs) ws (suc k) l h = (h.0, bound_take more vs ws k (omega arith) h.1)

  pub bound_cleared : (ps : List Ty) (vs : List Value) (k n : ℕ) → length ps ≤ k → Bound t ps vs → Bound t ps (values_cleared k n nought vs)
  bound_cleared ps vs k n l h = bound_take ps vs _ k l h

  pub held : (ps : List Ty) (vs : List Value) (k : ℕ) (a : Ty) → Bound t ps vs → IsParam ps k a → Is t a (slice_index_or vs k nought)
  held [] vs k a b h = absurd h
  held (p ∷ more) [] k a b h = absurd b
  held (p ∷ more) (v ∷ vs) zero a b h = subst (λ a. Is t a v) (sym h) b.0
  held (p ∷ more) (v ∷ vs) (suc k) a b h = held more vs k a b.1 h

  -- frames

  pub framed_length : (gs : List Sig) (fs : List (List Value)) → Framed t gs fs → length fs ≡ length gs
  framed_length [] [] h = refl
  framed_length [] (f ∷ fs) h = absurd h
  framed_length (g ∷ gs) [] h = absurd h
  framed_length (g ∷ gs) (f ∷ fs) h = ap suc (framed_length gs fs h.1)

  module _ (d : ℕ) (g : Sig) where
    at_by : (b : Bool) (i : Sig) (f : List Value) (x : Option Sig) (y : Option (List Value)) → Bound t i.params f → (x ≡ Some g → Bound t g.params (list_in y)) → (if b then Some i else x) ≡ Some g → Bound t g.params (list_in (if b then Some f else y))
    at_by true i f x y h r e = let s : i ≡ g = cc in subst (λ (i : Sig). Bound t i.params f) s h
    at_by false i f x y h r e = r e

    pub framed_at : (gs : List Sig) (fs : List (List Value)) → Framed t gs fs → at_depth gs d ≡ Some g → Bound t g.params (list_in (at_depth fs d))
    framed_at [] [] h e = absurd (cc)
    framed_at [] (f ∷ fs) h e = absurd h
    framed_at (i ∷ gs) [] h e = absurd h
    framed_at (i ∷ gs) (f ∷ fs) h e =
        let l : nat_eq d (length fs) ≡ nat_eq d (length gs) = ap (nat_eq d) (framed_length gs fs h.1) in
        subst (λ b. Bound t g.params (list_in (if b then Some f else at_depth fs d))) (sym l) (at_by (nat_eq d (length gs)) i f (at_depth gs d) (at_depth fs d) h.0 (framed_at gs fs h.1) e)

  module _ (d : ℕ) (change : List Value → List Value) where
    abbrev pub Keeping : Option Sig → Type 0
    Keeping o = (g : Sig) → o ≡ Some g → (vs : List Value) → Bound t g.params vs → Bound t g.params (change vs)

    set_by : (b : Bool) (i : Sig) (gs : List Sig) (f : List Value) (fs : List (List Value)) → Bound t i.params f → Framed t gs fs → Keeping (if b then Some i else at_depth gs d) → (Keeping (at_depth gs d) → Framed t gs (set_depth fs d (change (list_in (at_depth fs d))))) → Framed t (i ∷ gs) (if b then change (list_in (if b then Some f else at_depth fs d)) ∷ fs else f ∷ set_depth fs d (change (list_in (if b then Some f else at_depth fs d))))
    set_by true i gs f fs h r k more = (k i refl f h, r)
    set_by false i gs f fs h r k more = (h, more k)

    pub framed_changed : (gs : List Sig) (fs : List (List Value)) → Framed t gs fs → Keeping (at_depth gs d) → Framed t gs (frame_changed d change fs)
    framed_changed [] [] h k = tt
    framed_changed [] (f ∷ fs) h k = absurd h
    framed_changed (i ∷ gs) [] h k = absurd h
    framed_changed (i ∷ gs) (f ∷ fs) h k =
        let l : nat_eq d (length fs) ≡ nat_eq d (length gs) = ap (nat_eq d) (framed_length gs fs h.1) in
        set_by (nat_eq d (length fs)) i gs f fs h.0 h.1 (subst (λ b. Keeping (if b then Some i else at_depth gs d)) (sym l) k) (framed_changed gs fs h.1)

  -- the frames of the running execution

  home_same : (h : Home) → home_eq h h ≡ true
  home_same (home.Task n) = eq-eqb n n refl
  home_same (home.Object o) = eq-eqb o o refl

  pub exec_same : (n : Exec) → exec_eq n n ≡ true
  exec_same n =
      let h : home_eq n.home n.home ≡ true = home_same n.home in
      let s : nat_eq n.serial n.serial ≡ true = eq-eqb n.serial n.serial refl in
      rw h s

  set_frames_if : (b : Bool) (m : Members) (e : Env) → (if b then record e { house = m } else e).frames ≡ e.frames
  set_frames_if true m e = refl
  set_frames_if false m e = refl

  set_frames : (h : Home) (m : Members) (e : Env) → (set_members h m e).frames ≡ e.frames
  set_frames (home.Task n) m e = set_frames_if (nat_eq n e.own) m e
  set_frames (home.Object o) m e = refl

  change_frames : (h : Home) (g : Members → Members) (m : Option Members) (e : Env) → (change_in h g m e).frames ≡ e.frames
  change_frames h g None e = refl
  change_frames h g (Some m) e = set_frames h (g m) e

  owned_if : (b : Bool) (gs : List Sig) (fs : List (List Value)) (e f : Env) → f.frames ≡ e.frames → Framed t gs fs → Framed t gs e.frames → Framed t gs (if b then record e { frames = fs } else f).frames
  owned_if true gs fs e f h r s = r
  owned_if false gs fs e f h r s = subst (Framed t gs) (sym h) s

  -- a change that keeps the parameters of the frame that it is made in
  abbrev pub KeepsIn : List Sig → Owner → (List Value → List Value) → Type 0
  KeepsIn gs (Frame n d) f = Keeping d f (at_depth gs d)
  KeepsIn gs (Fields o) f = Unit {0}

  pub framed_owned : (gs : List Sig) (o : Owner) (f : List Value → List Value) (e : Env) → KeepsIn gs o f → Framed t gs e.frames → Framed t gs (with_owned o f e).frames
  framed_owned gs (Frame n d) f e k h =
      owned_if (exec_eq n e.exec) gs (frame_changed d f e.frames) e (change n.home (frames_changed n.serial (frame_changed d f)) e) (change_frames n.home _ (members_at n.home e) e) (framed_changed d f gs e.frames h k) h
  framed_owned gs (Fields o) f e k h = subst (Framed t gs) (sym (change_frames (home.Object o) _ (members_at (home.Object o) e) e)) h

  pub framed_written : (gs : List Sig) (v w : Value) (e : Env) → Framed t gs e.frames → Framed t gs (written v w e).frames
  framed_written gs (Number n) w e h = h
  framed_written gs (Place o p) w e h = framed_owned gs o _ e (keeps_in o) h
    where
      keeps_in : (o : Owner) → KeepsIn gs o (value_changed (address p) (stored w) nought)
      keeps_in (Frame n d) = λ g q vs b. bound_stored g.params vs (address p) w b
      keeps_in (Fields o) = tt
  framed_written gs (Running x) w e h = h
  framed_written gs (Object o) w e h = framed_owned gs (Fields o) _ e tt h
  framed_written gs Nothing w e h = h
