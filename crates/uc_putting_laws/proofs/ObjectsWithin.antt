-- What lies at a place or in mutex objects that are at home there, and whose it is.
use Rattle.std.proofs.Common.{◌≡◌, ℕ, ◌<◌, ◌≤◌, List, refl, sym, ◌∙◌, subst, arith}
use Rattle.uc_machine.specs.declared.exec.Exec.{Exec}
use Rattle.uc_machine.specs.declared.exec.Owner.{Owner}
use Rattle.uc_machine.specs.declared.exec.Owner.TheVariants.{Frame, Fields}
use Rattle.uc_machine.specs.Pieces.{Link, FieldAt, At, Value, Number, Place, Running, Object, Nothing, further}
use Rattle.uc_typing.specs.Typing.{Ty, Cell, Obj, Row, Table, element_shape}
use Rattle.uc_life_laws.specs.Things.{Few, Within, itself, field, element, Stands, lies, inside}
use Rattle.uc_life_laws.specs.Belonging.{Belongs, frame, fields, object}
use Rattle.uc_putting_laws.specs.ObjectsAtHand.{OwnedBy, LiesUnder, same_place, further_on, LiesIn, there, at_home, BelongsBelow, in_frame, in_fields, in_object}

-- owners

pub owned_further : (q : Owner) (l : Link) (v : Value) → OwnedBy q v → OwnedBy q (further l v)
owned_further q l (Number z) h = absurd h
owned_further q l (Place o p) h = h
owned_further q l (Running x) h = absurd h
owned_further q l (Object o) h = h
owned_further q l Nothing h = absurd h

pub owner_one : (q r : Owner) (v : Value) → OwnedBy q v → OwnedBy r v → q ≡ r
owner_one q r (Number z) h k = absurd h
owner_one q r (Place o p) h k = sym h ∙ k
owner_one q r (Running x) h k = absurd h
owner_one q r (Object o) h k = sym h ∙ k
owner_one q r Nothing h k = absurd h

pub owned_under : (q : Owner) (w : Value) → OwnedBy q w → (v : Value) → LiesUnder w v → OwnedBy q v
owned_under q w own v same_place = own
owned_under q w own v (further_on {v = x} l h) = owned_further q l x (owned_under q w own x h)

-- what is an execution's own has an owner
pub owner_of : (few : Few) (n : Exec) (v : Value) → Belongs few n v → (q : Owner) × OwnedBy q v
owner_of few n (Number z) h = elim h [ ]
owner_of few n (Place o p) h = (o, refl)
owner_of few n (Running x) h = elim h [ ]
owner_of few n (Object o) h = (Fields o, refl)
owner_of few n Nothing h = elim h [ ]

pub one_object : (x o : ℕ) → Fields x ≡ Fields o → x ≡ o
one_object x o h = cc

pub no_frame : (x : Exec) (e o : ℕ) → Frame x e ≡ Fields o → ⊥
no_frame x e o h = cc

frame_one : (x n : Exec) (e f : ℕ) → Frame x e ≡ Frame n f → e ≡ f
frame_one x n e f h = cc

-- what lies in a mutex object, or is it, is the execution's own as the home of that is
pub home_own : (few : Few) (n : Exec) (o : ℕ) (v : Value) → OwnedBy (Fields o) v → Belongs few n v → Belongs few n (few.home o)
home_own few n o (Place (Frame x d) p) e (frame h) = absurd (no_frame x d o e)
home_own few n o (Place (Fields x) p) e (fields h) = subst (λ y. Belongs few n (few.home y)) (one_object x o e) h
home_own few n o (Object x) e (object h) = subst (λ y. Belongs few n (few.home y)) (one_object x o e) h
home_own few n o (Number z) e h = absurd e
home_own few n o (Running x) e h = absurd e
home_own few n o Nothing e h = absurd e

-- places within others

pub under_both : (w v u : Value) → LiesUnder w v → LiesUnder v u → LiesUnder w u
under_both w v u h same_place = h
under_both w v u h (further_on {v = x} l k) = further_on l (under_both w v x h k)

pub within_under : (t : Table) (w : Value) (a : Ty) (v : Value) (b : Ty) → Within t w a v b → LiesUnder w v
within_under t w a v b itself = same_place
within_under t w a v b (field {v = x} {c} h i f) = further_on (FieldAt (t.shape c) i) (within_under t w a x _ h)
within_under t w a v b (element {v = x} {m} h j l) = further_on _ (within_under t w a x _ h)

-- what lies within a thing lies so at any place
pub moved_within : (t : Table) (w : Value) (a : Ty) (v : Value) (b : Ty) → Within t w a v b → (x : Value) → (u : Value) × Within t x a u b
moved_within t w a v b itself x = (x, itself)
moved_within t w a v b (field {v = y} {c} h i f) x =
    let m = moved_within t w a y (Obj c) h x in
    (further (FieldAt (t.shape c) i) m.0, field m.1 i f)
moved_within t w a v b (element {v = y} {m} h j l) x =
    let k = moved_within t w a y (Row m b) h x in
    (further (At (element_shape t b) j) k.0, element k.1 j l)

pub within_both : (t : Table) (w : Value) (a : Ty) (v : Value) (b : Ty) (u : Value) (c : Ty) → Within t w a v b → Within t v b u c → Within t w a u c
within_both t w a v b u c h itself = h
within_both t w a v b u c h (field {v = y} {c = d} k i f) = field (within_both t w a v b y (Obj d) h k) i f
within_both t w a v b u c h (element {v = y} {m} k j l) = element (within_both t w a v b y (Row m c) h k) j l

-- of what stands in a thing or lies further: a thing, with a mutex object in it that lies there
module _ (few : Few) where
  pub record Outermost (t : Table) (there : Value) (K : Value → Ty → Type 0) : Type 0 where
    pub thing : Value
    pub type : Ty
    pub is : K thing type
    pub place : Value
    pub class : ℕ
    pub within : Within t thing type place (Cell (Obj class))
    pub in_it : LiesIn few there place

module _ (few : Few) where
  pub in_under : (w v : Value) → LiesUnder w v → (u : Value) → LiesIn few v u → LiesIn few w u
  in_under w v h u (there k) = there (under_both w v u h k)
  in_under w v h u (at_home {o = o} k e) = at_home (in_under w v h (few.home o) k) e

  -- what lies in a mutex object lies where that is at home
  pub in_object_home : (w : Value) (o : ℕ) → LiesIn few w (few.home o) → (l : Link) (u : Value) → LiesIn few (further l (Object o)) u → LiesIn few w u
  in_object_home w o h l u (there k) = at_home h (owned_under (Fields o) (further l (Object o)) refl u k)
  in_object_home w o h l u (at_home {o = x} k e) = at_home (in_object_home w o h l (few.home x) k) e

  module _ (n : Exec) where
    -- no mutex object is at home in itself
    pub no_circle : (w : Value) (o : ℕ) → OwnedBy (Fields o) w → LiesIn few w (few.home o) → (v : Value) → Belongs few n v → LiesIn few w v → ⊥
    no_circle w o mine back (Place (Frame x e) p) (frame h) (there k) = no_frame x e o (owned_under (Fields o) w mine (Place (Frame x e) p) k)
    no_circle w o mine back (Place (Frame x e) p) (frame h) (at_home {o = y} k q) = no_frame x e y q
    no_circle w o mine back (Place (Fields x) p) (fields h) (there k) =
        let e : o ≡ x = sym (one_object x o (owned_under (Fields o) w mine (Place (Fields x) p) k)) in
        no_circle w o mine back (few.home x) h (subst (λ y. LiesIn few w (few.home y)) e back)
    no_circle w o mine back (Place (Fields x) p) (fields h) (at_home {o = y} k q) =
        no_circle w o mine back (few.home x) h (subst (λ z. LiesIn few w (few.home z)) (sym (one_object x y q)) k)
    no_circle w o mine back (Object x) (object h) (there k) =
        let e : o ≡ x = sym (one_object x o (owned_under (Fields o) w mine (Object x) k)) in
        no_circle w o mine back (few.home x) h (subst (λ y. LiesIn few w (few.home y)) e back)
    no_circle w o mine back (Object x) (object h) (at_home {o = y} k q) =
        no_circle w o mine back (few.home x) h (subst (λ z. LiesIn few w (few.home z)) (sym (one_object x y q)) k)
    no_circle w o mine back (Number z) h k = elim h [ ]
    no_circle w o mine back (Running x) h k = elim h [ ]
    no_circle w o mine back Nothing h k = elim h [ ]

    -- frames below others

    pub below_own : (d : ℕ) (v : Value) → BelongsBelow few n d v → Belongs few n v
    below_own d v (in_frame e l) = frame e
    below_own d v (in_fields {o = o} h) = fields (below_own d (few.home o) h)
    below_own d v (in_object {o = o} h) = object (below_own d (few.home o) h)

    pub below_more : (d e : ℕ) → d ≤ e → (v : Value) → BelongsBelow few n d v → BelongsBelow few n e v
    below_more d e le v (in_frame {e = f} q l) = in_frame q (let m : f < e = omega (arith, l, le) in m)
    below_more d e le v (in_fields {o = o} h) = in_fields (below_more d e le (few.home o) h)
    below_more d e le v (in_object {o = o} h) = in_object (below_more d e le (few.home o) h)

    further_below : (d : ℕ) (l : Link) (v : Value) → BelongsBelow few n d v → BelongsBelow few n d (further l v)
    further_below d l v (in_frame e h) = in_frame e h
    further_below d l v (in_fields h) = in_fields h
    further_below d l v (in_object h) = in_fields h

    pub under_below : (d : ℕ) (w v : Value) → LiesUnder w v → BelongsBelow few n d w → BelongsBelow few n d v
    under_below d w v same_place h = h
    under_below d w v (further_on {v = x} l k) h = further_below d l x (under_below d w x k h)

    stands_below : (t : Table) (d : ℕ) (K : Value → Ty → Type 0) → ((w : Value) (a : Ty) → K w a → BelongsBelow few n d w) → (b : Ty) (v : Value) → Stands t few K b v → BelongsBelow few n d v
    stands_below t d K f b v (lies {w = w} {a} k h) = under_below d w v (within_under t w a v b h) (f w a k)
    stands_below t d K f b v (inside {o = o} {c} m k h) =
        under_below d (Object o) v (within_under t (Object o) (Obj c) v b h) (in_object (stands_below t d K f _ (few.home o) k))

    owned_below : (d o : ℕ) (v : Value) → OwnedBy (Fields o) v → BelongsBelow few n d (few.home o) → BelongsBelow few n d v
    owned_below d o (Place (Frame x e) p) q h = absurd (no_frame x e o q)
    owned_below d o (Place (Fields x) p) q h = in_fields (subst (λ y. BelongsBelow few n d (few.home y)) (sym (one_object x o q)) h)
    owned_below d o (Object x) q h = in_object (subst (λ y. BelongsBelow few n d (few.home y)) (sym (one_object x o q)) h)
    owned_below d o (Number z) q h = absurd q
    owned_below d o (Running x) q h = absurd q
    owned_below d o Nothing q h = absurd q

    pub in_below : (d : ℕ) (w v : Value) → LiesIn few w v → BelongsBelow few n d w → BelongsBelow few n d v
    in_below d w v (there u) h = under_below d w v u h
    in_below d w v (at_home {o = o} u q) h = owned_below d o v q (in_below d w (few.home o) u h)

    -- what lies in a frame is not below it
    pub not_below : (f d : ℕ) (p : List Link) → d ≤ f → (v : Value) → LiesIn few (Place (Frame n f) p) v → BelongsBelow few n d v → ⊥
    not_below f d p le v (there k) (in_frame {x = x} {e} q l) =
        let same : e ≡ f = frame_one x n e f (owned_under (Frame n f) (Place (Frame n f) p) refl (Place (Frame x e) _) k) in
        omega (arith, l, le, same)
    not_below f d p le v (there k) (in_fields {o = o} h) = no_frame n f o (sym (owned_under (Frame n f) (Place (Frame n f) p) refl (Place (Fields o) _) k))
    not_below f d p le v (there k) (in_object {o = o} h) = no_frame n f o (sym (owned_under (Frame n f) (Place (Frame n f) p) refl (Object o) k))
    not_below f d p le v (at_home {o = y} k q) (in_frame {x = x} {e} i l) = no_frame x e y q
    not_below f d p le v (at_home {o = y} k q) (in_fields {o = o} h) =
        not_below f d p le (few.home y) k (subst (λ z. BelongsBelow few n d (few.home z)) (one_object o y q) h)
    not_below f d p le v (at_home {o = y} k q) (in_object {o = o} h) =
        not_below f d p le (few.home y) k (subst (λ z. BelongsBelow few n d (few.home z)) (one_object o y q) h)

    -- what stands there does so as a thing in which a mutex object lies there
    pub outermost : (t : Table) (f : ℕ) (p : List Link) (K : Value → Ty → Type 0) (v : Value) (e : ℕ) → LiesIn few (Place (Frame n f) p) v → Stands t few K (Cell (Obj e)) v → Outermost few t (Place (Frame n f) p) K
    outermost t f p K v e l (lies {w = w} {a} k h) = record { thing = w; type = a; is = k; place = v; class = e; within = h; in_it = l }
    outermost t f p K v e (there u) (inside {o = o} {c} m h i) =
        let mine : OwnedBy (Frame n f) v = owned_under (Frame n f) (Place (Frame n f) p) refl v u in
        let its : OwnedBy (Fields o) v = owned_under (Fields o) (Object o) refl v (within_under t (Object o) (Obj c) v (Cell (Obj e)) i) in
        absurd (no_frame n f o (owner_one (Frame n f) (Fields o) v mine its))
    outermost t f p K v e (at_home {o = x} u q) (inside {o = o} {c} m h i) =
        let its : OwnedBy (Fields o) v = owned_under (Fields o) (Object o) refl v (within_under t (Object o) (Obj c) v (Cell (Obj e)) i) in
        let same : o ≡ x = one_object o x (owner_one (Fields o) (Fields x) v its q) in
        outermost t f p K (few.home x) c u (subst (λ y. Stands t few K (Cell (Obj c)) (few.home y)) same h)

    pub not_standing : (t : Table) (f : ℕ) (p : List Link) (K : Value → Ty → Type 0) → ((w : Value) (a : Ty) → K w a → BelongsBelow few n f w) → (b : Ty) (v : Value) → LiesIn few (Place (Frame n f) p) v → Stands t few K b v → ⊥
    not_standing t f p K k b v h st = not_below f f p (omega arith) v h (stands_below t f K k b v st)
