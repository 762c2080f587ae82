-- What stands before what is known by its number is bound, and before its scope, and what may stand behind anything.
use Rattle.std.proofs.Common.{◌≡◌, ℕ, ◌≤◌, [], ◌∷◌, Option, Some, None, true, refl, sym, subst, List}
use Rattle.uc_tree.specs.declared.kinds.Role.TheVariants as role
use Rattle.uc_tree.specs.Programs.{Program}
use Rattle.uc_tree.specs.declared.kinds.Param.{Param}
use Rattle.uc_tree.specs.Objects.{Making, APlain, AMutex, ACluster, AProcessor, number_at, written_at}
use Rattle.uc_tree.specs.Source as src
use Rattle.uc_tree.specs.Source.{Expr, Exprs, ObjectExpr, CleanUp, Stmt, Stmts}
use Rattle.uc_resolve.specs.Standings.{Meant, params_of, args_by}
use Rattle.uc_resolve.specs.Resolve as meaning
use Rattle.uc_state_laws.specs.Clusters.{BindsElement, FillsArray, PrecedesFill, Precedes, OpensArray, OpensBound, Follows, FillsNone, EndsNone, IsUnbound, IsUnscoped, Begins}
use Rattle.uc_state_laws.specs.Ordinary.{Ordinary}

precedes_fill : (a : Stmt) (n : ℕ) (b : Expr) → FillsNone b → PrecedesFill a n b
precedes_fill a n (src.OfObject (src.Bind (src.Element m src.Binding (src.Variable k) i) e)) h = absurd h
precedes_fill a n (src.OfObject (src.MakeOn c r written (src.Element m src.Binding (src.Variable k) i) args)) h = absurd h
precedes_fill a n b h = tt

precedes : (a b : Stmt) → IsUnbound b → Precedes a b
precedes a (src.Evaluate line (src.OfObject (src.Bind (src.Variable k) (src.OfObject src.NewCluster)))) h = absurd h
precedes a (src.Evaluate line (src.OfObject (src.Bind (src.Variable k) (src.OfObject (src.NewProcessor e))))) h = absurd h
precedes a (src.Evaluate line (src.OfObject (src.MakeOn c r written (src.Variable k) args))) h = absurd h
precedes a (src.Fill line n b d) h = precedes_fill a n b h
precedes a b h = tt

opens_array : (a : Stmt) (n : ℕ) (e : Expr) → EndsNone e → OpensArray a n e
opens_array a n (src.OfObject (src.EndCluster (src.Load (src.Element m src.Binding (src.Variable k) i)))) h = absurd h
opens_array a n (src.OfObject (src.EndProcessor (src.Load (src.Element m src.Binding (src.Variable k) i)))) h = absurd h
opens_array a n (src.OfObject (src.EndOn r written (src.Load (src.Element m src.Binding (src.Variable k) i)))) h = absurd h
opens_array a n e h = tt

opens : (a : Stmt) (c : CleanUp) → IsUnscoped c → OpensBound a c
opens a (src.Destroys (src.OfObject (src.EndCluster (src.Load (src.Variable k))))) h = absurd h
opens a (src.Destroys (src.OfObject (src.EndProcessor (src.Load (src.Variable k))))) h = absurd h
opens a (src.Destroys (src.OfObject (src.EndOn r written (src.Load (src.Variable k))))) h = absurd h
opens a (src.DestroysAll n e) h = opens_array a n e h
opens a c h = tt

pub follows : (a : Stmt) (rest : Stmts) → Begins rest → Follows a rest
follows a src.Nil h = tt
follows a (src.Then b rest) h = precedes a b h
follows a (src.Scoped c rest) h = opens a c h
follows a (src.Built c rest) h = tt

-- what programs write binds nothing
pub unbound_ordinary : (line : ℕ) (e : Expr) → Ordinary e → IsUnbound (src.Evaluate line e)
unbound_ordinary line (src.OfObject (src.Bind p e)) h = absurd h
unbound_ordinary line (src.OfObject (src.MakeOn c r written p args)) h = absurd h
unbound_ordinary line e h = tt

-- objects

unbound_called : (p : Program) (i line : ℕ) (place : Expr) (args : List Meant) (r : Option ℕ) (a : Stmt) → Precedes a (src.Evaluate line (meaning.called_by p i role.Constructor place args r))
unbound_called p i line place args None a = tt
unbound_called p i line place args (Some r) a = tt

declared_made : (p : Program) (i line m k n : ℕ) (args : List Meant) (r : Option ℕ) → 1 ≤ n → Precedes (src.Declare line (record { cell = k; cells = n; value = None } ∷ [])) (src.Evaluate m (meaning.made_by p i (src.Variable k) args r))
declared_made p i line m k n args None h = (refl, refl, h)
declared_made p i line m k n args (Some r) h = (refl, refl, h)

-- what is known by its number
abbrev pub IsByNumber : Making → Type 0
IsByNumber (APlain i) = ⊥
IsByNumber m = Unit {0}

-- the elements of an array are built without arguments
no_args : (xs : List Param) → args_by xs [] ≡ src.NoExprs
no_args [] = refl
no_args (x ∷ xs) = refl

-- that of so many at a variable which is counted
abbrev counted_of : ℕ → ℕ → Expr
counted_of k l = src.Element l src.Binding (src.Variable k) (src.OfObject src.Counted)

binds_made : (p : Program) (i k l : ℕ) (r : Option ℕ) → BindsElement k l (meaning.made_by p i (counted_of k l) [] r)
binds_made p i k l None = (refl, refl)
binds_made p i k l (Some r) =
    subst (λ (es : Exprs). BindsElement k l (src.OfObject (src.MakeOn (number_at p i) r true (counted_of k l) es))) (sym (no_args (params_of p r))) (refl, refl)

filled_called : (p : Program) (i n : ℕ) (place : Expr) (r : Option ℕ) (a : Stmt) → PrecedesFill a n (meaning.called_by p i role.Constructor place [] r)
filled_called p i n place None a = tt
filled_called p i n place (Some r) a = tt

filled_made : (p : Program) (i line k n l : ℕ) (r : Option ℕ) → l ≤ n → PrecedesFill (src.Declare line (record { cell = k; cells = n; value = None } ∷ [])) l (meaning.made_by p i (counted_of k l) [] r)
filled_made p i line k n l None h = ((refl, refl, h), binds_made p i k l None)
filled_made p i line k n l (Some r) h = ((refl, refl, h), binds_made p i k l (Some r))

-- a variable is declared right before it is built
pub declared : (p : Program) (line : ℕ) (m : Making) (len : Option ℕ) (k n : ℕ) (args : List Meant) → (len ≡ None → IsByNumber m → 1 ≤ n) → ((l : ℕ) → len ≡ Some l → IsByNumber m → l ≤ n) → Precedes (src.Declare line (record { cell = k; cells = n; value = None } ∷ [])) (meaning.build p line m len (src.Variable k) args)
declared p line (APlain i) None k n args h g = unbound_called p i line (src.Variable k) args (written_at p i role.Constructor) (src.Declare line (record { cell = k; cells = n; value = None } ∷ []))
declared p line (AMutex i) None k n args h g = declared_made p i line line k n args (written_at p i role.Constructor) (h refl tt)
declared p line ACluster None k n args h g = (refl, refl, h refl tt)
declared p line AProcessor None k n args h g = (refl, refl, h refl tt)
declared p line (APlain i) (Some l) k n args h g =
    filled_called p i l (meaning.counted_element p (APlain i) l (src.Variable k)) (written_at p i role.Constructor) (src.Declare line (record { cell = k; cells = n; value = None } ∷ []))
declared p line (AMutex i) (Some l) k n args h g = filled_made p i line k n l (written_at p i role.Constructor) (g l refl tt)
declared p line ACluster (Some l) k n args h g = ((refl, refl, g l refl tt), (refl, refl))
declared p line AProcessor (Some l) k n args h g = ((refl, refl, g l refl tt), (refl, refl))

opened_called : (p : Program) (i : ℕ) (place : Expr) (r : Option ℕ) (a : Stmt) → OpensBound a (src.Destroys (meaning.called_by p i role.Destructor place [] r))
opened_called p i place None a = tt
opened_called p i place (Some r) a = tt

opened_ended : (p : Program) (i line k : ℕ) (args : List Meant) (r q : Option ℕ) → OpensBound (src.Evaluate line (meaning.made_by p i (src.Variable k) args q)) (src.Destroys (meaning.ended_by p i (src.Load (src.Variable k)) r))
opened_ended p i line k args None None = refl
opened_ended p i line k args None (Some q) = refl
opened_ended p i line k args (Some r) None = refl
opened_ended p i line k args (Some r) (Some q) = refl

all_called : (p : Program) (i n : ℕ) (place : Expr) (r : Option ℕ) (a : Stmt) → OpensArray a n (meaning.called_by p i role.Destructor place [] r)
all_called p i n place None a = tt
all_called p i n place (Some r) a = tt

all_ended : (p : Program) (i k l : ℕ) (r : Option ℕ) (a : Stmt) → FillsArray k l a → OpensArray a l (meaning.ended_by p i (src.Load (counted_of k l)) r)
all_ended p i k l None a h = h
all_ended p i k l (Some r) a h = h

-- and its scope opens right behind that
pub opened : (p : Program) (line : ℕ) (m : Making) (len : Option ℕ) (k : ℕ) (args : List Meant) → OpensBound (meaning.build p line m len (src.Variable k) args) (meaning.clean_up p m len (src.Variable k))
opened p line (APlain i) None k args = opened_called p i (src.Variable k) (written_at p i role.Destructor) (meaning.build p line (APlain i) None (src.Variable k) args)
opened p line (AMutex i) None k args = opened_ended p i line k args (written_at p i role.Destructor) (written_at p i role.Constructor)
opened p line ACluster None k args = refl
opened p line AProcessor None k args = refl
opened p line (APlain i) (Some l) k args =
    all_called p i l (meaning.counted_element p (APlain i) l (src.Variable k)) (written_at p i role.Destructor) (meaning.build p line (APlain i) (Some l) (src.Variable k) args)
opened p line (AMutex i) (Some l) k args =
    all_ended p i k l (written_at p i role.Destructor) (meaning.build p line (AMutex i) (Some l) (src.Variable k) args) (refl, binds_made p i k l (written_at p i role.Constructor))
opened p line ACluster (Some l) k args = (refl, (refl, refl))
opened p line AProcessor (Some l) k args = (refl, (refl, refl))

-- a field is none

pub unbound_field : (p : Program) (line : ℕ) (m : Making) (len : Option ℕ) (s : src.Shape) (i : ℕ) (args : List Meant) → IsUnbound (meaning.build p line m len (src.OfObject (src.OwnField s i)) args)
unbound_field p line (APlain c) None s i args = by (written_at p c role.Constructor)
  where
    by : (r : Option ℕ) → IsUnbound (src.Evaluate line (meaning.called_by p c role.Constructor (src.OfObject (src.OwnField s i)) args r))
    by None = tt
    by (Some r) = tt
unbound_field p line (AMutex c) None s i args = by (written_at p c role.Constructor)
  where
    by : (r : Option ℕ) → IsUnbound (src.Evaluate line (meaning.made_by p c (src.OfObject (src.OwnField s i)) args r))
    by None = tt
    by (Some r) = tt
unbound_field p line ACluster None s i args = tt
unbound_field p line AProcessor None s i args = tt
unbound_field p line (APlain c) (Some n) s i args = by (written_at p c role.Constructor)
  where
    by : (r : Option ℕ) → FillsNone (meaning.called_by p c role.Constructor (meaning.counted_element p (APlain c) n (src.OfObject (src.OwnField s i))) [] r)
    by None = tt
    by (Some r) = tt
unbound_field p line (AMutex c) (Some n) s i args = by (written_at p c role.Constructor)
  where
    by : (r : Option ℕ) → FillsNone (meaning.made_by p c (meaning.counted_element p (AMutex c) n (src.OfObject (src.OwnField s i))) [] r)
    by None = tt
    by (Some r) = tt
unbound_field p line ACluster (Some n) s i args = tt
unbound_field p line AProcessor (Some n) s i args = tt

pub unscoped_field : (p : Program) (m : Making) (len : Option ℕ) (s : src.Shape) (i : ℕ) → IsUnscoped (meaning.clean_up p m len (src.OfObject (src.OwnField s i)))
unscoped_field p (APlain c) None s i = by (written_at p c role.Destructor)
  where
    by : (r : Option ℕ) → IsUnscoped (src.Destroys (meaning.called_by p c role.Destructor (src.OfObject (src.OwnField s i)) [] r))
    by None = tt
    by (Some r) = tt
unscoped_field p (AMutex c) None s i = by (written_at p c role.Destructor)
  where
    by : (r : Option ℕ) → IsUnscoped (src.Destroys (meaning.ended_by p c (src.Load (src.OfObject (src.OwnField s i))) r))
    by None = tt
    by (Some r) = tt
unscoped_field p ACluster None s i = tt
unscoped_field p AProcessor None s i = tt
unscoped_field p (APlain c) (Some n) s i = by (written_at p c role.Destructor)
  where
    by : (r : Option ℕ) → EndsNone (meaning.called_by p c role.Destructor (meaning.counted_element p (APlain c) n (src.OfObject (src.OwnField s i))) [] r)
    by None = tt
    by (Some r) = tt
unscoped_field p (AMutex c) (Some n) s i = by (written_at p c role.Destructor)
  where
    by : (r : Option ℕ) → EndsNone (meaning.ended_by p c (src.Load (meaning.counted_element p (AMutex c) n (src.OfObject (src.OwnField s i)))) r)
    by None = tt
    by (Some r) = tt
unscoped_field p ACluster (Some n) s i = tt
unscoped_field p AProcessor (Some n) s i = tt
