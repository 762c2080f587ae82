-- Each constructor and destructor that nobody wrote has the number of its place in the list of them.
use Rattle.std.proofs.Common.{◌≡◌, ℕ, zero, suc, ◌+◌, ◌≤◌, ◌<◌, List, [], ◌∷◌, ◌++◌, Bool, true, false, not, ◌&&◌, ◌||◌, Option, Some, None, if◌then◌else◌, length, nat_eq, refl, ap, sym, subst, ◌∙◌, arith, true≢false}
use Rattle.std.specs.Prelude.{slice_get}
use Rattle.std.proofs.lemmas.Bool.{eq-eqb}
use Rattle.uc_tree.specs.declared.kinds.Role.{Role}
use Rattle.uc_tree.specs.declared.kinds.Role.TheVariants as role
use Rattle.uc_tree.specs.Programs.{Class, Program}
use Rattle.uc_tree.specs.Cells.{classes_of}
use Rattle.uc_tree.specs.Numbering.{is_event, is_plain, routines_of}
use Rattle.uc_tree.specs.Objects.{class_at, class_height, same_role, Unwritten, written_at, unwritten_by, unwritten_at, unwritten_of_height, unwritten_up_to, unwritten_of, place_among}
use Rattle.uc_implicit.proofs.Order.{stands, is_it, join_stands, own_at, elsewhere, has_height, eqb_same, same_self}
use Rattle.uc_lower_class.specs.Bodies.{IsUnwritten}

-- what is asked of each, its number apart
pub record IsListed (p : Program) (u : Unwritten) : Type 0 where
  pub class : Class
  pub there : class_at p u.class ≡ Some class
  pub object : is_event class.kind ≡ false
  pub builds : is_plain u.role ≡ false
  pub none : written_at p u.class u.role ≡ None

abbrev pub AreListed : Program → List Unwritten → Type 0
AreListed p [] = Unit {0}
AreListed p (u ∷ us) = IsListed p u × AreListed p us

listed_join : (p : Program) (xs ys : List Unwritten) → AreListed p xs → AreListed p ys → AreListed p (xs ++ ys)
listed_join p [] ys a b = b
listed_join p (x ∷ xs) ys a b = (a.0, listed_join p xs ys a.1 b)

by_listed : (p : Program) (i : ℕ) (c : Class) (r : Role) → class_at p i ≡ Some c → is_event c.kind ≡ false → is_plain r ≡ false → (o : Option ℕ) → written_at p i r ≡ o → AreListed p (unwritten_by o i r)
by_listed p i c r e v b None w = (record { class = c; there = e; object = v; builds = b; none = w }, tt)
by_listed p i c r e v b (Some n) w = tt

at_listed : (p : Program) (i : ℕ) (c : Class) → class_at p i ≡ Some c → is_event c.kind ≡ false → AreListed p (unwritten_at p i)
at_listed p i c e v =
    listed_join p (unwritten_by (written_at p i role.Constructor) i role.Constructor) (unwritten_by (written_at p i role.Destructor) i role.Destructor)
    (by_listed p i c role.Constructor e v refl (written_at p i role.Constructor) refl)
    (by_listed p i c role.Destructor e v refl (written_at p i role.Destructor) refl)

height_listed : (p : Program) (h : ℕ) (cs : List Class) (first : ℕ) → ((j : ℕ) (c : Class) → slice_get cs j ≡ Some c → class_at p (first + j) ≡ Some c) → AreListed p (unwritten_of_height p h cs first)
height_listed p h [] first f = tt
height_listed p h (c ∷ cs) first f =
    listed_join p (if not (is_event c.kind) && nat_eq (class_height p first) h then unwritten_at p first else []) (unwritten_of_height p h cs (first + 1))
    (own_listed (is_event c.kind) (nat_eq (class_height p first) h) refl)
    (height_listed p h cs (first + 1) (λ j x e. let z : first + suc j ≡ first + 1 + j = omega arith in ap (class_at p) (sym z) ∙ f (suc j) x e))
  where
    own_listed : (e b : Bool) → is_event c.kind ≡ e → AreListed p (if not e && b then unwritten_at p first else [])
    own_listed true b v = tt
    own_listed false false v = tt
    own_listed false true v = let z : first + 0 ≡ first = omega arith in at_listed p first c (ap (class_at p) (sym z) ∙ f 0 c refl) v

up_listed : (p : Program) (h : ℕ) → AreListed p (unwritten_up_to p h)
up_listed p zero = height_listed p zero (classes_of p.items) 0 (λ j c e. let z : 0 + j ≡ j = omega arith in ap (class_at p) z ∙ e)
up_listed p (suc h) = listed_join p (unwritten_of_height p (suc h) (classes_of p.items) 0) (unwritten_up_to p h) (height_listed p (suc h) (classes_of p.items) 0 (λ j c e. let z : 0 + j ≡ j = omega arith in ap (class_at p) z ∙ e)) (up_listed p h)

listed_at : (p : Program) (us : List Unwritten) (k : ℕ) (u : Unwritten) → AreListed p us → slice_get us k ≡ Some u → IsListed p u
listed_at p [] k u a e = cc
listed_at p (x ∷ xs) zero u a e = let is : x ≡ u = cc in subst (IsListed p) is a.0
listed_at p (x ∷ xs) (suc k) u a e = listed_at p xs k u a.1 e

-- none of them stands twice

abbrev Once : List Unwritten → Type 0
Once [] = Unit {0}
Once (u ∷ us) = (stands us u.class u.role ≡ false) × Once us

or_none : (a b : Bool) → a ≡ false → b ≡ false → (a || b) ≡ false
or_none a b e f = ap (λ t. t || b) e ∙ f

not_true : (b : Bool) → (b ≡ true → ⊥) → b ≡ false
not_true true h = absurd (h refl)
not_true false h = refl

-- two lists that have nothing in common
once_join : (xs ys : List Unwritten) → Once xs → Once ys → ((i : ℕ) (r : Role) → stands xs i r ≡ true → stands ys i r ≡ false) → Once (xs ++ ys)
once_join [] ys a b f = b
once_join (x ∷ xs) ys a b f = (
  join_stands xs ys x.class x.role ∙ or_none (stands xs x.class x.role) (stands ys x.class x.role) a.0 (f x.class x.role (first (is_it x.class x.role x) (stands xs x.class x.role) (ap (λ b. b && same_role x.role x.role) (eq-eqb x.class x.class refl) ∙ same_self x.role))),
  once_join xs ys a.1 b (λ i r s. f i r (later (is_it i r x) (stands xs i r) s)),
)
  where
    first : (a b : Bool) → a ≡ true → (a || b) ≡ true
    first a b e = ap (λ t. t || b) e

    later : (a b : Bool) → b ≡ true → (a || b) ≡ true
    later true b e = refl
    later false b e = e

by_once : (o : Option ℕ) (i : ℕ) (r : Role) → Once (unwritten_by o i r)
by_once None i r = (refl, tt)
by_once (Some n) i r = tt

by_other : (o : Option ℕ) (i j : ℕ) (r s : Role) → same_role s r ≡ false → stands (unwritten_by o i r) j s ≡ false
by_other (Some n) i j r s e = refl
by_other None i j r s e = or_none (nat_eq i j && same_role s r) false (ap (λ t. nat_eq i j && t) e ∙ and_no (nat_eq i j)) refl
  where
    and_no : (a : Bool) → (a && false) ≡ false
    and_no true = refl
    and_no false = refl

by_role : (o : Option ℕ) (i j : ℕ) (r s : Role) → stands (unwritten_by o i r) j s ≡ true → same_role s r ≡ true
by_role (Some n) i j r s e = cc
by_role None i j r s e = second (nat_eq i j) (same_role s r) (whole (nat_eq i j && same_role s r) e)
  where
    whole : (a : Bool) → (a || false) ≡ true → a ≡ true
    whole true e = refl
    whole false e = cc

    second : (a b : Bool) → (a && b) ≡ true → b ≡ true
    second true b e = e
    second false b e = cc

roles_differ : (s : Role) → same_role s role.Constructor ≡ true → same_role s role.Destructor ≡ false
roles_differ role.Plain e = cc
roles_differ role.Constructor e = refl
roles_differ role.Destructor e = cc

at_once : (p : Program) (i : ℕ) → Once (unwritten_at p i)
at_once p i =
    once_join (unwritten_by (written_at p i role.Constructor) i role.Constructor) (unwritten_by (written_at p i role.Destructor) i role.Destructor)
    (by_once (written_at p i role.Constructor) i role.Constructor) (by_once (written_at p i role.Destructor) i role.Destructor)
    (λ j s e. by_other (written_at p i role.Destructor) i j role.Destructor s (roles_differ s (by_role (written_at p i role.Constructor) i j role.Constructor s e)))

-- those of later classes are of later classes
later_stands : (p : Program) (h : ℕ) (cs : List Class) (first i : ℕ) (r : Role) → stands (unwritten_of_height p h cs first) i r ≡ true → first ≤ i
later_stands p h [] first i r e = cc
later_stands p h (c ∷ cs) first i r e =
    by_part (later_stands p h cs (first + 1) i r) (is_event c.kind) (nat_eq (class_height p first) h) (sym (join_stands (if not (is_event c.kind) && nat_eq (class_height p first) h then unwritten_at p first else []) (unwritten_of_height p h cs (first + 1)) i r) ∙ e)
  where
    own_part : (b rest : Bool) → stands (unwritten_at p first) i r ≡ b → (rest ≡ true → first + 1 ≤ i) → (b || rest) ≡ true → first ≤ i
    own_part true rest s f e = let is = own_at p first i r s in omega (arith, is)
    own_part false rest s f e = let l = f e in omega (arith, l)

    by_part : (stands (unwritten_of_height p h cs (first + 1)) i r ≡ true → first + 1 ≤ i) → (v b : Bool) → (stands (if not v && b then unwritten_at p first else []) i r || stands (unwritten_of_height p h cs (first + 1)) i r) ≡ true → first ≤ i
    by_part f true b e = let l = f e in omega (arith, l)
    by_part f false false e = let l = f e in omega (arith, l)
    by_part f false true e = own_part (stands (unwritten_at p first) i r) (stands (unwritten_of_height p h cs (first + 1)) i r) refl f e

height_once : (p : Program) (h : ℕ) (cs : List Class) (first : ℕ) → Once (unwritten_of_height p h cs first)
height_once p h [] first = tt
height_once p h (c ∷ cs) first = by_part (is_event c.kind) (nat_eq (class_height p first) h) (height_once p h cs (first + 1))
  where
    by_part : (v b : Bool) → Once (unwritten_of_height p h cs (first + 1)) → Once ((if not v && b then unwritten_at p first else []) ++ unwritten_of_height p h cs (first + 1))
    by_part true b o = o
    by_part false false o = o
    by_part false true o =
        once_join (unwritten_at p first) (unwritten_of_height p h cs (first + 1)) (at_once p first) o
        (λ i r s. not_true (stands (unwritten_of_height p h cs (first + 1)) i r) (λ t. let is = own_at p first i r s in let l = later_stands p h cs (first + 1) i r t in absurd (omega (arith, is, l))))

-- those of lower classes are no others
lower_none : (p : Program) (h i : ℕ) (r : Role) → h < class_height p i → stands (unwritten_up_to p h) i r ≡ false
lower_none p zero i r l = elsewhere p zero i r (λ e. absurd (omega (arith, l, e)))
lower_none p (suc h) i r l =
    join_stands (unwritten_of_height p (suc h) (classes_of p.items) 0) (unwritten_up_to p h) i r
    ∙ or_none (stands (unwritten_of_height p (suc h) (classes_of p.items) 0) i r) (stands (unwritten_up_to p h) i r) (elsewhere p (suc h) i r (λ e. absurd (omega (arith, l, e)))) (lower_none p h i r (omega (arith, l)))

up_once : (p : Program) (h : ℕ) → Once (unwritten_up_to p h)
up_once p zero = height_once p zero (classes_of p.items) 0
up_once p (suc h) =
    once_join (unwritten_of_height p (suc h) (classes_of p.items) 0) (unwritten_up_to p h) (height_once p (suc h) (classes_of p.items) 0) (up_once p h)
    (λ i r s. let is = has_height p (suc h) (classes_of p.items) 0 i r s in lower_none p h i r (omega (arith, is)))

there_stands : (us : List Unwritten) (k : ℕ) (u : Unwritten) → slice_get us k ≡ Some u → stands us u.class u.role ≡ true
there_stands [] k u e = cc
there_stands (x ∷ xs) zero u e =
    let is : x ≡ u = cc in
    ap (λ (y : Unwritten). is_it u.class u.role y || stands xs u.class u.role) is ∙ ap (λ t. t || stands xs u.class u.role) (ap (λ b. b && same_role u.role u.role) (eq-eqb u.class u.class refl) ∙ same_self u.role)
there_stands (x ∷ xs) (suc k) u e = later (is_it u.class u.role x) (there_stands xs k u e)
  where
    later : (a : Bool) → stands xs u.class u.role ≡ true → (a || stands xs u.class u.role) ≡ true
    later true s = refl
    later false s = s

role_is : (a b : Role) → same_role a b ≡ true → a ≡ b
role_is role.Plain role.Plain e = refl
role_is role.Plain role.Constructor e = cc
role_is role.Plain role.Destructor e = cc
role_is role.Constructor role.Plain e = cc
role_is role.Constructor role.Constructor e = refl
role_is role.Constructor role.Destructor e = cc
role_is role.Destructor role.Plain e = cc
role_is role.Destructor role.Constructor e = cc
role_is role.Destructor role.Destructor e = refl

placed : (us : List Unwritten) (k : ℕ) (u : Unwritten) → Once us → slice_get us k ≡ Some u → place_among us u.class u.role ≡ k
placed [] k u o e = cc
placed (x ∷ xs) zero u o e =
    let is : x ≡ u = cc in
    ap (λ (y : Unwritten). if nat_eq y.class u.class && same_role u.role y.role then 0 else suc (place_among xs u.class u.role)) is
    ∙ ap (λ (b : Bool). if b then 0 else suc (place_among xs u.class u.role)) (ap (λ b. b && same_role u.role u.role) (eq-eqb u.class u.class refl) ∙ same_self u.role)
placed (x ∷ xs) (suc k) u o e = by_case (is_it u.class u.role x) refl (placed xs k u o.1 e)
  where
    both : (a b : Bool) → (a && b) ≡ true → (a ≡ true) × (b ≡ true)
    both true b e = (refl, e)
    both false b e = cc

    by_case : (b : Bool) → is_it u.class u.role x ≡ b → place_among xs u.class u.role ≡ k → (if b then 0 else suc (place_among xs u.class u.role)) ≡ suc k
    by_case true t m =
        let q = both (nat_eq x.class u.class) (same_role u.role x.role) t in
        let class : x.class ≡ u.class = eqb_same x.class u.class q.0 in
        let wanted : u.role ≡ x.role = role_is u.role x.role q.1 in
        let again : stands xs x.class x.role ≡ true = ap (λ i. stands xs i x.role) class ∙ ap (stands xs u.class) (sym wanted) ∙ there_stands xs k u e in
        absurd (true≢false (sym again ∙ o.0))
    by_case false t m = ap suc m

pub is_unwritten : (p : Program) (k : ℕ) (u : Unwritten) → slice_get (unwritten_of p) k ≡ Some u → IsUnwritten p u (length (routines_of p) + k)
is_unwritten p k u e =
    let l = listed_at p (unwritten_of p) k u (up_listed p (length (classes_of p.items))) e in
    let place = placed (unwritten_of p) k u (up_once p (length (classes_of p.items))) e in
    record { class = l.class; there = l.there; object = l.object; builds = l.builds; none = l.none; number_is = ap (λ n. length (routines_of p) + n) (sym place) }
