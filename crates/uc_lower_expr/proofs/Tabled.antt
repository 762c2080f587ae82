-- Tables of the routines of classes, as routine after routine is noted in them.
use Rattle.std.proofs.Common.{◌≡◌, ◌≢◌, Bor, ℕ, zero, suc, ◌+◌, ◌<◌, List, [], ◌∷◌, ◌++◌, Option, Some, None, take, length, map, refl, ap, sym, subst, ◌∙◌, arith}
use Rattle.std.proofs.lemmas.List.{length-append, length-map, take_all}
use Rattle.std.specs.Prelude.{slice_get, slice_set, MatchOption, option_map}
use Rattle.std.proofs.lemmas.Option.{slice_get-map}
use Rattle.uc_names.specs.Blocks.{Block}
use Rattle.uc_tree.specs.declared.kinds.Role.{Role}
use Rattle.uc_tree.specs.declared.kinds.Role.TheVariants as roles
use Rattle.uc_tree.specs.Programs.{Class, Routine, Program}
use Rattle.uc_tree.specs.Cells.{classes_of}
use Rattle.uc_tree.specs.Numbering.{Defined, routines_of}
use Rattle.uc_tree.specs.Objects.{class_at, number_at}
use Rattle.uc_lower_expr.specs.declared.routine_table.RoutineTable.{RoutineTable}
use Rattle.uc_lower_expr.specs.Known.{HasRoutines}
use Rattle.uc_lower_expr.specs.Members.{AreByNumber, AreRoutines}
use Rattle.uc_lower_expr.specs.Numbered.{AreAmong, number_of_class}
use Rattle.uc_lower_expr.specs.RoutineTables.{NoteOne, noted_in, routed}
use Rattle.uc_lower_expr.proofs.Knowing.{number_here, number_few}
use Rattle.uc_lower_expr.proofs.Noting.{last_of, past, beyond}
use Rattle.uc_lower_expr.proofs.Owned.{routines_in, owners_in, IsNext, next_is}
use Rattle.uc_lower_expr.proofs.Routing.{own_routine, other_routine, noted_long}

-- so many tables, of no routines
pub record AreBlank (count : ℕ) (ts : List RoutineTable) : Type 0 where
  pub long : length ts ≡ count
  pub each : (number : ℕ) (t : RoutineTable) → slice_get ts number ≡ Some t → AreRoutines [] number t

pub blank_none : AreBlank 0 []
blank_none = record { long = refl; each = λ n t e. absurd (cc) }

pub blank_more : (count : ℕ) (ts : List RoutineTable) (t : RoutineTable) → ((number : ℕ) → AreRoutines [] number t) → AreBlank count ts → AreBlank (count + 1) (ts ++ t ∷ [])
blank_more count ts t new h = record {
  long = length-append ts (t ∷ []) ∙ ap (λ n. n + 1) h.long;
  each = λ n u e. last_of (AreRoutines [] n u) ts t n u e (λ b. h.each n u b) (λ m q. subst (λ (x : RoutineTable). AreRoutines [] n x) q (new n));
}

-- so many tables of the first so many of these routines, which are of the classes of these numbers
pub record AreThrough (rs : List Routine) (ns : List ℕ) (count place : ℕ) (ts : List RoutineTable) : Type 0 where
  pub long : length ts ≡ count
  pub one : (number : ℕ) (t : RoutineTable) → slice_get ts number ≡ Some t → length t.members ≡ 1
  pub each : (ds : List Defined) (number : ℕ) (t : RoutineTable) → routines_in ds ≡ rs → owners_in ds ≡ ns → slice_get ts number ≡ Some t → AreRoutines (take place ds) number t

pub through_none : (rs : List Routine) (ns : List ℕ) (count : ℕ) (ts : List RoutineTable) → length ts ≡ count → ((number : ℕ) (t : RoutineTable) → slice_get ts number ≡ Some t → AreRoutines [] number t) → AreThrough rs ns count 0 ts
through_none rs ns count ts long each = record {
  long = long;
  one = λ n t e. (each n t e).one;
  each = λ ds n t a b e. each n t e;
}

-- an element of a list in which one was set
set_of : {A : Type 0} (P : Type 0) (xs : List A) (k j : ℕ) (v u : A) → slice_get (slice_set xs k v) j ≡ Some u → (k ≡ j → v ≡ u → P) → (k ≢ j → slice_get xs j ≡ Some u → P) → P
set_of P [] k j v u e here other = absurd (cc)
set_of P (x ∷ xs) zero zero v u e here other = here refl cc
set_of P (x ∷ xs) zero (suc j) v u e here other = other (λ q. absurd (omega (arith, q))) e
set_of P (x ∷ xs) (suc k) zero v u e here other = other (λ q. absurd (omega (arith, q))) e
set_of P (x ∷ xs) (suc k) (suc j) v u e here other = set_of P xs k j v u e (λ a b. here (ap suc a) b) (λ a b. other (λ q. a (omega (arith, q))) b)

set_long : {A : Type 0} (xs : List A) (k : ℕ) (v : A) → length (slice_set xs k v) ≡ length xs
set_long [] k v = refl
set_long (x ∷ xs) zero v = refl
set_long (x ∷ xs) (suc k) v = ap suc (set_long xs k v)

still_one : (t : RoutineTable) (role : Role) (name : List ℕ) (k : ℕ) → length (routed role name k t).members ≡ length t.members
still_one t roles.Plain name k = noted_long t.members name k
still_one t roles.Constructor name k = refl
still_one t roles.Destructor name k = refl

module _ (rs : List Routine) (ns : List ℕ) (count place : ℕ) (r : Routine) (n : ℕ) (there : slice_get rs place ≡ Some r) (owned : slice_get ns place ≡ Some n) where
  next : (ds : List Defined) → routines_in ds ≡ rs → owners_in ds ≡ ns → IsNext ds place r n
  next ds a b = next_is ds place r n (ap (λ xs. slice_get xs place) a ∙ there) (ap (λ xs. slice_get xs place) b ∙ owned)

  -- a table of another class
  other_next : (ds : List Defined) (number : ℕ) (t : RoutineTable) → n ≢ number → AreRoutines (take place ds) number t → IsNext ds place r n → AreRoutines (take (place + 1) ds) number t
  other_next ds number t apart was x =
      let e : place + 1 ≡ suc place = omega arith in
      subst (λ k. AreRoutines (take k ds) number t) (sym e) (subst (λ xs. AreRoutines xs number t) (sym x.more) (other_routine (take place ds) x.one number t (λ q. apart (sym x.number ∙ q)) was))

  -- that of its class
  own_next : (ds : List Defined) (number : ℕ) (t : RoutineTable) → n ≡ number → AreRoutines (take place ds) number t → IsNext ds place r n → AreRoutines (take (place + 1) ds) number (routed r.sig.role r.sig.name place t)
  own_next ds number t same was x =
      let e : place + 1 ≡ suc place = omega arith in
      let own = own_routine (take place ds) x.one number (x.number ∙ same) t was in
      let is : AreRoutines (take place ds ++ x.one ∷ []) number (routed r.sig.role r.sig.name place t) = subst (λ (y : Routine). AreRoutines (take place ds ++ x.one ∷ []) number (routed y.sig.role y.sig.name place t)) x.routine (subst (λ k. AreRoutines (take place ds ++ x.one ∷ []) number (routed x.one.routine.sig.role x.one.routine.sig.name k t)) x.long own) in
      subst (λ k. AreRoutines (take k ds) number (routed r.sig.role r.sig.name place t)) (sym e) (subst (λ xs. AreRoutines xs number (routed r.sig.role r.sig.name place t)) (sym x.more) is)

  through_by : (ts : List RoutineTable) → AreThrough rs ns count place ts → (o : Option RoutineTable) → slice_get ts n ≡ o → AreThrough rs ns count (place + 1) (noted_in o n r place ts)
  through_by ts h None e = record {
    long = h.long;
    one = h.one;
    each = λ ds number t a b g. other_next ds number t (λ q. let f : None ≡ Some t = sym e ∙ ap (λ k. slice_get ts k) q ∙ g in absurd (cc)) (h.each ds number t a b g) (next ds a b);
  }
  through_by ts h (Some u) e = record {
    long = set_long ts n (routed r.sig.role r.sig.name place u) ∙ h.long;
    one = λ number t g. set_of (length t.members ≡ 1) ts n number (routed r.sig.role r.sig.name place u) t g (λ q w. ap (λ (x : RoutineTable). length x.members) (sym w) ∙ still_one u r.sig.role r.sig.name place ∙ h.one n u e) (λ q w. h.one number t w);
    each = λ ds number t a b g. set_of (AreRoutines (take (place + 1) ds) number t) ts n number (routed r.sig.role r.sig.name place u) t g
        (λ q w. subst (λ (x : RoutineTable). AreRoutines (take (place + 1) ds) number x) w (own_next ds number u q (h.each ds number u a b (ap (λ k. slice_get ts k) (sym q) ∙ e)) (next ds a b)))
        (λ q w. other_next ds number t q (h.each ds number t a b w) (next ds a b));
  }

  pub through_more : (old new : List RoutineTable) → NoteOne n r place old new → AreThrough rs ns count place old → AreThrough rs ns count (place + 1) new
  through_more old new e h = subst (λ ts. AreThrough rs ns count (place + 1) ts) (sym e) (through_by old h (slice_get old n) refl)

  -- the names of routines outside of classes
  pub among_more : (ds : List Defined) (numbers : List Block) → routines_in ds ≡ rs → owners_in ds ≡ ns → ((d : Defined) → d.routine ≡ r → d.number ≡ n → length (take place ds) ≡ place → AreAmong (take place ds ++ d ∷ []) numbers) → AreAmong (take (place + 1) ds) numbers
  among_more ds numbers a b h =
      let x = next ds a b in
      let e : place + 1 ≡ suc place = omega arith in
      subst (λ k. AreAmong (take k ds) numbers) (sym e) (subst (λ xs. AreAmong xs numbers) (sym x.more) (h x.one x.routine x.number x.long))

pub all_taken : (ds : List Defined) (rs : List Routine) (k : ℕ) → routines_in ds ≡ rs → length rs ≡ k → take k ds ≡ ds
all_taken ds rs k e l =
    let a = length-map ds (λ (d : Defined). d.routine) in
    let b : length (routines_in ds) ≡ length rs = ap length e in
    take_all k ds (omega (arith, a, b, l))

pub through_all : (rs : List Routine) (ns : List ℕ) (count k : ℕ) (ts : List RoutineTable) → length rs ≡ k → AreThrough rs ns count k ts → (ds : List Defined) (number : ℕ) (t : RoutineTable) → routines_in ds ≡ rs → owners_in ds ≡ ns → slice_get ts number ≡ Some t → AreRoutines ds number t
through_all rs ns count k ts l h ds number t a b g = subst (λ xs. AreRoutines xs number t) (all_taken ds rs k a l) (h.each ds number t a b g)

-- the table of a class

module _ (p : Program) (numbers : List ℕ) (i : ℕ) (are : numbers ≡ map (number_of_class p) (classes_of p.items)) where
  number_by : (n : ℕ) → slice_get numbers i ≡ Some n → (o : Option Class) → class_at p i ≡ o → option_map (number_of_class p) o ≡ Some n
  number_by n e o h = ap (option_map (number_of_class p)) (sym h) ∙ sym (slice_get-map (number_of_class p) (classes_of p.items) i) ∙ ap (λ xs. slice_get xs i) (sym are) ∙ e

  -- its number is that of the class, of which there is a table
  number_case : (ts : List RoutineTable) (n : ℕ) → slice_get numbers i ≡ Some n → AreByNumber p ts → (o : Option Class) → class_at p i ≡ o → (n < length ts) × (n ≡ number_at p i)
  number_case ts n e by None h = let f : None ≡ Some n = number_by n e None h in absurd (cc)
  number_case ts n e by (Some c) h =
      let f : Some (number_of_class p c) ≡ Some n = number_by n e (Some c) h in
      let is : number_of_class p c ≡ n = cc in
      let few = number_few p c in
      let long = by.long in
      (omega (arith, is, few, long), sym is ∙ sym (number_here p i c h))

  class_here : (n : ℕ) → slice_get numbers i ≡ Some n → (t : RoutineTable) → AreRoutines (routines_of p) (number_at p i) t → (o : Option Class) → class_at p i ≡ o → HasRoutines p i t
  class_here n e t h None f = let g : None ≡ Some n = number_by n e None f in absurd (cc)
  class_here n e t h (Some c) f = record { class = c; there = f; routines = h }

  pub table_here : (ts : List RoutineTable) (n : ℕ) (t : RoutineTable) → slice_get numbers i ≡ Some n → slice_get ts n ≡ Some t → AreByNumber p ts → HasRoutines p i t
  table_here ts n t e g by = let w = number_case ts n e by (class_at p i) refl in class_here n e t (subst (λ k. AreRoutines (routines_of p) k t) w.1 (by.each n t g)) (class_at p i) refl

  pub table_told : (ts : List RoutineTable) (n : ℕ) → slice_get numbers i ≡ Some n → AreByNumber p ts → (o : Option (Bor RoutineTable)) → MatchOption o (slice_get ts n ≡ None) (λ t. slice_get ts n ≡ Some t.now) → MatchOption o (class_at p i ≡ None) (λ t. HasRoutines p i t.now)
  table_told ts n e by None g = let w = (number_case ts n e by (class_at p i) refl).0 in let h = past ts n g in absurd (omega (arith, w, h))
  table_told ts n e by (Some t) g = table_here ts n t.now e g by

  pub no_table : slice_get numbers i ≡ None → class_at p i ≡ None
  no_table e =
      let a = past numbers i e in
      let b : length numbers ≡ length (classes_of p.items) = ap length are ∙ length-map (classes_of p.items) (number_of_class p) in
      beyond (classes_of p.items) i (omega (arith, a, b))
