-- Tables of the numbers of routines, and the routines that they were made of.
use Rattle.std.proofs.Common.{◌≡◌, ℕ, suc, ◌+◌, List, [], ◌∷◌, ◌++◌, Bool, true, false, not, ◌&&◌, Option, Some, None, if◌then◌else◌, nat_eq, length, map, refl, ap, sym, subst, ◌∙◌, arith, is_some, true≢false}
use Rattle.std.specs.Prelude.{slice_get}
use Rattle.std.specs.Option.{option_map}
use Rattle.std.proofs.lemmas.Option.{slice_get-map}
use Rattle.std.specs.Cmp.Lexicographic.{bytes_decides}
use Rattle.uc_names.specs.Blocks.{Block, id_in, id_or, found, is_declared, declared}
use Rattle.uc_tree.specs.Names.{same_name}
use Rattle.uc_tree.specs.Programs.{Routine, Program}
use Rattle.uc_tree.specs.Numbering.{Defined, is_plain, routines_of}
use Rattle.uc_resolve.specs.Resolve.{is_here, is_named, routine_from, params_in, params_of, result_in, result_of}
use Rattle.uc_lower_expr.specs.Numbered.{is_called_alone, AreAmong}

all_three : (a b c : Bool) → (a && b) ≡ true → (a && (b && c)) ≡ c
all_three true true c e = refl
all_three true false c e = absurd (true≢false (sym e))
all_three false b c e = absurd (true≢false (sym e))

all_four : (z a b c : Bool) → (z && (a && b)) ≡ true → (z && (a && (b && c))) ≡ c
all_four true a b c e = all_three a b c e
all_four false a b c e = absurd (true≢false (sym e))

not_three : (a b c : Bool) → (a && b) ≡ false → (a && (b && c)) ≡ false
not_three true true c e = absurd (true≢false e)
not_three true false c e = refl
not_three false b c e = refl

not_four : (z a b c : Bool) → (z && (a && b)) ≡ false → (z && (a && (b && c))) ≡ false
not_four true a b c e = not_three a b c e
not_four false a b c e = refl

abbrev named_so : Defined → List ℕ → Bool
named_so d name = nat_eq d.number 0 && is_named d.routine.sig name

called_named : (d : Defined) (name : List ℕ) → is_called_alone d.number d.routine.sig ≡ true → named_so d name ≡ same_name d.routine.sig.name name
called_named d name e = all_four (nat_eq d.number 0) (is_here d.routine.sig.owner) (is_plain d.routine.sig.role) (same_name d.routine.sig.name name) e

not_named : (d : Defined) (name : List ℕ) → is_called_alone d.number d.routine.sig ≡ false → named_so d name ≡ false
not_named d name e = not_four (nat_eq d.number 0) (is_here d.routine.sig.owner) (is_plain d.routine.sig.role) (same_name d.routine.sig.name name) e

last_case : (i : ℕ) (b : Bool) (ds : List Defined) (d : Defined) (name : List ℕ) → routine_from (ds ++ d ∷ []) (suc i) name ≡ id_or (routine_from ds (suc i) name) (if named_so d name then Some (suc i + length ds) else None) → (if b then Some i else routine_from (ds ++ d ∷ []) (suc i) name) ≡ id_or (if b then Some i else routine_from ds (suc i) name) (if named_so d name then Some (i + suc (length ds)) else None)
last_case i true ds d name h = refl
last_case i false ds d name h = let e : suc i + length ds ≡ i + suc (length ds) = omega arith in h ∙ ap (λ k. id_or (routine_from ds (suc i) name) (if named_so d name then Some k else None)) e

number_last : (i : ℕ) (ds : List Defined) (d : Defined) (name : List ℕ) → routine_from (ds ++ d ∷ []) i name ≡ id_or (routine_from ds i name) (if named_so d name then Some (i + length ds) else None)
number_last i [] d name = let e : i + 0 ≡ i = omega arith in ap (λ k. if named_so d name then Some k else None) (sym e)
number_last i (y ∷ ys) d name = last_case i (named_so y name) ys d name (number_last (suc i) ys d name)

known_or : (o other : Option ℕ) → is_some o ≡ true → id_or o other ≡ o
known_or None other h = absurd (true≢false (sym h))
known_or (Some i) other h = refl

none_or : (o : Option ℕ) → id_or o None ≡ o
none_or None = refl
none_or (Some i) = refl

pub found_one : (b : Block) (name : List ℕ) → found (b ∷ []) name ≡ id_in b name
found_one b name = none_or (id_in b name)

no_id : (o : Option ℕ) → is_some o ≡ false → o ≡ None
no_id None h = refl
no_id (Some j) h = absurd (true≢false h)

pub stood_case : (b : Block) (x name : List ℕ) (o : Option ℕ) (i : ℕ) → o ≡ id_in b name → is_some (id_in b x) ≡ true → (t : Bool) → same_name x name ≡ t → id_or o (if t then Some i else None) ≡ o
stood_case b x name o i is stood true e =
    let same : x ≡ name = (bytes_decides x name).0 e in
    known_or o (Some i) (ap is_some is ∙ ap (λ n. is_some (id_in b n)) (sym same) ∙ stood)
stood_case b x name o i is stood false e = none_or o

pub new_case : (b : Block) (x name : List ℕ) (i : ℕ) → is_some (id_in b x) ≡ false → (t : Bool) → same_name x name ≡ t → (if t then Some i else id_in b name) ≡ id_or (id_in b name) (if t then Some i else None)
new_case b x name i new true e =
    let same : x ≡ name = (bytes_decides x name).0 e in
    let nothing : id_in b name ≡ None = no_id (id_in b name) (ap (λ n. is_some (id_in b n)) (sym same) ∙ new) in
    rw nothing refl
new_case b x name i new false e = sym (none_or (id_in b name))

-- a routine that is not called by its name alone
pub noted_none : (ds : List Defined) (d : Defined) (numbers : List Block) → is_called_alone d.number d.routine.sig ≡ false → AreAmong ds numbers → AreAmong (ds ++ d ∷ []) numbers
noted_none ds d numbers e was = record {
  one = was.one;
  at = λ name. was.at name ∙ sym (number_last 0 ds d name ∙ ap (λ (t : Bool). id_or (routine_from ds 0 name) (if t then Some (0 + length ds) else None)) (not_named d name e) ∙ none_or (routine_from ds 0 name));
}

module _ (ds : List Defined) (d : Defined) (place : ℕ) (long : length ds ≡ place) (called : is_called_alone d.number d.routine.sig ≡ true) where
  last_called : (name : List ℕ) → routine_from (ds ++ d ∷ []) 0 name ≡ id_or (routine_from ds 0 name) (if same_name d.routine.sig.name name then Some (0 + length ds) else None)
  last_called name = number_last 0 ds d name ∙ ap (λ (t : Bool). id_or (routine_from ds 0 name) (if t then Some (0 + length ds) else None)) (called_named d name called)

  noted_case : (b : Block) → AreAmong ds (b ∷ []) → (t : Bool) → is_some (id_in b d.routine.sig.name) ≡ t → AreAmong (ds ++ d ∷ []) (if not t then declared (b ∷ []) d.routine.sig.name place else (b ∷ []))
  noted_case b was true e = record {
    one = refl;
    at = λ name.
        let is : routine_from ds 0 name ≡ id_in b name = sym (was.at name) ∙ found_one b name in
        was.at name ∙ sym (last_called name ∙ stood_case b d.routine.sig.name name (routine_from ds 0 name) (0 + length ds) is e (same_name d.routine.sig.name name) refl);
  }
  noted_case b was false e = record {
    one = refl;
    at = λ name.
        let is : routine_from ds 0 name ≡ id_in b name = sym (was.at name) ∙ found_one b name in
        let count : place ≡ 0 + length ds = omega (arith, long) in
        found_one ((d.routine.sig.name, place) ∷ b) name
        ∙ new_case b d.routine.sig.name name place e (same_name d.routine.sig.name name) refl
        ∙ ap (λ k. id_or (id_in b name) (if same_name d.routine.sig.name name then Some k else None)) count
        ∙ ap (λ o. id_or o (if same_name d.routine.sig.name name then Some (0 + length ds) else None)) (sym is)
        ∙ sym (last_called name);
  }

  pub noted : (old new : List Block) (told : Bool) → told ≡ not (is_declared old d.routine.sig.name) → new ≡ (if told then declared old d.routine.sig.name place else old) → AreAmong ds old → AreAmong (ds ++ d ∷ []) new
  noted [] new told a e was = let one = was.one in absurd (omega (arith, one))
  noted (b ∷ []) new told a e was = subst (λ bs. AreAmong (ds ++ d ∷ []) bs) (sym (e ∙ ap (λ t. if t then declared (b ∷ []) d.routine.sig.name place else (b ∷ [])) a)) (noted_case b was (is_some (id_in b d.routine.sig.name)) refl)
  noted (b ∷ c ∷ bs) new told a e was = let one = was.one in absurd (omega (arith, one))

-- the routines of a program

params_by : (o : Option Defined) (q : Option Routine) → q ≡ option_map (λ d. d.routine) o → (r : Routine) → q ≡ Some r → params_in o ≡ r.sig.params
params_by None q e r f = absurd (cc)
params_by (Some d) q e r f = let is : d.routine ≡ r = cc in ap (λ (x : Routine). x.sig.params) is

no_params_by : (o : Option Defined) (q : Option Routine) → q ≡ option_map (λ d. d.routine) o → q ≡ None → params_in o ≡ []
no_params_by None q e f = refl
no_params_by (Some d) q e f = absurd (cc)

pub params_at : (p : Program) (xs : List Routine) (k : ℕ) (r : Routine) → xs ≡ map (λ d. d.routine) (routines_of p) → slice_get xs k ≡ Some r → params_of p k ≡ r.sig.params
params_at p xs k r e f = params_by (slice_get (routines_of p) k) (slice_get xs k) (ap (λ ys. slice_get ys k) e ∙ slice_get-map (λ (d : Defined). d.routine) (routines_of p) k) r f

pub no_params_at : (p : Program) (xs : List Routine) (k : ℕ) → xs ≡ map (λ d. d.routine) (routines_of p) → slice_get xs k ≡ None → params_of p k ≡ []
no_params_at p xs k e f = no_params_by (slice_get (routines_of p) k) (slice_get xs k) (ap (λ ys. slice_get ys k) e ∙ slice_get-map (λ (d : Defined). d.routine) (routines_of p) k) f

result_by : (o : Option Defined) (q : Option Routine) → q ≡ option_map (λ d. d.routine) o → (r : Routine) → q ≡ Some r → result_in o ≡ r.sig.ret
result_by None q e r f = absurd (cc)
result_by (Some d) q e r f = let is : d.routine ≡ r = cc in ap (λ (x : Routine). x.sig.ret) is

no_result_by : (o : Option Defined) (q : Option Routine) → q ≡ option_map (λ d. d.routine) o → q ≡ None → result_in o ≡ result_in None
no_result_by None q e f = refl
no_result_by (Some d) q e f = absurd (cc)

pub result_at : (p : Program) (xs : List Routine) (k : ℕ) (r : Routine) → xs ≡ map (λ d. d.routine) (routines_of p) → slice_get xs k ≡ Some r → result_of p k ≡ r.sig.ret
result_at p xs k r e f = result_by (slice_get (routines_of p) k) (slice_get xs k) (ap (λ ys. slice_get ys k) e ∙ slice_get-map (λ (d : Defined). d.routine) (routines_of p) k) r f

pub no_result_at : (p : Program) (xs : List Routine) (k : ℕ) → xs ≡ map (λ d. d.routine) (routines_of p) → slice_get xs k ≡ None → result_of p k ≡ result_in None
no_result_at p xs k e f = no_result_by (slice_get (routines_of p) k) (slice_get xs k) (ap (λ ys. slice_get ys k) e ∙ slice_get-map (λ (d : Defined). d.routine) (routines_of p) k) f
