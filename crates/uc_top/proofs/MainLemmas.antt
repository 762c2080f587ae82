-- A program that breaks no rule has its main among its routines.
use Rattle.std.proofs.Common.{◌≡◌, ℕ, zero, suc, ◌+◌, Bool, true, false, cond, ◌&&◌, ◌||◌, List, [], ◌∷◌, ◌++◌, ◌<◌, Some, length, nat_eq, refl, ap, arith}
use Rattle.std.specs.Prelude.{slice_get}
use Rattle.std.specs.List.{list_any}
use Rattle.std.proofs.lemmas.Bool.{eqb-true}
use Rattle.std.proofs.lemmas.List.{length-append}
use Rattle.uc_tree.specs.declared.kinds.Base.{Base}
use Rattle.uc_tree.specs.declared.kinds.Base.TheVariants as base
use Rattle.uc_tree.specs.declared.kinds.Owner.{Owner}
use Rattle.uc_tree.specs.declared.kinds.Owner.TheVariants as owner
use Rattle.uc_tree.specs.declared.kinds.Param.{Param}
use Rattle.uc_tree.specs.Names.{same_name}
use Rattle.uc_tree.specs.Programs.{Sig, Item, ClassItem, RoutineItem, ConstItem, ProtoItem, ForwardItem, UsingItem, Program}
use Rattle.uc_tree.specs.Gathered.{gathered_all}
use Rattle.uc_tree.specs.Numbering.{Defined, is_plain, item_defined, items_defined, main_name, own_texts, own_sites, routines_of}
use Rattle.uc_tree.specs.ProgramMain.{is_int, is_main_item, is_main_sig, is_void, main_among, main_number, no_params, returns_as_main}
use Rattle.uc_tree.specs.Objects.{unwritten_of}
use Rattle.uc_tree.specs.Source as source
use Rattle.uc_resolve.specs.Resolve.{all_unwritten, routines_meant, source_of}
use Rattle.uc_rules.specs.declared.rule.Rule.TheVariants.{S3}
use Rattle.uc_rules.specs.Breaks.{breaks_of}
use Rattle.uc_rules.specs.ClassBreaks.{is_void_base}
use Rattle.uc_rules.specs.ItemBreaks.{first_place, is_int_base, is_main_base, is_program_main, main_breaks, mains_in}
use Rattle.uc_rules.specs.ProgramVisits.{items_visits}
use Rattle.uc_rules.specs.Visits.{AtProgram}
use Rattle.uc_lower.proofs.Ruled.{first_none, holds, no_left}

both : (a b : Bool) → (a && b) ≡ true → (a ≡ true) × (b ≡ true)
both true b h = (refl, h)
both false b h = absurd (cc h)

any_later : (b c : Bool) → (b || c) ≡ true → b ≡ false → c ≡ true
any_later true c h f = absurd (cc f)
any_later false c h f = h

either : (a b : Bool) → b ≡ true → (a || b) ≡ true
either true b e = refl
either false b e = e

-- the rules ask for one main

void_base : (b : Base) → is_void_base b ≡ true → is_void b ≡ true
void_base base.Void e = refl
void_base base.Int e = absurd (cc e)
void_base base.Char e = absurd (cc e)
void_base base.Bool e = absurd (cc e)
void_base base.Condition e = absurd (cc e)
void_base base.Cluster e = absurd (cc e)
void_base base.Processor e = absurd (cc e)
void_base (base.Named name) e = absurd (cc e)

int_base : (b : Base) → is_int_base b ≡ true → is_int b ≡ true
int_base base.Void e = absurd (cc e)
int_base base.Int e = refl
int_base base.Char e = absurd (cc e)
int_base base.Bool e = absurd (cc e)
int_base base.Condition e = absurd (cc e)
int_base base.Cluster e = absurd (cc e)
int_base base.Processor e = absurd (cc e)
int_base (base.Named name) e = absurd (cc e)

main_base : (o : Owner) (b : Base) → is_main_base o b ≡ true → returns_as_main o b ≡ true
main_base owner.Here b e = int_base b e
main_base owner.Main b e = void_base b e
main_base (owner.Class name) b e = absurd (cc e)

none_given : (xs : List Param) → nat_eq (length xs) 0 ≡ true → no_params xs ≡ true
none_given [] e = refl
none_given (x ∷ xs) e = let long : length (x ∷ xs) ≡ 0 = eqb-true (length (x ∷ xs)) 0 e in absurd (omega (arith, long))

main_sig : (s : Sig) → is_program_main s ≡ true → is_main_sig s ≡ true
main_sig s e =
    let a = both (is_plain s.role) (same_name s.name main_name && (is_main_base s.owner s.ret && nat_eq (length s.params) 0)) e in
    let b = both (same_name s.name main_name) (is_main_base s.owner s.ret && nat_eq (length s.params) 0) a.1 in
    let c = both (is_main_base s.owner s.ret) (nat_eq (length s.params) 0) b.1 in
    all_four (returns_as_main s.owner s.ret) (same_name s.name main_name) (is_plain s.role) (no_params s.params) (main_base s.owner s.ret c.0) b.0 a.0 (none_given s.params c.1)
  where
    all_four : (a b c d : Bool) → a ≡ true → b ≡ true → c ≡ true → d ≡ true → (a && (b && (c && d))) ≡ true
    all_four true true true true e f g h = refl
    all_four false b c d e f g h = absurd (cc e)
    all_four true false c d e f g h = absurd (cc f)
    all_four true true false d e f g h = absurd (cc g)
    all_four true true true false e f g h = absurd (cc h)

one_main : (s : Sig) (b : Bool) (n : ℕ) (later : Bool) → is_program_main s ≡ b → 0 < cond b 1 0 + n → (0 < n → later ≡ true) → (is_main_sig s || later) ≡ true
one_main s true n later e h more = ap (λ t. t || later) (main_sig s e)
one_main s false n later e h more = either (is_main_sig s) later (more (omega (arith, h)))

any_main : (is : List Item) → 0 < mains_in is → list_any is_main_item is ≡ true
any_main [] h = absurd (omega (arith, h))
any_main (ClassItem c ∷ is) h = any_main is (omega (arith, h))
any_main (RoutineItem r ∷ is) h = one_main r.sig (is_program_main r.sig) (mains_in is) (list_any is_main_item is) refl h (any_main is)
any_main (ConstItem c ∷ is) h = any_main is (omega (arith, h))
any_main (ProtoItem s ∷ is) h = any_main is (omega (arith, h))
any_main (ForwardItem f ∷ is) h = any_main is (omega (arith, h))
any_main (UsingItem u ∷ is) h = any_main is (omega (arith, h))

has_main : (p : Program) → breaks_of p ≡ [] → list_any is_main_item p.items ≡ true
has_main p none =
    let one = holds (nat_eq (mains_in p.items) 1) S3 first_place (no_left (main_breaks p) _ (first_none (AtProgram p) (items_visits p 0 0 p.items) none)) in
    let is : mains_in p.items ≡ 1 = eqb-true (mains_in p.items) 1 one in
    any_main p.items (omega (arith, is))

-- the program's main is among its routines
abbrev There : List source.Routine → ℕ → Type 0
There rs k = (r : source.Routine) × (slice_get rs k ≡ Some r)

there_in : (rs : List source.Routine) (k : ℕ) → k < length rs → There rs k
there_in [] k h = absurd (omega (arith, h))
there_in (x ∷ rs) zero h = (x, refl)
there_in (x ∷ rs) (suc k) h = there_in rs k (omega (arith, h))

short_by : (b : Bool) (a rest : List Defined) (k : ℕ) → (b ≡ true → 0 < length a) → (b ≡ false → k < length rest) → cond b 0 (length a + k) < length (a ++ rest)
short_by true a rest k first later = let long = length-append a rest in let h = first refl in omega (arith, long, h)
short_by false a rest k first later = let long = length-append a rest in let h = later refl in omega (arith, long, h)

module _ (p : Program) where
  -- the main is among the routines of the source
  pub record HasMain : Type 0 where
    pub routine : source.Routine
    pub there : slice_get (source_of p).routines (main_number p) ≡ Some routine

  main_first : (i : Item) → is_main_item i ≡ true → 0 < length (item_defined p i)
  main_first (ClassItem c) h = absurd (cc h)
  main_first (RoutineItem r) h = omega arith
  main_first (ConstItem c) h = absurd (cc h)
  main_first (ProtoItem s) h = absurd (cc h)
  main_first (ForwardItem f) h = absurd (cc h)
  main_first (UsingItem u) h = absurd (cc h)

  main_short : (is : List Item) → list_any is_main_item is ≡ true → main_among p is < length (items_defined p is)
  main_short [] h = absurd (cc h)
  main_short (i ∷ is) h = short_by (is_main_item i) (item_defined p i) (items_defined p is) (main_among p is) (main_first i) (λ f. main_short is (any_later (is_main_item i) (list_any is_main_item is) h f))

  meant_long : (ds : List Defined) (n t s : ℕ) → length (routines_meant p ds n t s) ≡ length ds
  meant_long [] n t s = refl
  meant_long (d ∷ ds) n t s = ap suc (meant_long ds (n + 1) (t + length (gathered_all own_texts d.routine.body)) (s + length (gathered_all (own_sites d.class d.number) d.routine.body)))

  pub main_there : breaks_of p ≡ [] → HasMain
  main_there none =
      let short = main_short p.items (has_main p none) in
      let written = routines_meant p (routines_of p) 0 0 0 in
      let long = meant_long (routines_of p) 0 0 0 in
      let more = length-append written (all_unwritten p (unwritten_of p)) in
      let t = there_in (source_of p).routines (main_number p) (omega (arith, short, long, more)) in
      record { routine = t.0; there = t.1 }
