-- The table of a program tells each of its classes.
use Rattle.std.proofs.Common.{◌≡◌, ℕ, ◌+◌, ◌-◌, ◌++◌, List, [], ◌∷◌, Option, Some, None, Bool, true, false, refl, sym, ap, ◌∙◌, subst, arith}
use Rattle.std.specs.Prelude.{◌&&◌, not, slice_get, nat_lt, if◌then◌else◌}
use Rattle.std.proofs.lemmas.Bool.{ltb-true}
use Rattle.uc_tree.specs.declared.pos.Pos.{Pos}
use Rattle.uc_tree.specs.declared.kinds.Base.{Base}
use Rattle.uc_tree.specs.declared.kinds.Base.TheVariants as base
use Rattle.uc_tree.specs.declared.kinds.Kind.{Kind}
use Rattle.uc_tree.specs.Expressions as expr
use Rattle.uc_tree.specs.Cells.{classes_of, leading_cells}
use Rattle.uc_tree.specs.Numbering.{is_mutex}
use Rattle.uc_tree.specs.Objects.{ClassField, fields_of, class_at, is_task}
use Rattle.uc_tree.specs.Programs.{Class, Program}
use Rattle.uc_rules.specs.declared.rule.Rule.TheVariants.{S2, S4, S14, S16}
use Rattle.uc_rules.specs.declared.rule.Break.{Break}
use Rattle.uc_rules.specs.declared.rules.Sort.{Sort}
use Rattle.uc_rules.specs.declared.rules.Sort.TheVariants as sort
use Rattle.uc_rules.specs.Asked.{unless}
use Rattle.uc_rules.specs.Sorts.{is_void, is_condition, sort_of}
use Rattle.uc_rules.specs.Scopes.{Env, plain_env, class_around}
use Rattle.uc_rules.specs.ClassBreaks.{is_new_field, fields_at, home_leads_back, is_field_sort}
use Rattle.uc_rules.specs.ExpressionBreaks.{is_length, length_value, length_breaks, length_value_breaks}
use Rattle.uc_rules.specs.ProgramVisits.{program_visits}
use Rattle.uc_typing.specs.Typing.{Num, IsPlaced}
use Rattle.uc_sound.specs.Agreement.{found_ty, place_by, place_ty}
use Rattle.uc_sound.specs.Fields.{TellsClass}
use Rattle.uc_sound.specs.Unbroken.{Unbroken}
use Rattle.uc_sound.proofs.Ties.{false_true}
use Rattle.uc_sound.proofs.UnbrokenLemmas.{none_left, none_right, holds}
use Rattle.uc_sound.specs.Tables.{of_kind, class_field, listed_field, known_field, table_of}
use Rattle.uc_sound.specs.Told.{LawTold}
use Rattle.uc_sound.proofs.Lists.{left_is}
use Rattle.uc_sound.proofs.Visited.{sort_holds, home, field_rules}
use Rattle.uc_sound.proofs.ClassNames.{class_of_base}
use Rattle.uc_sound.proofs.RoutineLemmas.{tells_routines}
use Rattle.uc_sound.proofs.KeptLemmas.{shapes, bare}
use Rattle.uc_sound.proofs.MemberLemmas.{tells_member, tells_maker, tells_event, tells_raised, event_whole, event_apart}

pub mutex_is : (p : Program) (b : Base) (i : ℕ) (k : Kind) → sort_of p b ≡ Some (sort.Object i k) → (table_of p).mutex i ≡ is_mutex k
mutex_is p b i k h = let c = class_of_base p b i k h in ap (of_kind is_mutex) c.1 ∙ ap is_mutex c.2

pub task_is : (p : Program) (b : Base) (i : ℕ) (k : Kind) → sort_of p b ≡ Some (sort.Object i k) → (table_of p).tasks i ≡ is_task k
task_is p b i k h = let c = class_of_base p b i k h in ap (of_kind is_task) c.1 ∙ ap is_task c.2

-- what is declared is at a place, but for `void` and conditions
pub placed : (p : Program) (b : Base) (s : Sort) → sort_of p b ≡ Some s → is_void s ≡ false → is_condition s ≡ false → IsPlaced (table_of p) (place_ty s)
placed p b sort.Void h v c = false_true (sym v)
placed p b sort.Int h v c = tt
placed p b sort.Char h v c = tt
placed p b sort.Bool h v c = tt
placed p b sort.Condition h v c = false_true (sym c)
placed p b sort.Cluster h v c = tt
placed p b sort.Processor h v c = tt
placed p b (sort.Object i k) h v c = by (is_mutex k) refl
  where
    by : (z : Bool) → is_mutex k ≡ z → IsPlaced (table_of p) (place_by z (found_ty (sort.Object i k)))
    by true e = tt
    by false e = mutex_is p b i k h ∙ e

no_array : (env : Env) (r : Bool) (l : Option expr.Expr) (q : Pos) → length_breaks env r l q ≡ [] → r ≡ true → l ≡ None
no_array env r None q h e = refl
no_array env r (Some x) q h e =
    let k = left_is (not r) (is_length (length_value env x)) (holds (not r && is_length (length_value env x)) S14 q [] (append_none _ h)) in
    false_true (subst (λ (b : Bool). not b ≡ true) e k)
  where
    append_none : (xs : List Break) → xs ≡ [] → xs ++ [] ≡ []
    append_none [] h = refl
    append_none (x ∷ xs) h = absurd (cc)

module _ (p : Program) (u : Unbroken (program_visits p)) where
  record FieldIs (f : ClassField) (s : Sort) : Type 0 where
    single : f.declarator.by_ref ≡ true → f.declarator.len ≡ None
    sorted : is_field_sort p f.declarator s ≡ true

  field_is : (i : ℕ) (c : Class) → class_at p i ≡ Some c → (n : ℕ) (f : ClassField) (s : Sort) → slice_get (fields_of c.members) n ≡ Some f → sort_of p f.base ≡ Some s → FieldIs f s
  field_is i c e n f s q k =
      let r = field_rules p u i c e n f q in
      let env = plain_env p (class_around (home p u i c)) in
      let d = f.declarator in
      let h1 = none_right (unless (is_new_field c r.place (fields_at c r.place.member) d.name) S2 d.pos) _ r.own in
      let h2 = none_right (unless (not (home_leads_back p env.around.home f.base d)) S4 d.pos) _ h1 in
      let h3 = none_right (length_breaks env d.by_ref d.len d.pos) _ h2 in
      let h4 = none_right (length_value_breaks env d.len) _ h3 in
      record {
        single = no_array env d.by_ref d.len d.pos (none_left (length_breaks env d.by_ref d.len d.pos) _ h2);
        sorted = sort_holds (sort_of p f.base) s (is_field_sort p d) S16 d.pos _ k h4;
      }

  behind : (a n : ℕ) → nat_lt (a + n) a ≡ false
  behind a n = by (nat_lt (a + n) a) refl
    where
      by : (b : Bool) → nat_lt (a + n) a ≡ b → b ≡ false
      by true e = let l = ltb-true (a + n) a e in absurd (omega (arith, l))
      by false e = refl

  tells_class : (i : ℕ) (c : Class) → class_at p i ≡ Some c → TellsClass (table_of p) p i c
  tells_class i c e = record {
    at = e;
    refers = refl;
    shape = refl;
    fields = λ n f s q k. ap (λ o. class_field p o (leading_cells c.kind + n)) e ∙ (ap (λ (b : Bool). if b then Num else listed_field p c (slice_get (fields_of c.members) (leading_cells c.kind + n - leading_cells c.kind))) (behind (leading_cells c.kind) n) ∙ ap (λ m. listed_field p c (slice_get (fields_of c.members) m)) (let z : leading_cells c.kind + n - leading_cells c.kind ≡ n = omega arith in z) ∙ (ap (listed_field p c) q ∙ ap (known_field p c f) k));
    placed = λ n f s q k z. placed p f.base s k (no_void f s (field_is i c e n f s q k).sorted) z;
    single = λ n f q r. let x = field_rules p u i c e n f q in (field_is i c e n f x.sort q x.base).single r;
  }
    where
      no_void : (f : ClassField) (s : Sort) → is_field_sort p f.declarator s ≡ true → is_void s ≡ false
      no_void f s h = by (is_void s) (left_is (not (is_void s)) _ h)
        where
          by : (b : Bool) → not b ≡ true → b ≡ false
          by true h = sym h
          by false h = refl

pub law_told : LawTold
law_told p formed u = record {
  numbers = λ i. refl;
  shapes = shapes p formed u;
  bare = bare p formed u;
  routines = tells_routines p formed u;
  classes = tells_class p u;
  members = λ i j c sig e h w. tells_member p formed u i j c sig e h w;
  makers = λ i c wanted e v w. tells_maker p formed u i c wanted e v w;
  events = λ i r name h g. tells_event p formed u i r name h g;
  raised = λ r name g. tells_raised p formed u r name g;
  events_whole = λ i r name h g. event_whole p formed u i r name h g;
  events_apart = λ i r name h g. event_apart p formed u i r name h g;
}
