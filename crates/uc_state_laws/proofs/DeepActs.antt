-- What an act makes of the objects in which its task is deep, and of who is where.
use Rattle.std.proofs.Common.{◌≡◌, ℕ, ◌==◌, ◌+◌, ◌<◌, ◌≤◌, ◌&&◌, ◌||◌, Bool, true, false, not, List, [], ◌∷◌, refl, sym, ap, ◌∙◌, subst, arith}
use Rattle.std.proofs.lemmas.Bool.{ne_eqb}
use Rattle.uc_entry.specs.declared.request.Request.{Request}
use Rattle.uc_entry.specs.declared.request.Request.TheVariants as ask
use Rattle.uc_acts.specs.Journal.{Journal}
use Rattle.uc_acts.specs.Known.{has, object_count, task_count}
use Rattle.uc_acts.specs.Answers.{just_made}
use Rattle.uc_acts.proofs.SoundLemmas.{self_test}
use Rattle.uc_state_laws.proofs.Makes.{is_making}
use Rattle.uc_state_laws.specs.Deep.{dropped, DeepBehind}
use Rattle.uc_state_laws.specs.Places.{is_at, SamePlaces, Arrives, Departs, Spawns, PlacesBehind}
use Rattle.uc_state_laws.specs.HandLaws.{IsDeepAsTold}
use Rattle.uc_state_laws.proofs.Places.{flipped}
use Rattle.uc_state_laws.proofs.Lists.{Once, once_more, has_dropped, drops_once}

-- a task that is deep in just the objects at which it is
pub record IsDeepWhere (j : Journal) (t : ℕ) (ks : List ℕ) : Type 0 where
  pub at : (o : ℕ) → has ks o ≡ is_at t o j
  pub once : Once ks

-- other tasks stay where they are

not_and : (a b c : Bool) → a ≡ false → (c && not (a && b)) ≡ c
not_and true b c h = cc
not_and false b true h = refl
not_and false b false h = refl

or_and : (a b c : Bool) → a ≡ false → (c || (a && b)) ≡ c
or_and true b c h = cc
or_and false b true h = refl
or_and false b false h = refl

-- whether a request brings a task
abbrev pub is_spawning : Request → Bool
is_spawning (ask.Spawn o) = true
is_spawning r = false

module _ (j k : Journal) (t v q : ℕ) (other : (v == t) ≡ false) where
  arrived : (o : ℕ) → Arrives t o j k → is_at v q k ≡ is_at v q j
  arrived o a = a.at v q ∙ or_and (v == t) (q == o) (is_at v q j) other

  departed : (o : ℕ) → Departs t o j k → is_at v q k ≡ is_at v q j
  departed o d = d.at v q ∙ not_and (v == t) (q == o) (is_at v q j) other

  pub others_stay : (r : Request) → PlacesBehind t j r k → (is_spawning r ≡ true → (v == task_count j) ≡ false) → is_at v q k ≡ is_at v q j
  others_stay (ask.Make class) p n = arrived (object_count j) p
  others_stay (ask.Call o m) p n = arrived o p
  others_stay (ask.Made o) p n = departed o p
  others_stay (ask.Leave o failed) p n = departed o p
  others_stay (ask.Gone o) p n = departed o p
  others_stay ask.End p n = departed _ p
  others_stay (ask.Spawn o) p n =
      p.at v q ∙ or_and (v == task_count j) (q == o) (is_at v q j && not ((v == t) && (q == o))) (n refl) ∙ not_and (v == t) (q == o) (is_at v q j) other
  others_stay r p n = p.at v q

-- how many tasks there are

pub tasks_stay : (j k : Journal) (t : ℕ) (r : Request) → is_spawning r ≡ false → PlacesBehind t j r k → task_count k ≡ task_count j
tasks_stay j k t (ask.Make class) n p = p.tasks
tasks_stay j k t (ask.Call o m) n p = p.tasks
tasks_stay j k t (ask.Made o) n p = p.tasks
tasks_stay j k t (ask.Leave o failed) n p = p.tasks
tasks_stay j k t (ask.Gone o) n p = p.tasks
tasks_stay j k t ask.End n p = p.tasks
tasks_stay j k t (ask.Spawn o) n p = cc
tasks_stay j k t r n p = p.tasks

pub spawn_more : (j k : Journal) (t : ℕ) (r : Request) → is_spawning r ≡ true → PlacesBehind t j r k → task_count k ≡ task_count j + 1
spawn_more j k t (ask.Spawn o) h p = p.tasks
spawn_more j k t r h p = cc

pub tasks_grow : (j k : Journal) (t : ℕ) (r : Request) → PlacesBehind t j r k → task_count j ≤ task_count k
tasks_grow j k t (ask.Make class) p = let h = p.tasks in omega (arith, h)
tasks_grow j k t (ask.Call o m) p = let h = p.tasks in omega (arith, h)
tasks_grow j k t (ask.Made o) p = let h = p.tasks in omega (arith, h)
tasks_grow j k t (ask.Leave o failed) p = let h = p.tasks in omega (arith, h)
tasks_grow j k t (ask.Gone o) p = let h = p.tasks in omega (arith, h)
tasks_grow j k t ask.End p = let h = p.tasks in omega (arith, h)
tasks_grow j k t (ask.Spawn o) p = let h = p.tasks in omega (arith, h)
tasks_grow j k t r p = let h = p.tasks in omega (arith, h)

-- the task that asks

module _ (j k : Journal) (t : ℕ) (ks l : List ℕ) (d : IsDeepWhere j t ks) (known : t < task_count j) where
  own_test : (q o : ℕ) → ((t == t) && (q == o)) ≡ (q == o)
  own_test q o = ap (λ b. b && (q == o)) (self_test t)

  enters : (o : ℕ) → has ks o ≡ false → l ≡ o ∷ ks → Arrives t o j k → IsDeepWhere k t l
  enters o n e a = record {
    at = λ q. ap (λ x. has x q) e ∙ ap (λ b. (o == q) || b) (d.at q) ∙ ap (λ b. b || is_at t q j) (flipped o q) ∙ swap (q == o) (is_at t q j) ∙ sym (a.at t q ∙ ap (λ b. is_at t q j || b) (own_test q o));
    once = subst Once (sym e) (once_more o ks n d.once);
  }
    where
      swap : (a b : Bool) → (a || b) ≡ (b || a)
      swap true true = refl
      swap true false = refl
      swap false true = refl
      swap false false = refl

  leaves : (o : ℕ) → l ≡ dropped o ks → Departs t o j k → IsDeepWhere k t l
  leaves o e a = record {
    at = λ q. ap (λ x. has x q) e ∙ has_dropped o ks d.once q ∙ ap (λ b. b && not (q == o)) (d.at q) ∙ sym (a.at t q ∙ ap (λ b. is_at t q j && not b) (own_test q o));
    once = subst Once (sym e) (drops_once o ks d.once);
  }

  spawns : (o : ℕ) → l ≡ dropped o ks → Spawns t (task_count j) o j k → IsDeepWhere k t l
  spawns o e a = record {
    at = λ q. ap (λ x. has x q) e ∙ has_dropped o ks d.once q ∙ ap (λ b. b && not (q == o)) (d.at q) ∙ sym (a.at t q ∙ or_and (t == task_count j) (q == o) _ (ne_eqb t (task_count j) (λ same. omega (arith, known, same))) ∙ ap (λ b. is_at t q j && not b) (own_test q o));
    once = subst Once (sym e) (drops_once o ks d.once);
  }

  keeps : l ≡ ks → SamePlaces j k → IsDeepWhere k t l
  keeps e a = record { at = λ q. ap (λ x. has x q) e ∙ d.at q ∙ sym (a.at t q); once = subst Once (sym e) d.once }

  -- behind all but what makes an object
  pub goes_on : (r : Request) → is_making r ≡ false → (r ≡ ask.End → ⊥) → DeepBehind r ks l → PlacesBehind t j r k → IsDeepWhere k t l
  goes_on (ask.Make class) n f b p = cc
  goes_on (ask.Call o m) n f b p = enters o b.0 b.1 p
  goes_on (ask.Made o) n f b p = leaves o b p
  goes_on (ask.Leave o failed) n f b p = leaves o b p
  goes_on (ask.Gone o) n f b p = leaves o b p
  goes_on ask.End n f b p = absurd (f refl)
  goes_on (ask.Spawn o) n f b p = spawns o b p
  goes_on r n f b p = keeps b p

  -- behind what makes one
  pub makes_one : (class : ℕ) → just_made t k ≡ object_count j ∷ [] → is_at t (object_count j) j ≡ false → DeepBehind (ask.Make class) ks l → PlacesBehind t j (ask.Make class) k → IsDeepAsTold k t l
  makes_one class new out b p = record {
    at = λ q f. ap (λ x. has x q) b ∙ d.at q ∙ sym (p.at t q ∙ ap (λ b. is_at t q j || b) (own_test q (object_count j) ∙ ne_eqb q (object_count j) (λ same. f (new ∙ ap (λ x. x ∷ []) (sym same)))) ∙ or_nil (is_at t q j));
    new = λ q e.
        let same : object_count j ∷ [] ≡ q ∷ [] = sym new ∙ e in
        let is : object_count j ≡ q = cc in
        ap (λ x. has x q) b ∙ d.at q ∙ ap (λ x. is_at t x j) (sym is) ∙ out;
    once = subst Once (sym b) d.once;
  }
    where
      or_nil : (b : Bool) → (b || false) ≡ b
      or_nil true = refl
      or_nil false = refl

pub as_told : (j : Journal) (t : ℕ) (ks : List ℕ) → ((o : ℕ) → just_made t j ≡ o ∷ [] → ⊥) → IsDeepWhere j t ks → IsDeepAsTold j t ks
as_told j t ks n d = record { at = λ o f. d.at o; new = λ o e. absurd (n o e); once = d.once }
