-- The listed members are tried one after another.
use Rattle.std.proofs.Common.{◌≡◌, ◌≢◌, ℕ, ◌<◌, ◌≤◌, ◌+◌, ◌==◌, Bool, true, false, not, cond, length-append, List, [], ◌∷◌, ◌++◌, map, length, get_or, drop, Option, Some, None, refl, sym, ap, ◌∙◌, subst}
use Rattle.std.specs.Prelude.{option_map}
use Rattle.std.specs.List.{find, AllByRecursion}
use Rattle.std.proofs.lemmas.List.{at_drop_more, at_drop_all, length-map}
use Rattle.uc_links.specs.Lists.{first_with, without}
use Rattle.uc_tree.specs.SiteOffers.{Met, met, met_or, oldest}
use Rattle.uc_mutex.specs.Doors.{Doors, IsFree, door_at, with_door, pulled_by, pulled_out}
use Rattle.uc_mutex.proofs.Views.{free_then, then}
use Rattle.uc_accept.specs.Accepting.{unpulled, out_of_queue, taken_door}

abbrev pub listed : ℕ → List ℕ → List (ℕ × ℕ) → List (ℕ × ℕ)
listed clause ms rest = map (λ m. (clause, m)) ms ++ rest

one_case : (b : Bool) (w : ℕ × ℕ) (r : Option (ℕ × ℕ)) (s : Option ℕ) → option_map (λ e. e.0) r ≡ s → option_map (λ e. e.0) (cond b (Some w) r) ≡ cond b (Some w.0) s
one_case true w r s h = refl
one_case false w r s h = h

-- the oldest caller of a member, said in two ways
pub same_oldest : (m : ℕ) (ws : List (ℕ × ℕ)) → first_with m ws ≡ oldest m ws
same_oldest m [] = refl
same_oldest m (w ∷ ws) = one_case (w.1 == m) w (find (λ e. e.1 == m) ws) (oldest m ws) (same_oldest m ws)

-- the doors are those before, whatever call came last
module _ (v w x : Doors) (o m : ℕ) (same : unpulled w ≡ unpulled v) (after : x ≡ pulled_out w o m) where
  pub here : (door_at w o).waiting ≡ (door_at v o).waiting
  here = ap (λ (y : Doors). (door_at y o).waiting) same

  pub pull_found : (t : ℕ) → Some t ≡ first_with m (door_at w o).waiting → x ≡ pulled_by v o (Some t)
  pull_found t is = after ∙ ap (pulled_by w o) (sym is) ∙ ap (λ (y : Doors). pulled_by y o (Some t)) same

  pub pull_missed : None ≡ first_with m (door_at w o).waiting → unpulled x ≡ unpulled v
  pull_missed is = ap unpulled (after ∙ ap (pulled_by w o) (sym is)) ∙ same

-- the next member that a clause lists
module _ (clause : ℕ) (ms : List ℕ) (at x : ℕ) (lt : at < length ms) (is : get_or ms at x ≡ x) (ws : List (ℕ × ℕ)) (rest : List (ℕ × ℕ)) where
  next_listed : listed clause (drop at ms) rest ≡ (clause, x) ∷ listed clause (drop (at + 1) ms) rest
  next_listed = at_drop_more (λ (l : List ℕ). listed clause l rest) ms at x lt ∙ ap (λ (y : ℕ). (clause, y) ∷ listed clause (drop (at + 1) ms) rest) is

  pub found_here : (t : ℕ) → Some t ≡ first_with x ws → met (listed clause (drop at ms) rest) ws ≡ Some (record { clause = clause; member = x; task = t })
  found_here t f = ap (λ l. met l ws) next_listed ∙ ap (λ (r : Option ℕ). met_or (clause, x) r (met (listed clause (drop (at + 1) ms) rest) ws)) (sym (f ∙ same_oldest x ws))

  pub missed_here : None ≡ first_with x ws → met (listed clause (drop at ms) rest) ws ≡ met (listed clause (drop (at + 1) ms) rest) ws
  missed_here f = ap (λ l. met l ws) next_listed ∙ ap (λ (r : Option ℕ). met_or (clause, x) r (met (listed clause (drop (at + 1) ms) rest) ws)) (sym (f ∙ same_oldest x ws))

pub all_listed : (clause : ℕ) (ms : List ℕ) (at : ℕ) → length ms ≤ at → (rest : List (ℕ × ℕ)) → listed clause (drop at ms) rest ≡ rest
all_listed clause ms at le rest = at_drop_all (λ (l : List ℕ). listed clause l rest) ms at le

pub length_listed : (clause : ℕ) (ms : List ℕ) (rest : List (ℕ × ℕ)) → length (listed clause ms rest) ≡ length ms + length rest
length_listed clause ms rest = length-append (map (λ m. (clause, m)) ms) rest ∙ ap (λ (n : ℕ). n + length rest) (length-map ms (λ m. (clause, m)))

-- ---- a task that is in no list stays so when another leaves the queue
kept_case : (b : Bool) (u : ℕ) (w : ℕ × ℕ) (ws : List (ℕ × ℕ)) → w.0 ≢ u → AllByRecursion (λ e. e.0 ≢ u) ws → AllByRecursion (λ e. e.0 ≢ u) (cond (not b) (w ∷ ws) ws)
kept_case true u w ws n h = h
kept_case false u w ws n h = (n, h)

kept : (t u : ℕ) (ws : List (ℕ × ℕ)) → AllByRecursion (λ e. e.0 ≢ u) ws → AllByRecursion (λ e. e.0 ≢ u) (without t ws)
kept t u [] h = tt
kept t u (w ∷ ws) h = kept_case (w.0 == t) u w (without t ws) h.0 (kept t u ws h.1)

pub free_pulled : (v w : Doors) (o t u : ℕ) → o < length v.doors → w ≡ pulled_by v o (Some t) → IsFree u v → IsFree u w
free_pulled v w o t u lt e free =
    let d = out_of_queue t (door_at v o) in
    subst (IsFree u) (sym e) (free_then v (with_door v o d) o u d refl free (kept t u (door_at v o).waiting (free o lt).0, (free o lt).1))

pub taken_doors : (v w x : Doors) (o t : ℕ) (m : Met) → o < length v.doors → w ≡ pulled_by v o (Some m.task) → x ≡ with_door w o (taken_door t m (door_at w o)) → unpulled x ≡ with_door v o (taken_door t m (out_of_queue m.task (door_at v o)))
taken_doors v w x o t m lt e is =
    ap unpulled (then v (unpulled w) x o (out_of_queue m.task (door_at v o)) (taken_door t m) lt (ap unpulled e) is)
