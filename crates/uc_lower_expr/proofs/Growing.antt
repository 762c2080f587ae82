-- How code grows from what is meant to what is made of it.
use Rattle.std.proofs.Common.{◌≡◌, ℕ, ◌+◌, ◌≤◌, List, length, refl, ap, subst, arith}
use Rattle.std.proofs.lemmas.Option.{slice_get_within}
use Rattle.uc_tree.specs.Programs.{Program}
use Rattle.uc_resolve.specs.Resolve.{Meant}
use Rattle.uc_code.specs.declared.op.Op.{Op}
use Rattle.uc_code.specs.declared.rows.CodeMark.{CodeMark}
use Rattle.uc_code.specs.Drafts.{Draft}
use Rattle.uc_code.specs.Layout.{Laid, laid_in, chain}
use Rattle.uc_code.specs.CodeShapes.{One}
use Rattle.uc_code.specs.Lowered.{ExprAt}
use Rattle.uc_code.proofs.Patches.{bare_stays}
use Rattle.uc_code.proofs.Stable.{kept_same, same_then}
use Rattle.uc_lower_expr.specs.declared.meaning.ExprMeaning.{ExprMeaning}
use Rattle.uc_lower_expr.specs.Meanings.{Tells}
use Rattle.uc_lower_expr.specs.DraftGrowth.{Adds, Cuts, ExprCode, Grows, Stood}
use Rattle.uc_lower_expr.specs.Parts.{Restarts}
use Rattle.uc_lower_expr.proofs.Adding.{rest_then}
use Rattle.uc_lower_expr.proofs.Settled.{expr_stable}

-- the rows are settled as far as they were
pub grows_settled : {p : Program} {n line : ℕ} {ms : List CodeMark} {a : ℕ} {f : Meant → Meant} {s t : ExprMeaning} {old new : Draft} → Grows p n line ms a f s t old new → new.settled ≡ old.settled
grows_settled h = ap (λ (d : Draft). d.settled) h.rest

pub grows_as : {p : Program} {n k line : ℕ} {ms : List CodeMark} {a : ℕ} {f g : Meant → Meant} {s t : ExprMeaning} {old new : Draft} → n ≤ k → ((m : Meant) → f m ≡ g m) → Grows p n line ms a f s t old new → Grows p k line ms a g s t old new
grows_as {p} {n} {k} {line} {ms} {a} {f} {g} {s} {t} {old} {new} l e h = record {
  rest = h.rest;
  front = h.front;
  past = h.past;
  room = let r = h.room in omega arith;
  code = λ m st. subst (λ x. Stood p line ms a x t new) (e m) (h.code m st);
}

pub grows_none : {p : Program} → (line : ℕ) (ms : List CodeMark) (a : ℕ) (s : ExprMeaning) (old : Draft) → a ≤ length old.ops → Grows p 0 line ms a (λ m. m) s s old old
grows_none line ms a s old l = record { rest = refl; front = record { same = λ i o n p q h. h; chains = λ next l h. refl; handlers = λ k e h. h }; past = l; room = omega arith; code = λ m st. st }

pub grows_then : {p : Program} {n k line : ℕ} {ms : List CodeMark} {a : ℕ} {f g : Meant → Meant} {s t u : ExprMeaning} {old mid new : Draft} → Grows p n line ms a f s t old mid → Grows p k line ms a g t u mid new → Grows p (n + k) line ms a (λ m. g (f m)) s u old new
grows_then {p} {n} {k} {line} {ms} {a} {f} {g} {s} {t} {u} {old} {mid} {new} h j = record {
  rest = rest_then old mid new h.rest j.rest;
  front = same_then (laid_in old) (laid_in mid) (laid_in new) 0 a h.front j.front;
  past = j.past;
  room = let r = h.room in let q = j.room in omega arith;
  code = λ m st. j.code (f m) (h.code m st);
}

-- behind what stands, more is added
pub grows_adds : {p : Program} → (n line : ℕ) (ms : List CodeMark) (a : ℕ) (f : Meant → Meant) (s t : ExprMeaning) (S : Laid → ℕ → ℕ → Type 0) (old new : Draft) → a ≤ length old.ops → Adds n S old new
    → ((m : Meant) → Tells p s m → Tells p t (f m))
    → ((m : Meant) → Tells p s m → (code : Laid) (b z : ℕ) → ExprAt code line ms m.expr a b → S code b z → ExprAt code line ms (f m).expr a z)
    → Grows p n line ms a f s t old new
grows_adds n line ms a f s t S old new l h p q = record {
  rest = h.rest;
  front = kept_same (laid_in old) (laid_in new) 0 a l h.kept;
  past = let k = h.kept.longer in omega arith;
  room = h.room;
  code = λ m st. record {
    tells = p m st.tells;
    code = q m st.tells (laid_in new) (length old.ops) (length new.ops) ((expr_stable line ms m.expr).moves (laid_in old) (laid_in new) a (length old.ops) (kept_same (laid_in old) (laid_in new) a (length old.ops) (omega arith) h.kept) st.code) h.code;
  };
}

-- in the place of what stands, one op
pub grows_restart : {p : Program} → (n line : ℕ) (ms : List CodeMark) (a : ℕ) (f : Meant → Meant) (s t : ExprMeaning) (o : Op) (old new : Draft) → 1 ≤ n → a ≤ length old.ops → Restarts o line a old new
    → ((m : Meant) → Tells p s m → Tells p t (f m))
    → ((m : Meant) → Tells p s m → (code : Laid) (z : ℕ) → One code o line a z → ExprAt code line ms (f m).expr a z)
    → Grows p n line ms a f s t old new
grows_restart n line ms a f s t o old new k l h p q = record {
  rest = h.rest;
  front = h.front;
  past = let e = h.end in omega arith;
  room = let e = h.end in omega arith;
  code = λ m st. record { tells = p m st.tells; code = q m st.tells (laid_in new) (length new.ops) h.code };
}

-- in the place of what stands, more
pub grows_cut : {p : Program} → (n line : ℕ) (ms : List CodeMark) (a : ℕ) (f : Meant → Meant) (s t : ExprMeaning) (S : Laid → ℕ → ℕ → Type 0) (old mid new : Draft) → a ≤ length old.ops → Cuts a old mid → Adds n S mid new
    → ((m : Meant) → Tells p s m → Tells p t (f m))
    → ((m : Meant) → Tells p s m → (code : Laid) (z : ℕ) → S code a z → ExprAt code line ms (f m).expr a z)
    → Grows p n line ms a f s t old new
grows_cut n line ms a f s t S old mid new l c h p q = record {
  rest = rest_then old mid new c.rest h.rest;
  front = same_then (laid_in old) (laid_in mid) (laid_in new) 0 a c.front (kept_same (laid_in mid) (laid_in new) 0 a (let e = c.end in omega arith) h.kept);
  past = let e = c.end in let k = h.kept.longer in omega arith;
  room = let e = c.end in let r = h.room in omega arith;
  code = λ m st. record { tells = p m st.tells; code = q m st.tells (laid_in new) (length new.ops) (subst (λ x. S (laid_in new) x (length new.ops)) c.end h.code) };
}

-- behind the code of what is meant
pub adds_grows : {p : Program} {n k l line : ℕ} {ms : List CodeMark} {m : Meant} {f : Meant → Meant} {s t : ExprMeaning} {old mid new : Draft} → n + k ≤ l → Adds n (ExprCode line ms m.expr) old mid → Tells p s m → Grows p k line ms (length old.ops) f s t mid new → Adds l (ExprCode line ms (f m).expr) old new
adds_grows {p} {n} {k} {l} {line} {ms} {m} {f} {s} {t} {old} {mid} {new} r h u g = record {
  rest = rest_then old mid new h.rest g.rest;
  kept = record {
    longer = g.past;
    same = λ i o n e. let w = slice_get_within old.ops i (record { op = o; line = n }) e.here in g.front.same i o n (omega arith) w (h.kept.same i o n e);
    chains = λ next b. ap (λ (d : Draft). chain d.rows next) (rest_then old mid new h.rest g.rest);
    handlers = λ k e o. g.front.handlers k e (h.kept.handlers k e o);
    bare = bare_stays (laid_in old) (laid_in new) (ap (λ (d : Draft). d.rows) (rest_then old mid new h.rest g.rest));
  };
  room = let x = h.room in let y = g.room in omega arith;
  code = (g.code m (record { tells = u; code = h.code })).code;
}

pub tells_grows : {p : Program} {n k line : ℕ} {ms : List CodeMark} {m : Meant} {f : Meant → Meant} {s t : ExprMeaning} {old mid new : Draft} → Adds n (ExprCode line ms m.expr) old mid → Tells p s m → Grows p k line ms (length old.ops) f s t mid new → Tells p t (f m)
tells_grows {p} {n} {k} {line} {ms} {m} {f} {s} {t} {old} {mid} {new} h u g = (g.code m (record { tells = u; code = h.code })).tells
