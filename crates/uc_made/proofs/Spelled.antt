-- The tokens of the generated text are the program's.
use Rattle.std.proofs.Common.{◌≡◌, ℕ, zero, suc, ◌+◌, ◌*◌, ◌<◌, ◌≤◌, Bool, true, false, List, [], ◌∷◌, ◌++◌, length, refl, sym, ap, ◌∙◌, subst, inl, append_assoc, length-append, arith, IsTrue, true≢false}
use Rattle.std.specs.Prelude.{codes, Option, Some, None}
use Rattle.uc_tree.specs.declared.limits.TheConstants.{NESTING}
use Rattle.uc_tree.specs.declared.pos.Pos.{Pos}
use Rattle.uc_tree.specs.declared.token.Token.{Token}
use Rattle.uc_tree.specs.declared.token.TokenKind.{TokenKind}
use Rattle.uc_tree.specs.declared.token.TokenKind.TheVariants.{Name, Word, Sign}
use Rattle.uc_tree.specs.declared.token.Word.TheVariants as word
use Rattle.uc_tree.specs.declared.token.Sign.TheVariants as sign
use Rattle.uc_tree.specs.declared.kinds.Base.TheVariants as base
use Rattle.uc_tree.specs.declared.kinds.Role.TheVariants as role
use Rattle.uc_tree.specs.declared.kinds.Owner.TheVariants as owner
use Rattle.uc_tree.specs.declared.scan.ScanPlace.{ScanPlace}
use Rattle.uc_tree.specs.Tokens.{tokens_from, found_at}
use Rattle.uc_tree.specs.Statements.{Stmt, Block, stmts_of}
use Rattle.uc_tree.specs.Programs.{Item, RoutineItem}
use Rattle.uc_grammar.specs.Names.{Name as Piece, stmt_name, block_stmt_name}
use Rattle.uc_grammar.specs.Spell.{kind_at, pos_at, Run, ListRun, Many, Begins, Same}
use Rattle.uc_grammar.specs.Form.{Form, inside, Spells, Fails}
use Rattle.uc_grammar.specs.Tables.{any_token, in_braces, stmt_start}
use Rattle.uc_grammar.specs.Grammar.{inner, faults, form_of, item_form, item_at, based_item_at, name_at, stmt_form, stmt_by, block_rest}
use Rattle.uc_grammar.specs.Text.{IsProgram}
use Rattle.uc_grammar.specs.Samples.{placed}
use Rattle.uc_grammar.proofs.Fit.{run_more}
use Rattle.uc_grammar.proofs.AllForms.{fits}
use Rattle.uc_grammar.proofs.Told.{room_up}
use Rattle.uc_grammar.proofs.Read.{Found, Sound, read, reader, read_run, read_sound}
use Rattle.uc_make.specs.Generated.{workers}
use Rattle.uc_made.proofs.Lexing.{past}
use Rattle.uc_made.proofs.GeneratedTokens.{front_tokens, front_end, worker_tokens, workers_tokens, one_more, none_yet, end_tokens, all_tokens, all_is}
use Rattle.uc_made.proofs.Moved.{kind_behind, spelled_behind}
use Rattle.uc_made.proofs.Trees.{total_class, worker_class, total_stmt, worker_stmt, workers_stmts, no_stmts, more_stmts, count_stmt, main_with, made}

-- what was read is spelled
spelled : {A : Type 0} (g : Form A) (ts : List Token) (from to : ℕ) (v : A) → read (reader 16) g ts from ≡ Found to v → Spells (inner 16) g ts from to v
spelled g ts from to v e = subst (Sound (Spells (inner 16) g ts from) (Fails (inner 16) (faults 16) g ts from)) e (read_sound 16 g ts from)

-- lists that begin alike
same_front : (xs us vs : List Token) → Same (length xs) (xs ++ us) (xs ++ vs)
same_front [] us vs i h = absurd (omega (arith, h))
same_front (x ∷ xs) us vs zero h = refl
same_front (x ∷ xs) us vs (suc i) h = same_front xs us vs i (omega (arith, h))

same_more : (k : ℕ) (xs vs : List Token) → k ≤ length xs → Same k xs (xs ++ vs)
same_more k [] vs le i h = absurd (omega (arith, le, h))
same_more k (x ∷ xs) vs le zero h = refl
same_more k (x ∷ xs) vs le (suc i) h = same_more (suc i) xs vs (omega (arith, le, h)) i (omega arith)

-- the line of a worker, before whatever token

worker_read : (p : ScanPlace) (k : ℕ) (x : Token) → read (reader 16) (inside block_stmt_name) (worker_tokens p k ++ x ∷ []) 0 ≡ Found 8 (worker_stmt p k)
unfolding read reader read_run
worker_read p k x = refl

worker_spelled : (p : ScanPlace) (k : ℕ) (ys : List Token) → 0 < length ys → Spells (inner 16) (inside block_stmt_name) (worker_tokens p k ++ ys) 0 8 (worker_stmt p k)
worker_spelled p k [] some = absurd (omega (arith, some))
worker_spelled p k (x ∷ more) some =
    (fits (inside block_stmt_name) 16 16).local (worker_tokens p k ++ x ∷ []) (worker_tokens p k ++ x ∷ more) 0 8 (worker_stmt p k) (same_front (worker_tokens p k ++ x ∷ []) [] more)
    (spelled (inside block_stmt_name) (worker_tokens p k ++ x ∷ []) 0 8 (worker_stmt p k) (worker_read p k x))

workers_count : (p : ScanPlace) (n : ℕ) → length (workers_tokens p n) ≡ 8 * n
workers_count p zero = ap length (none_yet p)
workers_count p (suc n) =
    let e : length (workers_tokens p (suc n)) ≡ length (workers_tokens p n ++ worker_tokens (past p (workers n)) (suc n)) = ap length (one_more p n) in
    let l = length-append (workers_tokens p n) (worker_tokens (past p (workers n)) (suc n)) in
    let before = workers_count p n in
    omega (arith, e, l, before)

-- what stands in a block
abbrev Stands : List Token → ℕ → ℕ → Stmt → Type 0
Stands = Spells (inner 16) (inside block_stmt_name)

no_run : (ts : List Token) (from to : ℕ) (ss : List Stmt) → to ≡ from → ss ≡ [] → Run in_braces Stands ts from to ss
unfolding Run
no_run ts from to ss e f = subst (λ l. Run in_braces Stands ts from to l) (sym f) e

same_run : (ts us : List Token) (from to : ℕ) (ss rs : List Stmt) → ts ≡ us → ss ≡ rs → Run in_braces Stands ts from to ss → Run in_braces Stands us from to rs
same_run ts us from to ss rs e f r = subst (λ l. Run in_braces Stands us from to l) f (subst (λ l. Run in_braces Stands l from to ss) e r)

-- the lines of workers, behind these tokens and before others
workers_spelled : (xs : List Token) (p : ScanPlace) (n : ℕ) (ys : List Token) → 0 < length ys → Run in_braces Stands ((xs ++ workers_tokens p n) ++ ys) (length xs) (length xs + 8 * n) (workers_stmts p n)
workers_spelled xs p zero ys some = no_run ((xs ++ workers_tokens p zero) ++ ys) (length xs) (length xs + 8 * zero) (workers_stmts p zero) (omega arith) (no_stmts p)
workers_spelled xs p (suc n) ys some =
    let q : ScanPlace = past p (workers n) in
    let w : List Token = worker_tokens q (suc n) in
    let ts : List Token = (xs ++ workers_tokens p n) ++ (w ++ ys) in
    let count : length (workers_tokens p n) ≡ 8 * n = workers_count p n in
    let long : length (xs ++ workers_tokens p n) ≡ length xs + length (workers_tokens p n) = length-append xs (workers_tokens p n) in
    let here : length xs + 8 * n ≡ length (xs ++ workers_tokens p n) + 0 = omega (arith, count, long) in
    let there : length xs + 8 * suc n ≡ length (xs ++ workers_tokens p n) + 8 = omega (arith, count, long) in
    let begins : Begins in_braces ts (length xs + 8 * n) = subst (λ o. IsTrue (in_braces o)) (sym (kind_behind (xs ++ workers_tokens p n) (w ++ ys) 0 (length xs + 8 * n) here)) refl in
    let one = spelled_behind 16 (inside block_stmt_name) (xs ++ workers_tokens p n) (w ++ ys) 0 8 (worker_stmt q (suc n)) (length xs + 8 * n) (length xs + 8 * suc n) here there (worker_spelled q (suc n) ys some) in
    let before = workers_spelled xs p n (w ++ ys) (omega arith) in
    let all = run_more in_braces Stands ts (length xs) (length xs + 8 * n) (length xs + 8 * suc n) (workers_stmts p n) (worker_stmt q (suc n)) before begins one in
    let same : ts ≡ (xs ++ workers_tokens p (suc n)) ++ ys = sym (append_assoc (xs ++ workers_tokens p n) w ys) ∙ ap (λ l. l ++ ys) (append_assoc xs (workers_tokens p n) w ∙ ap (λ l. xs ++ l) (sym (one_more p n))) in
    same_run ts ((xs ++ workers_tokens p (suc n)) ++ ys) (length xs) (length xs + 8 * suc n) (workers_stmts p n ++ worker_stmt q (suc n) ∷ []) (workers_stmts p (suc n)) same (sym (more_stmts p n)) all

-- pieces by their tokens

deeper : {A : Type 0} (n : ℕ) (x : Piece A) (ts : List Token) (from to : ℕ) (v : A) → Spells (inner n) (form_of x) ts from to v → Spells (inner (suc n)) (inside x) ts from to v
unfolding inner
deeper n x ts from to v r = r

module _ (n : ℕ) (ts : List Token) where
  -- statements up to a brace
  abbrev Fills : ℕ → ℕ → List Stmt → Type 0
  Fills from last ss = Many in_braces (Spells (inner n) (inside block_stmt_name)) ts from last ss

  filled : (from last : ℕ) (ss : List Stmt) → Fills from last ss → kind_at ts last ≡ Some (Sign sign.CloseBrace) → Spells (inner n) block_rest ts from (last + 1) (stmts_of ss)
  filled from last ss r e = record { inside = ss; spelled = record { middle = last; left = ss; first = r; second = (e, (refl, refl)) }; value = refl }

  block_spelled : (from last : ℕ) (ss : List Stmt) → kind_at ts from ≡ Some (Sign sign.OpenBrace) → Fills (from + 1) last ss → kind_at ts last ≡ Some (Sign sign.CloseBrace) → Spells (inner n) stmt_form ts from (last + 1) (Block (pos_at ts from) (stmts_of ss))
  block_spelled from last ss e r f =
      subst (λ (o : Option TokenKind). Spells (inner n) (stmt_by (pos_at ts from) (stmt_start o)) ts from (last + 1) (Block (pos_at ts from) (stmts_of ss))) (sym e)
      (record { inside = stmts_of ss; spelled = filled (from + 1) last ss r f; value = refl })

  abbrev main_item : ℕ → List Stmt → Item
  main_item from ss = RoutineItem (record {
    sig = record { pos = pos_at ts from; owner = owner.Main; role = role.Plain; ret = base.Void; name = codes "main"; params = [] };
    inits = [];
    brace = pos_at ts (from + 1 + 1 + 1 + 1 + 1 + 1);
    body = stmts_of ss;
  })

  main_spelled : (from last : ℕ) (ss : List Stmt) → kind_at ts from ≡ Some (Word word.Void) → kind_at ts (from + 1) ≡ Some (Word word.UMain) → kind_at ts (from + 1 + 1) ≡ Some (Sign sign.Scope) → kind_at ts (from + 1 + 1 + 1) ≡ Some (Name (codes "main"))
      → kind_at ts (from + 1 + 1 + 1 + 1) ≡ Some (Sign sign.OpenParen) → kind_at ts (from + 1 + 1 + 1 + 1 + 1) ≡ Some (Sign sign.CloseParen) → kind_at ts (from + 1 + 1 + 1 + 1 + 1 + 1) ≡ Some (Sign sign.OpenBrace)
      → Fills (from + 1 + 1 + 1 + 1 + 1 + 1 + 1) last ss → kind_at ts last ≡ Some (Sign sign.CloseBrace) → Spells (inner n) item_form ts from (last + 1) (main_item from ss)
  main_spelled from last ss void main scope name opens closes braces r end =
      subst (λ (o : Option TokenKind). Spells (inner n) (item_at (pos_at ts from) o) ts from (last + 1) (main_item from ss)) (sym void)
      (subst (λ (o : Option TokenKind). Spells (inner n) (based_item_at (pos_at ts from) base.Void o) ts (from + 1) (last + 1) (main_item from ss)) (sym main) (
        scope,
        record {
          middle = from + 1 + 1 + 1 + 1;
          left = codes "main";
          first = subst (λ (o : Option TokenKind). Spells (inner n) (name_at o) ts (from + 1 + 1 + 1) (from + 1 + 1 + 1 + 1) (codes "main")) (sym name) (refl, refl);
          second = record {
            middle = from + 1 + 1 + 1 + 1 + 1 + 1;
            left = [];
            first = (opens, inl (closes, (refl, refl)));
            second = record {
              inside = record { sig = record { pos = pos_at ts from; owner = owner.Main; role = role.Plain; ret = base.Void; name = codes "main"; params = [] }; inits = []; brace = pos_at ts (from + 1 + 1 + 1 + 1 + 1 + 1); body = stmts_of ss };
              spelled = record {
                inside = (pos_at ts (from + 1 + 1 + 1 + 1 + 1 + 1), stmts_of ss);
                spelled = (braces, record { inside = stmts_of ss; spelled = filled (from + 1 + 1 + 1 + 1 + 1 + 1 + 1) last ss r end; value = refl });
                value = refl;
              };
              value = refl;
            };
          };
        },
      ))

-- the kinds of the tokens of the front, and its first two items

front_count : length front_tokens ≡ 113
unfolding front_tokens placed tokens_from found_at
front_count = refl

total_read : read (reader 16) item_form front_tokens 0 ≡ Found 31 total_class
unfolding read reader read_run front_tokens placed tokens_from found_at
total_read = refl

worker_class_read : read (reader 16) item_form front_tokens 31 ≡ Found 102 worker_class
unfolding read reader read_run front_tokens placed tokens_from found_at
worker_class_read = refl

total_stmt_read : read (reader 16) (inside block_stmt_name) front_tokens 109 ≡ Found 112 total_stmt
unfolding read reader read_run front_tokens placed tokens_from found_at
total_stmt_read = refl

count_read : (q : ScanPlace) (n : ℕ) → read (reader 16) (inside block_stmt_name) (end_tokens q n) 1 ≡ Found 17 (count_stmt q n)
unfolding read reader read_run
count_read q n = refl

-- what main begins with
pub record HeadAt (ts : List Token) : Type 0 where
  pub task : kind_at ts 31 ≡ Some (Word word.Task)
  pub void : kind_at ts 102 ≡ Some (Word word.Void)
  pub main : kind_at ts 103 ≡ Some (Word word.UMain)
  pub scope : kind_at ts 104 ≡ Some (Sign sign.Scope)
  pub name : kind_at ts 105 ≡ Some (Name (codes "main"))
  pub opens : kind_at ts 106 ≡ Some (Sign sign.OpenParen)
  pub closes : kind_at ts 107 ≡ Some (Sign sign.CloseParen)
  pub brace : kind_at ts 108 ≡ Some (Sign sign.OpenBrace)
  pub total : kind_at ts 109 ≡ Some (Name (codes "Total"))
  pub block : kind_at ts 112 ≡ Some (Sign sign.OpenBrace)
  pub main_pos : pos_at ts 102 ≡ record { line = 5; col = 1 }
  pub brace_pos : pos_at ts 108 ≡ record { line = 5; col = 20 }
  pub block_pos : pos_at ts 112 ≡ record { line = 7; col = 1 }

head : (rest : List Token) → HeadAt (front_tokens ++ rest)
unfolding front_tokens placed tokens_from found_at
head rest = record { task = refl; void = refl; main = refl; scope = refl; name = refl; opens = refl; closes = refl; brace = refl; total = refl; block = refl; main_pos = refl; brace_pos = refl; block_pos = refl }

in_front : {A : Type 0} (g : Form A) (from to : ℕ) (v : A) (rest : List Token) → read (reader 16) g front_tokens from ≡ Found to v → to + 1 ≤ 113 → Spells (inner NESTING) g (front_tokens ++ rest) from to v
in_front g from to v rest e le =
    let count : length front_tokens ≡ 113 = front_count in
    room_up g 16 NESTING (front_tokens ++ rest) from to v (omega arith)
    ((fits g 16 16).local front_tokens (front_tokens ++ rest) from to v (same_more (to + 1) front_tokens rest (omega (arith, le, count))) (spelled g front_tokens from to v e))

run_room : {A : Type 0} (p : Option TokenKind → Bool) (g : Form A) (m k : ℕ) → m ≤ k → (ts : List Token) (from to : ℕ) (vs : List A) → Run p (Spells (inner m) g) ts from to vs → Run p (Spells (inner k) g) ts from to vs
unfolding Run
run_room p g m k le ts from to [] r = r
run_room p g m k le ts from to (v ∷ vs) r = (r.0, r.1, room_up g m k ts from r.1 v le r.2, run_room p g m k le ts r.1 to vs r.3)

-- nothing stands behind the last token
past_last : (ts : List Token) → kind_at ts (length ts) ≡ None
past_last [] = refl
past_last (t ∷ ts) = past_last ts

over_at : (p : Option TokenKind → Bool) (ts : List Token) (at : ℕ) (o : Option TokenKind) → kind_at ts at ≡ o → p o ≡ false → Begins p ts at → ⊥
over_at p ts at o e f b = let t : p o ≡ true = subst (λ (x : Option TokenKind). p x ≡ true) e b in true≢false (sym t ∙ f)

begun_at : (p : Option TokenKind → Bool) (ts : List Token) (at : ℕ) (o : Option TokenKind) → kind_at ts at ≡ o → p o ≡ true → Begins p ts at
begun_at p ts at o e f = subst (λ (x : Option TokenKind). IsTrue (p x)) (sym e) f

module _ (n : ℕ) where
  abbrev q : ScanPlace
  q = past front_end (workers n)

  abbrev W : List Token
  W = workers_tokens front_end n

  abbrev E : List Token
  E = end_tokens q n

  abbrev L : List Token
  L = front_tokens ++ (W ++ E)

  abbrev m : ℕ
  m = 113 + 8 * n

  regrouped : (front_tokens ++ W) ++ E ≡ L
  regrouped = append_assoc front_tokens W E

  long : length (front_tokens ++ W) ≡ m
  long = let a = length-append front_tokens W in let b = front_count in let c = workers_count front_end n in omega (arith, a, b, c)

  -- the token with this number among those behind the workers
  end_kind : (j : ℕ) → kind_at L (m + j) ≡ kind_at E j
  end_kind j = ap (λ l. kind_at l (m + j)) (sym regrouped) ∙ kind_behind (front_tokens ++ W) E j (m + j) (ap (λ k. k + j) (sym long))

  first_brace : kind_at L m ≡ Some (Sign sign.CloseBrace)
  first_brace = let e : m + 0 ≡ m = omega arith in ap (kind_at L) (sym e) ∙ end_kind 0

  workers_run : Run in_braces (Spells (inner 254) (inside block_stmt_name)) L 113 m (workers_stmts front_end n)
  workers_run =
      let r = same_run ((front_tokens ++ W) ++ E) L (length front_tokens) (length front_tokens + 8 * n) (workers_stmts front_end n) (workers_stmts front_end n) regrouped refl (workers_spelled front_tokens front_end n E (omega arith)) in
      run_room in_braces (inside block_stmt_name) 16 254 (omega arith) L 113 m (workers_stmts front_end n) (subst (λ k. Run in_braces Stands L k (k + 8 * n) (workers_stmts front_end n)) front_count r)

  abbrev block : Stmt
  block = Block (pos_at L 112) (stmts_of (workers_stmts front_end n))

  the_block : Spells (inner 256) (inside block_stmt_name) L 112 (m + 1) block
  the_block =
      deeper 255 block_stmt_name L 112 (m + 1) block (deeper 254 stmt_name L 112 (m + 1) block
      (block_spelled 254 L 112 m (workers_stmts front_end n) (head (W ++ E)).block (record { run = workers_run; over = over_at in_braces L m (Some (Sign sign.CloseBrace)) first_brace refl }) first_brace))

  the_print : Spells (inner 256) (inside block_stmt_name) L (m + 1) (m + 17) (count_stmt q n)
  the_print =
      room_up (inside block_stmt_name) 16 256 L (m + 1) (m + 17) (count_stmt q n) (omega arith)
      (subst (λ (l : List Token). Spells (inner 16) (inside block_stmt_name) l (m + 1) (m + 17) (count_stmt q n)) regrouped
      (spelled_behind 16 (inside block_stmt_name) (front_tokens ++ W) E 1 17 (count_stmt q n) (m + 1) (m + 17) (ap (λ k. k + 1) (sym long)) (ap (λ k. k + 17) (sym long)) (spelled (inside block_stmt_name) E 1 17 (count_stmt q n) (count_read q n))))

  abbrev body : List Stmt
  body = total_stmt ∷ block ∷ count_stmt q n ∷ []

  body_run : Run in_braces (Spells (inner 256) (inside block_stmt_name)) L 109 (m + 17) body
  unfolding Run
  body_run = (
    begun_at in_braces L 109 (Some (Name (codes "Total"))) (head (W ++ E)).total refl,
    112,
    in_front (inside block_stmt_name) 109 112 total_stmt (W ++ E) total_stmt_read (omega arith),
    (
      begun_at in_braces L 112 (Some (Sign sign.OpenBrace)) (head (W ++ E)).block refl,
      m + 1,
      the_block,
      (begun_at in_braces L (m + 1) (Some (Word word.Cout)) (end_kind 1) refl, m + 17, the_print, refl),
    ),
  )

  last_brace : kind_at L (m + 17) ≡ Some (Sign sign.CloseBrace)
  last_brace = end_kind 17

  -- main, whose places are these
  abbrev shape : Pos → Pos → Pos → Item
  shape a b c = RoutineItem (record {
    sig = record { pos = a; owner = owner.Main; role = role.Plain; ret = base.Void; name = codes "main"; params = [] };
    inits = [];
    brace = b;
    body = stmts_of (total_stmt ∷ Block c (stmts_of (workers_stmts front_end n)) ∷ count_stmt q n ∷ []);
  })

  the_main : Spells (inner 256) item_form L 102 (m + 17 + 1) (RoutineItem (main_with (workers_stmts front_end n) (count_stmt q n)))
  the_main =
      let h = head (W ++ E) in
      let places : shape (pos_at L 102) (pos_at L 108) (pos_at L 112) ≡ RoutineItem (main_with (workers_stmts front_end n) (count_stmt q n)) =
      ap (λ a. shape a (pos_at L 108) (pos_at L 112)) h.main_pos ∙ ap (λ b. shape (record { line = 5; col = 1 }) b (pos_at L 112)) h.brace_pos ∙ ap (λ c. shape (record { line = 5; col = 1 }) (record { line = 5; col = 20 }) c) h.block_pos in
      subst (λ (x : Item). Spells (inner 256) item_form L 102 (m + 17 + 1) x) places
      (main_spelled 256 L 102 (m + 17) body h.void h.main h.scope h.name h.opens h.closes h.brace (record { run = body_run; over = over_at in_braces L (m + 17) (Some (Sign sign.CloseBrace)) last_brace refl }) last_brace)

  whole : (to : ℕ) → to ≡ m + 17 + 1 → to ≡ length L → IsProgram NESTING L 0 to (made n)
  unfolding IsProgram ListRun Run
  whole to e f = record {
    inside = total_class ∷ worker_class ∷ RoutineItem (main_with (workers_stmts front_end n) (count_stmt q n)) ∷ [];
    spelled = record {
      run = (
        31,
        in_front item_form 0 31 total_class (W ++ E) total_read (omega arith),
        (
          begun_at any_token L 31 (Some (Word word.Task)) (head (W ++ E)).task refl,
          102,
          in_front item_form 31 102 worker_class (W ++ E) worker_class_read (omega arith),
          (begun_at any_token L 102 (Some (Word word.Void)) (head (W ++ E)).void refl, m + 17 + 1, the_main, e),
        ),
      );
      over = over_at any_token L to None (ap (kind_at L) f ∙ past_last L) refl;
    };
    value = refl;
  }

  all_long : m + 17 + 1 ≡ length L
  all_long =
      let a = length-append front_tokens (W ++ E) in
      let b = length-append W E in
      let c = front_count in
      let d = workers_count front_end n in
      omega (arith, a, b, c, d)

pub generated_spelled : (n : ℕ) → IsProgram NESTING (all_tokens n) 0 (length (all_tokens n)) (made n)
generated_spelled n =
    subst (λ (l : List Token). IsProgram NESTING l 0 (length l) (made n)) (sym (all_is n)) (whole n (length (L n)) (sym (all_long n)) refl)
