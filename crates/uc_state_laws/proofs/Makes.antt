-- What an act makes, by what is asked: an object where one is asked for, and else none.
use Rattle.std.proofs.Common.{◌≡◌, ℕ, ◌==◌, ◌<◌, ◌&&◌, ◌||◌, Bool, true, false, not, List, [], ◌∷◌, ◌++◌, None, refl, sym, ap, ◌∙◌, arith, append-nil, append_assoc, option_to_list}
use Rattle.std.specs.Prelude.{pos, nat_lt}
use Rattle.std.specs.List.{list_any}
use Rattle.std.proofs.lemmas.List.Folds.{list_any-append}
use Rattle.uc_tree.specs.Programs.{Site}
use Rattle.uc_tree.specs.declared.limits.TheConstants.{OBJECTS}
use Rattle.uc_entry.specs.declared.entry.Entry.{Entry}
use Rattle.uc_entry.specs.declared.entry.EntryKind.{EntryKind}
use Rattle.uc_entry.specs.declared.entry.EntryKind.TheVariants as kind
use Rattle.uc_entry.specs.declared.entry.Options.{Options}
use Rattle.uc_entry.specs.declared.request.Asked.{Asked}
use Rattle.uc_entry.specs.declared.request.Request.{Request}
use Rattle.uc_entry.specs.declared.request.Request.TheVariants as ask
use Rattle.uc_acts.specs.Journal.{Journal, begin, held, is_over, is_ending, cost, asking}
use Rattle.uc_acts.specs.Known.{has, has_ended, ends, object_count, made, makes_object, takes_object}
use Rattle.uc_acts.specs.Answers.{asks, makes_for, just_made}
use Rattle.uc_acts.specs.Sound.{Sound}
use Rattle.uc_acts.specs.Legal.{IsNext}
use Rattle.uc_acts.specs.Acts.{row, fault, act, dispatch, or_fault}
use Rattle.uc_acts.specs.Laws.{Makes}
use Rattle.uc_acts.specs.KernelRuns.{Fits, MayAsk, KernelRuns, acts, more}
use Rattle.uc_acts.proofs.OpenLemmas.{still_open_silent}
use Rattle.uc_acts.proofs.SoundLemmas.{self_test}
use Rattle.uc_acts.proofs.Moves.{more_objects, one_inside}
use Rattle.uc_acts.proofs.Rows.{Lawful, row_lawful}
use Rattle.uc_acts.proofs.Law.{good_whole}
use Rattle.uc_acts.proofs.Hush.{is_silent}
use Rattle.uc_acts.proofs.Acting.{is_giving, object_of, is_quiet, destroys, AllBy, by_row}
use Rattle.uc_acts.proofs.Living.{going_row}
use Rattle.uc_acts.proofs.Counted.{counted_run, made_push}
use Rattle.uc_acts.proofs.Making.{law_makes, law_new}
use Rattle.uc_acts.proofs.Counted as counted
use Rattle.uc_acts.proofs.Held.{law_held}
use Rattle.uc_state_laws.specs.Laws.{LawEnds}
use Rattle.uc_state_laws.proofs.Ticks.{no_both, not_true, not_over}

or_true : (b : Bool) → (b || true) ≡ true
or_true true = refl
or_true false = refl

-- what ends a run

over_by : (j : Journal) (e : Entry) → is_ending e.kind ≡ true → is_over (j ++ e ∷ []) ≡ true
unfolding is_over
over_by j e h =
    list_any-append (λ x. is_ending x.kind) j (e ∷ []) ∙ ap (λ b. list_any (λ x. is_ending x.kind) j || (b || false)) h ∙ or_true (list_any (λ x. is_ending x.kind) j)

ended_by : (t : ℕ) (j : Journal) (e : Entry) (a : List Entry) → ends t e.kind e ≡ true → has_ended t (j ++ e ∷ a) ≡ true
unfolding has_ended
ended_by t j e a h =
    list_any-append (λ x. ends t x.kind x) j (e ∷ a) ∙ ap (λ b. list_any (λ x. ends t x.kind x) j || (b || list_any (λ x. ends t x.kind x) a)) h ∙ or_true (list_any (λ x. ends t x.kind x) j)

pub law_ends : LawEnds
law_ends opts sites input j p t k asked on h =
    let a = act opts sites input j p t k asked in
    let is = (going_row opts sites input j p t k asked on).0 in
    record {
      no_end = λ e. no_both (has_ended t (j ++ a)) (ap (λ l. has_ended t (j ++ l)) (is ∙ ap (row opts sites input j p t (cost k asked.line) asked.line) e) ∙ ended_by t j _ _ (self_test t)) h;
      no_fault = λ n e. no_both (is_over (j ++ a)) (ap (λ l. is_over (j ++ l)) (is ∙ ap (row opts sites input j p t (cost k asked.line) asked.line) e) ∙ over_by j _ refl) on;
    }

-- entries of a request that makes no object

module _ (p t o : ℕ) (A : Type 0) (g : Bool) where
  not_new : (i : Journal) (e : Entry) (k : EntryKind) → IsNext k e i → is_giving k ≡ false → (is_silent k ≡ false → (e.object ≡ o) × A) → (A → o < object_count i) → makes_object k e ≡ None
  not_new i e kind.Begin n d b h = cc
  not_new i e kind.Make n d b h =
      let x = b refl in
      let lt = h x.1 in
      let same = x.0 in
      absurd (omega (arith, n, lt, same))
  not_new i e k n d b h = refl

  makes_same : (i : Journal) (a : List Entry) → Lawful i a → AllBy p t o A g a → (A → o < object_count i) → (v : ℕ) → has (made (i ++ a)) v ≡ true → has (made i) v ≡ true
  makes_same i [] l b h v m = ap (λ x. has (made x) v) (sym (append-nil i)) ∙ m
  makes_same i (e ∷ a) l b h v m =
      let later = makes_same (i ++ e ∷ []) a l.1 b.1 (λ x. more_objects i e o (h x)) v (ap (λ x. has (made x) v) (append_assoc i (e ∷ []) a) ∙ m) in
      let none = not_new i e e.kind l.0.next b.0.acts b.0.door h in
      first_of (has (made i) v) (not (takes_object e.kind e v)) (sym (made_push i e v ∙ ap (λ x. (has (made i) v && not (takes_object e.kind e v)) || has (option_to_list x) v) none) ∙ later)
    where
      first_of : (b c : Bool) → ((b && c) || false) ≡ true → b ≡ true
      first_of true c h = refl
      first_of false c h = h

abbrev pub is_making : Request → Bool
is_making (ask.Make class) = true
is_making r = false

known_object : (opts : Options) (sites : List Site) (j : Journal) (t : ℕ) (r : Request) → is_making r ≡ false → Fits opts sites j t r → is_quiet r ≡ false → object_of t j r < object_count j
known_object opts sites j t (ask.Make class) n f h = cc
known_object opts sites j t (ask.Made o) n f h = f.known.made
known_object opts sites j t (ask.Spawn o) n f h = f.0.known.made
known_object opts sites j t (ask.Call o m) n f h = f.0.known.made
known_object opts sites j t (ask.Leave o failed) n f h = f.known.made
known_object opts sites j t (ask.Accept o site mask) n f h = f.0.known.made
known_object opts sites j t (ask.Wait o c x) n f h = f.known.made
known_object opts sites j t (ask.Signal o c) n f h = f.known.made
known_object opts sites j t (ask.SignalBlock o c) n f h = f.known.made
known_object opts sites j t ask.End n f h = f.known.made
known_object opts sites j t (ask.Gone o) n f h = f.known.made
known_object opts sites j t r n f h = cc

-- no object that a task holds is another's
pub same_holder : (j : Journal) (t u o : ℕ) → Sound j → has (held t j) o ≡ true → has (held u j) o ≡ true → u ≡ t
same_holder j t u o s a b =
    let x : t ∷ [] ≡ u ∷ [] = sym (one_inside j o t s (sym ((law_held j).inside t o) ∙ a)) ∙ one_inside j o u s (sym ((law_held j).inside u o) ∙ b) in
    cc x

module _ (opts : Options) (sites : List Site) (input : List ℕ) (j : Journal) (p t k : ℕ) (asked : Asked) (runs : KernelRuns opts sites input j) (m : MayAsk opts sites j p t k asked.request) (on : is_over (j ++ act opts sites input j p t k asked) ≡ false) where
  pub run_after : KernelRuns opts sites input (j ++ act opts sites input j p t k asked)
  run_after = more runs (not_over j (act opts sites input j p t k asked) on) (acts p t k asked m)

  pub makes : Makes j (act opts sites input j p t k asked) t
  makes = law_makes opts sites input j p t k asked runs m on

  row_same : (r : Request) → is_making r ≡ false → Fits opts sites j t r → (v : ℕ) → has (made (j ++ row opts sites input j p t (cost k asked.line) asked.line r)) v ≡ true → has (made j) v ≡ true
  row_same r n f v h =
      makes_same p t (object_of t j r) (is_quiet r ≡ false) (destroys r) j (row opts sites input j p t (cost k asked.line) asked.line r) (row_lawful opts sites input j p t (cost k asked.line) asked.line (good_whole opts sites input runs).sound m.runs r f) (by_row opts sites input j p t (cost k asked.line) asked.line (is_quiet r ≡ false) r (λ h. h)) (known_object opts sites j t r n f) v h

  -- who asks for no object has made none just now
  pub none_new : is_making asked.request ≡ false → (o : ℕ) → just_made t (j ++ act opts sites input j p t k asked) ≡ o ∷ [] → ⊥
  none_new n o h =
      let a = act opts sites input j p t k asked in
      let x = law_new opts sites input (j ++ a) run_after on t o h in
      let there : has (held t (j ++ a)) o ≡ true = ap (λ l. has l o) x.last ∙ last_has x.before in
      let now : has (made (j ++ a)) o ≡ true = counted.law_made opts sites input (j ++ a) run_after on t o there in
      no_both (has (made j) o) (row_same asked.request n m.fits o (ap (λ l. has (made (j ++ l)) o) (sym (going_row opts sites input j p t k asked on).0) ∙ now)) (makes.mine o h)
    where
      last_has : (xs : List ℕ) → has (xs ++ o ∷ []) o ≡ true
      last_has [] = ap (λ b. b || false) (self_test o)
      last_has (x ∷ xs) = ap (λ b. (x == o) || b) (last_has xs) ∙ or_true (x == o)

  -- who asks for one has just made it
  pub one_new : (class : ℕ) → asked.request ≡ ask.Make class → just_made t (j ++ act opts sites input j p t k asked) ≡ object_count j ∷ []
  one_new class e = by (nat_lt (object_count j) OBJECTS) ((going_row opts sites input j p t k asked on).0 ∙ ap (row opts sites input j p t (cost k asked.line) asked.line) e)
    where
      by : (b : Bool) → act opts sites input j p t k asked ≡ or_fault b (asking kind.Make p t (cost k asked.line) (object_count j) (pos class) (pos 0)) (fault p t (cost k asked.line) 16 asked.line) → just_made t (j ++ act opts sites input j p t k asked) ≡ object_count j ∷ []
      by false is = no_both (is_over (j ++ act opts sites input j p t k asked)) (ap (λ l. is_over (j ++ l)) is ∙ over_by j (fault p t (cost k asked.line) 16 asked.line) refl) on
      by true is =
          let i = asking kind.Make p t (cost k asked.line) (object_count j) (pos class) (pos 0) in
          let now : has (made (j ++ act opts sites input j p t k asked)) (object_count j) ≡ true = ap (λ l. has (made (j ++ l)) (object_count j)) is ∙ made_push j i (object_count j) ∙ ap (λ b. (has (made j) (object_count j) && true) || (b || false)) (self_test (object_count j)) ∙ or_true (has (made j) (object_count j) && true) in
          let before : has (made j) (object_count j) ≡ false = not_true (has (made j) (object_count j)) (λ h. let lt = ((counted_run opts sites input runs).of_made (object_count j) h).0 in absurd (omega (arith, lt))) in
          makes.new (object_count j) now before

-- a dispatch makes nothing, and a run opens with nothing made

pub just_made_given : (t q u : ℕ) (j : Journal) → just_made t (j ++ dispatch q u ∷ []) ≡ just_made t j
unfolding just_made
just_made_given t q u j =
    still_open_silent (λ e. makes_for t e.kind e) (λ e v. asks t e.kind e) j (dispatch q u) refl (λ v. refl)

pub just_made_begin : (opts : Options) (t : ℕ) → just_made t (begin opts ∷ []) ≡ []
unfolding just_made
just_made_begin opts t = refl

pub made_begin : (opts : Options) → made (begin opts ∷ []) ≡ 0 ∷ []
unfolding made
made_begin opts = refl
