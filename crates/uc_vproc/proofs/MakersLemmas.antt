-- Who made which entry: what a seat that comes back finds.
use Rattle.std.proofs.Common.{◌≡◌, ℕ, ◌==◌, ◌⊎◌, inl, inr, ◌||◌, Bool, true, false, cond, List, [], ◌∷◌, ◌++◌, Option, Some, None, refl, sym, ap, ◌∙◌, subst, length, replicate, append_assoc, append-nil, suc, zero, arith}
use Rattle.std.specs.List.{All}
use Rattle.std.proofs.lemmas.Bool.{eqb-true, eq-eqb}
use Rattle.std.proofs.lemmas.List.Elements.{filter-append}
use Rattle.std.specs.List.{list_any}
use Rattle.uc_entry.specs.declared.entry.Entry.{Entry}
use Rattle.uc_entry.specs.declared.entry.EntryKind.{EntryKind}
use Rattle.uc_entry.specs.declared.entry.EntryKind.TheVariants as kind
use Rattle.uc_acts.specs.Journal.{Journal, is_over, is_ending}
use Rattle.uc_acts.specs.Queues.{running}
use Rattle.uc_acts.proofs.Acting.{is_giving}
use Rattle.uc_acts.proofs.Seats.{running_other}
use Rattle.uc_lock.specs.Journals.{made_by}
use Rattle.uc_vproc.specs.declared.step.Step.{Step}
use Rattle.uc_vproc.specs.Makers.{Handed, Log, Notes, paired, tagged, entries, names, gives, server_from, server, given_in, handed_from, handed_out, MayMake, Manned}

pub not_both : {A : Type 0} (b : Bool) → b ≡ true → b ≡ false → A
not_both b e f = absurd (cc (e, f))

pub or_false : (b c : Bool) → (b || c) ≡ false → (b ≡ false) × (c ≡ false)
or_false true c e = absurd (cc e)
or_false false c e = (refl, e)

-- lists

pub entries_append : (a b : Log) → entries (a ++ b) ≡ entries a ++ entries b
entries_append [] b = refl
entries_append (x ∷ a) b = ap (λ l. x.0.0 ∷ l) (entries_append a b)

pub entries_tagged : (n : ℕ) (step : Step) (a : List Entry) → entries (tagged n step a) ≡ a
entries_tagged n step [] = refl
entries_tagged n step (e ∷ a) = ap (λ l. e ∷ l) (entries_tagged n step a)

suc_same : (m n : ℕ) → suc m ≡ suc n → m ≡ n
suc_same m n e = cc e

pub entries_paired : (j : List Entry) (ns : Notes) → length ns ≡ length j → entries (paired j ns) ≡ j
entries_paired [] ns e = refl
entries_paired (x ∷ j) [] e = absurd (cc e)
entries_paired (x ∷ j) (n ∷ ns) e = ap (λ l. x ∷ l) (entries_paired j ns (suc_same (length ns) (length j) e))

paired_tagged : (n : ℕ) (step : Step) (a : List Entry) → paired a (replicate (length a) (n, step)) ≡ tagged n step a
paired_tagged n step [] = refl
paired_tagged n step (e ∷ a) = ap (λ l. ((e, step), n) ∷ l) (paired_tagged n step a)

-- entries that follow, all of one call
pub paired_more : (n : ℕ) (step : Step) (j : List Entry) (ns : Notes) (a : List Entry) → length ns ≡ length j → paired (j ++ a) (ns ++ replicate (length a) (n, step)) ≡ paired j ns ++ tagged n step a
paired_more n step [] [] a e = paired_tagged n step a
paired_more n step [] (m ∷ ns) a e = absurd (cc e)
paired_more n step (x ∷ j) [] a e = absurd (cc e)
paired_more n step (x ∷ j) (m ∷ ns) a e =
    ap (λ l. ((x, m.1), m.0) ∷ l) (paired_more n step j ns a (suc_same (length ns) (length j) e))

-- the server

from_append : (p : ℕ) (m : Option ℕ) (a b : Log) → server_from p m (a ++ b) ≡ server_from p (server_from p m a) b
from_append p m [] b = refl
from_append p m (x ∷ a) b = from_append p (cond (gives p x.0.0.kind x.0.0) (Some x.1) m) a b

pub server_push : (p : ℕ) (log : Log) (x : (Entry × Step) × ℕ) → server p (log ++ x ∷ []) ≡ cond (gives p x.0.0.kind x.0.0) (Some x.1) (server p log)
unfolding server
server_push p log x = from_append p None log (x ∷ [])

-- an entry that gives no processor
pub gives_none : (p : ℕ) (k : EntryKind) (e : Entry) → is_giving k ≡ false → gives p k e ≡ false
gives_none p kind.Dispatch e h = absurd (cc h)
gives_none p k e h = refl

gives_other : (p : ℕ) (k : EntryKind) (e : Entry) → (e.proc == p) ≡ false → gives p k e ≡ false
gives_other p kind.Dispatch e h = h
gives_other p k e h = refl

pub may_make : (log : Log) (k : EntryKind) (e : Entry) (m : ℕ) → is_giving k ≡ false → server e.proc log ≡ Some m → MayMake log k e m
may_make log kind.Begin e m h s = absurd (cc h)
may_make log kind.Dispatch e m h s = absurd (cc h)
may_make log kind.Limit e m h s = tt
may_make log k e m h s = s

-- the last item of a list, and where it stands in another cut of it
some_left : {A : Type 0} (before : List A) (y : A) (after : List A) → [] ≡ before ++ y ∷ after → ⊥
some_left [] y after e = absurd (cc e)
some_left (b ∷ before) y after e = absurd (cc e)

split_last : (log before : Log) (x y : (Entry × Step) × ℕ) (after : Log) → log ++ x ∷ [] ≡ before ++ y ∷ after → ((before ≡ log) × (y ≡ x)) ⊎ ((rest : Log) × (log ≡ before ++ y ∷ rest))
split_last [] [] x y after e = inl (refl, cc e)
split_last [] (b ∷ before) x y after e = absurd (some_left before y after (cc e))
split_last (l ∷ log) [] x y after e = inr (log, let same : l ≡ y = cc e in ap (λ z. z ∷ log) same)
split_last (l ∷ log) (b ∷ before) x y after e = onto (split_last log before x y after (cc e))
  where
    same : l ≡ b
    same = cc e

    onto : ((before ≡ log) × (y ≡ x)) ⊎ ((rest : Log) × (log ≡ before ++ y ∷ rest)) → ((b ∷ before ≡ l ∷ log) × (y ≡ x)) ⊎ ((rest : Log) × (l ∷ log ≡ (b ∷ before) ++ y ∷ rest))
    onto (inl f) = inl (ap (λ z. z ∷ before) (sym same) ∙ ap (λ z. l ∷ z) (f.0), f.1)
    onto (inr f) = inr (f.0, ap (λ z. z ∷ log) same ∙ ap (λ z. b ∷ z) (f.1))

-- one entry more
pub manned_push : (log : Log) (x : (Entry × Step) × ℕ) → Manned log → MayMake log x.0.0.kind x.0.0 x.1 → Manned (log ++ x ∷ [])
manned_push log x m h before y after e = by (split_last log before x y after e)
  where
    by : ((before ≡ log) × (y ≡ x)) ⊎ ((rest : Log) × (log ≡ before ++ y ∷ rest)) → MayMake before y.0.0.kind y.0.0 y.1
    by (inl f) = subst (λ z. MayMake before z.0.0.kind z.0.0 z.1) (sym f.1) (subst (λ l. MayMake l x.0.0.kind x.0.0 x.1) (sym f.0) h)
    by (inr f) = m before y f.0 f.1

-- entries of an act on a processor
abbrev pub is_nil : {A : Type 0} → List A → Bool
is_nil [] = true
is_nil (x ∷ xs) = false

abbrev pub AllOn : ℕ → List Entry → Type 0
AllOn p [] = Unit {0}
AllOn p (e ∷ a) = (e.proc ≡ p) × (is_giving e.kind ≡ false) × AllOn p a

abbrev pub AllNamed : ℕ → List Entry → Type 0
AllNamed p [] = Unit {0}
AllNamed p (e ∷ a) = (e.proc ≡ p) × AllNamed p a

pub named_all : (p : ℕ) (a : List Entry) → AllOn p a → AllNamed p a
named_all p [] h = tt
named_all p (e ∷ a) h = (h.0, named_all p a h.2)

pub record Follows (p n : ℕ) (log : Log) (step : Step) (a : List Entry) : Type 0 where
  pub manned : Manned (log ++ tagged n step a)
  pub serves : server p (log ++ tagged n step a) ≡ Some n

-- the act of who served the processor last
pub manned_act : (p n : ℕ) (log : Log) (step : Step) (a : List Entry) → Manned log → server p log ≡ Some n → AllOn p a → Follows p n log step a
manned_act p n log step [] m s h = record { manned = subst Manned (sym (append-nil log)) m; serves = ap (server p) (append-nil log) ∙ s }
manned_act p n log step (e ∷ a) m s h =
    let may : MayMake log e.kind e n = may_make log e.kind e n h.1 (ap (λ q. server q log) h.0 ∙ s) in
    let on : server p (log ++ ((e, step), n) ∷ []) ≡ Some n = server_push p log ((e, step), n) ∙ ap (λ b. cond b (Some n) (server p log)) (gives_none p e.kind e h.1) ∙ s in
    let f = manned_act p n (log ++ ((e, step), n) ∷ []) step a (manned_push log ((e, step), n) m may) on h.2 in
    let same : (log ++ ((e, step), n) ∷ []) ++ tagged n step a ≡ log ++ ((e, step), n) ∷ tagged n step a = append_assoc log (((e, step), n) ∷ []) (tagged n step a) in
    record { manned = subst Manned same f.manned; serves = ap (server p) (sym same) ∙ f.serves }

-- what was handed out

handed_append : (p : ℕ) (m : Option Handed) (a b : Log) → handed_from p m (a ++ b) ≡ handed_from p (handed_from p m a) b
handed_append p m [] b = refl
handed_append p m (x ∷ a) b = handed_append p (cond (x.0.0.proc == p) (given_in x.0.1) m) a b

handed_push : (p : ℕ) (log : Log) (x : (Entry × Step) × ℕ) → handed_out p (log ++ x ∷ []) ≡ cond (x.0.0.proc == p) (given_in x.0.1) (handed_out p log)
unfolding handed_out
handed_push p log x = handed_append p None log (x ∷ [])

handed_none : (p : ℕ) (m : Option Handed) (later : Log) → names p (entries later) ≡ false → handed_from p m later ≡ m
handed_none p m [] h = refl
handed_none p m (x ∷ later) h =
    let f = or_false (x.0.0.proc == p) (names p (entries later)) h in
    ap (λ b. handed_from p (cond b (given_in x.0.1) m) later) (f.0) ∙ handed_none p m later (f.1)

-- entries that name other processors
pub handed_still : (p : ℕ) (log later : Log) → names p (entries later) ≡ false → handed_out p (log ++ later) ≡ handed_out p log
unfolding handed_out
handed_still p log later h = handed_append p None log later ∙ handed_none p (handed_from p None log) later h

handed_all : (p n : ℕ) (step : Step) (m : Option Handed) (a : List Entry) → AllNamed p a → handed_from p m (tagged n step a) ≡ cond (is_nil a) m (given_in step)
handed_all p n step m [] h = refl
handed_all p n step m (e ∷ a) h =
    ap (λ b. handed_from p (cond b (given_in step) m) (tagged n step a)) (eq-eqb e.proc p h.0) ∙ handed_all p n step (given_in step) a h.1 ∙ same (is_nil a)
  where
    same : (b : Bool) → cond b (given_in step) (given_in step) ≡ given_in step
    same true = refl
    same false = refl

-- an act on the processor, which has an entry
pub handed_act : (p n : ℕ) (log : Log) (step : Step) (a : List Entry) → AllNamed p a → is_nil a ≡ false → handed_out p (log ++ tagged n step a) ≡ given_in step
unfolding handed_out
handed_act p n log step a h some =
    handed_append p None log (tagged n step a) ∙ handed_all p n step (handed_from p None log) a h ∙ ap (λ b. cond b (handed_from p None log) (given_in step)) some

-- entries on another processor do not name this one
pub names_none : (p q n : ℕ) (step : Step) (a : List Entry) → (q == p) ≡ false → AllNamed p a → names q (entries (tagged n step a)) ≡ false
names_none p q n step [] d h = refl
names_none p q n step (e ∷ a) d h =
    ap (λ b. b || names q (entries (tagged n step a))) (apart e.proc h.0) ∙ names_none p q n step a d h.1
  where
    apart : (x : ℕ) → x ≡ p → (x == q) ≡ false
    apart x e = by (x == q) refl
      where
        by : (b : Bool) → (x == q) ≡ b → (x == q) ≡ false
        by false g = g
        by true g = not_both (q == p) (eq-eqb q p (sym (eqb-true x q g) ∙ e)) d

-- what a seat that comes back finds

running_none : (p : ℕ) → running p [] ≡ []
unfolding running
running_none p = refl

none_made : (n : ℕ) (x : (Entry × Step) × ℕ) (later : Log) → made_by n (x ∷ later) ≡ [] → ((x.1 == n) ≡ false) × (made_by n later ≡ [])
none_made n x later h = by (x.1 == n) refl h
  where
    by : (b : Bool) → (x.1 == n) ≡ b → cond b (x ∷ made_by n later) (made_by n later) ≡ [] → ((x.1 == n) ≡ false) × (made_by n later ≡ [])
    by true e h = absurd (cc h)
    by false e h = (e, h)

some_same : {A : Type 0} {x y : A} → Some x ≡ Some y → x ≡ y
some_same e = cc e

-- an entry of a run that goes on
ending_of : (j : Journal) (e : Entry) (l : Journal) → is_over (j ++ e ∷ l) ≡ false → is_ending e.kind ≡ false
unfolding is_over
ending_of [] e l h = (or_false (is_ending e.kind) (list_any (λ x. is_ending x.kind) l) h).0
ending_of (i ∷ j) e l h = ending_of j e l ((or_false (is_ending i.kind) (list_any (λ x. is_ending x.kind) (j ++ e ∷ l)) h).1)

pub record Aloof (p n t : ℕ) (seen later : Log) : Type 0 where
  pub none : names p (entries later) ≡ false
  pub serves : server p (seen ++ later) ≡ Some n
  pub runs : running p (entries (seen ++ later)) ≡ t ∷ []

module _ (p n t : ℕ) where
  clash : (seen : Log) (k : EntryKind) (e : Entry) (m : ℕ) → server p seen ≡ Some n → running p (entries seen) ≡ t ∷ [] → is_ending k ≡ false → MayMake seen k e m → e.proc ≡ p → (m == n) ≡ false → ⊥
  clash seen kind.Begin e m s r g h q f = absurd (cc (sym (running_none p) ∙ ap (λ l. running p (entries l)) (sym h) ∙ r))
  clash seen kind.Limit e m s r g h q f = absurd (cc g)
  clash seen kind.Dispatch e m s r g h q f = absurd (cc (sym h ∙ ap (λ x. running x (entries seen)) q ∙ r))
  clash seen k e m s r g h q f = not_both (m == n) (eq-eqb m n (some_same (sym h ∙ ap (λ x. server x seen) q ∙ s))) f

  -- one entry that another seat made while this one was away
  module _ (seen : Log) (x : (Entry × Step) × ℕ) (later : Log) (m : Manned (seen ++ x ∷ later)) (s : server p seen ≡ Some n) (r : running p (entries seen) ≡ t ∷ []) (f : made_by n (x ∷ later) ≡ []) (g : is_over (entries (seen ++ x ∷ later)) ≡ false) where
    same : (seen ++ x ∷ []) ++ later ≡ seen ++ x ∷ later
    same = append_assoc seen (x ∷ []) later

    going : is_ending x.0.0.kind ≡ false
    going = ending_of (entries seen) x.0.0 (entries later) (ap is_over (sym (entries_append seen (x ∷ later))) ∙ g)

    others : (x.1 == n) ≡ false
    others = (none_made n x later f).0

    elsewhere_by : (b : Bool) → (x.0.0.proc == p) ≡ b → (x.0.0.proc == p) ≡ false
    elsewhere_by true q = absurd (clash seen x.0.0.kind x.0.0 x.1 s r going (m seen x later refl) (eqb-true x.0.0.proc p q) others)
    elsewhere_by false q = q

    elsewhere : (x.0.0.proc == p) ≡ false
    elsewhere = elsewhere_by (x.0.0.proc == p) refl

    serves_on : server p (seen ++ x ∷ []) ≡ Some n
    serves_on = server_push p seen x ∙ ap (λ b. cond b (Some x.1) (server p seen)) (gives_other p x.0.0.kind x.0.0 elsewhere) ∙ s

    runs_on : running p (entries (seen ++ x ∷ [])) ≡ t ∷ []
    runs_on = ap (running p) (entries_append seen (x ∷ [])) ∙ running_other p (entries seen) x.0.0 elsewhere ∙ r

  pub aloof : (seen later : Log) → Manned (seen ++ later) → server p seen ≡ Some n → running p (entries seen) ≡ t ∷ [] → made_by n later ≡ [] → is_over (entries (seen ++ later)) ≡ false → Aloof p n t seen later
  aloof seen [] m s r f g = record { none = refl; serves = ap (server p) (append-nil seen) ∙ s; runs = ap (λ l. running p (entries l)) (append-nil seen) ∙ r }
  aloof seen (x ∷ later) m s r f g =
      let a = aloof (seen ++ x ∷ []) later (subst Manned (sym (same seen x later m s r f g)) m) (serves_on seen x later m s r f g) (runs_on seen x later m s r f g) ((none_made n x later f).1) (ap (λ l. is_over (entries l)) (same seen x later m s r f g) ∙ g) in
      record {
        none = ap (λ b. b || names p (entries later)) (elsewhere seen x later m s r f g) ∙ a.none;
        serves = ap (server p) (sym (same seen x later m s r f g)) ∙ a.serves;
        runs = ap (λ l. running p (entries l)) (sym (same seen x later m s r f g)) ∙ a.runs;
      }

cancel_self : {A : Type 0} (xs ys : List A) → xs ++ ys ≡ xs → ys ≡ []
cancel_self [] ys e = e
cancel_self (x ∷ xs) ys e = cancel_self xs ys (cc e)

-- just a seat's own items are its own, so none came since
pub none_since : (n : ℕ) (seen later : Log) → made_by n (seen ++ later) ≡ made_by n seen → made_by n later ≡ []
none_since n seen later e = cancel_self (made_by n seen) (made_by n later) (sym (filter-append (λ x. x.1 == n) seen later) ∙ e)

pub all_tagged : (n : ℕ) (step : Step) (a : List Entry) → All (λ x. x.1 ≡ n) (tagged n step a)
all_tagged n step [] k d lt = absurd (omega (arith, lt))
all_tagged n step (e ∷ a) zero d lt = refl
all_tagged n step (e ∷ a) (suc k) d lt = all_tagged n step a k d (omega (arith, lt))
