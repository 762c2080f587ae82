-- What a line of words says of its options and its files.
use Rattle.std.proofs.Common.{◌≡◌, ℕ, ◌≤◌, Bool, true, false, List, [], ◌∷◌, refl, sym, subst, arith}
use Rattle.std.specs.Prelude.{Option, Some, None, option_to_list, filter_map, unwrap_or, if◌then◌else◌}
use Rattle.std.specs.List.{cons_option}
use Rattle.uc_tree.specs.declared.limits.TheConstants.{ENTRIES_DEFAULT, PROCESSORS_DEFAULT, SLICE_DEFAULT, TICKS_DEFAULT}
use Rattle.uc_entry.specs.declared.entry.Options.{Options}
use Rattle.uc_words.specs.declared.numbers.NumberOption.{NumberOption}
use Rattle.uc_words.specs.declared.numbers.NumberOption.TheVariants.{Processors, Slice, Ticks, Entries}
use Rattle.uc_words.specs.Words.{Words, Piece, File, Number, Journal, Input, ArePieces, IsLine, IsRunLine, Command, RunFile, CheckFile, LowerFile, MakeProgram, ExplainJournal, number_in, least_of, most_of, same_option}
use Rattle.uc_top.specs.Commands.{Asks}
use Rattle.uc_acts.specs.KernelRuns.{InRange}
use Rattle.uc_top.specs.Decisions.{IsInRange}

same_is : (r o : NumberOption) → same_option r o ≡ true → r ≡ o
same_is Processors Processors e = refl
same_is Processors Slice e = absurd (cc)
same_is Processors Ticks e = absurd (cc)
same_is Processors Entries e = absurd (cc)
same_is Slice Processors e = absurd (cc)
same_is Slice Slice e = refl
same_is Slice Ticks e = absurd (cc)
same_is Slice Entries e = absurd (cc)
same_is Ticks Processors e = absurd (cc)
same_is Ticks Slice e = absurd (cc)
same_is Ticks Ticks e = refl
same_is Ticks Entries e = absurd (cc)
same_is Entries Processors e = absurd (cc)
same_is Entries Slice e = absurd (cc)
same_is Entries Ticks e = absurd (cc)
same_is Entries Entries e = refl

record IsWithin (o : NumberOption) (n : ℕ) : Type 0 where
  low : least_of o ≤ n
  high : n ≤ most_of o

by_option : (b : Bool) (o q : NumberOption) (m n : ℕ) (rest : List ℕ) → same_option o q ≡ b → IsWithin q m → (rest ≡ n ∷ [] → IsWithin o n) → cons_option (if b then Some m else None) rest ≡ n ∷ [] → IsWithin o n
by_option true o q m n rest is r more e =
    let number : m ≡ n = cc in
    let option : o ≡ q = same_is o q is in
    subst (λ x. IsWithin x n) (sym option) (subst (IsWithin q) number r)
by_option false o q m n rest is r more e = more e

in_range : (o : NumberOption) (ps : List Piece) (n : ℕ) → ArePieces ps → filter_map (number_in o) ps ≡ n ∷ [] → IsWithin o n
in_range o [] n fit e = absurd (cc)
in_range o (File name ∷ ps) n fit e = in_range o ps n fit.1 e
in_range o (Number q word m ∷ ps) n fit e =
    by_option (same_option o q) o q m n (filter_map (number_in o) ps) refl (record { low = fit.0.low; high = fit.0.high }) (in_range o ps n fit.1) e
in_range o (Journal ∷ ps) n fit e = in_range o ps n fit.1 e
in_range o (Input name ∷ ps) n fit e = in_range o ps n fit.1 e

-- a number of a line, or what stands where none is given
number_within : (o : NumberOption) (default : ℕ) → IsWithin o default → (ps : List Piece) (n : Option ℕ) → ArePieces ps → filter_map (number_in o) ps ≡ option_to_list n → IsWithin o (unwrap_or n default)
number_within o default d ps None fit e = d
number_within o default d ps (Some n) fit e = in_range o ps n fit e

processors_within : IsWithin Processors PROCESSORS_DEFAULT
processors_within = record { low = omega arith; high = omega arith }

slice_within : IsWithin Slice SLICE_DEFAULT
slice_within = record { low = omega arith; high = omega arith }

ticks_within : IsWithin Ticks TICKS_DEFAULT
ticks_within = record { low = omega arith; high = omega arith }

entries_within : IsWithin Entries ENTRIES_DEFAULT
entries_within = record { low = omega arith; high = omega arith }

run_range : {words : Words} {file : List ℕ} {opts : Options} {too : Bool} {named : Option (List ℕ)} → IsRunLine words file opts too named → InRange opts
run_range l =
    let p = number_within Processors PROCESSORS_DEFAULT processors_within l.pieces l.numbers.processors l.fit (l.one_number Processors) in
    let s = number_within Slice SLICE_DEFAULT slice_within l.pieces l.numbers.slice l.fit (l.one_number Slice) in
    let k = number_within Ticks TICKS_DEFAULT ticks_within l.pieces l.numbers.ticks l.fit (l.one_number Ticks) in
    let e = number_within Entries ENTRIES_DEFAULT entries_within l.pieces l.numbers.entries l.fit (l.one_number Entries) in
    subst InRange (sym l.options) (record {
      processors_min = p.low;
      processors_max = p.high;
      slice_min = s.low;
      slice_max = s.high;
      ticks_min = k.low;
      ticks_max = k.high;
      entries_min = e.low;
      entries_max = e.high;
    })

-- the numbers of a line are in their ranges
pub in_line : (words : Words) (c : Command) → IsLine words c → IsInRange c
in_line words (RunFile file opts too named) l = run_range l
in_line words (CheckFile file) l = tt
in_line words (LowerFile file) l = tt
in_line words (MakeProgram n) l = (l.value.low, l.value.high)
in_line words (ExplainJournal file object) l = tt

-- a line asks for one thing
pub same_line : {words : Words} {c : Command} (d : Command) → Asks words c → IsLine words d → c ≡ d
same_line d a l = sym (a.only d l)
