-- The place of a token of a text.
use Rattle.std.proofs.Common.{◌≡◌, ℕ, zero, suc, ◌≤◌, ◌<◌, List, [], ◌∷◌, length, slice_index_or, refl, sym, ◌∙◌, subst, arith}
use Rattle.uc_tree.specs.declared.limits.TheConstants.{NESTING}
use Rattle.uc_tree.specs.declared.pos.Pos.{Pos}
use Rattle.uc_tree.specs.declared.token.Token.{Token}
use Rattle.uc_tree.specs.Tokens.{pos_at}
use Rattle.uc_grammar.specs.declared.fault.ParseFault.{ParseFault}
use Rattle.uc_grammar.specs.declared.fault.ParseFault.TheVariants.{TooDeep, NoMemory}
use Rattle.uc_grammar.specs.Text.{ProgramFails}
use Rattle.uc_parse_expr.specs.Faults.{token_of}
use Rattle.uc_parse_class.specs.Found.{FirstTooDeep, NoProgram}
use Rattle.uc_top.specs.Accepted.{place_of, DeepFault}
use Rattle.uc_top.specs.Decisions.{FailsAt}

pub place_there : (text : List ℕ) (ts : List Token) (k : ℕ) (d : Token) → k < length ts → (slice_index_or ts k d).pos ≡ place_of text ts k
place_there text [] k d h = absurd (omega (arith, h))
place_there text (t ∷ ts) zero d h = refl
place_there text (t ∷ ts) (suc k) d h = place_there text ts k d (omega (arith, h))

pub place_past : (text : List ℕ) (ts : List Token) (k : ℕ) → length ts ≤ k → pos_at text (length text) ≡ place_of text ts k
place_past text [] k h = refl
place_past text (t ∷ ts) zero h = absurd (omega (arith, h))
place_past text (t ∷ ts) (suc k) h = place_past text ts k (omega (arith, h))

pub deep_at : (text : List ℕ) (ts : List Token) (f : ParseFault) (k : ℕ) (pos : Pos) → f ≡ TooDeep k → ProgramFails NESTING ts 0 f → ((f ≡ NoMemory → ⊥) → NoProgram NESTING ts) → ((k : ℕ) → f ≡ TooDeep k → FirstTooDeep NESTING ts k) → token_of f ≤ length ts → pos ≡ place_of text ts k → FailsAt text ts pos (DeepFault ts)
deep_at text ts f k pos e fails none first within place = record {
  token = k;
  fault = record {
    fails = subst (ProgramFails NESTING ts 0) e fails;
    first = first k e;
    none = none (λ n. absurd (let same : TooDeep k ≡ NoMemory = sym e ∙ n in cc same));
    within = subst (λ g. token_of g ≤ length ts) e within;
  };
  place = place;
}
