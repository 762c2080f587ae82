-- What a call answers to a text that is refused: just that refusal, with its place.
use Rattle.std.specs.Prelude.{◌≡◌, ℕ, ◌⊎◌, IsTrue}
use Rattle.uc_tree.specs.declared.pos.Pos.{Pos}
use Rattle.uc_tree.specs.declared.scan.LexicalFault.{LexicalFault}
use Rattle.uc_rules.specs.declared.rule.Rule.{Rule}
use Rattle.uc_acts.specs.Journal.{Journal}
use Rattle.uc_top.specs.declared.refusals.Refusal.{Refusal}
use Rattle.uc_top.specs.declared.refusals.Refusal.TheVariants as refusal
use Rattle.uc_top.specs.Accepted.{BreaksFirst, HasDeepFault, HasFault, HasLargeCode, HasLargeFrame, HasSyntaxFault, IsTextOf}
use Rattle.uc_top.specs.Decisions.{TextRefused}
use Rattle.uc_top.specs.Outcomes.{HasTexts, HaveRooms, OfText, Scene, Told}

-- the call ends with status 1 and this refusal
pub record ToldAs (s : Scene) (r : Refusal) (status : ℕ) (journal : Journal) : Type 0 where
  pub is_status : status ≡ 1
  pub told : Told s r journal

-- it does, or a file was not read, a put failed, or memory was wanting
abbrev pub GetsJust : Scene → ℕ → Journal → Refusal → Type 0
GetsJust s status journal r = ToldAs s r status journal ⊎ (status ≡ 3) ⊎ (status ≡ 4) ⊎ (status ≡ 8)

-- over a store that tells the named texts
pub record TextAnswers (s : Scene) (status : ℕ) (journal : Journal) : Type 0 where
  -- the text has no tokens
  pub lexical : (h : HasTexts s) (why : LexicalFault) (pos : Pos) → HasFault h.program.bytes why pos → GetsJust s status journal (refusal.Lexical why pos)
  -- its tokens stop being the beginning of a program, or something in them is nested too deep
  pub syntax : (h : HasTexts s) (pos : Pos) → HasSyntaxFault h.program.bytes pos → GetsJust s status journal (refusal.Syntax pos)
  pub too_deep : (h : HasTexts s) (pos : Pos) → HasDeepFault h.program.bytes pos → GetsJust s status journal (refusal.TooDeep pos)
  -- it is that of a program of which this is the first break
  pub broken : (h : HasTexts s) (rule : Rule) (pos : Pos) → IsTextOf h.program.bytes (BreaksFirst rule pos) → GetsJust s status journal (refusal.Broken rule pos)
  -- or which is too large
  pub large_frame : (h : HasTexts s) → IsTextOf h.program.bytes HasLargeFrame → GetsJust s status journal refusal.FrameTooLarge
  pub large_code : (h : HasTexts s) → IsTextOf h.program.bytes HasLargeCode → GetsJust s status journal refusal.CodeTooLarge
  -- where the store is steady and the sinks have room, only memory may be wanting
  pub settled : (h : HasTexts s) → IsTrue s.store.steady → HaveRooms s → (r : Refusal) → OfText r → TextRefused h.program.bytes r → ToldAs s r status journal ⊎ (status ≡ 8)
