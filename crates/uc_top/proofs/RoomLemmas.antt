-- Sinks with room for all that may be put where a program is lowered.
use Rattle.std.proofs.Common.{◌≡◌, ℕ, ◌≤◌, List, [], length, sym, ap, ◌∙◌, subst, arith, IsTrue}
use Rattle.uc_tree.specs.Programs.{Program}
use Rattle.uc_acts.specs.Journal.{Journal}
use Rattle.uc_outside.specs.Taking.{SinkState, HasRoom}
use Rattle.uc_words.specs.Words.{Command, LowerFile}
use Rattle.uc_top.specs.declared.endings.Ending.{Ending}
use Rattle.uc_top.specs.declared.refusals.Refusal.{Refusal}
use Rattle.uc_top.specs.declared.refusals.Refusal.TheVariants.{Word, CannotRead, TooLong, Lexical, Syntax, TooDeep, Broken, FrameTooLarge, CodeTooLarge, BadLine, NoMemory}
use Rattle.uc_top.specs.Accepted.{IsAcceptedText, Spells}
use Rattle.uc_top.specs.Commands.{Asks, CommandDid, FileLowered, GaveTexts, listing_room}
use Rattle.uc_top.specs.Endings.{ending_text}
use Rattle.uc_top.specs.Refusals.{refusal_text}
use Rattle.uc_top.specs.Outcomes.{Scene, Ran, Refused, HasTexts, HasProgram, HaveRooms}
use Rattle.uc_top.specs.Rooms.{Holds, LowerHasRoom}
use Rattle.uc_top.proofs.Causes.{code_no, frame_no, given, no_syntax, no_texts, not_deep, not_long, not_read, unbroken, unlexed}
use Rattle.uc_top.proofs.Line.{same_line}

holds : {sink : SinkState} {bytes : ℕ} (text : List ℕ) → length text ≤ bytes → Holds sink bytes → HasRoom sink text
holds text few h = record { left = h.left; is_room = h.is_room; fits = omega (arith, few, h.fits) }

module _ (s : Scene) (h : HasTexts s) (file : List ℕ) (p : Program) (lowers : h.command ≡ LowerFile file) (steady : IsTrue s.store.steady) (is : HasProgram s h p) where
  -- what was done
  lowered : (journal : Journal) (output : List ℕ) (ending : Ending) → Ran s journal output ending → FileLowered s.store s.store_after file journal output ending
  lowered journal output ending ran =
      subst (λ (c : Command). CommandDid c s.store s.store_after journal output ending) lowers
      (subst (λ (c : Command). CommandDid c s.store s.store_after journal output ending) (same_line h.command ran.asks h.line) ran.did)

  -- what out gets is the listing of that program
  short : (journal : Journal) (output : List ℕ) (ending : Ending) → Ran s journal output ending → length output ≤ listing_room p
  short journal output ending ran =
      let d = lowered journal output ending ran in
      let c : ran.command ≡ LowerFile file = same_line h.command ran.asks h.line ∙ lowers in
      let gave : GaveTexts s.words s.store s.store_after (LowerFile file) d.text d.input = record { asks = subst (λ (x : Command). Asks s.words x) c ran.asks; on_file = tt; reads = d.reads } in
      let same : d.text ≡ h.program.bytes = given s h gave in
      let one : p ≡ d.lowered.program = d.lowered.only p (subst (λ (t : List ℕ). Spells t p) (sym same) is.spells) in
      subst (λ (x : Program). length output ≤ listing_room x) (sym one) d.lowered.is.short

  -- and err gets nothing, since all is done
  no_line : (journal : Journal) (output : List ℕ) (ending : Ending) → Ran s journal output ending → ending_text ending ≡ []
  no_line journal output ending ran = ap ending_text (lowered journal output ending ran).runs.done

  -- the text that was given is that of the program
  is_given : {c : Command} {text input : List ℕ} → GaveTexts s.words s.store s.store_after c text input → IsAcceptedText text p
  is_given g = subst (λ (t : List ℕ). IsAcceptedText t p) (sym (given s h g)) is

  -- nothing but memory can be wanting
  told : (r : Refusal) (name : List ℕ) → Refused s r name → length (refusal_text r name) ≤ length (refusal_text NoMemory [])
  told (Word n) name cause = absurd (cause.first.no_line h.command h.line)
  told CannotRead name cause = absurd (not_read s h steady name cause)
  told TooLong name cause = absurd (not_long s h name cause)
  told (Lexical why here) name cause = absurd (unlexed cause.is (is_given cause.gave))
  told (Syntax here) name cause = absurd (no_syntax cause.is (is_given cause.gave))
  told (TooDeep here) name cause = absurd (not_deep cause.is (is_given cause.gave))
  told (Broken rule here) name cause = absurd (unbroken cause.is (is_given cause.gave))
  told FrameTooLarge name cause = absurd (frame_no cause.is (is_given cause.gave))
  told CodeTooLarge name cause = absurd (code_no cause.is (is_given cause.gave))
  told (BadLine n) name cause = absurd (no_texts s h cause.asks)
  told NoMemory name cause = omega arith

pub lower_has_room : LowerHasRoom
lower_has_room s h file p lowers steady is out err = record {
  out = λ journal output ending ran. holds output (short s h file p lowers steady is journal output ending ran) out;
  line = λ journal output ending ran. let e : length (ending_text ending) ≡ length {A = ℕ} [] = ap length (no_line s h file p lowers steady is journal output ending ran) in holds (ending_text ending) (omega (arith, e)) err;
  err = λ r name cause. holds (refusal_text r name) (told s h file p lowers steady is r name cause) err;
}
