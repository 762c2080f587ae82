use Rattle.uc_top.proofs.Causes.{causes, stops, answers, rooms, completes}
use Rattle.uc_top.proofs.AnswerLemmas.{text_answers}
use Rattle.uc_top.proofs.JournalLemmas.{journal_answers}
use Rattle.uc_top.proofs.top.run_words.Goals as goal

pub returns-clause-causes : goal.returns-clause-causes
returns-clause-causes g c = causes _ c.work-outcome.ensures.leaves

pub returns-clause-stops : goal.returns-clause-stops
returns-clause-stops g c = stops _ c.work-outcome.ensures.leaves

pub returns-clause-answers : goal.returns-clause-answers
returns-clause-answers g c = answers _ c.work-outcome.ensures.leaves

pub returns-clause-rooms : goal.returns-clause-rooms
returns-clause-rooms g c = rooms _ c.work-outcome.ensures.leaves

pub returns-clause-completes : goal.returns-clause-completes
returns-clause-completes g c = completes _ c.work-outcome.ensures.leaves

pub returns-clause-texts : goal.returns-clause-texts
returns-clause-texts g c = text_answers _ c.work-outcome.ensures.leaves

pub returns-clause-journals : goal.returns-clause-journals
returns-clause-journals g c = journal_answers _ c.work-outcome.ensures.leaves
