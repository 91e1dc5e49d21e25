use Rattle.kernel_threads.proofs.SavedAfter.{saved_of-with_start_other, saved_of-with_saved_other, saved_of-with_answer_other, saved_of-forget_other}
use Rattle.kernel_threads.proofs.theorems.others_keep_what_they_were_saved_with.Goals as goal

pub returns : goal.returns
returns c = record {
  child = λ t u start saved other. saved_of-with_start_other t u other start saved;
  saved = λ t u kept saved other. saved_of-with_saved_other t u other kept saved;
  answered = λ t u value saved other. saved_of-with_answer_other t u other value saved;
  ended = λ t u saved other. saved_of-forget_other t u other saved;
}
