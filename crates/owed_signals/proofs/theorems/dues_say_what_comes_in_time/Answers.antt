use Rattle.owed_signals.proofs.DueChoices.{is_due, is_late}
use Rattle.owed_signals.proofs.theorems.dues_say_what_comes_in_time.Goals as goal

pub returns-clause-yes : goal.returns-clause-yes
returns-clause-yes c = is_due

pub returns-clause-no : goal.returns-clause-no
returns-clause-no c = is_late
