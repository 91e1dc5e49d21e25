-- A run by rounds makes choices alone, and there is one of a setting and a seed.
use Rattle.std.proofs.Common.{◌≡◌, ◌∙◌, ℕ, zero, suc, List, ◌++◌, Option, Some, None, refl, sym, subst, append-nil}
use Rattle.std.specs.Option.{option_to_list}
use Rattle.mach_types.specs.declared.events.Entry.{Entry}
use Rattle.block_model.specs.Choosing.{IsChosen, next_entry}
use Rattle.block_model.specs.Deciding.{history}
use Rattle.block_model.specs.Run.{IsBlockRun}
use Rattle.block_model.specs.Setting.{Setting}
use Rattle.block_model.proofs.Laws.{chosen_more, chosen_start, start_run}
use Rattle.whole_runs.specs.Rounds.{IsRoundsRun, after_rounds, after_turn, after_turns, log_by_rounds}
use Rattle.whole_runs.specs.Runs.{IsChosenRun}

-- a log of choices that are allowed
abbrev AreChoices : Setting → ℕ → List Entry → Type 0
AreChoices s seed log = IsBlockRun s log × IsChosen s seed log

module _ (s : Setting) (seed : ℕ) where
  turn_chooses : (h : ℕ) (log : List Entry) → AreChoices s seed log → AreChoices s seed (after_turn s seed h log)
  turn_chooses h log so_far = by_next (next_entry s seed h (history s log)) refl
    where
      by_next : (o : Option Entry) → next_entry s seed h (history s log) ≡ o → AreChoices s seed (log ++ option_to_list o)
      by_next None at = subst (AreChoices s seed) (sym (append-nil log)) so_far
      by_next (Some e) at = let more = chosen_more s seed log h e so_far.0 so_far.1 at in (more.0, more.1)

  turns_choose : (log : List Entry) (n : ℕ) → AreChoices s seed log → AreChoices s seed (after_turns s seed log n)
  turns_choose log zero so_far = so_far
  turns_choose log (suc n) so_far = turn_chooses n (after_turns s seed log n) (turns_choose log n so_far)

  rounds_choose : (n : ℕ) → AreChoices s seed (after_rounds s seed n)
  rounds_choose zero = (start_run s, chosen_start s seed)
  rounds_choose (suc n) = turns_choose (after_rounds s seed n) s.limits.harts (rounds_choose n)

  pub rounds_are_chosen : (log : List Entry) → IsRoundsRun s seed log → IsChosenRun s seed log
  unfolding log_by_rounds
  rounds_are_chosen log run = record {
    block_run = run.block_run;
    chosen = subst (IsChosen s seed) (sym run.rounds) (rounds_choose s.limits.steps).1;
    over = run.over;
  }

  pub one_log : (a b : List Entry) → IsRoundsRun s seed a → IsRoundsRun s seed b → a ≡ b
  one_log a b first second = first.rounds ∙ sym second.rounds
