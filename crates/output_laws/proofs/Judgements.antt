-- What is told of how the runs of a command ended is one thing, where its files are told.
use Rattle.std.proofs.Common.{◌≡◌, ◌∙◌, ℕ, List, Option, Some, None, sym, ap, subst}
use Rattle.block_model.specs.Setting.{Setting, setting_of}
use Rattle.explored_runs.specs.Explored.{IsExploredAs}
use Rattle.explored_runs.specs.Text.{explored_text}
use Rattle.call_reasons.specs.declared.reasons.OtherEnd.{OtherEnd}
use Rattle.command_words.specs.declared.commands.Settings.{Settings}
use Rattle.command_words.specs.Commands as words
use Rattle.outcomes.specs.Explorations.{IsJudgedExploration, exploration_of, other_end}
use Rattle.outcomes.specs.Judged.{IsJudged, IsMet, IsUnmet}
use Rattle.outcomes.specs.Needs.{Program, needs_of}
use Rattle.outcomes.specs.Outputs.{IsOutputOf}
use Rattle.outcomes.specs.Programs.{Files}
use Rattle.output_laws.specs.Agreement.{IsAllTold}
use Rattle.output_laws.proofs.OneExploration.{one_account}
use Rattle.output_laws.proofs.OneOutput.{one_start}

-- what was judged is an output
pub judged_output : (files : Files) (command : Option words.Command) (other : Option OtherEnd) (written : List ℕ)
    → IsJudged files command other written → IsOutputOf files command written
judged_output files None other written judged = absurd judged
judged_output files (Some (words.Runs run)) other written judged = judged.1
judged_output files (Some (words.Makes guest)) other written judged = judged.1
judged_output files (Some (words.Tries trial)) other written judged = judged.1
judged_output files (Some (words.Explores program settings)) other written judged =
    record { image = judged.image; taken = judged.taken; account = judged.account; told = judged.told; text = judged.text }
judged_output files (Some (words.Searches program settings)) other written judged = judged.1
judged_output files (Some (words.Pairs pair)) other written judged = judged.1

-- an exploration of told files has one account
module _ (files : Files) (program : List ℕ) (settings : Settings) (told : IsAllTold files (Program program settings.limits)) where
  one_told : (x y : Option OtherEnd) (a b : List ℕ) → (one : IsJudgedExploration files program settings x a)
      → (two : IsJudgedExploration files program settings y b) → one.account ≡ two.account
  one_told x y a b one two =
      let start = one_start files program settings.limits one.image two.image told one.taken two.taken in
      one_account (setting_of two.image settings.limits) (exploration_of settings) one.account two.account
      (subst (λ (s : Setting). IsExploredAs s (exploration_of settings) one.account) start one.told) two.told

-- which of its outcomes ended otherwise is one
pub one_judgement : (files : Files) (command : Option words.Command) (x y : Option OtherEnd) (a b : List ℕ)
    → IsAllTold files (needs_of command) → IsJudged files command x a → IsJudged files command y b → x ≡ y
one_judgement files None x y a b told one two = absurd one
one_judgement files (Some (words.Runs run)) x y a b told one two = one.0 ∙ sym two.0
one_judgement files (Some (words.Makes guest)) x y a b told one two = one.0 ∙ sym two.0
one_judgement files (Some (words.Tries trial)) x y a b told one two = one.0 ∙ sym two.0
one_judgement files (Some (words.Explores program settings)) x y a b told one two =
    let account = one_told files program settings told x y a b one two in
    one.judged ∙ ap (other_end settings.expected) account ∙ sym two.judged
one_judgement files (Some (words.Searches program settings)) x y a b told one two = one.0 ∙ sym two.0
one_judgement files (Some (words.Pairs pair)) x y a b told one two = one.0 ∙ sym two.0

-- all as was expected in the one, and something otherwise in the other
pub never_both : (files : Files) (command : Option words.Command) (a b : List ℕ) → IsAllTold files (needs_of command)
    → IsMet files command a → IsUnmet files command b → ⊥
never_both files command a b told met unmet =
    let same : None ≡ Some unmet.0 = one_judgement files command None (Some unmet.0) a b told met unmet.1 in
    absurd cc

-- where something ended otherwise, one text is told
pub one_unmet : (files : Files) (command : Option words.Command) (a b : List ℕ) → IsAllTold files (needs_of command)
    → IsUnmet files command a → IsUnmet files command b → a ≡ b
one_unmet files None a b told one two = absurd one.1
one_unmet files (Some (words.Runs run)) a b told one two = let none = one.1.0 in absurd cc
one_unmet files (Some (words.Makes guest)) a b told one two = let none = one.1.0 in absurd cc
one_unmet files (Some (words.Tries trial)) a b told one two = let none = one.1.0 in absurd cc
one_unmet files (Some (words.Explores program settings)) a b told one two =
    let account = one_told files program settings told (Some one.0) (Some two.0) a b one.1 two.1 in
    one.1.text ∙ ap (explored_text settings.apart) account ∙ sym two.1.text
one_unmet files (Some (words.Searches program settings)) a b told one two = let none = one.1.0 in absurd cc
one_unmet files (Some (words.Pairs pair)) a b told one two = let none = one.1.0 in absurd cc
