use Rattle.std.proofs.Common.{◌≡◌, ◌∙◌, codes, List, ℕ}
use Rattle.clap.proofs.WalkLemmas.{first_value-rows}
use Rattle.clap.specs.Words.{Row, first_of, first_value, found_of, rows_of}
use Rattle.command_words.specs.Kept.{names_kept, stated, value_kept}
use Rattle.command_words.specs.Line.{arguments_found, names_found}
use Rattle.command_words.specs.Options.{OptionName, Harts, Frames, Steps, Seed, Policy, Calm, After, RunCount, Until, By, Jobs, From, To, Memory, Expect, Places, Deep, Scripts, Without, Preemptions, OwnSignals, long_name}
use Rattle.command_words.specs.declared.arguments.Arguments.{Arguments}
use Rattle.command_words.proofs.arguments.arguments_in.Goals as goal

arguments_are : (rows : List Row) (kept : Arguments)
    → names_kept kept.names
    ≡ names_found (first_of (codes "first") rows) (first_of (codes "second") rows) (first_of (codes "third") rows)
    → ((option : OptionName) → value_kept kept option ≡ first_of (long_name option) rows)
    → stated kept ≡ arguments_found rows
arguments_are rows kept names value = λ i. record { names = names i; values = λ option. value option i }

-- what is kept of the values of the parser
abbrev kept : goal.After-get_str-24 → Arguments
kept c = record {
  names = c.names_of.result;
  harts = c.get_str-4.result;
  frames = c.get_str-5.result;
  steps = c.get_str-6.result;
  seed = c.get_str-7.result;
  policy = c.get_str-8.result;
  calm = c.get_str-9.result;
  after = c.get_str-10.result;
  run_count = c.get_str-11.result;
  until = c.get_str-12.result;
  by = c.get_str-13.result;
  jobs = c.get_str-14.result;
  from = c.get_str-15.result;
  to = c.get_str-16.result;
  memory = c.get_str-17.result;
  expect = c.get_str-18.result;
  places = c.get_str-19.result;
  deep = c.get_str-20.result;
  scripts = c.get_str-21.result;
  without = c.get_str-22.result;
  preemptions = c.get_str-23.result;
  signals = c.get_str-24.result;
}

-- what the parser found under a name
at : (c : goal.After-get_str-24) (id : List ℕ) → first_value (found_of c.args.matches.now) id ≡ first_of id (rows_of (found_of c.args.matches.now))
at c id = first_value-rows (found_of c.args.matches.now) id

values : (c : goal.After-get_str-24) (option : OptionName) → value_kept (kept c) option ≡ first_of (long_name option) (rows_of (found_of c.args.matches.now))
values c Harts = c.get_str-4.ensures ∙ at c (codes "harts")
values c Frames = c.get_str-5.ensures ∙ at c (codes "frames")
values c Steps = c.get_str-6.ensures ∙ at c (codes "steps")
values c Seed = c.get_str-7.ensures ∙ at c (codes "seed")
values c Policy = c.get_str-8.ensures ∙ at c (codes "policy")
values c Calm = c.get_str-9.ensures ∙ at c (codes "calm")
values c After = c.get_str-10.ensures ∙ at c (codes "after")
values c RunCount = c.get_str-11.ensures ∙ at c (codes "runs")
values c Until = c.get_str-12.ensures ∙ at c (codes "until")
values c By = c.get_str-13.ensures ∙ at c (codes "by")
values c Jobs = c.get_str-14.ensures ∙ at c (codes "jobs")
values c From = c.get_str-15.ensures ∙ at c (codes "from")
values c To = c.get_str-16.ensures ∙ at c (codes "to")
values c Memory = c.get_str-17.ensures ∙ at c (codes "memory")
values c Expect = c.get_str-18.ensures ∙ at c (codes "expect")
values c Places = c.get_str-19.ensures ∙ at c (codes "places")
values c Deep = c.get_str-20.ensures ∙ at c (codes "deep")
values c Scripts = c.get_str-21.ensures ∙ at c (codes "scripts")
values c Without = c.get_str-22.ensures ∙ at c (codes "without")
values c Preemptions = c.get_str-23.ensures ∙ at c (codes "preemptions")
values c OwnSignals = c.get_str-24.ensures ∙ at c (codes "signals")

pub returns : goal.returns
returns c =
    let one = c.get_str.ensures ∙ at c (codes "first") in
    let two = c.get_str-2.ensures ∙ at c (codes "second") in
    let three = c.get_str-3.ensures ∙ at c (codes "third") in
    arguments_are (rows_of (found_of c.args.matches.now)) (kept c) (c.names_of.ensures ∙ (λ i. names_found (one i) (two i) (three i))) (values c)
