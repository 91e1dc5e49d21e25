-- A parser with all options is one with those that are left.
use Rattle.std.proofs.Common.{◌≡◌, drop, map}
use Rattle.std.specs.Prelude.{fold}
use Rattle.clap.specs.Words.{app_of}
use Rattle.command_words.specs.Kept.{named}
use Rattle.command_words.specs.Line.{with_option}
use Rattle.command_words.proofs.arguments.with_options.Given as goal

abbrev pub invariant-loop-name : goal.invariant-loop-name
invariant-loop-name l =
    fold with_option (app_of l.fn.parser) (map named l.fn.options)
    ≡ fold with_option (app_of l.parser) (map named (drop l.name-index l.options))
