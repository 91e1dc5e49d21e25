-- What a command needs: a program, and perhaps a script for it; a guest; or two programs and a script for both. The causes of faults speak of needs, not of
-- commands.
use Rattle.std.specs.Prelude.{ℕ, List, Option, Some, None}
use Rattle.mach_types.specs.declared.limits.Limits.{Limits}
use Rattle.command_words.specs.declared.commands.Guest.{Guest as AskedGuest}
use Rattle.command_words.specs.Commands as words
use Rattle.command_words.specs.Words.{command_of}

-- nothing; the program in the file of this name, taken under these limits; such a program, and the script in the file
-- of the second name, which is read once the program was taken; the file of a guest, which is made; or the files of a pair
pub data Needs : Type 0 where
  Nothing : Needs
  Program : (program : List ℕ) (limits : Limits) → Needs
  Script : (program : List ℕ) (script : List ℕ) (limits : Limits) → Needs
  Guest : (guest : AskedGuest) → Needs
  Pair : (pair : words.PairRun) → Needs

-- what the program of this name needs by how the log of its run comes about
abbrev pub needs_by : List ℕ → words.Source → Limits → Needs
needs_by program words.Rule limits = Program program limits
needs_by program (words.Script name) limits = Script program name limits
needs_by program (words.Workers seed) limits = Program program limits
needs_by program (words.Drawn seed draws) limits = Program program limits
needs_by program (words.DrawnAfter name seed draws) limits = Script program name limits

-- what a command needs
abbrev pub needs_of : Option words.Command → Needs
needs_of None = Nothing
needs_of (Some (words.Runs run)) = needs_by run.program run.source run.limits
needs_of (Some (words.Makes guest)) = Guest guest
needs_of (Some (words.Tries trial)) = Guest trial.guest
needs_of (Some (words.Explores program settings)) = Program program settings.limits
needs_of (Some (words.Searches program settings)) = Program program settings.limits
needs_of (Some (words.Pairs pair)) = Pair pair

-- what the command of the words needs
abbrev pub needs_in : List (List ℕ) → Needs
needs_in words = needs_of (command_of words)
