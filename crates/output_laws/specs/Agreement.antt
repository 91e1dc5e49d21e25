-- Two calls that ask for the same of the same files, and that no device fails (own).
use Rattle.std.specs.Prelude.{ℕ, ◌≡◌, ◌⊎◌, false, List}
use Rattle.command_words.specs.Commands.{depends_on_host}
use Rattle.command_words.specs.Words.{command_of}
use Rattle.outcomes.specs.Needs.{Needs, Nothing, Program, Script, Guest, Pair, needs_in}
use Rattle.outcomes.specs.Outcome.{Call, NoneFailed, WroteText}
use Rattle.outcomes.specs.Programs.{Files}
use Rattle.outcomes.specs.Told.{AreTold}

-- each file that is needed is told; a guest is in no file
abbrev pub IsAllTold : Files → Needs → Type 0
IsAllTold files Nothing = Unit {0}
IsAllTold files (Program program limits) = AreTold files (Program program limits)
IsAllTold files (Script program script limits) = AreTold files (Script program script limits)
IsAllTold files (Guest guest) = Unit {0}
IsAllTold files (Pair pair) = AreTold files (Pair pair)

-- two calls on the same words and the same files, which are told; no device failed in either
pub record AreAlike (a b : Call) : Type 0 where
  pub words : b.words ≡ a.words
  pub files : b.files ≡ a.files
  pub told : IsAllTold a.files (needs_in a.words)
  pub first : NoneFailed a
  pub second : NoneFailed b

-- one status, or want of memory in one of the calls
abbrev pub IsOneStatus : ℕ → ℕ → Type 0
IsOneStatus status other = (status ≡ other) ⊎ (status ≡ 7) ⊎ (other ≡ 7)

-- the words of a call have one output: it hangs on the words and the files alone, and it is of no guest
pub record HasOneOutput (a : Call) : Type 0 where
  pub quiet : depends_on_host (command_of a.words) ≡ false
  pub told : AreTold a.files (needs_in a.words)

-- both sinks gained one text
pub record WroteOneText (a b : Call) : Type 0 where
  pub text : List ℕ
  pub first : WroteText a text
  pub second : WroteText b text
