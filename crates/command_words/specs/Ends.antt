-- The ends of runs, as a word writes them (own): `exit N` and `killed N`, where N is a number from 0 to 255, `stuck` and `limit`. They are
-- the ends that a drawn run can have, as they stand on its last line after `end `.
use Rattle.std.specs.Prelude.{ℕ, ◌+◌, ◌==◌, Bool, List, drop, Option, Some, None, option_map, if◌then◌else◌, codes}
use Rattle.std.specs.List.{before_first, position}
use Rattle.std.specs.Str.{bytes_eq}
use Rattle.mach_types.specs.declared.limits.End.{End}
use Rattle.mach_types.specs.declared.limits.End.TheVariants.{Exit, Killed, Stuck, Limit}
use Rattle.command_words.specs.Decimals.{number_in, range_of}
use Rattle.step_log.specs.Script.{◌>>=◌}

-- a space, which parts a word from its number
abbrev pub is_space : ℕ → Bool
is_space character = character == 32

-- what stands after the first space of a text, if it has one
abbrev pub after_space : List ℕ → Option (List ℕ)
after_space text = option_map (λ place. drop (place + 1) text) (position is_space text)

-- the number of a process's status, or of a signal, that a text writes
abbrev pub small_number : List ℕ → Option ℕ
small_number text = number_in (range_of 0 255) text

-- the end that a word alone writes
abbrev pub lone_end : List ℕ → Option End
lone_end word =
    if bytes_eq word (codes "stuck") then Some Stuck else if bytes_eq word (codes "limit") then Some Limit else None

-- the end that a word and a number write
abbrev pub numbered_end : List ℕ → List ℕ → Option End
numbered_end word number =
    if bytes_eq word (codes "exit") then option_map Exit (small_number number)
    else if bytes_eq word (codes "killed") then option_map Killed (small_number number)
    else None

abbrev pub end_by : List ℕ → Option (List ℕ) → Option End
end_by word None = lone_end word
end_by word (Some number) = numbered_end word number

-- the end that a text writes, if it is one
abbrev pub end_named : List ℕ → Option End
end_named text = end_by (before_first is_space text) (after_space text)

-- the end that is expected, where one is
abbrev pub expected_end : Option (List ℕ) → Option End
expected_end value = value >>= end_named
