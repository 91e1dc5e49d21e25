-- Worked examples of words, by computation.
use Rattle.std.proofs.Common.{◌≡◌, ℕ, ◌-◌, ◌^◌, ◌==◌, Bool, true, false, not, List, [], ◌∷◌, Option, Some, None, is_some, refl, codes}
use Rattle.std.specs.List.{list_all, slice_split}
use Rattle.mach_types.specs.declared.limits.Limits.{Limits}
use Rattle.draw_policies.specs.declared.policies.Policies.{Policies}
use Rattle.draw_policies.specs.declared.policies.Policies.TheVariants.{All, Only}
use Rattle.draw_policies.specs.declared.policies.Policy.TheVariants as policy
use Rattle.search_reductions.specs.Reductions.{all_reductions}
use Rattle.search_reductions.specs.declared.signals.Signals.TheVariants.{Any, Prompt}
use Rattle.guest_names.specs.declared.names.Name.TheVariants.{Counter, Migrate}
use Rattle.command_words.specs.Commands.{Command, Runs, Makes, Tries, Explores, Searches, Pairs, Source, Rule, Script, Workers, Drawn, DrawnAfter}
use Rattle.command_words.specs.declared.commands.LineSpan.{LineSpan}
use Rattle.command_words.specs.declared.commands.SearchSettings.{SearchSettings}
use Rattle.command_words.specs.declared.commands.Settings.{Settings}
use Rattle.draw_policies.specs.declared.outcome_keys.OutcomeKey.{OutcomeKey}
use Rattle.draw_policies.specs.declared.outcome_keys.OutcomeKey.TheVariants.{ByText, ByEnd}
use Rattle.command_words.specs.declared.spans.MemorySpan.{MemorySpan}
use Rattle.command_words.specs.Ends.{end_named}
use Rattle.mach_types.specs.declared.limits.End.{End}
use Rattle.mach_types.specs.declared.limits.End.TheVariants.{Exit, Killed, Stuck, Limit}
use Rattle.command_words.specs.Options.{number_of}
use Rattle.command_words.specs.Shown.{Shown, Output, Summary, Place, Gathered, Trace}
use Rattle.command_words.specs.Spans.{address_of, span_of}
use Rattle.command_words.specs.Words.{arguments_of, command_of}

abbrev limits : ℕ → ℕ → ℕ → Limits
limits harts frames steps = record { harts = harts; frames = frames; steps = steps }

abbrev lines : ℕ → Option ℕ → LineSpan
lines from to = record { from = from; to = to }

-- the commands
abbrev asked : List ℕ → Source → Shown → Limits → Command
asked program source shown limits =
    Runs (record { program = program; source = source; shown = shown; limits = limits })

abbrev solo : List ℕ → Limits → Command
solo program limits = asked program Rule Output limits

abbrev play : List ℕ → List ℕ → Limits → Command
play program script limits = asked program (Script script) Output limits

abbrev blocks : List ℕ → List ℕ → Limits → Command
blocks program script limits = asked program (Script script) Summary limits

abbrev inspect : List ℕ → List ℕ → Limits → Command
inspect program script limits = asked program (Script script) (Place []) limits

abbrev gather : List ℕ → List ℕ → Limits → Command
gather program script limits = asked program (Script script) Gathered limits

abbrev run : List ℕ → Limits → ℕ → Command
run program limits seed = asked program (Workers seed) Output limits

abbrev draw : List ℕ → Limits → ℕ → Policies → Option ℕ → Command
draw program limits seed policies calm =
    asked program (Drawn seed (record { policies = policies; calm = calm })) Output limits

abbrev three_harts : Option Command
three_harts = Some (play (codes "F") (codes "S") (limits 3 4096 200000))

-- whether none of these lines asks for anything, whose words stand one blank apart
abbrev are_refused : List (List ℕ) → Bool
are_refused lines = list_all (λ line. not (is_some (command_of (slice_split (λ byte. byte == 32) line)))) lines

-- the limits where no option is given
solo_defaults : command_of (codes "solo" ∷ codes "F" ∷ []) ≡ Some (solo (codes "F") (limits 1 4096 200000))
unfolding command_of arguments_of
solo_defaults = refl

play_defaults : command_of (codes "play" ∷ codes "F" ∷ codes "S" ∷ [])
    ≡ Some (play (codes "F") (codes "S") (limits 2 4096 200000))
unfolding command_of arguments_of
play_defaults = refl

-- `play F S --harts 3`, with the option before its names, between them, behind them, and as one word
harts_behind : command_of (codes "play" ∷ codes "F" ∷ codes "S" ∷ codes "--harts" ∷ codes "3" ∷ [])
    ≡ three_harts
unfolding command_of arguments_of
harts_behind = refl

harts_before : command_of (codes "play" ∷ codes "--harts" ∷ codes "3" ∷ codes "F" ∷ codes "S" ∷ [])
    ≡ three_harts
unfolding command_of arguments_of
harts_before = refl

harts_between : command_of (codes "play" ∷ codes "F" ∷ codes "--harts" ∷ codes "3" ∷ codes "S" ∷ [])
    ≡ three_harts
unfolding command_of arguments_of
harts_between = refl

harts_in_one_word : command_of (codes "play" ∷ codes "F" ∷ codes "S" ∷ codes "--harts=3" ∷ []) ≡ three_harts
unfolding command_of arguments_of
harts_in_one_word = refl

-- an option stands before or behind the name, as one word or as two
value_behind_equals : command_of (codes "solo" ∷ codes "--steps=1" ∷ codes "F" ∷ [])
    ≡ Some (solo (codes "F") (limits 1 4096 1))
unfolding command_of arguments_of
value_behind_equals = refl

value_in_next_word : command_of (codes "solo" ∷ codes "F" ∷ codes "--steps" ∷ codes "1" ∷ [])
    ≡ Some (solo (codes "F") (limits 1 4096 1))
unfolding command_of arguments_of
value_in_next_word = refl

two_options : command_of (codes "solo" ∷ codes "--frames" ∷ codes "128" ∷ codes "--steps=5" ∷ codes "F" ∷ [])
    ≡ Some (solo (codes "F") (limits 1 128 5))
unfolding command_of arguments_of
two_options = refl

most_harts : command_of (codes "play" ∷ codes "F" ∷ codes "S" ∷ codes "--harts=8" ∷ [])
    ≡ Some (play (codes "F") (codes "S") (limits 8 4096 200000))
unfolding command_of arguments_of
most_harts = refl

-- behind `--` each word is a name
options_ended : command_of (codes "solo" ∷ codes "--steps" ∷ codes "1" ∷ codes "--" ∷ codes "F" ∷ [])
    ≡ Some (solo (codes "F") (limits 1 4096 1))
unfolding command_of arguments_of
options_ended = refl

name_like_an_option : command_of (codes "solo" ∷ codes "--" ∷ codes "--steps" ∷ [])
    ≡ Some (solo (codes "--steps") (limits 1 4096 200000))
unfolding command_of arguments_of
name_like_an_option = refl

name_of_two_dashes : command_of (codes "solo" ∷ codes "--" ∷ codes "--" ∷ [])
    ≡ Some (solo (codes "--") (limits 1 4096 200000))
unfolding command_of arguments_of
name_of_two_dashes = refl

-- `-` alone is a name, and so is the empty word
name_of_one_dash : command_of (codes "solo" ∷ codes "-" ∷ []) ≡ Some (solo (codes "-") (limits 1 4096 200000))
unfolding command_of arguments_of
name_of_one_dash = refl

name_of_no_character : command_of (codes "solo" ∷ codes "" ∷ [])
    ≡ Some (solo (codes "") (limits 1 4096 200000))
unfolding command_of arguments_of
name_of_no_character = refl

-- a number may have leading zeros, but 20 digits at most
leading_zeros : command_of (codes "solo" ∷ codes "--steps=00001" ∷ codes "F" ∷ [])
    ≡ Some (solo (codes "F") (limits 1 4096 1))
unfolding command_of arguments_of
leading_zeros = refl

many_digits : command_of (codes "solo" ∷ codes "--steps=000000000000000000001" ∷ codes "F" ∷ []) ≡ None
unfolding command_of arguments_of
many_digits = refl

twenty_digits : command_of (codes "solo" ∷ codes "--steps=00000000000000000001" ∷ codes "F" ∷ [])
    ≡ Some (solo (codes "F") (limits 1 4096 1))
unfolding command_of arguments_of
twenty_digits = refl

-- a number is below 2 ^ 64, whatever the option's range: 2 ^ 64 itself has 20 digits
largest_number : number_of (codes "18446744073709551615") ≡ Some 18446744073709551615
largest_number = refl

number_too_large : number_of (codes "18446744073709551616") ≡ None
number_too_large = refl

-- no command, or another one
no_word : command_of ([]) ≡ None
unfolding command_of arguments_of
no_word = refl

another_command : command_of (codes "Solo" ∷ codes "F" ∷ []) ≡ None
unfolding command_of arguments_of
another_command = refl

-- the number of names is exact
wrong_name_counts : are_refused (
    codes "solo" ∷
    codes "solo F G" ∷
    codes "play F" ∷
    codes "play F S T" ∷
    []) ≡ true
unfolding command_of arguments_of
wrong_name_counts = refl

-- an option that the command has not, one that no command has, and one that is given twice
wrong_options : are_refused (
    codes "solo --harts 2 F" ∷
    codes "solo --step 1 F" ∷
    codes "solo -x" ∷
    codes "solo --steps=1 --steps=1 F" ∷
    codes "solo --steps 1 F --steps=1" ∷
    []) ≡ true
unfolding command_of arguments_of
wrong_options = refl

-- an option without a value, or with one that is no number
no_numbers : are_refused (
    codes "solo F --steps" ∷
    codes "solo --steps= F" ∷
    codes "solo --steps -1 F" ∷
    codes "solo F --steps -- 1" ∷
    codes "solo --steps=+1 F" ∷
    codes "solo --steps=1=1 F" ∷
    []) ≡ true
unfolding command_of arguments_of
no_numbers = refl

-- a number out of its range
out_of_range : are_refused (
    codes "solo --steps 0 F" ∷
    codes "solo --steps 1000001 F" ∷
    codes "play F S --harts 0" ∷
    codes "play F S --harts 9" ∷
    codes "play F S --frames 127" ∷
    []) ≡ true
unfolding command_of arguments_of
out_of_range = refl

-- `run F` has the number of harts and the seed that are given, or else the defaults
run_defaults : command_of (codes "run" ∷ codes "F" ∷ []) ≡ Some (run (codes "F") (limits 2 4096 200000) 1)
unfolding command_of arguments_of
run_defaults = refl

run_options : command_of
    (codes "run" ∷ codes "--harts" ∷ codes "3" ∷ codes "F" ∷ codes "--frames=128" ∷ codes "--steps=5"
    ∷ codes "--seed" ∷ codes "7" ∷ []) ≡ Some (run (codes "F") (limits 3 128 5) 7)
unfolding command_of arguments_of
run_options = refl

least_seed : command_of (codes "run" ∷ codes "F" ∷ codes "--seed=0" ∷ [])
    ≡ Some (run (codes "F") (limits 2 4096 200000) 0)
unfolding command_of arguments_of
least_seed = refl

largest_seed : command_of
    (codes "run" ∷ codes "--seed=18446744073709551615" ∷ codes "--" ∷ codes "F" ∷ [])
    ≡ Some (run (codes "F") (limits 2 4096 200000) (2 ^ 64 - 1))
unfolding command_of arguments_of
largest_seed = refl

wrong_runs : are_refused (
    codes "run --seed 18446744073709551616 F" ∷
    codes "run --seed=1 --seed=1 F" ∷
    codes "run --harts 9 F" ∷
    codes "run --harts 2 --harts 2 F" ∷
    codes "run" ∷
    codes "run F S" ∷
    []) ≡ true
unfolding command_of arguments_of
wrong_runs = refl

-- so has `draw F`
draw_defaults : command_of (codes "draw" ∷ codes "F" ∷ [])
    ≡ Some (draw (codes "F") (limits 2 4096 200000) 1 All None)
unfolding command_of arguments_of
draw_defaults = refl

draw_options : command_of
    (codes "draw" ∷ codes "--harts" ∷ codes "3" ∷ codes "F" ∷ codes "--frames=128" ∷ codes "--steps=5"
    ∷ codes "--seed" ∷ codes "7" ∷ []) ≡ Some (draw (codes "F") (limits 3 128 5) 7 All None)
unfolding command_of arguments_of
draw_options = refl

draw_policy : command_of (codes "draw" ∷ codes "--policy=stall" ∷ codes "F" ∷ codes "--calm" ∷ codes "0" ∷ [])
    ≡ Some (draw (codes "F") (limits 2 4096 200000) 1 (Only policy.Stall) (Some 0))
unfolding command_of arguments_of
draw_policy = refl

draw_all : command_of (codes "draw" ∷ codes "F" ∷ codes "--policy" ∷ codes "all" ∷ [])
    ≡ Some (draw (codes "F") (limits 2 4096 200000) 1 All None)
unfolding command_of arguments_of
draw_all = refl

draw_by_rule : command_of (codes "draw" ∷ codes "F" ∷ codes "--policy=rule" ∷ [])
    ≡ Some (draw (codes "F") (limits 2 4096 200000) 1 (Only policy.Rule) None)
unfolding command_of arguments_of
draw_by_rule = refl

-- behind a script, of any name but `-`
abbrev draw_after : List ℕ → Policies → Command
draw_after script policies =
    asked (codes "F") (DrawnAfter script 7 (record { policies = policies; calm = None })) Output (limits 2 4096 200000)

draw_after_script : command_of (codes "draw" ∷ codes "--after" ∷ codes "S" ∷ codes "F" ∷ codes "--seed=7" ∷ [])
    ≡ Some (draw_after (codes "S") All)
unfolding command_of arguments_of
draw_after_script = refl

draw_after_by_rule :
    command_of (codes "draw" ∷ codes "F" ∷ codes "--seed=7" ∷ codes "--after=-S" ∷ codes "--policy=rule" ∷ [])
    ≡ Some (draw_after (codes "-S") (Only policy.Rule))
unfolding command_of arguments_of
draw_after_by_rule = refl

no_script_before : are_refused (
    codes "draw F --after=-" ∷
    codes "explore F --after=S" ∷
    []) ≡ true
unfolding command_of arguments_of
no_script_before = refl

-- the policy of the fair end has no word here, and words are in lower case
no_policies : are_refused (
    codes "draw F --policy=fair" ∷
    codes "draw F --policy=Pos" ∷
    codes "draw F --calm=1000001" ∷
    codes "run F --policy=all" ∷
    []) ≡ true
unfolding command_of arguments_of
no_policies = refl

abbrev searching : Limits → ℕ → Bool → SearchSettings
searching limits places scripts =
    record { limits = limits; places = places; scripts = scripts; reductions = all_reductions; preemptions = None; signals = Prompt; apart = ByText }

abbrev settings : ℕ → Option ℕ → OutcomeKey → Option ℕ → Settings
settings runs until apart jobs = record {
  limits = limits 2 4096 200000;
  seed = 1;
  draws = record { policies = All; calm = None };
  runs = runs;
  until = until;
  apart = apart;
  jobs = jobs;
  span = lines 1 None;
  expected = None;
  search = record (searching (limits 2 4096 100000) 1000000 true) { apart = apart };
}

explore_defaults : command_of (codes "explore" ∷ codes "F" ∷ []) ≡ Some (Explores (codes "F") (settings 10000 None ByText None))
unfolding command_of arguments_of
explore_defaults = refl

explore_options : command_of
    (codes "explore" ∷ codes "--runs=7" ∷ codes "--until" ∷ codes "2" ∷ codes "F" ∷ codes "--by=end" ∷ codes "--jobs=64" ∷ [])
    ≡ Some (Explores (codes "F") (settings 7 (Some 2) ByEnd (Some 64)))
unfolding command_of arguments_of
explore_options = refl

-- each end that is expected
abbrev expecting : List ℕ → End → Type 0
expecting text end = command_of (codes "explore" ∷ codes "F" ∷ codes "--expect" ∷ text ∷ [])
    ≡ Some (Explores (codes "F") (record (settings 10000 None ByText None) { expected = Some end }))

explore_expects :
    expecting (codes "exit 0") (Exit 0) × expecting (codes "killed 11") (Killed 11) × expecting (codes "stuck") Stuck
    × expecting (codes "limit") Limit
unfolding command_of arguments_of
explore_expects = (refl, refl, refl, refl)

-- no run of an exploration is left open, and no status is above 255
wrong_ends : are_refused (
    codes "explore F --expect=open" ∷
    codes "explore F --expect=exit" ∷
    codes "explore F --expect=0" ∷
    codes "draw F --expect=stuck" ∷
    []) ≡ true
unfolding command_of arguments_of
wrong_ends = refl

no_such_status : end_named (codes "exit 256") ≡ None
no_such_status = refl

no_second_space : end_named (codes "exit  0") ≡ None
no_second_space = refl

-- `outcomes F` finds all outcomes, with the harts, the frames, the places and the events to a place that are given, or else the defaults
outcomes_defaults : command_of (codes "outcomes" ∷ codes "F" ∷ [])
    ≡ Some (Searches (codes "F") (searching (limits 2 4096 100000) 1000000 true))
unfolding command_of arguments_of
outcomes_defaults = refl

outcomes_options : command_of
    (codes "outcomes" ∷ codes "--places" ∷ codes "16000000" ∷ codes "--deep=7" ∷ codes "F" ∷ codes "--scripts=no"
    ∷ codes "--harts=1" ∷ codes "--frames=128" ∷ []) ≡ Some (Searches (codes "F") (searching (limits 1 128 7) 16000000 false))
unfolding command_of arguments_of
outcomes_options = refl

outcomes_without : command_of (codes "outcomes" ∷ codes "F" ∷ codes "--without" ∷ codes "local-steps" ∷ [])
    ≡ Some (Searches (codes "F") (record (searching (limits 2 4096 100000) 1000000 true) { reductions = record { local_steps = false } }))
unfolding command_of arguments_of
outcomes_without = refl

outcomes_within : command_of (codes "outcomes" ∷ codes "F" ∷ codes "--preemptions" ∷ codes "0" ∷ [])
    ≡ Some (Searches (codes "F") (record (searching (limits 2 4096 100000) 1000000 true) { preemptions = Some 0 }))
unfolding command_of arguments_of
outcomes_within = refl

outcomes_of_all_runs : command_of (codes "outcomes" ∷ codes "F" ∷ codes "--signals" ∷ codes "any" ∷ [])
    ≡ Some (Searches (codes "F") (record (searching (limits 2 4096 100000) 1000000 true) { signals = Any }))
unfolding command_of arguments_of
outcomes_of_all_runs = refl

outcomes_by_end : command_of (codes "outcomes" ∷ codes "F" ∷ codes "--by" ∷ codes "end" ∷ [])
    ≡ Some (Searches (codes "F") (record (searching (limits 2 4096 100000) 1000000 true) { apart = ByEnd }))
unfolding command_of arguments_of
outcomes_by_end = refl

wrong_outcomes : are_refused (
    codes "outcomes F --places=0" ∷
    codes "outcomes F --places=16000001" ∷
    codes "outcomes F --deep=1000001" ∷
    codes "outcomes F --scripts=maybe" ∷
    codes "outcomes F --by=console" ∷
    codes "outcomes F --without=steps" ∷
    codes "outcomes F --without=" ∷
    codes "explore F --without=local-steps" ∷
    codes "outcomes F --preemptions=256" ∷
    codes "outcomes F --preemptions=all" ∷
    codes "explore F --preemptions=1" ∷
    codes "outcomes F --signals=late" ∷
    codes "explore F --signals=any" ∷
    codes "outcomes F --steps=5" ∷
    codes "outcomes F --seed=1" ∷
    codes "explore F --places=5" ∷
    codes "outcomes F S" ∷
    []) ≡ true
unfolding command_of arguments_of
wrong_outcomes = refl

wrong_draws : are_refused (
    codes "explore F --runs=0" ∷
    codes "explore F --by=console" ∷
    codes "draw --seed=1 --seed=1 F" ∷
    codes "draw F S" ∷
    []) ≡ true
unfolding command_of arguments_of
wrong_draws = refl

-- `blocks F S`, `inspect F S` and `gather F S` have the limits that are given, or else the defaults
abbrev HasDefaults : List ℕ → (List ℕ → List ℕ → Limits → Command) → Type 0
HasDefaults word make =
    command_of (word ∷ codes "F" ∷ codes "S" ∷ []) ≡ Some (make (codes "F") (codes "S") (limits 2 4096 200000))

shown_defaults : HasDefaults (codes "blocks") blocks × HasDefaults (codes "inspect") inspect × HasDefaults (codes "gather") gather
unfolding command_of arguments_of
shown_defaults = (refl, refl, refl)

blocks_options : command_of
    (codes "blocks" ∷ codes "--harts" ∷ codes "3" ∷ codes "F" ∷ codes "--frames=128" ∷ codes "S"
    ∷ codes "--steps=5" ∷ []) ≡ Some (blocks (codes "F") (codes "S") (limits 3 128 5))
unfolding command_of arguments_of
blocks_options = refl

inspect_options : command_of (codes "inspect" ∷ codes "F" ∷ codes "--harts=8" ∷ codes "S" ∷ [])
    ≡ Some (inspect (codes "F") (codes "S") (limits 8 4096 200000))
unfolding command_of arguments_of
inspect_options = refl

gather_options : command_of
    (codes "gather" ∷ codes "--frames" ∷ codes "128" ∷ codes "F" ∷ codes "S" ∷ codes "--steps=5"
    ∷ codes "--harts=8" ∷ []) ≡ Some (gather (codes "F") (codes "S") (limits 8 128 5))
unfolding command_of arguments_of
gather_options = refl

-- and two names
abbrev TakesNoOneName : List ℕ → Type 0
TakesNoOneName word = command_of (word ∷ codes "F" ∷ []) ≡ None

shown_one_name : TakesNoOneName (codes "blocks") × TakesNoOneName (codes "inspect") × TakesNoOneName (codes "gather")
unfolding command_of arguments_of
shown_one_name = (refl, refl, refl)

wrong_blocks : are_refused (
    codes "blocks F S T" ∷
    codes "blocks F S --harts=9" ∷
    []) ≡ true
unfolding command_of arguments_of
wrong_blocks = refl

-- `inspect F S` shows no memory, or the spans of a list
abbrev bytes : ℕ → ℕ → MemorySpan
bytes at count = record { at = at; length = count }

inspect_memory : command_of (codes "inspect" ∷ codes "F" ∷ codes "--memory" ∷ codes "11440:16" ∷ codes "S" ∷ [])
    ≡ Some (asked (codes "F") (Script (codes "S")) (Place (bytes 0x11440 16 ∷ [])) (limits 2 4096 200000))
unfolding command_of arguments_of
inspect_memory = refl

inspect_two_spans : command_of (codes "inspect" ∷ codes "F" ∷ codes "S" ∷ codes "--memory=0000000000011a64:4,20000:65536" ∷ [])
    ≡ Some (asked (codes "F") (Script (codes "S")) (Place (bytes 0x11A64 4 ∷ bytes 0x20000 65536 ∷ [])) (limits 2 4096 200000))
unfolding command_of arguments_of
inspect_two_spans = refl

-- no other command shows memory, and a bad list is none
wrong_memory : are_refused (
    codes "play F S --memory=0:1" ∷
    codes "inspect F S --memory=11440:16,11450" ∷
    []) ≡ true
unfolding command_of arguments_of
wrong_memory = refl

-- spans: the last address may be in one, and nothing behind it
span_at_the_end : span_of (codes "fffffffffffffff8:8") ≡ Some (bytes (2 ^ 64 - 8) 8)
span_at_the_end = refl

span_past_the_end : span_of (codes "fffffffffffffff8:9") ≡ None
span_past_the_end = refl

span_of_nothing : span_of (codes "11440:0") ≡ None
span_of_nothing = refl

span_too_long : span_of (codes "11440:65537") ≡ None
span_too_long = refl

span_with_two_colons : span_of (codes "11440:1:2") ≡ None
span_with_two_colons = refl

-- addresses: digits in lower case alone, 16 at most
address_with_zeros : address_of (codes "0000000000010078") ≡ Some 0x10078
address_with_zeros = refl

address_too_long : address_of (codes "00000000000010078") ≡ None
address_too_long = refl

address_in_capitals : address_of (codes "11A64") ≡ None
address_in_capitals = refl

address_with_its_base : address_of (codes "0x11a64") ≡ None
address_with_its_base = refl

no_address : address_of [] ≡ None
no_address = refl

-- `trace F S` tells all lines, or those of a span
abbrev trace : List ℕ → List ℕ → LineSpan → Limits → Command
trace program script span limits = asked program (Script script) (Trace span) limits

trace_defaults : command_of (codes "trace" ∷ codes "F" ∷ codes "S" ∷ [])
    ≡ Some (trace (codes "F") (codes "S") (lines 1 None) (limits 2 4096 200000))
unfolding command_of arguments_of
trace_defaults = refl

trace_options : command_of
    (codes "trace" ∷ codes "F" ∷ codes "--from" ∷ codes "7" ∷ codes "S" ∷ codes "--harts=3" ∷ codes "--to=1000000" ∷ [])
    ≡ Some (trace (codes "F") (codes "S") (lines 7 (Some 1000000)) (limits 3 4096 200000))
unfolding command_of arguments_of
trace_options = refl

wrong_traces : are_refused (
    codes "trace F S --from=0" ∷
    codes "trace F S --to=1000001" ∷
    codes "trace F" ∷
    []) ≡ true
unfolding command_of arguments_of
wrong_traces = refl

-- another command on a script takes no span
play_from : command_of (codes "play" ∷ codes "F" ∷ codes "S" ∷ codes "--from=1" ∷ []) ≡ None
unfolding command_of arguments_of
play_from = refl

-- `solo`, `play`, `blocks`, `inspect` and `gather` take no seed
no_seed : are_refused (
    codes "solo --seed 1 F" ∷
    codes "play --seed 1 F S" ∷
    codes "blocks F S --seed=1" ∷
    codes "inspect F S --seed=1" ∷
    codes "gather F S --seed=1" ∷
    []) ≡ true
unfolding command_of arguments_of
no_seed = refl

-- `pair F G S` runs two programs on the events of a script, with the harts, the frames and the steps that are given, or else the defaults
abbrev pair : List ℕ → List ℕ → List ℕ → Limits → Command
pair first second script limits =
    Pairs (record { first = first; second = second; script = script; limits = limits })

pair_defaults : command_of (codes "pair" ∷ codes "F" ∷ codes "G" ∷ codes "S" ∷ [])
    ≡ Some (pair (codes "F") (codes "G") (codes "S") (limits 2 4096 200000))
unfolding command_of arguments_of
pair_defaults = refl

pair_options : command_of
    (codes "pair" ∷ codes "F" ∷ codes "--harts=3" ∷ codes "F" ∷ codes "--frames" ∷ codes "128" ∷ codes "--steps=5" ∷ codes "--"
    ∷ codes "-S" ∷ []) ≡ Some (pair (codes "F") (codes "F") (codes "-S") (limits 3 128 5))
unfolding command_of arguments_of
pair_options = refl

wrong_pairs : are_refused (
    codes "pair F S" ∷
    codes "pair F G S T" ∷
    codes "pair F G S --seed=1" ∷
    []) ≡ true
unfolding command_of arguments_of
wrong_pairs = refl

-- `make NAME N` makes a guest, whatever the number; whether the guest takes it isn't a matter of the words
make_counter : command_of (codes "make" ∷ codes "counter" ∷ codes "1000" ∷ [])
    ≡ Some (Makes (record { name = Counter; size = 1000 }))
unfolding command_of arguments_of
make_counter = refl

make_nothing : command_of (codes "make" ∷ codes "counter" ∷ codes "0" ∷ [])
    ≡ Some (Makes (record { name = Counter; size = 0 }))
unfolding command_of arguments_of
make_nothing = refl

make_behind_dashes : command_of (codes "make" ∷ codes "--" ∷ codes "migrate" ∷ codes "18446744073709551615" ∷ [])
    ≡ Some (Makes (record { name = Migrate; size = 18446744073709551615 }))
unfolding command_of arguments_of
make_behind_dashes = refl

-- a name that is no guest's, a size that is no number, too few and too many names, and an option
wrong_makes : are_refused (
    codes "make Counter 1" ∷
    codes "make counter 1k" ∷
    codes "make counter 18446744073709551616" ∷
    codes "make counter" ∷
    codes "make counter 1 2" ∷
    codes "make counter 1 --steps=5" ∷
    []) ≡ true
unfolding command_of arguments_of
wrong_makes = refl

-- `trial NAME N` tries a guest, with the harts, the steps and the seed that are given, or else the defaults
trial_defaults : command_of (codes "trial" ∷ codes "counter" ∷ codes "1" ∷ [])
    ≡ Some (Tries (record { guest = record { name = Counter; size = 1 }; harts = 2; steps = 200000; seed = 1 }))
unfolding command_of arguments_of
trial_defaults = refl

trial_options : command_of
    (codes "trial" ∷ codes "--harts=8" ∷ codes "migrate" ∷ codes "--steps" ∷ codes "5" ∷ codes "63"
    ∷ codes "--seed=7" ∷ [])
    ≡ Some (Tries (record { guest = record { name = Migrate; size = 63 }; harts = 8; steps = 5; seed = 7 }))
unfolding command_of arguments_of
trial_options = refl

-- it takes no frames
trial_frames : command_of (codes "trial" ∷ codes "counter" ∷ codes "1" ∷ codes "--frames=128" ∷ []) ≡ None
unfolding command_of arguments_of
trial_frames = refl

trial_of_a_file : command_of (codes "trial" ∷ codes "F" ∷ codes "1" ∷ []) ≡ None
unfolding command_of arguments_of
trial_of_a_file = refl
