-- Told files have one output.
use Rattle.std.proofs.Common.{◌≡◌, ℕ, List, [], ◌++◌, length, refl, sym, ap, ◌∙◌, subst, ap₂, Option, Some, None, Ok}
use Rattle.std.proofs.Common.{arith, false}
use Rattle.std.specs.Prelude.{IsSome, IfSome}
use Rattle.mach_types.specs.declared.events.Entry.{Entry}
use Rattle.mach_types.specs.declared.limits.Limits.{Limits}
use Rattle.elf_load.specs.declared.image.Image.{Image}
use Rattle.elf_load.specs.Images.{IsImage}
use Rattle.block_model.specs.Plain.{PlainRun, plain_run}
use Rattle.block_model.specs.Replay.{played_read, script_of}
use Rattle.block_model.specs.Setting.{Setting, setting_of}
use Rattle.block_model.proofs.Laws.{one_setting, played_read-all, run_is_played}
use Rattle.drawn_runs.specs.Manners.{manner_behind, manner_for}
use Rattle.drawn_runs.specs.WholeRuns.{IsDrawnRun}
use Rattle.drawn_runs.specs.declared.manner.Manner.{Manner}
use Rattle.drawn_runs.proofs.Laws.{goes_on_alike}
use Rattle.command_words.specs.declared.commands.Draws.{Draws}
use Rattle.command_words.specs.Commands as words
use Rattle.explored_runs.specs.Explored.{IsExploredAs}
use Rattle.explored_runs.specs.Text.{explored_text}
use Rattle.outcomes.specs.Explorations.{exploration_of}
use Rattle.shared_procs.specs.Pairs.{PairSetting, pair_setting_of}
use Rattle.shared_procs.specs.PairRuns.{PairSeen}
use Rattle.outcomes.specs.Needs.{Needs, Nothing, Program, Script, Guest, Pair, needs_by, needs_of}
use Rattle.outcomes.specs.PairFiles.{HasPairRun}
use Rattle.run_texts.specs.PairText.{pair_output}
use Rattle.whole_runs.specs.PlayedPairs.{IsPlayedPair}
use Rattle.outcomes.specs.Outputs.{IsDrawnAfter, IsOutputOf, IsPlainOutputOf, IsPlainRunOf, plain_text, setting_for}
use Rattle.outcomes.specs.Programs.{Files, IsProgram}
use Rattle.whole_runs.specs.Asks.{asks_of}
use Rattle.whole_runs.specs.Runs.{IsPlayedRun}
use Rattle.outcomes.specs.Told.{AreTold, TellsGood, TellsGoodFiles}
use Rattle.output_laws.proofs.Exclusions.{AreUsed, used_by_output}
use Rattle.output_laws.proofs.OneExploration.{one_account}
use Rattle.output_laws.proofs.OnePairRun.{one_played_pair}
use Rattle.output_laws.proofs.PlainOutputs.{plain_output_of}
use Rattle.output_laws.proofs.ReadLines.{same_asks}

-- two readings of one told file are one
pub one_reading : (o : Option (List ℕ)) (a b : List ℕ) → IsSome o → IfSome o (λ told. a ≡ told)
    → IfSome o (λ told. b ≡ told) → a ≡ b
one_reading None a b told first second = absurd cc
one_reading (Some bytes) a b told first second = first ∙ sym second

-- a program that is told starts in one way
pub one_start : (files : Files) (name : List ℕ) (limits : Limits) (a b : Image) → IsSome (files name)
    → IsProgram files name limits a → IsProgram files name limits b
    → setting_of a limits ≡ setting_of b limits
one_start files name limits a b told first second =
    let same = one_reading (files name) first.bytes second.bytes told first.read second.read in
    one_setting second.bytes a b limits (subst (λ (x : List ℕ). IsImage x a) same first.loaded)
    second.loaded

-- the program of a command that is told
program_told : (files : Files) (program : List ℕ) (source : words.Source) (limits : Limits)
    → AreTold files (needs_by program source limits) → IsSome (files program)
program_told files program words.Rule limits told = told
program_told files program (words.Script name) limits told = told.0
program_told files program (words.Workers seed) limits told = told
program_told files program (words.Drawn seed draws) limits told = told
program_told files program (words.DrawnAfter name seed draws) limits told = told.0

-- a script makes one log
played_to : (s : Setting) (text : List ℕ) (log : List Entry) → IsPlayedRun s text log → played_read s (asks_of text) ≡ Ok log
played_to s text log run =
    ap (played_read s) run.readable ∙ played_read-all s run.lines
    ∙ run_is_played s run.lines log run.block_run run.answers

one_played : (s : Setting) (text : List ℕ) (a b : List Entry) → IsPlayedRun s text a → IsPlayedRun s text b → a ≡ b
one_played s text a b one other =
    let first = played_to s text a one in
    let second = played_to s text b other in
    cc

-- behind which one is drawn
abbrev behind : Draws → ℕ → Setting → List Entry → Manner
behind draws seed s first = manner_behind (length first) (manner_for draws.policies draws.calm seed s.limits.steps)

one_drawn_after : (files : Files) (name : List ℕ) (seed : ℕ) (draws : Draws) (s : Setting) (a b : List Entry)
    → IsSome (files name) → IsDrawnAfter files name seed draws s a → IsDrawnAfter files name seed draws s b → a ≡ b
one_drawn_after files name seed draws s a b told one other =
    let text = one_reading (files name) one.script.lines other.script.lines told one.script.read.read other.script.read.read in
    let begun : one.first ≡ other.first =
    one_played s other.script.lines one.first other.first
    (subst (λ (t : List ℕ). IsPlayedRun s t one.first) text one.script.run) other.script.run in
    let whole : IsDrawnRun s (behind draws seed s one.first) (one.first ++ one.more) =
    subst (λ (l : List Entry). IsDrawnRun s (behind draws seed s one.first) l) one.whole one.drawn in
    let moved : IsDrawnRun s (behind draws seed s other.first) (other.first ++ one.more) =
    subst (λ (l : List Entry). IsDrawnRun s (behind draws seed s l) (l ++ one.more)) begun whole in
    let beside : IsDrawnRun s (behind draws seed s other.first) (other.first ++ other.more) =
    subst (λ (l : List Entry). IsDrawnRun s (behind draws seed s other.first) l) other.whole other.drawn in
    let rest : one.more ≡ other.more =
    goes_on_alike s (behind draws seed s other.first) other.first one.more other.more (omega arith) moved beside in
    one.whole ∙ ap₂ (λ (x y : List Entry). x ++ y) begun rest ∙ sym other.whole

-- without workers it is run in one way
one_run : (files : Files) (program : List ℕ) (source : words.Source) (limits : Limits) (s : Setting)
    (run other : PlainRun) → words.is_by_workers source ≡ false → AreTold files (needs_by program source limits)
    → IsPlainRunOf files source s run → IsPlainRunOf files source s other → run ≡ other
one_run files program words.Rule limits s run other quiet told first second = first ∙ sym second
one_run files program (words.Script name) limits s run other quiet told first second =
    let text = one_reading (files name) first.lines second.lines told.1 first.read.read second.read.read in
    let asks = same_asks first.asks second.asks (sym first.readable ∙ ap asks_of text ∙ second.readable) in
    let made : plain_run s second.asks ≡ Ok run = ap (plain_run s) (sym asks) ∙ first.made in
    let is = second.made in
    cc
one_run files program (words.Workers seed) limits s run other quiet told first second = absurd (cc quiet)
one_run files program (words.Drawn seed draws) limits s run other quiet told first second =
    let same : first.log ≡ second.log =
    goes_on_alike s (manner_for draws.policies draws.calm seed s.limits.steps) [] first.log second.log (omega arith) first.kind second.kind in
    let made : plain_run s (script_of second.log) ≡ Ok run = ap (λ l. plain_run s (script_of l)) (sym same) ∙ first.made in
    let is = second.made in
    cc
one_run files program (words.DrawnAfter name seed draws) limits s run other quiet told first second =
    let same : first.log ≡ second.log =
    one_drawn_after files name seed draws s first.log second.log told.1 first.kind second.kind in
    let made : plain_run s (script_of second.log) ≡ Ok run = ap (λ l. plain_run s (script_of l)) (sym same) ∙ first.made in
    let is = second.made in
    cc

-- a pair is run in one way
one_pair : (files : Files) (pair : words.PairRun) (a b : PairSeen) → AreTold files (Pair pair) → HasPairRun files pair a
    → HasPairRun files pair b → a ≡ b
one_pair files pair a b told first second =
    let one = one_start files pair.first pair.limits first.one second.one told.0 first.taken.first second.taken.first in
    let two = one_start files pair.second pair.limits first.two second.two told.1 first.taken.second second.taken.second in
    let start : pair_setting_of first.one first.two pair.limits ≡ pair_setting_of second.one second.two pair.limits =
    λ i. record { first = (one i).program; second = (two i).program; limits = pair.limits } in
    let text = one_reading (files pair.script) first.lines second.lines told.2 first.read.read second.read.read in
    let run = subst (λ (s : PairSetting). IsPlayedPair s first.lines a.log) start first.run in
    let log = one_played_pair (pair_setting_of second.one second.two pair.limits) second.lines a.log b.log
    (subst (λ (t : List ℕ). IsPlayedPair (pair_setting_of second.one second.two pair.limits) t a.log) text run) second.run in
    let setting = first.setting ∙ start ∙ sym second.setting in
    λ i. record { setting = setting i; log = log i }

one_plain : (files : Files) (command : Option words.Command) (a b : List ℕ) → words.depends_on_host command ≡ false
    → AreTold files (needs_of command)
    → IsPlainOutputOf files command a → IsPlainOutputOf files command b → a ≡ b
one_plain files None a b quiet told first second = absurd first
one_plain files (Some (words.Makes guest)) a b quiet told first second = absurd told
one_plain files (Some (words.Tries trial)) a b quiet told first second = absurd told
one_plain files (Some (words.Explores program settings)) a b quiet told first second =
    let start = one_start files program settings.limits first.image second.image told first.taken second.taken in
    let account = one_account (setting_of second.image settings.limits) (exploration_of settings) first.account
    second.account
    (subst (λ (s : Setting). IsExploredAs s (exploration_of settings) first.account) start first.told) second.told in
    first.text ∙ ap (explored_text settings.apart) account ∙ sym second.text
one_plain files (Some (words.Searches program settings)) a b quiet told first second = absurd (cc quiet)
one_plain files (Some (words.Pairs pair)) a b quiet told first second =
    first.text ∙ ap pair_output (one_pair files pair first.seen second.seen told first.made second.made) ∙ sym second.text
one_plain files (Some (words.Runs asked)) a b quiet told first second =
    let start = one_start files asked.program asked.limits first.image second.image
    (program_told files asked.program asked.source asked.limits told) first.taken second.taken in
    let run = one_run files asked.program asked.source asked.limits (setting_for asked second.image) first.run
    second.run quiet told
    (subst (λ (s : Setting). IsPlainRunOf files asked.source s first.run) start first.made) second.made in
    first.text ∙ ap₂ (plain_text asked.shown) start run ∙ sym second.text

pub one_output : (files : Files) (command : Option words.Command) (a b : List ℕ) → words.depends_on_host command ≡ false
    → AreTold files (needs_of command)
    → IsOutputOf files command a → IsOutputOf files command b → a ≡ b
one_output files command a b no_run told first second =
    one_plain files command a b no_run told (plain_output_of files command a first)
    (plain_output_of files command b second)

-- what was read is what is told
pub read_is_told : (o : Option (List ℕ)) (bytes : List ℕ) → IsSome o → IfSome o (λ told. bytes ≡ told)
    → o ≡ Some bytes
read_is_told None bytes told read = absurd cc
read_is_told (Some x) bytes told read = ap Some (sym read)

-- a program that was taken is told, and good
abbrev pub taken_is_good : (files : Files) (name : List ℕ) (limits : Limits) (image : Image) → IsSome (files name)
    → IsProgram files name limits image → TellsGood files name limits
taken_is_good files name limits image told taken = record {
  bytes = taken.bytes;
  told = read_is_told (files name) taken.bytes told taken.read;
  good = taken.good;
}

pub used_are_good : (files : Files) (needs : Needs) → ¬ (needs ≡ Nothing) → AreTold files needs
    → AreUsed files needs → TellsGoodFiles files needs
used_are_good files Nothing some told used = absurd (some refl)
used_are_good files (Program program limits) some told used = taken_is_good files program limits used.0 told used.1
used_are_good files (Guest guest) some told used = absurd told
used_are_good files (Script program script limits) some told used = record {
  both = record {
    bytes = used.3.bytes;
    told = read_is_told (files program) used.3.bytes told.0 used.3.read;
    good = used.3.good;
    image = used.0;
    loaded = used.3.loaded;
    lines = used.1;
    script_told = read_is_told (files script) used.1 told.1 used.4.read;
    fits = used.4.fits;
  };
  log = used.2;
  run = used.5;
}
used_are_good files (Pair pair) some told used =
    let made = used.1 in
    record {
      all = record {
        first = taken_is_good files pair.first pair.limits made.one told.0 made.taken.first;
        one = made.one;
        first_loaded = made.taken.first.loaded;
        second = taken_is_good files pair.second pair.limits made.two told.1 made.taken.second;
        two = made.two;
        second_loaded = made.taken.second.loaded;
        lines = made.lines;
        script_told = read_is_told (files pair.script) made.lines told.2 made.read.read;
        fits = made.read.fits;
      };
      log = used.0.log;
      run = made.run;
    }

-- each command needs something
some_need : (program : List ℕ) (source : words.Source) (limits : Limits) → ¬ (needs_by program source limits ≡ Nothing)
some_need program words.Rule limits none = absurd cc
some_need program (words.Script name) limits none = absurd cc
some_need program (words.Workers seed) limits none = absurd cc
some_need program (words.Drawn seed draws) limits none = absurd cc
some_need program (words.DrawnAfter name seed draws) limits none = absurd cc

pub needs_some : (files : Files) (command : Option words.Command) (written : List ℕ) → IsOutputOf files command written
    → ¬ (needs_of command ≡ Nothing)
needs_some files None written output none = absurd output
needs_some files (Some (words.Runs run)) written output none = some_need run.program run.source run.limits none
needs_some files (Some (words.Makes guest)) written output none = absurd cc
needs_some files (Some (words.Tries trial)) written output none = absurd cc
needs_some files (Some (words.Explores program settings)) written output none = absurd cc
needs_some files (Some (words.Searches program settings)) written output none = absurd cc
needs_some files (Some (words.Pairs pair)) written output none = absurd cc

pub good_files : (files : Files) (command : Option words.Command) (written : List ℕ)
    → AreTold files (needs_of command) → IsOutputOf files command written
    → TellsGoodFiles files (needs_of command)
good_files files command written told output =
    used_are_good files (needs_of command) (needs_some files command written output) told
    (used_by_output files command written output)
