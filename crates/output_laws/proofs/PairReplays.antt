-- The printed log of a pair, played again.
use Rattle.std.proofs.Common.{◌≡◌, ℕ, ◌+◌, ◌<◌, ◌≤◌, ◌^◌, Bool, true, false, List, [], ◌∷◌, length, Ok, refl, arith}
use Rattle.std.specs.List.{AllByRecursion}
use Rattle.std.proofs.lemmas.Bool.{leb-false}
use Rattle.mach_types.specs.Events.{choice_of}
use Rattle.mach_types.specs.Limits.{InRange}
use Rattle.mach_types.specs.declared.events.Choice.{Choice}
use Rattle.mach_types.specs.declared.events.Entry.{Entry}
use Rattle.elf_load.specs.declared.image.Image.{Image}
use Rattle.step_log.specs.Grammar.{IsPrintable, log_text}
use Rattle.block_model.specs.Replay.{script_of}
use Rattle.block_model.proofs.Laws.{HaveBytes, answers_itself, image_bytes}
use Rattle.shared_procs.specs.Pairs.{Pair, PairSetting, pair_setting_of, setting}
use Rattle.shared_procs.specs.PairRuns.{IsPairRun, IsPairRunHistory, PairHistory, event_two, pair_after, pair_decide, pair_history}
use Rattle.shared_procs.proofs.Laws.{AreSmall, all_narrow, decided_two}
use Rattle.command_words.specs.Commands.{PairRun}
use Rattle.outcomes.specs.PairFiles.{AreTaken, IsPairOutput}
use Rattle.outcomes.specs.Programs.{Files, IsReadAs}
use Rattle.whole_runs.proofs.PairLogs.{decided, on, pair_digits}
use Rattle.output_laws.proofs.Repeats.{entry_fits, lines_fit, log_asks, printable, taken_again}

-- A PAIR RUN FITS ITS LIMIT

made_is : (s : PairSetting) (h : PairHistory) → (pair_after s h).made ≡ length h
made_is s [] = refl
made_is s (e ∷ before) = let was = made_is s before in omega arith

-- an entry comes where the log has room
has_room : (s : PairSetting) (m : Pair) (h : ℕ) (c : Choice) (e : Entry) → pair_decide s m h c ≡ Ok e → m.made < s.limits.steps
has_room s m h c e is = leb-false s.limits.steps m.made (decided_two s m h c e is).room

short_on : (s : PairSetting) (h : PairHistory) (log : List Entry) → length h ≤ s.limits.steps → IsPairRunHistory s (on s h log)
    → length h + length log ≤ s.limits.steps
short_on s h [] few run = omega arith
short_on s h (e ∷ log) few run =
    let room = has_room s (pair_after s h) e.hart.0 (choice_of e) e (decided s h e log run) in
    let made = made_is s h in
    let rest = short_on s (event_two s h e ∷ h) log (omega arith) run in
    omega arith

pair_short : (s : PairSetting) (log : List Entry) → IsPairRun s log → length log ≤ s.limits.steps
unfolding pair_history
pair_short s log run = let all = short_on s [] log (omega arith) run in omega arith

-- THE NUMBERS OF ITS ENTRIES FIT

-- both programs begin below 2^64, and their pages have bytes
both_small : (files : Files) (pair : PairRun) (one two : Image) → AreTaken files pair one two → AreSmall (pair_setting_of one two pair.limits)
both_small files pair one two taken = record { starts = starts; bytes = bytes }
  where
    starts : (p : Bool) → (setting (pair_setting_of one two pair.limits) p).program.entry < 2 ^ 64
    starts true = entry_fits files pair.second pair.limits two taken.second
    starts false = entry_fits files pair.first pair.limits one taken.first

    bytes : (p : Bool) → HaveBytes (setting (pair_setting_of one two pair.limits) p).program.pages
    bytes true = image_bytes taken.second.bytes two taken.second.are_bytes taken.second.loaded
    bytes false = image_bytes taken.first.bytes one taken.first.are_bytes taken.first.loaded

pair_prints : (s : PairSetting) (log : List Entry) → InRange s.limits → AreSmall s → IsPairRun s log → AllByRecursion IsPrintable log
pair_prints s log range small run =
    let most = range.most_steps in
    let digits = pair_digits s log range.eight_harts run in
    let fits = all_narrow s log (omega (arith, most)) small run in
    printable log (λ k d lt. record { hart = digits k d lt; thread = (fits k d lt).thread; pc = (fits k d lt).pc })

-- PLAYED AGAIN

pub pair_again : (files later : Files) (pair : PairRun) (script written : List ℕ) → InRange pair.limits
    → later pair.first ≡ files pair.first → later pair.second ≡ files pair.second
    → (output : IsPairOutput files pair written)
    → IsReadAs later script (log_text output.seen.log) → IsPairOutput later (record pair { script = script }) written
pair_again files later pair script written range first second output read =
    let made = output.made in
    let log = output.seen.log in
    let s = pair_setting_of made.one made.two pair.limits in
    let run = made.run.pair_run in
    let prints = pair_prints s log range (both_small files pair made.one made.two made.taken) run in
    let few : length log ≤ pair.limits.steps = pair_short s log run in
    let most = range.most_steps in
    let long = lines_fit log prints in
    record {
      seen = output.seen;
      made = record {
        one = made.one;
        two = made.two;
        taken = record {
          first = taken_again files later pair.first pair.limits made.one first made.taken.first;
          second = taken_again files later pair.second pair.limits made.two second made.taken.second;
        };
        setting = made.setting;
        lines = log_text log;
        read = record { read = read; fits = omega arith };
        run = record {
          lines = script_of log;
          readable = log_asks log prints;
          pair_run = run;
          answers = answers_itself log;
        };
      };
      text = output.text;
    }
