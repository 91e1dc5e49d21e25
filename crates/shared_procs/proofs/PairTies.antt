-- A pair at its start, and what the parts of a process tell of it.
use Rattle.elf_load.specs.Start.{program_of}
use Rattle.elf_load.specs.declared.image.Image.{Image}
use Rattle.block_model.specs.Setting.{setting_of}
use Rattle.shared_procs.proofs.Common.{◌≡◌, ℕ, ◌<◌, Bool, true, false, not, List, [], Option, Some, None, is_some, get_or, refl, sym, ap, ◌∙◌, subst, AreTied, hart_tied, HartState, IsPairRun, IsTied, Limits, option_map, pair_after, pair_history, PairSetting, Parts, Plain, plain_start, Program, running_on, Setting, setting, shared_in, thread}

-- no entry is a pair run
pub run_start : (s : PairSetting) → IsPairRun s []
unfolding pair_history
run_start s = tt

-- the parts of a process are those of its program
abbrev program_setting : Program → Limits → Setting
program_setting p limits = record { program = p; limits = limits }

pub half_start : (image : Image) (limits : Limits) (p : Program) (m : Parts) → p ≡ program_of image
    → IsTied (setting_of image limits) (plain_start (setting_of image limits)) m
    → IsTied (program_setting p limits) (plain_start (program_setting p limits)) m
half_start image limits p m same tied =
    subst (λ (q : Program). IsTied (program_setting q limits) (plain_start (program_setting q limits)) m) (sym same) tied

-- so both at their start, over a segment of zeros, are those of a pair at its start
pub tied_start : (s : PairSetting) (one two : Parts) (segment : List ℕ) → IsTied (setting s false) (plain_start (setting s false)) one
    → IsTied (setting s true) (plain_start (setting s true)) two → ((a : ℕ) → shared_in segment a ≡ 0)
    → AreTied s (pair_after s (pair_history s [])) one two segment
unfolding pair_history
tied_start s one two segment first second zeros = record { first = first; second = second; shared = λ a is. zeros a }

-- a thread of a process that goes on runs on a hart
not_idle : (o : Option ℕ) → not (not (is_some (option_map thread o))) ≡ is_some o
not_idle None = refl
not_idle (Some t) = refl

pub busy_tells : (s : Setting) (p : Plain) (m : Parts) (h : ℕ) (x : HartState) (idle : Bool) → IsTied s p m → h < s.limits.harts
    → x ≡ get_or m.harts.items h x → idle ≡ not (is_some x.running) → not idle ≡ is_some (running_on h p.kernel.threads)
busy_tells s p m h x idle tied lt value is =
    ap not is
    ∙ ap (λ (y : HartState). not (not (is_some y.running))) (hart_tied s p m h x tied lt value)
    ∙ not_idle (running_on h p.kernel.threads)
