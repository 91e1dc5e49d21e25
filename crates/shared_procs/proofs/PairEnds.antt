-- How the processes of a pair end: an event ends a process by its exit or by a signal. So what is kept of a process tells whether an
-- event ended it, or no thread of it can go on.
use Rattle.mach_types.specs.declared.limits.End.TheVariants as over
use Rattle.shared_procs.proofs.Common.{◌≡◌, ◌≢◌, Bool, true, false, not, ◌&&◌, cond, [], ◌∷◌, Option, Some, None, is_some, refl, sym, ap, ◌∙◌, subst, acting, choice_of, End, ends_by_process, Entry, event_two, half, has_ended, here_two, is_stuck, IsPairRunHistory, option_or, own_choice, Pair, pair_after, PairEvent, PairHistory, PairSetting, plain_over}
use Rattle.shared_procs.proofs.Halves.{each_half}

-- no event ended it as one that is stuck
abbrev pub NotStuck : Option End → Type 0
NotStuck o = o ≢ Some over.Stuck

either_end : (o p : Option End) → NotStuck o → NotStuck p → NotStuck (option_or o p)
either_end None p first later = later
either_end (Some e) p first later = first

done_ends : (s : PairSetting) (before : PairHistory) (e : Entry) → NotStuck (event_two s before e).done.ended
done_ends s before e =
    let m = pair_after s before in
    (ends_by_process (here_two s m (acting m e.hart.0 (choice_of e)) e.hart.0) (own_choice (choice_of e))).1

pub never_stuck : (s : PairSetting) (before : PairHistory) → IsPairRunHistory s before → (p : Bool) → NotStuck (half p (pair_after s before)).ended
never_stuck s [] run true = λ is. absurd cc
never_stuck s [] run false = λ is. absurd cc
never_stuck s (e ∷ before) run p =
    let m = pair_after s before in
    let fine : NotStuck e.done.ended = subst (λ (x : PairEvent). NotStuck x.done.ended) (sym run.2) (done_ends s before e.entry) in
    each_half (λ q x. NotStuck x.ended) e.entry.hart.0 e.process e.done m
    (either_end e.done.ended (half e.process m).ended fine (never_stuck s before run.0 e.process))
    (never_stuck s before run.0 (not e.process)) p

-- what is kept of it
pub ended_tells : (o : Option End) (stuck : Bool) → NotStuck o → has_ended (option_or o (cond stuck (Some over.Stuck) None)) ≡ is_some o
ended_tells None true fine = refl
ended_tells None false fine = refl
ended_tells (Some over.Stuck) stuck fine = absurd (fine refl)
ended_tells (Some e) stuck fine = refl

-- and whether both have ended
pub both_tell : (m : Pair) (one two : Option End) → ((p : Bool) → NotStuck (half p m).ended) → one ≡ plain_over m.first → two ≡ plain_over m.second
    → (has_ended one && has_ended two) ≡ (is_some m.first.ended && is_some m.second.ended)
both_tell m one two fine one_is two_is =
    let first = ap has_ended one_is ∙ ended_tells m.first.ended (is_stuck m.first.kernel.threads) (fine false) in
    let second = ap has_ended two_is ∙ ended_tells m.second.ended (is_stuck m.second.kernel.threads) (fine true) in
    λ i. first i && second i
