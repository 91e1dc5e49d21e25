-- A thread that runs goes on running while others are woken, and then is gone.
use Rattle.sys_calls.proofs.Common.{ℕ, sym, ap, subst, ◌∙◌, IsCaller, IsOnward, IsTables, Kernel, Scheduling, Threads, running_on, without_id, ended_idle}
use Rattle.sys_calls.proofs.Laws.{holds_gone}
use Rattle.sys_calls.proofs.CallAnswers.{kept_gone}
use Rattle.sys_calls.proofs.ThreadSignals.{caller_signalled, tids}
use Rattle.sys_calls.proofs.CallerTables.{caller_held, caller_lives, caller_unlisted}
use Rattle.block_model.specs.Calls.Futexes.{anyone}
use Rattle.sys_calls.proofs.FutexWakes.{runs_alone}
use Rattle.sys_calls.proofs.ending.go.Goals as goal

-- the caller calls still
still : (k k' : Kernel) (here t : ℕ) → IsOnward k k' → IsCaller k here t → IsCaller k' here t
still k k' here t onward caller = record {
  tables = (caller.tables.0, onward.tables caller.tables.0 caller.tables.1);
  runs = onward.running here ∙ caller.runs;
  signals = ap tids onward.signals ∙ caller.signals ∙ sym onward.numbers;
  quiet = onward.quiet t caller.quiet;
}

pub exit-requires : goal.exit-requires
exit-requires c = caller_lives c.wake.new.kernel c.args.here.0 c.args.tid.0 (still c.args.kernel.now c.wake.new.kernel c.args.here.0 c.args.tid.0 c.wake.ensures.onward c.requires)

pub remove-requires-clause-held : goal.remove-requires-clause-held
remove-requires-clause-held c = caller_held c.wake.new.kernel c.args.here.0 c.args.tid.0 (still c.args.kernel.now c.wake.new.kernel c.args.here.0 c.args.tid.0 c.wake.ensures.onward c.requires)

pub remove-requires-clause-not_ready : goal.remove-requires-clause-not_ready
remove-requires-clause-not_ready c = caller_unlisted c.wake.new.kernel c.args.here.0 c.args.tid.0 (still c.args.kernel.now c.wake.new.kernel c.args.here.0 c.args.tid.0 c.wake.ensures.onward c.requires)

pub remove-requires-2 : goal.remove-requires-2
remove-requires-2 c = caller_signalled c.wake.new.kernel c.args.here.0 c.args.tid.0 (still c.args.kernel.now c.wake.new.kernel c.args.here.0 c.args.tid.0 c.wake.ensures.onward c.requires)

pub returns : goal.returns
returns c = record {
  gone = λ h told.
      let t = c.args.tid.0 in
      let k1 = c.wake.new.kernel in
      let woken = c.wake.ensures.woken h told (λ m is. absurd cc) in
      let caller : IsCaller k1 c.args.here.0 t = still c.args.kernel.now k1 c.args.here.0 t c.wake.ensures.onward c.requires in
      let tables = subst (λ (ts : Threads). IsTables c.requires.tables.0 ts c.args.kernel.now.ready) told.threads c.requires.tables.1 in
      let sound = subst (λ (sc : Scheduling). IsTables c.requires.tables.0 h.kernel.threads sc) told.scheduling tables in
      record {
        tables = holds_gone woken.tables t c.exit.new.self c.remove-2.new.self c.remove.new.self c.remove_area.new.registered
            c.exit.ensures.threads c.remove-2.ensures c.remove.ensures c.remove_area.ensures;
        ids = ap (without_id t) woken.ids;
        kept = λ all. kept_gone t _ k1.threads c.exit.new.self c.exit.ensures.saved (woken.kept all);
        idle = ap (running_on c.args.here.0) c.exit.ensures.threads ∙ ended_idle caller.tables.0 c.args.here.0 t k1.threads.threads k1.ready caller.tables.1 caller.runs;
        alone = runs_alone c.requires.tables.0 c.args.here.0 t c.args.most 0 c.args.at 0 anyone h (h.file t) h.kernel sound (ap (running_on c.args.here.0) (sym told.threads) ∙ c.requires.runs);
      };
}
