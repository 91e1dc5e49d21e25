-- The child lives, and the record has it.
use Rattle.sys_calls.proofs.Common.{◌≡◌, ℕ, ◌+◌, cond, sym, ap, subst, ◌∙◌, HoldsTables, Kernel, Saved, Threads, argument, register, running_on, with_start, cleared, had_child, next_number, clone_child_cleartid, has_flag, clear_asked}
use Rattle.sys_calls.proofs.Children.{asked_runs, child_lives, child_runs}
use Rattle.sys_calls.proofs.Laws.{holds_child, holds_cleared}
use Rattle.sys_calls.proofs.cloning.make_child.Goals as goal

pub set_clear_if-requires : goal.set_clear_if-requires
set_clear_if-requires c =
    child_lives c.in_ok-child.child.0 c.args.kernel.now.threads.threads c.add_child.new.kernel.threads.threads c.requires.tables.1.threads c.in_ok-child.ensures.number c.in_ok-child.ensures.threads

pub returns-clause-made : goal.returns-clause-made
returns-clause-made c = λ h told file.
    let t = c.args.tid.0 in
    let k = c.args.kernel.now in
    let u = c.in_ok-child.child.0 in
    let saved = c.args.saved.now in
    let same : k.threads.threads.given + 1 ≡ next_number h.kernel = ap (λ (ts : Threads). ts.given + 1) told.threads in
    let next : u ≡ next_number h.kernel = c.in_ok-child.ensures.number ∙ same in
    let b = has_flag (argument h t 0) clone_child_cleartid in
    let k1 = c.add_child.new.kernel in
    let born : HoldsTables k1 (had_child t h.kernel) = subst (λ (x : Kernel). HoldsTables x (had_child t h.kernel)) (sym c.in_ok-child.ensures.others)
    (holds_child told t k1.threads k1.signals k1.ready c.in_ok-child.ensures.threads c.in_ok-child.ensures.signals c.in_ok-child.ensures.ready) in
    record {
      tables = subst (λ (x : ℕ). HoldsTables (record k1 { threads = c.set_clear_if.new.threads }) (cond b (cleared x (argument h t 4) (had_child t h.kernel)) (had_child t h.kernel))) next
          (holds_cleared born u (argument h t 4) c.set_clear_if.new.threads b
          (c.set_clear_if.ensures.threads ∙ ap (λ (x : Saved). clear_asked x u k1.threads.threads) file));
      saved = c.set_clear_if.ensures.saved ∙ c.in_ok-child.ensures.saved ∙ ap (λ (n : ℕ). with_start n c.child_file.result k.threads.saved) same
          ∙ ap (λ (x : Saved). with_start (next_number h.kernel) x k.threads.saved) (c.child_file.ensures h t file);
      running = λ j. ap (running_on j) c.set_clear_if.ensures.threads
          ∙ asked_runs j u (register saved.file 14) c.add_child.new.kernel.threads.threads (has_flag (register saved.file 10) clone_child_cleartid)
          ∙ ap (running_on j) c.in_ok-child.ensures.threads ∙ child_runs j t k c.requires.tables c.requires.room;
    }
