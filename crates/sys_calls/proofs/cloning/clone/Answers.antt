-- The child is there, and its number is written.
use Rattle.sys_calls.proofs.Common.{◌≡◌, ℕ, ◌+◌, [], ◌∷◌, sym, ap, subst, ◌∙◌, Ok, IsAnswered, IsEntered, Threads, argument, returned, running_on, with_start, next_number, clone_child_cleartid, has_flag, cloned, child_file, with_new_child, numbers_written}
use Rattle.sys_calls.proofs.Children.{asked_ids, asked_pages, kept_started, lives_other, quiet_started}
use Rattle.sys_calls.proofs.cloning.clone.Goals as goal
use Rattle.sys_calls.proofs.CallAnswers.{answered_with}

pub returns-clause-answered : goal.returns-clause-answered
returns-clause-answered c = λ h told read.
    let t = c.args.tid.0 in
    let k = c.args.kernel.now in
    let k' = c.make_child.new.kernel in
    let u = c.in_ok-child.child.0 in
    let child = c.in_ok-child.ensures.made h told read.file in
    let same : k.threads.threads.given + 1 ≡ next_number h.kernel = ap (λ (ts : Threads). ts.given + 1) told.threads in
    let next : u ≡ next_number h.kernel = c.in_ok-child.ensures.number ∙ same in
    let saved : k'.threads.saved ≡ with_start u (child_file h t) k.threads.saved = child.saved ∙ ap (λ (n : ℕ). with_start n (child_file h t) k.threads.saved) (sym next) in
    let ne = lives_other t k.threads.threads c.requires.tables.1.threads c.requires.live in
    let flag = has_flag (argument h t 0) clone_child_cleartid in
    let done = answered_with h t k k' c.args.pages.now c.write_numbers.new.pages (numbers_written h t u) c.write_numbers.new.written.items (Ok u) (with_new_child h t)
    ((u, child_file h t) ∷ []) child.tables (asked_ids h t flag) (asked_pages h t flag)
    (ap (running_on h.hart) (sym child.tables.threads) ∙ child.running h.hart ∙ ap (running_on h.hart) told.threads)
    (subst (IsEntered c.args.pages.now c.write_numbers.new.pages) (c.write_numbers.ensures.told h t read.file) c.write_numbers.ensures.entered)
    (c.write_numbers.ensures.told h t read.file)
    (kept_started h.file u (child_file h t) k.threads k'.threads c.in_ok-may_clone.ensures.table c.in_ok-child.ensures.number saved)
    (quiet_started t u (child_file h t) k.threads k'.threads (λ e. ne (e ∙ c.in_ok-child.ensures.number)) saved) in
    subst (IsAnswered h t k c.args.pages.now k' c.write_numbers.new.pages c.write_numbers.new.written.items (Ok u))
    (ap (λ (n : ℕ). record (cloned h t) { files = (t, returned n (h.file t)) ∷ (n, child_file h t) ∷ []; entered = numbers_written h t n }) next
    ∙ sym (c.in_ok-may_clone.ensures.made h t told read)) done
