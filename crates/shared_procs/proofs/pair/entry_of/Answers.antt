-- The entry, by the number of the thread in logs.
use Rattle.shared_procs.proofs.Common.{◌≡◌, ◌+◌, arith, sym, ap, ◌∙◌, Entry, here_at, number_of, stand, thread_in}
use Rattle.shared_procs.proofs.PairEntries.{entry_first, entry_none, entry_second, named_small}
use Rattle.shared_procs.proofs.pair.entry_of.Goals as goal

pub returns-then-not-is_second : goal.returns-then-not-is_second
returns-then-not-is_second c s m place =
    c.entry-entry.ensures (stand s m c.args.is_second) place ∙ entry_first s m c.args.is_second c.args.hart.0 c.args.choice c.if-not-is_second.true

pub returns-then-not-names_a_thread : goal.returns-then-not-names_a_thread
returns-then-not-names_a_thread c s m place =
    let v = stand s m c.args.is_second in
    c.entry-entry.ensures v place
    ∙ entry_none s m c.args.is_second c.args.hart.0 c.args.choice (sym (c.names_a_thread.ensures v place) ∙ c.if-not-names_a_thread.true)

pub overflow_add-result : goal.overflow_add-result
overflow_add-result c =
    let v = c.requires.stand in
    let small = named_small v c.args.mine.now.parts c.args.hart.0 c.requires.place c.args.choice c.requires.free in
    let same : c.entry-entry.result.tid.0 ≡ number_of (thread_in c.args.choice (here_at v c.args.hart.0)) =
    ap (λ (e : Entry). e.tid.0) (c.entry-entry.ensures v c.requires.place) in
    omega (arith, small, same)

pub returns : goal.returns
returns c s m place =
    let v = stand s m c.args.is_second in
    ap (λ (e : Entry). record { hart = e.hart; kind = e.kind; tid = record { 0 = e.tid.0 + 2147483648 }; pc = e.pc }) (c.entry-entry.ensures v place)
    ∙ entry_second s m c.args.is_second c.args.hart.0 c.args.choice c.if-not-is_second.false
    (sym (c.names_a_thread.ensures v place) ∙ c.if-not-names_a_thread.false)
