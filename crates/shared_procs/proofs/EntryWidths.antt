-- The numbers of each entry of a pair run: its thread's is below 2^32, and its pc below 2^64.
use Rattle.mach_types.specs.declared.events.Choice.TheVariants as asked
use Rattle.mach_types.specs.declared.events.Kind.TheVariants as kind
use Rattle.block_model.specs.Deciding.{pc_in}
use Rattle.block_model.proofs.Laws.{AllStand, HaveBytes, IsProper, StandsIn, among_stands, proper_of, start_small, start_stand, thread_given, written_small}
use Rattle.shared_procs.proofs.Common.{◌≡◌, ℕ, ◌-◌, ◌≤◌, ◌<◌, ◌^◌, ◌+◌, List, [], ◌∷◌, fold, Bool, true, false, not, Option, Some, None, refl, sym, ap, ◌∙◌, subst, arith, acting, apply, apply_two, aside, Choice, choice_of, Done, done_of, done_two, End, ended_if, Entry, entry_two, event_two, filter, goes_on, half, Here, here_at, here_two, is_shared, IsPairRun, IsPairRunHistory, kind_of, leb-false, Neighbour, neighbour, number_in_log, number_of, own_choice, Pair, pair_after, pair_history, pair_start, PairEvent, PairHistory, PairSetting, SECOND_THREADS, setting, Stand, stand, thread_in, Write}
use Rattle.std.proofs.lemmas.List.Elements.{All-from_recursion}
use Rattle.std.specs.Prelude.{All}
use Rattle.std.specs.List.{AllByRecursion}
use Rattle.shared_procs.proofs.Halves.{each_half}
use Rattle.shared_procs.proofs.SameRequests.{alike_after}
use Rattle.shared_procs.proofs.Settled.{IsDecided, decided, own_free, settled}

-- both programs begin below 2^64, and their pages have bytes
pub record AreSmall (s : PairSetting) : Type 0 where
  pub starts : (p : Bool) → (setting s p).program.entry < 2 ^ 64
  pub bytes : (p : Bool) → HaveBytes (setting s p).program.pages

-- WHERE THREADS STAND

-- each thread and each handler of both processes stands below 2^64, and their memory has bytes
abbrev BothStand : PairSetting → Pair → Type 0
BothStand s m = (p : Bool) (h : ℕ) → AllStand (here_two s m p h)

both_start : (s : PairSetting) → AreSmall s → BothStand s (pair_start s)
both_start s small true h = record { threads = λ t. small.starts true; handlers = start_stand; bytes = λ a. start_small s.second a (small.bytes true) }
both_start s small false h = record { threads = λ t. small.starts false; handlers = start_stand; bytes = λ a. start_small s.first a (small.bytes false) }

-- what an event leaves of the process that acts, whatever enters memory in it
own_stand : (v : Stand) (h k : ℕ) (d : Done) (entered : List Write) (o : Option End) (beside : Option Neighbour) → AllStand (here_at v h) → IsProper (here_at v h) d
    → AllStand (here_at (record { setting = v.setting; plain = ended_if o (apply h (record d { entered = entered }) v.plain); beside = beside }) k)
own_stand v h k d entered o beside was proper = record {
  threads = λ t. among_stands d.files t (v.plain.file t) (proper.files was) (was.threads t);
  handlers = proper.handlers was;
  bytes = λ a. written_small entered a (v.plain.byte a) (was.bytes a);
}

-- and of the other one
other_stand : (v : Stand) (h k : ℕ) (d : Done) (writes : List Write) (beside : Option Neighbour) → AllStand (here_at v k)
    → AllStand (here_at (record { setting = v.setting; plain = aside h d writes v.plain; beside = beside }) k)
other_stand v h k d writes beside was = record { threads = was.threads; handlers = was.handlers; bytes = was.bytes }

proper_choice : (here : Here) (c : Choice) → IsProper here (done_of c here)
proper_choice here (asked.Run t) = proper_of here kind.Run (record { hart = record { 0 = 0 }; kind = kind.Run; tid = t; pc = 0 })
proper_choice here c = proper_of here (kind_of c) (record { hart = record { 0 = 0 }; kind = kind_of c; tid = record { 0 = 0 }; pc = 0 })

both_next : (s : PairSetting) (m : Pair) (h : ℕ) (c : Choice) → BothStand s m → BothStand s (apply_two h (acting m h c) (done_two s m h c) m)
both_next s m h c stands =
    let p = acting m h c in
    let d = done_two s m h c in
    let own = done_of (own_choice c) (here_two s m p h) in
    let beside : Bool → Option Neighbour = λ q. Some (neighbour s (apply_two h p d m) q) in
    each_half (λ q x. (k : ℕ) → AllStand (here_at (record { setting = setting s q; plain = x; beside = beside q }) k)) h p d m
    (λ k. own_stand (stand s m p) h k own d.entered d.ended (beside p) (stands p h) (proper_choice (here_two s m p h) (own_choice c)))
    (λ k. other_stand (stand s m (not p)) h k d (filter is_shared d.entered) (beside (not p)) (stands (not p) k))

both_stand : (s : PairSetting) (before : PairHistory) → AreSmall s → IsPairRunHistory s before → BothStand s (pair_after s before)
both_stand s [] small run = both_start s small
both_stand s (e ∷ before) small run =
    let m = pair_after s before in
    let next = both_next s m e.entry.hart.0 (choice_of e.entry) (both_stand s before small run.0) in
    subst (λ (x : PairEvent). BothStand s (apply_two x.entry.hart.0 x.process x.done m)) (sym run.2) next

-- AN ENTRY

-- as many events were made of each process as of both
half_made : (s : PairSetting) (before : PairHistory) (p : Bool) → (half p (pair_after s before)).made ≡ (pair_after s before).made
half_made s before true = (alike_after s before).second
half_made s before false = (alike_after s before).first

in_log : (p : Bool) (o : Option ℕ) → number_in_log p o ≤ number_of o + SECOND_THREADS
in_log p None = omega arith
in_log true (Some t) = omega arith
in_log false (Some t) = omega arith

pc_stands : (here : Here) (o : Option ℕ) → ((t : ℕ) → StandsIn (here.file t)) → pc_in here o < 2 ^ 64
pc_stands here None stand = omega arith
pc_stands here (Some t) stand = stand t

-- its numbers fit the types that they have in the program
pub record IsNarrow (e : Entry) : Type 0 where
  pub thread : e.tid.0 < 2 ^ 32
  pub pc : e.pc < 2 ^ 64

narrow_at : (s : PairSetting) (before : PairHistory) (h : ℕ) (c : Choice) (e : Entry) → s.limits.steps < 2 ^ 31 - 1 → AreSmall s → IsPairRunHistory s before
    → IsDecided s (pair_after s before) h c e → IsNarrow e
narrow_at s before h c e short small run comes =
    let m = pair_after s before in
    let p = acting m h c in
    let here = here_two s m p h in
    let own = own_free s m h c comes.over comes.free in
    let stands = settled s before run p own.goes in
    let given = stands.given in
    let low = thread_given (setting s p) here (own_choice c) stands.sound own.free in
    let made = half_made s before p in
    let room = leb-false s.limits.steps m.made comes.room in
    let named = in_log p (thread_in (own_choice c) here) in
    let fits : number_in_log p (thread_in (own_choice c) here) < 2 ^ 32 = omega (arith, given, low, made, room, named, short) in
    subst IsNarrow comes.is (record { thread = fits; pc = pc_stands here (thread_in (own_choice c) here) (both_stand s before small run p h).threads })

-- A LOG

narrow_in : (s : PairSetting) (log : List Entry) (before : PairHistory) → s.limits.steps < 2 ^ 31 - 1 → AreSmall s
    → IsPairRunHistory s (fold (λ (past : PairHistory) (e : Entry). event_two s past e ∷ past) before log)
    → IsPairRunHistory s before × AllByRecursion IsNarrow log
narrow_in s [] before short small run = (run, tt)
narrow_in s (e ∷ log) before short small run =
    let rest = narrow_in s log (event_two s before e ∷ before) short small run in
    let comes = decided s (pair_after s before) e.hart.0 (choice_of e) e rest.0.1 in
    (rest.0.0, (narrow_at s before e.hart.0 (choice_of e) e short small rest.0.0 comes, rest.1))

pub all_narrow : (s : PairSetting) (log : List Entry) → s.limits.steps < 2 ^ 31 - 1 → AreSmall s → IsPairRun s log → All IsNarrow log
unfolding pair_history
all_narrow s log short small run = All-from_recursion IsNarrow log (narrow_in s log [] short small run).1
