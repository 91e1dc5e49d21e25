-- Each process of a pair that goes on stands at each place of a pair run.
use Rattle.block_model.proofs.Laws.{stand_aside, stand_fit, standing, start_plain, start_run}
use Rattle.shared_procs.proofs.Common.{List, [], ◌∷◌, ◌≡◌, ℕ, ◌<◌, Bool, true, false, not, leb, Option, None, Some, Ok, is_none, refl, sym, ◌∙◌, subst, acting, apply, apply_two, Choice, choice_of, done_of, done_two, ended_if, Entry, entry_two, filter, goes_on, half, here_two, is_over, is_shared, IsFit, IsPairRun, IsPairRunHistory, IsStanding, leb-false, Neighbour, neighbour, own_choice, Pair, pair_after, pair_decide, pair_history, pair_start, PairEvent, PairHistory, PairSetting, Plain, plain_over, plain_start, refusal_two, running_on, Setting, setting, Stand, stand, stand_next, unless_two, Why}
use Rattle.shared_procs.proofs.Halves.{each_half, open_of, open_so_far}
use Rattle.shared_procs.proofs.Refusals.{IsFreeAs, choice_goes, decide_with, free_as, refusal_is}

abbrev placed : Setting → Plain → Option Neighbour → Stand
placed s x o = record { setting = s; plain = x; beside = o }

-- each process that goes on stands
abbrev pub AreStanding : PairSetting → Pair → Type 0
AreStanding s m = (p : Bool) → goes_on m p ≡ true → IsStanding (stand s m p)

pub standing_of : (s : PairSetting) (m : Pair) (p : Bool) → AreStanding s m → goes_on m p ≡ true → IsStanding (stand s m p)
standing_of s m p are goes = are p goes

-- where no condition of a choice fails, the process that acts goes on, and no condition of its own does
pub own_free : (s : PairSetting) (m : Pair) (h : ℕ) (c : Choice) → is_over m ≡ false → refusal_two s m h c ≡ None → IsFreeAs s m (acting m h c) h (own_choice c)
own_free s m h c live_on free = free_as s m (acting m h c) h (own_choice c) (choice_goes m h c live_on) (refusal_is s m h c ∙ free)

-- what it does is fit, but for what waits where it ends the process
pub done_fit : (s : PairSetting) (m : Pair) (h : ℕ) (c : Choice) → AreStanding s m → h < s.limits.harts → is_over m ≡ false → refusal_two s m h c ≡ None
    → IsFit (here_two s m (acting m h c) h) (done_of (own_choice c) (here_two s m (acting m h c) h))
done_fit s m h c are lt live_on free =
    let own = own_free s m h c live_on free in
    stand_fit (stand s m (acting m h c)) h (own_choice c) (are (acting m h c) own.goes) lt own.free

-- an allowed event of a pair keeps both standing
pub pair_next : (s : PairSetting) (m : Pair) (h : ℕ) (c : Choice) → AreStanding s m → h < s.limits.harts → is_over m ≡ false → refusal_two s m h c ≡ None
    → AreStanding s (apply_two h (acting m h c) (done_two s m h c) m)
pair_next s m h c are lt live_on free =
    let p = acting m h c in
    let d = done_two s m h c in
    let own = done_of (own_choice c) (here_two s m p h) in
    let beside : Bool → Option Neighbour = λ q. Some (neighbour s (apply_two h p d m) q) in
    each_half (λ q x. is_none (plain_over x) ≡ true → IsStanding (placed (setting s q) x (beside q))) h p d m
    (λ goes.
    let next =
    stand_next (stand s m p) h own (beside p) (λ can. refl) lt (are p (own_free s m h c live_on free).goes) (done_fit s m h c are lt live_on free) d.entered in
    let unended = open_so_far d.ended (half p m).ended (open_of (apply h d (half p m)) goes) in
    subst (λ o. IsStanding (placed (setting s p) (ended_if o (apply h d (half p m))) (beside p))) (sym unended) next)
    (λ goes. stand_aside (stand s m (not p)) h d (filter is_shared d.entered) (beside (not p)) (λ can. refl) (are (not p) goes))

-- at the start both stand
start_stands : (s : Setting) (o : Option Neighbour) → IsStanding (placed s (plain_start s) o)
start_stands s o =
    let is : IsStanding (placed s (plain_start s) None) =
    subst (λ (x : Plain). IsStanding (placed s x None)) (start_plain s) (standing (record { setting = s; seed = 0; log = [] }) (start_run s)) in
    record {
      good = λ h lt.
          let was = is.good h lt in
          record { lt = lt; within = λ k. tt; few = was.few; idle = was.idle; busy = was.busy; empty = was.empty; kernel = was.kernel };
      sound = is.sound;
      held = is.held;
      events = is.events;
      ran = is.ran;
      given = is.given;
    }

both_start : (s : PairSetting) (p : Bool) → IsStanding (stand s (pair_start s) p)
both_start s true = start_stands (setting s true) _
both_start s false = start_stands (setting s false) _

pub over_lt : (a b : ℕ) → leb a b ≡ false → b < a
over_lt a b is = leb-false a b is

-- an entry that comes: some process goes on, the log has room, the machine has the hart, no condition fails, and it is the one of the choice
pub record IsDecided (s : PairSetting) (m : Pair) (h : ℕ) (c : Choice) (e : Entry) : Type 0 where
  pub over : is_over m ≡ false
  pub room : leb s.limits.steps m.made ≡ false
  pub hart : leb s.limits.harts h ≡ false
  pub free : refusal_two s m h c ≡ None
  pub is : entry_two s m h c ≡ e

pub decided : (s : PairSetting) (m : Pair) (h : ℕ) (c : Choice) (e : Entry) → pair_decide s m h c ≡ Ok e → IsDecided s m h c e
decided s m h c e is = by (is_over m) (leb s.limits.steps m.made) (leb s.limits.harts h) (refusal_two s m h c) refl refl refl refl is
  where
    by : (over full out : Bool) (why : Option Why) → is_over m ≡ over → leb s.limits.steps m.made ≡ full → leb s.limits.harts h ≡ out → refusal_two s m h c ≡ why
        → decide_with over full out (unless_two (entry_two s m h c) why) ≡ Ok e → IsDecided s m h c e
    by true full out why a f b d is = cc
    by false true out why a f b d is = cc
    by false false true why a f b d is = cc
    by false false false (Some w) a f b d is = cc
    by false false false None a f b d is = record { over = a; room = f; hart = b; free = d; is = cc }

-- so they do at each place of a pair run
pub settled : (s : PairSetting) (before : PairHistory) → IsPairRunHistory s before → AreStanding s (pair_after s before)
settled s [] run = λ p goes. both_start s p
settled s (e ∷ before) run =
    let m = pair_after s before in
    let h = e.entry.hart.0 in
    let comes = decided s m h (choice_of e.entry) e.entry run.1 in
    let next = pair_next s m h (choice_of e.entry) (settled s before run.0) (over_lt s.limits.harts h comes.hart) comes.over comes.free in
    subst (λ (x : PairEvent). AreStanding s (apply_two x.entry.hart.0 x.process x.done m)) (sym run.2) next

-- an idle hart has no waiting store
pub idle_holds_none : (s : PairSetting) (log : List Entry) (p : Bool) (h : ℕ) → IsPairRun s log → h < s.limits.harts
    → goes_on (pair_after s (pair_history s log)) p ≡ true → running_on h (half p (pair_after s (pair_history s log))).kernel.threads ≡ None
    → (half p (pair_after s (pair_history s log))).waiting h ≡ []
idle_holds_none s log p h run lt goes idle = ((settled s (pair_history s log) run p goes).good h lt).idle h idle
