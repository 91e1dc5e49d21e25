-- The refusals of every choice of a hart of a pair; those of a choice, by the numbers of a process; and that the process that acts goes on.
use Rattle.mach_types.specs.declared.events.Choice.TheVariants as asked
use Rattle.mach_types.specs.declared.events.Why.TheVariants.{Busy, NoHart}
use Rattle.shared_procs.proofs.Common.{◌≡◌, ◌≢◌, ℕ, Bool, true, false, not, cond, leb, Option, Some, None, is_some, Result, Err, refl, acting, Choice, Entry, entry_two, goes_on, here_two, is_over, NotEnabled, NotReady, on_hart, own_choice, Pair, pair_decide, PairRefused, PairSetting, refusal_as, refusal_of, refusal_two, running_on, runs_in, Tid, unless_two, Why, own_number, refusal_begins, Ended, Full}

-- what is decided where no process goes on, the log is full, and the machine hasn't the hart, or else
abbrev pub decide_with : Bool → Bool → Bool → Result Entry PairRefused → Result Entry PairRefused
decide_with over full out rest = cond over (Err Ended) (cond full (Err Full) (cond out (Err (NotEnabled NoHart)) rest))

pub decided_as : (s : PairSetting) (m : Pair) (h : ℕ) (c : Choice) (over full out : Bool) → is_over m ≡ over → leb s.limits.steps m.made ≡ full
    → leb s.limits.harts h ≡ out → pair_decide s m h c ≡ decide_with over full out (unless_two (entry_two s m h c) (refusal_two s m h c))
decided_as s m h c over full out a b d = λ i. decide_with (a i) (b i) (d i) (unless_two (entry_two s m h c) (refusal_two s m h c))

-- a thread that is to begin to run
pub begins_with : (m : Pair) (p : Bool) (h : ℕ) (why : Option Why) (busy goes : Bool) → is_some (runs_in m (not p) h) ≡ busy → goes_on m p ≡ goes
    → refusal_begins m p h why ≡ cond busy (Some Busy) (cond goes why (Some NotReady))
begins_with m p h why busy goes a b = λ i. cond (a i) (Some Busy) (cond (b i) why (Some NotReady))

pub begins : (m : Pair) (p : Bool) (h : ℕ) (why : Option Why) → refusal_begins m p h why ≡ None
    → (runs_in m (not p) h ≡ None) × (goes_on m p ≡ true) × (why ≡ None)
begins m p h why free = by (runs_in m (not p) h) (goes_on m p) refl refl free
  where
    by : (o : Option ℕ) (goes : Bool) → runs_in m (not p) h ≡ o → goes_on m p ≡ goes → cond (is_some o) (Some Busy) (cond goes why (Some NotReady)) ≡ None
        → (runs_in m (not p) h ≡ None) × (goes_on m p ≡ true) × (why ≡ None)
    by (Some t) goes none is free = cc
    by None true none is free = (none, is, free)
    by None false none is free = cc

-- any other choice
pub else_as : (s : PairSetting) (m : Pair) (p : Bool) (h : ℕ) (c : Choice) → ((t : Tid) → c ≢ asked.Run t) → refusal_of c (here_two s m p h) ≡ refusal_as s m p h c
else_as s m p h (asked.Run t) other = absurd (other t refl)
else_as s m p h c other = refl

-- where none fails, the process goes on, and its own conditions hold
pub record IsFreeAs (s : PairSetting) (m : Pair) (p : Bool) (h : ℕ) (c : Choice) : Type 0 where
  pub goes : goes_on m p ≡ true
  pub free : refusal_of c (here_two s m p h) ≡ None

pub free_as : (s : PairSetting) (m : Pair) (p : Bool) (h : ℕ) (c : Choice) → (((t : Tid) → c ≢ asked.Run t) → goes_on m p ≡ true) → refusal_as s m p h c ≡ None
    → IsFreeAs s m p h c
free_as s m p h (asked.Run t) goes free =
    let its = begins m p h (refusal_of (asked.Run t) (here_two s m p h)) free in
    record { goes = its.1; free = its.2 }
free_as s m p h c goes free = record { goes = goes (λ t is. absurd cc); free = free }

-- what is refused, by the numbers of the process that acts
pub refusal_is : (s : PairSetting) (m : Pair) (h : ℕ) (c : Choice) → refusal_as s m (acting m h c) h (own_choice c) ≡ refusal_two s m h c
refusal_is s m h (asked.Run t) = refl
refusal_is s m h c = refl

-- the process of a hart goes on, and so that of a choice that isn't of a thread which begins to run
some_goes : (b : Bool) (o : Option ℕ) → is_some (cond b o None) ≡ true → b ≡ true
some_goes true o is = refl
some_goes false o is = cc

pub on_hart_goes : (m : Pair) (h : ℕ) → is_over m ≡ false → goes_on m (on_hart m h) ≡ true
on_hart_goes m h live_on = by (is_some (runs_in m true h)) (is_some (runs_in m false h)) (goes_on m false) (goes_on m true) refl refl refl refl live_on
  where
    by : (second first goes_first goes_second : Bool) → is_some (runs_in m true h) ≡ second → is_some (runs_in m false h) ≡ first → goes_on m false ≡ goes_first → goes_on m true ≡ goes_second
        → cond goes_first false (not goes_second) ≡ false
        → goes_on m (cond second true (cond first false (not goes_first))) ≡ true
    by true first a b is x y z live_on = some_goes (goes_on m true) (running_on h m.second.kernel.threads) is
    by false true a b x is y z live_on = some_goes (goes_on m false) (running_on h m.first.kernel.threads) is
    by false false true b x y is z live_on = is
    by false false false true x y z is live_on = is
    by false false false false x y z is live_on = cc

pub choice_goes : (m : Pair) (h : ℕ) (c : Choice) → is_over m ≡ false → ((t : Tid) → own_choice c ≢ asked.Run t) → goes_on m (acting m h c) ≡ true
choice_goes m h (asked.Run t) live_on other = absurd (other (record { 0 = own_number t.0 }) refl)
choice_goes m h c live_on other = on_hart_goes m h live_on
