-- One event more of a pair: where a hart may be asked, what is answered, that the longer log is a pair run; and the pair after a step of one
-- of its processes.
use Rattle.mach_types.specs.declared.events.Choice.TheVariants as asked
use Rattle.shared_procs.proofs.Common.{◌≡◌, ℕ, ◌-◌, ◌<◌, ◌≤◌, Bool, true, false, not, cond, leb-true, List, [], ◌∷◌, ◌++◌, Option, Some, None, Result, Ok, Err, IfOk, arith, refl, sym, ap, ◌∙◌, subst, OnErr, vec_len, vec_capacity, acting, apply_two, AreBoth, Choice, choice_of, done_two, Entry, entry_two, Half, half, Hart, InRange, is_of_second, is_over, IsAsked, IsPairRun, IsPairRunHistory, lt-leb, number_in_log, own_choice, Pair, pair_after, pair_decide, pair_history, PairRefused, PairSetting, refusal_as, refusal_two, SECOND_THREADS, setting, Tid, unless_two, Why, AreTied, done_as, entry_as, Inside, pair_seen, seen, setting_of, IsPair, PairSeen}
use Rattle.shared_procs.proofs.BarrierReturns.{history_more}
use Rattle.shared_procs.proofs.Refusals.{choice_goes, decided_as, refusal_is}
use Rattle.shared_procs.proofs.SameRequests.{AreAlike, alike_after, made_is}
use Rattle.shared_procs.proofs.Settled.{AreStanding, settled}
use Rattle.shared_procs.proofs.Halves.{none_there}

-- WHERE IT MAY BE ASKED

made_by : (m : Pair) (p : Bool) → AreAlike m → (half p m).made ≡ m.made
made_by m true are = are.second
made_by m false are = are.first

-- a place of the pair at which neither it has ended, nor the log is full, nor the machine lacks the hart
pub record IsOpen (s : PairSetting) (m : Pair) (h : ℕ) : Type 0 where
  pub goes : is_over m ≡ false
  pub room : m.made < s.limits.steps
  pub lt : h < s.limits.harts

pub may_ask : (s : PairSetting) (m : Pair) (h : ℕ) (c : Choice) (mine other : Half) (segment : List ℕ) → AreStanding s m → AreAlike m → InRange s.limits
    → IsOpen s m h → AreBoth s m (acting m h c) mine other segment → mine.code ≡ (setting s (acting m h c)).program.pages
    → IsAsked s m (acting m h c) h (own_choice c) mine other segment
may_ask s m h c mine other segment stand alike limits open_at both code = record {
  acting = λ goes. record {
    place = record {
      stands = stand (acting m h c) goes;
      tied = both.own;
      limits = limits;
      goes = none_there _ goes;
      room = subst (λ (n : ℕ). n < s.limits.steps) (sym (made_by m (acting m h c) alike)) open_at.room;
      lt = open_at.lt;
    };
    code = code;
    holds = both.holds;
  };
  goes = choice_goes m h c open_at.goes;
  own = both.own;
  beside = both.beside;
  lt = open_at.lt;
}

-- WHAT IS ANSWERED

at_choice : (s : PairSetting) (m : Pair) (h : ℕ) (c : Choice) → IsOpen s m h → pair_decide s m h c ≡ unless_two (entry_two s m h c) (refusal_two s m h c)
at_choice s m h c at =
    decided_as s m h c false false false at.goes (lt-leb s.limits.steps m.made at.room) (lt-leb s.limits.harts h at.lt)

-- what the process that acts answers is what is decided there
pub answer_is : (s : PairSetting) (m : Pair) (h : ℕ) (c : Choice) → IsOpen s m h
    → unless_two (entry_two s m h c) (refusal_as s m (acting m h c) h (own_choice c)) ≡ pair_decide s m h c
answer_is s m h c at = ap (unless_two (entry_two s m h c)) (refusal_is s m h c) ∙ sym (at_choice s m h c at)

-- an entry that comes is of its hart and answers its choice
number_again : (b : Bool) (t : ℕ) → is_of_second t ≡ b → number_in_log b (Some (cond b (t - SECOND_THREADS) t)) ≡ t
number_again true t is = let past = leb-true SECOND_THREADS t is in omega (arith, past)
number_again false t is = refl

entry_answers : (s : PairSetting) (m : Pair) (h : ℕ) (c : Choice) → choice_of (entry_two s m h c) ≡ c
entry_answers s m h (asked.Run t) =
    ap (λ (n : ℕ). let u : Tid = record { 0 = n } in asked.Run u) (number_again (is_of_second t.0) t.0 refl)
entry_answers s m h c = refl

its_entry : (e f : Entry) (o : Option Why) → unless_two f o ≡ Ok e → f ≡ e
its_entry e f None is = cc
its_entry e f (Some why) is = cc

pub record Answers (h : ℕ) (c : Choice) (e : Entry) : Type 0 where
  pub hart : e.hart.0 ≡ h
  pub choice : choice_of e ≡ c

pub entry_of_choice : (s : PairSetting) (m : Pair) (h : ℕ) (c : Choice) (e : Entry) → IsOpen s m h → pair_decide s m h c ≡ Ok e → Answers h c e
entry_of_choice s m h c e at is =
    subst (Answers h c) (its_entry e (entry_two s m h c) (refusal_two s m h c) (sym (at_choice s m h c at) ∙ is))
    (record { hart = refl; choice = entry_answers s m h c })

pub of_choice : (s : PairSetting) (m : Pair) (h : Hart) (c : Choice) (r : Result Entry PairRefused) → IsOpen s m h.0 → r ≡ pair_decide s m h.0 c
    → IfOk r (λ e. (e.hart ≡ h) × (choice_of e ≡ c))
of_choice s m h c (Ok e) at is =
    let answers = entry_of_choice s m h.0 c e at (sym is) in
    (ap (λ (n : ℕ). let k : Hart = record { 0 = n } in k) answers.hart, answers.choice)
of_choice s m h c (Err why) at is = tt

-- A LOG WITH ONE ENTRY MORE

-- it is a pair run, and the pair stands after it as after the event
pub run_more : (s : PairSetting) (log : List Entry) (h : ℕ) (c : Choice) (e : Entry) → IsPairRun s log → Answers h c e
    → pair_decide s (pair_after s (pair_history s log)) h c ≡ Ok e → IsPairRun s (log ++ e ∷ [])
run_more s log h c e run answers is =
    let m = pair_after s (pair_history s log) in
    let asks : pair_decide s m e.hart.0 (choice_of e) ≡ pair_decide s m h c = λ i. pair_decide s m (answers.hart i) (answers.choice i) in
    subst (IsPairRunHistory s) (sym (history_more s log (e ∷ []))) (run, asks ∙ is, refl)

pub after_more : (s : PairSetting) (log : List Entry) (h : ℕ) (c : Choice) (e : Entry) → Answers h c e
    → pair_after s (pair_history s (log ++ e ∷ []))
    ≡ apply_two h (acting (pair_after s (pair_history s log)) h c) (done_two s (pair_after s (pair_history s log)) h c) (pair_after s (pair_history s log))
after_more s log h c e answers =
    let m = pair_after s (pair_history s log) in
    ap (pair_after s) (history_more s log (e ∷ []))
    ∙ (λ i. apply_two (answers.hart i) (acting m (answers.hart i) (answers.choice i)) (done_two s m (answers.hart i) (answers.choice i)) m)

-- A PAIR THAT IS KEPT

abbrev now_of : Inside → Pair
now_of m = pair_seen (seen m)

-- a process as it is kept
abbrev pub kept : Bool → Inside → Half
kept p m = cond p m.second m.first

both_of : (m : Inside) (p : Bool) → IsPair m → AreBoth (setting_of m) (now_of m) p (kept p m) (kept (not p) m) m.segment
both_of m true is = record { own = is.tied.second; beside = is.tied.first; holds = is.tied.shared }
both_of m false is = record { own = is.tied.first; beside = is.tied.second; holds = is.tied.shared }

tied_of : (s : PairSetting) (now : Pair) (m : Inside) (p : Bool) → AreBoth s now p (kept p m) (kept (not p) m) m.segment
    → AreTied s now m.first.parts m.second.parts m.segment
tied_of s now m true both = record { first = both.beside; second = both.own; shared = both.holds }
tied_of s now m false both = record { first = both.own; second = both.beside; shared = both.holds }

its_code : (m : Inside) (p : Bool) → (kept p m).code ≡ (setting (setting_of m) p).program.pages
its_code m true = refl
its_code m false = refl

-- what a step of a process p leaves, which answers r: where it is refused, all is as before
module _ (m m' : Inside) (p : Bool) (r : Result Entry PairRefused) where
  abbrev pub IsMade : Pair → Type 0
  IsMade now = IfOk r (λ e. AreBoth (setting_of m) now p (kept p m') (kept (not p) m') m'.segment)

  abbrev pub IsLonger : Type 0
  IsLonger = IfOk r (λ e. m'.log.items ≡ m.log.items ++ e ∷ [])

  abbrev pub IsKept : Type 0
  IsKept = OnErr r ((kept p m' ≡ kept p m) × (kept (not p) m' ≡ kept (not p) m) × (m'.segment ≡ m.segment) × (m'.log ≡ m.log))

same_inside : (m m' : Inside) (p : Bool) (why : PairRefused) → m'.limits ≡ m.limits → IsKept m m' p (Err why) → m' ≡ m
same_inside m m' true why limits same = λ i. record { first = same.1 i; second = same.0 i; segment = same.2 i; limits = limits i; log = same.3 i }
same_inside m m' false why limits same = λ i. record { first = same.0 i; second = same.1 i; segment = same.2 i; limits = limits i; log = same.3 i }

-- so it is a pair
module _ (m m' : Inside) (h : Hart) (c : Choice) (is : IsPair m) (at : IsOpen (setting_of m) (now_of m) h.0) (same : setting_of m' ≡ setting_of m)
    (room : m'.limits.steps ≤ vec_capacity m'.log)
  where
    abbrev s : PairSetting
    s = setting_of m

    abbrev now : Pair
    now = now_of m

    abbrev p : Bool
    p = acting now h.0 c

    pub whole_after : (r : Result Entry PairRefused) → r ≡ pair_decide s now h.0 c → IsMade m m' p r (apply_two h.0 p (done_as s now p h.0 (own_choice c)) now)
        → IsLonger m m' p r → IsKept m m' p r → IsPair m'
    whole_after (Ok e) answer made longer stays =
        let answers = entry_of_choice s now h.0 c e at (sym answer) in
        let run = run_more s m.log.items h.0 c e is.run answers (sym answer) in
        let stands = ap (λ (l : List Entry). pair_after s (pair_history s l)) longer ∙ after_more s m.log.items h.0 c e answers in
        let both : AreBoth s (pair_after s (pair_history s m'.log.items)) p (kept p m') (kept (not p) m') m'.segment =
        subst (λ (z : Pair). AreBoth s z p (kept p m') (kept (not p) m') m'.segment) (sym stands) made in
        record {
          run = subst (λ (z : PairSetting). IsPairRun z m'.log.items) (sym same) (subst (IsPairRun s) (sym longer) run);
          tied = subst (λ (z : PairSetting). AreTied z (pair_after z (pair_history z m'.log.items)) m'.first.parts m'.second.parts m'.segment) (sym same) (tied_of s _ m' p both);
          limits = subst (λ (z : PairSetting). InRange z.limits) (sym same) is.limits;
          room = room;
        }
    whole_after (Err why) answer made longer stays = subst IsPair (sym (same_inside m m' p why (ap (λ (z : PairSetting). z.limits) same) stays)) is

-- what comes of a step
pub record HasStepped (h : Hart) (c : Choice) (v : PairSeen) (r : Result Entry PairRefused) (m' : Inside) : Type 0 where
  pub whole : IsPair m'
  pub answer : r ≡ pair_decide v.setting (pair_seen v) h.0 c
  pub of : IfOk r (λ e. (e.hart ≡ h) × (choice_of e ≡ c))

-- where process p of a pair acts: it may be asked, and what comes of its step
pub record IsStepping (m : Inside) (h : Hart) (c own : Choice) (v : PairSeen) (p : Bool) : Type 0 where
  pub at : IsAsked (setting_of m) (now_of m) p h.0 own (kept p m) (kept (not p) m) m.segment
  pub step : (r : Result Entry PairRefused) (m' : Inside)
      → r ≡ unless_two (entry_as (setting_of m) (now_of m) p h.0 own) (refusal_as (setting_of m) (now_of m) p h.0 own)
      → IsMade m m' p r (apply_two h.0 p (done_as (setting_of m) (now_of m) p h.0 own) (now_of m)) → IsLonger m m' p r → IsKept m m' p r
      → setting_of m' ≡ setting_of m → m'.limits.steps ≤ vec_capacity m'.log → HasStepped h c v r m'

stepping_here : (m : Inside) (h : Hart) (c : Choice) → IsPair m → IsOpen (setting_of m) (now_of m) h.0
    → IsStepping m h c (own_choice c) (seen m) (acting (now_of m) h.0 c)
stepping_here m h c is open_at =
    let s = setting_of m in
    let now = now_of m in
    let p = acting now h.0 c in
    record {
      at = may_ask s now h.0 c (kept p m) (kept (not p) m) m.segment (settled s (pair_history s m.log.items) is.run) (alike_after s (pair_history s m.log.items))
          is.limits open_at (both_of m p is) (its_code m p);
      step = λ r m' answered made longer stays same room.
          let answer : r ≡ pair_decide s now h.0 c = answered ∙ answer_is s now h.0 c open_at in
          record {
            whole = whole_after m m' h c is open_at same room r answer made longer stays;
            answer = answer;
            of = of_choice s now h c r open_at answer;
          };
    }

pub stepping : (m : Inside) (h : Hart) (c own : Choice) (v : PairSeen) (p : Bool) → IsPair m → seen m ≡ v → IsOpen v.setting (pair_seen v) h.0
    → acting (pair_seen v) h.0 c ≡ p → own ≡ own_choice c → IsStepping m h c own v p
stepping m h c own v p is view open_at acts owns =
    subst (λ (w : PairSeen). IsOpen w.setting (pair_seen w) h.0 → acting (pair_seen w) h.0 c ≡ p → IsStepping m h c own w p) view
    (λ open_here acts_here.
    subst (IsStepping m h c own (seen m)) acts_here
    (subst (λ (d : Choice). IsStepping m h c d (seen m) (acting (now_of m) h.0 c)) (sym owns) (stepping_here m h c is open_here)))
    open_at acts

-- the log has room
pub room_left : (m : Inside) (v : PairSeen) → IsPair m → seen m ≡ v → (pair_seen v).made < v.setting.limits.steps → vec_len m.log < vec_capacity m.log
room_left m v is view room =
    let has_room : (now_of m).made < m.limits.steps = subst (λ (w : PairSeen). (pair_seen w).made < w.setting.limits.steps) (sym view) room in
    omega (arith, has_room, is.room, m.log.ok.0, made_is (setting_of m) m.log.items)
