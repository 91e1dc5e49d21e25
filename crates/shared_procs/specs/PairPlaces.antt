-- Places of a pair at which one of its processes acts.
use Rattle.std.specs.Prelude.{ℕ, ◌≡◌, ◌≢◌, ◌<◌, ◌⊎◌, Bool, true, false, not, List, [], if◌then◌else◌, nat_lt, Some, None, IfSome, filter}
use Rattle.mach_types.specs.Events.{is_take as takes_requests, kind_of}
use Rattle.mach_types.specs.declared.events.Choice.{Choice}
use Rattle.mach_types.specs.declared.events.Choice.TheVariants.{Exec, Run}
use Rattle.mach_types.specs.declared.events.Tid.{Tid}
use Rattle.mach_types.specs.Bytes.{all_stored, written}
use Rattle.rv_inst.specs.Sizes.{HasAccessSizes}
use Rattle.rv_inst.specs.declared.effects.Effect.TheVariants.{Call}
use Rattle.block_model.specs.Events.{done_of, refusal_of}
use Rattle.block_model.specs.Events.Exec.{next_effect, next_fault}
use Rattle.block_model.specs.Here.{Done as Deed, runs}
use Rattle.block_model.specs.History.{lost_after}
use Rattle.block_model.specs.Plain.{Plain}
use Rattle.block_model.specs.Setting.{Setting}
use Rattle.block_model.specs.Calls.Answers.{call_number}
use Rattle.block_model.specs.Sequences.{is_inside_here}
use Rattle.block_model.specs.Stands.{Stand, aside, here_at}
use Rattle.process.specs.Refinement.{IsPlace, IsTied, IsUncounted}
use Rattle.process.specs.declared.next.Next.{Next}
use Rattle.process.specs.declared.parts.Parts.{Parts}
use Rattle.shared_procs.specs.Entering.{HoldsShared}
use Rattle.shared_procs.specs.Pairs.{Pair, PairSetting, apply_two, done_as, goes_on, half, here_two, is_shared, setting, stand, waiting_below}
use Rattle.shared_procs.specs.declared.half.Half.{Half}

-- WHERE A HART MAY BE ASKED

-- process p, which is kept so, stands at a place of the pair m where its hart h may be asked, and the segment is that of the pair
pub record IsActing (s : PairSetting) (m : Pair) (p : Bool) (h : ℕ) (mine : Half) (segment : List ℕ) : Type 0 where
  pub place : IsPlace (stand s m p) mine.parts h
  pub code : mine.code ≡ (setting s p).program.pages
  pub holds : HoldsShared m.shared segment

-- and the other process is kept so
pub record AreBoth (s : PairSetting) (m : Pair) (p : Bool) (mine other : Half) (segment : List ℕ) : Type 0 where
  pub own : IsTied (setting s p) (half p m) mine.parts
  pub beside : IsTied (setting s (not p)) (half (not p) m) other.parts
  pub holds : HoldsShared m.shared segment

-- there is such a place
pub record HasActing (h : ℕ) (mine : Half) (segment : List ℕ) : Type 0 where
  pub setting : PairSetting
  pub pair : Pair
  pub process : Bool
  pub acting : IsActing setting pair process h mine segment

-- hart h may be asked for a choice of process p: it goes on, or a thread of it is to begin to run
pub record IsAsked (s : PairSetting) (m : Pair) (p : Bool) (h : ℕ) (c : Choice) (mine other : Half) (segment : List ℕ) : Type 0 where
  pub acting : goes_on m p ≡ true → IsActing s m p h mine segment
  pub goes : ((t : Tid) → c ≢ Run t) → goes_on m p ≡ true
  pub own : IsTied (setting s p) (half p m) mine.parts
  pub beside : IsTied (setting s (not p)) (half (not p) m) other.parts
  pub lt : h < s.limits.harts

pub record MayAsk (h : ℕ) (c : Choice) (mine other : Half) (segment : List ℕ) : Type 0 where
  pub setting : PairSetting
  pub pair : Pair
  pub process : Bool
  pub asked : IsAsked setting pair process h c mine other segment

-- the setting of the other process
abbrev pub setting_for : PairSetting → Bool → Setting
setting_for s p = setting s (not p)

-- there is one at which a choice of process p is allowed
pub record MayAct (h : ℕ) (c : Choice) (mine other : Half) (segment : List ℕ) : Type 0 where
  pub setting : PairSetting
  pub pair : Pair
  pub process : Bool
  pub acting : IsActing setting pair process h mine segment
  pub beside : IsTied (setting_for setting process) (half (not process) pair) other.parts
  pub free : refusal_of c (here_two setting pair process h) ≡ None

-- at each such place both are kept as after the event of the choice
abbrev pub AreAfter : ℕ → Choice → Half → Half → List ℕ → Half → Half → List ℕ → Type 0
AreAfter h c mine other segment mine' other' segment' =
    (s : PairSetting) (m : Pair) (p : Bool) → IsActing s m p h mine segment → IsTied (setting s (not p)) (half (not p) m) other.parts
    → refusal_of c (here_two s m p h) ≡ None
    → AreBoth s (apply_two h p (done_as s m p h c) m) p mine' other' segment'

-- WHAT AN EVENT LEAVES

-- what an event d of hart h of process p leaves of both, but its count, and but what waits where it ends the process
pub record AreSeen (s : PairSetting) (m : Pair) (p : Bool) (h : ℕ) (d : Deed) (mine mine' other' : Parts) : Type 0 where
  pub own : IsUncounted (stand s m p) h d mine mine'
  pub beside : IsTied (setting s (not p)) (aside h d (filter is_shared d.entered) (half (not p) m)) other'

-- and of the segment; both keep their programs
pub record AreMade (s : PairSetting) (m : Pair) (p : Bool) (h : ℕ) (d : Deed) (mine other mine' other' : Half) (segment' : List ℕ) : Type 0 where
  pub seen : AreSeen s m p h d mine.parts mine'.parts other'.parts
  pub holds : HoldsShared (λ a. written (filter is_shared d.entered) a (m.shared a)) segment'
  pub program : mine' ≡ record mine { parts = mine'.parts }
  pub others : other' ≡ record other { parts = other'.parts }

-- so both are at each place where a choice is allowed
abbrev pub IsMadeAt : ℕ → Choice → Half → Half → List ℕ → Half → Half → List ℕ → Type 0
IsMadeAt h c mine other segment mine' other' segment' =
    (s : PairSetting) (m : Pair) (p : Bool) → IsActing s m p h mine segment → IsTied (setting s (not p)) (half (not p) m) other.parts
    → refusal_of c (here_two s m p h) ≡ None
    → AreMade s m p h (done_of c (here_two s m p h)) mine other mine' other' segment'

-- an event that writes nothing to the segment leaves both so
pub record AreUnshared (s : PairSetting) (m : Pair) (p : Bool) (h : ℕ) (d : Deed) (mine mine' other' : Parts) : Type 0 where
  pub seen : AreSeen s m p h d mine mine' other'
  pub hidden : filter is_shared d.entered ≡ []

-- there is a place of these parts of both where a choice of hart h is allowed; at each such place they are as its event leaves them,
-- which writes nothing to the segment
pub record MayPass (h : ℕ) (c : Choice) (mine other : Parts) : Type 0 where
  pub setting : PairSetting
  pub pair : Pair
  pub process : Bool
  pub place : IsPlace (stand setting pair process) mine h
  pub beside : IsTied (setting_for setting process) (half (not process) pair) other
  pub free : refusal_of c (here_two setting pair process h) ≡ None

abbrev pub IsPassedAt : ℕ → Choice → Parts → Parts → Parts → Parts → Type 0
IsPassedAt h c mine other mine' other' =
    (s : PairSetting) (m : Pair) (p : Bool) → IsPlace (stand s m p) mine h → IsTied (setting s (not p)) (half (not p) m) other
    → refusal_of c (here_two s m p h) ≡ None
    → AreUnshared s m p h (done_of c (here_two s m p h)) mine mine' other'

-- whether a choice is a `take`
abbrev pub is_take : Choice → Bool
is_take c = takes_requests (kind_of c)

-- THE NEXT INSTRUCTION

-- the thread on hart h of process p may execute its next instruction, which is this one, over these parts of both
pub record IsStep (s : PairSetting) (m : Pair) (p : Bool) (h : ℕ) (next : Next) (mine other : Parts) : Type 0 where
  pub place : IsPlace (stand s m p) mine h
  pub beside : IsTied (setting s (not p)) (half (not p) m) other
  pub thread : ℕ
  pub at : runs (here_two s m p h) ≡ Some thread
  pub effect : next.effect ≡ next_effect (here_two s m p h) thread
  pub fault : next.fault ≡ next_fault (here_two s m p h) thread
  pub sizes : IfSome next.effect HasAccessSizes
  pub free : refusal_of Exec (here_two s m p h) ≡ None

-- there is a place where it is; and there is one where the segment is that of the pair too
pub record HasStep (h : ℕ) (next : Next) (mine other : Parts) : Type 0 where
  pub setting : PairSetting
  pub pair : Pair
  pub process : Bool
  pub step : IsStep setting pair process h next mine other

pub record HasNext (h : ℕ) (next : Next) (mine other : Half) (segment : List ℕ) : Type 0 where
  pub setting : PairSetting
  pub pair : Pair
  pub process : Bool
  pub acting : IsActing setting pair process h mine segment
  pub step : IsStep setting pair process h next mine.parts other.parts

-- at each such place both are as it leaves them
abbrev pub IsPerformedAt : ℕ → Next → Half → Half → List ℕ → Half → Half → List ℕ → Type 0
IsPerformedAt h next mine other segment mine' other' segment' =
    (s : PairSetting) (m : Pair) (p : Bool) → IsActing s m p h mine segment → IsStep s m p h next mine.parts other.parts
    → AreMade s m p h (done_of Exec (here_two s m p h)) mine other mine' other' segment'

abbrev pub IsSteppedAt : ℕ → Next → Parts → Parts → Parts → Parts → Type 0
IsSteppedAt h next mine other mine' other' =
    (s : PairSetting) (m : Pair) (p : Bool) → IsStep s m p h next mine other
    → AreUnshared s m p h (done_of Exec (here_two s m p h)) mine mine' other'

-- a call of the thread on hart h
abbrev pub call_next : Next
call_next = record { effect = Some Call; fault = None }

-- the call is of this number, and made outside each sequence; it is another one, or made inside
abbrev pub IsOutsideCall : ℕ → Parts → ℕ → Type 0
IsOutsideCall number mine h =
    (v : Stand) (t : ℕ) → IsPlace v mine h → runs (here_at v h) ≡ Some t
    → (is_inside_here (here_at v h) t ≡ false) × (call_number (here_at v h) t ≡ number)

abbrev pub IsOwnOrInside : Parts → ℕ → Type 0
IsOwnOrInside mine h =
    (v : Stand) (t : ℕ) → IsPlace v mine h → runs (here_at v h) ≡ Some t
    → (is_inside_here (here_at v h) t ≡ true)
    ⊎ ((is_inside_here (here_at v h) t ≡ false) × (call_number (here_at v h) t ≢ 283) × (call_number (here_at v h) t ≢ 293))

-- WHERE A PROCESS ENDED

-- the first so many harts of a process that ended hold nothing
abbrev pub emptied : ℕ → Plain → Plain
emptied n x = record x {
  waiting = λ k. if nat_lt k n then [] else x.waiting k;
  reserved = λ k. if nat_lt k n then None else x.reserved k;
  awaits = λ k. if nat_lt k n then None else x.awaits k;
}

-- and what waited there has entered memory: so the process, the other one, and the segment are kept
pub record AreEmptied (s : PairSetting) (p : Bool) (n : ℕ) (x y : Plain) (shared : ℕ → ℕ) (mine' other' : Parts) (segment' : List ℕ) : Type 0 where
  pub own : IsTied (setting s p) (record (emptied n x) { byte = λ a. written (all_stored (waiting_below x n)) a (x.byte a) }) mine'
  pub beside : IsTied (setting s (not p)) (record y { reserved = λ k. lost_after (filter is_shared (all_stored (waiting_below x n))) (y.reserved k) }) other'
  pub holds : HoldsShared (λ a. written (filter is_shared (all_stored (waiting_below x n))) a (shared a)) segment'
