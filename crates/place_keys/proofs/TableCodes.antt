-- The words of the kernel's tables tell the tables.
use Rattle.std.proofs.Common.{◌≡◌, ℕ, Bool, List, [], ◌∷◌, ◌++◌, Option, None, refl, sym, ap, ◌∙◌, zero, suc}
use Rattle.mach_types.specs.declared.barriers.Registered.{Registered}
use Rattle.mach_types.specs.declared.events.Hart.{Hart}
use Rattle.mach_types.specs.declared.limits.End.{End}
use Rattle.mach_types.specs.declared.limits.End.TheVariants.{Exit, Killed, Stuck, Limit, Unended}
use Rattle.mach_types.specs.declared.sequences.Area.{Area}
use Rattle.mach_types.specs.declared.signal_words.Action.{Action}
use Rattle.mach_types.specs.declared.signal_words.Fault.{Fault}
use Rattle.mach_types.specs.declared.signal_words.ThreadSignals.{ThreadSignals}
use Rattle.mach_types.specs.declared.threads.Saved.{Saved}
use Rattle.mach_types.specs.declared.threads.ThreadState.{ThreadState}
use Rattle.mach_types.specs.declared.threads.ThreadState.TheVariants.{Ready, Running, Waiting}
use Rattle.mach_types.specs.Kernel.Scheduling.{Scheduling}
use Rattle.mach_types.specs.Kernel.Signals.{Signalling}
use Rattle.mach_types.specs.Kernel.Threads.{Thread, Threads}
use Rattle.kernel_threads.specs.Table.{Table}
use Rattle.place_keys.specs.TableWords.{action_words, area_words, end_words, fault_words, file_words, mask_words, pair_words, ready_words, registered_words, saved_words, signals_words, state_words, thread_words, threads_words}
use Rattle.place_keys.specs.Differences.{sparse_words}
use Rattle.place_keys.specs.Words.{of_bool, of_each, of_list, of_option, word}
use Rattle.place_keys.proofs.Codes.{IsKey, after, bool_key, option_key, whole_key, word_key}
use Rattle.place_keys.proofs.DifferenceCodes.{sparse_key}

-- what is put together of equal parts is equal
two : {A B C : Type 0} (f : A → B → C) (a b : A) (c d : B) → a ≡ b → c ≡ d → f a c ≡ f b d
two f a b c d p q = ap (λ x. f x c) p ∙ ap (f b) q

three : {A B C D : Type 0} (f : A → B → C → D) (a b : A) (c d : B) (e g : C) → a ≡ b → c ≡ d → e ≡ g → f a c e ≡ f b d g
three f a b c d e g p q r = ap (λ x. f x c e) p ∙ two (f b) c d e g q r

state_key : IsKey (λ (st : ThreadState). st) state_words
state_key Ready Ready x y e = (refl, cc)
state_key Ready (Running h) x y e = let no : ⊥ = cc in absurd no
state_key Ready (Waiting at) x y e = let no : ⊥ = cc in absurd no
state_key (Running h) Ready x y e = let no : ⊥ = cc in absurd no
state_key (Running h) (Running k) x y e = let same : h.0 ≡ k.0 = cc in (ap (λ n. Running (let z : Hart = record { 0 = n } in z)) same, cc)
state_key (Running h) (Waiting at) x y e = let no : ⊥ = cc in absurd no
state_key (Waiting at) Ready x y e = let no : ⊥ = cc in absurd no
state_key (Waiting at) (Running h) x y e = let no : ⊥ = cc in absurd no
state_key (Waiting at) (Waiting to) x y e = let same : at ≡ to = cc in (ap Waiting same, cc)

thread_key : IsKey (λ (th : Thread). th) thread_words
thread_key a b x y e =
    let tid = after (λ n. n) word word_key a.tid b.tid (state_words a.state ++ word a.clear_at) (state_words b.state ++ word b.clear_at) x y e in
    let state = after (λ z. z) state_words state_key a.state b.state (word a.clear_at) (word b.clear_at) x y tid.1 in
    let clear = word_key a.clear_at b.clear_at x y state.1 in
    (three make a.tid b.tid a.state b.state a.clear_at b.clear_at tid.0 state.0 clear.0, clear.1)
  where
    make : ℕ → ThreadState → ℕ → Thread
    make t st at = record { tid = t; state = st; clear_at = at }

file_key : IsKey (λ (x : Saved). x) file_words
file_key a b x y e =
    let file = after (λ z. z) sparse_words sparse_key a.file.x b.file.x (word a.pc) (word b.pc) x y e in
    let pc = word_key a.pc b.pc x y file.1 in
    (two make a.file.x b.file.x a.pc b.pc file.0 pc.0, pc.1)
  where
    make : List ℕ → ℕ → Saved
    make xs n = record { file = record { x = xs }; pc = n }

saved_key : IsKey (λ (pair : ℕ × Option Saved). pair) saved_words
saved_key a b x y e =
    let tid = after (λ n. n) word word_key a.0 b.0 (of_option file_words a.1) (of_option file_words b.1) x y e in
    let kept = option_key file_words file_key a.1 b.1 x y tid.1 in
    (two make a.0 b.0 a.1 b.1 tid.0 kept.0, kept.1)
  where
    make : ℕ → Option Saved → ℕ × Option Saved
    make n o = (n, o)

pub threads_key : IsKey (λ (t : Table). t) threads_words
threads_key a b x y e =
    let live = after (λ z. z) (of_list thread_words) (whole_key thread_words thread_key) a.threads.live b.threads.live
    (of_list saved_words a.saved ++ (word a.threads.given ++ of_list word a.threads.waiters)) (of_list saved_words b.saved ++ (word b.threads.given ++ of_list word b.threads.waiters)) x y e in
    let saved = after (λ z. z) (of_list saved_words) (whole_key saved_words saved_key) a.saved b.saved
    (word a.threads.given ++ of_list word a.threads.waiters) (word b.threads.given ++ of_list word b.threads.waiters) x y live.1 in
    let given = after (λ n. n) word word_key a.threads.given b.threads.given (of_list word a.threads.waiters) (of_list word b.threads.waiters) x y saved.1 in
    let waiters = whole_key word word_key a.threads.waiters b.threads.waiters x y given.1 in (
      two table a.threads b.threads a.saved b.saved
          (three make a.threads.live b.threads.live a.threads.given b.threads.given a.threads.waiters b.threads.waiters live.0 given.0 waiters.0) saved.0,
      waiters.1,
    )
  where
    make : List Thread → ℕ → List ℕ → Threads
    make live given waiters = record { live = live; given = given; waiters = waiters }

    table : Threads → List (ℕ × Option Saved) → Table
    table ts saved = record { threads = ts; saved = saved }

pair_key : IsKey (λ (pair : ℕ × ℕ). pair) pair_words
pair_key a b x y e =
    let first : a.0 ≡ b.0 = cc in
    let second : a.1 ≡ b.1 = cc in
    (two make a.0 b.0 a.1 b.1 first second, cc)
  where
    make : ℕ → ℕ → ℕ × ℕ
    make n m = (n, m)

pub ready_key : IsKey (λ (s : Scheduling). s) ready_words
ready_key a b x y e =
    let order = after (λ z. z) (of_list word) (whole_key word word_key) a.order b.order (of_list pair_words a.affinities) (of_list pair_words b.affinities) x y e in
    let sets = whole_key pair_words pair_key a.affinities b.affinities x y order.1 in
    (two make a.order b.order a.affinities b.affinities order.0 sets.0, sets.1)
  where
    make : List ℕ → List (ℕ × ℕ) → Scheduling
    make order sets = record { order = order; affinities = sets }

action_key : IsKey (λ (a : Action). a) action_words
action_key a b x y e =
    let at : a.at ≡ b.at = cc in
    let flags : a.flags ≡ b.flags = cc in
    let mask : a.mask ≡ b.mask = cc in
    (three make a.at b.at a.flags b.flags a.mask b.mask at flags mask, cc)
  where
    make : ℕ → ℕ → ℕ → Action
    make at flags mask = record { at = at; flags = flags; mask = mask }

-- the numbers of actions tell them
same_actions : (xs ys : List Action) → of_each action_words xs ≡ of_each action_words ys → xs ≡ ys
same_actions [] [] e = refl
same_actions [] (b ∷ ys) e = let no : ⊥ = cc in absurd no
same_actions (a ∷ xs) [] e = let no : ⊥ = cc in absurd no
same_actions (a ∷ xs) (b ∷ ys) e =
    let p = action_key a b (of_each action_words xs) (of_each action_words ys) e in
    let first : a ≡ b = p.0 in
    let others : xs ≡ ys = same_actions xs ys p.1 in
    cc

fault_key : IsKey (λ (f : Fault). f) fault_words
fault_key a b x y e =
    let signal : a.signal ≡ b.signal = cc in
    let code : a.code ≡ b.code = cc in
    let address : a.address ≡ b.address = cc in
    (three make a.signal b.signal a.code b.code a.address b.address signal code address, cc)
  where
    make : ℕ → ℕ → ℕ → Fault
    make signal code address = record { signal = signal; code = code; address = address }

mask_key : IsKey (λ (th : ThreadSignals). th) mask_words
mask_key a b x y e =
    let tid : a.tid ≡ b.tid = cc in
    let mask : a.mask ≡ b.mask = cc in
    let pending : a.pending ≡ b.pending = cc in
    let rest : of_option fault_words a.fault ++ x ≡ of_option fault_words b.fault ++ y = cc in
    let fault = option_key fault_words fault_key a.fault b.fault x y rest in (
      two with_said (make a.tid a.mask a.pending) (make b.tid b.mask b.pending) a.fault b.fault
          (three make a.tid b.tid a.mask b.mask a.pending b.pending tid mask pending) fault.0,
      fault.1,
    )
  where
    make : ℕ → ℕ → ℕ → ThreadSignals
    make tid mask pending = record { tid = tid; mask = mask; pending = pending; fault = None }

    with_said : ThreadSignals → Option Fault → ThreadSignals
    with_said th o = record th { fault = o }

pub signals_key : IsKey (λ (g : Signalling). g) signals_words
signals_key a b x y e =
    let numbers = after (λ z. z) sparse_words sparse_key (of_each action_words a.actions) (of_each action_words b.actions) (of_list mask_words a.threads) (of_list mask_words b.threads) x y e in
    let actions : a.actions ≡ b.actions = same_actions a.actions b.actions numbers.0 in
    let masks = whole_key mask_words mask_key a.threads b.threads x y numbers.1 in
    (two make a.actions b.actions a.threads b.threads actions masks.0, masks.1)
  where
    make : List Action → List ThreadSignals → Signalling
    make actions threads = record { actions = actions; threads = threads }

area_key : IsKey (λ (pair : ℕ × Area). pair) area_words
area_key a b x y e =
    let tid : a.0 ≡ b.0 = cc in
    let at : a.1.at ≡ b.1.at = cc in
    let sig : a.1.sig ≡ b.1.sig = cc in
    (three make a.0 b.0 a.1.at b.1.at a.1.sig b.1.sig tid at sig, cc)
  where
    make : ℕ → ℕ → ℕ → ℕ × Area
    make n at sig = (n, record { at = at; sig = sig })

pub areas_key : IsKey (λ (xs : List (ℕ × Area)). xs) (of_list area_words)
areas_key = whole_key area_words area_key

pub registered_key : IsKey (λ (r : Registered). r) registered_words
registered_key a b x y e =
    let global = after (λ z. z) of_bool bool_key a.global b.global (of_bool a.private ++ of_bool a.rseq) (of_bool b.private ++ of_bool b.rseq) x y e in
    let private = after (λ z. z) of_bool bool_key a.private b.private (of_bool a.rseq) (of_bool b.rseq) x y global.1 in
    let rseq = bool_key a.rseq b.rseq x y private.1 in
    (three make a.global b.global a.private b.private a.rseq b.rseq global.0 private.0 rseq.0, rseq.1)
  where
    make : Bool → Bool → Bool → Registered
    make global private rseq = record { global = global; private = private; rseq = rseq }

-- how a run ended, as its kind and a number
kind_of : End → ℕ
kind_of (Exit n) = 0
kind_of (Killed n) = 1
kind_of Stuck = 2
kind_of Limit = 3
kind_of Unended = 4

number_of : End → ℕ
number_of (Exit n) = n
number_of (Killed n) = n
number_of Stuck = 0
number_of Limit = 0
number_of Unended = 0

back : ℕ → ℕ → End
back zero n = Exit n
back (suc zero) n = Killed n
back (suc (suc zero)) n = Stuck
back (suc (suc (suc zero))) n = Limit
back (suc (suc (suc (suc k)))) n = Unended

backed : (e : End) → back (kind_of e) (number_of e) ≡ e
unfolding back kind_of number_of
backed (Exit n) = refl
backed (Killed n) = refl
backed Stuck = refl
backed Limit = refl
backed Unended = refl

as_two : (e : End) → end_words e ≡ kind_of e ∷ number_of e ∷ []
unfolding kind_of number_of
as_two (Exit n) = refl
as_two (Killed n) = refl
as_two Stuck = refl
as_two Limit = refl
as_two Unended = refl

pub end_key : IsKey (λ (e : End). e) end_words
end_key a b x y e =
    let d : (kind_of a ∷ number_of a ∷ []) ++ x ≡ (kind_of b ∷ number_of b ∷ []) ++ y = sym (ap (λ ws. ws ++ x) (as_two a)) ∙ e ∙ ap (λ ws. ws ++ y) (as_two b) in
    let kind : kind_of a ≡ kind_of b = cc in
    let number : number_of a ≡ number_of b = cc in
    (sym (backed a) ∙ two back (kind_of a) (kind_of b) (number_of a) (number_of b) kind number ∙ backed b, cc)
