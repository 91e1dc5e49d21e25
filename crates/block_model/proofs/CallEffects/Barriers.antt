-- membarrier(2): its answer is one at once, or its barrier is about other harts of the machine. So it is beside another process.
use Rattle.block_model.proofs.Common.{◌≡◌, ◌≢◌, ◌⊎◌, inl, inr, ℕ, ℤ, pos, ◌+◌, ◌-◌, ◌*◌, ◌%◌, ◌^◌, ◌<◌, ◌≤◌, [], Bool, true, false, not, cond, eqb, ltb, ◌&&◌, ◌||◌, Option, Some, None, is_some, refl, sym, ap, ◌∙◌, subst, arith, CallDone, EINVAL, EPERM, Errno, Here, IsError, IsGoodHere, Neighbour, Registered, Threads, and_parts, argument, eqb-false, eqb_same, false≢true, for_barriers, has_hart, has_hart-harts_that, int_argument, ltb-true, mod-lt, negative, option_map_or, or_cases, running_on, said}
use Rattle.std.specs.Int.{w32, cast_unsigned}
use Rattle.std.specs.Ordering.{int_eq}
use Rattle.std.specs.Prelude.{neg_ℤ}
use Rattle.std.proofs.lemmas.Bool.Decides.{Decides-int_eq}
use Rattle.std.proofs.lemmas.Int.{of_z-to_z}
use Rattle.std.proofs.lemmas.Nat.{mod-mul-add}
use Rattle.mach_types.specs.Kernel.Barriers.{answer_of, asked, barrier_at, counted_if, is_about, is_asked, is_target, number_of, offered, query_value, refusal, registered_after, registered_by, registrations, takes_flags, targets}
use Rattle.mach_types.specs.declared.barriers.Answer.{Answer}
use Rattle.mach_types.specs.declared.barriers.Answer.TheVariants.{Value}
use Rattle.mach_types.specs.declared.barriers.BarrierCommand.{BarrierCommand}
use Rattle.mach_types.specs.declared.barriers.BarrierCommand.TheVariants.{Query, Global, GlobalExpedited, RegisterGlobalExpedited, PrivateExpedited, RegisterPrivateExpedited, PrivateExpeditedRseq, RegisterPrivateExpeditedRseq, GetRegistrations}
use Rattle.rv_inst.specs.Words.{signed_32, word}
use Rattle.block_model.specs.Calls.Barriers.{answers, running_harts}
use Rattle.block_model.specs.Calls.Beside.{barrier_call}
use Rattle.mach_types.specs.Kernel.PairBarriers.{answer_beside, concerned, is_concerned}
use Rattle.block_model.proofs.Barriers.Events.{IsAtOthers, RunsOn}
use Rattle.block_model.proofs.HartSets.{some_hart}
use Rattle.block_model.proofs.CallEffects.{CallDeed, Answers, Begins, EnrolsFor, Says, small_no_error}
use Rattle.block_model.proofs.KernelTables.{found_passes}

-- a thread runs on each hart that is in the set of those
runs_there : (ts : Threads) (harts k : ℕ) → has_hart (running_harts ts harts) k ≡ true
    → running_on k ts ≢ None
runs_there ts harts k is none =
    let all = sym (has_hart-harts_that (λ h. is_some (running_on h ts)) harts k) ∙ is in
    let some = (and_parts (is_some (running_on k ts)) (ltb k harts) all).0 in
    absurd (false≢true (sym (ap (λ (o : Option ℕ). is_some o) none) ∙ some))

-- one of two processes runs a thread on a hart that a command is about
either_part : (a b c d : Bool) → (a && b || c && d) ≡ true → (b ≡ true) ⊎ (d ≡ true)
either_part true true c d is = inl refl
either_part true false false d is = cc
either_part false b false d is = cc
either_part a b c d is = inr is

concerns_running : (c : BarrierCommand) (mine other : Registered) (own others : Bool) → is_concerned c mine other own others ≡ true
    → (own ≡ true) ⊎ (others ≡ true)
concerns_running Global mine other own others is = or_cases own others is
concerns_running GlobalExpedited mine other own others is = either_part mine.global own other.global others is
concerns_running PrivateExpedited mine other own others is = inl is
concerns_running PrivateExpeditedRseq mine other own others is = inl is
concerns_running c mine other own others is = cc

module _ (c : BarrierCommand) (mine : Registered) (o : Neighbour) (ts : Threads) (harts k : ℕ) where
  abbrev concerns : ℕ → Bool
  concerns h = is_concerned c mine o.registered (has_hart (running_harts ts harts) h) (has_hart o.running h)

  runs_concerned : has_hart (concerned c mine o.registered (running_harts ts harts) o.running harts) k ≡ true → RunsOn (Some o) ts k
  runs_concerned is = one_of (concerns_running c mine o.registered (has_hart (running_harts ts harts) k) (has_hart o.running k) both.0)
    where
      both : (concerns k ≡ true) × (ltb k harts ≡ true)
      both = and_parts (concerns k) (ltb k harts) (sym (has_hart-harts_that concerns harts k) ∙ is)

      one_of : (has_hart (running_harts ts harts) k ≡ true) ⊎ (has_hart o.running k ≡ true) → RunsOn (Some o) ts k
      one_of (inl own) = inl (runs_there ts harts k own)
      one_of (inr other) = inr other

-- a target is another hart of the machine, and in the set of those on which threads run
module _ (flags : ℕ) (cpu : ℤ) (here running harts k : ℕ)
    (is : has_hart (targets flags cpu here running harts) k ≡ true) where
  in_both : (is_target flags cpu here running k ≡ true) × (ltb k harts ≡ true)
  in_both =
      and_parts (is_target flags cpu here running k) (ltb k harts)
      (sym (has_hart-harts_that (is_target flags cpu here running) harts k) ∙ is)

  runs_apart : (has_hart running k ≡ true) × (not (eqb k here) ≡ true)
  runs_apart =
      let first = and_parts (has_hart running k && not (eqb k here)) (is_about flags cpu k) in_both.0 in
      and_parts (has_hart running k) (not (eqb k here)) first.0

  target_runs : has_hart running k ≡ true
  target_runs = runs_apart.0

  target_apart : k ≢ here
  target_apart same =
      let own : eqb k here ≡ true = ap (λ h. eqb k h) (sym same) ∙ eqb_same k in
      let bad : false ≡ true = sym (ap not own) ∙ runs_apart.1 in
      absurd cc

  target_below : k < harts
  target_below = ltb-true k harts in_both.1

at_targets : (here : Here) (flags : ℕ) (cpu : ℤ) (running set : ℕ) (restart : Bool) → IsGoodHere here
    → ((k : ℕ) → has_hart running k ≡ true → RunsOn here.beside here.kernel.threads k)
    → set ≡ targets flags cpu here.hart running here.setting.limits.harts → set ≢ 0
    → IsAtOthers here (record { targets = set; restart = restart })
at_targets here flags cpu running set restart good runs is some =
    let harts = here.setting.limits.harts in
    let in_targets = λ (k : ℕ) (has : has_hart set k ≡ true). ap (λ n. has_hart n k) (sym is) ∙ has in
    record {
      several =
          let one = some_hart set some in
          let apart = target_apart flags cpu here.hart running harts one.0 (in_targets one.0 one.1) in
          let below = target_below flags cpu here.hart running harts one.0 (in_targets one.0 one.1) in
          let low = good.lt in
          omega arith;
      apart = λ k has. target_apart flags cpu here.hart running harts k (in_targets k has);
      below = λ k has. target_below flags cpu here.hart running harts k (in_targets k has);
      ran = λ k has. runs k (target_runs flags cpu here.hart running harts k (in_targets k has));
    }

-- the command that a call asks for is the low 32 bits of a0
asked_number : (cmd : ℤ) (flags : ℕ) (c : BarrierCommand) → asked cmd flags ≡ Some c → cmd ≡ pos (number_of c)
unfolding asked
asked_number cmd flags c is =
    let passes = found_passes (is_asked cmd flags) offered c is in
    (Decides-int_eq cmd (pos (number_of c))).0
    (and_parts (int_eq cmd (pos (number_of c))) (takes_flags flags c) passes).0

low_number : (v n : ℕ) → signed_32 v ≡ pos n → v % 2 ^ 32 ≡ n
low_number v n is = sym (of_z-to_z w32 (v % 2 ^ 32) (mod-lt v (omega arith))) ∙ ap (cast_unsigned w32) is

number_low : (c : BarrierCommand) → number_of c < 2 ^ 10
number_low Query = omega arith
number_low c = omega arith

-- so where a barrier begins, a0 is no error: the low 32 bits of an error are more than each command
error_low : (errno : ℕ) → 1 ≤ errno → errno ≤ 4095 → negative errno % 2 ^ 32 ≡ 2 ^ 32 - errno
error_low errno least most =
    let split : negative errno ≡ (2 ^ 32 - 1) * 2 ^ 32 + (2 ^ 32 - errno) = omega arith in
    ap (λ n. n % 2 ^ 32) split ∙ mod-mul-add (2 ^ 32 - 1) (2 ^ 32) (2 ^ 32 - errno) (omega arith)

not_so_low : (n errno : ℕ) → errno ≤ 4095 → n < 2 ^ 10 → n ≢ 2 ^ 32 - errno
not_so_low n errno most low same = omega arith

number_no_error : (v n : ℕ) → v % 2 ^ 32 ≡ n → n < 2 ^ 10 → IsError v → ⊥
number_no_error v n is low error =
    not_so_low n error.errno error.most low
    (sym is ∙ ap (λ m. m % 2 ^ 32) error.is ∙ error_low error.errno error.least error.most)

counted_low : (b : Bool) (c : BarrierCommand) → counted_if b c < 2 ^ 10
counted_low true c = number_low c
counted_low false c = omega arith

registrations_low : (r : Registered) → registrations r < 2 ^ 32
registrations_low r =
    let one = counted_low r.global RegisterGlobalExpedited in
    let two = counted_low r.private RegisterPrivateExpedited in
    let three = counted_low r.rseq RegisterPrivateExpeditedRseq in
    omega (arith, one, two, three)

module _ (here : Here) (t number : ℕ) (its_number : number ≡ 283) where
  abbrev cmd : ℤ
  cmd = signed_32 (argument here t 0)

  abbrev flags : ℕ
  flags = int_argument here t 1

  abbrev barriers_after : Registered
  barriers_after = registered_after here.kernel.barriers cmd flags

  abbrev cpu : ℤ
  cpu = signed_32 (argument here t 2)

  abbrev harts : ℕ
  harts = here.setting.limits.harts

  -- the harts on which threads of the process run
  abbrev own_running : ℕ
  own_running = running_harts here.kernel.threads harts

  -- the targets, of harts on each of which a thread runs
  abbrev set : ℕ → ℕ
  set running = targets flags cpu here.hart running harts

  abbrev AllRun : ℕ → Type 0
  AllRun running = (k : ℕ) → has_hart running k ≡ true → RunsOn here.beside here.kernel.threads k

  either_answer : (b : Bool) (x y : Answer) → (b ≡ true → CallDeed here t number (answers here t x))
      → (b ≡ false → CallDeed here t number (answers here t y))
      → CallDeed here t number (answers here t (cond b x y))
  either_answer true x y p q = p refl
  either_answer false x y p q = q refl

  -- a small answer, a refusal, and a barrier that begins
  deed_value : (n : ℕ) → n < 2 ^ 32 → CallDeed here t number (answers here t (Value (pos n)))
  deed_value n small = Answers n [] _ (λ _. small_no_error n small) tt (EnrolsFor barriers_after)

  deed_refusal : (e : Errno) → word (neg_ℤ (pos e.0)) ≡ negative e.0 → barriers_after ≡ here.kernel.barriers
      → CallDeed here t number (answers here t (refusal e))
  deed_refusal e is same =
      let barriers = λ (r : Registered). record
      (said here t (word (neg_ℤ (pos e.0)))) { kernel = for_barriers r here.kernel } in
      subst (λ (c : CallDone). CallDeed here t number c) (sym (ap barriers same)) (Says _)

  -- the command of a refusal registers nothing
  kept : (c : BarrierCommand) → asked cmd flags ≡ Some c
      → registered_by here.kernel.barriers c ≡ here.kernel.barriers → barriers_after ≡ here.kernel.barriers
  kept c is same = ap (λ o. option_map_or (registered_by here.kernel.barriers) o here.kernel.barriers) is
      ∙ same

  deed_barrier : (running : ℕ) → AllRun running → (c : BarrierCommand) (restart : Bool)
      → asked cmd flags ≡ Some c → CallDeed here t number (answers here t (barrier_at (set running) restart))
  deed_barrier running run c restart is =
      either_answer (eqb (set running) 0) _ _ (λ _. deed_value 0 (omega arith)) (λ some.
      let low = low_number (argument here t 0) (number_of c) (asked_number cmd flags c is) in
      Begins (set running) restart (λ good. at_targets here flags cpu running (set running) restart good run refl
      (eqb-false (set running) 0 some))
      (number_no_error (argument here t 0) (number_of c) low (number_low c)) its_number)

  deed_command : (running : ℕ) → AllRun running → (c : BarrierCommand) → asked cmd flags ≡ Some c
      → CallDeed here t number (answers here t (answer_of here.kernel.barriers (set running) c))
  deed_command running run Query is = deed_value query_value (omega arith)
  deed_command running run Global is = deed_barrier running run Global false is
  deed_command running run GlobalExpedited is =
      either_answer here.kernel.barriers.global _ _ (λ _. deed_barrier running run GlobalExpedited false is)
      (λ _. deed_value 0 (omega arith))
  deed_command running run PrivateExpedited is =
      either_answer here.kernel.barriers.private _ _
      (λ _. deed_barrier running run PrivateExpedited false is)
      (λ _. deed_refusal EPERM refl (kept PrivateExpedited is refl))
  deed_command running run PrivateExpeditedRseq is =
      either_answer here.kernel.barriers.rseq _ _
      (λ _. deed_barrier running run PrivateExpeditedRseq true is)
      (λ _. deed_refusal EPERM refl (kept PrivateExpeditedRseq is refl))
  deed_command running run GetRegistrations is =
      deed_value (registrations here.kernel.barriers) (registrations_low here.kernel.barriers)
  deed_command running run other is = deed_value 0 (omega arith)

  -- no command has the number, or none takes the flags
  deed_unknown : asked cmd flags ≡ None → CallDeed here t number (answers here t (refusal EINVAL))
  deed_unknown is =
      deed_refusal EINVAL refl
      (ap (λ o. option_map_or (registered_by here.kernel.barriers) o here.kernel.barriers) is)

  deed_found : AllRun own_running → (o : Option BarrierCommand) → asked cmd flags ≡ o
      → CallDeed here t number
      (answers here t (option_map_or (answer_of here.kernel.barriers (set own_running)) o (refusal EINVAL)))
  deed_found run None is = deed_unknown is
  deed_found run (Some c) is = deed_command own_running run c is

  -- beside another process GLOBAL_EXPEDITED alone answers otherwise
  deed_command_beside : (running : ℕ) → AllRun running → (c : BarrierCommand) → asked cmd flags ≡ Some c
      → CallDeed here t number (answers here t (answer_beside here.kernel.barriers (set running) c))
  deed_command_beside running run GlobalExpedited is = deed_barrier running run GlobalExpedited false is
  deed_command_beside running run c is = deed_command running run c is

  module _ (other : Neighbour) (there : here.beside ≡ Some other) where
    abbrev about : BarrierCommand → ℕ
    about c = concerned c here.kernel.barriers other.registered own_running other.running harts

    all_run : (c : BarrierCommand) → AllRun (about c)
    all_run c k has =
        subst (λ (o : Option Neighbour). RunsOn o here.kernel.threads k) (sym there)
        (runs_concerned c here.kernel.barriers other here.kernel.threads harts k has)

    deed_found_beside : (o : Option BarrierCommand) → asked cmd flags ≡ o
        → CallDeed here t number
        (answers here t
        (option_map_or (λ c. answer_beside here.kernel.barriers (set (about c)) c) o (refusal EINVAL)))
    deed_found_beside None is = deed_unknown is
    deed_found_beside (Some c) is = deed_command_beside (about c) (all_run c) c is

  pub deed_barrier_call : (o : Option Neighbour) → here.beside ≡ o → CallDeed here t number (barrier_call o here t)
  deed_barrier_call None alone =
      deed_found
      (λ k has. subst (λ (o : Option Neighbour). RunsOn o here.kernel.threads k) (sym alone)
      (runs_there here.kernel.threads harts k has))
      (asked cmd flags) refl
  deed_barrier_call (Some other) there = deed_found_beside other there (asked cmd flags) refl
