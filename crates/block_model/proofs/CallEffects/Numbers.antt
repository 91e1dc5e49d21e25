-- getpid(2), getppid(2), getuid(2), getgid(2), gettid(2) and set_tid_address(2).
use Rattle.block_model.proofs.Common.{ℕ, [], Here, argument, clear_if, keeps_clear}
use Rattle.block_model.specs.Calls.Numbers.{getegid, geteuid, getgid, getpid, getppid, gettid, getuid, set_tid_address}
use Rattle.block_model.proofs.CallEffects.{CallDeed, Answers, ChangesRows, Says, small_no_error}

module _ (here : Here) (t number : ℕ) where
  pub deed_getpid : CallDeed here t number (getpid here t)
  deed_getpid = Says 1

  pub deed_getppid : CallDeed here t number (getppid here t)
  deed_getppid = Says 1

  pub deed_getuid : CallDeed here t number (getuid here t)
  deed_getuid = Says 0

  pub deed_geteuid : CallDeed here t number (geteuid here t)
  deed_geteuid = Says 0

  pub deed_getgid : CallDeed here t number (getgid here t)
  deed_getgid = Says 0

  pub deed_getegid : CallDeed here t number (getegid here t)
  deed_getegid = Says 0

  pub deed_gettid : CallDeed here t number (gettid here t)
  deed_gettid = Says t

  pub deed_set_tid_address : CallDeed here t number (set_tid_address here t)
  deed_set_tid_address = Answers t [] _ (λ few. small_no_error t few.low) tt (ChangesRows (clear_if t (argument here t 0)) (keeps_clear t (argument here t 0)))
