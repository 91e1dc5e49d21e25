-- Each call of the table is one of the deeds.
use Rattle.block_model.proofs.Common.{◌≡◌, ◌≢◌, ℕ, eqb, refl, sym, subst, true, None, CallDone, Here, call_number, called, eqb-true}
use Rattle.block_model.specs.Calls.{asking_call_of, call_of, own_call_of}
use Rattle.block_model.proofs.CallEffects.{Begins, CallDeed, Says, either}
use Rattle.block_model.proofs.CallEffects.Affinity.{deed_getaffinity, deed_getcpu, deed_setaffinity, deed_yield}
use Rattle.block_model.proofs.CallEffects.Barriers.{deed_barrier_call}
use Rattle.block_model.proofs.CallEffects.Cloning.{deed_clone}
use Rattle.block_model.proofs.CallEffects.Console.{deed_write, deed_writev}
use Rattle.block_model.proofs.CallEffects.Ending.{deed_exit, deed_exit_group}
use Rattle.block_model.proofs.CallEffects.Futexes.{deed_futex}
use Rattle.block_model.proofs.CallEffects.Limits.{deed_prlimit}
use Rattle.block_model.proofs.CallEffects.Memory.{deed_brk, deed_madvise, deed_mmap, deed_mprotect, deed_munmap}
use Rattle.block_model.proofs.CallEffects.Numbers.{deed_getegid, deed_geteuid, deed_getgid, deed_getpid, deed_getppid, deed_gettid, deed_getuid, deed_set_tid_address}
use Rattle.block_model.proofs.CallEffects.Policies.{deed_getparam, deed_getscheduler, deed_priority_max, deed_priority_min}
use Rattle.block_model.proofs.CallEffects.Random.{deed_getrandom}
use Rattle.block_model.proofs.CallEffects.Sequences.{deed_sequence_call}
use Rattle.block_model.proofs.CallEffects.Signals.{deed_sigaction, deed_sigpending, deed_sigprocmask, deed_sigreturn, deed_tgkill, deed_tkill}
use Rattle.block_model.proofs.CallEffects.System.{deed_uname}
use Rattle.block_model.proofs.CallEffects.Terminal.{deed_fstat, deed_ioctl}

-- a call that takes pages, or goes on from a frame, by its number
at_number : (here : Here) (t number k : ℕ) (c : CallDone) → eqb number k ≡ true → CallDeed here t k c
    → CallDeed here t number c
at_number here t number k c is deed = subst (λ n. CallDeed here t n c) (sym (eqb-true number k is)) deed

deed_asking_call : (here : Here) (t number : ℕ) → CallDeed here t number (asking_call_of number here t)
deed_asking_call here t number =
    either (eqb number 29) (λ _. deed_ioctl here t number) (λ _.
    either (eqb number 80) (λ _. deed_fstat here t number) (λ _.
    either (eqb number 120) (λ _. deed_getscheduler here t number) (λ _.
    either (eqb number 121) (λ _. deed_getparam here t number) (λ _.
    either (eqb number 125) (λ _. deed_priority_max here t number) (λ _.
    either (eqb number 126) (λ _. deed_priority_min here t number) (λ _.
    either (eqb number 136) (λ _. deed_sigpending here t number) (λ _.
    either (eqb number 160) (λ _. deed_uname here t number) (λ _.
    either (eqb number 173) (λ _. deed_getppid here t number) (λ _.
    either (eqb number 174) (λ _. deed_getuid here t number) (λ _.
    either (eqb number 175) (λ _. deed_geteuid here t number) (λ _.
    either (eqb number 176) (λ _. deed_getgid here t number) (λ _.
    either (eqb number 177) (λ _. deed_getegid here t number) (λ _.
    either (eqb number 261) (λ _. deed_prlimit here t number) (λ _.
    Says _))))))))))))))

deed_own_call : (here : Here) (t number : ℕ) → CallDeed here t number (own_call_of number here t)
deed_own_call here t number =
    either (eqb number 64) (λ _. deed_write here t number) (λ _.
    either (eqb number 66) (λ _. deed_writev here t number) (λ _.
    either (eqb number 93) (λ _. deed_exit here t number) (λ _.
    either (eqb number 94) (λ _. deed_exit_group here t number) (λ _.
    either (eqb number 96) (λ _. deed_set_tid_address here t number) (λ _.
    either (eqb number 98) (λ is. deed_futex here t number (eqb-true number 98 is)) (λ _.
    either (eqb number 122) (λ _. deed_setaffinity here t number) (λ _.
    either (eqb number 123) (λ _. deed_getaffinity here t number) (λ _.
    either (eqb number 124) (λ _. deed_yield here t number) (λ _.
    either (eqb number 130) (λ _. deed_tkill here t number) (λ _.
    either (eqb number 131) (λ _. deed_tgkill here t number) (λ _.
    either (eqb number 134) (λ _. deed_sigaction here t number) (λ _.
    either (eqb number 135) (λ _. deed_sigprocmask here t number) (λ _.
    either (eqb number 139) (λ is. at_number here t number 139 _ is (deed_sigreturn here t)) (λ _.
    either (eqb number 168) (λ _. deed_getcpu here t number) (λ _.
    either (eqb number 172) (λ _. deed_getpid here t number) (λ _.
    either (eqb number 178) (λ _. deed_gettid here t number) (λ _.
    either (eqb number 214) (λ is. at_number here t number 214 _ is (deed_brk here t)) (λ _.
    either (eqb number 215) (λ is. at_number here t number 215 _ is (deed_munmap here t)) (λ _.
    either (eqb number 220) (λ is. deed_clone here t number (eqb-true number 220 is)) (λ _.
    either (eqb number 222) (λ is. at_number here t number 222 _ is (deed_mmap here t)) (λ _.
    either (eqb number 226) (λ is. at_number here t number 226 _ is (deed_mprotect here t)) (λ _.
    either (eqb number 233) (λ _. deed_madvise here t number) (λ _.
    either (eqb number 278) (λ _. deed_getrandom here t number) (λ _.
    deed_asking_call here t number))))))))))))))))))))))))

deed_call_of : (here : Here) (t number : ℕ) → CallDeed here t number (call_of number here t)
deed_call_of here t number =
    either (eqb number 283) (λ is. deed_barrier_call here t number (eqb-true number 283 is) here.beside refl) (λ _.
    either (eqb number 293) (λ _. deed_sequence_call here t number here.beside refl) (λ _.
    deed_own_call here t number))

pub deed_called : (here : Here) (t : ℕ) → CallDeed here t (call_number here t) (called here t)
deed_called here t = deed_call_of here t (call_number here t)

-- a call other than membarrier(2) begins no barrier
begins_none : {here : Here} {t number : ℕ} {c : CallDone} → number ≢ 283 → CallDeed here t number c → c.barrier ≡ None
begins_none other (Begins targets restart others no_error its_number) = absurd (other its_number)
begins_none other deed = refl

pub called_begins_none : (here : Here) (t : ℕ) → call_number here t ≢ 283 → (called here t).barrier ≡ None
called_begins_none here t other = begins_none other (deed_called here t)
