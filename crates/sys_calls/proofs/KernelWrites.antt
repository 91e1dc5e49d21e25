-- Writes that enter memory: none, one, and one after others; and the pages of the process then.
use Rattle.sys_calls.proofs.Common.{can_read, ◌≡◌, ℕ, List, [], ◌∷◌, ◌++◌, Option, Some, None, refl, sym, ap, subst, ◌∙◌, option_map, written, CallDone, Here, IsEntered, Map, Write, byte_in, held_in, Pages, permission_at, HasPages, HoldsPages, Bool, true, false, ◌&&◌, cond}

pub none_written : (o : Option ℕ) (a : ℕ) → o ≡ option_map (written [] a) o
none_written None a = refl
none_written (Some b) a = refl

pub entered_none : (m : Map) → IsEntered m m []
entered_none m = record {
  bytes = λ a. none_written (byte_in m a) a;
  held = λ a. none_written (held_in m a) a;
  code = λ a. refl;
  permissions = λ n. refl;
  free = refl;
  break_at = refl;
  break_start = refl;
}

written_twice : (v : List Write) (w : List Write) (a b : ℕ) → written w a (written v a b) ≡ written (v ++ w) a b
written_twice [] w a b = refl
written_twice (x ∷ v) w a b = written_twice v w a _

pub twice : (v w : List Write) (a : ℕ) (o : Option ℕ) → option_map (written w a) (option_map (written v a) o) ≡ option_map (written (v ++ w) a) o
twice v w a None = refl
twice v w a (Some b) = ap Some (written_twice v w a b)

pub entered_twice : (m n o : Map) (v w : List Write) → IsEntered m n v → IsEntered n o w → IsEntered m o (v ++ w)
entered_twice m n o v w first second = record {
  bytes = λ a. second.bytes a ∙ ap (option_map (written w a)) (first.bytes a) ∙ twice v w a (byte_in m a);
  held = λ a. second.held a ∙ ap (option_map (written w a)) (first.held a) ∙ twice v w a (held_in m a);
  code = λ a. second.code a ∙ first.code a;
  permissions = λ k. second.permissions k ∙ first.permissions k;
  free = second.free ∙ first.free;
  break_at = second.break_at ∙ first.break_at;
  break_start = second.break_start ∙ first.break_start;
}

-- the byte that a page holds, where it is mapped
pub if_readable : (b : ℕ) (o : Option ℕ) → cond (can_read o) (option_map (λ _. b) o) None ≡ cond (can_read o) (Some b) None
if_readable b None = refl
if_readable b (Some permission) = refl

pub both : (b c : Bool) → (c ≡ true → b ≡ true) → (b && c) ≡ c
both true c only = refl
both false true only = only refl
both false false only = refl

pub over_held : (b : ℕ) (f : ℕ → ℕ) (o : Option ℕ) → option_map f (option_map (λ _. b) o) ≡ option_map (λ _. f b) o
over_held b f None = refl
over_held b f (Some permission) = refl

-- writes change the bytes of the pages, and no page
pub pages_entered : (h : Here) (m m' : Map) (ws : List Write) → IsEntered m m' ws → HasPages h m
    → HoldsPages h.kernel.pages h.setting.program.break_at (λ a. written ws a (h.byte a)) m'
pages_entered h m m' ws entered has = record {
  permissions = λ n. entered.permissions n ∙ has.permissions n;
  held = λ a. entered.held a ∙ ap (option_map (written ws a)) (has.held a) ∙ over_held (h.byte a) (written ws a) (permission_at h.kernel.pages a);
  free = entered.free ∙ has.free;
  break_at = entered.break_at ∙ has.break_at;
  break_start = entered.break_start ∙ has.break_start;
}

-- so they are after a call that changes no pages
pub pages_kept : (h : Here) (m m' : Map) (c : CallDone) → IsEntered m m' c.entered → c.kernel.pages ≡ h.kernel.pages → HasPages h m
    → HoldsPages c.kernel.pages h.setting.program.break_at (λ a. written c.entered a (h.byte a)) m'
pages_kept h m m' c entered same has =
    subst (λ (p : Pages). HoldsPages p h.setting.program.break_at (λ a. written c.entered a (h.byte a)) m') (sym same) (pages_entered h m m' c.entered entered has)
