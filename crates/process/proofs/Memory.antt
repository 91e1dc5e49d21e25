-- Memory as the page map shows it where it holds the pages of the process, and the pages after writes.
use Rattle.process.proofs.Common.{◌≡◌, ℕ, ◌/◌, ◌%◌, List, refl, sym, ap, ◌∙◌, Bool, true, false, cond, Option, Some, None, option_map, fun_ext, written, IsWritten, Write, Pages, can_read, can_write, permission_at, permission_of, Map, byte_in, can_write_in, held_in, permission_in, HoldsPages, IsReadable, lets, Page, byte_at, bytes_if, page_in, memory_in, writable_in}
use Rattle.sys_calls.proofs.KernelWrites.{both, if_readable, over_held}
use Rattle.block_model.specs.Record.{Kernel}

-- a byte that can be read is the one that its page holds
shown : (o : Option Page) (offset : ℕ)
    → option_map (byte_at offset) (bytes_if 4 o) ≡ cond (can_read (option_map (λ (p : Page). p.permission) o)) (option_map (λ (p : Page). byte_at offset p.bytes) o) None
shown None offset = refl
shown (Some p) offset = go (lets 4 (Some p.permission))
  where
    go : (b : Bool) → option_map (byte_at offset) (cond b (Some p.bytes) None) ≡ cond b (Some (byte_at offset p.bytes)) None
    go true = refl
    go false = refl

-- what can be read, and which bytes can be written, is the record's
pub bytes_held : (k : Kernel) (lowest : ℕ) (byte : ℕ → ℕ) (m : Map) → HoldsPages k.pages lowest byte m → byte_in m ≡ memory_in k byte
bytes_held k lowest byte m holds = fun_ext (λ a.
    shown (page_in m (a / 4096)) (a % 4096)
    ∙ ap (λ (o : Option ℕ). cond (can_read o) (held_in m a) None) (holds.permissions (a / 4096))
    ∙ ap (λ (o : Option ℕ). cond (can_read (permission_at k.pages a)) o None) (holds.held a)
    ∙ if_readable (byte a) (permission_at k.pages a))

pub writable_held : (k : Kernel) (lowest : ℕ) (byte : ℕ → ℕ) (m : Map) → HoldsPages k.pages lowest byte m → IsReadable m → can_write_in m ≡ writable_in k
writable_held k lowest byte m holds readable = fun_ext (λ a.
    both (can_read (permission_in m (a / 4096))) (can_write (permission_in m (a / 4096))) (readable (a / 4096))
    ∙ ap can_write (holds.permissions (a / 4096)))

-- the pages after writes
pub pages_written : (ps : Pages) (lowest : ℕ) (byte : ℕ → ℕ) (ws : List Write) (m m' : Map) → HoldsPages ps lowest byte m → IsWritten ws m m'
    → HoldsPages ps lowest (λ a. written ws a (byte a)) m'
pages_written ps lowest byte ws m m' holds is = record {
  permissions = λ n. is.permissions n ∙ holds.permissions n;
  held = λ a. is.held a ∙ ap (option_map (written ws a)) (holds.held a) ∙ over_held (byte a) (written ws a) (permission_of ps.runs (a / 4096));
  free = is.free ∙ holds.free;
  break_at = is.break_at ∙ holds.break_at;
  break_start = is.break_start ∙ holds.break_start;
}

pub readable_written : (ws : List Write) (m m' : Map) → IsReadable m → IsWritten ws m m' → IsReadable m'
readable_written ws m m' readable is n may = ap can_read (is.permissions n) ∙ readable n (sym (ap can_write (is.permissions n)) ∙ may)
