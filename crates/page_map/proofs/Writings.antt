-- Writes into a page map.
use Rattle.std.proofs.Common.{◌≡◌, ◌≢◌, ℕ, ◌+◌, ◌/◌, ◌%◌, ◌^◌, ◌<◌, ◌≤◌, inl, inr, Bool, true, false, cond, List, Option, Some, None, length, nat_eq, refl, sym, ap, ◌∙◌, arith, eq-eqb}
use Rattle.std.specs.Option.{option_map}
use Rattle.std.specs.Prelude.{IfSome}
use Rattle.std.proofs.lemmas.Bool.{cases_eq, ne_eqb}
use Rattle.byte_views.specs.Words.{with_word}
use Rattle.mach_types.specs.Bytes.{after_write, byte_over, each_byte, stored}
use Rattle.mach_types.specs.Kernel.Pages.{can_execute, can_write, lets}
use Rattle.elf_load.specs.Images.{IsPermission}
use Rattle.page_map.specs.Map.{Map, Page, byte_at, byte_if, bytes_if, can_write_in, code_in, held_in, may_write, page_in, page_with, permission_in}
use Rattle.page_map.proofs.Accesses.{each_byte-all, each_byte-at}
use Rattle.page_map.proofs.Stores.{over-elsewhere, stored-in_page, stored-more}

-- whoever may write may read
pub write_alone : (p : ℕ) → IsPermission p → may_write (Some p) ≡ can_write (Some p)
write_alone p (inl e) = ap (λ q. may_write (Some q)) e ∙ ap (λ q. can_write (Some q)) (sym e)
write_alone p (inr (inl e)) = ap (λ q. may_write (Some q)) e ∙ ap (λ q. can_write (Some q)) (sym e)
write_alone p (inr (inr (inl e))) = ap (λ q. may_write (Some q)) e ∙ ap (λ q. can_write (Some q)) (sym e)
write_alone p (inr (inr (inr (inl e)))) = ap (λ q. may_write (Some q)) e ∙ ap (λ q. can_write (Some q)) (sym e)
write_alone p (inr (inr (inr (inr e)))) = ap (λ q. may_write (Some q)) e ∙ ap (λ q. can_write (Some q)) (sym e)

-- and may not execute
pub writes_no_code : (p : ℕ) → IsPermission p → may_write (Some p) ≡ true → can_execute (Some p) ≡ false
writes_no_code p (inl e) w = let none : may_write (Some p) ≡ false = ap (λ q. may_write (Some q)) e in cc
writes_no_code p (inr (inl e)) w = let none : may_write (Some p) ≡ false = ap (λ q. may_write (Some q)) e in cc
writes_no_code p (inr (inr (inl e))) w = let none : may_write (Some p) ≡ false = ap (λ q. may_write (Some q)) e in cc
writes_no_code p (inr (inr (inr (inl e)))) w = let none : may_write (Some p) ≡ false = ap (λ q. may_write (Some q)) e in cc
writes_no_code p (inr (inr (inr (inr e)))) w = ap (λ q. can_execute (Some q)) e

stored-if : (allowed : Bool) (bytes : List ℕ) (a at size v : ℕ) → length bytes ≡ 4096 → at % 4096 + size ≤ 4096 → a / 4096 ≡ at / 4096
    → option_map (byte_at (a % 4096)) (cond allowed (Some (with_word bytes (at % 4096) size v)) None)
    ≡ option_map (byte_over (record { at = at; size = size; value = v }) a) (option_map (byte_at (a % 4096)) (cond allowed (Some bytes) None))
stored-if true bytes a at size v whole fits page = ap Some (stored-in_page bytes a at size v whole fits page)
stored-if false bytes a at size v whole fits page = refl

stored-here : (bit : ℕ) (o : Option Page) (a at size v : ℕ) → IfSome o (λ p. length p.bytes ≡ 4096) → at % 4096 + size ≤ 4096 → a / 4096 ≡ at / 4096
    → option_map (byte_at (a % 4096)) (bytes_if bit (option_map (page_with (at % 4096) size v) o))
    ≡ option_map (byte_over (record { at = at; size = size; value = v }) a) (option_map (byte_at (a % 4096)) (bytes_if bit o))
stored-here bit None a at size v whole fits page = refl
stored-here bit (Some p) a at size v whole fits page = stored-if (lets bit (Some p.permission)) p.bytes a at size v whole fits page

kept-over : (a at size v : ℕ) (o : Option ℕ) → at % 4096 + size ≤ 4096 → a / 4096 ≢ at / 4096
    → o ≡ option_map (byte_over (record { at = at; size = size; value = v }) a) o
kept-over a at size v None fits two = refl
kept-over a at size v (Some below) fits two = ap Some (sym (over-elsewhere a at size v below fits two))

code-here : (o : Option Page) (offset place size v : ℕ) → IfSome o (λ p. IsPermission p.permission) → may_write (option_map (λ (p : Page). p.permission) o) ≡ true
    → option_map (byte_at place) (bytes_if 1 (option_map (page_with offset size v) o)) ≡ option_map (byte_at place) (bytes_if 1 o)
code-here None offset place size v allowed w = refl
code-here (Some p) offset place size v allowed w = rw (writes_no_code p.permission allowed w) refl

-- a store within one page was made
module _ (m m' : Map) (at size v : ℕ)
    (pages : (n : ℕ) → page_in m' n ≡ cond (nat_eq n (at / 4096)) (option_map (page_with (at % 4096) size v) (page_in m n)) (page_in m n)) where
  page-here : (n : ℕ) → n ≡ at / 4096 → page_in m' n ≡ option_map (page_with (at % 4096) size v) (page_in m n)
  page-here n same = pages n ∙ (rw (eq-eqb n (at / 4096) same) refl)

  page-other : (n : ℕ) → n ≢ at / 4096 → page_in m' n ≡ page_in m n
  page-other n two = pages n ∙ (rw (ne_eqb n (at / 4096) two) refl)

  pub made-bytes : (bit : ℕ) → at % 4096 + size ≤ 4096 → IfSome (page_in m (at / 4096)) (λ p. length p.bytes ≡ 4096) → (a : ℕ)
      → byte_if bit m' a ≡ stored (record { at = at; size = size; value = v }) (byte_if bit m) a
  made-bytes bit fits whole a = elim (cases_eq (a / 4096) (at / 4096)) [
    | inl same ↦
        ap (λ o. option_map (byte_at (a % 4096)) (bytes_if bit o)) (page-here (a / 4096) same)
        ∙ stored-here bit (page_in m (a / 4096)) a at size v (rw same whole) fits same
    | inr two ↦
        ap (λ o. option_map (byte_at (a % 4096)) (bytes_if bit o)) (page-other (a / 4096) two)
        ∙ kept-over a at size v (byte_if bit m a) fits two
  ]

  pub made-code : may_write (permission_in m (at / 4096)) ≡ true → IfSome (page_in m (at / 4096)) (λ p. IsPermission p.permission) → (a : ℕ)
      → code_in m' a ≡ code_in m a
  made-code w allowed a = elim (cases_eq (a / 4096) (at / 4096)) [
    | inl same ↦
        ap (λ o. option_map (byte_at (a % 4096)) (bytes_if 1 o)) (page-here (a / 4096) same)
        ∙ code-here (page_in m (a / 4096)) (at % 4096) (a % 4096) size v (rw same allowed) (rw same w)
    | inr two ↦ ap (λ o. option_map (byte_at (a % 4096)) (bytes_if 1 o)) (page-other (a / 4096) two)
  ]

held-here : (o : Option Page) (a at size v : ℕ) → IfSome o (λ p. length p.bytes ≡ 4096) → at % 4096 + size ≤ 4096 → a / 4096 ≡ at / 4096
    → option_map (λ (p : Page). byte_at (a % 4096) p.bytes) (option_map (page_with (at % 4096) size v) o)
    ≡ option_map (byte_over (record { at = at; size = size; value = v }) a) (option_map (λ (p : Page). byte_at (a % 4096) p.bytes) o)
held-here None a at size v whole fits page = refl
held-here (Some p) a at size v whole fits page = ap Some (stored-in_page p.bytes a at size v whole fits page)

-- and so the bytes that pages hold are stored, whether or not they can be read
pub made-held : (m m' : Map) (at size v : ℕ)
    → ((n : ℕ) → page_in m' n ≡ cond (nat_eq n (at / 4096)) (option_map (page_with (at % 4096) size v) (page_in m n)) (page_in m n))
    → at % 4096 + size ≤ 4096 → IfSome (page_in m (at / 4096)) (λ p. length p.bytes ≡ 4096) → (a : ℕ)
    → held_in m' a ≡ stored (record { at = at; size = size; value = v }) (held_in m) a
made-held m m' at size v pages fits whole a = elim (cases_eq (a / 4096) (at / 4096)) [
  | inl same ↦
      ap (option_map (λ (p : Page). byte_at (a % 4096) p.bytes)) (page-here m m' at size v pages (a / 4096) same)
      ∙ held-here (page_in m (a / 4096)) a at size v (rw same whole) fits same
  | inr two ↦
      ap (option_map (λ (p : Page). byte_at (a % 4096) p.bytes)) (page-other m m' at size v pages (a / 4096) two)
      ∙ kept-over a at size v (held_in m a) fits two
]

-- a byte of the store can be written
pub writes_one : (m m' : Map) (at k size next : ℕ) (made : Bool) → next ≡ at + k → k < size → each_byte (can_write_in m) at size ≡ true
    → ((n : ℕ) → permission_in m' n ≡ permission_in m n) → made ≡ each_byte (can_write_in m') next 1 → made ≡ true
writes_one m m' at k size next made is lt all same answer =
    answer ∙ each_byte-all (can_write_in m') next 1 (λ j one.
    let here : next + j ≡ at + k = omega arith in
    ap (can_write_in m') here ∙ ap may_write (same ((at + k) / 4096)) ∙ each_byte-at (can_write_in m) at size k all lt)

-- one byte of the store more
pub step_across : (byte byte' byte'' : ℕ → Option ℕ) (at k v rest next : ℕ) (made : Bool) → next ≡ at + k → made ≡ true → rest ≡ v / 256 ^ k
    → ((a : ℕ) → byte' a ≡ stored (record { at = at; size = k; value = v }) byte a)
    → ((a : ℕ) → byte'' a ≡ after_write made (record { at = next; size = 1; value = rest }) byte' a)
    → (a : ℕ) → byte'' a ≡ stored (record { at = at; size = k + 1; value = v }) byte a
step_across byte byte' byte'' at k v rest next made is done e before step a =
    step a ∙ ap (λ b. after_write b (record { at = next; size = 1; value = rest }) byte' a) done
    ∙ ap (λ x. stored (record { at = x; size = 1; value = rest }) byte' a) is
    ∙ ap (option_map (byte_over (record { at = at + k; size = 1; value = rest }) a)) (before a)
    ∙ stored-more at k v rest a (byte a) e
