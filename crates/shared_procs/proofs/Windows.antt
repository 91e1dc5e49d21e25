-- Memory with a segment: reads and writes, of which one that lies in the segment goes there and any other one to the pages, since no page
-- lies beside the segment; and stores that enter it.
use Rattle.std.proofs.lemmas.Bool.{true≢false}
use Rattle.block_model.proofs.Swaps.Untouched.{word_same}
use Rattle.page_map.specs.Map.{Page, byte_at, bytes_if, page_in, IsAlike}
use Rattle.page_map.proofs.Laws.{each_byte-all, word_missing}
use Rattle.shared_procs.proofs.Common.{◌≡◌, ℕ, zero, suc, ◌+◌, ◌/◌, ◌%◌, ◌<◌, ◌≤◌, inl, inr, ◌&&◌, ◌||◌, Bool, true, false, cond, List, Option, Some, None, refl, sym, ap, ◌∙◌, arith, [], ◌∷◌, after_write, byte_in, byte_over, can_write_in, cases_lt, each_byte, each_byte-fails, is_in_segment, IsGap, lies_within, Map, may_write, option_map, over-high, over-low, permission_in, reached_in, SEGMENT_AT, shared_in, storable_in, Store, word_at, HaveEntered, held_in, IsAccessSize, permission_of, Stored, written}
use Rattle.shared_procs.proofs.Segments.{IsOutside, bytes_inside, inside_from, access_bytes, inside_gap, is_inside, within_from, within_to}

-- two tests that are the same of each byte of an access
each_same : (f g : ℕ → Bool) (at n : ℕ) → ((a : ℕ) → at ≤ a → a < at + n → f a ≡ g a) → each_byte f at n ≡ each_byte g at n
each_same f g at zero same = refl
each_same f g at (suc n) same =
    let first = same at (omega arith) (omega arith) in
    let rest = each_same f g (at + 1) n (λ a from to. same a (omega arith) (omega arith)) in
    λ i. first i && rest i

-- a byte that a store hasn't stays
pub untouched : (w : Store) (a below : ℕ) → (w.at ≤ a → a < w.at + w.size → ⊥) → byte_over w a below ≡ below
untouched w a below not =
    elim (cases_lt a w.at) [
      | inl low ↦ over-low w.at w.size w.value a below low
      | inr from ↦
          elim (cases_lt a (w.at + w.size)) [ inl to ↦ absurd (not from to) | inr high ↦ over-high w.at w.size w.value a below high ]
    ]

kept : (w : Store) (a : ℕ) (o : Option ℕ) → (w.at ≤ a → a < w.at + w.size → ⊥) → o ≡ option_map (byte_over w a) o
kept w a None not = refl
kept w a (Some below) not = ap Some (sym (untouched w a below not))

-- no byte outside the segment is one of an access that lies in it
pub not_outside : (at n a : ℕ) → lies_within at n ≡ true → is_in_segment a ≡ false → at ≤ a → a < at + n → ⊥
not_outside at n a within out from to = true≢false (sym (bytes_inside at n a within from to) ∙ out)

-- an access that lies in the segment
module _ (segment : List ℕ) (m : Map) (at n : ℕ) (within : lies_within at n ≡ true) where
  pub read_inside : word_at (λ a. Some (shared_in segment a)) at n ≡ word_at (reached_in segment m) at n
  read_inside =
      word_same (λ a. Some (shared_in segment a)) (reached_in segment m) at n
      (λ a from to. ap (λ b. cond b (Some (shared_in segment a)) (byte_in m a)) (sym (bytes_inside at n a within from to)))

  pub writable_inside : true ≡ each_byte (storable_in m) at n
  writable_inside =
      sym (each_byte-all (storable_in m) at n (λ k lt. ap (λ b. b || can_write_in m (at + k)) (bytes_inside at n (at + k) within (omega arith) (omega arith))))

  pub written_inside : (segment' : List ℕ) (v : ℕ)
      → ((a : ℕ) → SEGMENT_AT ≤ a → shared_in segment' a ≡ byte_over (record { at = at; size = n; value = v }) a (shared_in segment a))
      → (a : ℕ) → reached_in segment' m a ≡ after_write true (record { at = at; size = n; value = v }) (reached_in segment m) a
  written_inside segment' v put a = by (is_in_segment a) refl
    where
      by : (inside : Bool) → is_in_segment a ≡ inside
          → cond inside (Some (shared_in segment' a)) (byte_in m a)
          ≡ option_map (byte_over (record { at = at; size = n; value = v }) a) (cond inside (Some (shared_in segment a)) (byte_in m a))
      by true is = ap Some (put a (inside_from a is))
      by false is = kept (record { at = at; size = n; value = v }) a (byte_in m a) (not_outside at n a within is)

-- any other
module _ (m : Map) (gap : (n : ℕ) → IsGap n → permission_in m n ≡ None) where
  no_page : (o : Option Page) → option_map (λ (p : Page). p.permission) o ≡ None → o ≡ None
  no_page None e = refl
  no_page (Some p) e = cc

  no_byte : (a : ℕ) → IsGap (a / 4096) → byte_in m a ≡ None
  no_byte a its = ap (λ p. option_map (byte_at (a % 4096)) (bytes_if 4 p)) (no_page (page_in m (a / 4096)) (gap (a / 4096) its))

  not_writable : (a : ℕ) → IsGap (a / 4096) → can_write_in m a ≡ false
  not_writable a its = ap may_write (gap (a / 4096) its)

  pub read_outside : (segment : List ℕ) (at n : ℕ) → IsOutside at n → word_at (byte_in m) at n ≡ word_at (reached_in segment m) at n
  read_outside segment at n (inl none) =
      word_same (byte_in m) (reached_in segment m) at n
      (λ a from to. ap (λ b. cond b (Some (shared_in segment a)) (byte_in m a)) (sym (none a from to)))
  read_outside segment at n (inr one) =
      let k = one.0 in
      let out : reached_in segment m (at + k) ≡ byte_in m (at + k) =
      ap (λ b. cond b (Some (shared_in segment (at + k))) (byte_in m (at + k))) one.2 in
      let none = no_byte (at + k) one.3 in
      word_missing (byte_in m) at n k one.1 none ∙ sym (word_missing (reached_in segment m) at n k one.1 (out ∙ none))

  pub writable_outside : (at n : ℕ) → IsOutside at n → each_byte (can_write_in m) at n ≡ each_byte (storable_in m) at n
  writable_outside at n (inl none) =
      each_same (can_write_in m) (storable_in m) at n (λ a from to. ap (λ b. b || can_write_in m a) (sym (none a from to)))
  writable_outside at n (inr one) =
      let k = one.0 in
      let no = not_writable (at + k) one.3 in
      let not : storable_in m (at + k) ≡ false = ap (λ b. b || can_write_in m (at + k)) one.2 ∙ no in
      each_byte-fails (can_write_in m) at n k one.1 no ∙ sym (each_byte-fails (storable_in m) at n k one.1 not)

  -- a store that was made on pages has no byte of the segment
  pub not_inside : (at n a : ℕ) → IsOutside at n → each_byte (can_write_in m) at n ≡ true → is_in_segment a ≡ true → at ≤ a → a < at + n → ⊥
  not_inside at n a (inl none) made is from to = true≢false (sym is ∙ none a from to)
  not_inside at n a (inr one) made is from to =
      true≢false (sym made ∙ each_byte-fails (can_write_in m) at n one.0 one.1 (not_writable (at + one.0) one.3))

  pub written_outside : (segment : List ℕ) (m' : Map) (w : Store) (made : Bool) → IsOutside w.at w.size → made ≡ each_byte (can_write_in m) w.at w.size
      → ((a : ℕ) → byte_in m' a ≡ after_write made w (byte_in m) a)
      → (a : ℕ) → reached_in segment m' a ≡ after_write made w (reached_in segment m) a
  written_outside segment m' w made out answer bytes a = by (is_in_segment a) refl
    where
      seen : Bool → Bool → Option ℕ → Option ℕ → Type 0
      seen inside done page page' =
          cond inside (Some (shared_in segment a)) page' ≡ after_write done w (λ _. cond inside (Some (shared_in segment a)) page) a

      inside_kept : (done : Bool) → made ≡ done → is_in_segment a ≡ true → seen true done (byte_in m a) (byte_in m' a)
      inside_kept true is inside = kept w a (Some (shared_in segment a)) (not_inside w.at w.size a out (sym answer ∙ is) inside)
      inside_kept false is inside = refl

      by : (inside : Bool) → is_in_segment a ≡ inside → seen inside made (byte_in m a) (byte_in m' a)
      by true is = inside_kept made refl is
      by false is = bytes a

-- STORES THAT ENTER

-- a byte of the segment after a store that begins in it or doesn't
abbrev seen : Store → Bool → (ℕ → ℕ) → ℕ → ℕ
seen w b shared a = written (cond b (Stored w ∷ []) []) a (shared a)

module _ (m : Map) (gap : (n : ℕ) → IsGap n → permission_in m n ≡ None) (segment : List ℕ) (w : Store) where
  -- one that lies in the segment leaves the pages, of which none lies there
  none_held : (o : Option ℕ) (x y : ℕ) → o ≡ None → option_map (λ _. x) o ≡ option_map (λ _. y) o
  none_held None x y none = refl
  none_held (Some permission) x y none = cc

  pub entered_inside : (segment' : List ℕ) → IsAccessSize w.size → lies_within w.at w.size ≡ true
      → ((a : ℕ) → SEGMENT_AT ≤ a → shared_in segment' a ≡ byte_over w a (shared_in segment a)) → HaveEntered (w ∷ []) m segment m segment'
  entered_inside segment' size within put =
      let some = (access_bytes w.size size).0 in
      let from = within_from w.at w.size within in
      let to = within_to w.at w.size within in
      let first : is_in_segment w.at ≡ true = is_inside w.at from (omega arith) in
      record {
        pages = λ ps lowest byte holds. record {
          permissions = holds.permissions;
          held = λ a. holds.held a ∙ by a (byte a) (permission_of ps.runs (a / 4096)) (sym (holds.permissions (a / 4096))) (is_in_segment a) refl;
          free = holds.free;
          break_at = holds.break_at;
          break_start = holds.break_start;
        };
        shared = λ shared holds a is. put a (inside_from a is) ∙ ap (byte_over w a) (holds a is) ∙ ap (λ b. seen w b shared a) (sym first);
        permissions = λ n. refl;
      }
    where
      by : (a b : ℕ) (o : Option ℕ) → o ≡ permission_in m (a / 4096) → (inside : Bool) → is_in_segment a ≡ inside
          → option_map (λ _. b) o ≡ option_map (λ _. byte_over w a b) o
      by a b o its true is = none_held o b (byte_over w a b) (its ∙ gap (a / 4096) (inside_gap a is))
      by a b o its false is = ap (λ (x : ℕ). option_map (λ _. x) o) (sym (untouched w a b (not_outside w.at w.size a within is)))

  -- one on pages leaves the segment
  over_if : (a b : ℕ) (o : Option ℕ) → option_map (byte_over w a) (option_map (λ _. b) o) ≡ option_map (λ _. byte_over w a b) o
  over_if a b None = refl
  over_if a b (Some permission) = refl

  pub entered_outside : (m' : Map) → IsOutside w.at w.size → each_byte (can_write_in m) w.at w.size ≡ true → IsAlike m m'
      → ((a : ℕ) → held_in m' a ≡ after_write true w (held_in m) a) → HaveEntered (w ∷ []) m segment m' segment
  entered_outside m' out may alike held = record {
    pages = λ ps lowest byte holds. record {
      permissions = λ n. alike.permissions n ∙ holds.permissions n;
      held = λ a. held a ∙ ap (option_map (byte_over w a)) (holds.held a) ∙ over_if a (byte a) (permission_of ps.runs (a / 4096));
      free = alike.free ∙ holds.free;
      break_at = alike.break_at ∙ holds.break_at;
      break_start = alike.break_start ∙ holds.break_start;
    };
    shared = λ shared holds a is. holds a is ∙ sym (by shared a is (is_in_segment w.at));
    permissions = alike.permissions;
  }
    where
      by : (shared : ℕ → ℕ) (a : ℕ) → is_in_segment a ≡ true → (b : Bool) → seen w b shared a ≡ shared a
      by shared a is true = untouched w a (shared a) (not_inside m gap w.at w.size a out may is)
      by shared a is false = refl
