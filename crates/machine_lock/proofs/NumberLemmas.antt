-- Rising lists of numbers.
use Rattle.std.proofs.Common.{◌≡◌, ◌≢◌, ◌⊎◌, inl, inr, ⊎_elim, ℕ, ◌+◌, ◌-◌, ◌<◌, ◌≤◌, Bool, true, false, List, [], ◌∷◌, ◌++◌, refl, ap, ◌∙◌, subst, arith, zero, suc}
use Rattle.std.specs.Prelude.{nat_lt, if◌then◌else◌}
use Rattle.std.proofs.lemmas.Bool.{ltb-true, ltb-false, lt-ltb}
use Rattle.machine_lock.specs.Numbers.{In, Apart, RisesFrom, Owns, put_in, merge, numbers, numbers_below}

pub rises_below : (lo x : ℕ) (xs : List ℕ) → RisesFrom lo xs → In x xs → lo ≤ x
rises_below lo x [] r i = absurd i
rises_below lo x (y ∷ ys) r i = let a = r.0 in ⊎_elim (λ (e : x ≡ y). omega arith) (λ j. let b = rises_below (y + 1) x ys r.1 j in omega arith) i

pub rises_weaker : (lo hi : ℕ) (xs : List ℕ) → lo ≤ hi → RisesFrom hi xs → RisesFrom lo xs
rises_weaker lo hi [] le r = tt
rises_weaker lo hi (y ∷ ys) le r = let a = r.0 in (omega arith, r.1)

in_put_at : (d : Bool) (x z y : ℕ) (ys : List ℕ) → (In z (put_in x ys) → (z ≡ x) ⊎ In z ys) → In z (if d then x ∷ y ∷ ys else y ∷ put_in x ys) → (z ≡ x) ⊎ In z (y ∷ ys)
in_put_at true x z y ys h i = i
in_put_at false x z y ys h i = ⊎_elim (λ (e : z ≡ y). inr (inl e)) (λ j. ⊎_elim (λ e. inl e) (λ k. inr (inr k)) (h j)) i

pub in_put : (x z : ℕ) (ys : List ℕ) → In z (put_in x ys) → (z ≡ x) ⊎ In z ys
in_put x z [] i = i
in_put x z (y ∷ ys) i = in_put_at (nat_lt x y) x z y ys (in_put x z ys) i

pub in_merge : (z : ℕ) (xs ys : List ℕ) → In z (merge xs ys) → In z xs ⊎ In z ys
in_merge z [] ys i = inr i
in_merge z (x ∷ xs) ys i = ⊎_elim (λ (e : z ≡ x). inl (inl e)) (λ j. ⊎_elim (λ k. inl (inr k)) (λ k. inr k) (in_merge z xs ys j)) (in_put x z (merge xs ys) i)

put_at_rises : (lo x y : ℕ) (ys : List ℕ) (b : Bool) → nat_lt x y ≡ b → lo ≤ x → RisesFrom lo (y ∷ ys) → x ≢ y → (y + 1 ≤ x → RisesFrom (y + 1) (put_in x ys)) → RisesFrom lo (if b then x ∷ y ∷ ys else y ∷ put_in x ys)
put_at_rises lo x y ys true e le r d go = let l : x < y = ltb-true x y e in (le, (omega arith, r.1))
put_at_rises lo x y ys false e le r d go = let l : y ≤ x = ltb-false x y e in (r.0, go (omega arith))

put_rises : (lo x : ℕ) (ys : List ℕ) → RisesFrom lo ys → lo ≤ x → (In x ys → ⊥) → RisesFrom lo (put_in x ys)
put_rises lo x [] r le n = (le, tt)
put_rises lo x (y ∷ ys) r le n = put_at_rises lo x y ys (nat_lt x y) refl le r (λ h. n (inl h)) (λ l. put_rises (y + 1) x ys r.1 l (λ i. n (inr i)))

pub merge_rises : (lo : ℕ) (xs ys : List ℕ) → RisesFrom lo xs → RisesFrom lo ys → ((z : ℕ) → In z xs → In z ys → ⊥) → RisesFrom lo (merge xs ys)
merge_rises lo [] ys r s n = s
merge_rises lo (x ∷ xs) ys r s n = let a = r.0 in put_rises lo x (merge xs ys) (merge_rises lo xs ys (rises_weaker lo (x + 1) xs (omega arith) r.1) s (λ z i j. n z (inr i) j)) a
    (λ i. ⊎_elim (λ j. let b = rises_below (x + 1) x xs r.1 j in absurd (omega arith)) (λ j. n x (inl refl) j) (in_merge x xs ys i))

pub in_append : (z : ℕ) (xs ys : List ℕ) → In z (xs ++ ys) → In z xs ⊎ In z ys
in_append z [] ys i = inr i
in_append z (x ∷ xs) ys i = ⊎_elim (λ e. inl (inl e)) (λ j. ⊎_elim (λ k. inl (inr k)) (λ k. inr k) (in_append z xs ys j)) i

pub in_numbers : (z n c : ℕ) → In z (numbers n c) → (n ≤ z) × (z < n + c)
in_numbers z n zero i = absurd i
in_numbers z n (suc c) i = ⊎_elim (λ (e : z ≡ n). (omega arith, omega arith)) (λ j. let b = in_numbers z (n + 1) c j in (omega arith, omega arith)) i

pub numbers_rise : (n c : ℕ) → RisesFrom n (numbers n c)
numbers_rise n zero = tt
numbers_rise n (suc c) = (omega arith, numbers_rise (n + 1) c)

pub append_rises : (lo n c : ℕ) (xs : List ℕ) → RisesFrom lo xs → lo ≤ n → ((z : ℕ) → In z xs → z < n) → RisesFrom lo (xs ++ numbers n c)
append_rises lo n c [] r le b = rises_weaker lo n (numbers n c) le (numbers_rise n c)
append_rises lo n c (x ∷ xs) r le b = let l = b x (inl refl) in (r.0, append_rises (x + 1) n c xs r.1 (omega arith) (λ z i. b z (inr i)))

pub append_two : (lo n : ℕ) (xs ys : List ℕ) → RisesFrom lo xs → lo ≤ n → ((z : ℕ) → In z xs → z < n) → RisesFrom n ys → RisesFrom lo (xs ++ ys)
append_two lo n [] ys r le b m = rises_weaker lo n ys le m
append_two lo n (x ∷ xs) ys r le b m = let l = b x (inl refl) in (r.0, append_two (x + 1) n xs ys r.1 (omega arith) (λ z i. b z (inr i)) m)

put_first : (x : ℕ) (ys : List ℕ) → ((z : ℕ) → In z ys → x < z) → put_in x ys ≡ x ∷ ys
put_first x [] r = refl
put_first x (y ∷ ys) r = ap (λ (b : Bool). if b then x ∷ y ∷ ys else y ∷ put_in x ys) (lt-ltb x y (r y (inl refl)))

-- what begins below the rest stays in front
pub merge_front : (lo n : ℕ) (xs rs ys : List ℕ) → RisesFrom lo xs → ((z : ℕ) → In z xs → z < n) → ((z : ℕ) → In z (merge rs ys) → n ≤ z) → merge (xs ++ rs) ys ≡ xs ++ merge rs ys
merge_front lo n [] rs ys r b m = refl
merge_front lo n (x ∷ xs) rs ys r b m = let h = b x (inl refl) in
    ap (put_in x) (merge_front (x + 1) n xs rs ys r.1 (λ z i. b z (inr i)) m)
    ∙ put_first x (xs ++ merge rs ys) (λ z i. ⊎_elim (λ j. let c = rises_below (x + 1) z xs r.1 j in omega arith) (λ j. let c = m z j in omega arith) (in_append z xs (merge rs ys) i))

pub rises_tail : (lo : ℕ) (xs ys : List ℕ) → RisesFrom lo (xs ++ ys) → RisesFrom lo ys
rises_tail lo [] ys r = r
rises_tail lo (x ∷ xs) ys r = let a = r.0 in rises_weaker lo (x + 1) ys (omega arith) (rises_tail (x + 1) xs ys r.1)

pub rises_higher : (lo n : ℕ) (ys : List ℕ) → RisesFrom lo ys → ((z : ℕ) → In z ys → n ≤ z) → RisesFrom n ys
rises_higher lo n [] r b = tt
rises_higher lo n (y ∷ ys) r b = (b y (inl refl), r.1)

-- numbers below a bound are below a higher one
pub owns_longer : (mine : List ℕ) (n m : ℕ) → n ≤ m → Owns mine n → Owns mine m
owns_longer mine n m le o = record { rises = o.rises; below = λ z i. let b = o.below z i in omega arith }

-- the numbers from the bound on go behind those below it
pub owns_more : (mine : List ℕ) (n m : ℕ) → n ≤ m → Owns mine n → Owns (mine ++ numbers_below n m) m
owns_more mine n m le o = record {
  rises = append_rises 0 n (m - n) mine o.rises (omega arith) o.below;
  below = λ z i. ⊎_elim (λ j. let b = o.below z j in omega arith) (λ j. let b = in_numbers z n (m - n) j in omega arith) (in_append z mine (numbers n (m - n)) i);
}

in_put_self_at : (b : Bool) (x y : ℕ) (ys : List ℕ) → In x (put_in x ys) → In x (if b then x ∷ y ∷ ys else y ∷ put_in x ys)
in_put_self_at true x y ys i = inl refl
in_put_self_at false x y ys i = inr i

in_put_self : (x : ℕ) (ys : List ℕ) → In x (put_in x ys)
in_put_self x [] = inl refl
in_put_self x (y ∷ ys) = in_put_self_at (nat_lt x y) x y ys (in_put_self x ys)

-- a number that is put in where it stands already makes the list rise no more
put_again_at : (low x y : ℕ) (ys : List ℕ) (b : Bool) → nat_lt x y ≡ b → In x (y ∷ ys) → RisesFrom low (if b then x ∷ y ∷ ys else y ∷ put_in x ys) → (In x ys → RisesFrom (y + 1) (put_in x ys) → ⊥) → ⊥
put_again_at low x y ys true e i r go = let l : x < y = ltb-true x y e in ⊎_elim (λ (is : x ≡ y). absurd (omega arith)) (λ j. let b = rises_below (y + 1) x ys r.1.1 j in omega arith) i
put_again_at low x y ys false e i r go = ⊎_elim (λ (is : x ≡ y). let b = rises_below (y + 1) x (put_in x ys) r.1 (in_put_self x ys) in omega arith) (λ j. go j r.1) i

put_again : (low x : ℕ) (ys : List ℕ) → In x ys → RisesFrom low (put_in x ys) → ⊥
put_again low x [] i r = i
put_again low x (y ∷ ys) i r = put_again_at low x y ys (nat_lt x y) refl i r (λ j q. put_again (y + 1) x ys j q)

put_rises_back_at : (low x y : ℕ) (ys : List ℕ) (b : Bool) → nat_lt x y ≡ b → RisesFrom low (if b then x ∷ y ∷ ys else y ∷ put_in x ys) → (RisesFrom (y + 1) (put_in x ys) → RisesFrom (y + 1) ys) → RisesFrom low (y ∷ ys)
put_rises_back_at low x y ys true e r go = let l : x < y = ltb-true x y e in let a = r.0 in (omega arith, r.1.1)
put_rises_back_at low x y ys false e r go = (r.0, go r.1)

in_put_old_at : (b : Bool) (x z y : ℕ) (ys : List ℕ) → (In z ys → In z (put_in x ys)) → In z (y ∷ ys) → In z (if b then x ∷ y ∷ ys else y ∷ put_in x ys)
in_put_old_at true x z y ys go i = inr i
in_put_old_at false x z y ys go i = ⊎_elim (λ e. inl e) (λ j. inr (go j)) i

in_put_old : (x z : ℕ) (ys : List ℕ) → In z ys → In z (put_in x ys)
in_put_old x z [] i = absurd i
in_put_old x z (y ∷ ys) i = in_put_old_at (nat_lt x y) x z y ys (in_put_old x z ys) i

in_merge_right : (z : ℕ) (xs ys : List ℕ) → In z ys → In z (merge xs ys)
in_merge_right z [] ys i = i
in_merge_right z (x ∷ xs) ys i = in_put_old x z (merge xs ys) (in_merge_right z xs ys i)

put_rises_back : (low x : ℕ) (ys : List ℕ) → RisesFrom low (put_in x ys) → RisesFrom low ys
put_rises_back low x [] r = tt
put_rises_back low x (y ∷ ys) r = put_rises_back_at low x y ys (nat_lt x y) refl r (λ q. put_rises_back (y + 1) x ys q)

-- where the numbers of two lists rise together, none stands in both
pub merge_apart : (low : ℕ) (xs ys : List ℕ) → RisesFrom low (merge xs ys) → Apart xs ys
merge_apart low [] ys r z i j = i
merge_apart low (x ∷ xs) ys r z i j = ⊎_elim (λ (e : z ≡ x). put_again low x (merge xs ys) (in_merge_right x xs ys (subst (λ (w : ℕ). In w ys) e j)) r) (λ k. merge_apart low xs ys (put_rises_back low x (merge xs ys) r) z k j) i
