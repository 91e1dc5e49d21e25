-- Lists of facts, the pieces of one number after those of the other.
use Rattle.std.proofs.Common.{◌≡◌, ℕ, zero, suc, ◌+◌, ◌≤◌, Bool, true, false, ◌&&◌, List, [], ◌∷◌, ◌++◌, drop, length, map, refl, sym, ap, ◌∙◌, arith, add-zero, add-one, append_assoc}
use Rattle.std.specs.List.{flat_map, list_all, range_with_len}
use Rattle.std.proofs.lemmas.List.{drop_all, flat_map_more, map_push}

-- one number more
range_more : (a n : ℕ) → range_with_len a (suc n) ≡ range_with_len a n ++ (a + n) ∷ []
range_more a zero = ap (λ x. x ∷ []) (sym (add-zero a))
range_more a (suc n) =
    let same : a + 1 + n ≡ a + suc n = omega arith in
    ap (λ xs. a ∷ xs) (range_more (a + 1) n ∙ ap (λ x. range_with_len (a + 1) n ++ x ∷ []) same)

pub range-suc : (n : ℕ) → range_with_len 0 (suc n) ≡ range_with_len 0 n ++ n ∷ []
range-suc n =
    let from_0 : 0 + n ≡ n = omega arith in
    range_more 0 n ∙ ap (λ x. range_with_len 0 n ++ x ∷ []) from_0

pub range-more : (n : ℕ) → range_with_len 0 (n + 1) ≡ range_with_len 0 n ++ n ∷ []
range-more n = rw (add-one n) (range-suc n)

-- a list that has the pieces of the first numbers, with that of the next one
pub range_step : {A : Type 0} (f : ℕ → List A) (start had new : List A) (n : ℕ) → had ≡ start ++ flat_map f (range_with_len 0 n)
    → new ≡ had ++ f n → new ≡ start ++ flat_map f (range_with_len 0 (n + 1))
range_step f start had new n before after =
    after ∙ ap (λ l. l ++ f n) before ∙ flat_map_more f start (range_with_len 0 n) n ∙ ap (λ xs. start ++ flat_map f xs) (sym (range-more n))

-- all numbers below one
pub all_numbers : {A : Type 0} (f : ℕ → List A) (start had : List A) (n most : ℕ) → n ≡ most → had ≡ start ++ flat_map f (range_with_len 0 n)
    → had ≡ start ++ flat_map f (range_with_len 0 most)
all_numbers f start had n most all before = before ∙ ap (λ k. start ++ flat_map f (range_with_len 0 k)) all

-- what a loop over a list has at its end, where what comes of the items that are left is what comes of all
pub at_end : {A B : Type 0} (f : List A → B) (xs : List A) (i : ℕ) (all : B) → length xs ≤ i → f (drop i xs) ≡ all → f [] ≡ all
at_end f xs i all past rest = sym (ap f (drop_all i xs past)) ∙ rest

-- pieces of which none has anything
pub nothing_in_all : {X A : Type 0} (f : X → List A) (xs : List X) → ((x : X) → f x ≡ []) → flat_map f xs ≡ []
nothing_in_all f [] none = refl
nothing_in_all f (x ∷ xs) none = ap (λ l. l ++ flat_map f xs) (none x) ∙ nothing_in_all f xs none

-- a list that got a piece, which is this
pub piece : {A : Type 0} (start one a b : List A) → one ≡ start ++ a → a ≡ b → one ≡ start ++ b
piece start one a b p same = p ∙ ap (λ l. start ++ l) same

-- a list that got five pieces, one behind the other
pub five_pieces : {A : Type 0} (start one two three four five a b c d e : List A) → one ≡ start ++ a → two ≡ one ++ b → three ≡ two ++ c → four ≡ three ++ d
    → five ≡ four ++ e → five ≡ start ++ (a ++ b ++ c ++ d ++ e)
five_pieces start one two three four five a b c d e p q r s t =
    let regroup : ((((start ++ a) ++ b) ++ c) ++ d) ++ e ≡ start ++ (a ++ b ++ c ++ d ++ e) = simp append_assoc in
    t ∙ ap (λ l. l ++ e) (s ∙ ap (λ l. l ++ d) (r ∙ ap (λ l. l ++ c) (q ∙ ap (λ l. l ++ b) p))) ∙ regroup

-- one that got two
pub two_pieces : {A : Type 0} (start one two a b : List A) → one ≡ start ++ a → two ≡ one ++ b → two ≡ start ++ (a ++ b)
two_pieces start one two a b p q = q ∙ ap (λ l. l ++ b) p ∙ append_assoc start a b

-- and three
pub three_pieces : {A : Type 0} (start one two three a b c : List A) → one ≡ start ++ a → two ≡ one ++ b → three ≡ two ++ c → three ≡ start ++ (a ++ b ++ c)
three_pieces start one two three a b c p q r = r ∙ ap (λ l. l ++ c) (two_pieces start one two a b p q) ∙ append_assoc start (a ++ b) c

-- and four
pub four_pieces : {A : Type 0} (start one two three four a b c d : List A) → one ≡ start ++ a → two ≡ one ++ b → three ≡ two ++ c → four ≡ three ++ d
    → four ≡ start ++ (a ++ b ++ c ++ d)
four_pieces start one two three four a b c d p q r s =
    s ∙ ap (λ l. l ++ d) (three_pieces start one two three a b c p q r) ∙ append_assoc start (a ++ b ++ c) d

-- and six
pub six_pieces : {A : Type 0} (start one two three four five six a b c d e f : List A) → one ≡ start ++ a → two ≡ one ++ b → three ≡ two ++ c → four ≡ three ++ d
    → five ≡ four ++ e → six ≡ five ++ f → six ≡ start ++ (a ++ b ++ c ++ d ++ e ++ f)
six_pieces start one two three four five six a b c d e f p q r s t u =
    u ∙ ap (λ l. l ++ f) (five_pieces start one two three four five a b c d e p q r s t) ∙ append_assoc start (a ++ b ++ c ++ d ++ e) f

-- and seven
pub seven_pieces : {A : Type 0} (start one two three four five six seven a b c d e f g : List A) → one ≡ start ++ a → two ≡ one ++ b → three ≡ two ++ c
    → four ≡ three ++ d → five ≡ four ++ e → six ≡ five ++ f → seven ≡ six ++ g → seven ≡ start ++ (a ++ b ++ c ++ d ++ e ++ f ++ g)
seven_pieces start one two three four five six seven a b c d e f g p q r s t u v =
    v ∙ ap (λ l. l ++ g) (six_pieces start one two three four five six a b c d e f p q r s t u) ∙ append_assoc start (a ++ b ++ c ++ d ++ e ++ f) g

-- and eight
pub eight_pieces : {A : Type 0} (start one two three four five six seven eight a b c d e f g h : List A) → one ≡ start ++ a → two ≡ one ++ b → three ≡ two ++ c
    → four ≡ three ++ d → five ≡ four ++ e → six ≡ five ++ f → seven ≡ six ++ g → eight ≡ seven ++ h → eight ≡ start ++ (a ++ b ++ c ++ d ++ e ++ f ++ g ++ h)
eight_pieces start one two three four five six seven eight a b c d e f g h p q r s t u v w =
    w ∙ ap (λ l. l ++ h) (seven_pieces start one two three four five six seven a b c d e f g p q r s t u v)
    ∙ append_assoc start (a ++ b ++ c ++ d ++ e ++ f ++ g) h

-- a map over one number more, behind others
pub map_step : {A : Type 0} (f : ℕ → A) (start had new : List A) (n : ℕ) → had ≡ start ++ map f (range_with_len 0 n) → new ≡ had ++ f n ∷ []
    → new ≡ start ++ map f (range_with_len 0 (n + 1))
map_step f start had new n before after =
    after ∙ ap (λ l. l ++ f n ∷ []) before ∙ append_assoc start (map f (range_with_len 0 n)) (f n ∷ [])
    ∙ ap (λ l. start ++ l) (sym (ap (map f) (range-more n) ∙ map_push f (range_with_len 0 n) n))

-- a test of all of the first numbers, and of the next one
list_all_push : (p : ℕ → Bool) (xs : List ℕ) (x : ℕ) → list_all p (xs ++ x ∷ []) ≡ (list_all p xs && p x)
list_all_push p [] x = and_true (p x)
  where
    and_true : (b : Bool) → (b && true) ≡ b
    and_true true = refl
    and_true false = refl
list_all_push p (y ∷ ys) x = ap (λ b. p y && b) (list_all_push p ys x) ∙ regroup (p y) (list_all p ys) (p x)
  where
    regroup : (a b c : Bool) → (a && (b && c)) ≡ ((a && b) && c)
    regroup true b c = refl
    regroup false b c = refl

pub all_more : (p : ℕ → Bool) (n : ℕ) (had : Bool) → had ≡ list_all p (range_with_len 0 n) → (had && p n) ≡ list_all p (range_with_len 0 (n + 1))
all_more p n had before = ap (λ b. b && p n) before ∙ sym (ap (list_all p) (range-more n) ∙ list_all_push p (range_with_len 0 n) n)
