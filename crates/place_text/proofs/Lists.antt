-- Texts of lists, one item after the other.
use Rattle.std.proofs.Common.{◌≡◌, ℕ, zero, suc, ◌+◌, ◌<◌, ◌≤◌, List, [], ◌∷◌, ◌++◌, length, get_or, take, Some, None, slice_get, sym, ap, ◌∙◌, arith, add-zero, add-one, append_assoc}
use Rattle.std.specs.List.{flat_map, range_with_len}
use Rattle.std.proofs.lemmas.List.{flat_map_more, take_all, take_more}

-- one number more
range_more : (a n : ℕ) → range_with_len a (suc n) ≡ range_with_len a n ++ (a + n) ∷ []
range_more a zero = ap (λ x. x ∷ []) (sym (add-zero a))
range_more a (suc n) =
    let same : a + 1 + n ≡ a + suc n = omega arith in
    ap (λ xs. a ∷ xs) (range_more (a + 1) n ∙ ap (λ x. range_with_len (a + 1) n ++ x ∷ []) same)

pub range-more : (n : ℕ) → range_with_len 0 (n + 1) ≡ range_with_len 0 n ++ n ∷ []
range-more n = rw (add-one n) (range_more 0 n ∙ ap (λ x. range_with_len 0 n ++ x ∷ []) (omega arith))

-- a text that has the pieces of the first numbers, with that of the next one
pub range_step : (f : ℕ → List ℕ) (start line new : List ℕ) (n : ℕ) → line ≡ start ++ flat_map f (range_with_len 0 n)
    → new ≡ line ++ f n → new ≡ start ++ flat_map f (range_with_len 0 (n + 1))
range_step f start line new n before after =
    after ∙ ap (λ l. l ++ f n) before ∙ flat_map_more f start (range_with_len 0 n) n ∙ ap (λ xs. start ++ flat_map f xs) (sym (range-more n))

-- one item more
taken_more : {X : Type 0} (xs : List X) (i : ℕ) (x : X) → slice_get xs i ≡ Some x → take (suc i) xs ≡ take i xs ++ x ∷ []
taken_more [] i x is = absurd (cc)
taken_more (y ∷ ys) zero x is = ap (λ z. z ∷ []) (cc)
taken_more (y ∷ ys) (suc i) x is = ap (λ zs. y ∷ zs) (taken_more ys i x is)

pub take-more : {X : Type 0} (xs : List X) (i : ℕ) (x : X) → slice_get xs i ≡ Some x → take (i + 1) xs ≡ take i xs ++ x ∷ []
take-more xs i x is = rw (add-one i) (taken_more xs i x is)

-- a text that has the pieces of the first items, with that of the next one
pub item_step : {X : Type 0} (f : X → List ℕ) (start line new : List ℕ) (xs : List X) (i : ℕ) (x : X) → slice_get xs i ≡ Some x
    → line ≡ start ++ flat_map f (take i xs) → new ≡ line ++ f x → new ≡ start ++ flat_map f (take (i + 1) xs)
item_step f start line new xs i x is before after =
    after ∙ ap (λ l. l ++ f x) before ∙ flat_map_more f start (take i xs) x ∙ ap (λ ys. start ++ flat_map f ys) (sym (take-more xs i x is))

-- an index at which nothing stands is past the end
pub none_within : {X : Type 0} (xs : List X) (i : ℕ) → slice_get xs i ≡ None → length xs ≤ i
none_within [] i is = omega arith
none_within (y ∷ ys) zero is = absurd (cc)
none_within (y ∷ ys) (suc i) is = let later : length ys ≤ i = none_within ys i is in omega arith

-- all items, where the first of them are at least as many
pub all_items : {X : Type 0} (f : X → List ℕ) (start line : List ℕ) (xs : List X) (i : ℕ) → length xs ≤ i
    → line ≡ start ++ flat_map f (take i xs) → line ≡ start ++ flat_map f xs
all_items f start line xs i all before = before ∙ ap (λ ys. start ++ flat_map f ys) (take_all i xs all)

-- all numbers below one
pub all_numbers : (f : ℕ → List ℕ) (start line : List ℕ) (n most : ℕ) → n ≡ most → line ≡ start ++ flat_map f (range_with_len 0 n)
    → line ≡ start ++ flat_map f (range_with_len 0 most)
all_numbers f start line n most all before = before ∙ ap (λ k. start ++ flat_map f (range_with_len 0 k)) all

-- the same of an index below the number of items
pub index_step : {X : Type 0} (f : X → List ℕ) (start line new : List ℕ) (xs : List X) (i : ℕ) (d : X) → i < length xs
    → line ≡ start ++ flat_map f (take i xs) → new ≡ line ++ f (get_or xs i d) → new ≡ start ++ flat_map f (take (i + 1) xs)
index_step f start line new xs i d lt before after =
    after ∙ ap (λ l. l ++ f (get_or xs i d)) before ∙ flat_map_more f start (take i xs) (get_or xs i d)
    ∙ ap (λ ys. start ++ flat_map f ys) (sym (take_more xs i d lt))

-- a text that has three pieces, before a fourth
pub four_pieces : (start first second third a b c d whole : List ℕ) → first ≡ start ++ a → second ≡ first ++ b → third ≡ second ++ c
    → a ++ b ++ c ++ d ≡ whole → third ++ d ≡ start ++ whole
four_pieces start first second third a b c d whole one two three all =
    let regroup : ((start ++ a) ++ b) ++ c ++ d ≡ start ++ (a ++ b ++ c ++ d) = simp append_assoc in
    ap (λ l. l ++ d) (three ∙ ap (λ l. l ++ c) (two ∙ ap (λ l. l ++ b) one)) ∙ regroup ∙ ap (λ l. start ++ l) all

-- a text that has five pieces
pub five_pieces : (start first second third fourth fifth a b c d e : List ℕ) → start ≡ [] → first ≡ start ++ a → second ≡ first ++ b
    → third ≡ second ++ c → fourth ≡ third ++ d → fifth ≡ fourth ++ e → fifth ≡ a ++ b ++ c ++ d ++ e
five_pieces start first second third fourth fifth a b c d e none one two three four five =
    five ∙ ap (λ l. l ++ e) (four ∙ ap (λ l. l ++ d) (three ∙ ap (λ l. l ++ c) (two ∙ ap (λ l. l ++ b) (one ∙ ap (λ l. l ++ a) none))))
