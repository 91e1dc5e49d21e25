-- What begins a list of words tells the value.
use Rattle.std.proofs.Common.{◌≡◌, ℕ, Bool, true, false, List, [], ◌∷◌, ◌++◌, length, map, take, Option, Some, None, slice_get, refl, sym, ap, ◌∙◌, append_assoc, append-nil, add-one, zero, suc, ◌+◌, arith, Result, Ok, Err, IfOk, OnOk, ◌<◌, get_or}
use Rattle.std.proofs.lemmas.Option.{slice_get-get_or}
use Rattle.place_keys.specs.Words.{of_bool, of_each, of_list, of_option, word}

-- words tell what is seen of a value
abbrev pub IsKey : {A B : Type 0} → (A → B) → (A → List ℕ) → Type 0
IsKey {A} {B} seen f = (a b : A) (x y : List ℕ) → f a ++ x ≡ f b ++ y → (seen a ≡ seen b) × (x ≡ y)

-- and go on alike
pub after : {A B : Type 0} (seen : A → B) (f : A → List ℕ) → IsKey seen f → (a b : A) (r q x y : List ℕ) → (f a ++ r) ++ x ≡ (f b ++ q) ++ y → (seen a ≡ seen b) × (r ++ x ≡ q ++ y)
after seen f key a b r q x y e = key a b (r ++ x) (q ++ y) (sym (append_assoc (f a) r x) ∙ e ∙ append_assoc (f b) q y)

pub word_key : IsKey (λ (n : ℕ). n) word
word_key a b x y e = (cc, cc)

pub bool_key : IsKey (λ (b : Bool). b) of_bool
bool_key true true x y e = (refl, cc)
bool_key false false x y e = (refl, cc)
bool_key true false x y e = let no : ⊥ = cc in absurd no
bool_key false true x y e = let no : ⊥ = cc in absurd no

pub option_key : {A : Type 0} (f : A → List ℕ) → IsKey (λ (a : A). a) f → IsKey (λ (o : Option A). o) (of_option f)
option_key f key None None x y e = (refl, cc)
option_key f key None (Some b) x y e = let no : ⊥ = cc in absurd no
option_key f key (Some a) None x y e = let no : ⊥ = cc in absurd no
option_key f key (Some a) (Some b) x y e =
    let rest : f a ++ x ≡ f b ++ y = cc in
    let p = key a b x y rest in
    (ap Some p.0, p.1)

-- as many items
each_key : {A B : Type 0} (seen : A → B) (f : A → List ℕ) → IsKey seen f → (xs ys : List A) (x y : List ℕ) → length xs ≡ length ys → of_each f xs ++ x ≡ of_each f ys ++ y → (map seen xs ≡ map seen ys) × (x ≡ y)
each_key seen f key [] [] x y len e = (refl, e)
each_key seen f key [] (b ∷ ys) x y len e = let no : ⊥ = omega arith in absurd no
each_key seen f key (a ∷ xs) [] x y len e = let no : ⊥ = omega arith in absurd no
each_key seen f key (a ∷ xs) (b ∷ ys) x y len e =
    let p = after seen f key a b (of_each f xs) (of_each f ys) x y e in
    let q = each_key seen f key xs ys x y (omega arith) p.1 in
    (let first = p.0 in let others = q.0 in cc, q.1)

pub list_key : {A B : Type 0} (seen : A → B) (f : A → List ℕ) → IsKey seen f → IsKey (map seen) (of_list f)
list_key seen f key xs ys x y e =
    let len : length xs ≡ length ys = cc in
    let rest : of_each f xs ++ x ≡ of_each f ys ++ y = cc in
    each_key seen f key xs ys x y len rest

pub map_itself : {A : Type 0} (xs : List A) → map (λ a. a) xs ≡ xs
map_itself [] = refl
map_itself (x ∷ xs) = ap (λ ys. x ∷ ys) (map_itself xs)

-- a list whose items are told whole
pub whole_key : {A : Type 0} (f : A → List ℕ) → IsKey (λ (a : A). a) f → IsKey (λ (xs : List A). xs) (of_list f)
whole_key f key xs ys x y e =
    let p = list_key (λ a. a) f key xs ys x y e in
    (sym (map_itself xs) ∙ p.0 ∙ map_itself ys, p.1)

-- one item more
each_suc : {A : Type 0} (f : A → List ℕ) (xs : List A) (n : ℕ) (x : A) → slice_get xs n ≡ Some x → of_each f (take (suc n) xs) ≡ of_each f (take n xs) ++ f x
each_suc f [] n x at = let no : ⊥ = cc in absurd no
each_suc f (z ∷ xs) zero x at = let same : z ≡ x = cc in append-nil (f z) ∙ ap f same
each_suc f (z ∷ xs) (suc n) x at = ap (λ ws. f z ++ ws) (each_suc f xs n x at) ∙ sym (append_assoc (f z) (of_each f (take n xs)) (f x))

pub each_more : {A : Type 0} (f : A → List ℕ) (xs : List A) (n : ℕ) (x : A) → slice_get xs n ≡ Some x → of_each f (take (n + 1) xs) ≡ of_each f (take n xs) ++ f x
each_more f xs n x at = ap (λ k. of_each f (take k xs)) (add-one n) ∙ each_suc f xs n x at

-- what was written, with one item more
pub written_more : {A : Type 0} (f : A → List ℕ) (xs : List A) (n : ℕ) (x : A) (before words new : List ℕ) → slice_get xs n ≡ Some x → words ≡ before ++ of_each f (take n xs) → new ≡ words ++ f x
    → new ≡ before ++ of_each f (take (n + 1) xs)
written_more f xs n x before words new at was is =
    is ∙ ap (λ ws. ws ++ f x) was ∙ append_assoc before (of_each f (take n xs)) (f x) ∙ ap (λ ws. before ++ ws) (sym (each_more f xs n x at))

-- what is written in nine steps
pub nine : (o w a b c d e f g h i : List ℕ) (w1 w2 w3 w4 w5 w6 w7 w8 : List ℕ) → w1 ≡ o ++ a → w2 ≡ w1 ++ b → w3 ≡ w2 ++ c → w4 ≡ w3 ++ d → w5 ≡ w4 ++ e → w6 ≡ w5 ++ f → w7 ≡ w6 ++ g → w8 ≡ w7 ++ h → w ≡ w8 ++ i
    → w ≡ o ++ (a ++ (b ++ (c ++ (d ++ (e ++ (f ++ (g ++ (h ++ i))))))))
nine o w a b c d e f g h i w1 w2 w3 w4 w5 w6 w7 w8 p1 p2 p3 p4 p5 p6 p7 p8 p9 =
    p9 ∙ (ap (λ z. z ++ i) (p8 ∙ (ap (λ z. z ++ h) (p7 ∙ (ap (λ z. z ++ g) (p6 ∙ (ap (λ z. z ++ f) (p5 ∙ (ap (λ z. z ++ e) (p4 ∙ (ap (λ z. z ++ d) (p3 ∙ (ap (λ z. z ++ c) (p2 ∙ (ap (λ z. z ++ b) p1)))))))))))))))
    ∙ simp append_assoc

-- and in four
pub four : (o w a b c d w1 w2 w3 : List ℕ) → w1 ≡ o ++ a → w2 ≡ w1 ++ b → w3 ≡ w2 ++ c → w ≡ w3 ++ d → w ≡ o ++ (a ++ (b ++ (c ++ d)))
four o w a b c d w1 w2 w3 p1 p2 p3 p4 = p4 ∙ ap (λ z. z ++ d) (p3 ∙ ap (λ z. z ++ c) (p2 ∙ ap (λ z. z ++ b) p1)) ∙ simp append_assoc

pub then_ok : {A E : Type 0} (r : Result A E) (P Q : Type 0) → (P → Q) → OnOk r P → OnOk r Q
then_ok (Ok x) P Q f p = f p
then_ok (Err e) P Q f p = tt

pub if_ok : {A E : Type 0} (r : Result A E) (P Q : A → Type 0) → ((a : A) → P a → Q a) → IfOk r P → IfOk r Q
if_ok (Ok x) P Q f p = f x p
if_ok (Err e) P Q f p = tt

-- the same where the items are seen in another way
pub each_map : {A B : Type 0} (f : A → List ℕ) (g : B → A) (xs : List B) → of_each f (map g xs) ≡ of_each (λ x. f (g x)) xs
each_map f g [] = refl
each_map f g (x ∷ xs) = ap (λ ws. f (g x) ++ ws) (each_map f g xs)

pub mapped_more : {A B : Type 0} (f : A → List ℕ) (g : B → A) (xs : List B) (n : ℕ) (x : B) (before words new : List ℕ) → slice_get xs n ≡ Some x → words ≡ before ++ of_each f (map g (take n xs)) → new ≡ words ++ f (g x)
    → new ≡ before ++ of_each f (map g (take (n + 1) xs))
mapped_more f g xs n x before words new at was is =
    written_more (λ y. f (g y)) xs n x before words new at (was ∙ ap (λ ws. before ++ ws) (each_map f g (take n xs))) is
    ∙ ap (λ ws. before ++ ws) (sym (each_map f g (take (n + 1) xs)))

-- the same of an item that is read by its index
pub written_get : {A : Type 0} (f : A → List ℕ) (xs : List A) (n : ℕ) (d : A) (before words new : List ℕ) → n < length xs → words ≡ before ++ of_each f (take n xs) → new ≡ words ++ f (get_or xs n d)
    → new ≡ before ++ of_each f (take (n + 1) xs)
written_get f xs n d before words new lt was is = written_more f xs n (get_or xs n d) before words new (slice_get-get_or xs n d lt) was is

pub mapped_get : {A B : Type 0} (f : A → List ℕ) (g : B → A) (xs : List B) (n : ℕ) (d : B) (before words new : List ℕ) → n < length xs → words ≡ before ++ of_each f (map g (take n xs))
    → new ≡ words ++ f (g (get_or xs n d)) → new ≡ before ++ of_each f (map g (take (n + 1) xs))
mapped_get f g xs n d before words new lt was is = mapped_more f g xs n (get_or xs n d) before words new (slice_get-get_or xs n d lt) was is
