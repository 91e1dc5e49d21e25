-- The names of the sequences whose turn is still to come: they stay, in order, where a span is gathered.
use Rattle.std.proofs.Common.{◌≡◌, ℕ, suc, ◌+◌, List, [], ◌∷◌, ◌++◌, filter, refl, sym, ap, ◌∙◌, arith, Bool, true, false, not, cond, eqb, ◌&&◌, ◌||◌, Option}
use Rattle.std.proofs.Math.Path.{fun_ext}
use Rattle.std.specs.List.{list_all}
use Rattle.std.proofs.lemmas.Bool.{and_from, and_parts, eqb-true, not-true}
use Rattle.std.proofs.lemmas.Bool.Decides.{nat_tests}
use Rattle.log_gather.specs.declared.steps.Step.{Step}
use Rattle.log_gather.specs.Facts.{is_of}
use Rattle.log_gather.specs.LogEvents.{Name}
use Rattle.log_gather.specs.Spans.{begins_act, goes_on, rest_of_act}
use Rattle.log_gather.specs.Steps.{facts_seen, names_awaited}
use Rattle.log_gather.specs.Turns.{awaits_rightly, none_await, other_steps, own_steps, renewed, reserved_after}
use Rattle.log_gather.proofs.ActPlaces.{acts_begun}

-- how many acts of each hart came before, after an event more, and after several
abbrev pub counted : Step → (ℕ → ℕ) → ℕ → ℕ
counted x acts k = cond (eqb x.entry.hart.0 k && begins_act (facts_seen x)) (acts k + 1) (acts k)

abbrev pub counted_all : (ℕ → ℕ) → List Step → ℕ → ℕ
counted_all acts [] = acts
counted_all acts (x ∷ xs) = counted_all (counted x acts) xs

pub counted_is : (acts : ℕ → ℕ) (h : ℕ) (xs : List Step) → counted_all acts xs h ≡ acts h + acts_begun facts_seen h xs
counted_is acts h [] = omega arith
counted_is acts h (x ∷ xs) = counted_is (counted x acts) h xs ∙ go (eqb x.entry.hart.0 h && begins_act (facts_seen x)) (acts_begun facts_seen h xs)
  where
    go : (b : Bool) (n : ℕ) → cond b (acts h + 1) (acts h) + n ≡ acts h + cond b (suc n) n
    go true n = omega arith
    go false n = refl

abbrev named : Step → (ℕ → ℕ) → Name
named x acts = record { hart = x.entry.hart.0; number = acts x.entry.hart.0 }

pub names_past : (acts : ℕ → ℕ) (xs ys : List Step) → none_await xs ≡ true → names_awaited acts (xs ++ ys) ≡ names_awaited (counted_all acts xs) ys
names_past acts [] ys none = refl
names_past acts (x ∷ xs) ys none =
    let q = and_parts (not x.awaits) (none_await xs) none in
    ap (λ b. cond b (named x acts ∷ names_awaited (counted x acts) (xs ++ ys)) (names_awaited (counted x acts) (xs ++ ys))) (not-true x.awaits q.0)
    ∙ names_past (counted x acts) xs ys q.1

-- two are counted in either order
counted_both : (x y : Step) (acts : ℕ → ℕ) → counted x (counted y acts) ≡ counted y (counted x acts)
counted_both x y acts = fun_ext (λ k. go (eqb x.entry.hart.0 k && begins_act (facts_seen x)) (eqb y.entry.hart.0 k && begins_act (facts_seen y)) (acts k))
  where
    go : (b c : Bool) (n : ℕ) → cond b (cond c (n + 1) n + 1) (cond c (n + 1) n) ≡ cond c (cond b (n + 1) n + 1) (cond b (n + 1) n)
    go true true n = refl
    go true false n = refl
    go false true n = refl
    go false false n = refl

-- an event that awaits none comes as well after events of other harts
names_pass : (z : Step) (os ys : List Step) (acts : ℕ → ℕ) → z.awaits ≡ false → list_all (λ x. not (is_of z.entry.hart.0 x.entry)) os ≡ true
    → names_awaited (counted z acts) (os ++ ys) ≡ names_awaited acts (os ++ z ∷ ys)
names_pass z [] ys acts awaits apart = sym (ap (λ b. cond b (named z acts ∷ names_awaited (counted z acts) ys) (names_awaited (counted z acts) ys)) awaits)
names_pass z (y ∷ os) ys acts awaits apart =
    let q = and_parts (not (is_of z.entry.hart.0 y.entry)) (list_all (λ (x : Step). not (is_of z.entry.hart.0 x.entry)) os) apart in
    let other : eqb y.entry.hart.0 z.entry.hart.0 ≡ false = not-true (eqb y.entry.hart.0 z.entry.hart.0) q.0 in
    let same : counted z acts y.entry.hart.0 ≡ acts y.entry.hart.0 = grind (arith, nat_tests, other) in
    let rest : names_awaited (counted y (counted z acts)) (os ++ ys) ≡ names_awaited (counted y acts) (os ++ z ∷ ys) =
    ap (λ c. names_awaited c (os ++ ys)) (counted_both y z acts) ∙ names_pass z os ys (counted y acts) awaits q.1 in
    let name : Name → List Name → List Name = λ n l. cond y.awaits (n ∷ l) l in
    ap (λ n. name (record { hart = y.entry.hart.0; number = n }) (names_awaited (counted y (counted z acts)) (os ++ ys))) same
    ∙ ap (name (named y acts)) rest

-- those that pass a test pass it all
passed : {A : Type 0} (p : A → Bool) (xs : List A) → list_all p (filter p xs) ≡ true
passed p [] = refl
passed p (x ∷ xs) = go (p x) refl (passed p xs)
  where
    go : (b : Bool) → p x ≡ b → list_all p (filter p xs) ≡ true → list_all p (cond b (x ∷ filter p xs) (filter p xs)) ≡ true
    go true is rest = rw is rest
    go false is rest = rest

-- whether no event of hart h awaits its turn
abbrev pub is_quiet : ℕ → Step → Bool
is_quiet h x = not (is_of h x.entry && x.awaits)

pub names_moved : (h : ℕ) (span ys : List Step) (acts : ℕ → ℕ) → list_all (is_quiet h) span ≡ true
    → names_awaited acts (span ++ ys) ≡ names_awaited acts (other_steps h span ++ (own_steps h span ++ ys))
names_moved h [] ys acts quiet = refl
names_moved h (x ∷ xs) ys acts quiet =
    let q = and_parts (is_quiet h x) (list_all (is_quiet h) xs) quiet in
    go (is_of h x.entry) refl q.0 (names_moved h xs ys (counted x acts) q.1)
  where
    go : (b : Bool) → is_of h x.entry ≡ b → not (b && x.awaits) ≡ true
        → names_awaited (counted x acts) (xs ++ ys) ≡ names_awaited (counted x acts) (other_steps h xs ++ (own_steps h xs ++ ys))
        → names_awaited acts (x ∷ (xs ++ ys))
        ≡ names_awaited acts (cond (not b) (x ∷ other_steps h xs) (other_steps h xs) ++ (cond b (x ∷ own_steps h xs) (own_steps h xs) ++ ys))
    go true is quiet rest =
        let awaits = not-true x.awaits quiet in
        let hart = eqb-true x.entry.hart.0 h is in
        let apart : list_all (λ (y : Step). not (is_of x.entry.hart.0 y.entry)) (other_steps h xs) ≡ true =
        ap (λ k. list_all (λ (y : Step). not (is_of k y.entry)) (other_steps h xs)) hart ∙ passed (λ (y : Step). not (is_of h y.entry)) xs in
        ap (λ b. cond b (named x acts ∷ names_awaited (counted x acts) (xs ++ ys)) (names_awaited (counted x acts) (xs ++ ys))) awaits
        ∙ rest ∙ names_pass x (other_steps h xs) (own_steps h xs ++ ys) acts awaits apart
    go false is quiet rest = ap (λ l. cond x.awaits (named x acts ∷ l) l) rest

-- what is reserved changes no name
pub names_renewed : (acts : ℕ → ℕ) (reserved : List (Option ℕ)) (xs ys : List Step) → names_awaited acts (renewed reserved xs ++ ys) ≡ names_awaited acts (xs ++ ys)
names_renewed acts reserved [] ys = refl
names_renewed acts reserved (x ∷ xs) ys = ap (λ l. cond x.awaits (named x acts ∷ l) l) (names_renewed (counted x acts) (reserved_after x reserved) xs ys)

quiet_first : (own within begins awaits later : Bool) → (not awaits || begins) ≡ true → cond own (not (not within || begins)) later ≡ true → not (own && awaits) ≡ true
quiet_first false within begins awaits later right goes = refl
quiet_first true within begins false later right goes = refl
quiet_first true true true true later right goes = goes
quiet_first true false true true later right goes = goes
quiet_first true within false true later right goes = right

-- the events of a hart that an act goes on with begin none, so none of them awaits its turn
pub quiet_act : (h : ℕ) (xs : List Step) → list_all awaits_rightly xs ≡ true → list_all (is_quiet h) (rest_of_act facts_seen h xs) ≡ true
quiet_act h [] right = refl
quiet_act h (x ∷ xs) right =
    let q = and_parts (awaits_rightly x) (list_all awaits_rightly xs) right in
    go (goes_on facts_seen h (x ∷ xs)) refl (quiet_first (is_of h x.entry) x.within x.begins x.awaits (goes_on facts_seen h xs) q.0) (quiet_act h xs q.1)
  where
    go : (g : Bool) → goes_on facts_seen h (x ∷ xs) ≡ g → (goes_on facts_seen h (x ∷ xs) ≡ true → is_quiet h x ≡ true)
        → list_all (is_quiet h) (rest_of_act facts_seen h xs) ≡ true → list_all (is_quiet h) (cond g (x ∷ rest_of_act facts_seen h xs) []) ≡ true
    go true goes first rest = and_from (is_quiet h x) (list_all (is_quiet h) (rest_of_act facts_seen h xs)) (first goes) rest
    go false goes first rest = refl
