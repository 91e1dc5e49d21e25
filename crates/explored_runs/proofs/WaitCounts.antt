-- Counts that are told by those that aren't 0: kept one after the other, and added to sums.
use Rattle.std.proofs.Common.{◌≡◌, ℕ, zero, suc, ◌+◌, ◌<◌, ◌≤◌, Bool, true, false, cond, List, [], ◌∷◌, ◌++◌, length, length-append, get_or, set, replicate, refl, sym, ap, ◌∙◌, add_assoc, add-one, add-zero, zero-add, arith}
use Rattle.std.specs.Prelude.{◌==◌}
use Rattle.std.proofs.Math.ListN.{length-set}
use Rattle.std.proofs.lemmas.Bool.{eqb-true}
use Rattle.std.proofs.lemmas.List.{append-nil, length-replicate}
use Rattle.drawn_machine.specs.Waits.{no_waits}
use Rattle.explored_runs.specs.Accounts.{added}
use Rattle.explored_runs.specs.Waits.{with_count, with_counts}
use Rattle.explored_runs.specs.declared.waits.WaitCount.{WaitCount}

counts_push : (counts : List ℕ) (cs : List WaitCount) (c : WaitCount)
    → with_counts counts (cs ++ c ∷ []) ≡ with_count c (with_counts counts cs)
counts_push counts [] c = refl
counts_push counts (d ∷ cs) c = counts_push (with_count d counts) cs c

-- the first of some counts, and zeros in place of the others
abbrev pub begun : List ℕ → ℕ → List ℕ
begun [] k = []
begun (n ∷ ns) zero = 0 ∷ begun ns zero
begun (n ∷ ns) (suc k) = n ∷ begun ns k

zeros : (ns : List ℕ) → replicate (length ns) 0 ≡ begun ns 0
zeros [] = refl
zeros (n ∷ ns) = ap (λ (xs : List ℕ). 0 ∷ xs) (zeros ns)

pub begun_none : (ns : List ℕ) → length ns ≡ 256 → no_waits ≡ begun ns 0
unfolding no_waits
begun_none ns all = ap (λ (n : ℕ). replicate n 0) (sym all) ∙ zeros ns

pub begun_all : (ns : List ℕ) (k : ℕ) → length ns ≤ k → begun ns k ≡ ns
begun_all [] k all = refl
begun_all (n ∷ ns) zero all = absurd (omega arith)
begun_all (n ∷ ns) (suc k) all = ap (λ (xs : List ℕ). n ∷ xs) (begun_all ns k (omega arith))

begun_set : (ns : List ℕ) (k : ℕ) → k < length ns
    → set (begun ns k) k (get_or (begun ns k) k 0 + get_or ns k 0) ≡ begun ns (suc k)
begun_set [] k within = absurd (omega arith)
begun_set (n ∷ ns) zero within = ap (λ (m : ℕ). m ∷ begun ns zero) (zero-add n)
begun_set (n ∷ ns) (suc k) within = ap (λ (xs : List ℕ). n ∷ xs) (begun_set ns k (omega arith))

begun_same : (ns : List ℕ) (k : ℕ) → k < length ns → get_or ns k 0 ≡ 0 → begun ns k ≡ begun ns (suc k)
begun_same [] k within none = absurd (omega arith)
begun_same (n ∷ ns) zero within none = ap (λ (m : ℕ). m ∷ begun ns zero) (sym none)
begun_same (n ∷ ns) (suc k) within none = ap (λ (xs : List ℕ). n ∷ xs) (begun_same ns k (omega arith) none)

kept_behind : (ns : List ℕ) (cs : List WaitCount) (k stores : ℕ) (b : Bool) → (stores == 0) ≡ b → k < length ns
    → stores ≡ get_or ns k 0 → with_counts no_waits cs ≡ begun ns k
    → with_counts no_waits (cs ++ cond b [] (record { wait = k; stores = stores } ∷ [])) ≡ begun ns (suc k)
kept_behind ns cs k stores true is within value before =
    ap (with_counts no_waits) (append-nil cs) ∙ before ∙ begun_same ns k within (sym value ∙ eqb-true stores 0 is)
kept_behind ns cs k stores false is within value before =
    let c : WaitCount = record { wait = k; stores = stores } in
    counts_push no_waits cs c ∙ ap (with_count c) before
    ∙ ap (λ (s : ℕ). set (begun ns k) k (get_or (begun ns k) k 0 + s)) value ∙ begun_set ns k within

pub kept_more : (ns : List ℕ) (cs : List WaitCount) (k stores : ℕ) → k < length ns → stores ≡ get_or ns k 0
    → with_counts no_waits cs ≡ begun ns k
    → with_counts no_waits (cs ++ cond (stores == 0) [] (record { wait = k; stores = stores } ∷ [])) ≡ begun ns (k + 1)
kept_more ns cs k stores within value before =
    kept_behind ns cs k stores (stores == 0) refl within value before ∙ ap (begun ns) (sym (add-one k))

pub few_more : (cs : List WaitCount) (c : WaitCount) (b : Bool) (k : ℕ) → length cs ≤ k → length (cs ++ cond b [] (c ∷ [])) ≤ k + 1
few_more cs c true k few = omega (arith, length-append {A = WaitCount} cs [])
few_more cs c false k few = omega (arith, length-append {A = WaitCount} cs (c ∷ []))

-- added to sums

added_set : (sums counts : List ℕ) (w s : ℕ) → length counts ≡ length sums
    → set (added sums counts) w (get_or (added sums counts) w 0 + s) ≡ added sums (set counts w (get_or counts w 0 + s))
added_set [] counts w s same = refl
added_set (a ∷ sums) [] w s same = absurd (omega arith)
added_set (a ∷ sums) (x ∷ counts) zero s same = ap (λ (n : ℕ). n ∷ added sums counts) (add_assoc a x s)
added_set (a ∷ sums) (x ∷ counts) (suc w) s same =
    ap (λ (ns : List ℕ). (a + x) ∷ ns) (added_set sums counts w s (omega arith))

added_counts : (sums counts : List ℕ) (cs : List WaitCount) → length counts ≡ length sums
    → with_counts (added sums counts) cs ≡ added sums (with_counts counts cs)
added_counts sums counts [] same = refl
added_counts sums counts (c ∷ cs) same =
    ap (λ (ns : List ℕ). with_counts ns cs) (added_set sums counts c.wait c.stores same)
    ∙ added_counts sums (with_count c counts) cs (length-set counts c.wait (get_or counts c.wait 0 + c.stores) ∙ same)

added_zeros : (sums : List ℕ) → added sums (replicate (length sums) 0) ≡ sums
added_zeros [] = refl
added_zeros (a ∷ sums) = ap (λ (ns : List ℕ). (a + 0) ∷ ns) (added_zeros sums) ∙ ap (λ (n : ℕ). n ∷ sums) (add-zero a)

pub counts_are_added : (sums : List ℕ) (cs : List WaitCount) → length sums ≡ 256
    → with_counts sums cs ≡ added sums (with_counts no_waits cs)
unfolding no_waits
counts_are_added sums cs all =
    let none : no_waits ≡ replicate (length sums) 0 = ap (λ (n : ℕ). replicate n 0) (sym all) in
    ap (λ (ns : List ℕ). with_counts ns cs) (sym (ap (added sums) none ∙ added_zeros sums))
    ∙ added_counts sums no_waits cs (ap length none ∙ length-replicate (length sums) 0)
