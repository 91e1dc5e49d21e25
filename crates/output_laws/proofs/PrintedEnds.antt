-- Where ends alone are told apart, the first outcome with each end is printed, and no other.
use Rattle.std.proofs.Common.{◌≡◌, ◌∙◌, ◌⊎◌, ◌||◌, ◌++◌, ℕ, zero, suc, ◌<◌, Bool, true, false, not, if◌then◌else◌, List, [], ◌∷◌, length, get_or, refl, sym, ap, subst, arith, inl, inr, All, AllPairs}
use Rattle.std.proofs.Math.Bool.{or_assoc, or-false}
use Rattle.std.proofs.lemmas.List.{get_or_default}
use Rattle.std.proofs.lemmas.List.Elements.{All-cons}
use Rattle.mach_types.specs.declared.limits.End.{End}
use Rattle.draw_policies.specs.declared.outcome_keys.OutcomeKey.TheVariants.{ByText, ByEnd}
use Rattle.found_outcomes.specs.Found.{same_end}
use Rattle.found_outcomes.specs.declared.findings.OutcomeFound.{OutcomeFound}
use Rattle.found_outcomes.proofs.Laws.{end_is, end_same}
use Rattle.search_text.specs.Text.{has_end, printed, printed_of}
use Rattle.output_laws.specs.PrintedEnds.{HasEnd, HasOtherEnd}

-- ALL, WHERE CONSOLES ARE TOLD APART TOO

all_from : (before os : List OutcomeFound) → printed_of ByText before os ≡ os
all_from before [] = refl
all_from before (o ∷ more) = ap (λ (l : List OutcomeFound). o ∷ l) (all_from (before ++ o ∷ []) more)

pub all_are_printed : (os : List OutcomeFound) → printed ByText os ≡ os
all_are_printed os = all_from [] os

-- WHETHER AN END IS AMONG SOME

-- an end is among some and one more, where it is among these or is that of the one
one_more : (e : End) (before : List OutcomeFound) (o : OutcomeFound) → has_end e (before ++ o ∷ []) ≡ (has_end e before || same_end o.end e)
one_more e [] o = or-false (same_end o.end e)
one_more e (p ∷ before) o =
    ap (λ (b : Bool). same_end p.end e || b) (one_more e before o) ∙ sym (or_assoc (same_end p.end e) (has_end e before) (same_end o.end e))

-- neither among these nor that of the one
neither : (a b : Bool) → (a || b) ≡ false → (a ≡ false) × (b ≡ false)
neither false b is = (refl, is)
neither true b is = absurd cc

new_before : (e : End) (before : List OutcomeFound) (o : OutcomeFound) → has_end e (before ++ o ∷ []) ≡ false → (has_end e before ≡ false) × (same_end o.end e ≡ false)
new_before e before o new = neither (has_end e before) (same_end o.end e) (sym (one_more e before o) ∙ new)

-- WHAT IS PRINTED FROM AN OUTCOME ON

first_printed : (before : List OutcomeFound) (o : OutcomeFound) (more : List OutcomeFound) → has_end o.end before ≡ false
    → printed_of ByEnd before (o ∷ more) ≡ o ∷ printed_of ByEnd (before ++ o ∷ []) more
first_printed before o more new =
    ap (λ (b : Bool). if not b then o ∷ printed_of ByEnd (before ++ o ∷ []) more else printed_of ByEnd (before ++ o ∷ []) more) new

first_left_out : (before : List OutcomeFound) (o : OutcomeFound) (more : List OutcomeFound) → has_end o.end before ≡ true
    → printed_of ByEnd before (o ∷ more) ≡ printed_of ByEnd (before ++ o ∷ []) more
first_left_out before o more there =
    ap (λ (b : Bool). if not b then o ∷ printed_of ByEnd (before ++ o ∷ []) more else printed_of ByEnd (before ++ o ∷ []) more) there

-- EACH END IS PRINTED

-- an end is among those before, or among those that are printed
abbrev IsCovered : List OutcomeFound → List OutcomeFound → End → Type 0
IsCovered before os e = (has_end e before ≡ true) ⊎ HasEnd (printed_of ByEnd before os) e

later : (o : OutcomeFound) (os : List OutcomeFound) (e : End) → HasEnd os e → HasEnd (o ∷ os) e
later o os e found =
    let at = found.among in
    let lt = at.1 in
    record { outcome = found.outcome; among = (suc at.0, omega (arith, lt), at.2); end_is = found.end_is }

first_covered : (before : List OutcomeFound) (o : OutcomeFound) (more : List OutcomeFound) (there : Bool) → has_end o.end before ≡ there
    → IsCovered before (o ∷ more) o.end
first_covered before o more true is = inl is
first_covered before o more false is =
    inr (subst (λ (l : List OutcomeFound). HasEnd l o.end) (sym (first_printed before o more is)) (record { outcome = o; among = (0, omega arith, refl); end_is = refl }))

-- an end that is among those before and the one
covered_before : (before : List OutcomeFound) (o : OutcomeFound) (more : List OutcomeFound) (e : End) (there : Bool) → has_end e before ≡ there
    → (there || same_end o.end e) ≡ true → IsCovered before (o ∷ more) e
covered_before before o more e true is one = inl is
covered_before before o more e false is one =
    subst (IsCovered before (o ∷ more)) (end_is o.end e one) (first_covered before o more (has_end o.end before) refl)

later_covered : (before : List OutcomeFound) (o : OutcomeFound) (more : List OutcomeFound) (e : End) (there : Bool) → has_end o.end before ≡ there
    → IsCovered (before ++ o ∷ []) more e → IsCovered before (o ∷ more) e
later_covered before o more e there is (inl one) =
    covered_before before o more e (has_end e before) refl (sym (one_more e before o) ∙ one)
later_covered before o more e true is (inr found) = inr (subst (λ (l : List OutcomeFound). HasEnd l e) (sym (first_left_out before o more is)) found)
later_covered before o more e false is (inr found) =
    inr (subst (λ (l : List OutcomeFound). HasEnd l e) (sym (first_printed before o more is)) (later o (printed_of ByEnd (before ++ o ∷ []) more) e found))

covered : (before os : List OutcomeFound) (x : OutcomeFound) (k : ℕ) → k < length os → get_or os k x ≡ x → IsCovered before os x.end
covered before [] x k lt at = absurd (omega arith)
covered before (o ∷ more) x zero lt at =
    subst (λ (y : OutcomeFound). IsCovered before (o ∷ more) y.end) at (first_covered before o more (has_end o.end before) refl)
covered before (o ∷ more) x (suc k) lt at =
    later_covered before o more x.end (has_end o.end before) refl (covered (before ++ o ∷ []) more x k (omega arith) at)

among_none : (os : List OutcomeFound) (e : End) → IsCovered [] os e → HasEnd (printed ByEnd os) e
among_none os e (inl there) = absurd cc
among_none os e (inr found) = found

pub each_end_is_printed : (os : List OutcomeFound) → All (λ (o : OutcomeFound). HasEnd (printed ByEnd os) o.end) os
each_end_is_printed os k d lt = among_none os (get_or os k d).end (covered [] os (get_or os k d) k lt (get_or_default os k (get_or os k d) d lt))

-- NO END IS PRINTED TWICE

-- those whose end none of these has
abbrev AreNew : List OutcomeFound → List OutcomeFound → Type 0
AreNew before os = All (λ (o : OutcomeFound). has_end o.end before ≡ false) os

new_too : (before : List OutcomeFound) (o : OutcomeFound) (os : List OutcomeFound) → AreNew (before ++ o ∷ []) os → AreNew before os
new_too before o os all k d lt = (new_before (get_or os k d).end before o (all k d lt)).0

new_from : (before : List OutcomeFound) (o : OutcomeFound) (more : List OutcomeFound) (there : Bool) → has_end o.end before ≡ there
    → AreNew (before ++ o ∷ []) (printed_of ByEnd (before ++ o ∷ []) more) → AreNew before (printed_of ByEnd before (o ∷ more))
new_from before o more true is all =
    subst (AreNew before) (sym (first_left_out before o more is)) (new_too before o (printed_of ByEnd (before ++ o ∷ []) more) all)
new_from before o more false is all =
    let rest = printed_of ByEnd (before ++ o ∷ []) more in
    subst (AreNew before) (sym (first_printed before o more is))
    (All-cons (λ (p : OutcomeFound). has_end p.end before ≡ false) o rest is (new_too before o rest all))

all_new : (before os : List OutcomeFound) → AreNew before (printed_of ByEnd before os)
all_new before [] = λ k d lt. absurd (omega arith)
all_new before (o ∷ more) = new_from before o more (has_end o.end before) refl (all_new (before ++ o ∷ []) more)

-- one outcome and some that have other ends
with_others : (o : OutcomeFound) (os : List OutcomeFound) → All (HasOtherEnd o) os → AllPairs HasOtherEnd os → AllPairs HasOtherEnd (o ∷ os)
with_others o os others pairs zero zero d lt within = absurd (omega arith)
with_others o os others pairs (suc i) zero d lt within = absurd (omega arith)
with_others o os others pairs zero (suc j) d lt within = others j d (omega arith)
with_others o os others pairs (suc i) (suc j) d lt within = pairs i j d (omega arith) (omega arith)

not_that : (o p : OutcomeFound) → same_end o.end p.end ≡ false → HasOtherEnd o p
not_that o p other same =
    let yes : same_end o.end p.end ≡ true = ap (λ (e : End). same_end e p.end) same ∙ end_same p.end in
    let bad : true ≡ false = sym yes ∙ other in
    cc

others_from : (before : List OutcomeFound) (o : OutcomeFound) (more : List OutcomeFound) (there : Bool) → has_end o.end before ≡ there
    → AllPairs HasOtherEnd (printed_of ByEnd (before ++ o ∷ []) more) → AllPairs HasOtherEnd (printed_of ByEnd before (o ∷ more))
others_from before o more true is rest = subst (AllPairs HasOtherEnd) (sym (first_left_out before o more is)) rest
others_from before o more false is rest =
    let os = printed_of ByEnd (before ++ o ∷ []) more in
    subst (AllPairs HasOtherEnd) (sym (first_printed before o more is))
    (with_others o os
    (λ k d lt. not_that o (get_or os k d) (new_before (get_or os k d).end before o (all_new (before ++ o ∷ []) more k d lt)).1)
    rest)

all_others : (before os : List OutcomeFound) → AllPairs HasOtherEnd (printed_of ByEnd before os)
all_others before [] = λ i j d lt within. absurd (omega arith)
all_others before (o ∷ more) = others_from before o more (has_end o.end before) refl (all_others (before ++ o ∷ []) more)

pub no_end_is_printed_twice : (os : List OutcomeFound) → AllPairs HasOtherEnd (printed ByEnd os)
no_end_is_printed_twice os = all_others [] os
