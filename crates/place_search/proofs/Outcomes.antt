-- Outcomes that are noted.
use Rattle.std.proofs.Common.{◌≡◌, ℕ, zero, suc, ◌<◌, Bool, true, false, ◌||◌, ◌&&◌, List, [], ◌∷◌, ◌++◌, length, get_or, refl, sym, ap, ◌∙◌, subst, arith, inl, inr, All, Contains, bytes_eq, append-nil}
use Rattle.std.specs.List.{list_any}
use Rattle.std.proofs.lemmas.List.Elements.{All-push, Contains-append_left, Contains-get_or, Contains-push}
use Rattle.std.proofs.lemmas.List.Quantifiers.{all_pairs_push}
use Rattle.std.proofs.lemmas.Slice.Eq.{bytes_eq-Decides}
use Rattle.mach_types.specs.declared.events.Entry.{Entry}
use Rattle.mach_types.specs.declared.limits.End.{End}
use Rattle.found_outcomes.specs.Found.{AreDifferent, HasBeenFound, IsOther, same_end}
use Rattle.found_outcomes.specs.declared.findings.OutcomeFound.{OutcomeFound}
use Rattle.found_outcomes.proofs.Laws.{end_is, end_same}
use Rattle.place_search.specs.Ends.{AreNoted, is_so}

-- TESTS

both : (a b : Bool) → (a && b) ≡ true → (a ≡ true) × (b ≡ true)
both true true is = (refl, refl)
both true false is = (refl, is)
both false b is = (is, absurd cc)

either_true : (a b : Bool) (Q : Type 0) → (a || b) ≡ true → (a ≡ true → Q) → (b ≡ true → Q) → Q
either_true true b Q is first second = first refl
either_true false b Q is first second = second is

or_true : (b : Bool) → (b || true) ≡ true
or_true true = refl
or_true false = refl

so_is : (e : End) (console : List ℕ) (o : OutcomeFound) → is_so e console o ≡ true → (o.end ≡ e) × (o.console ≡ console)
so_is e console o is =
    let parts = both (same_end o.end e) (bytes_eq o.console console) is in
    (end_is o.end e parts.0, (bytes_eq-Decides o.console console).0 parts.1)

is_so_of : (e : End) (console : List ℕ) (o : OutcomeFound) → o.end ≡ e → o.console ≡ console → is_so e console o ≡ true
is_so_of e console o ends consoles =
    let first : same_end o.end e ≡ true = ap (λ (x : End). same_end x e) ends ∙ end_same e in
    let second : bytes_eq o.console console ≡ true = (bytes_eq-Decides o.console console).1 consoles in
    ap (λ (b : Bool). b && bytes_eq o.console console) first ∙ second

-- WHETHER ONE WAS FOUND

pub more_found : (os more : List OutcomeFound) (e : End) (console : List ℕ) → HasBeenFound os e console → HasBeenFound (os ++ more) e console
more_found os more e console found =
    record { outcome = found.outcome; among = Contains-append_left os more found.outcome found.among; end_is = found.end_is; console_is = found.console_is }

behind : (o : OutcomeFound) (os : List OutcomeFound) (x : OutcomeFound) → Contains os x → Contains (o ∷ os) x
behind o os x (k, lt, at) = (suc k, omega (arith, lt), at)

pub found_by : (e : End) (console : List ℕ) (os : List OutcomeFound) → list_any (is_so e console) os ≡ true → HasBeenFound os e console
found_by e console [] is = absurd cc
found_by e console (o ∷ os) is =
    either_true (is_so e console o) (list_any (is_so e console) os) (HasBeenFound (o ∷ os) e console) is
    (λ here. let same = so_is e console o here in record { outcome = o; among = (0, omega arith, refl); end_is = same.0; console_is = same.1 })
    (λ later. let found = found_by e console os later in
    record { outcome = found.outcome; among = behind o os found.outcome found.among; end_is = found.end_is; console_is = found.console_is })

any_at : (test : OutcomeFound → Bool) (os : List OutcomeFound) (k : ℕ) (o : OutcomeFound) → k < length os → get_or os k o ≡ o → test o ≡ true → list_any test os ≡ true
any_at test [] k o lt at is = absurd (omega arith)
any_at test (x ∷ os) zero o lt at is = ap (λ (b : Bool). b || list_any test os) (ap test at ∙ is)
any_at test (x ∷ os) (suc k) o lt at is = ap (λ (b : Bool). test x || b) (any_at test os k o (omega arith) at is) ∙ or_true (test x)

pub none_by : (e : End) (console : List ℕ) (os : List OutcomeFound) → list_any (is_so e console) os ≡ false → HasBeenFound os e console → ⊥
none_by e console os none found =
    let at = found.among in
    let any = any_at (is_so e console) os at.0 found.outcome at.1 at.2 (is_so_of e console found.outcome found.end_is found.console_is) in
    let bad : true ≡ false = sym any ∙ none in
    cc

-- WHAT IS NOTED

pub more_of : (e : End) (console : List ℕ) (log : List Entry) (os os' : List OutcomeFound) → AreNoted e console log os os' → (more : List OutcomeFound) × (os' ≡ os ++ more)
more_of e console log os os' (inl was) = ([], was.1 ∙ sym (append-nil os))
more_of e console log os os' (inr new) = (new.outcome ∷ [], new.items)

pub noted_found : (e : End) (console : List ℕ) (log : List Entry) (os os' : List OutcomeFound) → AreNoted e console log os os' → HasBeenFound os' e console
noted_found e console log os os' (inl was) = subst (λ (x : List OutcomeFound). HasBeenFound x e console) (sym was.1) was.0
noted_found e console log os os' (inr new) =
    subst (λ (x : List OutcomeFound). HasBeenFound x e console) (sym new.items)
    (record { outcome = new.outcome; among = Contains-push os new.outcome; end_is = new.end_is; console_is = new.console_is })

-- what holds of each outcome still does
pub noted_all : (P : OutcomeFound → Type 0) (e : End) (console : List ℕ) (log : List Entry) (os os' : List OutcomeFound) → All P os
    → ((o : OutcomeFound) → o.end ≡ e → o.console ≡ console → o.log.items ≡ log → P o) → AreNoted e console log os os' → All P os'
noted_all P e console log os os' all one (inl was) = subst (All P) (sym was.1) all
noted_all P e console log os os' all one (inr new) = subst (All P) (sym new.items) (All-push P os new.outcome all (one new.outcome new.end_is new.console_is new.log_is))

pub noted_different : (e : End) (console : List ℕ) (log : List Entry) (os os' : List OutcomeFound) → AreDifferent os → AreNoted e console log os os' → AreDifferent os'
noted_different e console log os os' all (inl was) = subst AreDifferent (sym was.1) all
noted_different e console log os os' all (inr new) =
    subst AreDifferent (sym new.items)
    (all_pairs_push IsOther os new.outcome all
    (λ k d lt ends consoles.
    new.new (record { outcome = get_or os k d; among = Contains-get_or os k d lt; end_is = ends ∙ new.end_is; console_is = consoles ∙ new.console_is })))
