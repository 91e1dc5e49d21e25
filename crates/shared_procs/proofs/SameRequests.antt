-- Both processes of a pair see the same requests of barriers, and count the same events: as many as the log has entries.
use Rattle.block_model.specs.Requests.{requests_after, restart_after}
use Rattle.shared_procs.proofs.Common.{◌≡◌, ℕ, suc, ◌+◌, Bool, true, false, List, [], ◌∷◌, length, fold, refl, ap, ◌∙◌, arith, apply_two, Done, Entry, event_two, Pair, pair_after, pair_history, PairHistory, PairSetting}

pub record AreAlike (m : Pair) : Type 0 where
  pub requests : (k : ℕ) → m.first.requests k ≡ m.second.requests k
  pub restart : (k : ℕ) → m.first.restart k ≡ m.second.restart k
  pub first : m.first.made ≡ m.made
  pub second : m.second.made ≡ m.made

-- an event of either changes them alike
alike_next : (h : ℕ) (p : Bool) (d : Done) (m : Pair) → AreAlike m → AreAlike (apply_two h p d m)
alike_next h true d m are = record {
  requests = λ k. ap (requests_after k h d) (are.requests k);
  restart = λ k. ap (restart_after k h d) (are.restart k);
  first = ap suc are.first;
  second = ap suc are.second;
}
alike_next h false d m are = record {
  requests = λ k. ap (requests_after k h d) (are.requests k);
  restart = λ k. ap (restart_after k h d) (are.restart k);
  first = ap suc are.first;
  second = ap suc are.second;
}

pub alike_after : (s : PairSetting) (before : PairHistory) → AreAlike (pair_after s before)
alike_after s [] = record { requests = λ k. refl; restart = λ k. refl; first = refl; second = refl }
alike_after s (e ∷ before) = alike_next e.entry.hart.0 e.process e.done (pair_after s before) (alike_after s before)

-- as many events were made as the log has entries
more_made : (s : PairSetting) (log : List Entry) (before : PairHistory)
    → length log + (pair_after s before).made ≡ (pair_after s (fold (λ (past : PairHistory) (e : Entry). event_two s past e ∷ past) before log)).made
more_made s [] before = omega arith
more_made s (e ∷ log) before =
    let one : suc (length log) + (pair_after s before).made ≡ length log + suc (pair_after s before).made = omega arith in
    one ∙ more_made s log (event_two s before e ∷ before)

pub made_is : (s : PairSetting) (log : List Entry) → length log ≡ (pair_after s (pair_history s log)).made
unfolding pair_history
made_is s log =
    let none : length log ≡ length log + 0 = omega arith in
    none ∙ more_made s log []
