-- What holds while `fetch` goes on.
use Rattle.std.proofs.Common.{◌≡◌, ℕ, ◌≤◌, ◌++◌, ◌∙◌, List, Option, Some, None, IfSome, length, Bool, true, arith}
use Rattle.std.proofs.lemmas.Grind.{common_steps}
use Rattle.outside.specs.Counts.{NoneFalls}
use Rattle.outside.specs.Told.{Moved}
use Rattle.outside.proofs.Rises.{none_falls-then}

-- the file is started, `bytes` were moved out of it, the files are as they were and no count fell
pub record IsFetching (file file' : List ℕ → Option (List ℕ)) (is_started : Bool) (started left : Option (List ℕ)) (faults faults' : List ℕ → ℕ) (name bytes : List ℕ) (limit : ℕ) : Type 0 where
  pub within : length bytes ≤ limit
  pub is_on : is_started ≡ true
  pub named : IfSome started (λ n. n ≡ name)
  pub moved : Moved (file name) left bytes
  pub files : file' ≡ file
  pub counts : NoneFalls faults faults'

-- these bytes were moved, and then those
pub moved-then : (a b c : Option (List ℕ)) (xs ys : List ℕ) → Moved a b xs → Moved b c ys → Moved a c (xs ++ ys)
moved-then None b c xs ys first second = tt
moved-then (Some xa) None c xs ys first second = absurd first
moved-then (Some xa) (Some xb) None xs ys first second = absurd second
moved-then (Some xa) (Some xb) (Some xc) xs ys first second = grind (arith, common_steps)

-- one piece more
pub fetching-more : (file file' file'' : List ℕ → Option (List ℕ)) (is_started is_started' : Bool) (started started' left left' : Option (List ℕ)) (faults faults' faults'' : List ℕ → ℕ) (name bytes bytes' piece : List ℕ) (limit : ℕ) → IsFetching file file' is_started started left faults faults' name bytes limit → bytes' ≡ bytes ++ piece → length bytes' ≤ limit → Moved left left' piece → is_started' ≡ true → started' ≡ started → file'' ≡ file' → NoneFalls faults' faults'' → IsFetching file file'' is_started' started' left' faults faults'' name bytes' limit
fetching-more file file' file'' is_started is_started' started started' left left' faults faults' faults'' name bytes bytes' piece limit before appended fits moved is_on named files counts = record {
  within = fits;
  is_on = is_on;
  named = rw named before.named;
  moved = rw appended (moved-then (file name) left left' bytes piece before.moved moved);
  files = files ∙ before.files;
  counts = none_falls-then faults faults' faults'' before.counts counts;
}
