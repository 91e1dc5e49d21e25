-- Requests of barriers and the barriers that threads wait in, hart by hart: what holds of them at each place of a run, and that it goes
-- on to hold where a barrier begins, where a hart takes its requests, and where a barrier returns. No event occurs here.
use Rattle.block_model.proofs.Common.{◌≡◌, ◌≢◌, ℕ, ◌<◌, Bool, true, false, cond, eqb, Option, Some, None, inl, inr, refl, sym, ap, ◌∙◌, subst, arith, cond_both, eqb_same, eqb_tells, has_hart, ne_eqb, option_map, with_hart, without_hart}
use Rattle.block_model.proofs.HartSets.{none_in, with_hart-itself, with_hart-keeps, with_hart-other, without_hart-has, without_hart-other}

-- the barrier of hart h's thread waits for hart k
pub record IsAwaitedBy (awaits : ℕ → Option ℕ) (h k : ℕ) : Type 0 where
  pub left : ℕ
  pub waits : awaits h ≡ Some left
  pub in_left : has_hart left k ≡ true

-- where a barrier of hart h waits for hart k, its request is pending there, and k is another hart of the machine; each request that is
-- pending is one of a barrier that waits for it; where requests are pending, there is one; and barriers are waited in on a machine of
-- several harts alone
pub record IsAwaited (harts : ℕ) (requests : ℕ → ℕ) (awaits : ℕ → Option ℕ) : Type 0 where
  pub pending : (h left k : ℕ) → awaits h ≡ Some left → has_hart left k ≡ true → has_hart (requests k) h ≡ true
  pub other : (h left k : ℕ) → awaits h ≡ Some left → has_hart left k ≡ true → k ≢ h
  pub below : (h left k : ℕ) → awaits h ≡ Some left → has_hart left k ≡ true → k < harts
  pub awaited : (k h : ℕ) → has_hart (requests k) h ≡ true → IsAwaitedBy awaits h k
  pub asked : (k : ℕ) → requests k ≢ 0 → (h : ℕ) × (has_hart (requests k) h ≡ true)
  pub several : (h left : ℕ) → awaits h ≡ Some left → 1 < harts

-- at the start there is no barrier and no request
pub awaited_start : (harts : ℕ) → IsAwaited harts (λ k. 0) (λ h. None)
awaited_start harts = record {
  pending = λ h left k waits is. absurd cc;
  other = λ h left k waits is. absurd cc;
  below = λ h left k waits is. absurd cc;
  awaited = λ k h is. let no = none_in h in absurd cc;
  asked = λ k some. absurd (some refl);
  several = λ h left waits. absurd cc;
}

-- where requests stay, and each barrier that is waited in was, and goes on while it waits for some hart, it goes on to hold
awaited_fewer : (harts : ℕ) (requests requests2 : ℕ → ℕ) (awaits awaits2 : ℕ → Option ℕ) → IsAwaited harts requests awaits
    → ((k : ℕ) → requests2 k ≡ requests k) → ((h left : ℕ) → awaits2 h ≡ Some left → awaits h ≡ Some left)
    → ((h left k : ℕ) → awaits h ≡ Some left → has_hart left k ≡ true → awaits2 h ≡ Some left) → IsAwaited harts requests2 awaits2
awaited_fewer harts requests requests2 awaits awaits2 is same_requests was goes_on = record {
  pending = λ h left k waits has. ap (λ set. has_hart set h) (same_requests k) ∙ is.pending h left k (was h left waits) has;
  other = λ h left k waits has. is.other h left k (was h left waits) has;
  below = λ h left k waits has. is.below h left k (was h left waits) has;
  awaited = λ k h has.
      let its = is.awaited k h (ap (λ set. has_hart set h) (sym (same_requests k)) ∙ has) in
      record { left = its.left; waits = goes_on h its.left k its.waits its.in_left; in_left = its.in_left };
  asked = λ k some.
      let by = is.asked k (λ none. some (same_requests k ∙ none)) in
      (by.0, ap (λ set. has_hart set by.0) (same_requests k) ∙ by.1);
  several = λ h left waits. is.several h left (was h left waits);
}

-- so where nothing of it changes
pub awaited_same : (harts : ℕ) (requests requests2 : ℕ → ℕ) (awaits awaits2 : ℕ → Option ℕ) → IsAwaited harts requests awaits
    → ((k : ℕ) → requests2 k ≡ requests k) → ((k : ℕ) → awaits2 k ≡ awaits k) → IsAwaited harts requests2 awaits2
awaited_same harts requests requests2 awaits awaits2 is same_requests same_awaits =
    awaited_fewer harts requests requests2 awaits awaits2 is same_requests (λ h left waits. sym (same_awaits h) ∙ waits)
    (λ h left k waits has. same_awaits h ∙ waits)

-- the thread of hart h begins a barrier at other harts of the machine
module _ (harts h targets : ℕ) (requests requests2 : ℕ → ℕ) (awaits awaits2 : ℕ → Option ℕ) (is : IsAwaited harts requests awaits)
    (free : awaits h ≡ None)
    (two : 1 < harts)
    (others : (k : ℕ) → has_hart targets k ≡ true → k ≢ h)
    (within : (k : ℕ) → has_hart targets k ≡ true → k < harts)
    (now_requests : (k : ℕ) → requests2 k ≡ cond (has_hart targets k) (with_hart h (requests k)) (requests k))
    (now_awaits : (k : ℕ) → awaits2 k ≡ cond (eqb h k) (Some targets) (awaits k)) where
  -- what waits after it: the thread of the hart for its targets, and others as before
  own_awaits : awaits2 h ≡ Some targets
  own_awaits = now_awaits h ∙ ap (λ b. cond b (Some targets) (awaits h)) (eqb_same h)

  other_awaits : (j : ℕ) → j ≢ h → awaits2 j ≡ awaits j
  other_awaits j ne = now_awaits j ∙ ap (λ b. cond b (Some targets) (awaits j)) (ne_eqb h j (λ e. ne (sym e)))

  requests_stay : (j k : ℕ) → has_hart (requests k) j ≡ true → has_hart (requests2 k) j ≡ true
  requests_stay j k has =
      ap (λ set. has_hart set j) (now_requests k)
      ∙ cond_both (has_hart targets k) (with_hart h (requests k)) (requests k) (λ set. has_hart set j ≡ true)
      (λ about. with_hart-keeps h (requests k) j has) (λ about. has)

  own_request : (k : ℕ) → has_hart targets k ≡ true → has_hart (requests2 k) h ≡ true
  own_request k about =
      ap (λ set. has_hart set h) (now_requests k ∙ ap (λ b. cond b (with_hart h (requests k)) (requests k)) about)
      ∙ with_hart-itself h (requests k)

  begun_pending : (j left k : ℕ) → awaits2 j ≡ Some left → has_hart left k ≡ true → has_hart (requests2 k) j ≡ true
  begun_pending j left k waits has = elim (eqb_tells j h) [
    | inl p ↦
        let same : Some targets ≡ Some left = sym own_awaits ∙ ap awaits2 (sym p.1) ∙ waits in
        let left_is : targets ≡ left = cc in
        ap (has_hart (requests2 k)) p.1 ∙ own_request k (ap (λ set. has_hart set k) left_is ∙ has)
    | inr q ↦ requests_stay j k (is.pending j left k (sym (other_awaits j q.1) ∙ waits) has)
  ]

  begun_other : (j left k : ℕ) → awaits2 j ≡ Some left → has_hart left k ≡ true → k ≢ j
  begun_other j left k waits has = elim (eqb_tells j h) [
    | inl p ↦
        let same : Some targets ≡ Some left = sym own_awaits ∙ ap awaits2 (sym p.1) ∙ waits in
        let left_is : targets ≡ left = cc in
        subst (λ i. k ≢ i) (sym p.1) (others k (ap (λ set. has_hart set k) left_is ∙ has))
    | inr q ↦ is.other j left k (sym (other_awaits j q.1) ∙ waits) has
  ]

  begun_below : (j left k : ℕ) → awaits2 j ≡ Some left → has_hart left k ≡ true → k < harts
  begun_below j left k waits has = elim (eqb_tells j h) [
    | inl p ↦
        let same : Some targets ≡ Some left = sym own_awaits ∙ ap awaits2 (sym p.1) ∙ waits in
        let left_is : targets ≡ left = cc in
        within k (ap (λ set. has_hart set k) left_is ∙ has)
    | inr q ↦ is.below j left k (sym (other_awaits j q.1) ∙ waits) has
  ]

  -- a request that was pending before is awaited as before
  before_awaited : (k j : ℕ) → has_hart (requests k) j ≡ true → IsAwaitedBy awaits2 j k
  before_awaited k j has =
      let its = is.awaited k j has in
      elim (eqb_tells j h) [
        | inl p ↦ let bad : None ≡ Some its.left = sym free ∙ ap awaits (sym p.1) ∙ its.waits in absurd cc
        | inr q ↦ record { left = its.left; waits = other_awaits j q.1 ∙ its.waits; in_left = its.in_left }
      ]

  begun_awaited : (k j : ℕ) → has_hart (requests2 k) j ≡ true → IsAwaitedBy awaits2 j k
  begun_awaited k j has = go (has_hart targets k) refl (ap (λ set. has_hart set j) (sym (now_requests k)) ∙ has)
    where
      go : (b : Bool) → has_hart targets k ≡ b → has_hart (cond b (with_hart h (requests k)) (requests k)) j ≡ true → IsAwaitedBy awaits2 j k
      go false about has = before_awaited k j has
      go true about has = elim (eqb_tells j h) [
        | inl p ↦ record { left = targets; waits = ap awaits2 p.1 ∙ own_awaits; in_left = about }
        | inr q ↦ before_awaited k j (sym (with_hart-other h (requests k) j q.1) ∙ has)
      ]

  begun_asked : (k : ℕ) → requests2 k ≢ 0 → (j : ℕ) × (has_hart (requests2 k) j ≡ true)
  begun_asked k some = go (has_hart targets k) refl
    where
      go : (b : Bool) → has_hart targets k ≡ b → (j : ℕ) × (has_hart (requests2 k) j ≡ true)
      go true about = (h, own_request k about)
      go false about =
          let same : requests2 k ≡ requests k = now_requests k ∙ ap (λ b. cond b (with_hart h (requests k)) (requests k)) about in
          let by = is.asked k (λ none. some (same ∙ none)) in
          (by.0, requests_stay by.0 k by.1)

  pub awaited_begun : IsAwaited harts requests2 awaits2
  awaited_begun = record {
    pending = begun_pending;
    other = begun_other;
    below = begun_below;
    awaited = begun_awaited;
    asked = begun_asked;
    several = λ j left waits. two;
  }

-- hart h takes all that are pending there
module _ (harts h : ℕ) (requests requests2 : ℕ → ℕ) (awaits awaits2 : ℕ → Option ℕ) (is : IsAwaited harts requests awaits)
    (now_requests : (k : ℕ) → requests2 k ≡ cond (eqb h k) 0 (requests k))
    (now_awaits : (k : ℕ) → awaits2 k ≡ cond (eqb h k) (awaits k) (option_map (without_hart h) (awaits k))) where
  requests_elsewhere : (k : ℕ) → k ≢ h → requests2 k ≡ requests k
  requests_elsewhere k ne = now_requests k ∙ ap (λ b. cond b 0 (requests k)) (ne_eqb h k (λ e. ne (sym e)))

  requests_here : requests2 h ≡ 0
  requests_here = now_requests h ∙ ap (λ b. cond b 0 (requests h)) (eqb_same h)

  taken_several : (j left : ℕ) → awaits2 j ≡ Some left → 1 < harts
  taken_several j left waits = go (eqb h j) (awaits j) refl (sym (now_awaits j) ∙ waits)
    where
      go : (b : Bool) (o : Option ℕ) → awaits j ≡ o → cond b o (option_map (without_hart h) o) ≡ Some left → 1 < harts
      go true (Some all) was now = is.several j all was
      go false (Some all) was now = is.several j all was
      go b o was now = absurd cc

  -- a barrier that waits after it waited before, and for each hart that it waits for, but this one
  was_awaited : (j left k : ℕ) → awaits2 j ≡ Some left → has_hart left k ≡ true → (k ≢ h) × IsAwaitedBy awaits j k
  was_awaited j left k waits has = elim (eqb_tells h j) [
    | inl p ↦
        let own : awaits j ≡ Some left = sym (now_awaits j ∙ ap (λ b. cond b (awaits j) (option_map (without_hart h) (awaits j))) p.0) ∙ waits in
        (subst (λ i. k ≢ i) (sym p.1) (is.other j left k own has), record { left = left; waits = own; in_left = has })
    | inr q ↦ go (awaits j) refl (sym (now_awaits j ∙ ap (λ b. cond b (awaits j) (option_map (without_hart h) (awaits j))) q.0) ∙ waits)
  ]
    where
      go : (o : Option ℕ) → awaits j ≡ o → option_map (without_hart h) o ≡ Some left → (k ≢ h) × IsAwaitedBy awaits j k
      go None was now = absurd cc
      go (Some all) was now =
          let left_is : without_hart h all ≡ left = cc in
          let both = without_hart-has h all k (ap (λ set. has_hart set k) left_is ∙ has) in
          (both.0, record { left = all; waits = was; in_left = both.1 })

  -- and one that waited for another hart waits for it still
  still_awaited : (j k : ℕ) → k ≢ h → IsAwaitedBy awaits j k → IsAwaitedBy awaits2 j k
  still_awaited j k ne its = elim (eqb_tells h j) [
    | inl p ↦ record {
      left = its.left;
      waits = now_awaits j ∙ ap (λ b. cond b (awaits j) (option_map (without_hart h) (awaits j))) p.0 ∙ its.waits;
      in_left = its.in_left;
    }
    | inr q ↦ record {
      left = without_hart h its.left;
      waits = now_awaits j ∙ ap (λ b. cond b (awaits j) (option_map (without_hart h) (awaits j))) q.0 ∙ ap (option_map (without_hart h)) its.waits;
      in_left = without_hart-other h its.left k ne ∙ its.in_left;
    }
  ]

  taken_awaited : (k j : ℕ) → has_hart (requests2 k) j ≡ true → IsAwaitedBy awaits2 j k
  taken_awaited k j has = elim (eqb_tells k h) [
    | inl p ↦
        let no = none_in j in
        let yes = ap (λ set. has_hart set j) (sym (ap requests2 p.1 ∙ requests_here)) ∙ has in
        absurd cc
    | inr q ↦ still_awaited j k q.1 (is.awaited k j (ap (λ set. has_hart set j) (sym (requests_elsewhere k q.1)) ∙ has))
  ]

  taken_asked : (k : ℕ) → requests2 k ≢ 0 → (j : ℕ) × (has_hart (requests2 k) j ≡ true)
  taken_asked k some = elim (eqb_tells k h) [
    | inl p ↦ absurd (some (ap requests2 p.1 ∙ requests_here))
    | inr q ↦
        let by = is.asked k (λ none. some (requests_elsewhere k q.1 ∙ none)) in
        (by.0, ap (λ set. has_hart set by.0) (requests_elsewhere k q.1) ∙ by.1)
  ]

  pub awaited_taken : IsAwaited harts requests2 awaits2
  awaited_taken = record {
    pending = λ j left k waits has.
        let was = was_awaited j left k waits has in
        ap (λ set. has_hart set j) (requests_elsewhere k was.0) ∙ is.pending j was.1.left k was.1.waits was.1.in_left;
    other = λ j left k waits has. let was = was_awaited j left k waits has in is.other j was.1.left k was.1.waits was.1.in_left;
    below = λ j left k waits has. let was = was_awaited j left k waits has in is.below j was.1.left k was.1.waits was.1.in_left;
    awaited = taken_awaited;
    asked = taken_asked;
    several = taken_several;
  }

-- the barrier of hart h's thread, which waits for no hart any more, returns
module _ (harts h : ℕ) (requests requests2 : ℕ → ℕ) (awaits awaits2 : ℕ → Option ℕ) (is : IsAwaited harts requests awaits)
    (over : awaits h ≡ Some 0)
    (now_requests : (k : ℕ) → requests2 k ≡ requests k)
    (now_awaits : (k : ℕ) → awaits2 k ≡ cond (eqb h k) None (awaits k)) where
  was_waiting : (j left : ℕ) → awaits2 j ≡ Some left → awaits j ≡ Some left
  was_waiting j left waits = go (eqb h j) (sym (now_awaits j) ∙ waits)
    where
      go : (b : Bool) → cond b None (awaits j) ≡ Some left → awaits j ≡ Some left
      go true now = absurd cc
      go false now = now

  goes_on : (j left k : ℕ) → awaits j ≡ Some left → has_hart left k ≡ true → awaits2 j ≡ Some left
  goes_on j left k waits has = elim (eqb_tells h j) [
    | inl p ↦
        let same : Some 0 ≡ Some left = sym over ∙ ap awaits p.1 ∙ waits in
        let left_is : left ≡ 0 = cc in
        let no = none_in k in
        let yes = ap (λ set. has_hart set k) (sym left_is) ∙ has in
        absurd cc
    | inr q ↦ now_awaits j ∙ ap (λ b. cond b None (awaits j)) q.0 ∙ waits
  ]

  pub awaited_returned : IsAwaited harts requests2 awaits2
  awaited_returned = awaited_fewer harts requests requests2 awaits awaits2 is now_requests was_waiting goes_on

-- on a machine of one hart no thread waits in a barrier
pub alone_awaits : (requests : ℕ → ℕ) (awaits : ℕ → Option ℕ) (h : ℕ) → IsAwaited 1 requests awaits → awaits h ≡ None
alone_awaits requests awaits h is = go (awaits h) refl
  where
    go : (o : Option ℕ) → awaits h ≡ o → o ≡ None
    go None waits = refl
    go (Some left) waits = let two = is.several h left waits in absurd (omega arith)
