-- An event that doesn't touch bytes leaves them as they are: in memory, and as each hart sees them.
use Rattle.block_model.proofs.Common.{◌≡◌, ℕ, ◌+◌, ◌-◌, ◌/◌, ◌≤◌, ◌<◌, ◌⊎◌, inl, inr, List, [], ◌∷◌, ◌++◌, drop, refl, sym, ap, ◌∙◌, subst, arith, Bool, true, false, cond, ◌&&◌, ◌||◌, eqb, leb, ltb, Option, Some, None, Bytes, Done, Event, Here, History, IsRunHistory, Kind, PAGE_SIZE, Setting, Store, Stored, Write, Zeroed, and_from, and_parts, append-nil, byte, byte_after, byte_over, can_read, cases_eq, done, drains, eqb-true, false≢true, here_in_history, kernel, leb-true, list_any, lt-ltb, ltb-true, meets, memory, not-false, option_map, or_parts, overlay, permission_at, permission_of, stores, touches, view, waiting, waiting_here, written}
use Rattle.block_model.specs.Whole.{changed_page, is_same, permission_changed, store_meets, write_meets}
use Rattle.block_model.proofs.PlainEvents.{drop_more}
use Rattle.block_model.proofs.EventEffects.{Drains, EventDeed, deed_of}
use Rattle.block_model.proofs.NamedSequences.{Agree}
use Rattle.block_model.proofs.Runs.{settled}

-- older stores, then younger ones
overlay_append : (a : ℕ) (vs us : List Store) (below : ℕ) → overlay (vs ++ us) a below ≡ overlay us a (overlay vs a below)
overlay_append a [] us below = refl
overlay_append a (v ∷ vs) us below = overlay_append a vs us (byte_over v a below)

-- two changes of a byte that may be missing
mapped_same : (f g : ℕ → ℕ) → ((n : ℕ) → f n ≡ g n) → (o p : Option ℕ) → o ≡ p → option_map f o ≡ option_map g p
mapped_same f g same o None is = ap (option_map f) is
mapped_same f g same o (Some n) is = ap (option_map f) is ∙ ap Some (same n)

-- A PERMISSION THAT STAYS

same_permission : (o p : Option ℕ) → is_same o p ≡ true → p ≡ o
same_permission None None is = refl
same_permission (Some m) (Some n) is = ap Some (sym (eqb-true m n is))
same_permission o p is = absurd (false≢true is)

kept_page : (s : Setting) (e : Event) (before : History) (page : ℕ) → permission_changed s e before page ≡ false
    → permission_of e.done.kernel.pages.runs page ≡ permission_of (kernel s before).pages.runs page
kept_page s e before page is =
    same_permission (permission_of (kernel s before).pages.runs page) (permission_of e.done.kernel.pages.runs page) (not-false _ is)

-- STORES AND WRITES THAT DON'T MEET BYTES

module _ (w : Bytes) (a : ℕ) (low : w.at ≤ a) (high : a < w.at + w.count) where
  -- what has the address meets the bytes
  met : (at n : ℕ) → (leb at a && ltb a (at + n)) ≡ true → meets w at n ≡ true
  met at n has =
      let parts = and_parts (leb at a) (ltb a (at + n)) has in
      let from = leb-true at a parts.0 in
      let to = ltb-true a (at + n) parts.1 in
      and_from (ltb at (w.at + w.count)) (ltb w.at (at + n)) (lt-ltb at (w.at + w.count) (omega arith)) (lt-ltb w.at (at + n) (omega arith))

  apart : (at n : ℕ) → meets w at n ≡ false → (leb at a && ltb a (at + n)) ≡ false
  apart at n none = go (leb at a && ltb a (at + n)) refl
    where
      go : (b : Bool) → (leb at a && ltb a (at + n)) ≡ b → b ≡ false
      go true has = absurd (false≢true (sym none ∙ met at n has))
      go false has = refl

  clear_store : (v : Store) (below : ℕ) → store_meets w v ≡ false → byte_over v a below ≡ below
  clear_store v below none = rw (apart v.at v.size none) refl

  clear_write : (v : Write) (below : ℕ) → write_meets w v ≡ false → byte_after v a below ≡ below
  clear_write (Stored v) below none = clear_store v below none
  clear_write (Zeroed at n) below none = rw (apart at n none) refl

  clear_stores : (vs : List Store) (below : ℕ) → list_any (store_meets w) vs ≡ false → overlay vs a below ≡ below
  clear_stores [] below none = refl
  clear_stores (v ∷ vs) below none =
      let parts = or_parts (store_meets w v) (list_any (store_meets w) vs) none in
      ap (overlay vs a) (clear_store v below parts.0) ∙ clear_stores vs below parts.1

  clear_writes : (vs : List Write) (below : ℕ) → list_any (write_meets w) vs ≡ false → written vs a below ≡ below
  clear_writes [] below none = refl
  clear_writes (v ∷ vs) below none =
      let parts = or_parts (write_meets w v) (list_any (write_meets w) vs) none in
      ap (written vs a) (clear_write v below parts.0) ∙ clear_writes vs below parts.1

  -- WAITING STORES

  -- what a hart sees past its waiting stores, after what an event did
  record IsSeen (here : Here) (d : Done) : Type 0 where
    seen : list_any (store_meets w) d.executed ≡ false → list_any (write_meets w) d.entered ≡ false
        → (below : ℕ) → overlay (drop d.drained (waiting_here here ++ d.executed)) a below ≡ overlay (waiting_here here) a below

  seen_still : (here : Here) (d : Done) → d.drained ≡ 0 → IsSeen here d
  seen_still here d none = record {
    seen = λ executed entered below.
        ap (λ n. overlay (drop n (waiting_here here ++ d.executed)) a below) none
        ∙ overlay_append a (waiting_here here) d.executed below
        ∙ clear_stores d.executed (overlay (waiting_here here) a below) executed;
  }

  -- only a drain takes a store from those that wait
  seen_deed : (here : Here) (tid : ℕ) {k : Kind} {d : Done} → EventDeed here tid k d → IsSeen here d
  seen_deed here tid (Drains v vs is) = record {
    seen = λ executed entered below.
        let parts = or_parts (store_meets w v) false entered in
        ap (λ (us : List Store). overlay (drop 1 (us ++ [])) a below) is ∙ ap (λ (us : List Store). overlay us a below) (append-nil vs)
        ∙ ap (overlay vs a) (sym (clear_store v below parts.0)) ∙ sym (ap (λ (us : List Store). overlay us a below) is);
  }
  seen_deed here tid deed = seen_still here _ refl

  -- PERMISSIONS

  first_or_last : w.count ≤ PAGE_SIZE → (a / PAGE_SIZE ≡ w.at / PAGE_SIZE) ⊎ (a / PAGE_SIZE ≡ (w.at + w.count - 1) / PAGE_SIZE)
  first_or_last few = elim (cases_eq (a / PAGE_SIZE) (w.at / PAGE_SIZE)) [ inl first ↦ inl first | inr past ↦ inr (omega arith) ]

  kept_permission : (s : Setting) (e : Event) (before : History) → w.count ≤ PAGE_SIZE → changed_page s e before w ≡ false
      → permission_at e.done.kernel.pages a ≡ permission_at (kernel s before).pages a
  kept_permission s e before few is =
      let parts = or_parts (permission_changed s e before (w.at / PAGE_SIZE)) (permission_changed s e before ((w.at + w.count - 1) / PAGE_SIZE)) is in
      elim (first_or_last few) [
        | inl first ↦
            ap (permission_of e.done.kernel.pages.runs) first ∙ kept_page s e before (w.at / PAGE_SIZE) parts.0
            ∙ sym (ap (permission_of (kernel s before).pages.runs) first)
        | inr last ↦
            ap (permission_of e.done.kernel.pages.runs) last ∙ kept_page s e before ((w.at + w.count - 1) / PAGE_SIZE) parts.1
            ∙ sym (ap (permission_of (kernel s before).pages.runs) last)
      ]

-- ONE EVENT OF A RUN

-- an event that doesn't touch bytes, by what could
record IsClear (s : Setting) (e : Event) (before : History) (w : Bytes) : Type 0 where
  executed : list_any (store_meets w) e.done.executed ≡ false
  entered : list_any (write_meets w) e.done.entered ≡ false
  pages : changed_page s e before w ≡ false

clear_of_touch : (s : Setting) (e : Event) (before : History) (w : Bytes) → touches s e before w ≡ false → IsClear s e before w
clear_of_touch s e before w none =
    let one = or_parts (list_any (store_meets w) e.done.executed || list_any (write_meets w) e.done.entered) (changed_page s e before w) none in
    let two = or_parts (list_any (store_meets w) e.done.executed) (list_any (write_meets w) e.done.entered) one.0 in
    record { executed = two.0; entered = two.1; pages = one.1 }

module _ (s : Setting) (e : Event) (before : History) (w : Bytes) (few : w.count ≤ PAGE_SIZE) (none : touches s e before w ≡ false) where
  byte_stays : (a : ℕ) → w.at ≤ a → a < w.at + w.count → byte s (e ∷ before) a ≡ byte s before a
  byte_stays a low high = clear_writes w a low high e.done.entered (byte s before a) (clear_of_touch s e before w none).entered

  memory_at : (h : ℕ) (a : ℕ) → w.at ≤ a → a < w.at + w.count → memory (here_in_history s (e ∷ before) h) a ≡ memory (here_in_history s before h) a
  memory_at h a low high =
      let permission = kept_permission w a low high s e before few (clear_of_touch s e before w none).pages in
      ap (λ (o : Option ℕ). cond (can_read o) (Some (byte s (e ∷ before) a)) None) permission
      ∙ ap (λ n. cond (can_read (permission_at (kernel s before).pages a)) (Some n) None) (byte_stays a low high)

  pub memory_stays : (h : ℕ) → Agree (memory (here_in_history s before h)) (memory (here_in_history s (e ∷ before) h)) w.at w.count
  memory_stays h = record { same = memory_at h }

  module _ (run : IsRunHistory s (e ∷ before)) where
    seen_done : (a : ℕ) (low : w.at ≤ a) (high : a < w.at + w.count) → IsSeen w a low high (here_in_history s before e.entry.hart.0) (done s before e.entry)
    unfolding done
    seen_done a low high =
        let here = here_in_history s before e.entry.hart.0 in
        seen_deed w a low high here e.entry.tid.0 (deed_of here e.entry.kind e.entry)

    seen_event : (a : ℕ) (low : w.at ≤ a) (high : a < w.at + w.count) → IsSeen w a low high (here_in_history s before e.entry.hart.0) e.done
    seen_event a low high =
        subst (λ (x : Event). IsSeen w a low high (here_in_history s before e.entry.hart.0) x.done) (sym run.2) (seen_done a low high)

    waits_own : (a : ℕ) → w.at ≤ a → a < w.at + w.count → (below : ℕ)
        → overlay (drop (drains e.entry.hart.0 before + e.done.drained) (stores e.entry.hart.0 before ++ e.done.executed)) a below ≡ overlay (waiting e.entry.hart.0 before) a below
    waits_own a low high below =
        let h = e.entry.hart.0 in
        let is = clear_of_touch s e before w none in
        ap (λ (vs : List Store). overlay vs a below) (drop_more (drains h before) e.done.drained (stores h before) e.done.executed ((settled s before run.0).counted h))
        ∙ (seen_event a low high).seen is.executed is.entered below

    waits_by : (h a : ℕ) → w.at ≤ a → a < w.at + w.count → (b : Bool) → eqb e.entry.hart.0 h ≡ b → (below : ℕ)
        → overlay (drop (cond b (drains h before + e.done.drained) (drains h before)) (cond b (stores h before ++ e.done.executed) (stores h before))) a below
        ≡ overlay (waiting h before) a below
    waits_by h a low high true own below =
        subst (λ k. overlay (drop (drains k before + e.done.drained) (stores k before ++ e.done.executed)) a below ≡ overlay (waiting k before) a below)
        (eqb-true e.entry.hart.0 h own) (waits_own a low high below)
    waits_by h a low high false other below = refl

    view_at : (h a : ℕ) → w.at ≤ a → a < w.at + w.count → view (here_in_history s (e ∷ before) h) a ≡ view (here_in_history s before h) a
    view_at h a low high =
        mapped_same (overlay (waiting h (e ∷ before)) a) (overlay (waiting h before) a) (waits_by h a low high (eqb e.entry.hart.0 h) refl)
        (memory (here_in_history s (e ∷ before) h) a) (memory (here_in_history s before h) a) (memory_at h a low high)

    pub view_stays : (h : ℕ) → Agree (view (here_in_history s before h)) (view (here_in_history s (e ∷ before) h)) w.at w.count
    view_stays h = record { same = view_at h }
