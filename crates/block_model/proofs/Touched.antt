-- A sequence is dropped only where something touched what its area named: the area, the descriptor or the signature (rseq(2)).
use Rattle.block_model.proofs.Common.{◌≡◌, ℕ, ◌⊎◌, inl, inr, List, [], refl, sym, ap, ◌∙◌, arith, Bool, true, false, Option, Some, None, Area, Bytes, History, IsRunHistory, Named, Saved, Seq, Sequence, Setting, WasTouched, area_of, before_last, false≢true, file, hanging, has_died, here_in_history, is_inside, is_inside_at, is_inside_here, is_inside_named, is_inside_waiting, kernel, memory, moved_out, named, not-false, option_map_or, running, sequence_on, touched_in, view, watched_at}
use Rattle.mach_types.specs.declared.sequences.Named.TheVariants as names
use Rattle.block_model.specs.Acts.{named_at}
use Rattle.block_model.specs.Sequences.{named_here}
use Rattle.block_model.specs.Whole.{watched_of}
use Rattle.block_model.proofs.NamedSequences.{named_stays}
use Rattle.block_model.proofs.Sequences.{runs_throughout}
use Rattle.block_model.proofs.TouchedHanging.{IsHanging, hangs_since}
use Rattle.block_model.proofs.TouchedPlaces.{AgreeAll, AreSmall, IsSince, agree_since, agree_twice, since_count, since_last}

-- WHAT IS NAMED WHERE A THREAD IS INSIDE

-- the area of thread t on hart h names a good sequence, in which the thread is
record NamesGood (s : Setting) (h t : ℕ) (place : History) : Type 0 where
  area : Area
  good : Seq
  registered : area_of t (kernel s place).areas ≡ Some area
  names_it : named (view (here_in_history s place h)) area (file s t place).pc ≡ names.Good good
  inside : is_inside good (file s t place).pc ≡ true

module _ (s : Setting) (h t : ℕ) (place : History) where
  by_named : (area : Area) (n : Named) → area_of t (kernel s place).areas ≡ Some area
      → named (view (here_in_history s place h)) area (file s t place).pc ≡ n → is_inside_named n (file s t place).pc ≡ true → NamesGood s h t place
  by_named area (names.Good g) registered is inside = record { area = area; good = g; registered = registered; names_it = is; inside = inside }
  by_named area other registered is inside = absurd (false≢true inside)

  by_area : (o : Option Area) → area_of t (kernel s place).areas ≡ o
      → is_inside_named (option_map_or (λ area. named (view (here_in_history s place h)) area (file s t place).pc) o names.Nothing) (file s t place).pc ≡ true
      → NamesGood s h t place
  by_area None registered inside = absurd (false≢true inside)
  by_area (Some area) registered inside = by_named area (named (view (here_in_history s place h)) area (file s t place).pc) registered refl inside

  names_good : running s h place ≡ Some t → is_inside_at s h place ≡ true → NamesGood s h t place
  names_good at inside =
      by_area (area_of t (kernel s place).areas) refl
      (sym (ap (λ (r : Option ℕ). option_map_or (is_inside_here (here_in_history s place h)) r false) at) ∙ inside)

  -- what a place names, by what is named there
  named_by_area : (area : Area) (g : Seq) → running s h place ≡ Some t → area_of t (kernel s place).areas ≡ Some area
      → named (view (here_in_history s place h)) area (file s t place).pc ≡ names.Good g → named_at s h place ≡ names.Good g
  named_by_area area g at registered is =
      ap (λ (r : Option ℕ). option_map_or (named_here (here_in_history s place h)) r names.Nothing) at
      ∙ ap (λ (o : Option Area). option_map_or (λ area. named (view (here_in_history s place h)) area (file s t place).pc) o names.Nothing) registered
      ∙ is

  inside_by_area : (area : Area) (g : Seq) → running s h place ≡ Some t → area_of t (kernel s place).areas ≡ Some area
      → named (view (here_in_history s place h)) area (file s t place).pc ≡ names.Good g → is_inside_at s h place ≡ is_inside g (file s t place).pc
  inside_by_area area g at registered is =
      ap (λ (r : Option ℕ). option_map_or (is_inside_here (here_in_history s place h)) r false) at
      ∙ ap (λ (o : Option Area). is_inside_named (option_map_or (λ area. named (view (here_in_history s place h)) area (file s t place).pc) o names.Nothing) (file s t place).pc) registered
      ∙ ap (λ (n : Named). is_inside_named n (file s t place).pc) is

  -- the bytes that are watched
  watched_is : (is : NamesGood s h t place) → running s h place ≡ Some t
      → watched_at s h t place ≡ watched_of (view (here_in_history s place h)) is.area (names.Good is.good)
  watched_is is at =
      ap (λ (o : Option Area). option_map_or (λ area. watched_of (view (here_in_history s place h)) area (named_at s h place)) o []) is.registered
      ∙ ap (watched_of (view (here_in_history s place h)) is.area) (named_by_area is.area is.good at is.registered is.names_it)

  abbrev watched : NamesGood s h t place → List Bytes
  watched is = watched_of (view (here_in_history s place h)) is.area (names.Good is.good)

  small_watched : (is : NamesGood s h t place) → AreSmall (watched is)
  small_watched is = (omega arith, (omega arith, (omega arith, tt)))

  -- where these bytes are as they were the same is named, at each pc
  still_named : (is : NamesGood s h t place) (byte : ℕ → Option ℕ) (pc : ℕ) → AgreeAll (view (here_in_history s place h)) byte (watched is)
      → named byte is.area pc ≡ names.Good is.good
  still_named is byte pc agree =
      named_stays (view (here_in_history s place h)) byte is.area is.good agree.0 agree.1.0 agree.1.1.0 (file s t place).pc pc is.names_it is.inside

-- SINCE THE LAST EVENT OF A SEQUENCE

module _ (s : Setting) (before : History) (h : ℕ) (q : Sequence) (run : IsRunHistory s before) (newest : sequence_on s h before ≡ Some q) where
  since : IsSince s before h q
  since = since_last s before h q run newest

  at_last : NamesGood s h q.thread (before_last q)
  at_last = names_good s h q.thread (before_last q) since.runs since.inside

  abbrev watched_last : List Bytes
  watched_last = watched s h q.thread (before_last q) at_last

  -- what is watched is not touched
  abbrev IsClear : Type 0
  IsClear = touched_in s (since_count q before) before watched_last ≡ false

  agree_now : IsClear → AgreeAll (view (here_in_history s (before_last q) h)) (view (here_in_history s before h)) watched_last
  agree_now clear = agree_since s before h q run newest watched_last (small_watched s h q.thread (before_last q) at_last) clear

  area_now : area_of q.thread (kernel s before).areas ≡ Some at_last.area
  area_now = since.same_area ∙ at_last.registered

  inside_now : IsClear → is_inside_at s h before ≡ is_inside at_last.good (file s q.thread before).pc
  inside_now clear =
      inside_by_area s h q.thread before at_last.area at_last.good (runs_throughout s before h q run newest).now area_now
      (still_named s h q.thread (before_last q) at_last (view (here_in_history s before h)) (file s q.thread before).pc (agree_now clear))

  -- the thread stayed inside: its last instruction did, or its last event left the pc
  stayed_by : (q.last_instruction ≡ before_last q) ⊎ (file s q.thread q.reached ≡ file s q.thread (before_last q))
      → is_inside_named (named_at s h q.last_instruction) (file s q.thread q.reached).pc ≡ true → is_inside at_last.good (file s q.thread q.reached).pc ≡ true
  stayed_by (inl last) stays =
      sym (ap (λ (b : History). is_inside_named (named_at s h b) (file s q.thread q.reached).pc) last
      ∙ ap (λ (n : Named). is_inside_named n (file s q.thread q.reached).pc)
      (named_by_area s h q.thread (before_last q) at_last.area at_last.good since.runs at_last.registered at_last.names_it)) ∙ stays
  stayed_by (inr same) stays = ap (λ (f : Saved). is_inside at_last.good f.pc) same ∙ at_last.inside

  stayed : IsClear → is_inside_named (named_at s h q.last_instruction) (file s q.thread q.reached).pc ≡ true → is_inside_at s h before ≡ true
  stayed clear stays =
      inside_now clear ∙ ap (λ (f : Saved). is_inside at_last.good f.pc) since.same_file ∙ stayed_by since.last stays

  touched_by : (b : Bool) → touched_in s (since_count q before) before watched_last ≡ b → is_inside_at s h before ≡ false
      → is_inside_named (named_at s h q.last_instruction) (file s q.thread q.reached).pc ≡ true → b ≡ true
  touched_by true is out stays = refl
  touched_by false is out stays = sym out ∙ stayed is stays

  touched_now : is_inside_at s h before ≡ false → is_inside_named (named_at s h q.last_instruction) (file s q.thread q.reached).pc ≡ true
      → touched_in s (since_count q before) before (watched_at s h q.thread (before_last q)) ≡ true
  touched_now out stays =
      ap (touched_in s (since_count q before) before) (watched_is s h q.thread (before_last q) at_last since.runs)
      ∙ touched_by (touched_in s (since_count q before) before watched_last) refl out stays

-- a sequence of a hart that is dropped
pub dropped_is_touched : (s : Setting) (before : History) (h : ℕ) (q : Sequence) → IsRunHistory s before → sequence_on s h before ≡ Some q
    → has_died q ≡ false → is_inside_at s h before ≡ false → moved_out s q ≡ false → WasTouched s before q
dropped_is_touched s before h q run newest lives out stays =
    let hart = (runs_throughout s before h q run newest).hart in
    touched_now s before q.hart q run (ap (λ k. sequence_on s k before) hart ∙ newest) (ap (λ k. is_inside_at s k before) hart ∙ out) (not-false _ stays)

-- SINCE A PREEMPTION

module _ (s : Setting) (before : History) (t : ℕ) (q : Sequence) (hangs : IsHanging s before t q) where
  abbrev last_names : NamesGood s q.hart q.thread (before_last q)
  last_names = at_last s hangs.place q.hart q hangs.run hangs.newest

  abbrev watched_hanging : List Bytes
  watched_hanging = watched s q.hart q.thread (before_last q) last_names

  module _ (clear : touched_in s (since_count q before) before watched_hanging ≡ false) where
    parts : (touched_in s (since_count q hangs.place) hangs.place watched_hanging ≡ false)
        × AgreeAll (view (here_in_history s hangs.place q.hart)) (memory (here_in_history s before q.hart)) watched_hanging
    parts = hangs.agree watched_hanging (small_watched s q.hart q.thread (before_last q) last_names) clear

    agree_memory : AgreeAll (view (here_in_history s (before_last q) q.hart)) (memory (here_in_history s before q.hart)) watched_hanging
    agree_memory =
        agree_twice (view (here_in_history s (before_last q) q.hart)) (view (here_in_history s hangs.place q.hart)) (memory (here_in_history s before q.hart)) watched_hanging
        (agree_now s hangs.place q.hart q hangs.run hangs.newest parts.0) parts.1

    -- the thread is inside where it was preempted, and keeps its file
    inside_there : is_inside last_names.good (file s t before).pc ≡ true
    inside_there =
        ap (λ (f : Saved). is_inside last_names.good f.pc) (hangs.same_file ∙ ap (λ u. file s u hangs.place) (sym hangs.thread))
        ∙ sym (inside_now s hangs.place q.hart q hangs.run hangs.newest parts.0) ∙ hangs.inside

    area_there : area_of t (kernel s before).areas ≡ Some last_names.area
    area_there =
        hangs.same_area ∙ ap (λ u. area_of u (kernel s hangs.place).areas) (sym hangs.thread)
        ∙ area_now s hangs.place q.hart q hangs.run hangs.newest

    inside_waiting : (h : ℕ) → is_inside_waiting (here_in_history s before h) t ≡ true
    inside_waiting h =
        ap (λ (o : Option Area). is_inside_named (option_map_or (λ area. named (memory (here_in_history s before h)) area (file s t before).pc) o names.Nothing) (file s t before).pc) area_there
        ∙ ap (λ (n : Named). is_inside_named n (file s t before).pc)
        (still_named s q.hart q.thread (before_last q) last_names (memory (here_in_history s before h)) (file s t before).pc agree_memory)
        ∙ inside_there

  hanging_touched_by : (h : ℕ) (b : Bool) → touched_in s (since_count q before) before watched_hanging ≡ b
      → is_inside_waiting (here_in_history s before h) t ≡ false → b ≡ true
  hanging_touched_by h true is out = refl
  hanging_touched_by h false is out = sym out ∙ inside_waiting is h

  hanging_touched : (h : ℕ) → is_inside_waiting (here_in_history s before h) t ≡ false → WasTouched s before q
  hanging_touched h out =
      ap (touched_in s (since_count q before) before)
      (watched_is s q.hart q.thread (before_last q) last_names (since s hangs.place q.hart q hangs.run hangs.newest).runs)
      ∙ hanging_touched_by h (touched_in s (since_count q before) before watched_hanging) refl out

-- a sequence that hangs and is dropped
pub hanging_is_touched : (s : Setting) (before : History) (t h : ℕ) (q : Sequence) → IsRunHistory s before → hanging s t before ≡ Some q
    → running s h before ≡ None → is_inside_waiting (here_in_history s before h) t ≡ false → WasTouched s before q
hanging_is_touched s before t h q run hang idle out = hanging_touched s before t q (hangs_since s before t q run hang) h out
