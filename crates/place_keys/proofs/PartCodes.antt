-- The words of parts tell them, and so the place at which they stand.
use Rattle.std.proofs.Common.{◌≡◌, ℕ, List, [], ◌∷◌, ◌++◌, map, slice_get, sym, ap, ◌∙◌, append_assoc, Contains, subst}
use Rattle.std.specs.Option.{option_map}
use Rattle.std.proofs.lemmas.Option.{same_Some, slice_get-map}
use Rattle.hart_state.specs.declared.hart.HartState.{HartState}
use Rattle.page_map.specs.Map.{Map}
use Rattle.kernel_threads.specs.Table.{Table, saved_of}
use Rattle.sys_calls.specs.declared.kernel.Kernel.{Kernel}
use Rattle.sys_calls.specs.Registered.{areas_by_number}
use Rattle.block_model.specs.Plain.{Plain}
use Rattle.block_model.specs.Setting.{Setting}
use Rattle.process.specs.Refinement.{IsTied}
use Rattle.process.specs.declared.parts.Parts.{Parts}
use Rattle.same_places.specs.Places.{IsSamePlace, hart_seen, rested, rests}
use Rattle.same_places.proofs.Laws.{has_kept, same_but_counts}
use Rattle.same_places.specs.Replayed.{StandAfter}
use Rattle.same_places.specs.Searched.{LeadsBack}
use Rattle.same_places.specs.Trying.{IsLonger}
use Rattle.mach_types.specs.declared.events.Choice.{Choice}
use Rattle.mach_types.specs.declared.events.Entry.{Entry}
unfoldable use Rattle.block_model.specs.Plain.{plain_after}
use Rattle.place_keys.proofs.Alike.{AreAlike, HoldSameTables, uncounted}
use Rattle.place_keys.specs.HartWords.{hart_words}
use Rattle.place_keys.specs.PageWords.{pages_words}
use Rattle.place_keys.specs.PartWords.{kernel_words, parts_words}
use Rattle.place_keys.specs.TableWords.{area_words, end_words, ready_words, registered_words, signals_words, threads_words}
use Rattle.place_keys.specs.Words.{of_list, of_option, word}
use Rattle.place_keys.proofs.Codes.{after, option_key, whole_key, word_key}
use Rattle.place_keys.proofs.HartCodes.{harts_key}
use Rattle.place_keys.proofs.PageCodes.{pages_key}
use Rattle.place_keys.proofs.TableCodes.{areas_key, end_key, ready_key, registered_key, signals_key, threads_key}

-- what follows each table
abbrev past_registered : Kernel → List ℕ
past_registered k = of_list word k.console ++ word k.random

abbrev past_areas : Kernel → List ℕ
past_areas k = registered_words k.registered ++ past_registered k

abbrev past_ready : Kernel → List ℕ
past_ready k = of_list area_words (areas_by_number k.areas.items) ++ past_areas k

abbrev past_signals : Kernel → List ℕ
past_signals k = ready_words k.ready ++ past_ready k

abbrev past_threads : Kernel → List ℕ
past_threads k = signals_words k.signals ++ past_signals k

kernel_key : (k j : Kernel) (x y : List ℕ) → kernel_words k ++ x ≡ kernel_words j ++ y → HoldSameTables k j × (x ≡ y)
kernel_key k j x y e =
    let threads = after (λ z. z) threads_words threads_key k.threads j.threads (past_threads k) (past_threads j) x y e in
    let signals = after (λ z. z) signals_words signals_key k.signals j.signals (past_signals k) (past_signals j) x y threads.1 in
    let ready = after (λ z. z) ready_words ready_key k.ready j.ready (past_ready k) (past_ready j) x y signals.1 in
    let areas = after (λ z. z) (of_list area_words) areas_key (areas_by_number k.areas.items) (areas_by_number j.areas.items) (past_areas k) (past_areas j) x y ready.1 in
    let registered = after (λ z. z) registered_words registered_key k.registered j.registered (past_registered k) (past_registered j) x y areas.1 in
    let console = after (λ z. z) (of_list word) (whole_key word word_key) k.console j.console (word k.random) (word j.random) x y registered.1 in
    let random = word_key k.random j.random x y console.1 in (
      record { threads = threads.0; signals = signals.0; ready = ready.0; areas = areas.0; registered = registered.0; console = console.0; random = random.0 },
      random.1,
    )

pub parts_alike : (start : Map) (m m' : Parts) → parts_words start m ≡ parts_words start m' → AreAlike m m'
parts_alike start m m' e =
    let f = ap (λ (ws : List ℕ). ws ++ []) e in
    let harts = after (map uncounted) (of_list hart_words) harts_key m.harts.items m'.harts.items
    (pages_words start m.pages ++ (kernel_words m.kernel ++ of_option end_words m.ended)) (pages_words start m'.pages ++ (kernel_words m'.kernel ++ of_option end_words m'.ended)) [] [] f in
    let pages = pages_key start m.pages m'.pages ((kernel_words m.kernel ++ of_option end_words m.ended) ++ []) ((kernel_words m'.kernel ++ of_option end_words m'.ended) ++ [])
    (sym (append_assoc (pages_words start m.pages) (kernel_words m.kernel ++ of_option end_words m.ended) []) ∙ harts.1
    ∙ append_assoc (pages_words start m'.pages) (kernel_words m'.kernel ++ of_option end_words m'.ended) []) in
    let kernel = kernel_key m.kernel m'.kernel (of_option end_words m.ended ++ []) (of_option end_words m'.ended ++ [])
    (sym (append_assoc (kernel_words m.kernel) (of_option end_words m.ended) []) ∙ pages.1 ∙ append_assoc (kernel_words m'.kernel) (of_option end_words m'.ended) []) in
    let ended = option_key end_words end_key m.ended m'.ended [] [] kernel.1 in
    record { harts = harts.0; pages = pages.0; kernel = kernel.0; ended = ended.0 }

-- the harts of two lists that are alike
alike_at : (xs ys : List HartState) (n : ℕ) → map uncounted xs ≡ map uncounted ys → option_map uncounted (slice_get xs n) ≡ option_map uncounted (slice_get ys n)
alike_at xs ys n e = sym (slice_get-map uncounted xs n) ∙ ap (λ (zs : List HartState). slice_get zs n) e ∙ slice_get-map uncounted ys n

pub alike_same : (m m' : Parts) (s : Setting) (p q : Plain) → AreAlike m m' → IsTied s p m → IsTied s q m' → IsSamePlace s p q
alike_same m m' s p q alike first second = record {
  harts = λ h lt.
      same_Some (hart_seen s q h) (hart_seen s p h)
      (ap (option_map uncounted) (sym (second.harts h lt)) ∙ sym (alike_at m.harts.items m'.harts.items h alike.harts) ∙ ap (option_map uncounted) (first.harts h lt));
  files = λ t kept.
      let there = has_kept t m.kernel.threads first.table (ap (rests t) first.tables.threads ∙ kept) in
      sym (second.saved t there.file (ap (λ (table : Table). saved_of t table.saved) (sym alike.kernel.threads) ∙ there.at)) ∙ first.saved t there.file there.at;
  pages = record {
    permissions = λ n. sym (second.pages.permissions n) ∙ sym (alike.pages.permissions n) ∙ first.pages.permissions n;
    bytes = λ a. sym (second.pages.held a) ∙ sym (alike.pages.held a) ∙ first.pages.held a;
    free = sym second.pages.free ∙ sym alike.pages.free ∙ first.pages.free;
    break_at = sym second.pages.break_at ∙ sym alike.pages.break_at ∙ first.pages.break_at;
  };
  tables = record {
    threads = sym second.tables.threads ∙ ap (λ (table : Table). table.threads) (sym alike.kernel.threads) ∙ first.tables.threads;
    signals = sym second.tables.signals ∙ sym alike.kernel.signals ∙ first.tables.signals;
    scheduling = sym second.tables.scheduling ∙ sym alike.kernel.ready ∙ first.tables.scheduling;
    areas = sym second.tables.areas ∙ sym alike.kernel.areas ∙ first.tables.areas;
    barriers = sym second.tables.barriers ∙ sym alike.kernel.registered ∙ first.tables.barriers;
    console = sym second.tables.console ∙ sym alike.kernel.console ∙ first.tables.console;
    random = sym second.tables.random ∙ sym alike.kernel.random ∙ first.tables.random;
  };
  over = sym second.ended ∙ sym alike.ended ∙ first.ended;
}

pub same_words_same : (start : Map) (m other : Parts) (s : Setting) (p q : Plain) → parts_words start m ≡ parts_words start other → IsTied s p m → IsTied s q other → IsSamePlace s p q
same_words_same start m other s p q e first second = alike_same m other s p q (parts_alike start m other e) first second

-- a place after an event, whose parts have the words of one that was visited, leads back to it
pub leads_back : (start : Map) (m other_parts : Parts) (s : Setting) (logs : List (List Entry)) (log other : List Entry) (h : ℕ) (c : Choice) (e : Entry) → IsLonger s log h c e m → Contains logs other
    → StandAfter s other other_parts → parts_words start other_parts ≡ parts_words start m → LeadsBack s logs log h c
leads_back start m other_parts s logs log other h c e new visited stands words =
    let same = same_words_same start other_parts m s (rested (plain_after s other)) (rested (plain_after s (log ++ e ∷ []))) words stands new.stands in
    let counted = same_but_counts s (plain_after s other) (plain_after s (log ++ e ∷ [])) (rested (plain_after s other)) (rested (plain_after s (log ++ e ∷ []))) same in
    record { other = other; visited = visited; same = subst (IsSamePlace s (plain_after s other)) new.next counted }
