-- A hart as a list of words: all that is kept of it but its counts and its credit (own).
use Rattle.std.specs.Prelude.{ℕ, List, [], ◌∷◌, ◌++◌}
use Rattle.mach_types.specs.declared.events.Tid.{Tid}
use Rattle.mach_types.specs.declared.user_memory.Store.{Store}
use Rattle.hart_state.specs.declared.hart.HartState.{HartState}
use Rattle.place_keys.specs.Differences.{sparse_words}
use Rattle.place_keys.specs.Words.{of_bool, of_list, of_option, word}

abbrev pub store_words : Store → List ℕ
store_words w = w.at ∷ w.size ∷ w.value ∷ []

abbrev pub tid_word : Tid → List ℕ
tid_word t = t.0 ∷ []

abbrev pub hart_words : HartState → List ℕ
hart_words x =
    sparse_words x.file.x ++ (word x.pc ++ (of_list store_words x.buffer ++ (of_option tid_word x.running
    ++ (word x.requests ++ (of_bool x.restart ++ (of_option word x.waits ++ (of_option word x.reserved
    ++ word x.cid)))))))
