-- The pages of a process as a list of words: which pages have another permission than at a start, and which
-- words of 8 bytes of memory are others. What is as at the start takes no word (own).
use Rattle.std.specs.Prelude.{ℕ, ◌+◌, ◌*◌, List, ◌++◌, Some, unwrap_or}
use Rattle.std.specs.Option.{option_map_or}
use Rattle.mach_types.specs.Bytes.{word_at}
use Rattle.page_map.specs.Map.{Map, break_in, byte_at, free_in, held_in, permission_in}
use Rattle.page_map.specs.declared.listing.TheConstants.{ALL_PAGES}
use Rattle.place_keys.specs.Differences.{differences}
use Rattle.place_keys.specs.Words.{word}

-- the permission of page n with one added, or 0 where it isn't mapped
abbrev pub permission_word : Map → ℕ → ℕ
permission_word m n = option_map_or (λ permission. permission + 1) (permission_in m n) 0

-- word k of a page, of 8 bytes, the lowest byte first
abbrev pub page_word : List ℕ → ℕ → ℕ
page_word bytes k = unwrap_or (word_at (λ i. Some (byte_at i bytes)) (8 * k) 8) 0

-- how many words of 8 bytes a page has, and all pages together
abbrev pub PAGE_WORDS : ℕ
PAGE_WORDS = 512

abbrev pub ALL_WORDS : ℕ
ALL_WORDS = ALL_PAGES * PAGE_WORDS

-- word n of memory at the start, the lowest byte first; 0 where its page isn't mapped
abbrev pub start_word : Map → ℕ → ℕ
start_word start n = unwrap_or (word_at (held_in start) (8 * n) 8) 0

-- word n of memory; where its page isn't mapped, that of the start
abbrev pub memory_word : Map → Map → ℕ → ℕ
memory_word start m n = unwrap_or (word_at (held_in m) (8 * n) 8) (start_word start n)

-- which pages have another permission than at the start
abbrev pub permissions_words : Map → Map → List ℕ
permissions_words start m = differences (permission_word start) (permission_word m) 0 0 ALL_PAGES

-- which words of memory are others than at the start
abbrev pub memory_words : Map → Map → List ℕ
memory_words start m = differences (start_word start) (memory_word start m) 0 0 ALL_WORDS

-- both, how many frames are free, and the break
abbrev pub pages_words : Map → Map → List ℕ
pages_words start m =
    permissions_words start m ++ (memory_words start m ++ (word (free_in m) ++ word (break_in m)))
