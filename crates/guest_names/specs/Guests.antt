-- The guests (own): of each its word, and the sizes that it takes.
use Rattle.std.specs.Prelude.{ℕ, Bool, List, Option, Some, None, if◌then◌else◌, codes, ◌&&◌, nat_le}
use Rattle.std.specs.Str.{bytes_eq}
use Rattle.guest_names.specs.declared.names.Name.{Name}
use Rattle.guest_names.specs.declared.names.Name.TheVariants.{Counter, List as Lists, Pool, Dekker, Signals, Migrate, Ring, Urcu}

-- the word of a guest
abbrev pub word_of : Name → List ℕ
word_of Counter = codes "counter"
word_of Lists = codes "list"
word_of Pool = codes "pool"
word_of Dekker = codes "dekker"
word_of Signals = codes "signals"
word_of Migrate = codes "migrate"
word_of Ring = codes "ring"
word_of Urcu = codes "urcu"

-- the guest that a word names, if one does
abbrev pub name_of : List ℕ → Option Name
name_of word =
    if bytes_eq word (codes "counter") then Some Counter
    else if bytes_eq word (codes "list") then Some Lists
    else if bytes_eq word (codes "pool") then Some Pool
    else if bytes_eq word (codes "dekker") then Some Dekker
    else if bytes_eq word (codes "signals") then Some Signals
    else if bytes_eq word (codes "migrate") then Some Migrate
    else if bytes_eq word (codes "ring") then Some Ring
    else if bytes_eq word (codes "urcu") then Some Urcu
    else None

-- the greatest size that a guest takes
abbrev pub most_size : Name → ℕ
most_size Counter = 10000
most_size Lists = 1000
most_size Pool = 1000
most_size Dekker = 1000
most_size Signals = 1000
most_size Migrate = 63
most_size Ring = 1000
most_size Urcu = 1000

-- whether a guest takes a size: from 1 to the greatest
abbrev pub is_size : Name → ℕ → Bool
is_size name n = nat_le 1 n && nat_le n (most_size name)
