-- Kinds of bytes, and where bytes stand in a text.
use Rattle.std.specs.Prelude.{ℕ, Bool, ◌||◌, ◌&&◌, not, List, [], ◌∷◌, Option, length, drop, position, unwrap_or, nat_le, ◌==◌, codes}
use Rattle.std.specs.List.{list_any, zip}
use Rattle.std.specs.Str.{bytes_eq}

-- space, tab, line feed, carriage return
abbrev pub is_blank : ℕ → Bool
is_blank b = b == 32 || b == 9 || b == 10 || b == 13

abbrev pub is_digit : ℕ → Bool
is_digit b = nat_le 48 b && nat_le b 57

-- a letter, `_` or `@`
abbrev pub starts_word : ℕ → Bool
starts_word b = (nat_le 97 b && nat_le b 122) || (nat_le 65 b && nat_le b 90) || b == 95 || b == 64

-- a letter, a digit, `_`, `@` or `'`
abbrev pub is_in_word : ℕ → Bool
is_in_word b = starts_word b || is_digit b || b == 39

-- the bytes that are a mark by themselves: `{` `}` `(` `)` `;` `:` `,` `!`
abbrev pub is_mark : ℕ → Bool
is_mark b = list_any (λ m. m == b) (codes "{}();:,!")

-- the bytes of the full format that are a token by themselves: `[` `]` `=` `+` `*` `~`
abbrev pub is_full_mark : ℕ → Bool
is_full_mark b = list_any (λ m. m == b) (codes "[]=+*~")

abbrev pub full_words : List (List ℕ)
full_words =
    codes "GLOBAL" ∷ codes "PARAMETERS" ∷ codes "DEFINITIONS" ∷ codes "enum" ∷ codes "NOT" ∷ codes "AND" ∷ codes "OR"
    ∷ codes "IMPLIES" ∷ codes "EQUIV" ∷ codes "FORALL" ∷ codes "EXISTS" ∷ codes "SUM" ∷ codes "PROD" ∷ codes "Finite" ∷ []

abbrev pub is_full_word : List ℕ → Bool
is_full_word word = list_any (λ w. bytes_eq w word) full_words

-- how many bytes at the front pass a test
abbrev pub front_len : (ℕ → Bool) → List ℕ → ℕ
front_len test text = unwrap_or (position (λ b. not (test b)) text) (length text)

-- how many bytes stand before the end of the line
abbrev pub line_len : List ℕ → ℕ
line_len text = unwrap_or (position (λ b. b == 10) text) (length text)

-- the first place at which the one byte stands, and the other behind it
abbrev pub pair_place : ℕ → ℕ → List ℕ → Option ℕ
pair_place one other text = position (λ p. p.0 == one && p.1 == other) (zip text (drop 1 text))
