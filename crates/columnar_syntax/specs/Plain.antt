-- The text of a declaration without what is no part of its type: comments, attributes, visibility, and the contents of
-- quoted texts become blanks, so that all else keeps its position.
use Rattle.std.specs.Prelude.{ℕ, suc, ◌-◌, Bool, true, false, List, [], ◌∷◌, ◌||◌, ◌&&◌, not, cond, drop, codes, nat_eq}
use Rattle.std.specs.List.{starts_with}
use Rattle.columnar_syntax.specs.Tokens.{begins_word, is_word_byte, tokens}
use Rattle.columnar_syntax.specs.declared.plain.Mode.{Mode}
use Rattle.columnar_syntax.specs.declared.plain.Mode.TheVariants.{Code, Word, Ended, One, Two, Slash, Start, Line, Opens, Block, Closes, Attribute, Value, Escape, Quote, Text, TextEscape, Restricted}

-- the bytes begin with these
abbrev pub begin : List ℕ → List ℕ → Bool
begin ns word = starts_with nat_eq ns word

-- what follows `#` is an attribute `columnar(..)`, which chooses a column unless it begins with `derive`
abbrev pub chooses : List ℕ → Bool
chooses ns = begin ns (codes "[columnar(") && not (begin ns (codes "[columnar(derive("))

-- `#[`, but not that of an attribute which chooses a column
abbrev pub begins_attribute : ℕ → List ℕ → Bool
begins_attribute n ns = nat_eq n 35 && (begin ns (codes "[") && not (chooses ns))

-- `pub(crate)`, `pub(self)`, `pub(super)` or `pub(in ..)`
abbrev pub begins_restricted : ℕ → List ℕ → Bool
begins_restricted n ns = nat_eq n 112 && ((begin ns (codes "ub(crate)") || begin ns (codes "ub(self)")) || (begin ns (codes "ub(super)") || begin ns (codes "ub(in ")))

-- the word `pub`
abbrev pub begins_public : ℕ → List ℕ → Bool
begins_public n ns = nat_eq n 112 && (begin ns (codes "ub") && not (begins_word (drop 2 ns)))

-- what a byte begins that follows no word, with the bytes after it
abbrev pub begun : ℕ → List ℕ → Mode
begun n ns =
    cond (nat_eq n 47 && begin ns (codes "/")) Slash
    (cond (nat_eq n 47 && begin ns (codes "*")) (Opens 0)
    (cond (begins_attribute n ns) Attribute
    (cond (begins_restricted n ns) Restricted
    (cond (begins_public n ns) Two
    (cond (nat_eq n 39 && begin ns (codes "\"'")) Two
    (cond (nat_eq n 34) Quote
    (cond (is_word_byte n) Word Code)))))))

-- inside a quoted text
abbrev pub quoted : ℕ → Mode
quoted n = cond (nat_eq n 34) Code (cond (nat_eq n 92) TextEscape Text)

-- a line comment may begin with an attribute that chooses a column, which is part of the type
abbrev pub commented : ℕ → List ℕ → Mode
commented n ns = cond (nat_eq n 10 || (nat_eq n 35 && chooses ns)) Code (cond (nat_eq n 32) Start Line)

-- the part of a text in which a byte is, from that of the byte before it
abbrev pub next : Mode → ℕ → List ℕ → Mode
next Code n ns = begun n ns
next Word n ns = cond (is_word_byte n) Word (begun n ns)
next Ended n ns = begun n ns
next One n ns = Ended
next Two n ns = One
next Slash n ns = Start
next Start n ns = commented n ns
next Line n ns = cond (nat_eq n 10) Code Line
next (Opens d) n ns = Block (suc d)
next (Block d) n ns = cond (nat_eq n 42 && begin ns (codes "/")) (Closes d) (cond (nat_eq n 47 && begin ns (codes "*")) (Opens d) (Block d))
next (Closes d) n ns = cond (nat_eq d 1) Ended (Block (d - 1))
next Attribute n ns = cond (nat_eq n 93) Ended (cond (nat_eq n 34) Value Attribute)
next Value n ns = cond (nat_eq n 34) Attribute (cond (nat_eq n 92) Escape Value)
next Escape n ns = Value
next Quote n ns = quoted n
next Text n ns = quoted n
next TextEscape n ns = Text
next Restricted n ns = cond (nat_eq n 41) Ended Restricted

-- bytes there are part of the type
abbrev pub shows : Mode → Bool
shows Code = true
shows Word = true
shows Quote = true
shows m = false

-- what began there has no end yet
abbrev pub is_open : Mode → Bool
is_open Code = false
is_open Word = false
is_open Ended = false
is_open Slash = false
is_open Start = false
is_open Line = false
is_open m = true

-- the levels of a comment in comments
abbrev pub level : Mode → ℕ
level (Opens d) = d
level (Block d) = d
level (Closes d) = d
level m = 0

abbrev pub plain_after : Mode → List ℕ → List ℕ
plain_after m [] = []
plain_after m (n ∷ ns) = cond (shows (next m n ns)) n 32 ∷ plain_after (next m n ns) ns

abbrev pub last_mode : Mode → List ℕ → Mode
last_mode m [] = m
last_mode m (n ∷ ns) = last_mode (next m n ns) ns

-- the text without what is no part of its type
abbrev pub plain : List ℕ → List ℕ
plain text = plain_after Code text

-- each comment between marks, attribute and quoted text has its end
abbrev pub ends_well : List ℕ → Bool
ends_well text = not (is_open (last_mode Code text))

-- The tokens of the text of a type as it stands in a source file; none if something in it has no end.
abbrev pub type_tokens : List ℕ → List (List ℕ)
type_tokens text = cond (ends_well text) (tokens (plain text)) []
