-- The lines of a text, and the event in a line.
use Rattle.std.specs.Prelude.{ℕ, zero, suc, List, [], ◌∷◌, ◌++◌, ◌≡◌, ◌<◌, ◌+◌, ◌%◌, ◌^◌, ◌==◌, length, map}
use Rattle.std.specs.List.{All, before_first, after_first, position_or_len}
use Rattle.std.specs.Str.Parse.{IsNumeral, digits_value, without_leading_plus}
use Rattle.columnar_core.specs.Elements.{word_row}
use Rattle.columnar_core.specs.Row.{Row, number, tuple}
use Rattle.columnar_core.specs.Texts.{text_row}
use Rattle.event_log.specs.Levels.{level_row, named_level}
use Rattle.event_log.specs.declared.lines.Event.{Event}

-- the text before the first space, and the text after it
abbrev pub part : List ℕ → List ℕ
part text = before_first (λ b. b == 32) text

abbrev pub after_part : List ℕ → List ℕ
after_part text = after_first (λ b. b == 32) text

-- there is a space
abbrev pub HasPart : List ℕ → Type 0
HasPart text = position_or_len (λ b. b == 32) text < length text

-- the four fields of a line
abbrev pub time_in : List ℕ → List ℕ
time_in line = part line

abbrev pub user_in : List ℕ → List ℕ
user_in line = part (after_part line)

abbrev pub level_in : List ℕ → List ℕ
level_in line = part (after_part (after_part line))

abbrev pub text_in : List ℕ → List ℕ
text_in line = after_part (after_part (after_part line))

-- a number in digits, possibly after a plus, and its value
abbrev pub IsTime : List ℕ → Type 0
IsTime text = IsNumeral 10 (without_leading_plus text) × (digits_value 10 (without_leading_plus text) < 2 ^ 64)

abbrev pub time_value : List ℕ → ℕ
time_value text = digits_value 10 (without_leading_plus text)

-- the line has four fields: a 64-bit number, a user, a level, and a text
pub record IsEvent (line : List ℕ) : Type 0 where
  pub first : HasPart line
  pub second : HasPart (after_part line)
  pub third : HasPart (after_part (after_part line))
  pub time : IsTime (time_in line)
  pub user : 0 < length (user_in line)
  pub level : named_level (level_in line) < 4

-- its row
abbrev pub line_row : List ℕ → Row
line_row line = tuple (word_row (time_value (time_in line))) (tuple (text_row (user_in line)) (tuple (number (named_level (level_in line))) (text_row (text_in line))))

-- the row of an event
abbrev pub event_row : Event → Row
event_row e = tuple (word_row e.time) (tuple (text_row e.user.now) (tuple (level_row e.level) (text_row e.text.now)))

-- the first line of a text, and the text after it
abbrev pub line : List ℕ → List ℕ
line text = before_first (λ b. b == 10) text

abbrev pub after_line : List ℕ → List ℕ
after_line text = after_first (λ b. b == 10) text

-- at most n lines of a text
abbrev pub lines_within : ℕ → List ℕ → List (List ℕ)
lines_within zero text = []
lines_within (suc n) [] = []
lines_within (suc n) (b ∷ bs) = line (b ∷ bs) ∷ lines_within n (after_line (b ∷ bs))

-- all lines; bytes after the last line end are one more line
abbrev pub lines_of : List ℕ → List (List ℕ)
lines_of text = lines_within (length text) text

-- The first lines of a text were processed and give these rows; the other lines are those of the rest.
pub record AreRead (text rest : List ℕ) (rows : List Row) (count : ℕ) : Type 0 where
  pub done : List (List ℕ)
  pub lines : lines_of text ≡ done ++ lines_of rest
  pub events : All IsEvent done
  pub made : rows ≡ map line_row done
  pub counted : count ≡ length done % 2 ^ 64

-- The line with this number, counted from 1, is the first that is not an event. The number wraps at 2^64.
pub record IsRefused (text : List ℕ) (count : ℕ) : Type 0 where
  pub done : List (List ℕ)
  pub refused : List ℕ
  pub later : List (List ℕ)
  pub lines : lines_of text ≡ done ++ refused ∷ later
  pub events : All IsEvent done
  pub none : IsEvent refused → ⊥
  pub counted : count ≡ (length done + 1) % 2 ^ 64
