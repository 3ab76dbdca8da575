-- What the reader's inner functions make of texts. No public contract cites these words.
use Rattle.std.specs.Prelude.{◌≡◌, ◌<◌, ◌≤◌, ◌-◌, ℕ, Bool, true, List, Result, Ok, Err, Some, length}
use Rattle.std.specs.Char.{is_ascii_alphabetic, is_ascii_alphanumeric, is_ascii_digit}
use Rattle.std.specs.List.{list_all}
use Rattle.std.specs.Str.Parse.{digits_value}
use Rattle.cron_bits.specs.Words.{has_bit}
use Rattle.cron_units.specs.Steps.{Progression, in_steps}
use Rattle.cron_crontab.specs.Crontab.{FieldRead, Five, field_of, five_of, items_of, items_from}
use Rattle.cron_crontab.specs.Items as items
use Rattle.cron_crontab.specs.Items.{in_items, item_of, number_of, pieces, single, range}
use Rattle.cron_crontab.specs.Fields.{least, greatest, names}
use Rattle.cron_units.specs.Units.{named_in}
use Rattle.cron_crontab.specs.Refusals.{Reason, long_number}
use Rattle.cron_crontab.specs.declared.field.Field.{Field}
use Rattle.cron_crontab.specs.declared.field.Field.TheVariants.{Minute, Hour, DayOfMonth, Month, DayOfWeek}
use Rattle.cron_crontab.specs.declared.numbers.Spelling.{Spelling}
use Rattle.cron_crontab.specs.declared.numbers.Spelling.TheVariants.{Number, Long, Other}
use Rattle.cron_crontab.specs.declared.items.Base.{Base}
use Rattle.cron_crontab.specs.declared.items.Base.TheVariants.{Single, Range}
use Rattle.cron_crontab.specs.declared.fields.FieldNumbers.{FieldNumbers}
use Rattle.cron_crontab.specs.declared.fields.FiveNumbers.{FiveNumbers}

abbrev pub base_view : Base → items.Base
base_view (Single n) = single n
base_view (Range n m) = range n m

-- bit i of a word is 1 exactly if the field's least number plus i passes a test
abbrev pub AreBits : Field → (ℕ → Bool) → ℕ → Type 0
AreBits f test bits = (x : ℕ) → least f ≤ x → has_bit bits (x - least f) ≡ test x

-- the text is an item, and these are its numbers
pub record IsItemRead (f : Field) (text : List ℕ) (bits : ℕ) : Type 0 where
  pub item : Progression
  pub is : item_of f text ≡ Ok item
  pub numbers : AreBits f (in_steps item) bits

-- the items of the field `word` before `rest` are read, and `bits` are their numbers
pub record AreReadBefore (f : Field) (word rest : List ℕ) (bits : ℕ) : Type 0 where
  pub done : List Progression
  pub before : items_of f word ≡ items_from f done (pieces 44 rest)
  pub numbers : AreBits f (in_items done) bits

-- the word is a field, and these are its numbers
pub record AreRead (f : Field) (word : List ℕ) (bits : ℕ) : Type 0 where
  pub done : List Progression
  pub is : items_of f word ≡ Ok done
  pub numbers : AreBits f (in_items done) bits

-- what the code keeps of a field
pub record IsKept (f : Field) (read : FieldRead) (kept : FieldNumbers) : Type 0 where
  pub numbers : AreBits f (in_items read.items) kept.numbers
  pub star : kept.star ≡ read.star

-- the first of some words is a field, of which the code keeps `kept`, and `more` are the words
-- after it
pub record IsFieldRead (f : Field) (ws : List (List ℕ)) (kept : FieldNumbers) (more : List (List ℕ)) : Type 0 where
  pub read : FieldRead
  pub is : field_of f ws ≡ Ok (read, more)
  pub keeps : IsKept f read kept

-- what the code keeps of five fields
pub record AreKept (five : Five) (kept : FiveNumbers) : Type 0 where
  pub minute : IsKept Minute five.minute kept.minute
  pub hour : IsKept Hour five.hour kept.hour
  pub day_of_month : IsKept DayOfMonth five.day_of_month kept.day_of_month
  pub month : IsKept Month five.month kept.month
  pub day_of_week : IsKept DayOfWeek five.day_of_week kept.day_of_week

-- the words are five fields, of which the code keeps this
pub record AreFiveRead (ws : List (List ℕ)) (kept : FiveNumbers) : Type 0 where
  pub five : Five
  pub is : five_of ws ≡ Ok five
  pub keep : AreKept five kept

-- the number that digits spell; the fault of more than nine digits; or else `other`
abbrev pub spelling_view : Result ℕ Reason → Spelling → Result ℕ Reason
spelling_view other (Number n) = Ok n
spelling_view other Long = Err long_number
spelling_view other Other = other

-- n is one of the field's numbers, by its bounds
abbrev pub IsWithin : Field → ℕ → Type 0
IsWithin f n = (least f ≤ n) × (n ≤ greatest f)

abbrev pub IsBaseWithin : Field → Base → Type 0
IsBaseWithin f (Single n) = IsWithin f n
IsBaseWithin f (Range n m) = IsWithin f n × IsWithin f m

-- the text is digits alone, nine at most, and this is their value
pub record AreDigits (text : List ℕ) (value : ℕ) : Type 0 where
  pub some : 0 < length text
  pub few : length text ≤ 9
  pub digits : list_all is_ascii_digit text ≡ true
  pub is : value ≡ digits_value 10 text

-- the text is three letters that name a number of the field
pub record IsNamed (f : Field) (text : List ℕ) (n : ℕ) : Type 0 where
  pub three : length text ≡ 3
  pub letters : list_all is_ascii_alphabetic text ≡ true
  pub is : named_in (names f) text ≡ Some n

-- the text is letters and digits that are a number of the field
pub record IsNumber (f : Field) (text : List ℕ) (n : ℕ) : Type 0 where
  pub some : 0 < length text
  pub word : list_all is_ascii_alphanumeric text ≡ true
  pub is : number_of f text ≡ Ok n
  pub within : IsWithin f n
