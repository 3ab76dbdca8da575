-- What the reader's inner functions make of texts. No public contract cites these words.
use Rattle.std.specs.Prelude.{◌≡◌, ◌<◌, ◌≤◌, ◌-◌, ◌^◌, ◌∷◌, ℕ, List, Result, Ok, Err, filter, ⊤}
use Rattle.cron_units.specs.Steps.{in_steps}
use Rattle.cron_crontab.specs.Fields.{least}
use Rattle.cron_crontab.specs.Items.{in_items, pieces}
use Rattle.cron_crontab.specs.Crontab.{FieldRead, Five, is_filled}
use Rattle.cron_crontab.specs.Inner.Reading.{AreBits}
use Rattle.cron_kubernetes.specs.Refusals.{Fault, greatest}
use Rattle.cron_kubernetes.specs.Items as items
use Rattle.cron_kubernetes.specs.Items.{Item, all, single, range, item_of}
use Rattle.cron_kubernetes.specs.Kubernetes.{field_of, field_read, five_of, items_from, items_of}
use Rattle.cron_crontab.specs.declared.field.Field.{Field}
use Rattle.cron_crontab.specs.declared.field.Field.TheVariants.{Minute, Hour, DayOfMonth, Month, DayOfWeek}
use Rattle.cron_kubernetes.specs.declared.items.Base.{Base}
use Rattle.cron_kubernetes.specs.declared.items.Base.TheVariants.{All, Single, Range}
use Rattle.cron_kubernetes.specs.declared.items.Numbers.{Numbers}
use Rattle.cron_kubernetes.specs.declared.fields.FiveNumbers.{FiveNumbers}

abbrev pub base_view : Base → items.Base
base_view All = all
base_view (Single n) = single n
base_view (Range n m) = range n m

-- n is one of the field's numbers, by its bounds
abbrev pub IsWithin : Field → ℕ → Type 0
IsWithin f n = (least f ≤ n) × (n ≤ greatest f)

abbrev pub IsBaseWithin : Field → Base → Type 0
IsBaseWithin f All = ⊤
IsBaseWithin f (Single n) = IsWithin f n
IsBaseWithin f (Range n m) = IsWithin f n × IsWithin f m

-- what the code keeps of an item
pub record IsKept (f : Field) (item : Item) (kept : Numbers) : Type 0 where
  pub fit : kept.bits < 2 ^ 64
  pub numbers : AreBits f (in_steps item.numbers) kept.bits
  pub star : kept.star ≡ item.star

-- the text is an item, of which the code keeps this
pub record IsItemRead (f : Field) (text : List ℕ) (kept : Numbers) : Type 0 where
  pub item : Item
  pub is : item_of f text ≡ Ok item
  pub keeps : IsKept f item kept

-- what the code keeps of a field
pub record AreFieldKept (f : Field) (read : FieldRead) (kept : Numbers) : Type 0 where
  pub fit : kept.bits < 2 ^ 64
  pub numbers : AreBits f (in_items read.items) kept.bits
  pub star : kept.star ≡ read.star

-- after a text and its item, if it isn't empty, the code keeps `kept` of the items `done`, and the
-- field goes on with the texts `more`
pub record IsDone (f : Field) (before : Result (List Item) Fault) (more : List (List ℕ)) (kept : Numbers) : Type 0 where
  pub done : List Item
  pub is : before ≡ items_from f done (filter is_filled more)
  pub keeps : AreFieldKept f (field_read done) kept

-- the text, if it isn't empty, is an item, by which the code goes from keeping `old` to keeping `new`
abbrev pub IsAdded : Field → List ℕ → Numbers → Numbers → Type 0
IsAdded f text old new = (done : List Item) (more : List (List ℕ)) → AreFieldKept f (field_read done) old → IsDone f (items_from f done (filter is_filled (text ∷ more))) more new

-- the text isn't empty and is no item, which is the fault of the field
abbrev pub IsItemFault : Field → List ℕ → Fault → Type 0
IsItemFault f text fault = (done : List Item) (more : List (List ℕ)) → items_from f done (filter is_filled (text ∷ more)) ≡ Err fault

-- the items of the field `word` before `rest` are read, and the code keeps `kept` of them
abbrev pub AreReadBefore : Field → List ℕ → List ℕ → Numbers → Type 0
AreReadBefore f word rest kept = IsDone f (items_of f word) (pieces 44 rest) kept

-- the word is a field, of which the code keeps this
pub record AreRead (f : Field) (word : List ℕ) (kept : Numbers) : Type 0 where
  pub done : List Item
  pub is : items_of f word ≡ Ok done
  pub keeps : AreFieldKept f (field_read done) kept

-- the first of some words is a field, of which the code keeps `kept`, and `more` are the words
-- after it
pub record IsFieldRead (f : Field) (ws : List (List ℕ)) (kept : Numbers) (more : List (List ℕ)) : Type 0 where
  pub read : FieldRead
  pub is : field_of f ws ≡ Ok (read, more)
  pub keeps : AreFieldKept f read kept

-- what the code keeps of five fields
pub record AreKept (five : Five) (kept : FiveNumbers) : Type 0 where
  pub minute : AreFieldKept Minute five.minute kept.minute
  pub hour : AreFieldKept Hour five.hour kept.hour
  pub day_of_month : AreFieldKept DayOfMonth five.day_of_month kept.day_of_month
  pub month : AreFieldKept Month five.month kept.month
  pub day_of_week : AreFieldKept DayOfWeek five.day_of_week kept.day_of_week

-- the words are five fields, of which the code keeps this
pub record AreFiveRead (ws : List (List ℕ)) (kept : FiveNumbers) : Type 0 where
  pub five : Five
  pub is : five_of ws ≡ Ok five
  pub keep : AreKept five kept
